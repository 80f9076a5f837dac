-- Small modules whose texts the checker computes.
use Rattle.std.proofs.Common.{◌≡◌, ◌++◌, ℕ, List, [], ◌∷◌, codes, Option, Some, None, refl}
use Rattle.std.specs.Fmt.{digits}
use Rattle.mlir_tree.specs.declared.sign.Sign.TheVariants.{Signless}
use Rattle.mlir_tree.specs.declared.row.Home.{Home}
use Rattle.mlir_tree.specs.declared.row.Row.{Row}
use Rattle.mlir_tree.specs.declared.value.Val.{Val}
use Rattle.mlir_tree.specs.declared.value.Val.TheVariants.{Res, Arg}
use Rattle.mlir_tree.specs.Tree.{Ty, int, func, no_tys, ty_then, unit, str, of_ty}
use Rattle.mlir_print.specs.Text.{ty_text, attr_text, string_text, name_text}
use Rattle.mlir_print.specs.Numbering.{result_number, argument_number}
use Rattle.mlir_print.specs.ModuleText.{results_text, value_text, value_type, function_text, properties_text, attributes_text, arguments_text, label_text, region_text, region_texts, regions_text, head_text, tail_text, row_text, rows_in, module_text}

abbrev pub i32 : Ty
i32 = int Signless 32

abbrev pub within : ℕ → ℕ → Option Home
within d g = Some (record { row = d; region = g })

-- an operation without attributes
abbrev pub op : ℕ → Option Home → List ℕ → List Val → List Ty → List (List Ty) → Row
op id home name operands results regions =
    record { id = id; home = home; name = name; operands = operands; results = results; props = []; attrs = []; regions = regions }

abbrev pub root : Row
root = op 0 None (codes "builtin.module") [] [] ([] ∷ [])

empty_module : module_text (root ∷ []) ≡ codes "\"builtin.module\"() ({}) : () -> ()\n"
unfolding module_text row_text head_text tail_text results_text string_text properties_text attributes_text regions_text region_texts region_text label_text rows_in function_text ty_text digits
empty_module = refl

-- results by place, where there is more than one
result_group : module_text (
    root
    ∷ op 1 (within 0 0) (codes "t.src") [] (i32 ∷ i32 ∷ []) []
    ∷ op 2 (within 0 0) (codes "t.sub") (Res 1 0 ∷ Res 1 1 ∷ []) (i32 ∷ []) []
    ∷ op 3 (within 0 0) (codes "t.use") (Res 2 0 ∷ []) [] []
    ∷ []
    )
    ≡ codes "\"builtin.module\"() ({\n"
    ++ (codes "  %0:2 = \"t.src\"() : () -> (i32, i32)\n"
    ++ (codes "  %1 = \"t.sub\"(%0#0, %0#1) : (i32, i32) -> i32\n"
    ++ (codes "  \"t.use\"(%1) : (i32) -> ()\n"
    ++ codes "}) : () -> ()\n")))
unfolding module_text row_text head_text tail_text results_text string_text properties_text attributes_text regions_text region_texts region_text label_text rows_in function_text value_text value_type result_number ty_text digits
result_group = refl

-- arguments of two regions, one inside the other, and an empty region beside one with rows
nested_regions : module_text (
    root
    ∷ op 4 (within 0 0) (codes "t.loop") [] [] ((i32 ∷ i32 ∷ []) ∷ [] ∷ [])
    ∷ op 7 (within 4 0) (codes "t.in") (Arg 4 0 1 ∷ []) (i32 ∷ []) ((i32 ∷ []) ∷ [])
    ∷ op 5 (within 7 0) (codes "t.use") (Arg 7 0 0 ∷ Arg 4 0 0 ∷ []) [] []
    ∷ op 6 (within 4 0) (codes "t.end") (Res 7 0 ∷ []) [] []
    ∷ []
    )
    ≡ codes "\"builtin.module\"() ({\n"
    ++ (codes "  \"t.loop\"() ({\n"
    ++ (codes "  ^bb0(%arg0: i32, %arg1: i32):\n"
    ++ (codes "    %0 = \"t.in\"(%arg1) ({\n"
    ++ (codes "    ^bb0(%arg2: i32):\n"
    ++ (codes "      \"t.use\"(%arg2, %arg0) : (i32, i32) -> ()\n"
    ++ (codes "    }) : (i32) -> i32\n"
    ++ (codes "    \"t.end\"(%0) : (i32) -> ()\n"
    ++ (codes "  }, {}) : () -> ()\n"
    ++ codes "}) : () -> ()\n"))))))))
unfolding module_text row_text head_text tail_text results_text string_text properties_text attributes_text regions_text region_texts region_text label_text arguments_text rows_in function_text value_text value_type result_number argument_number ty_text digits
nested_regions = refl

-- properties before the regions, attributes behind them, and a function type as the one result
dictionaries : module_text (
    root
    ∷ record (op 1 (within 0 0) (codes "t.f") [] (func no_tys (ty_then i32 no_tys) ∷ []) ([] ∷ [])) {
      props = (codes "a", of_ty i32) ∷ (codes "b", unit) ∷ [];
      attrs = (codes "c d", str (codes "x") None) ∷ [];
    }
    ∷ []
    )
    ≡ codes "\"builtin.module\"() ({\n"
    ++ (codes "  %0 = \"t.f\"() <{a = i32, b}> ({}) {\"c d\" = \"x\"} : () -> (() -> i32)\n"
    ++ codes "}) : () -> ()\n")
unfolding module_text row_text head_text tail_text results_text string_text name_text properties_text attributes_text regions_text region_texts region_text label_text rows_in function_text result_number ty_text attr_text digits
dictionaries = refl
