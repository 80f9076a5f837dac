-- The text of a tree of rows is UTF-8.
use Rattle.std.proofs.Common.{ℕ, zero, suc, ◌*◌, ◌<◌, ◌^◌, Bool, true, false, if◌then◌else◌, List, [], ◌∷◌, ◌++◌, length, refl, ap, sym, subst, arith}
use Rattle.std.specs.Prelude.{codes, decimal, IsUtf8, replicate, ◌&&◌}
use Rattle.std.specs.Option.{option_map_or}
use Rattle.std.proofs.lemmas.Str.{IsUtf8-from_ascii}
use Rattle.std.proofs.lemmas.Fmt.{IsAscii-decimal_wide}
use Rattle.mlir_tree.specs.declared.row.Row.{Row}
use Rattle.mlir_tree.specs.declared.value.Val.{Val}
use Rattle.mlir_tree.specs.declared.value.Val.TheVariants.{Res, Arg}
use Rattle.mlir_tree.specs.Tree.{Ty, tys, Attr, entries}
use Rattle.mlir_tree.specs.Module.{row_of}
use Rattle.mlir_print.specs.Text.{ty_text, tys_text, stands_bare}
use Rattle.mlir_print.specs.Numbering.{has_results, result_number, argument_number}
use Rattle.mlir_print.specs.ModuleText.{indent, separator, is_group, group_text, results_text, place_text, value_text, value_type_text, listed, function_text, properties_text, attributes_text, arguments_text, label_text, is_empty, region_text, head_text, tail_text}
use Rattle.round_trip.specs.Printable.{ArePrintableEntries}
use Rattle.round_trip.proofs.Parts.{Facts}
use Rattle.round_trip.proofs.Uses.{IsUsable}
use Rattle.round_trip.proofs.Results.{HasType}
use Rattle.round_trip.proofs.Utf8.{AreAscii, ascii, written, both, string_utf8, results_utf8, ty_utf8, tys_utf8, entries_utf8}
use Rattle.round_trip.proofs.RowTree.{Tree, node, Branches, no_branches, branch_then, Trees, no_trees, tree_then, in_parens, tree_text, branches_text, trees_text, ArePropertiesReady, IsRowReady, IsArgumentReady, AreArgumentsReady, IsReady, AreRegionsReady, AreReady}

indent_utf8 : (depth : ℕ) → IsUtf8 (indent depth)
indent_utf8 depth = ascii (indent depth) (all (2 * depth))
  where
    all : (n : ℕ) → AreAscii (replicate n 32)
    all zero = tt
    all (suc n) = (omega arith, all n)

separator_utf8 : (i : ℕ) → IsUtf8 (separator i)
separator_utf8 zero = written [] refl
separator_utf8 (suc i) = written (codes ", ") refl

decimal_utf8 : (n : ℕ) → n < 10 ^ 64 → IsUtf8 (decimal n)
decimal_utf8 n h = IsUtf8-from_ascii (decimal n) (IsAscii-decimal_wide n h)

listed_utf8 : {X : Type 0} (text : X → List ℕ) (Fact : ℕ → X → Type 0) → ((i : ℕ) (x : X) → Fact i x → IsUtf8 (text x)) → (i : ℕ) (xs : List X) → Facts Fact i xs → IsUtf8 (listed text i xs)
listed_utf8 text Fact one i [] h = written [] refl
listed_utf8 text Fact one i (x ∷ xs) h = both (separator_utf8 i) (both (one i x h.0) (listed_utf8 text Fact one (suc i) xs h.1))

place_utf8 : (all : List Row) (d i : ℕ) → i < 10 ^ 64 → IsUtf8 (place_text all d i)
place_utf8 all d i h = by_test (option_map_or is_group (row_of all d) false)
  where
    by_test : (b : Bool) → IsUtf8 (if b then codes "#" ++ decimal i else [])
    by_test true = both (written (codes "#") refl) (decimal_utf8 i h)
    by_test false = written [] refl

value_utf8 : (all : List Row) (v : Val) → IsUsable all v → IsUtf8 (value_text all v)
unfolding value_text
value_utf8 all (Res d i) h = both (written (codes "%") refl) (both (decimal_utf8 (result_number all d) h.0) (place_utf8 all d i (omega (arith, h.1))))
value_utf8 all (Arg d g i) h = both (written (codes "%arg") refl) (decimal_utf8 (argument_number all d g i) h)

type_utf8 : (all : List Row) (room : ℕ) (v : Val) → HasType all room v → IsUtf8 (value_type_text all v)
type_utf8 all room v h = subst IsUtf8 (sym (ap (λ o. option_map_or ty_text o []) h.is)) (ty_utf8 room h.type h.printable)

group_utf8 : (r : Row) → length r.results < 10 ^ 64 → IsUtf8 (group_text r)
group_utf8 r h = by_test (is_group r)
  where
    by_test : (b : Bool) → IsUtf8 (if b then codes ":" ++ decimal (length r.results) else [])
    by_test true = both (written (codes ":") refl) (decimal_utf8 (length r.results) h)
    by_test false = written [] refl

result_names_utf8 : (all : List Row) (r : Row) → result_number all r.id < 10 ^ 64 → length r.results < 10 ^ 64 → IsUtf8 (results_text all r)
unfolding results_text
result_names_utf8 all r small few = by_test (has_results r)
  where
    by_test : (b : Bool) → IsUtf8 (if b then codes "%" ++ (decimal (result_number all r.id) ++ (group_text r ++ codes " = ")) else [])
    by_test true = both (written (codes "%") refl) (both (decimal_utf8 (result_number all r.id) small) (both (group_utf8 r few) (written (codes " = ") refl)))
    by_test false = written [] refl

properties_utf8 : (room : ℕ) (es : List (List ℕ × Attr)) → ArePropertiesReady room es → IsUtf8 (properties_text es)
unfolding properties_text
properties_utf8 room [] h = written [] refl
properties_utf8 room (e ∷ es) (less, same, h) = both (written (codes " <{") refl) (both (entries_utf8 less (entries (e ∷ es)) h) (written (codes "}>") refl))

attributes_utf8 : (room : ℕ) (es : List (List ℕ × Attr)) → ArePrintableEntries room (entries es) → IsUtf8 (attributes_text es)
unfolding attributes_text
attributes_utf8 room [] h = written [] refl
attributes_utf8 room (e ∷ es) h = both (written (codes " {") refl) (both (entries_utf8 room (entries (e ∷ es)) h) (written (codes "}") refl))

function_utf8 : (all : List Row) (room : ℕ) (r : Row) → IsRowReady all room r → IsUtf8 (function_text all r)
unfolding function_text
function_utf8 all room r h =
    both (written (codes "(") refl) (both (listed_utf8 (value_type_text all) (λ i v. HasType all room v) (λ i v t. type_utf8 all room v t) 0 r.operands h.typed)
    (both (written (codes ") -> ") refl) (results_utf8 (stands_bare (tys r.results)) (tys_text (tys r.results)) (tys_utf8 (if stands_bare (tys r.results) then suc room else room) (tys r.results) h.results))))

head_utf8 : (all : List Row) (depth room : ℕ) (r : Row) → IsRowReady all room r → IsUtf8 (head_text all depth r)
unfolding head_text
head_utf8 all depth room r h =
    both (indent_utf8 depth) (both (result_names_utf8 all r h.number (omega (arith, h.few_results))) (both (string_utf8 r.name h.name) (both (written (codes "(") refl)
    (both (listed_utf8 (value_text all) (λ i v. IsUsable all v) (λ i v u. value_utf8 all v u) 0 r.operands h.usable) (both (written (codes ")") refl) (properties_utf8 room r.props h.properties))))))

tail_utf8 : (all : List Row) (room : ℕ) (r : Row) → IsRowReady all room r → IsUtf8 (tail_text all r)
unfolding tail_text
tail_utf8 all room r h = both (attributes_utf8 room r.attrs h.attributes) (both (written (codes " : ") refl) (both (function_utf8 all room r h) (written (codes "\n") refl)))

arguments_utf8 : (all : List Row) (room d g i : ℕ) (ts : List Ty) → Facts (IsArgumentReady all room d g) i ts → IsUtf8 (arguments_text all d g i ts)
unfolding arguments_text
arguments_utf8 all room d g i [] h = written [] refl
arguments_utf8 all room d g i (t ∷ ts) h =
    both (separator_utf8 i) (both (both (written (codes "%arg") refl) (both (decimal_utf8 (argument_number all d g i) h.0.0) (both (written (codes ": ") refl) (ty_utf8 room t h.0.1)))) (arguments_utf8 all room d g (suc i) ts h.1))

label_utf8 : (all : List Row) (depth room d g : ℕ) (ts : List Ty) → AreArgumentsReady all room d g ts → IsUtf8 (label_text all depth d g ts)
unfolding label_text
label_utf8 all depth room d g [] h = written [] refl
label_utf8 all depth room d g (t ∷ ts) (less, same, few, h) = both (indent_utf8 depth) (both (written (codes "^bb0(") refl) (both (arguments_utf8 all less d g 0 (t ∷ ts) h) (written (codes "):\n") refl)))

region_utf8 : (all : List Row) (depth room d g : ℕ) (ts : List Ty) (inside : List ℕ) → AreArgumentsReady all room d g ts → IsUtf8 inside → IsUtf8 (region_text all depth d g ts inside)
unfolding region_text
region_utf8 all depth room d g ts inside h is = by_test (is_empty ts && is_empty inside)
  where
    by_test : (b : Bool) → IsUtf8 (if b then codes "{}" else codes "{\n" ++ (label_text all depth d g ts ++ (inside ++ (indent depth ++ codes "}"))))
    by_test true = written (codes "{}") refl
    by_test false = both (written (codes "{\n") refl) (both (label_utf8 all depth room d g ts h) (both is (both (indent_utf8 depth) (written (codes "}") refl))))

parens_utf8 : (bs : Branches) (text : List ℕ) → IsUtf8 text → IsUtf8 (in_parens bs text)
parens_utf8 no_branches text h = written [] refl
parens_utf8 (branch_then args ts bs) text h = both (written (codes " (") refl) (both h (written (codes ")") refl))

mutual
  pub tree_utf8 : (all : List Row) (depth room : ℕ) (t : Tree) → IsReady all room t → IsUtf8 (tree_text all depth t)
  tree_utf8 all depth room (node r bs) (less, same, ready, args, inside) =
      both (head_utf8 all depth less r ready) (both (parens_utf8 bs (branches_text all depth r.id 0 bs) (branches_utf8 all depth less r.id 0 bs inside)) (tail_utf8 all less r ready))

  branches_utf8 : (all : List Row) (depth room d g : ℕ) (bs : Branches) → AreRegionsReady all room d g bs → IsUtf8 (branches_text all depth d g bs)
  branches_utf8 all depth room d g no_branches h = written [] refl
  branches_utf8 all depth room d g (branch_then args ts bs) (less, same, args_ready, rows, more) =
      both (separator_utf8 g) (both (region_utf8 all depth less d g args (trees_text all (suc depth) ts) args_ready (trees_utf8 all (suc depth) less ts rows)) (branches_utf8 all depth room d (suc g) bs more))

  trees_utf8 : (all : List Row) (depth room : ℕ) (ts : Trees) → AreReady all room ts → IsUtf8 (trees_text all depth ts)
  trees_utf8 all depth room no_trees h = written [] refl
  trees_utf8 all depth room (tree_then t ts) h = both (tree_utf8 all depth room t h.0) (trees_utf8 all depth room ts h.1)
