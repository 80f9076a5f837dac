-- The text of a module in the generic form (MLIR Language Reference, "Operations", "Blocks" and "Regions").
use Rattle.std.specs.Prelude.{ℕ, zero, suc, ◌*◌, Bool, false, ◌&&◌, nat_lt, ◌==◌, if◌then◌else◌, List, [], ◌∷◌, ◌++◌, length, drop, replicate, codes, decimal, slice_get, Option}
use Rattle.std.specs.Option.{option_map_or, option_and_then}
use Rattle.mlir_tree.specs.declared.row.Home.{Home}
use Rattle.mlir_tree.specs.declared.row.Row.{Row}
use Rattle.mlir_tree.specs.declared.value.Val.{Val}
use Rattle.mlir_tree.specs.declared.value.Val.TheVariants.{Res, Arg}
use Rattle.mlir_tree.specs.Tree.{Ty, tys, Attr, entries}
use Rattle.mlir_tree.specs.Module.{row_of, home_eq}
use Rattle.mlir_print.specs.Text.{string_text, ty_text, tys_text, stands_bare, results_by, entries_text}
use Rattle.mlir_print.specs.Numbering.{has_results, result_number, argument_number}

-- ---- parts of a row. The first argument of each is the whole module, by which values are numbered and have types.

-- two spaces a depth
abbrev pub indent : ℕ → List ℕ
indent depth = replicate (2 * depth) 32

-- a comma before each member but the first
abbrev pub separator : ℕ → List ℕ
separator zero = []
separator (suc k) = codes ", "

-- the members' texts with commas between, the first of them at place k
abbrev pub listed : {X : Type 0} → (X → List ℕ) → ℕ → List X → List ℕ
listed text k [] = []
listed text k (x ∷ xs) = separator k ++ (text x ++ listed text (suc k) xs)

-- more than one result
abbrev pub is_group : Row → Bool
is_group r = nat_lt 1 (length r.results)

abbrev pub group_text : Row → List ℕ
group_text r = if is_group r then codes ":" ++ decimal (length r.results) else []

-- before an operation: `%n = `, and `%n:k = ` for a group of k results
unfoldable pub results_text : List Row → Row → List ℕ
results_text all r = if has_results r then codes "%" ++ (decimal (result_number all r.id) ++ (group_text r ++ codes " = ")) else []

-- the place of a result that is one of a group
abbrev pub place_text : List Row → ℕ → ℕ → List ℕ
place_text all d k = if option_map_or is_group (row_of all d) false then codes "#" ++ decimal k else []

-- a value at its use
unfoldable pub value_text : List Row → Val → List ℕ
value_text all (Res d k) = codes "%" ++ (decimal (result_number all d) ++ place_text all d k)
value_text all (Arg d g k) = codes "%arg" ++ decimal (argument_number all d g k)

-- the type of argument k of region g of a row
abbrev pub argument_type : ℕ → ℕ → Row → Option Ty
argument_type g k r = option_and_then (λ arguments. slice_get arguments k) (slice_get r.regions g)

-- the type of a value, where the value exists
unfoldable pub value_type : List Row → Val → Option Ty
value_type all (Res d k) = option_and_then (λ r. slice_get r.results k) (row_of all d)
value_type all (Arg d g k) = option_and_then (argument_type g k) (row_of all d)

abbrev pub value_type_text : List Row → Val → List ℕ
value_type_text all v = option_map_or ty_text (value_type all v) []

-- the types of the operands, and those of the results as behind the arrow of a function type
unfoldable pub function_text : List Row → Row → List ℕ
function_text all r =
    codes "(" ++ (listed (value_type_text all) 0 r.operands ++ (codes ") -> " ++ results_by (stands_bare (tys r.results)) (tys_text (tys r.results))))

unfoldable pub properties_text : List (List ℕ × Attr) → List ℕ
properties_text [] = []
properties_text (e ∷ more) = codes " <{" ++ (entries_text (entries (e ∷ more)) ++ codes "}>")

unfoldable pub attributes_text : List (List ℕ × Attr) → List ℕ
attributes_text [] = []
attributes_text (e ∷ more) = codes " {" ++ (entries_text (entries (e ∷ more)) ++ codes "}")

-- ---- regions

-- an argument of this number and type in a block's label
abbrev pub argument_text : ℕ → Ty → List ℕ
argument_text n t = codes "%arg" ++ (decimal n ++ (codes ": " ++ ty_text t))

-- the arguments of region g of row d from place k on
unfoldable pub arguments_text : List Row → ℕ → ℕ → ℕ → List Ty → List ℕ
arguments_text all d g k [] = []
arguments_text all d g k (t ∷ ts) = separator k ++ (argument_text (argument_number all d g k) t ++ arguments_text all d g (suc k) ts)

-- the line of a block's label, which stands where there are arguments
unfoldable pub label_text : List Row → ℕ → ℕ → ℕ → List Ty → List ℕ
label_text all depth d g [] = []
label_text all depth d g (t ∷ ts) = indent depth ++ (codes "^bb0(" ++ (arguments_text all d g 0 (t ∷ ts) ++ codes "):\n"))

abbrev pub is_empty : {X : Type 0} → List X → Bool
is_empty xs = length xs == 0

-- region g of row d with these arguments, around the text of its rows, which is empty only where there are none
unfoldable pub region_text : List Row → ℕ → ℕ → ℕ → List Ty → List ℕ → List ℕ
region_text all depth d g arguments inside =
    if is_empty arguments && is_empty inside then codes "{}"
    else codes "{\n" ++ (label_text all depth d g arguments ++ (inside ++ (indent depth ++ codes "}")))

-- the regions of row d from place g on, around the texts of their rows
unfoldable pub region_texts : List Row → ℕ → ℕ → (ℕ → List ℕ) → ℕ → List (List Ty) → List ℕ
region_texts all depth d inside g [] = []
region_texts all depth d inside g (arguments ∷ more) =
    separator g ++ (region_text all depth d g arguments (inside g) ++ region_texts all depth d inside (suc g) more)

unfoldable pub regions_text : List Row → ℕ → Row → (ℕ → List ℕ) → List ℕ
regions_text all depth r inside = if is_empty r.regions then [] else codes " (" ++ (region_texts all depth r.id inside 0 r.regions ++ codes ")")

-- ---- rows

-- before the regions
unfoldable pub head_text : List Row → ℕ → Row → List ℕ
head_text all depth r =
    indent depth ++ (results_text all r ++ (string_text r.name ++ (codes "(" ++ (listed (value_text all) 0 r.operands ++ (codes ")" ++ properties_text r.props)))))

-- behind the regions
unfoldable pub tail_text : List Row → Row → List ℕ
tail_text all r = attributes_text r.attrs ++ (codes " : " ++ (function_text all r ++ codes "\n"))

-- a row at this depth, around the texts of the rows in its regions
unfoldable pub row_text : List Row → ℕ → Row → (ℕ → List ℕ) → List ℕ
row_text all depth r inside = head_text all depth r ++ (regions_text all depth r inside ++ tail_text all r)

-- Whether the row stands in this region.
abbrev pub stands_in : Home → Row → Bool
stands_in h r = option_map_or (home_eq h) r.home false

abbrev pub region_of : Row → ℕ → Home
region_of r g = record { row = r.id; region = g }

-- the rows of the list that stand in this region, one behind another, each around those in its own regions, which stand behind it
unfoldable pub rows_in : List Row → List Row → ℕ → Home → List ℕ
rows_in all [] depth h = []
rows_in all (r ∷ rows) depth h = (if stands_in h r then row_text all depth r (λ g. rows_in all rows (suc depth) (region_of r g)) else []) ++ rows_in all rows depth h

-- the rows in region g of row r, among those from place `from` on
abbrev pub inside_text : List Row → ℕ → ℕ → Row → ℕ → List ℕ
inside_text all from depth r g = rows_in all (drop from all) depth (region_of r g)

-- the module, which is the first row, around the others
unfoldable pub module_text : List Row → List ℕ
module_text [] = []
module_text (r ∷ rows) = row_text (r ∷ rows) 0 r (inside_text (r ∷ rows) 1 1 r)
