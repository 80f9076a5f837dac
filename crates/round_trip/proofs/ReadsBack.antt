-- A printable module reads back as its rows with the numbers of their places.
use Rattle.std.proofs.Common.{◌≡◌, ℕ, suc, true, cond, ◌&&◌, List, [], ◌∷◌, ◌++◌, length, map, refl, ap, sym, subst, ◌∙◌, arith, append-nil, Option, None, Ok, eq-eqb}
use Rattle.std.specs.Prelude.{◌==◌, filter_map, codes}
use Rattle.std.specs.Option.{option_map}
use Rattle.std.specs.Str.{bytes_eq}
use Rattle.std.proofs.lemmas.Slice.Eq.{bytes_eq-Decides}
use Rattle.mlir_tree.specs.declared.row.Home.{Home}
use Rattle.mlir_tree.specs.declared.row.Row.{Row}
use Rattle.mlir_tree.specs.declared.rows.Rows.{Rows}
use Rattle.mlir_tree.specs.Tree.{Ty}
use Rattle.mlir_tree.specs.WellFormed.{AreDistinct, AreNested, IsModuleRow, BeginsWithModule, HasVisibleOperands}
use Rattle.mlir_parse.specs.declared.syn.SynArg.{SynArg}
use Rattle.mlir_parse.specs.SynTree.{Head, Operation, operation, Regions, no_regions, region_then}
use Rattle.mlir_resolve.specs.Laid.{Laid, bare_rows, argument_types, laid_operation, is_module_shape, is_module, module_of, implied_module}
use Rattle.mlir_resolve.specs.Resolving.{names_at, used_value, operation_fault, resolved_row, resolved_rows, rows_or, resolved_module, resolved}
use Rattle.mlir_resolve.proofs.Nested as nested_rows
use Rattle.round_trip.specs.PrintableRows.{IsPrintable}
use Rattle.round_trip.specs.Renumbering.{new_number, new_home, new_value, new_row, renumbered}
use Rattle.round_trip.specs.Laws.{ReadsBack}
use Rattle.round_trip.proofs.Parts.{Fits, fits_length}
use Rattle.round_trip.proofs.Uses.{IsUseOf}
use Rattle.round_trip.proofs.RowTree.{Tree, node, Branches, no_branches, branch_then, arguments_in, IsHeadOf, IsArgumentOf, IsTreeOf, AreBranchesOf}
use Rattle.round_trip.proofs.Forest.{flat, IsSound}
use Rattle.round_trip.proofs.Files.{tree_of, file_of}
use Rattle.round_trip.proofs.Laying.{AreArgumentsOf, IsLaidAs, ArePairs, pairs_length, number_at, tree_laid}
use Rattle.round_trip.proofs.Clean.{values_are, clean}
use Rattle.round_trip.proofs.Ready.{at_place}

-- ---- the rows

types_are : (rows : List Row) (d g i : ℕ) (ts : List Ty) (xs : List SynArg) → Fits (IsArgumentOf rows d g) i ts xs → argument_types xs ≡ ts
types_are rows d g i [] [] h = refl
types_are rows d g i [] (x ∷ xs) h = absurd h
types_are rows d g i (t ∷ ts) [] h = absurd h
types_are rows d g i (t ∷ ts) (x ∷ xs) h = λ j. h.0.type j ∷ types_are rows d g (suc i) ts xs h.1 j

regions_are : (rows : List Row) (d g : ℕ) (regions : List (List Ty)) (xs : List (List SynArg)) → AreArgumentsOf rows d g regions xs → map argument_types xs ≡ regions
regions_are rows d g [] [] h = refl
regions_are rows d g [] (x ∷ xs) h = absurd h
regions_are rows d g (ts ∷ regions) [] h = absurd h
regions_are rows d g (ts ∷ regions) (x ∷ xs) h = λ j. types_are rows d g 0 ts x h.0 j ∷ regions_are rows d (suc g) regions xs h.1 j

module _ (m : Rows) (p : IsPrintable m) (ls : List Laid) (pairs : ArePairs (IsLaidAs m.rows) 0 m.rows ls) (bare_apart : AreDistinct (bare_rows ls)) (bare_nested : AreNested (bare_rows ls)) where
  operands_are : (k : ℕ) (r : Row) (l : Laid) → IsLaidAs m.rows k r l → filter_map (used_value (names_at ls k)) l.head.operands ≡ map (new_value m.rows) r.operands
  operands_are k r l is =
      values_are m.rows p.well_formed.numbers.differ p.well_formed.nesting p.well_formed.numbers.begins p.well_formed.sizes p.few ls pairs bare_apart bare_nested p.well_formed.operands p.well_formed.dictionaries
      k r is.there 0 r.operands l.head.operands (at_place (HasVisibleOperands m.rows) m.rows p.well_formed.operands k r is.there) is.head.operands

  row_is : (k : ℕ) (r : Row) (l : Laid) → IsLaidAs m.rows k r l → resolved_row ls l ≡ new_row m.rows r
  row_is k r l is =
      let number : l.id ≡ new_number m.rows r.id = is.id ∙ sym (number_at m.rows p.well_formed.numbers.differ k r is.there) in
      let operands : filter_map (used_value (names_at ls l.id)) l.head.operands ≡ map (new_value m.rows) r.operands = ap (λ n. filter_map (used_value (names_at ls n)) l.head.operands) is.id ∙ operands_are k r l is in
      λ j. record {
        id = number j;
        home = is.home j;
        name = is.head.name j;
        operands = operands j;
        results = is.head.result_types j;
        props = is.head.props j;
        attrs = is.head.attrs j;
        regions = regions_are m.rows r.id 0 r.regions l.arguments is.arguments j;
      }

  rows_are : (k : ℕ) (rs : List Row) (ms : List Laid) → ArePairs (IsLaidAs m.rows) k rs ms → map (resolved_row ls) ms ≡ map (new_row m.rows) rs
  rows_are k [] [] h = refl
  rows_are k [] (l ∷ ms) h = absurd h
  rows_are k (r ∷ rs) [] h = absurd h
  rows_are k (r ∷ rs) (l ∷ ms) h = λ j. row_is k r l h.0 j ∷ rows_are (suc k) rs ms h.1 j

  all_rows : resolved_rows ls ≡ renumbered m
  unfolding renumbered
  all_rows = λ j. record { rows = rows_are 0 m.rows ls pairs j; next = pairs_length (IsLaidAs m.rows) 0 m.rows ls pairs j }

  no_fault : (o : Operation) → ls ≡ laid_operation 0 None o → operation_fault ls 0 None o ≡ None
  no_fault o same =
      clean m.rows p.well_formed.numbers.differ p.well_formed.nesting p.well_formed.numbers.begins p.well_formed.sizes p.few ls pairs bare_apart bare_nested p.well_formed.operands p.well_formed.dictionaries o same

  -- the rows of the operation
  pub resolves : (o : Operation) → ls ≡ laid_operation 0 None o → rows_or ls (operation_fault ls 0 None o) ≡ Ok (renumbered m)
  resolves o same = ap (rows_or ls) (no_fault o same) ∙ ap (λ (x : Rows). Ok x) all_rows

-- ---- the file's module

-- the row of a module
first_is : (rows : List Row) (t : Tree) → BeginsWithModule rows → rows ≡ flat t → (r : Row) → (bs : Branches) → t ≡ node r bs → IsModuleRow r
first_is [] t begins same r bs is = absurd begins
first_is (x ∷ rows) t begins same r bs is =
    let first : x ≡ r = ap (head_or x) (same ∙ ap flat is) in
    subst IsModuleRow first begins.0
  where
    head_or : Row → List Row → Row
    head_or d [] = d
    head_or d (y ∷ ys) = y

bytes_same : (w v : List ℕ) → w ≡ v → bytes_eq w v ≡ true
bytes_same w v e = (bytes_eq-Decides w v).1 e

shape_by : (rows : List Row) (r : Row) (h : Head) (bs : Branches) (rs : Regions) → IsModuleRow r → IsHeadOf rows r h → arguments_in bs ≡ r.regions → AreBranchesOf rows r.id 0 bs rs → is_module_shape h rs ≡ true
shape_by rows r h no_branches rs row is args branches = absurd (omega (arith, ap length args, row.one_region))
shape_by rows r h (branch_then ts trees bs) no_regions row is args branches = absurd branches
shape_by rows r h (branch_then ts trees no_branches) (region_then xs os no_regions) row is args branches =
    let name : bytes_eq h.name (codes "builtin.module") ≡ true = bytes_same h.name (codes "builtin.module") (is.name ∙ row.name) in
    let operands : length h.operands == 0 ≡ true = eq-eqb (length h.operands) 0 (fits_length (λ i v x. IsUseOf rows v x) 0 r.operands h.operands is.operands ∙ ap length row.no_operands) in
    let results : length h.result_types == 0 ≡ true = eq-eqb (length h.result_types) 0 (ap length (is.result_types ∙ row.no_results)) in
    λ j. name j && (operands j && results j)
shape_by rows r h (branch_then ts trees no_branches) (region_then xs os (region_then ys ps rs)) row is args branches = absurd branches.2
shape_by rows r h (branch_then ts trees (branch_then us more bs)) rs row is args branches = absurd (omega (arith, ap length args, row.one_region))

module_is : (rows : List Row) (t : Tree) (depth : ℕ) (own : Option Home) (o : Operation) → BeginsWithModule rows → rows ≡ flat t → IsSound rows depth own t → IsTreeOf rows t o → is_module o ≡ true
module_is rows (node r bs) depth own (operation h rs) begins same (placed, args, inside) (head, branches) =
    shape_by rows r h bs rs (first_is rows (node r bs) begins same r bs refl) head args branches

own_home : (rows : List Row) (t : Tree) (depth : ℕ) → IsSound rows depth None t → None ≡ option_map (new_home rows) None
own_home rows t depth sound = refl

pub reads_back : ReadsBack
unfolding resolved
reads_back m p =
    let t = tree_of m p in
    let f = file_of m p t in
    let o = f.made in
    let ls = laid_operation 0 None o in
    let all : m.rows ≡ [] ++ (flat t.tree ++ []) = t.rows ∙ sym (append-nil (flat t.tree)) in
    let laid : ArePairs (IsLaidAs m.rows) 0 (flat t.tree) ls = tree_laid m.rows p.well_formed.numbers.differ [] [] 0 0 None None t.tree o all refl t.sound refl f.fits in
    let pairs : ArePairs (IsLaidAs m.rows) 0 m.rows ls = subst (λ rs. ArePairs (IsLaidAs m.rows) 0 rs ls) (sym t.rows) laid in
    let is : is_module o ≡ true = module_is m.rows t.tree 0 None o p.well_formed.numbers.begins t.rows t.sound f.fits in
    let module_is_it : module_of (o ∷ []) ≡ o = ap (λ b. cond b o (implied_module (o ∷ []))) is in (
      record { ops = o ∷ [] },
      f.file,
      ap resolved_module module_is_it ∙ resolves m p ls pairs (nested_rows.distinct (λ l. []) o) (nested_rows.nested (λ l. []) o) o refl,
    )
