-- Rows that are numbered by their places keep their numbers.
use Rattle.std.proofs.Common.{◌≡◌, ℕ, suc, ◌<◌, Bool, true, false, cond, List, [], ◌∷◌, length, map, get_or, refl, ap, sym, subst, ◌∙◌, arith, Option, Some, None, Ok}
use Rattle.std.specs.Prelude.{All, slice_get}
use Rattle.std.specs.Option.{option_map, option_map_or}
use Rattle.std.proofs.lemmas.Bool.{and_parts}
use Rattle.std.proofs.lemmas.Option.{slice_get_within, get_or_from_slice_get}
use Rattle.std.proofs.lemmas.List.{length-map}
use Rattle.std.proofs.lemmas.List.Elements.{All-head, All-tail}
use Rattle.mlir_tree.specs.declared.row.Home.{Home}
use Rattle.mlir_tree.specs.declared.row.Row.{Row}
use Rattle.mlir_tree.specs.declared.rows.Rows.{Rows}
use Rattle.mlir_tree.specs.declared.value.Val.{Val}
use Rattle.mlir_tree.specs.declared.value.Val.TheVariants.{Res, Arg}
use Rattle.mlir_tree.specs.Module.{row_of, has_result, has_argument, is_value, is_in_scope, is_visible, IsVisible}
use Rattle.mlir_tree.specs.WellFormed.{AreDistinct, AreNested, HasVisibleOperands, IsWellFormed}
use Rattle.mlir_tree.proofs.Places.{IsAt, home_row}
use Rattle.mlir_parse.specs.SynTree.{Operation}
use Rattle.mlir_resolve.specs.Laid.{laid_operation, module_of, implied_module}
use Rattle.mlir_resolve.specs.Resolving.{operation_fault, resolved_row, resolved_rows, resolved_module, resolved}
use Rattle.mlir_resolve.proofs.Nested as nested_rows
use Rattle.round_trip.specs.Renumbering.{new_number, new_home, new_value, new_row, renumbered}
use Rattle.round_trip.specs.Laws.{ReadsAgain}
use Rattle.round_trip.proofs.Laying.{number_at}
use Rattle.round_trip.proofs.Meaning.{place_of_row}
use Rattle.round_trip.proofs.Ready.{at_place}
use Rattle.round_trip.proofs.ReadFiles.{operands_of, rows_given, spelled_rows_are_printable}
use Rattle.round_trip.proofs.ReadsBack.{reads_back}

module _ (rows : List Row) (apart : AreDistinct rows) (nested : AreNested rows) (visible : All (HasVisibleOperands rows) rows) (numbered : (k : ℕ) (r : Row) → IsAt rows k r → r.id ≡ k) where
  same_number : (k : ℕ) (r : Row) → IsAt rows k r → new_number rows r.id ≡ r.id
  same_number k r at_r = number_at rows apart k r at_r ∙ sym (numbered k r at_r)

  same_home : (k : ℕ) (r : Row) → IsAt rows k r → (o : Option Home) → r.home ≡ o → option_map (new_home rows) o ≡ o
  same_home k r at_r None is = refl
  same_home k r at_r (Some h) is =
      let outer = home_row rows apart nested k r h at_r is in
      let number : new_number rows h.row ≡ h.row = ap (new_number rows) (sym outer.is) ∙ same_number outer.place outer.row outer.at ∙ outer.is in
      ap (λ n. Some (record { row = n; region = h.region })) number

  of_row : (d : ℕ) (q : Row) → row_of rows d ≡ Some q → new_number rows d ≡ d
  of_row d q is =
      let (p, at_q, same) = place_of_row rows d q is in
      ap (new_number rows) (sym same) ∙ same_number p q at_q ∙ same

  some_row : (test : Row → Bool) (o : Option Row) → option_map_or test o false ≡ true → (q : Row) × (o ≡ Some q)
  some_row test None h = absurd (cc)
  some_row test (Some q) h = (q, refl)

  same_value : (v : Val) → is_value rows v ≡ true → new_value rows v ≡ v
  same_value (Res d i) h = let (q, is) = some_row (has_result i) (row_of rows d) h in ap (λ n. Res n i) (of_row d q is)
  same_value (Arg d g i) h = let (q, is) = some_row (has_argument g i) (row_of rows d) h in ap (λ n. Arg n g i) (of_row d q is)

  value_there : (v : Val) (u : ℕ) → IsVisible rows v u → is_value rows v ≡ true
  unfolding is_visible
  value_there v u h = (and_parts (is_value rows v) (is_in_scope rows v u) h).0

  same_values : (u : ℕ) (vs : List Val) → All (λ v. IsVisible rows v u) vs → map (new_value rows) vs ≡ vs
  same_values u [] all = refl
  same_values u (v ∷ vs) all = λ j. same_value v (value_there v u (All-head (λ w. IsVisible rows w u) v vs all)) j ∷ same_values u vs (All-tail (λ w. IsVisible rows w u) v vs all) j

  same_row : (k : ℕ) (r : Row) → IsAt rows k r → new_row rows r ≡ r
  same_row k r at_r = λ j. record {
    id = same_number k r at_r j;
    home = same_home k r at_r r.home refl j;
    name = r.name;
    operands = same_values r.id r.operands (at_place (HasVisibleOperands rows) rows visible k r at_r) j;
    results = r.results;
    props = r.props;
    attrs = r.attrs;
    regions = r.regions;
  }

  same_rows : (rs : List Row) → ((i : ℕ) (r : Row) → slice_get rs i ≡ Some r → new_row rows r ≡ r) → map (new_row rows) rs ≡ rs
  same_rows [] h = refl
  same_rows (r ∷ rs) h = λ j. h 0 r refl j ∷ same_rows rs (λ i q at. h (suc i) q at) j

  pub kept : (next : ℕ) → length rows ≡ next → renumbered (record { rows = rows; next = next }) ≡ record { rows = rows; next = next }
  unfolding renumbered
  kept next count = λ j. record { rows = same_rows rows same_row j; next = count j }

-- the rows of an operation are numbered by their places
numbers : (o : Operation) (k : ℕ) (r : Row) → IsAt (resolved_rows (laid_operation 0 None o)).rows k r → r.id ≡ k
numbers o k r at_r =
    let f = operands_of o in
    let rows = (resolved_rows (laid_operation 0 None o)).rows in
    let inside : k < length (laid_operation 0 None o) = omega (arith, slice_get_within rows k r at_r, nested_rows.rows_length f o) in
    let same : get_or rows k r ≡ r = get_or_from_slice_get rows k r r at_r in
    ap (λ (q : Row). q.id) (sym same ∙ nested_rows.row_get f o k r inside) ∙ nested_rows.id_is f o k inside

pub kept_rows : (o : Operation) (m : Rows) → resolved_rows (laid_operation 0 None o) ≡ m → IsWellFormed m → renumbered m ≡ m
kept_rows o m same well =
    let ls = laid_operation 0 None o in
    let w : IsWellFormed (resolved_rows ls) = subst IsWellFormed (sym same) well in
    subst (λ x. renumbered x ≡ x) same
    (kept (resolved_rows ls).rows w.numbers.differ w.nesting w.operands (numbers o) (resolved_rows ls).next (length-map ls (resolved_row ls)))

pub reads_again : ReadsAgain
unfolding resolved
reads_again bytes o m plain read =
    let p = spelled_rows_are_printable bytes o m plain read in
    let (file, is, back) = reads_back m p in
    let whole : module_of (o ∷ []) ≡ o = ap (λ b. cond b o (implied_module (o ∷ []))) plain.is_whole in
    let given = rows_given o (operation_fault (laid_operation 0 None o) 0 None o) m (ap resolved_module (sym whole) ∙ read) in
    (file, is, back ∙ ap (λ (x : Rows). Ok x) (kept_rows o m given.1 p.well_formed))
