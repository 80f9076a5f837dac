-- A module that was read from a file without aliases is printable.
use Rattle.std.proofs.Common.{◌≡◌, ℕ, ◌-◌, ◌*◌, ◌<◌, ◌≤◌, Bool, true, false, cond, if◌then◌else◌, List, [], ◌∷◌, length, get_or, refl, ap, sym, subst, ◌∙◌, arith, Option, Some, None, Ok, Err, Result, eqb-true}
use Rattle.std.specs.Prelude.{All, filter_map, ◌==◌}
use Rattle.std.proofs.lemmas.List.{length-map}
use Rattle.std.proofs.lemmas.List.Elements.{All-from_get_or}
use Rattle.mlir_tree.specs.declared.row.Row.{Row}
use Rattle.mlir_tree.specs.declared.rows.Rows.{Rows}
use Rattle.mlir_tree.specs.declared.value.Val.{Val}
use Rattle.mlir_tree.specs.Module.{enclosing}
use Rattle.mlir_attributes.specs.declared.fault.ModFault.{ModFault}
use Rattle.mlir_parse.specs.declared.syn.Syn.{Syn}
use Rattle.mlir_attributes.specs.Place.{start_of}
use Rattle.mlir_attributes.specs.Types.{max_open}
use Rattle.mlir_parse.specs.SynTree.{Head, Operation}
use Rattle.mlir_parse.specs.Limits.{KeepsLimits}
use Rattle.mlir_parse.specs.FileGrammar.{IsModuleFile}
use Rattle.mlir_parse.proofs.FilesComplete.{file_complete}
use Rattle.mlir_parse.proofs.Counts.{file_kept}
use Rattle.mlir_resolve.specs.Laid.{Laid, row_with, laid_operation, module_of, implied_module}
use Rattle.mlir_resolve.specs.Resolving.{Names, names_at, used_value, uses_fault, count_fault, types_fault, entries_fault, head_fault, operation_fault, or_then, resolved_row, resolved_rows, rows_or, resolved_module, resolved}
use Rattle.mlir_resolve.proofs.Clean.{none_of, IsClean, operation_clean}
use Rattle.mlir_resolve.proofs.Nested as nested_rows
use Rattle.mlir_resolve.proofs.Nested.{blank, rows_by}
use Rattle.mlir_resolve.proofs.RowFacts.{fact_of}
use Rattle.mlir_resolve.proofs.Spans.{operation_length}
use Rattle.mlir_resolve.proofs.Slots.{slots_kept}
use Rattle.mlir_resolve.proofs.WellFormedRows.{well_formed_rows}
use Rattle.round_trip.specs.Printable.{IsPrintableTy}
use Rattle.round_trip.specs.PrintableRows.{room_of, IsPrintableRow}
use Rattle.round_trip.specs.Laws.{IsPlainFile, SpelledRowsArePrintable}
use Rattle.round_trip.proofs.SpelledTrees.{IsFineOperation, operation_fine}
use Rattle.round_trip.proofs.ReadTypes.{operands_typed}
use Rattle.round_trip.proofs.ReadRows.{Deep, all_deep, all_there, row_printable}

-- ---- the file

is_file : (bytes : List ℕ) (o : Operation) → IsPlainFile bytes o → IsModuleFile bytes (record { ops = o ∷ [] })
is_file bytes o h = record { utf8 = h.utf8; end = h.end; behind = h.behind; operations = ([], start_of bytes, h.end, refl, h.spelled, ([], refl)); ends = h.ends }

limits : (bytes : List ℕ) (o : Operation) → IsPlainFile bytes o → KeepsLimits (record { ops = o ∷ [] })
limits bytes o h = file_kept bytes (Ok (record { ops = o ∷ [] })) (file_complete bytes (record { ops = o ∷ [] }) (is_file bytes o h))

-- ---- the rows

-- the operands of an operation
abbrev pub operands_of : Operation → Laid → List Val
operands_of o l = filter_map (used_value (names_at (laid_operation 0 None o) l.id)) l.head.operands

count_is : (a b : ℕ) (f : Option ModFault) (g : ModFault) → (if a == b then None else Some g) ≡ f → f ≡ None → a ≡ b
count_is a b f g same none = by_test (a == b) refl (same ∙ none)
  where
    by_test : (p : Bool) → a == b ≡ p → cond {A = Option ModFault} p None (Some g) ≡ None → a ≡ b
    by_test true is h = eqb-true a b is
    by_test false is h = absurd (cc)

-- what an operation without fault says of its operands
pub head_parts : (names : Names) (h : Head) → head_fault names h ≡ None → (length h.operands ≡ length h.operand_types) × (types_fault names h.operands h.operand_types ≡ None)
unfolding head_fault
head_parts names h none =
    let a = none_of (uses_fault names h.operands) (or_then (count_fault h) (or_then (types_fault names h.operands h.operand_types) (entries_fault h))) none in
    let b = none_of (count_fault h) (or_then (types_fault names h.operands h.operand_types) (entries_fault h)) a.1 in
    let c = none_of (types_fault names h.operands h.operand_types) (entries_fault h) b.1 in
    (count_is (length h.operands) (length h.operand_types) (count_fault h) _ refl b.0, c.0)

module _ (o : Operation) (none : operation_fault (laid_operation 0 None o) 0 None o ≡ None) (fine : IsFineOperation max_open o) where
  row_at : (i : ℕ) → i < length (laid_operation 0 None o) → (r : Row) → r ≡ nested_rows.row (operands_of o) o i → IsPrintableRow (rows_by (operands_of o) (laid_operation 0 None o)) (room_of (rows_by (operands_of o) (laid_operation 0 None o)) r) r
  row_at i less r same =
      let f = operands_of o in
      let ls = laid_operation 0 None o in
      let l = get_or ls i blank in
      let id : l.id ≡ i = nested_rows.id_is f o i less in
      let deep = fact_of (Deep f o) ls i blank (all_deep f o fine) less in
      let clean = fact_of (IsClean ls) ls i blank (operation_clean ls 0 None o none) less in
      let parts = head_parts (names_at ls l.id) l.head (subst (λ k. head_fault (names_at ls k) l.head ≡ None) (sym id) clean) in
      let typed = operands_typed (rows_by f ls) f ls (all_there f o) (IsPrintableTy (max_open - 2 * deep.depth - 1)) l.id l.head.operands l.head.operand_types parts.0 parts.1 deep.head.operand_types in
      let here = row_printable f o (max_open - 2 * deep.depth) l deep.head deep.arguments typed in
      let depth : length (enclosing (rows_by f ls) l.id) ≡ deep.depth = ap (λ k. length (enclosing (rows_by f ls) k)) id ∙ deep.around in
      subst (λ q. IsPrintableRow (rows_by f ls) (room_of (rows_by f ls) q) q) (sym same)
      (subst (λ n. IsPrintableRow (rows_by f ls) (max_open - 2 * n) (row_with (f l) l)) (sym depth) here)

  all_printable : All (λ r. IsPrintableRow (rows_by (operands_of o) (laid_operation 0 None o)) (room_of (rows_by (operands_of o) (laid_operation 0 None o)) r) r) (rows_by (operands_of o) (laid_operation 0 None o))
  all_printable =
      let f = operands_of o in
      let ls = laid_operation 0 None o in
      let d : Row = row_with [] blank in
      All-from_get_or (λ r. IsPrintableRow (rows_by f ls) (room_of (rows_by f ls) r) r) (rows_by f ls) d
      (λ i less. let inside : i < length ls = omega (arith, less, nested_rows.rows_length f o) in row_at i inside (get_or (rows_by f ls) i d) (nested_rows.row_get f o i d inside))

pub rows_given : (o : Operation) (x : Option ModFault) (m : Rows) → rows_or (laid_operation 0 None o) x ≡ Ok m → (x ≡ None) × (resolved_rows (laid_operation 0 None o) ≡ m)
rows_given o None m h = (refl, ap (or_rows (resolved_rows (laid_operation 0 None o))) h)
  where
    or_rows : Rows → Result Rows ModFault → Rows
    or_rows d (Ok x) = x
    or_rows d (Err e) = d
rows_given o (Some f) m h = absurd (cc)

pub spelled_rows_are_printable : SpelledRowsArePrintable
unfolding resolved
spelled_rows_are_printable bytes o m plain read =
    let file : Syn = record { ops = o ∷ [] } in
    let kept = limits bytes o plain in
    let ls = laid_operation 0 None o in
    let is : module_of (o ∷ []) ≡ o = ap (λ b. cond b o (implied_module (o ∷ []))) plain.is_whole in
    let given = rows_given o (operation_fault ls 0 None o) m (ap resolved_module (sym is) ∙ read) in
    let fine = (operation_fine max_open o (start_of bytes) plain.end plain.utf8 plain.spelled).0 in
    let count : length (resolved_rows ls).rows ≤ 1000000 = omega (arith, length-map ls (resolved_row ls), operation_length 0 None o, kept.few) in
    record {
      well_formed = well_formed_rows file m kept read;
      rows = subst (λ (x : Rows). All (λ r. IsPrintableRow x.rows (room_of x.rows r) r) x.rows) given.1 (all_printable o given.0 fine);
      few = subst (λ (x : Rows). length x.rows ≤ 1000000) given.1 count;
      slots = slots_kept file (Ok m) kept read;
    }
