-- The rows of a tree whose types and attributes are sound are printable where the text keeps the limits.
use Rattle.std.proofs.Common.{◌≡◌, ℕ, zero, suc, ◌+◌, ◌-◌, ◌<◌, ◌≤◌, Bool, true, false, if◌then◌else◌, List, [], ◌∷◌, ◌++◌, length, map, get_or, sym, subst, arith, Option, Some, None, Ok}
use Rattle.std.specs.Prelude.{All, IfSome}
use Rattle.std.specs.List.{AllByRecursion}
use Rattle.std.proofs.lemmas.List.Elements.{All-get_or, All-from_get_or}
use Rattle.mlir_tree.specs.declared.row.Home.{Home}
use Rattle.mlir_tree.specs.declared.row.Row.{Row}
use Rattle.mlir_tree.specs.declared.rows.Rows.{Rows}
use Rattle.mlir_tree.specs.declared.value.Val.{Val}
use Rattle.mlir_tree.specs.Tree.{Ty, tys, entries}
use Rattle.mlir_print.specs.Text.{stands_bare}
use Rattle.mlir_print.specs.ModuleText.{value_type}
use Rattle.mlir_parse.specs.declared.syn.Syn.{Syn}
use Rattle.mlir_parse.specs.declared.syn.SynArg.{SynArg}
use Rattle.mlir_attributes.specs.Types.{max_open}
use Rattle.mlir_attributes.specs.Steps.{max_operations}
use Rattle.mlir_parse.specs.SynTree.{Head, Operation, operation, Regions, no_regions, region_then, Operations, no_operations, operation_then, operations}
use Rattle.mlir_parse.specs.Limits.{KeepsLimits, operation_count, operations_count}
use Rattle.mlir_resolve.specs.Laid.{Laid, region, row_with, entry_pair, arguments_of, argument_types, laid_operation, laid_regions, laid_operations, is_module, module_of, implied_module}
use Rattle.mlir_resolve.specs.Resolving.{names_at, head_fault, operation_fault, resolved}
use Rattle.mlir_resolve.proofs.Clean.{IsClean, operation_clean}
use Rattle.mlir_resolve.proofs.Nested as nested_rows
use Rattle.mlir_resolve.proofs.Nested.{blank, rows_by}
use Rattle.mlir_resolve.proofs.RowFacts.{fact_of}
use Rattle.mlir_resolve.proofs.Slots.{slots_kept}
use Rattle.mlir_resolve.proofs.WellFormedRows.{well_formed_rows}
use Rattle.round_trip.specs.Printable.{AreBytes, IsPrintableTy, ArePrintableTys}
use Rattle.round_trip.specs.PrintableRows.{room_of, IsPrintableRow, IsPrintable}
use Rattle.round_trip.specs.Brackets.{IsTyWithin, AreTysWithin, IsRowWithin, IsWithinBrackets}
use Rattle.round_trip.proofs.Sound.{IsSoundTy, AreSoundTys, AreSoundEntries, narrow_ty, narrow_tys, narrow_entries}
use Rattle.round_trip.proofs.ReadTypes.{operands_typed}
use Rattle.round_trip.proofs.ReadRows.{all_there}
use Rattle.round_trip.proofs.ReadFiles.{operands_of, head_parts, rows_given}

-- ---- trees

-- What the head of an operation says, but for the limit of brackets.
pub record IsSoundHead (h : Head) : Type 0 where
  pub name : AreBytes h.name
  pub named : 0 < length h.name
  pub operand_types : AllByRecursion IsSoundTy h.operand_types
  pub result_types : AreSoundTys (tys h.result_types)
  pub props : AreSoundEntries (entries (map entry_pair h.props))
  pub attrs : AreSoundEntries (entries (map entry_pair h.attrs))

abbrev pub AreSoundArguments : List SynArg → Type 0
AreSoundArguments xs = AreSoundTys (tys (argument_types xs))

abbrev mutual
  pub IsSoundOperation : Operation → Type 0
  IsSoundOperation (operation h rs) = IsSoundHead h × AreSoundRegions rs

  pub AreSoundRegions : Regions → Type 0
  AreSoundRegions no_regions = Unit {0}
  AreSoundRegions (region_then xs os rs) = AreSoundArguments xs × AreSoundOperations os × AreSoundRegions rs

  pub AreSoundOperations : Operations → Type 0
  AreSoundOperations no_operations = Unit {0}
  AreSoundOperations (operation_then o os) = IsSoundOperation o × AreSoundOperations os

record IsSoundLaid (l : Laid) : Type 0 where
  head : IsSoundHead l.head
  arguments : AllByRecursion AreSoundArguments l.arguments

sound_arguments : (rs : Regions) → AreSoundRegions rs → AllByRecursion AreSoundArguments (arguments_of rs)
sound_arguments no_regions h = tt
sound_arguments (region_then xs os rs) h = (h.0, sound_arguments rs h.2)

join_laid : (xs ys : List Laid) → AllByRecursion IsSoundLaid xs → AllByRecursion IsSoundLaid ys → AllByRecursion IsSoundLaid (xs ++ ys)
join_laid [] ys x y = y
join_laid (l ∷ xs) ys x y = (x.0, join_laid xs ys x.1 y)

mutual
  unfolding laid_operation

  laid_sound : (n : ℕ) (home : Option Home) (o : Operation) → IsSoundOperation o → AllByRecursion IsSoundLaid (laid_operation n home o)
  laid_sound n home (operation h rs) s = (record { head = s.0; arguments = sound_arguments rs s.1 }, regions_sound n 0 (suc n) rs s.1)

  regions_sound : (d g n : ℕ) (rs : Regions) → AreSoundRegions rs → AllByRecursion IsSoundLaid (laid_regions d g n rs)
  regions_sound d g n no_regions s = tt
  regions_sound d g n (region_then xs os rs) s =
      join_laid (laid_operations (region d g) n os) (laid_regions d (suc g) (n + operations_count os) rs)
      (operations_sound (region d g) n os s.1) (regions_sound d (suc g) (n + operations_count os) rs s.2)

  operations_sound : (h : Home) (n : ℕ) (os : Operations) → AreSoundOperations os → AllByRecursion IsSoundLaid (laid_operations h n os)
  operations_sound h n no_operations s = tt
  operations_sound h n (operation_then o os) s =
      join_laid (laid_operation n (Some h) o) (laid_operations h (n + operation_count o) os)
      (laid_sound n (Some h) o s.0) (operations_sound h (n + operation_count o) os s.1)

sound_at : (ls : List Laid) (i : ℕ) → i < length ls → AllByRecursion IsSoundLaid ls → IsSoundLaid (get_or ls i blank)
sound_at [] i less h = absurd (omega (arith, less))
sound_at (l ∷ ls) zero less h = h.0
sound_at (l ∷ ls) (suc i) less h = sound_at ls i (omega (arith, less)) h.1

-- ---- rows

narrow_some : (room : ℕ) → room ≤ max_open → (t : Option Ty) → IfSome t IsSoundTy → IfSome t (IsTyWithin room) → IfSome t (IsPrintableTy room)
narrow_some room most None h few = tt
narrow_some room most (Some t) h few = narrow_ty room t most h few

narrow_operands : (rows : List Row) (room : ℕ) → room ≤ max_open → (vs : List Val) → AllByRecursion (λ v. IfSome (value_type rows v) IsSoundTy) vs → AllByRecursion (λ v. IfSome (value_type rows v) (IsTyWithin room)) vs → AllByRecursion (λ v. IfSome (value_type rows v) (IsPrintableTy room)) vs
narrow_operands rows room most [] h few = tt
narrow_operands rows room most (v ∷ vs) h few = (narrow_some room most (value_type rows v) h.0 few.0, narrow_operands rows room most vs h.1 few.1)

narrow_arguments : (room : ℕ) → room ≤ max_open → (args : List (List SynArg)) → AllByRecursion AreSoundArguments args → AllByRecursion (λ ts. AreTysWithin room (tys ts)) (map argument_types args) → AllByRecursion (λ ts. ArePrintableTys room (tys ts)) (map argument_types args)
narrow_arguments room most [] h few = tt
narrow_arguments room most (xs ∷ args) h few = (narrow_tys room (tys (argument_types xs)) most h.0 few.0, narrow_arguments room most args h.1 few.1)

narrow_row : (rows : List Row) (room : ℕ) (vs : List Val) (l : Laid) → room ≤ max_open → IsSoundLaid l → AllByRecursion (λ v. IfSome (value_type rows v) IsSoundTy) vs → IsRowWithin rows room (row_with vs l) → IsPrintableRow rows room (row_with vs l)
narrow_row rows room vs l most s typed few = record {
  fits = few.fits;
  name = s.head.name;
  named = s.head.named;
  operands = narrow_operands rows (room - 1) (omega (arith, most)) vs typed few.operands;
  results = narrow_tys (if stands_bare (tys l.head.result_types) then room else room - 1) (tys l.head.result_types) (by_bare (stands_bare (tys l.head.result_types))) s.head.result_types few.results;
  properties = narrow_entries (room - 2) (entries (map entry_pair l.head.props)) (omega (arith, most)) s.head.props few.properties;
  attributes = narrow_entries (room - 1) (entries (map entry_pair l.head.attrs)) (omega (arith, most)) s.head.attrs few.attributes;
  arguments = narrow_arguments (room - 3) (omega (arith, most)) l.arguments s.arguments few.arguments;
}
  where
    by_bare : (b : Bool) → (if b then room else room - 1) ≤ max_open
    by_bare true = most
    by_bare false = omega (arith, most)

module _ (o : Operation) (none : operation_fault (laid_operation 0 None o) 0 None o ≡ None) (s : IsSoundOperation o) where
  abbrev IsWithin : Row → Type 0
  IsWithin r = IsRowWithin (rows_by (operands_of o) (laid_operation 0 None o)) (room_of (rows_by (operands_of o) (laid_operation 0 None o)) r) r

  abbrev IsReady : Row → Type 0
  IsReady r = IsPrintableRow (rows_by (operands_of o) (laid_operation 0 None o)) (room_of (rows_by (operands_of o) (laid_operation 0 None o)) r) r

  row_at : (i : ℕ) → i < length (laid_operation 0 None o) → (r : Row) → r ≡ nested_rows.row (operands_of o) o i → IsWithin r → IsReady r
  row_at i less r same few =
      let f = operands_of o in
      let ls = laid_operation 0 None o in
      let l = get_or ls i blank in
      let id : l.id ≡ i = nested_rows.id_is f o i less in
      let sound = sound_at ls i less (laid_sound 0 None o s) in
      let clean = fact_of (IsClean ls) ls i blank (operation_clean ls 0 None o none) less in
      let parts = head_parts (names_at ls l.id) l.head (subst (λ k. head_fault (names_at ls k) l.head ≡ None) (sym id) clean) in
      let typed = operands_typed (rows_by f ls) f ls (all_there f o) IsSoundTy l.id l.head.operands l.head.operand_types parts.0 parts.1 sound.head.operand_types in
      let room = room_of (rows_by f ls) (row_with (f l) l) in
      subst IsReady (sym same) (narrow_row (rows_by f ls) room (f l) l (omega arith) sound typed (subst IsWithin same few))

  all_ready : All IsWithin (rows_by (operands_of o) (laid_operation 0 None o)) → All IsReady (rows_by (operands_of o) (laid_operation 0 None o))
  all_ready few =
      let f = operands_of o in
      let ls = laid_operation 0 None o in
      let d : Row = row_with [] blank in
      All-from_get_or IsReady (rows_by f ls) d
      (λ i less. let inside : i < length ls = omega (arith, less, nested_rows.rows_length f o) in
      row_at i inside (get_or (rows_by f ls) i d) (nested_rows.row_get f o i d inside) (All-get_or IsWithin (rows_by f ls) i d less few))

-- ---- modules

implied_sound : (os : List Operation) → AreSoundOperations (operations os) → IsSoundOperation (implied_module os)
implied_sound os s = (
  record {
    name = (omega arith, (omega arith, (omega arith, (omega arith, (omega arith, (omega arith, (omega arith, (omega arith, (omega arith, (omega arith, (omega arith, (omega arith, (omega arith, (omega arith, tt))))))))))))));
    named = omega arith;
    operand_types = tt;
    result_types = tt;
    props = tt;
    attrs = tt;
  },
  (tt, s, tt),
)

module_sound : (os : List Operation) → AreSoundOperations (operations os) → IsSoundOperation (module_of os)
module_sound [] s = implied_sound [] s
module_sound (o ∷ []) s = by_module (is_module o)
  where
    by_module : (b : Bool) → IsSoundOperation (if b then o else implied_module (o ∷ []))
    by_module true = s.0
    by_module false = implied_sound (o ∷ []) s
module_sound (o ∷ (p ∷ os)) s = implied_sound (o ∷ p ∷ os) s

-- The rows that a file gives are printable, where their text keeps the limits.
pub sound_rows : (file : Syn) (m : Rows) → KeepsLimits file → AreSoundOperations (operations file.ops) → resolved file ≡ Ok m → length m.rows ≤ max_operations → IsWithinBrackets m → IsPrintable m
unfolding resolved
sound_rows file m kept s read few within =
    let o = module_of file.ops in
    let ls = laid_operation 0 None o in
    let given = rows_given o (operation_fault ls 0 None o) m read in
    record {
      well_formed = well_formed_rows file m kept read;
      rows = subst (λ (x : Rows). All (λ r. IsPrintableRow x.rows (room_of x.rows r) r) x.rows) given.1
          (all_ready o given.0 (module_sound file.ops s) (subst IsWithinBrackets (sym given.1) within));
      few = few;
      slots = slots_kept file (Ok m) kept read;
    }
