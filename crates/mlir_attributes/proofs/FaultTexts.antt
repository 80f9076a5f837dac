-- The faults of texts that are one type or one attribute.
use Rattle.std.proofs.Common.{◌≡◌, ℕ, ◌≤◌, Bool, true, false, List, [], length, refl, subst, arith, Result, Ok, Err}
use Rattle.mlir_lexer.specs.declared.token.TokenKind.TheVariants as k
use Rattle.mlir_tree.specs.declared.refusal.Refusal.{Refusal}
use Rattle.mlir_tree.specs.declared.refusal.Refusal.TheVariants as refusals
use Rattle.mlir_tree.specs.Tree.{Ty, Attr}
use Rattle.mlir_attributes.specs.declared.fault.ModFault.{ModFault}
use Rattle.mlir_attributes.specs.declared.fault.ModKind.{ModKind}
use Rattle.mlir_attributes.specs.Faults.{is_type_fault, is_attr_fault}
use Rattle.mlir_attributes.specs.Place.{Place, sees, start_of}
use Rattle.mlir_attributes.specs.Input.{Outcome, Gives}
use Rattle.mlir_attributes.specs.Types.{ty, max_open, whole, whole_by, type_of}
use Rattle.mlir_attributes.specs.Attributes.{attr, attr_of}
use Rattle.mlir_attributes.proofs.FaultSteps.{Reading, IsIn, IsFault, Judged, Told, refused}
use Rattle.mlir_attributes.proofs.FaultTypes.{ty_judged}
use Rattle.mlir_attributes.proofs.FaultAttrs.{attr_kind, attr_judged}

abbrev pub reading_of : List ℕ → (kinds : ModKind → Bool) → ((n : ModKind) → is_type_fault n ≡ true → kinds n ≡ true) → Reading
reading_of bytes kinds wide = record { base = start_of bytes; kinds = kinds; wide = wide }

abbrev of_type : List ℕ → Reading
of_type bytes = reading_of bytes is_type_fault (λ n h. h)

abbrev of_attr : List ℕ → Reading
of_attr bytes = reading_of bytes is_attr_fault attr_kind

pub first_in : (bytes : List ℕ) (kinds : ModKind → Bool) (wide : (n : ModKind) → is_type_fault n ≡ true → kinds n ≡ true) → IsIn (reading_of bytes kinds wide) (start_of bytes)
first_in bytes kinds wide = record {
  same = refl;
  within = omega arith;
  operations = omega arith;
  few_operations = omega arith;
  slots = omega arith;
  few_slots = omega arith;
}

module _ (j : Reading) where
  end_told : {A : Type 0} (x : A) (s : Place) (b : Bool) → IsIn j s → Told j (whole_by x s b)
  end_told x s true h = tt
  end_told x s false h = refused j s h

  whole_told : {A : Type 0} (o : Outcome A) → Judged j o → Told j (whole o)
  whole_told (Ok p) h = end_told p.0 p.1 (sees k.End p.1) h
  whole_told (Err e) h = h

  fault_by : {A : Type 0} (o : Result A ModFault) (f : ModFault) → Told j o → o ≡ Err f → IsFault j f
  fault_by (Ok x) f h e = absurd (cc)
  fault_by (Err g) f h e = let same : g ≡ f = cc in subst (IsFault j) same h

  -- the fault of a call
  pub call_fault : {A : Type 0} (o : Result A ModFault) (r : Result A (Refusal ModFault)) (f : ModFault) → Told j o → Gives r o → r ≡ Err (refusals.Fault f) → IsFault j f
  call_fault o r f told e is = fault_by o f told (subst (λ q. Gives q o) is e)

type_told : (bytes : List ℕ) → Told (of_type bytes) (type_of bytes)
unfolding type_of
type_told bytes = whole_told (of_type bytes) (ty [] max_open (start_of bytes)) (ty_judged (of_type bytes) [] max_open (start_of bytes) (first_in bytes is_type_fault (λ n h. h)))

attr_told : (bytes : List ℕ) → Told (of_attr bytes) (attr_of bytes)
unfolding attr_of
attr_told bytes = whole_told (of_attr bytes) (attr [] max_open (start_of bytes)) (attr_judged (of_attr bytes) (λ n h. h) [] max_open (start_of bytes) (first_in bytes is_attr_fault attr_kind))

-- ---- the fault of a call that reads a whole text

pub record IsToldFault (kinds : ModKind → Bool) (bytes : List ℕ) (f : ModFault) : Type 0 where
  pub kind : kinds f.kind ≡ true
  pub within : f.at ≤ length bytes

pub type_fault : (bytes : List ℕ) (r : Result Ty (Refusal ModFault)) (f : ModFault) → Gives r (type_of bytes) → r ≡ Err (refusals.Fault f) → IsToldFault is_type_fault bytes f
type_fault bytes r f e is = let told = call_fault (of_type bytes) (type_of bytes) r f (type_told bytes) e is in record { kind = told.kind; within = told.within }

pub attr_fault : (bytes : List ℕ) (r : Result Attr (Refusal ModFault)) (f : ModFault) → Gives r (attr_of bytes) → r ≡ Err (refusals.Fault f) → IsToldFault is_attr_fault bytes f
attr_fault bytes r f e is = let told = call_fault (of_attr bytes) (attr_of bytes) r f (attr_told bytes) e is in record { kind = told.kind; within = told.within }
