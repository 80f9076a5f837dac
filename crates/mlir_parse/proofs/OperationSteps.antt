-- The steps of the rule of operations.
use Rattle.std.proofs.Common.{◌≡◌, ℕ, zero, suc, ◌-◌, ◌<◌, Bool, true, false, cond, List, refl, ap, ◌∙◌, arith, Ok}
use Rattle.mlir_attributes.specs.declared.aliases.Alias.{Alias}
use Rattle.mlir_attributes.specs.declared.fault.ModFault.{ModFault}
use Rattle.mlir_parse.specs.declared.operations.Front.{Front}
use Rattle.mlir_parse.specs.declared.syn.SynRegion.{SynRegion}
use Rattle.mlir_tree.specs.declared.refusal.Refusal.{Refusal}
use Rattle.mlir_tree.specs.declared.refusal.Refusal.TheVariants as refusals
use Rattle.mlir_attributes.specs.Place.{Place, spelling}
use Rattle.mlir_attributes.specs.Steps.{one_operation, has_operation, after_operation}
use Rattle.mlir_attributes.specs.Input.{Fails}
use Rattle.mlir_parse.specs.Operations.{a_front, a_back, maybe_regions, an_operation, an_operation_in, two_deeper}

pub operation_is : (aliases : List Alias) (room : ℕ) (s : Place) → an_operation_in aliases room s ≡ an_operation aliases (two_deeper aliases room) room s
operation_is aliases zero s = refl
operation_is aliases (suc zero) s = refl
operation_is aliases (suc (suc room)) s = refl

pub deeper_is : (aliases : List Alias) (room : ℕ) (s : Place) → 1 < room → two_deeper aliases room s ≡ an_operation_in aliases (room - 1 - 1) s
deeper_is aliases zero s h = absurd (omega arith)
deeper_is aliases (suc zero) s h = absurd (omega arith)
deeper_is aliases (suc (suc room)) s h =
    let e : room ≡ suc (suc room) - 1 - 1 = omega arith in
    ap (λ n. an_operation_in aliases n s) e

-- a fault behind the regions
pub back_fails : (aliases : List Alias) (room : ℕ) (s s1 s2 : Place) (f : Front) (found : List SynRegion) (e : Refusal ModFault) → a_front aliases room s ≡ Ok (f, s1) → maybe_regions aliases (two_deeper aliases room) room s1 ≡ Ok (found, s2) → Fails e (a_back aliases room s2) → Fails e (an_operation_in aliases room s)
unfolding an_operation
back_fails aliases room s s1 s2 f found refusals.NoMemory h i j = tt
back_fails aliases room s s1 s2 f found (refusals.Fault x) h i j = operation_is aliases room s ∙ rw (h, i, j) refl

same_by : (s : Place) (b : Bool) → spelling (cond b (one_operation s) s) ≡ spelling s
unfolding spelling
same_by s true = refl
same_by s false = refl

-- The next token stays where an operation is counted.
pub same_spelling : (s : Place) → spelling (after_operation s) ≡ spelling s
unfolding after_operation
same_spelling s = same_by s (has_operation s)
