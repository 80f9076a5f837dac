-- A text is read as the one type or attribute that it spells.
use Rattle.std.proofs.Common.{◌≡◌, ℕ, List, sym, ◌∙◌, Result, Ok, Err, IfOk}
use Rattle.std.specs.Prelude.{IsUtf8}
use Rattle.mlir_tree.specs.declared.refusal.Refusal.{Refusal}
use Rattle.mlir_tree.specs.declared.refusal.Refusal.TheVariants as refusals
use Rattle.mlir_attributes.specs.declared.fault.ModFault.{ModFault}
use Rattle.mlir_attributes.specs.Input.{Gives}

module _ {A : Type 0} (P : List ℕ → A → Type 0) (read : List ℕ → Result A ModFault) where
  pub found_by : ((bytes : List ℕ) (t : A) → IsUtf8 bytes → read bytes ≡ Ok t → P bytes t) → (bytes : List ℕ) (r : Result A (Refusal ModFault)) → IsUtf8 bytes → Gives r (read bytes) → IfOk r (P bytes)
  found_by sound bytes (Ok t) text e = sound bytes t text e
  found_by sound bytes (Err e) text h = tt

  pub only_by : ((bytes : List ℕ) (t : A) → P bytes t → read bytes ≡ Ok t) → (bytes : List ℕ) (r : Result A (Refusal ModFault)) (t : A) → Gives r (read bytes) → P bytes t → Gives r (Ok t)
  only_by complete bytes (Ok u) t e h = sym (complete bytes t h) ∙ e
  only_by complete bytes (Err refusals.NoMemory) t e h = tt
  only_by complete bytes (Err (refusals.Fault f)) t e h = sym (complete bytes t h) ∙ e
