-- A reading that gives whatever is spelled shows that it is spelled once.
use Rattle.std.proofs.Common.{◌≡◌, ℕ, List, Result, Ok, sym, ap, ◌∙◌}
use Rattle.mlir_attributes.specs.declared.fault.ModFault.{ModFault}

abbrev ok_or : {A : Type 0} → A → Result A ModFault → A
ok_or d (Ok a) = a
ok_or d e = d

pub once : {A : Type 0} (spells : List ℕ → A → Type 0) (read : List ℕ → Result A ModFault) → ((bytes : List ℕ) (a : A) → spells bytes a → read bytes ≡ Ok a)
    → (bytes : List ℕ) (a b : A) → spells bytes a → spells bytes b → a ≡ b
once spells read complete bytes a b s t = ap (ok_or a) (sym (complete bytes a s) ∙ complete bytes b t)
