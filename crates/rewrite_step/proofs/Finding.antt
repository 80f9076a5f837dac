-- The row of a number, and the row at a place.
use Rattle.std.proofs.Common.{◌≡◌, ℕ, zero, suc, Bool, true, false, cond, List, [], ◌∷◌, length, Some, None, refl, sym, ◌∙◌, position, ◌≤◌, arith}
use Rattle.std.specs.Prelude.{slice_get, nat_lt, find}
use Rattle.std.specs.Option.{option_and_then}
use Rattle.std.specs.List.{position_or_len}
use Rattle.std.proofs.lemmas.List.Folds.{find_at}
use Rattle.std.proofs.lemmas.Bool.Decides.{nat_tests}

none_at : {X : Type 0} (xs : List X) (n : ℕ) → length xs ≤ n → slice_get xs n ≡ None
none_at [] n h = refl
none_at (x ∷ xs) zero h = absurd (omega arith)
none_at (x ∷ xs) (suc n) h = none_at xs n (omega arith)

there : {X : Type 0} (xs : List X) (n : ℕ) (b : Bool) → nat_lt n (length xs) ≡ b → option_and_then (slice_get xs) (cond b (Some n) None) ≡ slice_get xs n
there xs n true is = refl
there xs n false is = sym (none_at xs n (grind (arith, nat_tests, is)))

-- what stands at the first place that passes is the first that passes
pub found_there : {X : Type 0} (p : X → Bool) (xs : List X) → option_and_then (slice_get xs) (position p xs) ≡ find p xs
found_there p xs = there xs (position_or_len p xs) (nat_lt (position_or_len p xs) (length xs)) refl ∙ sym (find_at p xs)
