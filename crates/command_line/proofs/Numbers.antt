-- Decimal digits whose number passes a bound.
use Rattle.std.proofs.Common.{◌≡◌, ◌<◌, ◌≤◌, ℕ, zero, suc, ◌+◌, ◌*◌, ◌-◌, Bool, true, false, ◌&&◌, cond, List, [], ◌∷◌, length, drop, slice_index_or, Some, None, refl, sym, ap, subst, arith}
use Rattle.std.specs.Prelude.{nat_le}
use Rattle.std.specs.List.{list_all}
use Rattle.std.proofs.lemmas.Bool.Decides.{nat_tests}
use Rattle.command_line.specs.Command.{is_digit, digits_behind, spelled_up_to}

grows : (n : ℕ) (ds : List ℕ) → n ≤ digits_behind n ds
grows n [] = omega arith
grows n (d ∷ ds) = let more = grows (n * 10 + (d - 48)) ds in omega (arith, more)

both : (a b : Bool) (n : ℕ) → b ≡ false → cond (a && b) (Some n) None ≡ None
both true b n e = ap (λ x. cond x (Some n) None) e
both false b n e = refl

above : (m n : ℕ) → m < n → nat_le n m ≡ false
above m n l = grind (arith, nat_tests)

pub passed : (most n d : ℕ) (ds : List ℕ) → most < n * 10 + (d - 48) → None ≡ spelled_up_to most n (d ∷ ds)
passed most n d ds l = let more = grows (n * 10 + (d - 48)) ds in sym (both (list_all is_digit (d ∷ ds)) (nat_le (digits_behind n (d ∷ ds)) most) (digits_behind n (d ∷ ds)) (above most (digits_behind (n * 10 + (d - 48)) ds) (omega (arith, l, more))))

step_at : (xs : List ℕ) (i d : ℕ) → i < length xs → drop i xs ≡ slice_index_or xs i d ∷ drop (suc i) xs
step_at [] i d l = absurd (omega (arith, l))
step_at (x ∷ xs) zero d l = refl
step_at (x ∷ xs) (suc i) d l = step_at xs i d (omega (arith, l))

pub passed_at : (most n i d : ℕ) (xs : List ℕ) → i < length xs → most < n * 10 + (slice_index_or xs i d - 48) → None ≡ spelled_up_to most n (drop i xs)
passed_at most n i d xs l m = subst (λ ys. None ≡ spelled_up_to most n ys) (sym (step_at xs i d l)) (passed most n (slice_index_or xs i d) (drop (suc i) xs) m)
