-- How much of a file was taken.
use Rattle.std.proofs.Common.{◌≡◌, ℕ, ◌+◌, ◌≤◌, List, [], ◌∷◌, ◌++◌, refl, length, length-append, length-take, take, drop, Option, Some, None, sym, ap, ◌∙◌, append_assoc, arith}
use Rattle.std.specs.Prelude.{IfSome}
use Rattle.std.proofs.lemmas.Option.{none-some, same_Some}
use Rattle.rw_outside.specs.Outside.{prepended, TakesAtMost}

behind : (taken r : List ℕ) → drop (length taken) (taken ++ r) ≡ r
behind [] r = refl
behind (b ∷ taken) r = behind taken r

pub few_left : (most : ℕ) (file rest : Option (List ℕ)) (taken : List ℕ) → length taken ≤ most → file ≡ prepended taken rest → IfSome file (λ f. TakesAtMost most f rest)
few_left most None rest taken few e = tt
few_left most (Some f) None taken few e = absurd (none-some f (sym e))
few_left most (Some f) (Some r) taken few e =
    record { count = length taken; few = few; rest = ap Some (sym (ap (drop (length taken)) (same_Some f (taken ++ r) e) ∙ behind taken r)) }

prepended_twice : (a b : List ℕ) (rest : Option (List ℕ)) → prepended a (prepended b rest) ≡ prepended (a ++ b) rest
prepended_twice a b None = refl
prepended_twice a b (Some r) = ap Some (sym (append_assoc a b r))

-- the same with a piece more
pub few_left_more : (limit count : ℕ) (file rest after : Option (List ℕ)) (taken buf : List ℕ) → length taken + count ≤ limit + 1 → file ≡ prepended taken rest → rest ≡ prepended (take count buf) after
    → IfSome file (λ f. TakesAtMost (limit + 1) f after)
few_left_more limit count file rest after taken buf few e next =
    few_left (limit + 1) file after (taken ++ take count buf)
    (omega (arith, few, length-append taken (take count buf), length-take count buf))
    (e ∙ (ap (prepended taken) next ∙ prepended_twice taken (take count buf) after))
