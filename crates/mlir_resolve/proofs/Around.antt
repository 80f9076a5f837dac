-- The scopes around a region, of which the last is asked first.
use Rattle.std.proofs.Common.{◌≡◌, ℕ, zero, suc, ◌<◌, ◌≤◌, ◌-◌, List, [], ◌∷◌, length, take, Option, Some, None, refl, sym, ap, ◌∙◌, arith, slice_index_or}
use Rattle.std.specs.Option.{option_or}
use Rattle.mlir_resolve.specs.Sight.{Definition}
use Rattle.mlir_resolve.specs.Scopes.{find_name, lookup}

or_none : {A : Type 0} → (o : Option A) → option_or None o ≡ option_or o None
or_none None = refl
or_none (Some x) = refl

or_first : {A : Type 0} → (a b c : Option A) → option_or (option_or a b) c ≡ option_or a (option_or b c)
or_first None b c = refl
or_first (Some x) b c = refl

-- the last of the scopes is asked first
pub take_last : (name : List ℕ) (xs : List (List Definition)) (i : ℕ) (s : List Definition) → i < length xs → s ≡ slice_index_or xs i s
    → lookup (take (suc i) xs) name ≡ option_or (find_name name s) (lookup (take i xs) name)
take_last name [] i s q p = absurd (omega arith)
take_last name (x ∷ xs) zero s q p = or_none (find_name name x) ∙ ap (λ y. option_or (find_name name y) None) (sym p)
take_last name (x ∷ xs) (suc i) s q p =
    ap (λ o. option_or o (find_name name x)) (take_last name xs i s (omega arith) p)
    ∙ or_first (find_name name s) (lookup (take i xs) name) (find_name name x)

pub last_before : (name : List ℕ) (xs : List (List Definition)) (at : ℕ) (s : List Definition) → 0 < at → at ≤ length xs → s ≡ slice_index_or xs (at - 1) s
    → lookup (take at xs) name ≡ option_or (find_name name s) (lookup (take (at - 1) xs) name)
last_before name xs at s q r p =
    let e : at ≡ suc (at - 1) = omega arith in
    ap (λ n. lookup (take n xs) name) e ∙ take_last name xs (at - 1) s (omega arith) p
