-- Work in steps that carry a state along.
use Rattle.std.specs.Prelude.{List, [], ◌∷◌}

-- what the work gives, and the state behind it
abbrev pub Doing : Type 0 → Type 0 → Type 0
Doing S A = S → A × S

abbrev pub and_then : {S A B : Type 0} → A × S → (A → Doing S B) → B × S
and_then p f = f p.0 p.1

infixl 10 ◌>>=◌
abbrev pub ◌>>=◌ : {S A B : Type 0} → Doing S A → (A → Doing S B) → Doing S B
p >>= f = λ s. and_then (p s) f

infixl 10 ◌>>◌
abbrev pub ◌>>◌ : {S A B : Type 0} → Doing S A → Doing S B → Doing S B
p >> q = p >>= (λ _. q)

abbrev pub pure : {S A : Type 0} → A → Doing S A
pure a = λ s. (a, s)

abbrev pub change : {S : Type 0} → (S → S) → Doing S (Unit {0})
change f = λ s. (tt, f s)

-- for each member of a list, in order
abbrev pub for_each : {S A : Type 0} → (A → Doing S (Unit {0})) → List A → Doing S (Unit {0})
for_each f [] = pure tt
for_each f (x ∷ xs) = f x >> for_each f xs
