-- A list against what expressions denote, one behind another.
use Rattle.std.proofs.Common.{◌≡◌, ℕ, zero, suc, ◌+◌, ◌<◌, List, [], ◌∷◌, ◌++◌, map, length, drop, get_or, arith, Option, Some, None, option_map, sym, ap, subst, ◌∙◌}
use Rattle.std.specs.Prelude.{slice_get, ◌↔◌}
use Rattle.std.specs.List.{AllByRecursion}
use Rattle.std.proofs.lemmas.Option.{slice_get-map}
use Rattle.rewrite_model.specs.Things.{joined, concatenated}
use Rattle.row_matcher.specs.declared.thing.Thing.{Thing as ThingNode}
use Rattle.row_matcher.specs.View.{thing_of}

abbrev some_or : {X : Type 0} → X → Option X → X
some_or d None = d
some_or d (Some x) = x

-- the thing at a place
pub thing_there : (a : List ThingNode) (x : ℕ) (t : ThingNode) → Some t ≡ slice_get a x → slice_get (map thing_of a) x ≡ Some (thing_of t)
thing_there a x t e = slice_get-map thing_of a x ∙ ap (option_map thing_of) (sym e)

pub thing_nowhere : (a : List ThingNode) (x : ℕ) → None ≡ slice_get a x → slice_get (map thing_of a) x ≡ None
thing_nowhere a x e = slice_get-map thing_of a x ∙ ap (option_map thing_of) (sym e)

same_front : {X : Type 0} (f xs ys : List X) → f ++ xs ≡ f ++ ys → xs ≡ ys
same_front [] xs ys e = e
same_front (x ∷ f) xs ys e = same_front f xs ys (cc)

-- one part less on both sides
pub part_off : {A X : Type 0} (f : A → Option (List X)) (e : A) (es : List A) (all more : List X) → joined (f e) (Some more) ≡ Some all
    → (concatenated f (e ∷ es) ≡ Some all) ↔ (concatenated f es ≡ Some more)
part_off {X = X} f e es all more j = by (f e) (concatenated f es) j where
  by : (o q : Option (List X)) → joined o (Some more) ≡ Some all → (joined o q ≡ Some all) ↔ (q ≡ Some more)
  by None q j = absurd (cc)
  by (Some xs) None j = (λ h. absurd (cc), λ h. absurd (cc))
  by (Some xs) (Some ys) j = (λ h. ap Some (same_front xs ys more (ap (some_or all) (h ∙ sym j))), λ h. ap (joined (Some xs)) h ∙ j)

pub no_part : {A X : Type 0} (f : A → Option (List X)) (e : A) (es : List A) (all : List X) → ((more : List X) → joined (f e) (Some more) ≡ Some all → ⊥)
    → concatenated f (e ∷ es) ≡ Some all → ⊥
no_part {X = X} f e es all n h = by (concatenated f es) h where
  by : (q : Option (List X)) → joined (f e) q ≡ Some all → ⊥
  by (Some ys) h = n ys h
  by None h = none (f e) h where
    none : (o : Option (List X)) → joined o None ≡ Some all → ⊥
    none None h = cc h
    none (Some xs) h = cc h

-- ---- loops

part_next : {B A X : Type 0} (f : A → Option (List X)) (g : B → A) (es : List B) (i : ℕ) (d : B) (rest more : List X) → i < length es
    → joined (f (g (get_or es i d))) (Some more) ≡ Some rest → (concatenated f (map g (drop i es)) ≡ Some rest) ↔ (concatenated f (map g (drop (suc i) es)) ≡ Some more)
part_next f g [] i d rest more l j = absurd (omega (arith, l))
part_next f g (e ∷ es) zero d rest more l j = part_off f (g e) (map g es) rest more j
part_next f g (e ∷ es) (suc i) d rest more l j = part_next f g es i d rest more (omega (arith, l)) j

-- the same at a place of the list
pub part_at : {B A X : Type 0} (f : A → Option (List X)) (g : B → A) (es : List B) (i : ℕ) (d : B) (rest more : List X) → i < length es
    → joined (f (g (get_or es i d))) (Some more) ≡ Some rest → (concatenated f (map g (drop i es)) ≡ Some rest) ↔ (concatenated f (map g (drop (i + 1) es)) ≡ Some more)
part_at f g es i d rest more l j =
    let n : suc i ≡ i + 1 = omega arith in
    subst (λ k. (concatenated f (map g (drop i es)) ≡ Some rest) ↔ (concatenated f (map g (drop k es)) ≡ Some more)) n (part_next f g es i d rest more l j)

pub one_fails : {B A : Type 0} (P : A → Type 0) (g : B → A) (es : List B) (i : ℕ) (d : B) → i < length es → (P (g (get_or es i d)) → ⊥) → AllByRecursion P (map g (drop i es)) → ⊥
one_fails P g [] i d l n h = absurd (omega (arith, l))
one_fails P g (e ∷ es) zero d l n h = n h.0
one_fails P g (e ∷ es) (suc i) d l n h = one_fails P g es i d (omega (arith, l)) n h

pub iff_on : {A B C : Type 0} → A ↔ B → B ↔ C → A ↔ C
iff_on h k = (λ x. k.0 (h.0 x), λ x. h.1 (k.1 x))
