-- A determined pattern matches at an operation by at most one assignment.
use Rattle.std.proofs.Common.{◌≡◌, ◌⊎◌, inl, inr, ℕ, zero, suc, ◌<◌, ◌≤◌, Bool, true, false, List, [], ◌∷◌, map, length, Option, Some, None, refl, sym, ap, ◌∙◌, arith}
use Rattle.std.specs.Prelude.{slice_get, nat_lt}
use Rattle.std.proofs.lemmas.Bool.Decides.{nat_tests}
use Rattle.std.proofs.lemmas.Option.{slice_get_past}
use Rattle.mlir_tree.specs.declared.row.Row.{Row}
use Rattle.native_set.specs.declared.native.Kind.{Kind}
use Rattle.rewrite_model.specs.Pattern.{Pattern}
use Rattle.rewrite_model.specs.Determined.{IsDetermined}
use Rattle.rewrite_model.specs.Things.{Thing, kind_of}
use Rattle.rewrite_model.specs.Matching.{MatchesBy}
use Rattle.rewrite_model.specs.Laws.{AtMostOneAssignment}
use Rattle.rewrite_model.proofs.Told.{some_or, told, told_right, same_length}

pub is_less : (x y : ℕ) → nat_lt x y ≡ true → x < y
is_less x y p = grind (arith, nat_tests)

pub is_not : (x y : ℕ) → nat_lt x y ≡ false → y ≤ x
is_not x y p = grind (arith, nat_tests)

unfoldable pub less_or_not : (x y : ℕ) → (x < y) ⊎ (y ≤ x)
less_or_not x y = by (nat_lt x y) refl where
  by : (b : Bool) → nat_lt x y ≡ b → (x < y) ⊎ (y ≤ x)
  by true p = inl (is_less x y p)
  by false p = inr (is_not x y p)

-- ---- a list by its places

abbrev pub listed_with : {X : Type 0} → Option X → Option (List X) → Option (List X)
listed_with (Some x) (Some xs) = Some (x ∷ xs)
listed_with x xs = None

abbrev pub listed : {X : Type 0} → ℕ → (ℕ → Option X) → Option (List X)
listed zero f = Some []
listed (suc n) f = listed_with (f 0) (listed n (λ k. f (suc k)))

listed_all : {X : Type 0} (xs : List X) → listed (length xs) (slice_get xs) ≡ Some xs
listed_all [] = refl
listed_all (x ∷ xs) = ap (listed_with (Some x)) (listed_all xs)

-- ---- what is told, at each number

abbrev pub told_by : (rows : List Row) (p : Pattern) → IsDetermined p → (id x : ℕ) → (x < length p.kinds) ⊎ (length p.kinds ≤ x) → Option Thing
told_by rows p d id x (inl l) = told rows p.kinds p.demands p.root id x (d.each x l)
told_by rows p d id x (inr l) = None

abbrev pub told_at : List Row → (p : Pattern) → IsDetermined p → ℕ → ℕ → Option Thing
told_at rows p d id x = told_by rows p d id x (less_or_not x (length p.kinds))

pub length_fits : (a : List Thing) (ks : List Kind) → map kind_of a ≡ ks → length a ≡ length ks
length_fits a ks e = sym (same_length kind_of a) ∙ ap length e

is_told : (rows : List Row) (p : Pattern) (d : IsDetermined p) (id : ℕ) (a : List Thing) → MatchesBy rows p a id → (x : ℕ) → slice_get a x ≡ told_at rows p d id x
is_told rows p d id a m x = by (less_or_not x (length p.kinds)) where
  by : (o : (x < length p.kinds) ⊎ (length p.kinds ≤ x)) → slice_get a x ≡ told_by rows p d id x o
  by (inl l) = told_right rows p id a d.ranges m x (d.each x l)
  by (inr l) = slice_get_past a x (let e = length_fits a p.kinds m.assigned.kinds_fit in omega (arith, e, l))

-- the one list that can be the assignment
abbrev pub candidate : List Row → (p : Pattern) → IsDetermined p → ℕ → Option (List Thing)
candidate rows p d id = listed (length p.kinds) (told_at rows p d id)

pub is_candidate : (rows : List Row) (p : Pattern) (d : IsDetermined p) (id : ℕ) (a : List Thing) → MatchesBy rows p a id → candidate rows p d id ≡ Some a
is_candidate rows p d id a m =
    (λ i. listed (length p.kinds) (λ x. sym (is_told rows p d id a m x) i))
    ∙ (ap (λ n. listed n (slice_get a)) (sym (length_fits a p.kinds m.assigned.kinds_fit)) ∙ listed_all a)

pub at_most_one : AtMostOneAssignment
at_most_one p d rows id a b m n = ap (some_or a) (sym (is_candidate rows p d id a m) ∙ is_candidate rows p d id b n)
