-- Values by their places in a list without repeats.
use Rattle.std.proofs.Common.{◌≡◌, ℕ, zero, suc, Bool, true, false, List, [], ◌∷◌, ◌++◌, refl, ap, sym, subst, ◌∙◌, inl, inr, true≢false, ◌⊎◌, ◌||◌, if◌then◌else◌, slice_get, length, Some, None, Option}
use Rattle.std.specs.List.{IsDistinct, AllByRecursion, list_any, position}
use Rattle.std.proofs.lemmas.List.Quantifiers.{position-Some}
use Rattle.std.proofs.lemmas.Option.{slice_get-get_or}
use Rattle.std.proofs.lemmas.Map.Keys.{IsDistinct-head, IsDistinct-tail}
use Rattle.indexmap.specs.IndexSet.{insert_key}
use Rattle.attr_pool.specs.Lists.{AreApart, IsAbsent, Interns}

pub some_same : {A : Type 0} {x y : A} → Some x ≡ Some y → x ≡ y
some_same {A} {x} {y} p = ap (or_this x) p
  where
    or_this : A → Option A → A
    or_this d None = d
    or_this d (Some z) = z

pub not_none : {A : Type 0} {x : A} → None ≡ Some x → ⊥
not_none p = absurd (cc)

pub at_each : {A : Type 0} (P : A → Type 0) (xs : List A) (i : ℕ) (x : A) → AllByRecursion P xs → slice_get xs i ≡ Some x → P x
at_each P [] i x all p = absurd (not_none p)
at_each P (y ∷ ys) zero x all p = subst P (some_same p) all.0
at_each P (y ∷ ys) (suc i) x all p = at_each P ys i x all.1 p

pub last_place : {A : Type 0} (xs : List A) (x : A) → slice_get (xs ++ x ∷ []) (length xs) ≡ Some x
last_place [] x = refl
last_place (y ∷ ys) x = last_place ys x

module _ {A : Type 0} (eq : A → A → Bool) (itself : (x : A) → eq x x ≡ true) (same : (x y : A) → eq x y ≡ true → x ≡ y) where
  pub apart : (xs : List A) → IsDistinct eq xs → AreApart xs
  apart [] d i j x p q = absurd (not_none p)
  apart (y ∷ ys) d zero zero x p q = refl
  apart (y ∷ ys) d zero (suc j) x p q =
      absurd (true≢false (sym (itself x) ∙ (ap (λ z. eq z x) (sym (some_same p)) ∙ at_each (λ z. eq y z ≡ false) ys j x (IsDistinct-head eq y ys d) q)))
  apart (y ∷ ys) d (suc i) zero x p q =
      absurd (true≢false (sym (itself x) ∙ (ap (λ z. eq z x) (sym (some_same q)) ∙ at_each (λ z. eq y z ≡ false) ys i x (IsDistinct-head eq y ys d) p)))
  apart (y ∷ ys) d (suc i) (suc j) x p q = ap suc (apart ys (IsDistinct-tail eq y ys d) i j x p q)

  -- a value that stands there passes the test
  any_at : (x : A) (xs : List A) (i : ℕ) → slice_get xs i ≡ Some x → list_any (eq x) xs ≡ true
  any_at x [] i p = absurd (not_none p)
  any_at x (y ∷ ys) zero p = by (eq x y) (ap (eq x) (some_same p) ∙ itself x)
    where
      by : (b : Bool) → b ≡ true → (b || list_any (eq x) ys) ≡ true
      by true e = refl
      by false e = absurd (true≢false (sym e))
  any_at x (y ∷ ys) (suc i) p = by (eq x y) (any_at x ys i p)
    where
      by : (b : Bool) → list_any (eq x) ys ≡ true → (b || list_any (eq x) ys) ≡ true
      by true e = refl
      by false e = e

  pub found : (x : A) (xs : List A) (i : ℕ) → position (eq x) xs ≡ Some i → Interns xs xs x i
  found x xs i p =
      let (within, passes, first) = position-Some (eq x) xs i x p in
      record { here = slice_get-get_or xs i x within ∙ ap Some (sym (same x _ passes)); kept = inl refl }

  pub added : (x : A) (old new : List A) (i : ℕ) (k : A) → new ≡ insert_key eq old x → slice_get new i ≡ Some k → eq x k ≡ true → Interns old new x i
  added x old new i k e at passes = record { here = at ∙ ap Some (sym (same x k passes)); kept = by (list_any (eq x) old) refl e }
    where
      by : (b : Bool) → list_any (eq x) old ≡ b → new ≡ (if b then old else old ++ x ∷ []) → (new ≡ old) ⊎ (IsAbsent x old × (new ≡ old ++ x ∷ []))
      by true q n = inl n
      by false q n = inr (λ j p. true≢false (sym (any_at x old j p) ∙ q), n)
