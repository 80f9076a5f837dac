-- Rows by their places, and the regions around a row.
use Rattle.std.proofs.Common.{◌≡◌, ◌⊎◌, inl, inr, ℕ, zero, suc, ◌<◌, Bool, true, false, ◌||◌, List, [], ◌∷◌, length, get_or, Some, None, refl, sym, ap, ◌∙◌, arith, eq-eqb}
use Rattle.std.specs.Prelude.{◌==◌, nat_lt}
use Rattle.std.proofs.lemmas.Bool.{eqb-true}
use Rattle.std.proofs.lemmas.Bool.Decides.{nat_tests}
use Rattle.mlir_tree.specs.declared.row.Home.{Home}
use Rattle.mlir_tree.specs.declared.row.Row.{Row}
use Rattle.mlir_tree.specs.Module.{has_row, is_earlier, enclosing}
use Rattle.mlir_tree.specs.WellFormed.{AreDistinct, AreNested}
use Rattle.row_index.specs.Walking.{around_place, number_at}
use Rattle.row_index.proofs.Searching.{within, read_at}
use Rattle.row_index.proofs.Walks.{enclosed_at, outer_home, no_home, not_later, not_earlier, earlier_place, home_before, home_there}

pub true_or_false : (b : Bool) → (b ≡ true) ⊎ (b ≡ false)
true_or_false true = inl refl
true_or_false false = inr refl

pub not_both : (b : Bool) → b ≡ true → b ≡ false → ⊥
not_both true p q = cc
not_both false p q = cc

-- a number that a row has stands at a place
pub place_of : (rows : List Row) (n : ℕ) → has_row rows n ≡ true → (p : ℕ) × (number_at rows p ≡ Some n)
place_of [] n h = absurd (cc)
place_of (r ∷ rows) n h = by (r.id == n) refl h (place_of rows n) where
  by : (b : Bool) → (r.id == n) ≡ b → (b || has_row rows n) ≡ true → (has_row rows n ≡ true → (p : ℕ) × (number_at rows p ≡ Some n)) → (p : ℕ) × (number_at (r ∷ rows) p ≡ Some n)
  by true e h go = (0, ap Some (eqb-true r.id n e))
  by false e h go = let q = go h in (suc q.0, q.1)

pub place_has : (rows : List Row) (n p : ℕ) → number_at rows p ≡ Some n → has_row rows n ≡ true
place_has [] n p e = absurd (cc)
place_has (r ∷ rows) n zero e = ap (λ b. b || has_row rows n) (is e) where
  is : Some r.id ≡ Some n → (r.id == n) ≡ true
  is e = eq-eqb r.id n (cc)
place_has (r ∷ rows) n (suc p) e = by (r.id == n) (place_has rows n p e) where
  by : (b : Bool) → has_row rows n ≡ true → (b || has_row rows n) ≡ true
  by true h = refl
  by false h = h

pub earlier_is_row : (rows : List Row) (d u : ℕ) → is_earlier rows d u ≡ true → has_row rows d ≡ true
earlier_is_row rows d u e = by (true_or_false (has_row rows d)) where
  by : (has_row rows d ≡ true) ⊎ (has_row rows d ≡ false) → has_row rows d ≡ true
  by (inl h) = h
  by (inr h) = absurd (not_both (is_earlier rows d u) e (not_earlier rows d u h))

pub later_is_row : (rows : List Row) (d u : ℕ) → is_earlier rows d u ≡ true → has_row rows u ≡ true
later_is_row rows d u e = by (true_or_false (has_row rows u)) where
  by : (has_row rows u ≡ true) ⊎ (has_row rows u ≡ false) → has_row rows u ≡ true
  by (inl h) = h
  by (inr h) = absurd (not_both (is_earlier rows d u) e (not_later rows d u h))

module _ (rows : List Row) (apart : AreDistinct rows) where
  pub earlier_less : (i j d u : ℕ) → number_at rows i ≡ Some d → number_at rows j ≡ Some u → is_earlier rows d u ≡ true → i < j
  earlier_less i j d u p q e = less (sym (earlier_place rows i j d u apart p q) ∙ e) where
    less : nat_lt i j ≡ true → i < j
    less h = grind (arith, nat_tests)

  pub less_earlier : (i j d u : ℕ) → number_at rows i ≡ Some d → number_at rows j ≡ Some u → i < j → is_earlier rows d u ≡ true
  less_earlier i j d u p q l = earlier_place rows i j d u apart p q ∙ less where
    less : nat_lt i j ≡ true
    less = grind (arith, nat_tests)

  module _ (nested : AreNested rows) where
    -- The row at a place has a home: the regions around it are that one, and those around its row, which stands before.
    pub around_home : (j u : ℕ) (h : Home) (d : Row) → number_at rows j ≡ Some u → (get_or rows j d).home ≡ Some h
        → (p : ℕ) × (number_at rows p ≡ Some h.row) × (p < j) × (enclosing rows u ≡ h ∷ enclosing rows h.row)
    around_home j u h d at is = by (true_or_false (has_row rows h.row)) where
      fits : j < length rows
      fits = within rows j u at

      by : (has_row rows h.row ≡ true) ⊎ (has_row rows h.row ≡ false) → (p : ℕ) × (number_at rows p ≡ Some h.row) × (p < j) × (enclosing rows u ≡ h ∷ enclosing rows h.row)
      by (inr none) = absurd (home_there rows j h d nested fits is none)
      by (inl there) =
          let q = place_of rows h.row there in
          let l = home_before rows j q.0 h d apart nested fits is q.1 in
          let e : enclosing rows u ≡ around_place rows j = ap (enclosing rows) (sym (read_at rows j u d at fits)) ∙ enclosed_at rows j d apart fits in
          let f : enclosing rows h.row ≡ around_place rows q.0 = ap (enclosing rows) (sym (read_at rows q.0 h.row d q.1 (within rows q.0 h.row q.1))) ∙ enclosed_at rows q.0 d apart (within rows q.0 h.row q.1) in
          (q.0, q.1, l, e ∙ (outer_home rows j q.0 h d apart fits is q.1 l ∙ ap (λ hs. h ∷ hs) (sym f)))

    pub around_none : (j u : ℕ) (d : Row) → number_at rows j ≡ Some u → (get_or rows j d).home ≡ None → enclosing rows u ≡ []
    around_none j u d at is =
        let fits = within rows j u at in
        ap (enclosing rows) (sym (read_at rows j u d at fits)) ∙ (enclosed_at rows j d apart fits ∙ no_home rows j d fits is)
