-- The best pattern at an operation, one pattern after another.
use Rattle.std.proofs.Common.{◌≡◌, ◌<◌, ◌≤◌, ℕ, zero, suc, ◌+◌, ◌-◌, true, false, ◌⊎◌, inl, inr, List, [], ◌∷◌, ◌++◌, length, map, slice_get, slice_index_or, Option, Some, None, refl, sym, ap, subst, ◌∙◌, arith, ⊎_elim}
use Rattle.std.proofs.Math.Logic.{∥∥₁_elim}
use Rattle.std.specs.Prelude.{IfSome, IfNone, take, drop}
use Rattle.std.specs.Option.{option_map_or}
use Rattle.std.proofs.Math.Seq.{drop-cons}
use Rattle.std.proofs.lemmas.List.{drop_all}
use Rattle.std.proofs.lemmas.Bool.Decides.{nat_tests}
use Rattle.mlir_tree.specs.declared.row.Row.{Row}
use Rattle.rewrite_model.specs.Pattern.{Pattern}
use Rattle.rewrite_model.specs.Matching.{MatchesBy, Matches, NoneAt, IsBest}
use Rattle.rewrite_model.specs.Running.{ahead, NoneAmong}
use Rattle.rewrite_model.specs.Determined.{IsDetermined, AreDetermined}
use Rattle.row_matcher.specs.View.{thing_of}
use Rattle.pdll_patterns.specs.declared.pattern.Pattern.{Pattern as PatternNode}
use Rattle.pdll_patterns.specs.View.{pattern_of}
use Rattle.row_matcher.specs.declared.thing.Thing.{Thing as ThingNode}
use Rattle.rewrite_model.specs.declared.run.Order.{Order}
use Rattle.greedy_driver.specs.declared.next.Found.{Found}
use Rattle.greedy_driver.specs.Found.{IsBestOf, NoneOf, BestOf, IsNextFound, benefit_at, is_as_good}

pub when_some : {A : Type 0} (P : A → Type 0) (o : Option A) (a : A) → o ≡ Some a → IfSome o P → P a
when_some P o a e h = subst (λ x. IfSome x P) e h

pub when_none : {A : Type 0} (P : Type 0) (o : Option A) → o ≡ None → IfNone o P → P
when_none P o e h = subst (λ x. IfNone x P) e h

determined_at : (ps : List Pattern) (k : ℕ) (q : Pattern) → slice_get ps k ≡ Some q → AreDetermined ps → IsDetermined q
determined_at [] k q e d = absurd (cc)
determined_at (p ∷ ps) zero q e d = subst IsDetermined (some_is p q e) d.0 where
  some_is : (p q : Pattern) → Some p ≡ Some q → p ≡ q
  some_is p q e = cc
determined_at (p ∷ ps) (suc k) q e d = determined_at ps k q e d.1

never : (x y : ⊥) → x ≡ y
never x y = elim x [ ]

-- that a determined pattern doesn't match, of a list that is determined in whatever way
pub none_matches : (ps : List Pattern) (rows : List Row) (id k : ℕ) (q : Pattern) → ∥ AreDetermined ps ∥₁ → slice_get ps k ≡ Some q
    → (IsDetermined q → Matches rows q id → ⊥) → Matches rows q id → ⊥
none_matches ps rows id k q d e none m = ∥∥₁_elim d never (λ ds. none (determined_at ps k q e ds) m)

same : (ps : List Pattern) (j k : ℕ) (p q : Pattern) → j ≡ k → slice_get ps j ≡ Some p → slice_get ps k ≡ Some q → p ≡ q
same ps j k p q e f g = let s : slice_get ps j ≡ Some q = subst (λ (n : ℕ). slice_get ps n ≡ Some q) (sym e) g in cc

pub at_place : (ps : List PatternNode) (k : ℕ) (d : PatternNode) → k < length ps → slice_get (map pattern_of ps) k ≡ Some (pattern_of (slice_index_or ps k d))
at_place [] k d l = absurd (omega (arith, l))
at_place (p ∷ ps) zero d l = refl
at_place (p ∷ ps) (suc k) d l = at_place ps k d (omega (arith, l))

order : (a b : ℕ) → (a < b) ⊎ (b ≤ a)
order zero zero = inr (omega arith)
order zero (suc b) = inl (omega arith)
order (suc a) zero = inr (omega arith)
order (suc a) (suc b) = ⊎_elim (λ l. inl (omega (arith, l))) (λ l. inr (omega (arith, l))) (order a b)

benefit_of : (ps : List Pattern) (k : ℕ) (p : Pattern) → slice_get ps k ≡ Some p → benefit_at ps k ≡ p.benefit
benefit_of ps k p e = ap (λ o. option_map_or (λ q. q.benefit) o 0) e

-- the pattern at the place is not better
pub kept : (ps : List Pattern) (rows : List Row) (id at : ℕ) (q : Pattern) (o : Option Found) → slice_get ps at ≡ Some q
    → is_as_good ps o at ≡ true → BestOf ps rows id at o → BestOf ps rows id (at + 1) o
kept ps rows id at q None e good b = absurd (cc)
kept ps rows id at q (Some f) e good b = (
  b.0,
  record {
    found = b.1.found;
    within = omega (arith, b.1.within);
    best = λ j r l g m. ⊎_elim
        (λ before. b.1.best j r before g m)
        (λ here. at_it j r (omega (arith, l, here)) g)
        (order j at);
  },
) where
  p : Pattern
  p = b.0

  less : benefit_at ps at ≤ benefit_at ps f.at
  less = grind (arith, nat_tests)

  at_it : (j : ℕ) (r : Pattern) → j ≡ at → slice_get ps j ≡ Some r → (r.benefit < b.0.benefit) ⊎ ((r.benefit ≡ b.0.benefit) × (f.at ≤ j))
  at_it j r here g =
      let s : r ≡ q = same ps j at r q here g e in
      let t : r.benefit ≡ benefit_at ps at = ap (λ x. x.benefit) s ∙ sym (benefit_of ps at q e) in
      let u : benefit_at ps f.at ≡ b.0.benefit = benefit_of ps f.at b.0 b.1.found.declared in
      ⊎_elim
      (λ l. inl l)
      (λ l. inr (omega (arith, l, t, u, less), omega (arith, here, b.1.within)))
      (order r.benefit b.0.benefit)

-- the pattern at the place doesn't match
pub missed : (ps : List Pattern) (rows : List Row) (id at : ℕ) (q : Pattern) (o : Option Found) → slice_get ps at ≡ Some q
    → (Matches rows q id → ⊥) → BestOf ps rows id at o → BestOf ps rows id (at + 1) o
missed ps rows id at q None e none b = λ j r l g m. ⊎_elim
    (λ before. b j r before g m)
    (λ here. none (subst (λ x. Matches rows x id) (same ps j at r q (omega (arith, l, here)) g e) m))
    (order j at)
missed ps rows id at q (Some f) e none b = (
  b.0,
  record {
    found = b.1.found;
    within = omega (arith, b.1.within);
    best = λ j r l g m. ⊎_elim
        (λ before. b.1.best j r before g m)
        (λ here. absurd_from (none (subst (λ x. Matches rows x id) (same ps j at r q (omega (arith, l, here)) g e) m)))
        (order j at);
  },
) where
  absurd_from : {A : Type 0} → ⊥ → A
  absurd_from x = elim x [ ]

-- the pattern at the place matches, and has a greater benefit than what was found
pub bettered : (ps : List Pattern) (rows : List Row) (id at : ℕ) (q : Pattern) (o : Option Found) (given : List ThingNode) → slice_get ps at ≡ Some q
    → is_as_good ps o at ≡ false → MatchesBy rows q (map thing_of given) id → BestOf ps rows id at o
    → BestOf ps rows id (at + 1) (Some (record { at = at; given = given }))
bettered ps rows id at q None given e good m b = (
  q,
  record {
    found = record { declared = e; matches = m };
    within = omega arith;
    best = λ j r l g n. ⊎_elim
        (λ before. absurd_from (b j r before g n))
        (λ here. inr (ap (λ x. x.benefit) (same ps j at r q (omega (arith, l, here)) g e), omega (arith, here)))
        (order j at);
  },
) where
  absurd_from : {A : Type 0} → ⊥ → A
  absurd_from x = elim x [ ]
bettered ps rows id at q (Some f) given e good m b = (
  q,
  record {
    found = record { declared = e; matches = m };
    within = omega arith;
    best = λ j r l g n. ⊎_elim
        (λ before. inl (⊎_elim (λ lower. omega (arith, lower, more)) (λ equal. omega (arith, equal.0, more)) (b.1.best j r before g n)))
        (λ here. inr (ap (λ x. x.benefit) (same ps j at r q (omega (arith, l, here)) g e), omega (arith, here)))
        (order j at);
  },
) where
  above : benefit_at ps f.at < benefit_at ps at
  above = grind (arith, nat_tests)

  more : b.0.benefit < q.benefit
  more = omega (arith, above, benefit_of ps f.at b.0 b.1.found.declared, benefit_of ps at q e)

pub nothing_yet : (ps : List Pattern) (rows : List Row) (id : ℕ) → BestOf ps rows id 0 None
nothing_yet ps rows id = λ j q l e m. absurd (omega (arith, l))

pub inside : (ps : List PatternNode) (k : ℕ) (p : Pattern) → slice_get (map pattern_of ps) k ≡ Some p → k < length ps
inside [] k p e = absurd (cc)
inside (q ∷ ps) zero p e = omega arith
inside (q ∷ ps) (suc k) p e = let l = inside ps k p e in omega (arith, l)

-- all patterns were tried
pub none_at : (ps : List PatternNode) (rows : List Row) (id : ℕ) → NoneOf (map pattern_of ps) rows id (length ps) → NoneAt (map pattern_of ps) rows id
none_at ps rows id none k p e m = none k p (inside ps k p e) e m

pub is_best : (ps : List PatternNode) (rows : List Row) (id : ℕ) (f : Found) (p : Pattern) → IsBestOf (map pattern_of ps) rows id (length ps) f p → IsBest (map pattern_of ps) rows id f.at p
is_best ps rows id f p b = record {
  declared = b.found.declared;
  matches = (map thing_of f.given, b.found.matches);
  best = λ j q e m. b.best j q (inside ps j q e) e m;
}

-- the next row at which one matches
pub next_here : (order : Order) (ps : List PatternNode) (rows before after : List Row) (r : Row) (f : Found) → rows ≡ before ++ (r ∷ after) → NoneAmong (map pattern_of ps) rows (ahead order before after)
    → BestOf (map pattern_of ps) rows r.id (length ps) (Some f) → IsNextFound order (map pattern_of ps) rows (Some (r.id, f))
next_here order ps rows before after r f e none b = (
  b.0,
  record {
    before = before;
    row = r;
    after = after;
    in_order = e;
    none_ahead = none;
    number = refl;
    best = is_best ps rows r.id f b.0 b.1;
  },
  b.1.found,
)

cut_at : (rows : List Row) (k : ℕ) (d : Row) → k < length rows → rows ≡ take k rows ++ (slice_index_or rows k d ∷ drop (suc k) rows)
cut_at [] k d l = absurd (omega (arith, l))
cut_at (r ∷ rows) zero d l = refl
cut_at (r ∷ rows) (suc k) d l = ap (λ xs. r ∷ xs) (cut_at rows k d (omega (arith, l)))

one_more_at : (ps : List Pattern) (all rows : List Row) (k : ℕ) (d : Row) → k < length rows → NoneAmong ps all (take k rows) → NoneAt ps all (slice_index_or rows k d).id → NoneAmong ps all (take (suc k) rows)
one_more_at ps all [] k d l none here = absurd (omega (arith, l))
one_more_at ps all (r ∷ rows) zero d l none here = (here, tt)
one_more_at ps all (r ∷ rows) (suc k) d l none here = (none.0, one_more_at ps all rows k d (omega (arith, l)) none.1 here)

next_is : (k : ℕ) → suc k ≡ k + 1
next_is k = omega arith

pub cut : (rows : List Row) (k : ℕ) (d : Row) → k < length rows → rows ≡ take k rows ++ (slice_index_or rows k d ∷ drop (k + 1) rows)
cut rows k d l = subst (λ n. rows ≡ take k rows ++ (slice_index_or rows k d ∷ drop n rows)) (next_is k) (cut_at rows k d l)

pub one_more : (ps : List Pattern) (all rows : List Row) (k : ℕ) (d : Row) → k < length rows → NoneAmong ps all (take k rows) → NoneAt ps all (slice_index_or rows k d).id → NoneAmong ps all (take (k + 1) rows)
one_more ps all rows k d l none here = subst (λ n. NoneAmong ps all (take n rows)) (next_is k) (one_more_at ps all rows k d l none here)

-- ---- from the end

pub none_behind : (ps : List Pattern) (all rows : List Row) (k : ℕ) → length rows ≤ k → NoneAmong ps all (drop k rows)
none_behind ps all rows k l = subst (NoneAmong ps all) (sym (drop_all k rows l)) tt

pub one_before : (ps : List Pattern) (all rows : List Row) (k : ℕ) (d : Row) → 0 < k → k - 1 < length rows → NoneAmong ps all (drop k rows) → NoneAt ps all (slice_index_or rows (k - 1) d).id
    → NoneAmong ps all (drop (k - 1) rows)
one_before ps all rows k d some within none here =
    let next : suc (k - 1) ≡ k = omega (arith, some) in
    subst (NoneAmong ps all) (sym (drop-cons rows (k - 1) d within)) (here, subst (λ n. NoneAmong ps all (drop n rows)) (sym next) none)
