-- There is a run, and there is exactly one.
use Rattle.std.proofs.Common.{◌≡◌, ◌⊎◌, inl, inr, ℕ, zero, suc, ◌<◌, ◌≤◌, List, [], ◌∷◌, ◌++◌, Some, Result, Ok, Err, refl, sym, ap, subst, arith}
use Rattle.std.specs.Prelude.{slice_get}
use Rattle.mlir_tree.specs.declared.row.Row.{Row}
use Rattle.mlir_tree.specs.declared.rows.Rows.{Rows}
use Rattle.rewrite_model.specs.declared.run.Hit.{Hit}
use Rattle.rewrite_model.specs.declared.run.Order.{Order}
use Rattle.rewrite_model.specs.declared.run.Order.TheVariants.{First, Last}
use Rattle.rewrite_model.specs.Pattern.{Pattern}
use Rattle.rewrite_model.specs.Determined.{IsDetermined}
use Rattle.rewrite_model.specs.Matching.{Matches, NoneAt, IsBest}
use Rattle.rewrite_model.specs.Making.{Stop}
use Rattle.rewrite_model.specs.Step.{step}
use Rattle.rewrite_model.specs.Running.{Course, NoneAmong, ahead, IsNext, Runs, converges, is_bounded, is_stopped, goes_on}
use Rattle.rewrite_model.specs.Laws.{OneRun}
use Rattle.rewrite_model.proofs.Told.{some_or}
use Rattle.rewrite_model.proofs.Unique.{less_or_not}
use Rattle.rewrite_model.proofs.Deciding.{matches_are_decided}
use Rattle.rewrite_model.proofs.OneRun.{holds_at, at_most_one_run}

-- ---- the best pattern at an operation

abbrev Found : List Pattern → List Row → ℕ → Type 0
Found ps rows id = ((k : ℕ) × (p : Pattern) × IsBest ps rows id k p) ⊎ NoneAt ps rows id

abbrev AreDecided : List Pattern → List Row → ℕ → Type 0
AreDecided ps rows id = (k : ℕ) (p : Pattern) → slice_get ps k ≡ Some p → Matches rows p id ⊎ (Matches rows p id → ⊥)

module _ (rows : List Row) (id : ℕ) where
  later : (q : Pattern) (ps : List Pattern) (k : ℕ) (p : Pattern) → IsBest ps rows id k p → ((Matches rows q id → ⊥) ⊎ (q.benefit < p.benefit)) → IsBest (q ∷ ps) rows id (suc k) p
  later q ps k p b l = record { declared = b.declared; matches = b.matches; best = by l } where
    by : ((Matches rows q id → ⊥) ⊎ (q.benefit < p.benefit)) → (j : ℕ) (r : Pattern) → slice_get (q ∷ ps) j ≡ Some r → Matches rows r id → (r.benefit < p.benefit) ⊎ ((r.benefit ≡ p.benefit) × (suc k ≤ j))
    by (inl n) zero r e w = absurd (n (let i : q ≡ r = ap (some_or q) e in subst (λ x. Matches rows x id) (sym i) w))
    by (inr l) zero r e w = inl (let i : q ≡ r = ap (some_or q) e in subst (λ x. x.benefit < p.benefit) i l)
    by l (suc j) r e w = more (b.best j r e w) where
      more : (r.benefit < p.benefit) ⊎ ((r.benefit ≡ p.benefit) × (k ≤ j)) → (r.benefit < p.benefit) ⊎ ((r.benefit ≡ p.benefit) × (suc k ≤ suc j))
      more (inl x) = inl x
      more (inr x) = inr (x.0, omega (arith, x.1))

  front : (q : Pattern) (ps : List Pattern) → Matches rows q id → ((j : ℕ) (r : Pattern) → slice_get ps j ≡ Some r → Matches rows r id → r.benefit ≤ q.benefit) → IsBest (q ∷ ps) rows id 0 q
  front q ps w l = record { declared = refl; matches = w; best = by } where
    by : (j : ℕ) (r : Pattern) → slice_get (q ∷ ps) j ≡ Some r → Matches rows r id → (r.benefit < q.benefit) ⊎ ((r.benefit ≡ q.benefit) × (0 ≤ j))
    by zero r e v = inr (ap (λ x. (some_or q x).benefit) (sym e), omega arith)
    by (suc j) r e v = of (less_or_not r.benefit q.benefit) where
      of : (r.benefit < q.benefit) ⊎ (q.benefit ≤ r.benefit) → (r.benefit < q.benefit) ⊎ ((r.benefit ≡ q.benefit) × (0 ≤ suc j))
      of (inl x) = inl x
      of (inr x) = let y = l j r e v in inr (omega (arith, x, y), omega arith)

  best_in : (ps : List Pattern) → AreDecided ps rows id → Found ps rows id
  best_in [] d = inr (λ k p e w. absurd (cc))
  best_in (q ∷ ps) d = by (d 0 q refl) (best_in ps (λ k p e. d (suc k) p e)) where
    none : (Matches rows q id → ⊥) → NoneAt ps rows id → NoneAt (q ∷ ps) rows id
    none n r zero p e w = n (let i : q ≡ p = ap (some_or q) e in subst (λ x. Matches rows x id) (sym i) w)
    none n r (suc k) p e w = r k p e w

    by : Matches rows q id ⊎ (Matches rows q id → ⊥) → Found ps rows id → Found (q ∷ ps) rows id
    by (inr n) (inr r) = inr (none n r)
    by (inr n) (inl b) = inl (suc b.0, b.1, later q ps b.0 b.1 b.2 (inl n))
    by (inl w) (inr r) = inl (0, q, front q ps w (λ j p e v. absurd (r j p e v)))
    by (inl w) (inl b) = of (less_or_not q.benefit b.1.benefit) where
      of : (q.benefit < b.1.benefit) ⊎ (b.1.benefit ≤ q.benefit) → Found (q ∷ ps) rows id
      of (inl l) = inl (suc b.0, b.1, later q ps b.0 b.1 b.2 (inr l))
      of (inr l) = inl (0, q, front q ps w (λ j r e v. at j r (b.2.best j r e v))) where
        at : (j : ℕ) (r : Pattern) → (r.benefit < b.1.benefit) ⊎ ((r.benefit ≡ b.1.benefit) × (b.0 ≤ j)) → r.benefit ≤ q.benefit
        at j r (inl x) = omega (arith, l, x)
        at j r (inr x) = let y = x.0 in omega (arith, l, y)

-- ---- the next step

abbrev Next : Order → List Pattern → List Row → List Row → Type 0
Next order ps all rs = ((before : List Row) × (row : Row) × (after : List Row) × (rs ≡ before ++ (row ∷ after)) × NoneAmong ps all (ahead order before after) × (k : ℕ) × (p : Pattern) × IsBest ps all row.id k p) ⊎ NoneAmong ps all rs

first_in : (ps : List Pattern) (all rs : List Row) → ((id : ℕ) → Found ps all id) → Next First ps all rs
first_in ps all [] d = inr tt
first_in ps all (r ∷ rs) d = by (d r.id) (first_in ps all rs d) where
  by : Found ps all r.id → Next First ps all rs → Next First ps all (r ∷ rs)
  by (inl b) n = inl ([], r, rs, refl, tt, b.0, b.1, b.2)
  by (inr z) (inr n) = inr (z, n)
  by (inr z) (inl (before, row, after, e, n, k, p, b)) = inl (r ∷ before, row, after, ap (λ w. r ∷ w) e, (z, n), k, p, b)

last_in : (ps : List Pattern) (all rs : List Row) → ((id : ℕ) → Found ps all id) → Next Last ps all rs
last_in ps all [] d = inr tt
last_in ps all (r ∷ rs) d = by (d r.id) (last_in ps all rs d) where
  by : Found ps all r.id → Next Last ps all rs → Next Last ps all (r ∷ rs)
  by f (inl (before, row, after, e, n, k, p, b)) = inl (r ∷ before, row, after, ap (λ w. r ∷ w) e, n, k, p, b)
  by (inl b) (inr n) = inl ([], r, rs, refl, n, b.0, b.1, b.2)
  by (inr z) (inr n) = inr (z, n)

next_in : (order : Order) (ps : List Pattern) (all rs : List Row) → ((id : ℕ) → Found ps all id) → Next order ps all rs
next_in First = first_in
next_in Last = last_in

abbrev hit : ℕ → ℕ → Hit
hit k id = record { pattern = k; row = id }

module _ (order : Order) (ps : List Pattern) (d : (rows : List Row) (id : ℕ) → AreDecided ps rows id) where
  some_run : (n : ℕ) (m : Rows) → (c : Course) × Runs order ps n m c
  some_run zero m = by (next_in order ps m.rows m.rows (λ id. best_in m.rows id ps (d m.rows id))) where
    by : Next order ps m.rows m.rows → (c : Course) × Runs order ps zero m c
    by (inr z) = (_, converges z)
    by (inl (before, row, after, e, n, k, p, b)) =
        (_, is_bounded {h = hit k row.id} {p = p} (record { before = before; row = row; after = after; in_order = e; none_ahead = n; number = refl; best = b }))
  some_run (suc n) m = by (next_in order ps m.rows m.rows (λ id. best_in m.rows id ps (d m.rows id))) (some_run n) where
    by : Next order ps m.rows m.rows → ((m : Rows) → (c : Course) × Runs order ps n m c) → (c : Course) × Runs order ps (suc n) m c
    by (inr z) go = (_, converges z)
    by (inl (before, row, after, e, z, k, p, b)) go = of (step p b.matches.0 row.id m) refl where
      s : IsNext order ps m.rows (hit k row.id) p
      s = record { before = before; row = row; after = after; in_order = e; none_ahead = z; number = refl; best = b }

      of : (o : Result Rows Stop) → step p b.matches.0 row.id m ≡ o → (c : Course) × Runs order ps (suc n) m c
      of (Err x) q = (_, is_stopped {h = hit k row.id} {p = p} s b.matches.1 q)
      of (Ok m') q = let r = go m' in (_, goes_on {h = hit k row.id} {p = p} s b.matches.1 q r.1)

pub one_run : OneRun
one_run order ps all n m =
    let r = some_run order ps (λ rows id k p e. matches_are_decided p (holds_at IsDetermined ps k p all e) rows id) n m in
    (r.0, r.1, λ d s. at_most_one_run order ps all n m d r.0 s r.1)
