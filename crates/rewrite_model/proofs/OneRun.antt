-- There is at most one run.
use Rattle.std.proofs.Common.{◌≡◌, ◌⊎◌, inl, inr, ℕ, zero, suc, ◌<◌, ◌≤◌, List, [], ◌∷◌, ◌++◌, Some, Result, Ok, Err, refl, sym, ap, ◌∙◌, subst, arith}
use Rattle.std.specs.Prelude.{slice_get}
use Rattle.std.specs.List.{AllByRecursion}
use Rattle.mlir_tree.specs.declared.row.Row.{Row}
use Rattle.mlir_tree.specs.declared.rows.Rows.{Rows}
use Rattle.rewrite_model.specs.declared.run.Hit.{Hit}
use Rattle.rewrite_model.specs.declared.run.Order.{Order}
use Rattle.rewrite_model.specs.declared.run.Order.TheVariants.{First, Last}
use Rattle.rewrite_model.specs.declared.run.BoundKind.TheVariants.{Rewrites}
use Rattle.rewrite_model.specs.declared.run.Ending.TheVariants.{Bound}
use Rattle.rewrite_model.specs.Pattern.{Pattern}
use Rattle.rewrite_model.specs.Things.{Thing}
use Rattle.rewrite_model.specs.Determined.{IsDetermined, AreDetermined}
use Rattle.rewrite_model.specs.Matching.{MatchesBy, Matches, NoneAt, IsBest}
use Rattle.rewrite_model.specs.Making.{Stop}
use Rattle.rewrite_model.specs.Step.{step}
use Rattle.rewrite_model.specs.Running.{Course, ended, ending_by, taken, after_step, NoneAmong, ahead, IsNext, Runs, converges, is_bounded, is_stopped, goes_on}
use Rattle.rewrite_model.proofs.Told.{some_or}
use Rattle.rewrite_model.proofs.Unique.{at_most_one}

pub holds_at : {X : Type 0} (P : X → Type 0) (xs : List X) (k : ℕ) (x : X) → AllByRecursion P xs → slice_get xs k ≡ Some x → P x
holds_at P [] k x h e = absurd (cc)
holds_at P (y ∷ xs) zero x h e = subst P (ap (some_or y) e) h.0
holds_at P (y ∷ xs) (suc k) x h e = holds_at P xs k x h.1 e

-- a pattern matches at none of them, so not at this one
none_at : (ps : List Pattern) (all b : List Row) (r : Row) (a : List Row) → NoneAmong ps all (b ++ (r ∷ a)) → NoneAt ps all r.id
none_at ps all [] r a n = n.0
none_at ps all (x ∷ b) r a n = none_at ps all b r a n.1

module _ (order : Order) (ps : List Pattern) (all : List Row) where
  same_first : (b b' : List Row) (r r' : Row) (a a' : List Row) → b ++ (r ∷ a) ≡ b' ++ (r' ∷ a') → NoneAmong ps all b → NoneAmong ps all b'
      → (NoneAt ps all r.id → ⊥) → (NoneAt ps all r'.id → ⊥) → r ≡ r'
  same_first [] [] r r' a a' p n n' y y' = cc
  same_first [] (x ∷ b') r r' a a' p n n' y y' = absurd (y (let e : x ≡ r = cc in subst (λ w. NoneAt ps all w.id) e n'.0))
  same_first (x ∷ b) [] r r' a a' p n n' y y' = absurd (y' (let e : x ≡ r' = cc in subst (λ w. NoneAt ps all w.id) e n.0))
  same_first (x ∷ b) (z ∷ b') r r' a a' p n n' y y' = same_first b b' r r' a a' (cc) n.1 n'.1 y y'

  same_last : (b b' : List Row) (r r' : Row) (a a' : List Row) → b ++ (r ∷ a) ≡ b' ++ (r' ∷ a') → NoneAmong ps all a → NoneAmong ps all a'
      → (NoneAt ps all r.id → ⊥) → (NoneAt ps all r'.id → ⊥) → r ≡ r'
  same_last [] [] r r' a a' p n n' y y' = cc
  same_last [] (x ∷ b') r r' a a' p n n' y y' = absurd (y' (none_at ps all b' r' a' (let e : a ≡ b' ++ (r' ∷ a') = cc in subst (NoneAmong ps all) e n)))
  same_last (x ∷ b) [] r r' a a' p n n' y y' = absurd (y (none_at ps all b r a (let e : a' ≡ b ++ (r ∷ a) = cc in subst (NoneAmong ps all) e n')))
  same_last (x ∷ b) (z ∷ b') r r' a a' p n n' y y' = same_last b b' r r' a a' (cc) n n' y y'

  same_place : (o : Order) (b b' : List Row) (r r' : Row) (a a' : List Row) → b ++ (r ∷ a) ≡ b' ++ (r' ∷ a') → NoneAmong ps all (ahead o b a) → NoneAmong ps all (ahead o b' a')
      → (NoneAt ps all r.id → ⊥) → (NoneAt ps all r'.id → ⊥) → r ≡ r'
  same_place First = same_first
  same_place Last = same_last

  hits : (h : Hit) (p : Pattern) (s : IsNext order ps all h p) → NoneAt ps all s.row.id → ⊥
  hits h p s none = none h.pattern p s.best.declared (subst (λ i. Matches all p i) (sym s.number) s.best.matches)

  same_best : (id k k' : ℕ) (p p' : Pattern) → IsBest ps all id k p → IsBest ps all id k' p' → k ≡ k'
  same_best id k k' p p' s s' = by (s.best k' p' s'.declared s'.matches) (s'.best k p s.declared s.matches) where
    by : (p'.benefit < p.benefit) ⊎ ((p'.benefit ≡ p.benefit) × (k ≤ k')) → (p.benefit < p'.benefit) ⊎ ((p.benefit ≡ p'.benefit) × (k' ≤ k)) → k ≡ k'
    by (inl x) (inl y) = omega arith
    by (inl x) (inr y) = omega (arith, y.0)
    by (inr x) (inl y) = omega (arith, x.0)
    by (inr x) (inr y) = omega (arith, x.1, y.1)

  same_hit : (h h' : Hit) (p p' : Pattern) → IsNext order ps all h p → IsNext order ps all h' p' → h ≡ h'
  same_hit h h' p p' s s' =
      let r : s.row ≡ s'.row = same_place order s.before s'.before s.row s'.row s.after s'.after (sym s.in_order ∙ s'.in_order) s.none_ahead s'.none_ahead (hits h p s) (hits h' p' s') in
      let i : h.row ≡ h'.row = sym s.number ∙ (ap (λ w. w.id) r ∙ s'.number) in
      let k : h.pattern ≡ h'.pattern = same_best h.row h.pattern h'.pattern p p' s.best (subst (λ w. IsBest ps all w h'.pattern p') (sym i) s'.best) in
      λ j. record { pattern = k j; row = i j }

  same_pattern : (h h' : Hit) (p p' : Pattern) → IsNext order ps all h p → IsNext order ps all h' p' → p ≡ p'
  same_pattern h h' p p' s s' = ap (some_or p) (sym s.best.declared ∙ (ap (λ w. slice_get ps w.pattern) (same_hit h h' p p' s s') ∙ s'.best.declared))

  never : (h : Hit) (p : Pattern) (s : IsNext order ps all h p) → NoneAmong ps all all → ⊥
  never h p s n = at s.before (subst (λ w. NoneAmong ps all w) s.in_order n) where
    at : (b : List Row) → NoneAmong ps all (b ++ (s.row ∷ s.after)) → ⊥
    at [] n = hits h p s n.0
    at (x ∷ b) n = at b n.1

abbrev ok_or : Rows → Result Rows Stop → Rows
ok_or d (Ok m) = m
ok_or d (Err e) = d

abbrev err_or : Stop → Result Rows Stop → Stop
err_or d (Ok m) = d
err_or d (Err e) = e

module _ (order : Order) (ps : List Pattern) (all : AreDetermined ps) where
  same_step : (m : Rows) (h h' : Hit) (p p' : Pattern) (a a' : List Thing) → IsNext order ps m.rows h p → IsNext order ps m.rows h' p' → MatchesBy m.rows p a h.row → MatchesBy m.rows p' a' h'.row
      → step p a h.row m ≡ step p' a' h'.row m
  same_step m h h' p p' a a' n n' s s' =
      let eh = same_hit order ps m.rows h h' p p' n n' in
      let ep = same_pattern order ps m.rows h h' p p' n n' in
      let w : MatchesBy m.rows p a' h.row = subst (λ q. MatchesBy m.rows q a' h.row) (sym ep) (subst (λ q. MatchesBy m.rows p' a' q.row) (sym eh) s') in
      let ea : a ≡ a' = at_most_one p (holds_at IsDetermined ps h.pattern p all n.best.declared) m.rows h.row a a' s w in
      λ i. step (ep i) (ea i) (eh i).row m

  pub at_most_one_run : (n : ℕ) (m : Rows) (c d : Course) → Runs order ps n m c → Runs order ps n m d → c ≡ d
  at_most_one_run n m _ _ (converges z) (converges z') = refl
  at_most_one_run _ m _ _ (converges z) (is_bounded {h = h} {p = p} s) = absurd (never order ps m.rows h p s z)
  at_most_one_run _ m _ _ (converges z) (is_stopped {h = h} {p = p} s ma e) = absurd (never order ps m.rows h p s z)
  at_most_one_run _ m _ _ (converges z) (goes_on {h = h} {p = p} s ma e r) = absurd (never order ps m.rows h p s z)
  at_most_one_run _ m _ _ (is_bounded {h = h} {p = p} s) (converges z) = absurd (never order ps m.rows h p s z)
  at_most_one_run _ m _ _ (is_bounded {h = h} {p = p} s) (is_bounded {h = h'} {p = p'} s') =
      ap (λ w. ended (Bound Rewrites w) m) (same_hit order ps m.rows h h' p p' s s')
  at_most_one_run _ m _ _ (is_stopped {h = h} {p = p} s ma e) (converges z) = absurd (never order ps m.rows h p s z)
  at_most_one_run _ m _ _ (is_stopped {h = h} {p = p} {a = a} {e = x} s ma e) (is_stopped {h = h'} {p = p'} {a = a'} {e = x'} s' ma' e') =
      let eh = same_hit order ps m.rows h h' p p' s s' in
      let ex : x ≡ x' = ap (err_or x) (sym e ∙ (same_step m h h' p p' a a' s s' ma ma' ∙ e')) in
      λ i. ended (ending_by (eh i) (ex i)) m
  at_most_one_run _ m _ _ (is_stopped {h = h} {p = p} {a = a} s ma e) (goes_on {h = h'} {p = p'} {a = a'} s' ma' e' r) =
      let es = same_step m h h' p p' a a' s s' ma ma' in absurd (cc)
  at_most_one_run _ m _ _ (goes_on {h = h} {p = p} s ma e r) (converges z) = absurd (never order ps m.rows h p s z)
  at_most_one_run _ m _ _ (goes_on {h = h} {p = p} {a = a} s ma e r) (is_stopped {h = h'} {p = p'} {a = a'} s' ma' e') =
      let es = same_step m h h' p p' a a' s s' ma ma' in absurd (cc)
  at_most_one_run (suc n) m _ _ (goes_on {m' = m1} {h = h} {p = p} {a = a} {c = c} s ma e r) (goes_on {m' = m2} {h = h'} {p = p'} {a = a'} {c = c'} s' ma' e' r') =
      let eh = same_hit order ps m.rows h h' p p' s s' in
      let ep = same_pattern order ps m.rows h h' p p' s s' in
      let em : m1 ≡ m2 = ap (ok_or m1) (sym e ∙ (same_step m h h' p p' a a' s s' ma ma' ∙ e')) in
      let ec : c ≡ c' = at_most_one_run n m1 c c' r (subst (λ w. Runs order ps n w c') (sym em) r') in
      λ i. after_step (taken (ep i) (eh i) m (em i)) (ec i)
