-- One turn of the run.
use Rattle.std.proofs.Common.{◌≡◌, ◌<◌, ◌-◌, ℕ, zero, suc, List, [], ◌∷◌, ◌++◌, map, slice_get, Option, Some, Result, Ok, Err, sym, ap, subst, ◌∙◌, arith}
use Rattle.std.proofs.lemmas.List.{append_assoc}
use Rattle.mlir_tree.specs.declared.rows.Rows.{Rows}
use Rattle.mlir_tree.specs.declared.refusal.Refusal.{Refusal}
use Rattle.mlir_tree.specs.declared.refusal.Refusal.TheVariants.{Fault}
use Rattle.rewrite_model.specs.declared.run.Hit.{Hit}
use Rattle.rewrite_model.specs.declared.run.Order.{Order}
use Rattle.rewrite_model.specs.declared.run.Ending.TheVariants.{Bound}
use Rattle.rewrite_model.specs.declared.run.BoundKind.TheVariants.{Rewrites}
use Rattle.rewrite_model.specs.Taken.{Taken, KeepsOrder, step_of}
use Rattle.rewrite_model.specs.Pattern.{Pattern}
use Rattle.rewrite_model.specs.Matching.{MatchesBy}
use Rattle.rewrite_model.specs.Making.{Stop, Outcome}
use Rattle.rewrite_model.specs.Step.{step, made_numbers, removed_numbers}
use Rattle.rewrite_model.specs.Running.{Course, ended, ending_by, taken, after_step, IsNext, Runs, is_bounded, is_stopped, goes_on, Reaches, stays, steps_on}
use Rattle.row_matcher.specs.View.{thing_of}
use Rattle.rewrite_step.specs.View.{stop_of}
use Rattle.rewrite_step.specs.Ends.{Ends}
use Rattle.rewrite_step.specs.declared.stop.Stop.{Stop as StopNode}
use Rattle.greedy_driver.specs.declared.next.Found.{Found}
use Rattle.greedy_driver.specs.Found.{hit_of, IsNextFound}
use Rattle.greedy_driver.specs.Course.{Goes, behind}

pub keeps : (p : Pattern) (h : Hit) (m n : Rows) (name made removed : List ℕ) → name ≡ p.name → made ≡ made_numbers m n → removed ≡ removed_numbers m n
    → KeepsOrder (taken p h m n) → KeepsOrder (step_of h.pattern name h.row made removed)
keeps p h m n name made removed e f g k = subst KeepsOrder (sym (λ i. step_of h.pattern (e i) h.row (f i) (g i))) k

pub stopped : {A : Type 0} (o : Outcome Rows) (r : Refusal StopNode) (s : StopNode) → ◌≡◌ {A = Result A (Refusal StopNode)} (Err r) (Err (Fault s)) → Ends (λ (m : Rows). m) o (Err r) → o ≡ Err (stop_of s)
stopped o r s e h = subst (λ x. Ends (λ (m : Rows). m) o (Err x)) (fault_is r (Fault s) e) h where
  fault_is : {A : Type 0} (x y : Refusal StopNode) → ◌≡◌ {A = Result A (Refusal StopNode)} (Err x) (Err y) → x ≡ y
  fault_is x y e = cc

-- ---- what the run does next

pub bounded : (order : Order) (ps : List Pattern) (m : Rows) (left : ℕ) (h : Hit) (row : ℕ) (f : Found) → left ≡ 0 → h ≡ hit_of f.at row → IsNextFound order ps m.rows (Some (row, f))
    → Runs order ps left m (ended (Bound Rewrites h) m)
bounded order ps m left h row f z e x = subst (λ n. Runs order ps n m (ended (Bound Rewrites h) m)) (sym z) (is_bounded {p = x.0} (subst (λ k. IsNext order ps m.rows k x.0) (sym e) x.1))

hit_is : (n m row : ℕ) → n ≡ m → hit_of n row ≡ hit_of m row
hit_is n m row e = ap (λ k. hit_of k row) e

pub bounded_here : (order : Order) (ps : List Pattern) (m : Rows) (left n row : ℕ) (f : Found) → left ≡ 0 → n ≡ f.at → IsNextFound order ps m.rows (Some (row, f))
    → Runs order ps left m (ended (Bound Rewrites (hit_of n row)) m)
bounded_here order ps m left n row f z e x = bounded order ps m left (hit_of n row) row f z (hit_is n f.at row e) x

pub same_rows : (order : Order) (ps : List Pattern) (left : ℕ) (m n : Rows) → n ≡ m → Reaches order ps left m n
same_rows order ps left m n e = subst (Reaches order ps left m) (sym e) stays

pub goes : (order : Order) (ps : List Pattern) (m n : Rows) (k row : ℕ) (q : Pattern) (f : Found) (t : Taken) → k ≡ f.at → slice_get ps f.at ≡ Some q → IsNextFound order ps m.rows (Some (row, f))
    → step q (map thing_of f.given) row m ≡ Ok n → t ≡ taken q (hit_of k row) m n → Goes order ps m n t
goes order ps m n k row q f t e there x s told = record {
  hit = hit_of k row;
  pattern = q;
  given = map thing_of f.given;
  is_next = subst (λ h. IsNext order ps m.rows h q) (sym (hit_is k f.at row e)) (subst (IsNext order ps m.rows (hit_of f.at row)) same x.1);
  matches = subst (λ p. MatchesBy m.rows p (map thing_of f.given) row) same x.2.matches;
  steps = s;
  told = told;
} where
  same : x.0 ≡ q
  same = the_same (slice_get ps f.at) x.0 q x.2.declared there where
    the_same : (o : Option Pattern) (p r : Pattern) → o ≡ Some p → o ≡ Some r → p ≡ r
    the_same o p r a b = cc

pub reached : (order : Order) (ps : List Pattern) (left : ℕ) (m n : Rows) (t : Taken) → 0 < left → Goes order ps m n t → Reaches order ps left m n
reached order ps zero m n t l g = absurd (omega (arith, l))
reached order ps (suc left) m n t l g = steps_on g.is_next g.matches g.steps stays

pub stops : (order : Order) (ps : List Pattern) (m : Rows) (left k row : ℕ) (q : Pattern) (f : Found) (s : Stop) → 0 < left → k ≡ f.at → slice_get ps f.at ≡ Some q
    → IsNextFound order ps m.rows (Some (row, f)) → step q (map thing_of f.given) row m ≡ Err s → Runs order ps left m (ended (ending_by (hit_of k row) s) m)
stops order ps m zero k row q f s l e there x h = absurd (omega (arith, l))
stops order ps m (suc left) k row q f s l e there x h = is_stopped
    (subst (λ h. IsNext order ps m.rows h q) (sym (hit_is k f.at row e)) (subst (IsNext order ps m.rows (hit_of f.at row)) (same x) x.1))
    (subst (λ p. MatchesBy m.rows p (map thing_of f.given) row) (same x) x.2.matches)
    h where
      the_same : (o : Option Pattern) (p r : Pattern) → o ≡ Some p → o ≡ Some r → p ≡ r
      the_same o p r a b = cc

      same : (x : IsNextFound order ps m.rows (Some (row, f))) → x.0 ≡ q
      same x = the_same (slice_get ps f.at) x.0 q x.2.declared there

-- ---- the run, one turn after another

one_behind : (steps : List Taken) (t : Taken) (c : Course) → behind (steps ++ t ∷ []) c ≡ behind steps (after_step t c)
one_behind steps t c = ap (λ ts. record { taken = ts; ending = c.ending; rows = c.rows }) (append_assoc steps (t ∷ []) c.taken)

gone_on : (order : Order) (ps : List Pattern) (k : ℕ) (m n : Rows) (t : Taken) (c : Course) → Goes order ps m n t → Runs order ps k n c → Runs order ps (suc k) m (after_step t c)
gone_on order ps k m n t c g r = subst (λ x. Runs order ps (suc k) m (after_step x c)) (sym g.told) (goes_on g.is_next g.matches g.steps r)

less_one : (n : ℕ) → 0 < n → suc (n - 1) ≡ n
less_one n l = omega (arith, l)

pub runs_on : (order : Order) (ps : List Pattern) (left bound : ℕ) (start m n : Rows) (t : Taken) (steps more : List Taken) → 0 < left → Goes order ps m n t → more ≡ steps ++ t ∷ []
    → ((c : Course) → Runs order ps left m c → Runs order ps bound start (behind steps c)) → (c : Course) → Runs order ps (left - 1) n c → Runs order ps bound start (behind more c)
runs_on order ps left bound start m n t steps more l g e h c r =
    subst (Runs order ps bound start) (sym (ap (λ s. behind s c) e ∙ one_behind steps t c))
    (h (after_step t c) (subst (λ k. Runs order ps k m (after_step t c)) (less_one left l) (gone_on order ps (left - 1) m n t c g r)))

pub reaches_on : (order : Order) (ps : List Pattern) (left bound : ℕ) (start m n : Rows) (t : Taken) → 0 < left → Goes order ps m n t
    → ((k : Rows) → Reaches order ps left m k → Reaches order ps bound start k) → (k : Rows) → Reaches order ps (left - 1) n k → Reaches order ps bound start k
reaches_on order ps left bound start m n t l g h k r = h k (subst (λ j. Reaches order ps j m k) (less_one left l) (steps_on g.is_next g.matches g.steps r))
