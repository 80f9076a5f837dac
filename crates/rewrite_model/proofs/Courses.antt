-- What every step and every run keeps.
use Rattle.std.proofs.Common.{◌≡◌, ℕ, zero, suc, ◌+◌, ◌-◌, ◌≤◌, Bool, true, false, cond, List, [], ◌∷◌, Option, Some, None, Ok, Err, refl, ap, subst, arith}
use Rattle.std.specs.Prelude.{filter}
use Rattle.std.specs.List.{range_with_len}
use Rattle.mlir_tree.specs.declared.rows.Rows.{Rows}
use Rattle.mlir_tree.specs.declared.bad_use.BadUse.{BadUse}
use Rattle.row_index.specs.BadUses.{bad_use}
use Rattle.row_index.proofs.BadUses.{none_exactly}
use Rattle.rewrite_model.specs.declared.run.Hit.{Hit}
use Rattle.rewrite_model.specs.declared.run.Ending.{Ending}
use Rattle.rewrite_model.specs.declared.run.Ending.TheVariants.{Converged, Bound, Broken}
use Rattle.rewrite_model.specs.Taken.{IsRising}
use Rattle.rewrite_model.specs.Making.{Stop, breaks, bound, Progress, Outcome, ◌>>=◌}
use Rattle.rewrite_model.specs.Step.{rewritten, accepted, step, made_numbers, was_removed, removed_numbers}
use Rattle.rewrite_model.specs.Running.{ending_by, converges, is_bounded, is_stopped, goes_on}
use Rattle.rewrite_model.specs.Laws.{ConvergedRunsMatchNowhere, HasVisibleUses, StepsKeepOperandsVisible, RunsKeepOperandsVisible, NumbersRise}

-- ---- visible operands

abbrev rows_or : Rows → Outcome Rows → Rows
rows_or d (Ok m) = m
rows_or d (Err e) = d

taken_visible : (m n : Rows) (o : Option BadUse) → bad_use m.rows ≡ o → accepted m o ≡ Ok n → HasVisibleUses n
taken_visible m n None b e = subst HasVisibleUses (ap (rows_or m) e) ((none_exactly m.rows).0 b)
taken_visible m n (Some u) b e = absurd (cc)

pub steps_keep_visible : StepsKeepOperandsVisible
unfolding step
steps_keep_visible p a id m n e = by (rewritten p a id m) e where
  by : (o : Outcome Progress) → (o >>= (λ q. accepted q.now (bad_use q.now.rows))) ≡ Ok n → HasVisibleUses n
  by (Ok q) e = taken_visible q.now n (bad_use q.now.rows) refl e
  by (Err x) e = absurd (cc)

pub runs_keep_visible : RunsKeepOperandsVisible
runs_keep_visible order ps n m _ v (converges z) = v
runs_keep_visible order ps _ m _ v (is_bounded s) = v
runs_keep_visible order ps _ m _ v (is_stopped s a e) = v
runs_keep_visible order ps (suc n) m _ v (goes_on {m' = m'} {h = h} {p = p} {a = a} {c = c} s w e r) =
    runs_keep_visible order ps n m' c (steps_keep_visible p a h.row m m' e) r

-- ---- convergence

is_converged : Ending → Bool
is_converged Converged = true
is_converged (Bound k h) = false
is_converged (Broken b) = false

stopped_is_not : (h : Hit) (e : Stop) → ending_by h e ≡ Converged → ⊥
unfolding is_converged
stopped_is_not h (breaks b) e = let f = ap is_converged e in cc
stopped_is_not h (bound k) e = let f = ap is_converged e in cc

pub converged_matches_nowhere : ConvergedRunsMatchNowhere
unfolding is_converged
converged_matches_nowhere order ps n m _ (converges z) e = z
converged_matches_nowhere order ps _ m _ (is_bounded s) e = let f = ap is_converged e in absurd (cc)
converged_matches_nowhere order ps _ m _ (is_stopped {h = h} {e = x} s a w) e = absurd (stopped_is_not h x e)
converged_matches_nowhere order ps (suc n) m _ (goes_on {m' = m'} {c = c} s a w r) e = converged_matches_nowhere order ps n m' c r e

-- ---- rising numbers

-- each number is at least this, and they rise
abbrev RiseFrom : ℕ → List ℕ → Type 0
RiseFrom k [] = Unit {0}
RiseFrom k (n ∷ ns) = (k ≤ n) × RiseFrom (suc n) ns

rising : (k : ℕ) (ns : List ℕ) → RiseFrom k ns → IsRising ns
rising k [] r = tt
rising k (n ∷ []) r = tt
rising k (n ∷ (o ∷ ns)) r = (r.1.0, rising (suc n) (o ∷ ns) r.1)

from_later : (k j : ℕ) → k ≤ j → (ns : List ℕ) → RiseFrom j ns → RiseFrom k ns
from_later k j le [] r = tt
from_later k j le (n ∷ ns) r = let m = r.0 in (omega (arith, le, m), r.1)

range_rises : (k n : ℕ) → RiseFrom k (range_with_len k n)
range_rises k zero = tt
range_rises k (suc n) = (omega arith, subst (λ j. RiseFrom j (range_with_len (k + 1) n)) (omega arith) (range_rises (k + 1) n))

filter_rises : (f : ℕ → Bool) (k : ℕ) (ns : List ℕ) → RiseFrom k ns → RiseFrom k (filter f ns)
filter_rises f k [] r = tt
filter_rises f k (n ∷ ns) r = by (f n) (filter_rises f (suc n) ns r.1) where
  by : (b : Bool) → RiseFrom (suc n) (filter f ns) → RiseFrom k (cond b (n ∷ filter f ns) (filter f ns))
  by true go = (r.0, go)
  by false go = from_later k (suc n) (let m = r.0 in omega (arith, m)) (filter f ns) go

pub numbers_rise : NumbersRise
numbers_rise p h m n = record {
  made = rising m.next (made_numbers m n) (range_rises m.next (n.next - m.next));
  removed = rising 0 (removed_numbers m n) (filter_rises (was_removed m n) 0 (range_with_len 0 n.next) (range_rises 0 n.next));
}
