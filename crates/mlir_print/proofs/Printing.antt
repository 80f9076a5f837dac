-- Texts that are put one behind another.
use Rattle.std.proofs.Common.{◌≡◌, ℕ, Bool, true, false, List, [], ◌++◌, refl, sym, ap, subst, ◌∙◌}
use Rattle.rw_outside.specs.Puts.{SinkState, Puts}
use Rattle.rw_outside.specs.declared.sink.Failed.{Failed}
use Rattle.rw_outside.proofs.Putting.{put_starts, put_goes_on, put_ends, puts_last, puts_fails}
use Rattle.mlir_print.specs.Prints.{Prints, outcome_of}

failed : Failed
failed = record {}

-- the second text, where the first was put or not
behind : (mid is : Bool) (a b c : SinkState) (s t : List ℕ) → Puts a b (outcome_of mid) s → Prints mid is b c t → Puts a c (outcome_of is) (s ++ t)
behind true is a b c s t x y =
    puts_last (outcome_of is) a b c (s ++ t) t (put_goes_on {E = Failed} tt a a b (s ++ t) s t (put_starts a (s ++ t)) x) (y.put refl)
behind false is a b c s t x y =
    let none = y.stopped refl in
    puts_fails (outcome_of is) failed failed a a c (s ++ t) s t (ap outcome_of none.0) (put_starts a (s ++ t)) (subst (λ (k : SinkState). Puts a k (outcome_of false) s) (sym none.1) x)

pub prints_then : (was mid is : Bool) (a b c : SinkState) (s t : List ℕ) → Prints was mid a b s → Prints mid is b c t → Prints was is a c (s ++ t)
prints_then was mid is a b c s t x y = record {
  put = λ e. behind mid is a b c s t (x.put e) y;
  stopped = λ e. let first = x.stopped e in let second = y.stopped first.0 in (second.0, second.1 ∙ first.1);
}

pub prints_as : (was is : Bool) (a b : SinkState) (s t : List ℕ) → Prints was is a b s → s ≡ t → Prints was is a b t
prints_as was is a b s t h e = subst (Prints was is a b) e h

none_at : (ok : Bool) (a : SinkState) → ok ≡ true → Puts a a (outcome_of ok) []
none_at true a e = put_ends {E = Failed} tt a a [] (put_starts a [])
none_at false a e = absurd cc

pub prints_none : (ok : Bool) (a : SinkState) → Prints ok ok a a []
prints_none ok a = record { put = λ e. none_at ok a e; stopped = λ e. (e, refl) }
