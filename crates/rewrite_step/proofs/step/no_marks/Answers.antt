use Rattle.std.proofs.Common.{ℕ, ◌+◌, List, Bool, ◌∷◌, [], length, false, ap, ◌∙◌, arith, length-append}
use Rattle.rewrite_step.specs.Marking.{is_marked}
use Rattle.rewrite_step.proofs.Marking.{still_unmarked}
use Rattle.rewrite_step.proofs.step.no_marks.Goals as goal

pub loop-preserved : goal.loop-preserved
loop-preserved c = record {
  long = ap length c.in_ok-push.ensures.ok ∙ (length-append c.loop.marks (false ∷ []) ∙ ap (λ (n : ℕ). n + 1) c.loop.invariant.long);
  none = λ k. ap (λ (l : List Bool). is_marked l k) c.in_ok-push.ensures.ok ∙ still_unmarked c.loop.marks c.loop.invariant.none k;
}

pub returns : goal.returns
returns c = record { long = c.loop.invariant.long ∙ omega arith; right = λ id h. c.loop.invariant.none id }
