use Rattle.std.proofs.Common.{◌≡◌, Some, None, sym, ap, subst, ◌∙◌}
use Rattle.std.specs.Prelude.{slice_get}
use Rattle.row_matcher.specs.View.{seen_of}
use Rattle.row_matcher.specs.Learning.{known_of}
use Rattle.row_matcher.proofs.Learnt.{learnt_open, learnt_shut}
use Rattle.row_matcher.proofs.matching.learning.learn.Goals as goal

pub returns-in_ok-own : goal.returns-in_ok-own
returns-in_ok-own c =
    let k = c.args.known.now in
    let x = c.args.x in
    let free = subst (λ l. slice_get l x ≡ Some None) c.as_slice.ensures (c.is_open.ensures.0 c.if-is_open.true) in
    ap known_of c.set.ensures ∙ learnt_open k x c.in_ok-own.own (seen_of c.args.thing) free c.in_ok-own.ensures

pub returns-else-is_open : goal.returns-else-is_open
returns-else-is_open c =
    let k = c.args.known.now in
    let x = c.args.x in
    learnt_shut k x (seen_of c.args.thing) (λ o. absurd (cc (c.is_open.ensures.1 (subst (λ l. slice_get l x ≡ Some None) (sym c.as_slice.ensures) o), c.if-is_open.false)))
