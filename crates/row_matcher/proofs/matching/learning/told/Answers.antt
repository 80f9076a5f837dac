use Rattle.std.proofs.Common.{map, ap, subst, ◌∙◌}
use Rattle.rewrite_model.specs.Things.{an_op}
use Rattle.pdll_expand.specs.View.{demand_of}
use Rattle.row_matcher.specs.Learning.{known_of, learnt, IsReached, all_known}
use Rattle.row_matcher.proofs.matching.learning.told.Goals as goal

pub returns : goal.returns
returns c =
    let ks = c.args.kinds.now in
    let ds = map demand_of c.args.demands.now in
    let began = c.in_ok-learn.ensures ∙ ap (learnt c.args.root (an_op c.args.id)) c.in_ok-known.ensures in
    let reached = subst (λ s. IsReached c.args.rows.now ks ds s (known_of c.close.new.known)) began c.in_ok-close.ensures.reached in
    let found = c.in_ok-found.ensures ∙ ap (λ l. all_known (known_of l)) c.as_slice.ensures in
    (known_of c.close.new.known, c.in_ok-close.ensures.closed, reached, found)
