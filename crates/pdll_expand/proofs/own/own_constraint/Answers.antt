use Rattle.std.proofs.Common.{ap, ◌∙◌, subst}
use Rattle.std.specs.List.{range_with_len}
use Rattle.rewrite_model.specs.MatchPart.{empty}
use Rattle.rewrite_model.specs.Expanding.{constraint_asks}
use Rattle.rewrite_model.specs.Own.{own, silent}
use Rattle.pdll_expand.specs.Scenes.{IsScene}
use Rattle.pdll_expand.specs.Table.{calls_of}
use Rattle.pdll_expand.proofs.Known.{all_known}
use Rattle.pdll_expand.proofs.own.own_constraint.Goals as goal

pub returns : goal.returns
unfolding own
returns c = λ earlier h.
    let cs = calls_of c.args.constraints.now in
    let call = c.args.call.now in
    let new = c.read_constraint.new.scene in
    let known = c.quiet.ensures ∙ ap silent (all_known cs earlier h) in
    let read = subst (λ w. IsScene new (constraint_asks w call empty).1) known (c.in_ok-read_constraint.ensures empty c.new-scene.ensures).1 in
    record {
      kinds = read.kinds;
      places = read.places;
      demands = read.demands;
      given = c.in_ok-given.ensures ∙ ap (range_with_len 0) c.len.ensures;
    }
