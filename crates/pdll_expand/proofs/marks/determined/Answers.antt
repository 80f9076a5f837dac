use Rattle.std.proofs.Common.{map, ap, subst, ◌∙◌}
use Rattle.pdll_expand.specs.View.{demand_of}
use Rattle.pdll_expand.specs.Marking.{marked, MarkDetermined, IsGrown}
use Rattle.pdll_expand.proofs.Marking.{all_marked}
use Rattle.pdll_expand.proofs.marks.determined.Goals as goal

pub returns : goal.returns
returns c =
    let gs = c.as_slice-given.result.now in
    let ds = map demand_of c.as_slice-demands.result.now in
    let new = c.close.new.marks in
    let grown = subst (λ m. IsGrown ds m new) (c.mark_all.ensures ∙ ap (marked gs) c.in_ok-marks.ensures) c.close.ensures.grown in
    subst (λ g. MarkDetermined g (map demand_of c.args.own.now.scene.demands) new) c.as_slice-given.ensures
    (subst (λ d. MarkDetermined gs (map demand_of d) new) c.as_slice-demands.ensures
    (all_marked gs ds c.in_ok-room.field-0 new c.in_ok-room.ensures c.close.ensures.closed grown))
