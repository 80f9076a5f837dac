use Rattle.std.proofs.Common.{map}
use Rattle.pdll_expand.specs.View.{demand_of}
use Rattle.rewrite_model.specs.Own.{own}
use Rattle.pdll_types.proofs.Opening.{opens}
use Rattle.pdll_types.proofs.opened.first_open.Goals as goal

pub returns : goal.returns
returns c = λ earlier k.
    let o = own earlier c.args.one.now in
    let is = c.in_ok-own.ensures.exact earlier k in
    let there = c.in_ok-own.own in
    opens o there.scene.kinds there.scene.places there.given (map demand_of there.scene.demands) c.in_ok-marks.marks c.least_open.result
    is.kinds is.places is.demands is.given (c.numbers_have_places.ensures.1 earlier c.args.one.now) c.in_ok-marks.ensures c.least_open.ensures
