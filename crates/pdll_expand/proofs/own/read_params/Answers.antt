use Rattle.std.proofs.Common.{arith, refl}
use Rattle.rewrite_model.specs.Expanding.{param_variables}
use Rattle.pdll_expand.specs.Reading.{param_read}
use Rattle.pdll_expand.specs.View.{meant_of}
use Rattle.pdll_expand.specs.Table.{in_sight}
use Rattle.pdll_expand.proofs.Loops.{next_item, none_behind}
use Rattle.pdll_expand.proofs.Steps.{one_read, read_all, none_read}
use Rattle.pdll_expand.proofs.own.read_params.Goals as goal

pub loop-param-init : goal.loop-param-init
loop-param-init c =
    let q = in_sight c.args.constraints in
    none_read meant_of (param_read q) (param_variables q) c.args.params.now c.new-found.result c.args.scene.now c.new-found.ensures

pub loop-param-preserved : goal.loop-param-preserved
loop-param-preserved c =
    let q = in_sight c.args.constraints in
    let all = c.args.params.now in
    let i = c.loop-param.param-index in
    let p = c.param-item.result in
    one_read meant_of (param_read q) (param_variables q) (λ x xs. refl) all i p c.loop-param.found c.push.new.self c.in_ok-read_param.field-0
    c.args.scene.now c.loop-param.scene c.read_param.new.scene (next_item all i p (omega arith) c.param-item.is) c.in_ok-push.ensures.ok c.loop-param.invariant c.in_ok-read_param.ensures

pub returns : goal.returns
returns c =
    let q = in_sight c.args.constraints in
    let all = c.args.params.now in
    let i = c.loop-param.param-index in
    read_all meant_of (param_read q) (param_variables q) refl all i c.loop-param.found c.args.scene.now c.loop-param.scene (none_behind all i (omega arith)) c.loop-param.invariant
