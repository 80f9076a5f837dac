use Rattle.std.proofs.Common.{List, map, subst}
use Rattle.pdll_syntax.specs.declared.stmt.Param.{Param}
use Rattle.rewrite_model.specs.Expanding.{param_variables}
use Rattle.pdll_expand.specs.View.{meant_of}
use Rattle.pdll_expand.specs.Scenes.{Gave, Does}
use Rattle.pdll_expand.specs.Reading.{body_read}
use Rattle.pdll_expand.specs.Table.{in_sight}
use Rattle.pdll_expand.proofs.Steps.{then_do}
use Rattle.pdll_expand.proofs.own.read_constraint.Goals as goal

pub returns : goal.returns
returns c =
    let q = in_sight c.args.constraints in
    let call = c.args.call.now in
    let xs = c.in_ok-arguments.arguments in
    let r = c.run_body.result in
    let s0 = c.args.scene.now in
    let s1 = c.read_params.new.scene in
    let s2 = c.run_body.new.scene in
    let named = subst (λ (ps : List Param). Gave (map meant_of) (param_variables q ps) s0 xs s1) c.as_slice.ensures c.in_ok-arguments.ensures in
    let asked = subst (λ ys. Does (λ u. u) (body_read q call (map meant_of ys)) s1 r s2) c.as_slice-2.ensures c.run_body.ensures in
    then_do (map meant_of) (λ u. u) (param_variables q call.params) (λ ys. body_read q call ys) s0 s1 s2 xs r named asked
