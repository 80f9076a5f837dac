use Rattle.std.proofs.Common.{ap, sym, ◌∙◌, Ok, [], ◌∷◌, ◌++◌, arith, rules}
use Rattle.std.proofs.lemmas.Grind.{common_steps}
use Rattle.mlir_parse.specs.SynTree.{operations}
use Rattle.mlir_resolve.specs.Laid.{region}
use Rattle.mlir_resolve.specs.Walk.{after, operations_walk}
use Rattle.mlir_resolve.proofs.Modules.{implied_at}
use Rattle.mlir_resolve.proofs.Steps.{fails_after, fails_at}
use Rattle.mlir_resolve.proofs.module.implied_rows.Goals as goal

pub returns-in_err-walk_ops-clause-exact : goal.returns-in_err-walk_ops-clause-exact
returns-in_err-walk_ops-clause-exact c =
    let file = c.args.file.now in
    let outer = c.in_ok-push.ensures.ok ∙ (λ i. c.new-outer.ensures i ++ c.new.ensures i ∷ []) in
    let rows = c.in_ok-push-2.ensures.ok ∙ (λ i. c.new-rows.ensures i ++ c.in_ok-module_row.ensures i ∷ []) in
    let e = c.in_err-walk_ops.field-0.0 in
    let same = implied_at file c.push.new.self c.new-scope.result c.push-2.new.self outer c.new-scope.ensures rows in
    let g = fails_at e _ _ (sym same) (fails_after e (operations_walk file c.push.new.self (region 0 0) (operations file) (c.new-scope.result, c.push-2.new.self)) (λ t. Ok t.1) c.in_err-walk_ops.ensures.walked) in
    first_of (search rules, grind (arith, common_steps))

pub returns-clause-exact : goal.returns-clause-exact
returns-clause-exact c =
    let file = c.args.file.now in
    let outer = c.in_ok-push.ensures.ok ∙ (λ i. c.new-outer.ensures i ++ c.new.ensures i ∷ []) in
    let rows = c.in_ok-push-2.ensures.ok ∙ (λ i. c.new-rows.ensures i ++ c.in_ok-module_row.ensures i ∷ []) in
    implied_at file c.push.new.self c.new-scope.result c.push-2.new.self outer c.new-scope.ensures rows
    ∙ ap (λ r. after r (λ t. Ok t.1)) c.in_ok-walk_ops.ensures.walked
