use Rattle.std.proofs.Common.{◌≡◌, ◌+◌, Some, Ok, sym, ap, subst, ◌∙◌, arith, rules, drop}
use Rattle.std.proofs.lemmas.Grind.{common_steps}
use Rattle.mlir_parse.specs.SynTree.{operations}
use Rattle.mlir_parse.specs.SynView.{region_tree}
use Rattle.mlir_resolve.specs.Scopes.{Fails}
use Rattle.mlir_resolve.specs.Walk.{State, operation_walk, operations_walk, regions_walk, region_walk, regions_of, after}
use Rattle.mlir_resolve.proofs.Shared.{drop_all}
use Rattle.mlir_resolve.proofs.Trees.{operation_item, region_item}
use Rattle.mlir_resolve.proofs.Steps.{row_fails, inner_fails, results_leave, ops_step, no_ops, regions_step, no_regions_left, fails_after, size_of, count_of, kept_of, ops_count, ops_kept, regions_count, regions_kept}
use Rattle.mlir_resolve.proofs.walk.+walk.Goals as goal

pub walk_op-returns-in_err-row-clause-walked : goal.walk_op-returns-in_err-row-clause-walked
walk_op-returns-in_err-row-clause-walked t c =
    let g = row_fails c.args.file.now c.args.outer.now c.as_slice.result.now c.args.home c.args.op.now (c.args.scope.now, c.args.rows.now) c.len-id.result c.as_slice.ensures c.len-id.ensures c.in_err-row.field-0.0 c.in_err-row.ensures in
    first_of (search rules, grind (arith, common_steps))

pub walk_op-walk_inner-requires : goal.walk_op-walk_inner-requires
walk_op-walk_inner-requires t c =
    let are = ap region_tree c.as_slice-2.ensures ∙ ap regions_of c.op.view_is in
    let rs = c.as_slice-2.result.now in
    let size = size_of c.args.op.now rs are in
    let count = count_of c.args.op.now rs are in
    let kept = kept_of c.args.op.now rs are c.requires.kept in
    let pushed = c.in_ok-push.ensures.ok in
    (omega (arith, c.decreases, size), (grind (arith, common_steps, c.requires.few), (kept.0, kept.1)))

pub walk_op-returns-in_err-walk_inner-clause-walked : goal.walk_op-returns-in_err-walk_inner-clause-walked
walk_op-returns-in_err-walk_inner-clause-walked t c =
    let are = ap region_tree c.as_slice-2.ensures ∙ ap regions_of c.op.view_is in
    let g = inner_fails c.args.file.now c.args.outer.now c.as_slice.result.now c.args.home c.args.op.now (c.args.scope.now, c.args.rows.now) c.len-id.result c.as_slice.ensures c.len-id.ensures c.in_ok-row.row c.push.new.self c.as_slice-2.result.now c.in_ok-row.ensures c.in_ok-push.ensures.ok are c.in_err-walk_inner.field-0.0 c.in_err-walk_inner.ensures.walked in
    first_of (search rules, grind (arith, common_steps))

pub walk_op-returns-clause-walked : goal.walk_op-returns-clause-walked
walk_op-returns-clause-walked t c =
    let are = ap region_tree c.as_slice-2.ensures ∙ ap regions_of c.op.view_is in
    results_leave c.args.file.now c.args.outer.now c.as_slice.result.now c.args.home c.args.op.now (c.args.scope.now, c.args.rows.now) c.len-id.result c.as_slice.ensures c.len-id.ensures c.in_ok-row.row c.push.new.self c.as_slice-2.result.now c.in_ok-row.ensures c.in_ok-push.ensures.ok are c.walk_inner.new.rows c.in_ok-walk_inner.ensures.walked c.walk_inner.new.scope c.put_results_of.new.scope c.in_ok-walk_inner.ensures.scope c.put_results_of.result c.put_results_of.ensures

pub walk_ops-walk_op-requires : goal.walk_ops-walk_op-requires
walk_ops-walk_op-requires t c =
    let ops = c.args.ops.now in
    let i = c.loop-op.op-index in
    let o = c.op-item.result in
    let count = ops_count ops i o (omega arith) c.op-item.is in
    let kept = ops_kept ops i o (omega arith) c.op-item.is c.loop-op.invariant.3 in
    (omega (arith, c.decreases, operation_item ops i o (omega arith) c.op-item.is), (omega (arith, count, c.loop-op.invariant.2, c.requires.few), kept.0))

pub walk_ops-returns-in_err-walk_op-clause-walked : goal.walk_ops-returns-in_err-walk_op-clause-walked
walk_ops-returns-in_err-walk_op-clause-walked t c =
    let ops = c.args.ops.now in
    let i = c.loop-op.op-index in
    let o = c.op-item.result in
    let e = c.in_err-walk_op.field-0.0 in
    let s : State = (c.loop-op.scope, c.loop-op.rows) in
    let f = subst (λ outer. Fails e (operation_walk c.args.file.now outer (Some c.args.home) o s)) c.loop-op.invariant.1 c.in_err-walk_op.ensures.walked in
    let g = subst (Fails e) (sym (c.loop-op.invariant.0 ∙ ops_step c.args.file.now c.args.outer.now c.args.home ops i o s (omega arith) c.op-item.is))
    (fails_after e (operation_walk c.args.file.now c.args.outer.now (Some c.args.home) o s) (operations_walk c.args.file.now c.args.outer.now c.args.home (operations (drop (i + 1) ops))) f) in
    first_of (search rules, grind (arith, common_steps))

pub walk_ops-loop-op-preserved : goal.walk_ops-loop-op-preserved
walk_ops-loop-op-preserved t c =
    let ops = c.args.ops.now in
    let i = c.loop-op.op-index in
    let o = c.op-item.result in
    let s : State = (c.loop-op.scope, c.loop-op.rows) in
    let count = ops_count ops i o (omega arith) c.op-item.is in
    let kept = ops_kept ops i o (omega arith) c.op-item.is c.loop-op.invariant.3 in
    let f = subst (λ outer. operation_walk c.args.file.now outer (Some c.args.home) o s ≡ Ok (c.walk_op.new.scope, c.walk_op.new.rows)) c.loop-op.invariant.1 c.in_ok-walk_op.ensures.walked in (
      c.loop-op.invariant.0
          ∙ (ops_step c.args.file.now c.args.outer.now c.args.home ops i o s (omega arith) c.op-item.is
          ∙ ap (λ r. after r (operations_walk c.args.file.now c.args.outer.now c.args.home (operations (drop (i + 1) ops)))) f),
      c.in_ok-walk_op.ensures.around ∙ c.loop-op.invariant.1,
      omega (arith, count, c.in_ok-walk_op.ensures.counted, c.loop-op.invariant.2),
      kept.1,
    )

pub walk_ops-returns-clause-walked : goal.walk_ops-returns-clause-walked
walk_ops-returns-clause-walked t c =
    c.loop-op.invariant.0
    ∙ (ap (λ os. operations_walk c.args.file.now c.args.outer.now c.args.home (operations os) (c.loop-op.scope, c.loop-op.rows)) (drop_all c.args.ops.now c.loop-op.op-index (omega arith))
    ∙ no_ops c.args.file.now c.args.outer.now c.args.home (c.loop-op.scope, c.loop-op.rows))

pub walk_regions-walk_region-requires : goal.walk_regions-walk_region-requires
walk_regions-walk_region-requires t c =
    let rs = c.args.regions.now in
    let g = c.loop-g.g in
    let r = c.index-regions-g.result in
    let count = regions_count rs g r (omega arith) c.index-regions-g.is in
    let kept = regions_kept rs g r (omega arith) c.index-regions-g.is c.loop-g.invariant.3 in
    (omega (arith, c.decreases, region_item rs g r (omega arith) c.index-regions-g.is), (omega (arith, count, c.loop-g.invariant.2, c.requires.few), (kept.0, kept.1)))

pub walk_regions-returns-in_err-walk_region-clause-walked : goal.walk_regions-returns-in_err-walk_region-clause-walked
walk_regions-returns-in_err-walk_region-clause-walked t c =
    let rs = c.args.regions.now in
    let g = c.loop-g.g in
    let r = c.index-regions-g.result in
    let e = c.in_err-walk_region.field-0.0 in
    let f = subst (λ outer. Fails e (region_walk c.args.file.now outer c.args.d g r.args (operations r.ops) c.loop-g.rows)) c.loop-g.invariant.1 c.in_err-walk_region.ensures.walked in
    let h = subst (Fails e) (sym (c.loop-g.invariant.0 ∙ regions_step c.args.file.now c.args.outer.now c.args.d g rs r c.loop-g.rows (omega arith) c.index-regions-g.is))
    (fails_after e (region_walk c.args.file.now c.args.outer.now c.args.d g r.args (operations r.ops) c.loop-g.rows) (regions_walk c.args.file.now c.args.outer.now c.args.d (g + 1) (region_tree (drop (g + 1) rs))) f) in
    first_of (search rules, grind (arith, common_steps))

pub walk_regions-loop-g-preserved : goal.walk_regions-loop-g-preserved
walk_regions-loop-g-preserved t c =
    let rs = c.args.regions.now in
    let g = c.loop-g.g in
    let r = c.index-regions-g.result in
    let count = regions_count rs g r (omega arith) c.index-regions-g.is in
    let kept = regions_kept rs g r (omega arith) c.index-regions-g.is c.loop-g.invariant.3 in
    let f = subst (λ outer. region_walk c.args.file.now outer c.args.d g r.args (operations r.ops) c.loop-g.rows ≡ Ok c.walk_region.new.rows) c.loop-g.invariant.1 c.in_ok-walk_region.ensures.walked in (
      c.loop-g.invariant.0
          ∙ (regions_step c.args.file.now c.args.outer.now c.args.d g rs r c.loop-g.rows (omega arith) c.index-regions-g.is
          ∙ ap (λ x. after x (regions_walk c.args.file.now c.args.outer.now c.args.d (g + 1) (region_tree (drop (g + 1) rs)))) f),
      c.in_ok-walk_region.ensures.around ∙ c.loop-g.invariant.1,
      omega (arith, count, c.in_ok-walk_region.ensures.counted, c.loop-g.invariant.2),
      kept.2,
    )

pub walk_regions-returns-clause-walked : goal.walk_regions-returns-clause-walked
walk_regions-returns-clause-walked t c =
    c.loop-g.invariant.0
    ∙ (ap (λ rs. regions_walk c.args.file.now c.args.outer.now c.args.d c.loop-g.g (region_tree rs) c.loop-g.rows) (drop_all c.args.regions.now c.loop-g.g (omega arith))
    ∙ no_regions_left c.args.file.now c.args.outer.now c.args.d c.loop-g.g c.loop-g.rows)
