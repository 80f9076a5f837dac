use Rattle.std.proofs.Common.{◌<◌, length, arith}
use Rattle.mlir_tree.specs.Edits.{substituted_row}
use Rattle.rewrite_step.proofs.Moving.{changed_there}
use Rattle.rewrite_step.proofs.edits.substitute_rows.Goals as goal

pub loop-at-preserved : goal.loop-at-preserved
loop-at-preserved c =
    let h : c.loop-at.at < length c.args.rows.now = omega (arith, c.loop-at-test.true, c.len-at-end.ensures) in
    changed_there (substituted_row c.args.from.now c.args.to.now) c.args.rows.now c.loop-at.rows c.substitute_at.new.rows c.loop-at.at h c.loop-at.invariant c.in_ok-substitute_at.ensures
