use Rattle.std.proofs.Common.{◌≡◌, ◌-◌, Bool, suc, arith}
use Rattle.std.specs.Prelude.{◌==◌, not}
use Rattle.mlir_tree.specs.declared.row.Row.{Row}
use Rattle.rewrite_step.proofs.Moving.{filtered_one, all_filtered}
use Rattle.rewrite_step.proofs.edits.remove_rows.Goals as goal

pub loop-at-preserved : goal.loop-at-preserved
loop-at-preserved c =
    let at = c.loop-at.at in
    let p : Row → Bool = λ r. not (r.id == c.args.owner) in
    let one : at ≡ suc (at - 1) = omega (arith, c.loop-at-test.true) in
    (omega (arith, c.loop-at.invariant.0), filtered_one p c.args.rows.now c.loop-at.rows c.remove_at.new.rows at (at - 1) one c.loop-at.invariant.0 c.loop-at.invariant.1 c.remove_at.ensures)

pub returns : goal.returns
returns c =
    let none : c.loop-at.at ≡ 0 = omega (arith, c.loop-at-test.false) in
    all_filtered (λ (r : Row). not (r.id == c.args.owner)) c.args.rows.now c.loop-at.rows c.loop-at.at none c.loop-at.invariant.1
