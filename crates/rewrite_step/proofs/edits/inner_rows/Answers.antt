use Rattle.std.proofs.Common.{◌≡◌, ℕ, length, ap, sym, ◌∙◌, arith}
use Rattle.rewrite_step.proofs.Inside.{inside, all_looked_at}
use Rattle.rewrite_step.proofs.Removing.{one_more}
use Rattle.rewrite_step.proofs.edits.inner_rows.Goals as goal

pub loop-row-preserved : goal.loop-row-preserved
loop-row-preserved c =
    one_more c.loop-row.inner c.insert.new.self c.args.rows.now c.args.owner c.loop-row.row-index c.row-item.result c.has_inner_home-goes.result
    c.loop-row-test.true c.row-item.is c.loop-row.invariant c.has_inner_home-goes.ensures c.in_ok-insert.ensures.updates.0

pub returns : goal.returns
returns c = λ u.
    let whole : c.loop-row.row-index ≡ length c.args.rows.now = omega arith in
    c.loop-row.invariant u ∙ (ap (λ (n : ℕ). inside c.args.rows.now n u c.args.owner) whole ∙ sym (all_looked_at c.args.rows.now u c.args.owner))
