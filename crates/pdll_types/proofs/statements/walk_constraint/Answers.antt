use Rattle.std.proofs.Common.{◌+◌, false, None, drop, ap, sym, ◌∙◌, arith}
use Rattle.pdll_syntax.specs.StmtTree.{stmts}
use Rattle.pdll_types.specs.declared.section.Standing.TheVariants.{Matching}
use Rattle.pdll_types.specs.Mentions.{of_stmt, of_constraint, statement}
use Rattle.pdll_types.specs.Walk.{walked, step}
use Rattle.pdll_types.proofs.Steps.{walked_both}
use Rattle.pdll_types.proofs.Loops.{next_stmt}
use Rattle.pdll_types.proofs.statements.walk_constraint.Goals as goal

pub loop-one-preserved : goal.loop-one-preserved
unfolding of_constraint
loop-one-preserved c =
    let d = c.args.table.now in
    let ss = c.args.all.now in
    let i = c.loop-one.one-index in
    let s = c.one-item.result in
    let w = c.loop-one.walk in
    let behind = stmts (drop (i + 1) ss) in
    c.loop-one.invariant
    ∙ (ap (λ ys. walked d (of_constraint d ys) w) (next_stmt ss i s (omega arith) c.one-item.is)
    ∙ (walked_both d (of_stmt d None Matching s) (of_constraint d behind) (step d (statement Matching false s) w)
    ∙ (ap (λ v. walked d (of_constraint d behind) (walked d (of_stmt d None Matching s) v)) (sym (c.use_statement.ensures d))
    ∙ ap (walked d (of_constraint d behind)) (sym c.in_ok-walk_stmt.ensures))))
