use Rattle.std.proofs.Common.{◌+◌, false, drop, ap, sym, ◌∙◌, arith}
use Rattle.pdll_syntax.specs.StmtTree.{stmts}
use Rattle.pdll_syntax.specs.StmtSize.{stmt_item}
use Rattle.pdll_types.specs.Mentions.{of_stmt, of_rewrite, statement, standing_in_rewrite, are_none}
use Rattle.pdll_types.specs.Walk.{walked, step}
use Rattle.pdll_types.proofs.Steps.{walked_both}
use Rattle.pdll_types.proofs.Loops.{next_stmt}
use Rattle.pdll_types.proofs.statements.+statements.Goals as goal

pub walk_rewrite-walk_stmt-requires : goal.walk_rewrite-walk_stmt-requires
walk_rewrite-walk_stmt-requires t c =
    (omega (arith, c.decreases, stmt_item c.args.all.now c.loop-at.at c.index-all-at.result (omega arith) c.index-all-at.is), tt)

pub walk_rewrite-loop-at-preserved : goal.walk_rewrite-loop-at-preserved
unfolding of_rewrite
walk_rewrite-loop-at-preserved t c =
    let d = c.args.table.now in
    let k = c.args.result_kind.now in
    let gives = c.args.gives in
    let ss = c.args.all.now in
    let i = c.loop-at.at in
    let s = c.index-all-at.result in
    let w = c.loop-at.walk in
    let behind = stmts (drop (i + 1) ss) in
    let standing = standing_in_rewrite gives (are_none behind) in
    let own = c.in_rewrite-standing.ensures ∙ ap (standing_in_rewrite gives) c.is_last.ensures in
    c.loop-at.invariant
    ∙ (ap (λ ys. walked d (of_rewrite d k gives ys) w) (next_stmt ss i s (omega arith) c.index-all-at.is)
    ∙ (walked_both d (of_stmt d k standing s) (of_rewrite d k gives behind) (step d (statement standing false s) w)
    ∙ (ap (λ q. walked d (of_rewrite d k gives behind) (walked d (of_stmt d k q s) (step d (statement q false s) w))) (sym own)
    ∙ (ap (λ v. walked d (of_rewrite d k gives behind) (walked d (of_stmt d k c.in_rewrite-standing.result s) v)) (sym (c.use_statement.ensures d))
    ∙ ap (walked d (of_rewrite d k gives behind)) (sym c.in_ok-walk_stmt.ensures)))))
