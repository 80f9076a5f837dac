use Rattle.std.proofs.Common.{◌+◌, ◌||◌, None, drop, ap, sym, ◌∙◌, arith}
use Rattle.pdll_syntax.specs.StmtTree.{stmts}
use Rattle.pdll_types.specs.Mentions.{of_stmt, of_pattern, statement, standing_in_pattern, are_none, names_root}
use Rattle.pdll_types.specs.Walk.{walked, step}
use Rattle.pdll_types.proofs.Steps.{walked_both}
use Rattle.pdll_types.proofs.Loops.{next_stmt}
use Rattle.pdll_types.proofs.statements.walk_pattern.Goals as goal

pub loop-at-preserved : goal.loop-at-preserved
unfolding of_pattern
loop-at-preserved c =
    let d = c.args.table.now in
    let ss = c.args.all.now in
    let i = c.loop-at.at in
    let s = c.index-all-at.result in
    let w = c.loop-at.walk in
    let late = c.loop-at.late in
    let behind = stmts (drop (i + 1) ss) in
    let standing = standing_in_pattern (are_none behind) late (names_root s) in
    let later = late || names_root s in
    let own = c.in_pattern-standing.ensures
    ∙ (ap (λ b. standing_in_pattern b late c.names_root.result) c.is_last.ensures ∙ ap (standing_in_pattern (are_none behind) late) c.names_root.ensures) in
    c.loop-at.invariant
    ∙ (ap (λ ys. walked d (of_pattern d late ys) w) (next_stmt ss i s (omega arith) c.index-all-at.is)
    ∙ (walked_both d (of_stmt d None standing s) (of_pattern d later behind) (step d (statement standing late s) w)
    ∙ (ap (λ q. walked d (of_pattern d later behind) (walked d (of_stmt d None q s) (step d (statement q late s) w))) (sym own)
    ∙ (ap (λ v. walked d (of_pattern d later behind) (walked d (of_stmt d None c.in_pattern-standing.result s) v)) (sym (c.use_statement.ensures d))
    ∙ (ap (walked d (of_pattern d later behind)) (sym c.in_ok-walk_stmt.ensures)
    ∙ ap (λ b. walked d (of_pattern d b behind) c.walk_stmt.new.walk) (sym c.is_late-late.ensures))))))
