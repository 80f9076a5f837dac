use Rattle.std.proofs.Common.{◌+◌, ◌∷◌, ◌++◌, map, length, sym, ap, subst, ◌∙◌}
use Rattle.std.specs.Prelude.{take, drop}
use Rattle.rewrite_model.specs.declared.run.Order.TheVariants.{First}
use Rattle.rewrite_model.specs.Matching.{NoneAt}
use Rattle.pdll_patterns.specs.View.{pattern_of}
use Rattle.greedy_driver.specs.Found.{BestOf}
use Rattle.greedy_driver.proofs.Best.{none_at, next_here, one_more, cut}
use Rattle.greedy_driver.proofs.next.first.Goals as goal

-- src/next.rt:105:13
pub returns-in-Some : goal.returns-in-Some
returns-in-Some c =
    let i = c.loop-row.row-index in
    let rows = c.args.rows.now in
    let r = c.row-item.result in
    next_here First c.args.patterns.now rows (take i rows) (drop (i + 1) rows) r c.in-Some.found
    (cut rows i r c.loop-row-test.true ∙ ap (λ s. take i rows ++ (s ∷ drop (i + 1) rows)) (sym c.row-item.is))
    c.loop-row.invariant
    (subst (λ o. BestOf (map pattern_of c.args.patterns.now) rows r.id (length c.args.patterns.now) o) c.in-Some.is c.in_ok-found.ensures)

-- src/next.rt:103:5
pub loop-row-preserved : goal.loop-row-preserved
loop-row-preserved c =
    let i = c.loop-row.row-index in
    let rows = c.args.rows.now in
    let r = c.row-item.result in
    one_more (map pattern_of c.args.patterns.now) rows rows i r c.loop-row-test.true c.loop-row.invariant
    (subst (λ s. NoneAt (map pattern_of c.args.patterns.now) rows s.id) c.row-item.is
    (none_at c.args.patterns.now rows r.id (subst (λ o. BestOf (map pattern_of c.args.patterns.now) rows r.id (length c.args.patterns.now) o) c.in_default.is c.in_ok-found.ensures)))
