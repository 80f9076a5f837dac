use Rattle.std.proofs.Common.{◌≡◌, ◌+◌, ◌-◌, ◌∷◌, ◌++◌, map, length, suc, sym, ap, subst, ◌∙◌, arith}
use Rattle.std.specs.Prelude.{take, drop}
use Rattle.rewrite_model.specs.declared.run.Order.TheVariants.{Last}
use Rattle.rewrite_model.specs.Running.{NoneAmong}
use Rattle.rewrite_model.specs.Matching.{NoneAt}
use Rattle.pdll_patterns.specs.View.{pattern_of}
use Rattle.greedy_driver.specs.Found.{BestOf}
use Rattle.greedy_driver.proofs.Best.{none_at, next_here, none_behind, one_before, cut}
use Rattle.greedy_driver.proofs.next.last.Goals as goal

pub loop-at-init : goal.loop-at-init
loop-at-init c = record {
  none = none_behind (map pattern_of c.args.patterns.now) c.args.rows.now c.args.rows.now (length c.args.rows.now) (omega arith);
  within = omega arith;
}

pub returns-in-Some : goal.returns-in-Some
returns-in-Some c =
    let i = c.loop-at.at - 1 in
    let rows = c.args.rows.now in
    let r = c.index-rows-at.result in
    let next : c.loop-at.at ≡ i + 1 = omega (arith, c.loop-at-test.true) in
    next_here Last c.args.patterns.now rows (take i rows) (drop (i + 1) rows) r c.in-Some.found
    (cut rows i r (omega (arith, c.loop-at.invariant.within, c.loop-at-test.true)) ∙ ap (λ s. take i rows ++ (s ∷ drop (i + 1) rows)) (sym c.index-rows-at.is))
    (subst (λ n. NoneAmong (map pattern_of c.args.patterns.now) rows (drop n rows)) next c.loop-at.invariant.none)
    (subst (λ o. BestOf (map pattern_of c.args.patterns.now) rows r.id (length c.args.patterns.now) o) c.in-Some.is c.in_ok-found.ensures)

pub loop-at-preserved : goal.loop-at-preserved
loop-at-preserved c =
    let rows = c.args.rows.now in
    let r = c.index-rows-at.result in
    record {
      none = one_before (map pattern_of c.args.patterns.now) rows rows c.loop-at.at r c.loop-at-test.true (omega (arith, c.loop-at.invariant.within, c.loop-at-test.true)) c.loop-at.invariant.none
          (subst (λ s. NoneAt (map pattern_of c.args.patterns.now) rows s.id) c.index-rows-at.is
          (none_at c.args.patterns.now rows r.id (subst (λ o. BestOf (map pattern_of c.args.patterns.now) rows r.id (length c.args.patterns.now) o) c.in_default.is c.in_ok-found.ensures)));
      within = omega (arith, c.loop-at.invariant.within);
    }

pub returns : goal.returns
returns c =
    let start : c.loop-at.at ≡ 0 = omega (arith, c.loop-at-test.false) in
    subst (λ n. NoneAmong (map pattern_of c.args.patterns.now) c.args.rows.now (drop n c.args.rows.now)) start c.loop-at.invariant.none
