use Rattle.std.proofs.Common.{map, Some, refl, sym, ap, ◌∙◌}
use Rattle.rewrite_model.specs.Pattern.{Pattern}
use Rattle.rewrite_model.specs.Matching.{MatchesBy, Matches}
use Rattle.rewrite_model.specs.Determined.{IsDetermined}
use Rattle.row_matcher.specs.Asked.{Asks}
use Rattle.row_matcher.specs.View.{thing_of}
use Rattle.pdll_expand.specs.View.{demand_of}
use Rattle.pdll_patterns.specs.View.{pattern_of}
use Rattle.greedy_driver.proofs.Best.{at_place, when_some, when_none, none_matches, missed, bettered}
use Rattle.greedy_driver.proofs.next.better.Goals as goal

-- src/next.rt:45:1
pub returns-in-Some : goal.returns-in-Some
returns-in-Some c =
    let q = c.index-patterns-at.result in
    bettered (map pattern_of c.args.patterns.now) c.args.rows.now c.args.id c.args.at (pattern_of q) c.args.found c.in-Some.given
    (at_place c.args.patterns.now c.args.at q c.requires.within ∙ ap (λ x. Some (pattern_of x)) (sym c.index-patterns-at.is))
    (sym c.is_as_good.ensures ∙ c.if-is_as_good.false)
    (when_some (λ a. (p : Pattern) → Asks c.as_slice-kinds.result.now c.as_slice-demands.result.now q.root p → MatchesBy c.args.rows.now p (map thing_of a) c.args.id)
    c.in_ok-given.field-0 c.in-Some.given c.in-Some.is c.in_ok-given.ensures.found (pattern_of q) (record { kinds_are = sym c.as_slice-kinds.ensures; demands_are = ap (map demand_of) (sym c.as_slice-demands.ensures); root_is = refl }))
    c.requires.before

-- src/next.rt:45:1
pub returns-in-None : goal.returns-in-None
returns-in-None c =
    let q = c.index-patterns-at.result in
    let there = at_place c.args.patterns.now c.args.at q c.requires.within ∙ ap (λ x. Some (pattern_of x)) (sym c.index-patterns-at.is) in
    missed (map pattern_of c.args.patterns.now) c.args.rows.now c.args.id c.args.at (pattern_of q) c.args.found
    there
    (none_matches (map pattern_of c.args.patterns.now) c.args.rows.now c.args.id c.args.at (pattern_of q) c.requires.determined
    there
    (when_none ((p : Pattern) → Asks c.as_slice-kinds.result.now c.as_slice-demands.result.now q.root p → IsDetermined p → Matches c.args.rows.now p c.args.id → ⊥)
    c.in_ok-given.field-0 c.in-None.is c.in_ok-given.ensures.none (pattern_of q) (record { kinds_are = sym c.as_slice-kinds.ensures; demands_are = ap (map demand_of) (sym c.as_slice-demands.ensures); root_is = refl })))
    c.requires.before
