use Rattle.std.proofs.Common.{map, option_map, sym, subst}
use Rattle.std.specs.Prelude.{IsTrue, option_copied}
use Rattle.rewrite_model.specs.Matching.{MatchesBy}
use Rattle.pdll_expand.specs.View.{demand_of}
use Rattle.row_matcher.specs.View.{thing_of}
use Rattle.row_matcher.specs.Learning.{AreTold}
use Rattle.row_matcher.proofs.Known.{none_where_open, none_but_this}
use Rattle.row_matcher.proofs.Naming.{no_match}
use Rattle.row_matcher.proofs.matching.match_at.Goals as goal

pub returns-in-None-clause-none : goal.returns-in-None-clause-none
returns-in-None-clause-none c =
    let ds = map demand_of c.args.demands.now in
    let h = subst (λ o. AreTold c.args.rows.now c.args.kinds.now ds c.args.root c.args.id (option_map (map thing_of) o)) c.in-None.is c.in_ok-found.ensures in
    λ p q d. none_where_open c.args.rows.now c.args.kinds.now c.args.demands.now c.args.root c.args.id h.0 h.1 h.2 p q d (sym h.3)

pub returns-then-matches_by-clause-found : goal.returns-then-matches_by-clause-found
returns-then-matches_by-clause-found c =
    λ p q. subst (λ l. MatchesBy c.args.rows.now p (map thing_of l) c.args.id) c.as_slice.ensures ((c.matches_by.ensures p q).0 c.if-matches_by.true)

pub returns-else-matches_by-clause-none : goal.returns-else-matches_by-clause-none
returns-else-matches_by-clause-none c =
    let ds = map demand_of c.args.demands.now in
    let h = subst (λ o. AreTold c.args.rows.now c.args.kinds.now ds c.args.root c.args.id (option_map (map thing_of) o)) c.in-Some.is c.in_ok-found.ensures in
    λ p q d. none_but_this c.args.rows.now c.args.kinds.now c.args.demands.now c.args.root c.args.id h.0 h.1 h.2 p q d (map thing_of c.in-Some.given) (sym h.3)
    (λ m. absurd (cc ((c.matches_by.ensures p q).1 (subst (λ l. MatchesBy c.args.rows.now p (map thing_of l) c.args.id) (sym c.as_slice.ensures) m), c.if-matches_by.false)))

pub returns-then-not-may_be_root-clause-none : goal.returns-then-not-may_be_root-clause-none
returns-then-not-may_be_root-clause-none c =
    λ p q d. no_match c.args.rows.now c.args.kinds.now c.args.demands.now c.args.root c.args.id (option_copied c.row_of.result) c.row_of.ensures
    (λ all a e h. subst IsTrue c.if-not-may_be_root.true (c.may_be_root.ensures all a e h)) p q
