use Rattle.std.proofs.Common.{◌≡◌, length, map}
use Rattle.row_matcher.specs.View.{thing_of}
use Rattle.row_matcher.proofs.Asking.{no_call}
use Rattle.row_matcher.proofs.matching.holding.call_holds.Goals as goal

pub returns : goal.returns
returns c =
    let one : length c.args.exprs.now ≡ 1 → ⊥ = c.if-exprs-eq1.false in
    let two : length c.args.exprs.now ≡ 2 → ⊥ = c.if-exprs-eq2.false in
    (λ t. absurd (cc t), λ h. elim (no_call c.args.rows.now (map thing_of c.args.given.now) c.args.c c.args.exprs.now one two h) [ ])
