use Rattle.std.proofs.Common.{map}
use Rattle.rewrite_model.specs.Holding.{HasEntry}
use Rattle.row_matcher.specs.View.{thing_of}
use Rattle.row_matcher.proofs.Fitting.{one_fails}
use Rattle.pdll_expand.specs.View.{named_expr_of}
use Rattle.row_matcher.proofs.matching.parts.has_entries.Goals as goal

pub returns-then-not-has_entry : goal.returns-then-not-has_entry
returns-then-not-has_entry c =
    let P = HasEntry c.args.rows.now (map thing_of c.args.given.now) c.args.r.now in
    (λ t. absurd (cc t), λ h. elim (one_fails P named_expr_of c.args.entries.now c.loop-e.e-index _ c.loop-e-test.true (λ p. let t = c.has_entry.ensures.1 p in cc (t, c.if-not-has_entry.true)) (c.loop-e.invariant.0 h)) [ ])
