use Rattle.std.proofs.Common.{ap, sym, ◌∙◌}
use Rattle.rewrite_model.specs.Size.{expanded_size, pattern_expressions, is_too_large}
use Rattle.pdll_sizes.specs.Capped.{capped, capped_size}
use Rattle.pdll_sizes.proofs.Limits.{large_pattern, large_constraint, large_rewrite}
use Rattle.pdll_sizes.proofs.sizes.Sizes.is_too_large.Goals as goal

pub returns-in-Pattern : goal.returns-in-Pattern
returns-in-Pattern c =
    let earlier = c.args.self.now in
    let size = c.decl_size-size.ensures ∙ ap (λ d. capped_size (expanded_size earlier d)) c.in-Pattern.is in
    let kept = c.self.invariant.all ∙ ap (λ ds. capped (pattern_expressions ds)) c.self.view_is in
    c.is_large_pattern.ensures
    ∙ (large_pattern earlier c.in-Pattern.field-0 c.decl_size-size.result c.self.inside.expressions c.saturating_add.result size kept c.saturating_add.ensures
    ∙ sym (ap (is_too_large earlier) c.in-Pattern.is))

pub returns-in-Constraint : goal.returns-in-Constraint
returns-in-Constraint c =
    let earlier = c.args.self.now in
    let size = c.decl_size-size.ensures ∙ ap (λ d. capped_size (expanded_size earlier d)) c.in-Constraint.is in
    c.is_long.ensures
    ∙ (large_constraint earlier c.in-Constraint.field-0 c.decl_size-size.result size ∙ sym (ap (is_too_large earlier) c.in-Constraint.is))

pub returns-in-Rewrite : goal.returns-in-Rewrite
returns-in-Rewrite c =
    let earlier = c.args.self.now in
    let size = c.decl_size-size.ensures ∙ ap (λ d. capped_size (expanded_size earlier d)) c.in-Rewrite.is in
    c.is_long-in-Rewrite.ensures
    ∙ (large_rewrite earlier c.in-Rewrite.field-0 c.decl_size-size.result size ∙ sym (ap (is_too_large earlier) c.in-Rewrite.is))
