use Rattle.std.proofs.Common.{◌∷◌, ap, sym, ◌∙◌, subst}
use Rattle.rewrite_model.specs.Size.{expanded_size}
use Rattle.pdll_sizes.specs.Capped.{capped_size}
use Rattle.pdll_sizes.specs.Kept.{last_first, IsKept}
use Rattle.pdll_sizes.proofs.Limits.{pattern_more}
use Rattle.pdll_sizes.proofs.Maps.{pattern_kept}
use Rattle.pdll_sizes.proofs.sizes.Sizes.declare_pattern.Goals as goal

pub invariant_of-self-2 : goal.invariant_of-self-2
invariant_of-self-2 c =
    let p = c.requires.0 in
    let before = c.self.inside in
    let earlier = last_first before.declared.items in
    let all = c.saturating_add-self-inside.result in
    let size = c.decl_size-size.ensures ∙ (λ i. capped_size (expanded_size (sym c.self.view_is i) (c.requires.1 i))) in
    let more = pattern_more earlier p c.decl_size-size.result before.expressions all size c.self.invariant.all c.saturating_add-self-inside.ensures in
    let last = c.push.ensures ∙ (ap (λ l. c.args.d.now ∷ last_first l) c.reserve.ensures.items ∙ ap (λ d. d ∷ earlier) c.requires.1) in
    let kept = pattern_kept earlier p before.constraints.entries before.rewrites.entries before.expressions all more c.self.invariant in
    subst (λ ds. IsKept ds before.constraints.entries before.rewrites.entries all) (sym last) kept
