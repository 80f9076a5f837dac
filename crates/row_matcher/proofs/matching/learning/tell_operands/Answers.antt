use Rattle.std.proofs.Common.{◌≡◌, true, false, [], ◌∷◌, map, refl, sym, ap, ◌∙◌}
use Rattle.rewrite_model.specs.Ranges.{is_range, has_ranges}
use Rattle.pdll_expand.specs.View.{expr_of}
use Rattle.row_matcher.specs.Learning.{known_of, tells, operands_cut, by_segments}
use Rattle.row_matcher.proofs.matching.learning.tell_operands.Goals as goal

pub returns-in-None : goal.returns-in-None
returns-in-None c =
    let es = map expr_of c.args.exprs.now in
    let fs = map (is_range c.args.kinds.now) es in
    let k = known_of c.args.known.now in
    let several : has_ranges c.args.kinds.now es ≡ true = sym c.has_ranges.ensures ∙ c.if-not-has_ranges.false in
    sym (ap (λ b. tells es (operands_cut b fs c.args.r.now) k) several ∙ (ap (λ o. tells es (by_segments fs o) k) c.in-None.ensures ∙ nothing es))
  where
    nothing : (es : _) → tells es [] (known_of c.args.known.now) ≡ known_of c.args.known.now
    nothing [] = refl
    nothing (e ∷ es) = refl
