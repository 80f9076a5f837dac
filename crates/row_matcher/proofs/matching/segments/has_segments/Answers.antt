use Rattle.std.proofs.Common.{◌≡◌, ◌≤◌, ℕ, List, Bor, Bool, true, false, map, drop, Option, Some, None, refl, sym, ap, subst, ◌∙◌, arith}
use Rattle.std.specs.Prelude.{not, option_copied, option_and_then}
use Rattle.rewrite_model.specs.Things.{values_in}
use Rattle.std.specs.Option.{is_some}
use Rattle.std.proofs.lemmas.List.{drop_all}
use Rattle.pdll_expand.specs.declared.expr.Expr.TheVariants.{The}
use Rattle.pdll_expand.specs.View.{expr_of}
use Rattle.row_matcher.specs.View.{thing_of}
use Rattle.row_matcher.specs.Segments.{IsNextSegment, AreDenoted}
use Rattle.row_matcher.proofs.Segments.{left_of, segments_next, segments_end, all_denoted}
use Rattle.row_matcher.proofs.matching.segments.has_segments.Goals as goal

pub returns-in-None : goal.returns-in-None
returns-in-None c = (
  λ f. absurd (cc),
  λ x. absurd (segments_end expr_of c.args.exprs.now c.loop-e.e-index (The 0) c.loop-e-test.true (option_copied c.loop-e.left) c.loop-e.rest.now c.args.rows.now (map thing_of c.args.given.now)
      (subst (λ o. IsNextSegment (option_copied c.loop-e.left) c.loop-e.rest.now o) c.in-None.is c.next_segment.ensures) (c.loop-e.invariant.0 x)),
)

pub loop-e-preserved : goal.loop-e-preserved
loop-e-preserved c =
    let next = segments_next expr_of c.args.exprs.now c.loop-e.e-index (The 0) c.loop-e-test.true (option_copied c.loop-e.left) c.loop-e.rest.now c.args.rows.now (map thing_of c.args.given.now) c.in-Some.s
    (subst (λ o. IsNextSegment (option_copied c.loop-e.left) c.loop-e.rest.now o) c.in-Some.is c.next_segment.ensures)
    (sym (ap (option_and_then values_in) c.denoted.ensures) ∙ c.has_values.ensures.0 c.if-not-has_values.false) in
    (λ x. next.0 (c.loop-e.invariant.0 x), λ y. c.loop-e.invariant.1 (next.1 y))

pub returns-else-is_none : goal.returns-else-is_none
returns-else-is_none c = (
  λ f. absurd (let no = sym f ∙ c.if-is_none.false in cc),
  λ x. let left = all_denoted c.args.rows.now (map thing_of c.args.given.now) (option_copied c.loop-e.left) c.loop-e.rest.now
      (subst (λ es. AreDenoted c.args.rows.now (map thing_of c.args.given.now) (map expr_of es) (left_of (option_copied c.loop-e.left) c.loop-e.rest.now)) (drop_all c.loop-e.e-index c.args.exprs.now (omega (arith, c.loop-e-test.false))) (c.loop-e.invariant.0 x)) in so c.is_none.result (sym c.is_none.ensures ∙ empty c.loop-e.left left.0),
)
  where
    empty : (o : Option (Bor (List ℕ))) → option_copied o ≡ None → is_some o ≡ false
    empty None e = refl
    empty (Some b) e = absurd (cc)

    so : (b : Bool) → not b ≡ false → b ≡ true
    so true e = refl
    so false e = absurd (cc)
