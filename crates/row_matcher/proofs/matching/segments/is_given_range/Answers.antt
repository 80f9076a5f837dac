use Rattle.std.proofs.Common.{◌≡◌, map, Some, None, true, false, ◌⊎◌, inl, inr, refl, sym, ap, ◌∙◌}
use Rattle.native_set.specs.declared.native.Kind.{Kind}
use Rattle.std.specs.Prelude.{option_copied}
use Rattle.native_set.specs.declared.native.Kind.TheVariants as kinds
use Rattle.rewrite_model.specs.Ranges.{is_range_kind, is_range}
use Rattle.rewrite_model.specs.Things.{kind_of}
use Rattle.pdll_expand.specs.View.{expr_of}
use Rattle.row_matcher.specs.View.{thing_of}
use Rattle.row_matcher.proofs.Segments.{kind_there, kind_nowhere}
use Rattle.row_matcher.proofs.matching.segments.is_given_range.Goals as goal

pub returns-in-Values : goal.returns-in-Values
returns-in-Values c =
    let there = kind_there c.args.given.now c.in-The.x c.in-Some.t.now (ap option_copied (sym c.in-Some.is) ∙ c.at.ensures) in
    let kind_is = sym (c.kind.ensures ∙ ap kind_of c.seen.ensures) in
    sym (ap (λ e. is_range (map kind_of (map thing_of c.args.given.now)) (expr_of e)) c.in-The.is ∙ (ap is_range_kind (there ∙ ap (λ k. Some k) kind_is) ∙ several c.kind.result c.in-Values.is))
  where
    several : (k : Kind) → (k ≡ kinds.Values) ⊎ (k ≡ kinds.Tys) → is_range_kind (Some k) ≡ true
    several k (inl e) = ap (λ k. is_range_kind (Some k)) e
    several k (inr e) = ap (λ k. is_range_kind (Some k)) e

pub returns-in_default-matches : goal.returns-in_default-matches
returns-in_default-matches c =
    let there = kind_there c.args.given.now c.in-The.x c.in-Some.t.now (ap option_copied (sym c.in-Some.is) ∙ c.at.ensures) in
    let kind_is = sym (c.kind.ensures ∙ ap kind_of c.seen.ensures) in
    sym (ap (λ e. is_range (map kind_of (map thing_of c.args.given.now)) (expr_of e)) c.in-The.is ∙ (ap is_range_kind (there ∙ ap (λ k. Some k) kind_is) ∙ single c.kind.result c.in_default-matches.not-Values c.in_default-matches.not-Tys))
  where
    single : (k : Kind) → (k ≡ kinds.Values → ⊥) → (k ≡ kinds.Tys → ⊥) → is_range_kind (Some k) ≡ false
    single kinds.Op v t = refl
    single kinds.Value v t = refl
    single kinds.Values v t = absurd (v refl)
    single kinds.Attr v t = refl
    single kinds.Ty v t = refl
    single kinds.Tys v t = absurd (t refl)

pub returns-in-None : goal.returns-in-None
returns-in-None c =
    let nowhere = kind_nowhere c.args.given.now c.in-The.x (ap option_copied (sym c.in-None.is) ∙ c.at.ensures) in
    sym (ap (λ e. is_range (map kind_of (map thing_of c.args.given.now)) (expr_of e)) c.in-The.is ∙ ap is_range_kind nowhere)
