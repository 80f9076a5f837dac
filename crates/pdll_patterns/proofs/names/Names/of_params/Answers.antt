use Rattle.std.proofs.Common.{◌≡◌, ℕ, zero, suc, ◌+◌, ◌-◌, ◌<◌, min, List, [], ◌∷◌, length, get_or, map, drop, refl, ap, sym, ◌∙◌, subst, arith}
use Rattle.native_set.specs.declared.native.Kind.TheVariants.{Attr}
use Rattle.pdll_syntax.specs.declared.stmt.Param.{Param}
use Rattle.rewrite_model.specs.Names.{named_together}
use Rattle.rewrite_model.specs.Expanding.{param_names}
use Rattle.pdll_expand.specs.declared.expr.Expr.TheVariants.{The}
use Rattle.pdll_patterns.specs.declared.action.Part.TheVariants.{Matched}
use Rattle.pdll_patterns.specs.declared.names.MeantPart.{MeantPart}
use Rattle.pdll_patterns.specs.View.{meant_part_of}
use Rattle.pdll_patterns.specs.Scripts.{AreNames}
use Rattle.pdll_patterns.proofs.Loops.{next_item, next_at}
use Rattle.pdll_patterns.proofs.names.Names.of_params.Goals as goal

named_none : (ns : List (List ℕ)) → named_together ns (map meant_part_of []) ≡ []
named_none [] = refl
named_none (n ∷ ns) = refl

together_none : (ps : List Param) (xs : List MeantPart) (at : ℕ) → at ≡ min (length ps) (length xs) → named_together (param_names (drop at ps)) (map meant_part_of (drop at xs)) ≡ []
together_none [] xs zero h = refl
together_none [] xs (suc at) h = refl
together_none (p ∷ ps) [] zero h = refl
together_none (p ∷ ps) [] (suc at) h = named_none (param_names (drop at ps))
together_none (p ∷ ps) (x ∷ xs) zero h = absurd (omega arith)
together_none (p ∷ ps) (x ∷ xs) (suc at) h = together_none ps xs at (omega arith)

together_one : (ps : List Param) (xs : List MeantPart) (i at : ℕ) (p : Param) (d : MeantPart) (n : List ℕ) → i + 1 ≡ at → i < length ps → i < length xs → p ≡ get_or ps i p → n ≡ p.name.text
    → (n, meant_part_of (get_or xs i d)) ∷ named_together (param_names (drop at ps)) (map meant_part_of (drop at xs)) ≡ named_together (param_names (drop i ps)) (map meant_part_of (drop i xs))
together_one ps xs i at p d n s h k is e =
    ap (λ m. (m, meant_part_of (get_or xs i d)) ∷ named_together (param_names (drop at ps)) (map meant_part_of (drop at xs))) e
    ∙ (ap (λ j. (p.name.text, meant_part_of (get_or xs i d)) ∷ named_together (param_names (drop j ps)) (map meant_part_of (drop j xs))) (sym s)
    ∙ (ap (λ qs. named_together (param_names qs) (meant_part_of (get_or xs i d) ∷ map meant_part_of (drop (i + 1) xs))) (sym (next_item ps i p h is))
    ∙ ap (λ ys. named_together (param_names (drop i ps)) (map meant_part_of ys)) (sym (next_at xs i d k))))

pub loop-at-init : goal.loop-at-init
loop-at-init c =
    let m = c.min-at.ensures in
    record {
      params = omega (arith, m);
      arguments = omega (arith, m);
      seen = subst (λ ns. AreNames c.new-names.result ns) (sym (together_none c.args.params.now c.args.arguments.now c.min-at.result m)) c.new-names.ensures;
    }

pub loop-at-preserved : goal.loop-at-preserved
loop-at-preserved c =
    let at = c.loop-at.at in
    let i = at - 1 in
    let ps = c.args.params.now in
    let xs = c.args.arguments.now in
    let d : MeantPart = record { kind = Attr; is = Matched (The 0) } in
    let more = c.loop-at-test.true in
    let one = c.loop-at.invariant.params in
    let two = c.loop-at.invariant.arguments in
    let s : i + 1 ≡ at = omega arith in
    let h : i < length ps = omega arith in
    let k : i < length xs = omega arith in
    record {
      params = omega arith;
      arguments = omega arith;
      seen = subst (λ ns. AreNames c.see.new.self ns) (together_one ps xs i at c.index-params-at.result d c.as_slice.result.now s h k c.index-params-at.is (c.as_slice.ensures ∙ ap (λ (q : Param). q.name.text) (sym c.index-params-at.is)))
          (c.in_ok-see.ensures (named_together (param_names (drop at ps)) (map meant_part_of (drop at xs))) c.loop-at.invariant.seen);
    }
