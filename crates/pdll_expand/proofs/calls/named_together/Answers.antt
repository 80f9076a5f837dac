use Rattle.std.proofs.Common.{◌≡◌, ℕ, List, ◌∷◌, ◌+◌, ◌-◌, ◌<◌, ◌≤◌, map, drop, length, get_or, option_map, sym, ap, ◌∙◌, subst, arith}
use Rattle.std.specs.Str.{bytes_eq}
use Rattle.std.specs.Map.{lookup}
use Rattle.native_set.specs.declared.native.Kind.TheVariants.{Attr}
use Rattle.pdll_syntax.specs.declared.stmt.Param.{Param}
use Rattle.rewrite_model.specs.Names.{named_together}
use Rattle.rewrite_model.specs.Expanding.{param_names}
use Rattle.pdll_expand.specs.declared.expr.Expr.TheVariants.{The}
use Rattle.pdll_expand.specs.declared.scene.Meant.{Meant}
use Rattle.pdll_expand.specs.View.{meant_of}
use Rattle.pdll_expand.specs.Scenes.{AreNames}
use Rattle.pdll_expand.proofs.Loops.{next_item, next_of, none_behind}
use Rattle.pdll_expand.proofs.Bodies.{none_together}
use Rattle.pdll_expand.proofs.Names.{seen}
use Rattle.pdll_expand.proofs.calls.named_together.Goals as goal

pub loop-at-init : goal.loop-at-init
loop-at-init c =
    let ps = c.args.params.now in
    let ys = map meant_of (drop (length ps) c.args.arguments.now) in
    let long : length ps ≤ length ps = omega arith in (
      long,
      subst (λ (qs : List Param). AreNames c.new-names.result (named_together (param_names qs) ys)) (sym (none_behind ps (length ps) long))
          (λ n. ap (λ es. option_map meant_of (lookup (λ k. bytes_eq n k.now) es)) c.new-names.ensures.empty),
    )

pub loop-at-preserved-in_ok-insert : goal.loop-at-preserved-in_ok-insert
loop-at-preserved-in_ok-insert c =
    let ps = c.args.params.now in
    let xs = c.args.arguments.now in
    let at = c.loop-at.at in
    let i = at - 1 in
    let inv = c.loop-at.invariant in
    let p = c.index-params-at.result in
    let none : Meant = record { kind = Attr; is = The 0 } in
    let x = get_or xs i none in
    let name = c.as_slice.result.now in
    let rest = named_together (param_names (drop at ps)) (map meant_of (drop at xs)) in
    let some : i ≤ length ps = omega (arith, inv.0) in
    let inside : i < length ps = omega (arith, inv.0, c.loop-at-test.true) in
    let up : i + 1 ≡ at = omega (arith, c.loop-at-test.true) in
    let param = ap (λ (qs : List Param). named_together (param_names qs) (map meant_of (drop i xs))) (next_item ps i p inside c.index-params-at.is ∙ ap (λ n. p ∷ drop n ps) up) in
    let argument = ap (λ zs. named_together (param_names (p ∷ drop at ps)) (map meant_of zs)) (next_of xs i none c.if-at-arguments.true ∙ ap (λ n. x ∷ drop n xs) up) in
    let named = ap (λ (n : List ℕ). (n, meant_of x) ∷ rest) (ap (λ (one : Param). one.name.text) c.index-params-at.is ∙ sym c.as_slice.ensures) in (
      some,
      subst (λ names. AreNames c.insert.new.self names) (sym (param ∙ (argument ∙ named)))
          (seen name x c.loop-at.names c.insert.new.self rest c.in_ok-insert.ensures.updates inv.1),
    )

pub loop-at-preserved : goal.loop-at-preserved
loop-at-preserved c =
    let ps = c.args.params.now in
    let xs = c.args.arguments.now in
    let at = c.loop-at.at in
    let i = at - 1 in
    let inv = c.loop-at.invariant in
    let some : i ≤ length ps = omega (arith, inv.0) in
    let short : length xs ≤ i = omega arith in
    let shorter : length xs ≤ at = omega arith in
    let none = λ (j : ℕ) (h : length xs ≤ j). ap (λ zs. named_together (param_names (drop j ps)) (map meant_of zs)) (none_behind xs j h) ∙ none_together (param_names (drop j ps)) in
    (some, subst (λ names. AreNames c.loop-at.names names) (none at shorter ∙ sym (none i short)) inv.1)
