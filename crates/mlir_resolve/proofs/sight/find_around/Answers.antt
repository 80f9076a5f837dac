use Rattle.std.proofs.Common.{sym, ap, ◌∙◌, arith, take, ◌-◌}
use Rattle.std.specs.Option.{option_or, option_map}
use Rattle.mlir_resolve.specs.Scopes.{lookup, named}
use Rattle.mlir_resolve.proofs.Around.{last_before}
use Rattle.mlir_resolve.proofs.sight.find_around.Goals as goal

pub returns-in-Some : goal.returns-in-Some
returns-in-Some c =
    let s = last_before c.args.name.now c.args.outer.now c.loop-at.at c.index-outer-at.result (omega arith) c.loop-at.invariant.0 c.index-outer-at.is in
    let f = sym c.find.ensures ∙ ap (option_map (named c.args.name.now)) c.in-Some.is in
    sym (sym c.loop-at.invariant.1 ∙ (s ∙ ap (λ o. option_or o (lookup (take (c.loop-at.at - 1) c.args.outer.now) c.args.name.now)) f))

pub loop-at-preserved : goal.loop-at-preserved
loop-at-preserved c =
    let s = last_before c.args.name.now c.args.outer.now c.loop-at.at c.index-outer-at.result (omega arith) c.loop-at.invariant.0 c.index-outer-at.is in
    let f = sym c.find.ensures ∙ ap (option_map (named c.args.name.now)) c.in_default.is in
    (omega (arith, c.loop-at.invariant.0), sym (sym c.loop-at.invariant.1 ∙ (s ∙ ap (λ o. option_or o (lookup (take (c.loop-at.at - 1) c.args.outer.now) c.args.name.now)) f)))
