use Rattle.std.proofs.Common.{◌+◌, ◌∷◌, ◌++◌, sym, ap, ◌∙◌, arith, drop}
use Rattle.std.specs.Prelude.{filter_map}
use Rattle.mlir_resolve.specs.Resolving.{types_fault, used_value, or_then}
use Rattle.mlir_resolve.specs.Walk.{names_in}
use Rattle.mlir_resolve.specs.Heads.{type_step}
use Rattle.mlir_resolve.proofs.Uses.{faults_step, values_step, types_step, push_from, or_first}
use Rattle.mlir_resolve.proofs.operands.operands.Goals as goal

pub loop-i-preserved : goal.loop-i-preserved
loop-i-preserved c =
    let names = names_in c.args.file.now c.args.outer.now c.args.scope.now in
    let x = c.index-uses-i.result in
    let n = c.in_ok-named.named in
    let uses = c.args.uses.now in
    let written = c.args.written.now in
    let i = c.loop-i.i in
    let is = c.index-uses-i.is in
    let known = c.in_ok-named.ensures.1 in
    let f = faults_step names uses i x (omega arith) is c.in_ok-named.ensures.0 in
    let v = values_step names uses i x n (omega arith) is known in
    let t = types_step names uses written i x n (omega arith) is known in
    let rest = types_fault names (drop (i + 1) uses) (drop (i + 1) written) in (
      sym f ∙ c.loop-i.invariant.0,
      push_from c.loop-i.values c.push.new.self (filter_map (used_value names) (drop (i + 1) uses)) (filter_map (used_value names) uses) c.value_at.result
          (ap (λ y. c.loop-i.values ++ y ∷ filter_map (used_value names) (drop (i + 1) uses)) c.value_at.ensures ∙ (sym (ap (λ ys. c.loop-i.values ++ ys) v) ∙ c.loop-i.invariant.1))
          c.in_ok-push.ensures.ok,
      ap (λ d. or_then d rest) c.first_fault-differs.ensures
          ∙ (or_first c.loop-i.differs (type_step n.types.now x _) rest
          ∙ (ap (λ o. or_then c.loop-i.differs (or_then (type_step n.types.now x o) rest)) c.at.ensures
          ∙ (sym (ap (or_then c.loop-i.differs) t) ∙ c.loop-i.invariant.2))),
    )
