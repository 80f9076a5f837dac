use Rattle.std.proofs.Common.{sym, ap, ◌∙◌}
use Rattle.std.specs.Prelude.{slice_set}
use Rattle.mlir_tree.specs.declared.row.Row.{Row}
use Rattle.mlir_tree.specs.Edits.{substituted_row}
use Rattle.rewrite_step.specs.Substituting.{uses_any}
use Rattle.rewrite_step.proofs.Substituting.{read_there, nothing_set}
use Rattle.rewrite_step.proofs.edits.substitute_at.Goals as goal

pub returns-then-not-uses_any : goal.returns-then-not-uses_any
returns-then-not-uses_any c r here =
    let from = c.args.from.now in
    let row = c.index-as_slice-at.result in
    let is = read_there c.args.rows.now c.as_slice.result.now c.args.at row r c.as_slice.ensures c.index-as_slice-at.is here in
    let none = ap (λ (t : Row). uses_any from t.operands) (sym is) ∙ (ap (uses_any from) (sym c.as_slice-2.ensures) ∙ (sym c.uses_any.ensures ∙ c.if-not-uses_any.true)) in
    nothing_set from c.args.to.now c.args.rows.now c.args.at r here none

pub returns : goal.returns
returns c r here =
    let row = c.index-as_slice-at.result in
    let is = read_there c.args.rows.now c.as_slice.result.now c.args.at row r c.as_slice.ensures c.index-as_slice-at.is here in
    c.set.ensures ∙ ap (slice_set c.args.rows.now c.args.at) (c.in_ok-substituted.ensures ∙ ap (substituted_row c.args.from.now c.args.to.now) is)
