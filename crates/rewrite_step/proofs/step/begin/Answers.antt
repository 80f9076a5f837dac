use Rattle.std.proofs.Common.{List, subst, sym}
use Rattle.mlir_tree.specs.declared.row.Row.{Row}
use Rattle.rewrite_model.specs.Laws.{IsLaidOut}
use Rattle.rewrite_step.proofs.step.begin.Goals as goal

pub all_slots-slots-requires : goal.all_slots-slots-requires
all_slots-slots-requires c = subst (λ (rs : List Row). IsLaidOut (record { rows = rs; next = c.args.rows.now.next })) (sym c.as_slice-all.ensures) c.requires.layout
