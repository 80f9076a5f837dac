use Rattle.std.proofs.Common.{subst}
use Rattle.mlir_attributes.specs.Input.{Gives}
use Rattle.mlir_resolve.proofs.Resolved.{walked_is_resolved}
use Rattle.mlir_resolve.proofs.Slots.{slots_kept}
use Rattle.mlir_resolve.proofs.WellFormedRows.{given_well_formed, lower_homes}
use Rattle.mlir_resolve.proofs.module.resolve.Goals as goal

pub returns-clause-exact : goal.returns-clause-exact
returns-clause-exact c = subst (Gives c.module_rows.result) (walked_is_resolved c.args.file.now) c.module_rows.ensures.exact

pub returns-clause-slots : goal.returns-clause-slots
returns-clause-slots c = slots_kept c.args.file.now c.module_rows.result c.requires.kept (subst (Gives c.module_rows.result) (walked_is_resolved c.args.file.now) c.module_rows.ensures.exact)

pub returns-clause-well_formed : goal.returns-clause-well_formed
returns-clause-well_formed c = given_well_formed c.args.file.now c.module_rows.result c.requires.kept (subst (Gives c.module_rows.result) (walked_is_resolved c.args.file.now) c.module_rows.ensures.exact)

pub returns-clause-homes : goal.returns-clause-homes
returns-clause-homes c = lower_homes c.args.file.now c.module_rows.result (subst (Gives c.module_rows.result) (walked_is_resolved c.args.file.now) c.module_rows.ensures.exact)
