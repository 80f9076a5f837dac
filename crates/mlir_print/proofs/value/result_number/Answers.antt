use Rattle.mlir_print.proofs.value.result_number.Goals as goal
use Rattle.std.proofs.Common.{sym, ap, ◌∙◌}
use Rattle.std.specs.Option.{option_copied}
use Rattle.mlir_print.proofs.Lookups.{kept_result, none_before}

pub returns-in-None : goal.returns-in-None
returns-in-None c = none_before c.args.rows.now c.args.numbers.now c.requires c.args.id (sym c.entry.ensures ∙ ap option_copied c.in-None.is)

pub returns-in-Some : goal.returns-in-Some
returns-in-Some c =
    kept_result c.args.rows.now c.args.numbers.now c.requires c.args.id c.in-Some.found.now (sym c.entry.ensures ∙ ap option_copied c.in-Some.is)
