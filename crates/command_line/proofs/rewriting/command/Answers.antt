use Rattle.std.proofs.Common.{map, string_bytes}
use Rattle.clap.specs.Simple.{matches_of}
use Rattle.clap.specs.Faults.{fault_of}
use Rattle.command_line.specs.App.{the_app}
use Rattle.command_line.specs.Command.{command_of}
use Rattle.command_line.specs.declared.rewriting.Failure.TheVariants.{Usage}
use Rattle.command_line.proofs.Refused.{refused, same_failure}
use Rattle.command_line.proofs.rewriting.command.Goals as goal

pub returns-in-Err-clause-usage : goal.returns-in-Err-clause-usage
unfolding command_of
returns-in-Err-clause-usage c e =
    refused (fault_of the_app (map string_bytes c.args.words.now)) (matches_of the_app (map string_bytes c.args.words.now)) (c.in-Err.ensures.usage (same_failure c.in-Err.failure Usage e))
