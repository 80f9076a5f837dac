use Rattle.std.proofs.Common.{◌∙◌}
use Rattle.text_scan.proofs.StringLaws.{string_found_by, string_only, string_some}
use Rattle.text_scan.proofs.strings.string_end.Goals as goal

pub returns-clause-found : goal.returns-clause-found
returns-clause-found c = string_found_by c.args.bytes.now c.args.at c.quoted_end.result c.requires c.quoted_end.ensures

pub returns-clause-only : goal.returns-clause-only
returns-clause-only c = λ end is. c.quoted_end.ensures ∙ string_only c.args.bytes.now c.args.at end is

pub returns-clause-some : goal.returns-clause-some
returns-clause-some c = string_some c.args.bytes.now c.args.at c.quoted_end.result c.quoted_end.ensures
