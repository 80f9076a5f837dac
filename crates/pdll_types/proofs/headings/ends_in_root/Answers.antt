use Rattle.std.proofs.Common.{◌-◌, length, sym, ◌∙◌, arith}
use Rattle.pdll_types.proofs.Loops.{root_last}
use Rattle.pdll_types.proofs.headings.ends_in_root.Goals as goal

pub returns-in-len1-up : goal.returns-in-len1-up
returns-in-len1-up c = c.names_root.ensures ∙ sym (root_last c.args.all.now (length c.args.all.now - 1) c.last-item.result (omega arith) c.last-item.is)
