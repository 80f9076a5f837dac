use Rattle.native_set.proofs.Lines.{natives_are_lines}
use Rattle.native_set.proofs.laws.natives_are_lines.Goals as goal

pub returns : goal.returns
returns c = natives_are_lines
