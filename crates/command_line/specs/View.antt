-- What the program's command stands for.
use Rattle.command_line.specs.Command.{Rewriting}
use Rattle.command_line.specs.declared.rewriting.Rewriting.{Rewriting as RewritingNode}

abbrev pub rewriting_of : RewritingNode → Rewriting
rewriting_of r = record { bound = r.bound; patterns = r.patterns.now; module_file = r.module_file.now }
