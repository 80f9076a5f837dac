use Rattle.std.proofs.Common.{◌≡◌, take}
use Rattle.pdll_syntax.proofs.file.copy_params.Given as goal

abbrev pub invariant-loop-param : goal.invariant-loop-param
invariant-loop-param l = l.copied ≡ take l.param-index l.all
