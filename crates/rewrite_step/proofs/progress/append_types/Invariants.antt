use Rattle.std.proofs.Common.{◌≡◌, ◌++◌, take}
use Rattle.rewrite_step.proofs.progress.append_types.Given as goal

abbrev pub invariant-loop-ty : goal.invariant-loop-ty
invariant-loop-ty l = l.found ≡ l.initial.found ++ take l.ty-index l.types
