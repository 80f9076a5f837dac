use Rattle.std.proofs.Common.{◌≡◌, ◌+◌, ◌%◌, ◌^◌, drop}
use Rattle.std.specs.Prelude.{sum}
use Rattle.rw_outside.proofs.sure.added.Given as goal

abbrev pub invariant-loop-b : goal.invariant-loop-b
invariant-loop-b l = (l.total + sum (drop l.b-index l.piece)) % 2 ^ 64 ≡ (l.before + sum l.piece) % 2 ^ 64
