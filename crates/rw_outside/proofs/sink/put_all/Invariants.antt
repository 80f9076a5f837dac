use Rattle.std.proofs.Common.{length, ◌-◌, ◌≤◌}
use Rattle.rw_outside.proofs.Put.{PutsUpTo}
use Rattle.rw_outside.proofs.sink.put_all.Given as goal

abbrev pub invariant-loop-done : goal.invariant-loop-done
invariant-loop-done g l = record {
  inside : l.done ≤ length l.piece;
  puts : PutsUpTo (g.S.Sink.state l.fn.sink) (g.S.Sink.state l.sink) l.done l.piece;
}

abbrev pub decreases-loop-done : goal.decreases-loop-done
decreases-loop-done g l = length l.piece - l.done
