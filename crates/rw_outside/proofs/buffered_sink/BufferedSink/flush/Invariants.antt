use Rattle.std.proofs.Common.{◌≡◌, ◌≤◌, ◌-◌, length, drop}
use Rattle.rw_outside.specs.Outside.{appended, Grows}
use Rattle.rw_outside.proofs.buffered_sink.BufferedSink.flush.Given as goal

abbrev pub invariant-loop-self : goal.invariant-loop-self
invariant-loop-self g l = record {
  same_sink : l.self.sink.ghost_name ≡ l.fn.self.sink.ghost_name;
  same_buffer : l.self.held.ghost_name ≡ l.fn.self.held.ghost_name;
  bytes : appended (g.S.Sink.state l.self.sink.now).bytes (drop l.self.done l.self.held.now.items) ≡ appended (g.S.Sink.state l.fn.self.sink.now).bytes (drop l.fn.self.done l.fn.self.held.now.items);
  never_falls : (g.S.Sink.state l.fn.self.sink.now).faults ≤ (g.S.Sink.state l.self.sink.now).faults;
  arrives : Grows (g.S.Sink.state l.fn.self.sink.now).bytes (g.S.Sink.state l.self.sink.now).bytes;
}

abbrev pub decreases-loop-self : goal.decreases-loop-self
decreases-loop-self g l = length l.self.held.now.items - l.self.done
