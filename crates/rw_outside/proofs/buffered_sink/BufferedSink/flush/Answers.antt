use Rattle.std.proofs.Common.{◌∙◌, ap, drop, take, arith}
use Rattle.rw_outside.specs.Outside.{appended}
use Rattle.rw_outside.proofs.Put.{handed_on, grows_twice, nothing_taken}
use Rattle.rw_outside.proofs.buffered_sink.BufferedSink.flush.Goals as goal

pub returns-then-count-eq0-clause-bytes : goal.returns-then-count-eq0-clause-bytes
returns-then-count-eq0-clause-bytes g c =
    let before = c.loop-self.self in
    let taken0 = c.in_ok-count.ensures.taken in
    let same = nothing_taken (g.S.Sink.state before.sink.now).bytes (g.S.Sink.state c.put.new.self).bytes c.in_ok-count.count _ c.if-count-eq0.true taken0 in
    ap (λ known. appended known (drop before.done before.held.now.items)) same ∙ c.loop-self.invariant.bytes

pub loop-self-preserved : goal.loop-self-preserved
loop-self-preserved g c =
    let before = c.loop-self.self in
    let now = g.S.Sink.state c.put.new.self in
    let taken0 = c.in_ok-count.ensures.taken in
    let taken = rw c.deref.ensures.value at taken0 in
    record {
      same_sink = c.loop-self.invariant.same_sink;
      same_buffer = c.loop-self.invariant.same_buffer;
      bytes = handed_on (g.S.Sink.state before.sink.now).bytes now.bytes c.in_ok-count.count before.done before.held.now.items taken ∙ c.loop-self.invariant.bytes;
      never_falls = omega (arith, c.put.ensures.never_falls, c.loop-self.invariant.never_falls);
      arrives = grows_twice _ _ _ c.loop-self.invariant.arrives (record { more = _; grown = taken });
    }
