use Rattle.std.proofs.Common.{ap}
use Rattle.rw_outside.specs.Puts.{SinkState}
use Rattle.rw_outside.proofs.Put.{held_behind, passed_on, put_grows, grows_twice}
use Rattle.rw_outside.proofs.buffered_sink.BufferedSinkSink.put.Goals as goal

pub returns-then-has_room-2-clause-taken : goal.returns-then-has_room-2-clause-taken
returns-then-has_room-2-clause-taken g c =
    let held = c.hold-then-has_room-2.ensures in
    held_behind _ _ _ _ _ _ c.args.piece.now c.in_ok-flush.ensures.bytes (ap (λ (s : SinkState). s.bytes) held.sink) held.held

pub returns-clause-taken : goal.returns-clause-taken
returns-clause-taken g c = passed_on c.put.result _ _ _ _ _ c.args.piece.now c.in_ok-flush.ensures.bytes c.in_ok-flush.ensures.empty c.put.ensures.taken

pub returns-clause-arrives : goal.returns-clause-arrives
returns-clause-arrives g c =
    grows_twice _ _ _ c.in_ok-flush.ensures.arrives (put_grows c.put.result _ _ c.args.piece.now c.put.ensures.taken c.put.ensures.kept)
