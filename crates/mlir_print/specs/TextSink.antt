-- What a sink has taken that keeps a text.
use Rattle.std.specs.Prelude.{Some}
use Rattle.rw_outside.specs.Puts.{SinkState, kept_state}
use Rattle.mlir_print.specs.declared.text_sink.TextSink.{TextSink}

abbrev pub text_state : TextSink → SinkState
text_state s = kept_state (Some s.bytes.items) s.faults
