use Rattle.std.specs.Prelude.{ℕ, List, Some, None}
use Rattle.rw_outside.specs.Puts.{SinkState, kept_state}

-- what a sink in memory keeps: the bytes taken, the room left, and how often it failed
pub record Kept : Type 0 where
  pub bytes : List ℕ
  pub room : ℕ
  pub faults : ℕ

abbrev pub memory_state : Kept → SinkState
memory_state s = kept_state (Some s.bytes) s.faults

-- a sink that tells no bytes, and failed so often
abbrev pub silent_state : ℕ → SinkState
silent_state faults = kept_state None faults
