-- What a sink is, and what a call that writes does to it.
use Rattle.std.specs.Prelude.{◌≡◌, ◌≤◌, ℕ, List, drop, Option, Result, OnOk, OnErr}
use Rattle.std.specs.Borrow.{MutBor}
use Rattle.rw_outside.specs.Outside.{Rose, appended, Grows, PutsFront}

-- What is known of a sink: the bytes that it took, where it tells them, and how often a call failed. A sink that
-- gathers bytes for another one says too which of its bytes arrived there, and by which reference they go.
pub record SinkState : Type 0 where
  pub bytes : Option (List ℕ)
  pub faults : ℕ
  pub arrived : Option (List ℕ)
  pub way : ℕ

-- a sink that keeps what it takes
abbrev pub kept_state : Option (List ℕ) → ℕ → SinkState
kept_state bytes faults = record { bytes = bytes; faults = faults; arrived = bytes; way = 0 }

-- At Ok the text was put, else a front of it, and the count of faults rose.
pub record Puts {A E : Type 0} (old new : SinkState) (result : Result A E) (text : List ℕ) : Type 0 where
  pub all : OnOk result (new.bytes ≡ appended old.bytes text)
  pub front : OnErr result (PutsFront old.bytes new.bytes text)
  pub failed : OnErr result (Rose old.faults new.faults)
  pub never_falls : old.faults ≤ new.faults
  pub arrives : Grows old.arrived new.arrived
  pub same_way : new.way ≡ old.way

-- a sink that holds bytes back, and has handed on so many of them already
abbrev pub gathered_state : {X : Type 0} → (X → SinkState) → MutBor X → List ℕ → ℕ → SinkState
gathered_state state sink held done = record {
  bytes = appended (state sink.now).bytes (drop done held);
  faults = (state sink.now).faults;
  arrived = (state sink.now).bytes;
  way = sink.ghost_name;
}
