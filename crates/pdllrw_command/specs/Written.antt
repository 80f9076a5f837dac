-- What is left in the sinks.
use Rattle.std.specs.Prelude.{◌≡◌, ◌⊎◌, ℕ, List, Result, OnOk, OnErr}
use Rattle.rw_outside.specs.Outside.{Rose, appended, PutsFront}
use Rattle.rw_outside.specs.Puts.{SinkState}
use Rattle.pdllrw_command.specs.declared.status.Status.{Status}
use Rattle.pdllrw_command.specs.declared.status.Status.TheVariants as statuses

-- At Ok the whole text was written, else a front of it, and the count of faults rose.
pub record Writes {A E : Type 0} (old new : SinkState) (result : Result A E) (text : List ℕ) : Type 0 where
  pub all : OnOk result (new.bytes ≡ appended old.bytes text)
  pub front : OnErr result (PutsFront old.bytes new.bytes text)
  pub failed : OnErr result (Rose old.faults new.faults)

-- The line was put and the status stays, or the sink failed.
abbrev pub Tells : SinkState → SinkState → List ℕ → Status → Status → Type 0
Tells old new line status result =
    ((result ≡ status) × (new.bytes ≡ appended old.bytes line)) ⊎ ((result ≡ statuses.WriteFault) × PutsFront old.bytes new.bytes line × Rose old.faults new.faults)

-- Both texts were put and the status stays, or a sink failed. Where it was the first one, the second got nothing.
abbrev pub Shows : SinkState → SinkState → SinkState → SinkState → List ℕ → List ℕ → Status → Status → Type 0
Shows out out' log log' module_text log_text status result =
    ((result ≡ status) × (out'.bytes ≡ appended out.bytes module_text) × (log'.bytes ≡ appended log.bytes log_text))
    ⊎ (((result ≡ statuses.WriteFault) × PutsFront out.bytes out'.bytes module_text × (log'.bytes ≡ log.bytes) × Rose out.faults out'.faults)
    ⊎ ((result ≡ statuses.WriteFault) × (out'.bytes ≡ appended out.bytes module_text) × PutsFront log.bytes log'.bytes log_text × Rose log.faults log'.faults))
