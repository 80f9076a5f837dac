-- What putting pieces one behind another leaves in a sink: nothing more is put once a call of the sink failed.
use Rattle.std.specs.Prelude.{◌≡◌, ℕ, Bool, true, false, List, Result, Ok, Err}
use Rattle.rw_outside.specs.Puts.{SinkState, Puts}
use Rattle.rw_outside.specs.declared.sink.Failed.{Failed}

-- what a call answers, by whether each call of the sink succeeded
abbrev pub outcome_of : Bool → Result (Unit {0}) Failed
outcome_of true = Ok tt
outcome_of false = Err (record {})

-- Where no call failed before, the text is put as `Puts` says, else the sink stays as it is.
pub record Prints (was is : Bool) (old new : SinkState) (text : List ℕ) : Type 0 where
  pub put : was ≡ true → Puts old new (outcome_of is) text
  pub stopped : was ≡ false → (is ≡ false) × (new ≡ old)
