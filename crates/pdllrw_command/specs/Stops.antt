-- Why a file was not accepted.
use Rattle.std.specs.Prelude.{ℕ, List, Option, IfSome}
use Rattle.rw_outside.specs.Outside.{Rose}
use Rattle.pdllrw_command.specs.declared.position.Position.{Position}
use Rattle.pdllrw_command.specs.declared.status.Status.{Status}
use Rattle.pdllrw_command.specs.declared.status.Status.TheVariants as statuses
use Rattle.pdllrw_command.specs.Outcome.{RefusesPatterns, RefusesModule}

abbrev pub StopsPatterns : Option (List ℕ) → ℕ → ℕ → Position → Status → Type 0
StopsPatterns file faults faults' p (statuses.PatternFault f) = IfSome file (RefusesPatterns p f)
StopsPatterns file faults faults' p statuses.ReadFault = Rose faults faults'
StopsPatterns file faults faults' p statuses.NoMemory = Unit {0}
StopsPatterns file faults faults' p status = ⊥

abbrev pub StopsModule : Option (List ℕ) → ℕ → ℕ → Position → Status → Type 0
StopsModule file faults faults' p (statuses.ModuleFault f) = IfSome file (RefusesModule p f)
StopsModule file faults faults' p statuses.ReadFault = Rose faults faults'
StopsModule file faults faults' p statuses.NoMemory = Unit {0}
StopsModule file faults faults' p status = ⊥
