-- The number with which the process ends.
use Rattle.std.specs.Prelude.{ℕ}
use Rattle.pdllrw_command.specs.declared.status.Status.{Status}
use Rattle.pdllrw_command.specs.declared.status.Status.TheVariants.{Done, Bound, Usage, PatternFault, ModuleFault, Broken, ReadFault, WriteFault, NoMemory}

abbrev pub code_of : Status → ℕ
code_of Done = 0
code_of (Bound k) = 1
code_of Usage = 2
code_of (PatternFault f) = 3
code_of (ModuleFault f) = 4
code_of (Broken b) = 5
code_of ReadFault = 6
code_of WriteFault = 7
code_of NoMemory = 8
