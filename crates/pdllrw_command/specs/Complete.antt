-- When the command succeeds.
use Rattle.std.specs.Prelude.{◌≡◌, ℕ, List, Some}
use Rattle.rw_outside.specs.Outside.{Rose}
use Rattle.mlir_tree.specs.declared.rows.Rows.{Rows}
use Rattle.pdll_syntax.specs.declared.file.PatFile.{PatFile}
use Rattle.pdllrw_command.specs.Accepted.{AcceptsPatterns, AcceptsModule}
use Rattle.pdllrw_command.specs.declared.status.Status.{Status}
use Rattle.pdllrw_command.specs.declared.status.Status.TheVariants as statuses
use Rattle.pdllrw_command.specs.Outcome.{Outside, Command}

-- The files are told and accepted, and no count rose.
pub record GoesWell (old new : Outside) (words : List (List ℕ)) : Type 0 where
  pub command : Command words
  pub pattern_bytes : List ℕ
  pub patterns_told : old.files command.patterns ≡ Some pattern_bytes
  pub patterns : PatFile
  pub are_patterns : AcceptsPatterns patterns pattern_bytes
  pub module_bytes : List ℕ
  pub module_told : old.files command.module_file ≡ Some module_bytes
  pub rows : Rows
  pub is_module : AcceptsModule rows module_bytes
  pub patterns_count : Rose (old.faults command.patterns) (new.faults command.patterns) → ⊥
  pub module_count : Rose (old.faults command.module_file) (new.faults command.module_file) → ⊥
  pub out_count : Rose old.out.faults new.out.faults → ⊥
  pub log_count : Rose old.log.faults new.log.faults → ⊥

abbrev pub Succeeds : Status → Type 0
Succeeds statuses.Done = Unit {0}
Succeeds (statuses.Bound k) = Unit {0}
Succeeds (statuses.Broken b) = Unit {0}
Succeeds statuses.NoMemory = Unit {0}
Succeeds status = ⊥
