-- What the program answers, by its words and its files.
use Rattle.std.specs.Prelude.{◌≡◌, ◌<◌, ◌≤◌, ◌⊎◌, ℕ, true, List, [], ◌∷◌, length, codes, decimal, Option, Some, None, Err, IfSome}
use Rattle.std.specs.List.{concat}
use Rattle.rw_outside.specs.Outside.{Rose, appended, PutsFront}
use Rattle.rw_outside.specs.Puts.{SinkState}
use Rattle.pdll_syntax.specs.declared.file.PatFile.{PatFile}
use Rattle.pdll_syntax.specs.Faults.{code_text}
use Rattle.pdll_parser.specs.FileGrammar.{IsPatternFile}
use Rattle.pdll_parser.specs.Spelling.{is_spelling_fault}
use Rattle.pdll_types.specs.Accepted.{IsAccepted, IsFirstFault}
use Rattle.pdllrw_command.specs.Positions.{position_of}
use Rattle.pdllrw_command.specs.declared.position.Position.{Position}
use Rattle.pdll_syntax.specs.declared.fault.PatFault.{PatFault}
use Rattle.pdll_syntax.specs.declared.fault.PatKind.{PatKind}
use Rattle.pdll_syntax.specs.declared.fault.PatKind.TheVariants as pat_kinds
use Rattle.mlir_parse.specs.declared.syn.Syn.{Syn}
use Rattle.mlir_parse.specs.FileGrammar.{IsModuleFile}
use Rattle.mlir_attributes.specs.Faults as module_faults
use Rattle.mlir_attributes.specs.declared.fault.ModFault.{ModFault}
use Rattle.mlir_attributes.specs.declared.fault.ModKind.{ModKind}
use Rattle.mlir_attributes.specs.declared.fault.ModKind.TheVariants as mod_kinds
use Rattle.mlir_tree.specs.declared.rows.Rows.{Rows}
use Rattle.mlir_tree.specs.WellFormed.{IsWellFormed}
use Rattle.mlir_resolve.specs.Resolving.{resolved}
use Rattle.mlir_print.specs.ModuleText.{module_text}
use Rattle.rewrite_model.specs.declared.run.Hit.{Hit}
use Rattle.rewrite_model.specs.declared.run.Ending.{Ending}
use Rattle.rewrite_model.specs.declared.run.Ending.TheVariants as endings
use Rattle.rewrite_model.specs.Expanding.{patterns}
use Rattle.rewrite_model.specs.declared.run.Order.TheVariants.{First}
use Rattle.rewrite_model.specs.Running.{Course, Runs, Reaches}
use Rattle.run_model.specs.LogText.{log_text}
use Rattle.command_line.specs.Command.{command_of}
use Rattle.pdllrw_command.specs.declared.status.Status.{Status}
use Rattle.pdllrw_command.specs.declared.status.Status.TheVariants as statuses
use Rattle.pdllrw_command.specs.Accepted.{AcceptsPatterns, AcceptsModule}

-- what is outside at one moment: the files and their counts of faults, and the two sinks
pub record Outside : Type 0 where
  pub files : List ℕ → Option (List ℕ)
  pub faults : List ℕ → ℕ
  pub out : SinkState
  pub log : SinkState

-- ---- refusals

-- The file isn't spelled, and the place of the fault is on this line and in this column.
pub record IsNotSpelled (p : Position) (kind : PatKind) (at : ℕ) (bytes : List ℕ) : Type 0 where
  pub is_kind : is_spelling_fault kind ≡ true
  pub short : length bytes ≤ 67108864
  pub not_spelled : (file : PatFile) → IsPatternFile bytes file → ⊥
  pub within : at ≤ length bytes
  pub place : p ≡ position_of bytes at

-- The file is spelled, and this is its first fault.
pub record IsNotAccepted (p : Position) (f : PatFault) (bytes : List ℕ) : Type 0 where
  pub short : length bytes ≤ 67108864
  pub file : PatFile
  pub spelled : IsPatternFile bytes file
  pub fault : IsFirstFault file f
  pub place : p ≡ position_of bytes f.at

-- The file has too many bytes.
pub record IsLongFile (f : PatFault) (bytes : List ℕ) : Type 0 where
  pub is_kind : f.kind ≡ pat_kinds.TooLong
  pub place : f.at ≡ 67108864
  pub long : 67108864 < length bytes

-- the bytes are refused with this fault, whose place is on this line and in this column
abbrev pub RefusesPatterns : Position → PatFault → List ℕ → Type 0
RefusesPatterns p f bytes = IsLongFile f bytes ⊎ (IsNotSpelled p f.kind f.at bytes ⊎ IsNotAccepted p f bytes)

-- The same of a module file.
pub record IsNoModule (p : Position) (kind : ModKind) (at : ℕ) (bytes : List ℕ) : Type 0 where
  pub is_kind : module_faults.is_spelling_fault kind ≡ true
  pub short : length bytes ≤ 67108864
  pub not_spelled : (file : Syn) → IsModuleFile bytes file → ⊥
  pub within : at ≤ length bytes
  pub place : p ≡ position_of bytes at

-- The file is spelled, and this is the first fault of its names, counts, types and dictionaries.
pub record IsUnresolved (p : Position) (kind : ModKind) (at : ℕ) (bytes : List ℕ) : Type 0 where
  pub short : length bytes ≤ 67108864
  pub file : Syn
  pub spelled : IsModuleFile bytes file
  pub fault : resolved file ≡ Err (record { kind = kind; at = at })
  pub place : p ≡ position_of bytes at

-- The file has too many bytes.
pub record IsLongModule (f : ModFault) (bytes : List ℕ) : Type 0 where
  pub is_kind : f.kind ≡ mod_kinds.TooLong
  pub place : f.at ≡ 67108864
  pub long : 67108864 < length bytes

abbrev pub RefusesModule : Position → ModFault → List ℕ → Type 0
RefusesModule p f bytes = IsLongModule f bytes ⊎ (IsNoModule p f.kind f.at bytes ⊎ IsUnresolved p f.kind f.at bytes)

-- a line and a column, and what is wrong there
abbrev pub placed_line : List ℕ → Position → List ℕ → List ℕ
placed_line file p code = concat (codes "pdllrw: " ∷ file ∷ codes ": " ∷ decimal p.line ∷ codes ":" ∷ decimal p.column ∷ codes ": " ∷ code ∷ codes "\n" ∷ [])

abbrev pub patterns_line : Position → PatKind → List ℕ
patterns_line p pat_kinds.TooLong = codes "pdllrw: patterns: P1 TooLong\n"
patterns_line p kind = placed_line (codes "patterns") p (code_text kind)

abbrev pub module_line : Position → ModKind → List ℕ
module_line p mod_kinds.TooLong = codes "pdllrw: module: M1 TooLong\n"
module_line p kind = placed_line (codes "module") p (module_faults.code_text kind)

-- the line of a refusal that names no place of a file
abbrev pub plain_line : Status → List ℕ
plain_line statuses.Usage = codes "pdllrw: usage: pdllrw [--max-rewrites N] PATTERNS MODULE or --emit KIND PATTERNS or --generate N\n"
plain_line statuses.ReadFault = codes "pdllrw: read fault\n"
plain_line status = []

-- the line of a refusal, with the line and the column of its place where it names one
unfoldable pub line_of : Position → Status → List ℕ
line_of p (statuses.PatternFault f) = patterns_line p f.kind
line_of p (statuses.ModuleFault f) = module_line p f.kind
line_of p status = plain_line status

-- ---- answers

-- the bound and the files of the command
pub record Command (words : List (List ℕ)) : Type 0 where
  pub bound : ℕ
  pub patterns : List ℕ
  pub module_file : List ℕ
  pub is_command : command_of words ≡ Some (record { bound = bound; patterns = patterns; module_file = module_file })

-- The run of the patterns on the module, where the files tell them: the module at its end, and its log.
pub record Rewrites (files : List ℕ → Option (List ℕ)) (words : List (List ℕ)) (ending : Ending) (out log : List ℕ) : Type 0 where
  pub command : Command words
  pub file : PatFile
  pub are_patterns : IfSome (files command.patterns) (AcceptsPatterns file)
  pub rows : Rows
  pub is_module : IfSome (files command.module_file) (AcceptsModule rows)
  pub course : Course
  pub runs : Runs First (patterns file) command.bound rows course
  -- each module between is well-formed, the first and the last one too
  pub well_formed : (m : Rows) → Reaches First (patterns file) command.bound rows m → IsWellFormed m
  pub ends : course.ending ≡ ending
  pub out_is : out ≡ module_text course.rows.rows
  pub log_is : log ≡ log_text course.taken course.ending

-- a count of a file of the command rose, and each file before it was accepted
pub record ReadsBadly (old new : Outside) (words : List (List ℕ)) : Type 0 where
  pub command : Command words
  pub rose : Rose (old.faults command.patterns) (new.faults command.patterns)
      ⊎ ((file : PatFile) × IfSome (old.files command.patterns) (AcceptsPatterns file) × Rose (old.faults command.module_file) (new.faults command.module_file))

pub record HasBadPatterns (old : Outside) (words : List (List ℕ)) (p : Position) (f : PatFault) : Type 0 where
  pub command : Command words
  pub refused : IfSome (old.files command.patterns) (RefusesPatterns p f)

pub record HasBadModule (old : Outside) (words : List (List ℕ)) (p : Position) (f : ModFault) : Type 0 where
  pub command : Command words
  pub file : PatFile
  pub are_patterns : IfSome (old.files command.patterns) (AcceptsPatterns file)
  pub refused : IfSome (old.files command.module_file) (RefusesModule p f)

-- why a status that writes a line comes, and the line and the column that it names
abbrev pub IsCause : Outside → Outside → List (List ℕ) → Position → Status → Type 0
IsCause old new words p statuses.Usage = command_of words ≡ None
IsCause old new words p (statuses.PatternFault f) = HasBadPatterns old words p f
IsCause old new words p (statuses.ModuleFault f) = HasBadModule old words p f
IsCause old new words p statuses.ReadFault = ReadsBadly old new words
IsCause old new words p statuses.Done = ⊥
IsCause old new words p (statuses.Bound k) = ⊥
IsCause old new words p (statuses.Broken b) = ⊥
IsCause old new words p statuses.WriteFault = ⊥
IsCause old new words p statuses.NoMemory = ⊥

-- a status, and what is written with it
abbrev pub IsAnswer : Outside → Outside → List (List ℕ) → Status → List ℕ → List ℕ → Type 0
IsAnswer old new words statuses.Done out log = Rewrites old.files words endings.Converged out log
IsAnswer old new words (statuses.Bound k) out log = (h : Hit) × Rewrites old.files words (endings.Bound k h) out log
IsAnswer old new words (statuses.Broken b) out log = Rewrites old.files words (endings.Broken b) out log
IsAnswer old new words status out log = (p : Position) × IsCause old new words p status × (out ≡ []) × (log ≡ line_of p status)

-- Both texts were written.
pub record IsWritten (old new : Outside) (words : List (List ℕ)) (status : Status) : Type 0 where
  pub out : List ℕ
  pub log : List ℕ
  pub is_answer : IsAnswer old new words status out log
  pub out_put : new.out.bytes ≡ appended old.out.bytes out
  pub log_put : new.log.bytes ≡ appended old.log.bytes log

-- A sink failed. Where it was `out`, `log` got nothing.
pub record IsCutShort (old new : Outside) (words : List (List ℕ)) : Type 0 where
  pub status : Status
  pub out : List ℕ
  pub log : List ℕ
  pub is_answer : IsAnswer old new words status out log
  pub cut : (PutsFront old.out.bytes new.out.bytes out × (new.log.bytes ≡ old.log.bytes) × Rose old.out.faults new.out.faults)
      ⊎ ((new.out.bytes ≡ appended old.out.bytes out) × PutsFront old.log.bytes new.log.bytes log × Rose old.log.faults new.log.faults)

-- what the program does, by the status that it answers
abbrev pub IsOutcome : Outside → Outside → List (List ℕ) → Status → Type 0
IsOutcome old new words statuses.WriteFault = IsCutShort old new words
IsOutcome old new words statuses.NoMemory = (new.out.bytes ≡ old.out.bytes) × (new.log.bytes ≡ old.log.bytes)
IsOutcome old new words status = IsWritten old new words status

abbrev pub kind_of_ending : Ending → Status
kind_of_ending endings.Converged = statuses.Done
kind_of_ending (endings.Bound k h) = statuses.Bound k
kind_of_ending (endings.Broken b) = statuses.Broken b
