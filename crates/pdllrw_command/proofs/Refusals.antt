-- A refusal of the bytes that were read is a refusal of the file.
use Rattle.std.proofs.Common.{◌≡◌, ℕ, ◌≤◌, List, length, Some, Err, inl, inr}
use Rattle.std.specs.Prelude.{true}
use Rattle.pdll_syntax.specs.declared.fault.PatFault.{PatFault}
use Rattle.mlir_parse.specs.declared.syn.Syn.{Syn}
use Rattle.mlir_parse.specs.FileGrammar.{IsModuleFile}
use Rattle.mlir_attributes.specs.Faults as module_faults
use Rattle.mlir_attributes.specs.declared.fault.ModFault.{ModFault}
use Rattle.mlir_resolve.specs.Resolving.{resolved}
use Rattle.pdll_syntax.specs.declared.file.PatFile.{PatFile}
use Rattle.pdll_parser.specs.FileGrammar.{IsPatternFile}
use Rattle.pdll_parser.specs.Spelling.{is_spelling_fault}
use Rattle.pdll_types.specs.Accepted.{IsFirstFault}
use Rattle.pdllrw_command.specs.Positions.{position_of}
use Rattle.pdllrw_command.specs.declared.position.Position.{Position}
use Rattle.pdllrw_command.specs.Outcome.{RefusesPatterns, RefusesModule}

-- a fault for which the bytes aren't spelled
pub spelling_refused : (bytes : List ℕ) (p : Position) (f : PatFault) → is_spelling_fault f.kind ≡ true → length bytes ≤ 67108864 → ((file : PatFile) → IsPatternFile bytes file → ⊥) → f.at ≤ length bytes
    → p ≡ position_of bytes f.at → RefusesPatterns p f bytes
spelling_refused bytes p f is short none within place = inr (inl (record { is_kind = is; short = short; not_spelled = none; within = within; place = place }))

-- a fault of a file that is spelled
pub not_accepted : (bytes : List ℕ) (p : Position) (f : PatFault) (file : PatFile) → length bytes ≤ 67108864 → IsPatternFile bytes file → IsFirstFault file f → p ≡ position_of bytes f.at → RefusesPatterns p f bytes
not_accepted bytes p f file short spelled fault place = inr (inr (record { short = short; file = file; spelled = spelled; fault = fault; place = place }))

-- the same of a module file
pub module_refused : (bytes : List ℕ) (p : Position) (f : ModFault) → module_faults.is_spelling_fault f.kind ≡ true → length bytes ≤ 67108864 → ((file : Syn) → IsModuleFile bytes file → ⊥) → f.at ≤ length bytes
    → p ≡ position_of bytes f.at → RefusesModule p f bytes
module_refused bytes p f is short none within place = inr (inl (record { is_kind = is; short = short; not_spelled = none; within = within; place = place }))

-- a fault of a file that is spelled
pub module_unresolved : (bytes : List ℕ) (p : Position) (f : ModFault) (file : Syn) → length bytes ≤ 67108864 → IsModuleFile bytes file → resolved file ≡ Err f → p ≡ position_of bytes f.at → RefusesModule p f bytes
module_unresolved bytes p f file short spelled fault place = inr (inr (record { short = short; file = file; spelled = spelled; fault = fault; place = place }))
