-- Where all goes well, the command succeeds.
use Rattle.std.proofs.Common.{◌≡◌, ℕ, List, Option, Some, None, sym, ap, subst, ◌∙◌, inl, inr, arith}
use Rattle.std.specs.Prelude.{IfSome}
use Rattle.rw_outside.specs.Outside.{Rose}
use Rattle.pdll_parser.proofs.CompleteFiles.{spelled_once}
use Rattle.pdllrw_command.specs.Accepted.{AcceptsPatterns, AcceptsModule}
use Rattle.pdllrw_command.specs.declared.position.Position.{Position}
use Rattle.pdll_syntax.specs.declared.file.PatFile.{PatFile}
use Rattle.pdll_syntax.specs.declared.fault.PatFault.{PatFault}
use Rattle.pdll_types.specs.Accepted.{IsFirstFault}
use Rattle.pdll_types.proofs.Exclusive.{accepted_files_have_no_fault}
use Rattle.mlir_parse.proofs.FilesComplete as module_files
use Rattle.mlir_parse.specs.declared.syn.Syn.{Syn}
use Rattle.mlir_parse.specs.FileGrammar.{IsModuleFile}
use Rattle.mlir_attributes.specs.declared.fault.ModFault.{ModFault}
use Rattle.mlir_tree.specs.declared.rows.Rows.{Rows}
use Rattle.mlir_resolve.specs.Resolving.{resolved}
use Rattle.pdllrw_command.specs.declared.status.Status.{Status}
use Rattle.pdllrw_command.specs.declared.status.Status.TheVariants as statuses
use Rattle.command_line.specs.Command.{Rewriting, command_of}
use Rattle.pdllrw_command.specs.Outcome.{Outside, Command, ReadsBadly, HasBadPatterns, HasBadModule, IsOutcome, RefusesPatterns, RefusesModule}
use Rattle.pdllrw_command.specs.Complete.{GoesWell, Succeeds}

names_same : (o : Option Rewriting) (r s : Rewriting) → o ≡ Some r → o ≡ Some s → (r.patterns ≡ s.patterns) × (r.module_file ≡ s.module_file)
names_same o r s e e' =
    let same = some_is r s (sym e ∙ e') in
    (ap (λ (n : Rewriting). n.patterns) same, ap (λ (n : Rewriting). n.module_file) same)
  where
    some_is : (x y : Rewriting) → Some x ≡ Some y → x ≡ y
    some_is x y e = cc

told_is : (P : List ℕ → Type 0) (o : Option (List ℕ)) (bytes : List ℕ) → o ≡ Some bytes → IfSome o P → P bytes
told_is P o bytes told some = subst (λ (q : Option (List ℕ)). IfSome q P) told some

-- A file that is accepted isn't refused.
good_patterns : (p : Position) (f : PatFault) (bytes : List ℕ) (file : PatFile) → AcceptsPatterns file bytes → RefusesPatterns p f bytes → ⊥
good_patterns p f bytes file well (inl refused) = absurd (omega (arith, refused.long, well.short))
good_patterns p f bytes file well (inr (inl refused)) = refused.not_spelled file well.spelled
good_patterns p f bytes file well (inr (inr refused)) =
    let same = spelled_once bytes refused.file file refused.spelled well.spelled in
    accepted_files_have_no_fault file f well.accepted (subst (λ x. IsFirstFault x f) same refused.fault)

-- No text spells two module files.
one_file : (bytes : List ℕ) (a b : Syn) → IsModuleFile bytes a → IsModuleFile bytes b → a ≡ b
one_file bytes a b h k = let same = sym (module_files.file_complete bytes a h) ∙ module_files.file_complete bytes b k in cc

good_module : (p : Position) (f : ModFault) (bytes : List ℕ) (m : Rows) → AcceptsModule m bytes → RefusesModule p f bytes → ⊥
good_module p f bytes m well (inl refused) = absurd (omega (arith, refused.long, well.short))
good_module p f bytes m well (inr (inl refused)) = refused.not_spelled well.file well.spelled
good_module p f bytes m well (inr (inr refused)) =
    let same = one_file bytes refused.file well.file refused.spelled well.spelled in
    cc (refused.fault, well.resolves, ap resolved same)

module _ (old new : Outside) (words : List (List ℕ)) (well : GoesWell old new words) where
  same_files : (c : Command words) → (c.patterns ≡ well.command.patterns) × (c.module_file ≡ well.command.module_file)
  same_files c = names_same (command_of words) (asked c) (asked well.command) c.is_command well.command.is_command where
    asked : Command words → Rewriting
    asked c = record { bound = c.bound; patterns = c.patterns; module_file = c.module_file }

  no_usage : command_of words ≡ None → ⊥
  no_usage none = cc (none, well.command.is_command)

  no_bad_patterns : (p : Position) (f : PatFault) → HasBadPatterns old words p f → ⊥
  no_bad_patterns p f bad =
      let told = ap old.files (same_files bad.command).0 ∙ well.patterns_told in
      good_patterns p f well.pattern_bytes well.patterns well.are_patterns (told_is (RefusesPatterns p f) (old.files bad.command.patterns) well.pattern_bytes told bad.refused)

  no_bad_module : (p : Position) (f : ModFault) → HasBadModule old words p f → ⊥
  no_bad_module p f bad =
      let told = ap old.files (same_files bad.command).1 ∙ well.module_told in
      good_module p f well.module_bytes well.rows well.is_module (told_is (RefusesModule p f) (old.files bad.command.module_file) well.module_bytes told bad.refused)

  no_bad_read : ReadsBadly old new words → ⊥
  no_bad_read bad = elim bad.rose [
    | inl rose ↦ well.patterns_count (subst (λ (n : List ℕ). Rose (old.faults n) (new.faults n)) (same_files bad.command).0 rose)
    | inr rose ↦ well.module_count (subst (λ (n : List ℕ). Rose (old.faults n) (new.faults n)) (same_files bad.command).1 rose.2)
  ]

  pub completes : (s : Status) → IsOutcome old new words s → Succeeds s
  completes statuses.Done outcome = tt
  completes (statuses.Bound k) outcome = tt
  completes (statuses.Broken b) outcome = tt
  completes statuses.NoMemory outcome = tt
  completes statuses.Usage outcome = no_usage outcome.is_answer.1
  completes (statuses.PatternFault f) outcome = no_bad_patterns outcome.is_answer.0 f outcome.is_answer.1
  completes (statuses.ModuleFault f) outcome = no_bad_module outcome.is_answer.0 f outcome.is_answer.1
  completes statuses.ReadFault outcome = no_bad_read outcome.is_answer.1
  completes statuses.WriteFault outcome = elim outcome.cut [ inl cut ↦ well.out_count cut.2 | inr cut ↦ well.log_count cut.2 ]
