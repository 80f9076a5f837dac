-- The faults of module files.
use Rattle.std.proofs.Common.{◌≡◌, ℕ, zero, suc, ◌≤◌, Bool, true, false, cond, List, [], ◌∷◌, ◌++◌, length, refl, subst, Result, Ok, Err}
use Rattle.std.specs.Prelude.{◌==◌}
use Rattle.std.specs.Option.{is_some}
use Rattle.std.specs.Str.Lossy.{utf8_valid_len}
use Rattle.std.proofs.lemmas.Str.{utf8_valid_len_le}
use Rattle.mlir_lexer.specs.declared.token.TokenKind.TheVariants as k
use Rattle.mlir_tree.specs.declared.refusal.Refusal.{Refusal}
use Rattle.mlir_tree.specs.declared.refusal.Refusal.TheVariants as refusals
use Rattle.mlir_attributes.specs.declared.fault.ModFault.{ModFault}
use Rattle.mlir_attributes.specs.declared.fault.ModKind.{ModKind}
use Rattle.mlir_attributes.specs.declared.fault.ModKind.TheVariants as faults
use Rattle.mlir_attributes.specs.declared.aliases.Alias.{Alias}
use Rattle.mlir_parse.specs.declared.syn.Syn.{Syn}
use Rattle.mlir_attributes.specs.Faults.{is_spelling_fault}
use Rattle.mlir_attributes.specs.Place.{fault, left, sees, start, start_of, next, spelling}
use Rattle.mlir_attributes.specs.Input.{Outcome, Gives, expect, lift}
use Rattle.mlir_attributes.specs.Aliases.{find, has_point}
use Rattle.mlir_attributes.specs.Types.{ty, max_open}
use Rattle.mlir_attributes.specs.Attributes.{attr}
use Rattle.mlir_attributes.specs.Steps.{sees_loc, location}
use Rattle.mlir_parse.specs.SynTree.{Operation}
use Rattle.mlir_parse.specs.Operations.{an_operation_in}
use Rattle.mlir_parse.specs.ModuleFile as read
use Rattle.mlir_parse.specs.FileGrammar.{IsModuleFile}
use Rattle.mlir_parse.proofs.FilesComplete.{file_complete}
use Rattle.mlir_attributes.proofs.FaultSteps.{Reading, Judged, Good, Told, start_within, next_in, refused, lifted, expected, both, mapped, either, location_judged}
use Rattle.mlir_attributes.proofs.FaultTypes.{ty_judged}
use Rattle.mlir_attributes.proofs.FaultAttrs.{attr_kind, attr_judged}
use Rattle.mlir_attributes.proofs.FaultTexts.{reading_of, first_in, call_fault, IsToldFault}
use Rattle.mlir_parse.proofs.FaultOps.{spelling_kind, operation_judged}

module _ (j : Reading) (all_in : (n : ModKind) → is_spelling_fault n ≡ true → j.kinds n ≡ true) where
  -- ---- definitions

  new_by : (at : ℕ) (a b : Bool) → at ≤ length j.base.bytes → Told {A = Unit {0}} j (cond a (Err (fault faults.Syntax at)) (cond b (Err (fault faults.AliasTwice at)) (Ok tt)))
  new_by at true b inside = record { kind = j.wide faults.Syntax refl; within = inside }
  new_by at false true inside = record { kind = all_in faults.AliasTwice refl; within = inside }
  new_by at false false inside = tt

  new_told : (aliases : List Alias) (at : ℕ) (name : List ℕ) → at ≤ length j.base.bytes → Told j (read.new_name aliases at name)
  unfolding read.new_name
  new_told aliases at name inside = new_by at (has_point name) (is_some (find name aliases)) inside

  hash_judged : (aliases : List Alias) → Good j (read.hash_meaning aliases)
  unfolding read.hash_meaning
  hash_judged aliases s h =
      either j (sees_loc s) _ _ s (both j (location max_open (next s)) _ (location_judged j max_open (next s) (next_in j s h)) (λ y u i. i))
      (mapped j (attr aliases max_open s) _ (attr_judged j (λ n h. all_in n (spelling_kind n h)) aliases max_open s h))

  meaning_judged : (aliases : List Alias) (hash : Bool) → Good j (read.meaning aliases hash)
  meaning_judged aliases true s h = hash_judged aliases s h
  meaning_judged aliases false s h = mapped j (ty aliases max_open s) _ (ty_judged j aliases max_open s h)

  definition_judged : (aliases : List Alias) → Good j (read.alias_definition aliases)
  unfolding read.alias_definition
  definition_judged aliases s h =
      both j (lift (read.new_name aliases (start s) (spelling s)) (next s)) _ (lifted j (read.new_name aliases (start s) (spelling s)) (next s) (next_in j s h) (new_told aliases (start s) (spelling s) (start_within j s h))) (λ y u i.
      both j (expect k.Equal u) _ (expected j k.Equal u i) (λ z v l. mapped j (read.meaning aliases (sees k.Hash s) v) _ (meaning_judged aliases (sees k.Hash s) v l)))

  -- ---- files

  operations_judged : (n : ℕ) (aliases : List Alias) (found : List Operation) → Good j (read.file_operations n aliases found)
  unfolding read.file_operations
  operations_judged zero aliases found s h = either j (sees k.End s) _ _ s h (refused j s h)
  operations_judged (suc n) aliases found s h =
      either j (sees k.End s) _ _ s h
      (either j (read.sees_definition s) _ _ s
      (both j (read.alias_definition aliases s) _ (definition_judged aliases s h) (λ a u i. operations_judged n (aliases ++ a ∷ []) found u i))
      (both j (an_operation_in aliases max_open s) _ (operation_judged j all_in aliases max_open s h) (λ o u i. operations_judged n aliases (found ++ o ∷ []) u i)))

-- ---- whole files

abbrev of_file : List ℕ → Reading
of_file bytes = reading_of bytes is_spelling_fault (λ n h. spelling_kind n (attr_kind n h))

module _ (j : Reading) where
  file_told : (o : Outcome (List Operation)) → Judged j o → Told j (read.file_of o)
  file_told (Ok p) h = tt
  file_told (Err e) h = h

file_in_told : (bytes : List ℕ) → Told (of_file bytes) (read.file_in bytes)
unfolding read.file_in
file_in_told bytes =
    file_told (of_file bytes) (read.all_operations (start_of bytes)) (operations_judged (of_file bytes) (λ n h. h) (left (start_of bytes)) [] [] (start_of bytes) (first_in bytes is_spelling_fault (λ n h. spelling_kind n (attr_kind n h))))

file_by : (bytes : List ℕ) (b : Bool) → Told (of_file bytes) (cond b (read.file_in bytes) (Err (fault faults.NotUtf8 (utf8_valid_len bytes))))
file_by bytes true = file_in_told bytes
file_by bytes false = record { kind = refl; within = utf8_valid_len_le bytes }

module_told : (bytes : List ℕ) → Told (of_file bytes) (read.module_file bytes)
unfolding read.module_file
module_told bytes = file_by bytes (utf8_valid_len bytes == length bytes)

-- ---- the fault of the call

pub file_fault : (bytes : List ℕ) (r : Result Syn (Refusal ModFault)) (f : ModFault) → Gives r (read.module_file bytes) → r ≡ Err (refusals.Fault f) → IsToldFault is_spelling_fault bytes f
file_fault bytes r f e is = let told = call_fault (of_file bytes) (read.module_file bytes) r f (module_told bytes) e is in record { kind = told.kind; within = told.within }

-- what is refused isn't spelled
pub not_spelled : (bytes : List ℕ) (r : Result Syn (Refusal ModFault)) (f : ModFault) → Gives r (read.module_file bytes) → r ≡ Err (refusals.Fault f) → (file : Syn) → IsModuleFile bytes file → ⊥
not_spelled bytes r f e is file h =
    let read_as : read.module_file bytes ≡ Ok file = file_complete bytes file h in
    let refused_as : read.module_file bytes ≡ Err f = subst (λ q. Gives q (read.module_file bytes)) is e in
    cc
