-- What is read as a module file is spelled so.
use Rattle.std.proofs.Common.{◌≡◌, ℕ, zero, suc, Bool, true, false, cond, List, [], ◌∷◌, ◌++◌, length, refl, ap, sym, subst, ◌∙◌, Result, Ok, Err, IfOk, append_assoc, append-nil, arith}
use Rattle.std.specs.Prelude.{◌||◌, ◌==◌, Option, Some, None, IsUtf8}
use Rattle.std.specs.Str.Lossy.{utf8_valid_len}
use Rattle.std.specs.Option.{is_some}
use Rattle.mlir_lexer.specs.declared.token.TokenKind.{TokenKind}
use Rattle.mlir_lexer.specs.declared.token.TokenKind.TheVariants as k
use Rattle.mlir_tree.specs.declared.refusal.Refusal.{Refusal}
use Rattle.mlir_attributes.specs.declared.fault.ModFault.{ModFault}
use Rattle.mlir_attributes.specs.declared.fault.ModKind.TheVariants as faults
use Rattle.mlir_attributes.specs.declared.aliases.Alias.{Alias}
use Rattle.mlir_attributes.specs.declared.aliases.Meaning.{Meaning}
use Rattle.mlir_attributes.specs.declared.aliases.Meaning.TheVariants as meanings
use Rattle.mlir_parse.specs.declared.syn.Syn.{Syn}
use Rattle.mlir_attributes.specs.Place.{Place, fault, left, sees, start, spelling, next, start_of}
use Rattle.mlir_attributes.specs.Input.{Outcome, Parser, Gives, expect, refuse, lift, pure, take_token, ◌>>=◌, ◌>>◌, ◌<$>◌}
use Rattle.mlir_attributes.specs.Aliases.{find, has_point}
use Rattle.mlir_attributes.specs.Types.{ty, max_open}
use Rattle.mlir_attributes.specs.Attributes.{attr}
use Rattle.mlir_attributes.specs.Grammar.{IsSpelled}
use Rattle.mlir_attributes.specs.Steps as steps
use Rattle.mlir_parse.specs.SynTree.{Operation}
use Rattle.mlir_parse.specs.Operations.{an_operation_in}
use Rattle.mlir_parse.specs.OperationGrammar.{IsOperation}
use Rattle.mlir_parse.specs.ModuleFile as read
use Rattle.mlir_parse.specs.ModuleFile.{alias_of, file_operations}
use Rattle.mlir_parse.specs.FileGrammar.{IsMeaning, IsDefinition, AreFileOperations, IsModuleFile}
use Rattle.mlir_attributes.proofs.Tokens.{bind_ok, same_ok, IsWithin, taken, expected}
use Rattle.mlir_attributes.proofs.TypesSound.{ty_sound}
use Rattle.mlir_attributes.proofs.AttrsSound.{attr_sound}
use Rattle.mlir_parse.proofs.PartsSound.{lifted}
use Rattle.mlir_parse.proofs.RulesSound.{loc_word, location_sound}
use Rattle.mlir_parse.proofs.RegionsSound.{operation_sound}
use Rattle.mlir_attributes.proofs.Utf8.{utf8_all}

-- ---- definitions

new_by : (at : ℕ) (u : Unit {0}) (b : Bool) (o : Option Alias) → cond {A = Result (Unit {0}) ModFault} b (Err (fault faults.Syntax at)) (cond (is_some o) (Err (fault faults.AliasTwice at)) (Ok tt)) ≡ Ok u → (b ≡ false) × (o ≡ None)
new_by at u true o h = absurd (cc)
new_by at u false (Some a) h = absurd (cc)
new_by at u false None h = (refl, refl)

new_sound : (aliases : List Alias) (at : ℕ) (name : List ℕ) (u : Unit {0}) → read.new_name aliases at name ≡ Ok u → (has_point name ≡ false) × (find name aliases ≡ None)
unfolding read.new_name
new_sound aliases at name u h = new_by at u (has_point name) (find name aliases) h

hash_by : (aliases : List Alias) (s r : Place) (m : Meaning) (b : Bool) → steps.sees_loc s ≡ b → IsWithin s
    → (cond {A = Parser Meaning} b (take_token >> (steps.location max_open >> pure meanings.Location)) (meanings.Attr <$> attr aliases max_open)) s ≡ Ok (m, r) → IsMeaning aliases k.Hash s m r × IsWithin r
hash_by aliases s r m true is within h =
    let facts = loc_word s is in
    let first = taken k.Word s within facts.0 in
    let at = bind_ok (steps.location max_open (next s)) _ m r h in
    let same = same_ok at.3 in
    let found = location_sound max_open s (next s) at.1 at.0 (subst (λ t. IsSpelled k.Word t s (next s)) facts.1 first.0) first.1 at.2 in
    (subst (λ n. IsMeaning aliases k.Hash s n r) same.0 (subst (λ e. IsMeaning aliases k.Hash s meanings.Location e) same.1 (refl, found.0)), subst IsWithin same.1 found.1)
hash_by aliases s r m false is within h =
    let x = bind_ok (attr aliases max_open s) _ m r h in
    let same = same_ok x.3 in
    let found = attr_sound aliases max_open s x.1 x.0 within x.2 in
    (subst (λ n. IsMeaning aliases k.Hash s n r) same.0 (subst (λ e. IsMeaning aliases k.Hash s (meanings.Attr x.0) e) same.1 (refl, found.0)), subst IsWithin same.1 found.1)

abbrev sort_of : Bool → TokenKind
sort_of hash = cond hash k.Hash k.Bang

meaning_sound : (aliases : List Alias) (s r : Place) (m : Meaning) (hash : Bool) → IsWithin s → read.meaning aliases hash s ≡ Ok (m, r) → IsMeaning aliases (sort_of hash) s m r × IsWithin r
unfolding read.hash_meaning
meaning_sound aliases s r m true within h = hash_by aliases s r m (steps.sees_loc s) refl within h
meaning_sound aliases s r m false within h =
    let t = bind_ok (ty aliases max_open s) _ m r h in
    let same = same_ok t.3 in
    let found = ty_sound aliases max_open s t.1 t.0 within t.2 in
    (subst (λ n. IsMeaning aliases k.Bang s n r) same.0 (subst (λ e. IsMeaning aliases k.Bang s (meanings.Ty t.0) e) same.1 (refl, found.0)), subst IsWithin same.1 found.1)

definition_by : (aliases : List Alias) (s r : Place) (a : Alias) (hash : Bool) → sees (sort_of hash) s ≡ true → IsWithin s
    → (lift (read.new_name aliases (start s) (spelling s)) >>= (λ u. expect k.Equal >>= (λ v. read.meaning aliases hash >>= (λ m. pure (alias_of (spelling s) m))))) (next s) ≡ Ok (a, r) → IsDefinition aliases s a r × IsWithin r
definition_by aliases s r a hash is within h =
    let first = taken (sort_of hash) s within is in
    let name = bind_ok (lift (read.new_name aliases (start s) (spelling s)) (next s)) _ a r h in
    let equal = bind_ok (expect k.Equal name.1) _ a r name.3 in
    let m = bind_ok (read.meaning aliases hash equal.1) _ a r equal.3 in
    let same = same_ok m.3 in
    let here = lifted (read.new_name aliases (start s) (spelling s)) (next s) name.1 name.0 name.2 in
    let new = new_sound aliases (start s) (spelling s) name.0 here.0 in
    let mark = expected k.Equal name.1 equal.1 equal.0 (subst IsWithin here.1 first.1) equal.2 in
    let found = meaning_sound aliases equal.1 m.1 m.0 hash mark.1 m.2 in (
      subst (λ b. IsDefinition aliases s b r) same.0 (record {
        sort = sort_of hash;
        behind = name.1;
        meant = equal.1;
        name = subst (IsSpelled (sort_of hash) (spelling s) s) here.1 first.0;
        plain = new.0;
        new = new.1;
        equal = mark.0;
        meaning = subst (IsMeaning aliases (sort_of hash) equal.1 m.0) same.1 found.0;
        is = refl;
      }),
      subst IsWithin same.1 found.1,
    )

definition_go : (aliases : List Alias) (s r : Place) (a : Alias) (hash : Bool) → sees k.Hash s ≡ hash → (hash || sees k.Bang s) ≡ true → IsWithin s
    → (lift (read.new_name aliases (start s) (spelling s)) >>= (λ u. expect k.Equal >>= (λ v. read.meaning aliases hash >>= (λ m. pure (alias_of (spelling s) m))))) (next s) ≡ Ok (a, r) → IsDefinition aliases s a r × IsWithin r
definition_go aliases s r a true is defines within h = definition_by aliases s r a true is within h
definition_go aliases s r a false is defines within h = definition_by aliases s r a false defines within h

definition_sound : (aliases : List Alias) (s r : Place) (a : Alias) → read.sees_definition s ≡ true → IsWithin s → read.alias_definition aliases s ≡ Ok (a, r) → IsDefinition aliases s a r × IsWithin r
unfolding read.alias_definition
definition_sound aliases s r a defines within h = definition_go aliases s r a (sees k.Hash s) refl defines within h

-- ---- files

one_more_definition : (aliases : List Alias) (s s1 r : Place) (a : Alias) (xs : List Operation) → IsDefinition aliases s a s1 → AreFileOperations (aliases ++ a ∷ []) s1 xs r → AreFileOperations aliases s xs r
one_more_definition aliases s s1 r a [] is h = (a ∷ h.0, (s1, is, h.1))
one_more_definition aliases s s1 r a (o ∷ os) is h =
    let same : (aliases ++ a ∷ []) ++ h.0 ≡ aliases ++ a ∷ h.0 = append_assoc aliases (a ∷ []) h.0 in
    (a ∷ h.0, h.1, h.2, (s1, is, h.3), subst (λ all. IsOperation all max_open h.1 o h.2) same h.4, subst (λ all. AreFileOperations all h.2 os r) same h.5)

one_more_operation : (aliases : List Alias) (s s1 r : Place) (o : Operation) (xs : List Operation) → IsOperation aliases max_open s o s1 → AreFileOperations aliases s1 xs r → AreFileOperations aliases s (o ∷ xs) r
one_more_operation aliases s s1 r o xs is h =
    let same : aliases ≡ aliases ++ [] = sym (append-nil aliases) in
    ([], s, s1, refl, subst (λ all. IsOperation all max_open s o s1) same is, subst (λ all. AreFileOperations all s1 xs r) same h)

abbrev Adds : List Alias → Place → List Operation → List Operation → Place → Type 0
Adds aliases s found all r = (xs : List Operation) × (all ≡ found ++ xs) × AreFileOperations aliases s xs r × IsWithin r × (sees k.End r ≡ true)

ended : (aliases : List Alias) (s r : Place) (found all : List Operation) → IsWithin s → sees k.End s ≡ true → pure found s ≡ Ok (all, r) → Adds aliases s found all r
ended aliases s r found all within is h =
    let same = same_ok h in
    ([], sym same.0 ∙ sym (append-nil found), ([], same.1), subst IsWithin same.1 within, subst (λ p. sees k.End p ≡ true) same.1 is)

module _ (n : ℕ) (go : (aliases : List Alias) (found all : List Operation) (s r : Place) → IsWithin s → file_operations n aliases found s ≡ Ok (all, r) → Adds aliases s found all r) where
  file_item : (aliases : List Alias) (found all : List Operation) (s r : Place) (b : Bool) → read.sees_definition s ≡ b → IsWithin s
      → (cond b (read.alias_definition aliases >>= (λ a. file_operations n (aliases ++ a ∷ []) found)) (an_operation_in aliases max_open >>= (λ o. file_operations n aliases (found ++ o ∷ [])))) s ≡ Ok (all, r) → Adds aliases s found all r
  file_item aliases found all s r true is within h =
      let a = bind_ok (read.alias_definition aliases s) _ all r h in
      let one = definition_sound aliases s a.1 a.0 is within a.2 in
      let (xs, same, are, inside, ends) = go (aliases ++ a.0 ∷ []) found all a.1 r one.1 a.3 in
      (xs, same, one_more_definition aliases s a.1 r a.0 xs one.0 are, inside, ends)
  file_item aliases found all s r false is within h =
      let o = bind_ok (an_operation_in aliases max_open s) _ all r h in
      let one = operation_sound aliases max_open s o.1 o.0 within o.2 in
      let (xs, same, are, inside, ends) = go aliases (found ++ o.0 ∷ []) all o.1 r one.1 o.3 in
      (o.0 ∷ xs, same ∙ append_assoc found (o.0 ∷ []) xs, one_more_operation aliases s o.1 r o.0 xs one.0 are, inside, ends)

  file_by : (aliases : List Alias) (found all : List Operation) (s r : Place) (b : Bool) → sees k.End s ≡ b → IsWithin s
      → (cond b (pure found) (read.see_definition >>= (λ d. cond d (read.alias_definition aliases >>= (λ a. file_operations n (aliases ++ a ∷ []) found)) (an_operation_in aliases max_open >>= (λ o. file_operations n aliases (found ++ o ∷ [])))))) s ≡ Ok (all, r) → Adds aliases s found all r
  file_by aliases found all s r true is within h = ended aliases s r found all within is h
  file_by aliases found all s r false is within h = file_item aliases found all s r (read.sees_definition s) refl within h

last_by : (aliases : List Alias) (found all : List Operation) (s r : Place) (b : Bool) → sees k.End s ≡ b → IsWithin s → (cond b (pure found) refuse) s ≡ Ok (all, r) → Adds aliases s found all r
last_by aliases found all s r true is within h = ended aliases s r found all within is h
last_by aliases found all s r false is within h = absurd (cc)

file_operations_sound : (n : ℕ) (aliases : List Alias) (found all : List Operation) (s r : Place) → IsWithin s → file_operations n aliases found s ≡ Ok (all, r) → Adds aliases s found all r
unfolding file_operations
file_operations_sound zero aliases found all s r within h = last_by aliases found all s r (sees k.End s) refl within h
file_operations_sound (suc n) aliases found all s r within h = file_by n (file_operations_sound n) aliases found all s r (sees k.End s) refl within h

or_file : Syn → Result Syn ModFault → Syn
or_file x (Ok y) = y
or_file x (Err e) = x

operations_found : (bytes : List ℕ) (file : Syn) (o : Outcome (List Operation)) → IsUtf8 bytes → read.all_operations (start_of bytes) ≡ o → read.file_of o ≡ Ok file → IsModuleFile bytes file
unfolding or_file
operations_found bytes file (Ok p) text is h =
    let (xs, same, are, inside, ends) = file_operations_sound (left (start_of bytes)) [] [] p.0 (start_of bytes) p.1 (omega arith) is in
    let end = taken k.End p.1 inside ends in
    subst (IsModuleFile bytes) (ap (or_file file) h) (record {
      utf8 = text;
      end = p.1;
      behind = next p.1;
      operations = subst (λ ops. AreFileOperations [] (start_of bytes) ops p.1) (sym same) are;
      ends = (spelling p.1, end.0);
    })
operations_found bytes file (Err e) text is h = absurd (cc)

-- What is read of a whole text is the module file that it spells.
file_sound : (bytes : List ℕ) (file : Syn) → IsUtf8 bytes → read.file_in bytes ≡ Ok file → IsModuleFile bytes file
unfolding read.file_in
file_sound bytes file text h = operations_found bytes file (read.all_operations (start_of bytes)) text refl h

whole_by : (bytes : List ℕ) (file : Syn) (b : Bool) → (utf8_valid_len bytes == length bytes) ≡ b → cond b (read.file_in bytes) (Err (fault faults.NotUtf8 (utf8_valid_len bytes))) ≡ Ok file → IsModuleFile bytes file
whole_by bytes file true is h = file_sound bytes file (utf8_all bytes is) h
whole_by bytes file false is h = absurd (cc)

pub whole_sound : (bytes : List ℕ) (file : Syn) → read.module_file bytes ≡ Ok file → IsModuleFile bytes file
unfolding read.module_file
whole_sound bytes file h = whole_by bytes file (utf8_valid_len bytes == length bytes) refl h

-- what a call reads
pub file_found : (bytes : List ℕ) (r : Result Syn (Refusal ModFault)) → Gives r (read.module_file bytes) → IfOk r (λ file. IsModuleFile bytes file)
file_found bytes (Ok file) e = whole_sound bytes file e
file_found bytes (Err e) h = tt
