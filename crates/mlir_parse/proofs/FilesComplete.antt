-- What is spelled as a module file is read so.
use Rattle.std.proofs.Common.{◌≡◌, ℕ, zero, suc, ◌<◌, ◌≤◌, Bool, true, false, cond, List, [], ◌∷◌, ◌++◌, refl, ap, sym, subst, ◌∙◌, inl, inr, Ok, Err, append_assoc, append-nil, arith}
use Rattle.std.specs.Prelude.{◌⊎◌, Some, None, codes}
use Rattle.mlir_lexer.specs.declared.token.TokenKind.{TokenKind}
use Rattle.mlir_lexer.specs.declared.token.TokenKind.TheVariants as k
use Rattle.mlir_tree.specs.Tree.{Ty, Attr}
use Rattle.mlir_attributes.specs.declared.fault.ModKind.TheVariants as faults
use Rattle.mlir_attributes.specs.declared.aliases.Alias.{Alias}
use Rattle.mlir_attributes.specs.declared.aliases.Meaning.{Meaning}
use Rattle.mlir_attributes.specs.declared.aliases.Meaning.TheVariants as meanings
use Rattle.mlir_parse.specs.declared.syn.Syn.{Syn}
use Rattle.mlir_attributes.specs.Place.{Place, fault, left, kind, sees, start, spelling, start_of}
use Rattle.mlir_attributes.specs.Aliases.{find, has_point}
use Rattle.mlir_attributes.specs.Types.{ty, word_type, max_open}
use Rattle.mlir_attributes.specs.Attributes.{attr, word_attr}
use Rattle.mlir_attributes.specs.Grammar.{IsSpelled, IsMark}
use Rattle.mlir_attributes.specs.Steps as steps
use Rattle.mlir_parse.specs.SynTree.{Operation}
use Rattle.mlir_parse.specs.Operations.{an_operation_in}
use Rattle.mlir_parse.specs.OperationGrammar.{IsLocation, IsOperation}
use Rattle.mlir_parse.specs.ModuleFile as read
use Rattle.mlir_parse.specs.ModuleFile.{alias_of, file_operations}
use Rattle.mlir_parse.specs.FileGrammar.{IsMeaning, IsDefinition, AreDefinitions, AreFileOperations, IsModuleFile}
use Rattle.mlir_attributes.proofs.Tokens.{done, IsWithin, spelled_within, spelled_sees, spelled_kind, spelled_text, spelled_next, spelled_shorter, expects, kind_other, sees_kind}
use Rattle.mlir_parse.proofs.RulesSound.{loc_word}
use Rattle.mlir_attributes.proofs.Utf8.{all_utf8}
use Rattle.mlir_parse.proofs.OpsCompleteSteps.{Takes}
use Rattle.mlir_parse.proofs.OpsCompleteRules.{location_reads, location_moves, location_within, loc_seen, attr_read, ty_read}
use Rattle.mlir_parse.proofs.OpsComplete.{op_begins, operation_complete}

-- ---- what an alias stands for

-- no attribute begins with the word `loc`
type_refused : (aliases : List Alias) (room : ℕ) (s : Place) → spelling s ≡ codes "loc" → word_type aliases room s ≡ Err (fault faults.Syntax (start s))
unfolding word_type
type_refused aliases room s same = rw same refl

word_refused : (aliases : List Alias) (room : ℕ) (s : Place) → spelling s ≡ codes "loc" → word_attr aliases room (codes "loc") s ≡ Err (fault faults.Syntax (start s))
unfolding word_attr
word_refused aliases room s same = rw (type_refused aliases room s same) refl

loc_refused : (aliases : List Alias) (room : ℕ) (s : Place) → kind s ≡ Some k.Word → spelling s ≡ codes "loc" → attr aliases room s ≡ Err (fault faults.Syntax (start s))
unfolding attr
loc_refused aliases zero s is same = rw (is, same) (word_refused aliases zero s same)
loc_refused aliases (suc room) s is same = rw (is, same) (word_refused aliases (suc room) s same)

no_loc : (aliases : List Alias) (room : ℕ) (s r : Place) (x : Attr) (b : Bool) → steps.sees_loc s ≡ b → attr aliases room s ≡ Ok (x, r) → steps.sees_loc s ≡ false
no_loc aliases room s r x true is h =
    let facts = loc_word s is in
    let no : done x r ≡ Err (fault faults.Syntax (start s)) = sym h ∙ loc_refused aliases room s (sees_kind k.Word s facts.0) facts.1 in
    absurd (cc)
no_loc aliases room s r x false is h = is

abbrev sort_of : Bool → TokenKind
sort_of hash = cond hash k.Hash k.Bang

module _ (aliases : List Alias) where
  attr_meant : (s r : Place) (x : Attr) → steps.sees_loc s ≡ false → attr aliases max_open s ≡ Ok (x, r) → read.meaning aliases true s ≡ Ok (meanings.Attr x, r)
  unfolding read.hash_meaning
  attr_meant s r x none e = rw (none, e) refl

  location_meant : (s r : Place) → IsLocation max_open s r → read.meaning aliases true s ≡ Ok (meanings.Location, r)
  unfolding read.hash_meaning
  location_meant s r h = rw (loc_seen s h.behind h.is_word, spelled_next k.Word (codes "loc") s h.behind h.is_word, location_reads max_open s r h) refl

  ty_meant : (s r : Place) (t : Ty) → ty aliases max_open s ≡ Ok (t, r) → read.meaning aliases false s ≡ Ok (meanings.Ty t, r)
  ty_meant s r t e = rw e refl

  meaning_read : (sort : TokenKind) (s r : Place) (m : Meaning) → IsWithin s → IsMeaning aliases sort s m r → (hash : Bool) × (sort ≡ sort_of hash) × Takes (read.meaning aliases hash) s m r
  meaning_read sort s r (meanings.Ty t) within (is, h) =
      let found = ty_read aliases max_open s r t within h in
      (false, is, record { reads = ty_meant s r t found.reads; moves = found.moves; within = found.within })
  meaning_read sort s r (meanings.Attr x) within (is, h) =
      let found = attr_read aliases max_open s r x within h in
      (true, is, record { reads = attr_meant s r x (no_loc aliases max_open s r x (steps.sees_loc s) refl found.reads) found.reads; moves = found.moves; within = found.within })
  meaning_read sort s r meanings.Location within (is, h) =
      (true, is, record { reads = location_meant s r h; moves = location_moves max_open s r h; within = location_within max_open s r h })

  -- ---- definitions

  hash_seen : (hash : Bool) (text : List ℕ) (s r : Place) → IsSpelled (sort_of hash) text s r → sees k.Hash s ≡ hash
  hash_seen true text s r h = spelled_sees k.Hash text s r h
  hash_seen false text s r h = kind_other k.Bang k.Hash s (spelled_kind k.Bang text s r h) (λ e. cc)

  defines : (hash : Bool) (text : List ℕ) (s r : Place) → IsSpelled (sort_of hash) text s r → (sees k.End s ≡ false) × (read.sees_definition s ≡ true) × (left r < left s)
  defines true text s r h = (kind_other k.Hash k.End s (spelled_kind k.Hash text s r h) (λ e. cc), rw (spelled_sees k.Hash text s r h) refl, spelled_shorter k.Hash text s r (λ e. cc) h)
  defines false text s r h = (kind_other k.Bang k.End s (spelled_kind k.Bang text s r h) (λ e. cc), rw (hash_seen false text s r h, spelled_sees k.Bang text s r h) refl, spelled_shorter k.Bang text s r (λ e. cc) h)

  new_is : (at : ℕ) (name : List ℕ) → has_point name ≡ false → find name aliases ≡ None → read.new_name aliases at name ≡ Ok tt
  unfolding read.new_name
  new_is at name plain new = rw (plain, new) refl

  definition_reads : (hash : Bool) (s m u r : Place) (a : Alias) → IsSpelled (sort_of hash) a.name s m → has_point a.name ≡ false → find a.name aliases ≡ None → IsMark k.Equal m u → read.meaning aliases hash u ≡ Ok (a.meaning, r) → alias_of a.name a.meaning ≡ a
      → read.alias_definition aliases s ≡ Ok (a, r)
  unfolding read.alias_definition
  definition_reads hash s m u r a spelled plain new (text, equal) e is =
      rw (
        hash_seen hash a.name s m spelled,
        spelled_text (sort_of hash) a.name s m spelled,
        spelled_next (sort_of hash) a.name s m spelled,
        new_is (start s) a.name plain new,
        expects k.Equal text m u equal,
        e,
      ) (λ i. Ok (is i, r))

  definition_read : (s r : Place) (a : Alias) → IsDefinition aliases s a r → (sees k.End s ≡ false) × (read.sees_definition s ≡ true) × Takes (read.alias_definition aliases) s a r
  definition_read s r a d =
      let (text, equal) = d.equal in
      let (hash, same, m) = meaning_read d.sort d.meant r a.meaning (spelled_within k.Equal text d.behind d.meant equal) d.meaning in
      let spelled = subst (λ j. IsSpelled j a.name s d.behind) same d.name in
      let (more, begins, up) = defines hash a.name s d.behind spelled in (
        more,
        begins,
        record {
          reads = definition_reads hash s d.behind d.meant r a spelled d.plain d.new (text, equal) m.reads d.is;
          moves = omega (arith, up, spelled_shorter k.Equal text d.behind d.meant (λ e. cc) equal, m.moves);
          within = m.within;
        },
      )

-- ---- files

one_definition : (n : ℕ) (aliases : List Alias) (found : List Operation) (s s1 : Place) (a : Alias) → sees k.End s ≡ false → read.sees_definition s ≡ true → read.alias_definition aliases s ≡ Ok (a, s1)
    → file_operations (suc n) aliases found s ≡ file_operations n (aliases ++ a ∷ []) found s1
unfolding file_operations
one_definition n aliases found s s1 a more begins e = rw (more, begins, e) refl

one_operation : (n : ℕ) (aliases : List Alias) (found : List Operation) (s s1 : Place) (o : Operation) → sees k.End s ≡ false → read.sees_definition s ≡ false → an_operation_in aliases max_open s ≡ Ok (o, s1)
    → file_operations (suc n) aliases found s ≡ file_operations n aliases (found ++ o ∷ []) s1
unfolding file_operations
one_operation n aliases found s s1 o more begins e = rw (more, begins, e) refl

file_ends : (n : ℕ) (aliases : List Alias) (found : List Operation) (s : Place) → sees k.End s ≡ true → file_operations n aliases found s ≡ Ok (found, s)
unfolding file_operations
file_ends zero aliases found s h = rw h refl
file_ends (suc n) aliases found s h = rw h refl

no_definition : (s : Place) → (kind s ≡ Some k.Value) ⊎ (kind s ≡ Some k.String) → (sees k.End s ≡ false) × (read.sees_definition s ≡ false)
no_definition s (inl h) = (kind_other k.Value k.End s h (λ e. cc), rw (kind_other k.Value k.Hash s h (λ e. cc), kind_other k.Value k.Bang s h (λ e. cc)) refl)
no_definition s (inr h) = (kind_other k.String k.End s h (λ e. cc), rw (kind_other k.String k.Hash s h (λ e. cc), kind_other k.String k.Bang s h (λ e. cc)) refl)

-- the rest of a file is read from there
abbrev Goes : List Alias → List Operation → Place → List Operation → Place → Type 0
Goes aliases found s all r = (n : ℕ) → left s ≤ n → IsWithin s → file_operations n aliases found s ≡ Ok (all, r)

definitions_go : (new aliases : List Alias) (found all : List Operation) (s s1 r : Place) → AreDefinitions aliases s new s1 → Goes (aliases ++ new) found s1 all r → Goes aliases found s all r
definitions_go [] aliases found all s s1 r same go n fits within =
    let here : Goes aliases found s all r = subst (λ u. Goes aliases found u all r) (sym same) (subst (λ l. Goes l found s1 all r) (append-nil aliases) go) in
    here n fits within
definitions_go (a ∷ new) aliases found all s s1 r (s2, is, more) go zero fits within =
    let (open_end, begins, one) = definition_read aliases s s2 a is in
    absurd (let up = one.moves in omega arith)
definitions_go (a ∷ new) aliases found all s s1 r (s2, is, more) go (suc n) fits within =
    let (open_end, begins, one) = definition_read aliases s s2 a is in
    let rest = definitions_go new (aliases ++ a ∷ []) found all s2 s1 r more (subst (λ l. Goes l found s1 all r) (sym (append_assoc aliases (a ∷ []) new)) go) in
    one_definition n aliases found s s2 a open_end begins one.reads ∙ rest n (omega (arith, one.moves)) one.within

operation_goes : (aliases : List Alias) (found all : List Operation) (s s1 r : Place) (o : Operation) → IsOperation aliases max_open s o s1 → Goes aliases (found ++ o ∷ []) s1 all r → Goes aliases found s all r
operation_goes aliases found all s s1 r o is go zero fits within =
    let one = operation_complete aliases max_open s s1 o within is in
    absurd (let up = one.moves in omega arith)
operation_goes aliases found all s s1 r o is go (suc n) fits within =
    let one = operation_complete aliases max_open s s1 o within is in
    let (more, begins) = no_definition s (op_begins aliases max_open o s s1 is) in
    one_operation n aliases found s s1 o more begins one.reads ∙ go n (omega (arith, one.moves)) one.within

operations_go : (os : List Operation) (aliases : List Alias) (found : List Operation) (s r : Place) → AreFileOperations aliases s os r → sees k.End r ≡ true → Goes aliases found s (found ++ os) r
operations_go [] aliases found s r (new, are) ends =
    definitions_go new aliases found (found ++ []) s r r are (λ n fits within. file_ends n (aliases ++ new) found r ends ∙ (λ i. Ok (sym (append-nil found) i, r)))
operations_go (o ∷ os) aliases found s r (new, s1, s2, are, is, more) ends =
    let rest = operations_go os (aliases ++ new) (found ++ o ∷ []) s2 r more ends in
    definitions_go new aliases found (found ++ o ∷ os) s s1 r are
    (operation_goes (aliases ++ new) found (found ++ o ∷ os) s1 s2 r o is (subst (λ ys. Goes (aliases ++ new) (found ++ o ∷ []) s2 ys r) (append_assoc found (o ∷ []) os) rest))

pub file_in_complete : (bytes : List ℕ) (file : Syn) → IsModuleFile bytes file → read.file_in bytes ≡ Ok file
unfolding read.file_in
file_in_complete bytes file h =
    let (text, ends) = h.ends in
    let all : read.all_operations (start_of bytes) ≡ Ok (file.ops, h.end) = operations_go file.ops [] [] (start_of bytes) h.end h.operations (spelled_sees k.End text h.end h.behind ends) (left (start_of bytes)) (omega arith) (omega arith) in
    ap read.file_of all

-- A module file that a text spells is read.
pub file_complete : (bytes : List ℕ) (file : Syn) → IsModuleFile bytes file → read.module_file bytes ≡ Ok file
unfolding read.module_file
file_complete bytes file h = rw (all_utf8 bytes h.utf8) (file_in_complete bytes file h)
