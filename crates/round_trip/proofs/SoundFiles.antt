-- The rows of every module file are printable where their text keeps the limits.
use Rattle.std.proofs.Common.{◌≡◌, ℕ, suc, ◌+◌, ◌-◌, ◌<◌, Bool, true, false, cond, not, List, [], ◌∷◌, ◌++◌, length, take, drop, refl, ap, sym, subst, ◌∙◌, arith, inl, inr, append_assoc, append-nil, eqb-true, add-zero, length-take, length-drop, Ok, Option, Some, None}
use Rattle.std.specs.Prelude.{◌⊎◌, ◌==◌, slice_index, slice_range, IsUtf8}
use Rattle.std.specs.Str.{bytes_eq, IsCharBoundary}
use Rattle.std.proofs.lemmas.Bool.{and_parts}
use Rattle.std.proofs.lemmas.Option.{same_Some, none-some}
use Rattle.std.proofs.lemmas.List.{drop_more, get_or-drop}
use Rattle.std.proofs.lemmas.Str.{IsUtf8-between, IsCharBoundary-before_ascii, IsCharBoundary-after_ascii}
use Rattle.mlir_lexer.specs.Body.{body, effect_of, innermost}
use Rattle.mlir_lexer.specs.declared.token.TokenKind.{TokenKind}
use Rattle.mlir_lexer.specs.declared.token.TokenKind.TheVariants as k
use Rattle.mlir_attributes.specs.declared.aliases.Alias.{Alias}
use Rattle.mlir_attributes.specs.declared.aliases.Meaning.{Meaning}
use Rattle.mlir_attributes.specs.declared.aliases.Meaning.TheVariants as meanings
use Rattle.mlir_attributes.specs.Aliases.{find}
use Rattle.mlir_attributes.specs.Place.{Place, start_of}
use Rattle.mlir_attributes.specs.Types.{max_open}
use Rattle.mlir_attributes.specs.KeptText.{names, closers_after, used_at}
use Rattle.mlir_attributes.specs.Grammar.{IsBody}
use Rattle.mlir_parse.specs.SynTree.{Operation, operations}
use Rattle.mlir_parse.specs.FileGrammar.{IsMeaning, IsDefinition, AreDefinitions, AreFileOperations}
use Rattle.mlir_attributes.proofs.Bodies.{opens_inside}
use Rattle.mlir_parse.proofs.FilesComplete.{file_complete}
use Rattle.mlir_parse.proofs.Counts.{file_kept}
use Rattle.mlir_tree.specs.declared.rows.Rows.{Rows}
use Rattle.mlir_resolve.specs.Laid.{laid_operation, module_of}
use Rattle.mlir_resolve.specs.Resolving.{operation_fault, resolved}
use Rattle.round_trip.specs.Laws.{ReadRowsArePrintable, ReadRowsReadBack}
use Rattle.round_trip.proofs.ReadFiles.{rows_given}
use Rattle.round_trip.proofs.ReadAgain.{kept_rows}
use Rattle.round_trip.proofs.ReadsBack.{reads_back}
use Rattle.round_trip.proofs.BodyEnds.{Alone, ends_alone}
use Rattle.round_trip.proofs.SpelledTypes.{same_text, mark_text}
use Rattle.round_trip.proofs.SpelledAttributes.{at_same}
use Rattle.round_trip.proofs.Sound.{IsSoundBody}
use Rattle.round_trip.proofs.SoundTypes.{IsSoundMeaning, IsSoundAlias, AreSoundAliases, AreSoundBodies, AreReady, ty_sound}
use Rattle.round_trip.proofs.SoundAttributes.{attr_sound}
use Rattle.round_trip.proofs.SoundRows.{AreSoundOperations, sound_rows}
use Rattle.round_trip.proofs.SoundTrees.{operation_sound}
use Rattle.round_trip.proofs.Replaced.{Ends, behind_front, replaced, same_first}
use Rattle.round_trip.proofs.ReplacedUtf8.{replaced_utf8}

-- ---- bodies

first_kept : (s : List ℕ) (n : ℕ) → slice_index (take (suc n) s) 0 ≡ slice_index s 0
first_kept [] n = refl
first_kept (d ∷ s) n = refl

not_true : (b : Bool) → not b ≡ true → b ≡ false
not_true true h = absurd (cc)
not_true false h = refl

-- a text that ends begins
sound_of : (rest : List ℕ) → Ends (62 ∷ []) false rest → (slice_index rest 0 == 61) ≡ false → IsSoundBody (60 ∷ rest)
sound_of [] h other = absurd (let e = h.ends_at 1 in cc)
sound_of (b ∷ more) h other = record {
  second = b;
  more = more;
  is = refl;
  other = other;
  limit = h.limit;
  ends = h.ends_at 1 ∙ ap (λ n. Ok n) (let e : 1 + length (b ∷ more) ≡ length (60 ∷ b ∷ more) = omega arith in e);
}

module _ (aliases : List Alias) (known : AreSoundAliases aliases) where
  body_by : (room : ℕ) (text : List ℕ) (s r : Place) → IsUtf8 s.bytes → (h : IsBody aliases room text s r)
      → Alone (256 - (max_open - room)) (62 ∷ []) false 0 (h.token.start + 1) (drop (h.token.start + 1) s.bytes) h.end → IsSoundBody text × IsUtf8 text
  unfolding used_at
  body_by room text s r utf8 h a =
      let at = h.token.start in
      let inside : at < length s.bytes = opens_inside s.bytes at h.opens in
      let bytes = and_parts (slice_index s.bytes at == 60) (not (slice_index s.bytes (at + 1) == 61)) h.opens in
      let first : slice_index s.bytes at ≡ 60 = eqb-true (slice_index s.bytes at) 60 bytes.0 in
      let more = take (suc a.last) (drop (at + 1) s.bytes) in
      let count : h.end - at ≡ suc (suc a.last) = omega (arith, a.is) in
      let slice : slice_range s.bytes at h.end ≡ 60 ∷ more =
      ap (λ n. take n (drop at s.bytes)) count ∙ ap (take (suc (suc a.last))) (drop_more s.bytes at 0 inside ∙ ap (λ c. c ∷ drop (at + 1) s.bytes) first) in
      let long : length more ≡ suc a.last = omega (arith, length-take (suc a.last) (drop (at + 1) s.bytes), a.inside) in
      let second : slice_index more 0 ≡ slice_index s.bytes (at + 1) =
      first_kept (drop (at + 1) s.bytes) a.last ∙ get_or-drop (at + 1) s.bytes 0 0 ∙ ap (slice_index s.bytes) (add-zero (at + 1)) in
      let limit = 256 - (max_open - room) in
      let alone : body limit (62 ∷ []) false 0 1 more ≡ Ok (1 + length more) = a.alone 1 ∙ ap (λ n. Ok (1 + n)) (sym long) in
      let whole : names aliases room [] false 0 s.put 0 (60 ∷ more) ≡ Ok (text, h.put) = ap (names aliases room [] false 0 s.put 0) (sym slice) ∙ h.text_is in
      let ncs = closers_after (effect_of 60 (slice_index more 0) false (innermost [])) 60 [] in
      let b = behind_front (60 ∷ []) (names aliases room ncs false 0 s.put 1 more) text h.put whole in
      let ending = replaced aliases known room limit more 1 1 s.put h.put 62 [] false 0 ncs false b.rest alone b.is in
      let other : (slice_index b.rest 0 == 61) ≡ false = same_first aliases known room ncs false s.put 1 more b.rest h.put b.is ∙ ap (λ n. n == 61) second ∙ not_true (slice_index s.bytes (at + 1) == 61) bytes.1 in
      let boundary = IsCharBoundary-before_ascii s.bytes at inside (omega (arith, first)) in
      let end_at : (at + 1) + a.last + 1 ≡ h.end = omega (arith, a.is) in
      let low : slice_index s.bytes ((at + 1) + a.last) < 128 = subst (λ n. n < 128) (get_or-drop (at + 1) s.bytes a.last 0) a.low in
      let last_inside : (at + 1) + a.last < length s.bytes = omega (arith, a.inside, length-drop (at + 1) s.bytes) in
      let text_utf8 : IsUtf8 (slice_range s.bytes at h.end) =
      IsUtf8-between s.bytes at h.end utf8 (omega (arith, a.is)) boundary (subst (λ n. IsCharBoundary s.bytes n) end_at (IsCharBoundary-after_ascii s.bytes ((at + 1) + a.last) utf8 last_inside low)) in
      (subst IsSoundBody b.same (sound_of b.rest ending other), replaced_utf8 aliases known room (60 ∷ more) [] [] false 0 s.put 0 text h.put whole (subst IsUtf8 slice text_utf8))

  bodies : AreSoundBodies aliases
  bodies room text s r utf8 h = body_by room text s r utf8 h (ends_alone (256 - (max_open - room)) (drop (h.token.start + 1) s.bytes) (62 ∷ []) false 0 (h.token.start + 1) h.end h.ends)

  ready : AreReady aliases
  ready = record { known = known; bodies = bodies }

  -- ---- definitions

  meaning_sound : (sort : TokenKind) (m : Meaning) (s r : Place) → IsUtf8 s.bytes → IsMeaning aliases sort s m r → IsSoundMeaning m × (r.bytes ≡ s.bytes)
  meaning_sound sort (meanings.Ty t) s r utf8 h = ty_sound aliases ready max_open t s r utf8 h.1
  meaning_sound sort (meanings.Attr x) s r utf8 h = attr_sound aliases ready max_open x s r utf8 h.1
  meaning_sound sort meanings.Location s r utf8 (same, h) = (tt, ap (λ (p : Place). p.bytes) (sym h.rest) ∙ mark_text k.LeftParen h.behind h.inside h.opens ∙ same_text k.Word _ s h.behind h.is_word)

  definition_sound : (s : Place) (a : Alias) (r : Place) → IsUtf8 s.bytes → IsDefinition aliases s a r → IsSoundAlias a × (r.bytes ≡ s.bytes)
  definition_sound s a r utf8 h =
      let e1 = mark_text k.Equal h.behind h.meant h.equal ∙ same_text h.sort a.name s h.behind h.name in
      let (m, e2) = meaning_sound h.sort a.meaning h.meant r (at_same s h.meant e1 utf8) h.meaning in
      ((m, ap (λ (x : Alias). x.text) (sym h.is)), e2 ∙ e1)

-- The one that is found is the last one or stands before it.
last_by : (p : Bool) (x y : Option Alias) (c a b : Alias) → cond p (Some c) x ≡ Some b → (x ≡ Some b → (y ≡ Some b) ⊎ (a ≡ b)) → (cond p (Some c) y ≡ Some b) ⊎ (a ≡ b)
last_by true x y c a b h go = inl h
last_by false x y c a b h go = go h

last_alone : (p : Bool) (a b : Alias) → cond p (Some a) None ≡ Some b → a ≡ b
last_alone true a b h = same_Some a b h
last_alone false a b h = absurd (none-some b h)

find_last : (name : List ℕ) (aliases : List Alias) (a b : Alias) → find name (aliases ++ a ∷ []) ≡ Some b → (find name aliases ≡ Some b) ⊎ (a ≡ b)
find_last name [] a b h = inr (last_alone (bytes_eq a.name name) a b h)
find_last name (c ∷ aliases) a b h = last_by (bytes_eq c.name name) (find name (aliases ++ a ∷ [])) (find name aliases) c a b h (find_last name aliases a b)

one_more : (aliases : List Alias) (a : Alias) → AreSoundAliases aliases → IsSoundAlias a → AreSoundAliases (aliases ++ a ∷ [])
one_more aliases a old new name b h = elim (find_last name aliases a b h) [
  | inl before ↦ old name b before
  | inr same ↦ subst IsSoundAlias same new
]

definitions_sound : (aliases : List Alias) → AreSoundAliases aliases → (new : List Alias) (s r : Place) → IsUtf8 s.bytes → AreDefinitions aliases s new r → AreSoundAliases (aliases ++ new) × (r.bytes ≡ s.bytes)
definitions_sound aliases known [] s r utf8 h = (subst AreSoundAliases (sym (append-nil aliases)) known, ap (λ (p : Place). p.bytes) (sym h))
definitions_sound aliases known (a ∷ new) s r utf8 (s1, one, more) =
    let (fine, e0) = definition_sound aliases known s a s1 utf8 one in
    let (rest, e1) = definitions_sound (aliases ++ a ∷ []) (one_more aliases a known fine) new s1 r (at_same s s1 e0 utf8) more in
    (subst AreSoundAliases (append_assoc aliases (a ∷ []) new) rest, e1 ∙ e0)

-- ---- files

operations_sound : (aliases : List Alias) → AreSoundAliases aliases → (os : List Operation) (s r : Place) → IsUtf8 s.bytes → AreFileOperations aliases s os r → AreSoundOperations (operations os)
operations_sound aliases known [] s r utf8 h = tt
operations_sound aliases known (o ∷ os) s r utf8 (new, s1, s2, defs, one, more) =
    let (all, e0) = definitions_sound aliases known new s s1 utf8 defs in
    let (fine, e1) = operation_sound (aliases ++ new) (ready (aliases ++ new) all) max_open o s1 s2 (at_same s s1 e0 utf8) one in
    (fine, operations_sound (aliases ++ new) all os s2 r (at_same s s2 (e1 ∙ e0) utf8) more)

pub read_rows_are_printable : ReadRowsArePrintable
read_rows_are_printable bytes file m is read few within =
    sound_rows file m (file_kept bytes (Ok file) (file_complete bytes file is))
    (operations_sound [] (λ name a h. absurd (none-some a h)) file.ops (start_of bytes) is.end is.utf8 is.operations) read few within

pub read_rows_read_back : ReadRowsReadBack
unfolding resolved
read_rows_read_back bytes file m is read few within =
    let p = read_rows_are_printable bytes file m is read few within in
    let (again, there, back) = reads_back m p in
    let o = module_of file.ops in
    let given = rows_given o (operation_fault (laid_operation 0 None o) 0 None o) m read in
    (again, there, back ∙ ap (λ (x : Rows). Ok x) (kept_rows o m given.1 p.well_formed))
