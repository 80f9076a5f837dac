-- An attribute that a text spells is sound, whatever aliases stand in it.
use Rattle.std.proofs.Common.{◌≡◌, ℕ, zero, suc, Bool, true, false, if◌then◌else◌, List, [], ◌∷◌, refl, ap, sym, subst, ◌∙◌, arith, inl, inr, Some, None}
use Rattle.std.specs.Prelude.{◌⊎◌, codes, IsUtf8, Option, slice_index}
use Rattle.std.specs.List.{AllByRecursion}
use Rattle.mlir_lexer.specs.Forms.{HasForm}
use Rattle.mlir_lexer.specs.declared.token.TokenKind.TheVariants as k
use Rattle.mlir_tree.specs.declared.number.Number.{Number}
use Rattle.mlir_tree.specs.Tree.{Ty, word, Attr, unit, int_attr, num, str, sym as symbols, of_ty, array, dict, kept, attrs, entries}
use Rattle.mlir_tree.specs.Range.{IsInRange}
use Rattle.mlir_attributes.specs.Place.{Place}
use Rattle.mlir_attributes.specs.Numbers.{is_integral}
use Rattle.mlir_attributes.specs.Attributes.{number_type}
use Rattle.mlir_attributes.specs.AttributeGrammar as grammar
use Rattle.mlir_attributes.specs.AttributeGrammar.{AreMore, IsString, IsSymbol, AreSymbols, IsEntryName, AreAttrs, IsBehindName, IsEntry, AreEntries, Fills, IsIn, IsArray, IsDict, IsNumber, IsInt, IsNum, HasKeptBody, IsKeptAttr, IsPlainAttr, IsAttr}
use Rattle.mlir_attributes.proofs.Keeps.{keeps_entries}
use Rattle.round_trip.specs.Printable.{AreBytes, IsNumberText}
use Rattle.mlir_attributes.specs.declared.aliases.Alias.{Alias}
use Rattle.round_trip.proofs.Sound.{IsSoundTy, IsSoundType, IsSoundKept, IsSoundAttr, AreSoundAttrs, AreSoundEntries}
use Rattle.round_trip.proofs.SoundTypes.{IsSoundMeaning, AreReady, use_text, body_same, ty_sound}
use Rattle.round_trip.proofs.SpelledAttributes.{Fine, at_same, string_fine, symbols_fine, more_fine, entry_name_fine, no_int_float, sign_fine, no_end, truth_fine}
use Rattle.round_trip.proofs.SpelledTypes.{form_of, same_text, mark_text, word_utf8, hash_utf8}
use Rattle.round_trip.proofs.Utf8.{both}

float_sound : IsSoundTy (word (codes "f64"))
float_sound =
    let form : HasForm k.Word (codes "f64") = (refl, (refl, (refl, tt))) in
    (inl (form, record { no_other = refl; no_index = λ e. let b : ◌≡◌ {A = ℕ} 102 105 = ap (λ t. slice_index t 0) e in omega arith; no_int = no_int_float }), word_utf8 (codes "f64") form)

module _ (aliases : List Alias) (ready : AreReady aliases) where
  typed_fine : (room : ℕ) (t : Option Ty) (s r : Place) → IsUtf8 s.bytes → grammar.IsTyped aliases room s t r → Fine (IsSoundType t) s r
  typed_fine room None s r utf8 h = (tt, ap (λ (p : Place). p.bytes) (sym h.1))
  typed_fine room (Some t) s r utf8 (m, colon, type) =
      let e = mark_text k.Colon s m colon in
      let (fine, same) = ty_sound aliases ready room t m r (at_same s m e utf8) type in
      (fine, same ∙ e)

  -- what a number says
  number_fine : (room : ℕ) (neg float : Bool) (text : List ℕ) (t : Ty) (s r : Place) → IsUtf8 s.bytes → IsNumber aliases room neg float text t s r
      → Fine (HasForm (if float then k.Float else k.Integer) text × ((is_integral t ≡ false) → IsSoundTy t)) s r
  number_fine room neg float text t s r utf8 h =
      let e0 = sign_fine neg s h.digits h.sign in
      let e1 = same_text (if float then k.Float else k.Integer) text h.digits h.behind h.spelled in
      let (typed, e2) = typed_fine room h.type_is h.behind r (at_same s h.behind (e1 ∙ e0) utf8) h.typed in
      ((form_of (if float then k.Float else k.Integer) text h.digits h.behind (no_end float) h.spelled, λ other. type_by h.type_is typed h.type other), e2 ∙ e1 ∙ e0)
    where
      none_type : (float : Bool) → number_type float ≡ t → is_integral t ≡ false → IsSoundTy t
      none_type true same other = subst IsSoundTy same (float_sound)
      none_type false same other = let e : true ≡ false = ap is_integral same ∙ other in absurd (cc)

      type_by : (o : Option Ty) → IsSoundType o → ((o ≡ Some t) ⊎ ((o ≡ None) × (number_type float ≡ t))) → is_integral t ≡ false → IsSoundTy t
      type_by o typed (inl some) other = subst IsSoundType some typed
      type_by o typed (inr (none, same)) other = none_type float same other

  int_fine : (room : ℕ) (n : Number) (t : Ty) (s r : Place) → IsUtf8 s.bytes → IsInt aliases room s n t r → Fine (IsInRange t n) s r
  int_fine room n t s r utf8 (inl (neg, text, number, narrow, value)) = (value.0, (number_fine room neg false text t s r utf8 number).1)
  int_fine room n t s r utf8 (inr (b, there, same)) = (truth_fine b n t same, same_text k.Word _ s r there)

  num_fine : (room : ℕ) (written : List ℕ) (t : Ty) (s r : Place) → IsUtf8 s.bytes → IsNum aliases room s written t r → Fine (IsNumberText written × (is_integral t ≡ false) × IsSoundTy t) s r
  num_fine room written t s r utf8 (neg, float, text, number, other, sort, same) =
      let (fine, e) = number_fine room neg float text t s r utf8 number in
      (((neg, float, text, fine.0, sort, same), other, fine.1 other), e)

  -- ---- kept attributes

  front_fine : (room : ℕ) (text : List ℕ) (s r : Place) → IsUtf8 s.bytes → HasKeptBody aliases room text s r → Fine (IsSoundKept text × IsUtf8 text) s r
  front_fine room text s r utf8 (front, body, m, m1, inl (there, is), less, h, same) =
      let form = form_of k.Word front s m (λ e. cc) there in
      let e0 = same_text k.Word front s m there in
      let w = ready.bodies room body m r (at_same s m e0 utf8) h in
      ((inl (front, body, inl (form, is), w.0, same), subst IsUtf8 same (both (word_utf8 front form) w.1)), body_same aliases room body m r h ∙ e0)
  front_fine room text s r utf8 (front, body, m, m1, inr there, less, h, same) =
      let form = form_of k.Hash front s m (λ e. cc) there in
      let e0 = same_text k.Hash front s m there in
      let w = ready.bodies room body m r (at_same s m e0 utf8) h in
      ((inl (front, body, inr form, w.0, same), subst IsUtf8 same (both (hash_utf8 front form) w.1)), body_same aliases room body m r h ∙ e0)

  kept_fine : (room : ℕ) (text : List ℕ) (t : Option Ty) (s r : Place) → IsUtf8 s.bytes → IsKeptAttr aliases room text t s r → Fine (IsSoundKept text × IsUtf8 text × IsSoundType t) s r
  kept_fine room text t s r utf8 (m, inl front, typed) =
      let (word_fine, e0) = front_fine room text s m utf8 front in
      let (fine, e1) = typed_fine room t m r (at_same s m e0 utf8) typed in
      ((word_fine.0, word_fine.1, fine), e1 ∙ e0)
  kept_fine room text t s r utf8 (m, inr (there, point, alone), typed) =
      let form = form_of k.Hash text s m (λ e. cc) there in
      let e0 = same_text k.Hash text s m there in
      let (fine, e1) = typed_fine room t m r (at_same s m e0 utf8) typed in
      ((inr (form, point), hash_utf8 text form, fine), e1 ∙ e0)

  -- ---- attributes

  plain_fine : (room : ℕ) (x : Attr) (s r : Place) → IsUtf8 s.bytes → IsPlainAttr aliases room s x r → Fine (IsSoundAttr x) s r
  plain_fine room unit s r utf8 h = (tt, same_text k.Word _ s r h)
  plain_fine room (int_attr n t) s r utf8 h = int_fine room n t s r utf8 h
  plain_fine room (num text t) s r utf8 h = num_fine room text t s r utf8 h
  plain_fine room (str bytes t) s r utf8 (m, string, typed) =
      let (fine, e0) = string_fine bytes s m utf8 string in
      let (type, e1) = typed_fine room t m r (at_same s m e0 utf8) typed in
      ((fine, type), e1 ∙ e0)
  plain_fine room (symbols names) s r utf8 h = symbols_fine names s r utf8 h
  plain_fine room (of_ty t) s r utf8 h = ty_sound aliases ready room t s r utf8 h
  plain_fine room (array xs) s r utf8 h = absurd h
  plain_fine room (dict es) s r utf8 h = absurd h
  plain_fine room (kept text t) s r utf8 h = kept_fine room text t s r utf8 h

  -- within brackets
  abbrev Inner : ℕ → Type 0
  Inner room = (x : Attr) (s r : Place) → IsUtf8 s.bytes → IsAttr aliases room s x r → Fine (IsSoundAttr x) s r

  all_attrs : (room : ℕ) (xs : List Attr) → AllByRecursion IsSoundAttr xs → AreSoundAttrs (attrs xs)
  all_attrs room [] h = tt
  all_attrs room (x ∷ xs) h = (h.0, all_attrs room xs h.1)

  attrs_fine : (room : ℕ) → Inner room → (xs : List Attr) (s r : Place) → IsUtf8 s.bytes → AreAttrs (IsAttr aliases room) s xs r → Fine (AllByRecursion IsSoundAttr xs) s r
  attrs_fine room go [] s r utf8 h = (tt, ap (λ (p : Place). p.bytes) (sym h))
  attrs_fine room go (x ∷ xs) s r utf8 (s1, one, more) =
      let (fine, e1) = go x s s1 utf8 one in
      let (rest, e2) = more_fine k.Comma (IsAttr aliases room) IsSoundAttr go xs s1 r (at_same s s1 e1 utf8) more in
      ((fine, rest), e2 ∙ e1)

  array_fine : (room : ℕ) → Inner room → (x : Attr) (s r : Place) → IsUtf8 s.bytes → IsArray (IsAttr aliases room) s x r → Fine (IsSoundAttr x) s r
  array_fine room go x s r utf8 (s1, s2, xs, left, inside, right, same) =
      let e0 = mark_text k.LeftBracket s s1 left in
      let (fine, e1) = attrs_fine room go xs s1 s2 (at_same s s1 e0 utf8) inside in
      (subst IsSoundAttr same (all_attrs room xs fine), mark_text k.RightBracket s2 r right ∙ e1 ∙ e0)

  abbrev IsEntryFine : List ℕ × Attr → Type 0
  IsEntryFine e = AreBytes e.0 × IsSoundAttr e.1

  entry_fine : (room : ℕ) → Inner room → (e : List ℕ × Attr) (s r : Place) → IsUtf8 s.bytes → IsEntry (IsAttr aliases room) s e r → Fine (IsEntryFine e) s r
  entry_fine room go e s r utf8 (m, name, inl (m1, equal, there)) =
      let (fine, e0) = entry_name_fine e.0 s m utf8 name in
      let e1 = mark_text k.Equal m m1 equal in
      let (value, e2) = go e.1 m1 r (at_same s m1 (e1 ∙ e0) utf8) there in
      ((fine, value), e2 ∙ e1 ∙ e0)
  entry_fine room go e s r utf8 (m, name, inr (none, same, is)) =
      let (fine, e0) = entry_name_fine e.0 s m utf8 name in
      ((fine, subst IsSoundAttr is tt), ap (λ (p : Place). p.bytes) (sym same) ∙ e0)

  entries_fine : (room : ℕ) → Inner room → (es : List (List ℕ × Attr)) (s r : Place) → IsUtf8 s.bytes → AreEntries (IsAttr aliases room) s es r → Fine (AllByRecursion (IsEntryFine) es) s r
  entries_fine room go [] s r utf8 h = (tt, ap (λ (p : Place). p.bytes) (sym h))
  entries_fine room go (e ∷ es) s r utf8 (s1, one, more) =
      let (fine, e1) = entry_fine room go e s s1 utf8 one in
      let (rest, e2) = more_fine k.Comma (IsEntry (IsAttr aliases room)) (IsEntryFine) (entry_fine room go) es s1 r (at_same s s1 e1 utf8) more in
      ((fine, rest), e2 ∙ e1)

  written_fine : (room : ℕ) (written : List (List ℕ × Attr)) → AllByRecursion (IsEntryFine) written → (e : List ℕ × Attr) → IsIn e written → IsEntryFine e
  written_fine room [] all e h = absurd h
  written_fine room (d ∷ ds) all e (inl same) = subst (IsEntryFine) (sym same) all.0
  written_fine room (d ∷ ds) all e (inr more) = written_fine room ds all.1 e more

  kept_entries : (room : ℕ) (es : List (List ℕ × Attr)) → ((e : List ℕ × Attr) → IsIn e es → IsEntryFine e) → AreSoundEntries (entries es)
  kept_entries room [] all = tt
  kept_entries room (e ∷ es) all = let fine = all e (inl refl) in (fine.0, fine.1, kept_entries room es (λ d h. all d (inr h)))

  dict_fine : (room : ℕ) → Inner room → (x : Attr) (s r : Place) → IsUtf8 s.bytes → IsDict (IsAttr aliases room) s x r → Fine (IsSoundAttr x) s r
  dict_fine room go x s r utf8 (s1, s2, written, es, left, inside, right, fills, same) =
      let e0 = mark_text k.LeftBrace s s1 left in
      let (fine, e1) = entries_fine room go written s1 s2 (at_same s s1 e0 utf8) inside in
      let keeps = keeps_entries written es fills in
      (subst IsSoundAttr same (keeps.0, kept_entries room es (λ e h. written_fine room written fine e ((keeps.1 e).1 h))), mark_text k.RightBrace s2 r right ∙ e1 ∙ e0)

  pub attr_sound : (room : ℕ) → Inner room
  attr_sound zero x s r utf8 (inl h) = plain_fine zero x s r utf8 h
  attr_sound zero x s r utf8 (inr (a, used, plain, alone, means)) = (subst IsSoundMeaning means (ready.known used.name a used.defined).0, use_text aliases k.Hash zero a s r used)
  attr_sound (suc room) x s r utf8 (inl (inl h)) = plain_fine (suc room) x s r utf8 h
  attr_sound (suc room) x s r utf8 (inl (inr (a, used, plain, alone, means))) = (subst IsSoundMeaning means (ready.known used.name a used.defined).0, use_text aliases k.Hash (suc room) a s r used)
  attr_sound (suc room) x s r utf8 (inr (inl h)) = array_fine room (attr_sound room) x s r utf8 h
  attr_sound (suc room) x s r utf8 (inr (inr h)) = dict_fine room (attr_sound room) x s r utf8 h
