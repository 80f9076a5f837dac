-- What is read as an attribute is spelled so.
use Rattle.std.proofs.Common.{◌≡◌, ℕ, zero, suc, Bool, true, false, cond, List, [], ◌∷◌, ◌++◌, refl, ap, sym, subst, ◌∙◌, inl, inr, Result, Ok, Err, append_assoc, arith}
use Rattle.std.specs.Prelude.{◌⊎◌, Option, Some, None, codes, ◌||◌, if◌then◌else◌, IsUtf8}
use Rattle.std.specs.Str.{bytes_eq}
use Rattle.std.proofs.lemmas.Slice.Eq.{bytes_eq-Decides}
use Rattle.std.proofs.lemmas.Bool.{or_cases}
use Rattle.mlir_lexer.specs.declared.token.TokenKind.{TokenKind}
use Rattle.mlir_lexer.specs.declared.token.TokenKind.TheVariants as k
use Rattle.mlir_tree.specs.declared.number.Number.{Number}
use Rattle.mlir_tree.specs.Tree.{Ty, Attr, unit, int_attr, num, sym as symbols, of_ty}
use Rattle.mlir_attributes.specs.declared.fault.ModFault.{ModFault}
use Rattle.mlir_attributes.specs.declared.fault.ModKind.TheVariants as faults
use Rattle.mlir_attributes.specs.declared.aliases.Alias.{Alias}
use Rattle.mlir_attributes.specs.declared.aliases.Meaning.{Meaning}
use Rattle.mlir_attributes.specs.declared.aliases.Meaning.TheVariants as meanings
use Rattle.mlir_attributes.specs.Place.{Place, fault, left, kind, sees, start, spelling, next, start_of}
use Rattle.mlir_attributes.specs.Input.{Outcome, Parser, after, eat, expect, refuse, fail_at, pure, ◌>>=◌, ◌>>◌, ◌<$>◌, take_token, separated, items, list}
use Rattle.mlir_attributes.specs.Aliases.{find, attr_meant, has_point}
use Rattle.mlir_attributes.specs.Types.{is_kept_word, kept as kept_text, word_type, bang_type, ty, max_open}
use Rattle.mlir_attributes.specs.Numbers.{signed, if_short, is_hex, token_value, is_wide, is_integral}
use Rattle.mlir_attributes.specs.Dictionary.{has_name, put_entry}
use Rattle.mlir_attributes.specs.Attributes as read
use Rattle.mlir_attributes.specs.Attributes.{truth, number_type, signed_text, int_of, value_of, number_of, float_by, number_kind, symbol_name}
use Rattle.mlir_attributes.specs.Grammar.{IsSpelled, IsMark, IsNot}
use Rattle.mlir_attributes.specs.TypeGrammar.{IsTy}
use Rattle.mlir_attributes.specs.AttributeGrammar.{HasValue, IsTyped, IsNumber, IsSymbol, AreMore, IsPlainAttr, IsAttrAlias, AreAttrs, IsEntryName, IsBehindName, IsEntry, AreEntries, Fills, IsArray, IsDict, IsAttr, IsAttrText}
use Rattle.mlir_attributes.proofs.Tokens.{bind_ok, same_ok, IsWithin, taken, kind_sees, not_seen, eaten, left_alone, expected}
use Rattle.mlir_attributes.proofs.Bodies.{kept_sound}
use Rattle.mlir_attributes.proofs.Literals.{literal_sound}
use Rattle.mlir_attributes.proofs.TypesSound.{Finds, lifted, use_by, ty_sound, plain_ty, word_sound, bang_sound, whole_sound}

or_attr : Attr → Result Attr ModFault → Attr
or_attr x (Ok y) = y
or_attr x (Err f) = x

-- ---- numbers

int_by : (at : ℕ) (t : Ty) (x : Attr) (neg : Bool) (text : List ℕ) (o : Option Number) → value_of t neg (if_short (token_value text)) ≡ o → int_of at t o ≡ Ok x → (n : Number) × HasValue t (signed neg (token_value text)) n × (int_attr n t ≡ x)
unfolding or_attr
int_by at t x neg text (Some n) is h = (n, literal_sound t neg (token_value text) n is, ap (or_attr (int_attr n t)) h)
int_by at t x neg text None is h = absurd (cc)

-- what a number's parts are
abbrev Numbered : Bool → Bool → List ℕ → Ty → Attr → Type 0
Numbered neg float text t x =
    ((float ≡ false) × (is_wide t ≡ false) × (n : Number) × HasValue t (signed neg (token_value text)) n × (int_attr n t ≡ x))
    ⊎ ((is_integral t ≡ false) × ((float ≡ true) ⊎ (is_hex text ≡ true)) × (num (signed_text neg text) t ≡ x))

written_by : (at : ℕ) (neg float : Bool) (text : List ℕ) (t : Ty) (x : Attr) (b : Bool) → (float || is_hex text) ≡ b → is_integral t ≡ false → cond {A = Result Attr ModFault} b (Ok (num (signed_text neg text) t)) (Err (fault faults.IntRange at)) ≡ Ok x → Numbered neg float text t x
unfolding or_attr
written_by at neg float text t x true is other h = inr (other, or_cases float (is_hex text) is, ap (or_attr (num (signed_text neg text) t)) h)
written_by at neg float text t x false is other h = absurd (cc)

number_by : (at ty_at : ℕ) (neg float : Bool) (text : List ℕ) (t : Ty) (x : Attr) (w i : Bool) → is_wide t ≡ w → is_integral t ≡ i
    → cond {A = Result Attr ModFault} w (Err (fault faults.WideInt ty_at)) (cond i (cond float (Err (fault faults.IntRange at)) (int_of at t (value_of t neg (if_short (token_value text)))))
    (cond (float || is_hex text) (Ok (num (signed_text neg text) t)) (Err (fault faults.IntRange at)))) ≡ Ok x → Numbered neg float text t x
number_by at ty_at neg float text t x true i wide integral h = absurd (cc)
number_by at ty_at neg true text t x false true wide integral h = absurd (cc)
number_by at ty_at neg false text t x false true wide integral h = (let (n, value, same) = int_by at t x neg text (value_of t neg (if_short (token_value text))) refl h in inl (refl, wide, n, value, same))
number_by at ty_at neg float text t x false false wide integral h = written_by at neg float text t x (float || is_hex text) refl integral h

number_of_sound : (at ty_at : ℕ) (neg float : Bool) (text : List ℕ) (t : Ty) (x : Attr) → number_of at ty_at neg float text t ≡ Ok x → Numbered neg float text t x
unfolding number_of
number_of_sound at ty_at neg float text t x h = number_by at ty_at neg float text t x (is_wide t) (is_integral t) refl refl h

-- the token of a number
float_sound : (s r : Place) (float : Bool) (j : Option TokenKind) → kind s ≡ j → float_by j s ≡ Ok (float, r) → (s ≡ r) × (sees (if float then k.Float else k.Integer) s ≡ true)
float_sound s r float (Some k.Integer) is h = let same = same_ok h in (same.1, subst (λ b. sees (if b then k.Float else k.Integer) s ≡ true) same.0 (kind_sees k.Integer s is))
float_sound s r float (Some k.Float) is h = let same = same_ok h in (same.1, subst (λ b. sees (if b then k.Float else k.Integer) s ≡ true) same.0 (kind_sees k.Float s is))
float_sound s r float _ is h = absurd (cc)

module _ (aliases : List Alias) where
  -- ---- a type behind `:`

  typed_by : (room : ℕ) (s r : Place) (t : Option Ty) (b : Bool) → sees k.Colon s ≡ b → IsWithin s → (cond {A = Parser (Option Ty)} b (Some <$> ty aliases room) (pure None)) (after k.Colon s) ≡ Ok (t, r) → IsTyped aliases room s t r × IsWithin r
  typed_by room s r t true is within h =
      let mark = eaten k.Colon s within is in
      let one = bind_ok (ty aliases room (after k.Colon s)) _ t r h in
      let same = same_ok one.3 in
      let found = ty_sound aliases room (after k.Colon s) one.1 one.0 mark.1 one.2 in
      (subst (λ t. IsTyped aliases room s t r) same.0 (after k.Colon s, mark.0, subst (IsTy aliases room (after k.Colon s) one.0) same.1 found.0), subst IsWithin same.1 found.1)
  typed_by room s r t false is within h =
      let same = same_ok h in
      let here : s ≡ r = sym (left_alone k.Colon s is) ∙ same.1 in
      (subst (λ t. IsTyped aliases room s t r) same.0 (not_seen k.Colon s is, here), subst IsWithin here within)

  typed_sound : (room : ℕ) → Finds (IsTyped aliases room) (read.typed aliases room)
  unfolding read.typed
  typed_sound room s r t within h = typed_by room s r t (sees k.Colon s) refl within h

  -- the type of a number
  abbrev NumberTyped : ℕ → Bool → Place → Ty → Place → Type 0
  NumberTyped room float s t r = (o : Option Ty) × IsTyped aliases room s o r × ((o ≡ Some t) ⊎ ((o ≡ None) × (number_type float ≡ t)))

  number_typed_by : (room : ℕ) (float : Bool) (s r : Place) (p : ℕ × Ty) (b : Bool) → sees k.Colon s ≡ b → IsWithin s
      → (cond {A = Parser (ℕ × Ty)} b ((λ t. (start (after k.Colon s), t)) <$> ty aliases room) (pure (start (after k.Colon s), number_type float))) (after k.Colon s) ≡ Ok (p, r) → NumberTyped room float s p.1 r × IsWithin r
  number_typed_by room float s r p true is within h =
      let mark = eaten k.Colon s within is in
      let one = bind_ok (ty aliases room (after k.Colon s)) _ p r h in
      let same = same_ok one.3 in
      let found = ty_sound aliases room (after k.Colon s) one.1 one.0 mark.1 one.2 in
      ((Some one.0, (after k.Colon s, mark.0, subst (IsTy aliases room (after k.Colon s) one.0) same.1 found.0), inl (ap (λ (q : ℕ × Ty). Some q.1) same.0)), subst IsWithin same.1 found.1)
  number_typed_by room float s r p false is within h =
      let same = same_ok h in
      let here : s ≡ r = sym (left_alone k.Colon s is) ∙ same.1 in
      ((None, (not_seen k.Colon s is, here), inr (refl, ap (λ (q : ℕ × Ty). q.1) same.0)), subst IsWithin here within)

  number_typed_sound : (room : ℕ) (float : Bool) (s r : Place) (p : ℕ × Ty) → IsWithin s → read.typed_number aliases room float s ≡ Ok (p, r) → NumberTyped room float s p.1 r × IsWithin r
  unfolding read.typed_number
  number_typed_sound room float s r p within h = number_typed_by room float s r p (sees k.Colon s) refl within h

  -- it is the type that is written
  found_type : (d : Bool) (at : ℕ) (m r : Place) (o : Outcome (ℕ × Ty)) (p : ℕ × Ty) → read.or_number_fault d at m o ≡ Ok (p, r) → o ≡ Ok (p, r)
  found_type d at m r (Ok q) p h = h
  found_type d at m r (Err f) p h = absurd (cc)

  fitting_sound : (room at : ℕ) (float : Bool) (text : List ℕ) (s r : Place) (p : ℕ × Ty) → read.fitting_type aliases room at float text s ≡ Ok (p, r) → read.typed_number aliases room float s ≡ Ok (p, r)
  unfolding read.fitting_type
  fitting_sound room at float text s r p h = found_type (read.is_decimal float text) at (after k.Colon s) r (read.typed_number aliases room float s) p h

  number_attr : (room : ℕ) (neg float : Bool) (text : List ℕ) (t : Ty) (s r : Place) (x : Attr) → IsNumber aliases room neg float text t s r → Numbered neg float text t x → IsPlainAttr aliases room s x r
  number_attr room neg float text t s r x h (inl (exact, wide, n, value, same)) =
      subst (λ x. IsPlainAttr aliases room s x r) same (inl (neg, text, subst (λ f. IsNumber aliases room neg f text t s r) exact h, wide, value))
  number_attr room neg float text t s r x h (inr (other, form, same)) =
      subst (λ x. IsPlainAttr aliases room s x r) same (neg, float, text, h, other, form, refl)

  -- a number behind its sign
  number_sound : (room at : ℕ) (neg : Bool) (s m r : Place) (x : Attr) → ((neg ≡ false) × (s ≡ m)) ⊎ ((neg ≡ true) × IsMark k.Minus s m) → IsWithin m → read.number aliases room at neg m ≡ Ok (x, r) → IsPlainAttr aliases room s x r × IsWithin r
  unfolding read.number
  number_sound room at neg s m r x sign within h =
      let one = bind_ok (number_kind m) _ x r h in
      let float = float_sound m one.1 one.0 (kind m) refl one.2 in
      let token = taken (if one.0 then k.Float else k.Integer) one.1 (subst IsWithin float.0 within) (subst (λ u. sees (if one.0 then k.Float else k.Integer) u ≡ true) float.0 float.1) in
      let two = bind_ok (read.fitting_type aliases room at one.0 (spelling one.1) (next one.1)) _ x r one.3 in
      let typed = number_typed_sound room one.0 (next one.1) two.1 two.0 token.1 (fitting_sound room at one.0 (spelling one.1) (next one.1) two.1 two.0 two.2) in
      let last = lifted (number_of at two.0.0 neg one.0 (spelling one.1) two.0.1) two.1 r x two.3 in
      let numbered = number_of_sound at two.0.0 neg one.0 (spelling one.1) two.0.1 x last.0 in
      let written : IsNumber aliases room neg one.0 (spelling one.1) two.0.1 s two.1 = record {
        digits = one.1;
        behind = next one.1;
        type_is = typed.0.0;
        sign = subst (λ u. ((neg ≡ false) × (s ≡ u)) ⊎ ((neg ≡ true) × IsMark k.Minus s u)) float.0 sign;
        spelled = token.0;
        typed = typed.0.1;
        type = typed.0.2;
      } in
      (subst (IsPlainAttr aliases room s x) last.1 (number_attr room neg one.0 (spelling one.1) two.0.1 s two.1 x written numbered), subst IsWithin last.1 typed.1)

  -- ---- strings, kept attributes and aliases

  string_sound : (room : ℕ) (s r : Place) (x : Attr) → IsWithin s → sees k.String s ≡ true → read.string aliases room s ≡ Ok (x, r) → IsPlainAttr aliases room s x r × IsWithin r
  unfolding read.string
  string_sound room s r x within is h =
      let first = taken k.String s within is in
      let one = bind_ok (read.typed aliases room (next s)) _ x r h in
      let same = same_ok one.3 in
      let typed = typed_sound room (next s) one.1 one.0 first.1 one.2 in
      (subst (λ x. IsPlainAttr aliases room s x r) same.0 (next s, (spelling s, first.0, refl), subst (IsTyped aliases room (next s) one.0) same.1 typed.0), subst IsWithin same.1 typed.1)

  -- what begins a kept attribute with a body
  abbrev Fronts : List ℕ → Place → Place → Type 0
  Fronts front s m = (IsSpelled k.Word front s m × (is_kept_word front ≡ true)) ⊎ IsSpelled k.Hash front s m

  kept_attr_sound : (room : ℕ) (front : List ℕ) (s m r : Place) (x : Attr) → Fronts front s m → IsWithin m → sees k.Less m ≡ true → read.kept_attr aliases front room m ≡ Ok (x, r) → IsPlainAttr aliases room s x r × IsWithin r
  unfolding read.kept_attr
  kept_attr_sound room front s m r x begins within more h =
      let one = bind_ok (kept_text aliases front room m) _ x r h in
      let two = bind_ok (read.typed aliases room one.1) _ x r one.3 in
      let same = same_ok two.3 in
      let (back, body, text, inside) = kept_sound aliases front room m one.1 one.0 within one.2 in
      let typed = typed_sound room one.1 two.1 two.0 inside two.2 in (
        subst (λ x. IsPlainAttr aliases room s x r) same.0
            (one.1, inl (front, back, m, next m, begins, (spelling m, (taken k.Less m within more).0), body, text), subst (IsTyped aliases room one.1 two.0) same.1 typed.0),
        subst IsWithin same.1 typed.1,
      )

  kept_word_by : (room : ℕ) (s r : Place) (x : Attr) (b : Bool) → sees k.Less (next s) ≡ b → is_kept_word (spelling s) ≡ true → IsSpelled k.Word (spelling s) s (next s) → IsWithin (next s)
      → (cond {A = Parser Attr} b (read.kept_attr aliases (spelling s) room) refuse) (next s) ≡ Ok (x, r) → IsPlainAttr aliases room s x r × IsWithin r
  kept_word_by room s r x true more is spelled within h = kept_attr_sound room (spelling s) s (next s) r x (inl (spelled, is)) within more h
  kept_word_by room s r x false more is spelled within h = absurd (cc)

  kept_word_sound : (room : ℕ) (s r : Place) (x : Attr) → IsWithin s → sees k.Word s ≡ true → is_kept_word (spelling s) ≡ true → read.kept_word aliases room s ≡ Ok (x, r) → IsPlainAttr aliases room s x r × IsWithin r
  unfolding read.kept_word
  kept_word_sound room s r x within seen is h =
      let first = taken k.Word s within seen in
      kept_word_by room s r x (sees k.Less (next s)) refl is first.0 first.1 h

  of_ty_sound : (room : ℕ) (p : Parser Ty) (s r : Place) (x : Attr) → ((t : Ty) (m : Place) → p s ≡ Ok (t, m) → IsTy aliases room s t m × IsWithin m) → (of_ty <$> p) s ≡ Ok (x, r) → IsPlainAttr aliases room s x r × IsWithin r
  of_ty_sound room p s r x reads h =
      let one = bind_ok (p s) _ x r h in
      let same = same_ok one.3 in
      let found = reads one.0 one.1 one.2 in
      (subst (λ x. IsPlainAttr aliases room s x r) same.0 (subst (IsTy aliases room s one.0) same.1 found.0), subst IsWithin same.1 found.1)

  -- a word that stands for itself
  own_word : (room : ℕ) (s r : Place) (x y : Attr) (w : List ℕ) → bytes_eq (spelling s) w ≡ true → ((m : Place) → IsSpelled k.Word w s m → IsPlainAttr aliases room s y m) → IsWithin s → sees k.Word s ≡ true → (take_token >> pure y) s ≡ Ok (x, r)
      → IsPlainAttr aliases room s x r × IsWithin r
  own_word room s r x y w is means within seen h =
      let first = taken k.Word s within seen in
      let same = same_ok h in
      let spelled = subst (λ v. IsSpelled k.Word v s (next s)) ((bytes_eq-Decides (spelling s) w).0 is) first.0 in
      (subst (λ x. IsPlainAttr aliases room s x r) same.0 (subst (IsPlainAttr aliases room s y) same.1 (means (next s) spelled)), subst IsWithin same.1 first.1)

  word_attr_by : (room : ℕ) (s r : Place) (x : Attr) (u t f w : Bool) → bytes_eq (spelling s) (codes "unit") ≡ u → bytes_eq (spelling s) (codes "true") ≡ t → bytes_eq (spelling s) (codes "false") ≡ f → is_kept_word (spelling s) ≡ w
      → IsWithin s → sees k.Word s ≡ true
      → (cond {A = Parser Attr} u (take_token >> pure unit) (cond t (take_token >> pure (truth true)) (cond f (take_token >> pure (truth false)) (cond w (read.kept_word aliases room) (of_ty <$> word_type aliases room))))) s ≡ Ok (x, r)
      → IsPlainAttr aliases room s x r × IsWithin r
  word_attr_by room s r x true t f w a b c d within seen h = own_word room s r x unit (codes "unit") a (λ m e. e) within seen h
  word_attr_by room s r x false true f w a b c d within seen h = own_word room s r x (truth true) (codes "true") b (λ m e. inr (true, e, refl)) within seen h
  word_attr_by room s r x false false true w a b c d within seen h = own_word room s r x (truth false) (codes "false") c (λ m e. inr (false, e, refl)) within seen h
  word_attr_by room s r x false false false true a b c d within seen h = kept_word_sound room s r x within seen d h
  word_attr_by room s r x false false false false a b c d within seen h =
      of_ty_sound room (word_type aliases room) s r x (λ t m e. let is = word_sound aliases room s m t within seen e in (plain_ty aliases room s m t (inl is.0), is.1)) h

  word_attr_sound : (room : ℕ) (s r : Place) (x : Attr) → IsWithin s → sees k.Word s ≡ true → read.word_attr aliases room (spelling s) s ≡ Ok (x, r) → IsPlainAttr aliases room s x r × IsWithin r
  unfolding read.word_attr
  word_attr_sound room s r x within seen h =
      word_attr_by room s r x (bytes_eq (spelling s) (codes "unit")) (bytes_eq (spelling s) (codes "true")) (bytes_eq (spelling s) (codes "false")) (is_kept_word (spelling s)) refl refl refl refl within seen h

  meant : (m : Meaning) (x : Attr) → attr_meant m ≡ Some x → m ≡ meanings.Attr x
  meant (meanings.Attr y) x h = ap (λ (o : Option Attr). meanings.Attr (or_x y o)) h
    where
      or_x : Attr → Option Attr → Attr
      or_x y None = y
      or_x y (Some x) = x
  meant (meanings.Ty t) x h = absurd (cc)
  meant meanings.Location x h = absurd (cc)

  alias_by : (room at : ℕ) (w : List ℕ) (s m r : Place) (x : Attr) (o : Option Alias) → find w aliases ≡ o → IsSpelled k.Hash w s m → IsWithin m → has_point w ≡ false → IsNot k.Less m → read.alias_attr_by aliases room at o m ≡ Ok (x, r)
      → IsAttrAlias aliases room s x r × IsWithin r
  alias_by room at w s m r x None is spelled within plain alone h = absurd (cc)
  alias_by room at w s m r x (Some a) is spelled within plain alone h =
      let found = use_by room at a m r x (attr_meant a.meaning) _ refl h in
      ((a, record { name = w; behind = m; spelled = spelled; defined = is; fits = found.1; rest = found.2 }, plain, alone, meant a.meaning x found.0), subst IsWithin found.2 within)

  pointed_sound : (room : ℕ) (w : List ℕ) (s m r : Place) (x : Attr) → IsSpelled k.Hash w s m → IsWithin m → has_point w ≡ true → IsNot k.Less m → read.pointed aliases room w m ≡ Ok (x, r) → IsPlainAttr aliases room s x r × IsWithin r
  unfolding read.pointed
  pointed_sound room w s m r x spelled within point alone h =
      let one = bind_ok (read.typed aliases room m) _ x r h in
      let same = same_ok one.3 in
      let typed = typed_sound room m one.1 one.0 within one.2 in
      (subst (λ x. IsPlainAttr aliases room s x r) same.0 (m, inr (spelled, point, alone), subst (IsTyped aliases room m one.0) same.1 typed.0), subst IsWithin same.1 typed.1)

  hash_by : (room at : ℕ) (w : List ℕ) (s m r : Place) (x : Attr) (b p : Bool) → sees k.Less m ≡ b → has_point w ≡ p → IsSpelled k.Hash w s m → IsWithin m
      → (cond {A = Parser Attr} b (read.kept_attr aliases w room) (cond p (read.pointed aliases room w) (read.alias_attr aliases room at w))) m ≡ Ok (x, r) → (IsPlainAttr aliases room s x r ⊎ IsAttrAlias aliases room s x r) × IsWithin r
  unfolding read.alias_attr
  hash_by room at w s m r x true p more point spelled within h = let found = kept_attr_sound room w s m r x (inr spelled) within more h in (inl found.0, found.1)
  hash_by room at w s m r x false true more point spelled within h = let found = pointed_sound room w s m r x spelled within point (not_seen k.Less m more) h in (inl found.0, found.1)
  hash_by room at w s m r x false false more point spelled within h =
      let found = alias_by room at w s m r x (find w aliases) refl spelled within point (not_seen k.Less m more) h in
      (inr found.0, found.1)

  hash_sound : (room : ℕ) (s r : Place) (x : Attr) → IsWithin s → sees k.Hash s ≡ true → read.hash_attr aliases room s ≡ Ok (x, r) → (IsPlainAttr aliases room s x r ⊎ IsAttrAlias aliases room s x r) × IsWithin r
  unfolding read.hash_attr
  hash_sound room s r x within is h =
      let first = taken k.Hash s within is in
      hash_by room (start s) (spelling s) s (next s) r x (sees k.Less (next s)) (has_point (spelling s)) refl refl first.0 first.1 h

  -- ---- lists with a mark between

  module _ {A : Type 0} (mark : TokenKind) (One : Place → A → Place → Type 0) where
    -- what the loop adds to what was found
    abbrev Adds : Place → List A → List A → Place → Type 0
    Adds s found all r = (x : A) × (xs : List A) × (s1 : Place) × (all ≡ found ++ x ∷ xs) × One s x s1 × AreMore mark One s1 xs r × IsWithin r

    separated_go : (item : Parser A) (n : ℕ) → ((found all : List A) (s r : Place) → IsWithin s → separated mark item n found s ≡ Ok (all, r) → Adds s found all r)
        → (found all : List A) (s s1 r : Place) (x : A) → One s x s1 → IsWithin s1 → (b : Bool) → sees mark s1 ≡ b
        → (cond b (separated mark item n (found ++ x ∷ [])) (pure (found ++ x ∷ []))) (after mark s1) ≡ Ok (all, r) → Adds s found all r
    separated_go item n go found all s s1 r x h within true c e =
        let comma = eaten mark s1 within c in
        let more = go (found ++ x ∷ []) all (after mark s1) r comma.1 e in
        (x, more.0 ∷ more.1, s1, more.3 ∙ append_assoc found (x ∷ []) (more.0 ∷ more.1), h, (after mark s1, more.2, comma.0, more.4, more.5), more.6)
    separated_go item n go found all s s1 r x h within false c e =
        let end = same_ok e in
        let same : s1 ≡ r = sym (left_alone mark s1 c) ∙ end.1 in
        (x, [], s1, sym end.0, h, (not_seen mark s1 c, same), subst IsWithin same within)

    separated_sound : (item : Parser A) → Finds One item → (n : ℕ) (found all : List A) (s r : Place) → IsWithin s → separated mark item n found s ≡ Ok (all, r) → Adds s found all r
    unfolding separated
    separated_sound item reads zero found all s r within e = absurd (cc)
    separated_sound item reads (suc n) found all s r within e =
        let one = bind_ok (item s) _ all r e in
        let first = reads s one.1 one.0 within one.2 in
        separated_go item n (separated_sound item reads n) found all s one.1 r one.0 first.0 first.1 (sees mark one.1) refl one.3

  -- ---- symbols

  symbol_by : (s r : Place) (name : List ℕ) (b : Bool) → sees k.Symbol s ≡ b → IsWithin s → (cond {A = Parser (List ℕ)} b (symbol_name <$> take_token) refuse) s ≡ Ok (name, r) → IsSymbol s name r × IsWithin r
  symbol_by s r name true is within h =
      let first = taken k.Symbol s within is in
      let same = same_ok h in
      ((spelling s, subst (IsSpelled k.Symbol (spelling s) s) same.1 first.0, same.0), subst IsWithin same.1 first.1)
  symbol_by s r name false is within h = absurd (cc)

  symbol_sound : Finds IsSymbol read.symbol
  unfolding read.symbol
  symbol_sound s r name within h = symbol_by s r name (sees k.Symbol s) refl within h

  symbols_sound : (room : ℕ) (s r : Place) (x : Attr) → IsWithin s → (symbols <$> (λ s. separated k.ColonColon read.symbol (left s) [] s)) s ≡ Ok (x, r) → IsPlainAttr aliases room s x r × IsWithin r
  symbols_sound room s r x within h =
      let one = bind_ok (separated k.ColonColon read.symbol (left s) [] s) _ x r h in
      let same = same_ok one.3 in
      let (n, names, m, all, first, more, inside) = separated_sound k.ColonColon IsSymbol read.symbol symbol_sound (left s) [] one.0 s one.1 within one.2 in
      (subst (λ x. IsPlainAttr aliases room s x r) (ap symbols (sym all) ∙ same.0) (m, first, subst (AreMore k.ColonColon IsSymbol m names) same.1 more), subst IsWithin same.1 inside)

  -- ---- an attribute that doesn't begin with a bracket of its own

  abbrev IsFlat : ℕ → Place → Attr → Place → Type 0
  IsFlat room s x r = (IsPlainAttr aliases room s x r ⊎ IsAttrAlias aliases room s x r) × IsWithin r

  plain_of : (room : ℕ) (s r : Place) (x : Attr) → IsPlainAttr aliases room s x r × IsWithin r → IsFlat room s x r
  plain_of room s r x h = (inl h.0, h.1)

  flat_sound : (room : ℕ) (s r : Place) (x : Attr) (j : Option TokenKind) → IsWithin s → kind s ≡ j → read.flat_by aliases room j s ≡ Ok (x, r) → IsFlat room s x r
  flat_sound room s r x (Some k.Word) within is h = plain_of room s r x (word_attr_sound room s r x within (kind_sees k.Word s is) h)
  flat_sound room s r x (Some k.Minus) within is h =
      let first = taken k.Minus s within (kind_sees k.Minus s is) in
      plain_of room s r x (number_sound room (start s) true s (next s) r x (inr (refl, (spelling s, first.0))) first.1 h)
  flat_sound room s r x (Some k.Integer) within is h = plain_of room s r x (number_sound room (start s) false s s r x (inl (refl, refl)) within h)
  flat_sound room s r x (Some k.Float) within is h = plain_of room s r x (number_sound room (start s) false s s r x (inl (refl, refl)) within h)
  flat_sound room s r x (Some k.String) within is h = plain_of room s r x (string_sound room s r x within (kind_sees k.String s is) h)
  flat_sound room s r x (Some k.Symbol) within is h = plain_of room s r x (symbols_sound room s r x within h)
  flat_sound room s r x (Some k.Hash) within is h = hash_sound room s r x within (kind_sees k.Hash s is) h
  flat_sound room s r x (Some k.Bang) within is h =
      plain_of room s r x (of_ty_sound room (bang_type aliases room) s r x (λ t m e. let is = bang_sound aliases room s m t within (kind_sees k.Bang s is) e in (plain_ty aliases room s m t is.0, is.1)) h)
  flat_sound room s r x (Some k.LeftParen) within is h = plain_of room s r x (of_ty_sound room (ty aliases room) s r x (λ t m e. ty_sound aliases room s m t within e) h)
  flat_sound room s r x _ within is h = absurd (cc)

  -- ---- arrays

  module _ (Inner : Place → Attr → Place → Type 0) (inner : Parser Attr) (reads : Finds Inner inner) where
    list_go : (s r : Place) (all : List Attr) (b : Bool) → IsWithin s → sees k.RightBracket s ≡ b
        → (cond b (pure []) (items inner >>= (λ xs. expect k.RightBracket >>= (λ _. pure xs)))) (after k.RightBracket s) ≡ Ok (all, r) → (s1 : Place) × AreAttrs Inner s all s1 × IsMark k.RightBracket s1 r × IsWithin r
    list_go s r all true within c e =
        let end = same_ok e in
        let shut = eaten k.RightBracket s within c in
        (s, subst (λ xs. AreAttrs Inner s xs s) end.0 refl, subst (IsMark k.RightBracket s) end.1 shut.0, subst IsWithin end.1 shut.1)
    list_go s r all false within c e =
        let one = bind_ok (items inner (after k.RightBracket s)) _ all r e in
        let shut = bind_ok (expect k.RightBracket one.1) _ all r one.3 in
        let end = same_ok shut.3 in
        let here : after k.RightBracket s ≡ s = left_alone k.RightBracket s c in
        let (x, xs, m, is, first, more, inside) = separated_sound k.Comma Inner inner reads (left (after k.RightBracket s)) [] one.0 (after k.RightBracket s) one.1 (subst IsWithin (sym here) within) one.2 in
        let whole : AreAttrs Inner (after k.RightBracket s) all one.1 = subst (λ xs. AreAttrs Inner (after k.RightBracket s) xs one.1) (sym is ∙ end.0) (m, first, more) in
        let mark = expected k.RightBracket one.1 shut.1 shut.0 inside shut.2 in
        (one.1, subst (λ u. AreAttrs Inner u all one.1) here whole, subst (IsMark k.RightBracket one.1) end.1 mark.0, subst IsWithin end.1 mark.1)

    list_sound : (s r : Place) (all : List Attr) → IsWithin s → list k.RightBracket inner s ≡ Ok (all, r) → (s1 : Place) × AreAttrs Inner s all s1 × IsMark k.RightBracket s1 r × IsWithin r
    unfolding list
    list_sound s r all within e = list_go s r all (sees k.RightBracket s) within refl e

    array_sound : (s s1 r : Place) (x : Attr) → IsMark k.LeftBracket s s1 → IsWithin s1 → read.array_attr inner s1 ≡ Ok (x, r) → IsArray Inner s x r × IsWithin r
    unfolding read.array_attr
    array_sound s s1 r x begins within h =
        let one = bind_ok (list k.RightBracket inner s1) _ x r h in
        let same = same_ok one.3 in
        let (m, all, shut, inside) = list_sound s1 one.1 one.0 within one.2 in
        ((s1, m, one.0, begins, all, subst (IsMark k.RightBracket m) same.1 shut, same.0), subst IsWithin same.1 inside)

    -- ---- dictionaries

    pub name_sound : (s r : Place) (name : List ℕ) (j : Option TokenKind) → IsWithin s → kind s ≡ j → read.entry_name_by j s ≡ Ok (name, r) → IsEntryName s name r × IsWithin r
    name_sound s r name (Some k.Word) within is h =
        let first = taken k.Word s within (kind_sees k.Word s is) in
        let same = same_ok h in
        (inl (subst (λ n. IsSpelled k.Word n s r) same.0 (subst (IsSpelled k.Word (spelling s) s) same.1 first.0)), subst IsWithin same.1 first.1)
    name_sound s r name (Some k.String) within is h =
        let first = taken k.String s within (kind_sees k.String s is) in
        let same = same_ok h in
        (inr (spelling s, subst (IsSpelled k.String (spelling s) s) same.1 first.0, same.0), subst IsWithin same.1 first.1)
    name_sound s r name _ within is h = absurd (cc)

    value_by : (m r : Place) (x : Attr) (b : Bool) → sees k.Equal m ≡ b → IsWithin m → (cond {A = Parser Attr} b inner (pure unit)) (after k.Equal m) ≡ Ok (x, r) → IsBehindName Inner m x r × IsWithin r
    value_by m r x true is within h =
        let mark = eaten k.Equal m within is in
        let found = reads (after k.Equal m) r x mark.1 h in
        (inl (after k.Equal m, mark.0, found.0), found.1)
    value_by m r x false is within h =
        let same = same_ok h in
        let here : m ≡ r = sym (left_alone k.Equal m is) ∙ same.1 in
        (inr (not_seen k.Equal m is, here, same.0), subst IsWithin here within)

    pub value_sound : (m r : Place) (x : Attr) → IsWithin m → read.entry_value inner m ≡ Ok (x, r) → IsBehindName Inner m x r × IsWithin r
    unfolding read.entry_value
    value_sound m r x within h = value_by m r x (sees k.Equal m) refl within h

    abbrev AddsEntries : Place → List (List ℕ × Attr) → List (List ℕ × Attr) → Place → Type 0
    AddsEntries s found all r =
        (e : List ℕ × Attr) × (es : List (List ℕ × Attr)) × (s1 : Place) × Fills found (e ∷ es) all × IsEntry Inner s e s1 × AreMore k.Comma (IsEntry Inner) s1 es r × IsWithin r

    more_go : (n : ℕ) → ((found all : List (List ℕ × Attr)) (s r : Place) → IsWithin s → read.entries inner n found s ≡ Ok (all, r) → AddsEntries s found all r)
        → (found all : List (List ℕ × Attr)) (s s1 r : Place) (name : List ℕ) (x : Attr) → has_name name found ≡ false → IsEntry Inner s (name, x) s1 → IsWithin s1 → (b : Bool) → sees k.Comma s1 ≡ b
        → (cond b (read.entries inner n (put_entry name x found)) (pure (put_entry name x found))) (after k.Comma s1) ≡ Ok (all, r) → AddsEntries s found all r
    more_go n go found all s s1 r name x new h within true c e =
        let comma = eaten k.Comma s1 within c in
        let (e, es, m, fills, first, more, inside) = go (put_entry name x found) all (after k.Comma s1) r comma.1 e in
        ((name, x), e ∷ es, s1, (new, fills), h, (after k.Comma s1, m, comma.0, first, more), inside)
    more_go n go found all s s1 r name x new h within false c e =
        let end = same_ok e in
        let same : s1 ≡ r = sym (left_alone k.Comma s1 c) ∙ end.1 in
        ((name, x), [], s1, (new, end.0), h, (not_seen k.Comma s1 c, same), subst IsWithin same within)

    entry_go : (n : ℕ) → ((found all : List (List ℕ × Attr)) (s r : Place) → IsWithin s → read.entries inner n found s ≡ Ok (all, r) → AddsEntries s found all r)
        → (at : ℕ) (found all : List (List ℕ × Attr)) (s m r : Place) (name : List ℕ) → IsEntryName s name m → IsWithin m → (b : Bool) → has_name name found ≡ b
        → (cond {A = Parser (List (List ℕ × Attr))} b (fail_at faults.DictTwice at) (read.entry_value inner >>= (λ value. eat k.Comma >>= (λ more. cond more (read.entries inner n (put_entry name value found)) (pure (put_entry name value found)))))) m ≡ Ok (all, r)
        → AddsEntries s found all r
    entry_go n go at found all s m r name named within true new e = absurd (cc)
    entry_go n go at found all s m r name named within false new e =
        let one = bind_ok (read.entry_value inner m) _ all r e in
        let value = value_sound m one.1 one.0 within one.2 in
        more_go n go found all s one.1 r name one.0 new (m, named, value.0) value.1 (sees k.Comma one.1) refl one.3

    entries_sound : (n : ℕ) (found all : List (List ℕ × Attr)) (s r : Place) → IsWithin s → read.entries inner n found s ≡ Ok (all, r) → AddsEntries s found all r
    unfolding read.entries
    entries_sound zero found all s r within e = absurd (cc)
    entries_sound (suc n) found all s r within e =
        let one = bind_ok (read.entry_name s) _ all r e in
        let name = name_sound s one.1 one.0 (kind s) within refl one.2 in
        entry_go n (entries_sound n) (start s) found all s one.1 r one.0 name.0 name.1 (has_name one.0 found) refl one.3

    dict_go : (s r : Place) (all : List (List ℕ × Attr)) (b : Bool) → IsWithin s → sees k.RightBrace s ≡ b
        → (cond b (pure []) (read.all_entries inner >>= (λ es. expect k.RightBrace >>= (λ _. pure es)))) (after k.RightBrace s) ≡ Ok (all, r)
        → (s1 : Place) × (written : List (List ℕ × Attr)) × AreEntries Inner s written s1 × Fills [] written all × IsMark k.RightBrace s1 r × IsWithin r
    dict_go s r all true within c e =
        let end = same_ok e in
        let shut = eaten k.RightBrace s within c in
        (s, [], refl, end.0, subst (IsMark k.RightBrace s) end.1 shut.0, subst IsWithin end.1 shut.1)
    dict_go s r all false within c e =
        let one = bind_ok (read.all_entries inner (after k.RightBrace s)) _ all r e in
        let shut = bind_ok (expect k.RightBrace one.1) _ all r one.3 in
        let end = same_ok shut.3 in
        let here : after k.RightBrace s ≡ s = left_alone k.RightBrace s c in
        let (e, es, m, fills, first, more, inside) = entries_sound (left (after k.RightBrace s)) [] one.0 (after k.RightBrace s) one.1 (subst IsWithin (sym here) within) one.2 in
        let mark = expected k.RightBrace one.1 shut.1 shut.0 inside shut.2 in
        (one.1, e ∷ es, subst (λ u. AreEntries Inner u (e ∷ es) one.1) here (m, first, more), subst (Fills [] (e ∷ es)) end.0 fills, subst (IsMark k.RightBrace one.1) end.1 mark.0, subst IsWithin end.1 mark.1)

    dictionary_sound : (s r : Place) (all : List (List ℕ × Attr)) → IsWithin s → read.dictionary inner s ≡ Ok (all, r)
        → (s1 : Place) × (written : List (List ℕ × Attr)) × AreEntries Inner s written s1 × Fills [] written all × IsMark k.RightBrace s1 r × IsWithin r
    unfolding read.dictionary
    dictionary_sound s r all within e = dict_go s r all (sees k.RightBrace s) within refl e

    dict_sound : (s s1 r : Place) (x : Attr) → IsMark k.LeftBrace s s1 → IsWithin s1 → read.dict_attr inner s1 ≡ Ok (x, r) → IsDict Inner s x r × IsWithin r
    unfolding read.dict_attr
    dict_sound s s1 r x begins within h =
        let one = bind_ok (read.dictionary inner s1) _ x r h in
        let same = same_ok one.3 in
        let (m, written, all, fills, shut, inside) = dictionary_sound s1 one.1 one.0 within one.2 in
        ((s1, m, written, one.0, begins, all, subst (IsMark k.RightBrace m) same.1 shut, fills, same.0), subst IsWithin same.1 inside)

  -- ---- attributes

  by_kind : (room : ℕ) (P : Type 0) (a d : Parser Attr) (s r : Place) (x : Attr) → (IsFlat room s x r → P) → (kind s ≡ Some k.LeftBracket → a s ≡ Ok (x, r) → P) → (kind s ≡ Some k.LeftBrace → d s ≡ Ok (x, r) → P)
      → (j : Option TokenKind) → IsWithin s → kind s ≡ j → read.attr_by aliases room a d j s ≡ Ok (x, r) → P
  by_kind room P a d s r x flat left_bracket left_brace (Some k.LeftBracket) within is h = left_bracket is h
  by_kind room P a d s r x flat left_bracket left_brace (Some k.LeftBrace) within is h = left_brace is h
  by_kind room P a d s r x flat left_bracket left_brace j within is h = flat (flat_sound room s r x j within is h)

  -- An attribute that is read is spelled so.
  pub attr_sound : (room : ℕ) → Finds (IsAttr aliases room) (read.attr aliases room)
  unfolding read.attr
  attr_sound zero s r x within e =
      by_kind zero (IsAttr aliases zero s x r × IsWithin r) _ _ s r x (λ h. h) (λ is h. absurd (cc)) (λ is h. absurd (cc)) (kind s) within refl e
  attr_sound (suc room) s r x within e =
      by_kind (suc room) (IsAttr aliases (suc room) s x r × IsWithin r) _ _ s r x (λ h. (inl h.0, h.1))
      (λ is h. let mark = taken k.LeftBracket s within (kind_sees k.LeftBracket s is) in
      let found = array_sound (IsAttr aliases room) (read.attr aliases room) (attr_sound room) s (next s) r x (spelling s, mark.0) mark.1 h in (inr (inl found.0), found.1))
      (λ is h. let mark = taken k.LeftBrace s within (kind_sees k.LeftBrace s is) in
      let found = dict_sound (IsAttr aliases room) (read.attr aliases room) (attr_sound room) s (next s) r x (spelling s, mark.0) mark.1 h in (inr (inr found.0), found.1))
      (kind s) within refl e

-- What is read of a whole text is the attribute that it spells.
pub attr_text_sound : (bytes : List ℕ) (x : Attr) → IsUtf8 bytes → read.attr_of bytes ≡ Ok x → IsAttrText bytes x
unfolding read.attr_of
attr_text_sound bytes x text e =
    let found = whole_sound (IsAttr [] max_open) (read.attr [] max_open) (attr_sound [] max_open) (start_of bytes) (omega arith) (read.attr [] max_open (start_of bytes)) x refl e in
    record { text = text; end = found.0; behind = found.1; attr = found.2; ends = found.3 }
