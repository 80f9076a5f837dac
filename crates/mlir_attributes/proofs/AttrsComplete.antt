-- What is spelled as an attribute is read so.
use Rattle.std.proofs.Common.{◌≡◌, ◌≢◌, ℕ, zero, suc, ◌<◌, ◌≤◌, Bool, true, false, cond, List, [], ◌∷◌, ◌++◌, refl, ap, sym, subst, ◌∙◌, inl, inr, Ok, append_assoc, arith}
use Rattle.std.specs.Prelude.{◌⊎◌, Option, Some, None, codes, ◌||◌, if◌then◌else◌}
use Rattle.std.specs.Str.{bytes_eq}
use Rattle.std.proofs.lemmas.Slice.Eq.{bytes_eq-Decides}
use Rattle.mlir_lexer.specs.declared.token.TokenKind.{TokenKind}
use Rattle.mlir_lexer.specs.declared.token.TokenKind.TheVariants as k
use Rattle.mlir_tree.specs.declared.number.Number.{Number}
use Rattle.mlir_tree.specs.Tree.{Ty, int, index, func, word, Attr, unit, int_attr, num, str, sym as symbols, of_ty, array, dict, kept}
use Rattle.mlir_tree.specs.Range.{IsInRange}
use Rattle.mlir_attributes.specs.declared.fault.ModKind.TheVariants as faults
use Rattle.mlir_attributes.specs.declared.aliases.Alias.{Alias}
use Rattle.mlir_attributes.specs.Place.{Place, left, kind, sees, start, spelling, next, start_of}
use Rattle.mlir_attributes.specs.Input.{Parser, lift, after, fail_at, ◌<$>◌, separated, list}
use Rattle.mlir_attributes.specs.Aliases.{has_point}
use Rattle.mlir_attributes.specs.Types.{is_kept_word, is_other_word, kept as kept_text, leaf, word_type, max_open}
use Rattle.mlir_attributes.specs.Numbers.{signed, is_hex, token_value, is_wide, is_integral}
use Rattle.mlir_attributes.specs.Dictionary.{has_name, put_entry}
use Rattle.mlir_attributes.specs.Attributes as read
use Rattle.mlir_attributes.specs.Attributes.{truth, number_type, signed_text, number_of, number_kind, symbol_name}
use Rattle.mlir_attributes.specs.Grammar.{IsSpelled, IsMark, IsNot, IsBody}
use Rattle.mlir_attributes.specs.TypeGrammar.{IsTy}
use Rattle.mlir_attributes.specs.AttributeGrammar.{HasValue, IsTyped, IsNumber, IsString, IsSymbol, AreMore, AreSymbols, HasKeptBody, IsKeptAttr, IsPlainAttr, IsAttrAlias, AreAttrs, IsEntryName, IsBehindName, IsEntry, AreEntries, Fills, IsArray, IsDict, IsAttr, IsAttrText}
use Rattle.mlir_attributes.proofs.Tokens.{IsWithin, spelled_within, spelled_sees, spelled_kind, spelled_text, spelled_next, spelled_shorter, unseen, expects, after_at, eaten_is, kind_other, sees_kind}
use Rattle.mlir_attributes.proofs.Bodies.{kept_complete, body_shorter, body_within}
use Rattle.mlir_attributes.proofs.Literals.{literal_complete}
use Rattle.mlir_attributes.proofs.AttrsSound.{attr_sound}
use Rattle.mlir_attributes.proofs.TypesComplete.{ReadBy, plain_read, ty_takes, ty_complete}

-- ---- numbers

integral : (t : Ty) (n : Number) → IsInRange t n → is_integral t ≡ true
integral (int g w) n h = refl
integral index n h = refl
integral (func xs ys) n h = absurd h
integral (word t) n h = absurd h

not_wide : (t : Ty) → is_integral t ≡ false → is_wide t ≡ false
not_wide (int g w) h = absurd (cc)
not_wide index h = refl
not_wide (func xs ys) h = refl
not_wide (word t) h = refl

int_read : (at ty_at : ℕ) (neg : Bool) (text : List ℕ) (t : Ty) (n : Number) → is_wide t ≡ false → HasValue t (signed neg (token_value text)) n → number_of at ty_at neg false text t ≡ Ok (int_attr n t)
unfolding number_of
int_read at ty_at neg text t n wide h = rw (wide, integral t n h.0, literal_complete t neg (token_value text) n h) refl

num_read : (at ty_at : ℕ) (neg float : Bool) (text : List ℕ) (t : Ty) → is_integral t ≡ false → (float ≡ true) ⊎ (is_hex text ≡ true) → number_of at ty_at neg float text t ≡ Ok (num (signed_text neg text) t)
unfolding number_of
num_read at ty_at neg float text t other (inl is) = rw (not_wide t other, other, is) refl
num_read at ty_at neg true text t other (inr is) = rw (not_wide t other, other) refl
num_read at ty_at neg false text t other (inr is) = rw (not_wide t other, other, is) refl

kind_read : (float : Bool) (text : List ℕ) (s r : Place) → IsSpelled (if float then k.Float else k.Integer) text s r → number_kind s ≡ Ok (float, s)
kind_read true text s r h = rw (spelled_kind k.Float text s r h) refl
kind_read false text s r h = rw (spelled_kind k.Integer text s r h) refl

-- ---- words

not_own : (w v : List ℕ) → is_kept_word v ≡ false → is_kept_word w ≡ true → bytes_eq w v ≡ false
not_own w v other is = by_test (bytes_eq w v) refl
  where
    by_test : (b : Bool) → bytes_eq w v ≡ b → bytes_eq w v ≡ false
    by_test true e = let same = (bytes_eq-Decides w v).0 e in let f : true ≡ false = sym is ∙ ap is_kept_word same ∙ other in absurd (cc)
    by_test false e = e

-- a first token that opens no bracket of an attribute's own
abbrev pub is_open : TokenKind → Bool
is_open k.LeftBracket = true
is_open k.LeftBrace = true
is_open _ = false

-- ---- lists with a mark between

module _ {A : Type 0} (mark : TokenKind) (One : Place → A → Place → Type 0) (no_end : mark ≢ k.End) (takes : (s r : Place) (x : A) → One s x r → left r < left s) where
  more_take : (xs : List A) (s r : Place) → AreMore mark One s xs r → left r ≤ left s
  more_take [] s r (alone, same) = omega (arith, ap left same)
  more_take (x ∷ xs) s r (s1, s2, (text, comma), one, more) = omega (arith, spelled_shorter mark text s s1 no_end comma, takes s1 s2 x one, more_take xs s2 r more)

module _ {A : Type 0} (mark : TokenKind) (One : Place → A → Place → Type 0) (item : Parser A) (no_end : mark ≢ k.End)
    (takes : (s r : Place) (x : A) → One s x r → left r < left s)
    (reads : (s r : Place) (x : A) → IsWithin s → One s x r → (item s ≡ Ok (x, r)) × IsWithin r) where
  separated_more : (n : ℕ) (found : List A) (s s1 s2 : Place) (x : A) → item s ≡ Ok (x, s1) → IsMark mark s1 s2 → separated mark item (suc n) found s ≡ separated mark item n (found ++ x ∷ []) s2
  unfolding separated
  separated_more n found s s1 s2 x e (text, c) = rw (e, spelled_sees mark text s1 s2 c, eaten_is mark text s1 s2 c) refl

  separated_last : (n : ℕ) (found : List A) (s s1 : Place) (x : A) → item s ≡ Ok (x, s1) → sees mark s1 ≡ false → separated mark item (suc n) found s ≡ Ok (found ++ x ∷ [], s1)
  unfolding separated
  separated_last n found s s1 x e c = rw (e, c, after_at mark s1 false c) refl

  more_complete : (xs : List A) (n : ℕ) (found : List A) (x : A) (s s1 r : Place) → item s ≡ Ok (x, s1) → IsWithin s1 → AreMore mark One s1 xs r → left s1 < left s → left s ≤ n → separated mark item n found s ≡ Ok (found ++ x ∷ xs, r)
  more_complete [] zero found x s s1 r e within h shorter fits = absurd (omega arith)
  more_complete [] (suc n) found x s s1 r e within (alone, same) shorter fits =
      subst (λ u. separated mark item (suc n) found s ≡ Ok (found ++ x ∷ [], u)) same (separated_last n found s s1 x e (unseen mark s1 within alone))
  more_complete (y ∷ ys) zero found x s s1 r e within h shorter fits = absurd (omega arith)
  more_complete (y ∷ ys) (suc n) found x s s1 r e within (s2, s3, (text, comma), one, more) shorter fits =
      let next = reads s2 s3 y (spelled_within mark text s1 s2 comma) one in
      separated_more n found s s1 s2 x e (text, comma)
      ∙ (more_complete ys n (found ++ x ∷ []) y s2 s3 r next.0 next.1 more (takes s2 s3 y one) (omega (arith, spelled_shorter mark text s1 s2 no_end comma))
      ∙ (λ i. Ok (append_assoc found (x ∷ []) (y ∷ ys) i, r)))

-- ---- symbols

symbol_takes : (s r : Place) (name : List ℕ) → IsSymbol s name r → left r < left s
symbol_takes s r name (text, spelled, same) = spelled_shorter k.Symbol text s r (λ e. cc) spelled

symbol_read : (s r : Place) (name : List ℕ) → IsWithin s → IsSymbol s name r → (read.symbol s ≡ Ok (name, r)) × IsWithin r
unfolding read.symbol
symbol_read s r name within (text, spelled, same) =
    (rw (spelled_sees k.Symbol text s r spelled, spelled_text k.Symbol text s r spelled, spelled_next k.Symbol text s r spelled, same) refl, spelled_within k.Symbol text s r spelled)

symbols_take : (names : List (List ℕ)) (s r : Place) → AreSymbols s names r → left r < left s
symbols_take [] s r h = absurd h
symbols_take (n ∷ names) s r (m, one, more) = omega (arith, symbol_takes s m n one, more_take k.ColonColon IsSymbol (λ e. cc) symbol_takes names m r more)

symbols_read : (names : List (List ℕ)) (s r : Place) → IsWithin s → AreSymbols s names r → separated k.ColonColon read.symbol (left s) [] s ≡ Ok (names, r)
symbols_read [] s r within h = absurd h
symbols_read (n ∷ names) s r within (m, one, more) =
    let first = symbol_read s m n within one in
    more_complete k.ColonColon IsSymbol read.symbol (λ e. cc) symbol_takes symbol_read names (left s) [] n s m r first.0 first.1 more (symbol_takes s m n one) (omega arith)

word_other : (aliases : List Alias) (room at : ℕ) (w : List ℕ) (m r : Place) (t : Ty) (o b : Bool) → (cond {A = Parser Ty} o (fail_at faults.Syntax at) (cond b (word <$> kept_text aliases w room) (lift (leaf at w)))) m ≡ Ok (t, r) → o ≡ false
word_other aliases room at w m r t true b h = absurd (cc)
word_other aliases room at w m r t false b h = refl

no_other : (aliases : List Alias) (room : ℕ) (s r : Place) (t : Ty) → word_type aliases room s ≡ Ok (t, r) → is_other_word (spelling s) ≡ false
unfolding word_type
no_other aliases room s r t h = word_other aliases room (start s) (spelling s) (next s) r t (is_other_word (spelling s)) (sees k.Less (next s)) h

module _ (aliases : List Alias) where
  -- ---- a type behind `:`

  typed_read : (room : ℕ) (t : Option Ty) (s r : Place) → IsWithin s → IsTyped aliases room s t r → read.typed aliases room s ≡ Ok (t, r)
  unfolding read.typed
  typed_read room None s r within (alone, same) =
      let other = unseen k.Colon s within alone in
      rw (other, after_at k.Colon s false other, same) refl
  typed_read room (Some t) s r within (m, (text, mark), is) =
      rw (spelled_sees k.Colon text s m mark, eaten_is k.Colon text s m mark, ty_complete aliases room t m r is) refl

  number_typed_read : (room : ℕ) (float : Bool) (o : Option Ty) (t : Ty) (s r : Place) → IsWithin s → IsTyped aliases room s o r → (o ≡ Some t) ⊎ ((o ≡ None) × (number_type float ≡ t)) → (at : ℕ) × (read.typed_number aliases room float s ≡ Ok ((at, t), r))
  unfolding read.typed_number
  number_typed_read room float None t s r within (alone, same) (inl is) = absurd (cc)
  number_typed_read room float None t s r within (alone, same) (inr (is, type)) =
      let other = unseen k.Colon s within alone in
      (start s, rw (other, after_at k.Colon s false other, same, type) refl)
  number_typed_read room float (Some u) t s r within (m, (text, mark), is) (inl same) =
      (start m, rw (spelled_sees k.Colon text s m mark, eaten_is k.Colon text s m mark, ty_complete aliases room u m r is) (λ i. Ok ((start m, or_ty u (same i)), r)))
    where
      or_ty : Ty → Option Ty → Ty
      or_ty u None = u
      or_ty u (Some t) = t
  number_typed_read room float (Some u) t s r within (m, mark, is) (inr (none, type)) = absurd (cc)

  fitting_read : (room at : ℕ) (float : Bool) (text : List ℕ) (s r : Place) (p : ℕ × Ty) → read.typed_number aliases room float s ≡ Ok (p, r) → read.fitting_type aliases room at float text s ≡ Ok (p, r)
  unfolding read.fitting_type
  fitting_read room at float text s r p h = ap (read.or_number_fault (read.is_decimal float text) at (after k.Colon s)) h

  number_read : (room at : ℕ) (neg float : Bool) (text : List ℕ) (t : Ty) (x : Attr) (s r : Place) → (h : IsNumber aliases room neg float text t s r) → ((ty_at : ℕ) → number_of at ty_at neg float text t ≡ Ok x) → read.number aliases room at neg h.digits ≡ Ok (x, r)
  unfolding read.number
  number_read room at neg float text t x s r h value =
      let j = if float then k.Float else k.Integer in
      let typed = number_typed_read room float h.type_is t h.behind r (spelled_within j text h.digits h.behind h.spelled) h.typed h.type in
      rw (kind_read float text h.digits h.behind h.spelled, spelled_text j text h.digits h.behind h.spelled, spelled_next j text h.digits h.behind h.spelled, fitting_read room at float text h.behind r (typed.0, t) typed.1, value typed.0) refl

  -- ---- by which rule an attribute is read

  abbrev FlatRead : ℕ → Place → Attr → Place → Type 0
  FlatRead room s x r = (j : TokenKind) × (kind s ≡ Some j) × (is_open j ≡ false) × (read.flat_by aliases room (Some j) s ≡ Ok (x, r))

  by_float : (room : ℕ) (float : Bool) (s r : Place) (x : Attr) → kind s ≡ Some (if float then k.Float else k.Integer) → read.number aliases room (start s) false s ≡ Ok (x, r) → FlatRead room s x r
  by_float room true s r x is h = (k.Float, is, refl, h)
  by_float room false s r x is h = (k.Integer, is, refl, h)

  number_flat : (room : ℕ) (neg float : Bool) (text : List ℕ) (t : Ty) (x : Attr) (s r : Place) → IsNumber aliases room neg float text t s r → ((at ty_at : ℕ) → number_of at ty_at neg float text t ≡ Ok x) → FlatRead room s x r
  number_flat room neg float text t x s r h value =
      let found = number_read room (start s) neg float text t x s r h (value (start s)) in
      elim h.sign [
        | inl (plain, same) ↦
            by_float room float s r x (ap kind same ∙ spelled_kind (if float then k.Float else k.Integer) text h.digits h.behind h.spelled)
            (subst (λ u. read.number aliases room (start s) false u ≡ Ok (x, r)) (sym same) (subst (λ b. read.number aliases room (start s) b h.digits ≡ Ok (x, r)) plain found))
        | inr (minus, (mark_text, mark)) ↦ (
          k.Minus,
          spelled_kind k.Minus mark_text s h.digits mark,
          refl,
          rw (spelled_next k.Minus mark_text s h.digits mark) (subst (λ b. read.number aliases room (start s) b h.digits ≡ Ok (x, r)) minus found),
        )
      ]

  -- ---- words

  own_read : (room : ℕ) (w : List ℕ) (y : Attr) (s r : Place) → IsSpelled k.Word w s r → ((v : Place) → next s ≡ v → read.word_attr aliases room w s ≡ Ok (y, v)) → FlatRead room s y r
  own_read room w y s r spelled reads =
      (k.Word, spelled_kind k.Word w s r spelled, refl, rw (spelled_text k.Word w s r spelled) (reads r (spelled_next k.Word w s r spelled)))

  unit_read : (room : ℕ) (s r : Place) → IsSpelled k.Word (codes "unit") s r → FlatRead room s unit r
  unfolding read.word_attr
  unit_read room s r spelled = own_read room (codes "unit") unit s r spelled (λ v same. ap (λ u. Ok (unit, u)) same)

  truth_read : (room : ℕ) (b : Bool) (s r : Place) → IsSpelled k.Word (if b then codes "true" else codes "false") s r → FlatRead room s (truth b) r
  unfolding read.word_attr
  truth_read room true s r spelled = own_read room (codes "true") (truth true) s r spelled (λ v same. ap (λ u. Ok (truth true, u)) same)
  truth_read room false s r spelled = own_read room (codes "false") (truth false) s r spelled (λ v same. ap (λ u. Ok (truth false, u)) same)

  -- ---- strings and kept attributes

  string_read : (room : ℕ) (bytes : List ℕ) (t : Option Ty) (s m r : Place) → IsString s bytes m → IsTyped aliases room m t r → FlatRead room s (str bytes t) r
  unfolding read.string
  string_read room bytes t s m r (text, spelled, same) typed = (
    k.String,
    spelled_kind k.String text s m spelled,
    refl,
    rw (spelled_text k.String text s m spelled, spelled_next k.String text s m spelled, typed_read room t m r (spelled_within k.String text s m spelled) typed, same) refl,
  )

  kept_read : (room : ℕ) (front back : List ℕ) (t : Option Ty) (m m2 r : Place) → IsBody aliases room back m m2 → IsTyped aliases room m2 t r → read.kept_attr aliases front room m ≡ Ok (kept (front ++ back) t, r)
  unfolding read.kept_attr
  kept_read room front back t m m2 r body typed =
      rw (kept_complete aliases front back room m m2 body, typed_read room t m2 r (body_within aliases room m m2 back body) typed) refl

  kept_word_read : (room : ℕ) (front back : List ℕ) (t : Option Ty) (s m m1 m2 r : Place) → IsSpelled k.Word front s m → is_kept_word front ≡ true → IsMark k.Less m m1 → IsBody aliases room back m m2 → IsTyped aliases room m2 t r
      → FlatRead room s (kept (front ++ back) t) r
  unfolding read.word_attr read.kept_word
  kept_word_read room front back t s m m1 m2 r spelled is (mark_text, mark) body typed = (
    k.Word,
    spelled_kind k.Word front s m spelled,
    refl,
    rw (
      spelled_text k.Word front s m spelled,
      not_own front (codes "unit") refl is,
      not_own front (codes "true") refl is,
      not_own front (codes "false") refl is,
      is,
      spelled_text k.Word front s m spelled,
      spelled_next k.Word front s m spelled,
      spelled_sees k.Less mark_text m m1 mark,
    ) (kept_read room front back t m m2 r body typed),
  )

  kept_hash_read : (room : ℕ) (front back : List ℕ) (t : Option Ty) (s m m1 m2 r : Place) → IsSpelled k.Hash front s m → IsMark k.Less m m1 → IsBody aliases room back m m2 → IsTyped aliases room m2 t r
      → FlatRead room s (kept (front ++ back) t) r
  unfolding read.hash_attr
  kept_hash_read room front back t s m m1 m2 r spelled (mark_text, mark) body typed = (
    k.Hash,
    spelled_kind k.Hash front s m spelled,
    refl,
    rw (spelled_text k.Hash front s m spelled, spelled_next k.Hash front s m spelled, spelled_sees k.Less mark_text m m1 mark) (kept_read room front back t m m2 r body typed),
  )

  pointed_read : (room : ℕ) (name : List ℕ) (t : Option Ty) (s m r : Place) → IsSpelled k.Hash name s m → has_point name ≡ true → IsNot k.Less m → IsTyped aliases room m t r → FlatRead room s (kept name t) r
  unfolding read.hash_attr read.pointed
  pointed_read room name t s m r spelled point alone typed =
      let within = spelled_within k.Hash name s m spelled in (
        k.Hash,
        spelled_kind k.Hash name s m spelled,
        refl,
        rw (spelled_text k.Hash name s m spelled, spelled_next k.Hash name s m spelled, unseen k.Less m within alone, point, typed_read room t m r within typed) refl,
      )

  kept_flat : (room : ℕ) (text : List ℕ) (t : Option Ty) (s r : Place) → IsKeptAttr aliases room text t s r → FlatRead room s (kept text t) r
  kept_flat room text t s r (m2, inl (front, back, m, m1, inl (spelled, is), mark, body, same), typed) = subst (λ v. FlatRead room s (kept v t) r) same (kept_word_read room front back t s m m1 m2 r spelled is mark body typed)
  kept_flat room text t s r (m2, inl (front, back, m, m1, inr spelled, mark, body, same), typed) = subst (λ v. FlatRead room s (kept v t) r) same (kept_hash_read room front back t s m m1 m2 r spelled mark body typed)
  kept_flat room text t s r (m, inr (spelled, point, alone), typed) = pointed_read room text t s m r spelled point alone typed

  alias_read : (room : ℕ) (x : Attr) (s r : Place) → IsAttrAlias aliases room s x r → FlatRead room s x r
  unfolding read.hash_attr read.alias_attr
  alias_read room x s r (a, used, plain, alone, means) = (
    k.Hash,
    spelled_kind k.Hash used.name s used.behind used.spelled,
    refl,
    rw (
      spelled_text k.Hash used.name s used.behind used.spelled,
      spelled_next k.Hash used.name s used.behind used.spelled,
      unseen k.Less used.behind (spelled_within k.Hash used.name s used.behind used.spelled) alone,
      plain,
      used.defined,
      means,
      used.fits,
      used.rest,
    ) refl,
  )

  -- ---- types as attributes

  of_ty_by : (room : ℕ) (s r : Place) (t : Ty) (u v w x : Bool) → bytes_eq (spelling s) (codes "unit") ≡ u → bytes_eq (spelling s) (codes "true") ≡ v → bytes_eq (spelling s) (codes "false") ≡ w → is_kept_word (spelling s) ≡ x
      → is_other_word (spelling s) ≡ false → word_type aliases room s ≡ Ok (t, r) → read.word_attr aliases room (spelling s) s ≡ Ok (of_ty t, r)
  unfolding read.word_attr
  of_ty_by room s r t u v w x a b c d other h =
      let none = others (bytes_eq (spelling s) (codes "unit")) (bytes_eq (spelling s) (codes "true")) (bytes_eq (spelling s) (codes "false")) (bytes_eq (spelling s) (codes "loc")) (is_kept_word (spelling s)) other in
      rw (none.0, none.1, none.2, none.3, h) refl
    where
      others : (u v w x y : Bool) → (u || v || w || x || y) ≡ false → (u ≡ false) × (v ≡ false) × (w ≡ false) × (y ≡ false)
      others true v w x y h = absurd (cc)
      others false true w x y h = absurd (cc)
      others false false true x y h = absurd (cc)
      others false false false true y h = absurd (cc)
      others false false false false true h = absurd (cc)
      others false false false false false h = (refl, refl, refl, refl)

  word_ty_read : (room : ℕ) (s r : Place) (t : Ty) → word_type aliases room s ≡ Ok (t, r) → kind s ≡ Some k.Word → FlatRead room s (of_ty t) r
  word_ty_read room s r t h is =
      (k.Word, is, refl, of_ty_by room s r t _ _ _ _ refl refl refl refl (no_other aliases room s r t h) h)

  ty_read_by : (room : ℕ) (s r : Place) (t : Ty) → ReadBy aliases room s t r → FlatRead room s (of_ty t) r
  ty_read_by room s r t (inl (h, is)) = word_ty_read room s r t h is
  ty_read_by room s r t (inr (h, is)) = (k.Bang, is, refl, rw h refl)

  ty_read : (room : ℕ) (s r : Place) (t : Ty) → IsTy aliases room s t r → FlatRead room s (of_ty t) r
  ty_read room s r (int g w) h = ty_read_by room s r (int g w) (plain_read aliases room (int g w) s r h)
  ty_read room s r index h = ty_read_by room s r index (plain_read aliases room index s r h)
  ty_read room s r (word w) h = ty_read_by room s r (word w) (plain_read aliases room (word w) s r h)
  ty_read zero s r (func xs ys) h = ty_read_by zero s r (func xs ys) (plain_read aliases zero (func xs ys) s r h)
  ty_read (suc room) s r (func xs ys) (inl h) = ty_read_by (suc room) s r (func xs ys) (plain_read aliases (suc room) (func xs ys) s r h)
  ty_read (suc room) s r (func xs ys) (inr h) =
      let (text, mark) = h.4 in
      (k.LeftParen, spelled_kind k.LeftParen text s h.0 mark, refl, rw (ty_complete aliases (suc room) (func xs ys) s r (inr h)) refl)

  -- ---- an attribute that is no array and no dictionary

  symbols_flat : (room : ℕ) (names : List (List ℕ)) (s r : Place) → IsWithin s → AreSymbols s names r → FlatRead room s (symbols names) r
  symbols_flat room [] s r within h = absurd h
  symbols_flat room (n ∷ names) s r within (m, (text, spelled, same), more) =
      (k.Symbol, spelled_kind k.Symbol text s m spelled, refl, rw (symbols_read (n ∷ names) s r within (m, (text, spelled, same), more)) refl)

  plain_flat : (room : ℕ) (x : Attr) (s r : Place) → IsWithin s → IsPlainAttr aliases room s x r → FlatRead room s x r
  plain_flat room unit s r within h = unit_read room s r h
  plain_flat room (int_attr n t) s r within (inl (neg, text, h, wide, value)) = number_flat room neg false text t (int_attr n t) s r h (λ at ty_at. int_read at ty_at neg text t n wide value)
  plain_flat room (int_attr n t) s r within (inr (b, spelled, same)) = subst (λ x. FlatRead room s x r) same (truth_read room b s r spelled)
  plain_flat room (num written t) s r within (neg, float, text, h, other, form, same) =
      subst (λ v. FlatRead room s (num v t) r) same (number_flat room neg float text t (num (signed_text neg text) t) s r h (λ at ty_at. num_read at ty_at neg float text t other form))
  plain_flat room (str bytes t) s r within (m, is, typed) = string_read room bytes t s m r is typed
  plain_flat room (symbols names) s r within h = symbols_flat room names s r within h
  plain_flat room (of_ty t) s r within h = ty_read room s r t h
  plain_flat room (array xs) s r within h = absurd h
  plain_flat room (dict es) s r within h = absurd h
  plain_flat room (kept text t) s r within h = kept_flat room text t s r h

  -- ---- each part takes a byte

  typed_takes : (room : ℕ) (t : Option Ty) (s r : Place) → IsTyped aliases room s t r → left r ≤ left s
  typed_takes room None s r (alone, same) = omega (arith, ap left same)
  typed_takes room (Some t) s r (m, (text, mark), is) = omega (arith, spelled_shorter k.Colon text s m (λ e. cc) mark, ty_takes aliases room t m r is)

  digits_take : (float : Bool) (text : List ℕ) (s r : Place) → IsSpelled (if float then k.Float else k.Integer) text s r → left r < left s
  digits_take true text s r h = spelled_shorter k.Float text s r (λ e. cc) h
  digits_take false text s r h = spelled_shorter k.Integer text s r (λ e. cc) h

  number_takes : (room : ℕ) (neg float : Bool) (text : List ℕ) (t : Ty) (s r : Place) → IsNumber aliases room neg float text t s r → left r < left s
  number_takes room neg float text t s r h =
      let digits = digits_take float text h.digits h.behind h.spelled in
      let typed = typed_takes room h.type_is h.behind r h.typed in
      elim h.sign [
        | inl (plain, same) ↦ omega (arith, ap left same, digits, typed)
        | inr (minus, (mark_text, mark)) ↦ omega (arith, spelled_shorter k.Minus mark_text s h.digits (λ e. cc) mark, digits, typed)
      ]

  kept_body_takes : (room : ℕ) (text : List ℕ) (s r : Place) → HasKeptBody aliases room text s r → left r < left s
  kept_body_takes room text s r (front, back, m, m1, inl (spelled, is), mark, body, same) = omega (arith, spelled_shorter k.Word front s m (λ e. cc) spelled, body_shorter aliases room m r back body)
  kept_body_takes room text s r (front, back, m, m1, inr spelled, mark, body, same) = omega (arith, spelled_shorter k.Hash front s m (λ e. cc) spelled, body_shorter aliases room m r back body)

  plain_attr_takes : (room : ℕ) (x : Attr) (s r : Place) → IsPlainAttr aliases room s x r → left r < left s
  plain_attr_takes room unit s r h = spelled_shorter k.Word _ s r (λ e. cc) h
  plain_attr_takes room (int_attr n t) s r (inl (neg, text, h, wide, value)) = number_takes room neg false text t s r h
  plain_attr_takes room (int_attr n t) s r (inr (b, spelled, same)) = spelled_shorter k.Word _ s r (λ e. cc) spelled
  plain_attr_takes room (num written t) s r (neg, float, text, h, other, form, same) = number_takes room neg float text t s r h
  plain_attr_takes room (str bytes t) s r (m, (text, spelled, same), typed) = omega (arith, spelled_shorter k.String text s m (λ e. cc) spelled, typed_takes room t m r typed)
  plain_attr_takes room (symbols names) s r h = symbols_take names s r h
  plain_attr_takes room (of_ty t) s r h = ty_takes aliases room t s r h
  plain_attr_takes room (array xs) s r h = absurd h
  plain_attr_takes room (dict es) s r h = absurd h
  plain_attr_takes room (kept text t) s r (m, inl h, typed) = omega (arith, kept_body_takes room text s m h, typed_takes room t m r typed)
  plain_attr_takes room (kept text t) s r (m, inr (spelled, point, alone), typed) = omega (arith, spelled_shorter k.Hash text s m (λ e. cc) spelled, typed_takes room t m r typed)

  alias_takes : (room : ℕ) (x : Attr) (s r : Place) → IsAttrAlias aliases room s x r → left r < left s
  alias_takes room x s r (a, used, plain, alone, means) =
      subst (λ p. left p < left s) used.rest (spelled_shorter k.Hash used.name s used.behind (λ e. cc) used.spelled)

-- ---- within brackets

module _ (Inner : Place → Attr → Place → Type 0) (takes : (s r : Place) (x : Attr) → Inner s x r → left r < left s) where
  attrs_take : (xs : List Attr) (s r : Place) → AreAttrs Inner s xs r → left r ≤ left s
  attrs_take [] s r h = omega (arith, ap left h)
  attrs_take (x ∷ xs) s r (m, one, more) = omega (arith, takes s m x one, more_take k.Comma Inner (λ e. cc) takes xs m r more)

  name_takes : (name : List ℕ) (s r : Place) → IsEntryName s name r → left r < left s
  name_takes name s r (inl spelled) = spelled_shorter k.Word name s r (λ e. cc) spelled
  name_takes name s r (inr (text, spelled, same)) = spelled_shorter k.String text s r (λ e. cc) spelled

  value_takes : (x : Attr) (m r : Place) → IsBehindName Inner m x r → left r ≤ left m
  value_takes x m r (inl (m1, (text, mark), is)) = omega (arith, spelled_shorter k.Equal text m m1 (λ e. cc) mark, takes m1 r x is)
  value_takes x m r (inr (alone, same, is)) = omega (arith, ap left same)

  entry_takes : (s r : Place) (e : List ℕ × Attr) → IsEntry Inner s e r → left r < left s
  entry_takes s r e (m, named, value) = omega (arith, name_takes e.0 s m named, value_takes e.1 m r value)

  entries_take : (es : List (List ℕ × Attr)) (s r : Place) → AreEntries Inner s es r → left r ≤ left s
  entries_take [] s r h = omega (arith, ap left h)
  entries_take (e ∷ es) s r (m, one, more) = omega (arith, entry_takes s m e one, more_take k.Comma (IsEntry Inner) (λ e. cc) entry_takes es m r more)

  array_takes : (x : Attr) (s r : Place) → IsArray Inner s x r → left r < left s
  array_takes x s r (s1, s2, xs, (open_text, opens), all, (close_text, closes), same) =
      omega (arith, spelled_shorter k.LeftBracket open_text s s1 (λ e. cc) opens, attrs_take xs s1 s2 all, spelled_shorter k.RightBracket close_text s2 r (λ e. cc) closes)

  dict_takes : (x : Attr) (s r : Place) → IsDict Inner s x r → left r < left s
  dict_takes x s r (s1, s2, written, es, (open_text, opens), all, (close_text, closes), fills, same) =
      omega (arith, spelled_shorter k.LeftBrace open_text s s1 (λ e. cc) opens, entries_take written s1 s2 all, spelled_shorter k.RightBrace close_text s2 r (λ e. cc) closes)

  module _ (inner : Parser Attr) (reads : (s r : Place) (x : Attr) → IsWithin s → Inner s x r → (inner s ≡ Ok (x, r)) × IsWithin r)
      (goes : (s r : Place) (x : Attr) → inner s ≡ Ok (x, r) → sees k.RightBracket s ≡ false) where
    list_read : (xs : List Attr) (s m r : Place) → IsWithin s → AreAttrs Inner s xs m → IsMark k.RightBracket m r → list k.RightBracket inner s ≡ Ok (xs, r)
    unfolding list
    list_read [] s m r within h (text, shut) = rw (h, spelled_sees k.RightBracket text m r shut, eaten_is k.RightBracket text m r shut) refl
    list_read (x ∷ xs) s m r within (s1, one, more) (text, shut) =
        let first = reads s s1 x within one in
        let other = goes s s1 x first.0 in
        rw (other, after_at k.RightBracket s false other, more_complete k.Comma Inner inner (λ e. cc) takes reads xs (left s) [] x s s1 m first.0 first.1 more (takes s s1 x one) (omega arith), expects k.RightBracket text m r shut) refl

    array_read : (x : Attr) (s r : Place) → IsArray Inner s x r → (text : List ℕ) × (s1 : Place) × IsSpelled k.LeftBracket text s s1 × (read.array_attr inner s1 ≡ Ok (x, r))
    unfolding read.array_attr
    array_read x s r (s1, s2, xs, (text, opens), all, shut, same) =
        (text, s1, opens, rw (list_read xs s1 s2 r (spelled_within k.LeftBracket text s s1 opens) all shut, same) refl)

    -- ---- dictionaries

    name_read : (name : List ℕ) (s m : Place) → IsEntryName s name m → (read.entry_name s ≡ Ok (name, m)) × IsWithin m × (sees k.RightBrace s ≡ false)
    name_read name s m (inl spelled) =
        let is = spelled_kind k.Word name s m spelled in
        (rw (is, spelled_text k.Word name s m spelled, spelled_next k.Word name s m spelled) refl, spelled_within k.Word name s m spelled, kind_other k.Word k.RightBrace s is (λ e. cc))
    name_read name s m (inr (text, spelled, same)) =
        let is = spelled_kind k.String text s m spelled in
        (rw (is, spelled_text k.String text s m spelled, spelled_next k.String text s m spelled, same) refl, spelled_within k.String text s m spelled, kind_other k.String k.RightBrace s is (λ e. cc))

    value_read : (x : Attr) (m r : Place) → IsWithin m → IsBehindName Inner m x r → (read.entry_value inner m ≡ Ok (x, r)) × IsWithin r
    unfolding read.entry_value
    value_read x m r within (inl (m1, (text, mark), is)) =
        let found = reads m1 r x (spelled_within k.Equal text m m1 mark) is in
        (rw (spelled_sees k.Equal text m m1 mark, eaten_is k.Equal text m m1 mark) found.0, found.1)
    value_read x m r within (inr (alone, same, is)) =
        let other = unseen k.Equal m within alone in
        (rw (other, after_at k.Equal m false other, same, is) refl, subst IsWithin same within)

    entries_more : (n : ℕ) (found : List (List ℕ × Attr)) (name : List ℕ) (x : Attr) (s m s1 s2 : Place) → read.entry_name s ≡ Ok (name, m) → has_name name found ≡ false → read.entry_value inner m ≡ Ok (x, s1) → IsMark k.Comma s1 s2
        → read.entries inner (suc n) found s ≡ read.entries inner n (put_entry name x found) s2
    unfolding read.entries
    entries_more n found name x s m s1 s2 named new value (text, comma) = rw (named, new, value, spelled_sees k.Comma text s1 s2 comma, eaten_is k.Comma text s1 s2 comma) refl

    entries_last : (n : ℕ) (found : List (List ℕ × Attr)) (name : List ℕ) (x : Attr) (s m s1 : Place) → read.entry_name s ≡ Ok (name, m) → has_name name found ≡ false → read.entry_value inner m ≡ Ok (x, s1) → sees k.Comma s1 ≡ false
        → read.entries inner (suc n) found s ≡ Ok (put_entry name x found, s1)
    unfolding read.entries
    entries_last n found name x s m s1 named new value other = rw (named, new, value, other, after_at k.Comma s1 false other) refl

    entries_complete : (es : List (List ℕ × Attr)) (n : ℕ) (found all : List (List ℕ × Attr)) (e : List ℕ × Attr) (s s1 r : Place) → IsEntry Inner s e s1 → AreMore k.Comma (IsEntry Inner) s1 es r → Fills found (e ∷ es) all → left s ≤ n
        → read.entries inner n found s ≡ Ok (all, r)
    entries_complete [] zero found all e s s1 r one more fills fits = absurd (omega (arith, entry_takes s s1 e one))
    entries_complete [] (suc n) found all e s s1 r (m, named, value) (alone, same) (new, is) fits =
        let name = name_read e.0 s m named in
        let what = value_read e.1 m s1 name.1 value in
        entries_last n found e.0 e.1 s m s1 name.0 new what.0 (unseen k.Comma s1 what.1 alone) ∙ (λ i. Ok (is i, same i))
    entries_complete (f ∷ fs) zero found all e s s1 r one more fills fits = absurd (omega (arith, entry_takes s s1 e one))
    entries_complete (f ∷ fs) (suc n) found all e s s1 r (m, named, value) (s2, s3, (text, comma), next_entry, more) (new, fills) fits =
        let name = name_read e.0 s m named in
        let what = value_read e.1 m s1 name.1 value in
        entries_more n found e.0 e.1 s m s1 s2 name.0 new what.0 (text, comma)
        ∙ entries_complete fs n (put_entry e.0 e.1 found) all f s2 s3 r next_entry more fills (omega (arith, entry_takes s s1 e (m, named, value), spelled_shorter k.Comma text s1 s2 (λ e. cc) comma))

    dictionary_read : (written es : List (List ℕ × Attr)) (s m r : Place) → AreEntries Inner s written m → IsMark k.RightBrace m r → Fills [] written es → read.dictionary inner s ≡ Ok (es, r)
    unfolding read.dictionary
    dictionary_read [] es s m r h (text, shut) fills = rw (h, spelled_sees k.RightBrace text m r shut, eaten_is k.RightBrace text m r shut, fills) refl
    dictionary_read (e ∷ more_written) es s m r (s1, (m1, named, value), more) (text, shut) fills =
        let other = (name_read e.0 s m1 named).2 in
        rw (other, after_at k.RightBrace s false other, entries_complete more_written (left s) [] es e s s1 m (m1, named, value) more fills (omega arith), expects k.RightBrace text m r shut) refl

    dict_read : (x : Attr) (s r : Place) → IsDict Inner s x r → (text : List ℕ) × (s1 : Place) × IsSpelled k.LeftBrace text s s1 × (read.dict_attr inner s1 ≡ Ok (x, r))
    unfolding read.dict_attr
    dict_read x s r (s1, s2, written, es, (text, opens), all, shut, fills, same) =
        (text, s1, opens, rw (dictionary_read written es s1 s2 r all shut fills, same) refl)

-- ---- attributes

module _ (aliases : List Alias) where
  pub attr_takes : (room : ℕ) (s r : Place) (x : Attr) → IsAttr aliases room s x r → left r < left s
  attr_takes zero s r x (inl h) = plain_attr_takes aliases zero x s r h
  attr_takes zero s r x (inr h) = alias_takes aliases zero x s r h
  attr_takes (suc room) s r x (inl (inl h)) = plain_attr_takes aliases (suc room) x s r h
  attr_takes (suc room) s r x (inl (inr h)) = alias_takes aliases (suc room) x s r h
  attr_takes (suc room) s r x (inr (inl h)) = array_takes (IsAttr aliases room) (attr_takes room) x s r h
  attr_takes (suc room) s r x (inr (inr h)) = dict_takes (IsAttr aliases room) (attr_takes room) x s r h

  attr_flat : (room : ℕ) (a d : Parser Attr) (s : Place) (j : TokenKind) → is_open j ≡ false → read.attr_by aliases room a d (Some j) s ≡ read.flat_by aliases room (Some j) s
  attr_flat room a d s k.LeftBracket h = absurd (cc)
  attr_flat room a d s k.LeftBrace h = absurd (cc)
  attr_flat room a d s _ h = refl

  flat_by : (room : ℕ) (a d : Parser Attr) (s r : Place) (x : Attr) → FlatRead aliases room s x r → read.attr_by aliases room a d (kind s) s ≡ Ok (x, r)
  flat_by room a d s r x (j, is, flat, h) = rw is (attr_flat room a d s j flat ∙ h)

  flat_complete : (room : ℕ) (s r : Place) (x : Attr) → FlatRead aliases room s x r → read.attr aliases room s ≡ Ok (x, r)
  unfolding read.attr
  flat_complete zero s r x h = flat_by zero _ _ s r x h
  flat_complete (suc room) s r x h = flat_by (suc room) _ _ s r x h

  none_by : (room : ℕ) (a d : Parser Attr) (s r : Place) (x : Attr) → read.attr_by aliases room a d (Some k.RightBracket) s ≡ Ok (x, r) → ⊥
  none_by room a d s r x h = absurd (cc)

  closed_of : (room : ℕ) (a d : Parser Attr) (s r : Place) (x : Attr) → sees k.RightBracket s ≡ true → read.attr_by aliases room a d (kind s) s ≡ Ok (x, r) → ⊥
  closed_of room a d s r x is h = none_by room a d s r x (subst (λ j. read.attr_by aliases room a d j s ≡ Ok (x, r)) (sees_kind k.RightBracket s is) h)

  closed_by : (room : ℕ) (s r : Place) (x : Attr) (b : Bool) → sees k.RightBracket s ≡ b → read.attr aliases room s ≡ Ok (x, r) → sees k.RightBracket s ≡ false
  unfolding read.attr
  closed_by zero s r x true is h = absurd (closed_of zero _ _ s r x is h)
  closed_by (suc room) s r x true is h = absurd (closed_of (suc room) _ _ s r x is h)
  closed_by room s r x false is h = is

  array_open : (room : ℕ) (s s1 r : Place) (x : Attr) (text : List ℕ) → IsSpelled k.LeftBracket text s s1 → read.array_attr (read.attr aliases room) s1 ≡ Ok (x, r) → read.attr aliases (suc room) s ≡ Ok (x, r)
  unfolding read.attr
  array_open room s s1 r x text mark h = rw (spelled_kind k.LeftBracket text s s1 mark, spelled_next k.LeftBracket text s s1 mark) h

  dict_open : (room : ℕ) (s s1 r : Place) (x : Attr) (text : List ℕ) → IsSpelled k.LeftBrace text s s1 → read.dict_attr (read.attr aliases room) s1 ≡ Ok (x, r) → read.attr aliases (suc room) s ≡ Ok (x, r)
  unfolding read.attr
  dict_open room s s1 r x text mark h = rw (spelled_kind k.LeftBrace text s s1 mark, spelled_next k.LeftBrace text s s1 mark) h

  and_within : (room : ℕ) → ((s r : Place) (x : Attr) → IsWithin s → IsAttr aliases room s x r → read.attr aliases room s ≡ Ok (x, r)) → (s r : Place) (x : Attr) → IsWithin s → IsAttr aliases room s x r → (read.attr aliases room s ≡ Ok (x, r)) × IsWithin r
  and_within room go s r x within h = let e = go s r x within h in (e, (attr_sound aliases room s r x within e).1)

  -- An attribute that is spelled is read.
  pub attr_complete : (room : ℕ) (s r : Place) (x : Attr) → IsWithin s → IsAttr aliases room s x r → read.attr aliases room s ≡ Ok (x, r)
  attr_complete zero s r x within (inl h) = flat_complete zero s r x (plain_flat aliases zero x s r within h)
  attr_complete zero s r x within (inr h) = flat_complete zero s r x (alias_read aliases zero x s r h)
  attr_complete (suc room) s r x within (inl (inl h)) = flat_complete (suc room) s r x (plain_flat aliases (suc room) x s r within h)
  attr_complete (suc room) s r x within (inl (inr h)) = flat_complete (suc room) s r x (alias_read aliases (suc room) x s r h)
  attr_complete (suc room) s r x within (inr (inl h)) =
      let (text, s1, opens, e) = array_read (IsAttr aliases room) (attr_takes room) (read.attr aliases room) (and_within room (attr_complete room)) (λ s r x e. closed_by room s r x (sees k.RightBracket s) refl e) x s r h in
      array_open room s s1 r x text opens e
  attr_complete (suc room) s r x within (inr (inr h)) =
      let (text, s1, opens, e) = dict_read (IsAttr aliases room) (attr_takes room) (read.attr aliases room) (and_within room (attr_complete room)) (λ s r x e. closed_by room s r x (sees k.RightBracket s) refl e) x s r h in
      dict_open room s s1 r x text opens e

-- An attribute that a whole text spells is read.
pub attr_text_complete : (bytes : List ℕ) (x : Attr) → IsAttrText bytes x → read.attr_of bytes ≡ Ok x
unfolding read.attr_of
attr_text_complete bytes x h =
    let (text, ends) = h.ends in
    rw (attr_complete [] max_open (start_of bytes) h.end x (omega arith) h.attr, spelled_sees k.End text h.end h.behind ends) refl
