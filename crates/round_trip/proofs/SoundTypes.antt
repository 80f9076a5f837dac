-- A type that a text spells is sound, whatever aliases stand in it.
use Rattle.std.proofs.Common.{◌≡◌, ℕ, zero, suc, List, ap, sym, subst, ◌∙◌, inl, inr, Some}
use Rattle.std.specs.Prelude.{IsUtf8}
use Rattle.mlir_lexer.specs.declared.token.TokenKind.{TokenKind}
use Rattle.mlir_lexer.specs.declared.token.TokenKind.TheVariants as k
use Rattle.mlir_tree.specs.Tree.{Ty, int, index, func, word, Tys, no_tys, ty_then}
use Rattle.mlir_attributes.specs.declared.aliases.Alias.{Alias}
use Rattle.mlir_attributes.specs.declared.aliases.Meaning.{Meaning}
use Rattle.mlir_attributes.specs.declared.aliases.Meaning.TheVariants as meanings
use Rattle.mlir_attributes.specs.Place.{Place}
use Rattle.mlir_attributes.specs.Aliases.{find}
use Rattle.mlir_parse.specs.ModuleFile.{meaning_text}
use Rattle.mlir_attributes.specs.Grammar.{IsBody, IsUse}
use Rattle.mlir_attributes.specs.TypeGrammar.{IsKept, IsPlain, IsOne, IsTy, IsTys, IsMoreTys}
use Rattle.round_trip.proofs.Sound.{IsSoundBody, IsSoundTy, AreSoundTys, IsSoundAttr}
use Rattle.round_trip.proofs.SpelledTypes.{form_of, same_text, mark_text, word_utf8, bang_utf8}
use Rattle.round_trip.proofs.Utf8.{both}

-- ---- aliases

abbrev pub IsSoundMeaning : Meaning → Type 0
IsSoundMeaning (meanings.Ty t) = IsSoundTy t
IsSoundMeaning (meanings.Attr x) = IsSoundAttr x
IsSoundMeaning meanings.Location = Unit {0}

-- What an alias stands for is sound, and is put in as it is printed.
abbrev pub IsSoundAlias : Alias → Type 0
IsSoundAlias a = IsSoundMeaning a.meaning × (a.text ≡ meaning_text a.meaning)

abbrev pub AreSoundAliases : List Alias → Type 0
AreSoundAliases aliases = (name : List ℕ) (a : Alias) → find name aliases ≡ Some a → IsSoundAlias a

-- Bodies where these aliases are defined are sound when they are put in.
abbrev pub AreSoundBodies : List Alias → Type 0
AreSoundBodies aliases = (room : ℕ) (text : List ℕ) (s r : Place) → IsUtf8 s.bytes → IsBody aliases room text s r → IsSoundBody text × IsUtf8 text

pub record AreReady (aliases : List Alias) : Type 0 where
  pub known : AreSoundAliases aliases
  pub bodies : AreSoundBodies aliases

pub use_text : (aliases : List Alias) (j : TokenKind) (room : ℕ) (a : Alias) (s r : Place) → IsUse aliases j room a s r → r.bytes ≡ s.bytes
use_text aliases j room a s r h = ap (λ (p : Place). p.bytes) (sym h.rest) ∙ same_text j h.name s h.behind h.spelled

pub body_same : (aliases : List Alias) (room : ℕ) (text : List ℕ) (s r : Place) → IsBody aliases room text s r → r.bytes ≡ s.bytes
body_same aliases room text s r h = ap (λ (p : Place). p.bytes) (sym h.rest)

-- ---- types

abbrev pub IsFine : Ty → Place → Place → Type 0
IsFine t s r = IsSoundTy t × (r.bytes ≡ s.bytes)

module _ (aliases : List Alias) (ready : AreReady aliases) where
  kept_sound : (room : ℕ) (text : List ℕ) (s r : Place) → IsUtf8 s.bytes → IsKept aliases room text s r → IsFine (word text) s r
  kept_sound room text s r utf8 (inl (there, plain, alone)) =
      let form = form_of k.Word text s r (λ e. cc) there in ((inl (form, plain), word_utf8 text form), same_text k.Word text s r there)
  kept_sound room text s r utf8 (inr (inl (there, point, alone))) =
      let form = form_of k.Bang text s r (λ e. cc) there in ((inr (inl (form, point)), bang_utf8 text form), same_text k.Bang text s r there)
  kept_sound room text s r utf8 (inr (inr h)) = elim h.begins [
    | inl (there, other) ↦
        let form = form_of k.Word h.front s h.between (λ e. cc) there in
        let same = same_text k.Word h.front s h.between there in
        let w = ready.bodies room h.body h.between r (subst IsUtf8 (sym same) utf8) h.goes_on in
        ((inr (inr (h.front, h.body, inl (form, other), w.0, h.text_is)), subst IsUtf8 h.text_is (both (word_utf8 h.front form) w.1)), body_same aliases room h.body h.between r h.goes_on ∙ same)
    | inr there ↦
        let form = form_of k.Bang h.front s h.between (λ e. cc) there in
        let same = same_text k.Bang h.front s h.between there in
        let w = ready.bodies room h.body h.between r (subst IsUtf8 (sym same) utf8) h.goes_on in
        ((inr (inr (h.front, h.body, inr form, w.0, h.text_is)), subst IsUtf8 h.text_is (both (bang_utf8 h.front form) w.1)), body_same aliases room h.body h.between r h.goes_on ∙ same)
  ]

  pub plain_sound : (room : ℕ) (t : Ty) (s r : Place) → IsUtf8 s.bytes → IsPlain aliases room s t r → IsFine t s r
  plain_sound room t s r utf8 (inr (a, used, plain, alone, means)) = (subst IsSoundMeaning means (ready.known used.name a used.defined).0, use_text aliases k.Bang room a s r used)
  plain_sound room (int g w) s r utf8 (inl (text, there, is, small, alone)) = (small, same_text k.Word text s r there)
  plain_sound room index s r utf8 (inl (there, alone)) = (tt, same_text k.Word _ s r there)
  plain_sound room (func xs ys) s r utf8 (inl h) = absurd h
  plain_sound room (word text) s r utf8 (inl h) = kept_sound room text s r utf8 h

  one_sound : (room : ℕ) (ys : Tys) (s r : Place) → IsUtf8 s.bytes → IsOne aliases room s ys r → AreSoundTys ys × (r.bytes ≡ s.bytes)
  one_sound room no_tys s r utf8 h = absurd h
  one_sound room (ty_then t no_tys) s r utf8 h = let fine = plain_sound room t s r utf8 h in ((fine.0, tt), fine.1)
  one_sound room (ty_then t (ty_then u us)) s r utf8 h = absurd h

  mutual
    pub ty_sound : (room : ℕ) (t : Ty) (s r : Place) → IsUtf8 s.bytes → IsTy aliases room s t r → IsFine t s r
    ty_sound room (int g w) s r utf8 h = plain_sound room (int g w) s r utf8 h
    ty_sound room index s r utf8 h = plain_sound room index s r utf8 h
    ty_sound room (word text) s r utf8 h = plain_sound room (word text) s r utf8 h
    ty_sound zero (func xs ys) s r utf8 h = plain_sound zero (func xs ys) s r utf8 h
    ty_sound (suc room) (func xs ys) s r utf8 (inl h) = plain_sound (suc room) (func xs ys) s r utf8 h
    ty_sound (suc room) (func xs ys) s r utf8 (inr (s1, s2, s3, s4, left, from, right, arrow, inl one)) =
        let e1 = mark_text k.LeftParen s s1 left in
        let (xs_fine, e2) = tys_sound room xs s1 s2 (subst IsUtf8 (sym e1) utf8) from in
        let e3 = mark_text k.RightParen s2 s3 right in
        let e4 = mark_text k.Arrow s3 s4 arrow in
        let (ys_fine, e5) = one_sound (suc room) ys s4 r (subst IsUtf8 (sym (e4 ∙ e3 ∙ e2 ∙ e1)) utf8) one in
        ((xs_fine, ys_fine), e5 ∙ e4 ∙ e3 ∙ e2 ∙ e1)
    ty_sound (suc room) (func xs ys) s r utf8 (inr (s1, s2, s3, s4, left, from, right, arrow, inr (s5, s6, open_mark, to, close_mark))) =
        let e1 = mark_text k.LeftParen s s1 left in
        let (xs_fine, e2) = tys_sound room xs s1 s2 (subst IsUtf8 (sym e1) utf8) from in
        let e3 = mark_text k.RightParen s2 s3 right in
        let e4 = mark_text k.Arrow s3 s4 arrow in
        let e5 = mark_text k.LeftParen s4 s5 open_mark in
        let (ys_fine, e6) = tys_sound room ys s5 s6 (subst IsUtf8 (sym (e5 ∙ e4 ∙ e3 ∙ e2 ∙ e1)) utf8) to in
        ((xs_fine, ys_fine), mark_text k.RightParen s6 r close_mark ∙ e6 ∙ e5 ∙ e4 ∙ e3 ∙ e2 ∙ e1)

    tys_sound : (room : ℕ) (ts : Tys) (s r : Place) → IsUtf8 s.bytes → IsTys aliases room s ts r → AreSoundTys ts × (r.bytes ≡ s.bytes)
    tys_sound room no_tys s r utf8 h = (tt, ap (λ (p : Place). p.bytes) (sym h))
    tys_sound room (ty_then t ts) s r utf8 (s1, one, more) =
        let (fine, e1) = ty_sound room t s s1 utf8 one in
        let (rest, e2) = more_sound room ts s1 r (subst IsUtf8 (sym e1) utf8) more in
        ((fine, rest), e2 ∙ e1)

    more_sound : (room : ℕ) (ts : Tys) (s r : Place) → IsUtf8 s.bytes → IsMoreTys aliases room s ts r → AreSoundTys ts × (r.bytes ≡ s.bytes)
    more_sound room no_tys s r utf8 h = (tt, ap (λ (p : Place). p.bytes) (sym h))
    more_sound room (ty_then t ts) s r utf8 (s1, s2, comma, one, more) =
        let e0 = mark_text k.Comma s s1 comma in
        let (fine, e1) = ty_sound room t s1 s2 (subst IsUtf8 (sym e0) utf8) one in
        let (rest, e2) = more_sound room ts s2 r (subst IsUtf8 (sym (e1 ∙ e0)) utf8) more in
        ((fine, rest), e2 ∙ e1 ∙ e0)
