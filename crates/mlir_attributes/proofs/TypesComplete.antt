-- What is spelled as a type is read so.
use Rattle.std.proofs.Common.{◌≡◌, ◌≢◌, ℕ, zero, suc, ◌<◌, ◌≤◌, true, false, List, [], ◌∷◌, ◌++◌, refl, ap, sym, subst, ◌∙◌, arith, inl, inr, Ok, append_assoc}
use Rattle.std.specs.Prelude.{◌⊎◌, Some}
use Rattle.mlir_lexer.specs.declared.token.TokenKind.{TokenKind}
use Rattle.mlir_lexer.specs.declared.token.TokenKind.TheVariants as k
use Rattle.mlir_tree.specs.Tree.{Ty, int, index, func, word, Tys, no_tys, ty_then, tys}
use Rattle.mlir_attributes.specs.declared.aliases.Alias.{Alias}
use Rattle.mlir_attributes.specs.Place.{Place, left, kind, sees, start, start_of}
use Rattle.mlir_attributes.specs.Input.{Parser, separated, list}
use Rattle.mlir_attributes.specs.Aliases.{has_point}
use Rattle.mlir_attributes.specs.Types.{is_other_word, leaf, alias_ty, word_type, bang_type, results_by, function, ty_by, ty, max_open, type_of}
use Rattle.mlir_attributes.specs.Grammar.{IsSpelled, IsMark, IsNot}
use Rattle.mlir_attributes.specs.TypeGrammar.{HasBody, IsKept, IsLeaf, IsTyAlias, IsPlain, IsOne, IsTy, IsTys, IsMoreTys, IsTypeText}
use Rattle.mlir_attributes.proofs.Tokens.{spelled_within, spelled_sees, spelled_kind, spelled_text, spelled_next, spelled_shorter, unseen, expects, after_at, eaten_is, kind_other}
use Rattle.mlir_attributes.proofs.Words.{int_leaf, index_leaf, word_leaf, int_no_other, index_no_other}
use Rattle.mlir_attributes.proofs.Bodies.{kept_complete, body_shorter}

abbrev pub untys : Tys → List Ty
untys no_tys = []
untys (ty_then t ts) = t ∷ untys ts

pub tys_untys : (xs : Tys) → tys (untys xs) ≡ xs
tys_untys no_tys = refl
tys_untys (ty_then t ts) = ap (ty_then t) (tys_untys ts)

-- ---- each part takes a byte

body_takes : (aliases : List Alias) (room : ℕ) (text : List ℕ) (s r : Place) → HasBody aliases room text s r → left r < left s
body_takes aliases room text s r h = elim h.begins [
  | inl (spelled, other) ↦ omega (arith, spelled_shorter k.Word h.front s h.between (λ e. cc) spelled, body_shorter aliases room h.between r h.body h.goes_on)
  | inr spelled ↦ omega (arith, spelled_shorter k.Bang h.front s h.between (λ e. cc) spelled, body_shorter aliases room h.between r h.body h.goes_on)
]

kept_takes : (aliases : List Alias) (room : ℕ) (text : List ℕ) (s r : Place) → IsKept aliases room text s r → left r < left s
kept_takes aliases room text s r (inl (spelled, plain, alone)) = spelled_shorter k.Word text s r (λ e. cc) spelled
kept_takes aliases room text s r (inr (inl (spelled, point, alone))) = spelled_shorter k.Bang text s r (λ e. cc) spelled
kept_takes aliases room text s r (inr (inr h)) = body_takes aliases room text s r h

leaf_takes : (aliases : List Alias) (room : ℕ) (t : Ty) (s r : Place) → IsLeaf aliases room s t r → left r < left s
leaf_takes aliases room (int g w) s r (text, spelled, is, small, alone) = spelled_shorter k.Word text s r (λ e. cc) spelled
leaf_takes aliases room index s r (spelled, alone) = spelled_shorter k.Word _ s r (λ e. cc) spelled
leaf_takes aliases room (func xs ys) s r h = absurd h
leaf_takes aliases room (word text) s r h = kept_takes aliases room text s r h

-- ---- words

body_kind : (aliases : List Alias) (room : ℕ) (text : List ℕ) (s r : Place) → HasBody aliases room text s r → (word_type aliases room s ≡ Ok (word text, r)) × (kind s ≡ Some k.Word) ⊎ (bang_type aliases room s ≡ Ok (word text, r)) × (kind s ≡ Some k.Bang)
unfolding word_type bang_type
body_kind aliases room text s r h =
    let read = kept_complete aliases h.front h.body room h.between r h.goes_on in
    let (mark, opens) = h.opens in
    elim h.begins [
      | inl (spelled, other) ↦ inl (rw (spelled_text k.Word h.front s h.between spelled, spelled_next k.Word h.front s h.between spelled, other, spelled_sees k.Less mark h.between h.behind opens, read, h.text_is) refl, spelled_kind k.Word h.front s h.between spelled)
      | inr spelled ↦ inr (rw (spelled_text k.Bang h.front s h.between spelled, spelled_next k.Bang h.front s h.between spelled, spelled_sees k.Less mark h.between h.behind opens, read, h.text_is) refl, spelled_kind k.Bang h.front s h.between spelled)
    ]

plain_word : (aliases : List Alias) (room : ℕ) (w : List ℕ) (s r : Place) (t : Ty) → IsSpelled k.Word w s r → IsNot k.Less r → is_other_word w ≡ false → leaf (start s) w ≡ Ok t → word_type aliases room s ≡ Ok (t, r)
unfolding word_type
plain_word aliases room w s r t spelled alone other read =
    rw (spelled_text k.Word w s r spelled, spelled_next k.Word w s r spelled, other, unseen k.Less r (spelled_within k.Word w s r spelled) alone, read) refl

plain_bang : (aliases : List Alias) (room : ℕ) (w : List ℕ) (s r : Place) → IsSpelled k.Bang w s r → IsNot k.Less r → has_point w ≡ true → bang_type aliases room s ≡ Ok (word w, r)
unfolding bang_type
plain_bang aliases room w s r spelled alone point =
    rw (spelled_text k.Bang w s r spelled, spelled_next k.Bang w s r spelled, unseen k.Less r (spelled_within k.Bang w s r spelled) alone, point) refl

-- by which rule it is read
abbrev pub ReadBy : List Alias → ℕ → Place → Ty → Place → Type 0
ReadBy aliases room s t r = ((word_type aliases room s ≡ Ok (t, r)) × (kind s ≡ Some k.Word)) ⊎ ((bang_type aliases room s ≡ Ok (t, r)) × (kind s ≡ Some k.Bang))

leaf_read : (aliases : List Alias) (room : ℕ) (t : Ty) (s r : Place) → IsLeaf aliases room s t r → ReadBy aliases room s t r
leaf_read aliases room (int g w) s r (text, spelled, is, small, alone) = inl (plain_word aliases room text s r (int g w) spelled alone (int_no_other g w text is) (int_leaf (start s) g w text is small), spelled_kind k.Word text s r spelled)
leaf_read aliases room index s r (spelled, alone) = inl (plain_word aliases room _ s r index spelled alone index_no_other (index_leaf (start s)), spelled_kind k.Word _ s r spelled)
leaf_read aliases room (func xs ys) s r h = absurd h
leaf_read aliases room (word text) s r (inl (spelled, plain, alone)) = inl (plain_word aliases room text s r (word text) spelled alone plain.no_other (word_leaf (start s) text plain), spelled_kind k.Word text s r spelled)
leaf_read aliases room (word text) s r (inr (inl (spelled, point, alone))) = inr (plain_bang aliases room text s r spelled alone point, spelled_kind k.Bang text s r spelled)
leaf_read aliases room (word text) s r (inr (inr h)) = elim (body_kind aliases room text s r h) [
  | inl (read, is) ↦ inl (read, is)
  | inr (read, is) ↦ inr (read, is)
]

module _ (aliases : List Alias) where
  alias_read : (room : ℕ) (t : Ty) (s r : Place) → IsTyAlias aliases room s t r → bang_type aliases room s ≡ Ok (t, r)
  unfolding bang_type alias_ty
  alias_read room t s r (a, used, plain, alone, means) =
      rw (
        spelled_text k.Bang used.name s used.behind used.spelled,
        spelled_next k.Bang used.name s used.behind used.spelled,
        unseen k.Less used.behind (spelled_within k.Bang used.name s used.behind used.spelled) alone,
        plain,
        used.defined,
        means,
        used.fits,
        used.rest,
      ) refl

  pub plain_read : (room : ℕ) (t : Ty) (s r : Place) → IsPlain aliases room s t r → ReadBy aliases room s t r
  plain_read room t s r (inl h) = leaf_read aliases room t s r h
  plain_read room t s r (inr h) = inr (alias_read room t s r h, spelled_kind k.Bang h.1.name s h.1.behind h.1.spelled)

  pub plain_takes : (room : ℕ) (t : Ty) (s r : Place) → IsPlain aliases room s t r → left r < left s
  plain_takes room t s r (inl h) = leaf_takes aliases room t s r h
  plain_takes room t s r (inr (a, used, plain, alone, means)) =
      subst (λ p. left p < left s) used.rest (spelled_shorter k.Bang used.name s used.behind (λ e. cc) used.spelled)

  -- ---- what a type begins with

  begins_by : (room : ℕ) (t : Ty) (s r : Place) → ReadBy aliases room s t r → (kind s ≡ Some k.Word) ⊎ ((kind s ≡ Some k.Bang) ⊎ (kind s ≡ Some k.LeftParen))
  begins_by room t s r (inl h) = inl h.1
  begins_by room t s r (inr h) = inr (inl h.1)

  pub begins : (room : ℕ) (t : Ty) (s r : Place) → IsTy aliases room s t r → (kind s ≡ Some k.Word) ⊎ ((kind s ≡ Some k.Bang) ⊎ (kind s ≡ Some k.LeftParen))
  begins room (int g w) s r h = begins_by room (int g w) s r (plain_read room (int g w) s r h)
  begins room index s r h = begins_by room index s r (plain_read room index s r h)
  begins room (word w) s r h = begins_by room (word w) s r (plain_read room (word w) s r h)
  begins zero (func xs ys) s r h = begins_by zero (func xs ys) s r (plain_read zero (func xs ys) s r h)
  begins (suc room) (func xs ys) s r (inl h) = begins_by (suc room) (func xs ys) s r (plain_read (suc room) (func xs ys) s r h)
  begins (suc room) (func xs ys) s r (inr h) = let (text, spelled) = h.4 in inr (inr (spelled_kind k.LeftParen text s h.0 spelled))

  pub not_closed : (s : Place) → (kind s ≡ Some k.Word) ⊎ ((kind s ≡ Some k.Bang) ⊎ (kind s ≡ Some k.LeftParen)) → sees k.RightParen s ≡ false
  not_closed s (inl h) = kind_other k.Word k.RightParen s h (λ e. cc)
  not_closed s (inr (inl h)) = kind_other k.Bang k.RightParen s h (λ e. cc)
  not_closed s (inr (inr h)) = kind_other k.LeftParen k.RightParen s h (λ e. cc)

  -- ---- each part takes a byte

  pub mark_takes : (j : TokenKind) (s r : Place) → j ≢ k.End → IsMark j s r → left r < left s
  mark_takes j s r other (text, spelled) = spelled_shorter j text s r other spelled

  one_takes : (room : ℕ) (ys : Tys) (s r : Place) → IsOne aliases room s ys r → left r < left s
  one_takes room no_tys s r h = absurd h
  one_takes room (ty_then t no_tys) s r h = plain_takes room t s r h
  one_takes room (ty_then t (ty_then u us)) s r h = absurd h

  mutual
    pub ty_takes : (room : ℕ) (t : Ty) (s r : Place) → IsTy aliases room s t r → left r < left s
    ty_takes room (int g w) s r h = plain_takes room (int g w) s r h
    ty_takes room index s r h = plain_takes room index s r h
    ty_takes room (word w) s r h = plain_takes room (word w) s r h
    ty_takes zero (func xs ys) s r h = plain_takes zero (func xs ys) s r h
    ty_takes (suc room) (func xs ys) s r (inl h) = plain_takes (suc room) (func xs ys) s r h
    ty_takes (suc room) (func xs ys) s r (inr (s1, s2, s3, s4, a, from, b, c, inl one)) =
        omega (arith, mark_takes k.LeftParen s s1 (λ e. cc) a, tys_take room xs s1 s2 from, mark_takes k.RightParen s2 s3 (λ e. cc) b, mark_takes k.Arrow s3 s4 (λ e. cc) c, one_takes (suc room) ys s4 r one)
    ty_takes (suc room) (func xs ys) s r (inr (s1, s2, s3, s4, a, from, b, c, inr (s5, s6, x, to, y))) =
        omega (
          arith,
          mark_takes k.LeftParen s s1 (λ e. cc) a,
          tys_take room xs s1 s2 from,
          mark_takes k.RightParen s2 s3 (λ e. cc) b,
          mark_takes k.Arrow s3 s4 (λ e. cc) c,
          mark_takes k.LeftParen s4 s5 (λ e. cc) x,
          tys_take room ys s5 s6 to,
          mark_takes k.RightParen s6 r (λ e. cc) y,
        )

    tys_take : (room : ℕ) (ts : Tys) (s r : Place) → IsTys aliases room s ts r → left r ≤ left s
    tys_take room no_tys s r h = omega (arith, ap left h)
    tys_take room (ty_then t ts) s r (s1, one, more) = omega (arith, ty_takes room t s s1 one, more_take room ts s1 r more)

    more_take : (room : ℕ) (ts : Tys) (s r : Place) → IsMoreTys aliases room s ts r → left r ≤ left s
    more_take room no_tys s r h = omega (arith, ap left h)
    more_take room (ty_then t ts) s r (s1, s2, comma, one, more) =
        omega (arith, mark_takes k.Comma s s1 (λ e. cc) comma, ty_takes room t s1 s2 one, more_take room ts s2 r more)

  -- ---- types

  ty_plain_by : (room : ℕ) (p : Parser Ty) (s r : Place) (t : Ty) → ReadBy aliases room s t r → ty_by aliases room p (kind s) s ≡ Ok (t, r)
  ty_plain_by room p s r t (inl h) = rw h.1 h.0
  ty_plain_by room p s r t (inr h) = rw h.1 h.0

  pub ty_plain : (room : ℕ) (s r : Place) (t : Ty) → IsPlain aliases room s t r → ty aliases room s ≡ Ok (t, r)
  unfolding ty
  ty_plain zero s r t h = ty_plain_by zero _ s r t (plain_read zero t s r h)
  ty_plain (suc room) s r t h = ty_plain_by (suc room) _ s r t (plain_read (suc room) t s r h)

  separated_more : (item : Parser Ty) (n : ℕ) (found : List Ty) (s s1 s2 : Place) (t : Ty) → item s ≡ Ok (t, s1) → IsMark k.Comma s1 s2 → separated k.Comma item (suc n) found s ≡ separated k.Comma item n (found ++ t ∷ []) s2
  unfolding separated
  separated_more item n found s s1 s2 t e (text, c) = rw (e, spelled_sees k.Comma text s1 s2 c, eaten_is k.Comma text s1 s2 c) refl

  separated_last : (item : Parser Ty) (n : ℕ) (found : List Ty) (s s1 : Place) (t : Ty) → item s ≡ Ok (t, s1) → sees k.Comma s1 ≡ false → separated k.Comma item (suc n) found s ≡ Ok (found ++ t ∷ [], s1)
  unfolding separated
  separated_last item n found s s1 t e c = rw (e, c, after_at k.Comma s1 false c) refl

  list_empty : (item : Parser Ty) (s r : Place) → IsMark k.RightParen s r → list k.RightParen item s ≡ Ok ([], r)
  unfolding list
  list_empty item s r (text, h) = rw (spelled_sees k.RightParen text s r h, eaten_is k.RightParen text s r h) refl

  list_some : (item : Parser Ty) (s s1 r : Place) (xs : List Ty) → sees k.RightParen s ≡ false → separated k.Comma item (left s) [] s ≡ Ok (xs, s1) → IsMark k.RightParen s1 r → list k.RightParen item s ≡ Ok (xs, r)
  unfolding list
  list_some item s s1 r xs other e (text, h) = rw (other, after_at k.RightParen s false other, e, expects k.RightParen text s1 r h) refl

  function_read : (room : ℕ) (item : Parser Ty) (s s3 s4 r : Place) (xs ys : List Ty) → list k.RightParen item s ≡ Ok (xs, s3) → IsMark k.Arrow s3 s4 → results_by aliases room item (kind s4) s4 ≡ Ok (ys, r)
      → function aliases room item s ≡ Ok (func (tys xs) (tys ys), r)
  unfolding function
  function_read room item s s3 s4 r xs ys e (text, h) f = rw (e, expects k.Arrow text s3 s4 h, f) refl

  open_read : (room : ℕ) (s s1 r : Place) (t : Ty) → IsMark k.LeftParen s s1 → function aliases (suc room) (ty aliases room) s1 ≡ Ok (t, r) → ty aliases (suc room) s ≡ Ok (t, r)
  unfolding ty
  open_read room s s1 r t (text, h) e = rw (spelled_kind k.LeftParen text s s1 h, spelled_next k.LeftParen text s s1 h, e) refl

  one_by : (room : ℕ) (item : Parser Ty) (t : Ty) (s r : Place) → ReadBy aliases room s t r → results_by aliases room item (kind s) s ≡ Ok (t ∷ [], r)
  one_by room item t s r (inl h) = rw (h.1, h.0) refl
  one_by room item t s r (inr h) = rw (h.1, h.0) refl

  one_read : (room : ℕ) (item : Parser Ty) (ys : Tys) (s r : Place) → IsOne aliases room s ys r → results_by aliases room item (kind s) s ≡ Ok (untys ys, r)
  one_read room item no_tys s r h = absurd h
  one_read room item (ty_then t no_tys) s r h = one_by room item t s r (plain_read room t s r h)
  one_read room item (ty_then t (ty_then u us)) s r h = absurd h

  bracket_read : (room : ℕ) (item : Parser Ty) (ys : List Ty) (s s1 r : Place) → IsMark k.LeftParen s s1 → list k.RightParen item s1 ≡ Ok (ys, r) → results_by aliases room item (kind s) s ≡ Ok (ys, r)
  bracket_read room item ys s s1 r (text, h) e = rw (spelled_kind k.LeftParen text s s1 h, spelled_next k.LeftParen text s s1 h) e

  ends_list : (s r : Place) → IsMark k.RightParen s r → sees k.Comma s ≡ false
  ends_list s r (text, h) = kind_other k.RightParen k.Comma s (spelled_kind k.RightParen text s r h) (λ e. cc)

  mutual
    -- A type that is spelled is read.
    pub ty_complete : (room : ℕ) (t : Ty) (s r : Place) → IsTy aliases room s t r → ty aliases room s ≡ Ok (t, r)
    ty_complete room (int g w) s r h = ty_plain room s r (int g w) h
    ty_complete room index s r h = ty_plain room s r index h
    ty_complete room (word w) s r h = ty_plain room s r (word w) h
    ty_complete zero (func xs ys) s r h = ty_plain zero s r (func xs ys) h
    ty_complete (suc room) (func xs ys) s r (inl h) = ty_plain (suc room) s r (func xs ys) h
    ty_complete (suc room) (func xs ys) s r (inr (s1, s2, s3, s4, a, from, b, c, inl one)) =
        subst (λ t. ty aliases (suc room) s ≡ Ok (t, r)) (λ i. func (tys_untys xs i) (tys_untys ys i))
        (open_read room s s1 r _ a (function_read (suc room) (ty aliases room) s1 s3 s4 r (untys xs) (untys ys) (tys_complete room xs s1 s2 s3 from b) c (one_read (suc room) (ty aliases room) ys s4 r one)))
    ty_complete (suc room) (func xs ys) s r (inr (s1, s2, s3, s4, a, from, b, c, inr (s5, s6, x, to, y))) =
        subst (λ t. ty aliases (suc room) s ≡ Ok (t, r)) (λ i. func (tys_untys xs i) (tys_untys ys i))
        (open_read room s s1 r _ a (function_read (suc room) (ty aliases room) s1 s3 s4 r (untys xs) (untys ys) (tys_complete room xs s1 s2 s3 from b) c
        (bracket_read (suc room) (ty aliases room) (untys ys) s4 s5 r x (tys_complete room ys s5 s6 r to y))))

    tys_complete : (room : ℕ) (xs : Tys) (s s1 r : Place) → IsTys aliases room s xs s1 → IsMark k.RightParen s1 r → list k.RightParen (ty aliases room) s ≡ Ok (untys xs, r)
    tys_complete room no_tys s s1 r h shut = list_empty (ty aliases room) s r (subst (λ u. IsMark k.RightParen u r) (sym h) shut)
    tys_complete room (ty_then t ts) s s1 r (s2, one, more) shut =
        list_some (ty aliases room) s s1 r (untys (ty_then t ts)) (not_closed s (begins room t s s2 one))
        (more_complete room ts (left s) [] t s s2 s1 (ty_complete room t s s2 one) more (ty_takes room t s s2 one) (omega arith) (ends_list s1 r shut)) shut

    more_complete : (room : ℕ) (ts : Tys) (n : ℕ) (found : List Ty) (t : Ty) (s s1 r : Place) → ty aliases room s ≡ Ok (t, s1) → IsMoreTys aliases room s1 ts r → left s1 < left s → left s ≤ n
        → sees k.Comma r ≡ false → separated k.Comma (ty aliases room) n found s ≡ Ok (found ++ t ∷ untys ts, r)
    more_complete room no_tys zero found t s s1 r e h shorter fits last = absurd (omega arith)
    more_complete room no_tys (suc n) found t s s1 r e h shorter fits last =
        subst (λ u. separated k.Comma (ty aliases room) (suc n) found s ≡ Ok (found ++ t ∷ [], u)) h
        (separated_last (ty aliases room) n found s s1 t e (subst (λ u. sees k.Comma u ≡ false) (sym h) last))
    more_complete room (ty_then u us) zero found t s s1 r e h shorter fits last = absurd (omega arith)
    more_complete room (ty_then u us) (suc n) found t s s1 r e (s2, s3, comma, one, more) shorter fits last =
        separated_more (ty aliases room) n found s s1 s2 t e comma
        ∙ (more_complete room us n (found ++ t ∷ []) u s2 s3 r (ty_complete room u s2 s3 one) more (ty_takes room u s2 s3 one) (omega (arith, mark_takes k.Comma s1 s2 (λ e. cc) comma)) last
        ∙ (λ i. Ok (append_assoc found (t ∷ []) (u ∷ untys us) i, r)))

-- A type that a whole text spells is read.
pub type_complete : (bytes : List ℕ) (t : Ty) → IsTypeText bytes t → type_of bytes ≡ Ok t
unfolding type_of
type_complete bytes t h =
    let (text, ends) = h.ends in
    rw (ty_complete [] max_open t (start_of bytes) h.end h.type, spelled_sees k.End text h.end h.behind ends) refl
