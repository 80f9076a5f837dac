-- What is read as a type is spelled so.
use Rattle.std.proofs.Common.{◌≡◌, ℕ, zero, suc, Bool, true, false, cond, List, [], ◌∷◌, ◌++◌, refl, ap, sym, subst, ◌∙◌, inl, inr, Result, Ok, Err, append_assoc, arith}
use Rattle.std.specs.Prelude.{◌⊎◌, Option, Some, None, IsUtf8}
use Rattle.mlir_lexer.specs.declared.token.TokenKind.{TokenKind}
use Rattle.mlir_lexer.specs.declared.token.TokenKind.TheVariants as k
use Rattle.mlir_tree.specs.Tree.{Ty, int, index, func, word, Tys, tys}
use Rattle.mlir_attributes.specs.declared.fault.ModFault.{ModFault}
use Rattle.mlir_attributes.specs.declared.fault.ModKind.TheVariants as faults
use Rattle.mlir_attributes.specs.declared.aliases.Alias.{Alias}
use Rattle.mlir_attributes.specs.declared.aliases.Meaning.{Meaning}
use Rattle.mlir_attributes.specs.declared.aliases.Meaning.TheVariants as meanings
use Rattle.mlir_attributes.specs.Place.{Place, fault, left, kind, sees, start, spelling, next, start_of}
use Rattle.mlir_attributes.specs.Input.{Outcome, Parser, after, expect, fail_at, pure, lift, ◌>>=◌, ◌<$>◌, separated, items, list}
use Rattle.mlir_attributes.specs.Aliases.{find, ty_meant, has_point}
use Rattle.mlir_attributes.specs.Types.{is_other_word, leaf, kept, has_room, put_in, use_alias, alias_ty_by, alias_ty, word_type, bang_type, one_of, results_by, function, ty_by, ty, max_open, whole, whole_by, type_of}
use Rattle.mlir_attributes.specs.Grammar.{IsSpelled, IsMark, IsNot, IsBody}
use Rattle.mlir_attributes.specs.TypeGrammar.{IsLeaf, IsTyAlias, IsPlain, IsOne, IsTy, IsTys, IsMoreTys, IsTypeText}
use Rattle.mlir_attributes.proofs.Tokens.{bind_ok, same_ok, IsWithin, taken, kind_sees, not_seen, eaten, left_alone, expected}
use Rattle.mlir_attributes.proofs.Words.{leaf_sound}
use Rattle.mlir_attributes.proofs.Bodies.{kept_sound}

-- A reading function finds only what the relation says.
abbrev pub Finds : {A : Type 0} → (Place → A → Place → Type 0) → Parser A → Type 0
Finds {A} P p = (s r : Place) (a : A) → IsWithin s → p s ≡ Ok (a, r) → P s a r × IsWithin r

-- ---- words

pub lifted : {A : Type 0} (o : Result A ModFault) (s r : Place) (a : A) → lift o s ≡ Ok (a, r) → (o ≡ Ok a) × (s ≡ r)
lifted (Ok x) s r a h = let same = same_ok h in (ap Ok same.0, same.1)
lifted (Err f) s r a h = absurd (cc)

body_by : (aliases : List Alias) (room : ℕ) (w : List ℕ) (s m r : Place) (t : Ty) → (IsSpelled k.Word w s m × (is_other_word w ≡ false)) ⊎ IsSpelled k.Bang w s m → IsWithin m → sees k.Less m ≡ true → (word <$> kept aliases w room) m ≡ Ok (t, r) → IsLeaf aliases room s t r × IsWithin r
body_by aliases room w s m r t begins within more h =
    let one = bind_ok (kept aliases w room m) _ t r h in
    let same = same_ok one.3 in
    let found = kept_sound aliases w room m one.1 one.0 within one.2 in (
      subst (λ t. IsLeaf aliases room s t r) same.0 (inr (inr (record { front = w; body = found.0; between = m; behind = next m; begins = begins; opens = (spelling m, (taken k.Less m within more).0); goes_on = subst (IsBody aliases room found.0 m) same.1 found.1; text_is = found.2 }))),
      subst IsWithin same.1 found.3,
    )

word_by : (aliases : List Alias) (room at : ℕ) (w : List ℕ) (s m r : Place) (t : Ty) (o b : Bool) → is_other_word w ≡ o → sees k.Less m ≡ b → IsSpelled k.Word w s m → IsWithin m
    → (cond {A = Parser Ty} o (fail_at faults.Syntax at) (cond b (word <$> kept aliases w room) (lift (leaf at w)))) m ≡ Ok (t, r) → IsLeaf aliases room s t r × IsWithin r
word_by aliases room at w s m r t true b other more spelled within h = absurd (cc)
word_by aliases room at w s m r t false true other more spelled within h = body_by aliases room w s m r t (inl (spelled, other)) within more h
word_by aliases room at w s m r t false false other more spelled within h =
    let read = lifted (leaf at w) m r t h in
    (subst (IsLeaf aliases room s t) read.1 (leaf_sound aliases room at s m w t read.0 spelled (not_seen k.Less m more) other), subst IsWithin read.1 within)

pub word_sound : (aliases : List Alias) (room : ℕ) (s r : Place) (t : Ty) → IsWithin s → sees k.Word s ≡ true → word_type aliases room s ≡ Ok (t, r) → IsLeaf aliases room s t r × IsWithin r
unfolding word_type
word_sound aliases room s r t within is h =
    let first = taken k.Word s within is in
    word_by aliases room (start s) (spelling s) s (next s) r t (is_other_word (spelling s)) (sees k.Less (next s)) refl refl first.0 first.1 h

-- ---- aliases

pub use_by : {A : Type 0} (room at : ℕ) (a : Alias) (m r : Place) (x : A) (y : Option A) (b : Bool) → has_room room a m ≡ b → use_alias room at a y m ≡ Ok (x, r) → (y ≡ Some x) × (has_room room a m ≡ true) × (put_in a m ≡ r)
use_by room at a m r x None b fits h = absurd (cc)
use_by room at a m r x (Some y) true fits h =
    let found : cond {A = Outcome _} true (Ok (y, put_in a m)) (Err (fault faults.TooMany at)) ≡ Ok (x, r) = ap (λ c. cond c (Ok (y, put_in a m)) (Err (fault faults.TooMany at))) (sym fits) ∙ h in
    let same = same_ok found in
    (ap Some same.0, fits, same.1)
use_by room at a m r x (Some y) false fits h =
    let found : cond {A = Outcome _} false (Ok (y, put_in a m)) (Err (fault faults.TooMany at)) ≡ Ok (x, r) = ap (λ c. cond c (Ok (y, put_in a m)) (Err (fault faults.TooMany at))) (sym fits) ∙ h in
    absurd (cc)

meant : (m : Meaning) (t : Ty) → ty_meant m ≡ Some t → m ≡ meanings.Ty t
meant (meanings.Ty u) t h = ap (λ (o : Option Ty). meanings.Ty (or_ty u o)) h
  where
    or_ty : Ty → Option Ty → Ty
    or_ty u None = u
    or_ty u (Some t) = t
meant (meanings.Attr x) t h = absurd (cc)
meant meanings.Location t h = absurd (cc)

module _ (aliases : List Alias) where
  alias_by : (room at : ℕ) (w : List ℕ) (s m r : Place) (t : Ty) (o : Option Alias) → find w aliases ≡ o → IsSpelled k.Bang w s m → IsWithin m → has_point w ≡ false → IsNot k.Less m → alias_ty_by room at o m ≡ Ok (t, r)
      → IsTyAlias aliases room s t r × IsWithin r
  alias_by room at w s m r t None is spelled within plain alone h = absurd (cc)
  alias_by room at w s m r t (Some a) is spelled within plain alone h =
      let found = use_by room at a m r t (ty_meant a.meaning) (has_room room a m) refl h in
      ((a, record { name = w; behind = m; spelled = spelled; defined = is; fits = found.1; rest = found.2 }, plain, alone, meant a.meaning t found.0), subst IsWithin found.2 within)

  bang_by : (room at : ℕ) (w : List ℕ) (s m r : Place) (t : Ty) (b p : Bool) → sees k.Less m ≡ b → has_point w ≡ p → IsSpelled k.Bang w s m → IsWithin m
      → (cond {A = Parser Ty} b (word <$> kept aliases w room) (cond p (pure (word w)) (alias_ty aliases room at w))) m ≡ Ok (t, r) → IsPlain aliases room s t r × IsWithin r
  unfolding alias_ty
  bang_by room at w s m r t true p more point spelled within h = let found = body_by aliases room w s m r t (inr spelled) within more h in (inl found.0, found.1)
  bang_by room at w s m r t false true more point spelled within h =
      let same = same_ok h in
      let here : IsLeaf aliases room s (word w) m = inr (inl (spelled, point, not_seen k.Less m more)) in
      (inl (subst (λ t. IsLeaf aliases room s t r) same.0 (subst (IsLeaf aliases room s (word w)) same.1 here)), subst IsWithin same.1 within)
  bang_by room at w s m r t false false more point spelled within h =
      let found = alias_by room at w s m r t (find w aliases) refl spelled within point (not_seen k.Less m more) h in
      (inr found.0, found.1)

  pub bang_sound : (room : ℕ) (s r : Place) (t : Ty) → IsWithin s → sees k.Bang s ≡ true → bang_type aliases room s ≡ Ok (t, r) → IsPlain aliases room s t r × IsWithin r
  unfolding bang_type
  bang_sound room s r t within is h =
      let first = taken k.Bang s within is in
      bang_by room (start s) (spelling s) s (next s) r t (sees k.Less (next s)) (has_point (spelling s)) refl refl first.0 first.1 h

  -- ---- lists

  -- what the loop adds to what was found
  abbrev Adds : ℕ → Place → List Ty → List Ty → Place → Type 0
  Adds room s found all r = (t : Ty) × (ts : List Ty) × (s1 : Place) × (all ≡ found ++ t ∷ ts) × IsTy aliases room s t s1 × IsMoreTys aliases room s1 (tys ts) r × IsWithin r

  separated_go : (room : ℕ) (item : Parser Ty) (n : ℕ) → ((found all : List Ty) (s r : Place) → IsWithin s → separated k.Comma item n found s ≡ Ok (all, r) → Adds room s found all r)
      → (found all : List Ty) (s s1 r : Place) (t : Ty) → IsTy aliases room s t s1 → IsWithin s1 → (b : Bool) → sees k.Comma s1 ≡ b
      → (cond b (separated k.Comma item n (found ++ t ∷ [])) (pure (found ++ t ∷ []))) (after k.Comma s1) ≡ Ok (all, r) → Adds room s found all r
  separated_go room item n go found all s s1 r t h within true c e =
      let comma = eaten k.Comma s1 within c in
      let more = go (found ++ t ∷ []) all (after k.Comma s1) r comma.1 e in
      (t, more.0 ∷ more.1, s1, more.3 ∙ append_assoc found (t ∷ []) (more.0 ∷ more.1), h, (after k.Comma s1, more.2, comma.0, more.4, more.5), more.6)
  separated_go room item n go found all s s1 r t h within false c e =
      let end = same_ok e in
      let same : s1 ≡ r = sym (left_alone k.Comma s1 c) ∙ end.1 in
      (t, [], s1, sym end.0, h, same, subst IsWithin same within)

  separated_sound : (room : ℕ) (item : Parser Ty) → Finds (IsTy aliases room) item → (n : ℕ) (found all : List Ty) (s r : Place) → IsWithin s → separated k.Comma item n found s ≡ Ok (all, r) → Adds room s found all r
  unfolding separated
  separated_sound room item reads zero found all s r within e = absurd (cc)
  separated_sound room item reads (suc n) found all s r within e =
      let one = bind_ok (item s) _ all r e in
      let first = reads s one.1 one.0 within one.2 in
      separated_go room item n (separated_sound room item reads n) found all s one.1 r one.0 first.0 first.1 (sees k.Comma one.1) refl one.3

  list_go : (room : ℕ) (item : Parser Ty) → Finds (IsTy aliases room) item → (s r : Place) (all : List Ty) (b : Bool) → IsWithin s → sees k.RightParen s ≡ b
      → (cond b (pure []) (items item >>= (λ xs. expect k.RightParen >>= (λ _. pure xs)))) (after k.RightParen s) ≡ Ok (all, r) → (s1 : Place) × IsTys aliases room s (tys all) s1 × IsMark k.RightParen s1 r × IsWithin r
  list_go room item reads s r all true within c e =
      let end = same_ok e in
      let shut = eaten k.RightParen s within c in
      (s, subst (λ xs. IsTys aliases room s (tys xs) s) end.0 refl, subst (IsMark k.RightParen s) end.1 shut.0, subst IsWithin end.1 shut.1)
  list_go room item reads s r all false within c e =
      let one = bind_ok (items item (after k.RightParen s)) _ all r e in
      let shut = bind_ok (expect k.RightParen one.1) _ all r one.3 in
      let end = same_ok shut.3 in
      let here : after k.RightParen s ≡ s = left_alone k.RightParen s c in
      let found = separated_sound room item reads (left (after k.RightParen s)) [] one.0 (after k.RightParen s) one.1 (subst IsWithin (sym here) within) one.2 in
      let whole : IsTys aliases room (after k.RightParen s) (tys all) one.1 = subst (λ xs. IsTys aliases room (after k.RightParen s) (tys xs) one.1) (sym found.3 ∙ end.0) (found.2, found.4, found.5) in
      let mark = expected k.RightParen one.1 shut.1 shut.0 found.6 shut.2 in
      (one.1, subst (λ u. IsTys aliases room u (tys all) one.1) here whole, subst (IsMark k.RightParen one.1) end.1 mark.0, subst IsWithin end.1 mark.1)

  -- a list up to its closing bracket
  list_sound : (room : ℕ) (item : Parser Ty) → Finds (IsTy aliases room) item → (s r : Place) (all : List Ty) → IsWithin s → list k.RightParen item s ≡ Ok (all, r) → (s1 : Place) × IsTys aliases room s (tys all) s1 × IsMark k.RightParen s1 r × IsWithin r
  unfolding list
  list_sound room item reads s r all within e = list_go room item reads s r all (sees k.RightParen s) within refl e

  -- ---- function types

  abbrev IsResult : ℕ → Place → Tys → Place → Type 0
  IsResult room s ys r = IsOne aliases (suc room) s ys r ⊎ ((s5 s6 : Place) × IsMark k.LeftParen s s5 × IsTys aliases room s5 ys s6 × IsMark k.RightParen s6 r)

  one_go : (room : ℕ) (p : Parser Ty) (s r : Place) (all : List Ty) → ((t : Ty) (m : Place) → p s ≡ Ok (t, m) → IsPlain aliases (suc room) s t m × IsWithin m) → one_of aliases p s ≡ Ok (all, r) → IsResult room s (tys all) r × IsWithin r
  one_go room p s r all reads e =
      let one = bind_ok (p s) _ all r e in
      let end = same_ok one.3 in
      let is = reads one.0 one.1 one.2 in
      let whole : IsOne aliases (suc room) s (tys (one.0 ∷ [])) one.1 = is.0 in
      (inl (subst (λ xs. IsOne aliases (suc room) s (tys xs) r) end.0 (subst (IsOne aliases (suc room) s (tys (one.0 ∷ []))) end.1 whole)), subst IsWithin end.1 is.1)

  result_go : (room : ℕ) (item : Parser Ty) → Finds (IsTy aliases room) item → (s r : Place) (all : List Ty) (j : Option TokenKind) → IsWithin s → kind s ≡ j → results_by aliases (suc room) item j s ≡ Ok (all, r)
      → IsResult room s (tys all) r × IsWithin r
  result_go room item reads s r all (Some k.LeftParen) within h e =
      let mark = taken k.LeftParen s within (kind_sees k.LeftParen s h) in
      let found = list_sound room item reads (next s) r all mark.1 e in
      (inr (next s, found.0, (spelling s, mark.0), found.1, found.2), found.3)
  result_go room item reads s r all (Some k.Word) within h e =
      one_go room (word_type aliases (suc room)) s r all (λ t m e. let is = word_sound aliases (suc room) s m t within (kind_sees k.Word s h) e in (inl is.0, is.1)) e
  result_go room item reads s r all (Some k.Bang) within h e =
      one_go room (bang_type aliases (suc room)) s r all (λ t m e. bang_sound (suc room) s m t within (kind_sees k.Bang s h) e) e
  result_go room item reads s r all _ within h e = absurd (cc)

  function_sound : (room : ℕ) (item : Parser Ty) → Finds (IsTy aliases room) item → (s s1 r : Place) (t : Ty) → IsMark k.LeftParen s s1 → IsWithin s1 → function aliases (suc room) item s1 ≡ Ok (t, r) → IsTy aliases (suc room) s t r × IsWithin r
  unfolding function
  function_sound room item reads s s1 r t begins within e =
      let one = bind_ok (list k.RightParen item s1) _ t r e in
      let two = bind_ok (expect k.Arrow one.1) _ t r one.3 in
      let three = bind_ok (results_by aliases (suc room) item (kind two.1) two.1) _ t r two.3 in
      let end = same_ok three.3 in
      let from = list_sound room item reads s1 one.1 one.0 within one.2 in
      let arrow = expected k.Arrow one.1 two.1 two.0 from.3 two.2 in
      let to = result_go room item reads two.1 three.1 three.0 (kind two.1) arrow.1 refl three.2 in (
        subst (λ u. IsTy aliases (suc room) s u r) end.0
            (inr (s1, from.0, one.1, two.1, begins, from.1, from.2, arrow.0, subst (λ u. IsResult room two.1 (tys three.0) u) end.1 to.0)),
        subst IsWithin end.1 to.1,
      )

  pub plain_ty : (room : ℕ) (s r : Place) (t : Ty) → IsPlain aliases room s t r → IsTy aliases room s t r
  plain_ty room s r (int g w) h = h
  plain_ty room s r index h = h
  plain_ty room s r (word w) h = h
  plain_ty zero s r (func xs ys) h = h
  plain_ty (suc room) s r (func xs ys) h = inl h

  by_kind : (room : ℕ) (p : Parser Ty) (s r : Place) (t : Ty) → (kind s ≡ Some k.LeftParen → p s ≡ Ok (t, r) → IsTy aliases room s t r × IsWithin r)
      → (j : Option TokenKind) → IsWithin s → kind s ≡ j → ty_by aliases room p j s ≡ Ok (t, r) → IsTy aliases room s t r × IsWithin r
  by_kind room p s r t f (Some k.LeftParen) within h e = f h e
  by_kind room p s r t f (Some k.Word) within h e =
      let is = word_sound aliases room s r t within (kind_sees k.Word s h) e in
      (plain_ty room s r t (inl is.0), is.1)
  by_kind room p s r t f (Some k.Bang) within h e =
      let is = bang_sound room s r t within (kind_sees k.Bang s h) e in
      (plain_ty room s r t is.0, is.1)
  by_kind room p s r t f _ within h e = absurd (cc)

  -- A type that is read is spelled so.
  pub ty_sound : (room : ℕ) → Finds (IsTy aliases room) (ty aliases room)
  unfolding ty
  ty_sound zero s r t within e = by_kind zero _ s r t (λ h e. absurd (cc)) (kind s) within refl e
  ty_sound (suc room) s r t within e =
      by_kind (suc room) _ s r t (λ h e. let mark = taken k.LeftParen s within (kind_sees k.LeftParen s h) in function_sound room (ty aliases room) (ty_sound room) s (next s) r t (spelling s, mark.0) mark.1 e) (kind s) within refl e

-- ---- a whole text

or_other : {A : Type 0} → Result A ModFault → A → A
or_other (Ok t) u = t
or_other (Err e) u = u

whole_go : {A : Type 0} (x y : A) (s : Place) (b : Bool) → sees k.End s ≡ b → IsWithin s → whole_by x s b ≡ Ok y → (x ≡ y) × (r : Place) × IsMark k.End s r
unfolding or_other
whole_go x y s true h within e = (ap (λ o. or_other o x) e, next s, (spelling s, (taken k.End s within h).0))
whole_go x y s false h within e = absurd (cc)

-- what a whole text is
pub whole_sound : {A : Type 0} (P : Place → A → Place → Type 0) (p : Parser A) → Finds P p → (s : Place) → IsWithin s → (o : Outcome A) (y : A) → p s ≡ o → whole o ≡ Ok y → (end behind : Place) × P s y end × IsMark k.End end behind
whole_sound P p reads s within (Ok q) y h e =
    let is = reads s q.1 q.0 within h in
    let end = whole_go q.0 y q.1 (sees k.End q.1) refl is.1 e in
    (q.1, end.1, subst (λ x. P s x q.1) end.0 is.0, end.2)
whole_sound P p reads s within (Err f) y h e = absurd (cc)

-- What is read of a whole text is the type that it spells.
pub type_sound : (bytes : List ℕ) (t : Ty) → IsUtf8 bytes → type_of bytes ≡ Ok t → IsTypeText bytes t
unfolding type_of
type_sound bytes t text e =
    let found = whole_sound (IsTy [] max_open) (ty [] max_open) (ty_sound [] max_open) (start_of bytes) (omega arith) (ty [] max_open (start_of bytes)) t refl e in
    record { text = text; end = found.0; behind = found.1; type = found.2; ends = found.3 }
