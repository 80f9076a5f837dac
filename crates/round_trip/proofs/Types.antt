-- The text of a printable type spells it.
use Rattle.std.proofs.Common.{◌≡◌, ℕ, zero, suc, ◌+◌, ◌<◌, ◌≤◌, ◌^◌, Bool, true, false, not, if◌then◌else◌, List, [], ◌∷◌, ◌++◌, length, refl, sym, subst, arith, inl, inr, append_assoc, append-nil}
use Rattle.std.specs.Prelude.{◌⊎◌, codes, decimal}
use Rattle.text_scan.specs.Bytes.{AllAre, is_word_byte, is_digit}
use Rattle.mlir_lexer.specs.Forms.{HasForm}
use Rattle.mlir_lexer.specs.declared.token.TokenKind.TheVariants as k
use Rattle.mlir_tree.specs.declared.sign.Sign.{Sign}
use Rattle.mlir_tree.specs.declared.sign.Sign.TheVariants.{Signless, Signed, Unsigned}
use Rattle.mlir_tree.specs.Tree.{Ty, int, index, func, word, Tys, no_tys, ty_then}
use Rattle.mlir_print.specs.Text.{sign_text, is_function, stands_bare, results_by, ty_text, tys_text, more_tys_text}
use Rattle.mlir_attributes.specs.Place.{Place, moved}
use Rattle.mlir_attributes.specs.Types.{is_other_word, max_width}
use Rattle.mlir_attributes.specs.Grammar.{IsSpelled, IsMark}
use Rattle.mlir_attributes.specs.TypeGrammar.{HasBody, IsKept, IsLeaf, IsPlain, IsOne, IsTy, IsTys, IsMoreTys}
use Rattle.round_trip.specs.Printable.{IsTypeFront, IsTypeWord, IsWholeBody, IsPrintableTy, ArePrintableTys}
use Rattle.round_trip.proofs.Places.{Is, Faces, Reads, faces, space, spelled, marked}
use Rattle.round_trip.proofs.Tokens.{Stops, word_begins, bang_form, digit_word}
use Rattle.round_trip.proofs.Bodies.{body_again, less_there, opens_text}
use Rattle.round_trip.proofs.Decimals.{is_decimal, all_digits}
use Rattle.round_trip.proofs.Ends.{Ends, ends_lack, comma_ends, paren_ends}

-- ---- words

words_of : (ds : List ℕ) → AllAre is_digit ds → AllAre is_word_byte ds
words_of [] h = tt
words_of (d ∷ ds) h = (digit_word d h.0, words_of ds h.1)

int_form : (g : Sign) (ds : List ℕ) → AllAre is_digit ds → HasForm k.Word (sign_text g ++ ds)
int_form Signless ds h = (refl, words_of ds h)
int_form Signed ds h = (refl, (refl, words_of ds h))
int_form Unsigned ds h = (refl, (refl, words_of ds h))

pub small_width : (w : ℕ) → w ≤ max_width → w < 2 ^ 64
small_width w h = omega arith

int_again : (room : ℕ) (g : Sign) (w : ℕ) → w ≤ max_width → (s : Place) (z : List ℕ) → Faces s ((sign_text g ++ decimal w) ++ z) → Ends z → Reads (λ u v. IsLeaf [] room u (int g w) v) s z
int_again room g w small s z f ends =
    let (is, value) = is_decimal w (small_width w small) in
    let text = sign_text g ++ decimal w in
    let (e, there, rest) = spelled k.Word text s z f (word_begins text z (int_form g (decimal w) (all_digits (decimal w) is.digits_are)) ends.stops) in
    (e, (text, there, (decimal w, is, refl, value), small, ends_lack k.Less (moved s e) z refl ends (faces (moved s e) z rest)), rest)

index_again : (room : ℕ) (s : Place) (z : List ℕ) → Faces s (codes "index" ++ z) → Ends z → Reads (λ u v. IsLeaf [] room u index v) s z
index_again room s z f ends =
    let (e, there, rest) = spelled k.Word (codes "index") s z f (word_begins (codes "index") z (refl, (refl, (refl, (refl, (refl, tt))))) ends.stops) in
    (e, (there, ends_lack k.Less (moved s e) z refl ends (faces (moved s e) z rest)), rest)

-- the front of a body
front_again : (front t : List ℕ) (s : Place) → IsTypeFront front → Stops t → Faces s (front ++ t) → Reads (λ u v. (IsSpelled k.Word front u v × (is_other_word front ≡ false)) ⊎ IsSpelled k.Bang front u v) s t
front_again front t s (inl (form, other)) stops f = let (e, there, rest) = spelled k.Word front s t f (word_begins front t form stops) in (e, inl (there, other), rest)
front_again front t s (inr form) stops f = let (e, there, rest) = spelled k.Bang front s t f (bang_form front t form stops) in (e, inr there, rest)

with_body : (room : ℕ) (front body z : List ℕ) (s : Place) → IsTypeFront front → IsWholeBody room body → Faces s ((front ++ body) ++ z) → Reads (λ u v. HasBody [] room (front ++ body) u v) s z
with_body room front body z s is whole f =
    let (tail, opens) = opens_text room body z whole in
    let stops : Stops (body ++ z) = subst Stops (sym opens) refl in
    let (e, begins, rest) = front_again front (body ++ z) s is stops (subst (Faces s) (append_assoc front body z) f) in
    let (past, mark, more) = less_there (moved s e) tail (subst (Is (moved s e)) opens rest) in
    let (body_is, last) = body_again room body z (moved s e) whole rest in
    (e + length body, record { front = front; body = body; between = moved s e; behind = moved s past; begins = begins; opens = mark; goes_on = body_is; text_is = refl }, last)

word_again : (room : ℕ) (w : List ℕ) (s : Place) (z : List ℕ) → IsTypeWord room w → Faces s (w ++ z) → Ends z → Reads (λ u v. IsKept [] room w u v) s z
word_again room w s z (inl (form, plain)) f ends =
    let (e, there, rest) = spelled k.Word w s z f (word_begins w z form ends.stops) in
    (e, inl (there, plain, ends_lack k.Less (moved s e) z refl ends (faces (moved s e) z rest)), rest)
word_again room w s z (inr (inl (form, point))) f ends =
    let (e, there, rest) = spelled k.Bang w s z f (bang_form w z form ends.stops) in
    (e, inr (inl (there, point, ends_lack k.Less (moved s e) z refl ends (faces (moved s e) z rest))), rest)
word_again room w s z (inr (inr (front, body, is, whole, same))) f ends =
    subst (λ t. Reads (λ u v. IsKept [] room t u v) s z) same
    (let (e, there, rest) = with_body room front body z s is whole (subst (λ t. Faces s (t ++ z)) (sym same) f) in (e, inr (inr there), rest))

-- ---- types

pub leaf_again : (room : ℕ) (t : Ty) (s : Place) (z : List ℕ) → is_function t ≡ false → IsPrintableTy room t → Faces s (ty_text t ++ z) → Ends z → Reads (λ u v. IsLeaf [] room u t v) s z
unfolding ty_text
leaf_again room (int g w) s z leaf p f ends = int_again room g w p s z f ends
leaf_again room index s z leaf p f ends = index_again room s z f ends
leaf_again room (word w) s z leaf p f ends = word_again room w s z p.0 f ends
leaf_again room (func xs ys) s z leaf p f ends = absurd (cc)

plain_of : (room : ℕ) (t : Ty) (s : Place) (z : List ℕ) → Reads (λ u v. IsLeaf [] room u t v) s z → Reads (λ u v. IsPlain [] room u t v) s z
plain_of room t s z (e, there, rest) = (e, inl there, rest)

-- what stands behind a type that others may follow
pub more_ends : (ts : Tys) (z : List ℕ) → Ends z → Ends (more_tys_text ts ++ z)
unfolding more_tys_text
more_ends no_tys z ends = ends
more_ends (ty_then t ts) z ends = comma_ends (32 ∷ ((ty_text t ++ more_tys_text ts) ++ z))

not_true : (b : Bool) → not b ≡ true → b ≡ false
not_true true h = absurd (cc)
not_true false h = refl

one_again : (room : ℕ) (ys : Tys) (s : Place) (z : List ℕ) → stands_bare ys ≡ true → ArePrintableTys room ys → Faces s (tys_text ys ++ z) → Ends z → Reads (λ u v. IsOne [] room u ys v) s z
unfolding tys_text more_tys_text
one_again room no_tys s z bare p f ends = absurd (cc)
one_again room (ty_then t no_tys) s z bare p f ends =
    plain_of room t s z (leaf_again room t s z (not_true (is_function t) bare) p.0 (subst (λ x. Faces s (x ++ z)) (append-nil (ty_text t)) f) ends)
one_again room (ty_then t (ty_then u us)) s z bare p f ends = absurd (cc)

-- the results of a function type
abbrev AreResults : ℕ → Place → Tys → Place → Type 0
AreResults room s ys r = IsOne [] (suc room) s ys r ⊎ ((s5 s6 : Place) × IsMark k.LeftParen s s5 × IsTys [] room s5 ys s6 × IsMark k.RightParen s6 r)

results_again : (room : ℕ) (ys : Tys) (s : Place) (z : List ℕ) (bare : Bool) → stands_bare ys ≡ bare → ArePrintableTys (if bare then suc room else room) ys
    → ((u : Place) (y : List ℕ) → ArePrintableTys room ys → Is u (tys_text ys ++ y) → Ends y → Reads (λ p q. IsTys [] room p ys q) u y)
    → Faces s (results_by bare (tys_text ys) ++ z) → Ends z → Reads (λ u v. AreResults room u ys v) s z
results_again room ys s z true is p go f ends =
    let (e, there, rest) = one_again (suc room) ys s z is p f ends in (e, inl there, rest)
results_again room ys s z false is p go f ends =
    let (a, left, r1) = marked k.LeftParen (40 ∷ []) s (tys_text ys ++ (41 ∷ z)) (subst (λ t. Faces s (40 ∷ t)) (append_assoc (tys_text ys) (41 ∷ []) z) f) (refl, λ at. refl) in
    let (b, inside, r2) = go (moved s a) (41 ∷ z) p r1 (paren_ends z) in
    let (c, right, r3) = marked k.RightParen (41 ∷ []) (moved s b) z (faces (moved s b) (41 ∷ z) r2) (refl, λ at. refl) in
    (c, inr (moved s a, moved s b, left, inside, right), r3)

abbrev arrow_text : List ℕ → List ℕ
arrow_text t = 41 ∷ 32 ∷ 45 ∷ 62 ∷ 32 ∷ t

mutual
  unfolding ty_text tys_text more_tys_text

  pub ty_again : (room : ℕ) (t : Ty) (s : Place) (z : List ℕ) → IsPrintableTy room t → Faces s (ty_text t ++ z) → Ends z → Reads (λ u v. IsTy [] room u t v) s z
  ty_again room (int g w) s z p f ends = plain_of room (int g w) s z (leaf_again room (int g w) s z refl p f ends)
  ty_again room index s z p f ends = plain_of room index s z (leaf_again room index s z refl p f ends)
  ty_again room (word w) s z p f ends = plain_of room (word w) s z (leaf_again room (word w) s z refl p f ends)
  ty_again zero (func xs ys) s z p f ends = absurd p
  ty_again (suc room) (func xs ys) s z p f ends =
      let last = results_by (stands_bare ys) (tys_text ys) ++ z in
      let (a, left, r1) = marked k.LeftParen (40 ∷ []) s (tys_text xs ++ arrow_text last) (subst (λ t. Faces s (40 ∷ t)) (append_assoc (tys_text xs) (arrow_text (results_by (stands_bare ys) (tys_text ys))) z) f) (refl, λ at. refl) in
      let (b, from, r2) = tys_again room xs (moved s a) (arrow_text last) p.0 r1 (paren_ends (32 ∷ 45 ∷ 62 ∷ 32 ∷ last)) in
      let (c, right, r3) = marked k.RightParen (41 ∷ []) (moved s b) (32 ∷ 45 ∷ 62 ∷ 32 ∷ last) (faces (moved s b) (arrow_text last) r2) (refl, λ at. refl) in
      let (d, arrow, r4) = marked k.Arrow (45 ∷ 62 ∷ []) (moved s c) (32 ∷ last) (space 32 (moved s c) (45 ∷ 62 ∷ 32 ∷ last) refl (faces (moved s c) (32 ∷ 45 ∷ 62 ∷ 32 ∷ last) r3)) (refl, λ at. refl) in
      let (e, to, r5) = results_again room ys (moved s d) z (stands_bare ys) refl p.1 (λ u y q g ends. tys_again room ys u y q g ends) (space 32 (moved s d) last refl (faces (moved s d) (32 ∷ last) r4)) ends in
      (e, inr (moved s a, moved s b, moved s c, moved s d, left, from, right, arrow, to), r5)

  pub tys_again : (room : ℕ) (ts : Tys) (s : Place) (z : List ℕ) → ArePrintableTys room ts → Is s (tys_text ts ++ z) → Ends z → Reads (λ u v. IsTys [] room u ts v) s z
  tys_again room no_tys s z p h ends = (s.at, refl, h)
  tys_again room (ty_then t ts) s z p h ends =
      let (a, one, r1) = ty_again room t s (more_tys_text ts ++ z) p.0 (faces s (ty_text t ++ (more_tys_text ts ++ z)) (subst (Is s) (append_assoc (ty_text t) (more_tys_text ts) z) h)) (more_ends ts z ends) in
      let (b, more, r2) = more_again room ts (moved s a) z p.1 r1 ends in
      (b, (moved s a, one, more), r2)

  pub more_again : (room : ℕ) (ts : Tys) (s : Place) (z : List ℕ) → ArePrintableTys room ts → Is s (more_tys_text ts ++ z) → Ends z → Reads (λ u v. IsMoreTys [] room u ts v) s z
  more_again room no_tys s z p h ends = (s.at, refl, h)
  more_again room (ty_then t ts) s z p h ends =
      let rest = (ty_text t ++ more_tys_text ts) ++ z in
      let (a, comma, r1) = marked k.Comma (44 ∷ []) s (32 ∷ rest) (faces s (44 ∷ 32 ∷ rest) h) (refl, λ at. refl) in
      let (b, one, r2) = ty_again room t (moved s a) (more_tys_text ts ++ z) p.0 (subst (Faces (moved s a)) (append_assoc (ty_text t) (more_tys_text ts) z) (space 32 (moved s a) rest refl (faces (moved s a) (32 ∷ rest) r1))) (more_ends ts z ends) in
      let (c, more, r3) = more_again room ts (moved s b) z p.1 r2 ends in
      (c, (moved s a, moved s b, comma, one, more), r3)
