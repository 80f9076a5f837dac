-- A type that a text spells without aliases is printable.
use Rattle.std.proofs.Common.{◌≡◌, ◌≢◌, ℕ, zero, suc, ◌+◌, ◌-◌, ◌<◌, ◌≤◌, Bool, true, false, cond, not, if◌then◌else◌, List, [], ◌∷◌, length, take, drop, get_or, refl, ap, sym, subst, ◌∙◌, arith, inl, inr, length-take, length-drop, eqb-true, Result, Ok, Err, Some, None, add-zero}
use Rattle.std.specs.Prelude.{◌==◌, ◌&&◌, nat_le, slice_index, slice_range, IsUtf8, Option}
use Rattle.std.specs.Option.{option_map_or}
use Rattle.std.specs.Str.{IsCharBoundary}
use Rattle.std.proofs.lemmas.Bool.{and_parts, leb-false, lt-leb}
use Rattle.std.proofs.lemmas.Bool.Decides.{nat_tests}
use Rattle.std.proofs.lemmas.List.{drop_more, get_or-drop}
use Rattle.std.proofs.lemmas.Str.{IsUtf8-between, IsCharBoundary-before_ascii, IsCharBoundary-after_ascii}
use Rattle.text_scan.specs.Bytes.{AllAre, is_digit, is_word_start, is_word_byte, is_suffix_byte}
use Rattle.text_scan.specs.Strings.{string_end}
use Rattle.mlir_lexer.specs.Forms.{HasForm, IsSuffix, is_suffix_start}
use Rattle.mlir_lexer.specs.Body.{body, by_effect, effect_of, innermost, outer, closer}
use Rattle.mlir_lexer.specs.declared.body.Effect.{Effect}
use Rattle.mlir_lexer.specs.declared.body.Effect.TheVariants.{Opens, Closes, Fails, Passes}
use Rattle.mlir_lexer.specs.declared.body.BodyFault.{BodyFault}
use Rattle.mlir_lexer.specs.declared.body.BodyFault.TheVariants.{Unclosed, TooDeep, BadString}
use Rattle.mlir_lexer.specs.declared.token.TokenKind.{TokenKind}
use Rattle.mlir_lexer.specs.declared.token.TokenKind.TheVariants as k
use Rattle.mlir_tree.specs.Tree.{Ty, int, index, func, word, Tys, no_tys, ty_then}
use Rattle.mlir_print.specs.Text.{is_function, stands_bare}
use Rattle.mlir_attributes.specs.Place.{Place}
use Rattle.mlir_attributes.specs.KeptText.{Names, names, in_front, closers_after}
use Rattle.mlir_attributes.specs.Types.{max_open}
use Rattle.mlir_attributes.specs.Grammar.{IsSpelled, IsMark, IsBody}
use Rattle.mlir_attributes.specs.TypeGrammar.{IsKept, IsPlain, IsOne, IsTy, IsTys, IsMoreTys}
use Rattle.std.proofs.lemmas.Option.{none-some}
use Rattle.mlir_attributes.proofs.Bodies.{opens_inside}
use Rattle.round_trip.specs.Printable.{IsWholeBody, IsTypeWord, IsPrintableTy, ArePrintableTys}
use Rattle.round_trip.proofs.Bodies.{names_whole, used_none}
use Rattle.round_trip.proofs.BodyEnds.{Alone, ends_alone}
use Rattle.round_trip.proofs.Utf8.{AreAscii, ascii, both}

-- ---- tokens

pub form_of : (j : TokenKind) (text : List ℕ) (s r : Place) → j ≢ k.End → IsSpelled j text s r → HasForm j text
form_of j text s r other h = elim h.stands.token [
  | inl ends ↦ absurd (other (sym h.kind ∙ ends.kind))
  | inr is ↦ subst (λ i. HasForm i text) h.kind (subst (HasForm h.token.kind) h.text_is is.form)
]

pub same_text : (j : TokenKind) (text : List ℕ) (s r : Place) → IsSpelled j text s r → r.bytes ≡ s.bytes
same_text j text s r h = ap (λ (p : Place). p.bytes) (sym h.rest)

pub mark_text : (j : TokenKind) (s r : Place) → IsMark j s r → r.bytes ≡ s.bytes
mark_text j s r (text, h) = same_text j text s r h

-- ---- texts of tokens are UTF-8

word_low : (c : ℕ) → is_word_byte c ≡ true → c < 128
word_low c h = grind (arith, nat_tests)

start_low : (c : ℕ) → is_word_start c ≡ true → c < 128
start_low c h = grind (arith, nat_tests)

suffix_low : (c : ℕ) → is_suffix_byte c ≡ true → c < 128
suffix_low c h = grind (arith, nat_tests)

suffix_start_low : (c : ℕ) → is_suffix_start c ≡ true → c < 128
suffix_start_low c h = grind (arith, nat_tests)

digit_low : (c : ℕ) → is_digit c ≡ true → c < 128
digit_low c h = grind (arith, nat_tests)

class_ascii : (test : ℕ → Bool) (text : List ℕ) → ((c : ℕ) → test c ≡ true → c < 128) → AllAre test text → AreAscii text
class_ascii test [] low h = tt
class_ascii test (b ∷ text) low h = (low b h.0, class_ascii test text low h.1)

pub suffix_ascii : (xs : List ℕ) → IsSuffix xs → AreAscii xs
suffix_ascii [] h = absurd h
suffix_ascii (b ∷ xs) (inl all) = class_ascii is_digit (b ∷ xs) digit_low all
suffix_ascii (b ∷ xs) (inr (start, all)) = (suffix_start_low b start, class_ascii is_suffix_byte xs suffix_low all)

pub word_utf8 : (w : List ℕ) → HasForm k.Word w → IsUtf8 w
word_utf8 [] h = absurd h
word_utf8 (b ∷ w) h = ascii (b ∷ w) (start_low b h.0, class_ascii is_word_byte w word_low h.1)

pub bang_utf8 : (w : List ℕ) → HasForm k.Bang w → IsUtf8 w
bang_utf8 [] h = absurd h
bang_utf8 (b ∷ w) h = ascii (b ∷ w) (omega (arith, h.0), suffix_ascii w h.1)

pub hash_utf8 : (w : List ℕ) → HasForm k.Hash w → IsUtf8 w
hash_utf8 [] h = absurd h
hash_utf8 (b ∷ w) h = ascii (b ∷ w) (omega (arith, h.0), suffix_ascii w h.1)

-- ---- bodies

first_kept : (s : List ℕ) (n : ℕ) → slice_index (take (suc n) s) 0 ≡ slice_index s 0
first_kept [] n = refl
first_kept (d ∷ s) n = refl

abbrev told_text : List ℕ → Names → List ℕ
told_text t (Ok p) = p.0
told_text t (Err at) = t

-- What a body is whose text stands there.
record Whole (room : ℕ) (text : List ℕ) : Type 0 where
  is : IsWholeBody room text
  utf8 : IsUtf8 text

whole_by : (room : ℕ) (text : List ℕ) (s r : Place) → IsUtf8 s.bytes → (h : IsBody [] room text s r)
    → Alone (256 - (max_open - room)) (62 ∷ []) false 0 (h.token.start + 1) (drop (h.token.start + 1) s.bytes) h.end → Whole room text
whole_by room text s r utf8 h a =
    let at = h.token.start in
    let inside : at < length s.bytes = opens_inside s.bytes at h.opens in
    let bytes = and_parts (slice_index s.bytes at == 60) (not (slice_index s.bytes (at + 1) == 61)) h.opens in
    let first : slice_index s.bytes at ≡ 60 = eqb-true (slice_index s.bytes at) 60 bytes.0 in
    let more = take (suc a.last) (drop (at + 1) s.bytes) in
    let count : h.end - at ≡ suc (suc a.last) = omega (arith, a.is) in
    let slice : slice_range s.bytes at h.end ≡ 60 ∷ more =
    ap (λ n. take n (drop at s.bytes)) count ∙ ap (take (suc (suc a.last))) (drop_more s.bytes at 0 inside ∙ ap (λ c. c ∷ drop (at + 1) s.bytes) first) in
    let long : length more ≡ suc a.last = omega (arith, length-take (suc a.last) (drop (at + 1) s.bytes), a.inside) in
    let second : slice_index more 0 ≡ slice_index s.bytes (at + 1) =
    first_kept (drop (at + 1) s.bytes) a.last ∙ get_or-drop (at + 1) s.bytes 0 0 ∙ ap (slice_index s.bytes) (add-zero (at + 1)) in
    let limit = 256 - (max_open - room) in
    let alone : body limit (62 ∷ []) false 0 1 more ≡ Ok (1 + length more) = a.alone 1 ∙ ap (λ n. Ok (1 + n)) (sym long) in
    let stays = names_whole room s.put more 1 limit (62 ∷ []) false 0 1 (closers_after (effect_of 60 (slice_index more 0) false (innermost [])) 60 []) (60 == 45) alone in
    let kept : names [] room [] false 0 s.put 0 (60 ∷ more) ≡ Ok (60 ∷ more, s.put) = rw (used_none (60 ∷ more)) (ap (in_front (60 ∷ [])) stays) in
    let same : 60 ∷ more ≡ text = ap (told_text []) (sym kept ∙ ap (names [] room [] false 0 s.put 0) (sym slice) ∙ h.text_is) in
    let boundary = IsCharBoundary-before_ascii s.bytes at inside (omega (arith, first)) in
    let end_at : (at + 1) + a.last + 1 ≡ h.end = omega (arith, a.is) in
    let low : get_or s.bytes ((at + 1) + a.last) 0 < 128 = subst (λ n. n < 128) (get_or-drop (at + 1) s.bytes a.last 0) a.low in
    let last_inside : (at + 1) + a.last < length s.bytes = omega (arith, a.inside, length-drop (at + 1) s.bytes) in
    let text_utf8 : IsUtf8 (slice_range s.bytes at h.end) =
    IsUtf8-between s.bytes at h.end utf8 (omega (arith, a.is)) boundary (subst (λ n. IsCharBoundary s.bytes n) end_at (IsCharBoundary-after_ascii s.bytes ((at + 1) + a.last) utf8 last_inside low)) in
    record {
      is = subst (IsWholeBody room) same (record {
        opens = (λ j. true && not (second j == 61)) ∙ bytes.1;
        some = h.some;
        ends = alone ∙ ap (λ n. Ok n) (let e : 1 + length more ≡ length (60 ∷ more) = omega arith in e);
      });
      utf8 = subst IsUtf8 (slice ∙ same) text_utf8;
    }

pub whole_body : (room : ℕ) (text : List ℕ) (s r : Place) → IsUtf8 s.bytes → IsBody [] room text s r → IsWholeBody room text × IsUtf8 text
whole_body room text s r utf8 h =
    let w = whole_by room text s r utf8 h (ends_alone (256 - (max_open - room)) (drop (h.token.start + 1) s.bytes) (62 ∷ []) false 0 (h.token.start + 1) h.end h.ends) in
    (w.is, w.utf8)

pub body_text : (room : ℕ) (text : List ℕ) (s r : Place) → IsBody [] room text s r → r.bytes ≡ s.bytes
body_text room text s r h = ap (λ (p : Place). p.bytes) (sym h.rest)

-- ---- more room

abbrev End : Type 0
End = Result ℕ BodyFault

abbrev ends : ℕ → End
ends n = Ok n

abbrev pub Wider : ℕ → ℕ → ℕ → List ℕ → ℕ → Type 0
Wider small large at s e = (closers : List ℕ) (dash : Bool) (n : ℕ) → body small closers dash n at s ≡ ends e → body large closers dash n at s ≡ ends e

abbrev step_of : ℕ → ℕ → ℕ → List ℕ → List ℕ → Effect → Bool → Bool → End
step_of room at c closers s e full last =
    by_effect e (cond full (Err (TooDeep at)) (body room (closer c ∷ closers) (c == 45) 0 (at + 1) s))
    (cond last (ends (at + 1)) (body room (outer closers) (c == 45) 0 (at + 1) s))
    (Err (Unclosed at)) (body room closers (c == 45) 0 (at + 1) s)

wider_step : (small large at c : ℕ) (closers s : List ℕ) (e : ℕ) (effect : Effect) (full large_full last : Bool) → (full ≡ false → large_full ≡ false) → Wider small large (at + 1) s e
    → step_of small at c closers s effect full last ≡ ends e → step_of large at c closers s effect large_full last ≡ ends e
wider_step small large at c closers s e Opens true large_full last f go h = absurd (cc)
wider_step small large at c closers s e Opens false large_full last f go h = rw (f refl) (go (closer c ∷ closers) (c == 45) 0 h)
wider_step small large at c closers s e Closes full large_full true f go h = h
wider_step small large at c closers s e Closes full large_full false f go h = go (outer closers) (c == 45) 0 h
wider_step small large at c closers s e Fails full large_full last f go h = absurd (cc)
wider_step small large at c closers s e Passes full large_full last f go h = go closers (c == 45) 0 h

abbrev string_step : ℕ → ℕ → List ℕ → List ℕ → Option ℕ → End
string_step room at closers s o = option_map_or (λ end. body room closers false (end - (at + 1)) (at + 1) s) o (Err (BadString at))

wider_string : (small large at : ℕ) (closers s : List ℕ) (e : ℕ) (o : Option ℕ) → Wider small large (at + 1) s e → string_step small at closers s o ≡ ends e → string_step large at closers s o ≡ ends e
wider_string small large at closers s e None go h = absurd (cc)
wider_string small large at closers s e (Some end) go h = go closers false (end - (at + 1)) h

still_room : (small large n : ℕ) → small ≤ large → nat_le small n ≡ false → nat_le large n ≡ false
still_room small large n le h = lt-leb large n (omega (arith, leb-false small n h, le))

wider_either : (small large at c : ℕ) (closers s : List ℕ) (dash : Bool) (e : ℕ) (quote : Bool) → small ≤ large → Wider small large (at + 1) s e
    → cond quote (string_step small at closers s (string_end at (c ∷ s))) (step_of small at c closers s (effect_of c (slice_index s 0) dash (innermost closers)) (nat_le small (length closers)) (nat_le (length closers) 1)) ≡ ends e
    → cond quote (string_step large at closers s (string_end at (c ∷ s))) (step_of large at c closers s (effect_of c (slice_index s 0) dash (innermost closers)) (nat_le large (length closers)) (nat_le (length closers) 1)) ≡ ends e
wider_either small large at c closers s dash e true le go h = wider_string small large at closers s e (string_end at (c ∷ s)) go h
wider_either small large at c closers s dash e false le go h =
    wider_step small large at c closers s e (effect_of c (slice_index s 0) dash (innermost closers)) (nat_le small (length closers)) (nat_le large (length closers)) (nat_le (length closers) 1) (still_room small large (length closers) le) go h

pub wider : (small large : ℕ) → small ≤ large → (s : List ℕ) (at e : ℕ) → Wider small large at s e
wider small large le [] at e closers dash n h = absurd (cc)
wider small large le (c ∷ s) at e closers dash (suc n) h = wider small large le s (at + 1) e closers false n h
wider small large le (c ∷ s) at e closers dash zero h = wider_either small large at c closers s dash e (c == 34) le (wider small large le s (at + 1) e) h

wider_body : (room : ℕ) (text : List ℕ) → IsWholeBody room text → IsWholeBody (suc room) text
wider_body room text h = record {
  opens = h.opens;
  some = omega arith;
  ends = wider (256 - (max_open - room)) (256 - (max_open - suc room)) (omega arith) (drop 1 text) 1 (length text) (62 ∷ []) false 0 h.ends;
}

wider_word : (room : ℕ) (text : List ℕ) → IsTypeWord room text → IsTypeWord (suc room) text
wider_word room text (inl h) = inl h
wider_word room text (inr (inl h)) = inr (inl h)
wider_word room text (inr (inr (front, body, is, whole, same))) = inr (inr (front, body, is, wider_body room body whole, same))

-- a type that is no function type is printable where more brackets may be opened too
wider_type : (room : ℕ) (t : Ty) → is_function t ≡ false → IsPrintableTy room t → IsPrintableTy (suc room) t
wider_type room (int g w) other h = h
wider_type room index other h = tt
wider_type room (word text) other h = (wider_word room text h.0, h.1)
wider_type room (func xs ys) other h = absurd (cc)

-- ---- types

kept_printable : (room : ℕ) (text : List ℕ) (s r : Place) → IsUtf8 s.bytes → IsKept [] room text s r → IsPrintableTy room (word text) × (r.bytes ≡ s.bytes)
kept_printable room text s r utf8 (inl (there, plain, alone)) =
    let form = form_of k.Word text s r (λ e. cc) there in ((inl (form, plain), word_utf8 text form), same_text k.Word text s r there)
kept_printable room text s r utf8 (inr (inl (there, point, alone))) =
    let form = form_of k.Bang text s r (λ e. cc) there in ((inr (inl (form, point)), bang_utf8 text form), same_text k.Bang text s r there)
kept_printable room text s r utf8 (inr (inr h)) = elim h.begins [
  | inl (there, other) ↦
      let form = form_of k.Word h.front s h.between (λ e. cc) there in
      let same = same_text k.Word h.front s h.between there in
      let w = whole_body room h.body h.between r (subst IsUtf8 (sym same) utf8) h.goes_on in
      ((inr (inr (h.front, h.body, inl (form, other), w.0, h.text_is)), subst IsUtf8 h.text_is (both (word_utf8 h.front form) w.1)), body_text room h.body h.between r h.goes_on ∙ same)
  | inr there ↦
      let form = form_of k.Bang h.front s h.between (λ e. cc) there in
      let same = same_text k.Bang h.front s h.between there in
      let w = whole_body room h.body h.between r (subst IsUtf8 (sym same) utf8) h.goes_on in
      ((inr (inr (h.front, h.body, inr form, w.0, h.text_is)), subst IsUtf8 h.text_is (both (bang_utf8 h.front form) w.1)), body_text room h.body h.between r h.goes_on ∙ same)
]

abbrev pub IsFine : ℕ → Ty → Place → Place → Type 0
IsFine room t s r = IsPrintableTy room t × (r.bytes ≡ s.bytes)

pub plain_printable : (room : ℕ) (t : Ty) (s r : Place) → IsUtf8 s.bytes → IsPlain [] room s t r → (is_function t ≡ false) × IsFine room t s r
plain_printable room t s r utf8 (inr (a, used, plain, alone, means)) = absurd (none-some a used.defined)
plain_printable room (int g w) s r utf8 (inl (text, there, is, small, alone)) = (refl, (small, same_text k.Word text s r there))
plain_printable room index s r utf8 (inl (there, alone)) = (refl, (tt, same_text k.Word _ s r there))
plain_printable room (func xs ys) s r utf8 (inl h) = absurd h
plain_printable room (word text) s r utf8 (inl h) = (refl, kept_printable room text s r utf8 h)

one_printable : (room : ℕ) (ys : Tys) (s r : Place) → IsUtf8 s.bytes → IsOne [] room s ys r → (stands_bare ys ≡ true) × ArePrintableTys room ys × (r.bytes ≡ s.bytes)
one_printable room no_tys s r utf8 h = absurd h
one_printable room (ty_then t no_tys) s r utf8 h = let (other, fine) = plain_printable room t s r utf8 h in (ap not other, (fine.0, tt), fine.1)
one_printable room (ty_then t (ty_then u us)) s r utf8 h = absurd h

not_true : (b : Bool) → not b ≡ true → b ≡ false
not_true true h = absurd (cc)
not_true false h = refl

-- results in brackets, which are printed bare where they may
pub listed_results : (room : ℕ) (ys : Tys) (bare : Bool) → stands_bare ys ≡ bare → ArePrintableTys room ys → ArePrintableTys (if bare then suc room else room) ys
listed_results room ys false is h = h
listed_results room no_tys true is h = tt
listed_results room (ty_then t no_tys) true is h = (wider_type room t (not_true (is_function t) is) h.0, tt)
listed_results room (ty_then t (ty_then u us)) true is h = absurd (cc)

mutual
  pub ty_printable : (room : ℕ) (t : Ty) (s r : Place) → IsUtf8 s.bytes → IsTy [] room s t r → IsFine room t s r
  ty_printable room (int g w) s r utf8 h = (plain_printable room (int g w) s r utf8 h).1
  ty_printable room index s r utf8 h = (plain_printable room index s r utf8 h).1
  ty_printable room (word text) s r utf8 h = (plain_printable room (word text) s r utf8 h).1
  ty_printable zero (func xs ys) s r utf8 h = (plain_printable zero (func xs ys) s r utf8 h).1
  ty_printable (suc room) (func xs ys) s r utf8 (inl h) = (plain_printable (suc room) (func xs ys) s r utf8 h).1
  ty_printable (suc room) (func xs ys) s r utf8 (inr (s1, s2, s3, s4, left, from, right, arrow, inl one)) =
      let e1 = mark_text k.LeftParen s s1 left in
      let (xs_fine, e2) = tys_printable room xs s1 s2 (subst IsUtf8 (sym e1) utf8) from in
      let e3 = mark_text k.RightParen s2 s3 right in
      let e4 = mark_text k.Arrow s3 s4 arrow in
      let (bare, ys_fine, e5) = one_printable (suc room) ys s4 r (subst IsUtf8 (sym (e4 ∙ e3 ∙ e2 ∙ e1)) utf8) one in
      ((xs_fine, subst (λ b. ArePrintableTys (if b then suc room else room) ys) (sym bare) ys_fine), e5 ∙ e4 ∙ e3 ∙ e2 ∙ e1)
  ty_printable (suc room) (func xs ys) s r utf8 (inr (s1, s2, s3, s4, left, from, right, arrow, inr (s5, s6, open_mark, to, close_mark))) =
      let e1 = mark_text k.LeftParen s s1 left in
      let (xs_fine, e2) = tys_printable room xs s1 s2 (subst IsUtf8 (sym e1) utf8) from in
      let e3 = mark_text k.RightParen s2 s3 right in
      let e4 = mark_text k.Arrow s3 s4 arrow in
      let e5 = mark_text k.LeftParen s4 s5 open_mark in
      let (ys_fine, e6) = tys_printable room ys s5 s6 (subst IsUtf8 (sym (e5 ∙ e4 ∙ e3 ∙ e2 ∙ e1)) utf8) to in
      ((xs_fine, listed_results room ys (stands_bare ys) refl ys_fine), mark_text k.RightParen s6 r close_mark ∙ e6 ∙ e5 ∙ e4 ∙ e3 ∙ e2 ∙ e1)

  pub tys_printable : (room : ℕ) (ts : Tys) (s r : Place) → IsUtf8 s.bytes → IsTys [] room s ts r → ArePrintableTys room ts × (r.bytes ≡ s.bytes)
  tys_printable room no_tys s r utf8 h = (tt, ap (λ (p : Place). p.bytes) (sym h))
  tys_printable room (ty_then t ts) s r utf8 (s1, one, more) =
      let (fine, e1) = ty_printable room t s s1 utf8 one in
      let (rest, e2) = more_printable room ts s1 r (subst IsUtf8 (sym e1) utf8) more in
      ((fine, rest), e2 ∙ e1)

  more_printable : (room : ℕ) (ts : Tys) (s r : Place) → IsUtf8 s.bytes → IsMoreTys [] room s ts r → ArePrintableTys room ts × (r.bytes ≡ s.bytes)
  more_printable room no_tys s r utf8 h = (tt, ap (λ (p : Place). p.bytes) (sym h))
  more_printable room (ty_then t ts) s r utf8 (s1, s2, comma, one, more) =
      let e0 = mark_text k.Comma s s1 comma in
      let (fine, e1) = ty_printable room t s1 s2 (subst IsUtf8 (sym e0) utf8) one in
      let (rest, e2) = more_printable room ts s2 r (subst IsUtf8 (sym (e1 ∙ e0)) utf8) more in
      ((fine, rest), e2 ∙ e1 ∙ e0)
