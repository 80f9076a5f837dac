-- The token and the faults at a place.
use Rattle.std.proofs.Common.{◌≡◌, ℕ, ◌+◌, ◌-◌, ◌<◌, ◌≤◌, List, [], ◌∷◌, ◌++◌, length, take, drop, get_or, refl, ap, sym, subst, ◌∙◌, arith, inl, inr, length-drop, add-zero, Ok, Err, Some, None, Option}
use Rattle.std.specs.Prelude.{◌⊎◌, slice_range, IfOk}
use Rattle.std.proofs.lemmas.Bool.{cases_lt}
use Rattle.std.proofs.lemmas.List.{drop_more, drop_all, get_or-drop, get_or_past}
use Rattle.text_scan.specs.Longest.{IsLongest}
use Rattle.text_scan.specs.Gaps.{IsGap}
use Rattle.text_scan.specs.Strings.{IsStringAt, string_end}
use Rattle.text_scan.proofs.Fronts.{front_part, part_front}
use Rattle.text_scan.proofs.StringLaws.{string_covers, string_front}
use Rattle.pdll_lexer.specs.Forms.{HasForm, IsTokenText}
use Rattle.pdll_lexer.specs.Scan.{Outcome, first_token}
use Rattle.pdll_lexer.specs.Tokens.{IsToken, IsLongestToken, IsBadByte, IsBadString}
use Rattle.pdll_lexer.specs.declared.token.Token.{Token}
use Rattle.pdll_lexer.specs.declared.token.TokenKind.{TokenKind}
use Rattle.pdll_lexer.specs.declared.token.TokenKind.TheVariants as kind
use Rattle.pdll_lexer.specs.declared.token.LexFault.{LexFault}
use Rattle.pdll_lexer.specs.declared.token.LexFault.TheVariants.{BadByte, BadString}
use Rattle.pdll_lexer.proofs.Covers.{Covers, covers}
use Rattle.pdll_lexer.proofs.Sound.{Judged, Stands, first_judged}

-- a text has one longest gap
longest_same : (Form : List ℕ → Type 0) (bytes : List ℕ) (at m n : ℕ) → IsLongest Form bytes at m → IsLongest Form bytes at n → m ≡ n
longest_same Form bytes at m n h k =
    let up = h.longest n k.within k.form in let down = k.longest m h.within h.form in omega arith

abbrev outcome : List ℕ → ℕ → Outcome
outcome bytes start = first_token start (drop start bytes)

covers_part : (bytes : List ℕ) (start end : ℕ) (k : TokenKind) → start ≤ end → end ≤ length bytes → HasForm k (slice_range bytes start end) → Covers k start (length (slice_range bytes start end)) (outcome bytes start)
covers_part bytes start end k order within form =
    let (split, len) = part_front bytes start end order within in
    subst (λ s. Covers k start (length (slice_range bytes start end)) (first_token start s)) (sym split) (covers k start (slice_range bytes start end) (drop end bytes) form)

covers_empty : (bytes : List ℕ) (start : ℕ) (k : TokenKind) → HasForm k [] → Covers k start 0 (outcome bytes start)
covers_empty bytes start k form = covers k start [] (drop start bytes) form

empty_part : (bytes : List ℕ) (start end : ℕ) → end ≤ start → slice_range bytes start end ≡ []
empty_part bytes start end h = ap (λ n. take n (drop start bytes)) (let e : end - start ≡ 0 = omega arith in e)

longest_by : (bytes : List ℕ) (start other : ℕ) (t : Token) → outcome bytes start ≡ Ok t → start ≤ t.end → other ≤ length bytes → IsTokenText (slice_range bytes start other) → other ≤ t.end
longest_by bytes start other t is order inside (k, form) =
    elim (cases_lt other start) [
      | inl less ↦ omega arith
      | inr more ↦
          let most = subst (Covers k start (length (slice_range bytes start other))) is (covers_part bytes start other k more inside form) in
          let len = (part_front bytes start other more inside).1 in
          omega (arith, most.0, len)
    ]

token_found : (bytes : List ℕ) (at start : ℕ) (t : Token) → IsLongest IsGap bytes at start → outcome bytes start ≡ Ok t → t.start ≡ start → (front rest : List ℕ) × HasForm t.kind front × (drop start bytes ≡ front ++ rest) × (t.end ≡ start + length front) → IsLongestToken bytes t
token_found bytes at start t gap is same (front, rest, form, e, place) =
    let (part, fits) = front_part bytes start front rest gap.within e in
    let text : slice_range bytes t.start t.end ≡ front = rw (same, place) part in
    let has : HasForm t.kind (slice_range bytes t.start t.end) = rw text form in
    record {
      form = has;
      longest = record {
        in_order = omega (arith, place, same);
        within = omega (arith, place, fits);
        form = (t.kind, has);
        longest = λ other inside other_form.
            longest_by bytes start other t is (omega (arith, place)) inside (subst (λ n. IsTokenText (slice_range bytes n other)) same other_form);
      };
    }

nothing_left : (bytes : List ℕ) (start : ℕ) → start ≤ length bytes → drop start bytes ≡ [] → start ≡ length bytes
nothing_left bytes start within e = omega (arith, length-drop start bytes, ap length e)

-- what is found is the token there
pub token_is : (bytes : List ℕ) (at start : ℕ) (t : Token) → IsLongest IsGap bytes at start → outcome bytes start ≡ Ok t → IsToken bytes at t
token_is bytes at start t gap is =
    let (same, cases) = subst (Judged start (drop start bytes)) is (first_judged start (drop start bytes)) in
    record {
      gap = rw same gap;
      token = elim cases [
        | inl (no_more, empty, end) ↦ inl (record { kind = no_more; start = same ∙ nothing_left bytes start gap.within empty; end = end ∙ nothing_left bytes start gap.within empty })
        | inr found ↦ inr (token_found bytes at start t gap is same found)
      ];
    }

token_same : (t : Token) (k : TokenKind) (a b : ℕ) → t.kind ≡ k → t.start ≡ a → t.end ≡ b → record { kind = k; start = a; end = b } ≡ t
token_same t k a b kind start end = rw (← kind, ← start, ← end) refl

same_token : (t u : Token) → t.kind ≡ u.kind → t.start ≡ u.start → t.end ≡ u.end → t ≡ u
same_token t u kind start end = sym (token_same t u.kind u.start u.end kind start end)

no_end : (k : TokenKind) (text : List ℕ) → k ≡ kind.End → HasForm k text → ⊥
no_end k text e form = subst (λ j. HasForm j text) e form

only_found : (bytes : List ℕ) (start : ℕ) (t u : Token) → start ≤ length bytes → t.start ≡ start → IsLongestToken bytes t → Stands start (drop start bytes) u → Covers t.kind start (length (slice_range bytes start t.end)) (Ok u) → u ≡ t
only_found bytes start t u within same h (place, cases) cover =
    let longest = subst (λ n. IsLongest IsTokenText bytes n t.end) same h.longest in
    let len = (part_front bytes start t.end longest.in_order longest.within).1 in
    elim cases [
      | inl (ends, empty, end) ↦ absurd (no_end t.kind (slice_range bytes t.start t.end) (sym (cover.1 (let e = cover.0 in omega (arith, len, end, longest.in_order))) ∙ ends) h.form)
      | inr (front, rest, form, e, end) ↦
          let (part, fits) = front_part bytes start front rest within e in
          let most = longest.longest u.end (omega (arith, end, fits)) (u.kind, rw (end, part) form) in
          let both : start + length (slice_range bytes start t.end) ≡ u.end = (let k = cover.0 in omega (arith, len, most)) in
          same_token u t (cover.1 both) (place ∙ sym same) (sym both ∙ len)
    ]

only_by : (bytes : List ℕ) (start : ℕ) (t : Token) (o : Outcome) → start ≤ length bytes → t.start ≡ start → IsLongestToken bytes t → Judged start (drop start bytes) o → Covers t.kind start (length (slice_range bytes start t.end)) o → o ≡ Ok t
only_by bytes start t (Ok u) within same h stands cover = ap Ok (only_found bytes start t u within same h stands cover)
only_by bytes start t (Err e) within same h stands cover = absurd cover

-- the token there is what is found
pub token_only : (bytes : List ℕ) (at start : ℕ) (t : Token) → IsLongest IsGap bytes at start → IsToken bytes at t → outcome bytes start ≡ Ok t
token_only bytes at start t gap h =
    let same = longest_same IsGap bytes at t.start start h.gap gap in
    elim h.token [
      | inl ended ↦
          let all : start ≡ length bytes = sym same ∙ ended.start in
          let empty : drop start bytes ≡ [] = drop_all start bytes (omega (arith, all)) in
          ap (first_token start) empty ∙ ap Ok (token_same t kind.End start (start + 0) ended.kind same (ended.end ∙ sym all ∙ sym (add-zero start)))
      | inr longest ↦
          let from_start = subst (λ n. IsLongest IsTokenText bytes n t.end) same longest.longest in
          only_by bytes start t (outcome bytes start) gap.within same longest (first_judged start (drop start bytes))
          (covers_part bytes start t.end t.kind from_start.in_order from_start.within (subst (λ n. HasForm t.kind (slice_range bytes n t.end)) same longest.form))
    ]

-- faults

first_byte : (bytes : List ℕ) (start : ℕ) → get_or (drop start bytes) 0 0 ≡ get_or bytes start 0
first_byte bytes start = get_or-drop start bytes 0 0 ∙ ap (λ n. get_or bytes n 0) (add-zero start)

some_place : (bytes : List ℕ) (p b : ℕ) → get_or bytes p 0 ≡ b → 0 < b → p < length bytes
some_place bytes p b e some =
    elim (cases_lt p (length bytes)) [ inl less ↦ less | inr past ↦ absurd (let k = get_or_past bytes p 0 past in omega arith) ]

abbrev some_len : ℕ → Option ℕ
some_len n = Some n

none_some : (n : ℕ) → None ≡ some_len n → ⊥
none_some n h = cc

-- no string stands where none is found
none_stands : (bytes : List ℕ) (p end : ℕ) → string_end 0 (drop p bytes) ≡ None → IsStringAt bytes p end → ⊥
none_stands bytes p end none h =
    let split = (part_front bytes p end h.in_order h.within).0 in
    none_some (0 + length (slice_range bytes p end)) (sym none ∙ ap (string_end 0) split ∙ string_covers (slice_range bytes p end) (drop end bytes) 0 h.string)

-- a quote stands there, and no string begins at it
abbrev BreaksOff : List ℕ → ℕ → Type 0
BreaksOff bytes p = (get_or bytes p 0 ≡ 34) × ((end : ℕ) → ¬ IsStringAt bytes p end)

none_by : (bytes : List ℕ) (p : ℕ) (o : Option ℕ) → p ≤ length bytes → BreaksOff bytes p → string_end 0 (drop p bytes) ≡ o → o ≡ None
none_by bytes p None within h is = refl
none_by bytes p (Some n) within h is =
    let (front, rest, form, e, len) = string_front (drop p bytes) 0 n is in
    let (part, fits) = front_part bytes p front rest within e in
    absurd (h.1 (p + length front) (record { in_order = omega arith; within = fits; string = rw part form }))

none_found : (bytes : List ℕ) (p : ℕ) → BreaksOff bytes p → string_end 0 (drop p bytes) ≡ None
none_found bytes p h =
    let inside = some_place bytes p 34 h.0 (omega arith) in none_by bytes p (string_end 0 (drop p bytes)) (omega arith) h refl

pub bad_string_is : (bytes : List ℕ) (at start p : ℕ) → IsLongest IsGap bytes at start → outcome bytes start ≡ Err (BadString p) → IsBadString bytes at p
bad_string_is bytes at start p gap is =
    let (place, quote, none) = subst (Judged start (drop start bytes)) is (first_judged start (drop start bytes)) in
    rw place (record {
      gap = gap;
      quote = sym (first_byte bytes start) ∙ quote;
      broken = λ end h. none_stands bytes start end none h;
    })

quote_read : (bytes : List ℕ) (start : ℕ) → BreaksOff bytes start → outcome bytes start ≡ Err (BadString start)
quote_read bytes start h =
    let inside = some_place bytes start 34 h.0 (omega arith) in
    let text : drop start bytes ≡ 34 ∷ drop (start + 1) bytes = drop_more bytes start 0 inside ∙ ap (λ b. b ∷ drop (start + 1) bytes) h.0 in
    let none : string_end 0 (34 ∷ drop (start + 1) bytes) ≡ None = ap (string_end 0) (sym text) ∙ none_found bytes start h in
    ap (first_token start) text ∙ rw none refl

pub bad_string_only : (bytes : List ℕ) (at start p : ℕ) → IsLongest IsGap bytes at start → IsBadString bytes at p → outcome bytes start ≡ Err (BadString p)
bad_string_only bytes at start p gap h =
    let same = longest_same IsGap bytes at p start h.gap gap in
    quote_read bytes start (subst (BreaksOff bytes) same (h.quote, h.broken)) ∙ ap (λ n. Err (BadString n)) (sym same)

no_cover : (bytes : List ℕ) (start p end : ℕ) (e : LexFault) → outcome bytes start ≡ Err e → end ≤ length bytes → IsTokenText (slice_range bytes start end) → ⊥
no_cover bytes start p end e is inside (k, form) =
    elim (cases_lt end start) [
      | inl less ↦ subst (Covers k start 0) is (covers_empty bytes start k (subst (HasForm k) (empty_part bytes start end (omega arith)) form))
      | inr more ↦ subst (Covers k start (length (slice_range bytes start end))) is (covers_part bytes start end k more inside form)
    ]

pub bad_byte_is : (bytes : List ℕ) (at start p : ℕ) → IsLongest IsGap bytes at start → outcome bytes start ≡ Err (BadByte p) → IsBadByte bytes at p
bad_byte_is bytes at start p gap is =
    let (place, some, quote) = subst (Judged start (drop start bytes)) is (first_judged start (drop start bytes)) in
    rw place (record {
      gap = gap;
      inside = omega (arith, some, length-drop start bytes);
      no_token = λ end inside text. no_cover bytes start p end (BadByte p) is inside text;
      no_quote = λ e. quote (first_byte bytes start ∙ e);
    })

bad_byte_by : (bytes : List ℕ) (start p : ℕ) (at : ℕ) (o : Outcome) → p ≡ start → IsBadByte bytes at p → Judged start (drop start bytes) o → o ≡ Err (BadByte p)
bad_byte_by bytes start p at (Ok u) same h (place, inl (ends, empty, end)) =
    absurd (let inside = h.inside in omega (arith, length-drop start bytes, ap length empty, same))
bad_byte_by bytes start p at (Ok u) same h (place, inr (front, rest, form, e, end)) =
    let inside = h.inside in
    let (part, fits) = front_part bytes start front rest (omega (arith, same)) e in
    let text : IsTokenText (slice_range bytes start (start + length front)) = (u.kind, rw part form) in
    absurd (h.no_token (start + length front) fits (subst (λ n. IsTokenText (slice_range bytes n (start + length front))) (sym same) text))
bad_byte_by bytes start p at (Err (BadByte q)) same h (place, some, quote) = ap (λ n. Err (BadByte n)) (place ∙ sym same)
bad_byte_by bytes start p at (Err (BadString q)) same h (place, quote, none) =
    absurd (h.no_quote (ap (λ n. get_or bytes n 0) same ∙ sym (first_byte bytes start) ∙ quote))

pub bad_byte_only : (bytes : List ℕ) (at start p : ℕ) → IsLongest IsGap bytes at start → IsBadByte bytes at p → outcome bytes start ≡ Err (BadByte p)
bad_byte_only bytes at start p gap h =
    bad_byte_by bytes start p at (outcome bytes start) (longest_same IsGap bytes at p start h.gap gap) h (first_judged start (drop start bytes))

-- what a caller goes on with

part_some : (k : TokenKind) (text : List ℕ) → HasForm k text → 0 < length text
part_some k text form = some_by k text form (covers k 0 text [] form)
  where
    some_by : (k : TokenKind) (text : List ℕ) → HasForm k text → Covers k 0 (length text) (first_token 0 (text ++ [])) → 0 < length text
    some_by k [] form cover = absurd (no_end k [] (sym (cover.1 refl)) form)
    some_by k (b ∷ text) form cover = omega arith

abbrev GoesOn : List ℕ → ℕ → Token → Type 0
GoesOn bytes at t = (at ≤ t.start) × (t.start ≤ t.end) × (t.end ≤ length bytes) × ((t.kind ≡ kind.End) ⊎ (t.start < t.end))

pub goes_on : (bytes : List ℕ) (at : ℕ) (t : Token) → IsToken bytes at t → GoesOn bytes at t
goes_on bytes at t h =
    elim h.token [
      | inl ended ↦ (h.gap.in_order, omega (arith, ended.start, ended.end), omega (arith, ended.end), inl ended.kind)
      | inr longest ↦
          let range = longest.longest in
          let some = part_some t.kind (slice_range bytes t.start t.end) longest.form in
          (h.gap.in_order, range.in_order, range.within, inr (omega (arith, some, (part_front bytes t.start t.end range.in_order range.within).1)))
    ]

-- the clauses on the answer, by cases

pub found_only : (bytes : List ℕ) (at start : ℕ) (o : Outcome) → IsLongest IsGap bytes at start → o ≡ outcome bytes start → IfOk o (λ t. IsToken bytes at t)
found_only bytes at start (Ok t) gap is = token_is bytes at start t gap (sym is)
found_only bytes at start (Err e) gap is = tt

pub order_only : (bytes : List ℕ) (at start : ℕ) (o : Outcome) → IsLongest IsGap bytes at start → o ≡ outcome bytes start → IfOk o (λ t. (at ≤ t.start) × (t.start ≤ t.end) × (t.end ≤ length bytes))
order_only bytes at start (Ok t) gap is = let (from, order, within, some) = goes_on bytes at t (token_is bytes at start t gap (sym is)) in (from, order, within)
order_only bytes at start (Err e) gap is = tt

pub some_only : (bytes : List ℕ) (at start : ℕ) (o : Outcome) → IsLongest IsGap bytes at start → o ≡ outcome bytes start → IfOk o (λ t. (t.kind ≡ kind.End) ⊎ (t.start < t.end))
some_only bytes at start (Ok t) gap is = let (from, order, within, some) = goes_on bytes at t (token_is bytes at start t gap (sym is)) in some
some_only bytes at start (Err e) gap is = tt
