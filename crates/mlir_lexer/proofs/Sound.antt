-- The token that the scan finds has the form of its kind, and each fault stands where it says.
use Rattle.std.proofs.Common.{◌≡◌, ◌≢◌, ℕ, zero, suc, ◌+◌, ◌<◌, Bool, true, false, cond, List, [], ◌∷◌, ◌++◌, length, take, drop, get_or, refl, ap, sym, subst, ◌∙◌, arith, add-zero, inl, inr, append_assoc, length-append, length-take-le, eqb-true, Ok, Err, Some, None, Option}
use Rattle.std.specs.Prelude.{◌==◌, ◌&&◌, ◌⊎◌, slice_index}
use Rattle.std.specs.Option.{option_map_or}
use Rattle.std.specs.List.{prefix_len}
use Rattle.std.proofs.lemmas.Bool.{and_parts, true≢false, false≢true, eqb-false, cases_lt}
use Rattle.std.proofs.lemmas.List.{drop_at, take-append-drop, drop_more, get_or_past}
use Rattle.std.proofs.lemmas.List.Sums.{prefix_len-le-length}
use Rattle.text_scan.specs.Bytes.{AllAre, is_in, is_digit, is_word_start}
use Rattle.text_scan.specs.Hexadecimal.{is_hex_digit}
use Rattle.byte_lanes.specs.declared.class.Class.TheVariants as class
use Rattle.text_scan.specs.Strings.{IsString, string_end}
use Rattle.text_scan.proofs.Runs.{AllAre-run}
use Rattle.text_scan.proofs.StringLaws.{string_front}
use Rattle.mlir_lexer.specs.Forms.{AreSome, IsSuffix, IsSignedDigits, IsExponent, IsFloat, HasForm, is_suffix_start, is_exponent_mark, is_sign}
use Rattle.mlir_lexer.specs.Scan.{Outcome, token, digits, suffix_len, behind, exponent_len, fraction_len, hex_len, number, string, suffixed, symbol, suffixed_kind, mark_kind, mark, first_token}
use Rattle.mlir_lexer.specs.declared.token.Token.{Token}
use Rattle.mlir_lexer.specs.declared.token.TokenKind.{TokenKind}
use Rattle.mlir_lexer.specs.declared.token.TokenKind.TheVariants as kind
use Rattle.mlir_lexer.specs.declared.token.LexFault.TheVariants.{BadByte, BadString}

-- a text of this form is at the front, and this long
abbrev pub Begins : (List ℕ → Type 0) → List ℕ → ℕ → Type 0
Begins Form s n = (front rest : List ℕ) × Form front × (s ≡ front ++ rest) × (length front ≡ n)

-- the token at the front of what is left, or the end
abbrev pub Stands : ℕ → List ℕ → Token → Type 0
Stands at s t =
    (t.start ≡ at) × (((t.kind ≡ kind.End) × (s ≡ []) × (t.end ≡ at)) ⊎ ((front rest : List ℕ) × HasForm t.kind front × (s ≡ front ++ rest) × (t.end ≡ at + length front)))

-- what each answer says of the text
abbrev pub Judged : ℕ → List ℕ → Outcome → Type 0
Judged at s (Ok t) = Stands at s t
Judged at s (Err (BadByte p)) = (p ≡ at) × (0 < length s) × (get_or s 0 0 ≢ 34) × (get_or s 0 0 ≡ 64 → get_or s 1 0 ≢ 34)
Judged at s (Err (BadString p)) =
    ((p ≡ at) × (get_or s 0 0 ≡ 34) × (string_end 0 s ≡ None)) ⊎ ((p ≡ at + 1) × (get_or s 0 0 ≡ 64) × (get_or s 1 0 ≡ 34) × (string_end 0 (drop 1 s) ≡ None))

judged : (k : TokenKind) (at n : ℕ) (s : List ℕ) → Begins (HasForm k) s n → Judged at s (token k at n)
judged k at n s (front, rest, form, e, len) = (refl, inr (front, rest, form, e, omega (arith, len)))

run_begins : (p : ℕ → Bool) (s : List ℕ) → Begins (AllAre p) s (prefix_len p s)
run_begins p s =
    (take (prefix_len p s) s, drop (prefix_len p s) s, AllAre-run p s, sym (take-append-drop (prefix_len p s) s), length-take-le (prefix_len p s) s (prefix_len-le-length p s))

longer : (F G : List ℕ → Type 0) (b : ℕ) (s : List ℕ) (n : ℕ) → ((xs : List ℕ) → F xs → G (b ∷ xs)) → Begins F s n → Begins G (b ∷ s) (1 + n)
longer F G b s n change (front, rest, form, e, len) = (b ∷ front, rest, change front form, ap (λ t. b ∷ t) e, omega (arith, len))

changed : (F G : List ℕ → Type 0) (s : List ℕ) (n : ℕ) → ((xs : List ℕ) → F xs → G xs) → Begins F s n → Begins G s n
changed F G s n change (front, rest, form, e, len) = (front, rest, change front form, e, len)

word_judged : (at b : ℕ) (s : List ℕ) → is_word_start b ≡ true → Judged at (b ∷ s) (token kind.Word at (1 + prefix_len (is_in class.Word) s))
word_judged at b s start =
    judged kind.Word at (1 + prefix_len (is_in class.Word) s) (b ∷ s)
    (longer (AllAre (is_in class.Word)) (HasForm kind.Word) b s (prefix_len (is_in class.Word) s) (λ xs all. (start, all)) (run_begins (is_in class.Word) s))

-- suffixes

suffix_by : (b : ℕ) (s : List ℕ) (p q : Bool) → is_digit b ≡ p → is_suffix_start b ≡ q → 0 < cond p (1 + digits s) (cond q (1 + prefix_len (is_in class.Suffix) s) 0) → Begins IsSuffix (b ∷ s) (cond p (1 + digits s) (cond q (1 + prefix_len (is_in class.Suffix) s) 0))
suffix_by b s true q digit start some =
    longer (AllAre is_digit) IsSuffix b s (digits s) (λ xs all. inl (digit, all)) (run_begins is_digit s)
suffix_by b s false true digit start some =
    longer (AllAre (is_in class.Suffix)) IsSuffix b s (prefix_len (is_in class.Suffix) s) (λ xs all. inr (start, all)) (run_begins (is_in class.Suffix) s)
suffix_by b s false false digit start some = absurd (omega arith)

suffix_begins : (s : List ℕ) → 0 < suffix_len s → Begins IsSuffix s (suffix_len s)
suffix_begins [] some = absurd (omega arith)
suffix_begins (b ∷ s) some = suffix_by b s (is_digit b) (is_suffix_start b) refl refl some

more_than_none : (n : ℕ) → n == 0 ≡ false → 0 < n
more_than_none zero h = absurd (true≢false h)
more_than_none (suc n) h = omega arith

suffixed_by : (k : TokenKind) (at b : ℕ) (s : List ℕ) (p : Bool) → suffix_len s == 0 ≡ p → ((xs : List ℕ) → IsSuffix xs → HasForm k (b ∷ xs)) → b ≢ 34 → (b ≡ 64 → get_or s 0 0 ≢ 34) → Judged at (b ∷ s) (cond p (Err (BadByte at)) (token k at (1 + suffix_len s)))
suffixed_by k at b s true is form quote symbol = (refl, omega arith, quote, symbol)
suffixed_by k at b s false is form quote symbol =
    judged k at (1 + suffix_len s) (b ∷ s) (longer IsSuffix (HasForm k) b s (suffix_len s) form (suffix_begins s (more_than_none (suffix_len s) is)))

suffixed_judged : (k : TokenKind) (at b : ℕ) (s : List ℕ) → ((xs : List ℕ) → IsSuffix xs → HasForm k (b ∷ xs)) → b ≢ 34 → (b ≡ 64 → get_or s 0 0 ≢ 34) → Judged at (b ∷ s) (suffixed k at s)
suffixed_judged k at b s form quote symbol = suffixed_by k at b s (suffix_len s == 0) refl form quote symbol

-- strings and symbols

string_begins : (s : List ℕ) (n : ℕ) → string_end 0 s ≡ Some n → Begins IsString s n
string_begins s n h = let (front, rest, is, e, len) = string_front s 0 n h in (front, rest, is, e, omega (arith, len))

string_by : (at : ℕ) (s : List ℕ) (o : Option ℕ) → string_end 0 s ≡ o → get_or s 0 0 ≡ 34 → Judged at s (option_map_or (λ len. token kind.String at len) o (Err (BadString at)))
string_by at s None is quote = inl (refl, quote, is)
string_by at s (Some n) is quote = judged kind.String at n s (string_begins s n is)

symbol_string : (at : ℕ) (s : List ℕ) (o : Option ℕ) → string_end 0 s ≡ o → get_or s 0 0 ≡ 34 → Judged at (64 ∷ s) (option_map_or (λ len. token kind.Symbol at (1 + len)) o (Err (BadString (at + 1))))
symbol_string at s None is quote = inr (refl, refl, quote, is)
symbol_string at s (Some n) is quote =
    judged kind.Symbol at (1 + n) (64 ∷ s) (longer IsString (HasForm kind.Symbol) 64 s n (λ xs form. (refl, inr form)) (string_begins s n is))

judged_if : (at : ℕ) (s : List ℕ) (p : Bool) (x y : Outcome) → (p ≡ true → Judged at s x) → (p ≡ false → Judged at s y) → Judged at s (cond p x y)
judged_if at s true x y then_it else_it = then_it refl
judged_if at s false x y then_it else_it = else_it refl

no_quote_64 : (e : ℕ) → e ≡ 64 → e ≢ 34
no_quote_64 e h = λ q. omega arith

symbol_judged : (at : ℕ) (s : List ℕ) → Judged at (64 ∷ s) (symbol at s)
symbol_judged at s =
    judged_if at (64 ∷ s) (slice_index s 0 == 34) (option_map_or (λ len. token kind.Symbol at (1 + len)) (string_end 0 s) (Err (BadString (at + 1)))) (suffixed kind.Symbol at s)
    (λ is. symbol_string at s (string_end 0 s) refl (eqb-true (slice_index s 0) 34 is))
    (λ is. suffixed_judged kind.Symbol at 64 s (λ xs form. (refl, inl form)) (no_quote_64 64 refl) (λ e. eqb-false (slice_index s 0) 34 is))

-- numbers

some_run : (test : ℕ → Bool) (xs : List ℕ) → 0 < length xs → AllAre test xs → AreSome test xs
some_run test [] some all = omega arith
some_run test (b ∷ xs) some all = all

behind_some : (n m : ℕ) → 0 < behind n m → (0 < m) × (behind n m ≡ n + m)
behind_some n m h = behind_by (m == 0) refl h
  where
    behind_by : (z : Bool) → m == 0 ≡ z → 0 < cond z 0 (n + m) → (0 < m) × (cond z 0 (n + m) ≡ n + m)
    behind_by true is h = absurd (omega arith)
    behind_by false is h = (more_than_none m is, refl)

digits_begin : (s : List ℕ) → 0 < digits s → Begins (AreSome is_digit) s (digits s)
digits_begin s some =
    let (front, rest, all, e, len) = run_begins is_digit s in (front, rest, some_run is_digit front (omega arith) all, e, len)

decimal_judged : (at : ℕ) (s : List ℕ) → 0 < digits s → Judged at s (token kind.Integer at (digits s))
decimal_judged at s some = judged kind.Integer at (digits s) s (changed (AreSome is_digit) (HasForm kind.Integer) s (digits s) (λ xs all. inl all) (digits_begin s some))

hex_digits_begin : (s : List ℕ) → 0 < prefix_len is_hex_digit s → Begins (AreSome is_hex_digit) s (prefix_len is_hex_digit s)
hex_digits_begin s some =
    let (front, rest, all, e, len) = run_begins is_hex_digit s in (front, rest, some_run is_hex_digit front (omega arith) all, e, len)

abbrev IsHex : List ℕ → Type 0
IsHex text = (xs : List ℕ) × AreSome is_hex_digit xs × (text ≡ 48 ∷ 120 ∷ xs)

hex_tail : (t : List ℕ) → 0 < behind 2 (prefix_len is_hex_digit t) → Begins IsHex (48 ∷ 120 ∷ t) (behind 2 (prefix_len is_hex_digit t))
hex_tail t h =
    let (some, is) = behind_some 2 (prefix_len is_hex_digit t) h in
    let (front, rest, all, e, len) = hex_digits_begin t some in
    (48 ∷ 120 ∷ front, rest, (front, all, refl), ap (λ u. 48 ∷ 120 ∷ u) e, omega (arith, is, len))

hex_if : (s : List ℕ) (p : Bool) (m : ℕ) → 0 < cond p m 0 → p ≡ true
hex_if s true m h = refl
hex_if s false m h = absurd (omega arith)

hex_begins : (s : List ℕ) → 0 < hex_len s → Begins IsHex s (hex_len s)
hex_begins [] h = absurd (omega arith)
hex_begins (c ∷ []) h = absurd (false≢true (and_parts (c == 48) false (hex_if [] (c == 48 && false) (behind 2 0) h)).1)
hex_begins (c ∷ d ∷ t) h =
    let two = and_parts (c == 48) (d == 120) (hex_if t (c == 48 && d == 120) (behind 2 (prefix_len is_hex_digit t)) h) in
    let first = eqb-true c 48 two.0 in
    let second = eqb-true d 120 two.1 in
    let some : 0 < hex_len (48 ∷ 120 ∷ t) = subst (λ x. 0 < hex_len (x ∷ 120 ∷ t)) first (subst (λ x. 0 < hex_len (c ∷ x ∷ t)) second h) in
    rw (first, second) (hex_tail t some)

signed_begins : (c : ℕ) (s : List ℕ) → is_sign c ≡ true → 0 < digits s → Begins IsSignedDigits (c ∷ s) (1 + digits s)
signed_begins c s sign some = longer (AreSome is_digit) IsSignedDigits c s (digits s) (λ xs all. (sign, all)) (digits_begin s some)

exponent_sign : (b : ℕ) (s : List ℕ) → is_exponent_mark b ≡ true → is_sign (slice_index s 0) ≡ true → 0 < behind 2 (digits (drop 1 s)) → Begins IsExponent (b ∷ s) (behind 2 (digits (drop 1 s)))
exponent_sign b [] mark sign h = absurd (omega arith)
exponent_sign b (c ∷ s) mark sign h =
    let (some, is) = behind_some 2 (digits s) h in
    let (front, rest, form, e, len) = signed_begins c s sign some in
    (b ∷ front, rest, (mark, inr form), ap (λ t. b ∷ t) e, omega (arith, is, len))

exponent_plain : (b : ℕ) (s : List ℕ) → is_exponent_mark b ≡ true → 0 < behind 1 (digits s) → Begins IsExponent (b ∷ s) (behind 1 (digits s))
exponent_plain b s mark h =
    let (some, is) = behind_some 1 (digits s) h in
    let (front, rest, form, e, len) = digits_begin s some in
    (b ∷ front, rest, (mark, inl form), ap (λ t. b ∷ t) e, omega (arith, is, len))

exponent_by : (b : ℕ) (s : List ℕ) (p q : Bool) → is_exponent_mark b ≡ p → is_sign (slice_index s 0) ≡ q → 0 < cond p (cond q (behind 2 (digits (drop 1 s))) (behind 1 (digits s))) 0 → Begins IsExponent (b ∷ s) (cond p (cond q (behind 2 (digits (drop 1 s))) (behind 1 (digits s))) 0)
exponent_by b s true true mark sign h = exponent_sign b s mark sign h
exponent_by b s true false mark sign h = exponent_plain b s mark h
exponent_by b s false q mark sign h = absurd (omega arith)

exponent_some : (s : List ℕ) → 0 < exponent_len s → Begins IsExponent s (exponent_len s)
exponent_some [] h = absurd (omega arith)
exponent_some (b ∷ s) h = exponent_by b s (is_exponent_mark b) (is_sign (slice_index s 0)) refl refl h

abbrev IsTail : List ℕ → Type 0
IsTail ex = (ex ≡ []) ⊎ IsExponent ex

tail_by : (s : List ℕ) (n : ℕ) → exponent_len s ≡ n → Begins IsTail s n
tail_by s zero is = ([], s, inl refl, refl, refl)
tail_by s (suc n) is =
    let (front, rest, form, e, len) = exponent_some s (omega arith) in (front, rest, inr form, e, len ∙ is)

point_at : (s : List ℕ) (n : ℕ) → slice_index s n ≡ 46 → n < length s
point_at s n h = elim (cases_lt n (length s)) [ inl less ↦ less | inr past ↦ absurd (let e = get_or_past s n 0 past in omega arith) ]

float_judged : (at : ℕ) (s : List ℕ) → 0 < digits s → slice_index s (digits s) ≡ 46 → Judged at s (token kind.Float at (digits s + 1 + fraction_len (drop (digits s + 1) s)))
float_judged at s some point =
    let n = digits s in
    let t = drop (n + 1) s in
    let (whole, after, has_whole, e, len) = digits_begin s some in
    let (fraction, more, all, fe, flen) = run_begins is_digit t in
    let u = drop (digits t) t in
    let (ex, rest, has, ee, elen) = tail_by u (exponent_len u) refl in
    let after_is : after ≡ 46 ∷ t = sym (ap (drop n) e ∙ drop_at whole after n len) ∙ drop_more s n 0 (point_at s n point) ∙ ap (λ x. x ∷ t) point in
    let more_is : more ≡ u = sym (ap (drop (digits t)) fe ∙ drop_at fraction more (digits t) flen) in
    let same : s ≡ (whole ++ (46 ∷ (fraction ++ ex))) ++ rest =
    e ∙ ap (λ x. whole ++ x) (after_is ∙ ap (λ x. 46 ∷ x) (fe ∙ ap (λ x. fraction ++ x) (more_is ∙ ee))) ∙ simp append_assoc in
    let form : IsFloat (whole ++ (46 ∷ (fraction ++ ex))) =
    record { whole = whole; fraction = fraction; exponent = ex; has_whole = has_whole; has_fraction = all; has_exponent = has; parts = refl } in
    let count : length (whole ++ (46 ∷ (fraction ++ ex))) ≡ n + 1 + fraction_len t = simp length-append (omega (arith, len, flen, elen)) in
    judged kind.Float at (n + 1 + fraction_len t) s (whole ++ (46 ∷ (fraction ++ ex)), rest, form, same, count)

number_judged : (at : ℕ) (s : List ℕ) → 0 < digits s → Judged at s (number at s)
number_judged at s some =
    judged_if at s (slice_index s (digits s) == 46) (token kind.Float at (digits s + 1 + fraction_len (drop (digits s + 1) s))) (cond (hex_len s == 0) (token kind.Integer at (digits s)) (token kind.Integer at (hex_len s)))
    (λ point. float_judged at s some (eqb-true (slice_index s (digits s)) 46 point))
    (λ other. judged_if at s (hex_len s == 0) (token kind.Integer at (digits s)) (token kind.Integer at (hex_len s))
    (λ none. decimal_judged at s some)
    (λ is. judged kind.Integer at (hex_len s) s (changed IsHex (HasForm kind.Integer) s (hex_len s) (λ xs form. inr form) (hex_begins s (more_than_none (hex_len s) is)))))

-- marks

one : (k : TokenKind) (at b : ℕ) (s : List ℕ) → HasForm k (b ∷ []) → Judged at (b ∷ s) (token k at 1)
one k at b s form = judged k at 1 (b ∷ s) (b ∷ [], s, form, refl, refl)

two : (k : TokenKind) (at b c : ℕ) (s : List ℕ) → HasForm k (b ∷ c ∷ []) → Judged at (b ∷ c ∷ s) (token k at 2)
two k at b c s form = judged k at 2 (b ∷ c ∷ s) (b ∷ c ∷ [], s, form, refl, refl)

abbrev IsMarkOf : ℕ → Option TokenKind → Type 0
IsMarkOf b None = Unit {0}
IsMarkOf b (Some k) = HasForm k (b ∷ [])

mark_if : (b c : ℕ) (k : TokenKind) (o : Option TokenKind) → HasForm k (c ∷ []) → IsMarkOf b o → IsMarkOf b (cond (b == c) (Some k) o)
mark_if b c k o form more = by_test (b == c) refl
  where
    by_test : (p : Bool) → b == c ≡ p → IsMarkOf b (cond p (Some k) o)
    by_test true is = subst (λ x. HasForm k (x ∷ [])) (sym (eqb-true b c is)) form
    by_test false is = more

mark_kind_is : (b : ℕ) → IsMarkOf b (mark_kind b)
mark_kind_is b =
    mark_if b 40 kind.LeftParen _ refl (mark_if b 41 kind.RightParen _ refl (mark_if b 123 kind.LeftBrace _ refl (mark_if b 125 kind.RightBrace _ refl
    (mark_if b 91 kind.LeftBracket _ refl (mark_if b 93 kind.RightBracket _ refl (mark_if b 60 kind.Less _ refl (mark_if b 62 kind.Greater _ refl
    (mark_if b 44 kind.Comma _ refl (mark_if b 58 kind.Colon _ refl (mark_if b 61 kind.Equal _ refl (mark_if b 45 kind.Minus None refl tt)))))))))))

one_by : (at b : ℕ) (s : List ℕ) (o : Option TokenKind) → IsMarkOf b o → b ≢ 34 → b ≢ 64 → Judged at (b ∷ s) (option_map_or (λ k. token k at 1) o (Err (BadByte at)))
one_by at b s None is quote symbol = (refl, omega arith, quote, λ e. absurd (symbol e))
one_by at b s (Some k) is quote symbol = one k at b s is

pair_by : (k : TokenKind) (at b c d : ℕ) (s : List ℕ) → (b == c && slice_index s 0 == d) ≡ true → d ≢ 0 → HasForm k (c ∷ d ∷ []) → Judged at (b ∷ s) (token k at 2)
pair_by k at b c d [] h some form =
    let p = and_parts (b == c) (0 == d) h in absurd (some (sym (eqb-true 0 d p.1)))
pair_by k at b c d (x ∷ s) h some form =
    let p = and_parts (b == c) (x == d) h in
    subst (λ y. Judged at (y ∷ x ∷ s) (token k at 2)) (sym (eqb-true b c p.0)) (subst (λ y. Judged at (c ∷ y ∷ s) (token k at 2)) (sym (eqb-true x d p.1)) (two k at c d s form))

mark_judged : (at b : ℕ) (s : List ℕ) → b ≢ 34 → b ≢ 64 → Judged at (b ∷ s) (mark at b s)
mark_judged at b s quote symbol =
    judged_if at (b ∷ s) (b == 58 && slice_index s 0 == 58) (token kind.ColonColon at 2) (cond (b == 45 && slice_index s 0 == 62) (token kind.Arrow at 2) (option_map_or (λ k. token k at 1) (mark_kind b) (Err (BadByte at))))
    (λ h. pair_by kind.ColonColon at b 58 58 s h (λ e. omega arith) refl)
    (λ other. judged_if at (b ∷ s) (b == 45 && slice_index s 0 == 62) (token kind.Arrow at 2) (option_map_or (λ k. token k at 1) (mark_kind b) (Err (BadByte at)))
    (λ h. pair_by kind.Arrow at b 45 62 s h (λ e. omega arith) refl)
    (λ last. one_by at b s (mark_kind b) (mark_kind_is b) quote symbol))

-- the bytes before a suffix

abbrev IsPrefixOf : ℕ → Option TokenKind → Type 0
IsPrefixOf b None = Unit {0}
IsPrefixOf b (Some k) = (xs : List ℕ) → IsSuffix xs → HasForm k (b ∷ xs)

prefix_if : (b c : ℕ) (k : TokenKind) (o : Option TokenKind) → ((xs : List ℕ) → IsSuffix xs → HasForm k (c ∷ xs)) → IsPrefixOf b o → IsPrefixOf b (cond (b == c) (Some k) o)
prefix_if b c k o form more = by_test (b == c) refl
  where
    by_test : (p : Bool) → b == c ≡ p → IsPrefixOf b (cond p (Some k) o)
    by_test true is = subst (λ x. (xs : List ℕ) → IsSuffix xs → HasForm k (x ∷ xs)) (sym (eqb-true b c is)) form
    by_test false is = more

suffixed_kind_is : (b : ℕ) → IsPrefixOf b (suffixed_kind b)
suffixed_kind_is b =
    prefix_if b 37 kind.Value _ (λ xs h. (refl, h)) (prefix_if b 94 kind.Label _ (λ xs h. (refl, h))
    (prefix_if b 35 kind.Hash _ (λ xs h. (refl, h)) (prefix_if b 33 kind.Bang None (λ xs h. (refl, h)) tt)))

other_by : (at b : ℕ) (s : List ℕ) (o : Option TokenKind) → IsPrefixOf b o → b ≢ 34 → b ≢ 64 → Judged at (b ∷ s) (option_map_or (λ k. suffixed k at s) o (mark at b s))
other_by at b s None is quote symbol = mark_judged at b s quote symbol
other_by at b s (Some k) is quote symbol = suffixed_judged k at b s is quote (λ e. absurd (symbol e))

one_digit : (b : ℕ) (s : List ℕ) → is_digit b ≡ true → 0 < digits (b ∷ s)
one_digit b s h = rw h (omega arith)

-- what is found, and each fault
pub first_judged : (at : ℕ) (s : List ℕ) → Judged at s (first_token at s)
first_judged at [] = (refl, inl (refl, refl, add-zero at))
first_judged at (b ∷ s) =
    let last = option_map_or (λ k. suffixed k at s) (suffixed_kind b) (mark at b s) in
    judged_if at (b ∷ s) (is_word_start b) (token kind.Word at (1 + prefix_len (is_in class.Word) s)) (cond (is_digit b) (number at (b ∷ s)) (cond (b == 34) (string at (b ∷ s)) (cond (b == 64) (symbol at s) last)))
    (λ start. word_judged at b s start)
    (λ no_word. judged_if at (b ∷ s) (is_digit b) (number at (b ∷ s)) (cond (b == 34) (string at (b ∷ s)) (cond (b == 64) (symbol at s) last))
    (λ digit. number_judged at (b ∷ s) (one_digit b s digit))
    (λ no_digit. judged_if at (b ∷ s) (b == 34) (string at (b ∷ s)) (cond (b == 64) (symbol at s) last)
    (λ quote. string_by at (b ∷ s) (string_end 0 (b ∷ s)) refl (eqb-true b 34 quote))
    (λ no_quote. judged_if at (b ∷ s) (b == 64) (symbol at s) last
    (λ sign. subst (λ x. Judged at (x ∷ s) (symbol at s)) (sym (eqb-true b 64 sign)) (symbol_judged at s))
    (λ no_sign. other_by at b s (suffixed_kind b) (suffixed_kind_is b) (eqb-false b 34 no_quote) (eqb-false b 64 no_sign)))))
