-- The token that the scan finds is no shorter than a text of any form.
use Rattle.std.proofs.Common.{◌≡◌, ℕ, suc, ◌+◌, ◌<◌, ◌≤◌, Bool, true, false, cond, List, [], ◌∷◌, ◌++◌, length, drop, refl, ap, sym, subst, ◌∙◌, arith, add-zero, inl, inr, append_assoc, length-append, eqb-true, Ok, Err}
use Rattle.std.specs.Prelude.{◌==◌, ◌&&◌, ◌⊎◌, slice_index}
use Rattle.std.specs.List.{prefix_len}
use Rattle.std.proofs.lemmas.Bool.{true≢false, ne_eqb}
use Rattle.std.proofs.lemmas.List.{drop-drop, drop_at, get_or_at}
use Rattle.text_scan.specs.Bytes.{AllAre, is_in, is_digit, is_word_start}
use Rattle.text_scan.specs.Hexadecimal.{is_hex_digit}
use Rattle.byte_lanes.specs.declared.class.Class.TheVariants as class
use Rattle.text_scan.specs.Strings.{IsString}
use Rattle.text_scan.proofs.Runs.{prefix_len-front}
use Rattle.text_scan.proofs.StringLaws.{string_covers}
use Rattle.mlir_lexer.specs.Forms.{AreSome, IsSuffix, IsSymbolName, IsExponent, IsFloat, IsInteger, HasForm, is_sign}
use Rattle.mlir_lexer.specs.Scan.{Outcome, token, digits, suffix_len, behind, exponent_len, fraction_len, hex_len, number, string, suffixed, symbol, first_token}
use Rattle.mlir_lexer.specs.declared.token.TokenKind.{TokenKind}
use Rattle.mlir_lexer.specs.declared.token.TokenKind.TheVariants as kind
use Rattle.mlir_lexer.specs.declared.token.LexFault.TheVariants.{BadByte}
use Rattle.mlir_lexer.proofs.Classes.{digit_no_start, suffix_start_no_digit, digit_no_quote, suffix_start_no_quote, digit_no_sign, mark_no_digit}

-- a token was found at the place that is at least n long, and of this kind where it is just n long
abbrev pub Covers : TokenKind → ℕ → ℕ → Outcome → Type 0
Covers k at n (Ok t) = (at + n ≤ t.end) × (at + n ≡ t.end → t.kind ≡ k)
Covers k at n (Err e) = ⊥

covers_token : (k : TokenKind) (at n m : ℕ) → n ≤ m → Covers k at n (token k at m)
covers_token k at n m h = (omega arith, λ e. refl)

run_covers : (p : ℕ → Bool) (xs rest : List ℕ) → AllAre p xs → length xs ≤ prefix_len p (xs ++ rest)
run_covers p xs rest h = let e = prefix_len-front p xs rest h in omega arith

suffix_covers : (xs rest : List ℕ) → IsSuffix xs → (length xs ≤ suffix_len (xs ++ rest)) × (0 < length xs)
suffix_covers [] rest h = absurd h
suffix_covers (b ∷ xs) rest (inl all) = (rw all.0 (let k = run_covers is_digit xs rest all.1 in omega arith), omega arith)
suffix_covers (b ∷ xs) rest (inr (start, all)) =
    (rw (suffix_start_no_digit b start, start) (let k = run_covers (is_in class.Suffix) xs rest all in omega arith), omega arith)

suffixed_by : (k : TokenKind) (at m n : ℕ) (p : Bool) → n == 0 ≡ p → 0 < m → m ≤ n → Covers k at (suc m) (cond p (Err (BadByte at)) (token k at (1 + n)))
suffixed_by k at m n true is some h = absurd (let e = eqb-true n 0 is in omega arith)
suffixed_by k at m n false is some h = (omega arith, λ e. refl)

suffixed_covers : (k : TokenKind) (at : ℕ) (xs rest : List ℕ) → IsSuffix xs → Covers k at (suc (length xs)) (suffixed k at (xs ++ rest))
suffixed_covers k at xs rest h =
    let (most, some) = suffix_covers xs rest h in
    suffixed_by k at (length xs) (suffix_len (xs ++ rest)) (suffix_len (xs ++ rest) == 0) refl some most

suffix_no_quote : (xs rest : List ℕ) → IsSuffix xs → slice_index (xs ++ rest) 0 == 34 ≡ false
suffix_no_quote [] rest h = absurd h
suffix_no_quote (b ∷ xs) rest (inl all) = digit_no_quote b all.0
suffix_no_quote (b ∷ xs) rest (inr (start, all)) = suffix_start_no_quote b start

symbol_covers : (at : ℕ) (xs rest : List ℕ) → IsSymbolName xs → Covers kind.Symbol at (suc (length xs)) (symbol at (xs ++ rest))
symbol_covers at xs rest (inl suffix) = rw (suffix_no_quote xs rest suffix) (suffixed_covers kind.Symbol at xs rest suffix)
symbol_covers at xs rest (inr string) =
    let (value, (inside, spells, e)) = string in
    let quote : slice_index (xs ++ rest) 0 == 34 ≡ true = rw e refl in
    rw (quote, string_covers xs rest 0 string) (omega arith, λ same. refl)

string_token : (at : ℕ) (front rest : List ℕ) → IsString front → Covers kind.String at (length front) (string at (front ++ rest))
string_token at front rest is = rw (string_covers front rest 0 is) (omega arith, λ same. refl)

-- numbers

behind_least : (n m : ℕ) → 0 < m → n + m ≤ behind n m
behind_least n m some = rw (ne_eqb m 0 (λ e. omega arith)) (omega arith)

some_first : (test : ℕ → Bool) (xs : List ℕ) → AreSome test xs → AllAre test xs × (0 < length xs)
some_first test [] h = absurd h
some_first test (b ∷ xs) h = (h, omega arith)

alone : (p : Bool) → cond p (1 + 0) 0 ≤ 1
alone true = omega arith
alone false = omega arith

few_digits : (s : List ℕ) → slice_index s 1 == 120 ≡ true → digits s ≤ 1
few_digits [] h = omega arith
few_digits (c ∷ []) h = alone (is_digit c)
few_digits (c ∷ d ∷ t) h = rw (eqb-true d 120 h) (alone (is_digit c))

hex_by : (p q : Bool) (m : ℕ) → cond (p && q) (behind 2 m) 0 == 0 ≡ false → (q ≡ true) × (2 ≤ cond (p && q) (behind 2 m) 0)
hex_by true true m h = (refl, behind_by m (m == 0) h)
  where
    behind_by : (m : ℕ) (z : Bool) → cond z 0 (2 + m) == 0 ≡ false → 2 ≤ cond z 0 (2 + m)
    behind_by m true h = absurd (true≢false h)
    behind_by m false h = omega arith
hex_by true false m h = absurd (true≢false h)
hex_by false q m h = absurd (true≢false h)

hex_long : (s : List ℕ) → hex_len s == 0 ≡ false → (digits s ≤ 1) × (2 ≤ hex_len s)
hex_long s h =
    let (second, most) = hex_by (slice_index s 0 == 48) (slice_index s 1 == 120) (prefix_len is_hex_digit (drop 2 s)) h in
    (few_digits s second, most)

decimal_by : (at m : ℕ) (s : List ℕ) (f : ℕ) (p q : Bool) → hex_len s == 0 ≡ q → m ≤ digits s → Covers kind.Integer at m (cond p (token kind.Float at (digits s + 1 + f)) (cond q (token kind.Integer at (digits s)) (token kind.Integer at (hex_len s))))
decimal_by at m s f true q is h = (omega arith, λ e. absurd (omega arith))
decimal_by at m s f false true is h = (omega arith, λ e. refl)
decimal_by at m s f false false is h = let (few, most) = hex_long s is in (omega arith, λ e. refl)

decimal_covers : (at : ℕ) (xs rest : List ℕ) → AllAre is_digit xs → Covers kind.Integer at (length xs) (number at (xs ++ rest))
decimal_covers at xs rest h =
    let s = xs ++ rest in
    decimal_by at (length xs) s (fraction_len (drop (digits s + 1) s)) (slice_index s (digits s) == 46) (hex_len s == 0) refl (run_covers is_digit xs rest h)

hex_token : (at m n : ℕ) (z : Bool) → behind 2 n == 0 ≡ z → 0 < m → m ≤ n → Covers kind.Integer at (suc (suc m)) (cond z (token kind.Integer at 1) (token kind.Integer at (behind 2 n)))
hex_token at m n true is some h = absurd (let e = eqb-true (behind 2 n) 0 is in let k = behind_least 2 n (omega arith) in omega arith)
hex_token at m n false is some h = (let k = behind_least 2 n (omega arith) in omega arith, λ e. refl)

hex_covers : (at : ℕ) (xs rest : List ℕ) → AreSome is_hex_digit xs → Covers kind.Integer at (suc (suc (length xs))) (number at (48 ∷ 120 ∷ (xs ++ rest)))
hex_covers at xs rest h =
    let (all, some) = some_first is_hex_digit xs h in
    let n = prefix_len is_hex_digit (xs ++ rest) in
    hex_token at (length xs) n (behind 2 n == 0) refl some (run_covers is_hex_digit xs rest all)

-- floats

signed_covers : (p : Bool) (c : ℕ) (ds rest : List ℕ) → is_sign c ≡ true → AreSome is_digit ds → suc (suc (length ds)) ≤ cond (is_sign c) (behind 2 (digits (ds ++ rest))) (behind 1 (digits (c ∷ (ds ++ rest))))
signed_covers p c ds rest sign h =
    let (all, some) = some_first is_digit ds h in
    let most = run_covers is_digit ds rest all in
    rw sign (let k = behind_least 2 (digits (ds ++ rest)) (omega arith) in omega arith)

exponent_covers : (ex rest : List ℕ) → IsExponent ex → length ex ≤ exponent_len (ex ++ rest)
exponent_covers [] rest h = absurd h
exponent_covers (e ∷ []) rest (mark, inl h) = absurd h
exponent_covers (e ∷ []) rest (mark, inr h) = absurd h
exponent_covers (e ∷ c ∷ ds) rest (mark, inl all) =
    let most = run_covers is_digit (c ∷ ds) rest all in
    rw (mark, digit_no_sign c all.0) (let k = behind_least 1 (digits (c ∷ (ds ++ rest))) (omega arith) in omega arith)
exponent_covers (e ∷ c ∷ ds) rest (mark, inr (sign, some)) = rw mark (signed_covers true c ds rest sign some)

no_digit : (e : ℕ) (t : List ℕ) → is_digit e ≡ false → digits (e ∷ t) ≡ 0
no_digit e t h = rw h refl

fraction_alone : (fraction rest : List ℕ) → AllAre is_digit fraction → length fraction ≤ fraction_len (fraction ++ rest)
fraction_alone fraction rest h = let k = run_covers is_digit fraction rest h in omega arith

fraction_then : (fraction ex rest : List ℕ) → AllAre is_digit fraction → IsExponent ex → length fraction + length ex ≤ fraction_len (fraction ++ (ex ++ rest))
fraction_then fraction [] rest all h = absurd h
fraction_then fraction (e ∷ ex) rest all h =
    let stops : digits (e ∷ (ex ++ rest)) ≡ 0 = no_digit e (ex ++ rest) (mark_no_digit e h.0) in
    let run : digits (fraction ++ (e ∷ (ex ++ rest))) ≡ length fraction = prefix_len-front is_digit fraction (e ∷ (ex ++ rest)) all ∙ omega arith in
    let most = exponent_covers (e ∷ ex) rest h in
    rw (run, drop_at fraction (e ∷ (ex ++ rest)) (length fraction) refl) (omega arith)

fraction_covers : (fraction ex rest : List ℕ) → AllAre is_digit fraction → (ex ≡ []) ⊎ IsExponent ex → length fraction + length ex ≤ fraction_len (fraction ++ (ex ++ rest))
fraction_covers fraction ex rest all (inl none) = rw none (let k = fraction_alone fraction rest all in omega arith)
fraction_covers fraction ex rest all (inr is) = fraction_then fraction ex rest all is

float_is : (at : ℕ) (whole tail : List ℕ) → AllAre is_digit whole → number at (whole ++ (46 ∷ tail)) ≡ token kind.Float at (length whole + 1 + fraction_len tail)
float_is at whole tail all =
    let run : digits (whole ++ (46 ∷ tail)) ≡ length whole = prefix_len-front is_digit whole (46 ∷ tail) all ∙ add-zero (length whole) in
    let point : slice_index (whole ++ (46 ∷ tail)) (length whole) ≡ 46 = get_or_at whole 46 tail 0 (length whole) refl in
    let past : drop (length whole + 1) (whole ++ (46 ∷ tail)) ≡ tail = sym (drop-drop 1 (length whole) (whole ++ (46 ∷ tail))) ∙ ap (drop 1) (drop_at whole (46 ∷ tail) (length whole) refl) in
    rw (run, point, past) refl

float_parts : (at : ℕ) (whole fraction ex rest : List ℕ) → AllAre is_digit whole → AllAre is_digit fraction → (ex ≡ []) ⊎ IsExponent ex → Covers kind.Float at (length (whole ++ (46 ∷ (fraction ++ ex)))) (number at ((whole ++ (46 ∷ (fraction ++ ex))) ++ rest))
float_parts at whole fraction ex rest all digits_all has =
    let joined : (whole ++ (46 ∷ (fraction ++ ex))) ++ rest ≡ whole ++ (46 ∷ (fraction ++ (ex ++ rest))) = simp append_assoc in
    let most = fraction_covers fraction ex rest digits_all has in
    let len : length (whole ++ (46 ∷ (fraction ++ ex))) ≡ length whole + 1 + (length fraction + length ex) = simp length-append (omega arith) in
    rw (joined, float_is at whole (fraction ++ (ex ++ rest)) all, len) (omega arith, λ e. refl)

-- a number is read where the text begins with a digit
digit_first : (at b : ℕ) (s : List ℕ) → is_digit b ≡ true → first_token at (b ∷ s) ≡ number at (b ∷ s)
digit_first at b s h = rw (digit_no_start b h, h) refl

some_digits : (k : TokenKind) (at n : ℕ) (xs rest : List ℕ) → AreSome is_digit xs → Covers k at n (number at (xs ++ rest)) → Covers k at n (first_token at (xs ++ rest))
some_digits k at n [] rest h c = absurd h
some_digits k at n (b ∷ xs) rest h c = subst (Covers k at n) (sym (digit_first at b (xs ++ rest) h.0)) c

float_first : (at : ℕ) (whole fraction ex rest : List ℕ) → AreSome is_digit whole → AllAre is_digit fraction → (ex ≡ []) ⊎ IsExponent ex → Covers kind.Float at (length (whole ++ (46 ∷ (fraction ++ ex)))) (first_token at ((whole ++ (46 ∷ (fraction ++ ex))) ++ rest))
float_first at [] fraction ex rest some all has = absurd some
float_first at (b ∷ whole) fraction ex rest some all has =
    subst (Covers kind.Float at (length ((b ∷ whole) ++ (46 ∷ (fraction ++ ex))))) (sym (digit_first at b ((whole ++ (46 ∷ (fraction ++ ex))) ++ rest) some.0)) (float_parts at (b ∷ whole) fraction ex rest some all has)

float_covers : (at : ℕ) (front rest : List ℕ) → IsFloat front → Covers kind.Float at (length front) (first_token at (front ++ rest))
float_covers at front rest f =
    rw f.parts (float_first at f.whole f.fraction f.exponent rest f.has_whole f.has_fraction f.has_exponent)

integer_covers : (at : ℕ) (front rest : List ℕ) → IsInteger front → Covers kind.Integer at (length front) (first_token at (front ++ rest))
integer_covers at front rest (inl some) =
    some_digits kind.Integer at (length front) front rest some (decimal_covers at front rest (some_first is_digit front some).0)
integer_covers at front rest (inr (xs, some, e)) = rw e (hex_covers at xs rest some)

word_covers : (at b : ℕ) (xs rest : List ℕ) → is_word_start b ≡ true → AllAre (is_in class.Word) xs → Covers kind.Word at (suc (length xs)) (first_token at (b ∷ (xs ++ rest)))
word_covers at b xs rest start all = rw start (let k = run_covers (is_in class.Word) xs rest all in (omega arith, λ e. refl))

colon_by : (at : ℕ) (p : Bool) → Covers kind.Colon at 1 (cond p (token kind.ColonColon at 2) (token kind.Colon at 1))
colon_by at true = (omega arith, λ e. absurd (omega arith))
colon_by at false = (omega arith, λ e. refl)

minus_by : (at : ℕ) (p : Bool) → Covers kind.Minus at 1 (cond p (token kind.Arrow at 2) (token kind.Minus at 1))
minus_by at true = (omega arith, λ e. absurd (omega arith))
minus_by at false = (omega arith, λ e. refl)

-- what stands in front of a text that has the form of a token
pub covers : (k : TokenKind) (at : ℕ) (front rest : List ℕ) → HasForm k front → Covers k at (length front) (first_token at (front ++ rest))
covers kind.End at front rest h = absurd h
covers kind.Word at [] rest h = absurd h
covers kind.Word at (b ∷ xs) rest h = word_covers at b xs rest h.0 h.1
covers kind.Value at [] rest h = absurd h
covers kind.Value at (b ∷ xs) rest h = rw h.0 (suffixed_covers kind.Value at xs rest h.1)
covers kind.Label at [] rest h = absurd h
covers kind.Label at (b ∷ xs) rest h = rw h.0 (suffixed_covers kind.Label at xs rest h.1)
covers kind.Hash at [] rest h = absurd h
covers kind.Hash at (b ∷ xs) rest h = rw h.0 (suffixed_covers kind.Hash at xs rest h.1)
covers kind.Bang at [] rest h = absurd h
covers kind.Bang at (b ∷ xs) rest h = rw h.0 (suffixed_covers kind.Bang at xs rest h.1)
covers kind.Symbol at [] rest h = absurd h
covers kind.Symbol at (b ∷ xs) rest h = rw h.0 (symbol_covers at xs rest h.1)
covers kind.Integer at front rest h = integer_covers at front rest h
covers kind.Float at front rest h = float_covers at front rest h
covers kind.String at front rest h = string_first front h (string_token at front rest h)
  where
    string_first : (front : List ℕ) → IsString front → Covers kind.String at (length front) (string at (front ++ rest)) → Covers kind.String at (length front) (first_token at (front ++ rest))
    string_first front (value, (inside, spells, e)) c = rw e (rw e at c)
covers kind.LeftParen at front rest h = rw h (omega arith, λ e. refl)
covers kind.RightParen at front rest h = rw h (omega arith, λ e. refl)
covers kind.LeftBrace at front rest h = rw h (omega arith, λ e. refl)
covers kind.RightBrace at front rest h = rw h (omega arith, λ e. refl)
covers kind.LeftBracket at front rest h = rw h (omega arith, λ e. refl)
covers kind.RightBracket at front rest h = rw h (omega arith, λ e. refl)
covers kind.Less at front rest h = rw h (omega arith, λ e. refl)
covers kind.Greater at front rest h = rw h (omega arith, λ e. refl)
covers kind.Comma at front rest h = rw h (omega arith, λ e. refl)
covers kind.Colon at front rest h = rw h (colon_by at (slice_index rest 0 == 58))
covers kind.ColonColon at front rest h = rw h (omega arith, λ e. refl)
covers kind.Equal at front rest h = rw h (omega arith, λ e. refl)
covers kind.Minus at front rest h = rw h (minus_by at (slice_index rest 0 == 62))
covers kind.Arrow at front rest h = rw h (omega arith, λ e. refl)
