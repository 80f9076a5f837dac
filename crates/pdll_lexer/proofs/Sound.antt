-- The token that the scan finds has the form of its kind, and each fault stands where it says.
use Rattle.std.proofs.Common.{◌≡◌, ◌≢◌, ℕ, ◌+◌, ◌<◌, Bool, true, false, cond, List, [], ◌∷◌, ◌++◌, length, take, drop, get_or, refl, ap, sym, subst, arith, add-zero, inl, inr, length-take-le, eqb-true, Ok, Err, Some, None, Option}
use Rattle.std.specs.Prelude.{◌==◌, ◌&&◌, ◌⊎◌, codes}
use Rattle.std.specs.Option.{option_map_or}
use Rattle.std.specs.List.{prefix_len}
use Rattle.std.proofs.lemmas.Bool.{and_parts, eqb-false}
use Rattle.std.proofs.lemmas.List.{take-append-drop}
use Rattle.std.proofs.lemmas.List.Sums.{prefix_len-le-length}
use Rattle.std.proofs.lemmas.Slice.Eq.{bytes_eq-Decides}
use Rattle.text_scan.specs.Bytes.{AllAre, is_in, is_digit, is_word_start}
use Rattle.byte_lanes.specs.declared.class.Class.TheVariants as class
use Rattle.text_scan.specs.Strings.{IsString, string_end}
use Rattle.text_scan.proofs.Runs.{AllAre-run}
use Rattle.text_scan.proofs.StringLaws.{string_front}
use Rattle.pdll_lexer.specs.Forms.{HasForm}
use Rattle.pdll_lexer.specs.Scan.{Outcome, token, string, mark_kind, pair_kind, is_include, mark, first_token}
use Rattle.pdll_lexer.specs.declared.token.Token.{Token}
use Rattle.pdll_lexer.specs.declared.token.TokenKind.{TokenKind}
use Rattle.pdll_lexer.specs.declared.token.TokenKind.TheVariants as kind
use Rattle.pdll_lexer.specs.declared.token.LexFault.TheVariants.{BadByte, BadString}

-- a text of this form is at the front, and this long
abbrev pub Begins : (List ℕ → Type 0) → List ℕ → ℕ → Type 0
Begins Form s n = (front rest : List ℕ) × Form front × (s ≡ front ++ rest) × (length front ≡ n)

-- the token at the front of what is left, or the end
abbrev pub Stands : ℕ → List ℕ → Token → Type 0
Stands at s t =
    (t.start ≡ at) × (((t.kind ≡ kind.End) × (s ≡ []) × (t.end ≡ at)) ⊎ ((front rest : List ℕ) × HasForm t.kind front × (s ≡ front ++ rest) × (t.end ≡ at + length front)))

-- what each answer says of the text
abbrev pub Judged : ℕ → List ℕ → Outcome → Type 0
Judged at s (Ok t) = Stands at s t
Judged at s (Err (BadByte p)) = (p ≡ at) × (0 < length s) × (get_or s 0 0 ≢ 34)
Judged at s (Err (BadString p)) = (p ≡ at) × (get_or s 0 0 ≡ 34) × (string_end 0 s ≡ None)

judged : (k : TokenKind) (at n : ℕ) (s : List ℕ) → Begins (HasForm k) s n → Judged at s (token k at n)
judged k at n s (front, rest, form, e, len) = (refl, inr (front, rest, form, e, omega (arith, len)))

judged_if : (at : ℕ) (s : List ℕ) (p : Bool) (x y : Outcome) → (p ≡ true → Judged at s x) → (p ≡ false → Judged at s y) → Judged at s (cond p x y)
judged_if at s true x y then_it else_it = then_it refl
judged_if at s false x y then_it else_it = else_it refl

run_begins : (p : ℕ → Bool) (s : List ℕ) → Begins (AllAre p) s (prefix_len p s)
run_begins p s =
    (take (prefix_len p s) s, drop (prefix_len p s) s, AllAre-run p s, sym (take-append-drop (prefix_len p s) s), length-take-le (prefix_len p s) s (prefix_len-le-length p s))

longer : (F G : List ℕ → Type 0) (b : ℕ) (s : List ℕ) (n : ℕ) → ((xs : List ℕ) → F xs → G (b ∷ xs)) → Begins F s n → Begins G (b ∷ s) (1 + n)
longer F G b s n change (front, rest, form, e, len) = (b ∷ front, rest, change front form, ap (λ t. b ∷ t) e, omega (arith, len))

word_judged : (at b : ℕ) (s : List ℕ) → is_word_start b ≡ true → Judged at (b ∷ s) (token kind.Word at (1 + prefix_len (is_in class.Name) s))
word_judged at b s start =
    judged kind.Word at (1 + prefix_len (is_in class.Name) s) (b ∷ s)
    (longer (AllAre (is_in class.Name)) (HasForm kind.Word) b s (prefix_len (is_in class.Name) s) (λ xs all. (start, all)) (run_begins (is_in class.Name) s))

integer_judged : (at b : ℕ) (s : List ℕ) → is_digit b ≡ true → Judged at (b ∷ s) (token kind.Integer at (1 + prefix_len (is_in class.Digit) s))
integer_judged at b s digit =
    judged kind.Integer at (1 + prefix_len (is_in class.Digit) s) (b ∷ s)
    (longer (AllAre (is_in class.Digit)) (HasForm kind.Integer) b s (prefix_len (is_in class.Digit) s) (λ xs all. (digit, all)) (run_begins (is_in class.Digit) s))

-- strings

string_begins : (s : List ℕ) (n : ℕ) → string_end 0 s ≡ Some n → Begins IsString s n
string_begins s n h = let (front, rest, is, e, len) = string_front s 0 n h in (front, rest, is, e, omega (arith, len))

string_by : (at : ℕ) (s : List ℕ) (o : Option ℕ) → string_end 0 s ≡ o → get_or s 0 0 ≡ 34 → Judged at s (option_map_or (λ len. token kind.String at len) o (Err (BadString at)))
string_by at s None is quote = (refl, quote, is)
string_by at s (Some n) is quote = judged kind.String at n s (string_begins s n is)

-- marks

include_judged : (at : ℕ) (s : List ℕ) → is_include s ≡ true → Judged at s (token kind.Include at 8)
include_judged at s h =
    let same : codes "#include" ≡ take 8 s = (bytes_eq-Decides (codes "#include") (take 8 s)).0 h in
    judged kind.Include at 8 s (take 8 s, drop 8 s, sym same, sym (take-append-drop 8 s), ap length (sym same))

one : (k : TokenKind) (at b : ℕ) (s : List ℕ) → HasForm k (b ∷ []) → Judged at (b ∷ s) (token k at 1)
one k at b s form = judged k at 1 (b ∷ s) (b ∷ [], s, form, refl, refl)

two : (k : TokenKind) (at b c : ℕ) (s : List ℕ) → HasForm k (b ∷ c ∷ []) → Judged at (b ∷ c ∷ s) (token k at 2)
two k at b c s form = judged k at 2 (b ∷ c ∷ s) (b ∷ c ∷ [], s, form, refl, refl)

abbrev IsMarkOf : ℕ → Option TokenKind → Type 0
IsMarkOf b None = Unit {0}
IsMarkOf b (Some k) = HasForm k (b ∷ [])

mark_if : (b c : ℕ) (k : TokenKind) (o : Option TokenKind) → HasForm k (c ∷ []) → IsMarkOf b o → IsMarkOf b (cond (b == c) (Some k) o)
mark_if b c k o form more = by_test (b == c) refl
  where
    by_test : (p : Bool) → b == c ≡ p → IsMarkOf b (cond p (Some k) o)
    by_test true is = subst (λ x. HasForm k (x ∷ [])) (sym (eqb-true b c is)) form
    by_test false is = more

mark_kind_is : (b : ℕ) → IsMarkOf b (mark_kind b)
mark_kind_is b =
    mark_if b 40 kind.LeftParen _ refl (mark_if b 41 kind.RightParen _ refl (mark_if b 123 kind.LeftBrace _ refl (mark_if b 125 kind.RightBrace _ refl
    (mark_if b 91 kind.LeftBracket _ refl (mark_if b 93 kind.RightBracket _ refl (mark_if b 60 kind.Less _ refl (mark_if b 62 kind.Greater _ refl
    (mark_if b 44 kind.Comma _ refl (mark_if b 58 kind.Colon _ refl (mark_if b 59 kind.Semicolon _ refl (mark_if b 61 kind.Equal _ refl
    (mark_if b 46 kind.Dot None refl tt))))))))))))

one_by : (at b : ℕ) (s : List ℕ) (o : Option TokenKind) → IsMarkOf b o → b ≢ 34 → Judged at (b ∷ s) (option_map_or (λ k. token k at 1) o (Err (BadByte at)))
one_by at b s None is quote = (refl, omega arith, quote)
one_by at b s (Some k) is quote = one k at b s is

-- a mark of two bytes, of which the second is one
abbrev IsPairOf : ℕ → ℕ → Option TokenKind → Type 0
IsPairOf b c None = Unit {0}
IsPairOf b c (Some k) = HasForm k (b ∷ c ∷ []) × (c ≢ 0)

pair_if : (b c x y : ℕ) (k : TokenKind) (o : Option TokenKind) → HasForm k (x ∷ y ∷ []) → y ≢ 0 → IsPairOf b c o → IsPairOf b c (cond (b == x && c == y) (Some k) o)
pair_if b c x y k o form some more = by_test (b == x && c == y) refl
  where
    by_test : (p : Bool) → (b == x && c == y) ≡ p → IsPairOf b c (cond p (Some k) o)
    by_test true is =
        let both = and_parts (b == x) (c == y) is in
        let first = eqb-true b x both.0 in
        let second = eqb-true c y both.1 in
        (subst (λ u. HasForm k (u ∷ c ∷ [])) (sym first) (subst (λ u. HasForm k (x ∷ u ∷ [])) (sym second) form), λ e. some (omega (arith, second, e)))
    by_test false is = more

pair_kind_is : (b c : ℕ) → IsPairOf b c (pair_kind b c)
pair_kind_is b c =
    pair_if b c 91 123 kind.CppBody _ refl (λ e. omega arith) (pair_if b c 45 62 kind.Arrow _ refl (λ e. omega arith)
    (pair_if b c 61 62 kind.FatArrow None refl (λ e. omega arith) tt))

two_by : (at b : ℕ) (s : List ℕ) (o : Option TokenKind) (last : Outcome) → IsPairOf b (get_or s 0 0) o → Judged at (b ∷ s) last → Judged at (b ∷ s) (option_map_or (λ k. token k at 2) o last)
two_by at b s None last is other = other
two_by at b [] (Some k) last is other = absurd (is.1 refl)
two_by at b (c ∷ s) (Some k) last is other = two k at b c s is.0

mark_judged : (at b : ℕ) (s : List ℕ) → b ≢ 34 → Judged at (b ∷ s) (mark at (b ∷ s))
mark_judged at b s quote =
    let short = option_map_or (λ k. token k at 1) (mark_kind b) (Err (BadByte at)) in
    judged_if at (b ∷ s) (is_include (b ∷ s)) (token kind.Include at 8) (option_map_or (λ k. token k at 2) (pair_kind b (get_or s 0 0)) short)
    (λ h. include_judged at (b ∷ s) h)
    (λ other. two_by at b s (pair_kind b (get_or s 0 0)) short (pair_kind_is b (get_or s 0 0)) (one_by at b s (mark_kind b) (mark_kind_is b) quote))

-- what is found, and each fault
pub first_judged : (at : ℕ) (s : List ℕ) → Judged at s (first_token at s)
first_judged at [] = (refl, inl (refl, refl, add-zero at))
first_judged at (b ∷ s) =
    judged_if at (b ∷ s) (is_word_start b) (token kind.Word at (1 + prefix_len (is_in class.Name) s)) (cond (is_digit b) (token kind.Integer at (1 + prefix_len (is_in class.Digit) s)) (cond (b == 34) (string at (b ∷ s)) (mark at (b ∷ s))))
    (λ start. word_judged at b s start)
    (λ no_word. judged_if at (b ∷ s) (is_digit b) (token kind.Integer at (1 + prefix_len (is_in class.Digit) s)) (cond (b == 34) (string at (b ∷ s)) (mark at (b ∷ s)))
    (λ digit. integer_judged at b s digit)
    (λ no_digit. judged_if at (b ∷ s) (b == 34) (string at (b ∷ s)) (mark at (b ∷ s))
    (λ quote. string_by at (b ∷ s) (string_end 0 (b ∷ s)) refl (eqb-true b 34 quote))
    (λ no_quote. mark_judged at b s (eqb-false b 34 no_quote))))
