-- The token that the scan finds is no shorter than a text of any form.
use Rattle.std.proofs.Common.{◌≡◌, ℕ, suc, ◌+◌, ◌≤◌, Bool, true, false, cond, List, [], ◌∷◌, ◌++◌, length, refl, arith, Ok, Err, Some, None}
use Rattle.std.specs.Prelude.{◌==◌, slice_index}
use Rattle.std.specs.Option.{option_map_or}
use Rattle.std.specs.List.{prefix_len}
use Rattle.text_scan.specs.Bytes.{AllAre, is_in, is_digit, is_word_start}
use Rattle.byte_lanes.specs.declared.class.Class.TheVariants as class
use Rattle.text_scan.specs.Strings.{IsString}
use Rattle.text_scan.proofs.Runs.{prefix_len-front}
use Rattle.text_scan.proofs.StringLaws.{string_covers}
use Rattle.pdll_lexer.specs.Forms.{HasForm}
use Rattle.pdll_lexer.specs.Scan.{Outcome, token, string, first_token}
use Rattle.pdll_lexer.specs.declared.token.TokenKind.{TokenKind}
use Rattle.pdll_lexer.specs.declared.token.TokenKind.TheVariants as kind
use Rattle.pdll_lexer.proofs.Classes.{digit_no_start}

-- a token was found at the place that is at least n long, and of this kind where it is just n long
abbrev pub Covers : TokenKind → ℕ → ℕ → Outcome → Type 0
Covers k at n (Ok t) = (at + n ≤ t.end) × (at + n ≡ t.end → t.kind ≡ k)
Covers k at n (Err e) = ⊥

run_covers : (p : ℕ → Bool) (xs rest : List ℕ) → AllAre p xs → length xs ≤ prefix_len p (xs ++ rest)
run_covers p xs rest h = let e = prefix_len-front p xs rest h in omega arith

word_covers : (at b : ℕ) (xs rest : List ℕ) → is_word_start b ≡ true → AllAre (is_in class.Name) xs → Covers kind.Word at (suc (length xs)) (first_token at (b ∷ (xs ++ rest)))
word_covers at b xs rest start all = rw start (let k = run_covers (is_in class.Name) xs rest all in (omega arith, λ e. refl))

integer_covers : (at b : ℕ) (xs rest : List ℕ) → is_digit b ≡ true → AllAre (is_in class.Digit) xs → Covers kind.Integer at (suc (length xs)) (first_token at (b ∷ (xs ++ rest)))
integer_covers at b xs rest digit all =
    rw (digit_no_start b digit, digit) (let k = run_covers (is_in class.Digit) xs rest all in (omega arith, λ e. refl))

string_token : (at : ℕ) (front rest : List ℕ) → IsString front → Covers kind.String at (length front) (string at (front ++ rest))
string_token at front rest is = rw (string_covers front rest 0 is) (omega arith, λ same. refl)

bracket_by : (at : ℕ) (p : Bool) → Covers kind.LeftBracket at 1 (option_map_or (λ k. token k at 2) (cond p (Some kind.CppBody) None) (token kind.LeftBracket at 1))
bracket_by at true = (omega arith, λ e. absurd (omega arith))
bracket_by at false = (omega arith, λ e. refl)

equal_by : (at : ℕ) (p : Bool) → Covers kind.Equal at 1 (option_map_or (λ k. token k at 2) (cond p (Some kind.FatArrow) None) (token kind.Equal at 1))
equal_by at true = (omega arith, λ e. absurd (omega arith))
equal_by at false = (omega arith, λ e. refl)

-- what stands in front of a text that has the form of a token
pub covers : (k : TokenKind) (at : ℕ) (front rest : List ℕ) → HasForm k front → Covers k at (length front) (first_token at (front ++ rest))
covers kind.End at front rest h = absurd h
covers kind.Word at [] rest h = absurd h
covers kind.Word at (b ∷ xs) rest h = word_covers at b xs rest h.0 h.1
covers kind.Integer at [] rest h = absurd h
covers kind.Integer at (b ∷ xs) rest h = integer_covers at b xs rest h.0 h.1
covers kind.String at front rest h = string_first front h (string_token at front rest h)
  where
    string_first : (front : List ℕ) → IsString front → Covers kind.String at (length front) (string at (front ++ rest)) → Covers kind.String at (length front) (first_token at (front ++ rest))
    string_first front (value, (inside, spells, e)) c = rw e (rw e at c)
covers kind.LeftParen at front rest h = rw h (omega arith, λ e. refl)
covers kind.RightParen at front rest h = rw h (omega arith, λ e. refl)
covers kind.LeftBrace at front rest h = rw h (omega arith, λ e. refl)
covers kind.RightBrace at front rest h = rw h (omega arith, λ e. refl)
covers kind.LeftBracket at front rest h = rw h (bracket_by at (slice_index rest 0 == 123))
covers kind.RightBracket at front rest h = rw h (omega arith, λ e. refl)
covers kind.Less at front rest h = rw h (omega arith, λ e. refl)
covers kind.Greater at front rest h = rw h (omega arith, λ e. refl)
covers kind.Comma at front rest h = rw h (omega arith, λ e. refl)
covers kind.Colon at front rest h = rw h (omega arith, λ e. refl)
covers kind.Semicolon at front rest h = rw h (omega arith, λ e. refl)
covers kind.Equal at front rest h = rw h (equal_by at (slice_index rest 0 == 62))
covers kind.Dot at front rest h = rw h (omega arith, λ e. refl)
covers kind.Arrow at front rest h = rw h (omega arith, λ e. refl)
covers kind.FatArrow at front rest h = rw h (omega arith, λ e. refl)
covers kind.CppBody at front rest h = rw h (omega arith, λ e. refl)
covers kind.Include at front rest h = rw h (omega arith, λ e. refl)
