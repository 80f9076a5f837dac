-- Each line of a log ends at its first line feed.
use Rattle.std.proofs.Common.{◌≡◌, ℕ, ◌+◌, ◌/◌, ◌%◌, ◌^◌, ◌<◌, ◌≤◌, Bool, true, false, cond, not, List, [], ◌∷◌, ◌++◌, codes, decimal, refl, sym, ap, ◌∙◌, arith, inl, inr, eqb-true}
use Rattle.std.specs.Prelude.{◌==◌, ◌&&◌, nat_le, nat_lt, ◌⊎◌}
use Rattle.std.specs.List.{flat_map, list_all}
use Rattle.std.specs.Str.Parse.{AllDigits}
use Rattle.std.proofs.lemmas.Bool.{and_parts}
use Rattle.std.proofs.lemmas.Bool.Decides.{nat_tests}
use Rattle.std.proofs.lemmas.Fmt.{decimal_is_IsNumeral}
use Rattle.std.proofs.lemmas.Str.Parse.{digit_from_value}
use Rattle.mlir_print.specs.Text.{hex_digit, byte_text, string_text}
use Rattle.rewrite_model.specs.declared.run.Break.{Break}
use Rattle.rewrite_model.specs.declared.run.Break.TheVariants.{Gone, Count, Types, Top, NativeRefused, BadUse}
use Rattle.rewrite_model.specs.declared.run.BoundKind.{BoundKind}
use Rattle.rewrite_model.specs.declared.run.BoundKind.TheVariants.{Rewrites, RowLimit, SlotLimit}
use Rattle.rewrite_model.specs.declared.run.Ending.{Ending}
use Rattle.rewrite_model.specs.declared.run.Ending.TheVariants.{Converged, Bound, Broken}
use Rattle.rewrite_model.specs.Taken.{Taken}
use Rattle.run_model.specs.LogText.{numbers_text, step_line, place_text, break_text, bound_text, ending_line}
use Rattle.run_log.specs.Written.{AreWords, IsStep, IsBreak, IsEnding}
use Rattle.run_log.specs.ReadLog.{NoFeed, IsLine}
use Rattle.run_log.proofs.Lines.{more_numbers}
use Rattle.run_log.proofs.Pieces.{joins, true_false}

-- ---- texts with no line feed

both : {p q : Bool} → p ≡ true → q ≡ true → (p && q) ≡ true
both e f = rw (e, f) refl

pub plain_then : (a b : List ℕ) → NoFeed a → NoFeed b → NoFeed (a ++ b)
plain_then [] b x y = y
plain_then (c ∷ a) b x y = let parts = and_parts (not (c == 10)) (list_all (λ d. not (d == 10)) a) x in both parts.0 (plain_then a b parts.1 y)

no_feed_digit : (d : ℕ) → 48 ≤ d → not (d == 10) ≡ true
no_feed_digit d h = grind (arith, nat_tests)

plain_digits : (ds : List ℕ) → AllDigits 10 ds → NoFeed ds
plain_digits [] h = refl
plain_digits (d ∷ ds) h = both (no_feed_digit d (digit_from_value d h.0).0) (plain_digits ds h.1)

pub plain_number : (n : ℕ) → n < 2 ^ 64 → NoFeed (decimal n)
plain_number n small = plain_digits (decimal n) (decimal_is_IsNumeral n small).0.1

hex_by : (n : ℕ) (p : Bool) → not (cond p (48 + n) (55 + n) == 10) ≡ true
hex_by n true = no_feed_digit (48 + n) (omega arith)
hex_by n false = no_feed_digit (55 + n) (omega arith)

plain_hex : (n : ℕ) → not (hex_digit n == 10) ≡ true
plain_hex n = hex_by n (nat_lt n 10)

printable : (b : ℕ) → (nat_le 32 b && (nat_le b 126 && not (b == 34))) ≡ true → not (b == 10) ≡ true
printable b h = grind (arith, nat_tests)

byte_by : (b : ℕ) (slash shown : Bool) → (nat_le 32 b && (nat_le b 126 && not (b == 34))) ≡ shown
    → NoFeed (cond slash (92 ∷ 92 ∷ []) (cond shown (b ∷ []) (92 ∷ hex_digit (b / 16) ∷ hex_digit (b % 16) ∷ [])))
byte_by b true shown is = refl
byte_by b false true is = both (printable b is) refl
byte_by b false false is = both (plain_hex (b / 16)) (both (plain_hex (b % 16)) refl)

plain_byte : (b : ℕ) → NoFeed (byte_text b)
plain_byte b = byte_by b (b == 92) (nat_le 32 b && (nat_le b 126 && not (b == 34))) refl

plain_bytes : (bytes : List ℕ) → NoFeed (flat_map byte_text bytes)
plain_bytes [] = refl
plain_bytes (b ∷ bytes) = plain_then (byte_text b) (flat_map byte_text bytes) (plain_byte b) (plain_bytes bytes)

plain_string : (bytes : List ℕ) → NoFeed (string_text bytes)
unfolding string_text
plain_string bytes = plain_then (flat_map byte_text bytes) (codes "\"") (plain_bytes bytes) refl

plain_more : (ns : List ℕ) → AreWords ns → NoFeed (more_numbers ns)
plain_more [] h = refl
plain_more (n ∷ ns) h = plain_then (codes "," ++ decimal n) (more_numbers ns) (plain_number n (omega (arith, h.0))) (plain_more ns h.1)

plain_numbers : (ns : List ℕ) → AreWords ns → NoFeed (numbers_text ns)
plain_numbers [] h = refl
plain_numbers (n ∷ ns) h = plain_then (decimal n) (more_numbers ns) (plain_number n (omega (arith, h.0))) (plain_more ns h.1)

-- ---- the lines

-- a piece in front of a line
pub line_behind : (a b : List ℕ) → NoFeed a → IsLine b → IsLine (a ++ b)
line_behind a b x (text, plain, is) = (a ++ text, plain_then a text x plain, ap (λ t. a ++ t) is ∙ sym (joins a text (codes "\n")))

line_end : IsLine (codes "\n")
line_end = ([], refl, refl)

pub step_is_line : (k : ℕ) (s : Taken) → k < 2 ^ 64 → IsStep s → IsLine (step_line k s)
unfolding step_line
step_is_line k s small is =
    let end = line_behind (codes " removed ") _ refl (line_behind (numbers_text s.removed) _ (plain_numbers s.removed is.removed) line_end) in
    let from_made = line_behind (codes " made ") _ refl (line_behind (numbers_text s.made) _ (plain_numbers s.made is.made) end) in
    let from_root = line_behind (codes " root ") _ refl (line_behind (decimal s.root) _ (plain_number s.root (omega (arith, is.root))) from_made) in
    let from_name = line_behind (codes " ") _ refl (line_behind (string_text s.name) _ (plain_string s.name) from_root) in
    let from_pattern = line_behind (codes " pattern ") _ refl (line_behind (decimal s.pattern) _ (plain_number s.pattern (omega (arith, is.pattern))) from_name) in
    line_behind (codes "step ") _ refl (line_behind (decimal k) _ (plain_number k small) from_pattern)

plain_place : (pattern row : ℕ) → pattern < 2 ^ 32 → row < 2 ^ 32 → NoFeed (place_text pattern row)
plain_place pattern row p r =
    plain_then (codes " pattern ") (decimal pattern ++ (codes " root " ++ (decimal row ++ []))) refl
    (plain_then (decimal pattern) (codes " root " ++ (decimal row ++ [])) (plain_number pattern (omega (arith, p)))
    (plain_then (codes " root ") (decimal row ++ []) refl (plain_then (decimal row) [] (plain_number row (omega (arith, r))) refl)))

plain_break : (w : Break) → IsBreak w → NoFeed (break_text w)
plain_break Gone h = refl
plain_break Count h = refl
plain_break Types h = refl
plain_break Top h = refl
plain_break NativeRefused h = refl
plain_break (BadUse row place) h =
    plain_then (codes "bad-use row ") (decimal row ++ (codes " place " ++ (decimal place ++ []))) refl
    (plain_then (decimal row) (codes " place " ++ (decimal place ++ [])) (plain_number row (omega (arith, h.0)))
    (plain_then (codes " place ") (decimal place ++ []) refl (plain_then (decimal place) [] (plain_number place (omega (arith, h.1))) refl)))

plain_bound : (k : BoundKind) → NoFeed (bound_text k)
plain_bound Rewrites = refl
plain_bound RowLimit = refl
plain_bound SlotLimit = refl

pub ending_is_line : (n : ℕ) (e : Ending) → n < 2 ^ 64 → IsEnding e → IsLine (ending_line n e)
unfolding ending_line
ending_is_line n Converged small is = line_behind (codes "end converged steps ") _ refl (line_behind (decimal n) _ (plain_number n small) line_end)
ending_is_line n (Bound k h) small is =
    let end = line_behind (decimal n) _ (plain_number n small) (line_behind (place_text h.pattern h.row) _ (plain_place h.pattern h.row is.0 is.1) line_end) in
    line_behind (codes "end bound ") _ refl (line_behind (bound_text k) _ (plain_bound k) (line_behind (codes " steps ") _ refl end))
ending_is_line n (Broken b) small is =
    let end = line_behind (codes " ") _ refl (line_behind (break_text b.why) _ (plain_break b.why is.2) line_end) in
    line_behind (codes "end broken steps ") _ refl (line_behind (decimal n) _ (plain_number n small) (line_behind (place_text b.pattern b.root) _ (plain_place b.pattern b.root is.0 is.1) end))

-- ---- a text has one first line

abbrev head_of : List ℕ → ℕ
head_of [] = 0
head_of (b ∷ t) = b

abbrev pub tail_of : List ℕ → List ℕ
tail_of [] = []
tail_of (b ∷ t) = t

feed_no : (c : ℕ) (p : Bool) → (not (c == 10) && p) ≡ true → c ≡ 10 → ⊥
feed_no c p h e = true_false (sym (and_parts (not (c == 10)) p h).0 ∙ ap (λ d. not (d == 10)) e)

cut : (t u a b : List ℕ) → NoFeed t → NoFeed u → t ++ (10 ∷ a) ≡ u ++ (10 ∷ b) → (t ≡ u) × (a ≡ b)
cut [] [] a b x y e = (refl, ap tail_of e)
cut [] (c ∷ u) a b x y e = absurd (feed_no c (list_all (λ d. not (d == 10)) u) y (sym (ap head_of e)))
cut (c ∷ t) [] a b x y e = absurd (feed_no c (list_all (λ d. not (d == 10)) t) x (ap head_of e))
cut (c ∷ t) (d ∷ u) a b x y e =
    let (same, rest) = cut t u a b (and_parts (not (c == 10)) (list_all (λ z. not (z == 10)) t) x).1 (and_parts (not (d == 10)) (list_all (λ z. not (z == 10)) u) y).1 (ap tail_of e) in
    ((λ i. ap head_of e i ∷ same i), rest)

pub one_line : (l m a b : List ℕ) → IsLine l → IsLine m → l ++ a ≡ m ++ b → (l ≡ m) × (a ≡ b)
one_line l m a b (t, x, is) (u, y, is2) e =
    let (same, rest) = cut t u a b x y (sym (joins t (codes "\n") a) ∙ ap (λ z. z ++ a) (sym is) ∙ e ∙ ap (λ z. z ++ b) is2 ∙ joins u (codes "\n") b) in
    (is ∙ ap (λ z. z ++ codes "\n") same ∙ sym is2, rest)

-- the first line of a text, or all of it where it has no line feed
pub record FirstLine (text : List ℕ) : Type 0 where
  pub line : List ℕ
  pub more : List ℕ
  pub split : text ≡ line ++ more
  pub is : IsLine line ⊎ (NoFeed line × (more ≡ []))

line_by : (b : ℕ) (text : List ℕ) (p : Bool) → b == 10 ≡ p → FirstLine text → FirstLine (b ∷ text)
line_by b text true is rest = record { line = b ∷ []; more = text; split = refl; is = inl ([], refl, ap (λ c. c ∷ []) (eqb-true b 10 is)) }
line_by b text false is rest = record { line = b ∷ rest.line; more = rest.more; split = ap (λ t. b ∷ t) rest.split; is = by_end rest.is }
  where
    other : not (b == 10) ≡ true
    other = ap not is

    by_end : (IsLine rest.line ⊎ (NoFeed rest.line × (rest.more ≡ []))) → IsLine (b ∷ rest.line) ⊎ (NoFeed (b ∷ rest.line) × (rest.more ≡ []))
    by_end (inl (t, plain, e)) = inl (b ∷ t, both other plain, ap (λ u. b ∷ u) e)
    by_end (inr (plain, e)) = inr (both other plain, e)

pub first_line : (text : List ℕ) → FirstLine text
first_line [] = record { line = []; more = []; split = refl; is = inr (refl, refl) }
first_line (b ∷ text) = line_by b text (b == 10) refl (first_line text)
