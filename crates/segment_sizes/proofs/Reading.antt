-- Numbers and parts, read from the front.
use Rattle.std.proofs.Common.{◌≡◌, eq-eqb, length-drop, option_map, ℕ, zero, suc, ◌+◌, ◌-◌, ◌*◌, ◌<◌, ◌≤◌, Bool, true, false, cond, List, [], ◌∷◌, length, take, drop, Option, Some, None, refl, sym, ap, ◌∙◌, arith, subst, get_or}
use Rattle.std.specs.Prelude.{nat_le, nat_lt, ◌==◌, ◌&&◌, not, IsTrue}
use Rattle.std.specs.List.{AllByRecursion, prefix_len, position_or_len, onto_first}
use Rattle.std.specs.Str.Parse.{digits_value}
use Rattle.std.specs.Char.{digit_value}
use Rattle.std.proofs.lemmas.Bool.Decides.{nat_tests}
use Rattle.std.proofs.lemmas.Str.{digit_value_digit}
use Rattle.std.proofs.lemmas.Int.Digits.{digits_value_more}
use Rattle.std.proofs.lemmas.List.Splits.{length-slice_split}
use Rattle.byte_lanes.specs.Bytes.{is_digit, is_space}
use Rattle.segment_sizes.specs.Sizes.{unspaced, parts, number_of, size_of}
use Rattle.segment_sizes.specs.Reading.{up_to}

-- ---- numbers

digit_at : (ds : List ℕ) (i : ℕ) → i < length ds → AllByRecursion (λ b. IsTrue (is_digit b)) ds → is_digit (get_or ds i 0) ≡ true
digit_at [] i l h = absurd (omega (arith, l))
digit_at (b ∷ ds) zero l h = h.0
digit_at (b ∷ ds) (suc i) l h = digit_at ds i (omega (arith, l)) h.1

digit_is : (b : ℕ) → is_digit b ≡ true → (digit_value b ≡ b - 48) × (48 ≤ b)
digit_is b h =
    let low : 48 ≤ b = grind (arith, nat_tests) in
    let high : b ≤ 57 = grind (arith, nat_tests) in
    let e = digit_value_digit b (low, high) in (omega (arith, e), low)

pub next_digit : (ds : List ℕ) (i : ℕ) → i < length ds → AllByRecursion (λ b. IsTrue (is_digit b)) ds
    → (digits_value 10 (take (i + 1) ds) ≡ digits_value 10 (take i ds) * 10 + (get_or ds i 0 - 48)) × (48 ≤ get_or ds i 0)
next_digit ds i l h =
    let d = digit_is (get_or ds i 0) (digit_at ds i l h) in
    (digits_value_more 10 ds i l ∙ ap (λ n. digits_value 10 (take i ds) * 10 + n) d.0, d.1)

pub too_great : (most m n : ℕ) → None ≡ up_to most m → m ≤ n → None ≡ up_to most n
too_great most m n e l = by (nat_le m most) refl e (nat_le n most) refl where
  by : (b : Bool) → nat_le m most ≡ b → None ≡ cond b (Some m) None → (d : Bool) → nat_le n most ≡ d → None ≡ cond d (Some n) None
  by true p e d q = absurd (cc)
  by false p e true q = absurd (grind (arith, nat_tests))
  by false p e false q = refl

pub not_too_great : (most m v : ℕ) → Some v ≡ up_to most m → (v ≡ m) × (m ≤ most)
not_too_great most m v e = by (nat_le m most) refl e where
  by : (b : Bool) → nat_le m most ≡ b → Some v ≡ cond b (Some m) None → (v ≡ m) × (m ≤ most)
  by true p e = (cc, grind (arith, nat_tests))
  by false p e = absurd (cc)

pub up_to_itself : (most m : ℕ) → m ≤ most → Some m ≡ up_to most m
up_to_itself most m l = by (nat_le m most) refl where
  by : (b : Bool) → nat_le m most ≡ b → Some m ≡ cond b (Some m) None
  by true p = refl
  by false p = absurd (grind (arith, nat_tests))

-- A number is read where digits and then nothing but spaces are left.
pub number_read : (text : List ℕ) (n : ℕ) → n ≡ prefix_len is_digit text → (0 < n) → prefix_len is_space (drop n text) ≡ length (drop n text) → n ≤ length text → number_of n text ≡ Some (digits_value 10 (take n text))
number_read text n e some all within =
    let long : length (drop n text) ≡ length text - n = length-drop n text in
    let a : nat_lt 0 n ≡ true = grind (arith, nat_tests) in
    let b : (n + prefix_len is_space (drop n text) == length text) ≡ true = eq-eqb _ _ (omega (arith, all, long, within)) in
    λ i. cond (a i && b i) (Some (digits_value 10 (take n text))) None

pub all_digits : (text : List ℕ) → AllByRecursion (λ b. IsTrue (is_digit b)) (take (prefix_len is_digit text) text)
all_digits [] = tt
all_digits (b ∷ text) = by (is_digit b) refl (all_digits text) where
  more : suc (prefix_len is_digit text) ≡ 1 + prefix_len is_digit text
  more = omega arith

  by : (t : Bool) → is_digit b ≡ t → AllByRecursion (λ x. IsTrue (is_digit x)) (take (prefix_len is_digit text) text) → AllByRecursion (λ x. IsTrue (is_digit x)) (take (cond t (1 + prefix_len is_digit text) 0) (b ∷ text))
  by true p h = subst (λ n. AllByRecursion (λ x. IsTrue (is_digit x)) (take n (b ∷ text))) more (p, h)
  by false p h = tt

pub size_read : (part text digits : List ℕ) (n : ℕ) → text ≡ unspaced part → n ≡ prefix_len is_digit text → digits ≡ take n text → 0 < n → prefix_len is_space (drop n text) ≡ length (drop n text) → n ≤ length text
    → size_of part ≡ Some (digits_value 10 digits)
size_read part text digits n t e d some all within =
    ap (λ x. number_of (prefix_len is_digit x) x) (sym t) ∙ (ap (λ k. number_of k text) (sym e) ∙ (number_read text n e some all within ∙ ap (λ x. Some (digits_value 10 x)) (sym d)))

-- ---- parts

abbrev pub behind_comma : List ℕ → List (List ℕ)
behind_comma [] = []
behind_comma (b ∷ more) = parts more

pub part_front : (text : List ℕ) → parts text ≡ take (position_or_len (λ b. b == 44) text) text ∷ behind_comma (drop (position_or_len (λ b. b == 44) text) text)
part_front [] = refl
part_front (b ∷ text) = by (b == 44) (part_front text) where
  more : suc (position_or_len (λ b. b == 44) text) ≡ 1 + position_or_len (λ b. b == 44) text
  more = omega arith

  by : (t : Bool) → parts text ≡ take (position_or_len (λ b. b == 44) text) text ∷ behind_comma (drop (position_or_len (λ b. b == 44) text) text)
      → cond t ([] ∷ parts text) (onto_first b (parts text)) ≡ take (cond (not t) (1 + position_or_len (λ b. b == 44) text) 0) (b ∷ text) ∷ behind_comma (drop (cond (not t) (1 + position_or_len (λ b. b == 44) text) 0) (b ∷ text))
  by true e = refl
  by false e = ap (onto_first b) e ∙ ap (λ n. take n (b ∷ text) ∷ behind_comma (drop n (b ∷ text))) more

pub is_nothing : (xs : List ℕ) → length xs ≡ 0 → xs ≡ []
is_nothing [] e = refl
is_nothing (x ∷ xs) e = absurd (omega (arith, e))

pub length_parts : (text : List ℕ) → length (parts text) ≤ length text + 1
length_parts [] = omega arith
length_parts (b ∷ text) = by (b == 44) (parts text) (length_parts text) (one_part text) where
  by : (t : Bool) (ps : List (List ℕ)) → length ps ≤ length text + 1 → 0 < length ps → length (cond t ([] ∷ ps) (onto_first b ps)) ≤ suc (length text) + 1
  by true ps l o = omega (arith, l)
  by false [] l o = absurd (omega (arith, o))
  by false (p ∷ ps) l o = omega (arith, l)

  one_part : (text : List ℕ) → 0 < length (parts text)
  one_part text = let e = length-slice_split (λ b. b == 44) text in omega (arith, e)

pub none_before : (o : Option (List ℕ)) → option_map (λ ns. 0 + length ns) o ≡ option_map length o
none_before None = refl
none_before (Some ns) = ap Some (omega arith)
