-- The bytes of a string, byte by byte.
use Rattle.std.proofs.Common.{◌≡◌, ℕ, ◌/◌, ◌%◌, ◌<◌, ◌≤◌, Bool, true, false, cond, not, List, [], ◌∷◌, ◌++◌, length, refl, sym, ap, ◌∙◌, arith, append-nil, length-append}
use Rattle.std.specs.Prelude.{◌==◌, ◌&&◌, nat_le, slice_index}
use Rattle.std.specs.List.{flat_map}
use Rattle.std.proofs.lemmas.List.{flat_map_more}
use Rattle.std.proofs.lemmas.Bool.Decides.{nat_tests}
use Rattle.mlir_print.specs.Text.{hex_digit, byte_text}
use Rattle.run_log.specs.Cursor.{At, good, Takes, size}
use Rattle.run_log.specs.Written.{AreBytes}
use Rattle.run_log.proofs.Pieces.{takes_then, takes_as, joins}

-- the bytes of a string
abbrev pub inside_text : List ℕ → List ℕ
inside_text bytes = flat_map byte_text bytes

-- Whatever bytes stood there, the ones read are their front, and the others are left.
abbrev pub LeftBytes : At → At → List ℕ → Type 0
LeftBytes start now bytes =
    (bs r : List ℕ) → AreBytes bs → start ≡ good (inside_text bs ++ (34 ∷ r))
    → (more : List ℕ) × AreBytes more × (bs ≡ bytes ++ more) × (now ≡ good (inside_text more ++ (34 ∷ r)))

-- a byte's text isn't empty, and doesn't begin with a quote
abbrev IsFirst : List ℕ → Type 0
IsFirst text = (1 ≤ length text) × ((r : List ℕ) → slice_index (text ++ r) 0 ≡ 34 → ⊥)

no_quote : (b : ℕ) → (b == 34) ≡ false → b ≡ 34 → ⊥
no_quote b h e = grind (arith, nat_tests)

printable_no_quote : (b : ℕ) → (nat_le 32 b && (nat_le b 126 && not (b == 34))) ≡ true → (b == 34) ≡ false
printable_no_quote b h = grind (arith, nat_tests)

slash_first : (b : ℕ) → b ≡ 92 → b ≡ 34 → ⊥
slash_first b e f = absurd (omega (arith, e, f))

first_by : (b : ℕ) (slash printable : Bool) → (nat_le 32 b && (nat_le b 126 && not (b == 34))) ≡ printable
    → IsFirst (cond slash (92 ∷ 92 ∷ []) (cond printable (b ∷ []) (92 ∷ hex_digit (b / 16) ∷ hex_digit (b % 16) ∷ [])))
first_by b true printable is = (omega arith, λ r e. slash_first 92 refl e)
first_by b false true is = (omega arith, λ r e. no_quote b (printable_no_quote b is) e)
first_by b false false is = (omega arith, λ r e. slash_first 92 refl e)

pub byte_first : (b : ℕ) → IsFirst (byte_text b)
byte_first b = first_by b (b == 92) (nat_le 32 b && (nat_le b 126 && not (b == 34))) refl

pub left_all : (start : At) → LeftBytes start start []
left_all start bs r all h = (bs, all, refl, h)

pub left_more : (start now new : At) (bytes : List ℕ) (b : ℕ) → LeftBytes start now bytes → (slice_index now.rest 0 ≡ 34 → ⊥)
    → ((x : ℕ) (r : List ℕ) → x < 256 → now ≡ good (byte_text x ++ r) → (b ≡ x) × (new ≡ good r)) → LeftBytes start new (bytes ++ b ∷ [])
left_more start now new bytes b left other reads bs r all h = by_more (left bs r all h)
  where
    by_more : ((more : List ℕ) × AreBytes more × (bs ≡ bytes ++ more) × (now ≡ good (inside_text more ++ (34 ∷ r)))) → (more : List ℕ) × AreBytes more × (bs ≡ (bytes ++ b ∷ []) ++ more) × (new ≡ good (inside_text more ++ (34 ∷ r)))
    by_more ([], words, is, at) = absurd (other (ap (λ a. slice_index a.rest 0) at))
    by_more (x ∷ more, words, is, at) =
        let (same, next) = reads x (inside_text more ++ (34 ∷ r)) words.0 (at ∙ ap good (joins (byte_text x) (inside_text more) (34 ∷ r))) in
        (more, words.1, is ∙ sym (joins bytes (b ∷ []) more ∙ ap (λ y. bytes ++ (y ∷ more)) same), next)

-- where the loop ends
pub left_none : (start now : At) (bytes bs r : List ℕ) → LeftBytes start now bytes → (now.ok ≡ true → slice_index now.rest 0 ≡ 34) → AreBytes bs
    → start ≡ good (inside_text bs ++ (34 ∷ r)) → (bytes ≡ bs) × (now ≡ good (34 ∷ r))
left_none start now bytes bs r left ends all h = by_more (left bs r all h)
  where
    by_more : ((more : List ℕ) × AreBytes more × (bs ≡ bytes ++ more) × (now ≡ good (inside_text more ++ (34 ∷ r)))) → (bytes ≡ bs) × (now ≡ good (34 ∷ r))
    by_more ([], words, is, at) = (sym (is ∙ append-nil bytes), at)
    by_more (x ∷ more, words, is, at) =
        absurd ((byte_first x).1 (inside_text more ++ (34 ∷ r)) (ap (λ t. slice_index t 0) (sym (joins (byte_text x) (inside_text more) (34 ∷ r))) ∙ sym (ap (λ a. slice_index a.rest 0) at) ∙ ends (ap (λ a. a.ok) at)))

pub took_more : (start now new : At) (bytes : List ℕ) (b : ℕ) → Takes start now (inside_text bytes) → Takes now new (byte_text b) → Takes start new (inside_text (bytes ++ b ∷ []))
took_more start now new bytes b x y = takes_as start new (inside_text bytes ++ byte_text b) (inside_text (bytes ++ b ∷ [])) (takes_then start now new (inside_text bytes) (byte_text b) x y) (flat_map_more byte_text [] bytes b)

-- a piece that isn't empty leaves less
size_by : (now new : At) (text : List ℕ) (p : Bool) → new.ok ≡ p → now.ok ≡ true → 1 ≤ length text → Takes now new text → size new < size now
size_by now new text true is ok some took = rw (is, ok) (omega (arith, some, ap length (took.split is), length-append text new.rest))
size_by now new text false is ok some took = rw (is, ok) (omega arith)

pub smaller : (now new : At) (text : List ℕ) → now.ok ≡ true → 1 ≤ length text → Takes now new text → size new < size now
smaller now new text ok some took = size_by now new text new.ok refl ok some took

pub byte_smaller : (now new : At) (b : ℕ) → now.ok ≡ true → Takes now new (byte_text b) → size new < size now
byte_smaller now new b ok took = smaller now new (byte_text b) ok (byte_first b).0 took

pub bytes_more : (bytes : List ℕ) (b : ℕ) → AreBytes bytes → b < 256 → AreBytes (bytes ++ b ∷ [])
bytes_more [] b all h = (h, tt)
bytes_more (x ∷ bytes) b all h = (all.0, bytes_more bytes b all.1 h)
