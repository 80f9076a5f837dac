-- Runs of bytes that are themselves inside a string.
use Rattle.std.proofs.Common.{◌≡◌, ℕ, ◌+◌, ◌-◌, ◌<◌, Bool, true, false, not, ◌&&◌, cond, List, [], ◌∷◌, ◌++◌, length, take, drop, get_or, refl, sym, ap, ◌∙◌}
use Rattle.std.specs.Prelude.{◌==◌, nat_le}
use Rattle.std.specs.List.{flat_map}
use Rattle.std.proofs.lemmas.List.{take_more, take-append-drop, drop-drop, length-drop}
use Rattle.std.proofs.lemmas.Grind.{flat_map-append}
use Rattle.mlir_print.specs.Text.{byte_text, is_plain}

pub plain_itself : (b : ℕ) → is_plain b ≡ true → byte_text b ≡ b ∷ []
plain_itself b p = by_tests (b == 92) (nat_le 32 b && (nat_le b 126 && not (b == 34))) (92 ∷ 92 ∷ []) (b ∷ []) _ p
  where
    by_tests : (back other : Bool) (x y z : List ℕ) → (not back && other) ≡ true → cond back x (cond other y z) ≡ y
    by_tests true other x y z q = absurd (cc)
    by_tests false true x y z q = refl
    by_tests false false x y z q = absurd (cc)

-- one byte more
pub text_more : (bytes : List ℕ) (n d : ℕ) → n < length bytes → flat_map byte_text (take (n + 1) bytes) ≡ flat_map byte_text (take n bytes) ++ byte_text (get_or bytes n d)
text_more bytes n d lt =
    ap (flat_map byte_text) (take_more bytes n d lt)
    ∙ (flat_map-append byte_text (take n bytes) (get_or bytes n d ∷ []) ∙ ap (λ l. flat_map byte_text (take n bytes) ++ l) (no_more (byte_text (get_or bytes n d))))
  where
    no_more : (xs : List ℕ) → xs ++ [] ≡ xs
    no_more [] = refl
    no_more (x ∷ xs) = ap (λ l. x ∷ l) (no_more xs)

pub plain_more : (bytes : List ℕ) (n d : ℕ) → n < length bytes → is_plain (get_or bytes n d) ≡ true → flat_map byte_text (take n bytes) ≡ take n bytes
    → flat_map byte_text (take (n + 1) bytes) ≡ take (n + 1) bytes
plain_more bytes n d lt plain same = text_more bytes n d lt ∙ ((λ i. same i ++ plain_itself (get_or bytes n d) plain i) ∙ sym (take_more bytes n d lt))

pub text_rest : (bytes : List ℕ) (at n : ℕ) → flat_map byte_text (take n (drop at bytes)) ++ flat_map byte_text (drop (at + n) bytes) ≡ flat_map byte_text (drop at bytes)
text_rest bytes at n =
    ap (λ l. flat_map byte_text (take n (drop at bytes)) ++ flat_map byte_text l) (sym (drop-drop n at bytes))
    ∙ (sym (flat_map-append byte_text (take n (drop at bytes)) (drop n (drop at bytes))) ∙ ap (flat_map byte_text) (take-append-drop n (drop at bytes)))

take_whole : (xs : List ℕ) → take (length xs) xs ≡ xs
take_whole [] = refl
take_whole (x ∷ xs) = ap (λ l. x ∷ l) (take_whole xs)

-- the bytes from a place on
pub tail_is : (bytes : List ℕ) (at : ℕ) → take (length bytes - at) (drop at bytes) ≡ drop at bytes
tail_is bytes at = ap (λ n. take n (drop at bytes)) (sym (length-drop at bytes)) ∙ take_whole (drop at bytes)
