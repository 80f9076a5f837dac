-- Where bytes are UTF-8.
use Rattle.std.proofs.Common.{◌≡◌, ℕ, zero, suc, ◌<◌, ◌==◌, Bool, true, false, cond, List, length, take, take_all, eqb-true, refl, ap, subst, ◌∙◌, arith}
use Rattle.std.specs.Str.{IsValidUpTo, IsUtf8, is_utf8}
use Rattle.std.specs.Str.Lossy.{utf8_valid_len, valid_len_up_to}
use Rattle.std.proofs.lemmas.Str.{IsUtf8-nil, IsUtf8-from_is_utf8, utf8_valid_len-IsUtf8, utf8_valid_len-IsValidUpTo}
use Rattle.std.proofs.lemmas.Bool.Decides.{nat_tests}

pub all_utf8 : (bytes : List ℕ) → IsUtf8 bytes → (utf8_valid_len bytes == length bytes) ≡ true
all_utf8 bytes h = let e : utf8_valid_len bytes ≡ length bytes = utf8_valid_len-IsUtf8 bytes h in grind (arith, nat_tests)

pub not_utf8 : (bytes : List ℕ) (n : ℕ) → IsValidUpTo bytes n → (utf8_valid_len bytes == length bytes) ≡ false
not_utf8 bytes n h =
    let e : utf8_valid_len bytes ≡ n = utf8_valid_len-IsValidUpTo bytes n h in
    let short : n < length bytes = h.short in
    grind (arith, nat_tests)

valid_by : (bytes : List ℕ) (n m : ℕ) → IsUtf8 (take m bytes) → (b : Bool) → is_utf8 (take n bytes) ≡ b → IsUtf8 (take (cond b n m) bytes)
valid_by bytes n m below true h = IsUtf8-from_is_utf8 (take n bytes) h
valid_by bytes n m below false h = below

valid_front : (bytes : List ℕ) (n : ℕ) → IsUtf8 (take (valid_len_up_to bytes n) bytes)
valid_front bytes zero = IsUtf8-nil
valid_front bytes (suc n) = valid_by bytes (suc n) (valid_len_up_to bytes n) (valid_front bytes n) (is_utf8 (take (suc n) bytes)) refl

pub utf8_all : (bytes : List ℕ) → (utf8_valid_len bytes == length bytes) ≡ true → IsUtf8 bytes
unfolding utf8_valid_len
utf8_all bytes e =
    let h = eqb-true (utf8_valid_len bytes) (length bytes) e in
    subst IsUtf8 (ap (λ n. take n bytes) h ∙ take_all (length bytes) bytes (omega arith)) (valid_front bytes (length bytes))
