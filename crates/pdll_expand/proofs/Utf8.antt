-- Where bytes are UTF-8.
use Rattle.std.proofs.Common.{◌≡◌, ℕ, ◌<◌, ◌==◌, true, false, List, length, arith}
use Rattle.std.specs.Str.{IsValidUpTo, IsUtf8}
use Rattle.std.specs.Str.Lossy.{utf8_valid_len}
use Rattle.std.proofs.lemmas.Str.{utf8_valid_len-IsUtf8, utf8_valid_len-IsValidUpTo}
use Rattle.std.proofs.lemmas.Bool.Decides.{nat_tests}

pub all_utf8 : (bytes : List ℕ) → IsUtf8 bytes → (utf8_valid_len bytes == length bytes) ≡ true
all_utf8 bytes h = let e : utf8_valid_len bytes ≡ length bytes = utf8_valid_len-IsUtf8 bytes h in grind (arith, nat_tests)

pub not_utf8 : (bytes : List ℕ) (n : ℕ) → IsValidUpTo bytes n → (utf8_valid_len bytes == length bytes) ≡ false
not_utf8 bytes n h =
    let e : utf8_valid_len bytes ≡ n = utf8_valid_len-IsValidUpTo bytes n h in
    let short : n < length bytes = h.short in
    grind (arith, nat_tests)
