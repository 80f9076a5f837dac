-- How many patterns there are with one declaration more, and where bytes are UTF-8.
use Rattle.std.proofs.Common.{◌≡◌, ℕ, ◌+◌, ◌<◌, ◌==◌, true, false, List, [], ◌∷◌, ◌++◌, length, arith}
use Rattle.std.specs.Str.{IsValidUpTo, IsUtf8}
use Rattle.std.specs.Str.Lossy.{utf8_valid_len}
use Rattle.std.proofs.lemmas.Str.{utf8_valid_len-IsUtf8, utf8_valid_len-IsValidUpTo}
use Rattle.std.proofs.lemmas.Bool.Decides.{nat_tests}
use Rattle.pdll_syntax.specs.declared.file.Decl.{Decl}
use Rattle.pdll_parser.specs.Files.{is_pattern, patterns_in}

pub patterns_more : (ds : List Decl) (d : Decl) → patterns_in (ds ++ d ∷ []) ≡ patterns_in ds + is_pattern d
patterns_more [] d = omega arith
patterns_more (e ∷ ds) d = let rest : patterns_in (ds ++ d ∷ []) ≡ patterns_in ds + is_pattern d = patterns_more ds d in omega (arith, rest)

pub counted : (found new : List Decl) (d : Decl) (n m : ℕ) → n ≡ patterns_in found → m ≡ is_pattern d → new ≡ found ++ d ∷ [] → n + m ≡ patterns_in new
counted found new d n m before one more = let e = patterns_more found d in cc

pub all_utf8 : (bytes : List ℕ) → IsUtf8 bytes → (utf8_valid_len bytes == length bytes) ≡ true
all_utf8 bytes h = let e : utf8_valid_len bytes ≡ length bytes = utf8_valid_len-IsUtf8 bytes h in grind (arith, nat_tests)

pub not_utf8 : (bytes : List ℕ) (n : ℕ) → IsValidUpTo bytes n → (utf8_valid_len bytes == length bytes) ≡ false
not_utf8 bytes n h =
    let e : utf8_valid_len bytes ≡ n = utf8_valid_len-IsValidUpTo bytes n h in
    let short : n < length bytes = h.short in
    grind (arith, nat_tests)
