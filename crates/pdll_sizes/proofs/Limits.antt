-- A capped size is too large exactly where the size is.
use Rattle.std.proofs.Common.{◌≡◌, ℕ, ◌+◌, ◌-◌, ◌<◌, ◌^◌, ◌∷◌, Bool, ◌||◌, min, ap, ◌∙◌, nat_lt, arith}
use Rattle.std.proofs.lemmas.Bool.Decides.{nat_tests}
use Rattle.std.specs.Prelude.{List}
use Rattle.pdll_syntax.specs.declared.file.Decl.{Decl}
use Rattle.pdll_syntax.specs.declared.file.Decl.TheVariants as decl
use Rattle.pdll_syntax.specs.declared.file.CallDecl.{CallDecl}
use Rattle.pdll_syntax.specs.declared.file.PatternDecl.{PatternDecl}
use Rattle.rewrite_model.specs.Size.{expanded_size, pattern_expressions, is_long, is_too_large}
use Rattle.rewrite_model.specs.Size.{Size as Count}
use Rattle.pdll_sizes.specs.Capped.{capped, capped_size}
use Rattle.pdll_sizes.specs.declared.size.Size.{Size}
use Rattle.pdll_sizes.proofs.Sums.{capped_sum}

pub capped_limit : (most n : ℕ) → most < 4294967295 → nat_lt most (capped n) ≡ nat_lt most n
unfolding capped
capped_limit most n h = grind (arith, nat_tests)

pub capped_long : (s : Count) → (nat_lt 4096 (capped s.statements) || nat_lt 65535 (capped s.expressions)) ≡ is_long s
capped_long s = λ i. capped_limit 4096 s.statements (omega arith) i || capped_limit 65535 s.expressions (omega arith) i

abbrev long : Size → Bool
long t = nat_lt 4096 t.statements || nat_lt 65535 t.expressions

long_is : (s : Count) → long (capped_size s) ≡ is_long s
unfolding capped_size
long_is s = capped_long s

pub large_constraint : (earlier : List Decl) (c : CallDecl) (t : Size) → t ≡ capped_size (expanded_size earlier (decl.Constraint c)) → long t ≡ is_too_large earlier (decl.Constraint c)
unfolding is_too_large
large_constraint earlier c t h = ap long h ∙ long_is (expanded_size earlier (decl.Constraint c))

pub large_rewrite : (earlier : List Decl) (c : CallDecl) (t : Size) → t ≡ capped_size (expanded_size earlier (decl.Rewrite c)) → long t ≡ is_too_large earlier (decl.Rewrite c)
unfolding is_too_large
large_rewrite earlier c t h = ap long h ∙ long_is (expanded_size earlier (decl.Rewrite c))

-- the expressions of all patterns with one more
pub pattern_more : (earlier : List Decl) (p : PatternDecl) (t : Size) (kept all : ℕ) → t ≡ capped_size (expanded_size earlier (decl.Pattern p))
    → kept ≡ capped (pattern_expressions earlier) → all ≡ min (t.expressions + kept) (2 ^ 32 - 1) → all ≡ capped (pattern_expressions (decl.Pattern p ∷ earlier))
unfolding capped_size capped
pattern_more earlier p t kept all h k a =
    a ∙ ((λ i. capped ((h i).expressions + k i)) ∙ capped_sum (expanded_size earlier (decl.Pattern p)).expressions (pattern_expressions earlier))

large_is : (s : Count) (n : ℕ) → (long (capped_size s) || (nat_lt 256 (capped_size s).operations || nat_lt 1000000 (capped n))) ≡ (is_long s || (nat_lt 256 s.operations || nat_lt 1000000 n))
unfolding capped_size
large_is s n = λ i. long_is s i || (capped_limit 256 s.operations (omega arith) i || capped_limit 1000000 n (omega arith) i)

pub large_pattern : (earlier : List Decl) (p : PatternDecl) (t : Size) (kept all : ℕ) → t ≡ capped_size (expanded_size earlier (decl.Pattern p))
    → kept ≡ capped (pattern_expressions earlier) → all ≡ min (t.expressions + kept) (2 ^ 32 - 1)
    → (long t || (nat_lt 256 t.operations || nat_lt 1000000 all)) ≡ is_too_large earlier (decl.Pattern p)
unfolding is_too_large
large_pattern earlier p t kept all h k a =
    (λ i. long (h i) || (nat_lt 256 (h i).operations || nat_lt 1000000 (pattern_more earlier p t kept all h k a i)))
    ∙ large_is (expanded_size earlier (decl.Pattern p)) (pattern_expressions (decl.Pattern p ∷ earlier))
