-- What is kept of the declarations so far.
use Rattle.std.specs.Prelude.{◌≡◌, ℕ, true, false, List, map, reverse, Option, Some, None}
use Rattle.std.specs.Borrow.{Bor}
use Rattle.std.specs.Map.{lookup}
use Rattle.std.specs.Str.{bytes_eq}
use Rattle.pdll_syntax.specs.declared.file.Decl.{Decl}
use Rattle.pdll_syntax.specs.declared.file.Decl.TheVariants.{Pattern}
use Rattle.pdll_syntax.specs.declared.file.PatternDecl.{PatternDecl}
use Rattle.rewrite_model.specs.Size.{sizes, pattern_expressions, nothing}
use Rattle.pdll_sizes.specs.Capped.{capped, capped_size}
use Rattle.pdll_sizes.specs.declared.size.Size.{Size}

-- whether it is a pattern
abbrev pub IsPattern : Decl → Type 0
IsPattern d = (p : PatternDecl) × (d ≡ Pattern p)

-- declarations in the order of the text, the last one first
abbrev pub last_first : List (Bor Decl) → List Decl
last_first ds = reverse (map (λ d. d.now) ds)

-- the size that was found, or none
abbrev pub or_nothing : Option Size → Size
or_nothing None = capped_size nothing
or_nothing (Some s) = s

-- what is kept for a name
abbrev pub kept : List (Bor (List ℕ) × Size) → List ℕ → Size
kept es n = or_nothing (lookup (λ (k : Bor (List ℕ)). bytes_eq n k.now) es)

-- behind these entries the size is kept for the name, and for each other name what was
pub record IsPut (name : List ℕ) (size : Size) (before behind : List (Bor (List ℕ) × Size)) : Type 0 where
  pub here : (n : List ℕ) → bytes_eq name n ≡ true → kept behind n ≡ size
  pub others : (n : List ℕ) → bytes_eq name n ≡ false → kept behind n ≡ kept before n

-- for each name what its calls add is kept, and the expressions of all patterns are
pub record IsKept (earlier : List Decl) (constraints rewrites : List (Bor (List ℕ) × Size)) (expressions : ℕ) : Type 0 where
  pub constraint : (n : List ℕ) → kept constraints n ≡ capped_size ((sizes earlier).constraint n)
  pub rewrite : (n : List ℕ) → kept rewrites n ≡ capped_size ((sizes earlier).rewrite n)
  pub all : expressions ≡ capped (pattern_expressions earlier)
