-- The declarations of a file before one, and what the program has of them.
use Rattle.std.specs.Prelude.{◌≡◌, List, [], ◌∷◌}
use Rattle.pdll_syntax.specs.declared.file.CallDecl.{CallDecl}
use Rattle.pdll_syntax.specs.declared.file.Decl.{Decl}
use Rattle.pdll_syntax.specs.declared.file.Decl.TheVariants as decl
use Rattle.rewrite_model.specs.Pattern.{Pattern}
use Rattle.rewrite_model.specs.Expanding.{rewrites, expanded}
use Rattle.pdll_expand.specs.Table.{Knows}
use Rattle.pdll_expand.specs.Called.{IsTable}
use Rattle.pdll_patterns.specs.declared.earlier.Earlier.{Earlier}
use Rattle.pdll_patterns.specs.InSight.{behind}

-- The constraints and rewrites are those among these declarations, the last one first.
pub record IsEarlier (e : Earlier) (earlier : List Decl) : Type 0 where
  pub constraints_are : Knows e.constraints earlier
  pub calls : List CallDecl
  pub table : IsTable e.rewrites calls
  pub rewrites_are : rewrites earlier ≡ rewrites (behind [] calls)

-- the pattern that a declaration is, if it is one
abbrev pub pattern_in : List Decl → Decl → List Pattern
pattern_in earlier (decl.Pattern p) = expanded earlier p ∷ []
pattern_in earlier d = []
