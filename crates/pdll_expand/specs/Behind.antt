-- The constraints among declarations that are called by name, the first one first.
use Rattle.std.specs.Prelude.{ℕ, List, [], ◌∷◌}
use Rattle.pdll_syntax.specs.declared.file.Decl.{Decl}
use Rattle.pdll_syntax.specs.declared.file.Decl.TheVariants as decl
use Rattle.pdll_syntax.specs.declared.file.CallDecl.{CallDecl}
use Rattle.rewrite_model.specs.Names.{Written}
use Rattle.rewrite_model.specs.MatchPart.{Constrains}
use Rattle.rewrite_model.specs.Expanding.{constraints, first_param_kind}

-- declarations of constraints, the last one first, in front of others
abbrev pub turned : List CallDecl → List Decl → List Decl
turned [] ds = ds
turned (c ∷ cs) ds = turned cs (decl.Constraint c ∷ ds)

-- what names stand for behind these constraints
abbrev pub behind : List CallDecl → List ℕ → Constrains
behind cs = constraints (turned cs [])

abbrev pub kinds_from : List Decl → List CallDecl → List Written
kinds_from ds [] = []
kinds_from ds (c ∷ cs) = first_param_kind (constraints ds) c.params ∷ kinds_from (decl.Constraint c ∷ ds) cs

-- what is written for the first parameter of each
abbrev pub kinds_of : List CallDecl → List Written
kinds_of cs = kinds_from [] cs
