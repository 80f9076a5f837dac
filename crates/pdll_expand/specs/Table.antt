-- What the program knows of the constraints that are declared, and which are in sight.
use Rattle.std.specs.Prelude.{◌≡◌, ℕ, List, [], take, Bool, true, false, Option, Some, None}
use Rattle.pdll_syntax.specs.declared.file.CallDecl.{CallDecl}
use Rattle.pdll_syntax.specs.declared.file.Decl.{Decl}
use Rattle.rewrite_model.specs.Names.{Written}
use Rattle.rewrite_model.specs.MatchPart.{Constrains}
use Rattle.rewrite_model.specs.Expanding.{constrains, constraints}
use Rattle.rewrite_model.specs.Own.{silent}
use Rattle.pdll_expand.specs.declared.constraints.Constraints.{Constraints}
use Rattle.pdll_expand.specs.declared.constraints.Found.{Found}
use Rattle.pdll_expand.specs.declared.sight.Sight.{Sight}
use Rattle.pdll_expand.specs.Called.{calls_in}
use Rattle.pdll_expand.specs.Behind.{behind}

abbrev pub calls_of : Constraints → List CallDecl
calls_of c = calls_in c.calls

-- what is found stands behind those before it
abbrev pub meaning_of : List CallDecl → Option Found → List ℕ → Constrains
meaning_of cs None n = behind [] n
meaning_of cs (Some f) n = constrains (behind (take f.at cs)) f.call.now

abbrev pub told : Bool → (List ℕ → Constrains) → List ℕ → Constrains
told true constraint = constraint
told false constraint = silent constraint

-- what names stand for: without bodies, calls ask for nothing
abbrev pub in_sight : Sight → List ℕ → Constrains
in_sight s = told s.bodies (behind (take s.count (calls_of s.constraints.now)))

abbrev pub param_in : Sight → List ℕ → Written
param_in s n = (in_sight s n).param

-- They are the constraints among these declarations, the last one first.
abbrev pub Knows : Constraints → List Decl → Type 0
Knows c earlier = (n : List ℕ) → behind (calls_of c) n ≡ constraints earlier n
