-- The rewrites that a pattern or a body may call: the first so many that are declared.
use Rattle.std.specs.Prelude.{◌≡◌, ℕ, ◌+◌, ◌*◌, ◌≤◌, List, [], ◌∷◌, take, Option, Some, None}
use Rattle.pdll_syntax.specs.declared.stmt.Body.{Body}
use Rattle.pdll_syntax.specs.declared.stmt.Body.TheVariants as body
use Rattle.pdll_syntax.specs.declared.file.Decl.{Decl}
use Rattle.pdll_syntax.specs.declared.file.Decl.TheVariants as decl
use Rattle.pdll_syntax.specs.declared.file.CallDecl.{CallDecl}
use Rattle.pdll_syntax.specs.StmtTree.{stmts}
use Rattle.pdll_syntax.specs.StmtSize.{stmts_size}
use Rattle.pdll_syntax.specs.ExprSize.{expr_size}
use Rattle.rewrite_model.specs.Pattern.{Part}
use Rattle.rewrite_model.specs.Doing.{pure}
use Rattle.rewrite_model.specs.Names.{Meant}
use Rattle.rewrite_model.specs.RewritePart.{Rewrites, no_part}
use Rattle.rewrite_model.specs.Expanding.{rewrites, call_rewrite}
use Rattle.pdll_expand.specs.Called.{calls_in, IsTable}
use Rattle.pdll_patterns.specs.declared.in_sight.InSight.{InSight}
use Rattle.pdll_patterns.specs.declared.in_sight.Found.{Found}

-- these rewrites behind others, the last one first
abbrev pub behind : List Decl → List CallDecl → List Decl
behind ds [] = ds
behind ds (c ∷ cs) = behind (decl.Rewrite c ∷ ds) cs

-- what calls give, by the first so many of these rewrites
abbrev pub by_first : List CallDecl → ℕ → Rewrites
by_first cs count = rewrites (behind [] (take count cs))

pub record Means (r : InSight) (rewrite : Rewrites) : Type 0 where
  pub calls : List CallDecl
  pub table : IsTable r.declared.now calls
  pub is : rewrite ≡ by_first calls r.count

-- A call of this name gives what the body gives that is found, with the rewrites that stand before it.
abbrev pub IsFound : List ℕ → Rewrites → Option Found → Type 0
IsFound n rewrite None = (xs : List (Meant Part)) → rewrite n xs ≡ pure no_part
IsFound n rewrite (Some f) = (earlier : Rewrites) × (Means f.before earlier × ((xs : List (Meant Part)) → rewrite n xs ≡ call_rewrite earlier f.call.now f.call.now.body xs))

-- ---- how much there is to do

abbrev pub body_size : Body → ℕ
body_size body.Absent = 1
body_size (body.Braces ss end) = stmts_size (stmts ss) + 1
body_size (body.One s) = 1
body_size (body.Value e) = expr_size e + 1

abbrev pub weight : List CallDecl → ℕ
weight [] = 0
weight (c ∷ cs) = 8 * body_size c.body + 8 + weight cs

abbrev pub weight_of : InSight → ℕ
weight_of r = weight (take r.count (calls_in r.declared.now))

-- A body that is found, with all that it may call, is less than all that may be called.
abbrev pub IsLess : InSight → Option Found → Type 0
IsLess r None = Unit {0}
IsLess r (Some f) = weight_of f.before + 8 * body_size f.call.now.body + 8 ≤ weight_of r
