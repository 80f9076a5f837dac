-- How deep calls lead: a body has fewer constraints in sight.
use Rattle.std.proofs.Common.{◌≡◌, ℕ, zero, suc, ◌+◌, ◌*◌, ◌<◌, ◌≤◌, List, [], ◌∷◌, slice_get, Some, ap, arith}
use Rattle.pdll_syntax.specs.declared.file.CallDecl.{CallDecl}
use Rattle.pdll_syntax.specs.declared.stmt.Body.{Body}
use Rattle.pdll_syntax.specs.declared.stmt.Body.TheVariants as body
use Rattle.pdll_syntax.specs.ExprSize.{expr_size}
use Rattle.pdll_syntax.specs.StmtTree.{stmts}
use Rattle.pdll_syntax.specs.StmtSize.{stmt_size, stmts_size}
use Rattle.pdll_expand.specs.declared.constraints.Constraints.{Constraints}
use Rattle.pdll_expand.specs.declared.sight.Sight.{Sight}
use Rattle.pdll_expand.specs.Table.{calls_of}

-- ---- how much is in bodies

abbrev pub body_size : Body → ℕ
body_size body.Absent = 1
body_size (body.Braces ss end) = stmts_size (stmts ss) + 1
body_size (body.One s) = stmt_size s + 1
body_size (body.Value e) = expr_size e + 1

abbrev pub sum_size : List CallDecl → ℕ
sum_size [] = 0
sum_size (c ∷ cs) = body_size c.body + sum_size cs

pub part_size : (cs : List CallDecl) (k : ℕ) (c : CallDecl) → slice_get cs k ≡ Some c → body_size c.body ≤ sum_size cs
part_size [] zero c h = absurd (cc)
part_size [] (suc k) c h = absurd (cc)
part_size (d ∷ cs) zero c h = let same : d ≡ c = cc in omega (arith, ap (λ (e : CallDecl). body_size e.body) same)
part_size (d ∷ cs) (suc k) c h = omega (arith, part_size cs k c h)

-- ---- a measure of calls

-- more than anything in a body
abbrev pub bulk : Constraints → ℕ
bulk c = 4 * sum_size (calls_of c) + 20

unfoldable pub depth : ℕ → Constraints → ℕ
depth n c = n * bulk c

abbrev pub rank : Sight → ℕ
rank s = depth s.count s.constraints.now

times : (k n b : ℕ) → k < n → k * b + b ≤ n * b
times k zero b h = absurd (omega arith)
times zero (suc n) b h = omega arith
times (suc k) (suc n) b h = omega (arith, times k n b (omega arith))

pub deeper : (c : Constraints) (k n : ℕ) (d : CallDecl) → k < n → slice_get (calls_of c) k ≡ Some d → depth k c + 4 * body_size d.body + 20 ≤ depth n c
unfolding depth
deeper c k n d h at = omega (arith, times k n (bulk c) h, part_size (calls_of c) k d at)
