-- The grammar of declarations and of whole files (MLIR's document "PDLL - PDL Language"): which tokens spell which tree.
use Rattle.std.specs.Prelude.{◌≡◌, ◌≤◌, ℕ, true, List, [], ◌∷◌, Option, Some, None, IsUtf8}
use Rattle.pdll_syntax.specs.declared.name.Name.{Name}
use Rattle.pdll_syntax.specs.declared.stmt.Body.{Body}
use Rattle.pdll_syntax.specs.declared.stmt.Body.TheVariants as body
use Rattle.pdll_syntax.specs.declared.stmt.Param.{Param}
use Rattle.pdll_syntax.specs.declared.file.PatFile.{PatFile}
use Rattle.pdll_syntax.specs.declared.file.Decl.{Decl}
use Rattle.pdll_syntax.specs.declared.file.Decl.TheVariants as decl
use Rattle.pdll_syntax.specs.declared.file.PatternDecl.{PatternDecl}
use Rattle.pdll_syntax.specs.declared.file.CallDecl.{CallDecl}
use Rattle.pdll_syntax.specs.declared.file.Meta.{Meta}
use Rattle.pdll_syntax.specs.declared.file.MetaForm.{MetaForm}
use Rattle.pdll_syntax.specs.declared.file.MetaForm.TheVariants.{Benefit, Recursion}
use Rattle.pdll_syntax.specs.ExprTree.{Ref, refs}
use Rattle.pdll_syntax.specs.StmtTree.{Stmt, stmts}
use Rattle.pdll_parser.specs.declared.terminal.Terminal.TheVariants as t
use Rattle.pdll_parser.specs.Terminals.{is_kind}
use Rattle.pdll_parser.specs.Place.{Place, at_place, terminal, start}
use Rattle.pdll_parser.specs.Expressions.{number}
use Rattle.pdll_parser.specs.Files.{max_depth, max_patterns, patterns_in}
use Rattle.pdll_parser.specs.Tokens.{Tok, IsInteger, IsDeclaredName, AreListed, AreSome, AreMany, InBrackets}
use Rattle.pdll_parser.specs.Grammar.{IsExpr, IsRef, IsRefs, IsStmt, AreStmts}

-- the number of a benefit, at most 65,534
pub record IsBenefit (s : Place) (n : ℕ) (r : Place) : Type 0 where
  pub digits : List ℕ
  pub integer : IsInteger s digits r
  pub value : number digits ≡ n
  pub within : n ≤ 65534

abbrev pub IsMetaForm : Place → MetaForm → Place → Type 0
IsMetaForm s (Benefit n) r = (s1 : Place) × Tok t.BenefitName s s1 × InBrackets t.LeftParen t.RightParen (λ e u v. IsBenefit u n v) max_depth s1 r
IsMetaForm s Recursion r = Tok t.RecursionName s r

-- what is said of a pattern
abbrev pub IsMeta : Place → Meta → Place → Type 0
IsMeta s meta r = (meta.at ≡ start s) × IsMetaForm s meta.form r

-- `with` and one or more, where it is written
abbrev pub AreMaybeMetas : Place → List Meta → Place → Type 0
AreMaybeMetas s [] r = s ≡ r
AreMaybeMetas s (m ∷ ms) r = (s1 : Place) × Tok t.With s s1 × AreSome IsMeta s1 (m ∷ ms) r

-- a name, where it is written
abbrev pub IsMaybeName : Place → Option Name → Place → Type 0
IsMaybeName s None r = s ≡ r
IsMaybeName s (Some name) r = IsDeclaredName s name r

-- statements in braces, with the place of the closing one
abbrev pub AreInBraces : Place → List Stmt → ℕ → Place → Type 0
AreInBraces s found end r = InBrackets t.LeftBrace t.RightBrace (λ e u v. AreStmts e u (stmts found) v × (end ≡ start v)) max_depth s r

abbrev pub IsPatternBody : Place → Body → Place → Type 0
IsPatternBody s body.Absent r = ⊥
IsPatternBody s (body.Braces found end) r = AreInBraces s found end r
IsPatternBody s (body.One x) r = (s1 : Place) × Tok t.FatArrow s s1 × IsStmt max_depth s1 x r
IsPatternBody s (body.Value x) r = ⊥

abbrev pub IsCallBody : Place → Body → Place → Type 0
IsCallBody s body.Absent r = Tok t.Semicolon s r
IsCallBody s (body.Braces found end) r = AreInBraces s found end r
IsCallBody s (body.One x) r = ⊥
IsCallBody s (body.Value x) r = (s1 s2 : Place) × Tok t.FatArrow s s1 × IsExpr max_depth s1 x s2 × Tok t.Semicolon s2 r

-- `name: refs`
abbrev pub IsParam : ℕ → Place → Param → Place → Type 0
IsParam d s param r = (s1 s2 : Place) × IsDeclaredName s param.name s1 × Tok t.Colon s1 s2 × IsRefs d s2 (refs param.refs) r

abbrev pub AreParams : Place → List Param → Place → Type 0
AreParams s params r = InBrackets t.LeftParen t.RightParen (λ e u v. AreListed (IsParam e) u params v) max_depth s r

-- a ref that is a kind
pub record IsKind (s : Place) (x : Ref) (r : Place) : Type 0 where
  pub kind : is_kind (terminal s) ≡ true
  pub is_ref : IsRef max_depth s x r

-- `->` and a kind, where they are written
abbrev pub IsMaybeResult : Place → Option Ref → Place → Type 0
IsMaybeResult s None r = s ≡ r
IsMaybeResult s (Some x) r = (s1 : Place) × Tok t.Arrow s s1 × IsKind s1 x r

abbrev pub IsPattern : Place → PatternDecl → Place → Type 0
IsPattern s p r =
    (s1 s2 s3 : Place) × (p.at ≡ start s) × Tok t.Pattern s s1 × IsMaybeName s1 p.name s2 × AreMaybeMetas s2 p.metas s3 × IsPatternBody s3 p.body r

abbrev pub IsConstraint : Place → CallDecl → Place → Type 0
IsConstraint s c r =
    (s1 s2 s3 : Place) × (c.at ≡ start s) × Tok t.Constraint s s1 × IsDeclaredName s1 c.name s2 × AreParams s2 c.params s3
    × (c.gives ≡ None) × IsCallBody s3 c.body r

abbrev pub IsRewrite : Place → CallDecl → Place → Type 0
IsRewrite s c r =
    (s1 s2 s3 s4 : Place) × (c.at ≡ start s) × Tok t.Rewrite s s1 × IsDeclaredName s1 c.name s2 × AreParams s2 c.params s3
    × IsMaybeResult s3 c.gives s4 × IsCallBody s4 c.body r

abbrev pub IsDecl : Place → Decl → Place → Type 0
IsDecl s (decl.Pattern p) r = IsPattern s p r
IsDecl s (decl.Constraint c) r = IsConstraint s c r
IsDecl s (decl.Rewrite c) r = IsRewrite s c r

-- The bytes are UTF-8, and their tokens spell this pattern file.
pub record IsPatternFile (bytes : List ℕ) (file : PatFile) : Type 0 where
  pub utf8 : IsUtf8 bytes
  pub end : Place
  pub declarations : AreMany IsDecl (at_place bytes 0) file.decls end
  pub ends : terminal end ≡ t.End
  pub few : patterns_in file.decls ≤ max_patterns
