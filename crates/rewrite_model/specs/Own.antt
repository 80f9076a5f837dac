-- What a declaration by itself determines. A call determines nothing, so what its constraint asks for isn't looked into.
use Rattle.std.specs.Prelude.{◌≡◌, ℕ, ◌<◌, List, [], ◌∷◌, length, slice_get, Some}
use Rattle.std.specs.List.{range_with_len}
use Rattle.pdll_syntax.specs.declared.file.Decl.{Decl}
use Rattle.pdll_syntax.specs.declared.file.Decl.TheVariants as decl
use Rattle.pdll_syntax.specs.declared.file.PatternDecl.{PatternDecl}
use Rattle.pdll_syntax.specs.declared.file.CallDecl.{CallDecl}
use Rattle.native_set.specs.declared.native.Kind.{Kind}
use Rattle.rewrite_model.specs.Doing.{pure}
use Rattle.rewrite_model.specs.MatchPart.{Scene, empty, Constrains}
use Rattle.rewrite_model.specs.Expanding.{constraints, body_statements, read_match, constraint_asks}
use Rattle.rewrite_model.specs.Determined.{Determined}

-- What a match asks for by itself, and which of its numbers are given.
pub record Own : Type 0 where
  pub scene : Scene
  pub given : List ℕ

-- the same constraint, whose calls ask for nothing
abbrev pub silent : (List ℕ → Constrains) → List ℕ → Constrains
silent constraint n = record { param = (constraint n).param; call = λ xs. pure tt }

abbrev pub rooted : ℕ × Scene → Own
rooted read = record { scene = read.1; given = read.0 ∷ [] }

-- Of a pattern the root is given, of a constraint its parameters. A rewrite has no match.
unfoldable pub own : List Decl → Decl → Own
own earlier (decl.Pattern p) = rooted (read_match (silent (constraints earlier)) (body_statements p.body) empty)
own earlier (decl.Constraint c) = record { scene = (constraint_asks (silent (constraints earlier)) c empty).1; given = range_with_len 0 (length c.params) }
own earlier (decl.Rewrite c) = record { scene = empty; given = [] }

-- Whatever a declaration numbers is determined.
abbrev pub IsDeterminedAlone : Own → Type 0
IsDeterminedAlone o = (x : ℕ) → x < length o.scene.kinds → Determined o.given o.scene.demands x

-- A number of this kind and with this place isn't determined.
pub record IsOpen (o : Own) (x : ℕ) (k : Kind) (at : ℕ) : Type 0 where
  pub kind : slice_get o.scene.kinds x ≡ Some k
  pub place : slice_get o.scene.places x ≡ Some at
  pub is_open : Determined o.given o.scene.demands x → ⊥
