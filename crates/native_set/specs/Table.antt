-- The constraints and rewrites that a pattern may call without giving their bodies.
use Rattle.std.specs.Prelude.{ℕ, ◌==◌, ◌&&◌, Bool, true, false, List, [], ◌∷◌, find, codes, bytes_eq, Option, Some, None, option_map, option_and_then}
use Rattle.std.specs.Option.{option_map_or}
use Rattle.std.specs.Cmp.Lexicographic.{pointwise}
use denote.Enum.Bare.{sameb}
use Rattle.native_set.specs.contracts.native.Kind.{the_type}
use Rattle.native_set.specs.declared.native.Kind.{Kind}
use Rattle.native_set.specs.declared.native.Kind.TheVariants as kind
use Rattle.native_set.specs.declared.native.Constraint.{Constraint}
use Rattle.native_set.specs.declared.native.Constraint.TheVariants.{HasOneUse, HasNoUse, IsInt, IsZero, SameBlock, NoRegions}
use Rattle.native_set.specs.declared.native.Rewrite.{Rewrite}
use Rattle.native_set.specs.declared.native.Rewrite.TheVariants.{AddInt, MulInt, NegInt}

pub data Native : Type 0 where
  constraint : Constraint → Native
  rewrite : Rewrite → Native

-- A name with the kinds of its parameters, the kind of what it gives, and what it stands for. A constraint gives nothing.
pub record Line : Type 0 where
  pub name : List ℕ
  pub params : List Kind
  pub gives : Option Kind
  pub native : Native

abbrev holds : Constraint → List ℕ → List Kind → Line
holds c s ks = record { name = s; params = ks; gives = None; native = constraint c }

abbrev makes : Rewrite → List ℕ → List Kind → Kind → Line
makes r s ks k = record { name = s; params = ks; gives = Some k; native = rewrite r }

abbrev pub table : List Line
table =
    holds HasOneUse (codes "HasOneUse") (kind.Value ∷ [])
    ∷ holds HasNoUse (codes "HasNoUse") (kind.Op ∷ [])
    ∷ holds IsInt (codes "IsInt") (kind.Attr ∷ [])
    ∷ holds IsZero (codes "IsZero") (kind.Attr ∷ [])
    ∷ holds SameBlock (codes "SameBlock") (kind.Op ∷ kind.Op ∷ [])
    ∷ holds NoRegions (codes "NoRegions") (kind.Op ∷ [])
    ∷ makes AddInt (codes "AddInt") (kind.Attr ∷ kind.Attr ∷ []) kind.Attr
    ∷ makes MulInt (codes "MulInt") (kind.Attr ∷ kind.Attr ∷ []) kind.Attr
    ∷ makes NegInt (codes "NegInt") (kind.Attr ∷ []) kind.Attr
    ∷ []

-- a number of its own for each native, by which they are told apart
abbrev pub native_rank : Native → ℕ
native_rank (constraint HasOneUse) = 0
native_rank (constraint HasNoUse) = 1
native_rank (constraint IsInt) = 2
native_rank (constraint IsZero) = 3
native_rank (constraint SameBlock) = 4
native_rank (constraint NoRegions) = 5
native_rank (rewrite AddInt) = 6
native_rank (rewrite MulInt) = 7
native_rank (rewrite NegInt) = 8

-- Whether two kinds are one.
abbrev pub is_kind : Kind → Kind → Bool
is_kind = sameb the_type

-- The line of a native, and its parts.
abbrev pub line_of : Native → Option Line
line_of n = find (λ l. native_rank l.native == native_rank n) table

abbrev pub name_of : Native → List ℕ
name_of n = option_map_or (λ l. l.name) (line_of n) []

abbrev pub params_of : Native → List Kind
params_of n = option_map_or (λ l. l.params) (line_of n) []

abbrev pub gives_of : Native → Option Kind
gives_of n = option_and_then (λ l. l.gives) (line_of n)

abbrev pub are_kinds : List Kind → List Kind → Bool
are_kinds = pointwise is_kind

abbrev pub is_kind_option : Option Kind → Option Kind → Bool
is_kind_option None None = true
is_kind_option None (Some k) = false
is_kind_option (Some k) None = false
is_kind_option (Some k) (Some j) = is_kind k j

abbrev pub is_line : List ℕ → List Kind → Option Kind → Line → Bool
is_line name params gives l = is_kind_option l.gives gives && (bytes_eq name l.name && are_kinds params l.params)

-- Whether the line of a native has this name and these parameters.
abbrev pub is_called : Native → List ℕ → List Kind → Bool
is_called n name params = bytes_eq name (name_of n) && are_kinds params (params_of n)

-- The native of this name with exactly these kinds.
abbrev pub native_of : List ℕ → List Kind → Option Kind → Option Native
native_of name params gives = option_map (λ l. l.native) (find (is_line name params gives) table)

abbrev pub as_constraint : Native → Option Constraint
as_constraint (constraint c) = Some c
as_constraint (rewrite r) = None

abbrev pub as_rewrite : Native → Option Rewrite
as_rewrite (constraint c) = None
as_rewrite (rewrite r) = Some r

abbrev pub constraint_of : List ℕ → List Kind → Option Constraint
constraint_of name params = option_and_then as_constraint (native_of name params None)

abbrev pub rewrite_of : List ℕ → List Kind → Option Kind → Option Rewrite
rewrite_of name params gives = option_and_then as_rewrite (native_of name params gives)
