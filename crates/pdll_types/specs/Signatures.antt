-- What is declared so far, and the kinds that refs write (MLIR's document "PDLL - PDL Language", "Constraints" and "Rewriters").
use Rattle.std.specs.Prelude.{if◌then◌else◌, ℕ, Bool, true, false, List, [], ◌∷◌, ◌++◌, map, find, bytes_eq, Option, Some, None}
use Rattle.std.specs.Option.{option_or, option_map, option_map_or, option_and_then}
use Rattle.pdll_syntax.specs.declared.name.Name.{Name}
use Rattle.pdll_syntax.specs.declared.stmt.Param.{Param}
use Rattle.pdll_syntax.specs.declared.file.Decl.{Decl}
use Rattle.pdll_syntax.specs.declared.file.Decl.TheVariants as decl
use Rattle.pdll_syntax.specs.ExprTree.{Ref, ref, RefForm, attr_ref, op_ref, type_ref, type_range_ref, value_ref, value_range_ref, named_ref, Refs, no_refs, ref_then, refs}
use Rattle.pdll_types.specs.declared.kind.Kind.{Kind}
use Rattle.pdll_types.specs.declared.kind.Kind.TheVariants as kind
use Rattle.pdll_types.specs.declared.signature.Sort.{Sort}
use Rattle.pdll_types.specs.declared.signature.Sort.TheVariants as sort
use Rattle.pdll_types.specs.declared.signature.Signature.{Signature}

-- A declaration that has a name: what it is, the kinds of its parameters, and the kind of a call of it.
pub record Declared : Type 0 where
  pub name : List ℕ
  pub signature : Signature

-- What a name is declared as.
abbrev pub signature_of : List Declared → List ℕ → Option Signature
signature_of c n = option_map (λ d. d.signature) (find (λ d. bytes_eq n d.name) c)

abbrev pub is_constraint_sort : Sort → Bool
is_constraint_sort sort.Constraint = true
is_constraint_sort s = false

abbrev pub is_rewrite_sort : Sort → Bool
is_rewrite_sort sort.Rewrite = true
is_rewrite_sort s = false

abbrev pub is_called_sort : Sort → Bool
is_called_sort sort.Pattern = false
is_called_sort s = true

abbrev pub is_constraint : List Declared → List ℕ → Bool
is_constraint c n = option_map_or (λ g. is_constraint_sort g.sort) (signature_of c n) false

abbrev pub is_rewrite : List Declared → List ℕ → Bool
is_rewrite c n = option_map_or (λ g. is_rewrite_sort g.sort) (signature_of c n) false

-- Whether the name is one of a constraint or a rewrite.
abbrev pub is_callable : List Declared → List ℕ → Bool
is_callable c n = option_map_or (λ g. is_called_sort g.sort) (signature_of c n) false

-- The kinds of the parameters, one of which is missing only where the declaration is refused.
abbrev pub parameters : List Declared → List ℕ → List (Option Kind)
parameters c n = option_map_or (λ g. g.params) (signature_of c n) []

-- The kind of a call: that of a rewrite's result, or `Call`.
abbrev pub call_kind : List Declared → List ℕ → Option Kind
call_kind c n = option_and_then (λ g. g.gives) (signature_of c n)

abbrev pub only_of : List (Option Kind) → Option Kind
only_of (k ∷ []) = k
only_of ks = None

-- The kind of the only parameter of a constraint.
abbrev pub only_parameter : List Declared → List ℕ → Option Kind
only_parameter c n = if is_constraint c n then only_of (parameters c n) else None

-- ---- refs

abbrev pub form_kind : RefForm → Option Kind
form_kind (attr_ref of) = Some kind.Attr
form_kind (op_ref n) = Some (kind.Row n)
form_kind type_ref = Some kind.Ty
form_kind type_range_ref = Some kind.Tys
form_kind (value_ref of) = Some kind.Value
form_kind (value_range_ref of) = Some kind.Values
form_kind (named_ref n) = None

abbrev pub form_name : RefForm → Option (List ℕ)
form_name (named_ref n) = Some n
form_name form = None

abbrev pub form_of_ref : Ref → RefForm
form_of_ref (ref at form) = form

abbrev pub ref_place : Ref → ℕ
ref_place (ref at form) = at

-- The first kind that is written.
abbrev pub first_kind : Refs → Option Kind
first_kind no_refs = None
first_kind (ref_then r rs) = option_or (form_kind (form_of_ref r)) (first_kind rs)

abbrev pub first_name : Refs → Option (List ℕ)
first_name no_refs = None
first_name (ref_then r rs) = option_or (form_name (form_of_ref r)) (first_name rs)

-- The kind that refs write: the first one, or else that of the parameter of their first constraint.
unfoldable pub kind_of_refs : List Declared → Refs → Option Kind
kind_of_refs c rs = option_or (first_kind rs) (option_and_then (only_parameter c) (first_name rs))

-- ---- declarations

abbrev pub parameter_kind : List Declared → Param → Option Kind
parameter_kind c p = kind_of_refs c (refs p.refs)

abbrev pub parameter_kinds : List Declared → List Param → List (Option Kind)
parameter_kinds c ps = map (parameter_kind c) ps

-- The kind of what a rewrite gives.
abbrev pub result_kind : List Declared → Option Ref → Option Kind
result_kind c None = None
result_kind c (Some r) = kind_of_refs c (ref_then r no_refs)

-- The kind of a call.
abbrev pub gives_kind : List Declared → Option Ref → Option Kind
gives_kind c None = Some kind.Call
gives_kind c (Some r) = result_kind c (Some r)

abbrev pub signature : List Declared → Decl → Signature
signature c (decl.Pattern p) = record { sort = sort.Pattern; params = []; gives = None }
signature c (decl.Constraint d) = record { sort = sort.Constraint; params = parameter_kinds c d.params; gives = Some kind.Call }
signature c (decl.Rewrite d) = record { sort = sort.Rewrite; params = parameter_kinds c d.params; gives = gives_kind c d.gives }

abbrev pub declared_name : Decl → Option Name
declared_name (decl.Pattern p) = p.name
declared_name (decl.Constraint d) = Some d.name
declared_name (decl.Rewrite d) = Some d.name

abbrev with_name : List Declared → Signature → Option Name → List Declared
with_name c g None = c
with_name c g (Some n) = c ++ record { name = n.text; signature = g } ∷ []

-- What is declared behind a declaration.
unfoldable pub declared : List Declared → Decl → List Declared
declared c d = with_name c (signature c d) (declared_name d)
