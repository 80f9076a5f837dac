-- Kinds as the file writes them, and names in sight (PDLL document, "Variables", "Constraints").
use Rattle.std.specs.Prelude.{ℕ, List, [], ◌∷◌, find, unwrap_or, Option, Some, None, option_map}
use Rattle.std.specs.Option.{option_map_or}
use Rattle.std.specs.Str.{bytes_eq}
use Rattle.pdll_syntax.specs.ExprTree.{Ref, ref, RefForm, attr_ref, op_ref, type_ref, type_range_ref, value_ref, value_range_ref, named_ref}
use Rattle.native_set.specs.declared.native.Kind.{Kind}
use Rattle.native_set.specs.declared.native.Kind.TheVariants as kind

-- A kind, with the name of an `Op<name>`.
pub record Written : Type 0 where
  pub kind : Kind
  pub name : Option (List ℕ)

abbrev pub of_kind : Kind → Written
of_kind k = record { kind = k; name = None }

-- the kind that a ref writes; a constraint writes none
abbrev pub form_kind : RefForm → Option Written
form_kind (attr_ref t) = Some (of_kind kind.Attr)
form_kind (op_ref n) = Some (record { kind = kind.Op; name = n })
form_kind type_ref = Some (of_kind kind.Ty)
form_kind type_range_ref = Some (of_kind kind.Tys)
form_kind (value_ref t) = Some (of_kind kind.Value)
form_kind (value_range_ref t) = Some (of_kind kind.Values)
form_kind (named_ref n) = None

abbrev pub ref_kind : Ref → Option Written
ref_kind (ref at form) = form_kind form

abbrev pub form_name : RefForm → Option (List ℕ)
form_name (named_ref n) = Some n
form_name form = None

-- the constraint that a ref names
abbrev pub ref_name : Ref → Option (List ℕ)
ref_name (ref at form) = form_name form

-- the first that is there
abbrev pub kind_from : Option Written → Option Written → Option Written
kind_from (Some k) more = Some k
kind_from None more = more

abbrev pub first_kind : List Ref → Option Written
first_kind [] = None
first_kind (r ∷ rs) = kind_from (ref_kind r) (first_kind rs)

abbrev pub named_kind : (List ℕ → Written) → List Ref → Option Written
named_kind param [] = None
named_kind param (r ∷ rs) = kind_from (option_map param (ref_name r)) (named_kind param rs)

-- The kind that refs write: the first, else that of the first constraint's parameter. Where there are no refs, nothing
-- asks for a kind, and it is taken for a value.
abbrev pub written_kind : (List ℕ → Written) → List Ref → Written
written_kind param rs = unwrap_or (kind_from (first_kind rs) (named_kind param rs)) (of_kind kind.Value)

-- ---- names

-- What a name or an expression stands for: a kind, and an expression of the match or a part of the rewrite.
pub record Meant (E : Type 0) : Type 0 where
  pub kind : Kind
  pub is : E

abbrev pub Names : Type 0 → Type 0
Names E = List (List ℕ × Meant E)

-- `_` can't be used, so it is never looked up. What an accepted file doesn't declare has no meaning here.
abbrev pub meaning : {E : Type 0} → Names E → List ℕ → Meant E → Meant E
meaning names n else_ = option_map_or (λ e. e.1) (find (λ e. bytes_eq e.0 n) names) else_

-- each name with the argument at its place
abbrev pub named_together : {E : Type 0} → List (List ℕ) → List (Meant E) → Names E
named_together [] es = []
named_together (n ∷ ns) [] = []
named_together (n ∷ ns) (e ∷ es) = (n, e) ∷ named_together ns es
