-- Which expressions of a match stand for several values or types.
use Rattle.std.specs.Prelude.{ℕ, ◌+◌, Bool, true, false, if◌then◌else◌, nat_lt, List, [], ◌∷◌, slice_get, Option, Some}
use Rattle.native_set.specs.declared.native.Kind.{Kind}
use Rattle.native_set.specs.declared.native.Kind.TheVariants as kind
use Rattle.rewrite_model.specs.Pattern.{Expr, the, result, only_result}

abbrev pub kind_in : List Kind → Expr → Option Kind
kind_in ks (the x) = slice_get ks x
kind_in ks (result x k) = Some kind.Value
kind_in ks (only_result x) = Some kind.Value

abbrev pub is_range_kind : Option Kind → Bool
is_range_kind (Some kind.Values) = true
is_range_kind (Some kind.Tys) = true
is_range_kind k = false

-- whether an expression stands for several values or types
abbrev pub is_range : List Kind → Expr → Bool
is_range ks e = is_range_kind (kind_in ks e)

abbrev pub ranges : List Kind → List Expr → ℕ
ranges ks [] = 0
ranges ks (e ∷ es) = (if is_range ks e then 1 else 0) + ranges ks es

-- whether two or more do
abbrev pub has_ranges : List Kind → List Expr → Bool
has_ranges ks es = nat_lt 1 (ranges ks es)
