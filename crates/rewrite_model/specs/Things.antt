-- Things of a module, and which of them the expressions of a match denote.
use Rattle.std.specs.Prelude.{◌≡◌, ℕ, Bool, true, nat_lt, nat_eq, if◌then◌else◌, List, [], ◌∷◌, ◌++◌, map, length, slice_get, Option, Some, None, option_map, option_and_then, IsTrue}
use Rattle.std.specs.List.{list_all}
use Rattle.mlir_tree.specs.declared.row.Row.{Row}
use Rattle.mlir_tree.specs.declared.value.Val.{Val}
use Rattle.mlir_tree.specs.declared.value.Val.TheVariants.{Res, Arg}
use Rattle.mlir_tree.specs.Tree.{Ty, Attr}
use Rattle.mlir_tree.specs.Module.{row_of, has_row, is_value}
use Rattle.native_set.specs.declared.native.Kind.{Kind}
use Rattle.native_set.specs.declared.native.Kind.TheVariants as kind
use Rattle.rewrite_model.specs.Pattern.{Expr, the, result, only_result}

-- A thing is an operation, a value, a list of values, an attribute, a type or a list of types.
pub data Thing : Type 0 where
  an_op : ℕ → Thing
  a_value : Val → Thing
  some_values : List Val → Thing
  an_attr : Attr → Thing
  a_type : Ty → Thing
  some_types : List Ty → Thing

abbrev pub kind_of : Thing → Kind
kind_of (an_op id) = kind.Op
kind_of (a_value v) = kind.Value
kind_of (some_values vs) = kind.Values
kind_of (an_attr a) = kind.Attr
kind_of (a_type t) = kind.Ty
kind_of (some_types ts) = kind.Tys

-- whether an operation is live and values exist; attributes and types are things of every module
abbrev pub is_thing : List Row → Thing → Bool
is_thing rows (an_op id) = has_row rows id
is_thing rows (a_value v) = is_value rows v
is_thing rows (some_values vs) = list_all (is_value rows) vs
is_thing rows (an_attr a) = true
is_thing rows (a_type t) = true
is_thing rows (some_types ts) = true

-- An assignment gives number k the k-th thing, which is of its kind.
pub record IsAssignment (rows : List Row) (kinds : List Kind) (a : List Thing) : Type 0 where
  pub kinds_fit : map kind_of a ≡ kinds
  pub are_things : IsTrue (list_all (is_thing rows) a)

-- ---- what is read of things

-- the row of an operation, where it is live
abbrev pub row_at : List Row → Thing → Option Row
row_at rows (an_op id) = row_of rows id
row_at rows t = None

-- the k-th result of a row
abbrev pub result_at : ℕ → Row → Option Thing
result_at k r = if nat_lt k (length r.results) then Some (a_value (Res r.id k)) else None

-- the result of a row that has exactly one
abbrev pub only_result_at : Row → Option Thing
only_result_at r = if nat_eq (length r.results) 1 then Some (a_value (Res r.id 0)) else None

-- the type of a value
abbrev pub type_of : List Row → Val → Option Ty
type_of rows (Res d k) = option_and_then (λ r. slice_get r.results k) (row_of rows d)
type_of rows (Arg d g k) = option_and_then (λ r. option_and_then (λ arguments. slice_get arguments k) (slice_get r.regions g)) (row_of rows d)

-- the values, or types, that a thing adds to a list of operands, or of types
abbrev pub values_in : Thing → Option (List Val)
values_in (a_value v) = Some (v ∷ [])
values_in (some_values vs) = Some vs
values_in t = None

abbrev pub types_in : Thing → Option (List Ty)
types_in (a_type t) = Some (t ∷ [])
types_in (some_types ts) = Some ts
types_in t = None

abbrev pub attr_in : Thing → Option Attr
attr_in (an_attr a) = Some a
attr_in t = None

-- ---- lists of what may not be there

-- one list behind another
abbrev pub joined : {X : Type 0} → Option (List X) → Option (List X) → Option (List X)
joined (Some xs) (Some ys) = Some (xs ++ ys)
joined xs ys = None

-- what each member gives, one behind another
abbrev pub concatenated : {A X : Type 0} → (A → Option (List X)) → List A → Option (List X)
concatenated f [] = Some []
concatenated f (x ∷ xs) = joined (f x) (concatenated f xs)

-- what each member gives
abbrev pub each : {A X : Type 0} → (A → Option X) → List A → Option (List X)
each f xs = concatenated (λ x. option_map (λ y. y ∷ []) (f x)) xs

-- ---- denoting

-- What an expression denotes in a module with an assignment.
abbrev pub denoted : List Row → List Thing → Expr → Option Thing
denoted rows a (the x) = slice_get a x
denoted rows a (result x k) = option_and_then (result_at k) (option_and_then (row_at rows) (slice_get a x))
denoted rows a (only_result x) = option_and_then only_result_at (option_and_then (row_at rows) (slice_get a x))

abbrev pub values_denoted : List Row → List Thing → Expr → Option (List Val)
values_denoted rows a e = option_and_then values_in (denoted rows a e)

abbrev pub types_denoted : List Row → List Thing → Expr → Option (List Ty)
types_denoted rows a e = option_and_then types_in (denoted rows a e)
