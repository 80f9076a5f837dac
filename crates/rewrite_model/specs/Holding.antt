-- When what a match asks for holds in a module with an assignment (PDLL document, "Operation Expression", "Constraints",
-- "Native Constraints").
use Rattle.std.specs.Prelude.{◌≡◌, ℕ, Bool, true, false, ◌==◌, List, [], ◌∷◌, map, sum_by, count_by, slice_get, Option, Some, None, option_map, option_and_then, IsTrue}
use Rattle.std.specs.List.{AllByRecursion}
use Rattle.mlir_tree.specs.declared.row.Row.{Row}
use Rattle.mlir_tree.specs.declared.value.Val.{Val}
use Rattle.mlir_tree.specs.declared.value.Val.TheVariants.{Res, Arg}
use Rattle.mlir_tree.specs.Tree.{Attr}
use Rattle.mlir_tree.specs.Range.{attr_type}
use Rattle.mlir_tree.specs.Module.{row_of, home_of}
use Rattle.mlir_tree.specs.Edits.{attribute_of, val_eq}
use Rattle.native_set.specs.declared.native.Constraint.{Constraint}
use Rattle.native_set.specs.declared.native.Constraint.TheVariants.{HasOneUse, HasNoUse, IsInt, IsZero, SameBlock, NoRegions}
use Rattle.native_set.specs.Arithmetic.{is_int, is_zero}
use Rattle.rewrite_model.specs.Pattern.{Parts, Expr, Demand, stands, is_attr, is_type, has_name, has_parts, has_type, calls}
use Rattle.rewrite_model.specs.Ranges.{has_ranges}
use Rattle.rewrite_model.specs.Segments.{segments_of}
use Rattle.rewrite_model.specs.Things.{Thing, an_op, a_value, some_values, an_attr, a_type, some_types, kind_of, row_at, type_of, each, concatenated, denoted, values_denoted, types_denoted}

-- ---- operations

-- The attribute of this name exists and is what the expression denotes.
abbrev pub HasEntry : List Row → List Thing → Row → List ℕ × Expr → Type 0
HasEntry rows a r e = (v : Attr) × (attribute_of r e.0 ≡ Some v) × (denoted rows a e.1 ≡ Some (an_attr v))

-- The row has segments, and each member of the list denotes the values of its own: a range any number, another one.
abbrev pub HasSegments : List Row → List Thing → List Expr → Row → Type 0
HasSegments rows a es r = (ss : List (List Val)) × (segments_of r ≡ Some ss) × (each (values_denoted rows a) es ≡ Some ss)

-- The operands of the row are the operands denoted: by its segments where there are two or more ranges, and otherwise one
-- behind another.
abbrev pub HasOperands : Bool → List Row → List Thing → List Expr → Row → Type 0
HasOperands true rows a es r = HasSegments rows a es r
HasOperands false rows a es r = concatenated (values_denoted rows a) es ≡ Some r.operands

-- The row has the operands and the attributes, and its result types are the types denoted, one behind another.
pub record HasParts (rows : List Row) (a : List Thing) (o : Parts Expr) (r : Row) : Type 0 where
  pub operands : HasOperands (has_ranges (map kind_of a) o.operands) rows a o.operands r
  pub entries : AllByRecursion (HasEntry rows a r) o.entries
  pub types : concatenated (types_denoted rows a) o.types ≡ Some r.results

-- the row that a number was given
abbrev pub row_given : List Row → List Thing → ℕ → Option Row
row_given rows a x = option_and_then (row_at rows) (slice_get a x)

-- ---- types

-- what a value, a list of values, or an attribute has for a type
abbrev pub thing_type : List Row → Thing → Option Thing
thing_type rows (a_value v) = option_map a_type (type_of rows v)
thing_type rows (some_values vs) = option_map some_types (each (type_of rows) vs)
thing_type rows (an_attr v) = option_map a_type (attr_type v)
thing_type rows t = None

-- ---- natives

-- how many operand places hold the value
abbrev pub uses : List Row → Val → ℕ
uses rows v = sum_by (λ r. count_by (val_eq v) r.operands) rows

abbrev pub is_result_of : ℕ → Val → Bool
is_result_of id (Res d k) = d == id
is_result_of id (Arg d g k) = false

-- how many operand places hold a result of the row
abbrev pub result_uses : List Row → ℕ → ℕ
result_uses rows id = sum_by (λ r. count_by (is_result_of id) r.operands) rows

abbrev pub NativeHolds : List Row → Constraint → List Thing → Type 0
NativeHolds rows HasOneUse (a_value v ∷ []) = uses rows v ≡ 1
NativeHolds rows HasNoUse (an_op id ∷ []) = result_uses rows id ≡ 0
NativeHolds rows IsInt (an_attr v ∷ []) = IsTrue (is_int v)
NativeHolds rows IsZero (an_attr v ∷ []) = IsTrue (is_zero v)
NativeHolds rows SameBlock (an_op i ∷ an_op j ∷ []) = home_of rows i ≡ home_of rows j
NativeHolds rows NoRegions (an_op id ∷ []) = option_map (λ r. r.regions) (row_of rows id) ≡ Some []
NativeHolds rows c ts = ⊥

-- ---- demands

-- What is asked for is met, and the expressions in it denote something.
abbrev pub Holds : List Row → List Thing → Demand → Type 0
Holds rows a (stands e) = (t : Thing) × (denoted rows a e ≡ Some t)
Holds rows a (is_attr x v) = slice_get a x ≡ Some (an_attr v)
Holds rows a (is_type x t) = slice_get a x ≡ Some (a_type t)
Holds rows a (has_name x n) = option_map (λ r. r.name) (row_given rows a x) ≡ Some n
Holds rows a (has_parts x o) = (r : Row) × (row_given rows a x ≡ Some r) × HasParts rows a o r
Holds rows a (has_type x e) = (t : Thing) × (denoted rows a e ≡ Some t) × (option_and_then (thing_type rows) (slice_get a x) ≡ Some t)
Holds rows a (calls c es) = (ts : List Thing) × (each (denoted rows a) es ≡ Some ts) × NativeHolds rows c ts
