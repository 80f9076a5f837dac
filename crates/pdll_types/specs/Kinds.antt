-- Kinds of expressions, and which of them a place asks for (MLIR's document "PDLL - PDL Language", "Variables").
use Rattle.std.specs.Prelude.{ℕ, Bool, true, false, not, List, bytes_eq, Option, Some, None}
use Rattle.std.specs.Option.{option_map_or}
use Rattle.pdll_types.specs.declared.kind.Kind.{Kind}
use Rattle.pdll_types.specs.declared.kind.Kind.TheVariants.{Row, Value, Values, Attr, Ty, Tys, Call}

-- Whether an operation, whose name may be known, is one where `Op` with or without a name is written.
abbrev pub is_name_taken : Option (List ℕ) → Option (List ℕ) → Bool
is_name_taken None known = true
is_name_taken (Some n) (Some m) = bytes_eq n m
is_name_taken (Some n) None = false

-- Whether something of the second kind is taken where the first kind is written.
abbrev pub is_taken : Kind → Kind → Bool
is_taken (Row n) (Row m) = is_name_taken n m
is_taken Value Value = true
is_taken Values Values = true
is_taken Attr Attr = true
is_taken Ty Ty = true
is_taken Tys Tys = true
is_taken written given = false

abbrev pub is_row : Kind → Bool
is_row (Row n) = true
is_row k = false

abbrev pub is_call : Kind → Bool
is_call Call = true
is_call k = false

-- A value, values, or an operation that stands for its results.
abbrev pub is_operand : Kind → Bool
is_operand (Row n) = true
is_operand Value = true
is_operand Values = true
is_operand k = false

abbrev pub is_type_or_types : Kind → Bool
is_type_or_types Ty = true
is_type_or_types Tys = true
is_type_or_types k = false

abbrev pub is_range : Kind → Bool
is_range Values = true
is_range Tys = true
is_range k = false

-- Whether there is a kind, and one like this.
abbrev pub holds : (Kind → Bool) → Option Kind → Bool
holds test k = option_map_or test k false

-- What a place asks of the expression that stands there.
pub data Asked : Type 0 where
  -- nothing: a statement
  anything : Asked
  -- the operation that a pattern is about
  root : Asked
  -- what a constraint stands for
  constraint_call : Asked
  -- exactly the kind that is written, if one is: an argument, an initial value, a returned expression
  written : Option Kind → Asked
  -- an operand or a replacement
  operand : Asked
  -- a result type
  result_type : Asked
  an_operation : Asked
  an_attribute : Asked
  a_type : Asked
  types : Asked

abbrev pub is_written : Option Kind → Option Kind → Bool
is_written None given = not (holds is_call given)
is_written (Some k) given = holds (is_taken k) given

-- Whether an expression of this kind, where it has one, may stand there. A call that gives nothing stands only as a statement.
-- What else is asked of roots, and of constraints that stand for a call, is said elsewhere.
abbrev pub answers : Asked → Option Kind → Bool
answers anything k = true
answers root k = is_written None k
answers constraint_call k = true
answers (written w) k = is_written w k
answers operand k = holds is_operand k
answers result_type k = holds is_type_or_types k
answers an_operation k = holds is_row k
answers an_attribute k = holds (is_taken Attr) k
answers a_type k = holds (is_taken Ty) k
answers types k = holds (is_taken Tys) k
