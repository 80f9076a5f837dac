-- The match of a pattern, and bodies of constraints, as demands (PDLL document, "Variables", "Operation Expression",
-- "Constraints"). What is written here of files that aren't accepted means nothing.
use Rattle.std.specs.Prelude.{ℕ, List, [], ◌∷◌, ◌++◌, map, length, Option, Some, None, Result, Ok, Err, if◌then◌else◌, ◌==◌}
use Rattle.std.specs.Str.Lossy.{utf8_valid_len}
use Rattle.mlir_tree.specs.Tree.{Ty, index, Attr, unit}
use Rattle.mlir_attributes.specs.declared.fault.ModFault.{ModFault}
use Rattle.mlir_attributes.specs.Attributes.{attr_of}
use Rattle.mlir_attributes.specs.Types.{type_of}
use Rattle.pdll_syntax.specs.ExprTree.{Expr as Syntax, expr, ExprForm, name_expr, call_expr, declare_expr, attr_expr, type_expr, op_expr, member_expr, OpExpr, operation, Entry, entry, Ref, ref, RefForm, attr_ref, op_ref, type_ref, type_range_ref, value_ref, value_range_ref, named_ref, Exprs, no_exprs, expr_then, Entries, no_entries, entry_then, Refs, no_refs, ref_then, MaybeExpr, no_expr, some_expr, MaybeExprs, left_out, written, refs, ref_list}
use Rattle.pdll_syntax.specs.StmtTree.{Stmt, stmt, let_stmt, plain_stmt}
use Rattle.native_set.specs.declared.native.Kind.{Kind}
use Rattle.native_set.specs.declared.native.Kind.TheVariants as kind
use Rattle.rewrite_model.specs.Pattern.{Expr, the, result, only_result, Demand, stands, is_attr, is_type, has_name, has_parts, has_type}
use Rattle.rewrite_model.specs.Doing.{Doing, ◌>>=◌, ◌>>◌, pure, change, for_each}
use Rattle.rewrite_model.specs.Names.{Written, ref_name, written_kind, Meant, Names, meaning}

-- What was read of a match: the names in sight, the kinds and places of what has a number, the demands.
pub record Scene : Type 0 where
  pub names : Names Expr
  pub kinds : List Kind
  pub places : List ℕ
  pub demands : List Demand

abbrev pub empty : Scene
empty = record { names = []; kinds = []; places = []; demands = [] }

-- What a constraint's name stands for: the kind that is written for its first parameter, and what a call asks for.
pub record Constrains : Type 0 where
  pub param : Written
  pub call : List (Meant Expr) → Doing Scene (Unit {0})

-- ---- the parts of a scene

abbrev pub meant : {E : Type 0} → Kind → E → Meant E
meant k x = record { kind = k; is = x }

-- the next number, for what has this kind and stands at this place
abbrev pub new_number : ℕ → Kind → Doing Scene (Meant Expr)
new_number at k = λ s. (meant k (the (length s.kinds)), record s { kinds = s.kinds ++ k ∷ []; places = s.places ++ at ∷ [] })

abbrev pub ask : Demand → Doing Scene (Unit {0})
ask d = change (λ s. record s { demands = s.demands ++ d ∷ [] })

abbrev pub see_name : List ℕ → Meant Expr → Doing Scene (Unit {0})
see_name n x = change (λ s. record s { names = (n, x) ∷ s.names })

abbrev pub look_up : List ℕ → Doing Scene (Meant Expr)
look_up n = λ s. (meaning s.names n (meant kind.Value (the 0)), s)

-- the number by which an operation is known
abbrev pub number_of : Expr → ℕ
number_of (the x) = x
number_of e = 0

-- the expression has to denote something
abbrev pub mention : Kind → Expr → Doing Scene (Meant Expr)
mention k e = do
  ask (stands e)
  pure (meant k e)

-- a variable, a `_` or a left-out list
abbrev pub new_variable : ℕ → Kind → Doing Scene (Meant Expr)
new_variable at k = do
  x ← new_number at k
  mention k x.is

-- an operation among operands is its only result
abbrev pub as_operand : Meant Expr → Doing Scene (Meant Expr)
as_operand x = by_kind x.kind x where
  by_kind : Kind → Meant Expr → Doing Scene (Meant Expr)
  by_kind kind.Op e = mention kind.Value (only_result (number_of e.is))
  by_kind k e = pure e

abbrev pub literal_attr : Result Attr ModFault → Attr
literal_attr (Ok a) = a
literal_attr (Err e) = unit

abbrev pub literal_type : Result Ty ModFault → Ty
literal_type (Ok t) = t
literal_type (Err e) = index

-- what the bytes of a literal spell; bytes that aren't UTF-8 spell nothing
abbrev pub attr_spelled : List ℕ → Attr
attr_spelled bytes = if utf8_valid_len bytes == length bytes then literal_attr (attr_of bytes) else unit

abbrev pub type_spelled : List ℕ → Ty
type_spelled bytes = if utf8_valid_len bytes == length bytes then literal_type (type_of bytes) else index

abbrev pub a_literal_attr : ℕ → Attr → Doing Scene (Meant Expr)
a_literal_attr at v = do
  x ← new_number at kind.Attr
  ask (is_attr (number_of x.is) v)
  pure x

abbrev pub a_literal_type : ℕ → Ty → Doing Scene (Meant Expr)
a_literal_type at t = do
  x ← new_number at kind.Ty
  ask (is_type (number_of x.is) t)
  pure x

-- `Op<name>` asks for the name
abbrev pub ask_name : Expr → Option (List ℕ) → Doing Scene (Unit {0})
ask_name x None = pure tt
ask_name x (Some n) = ask (has_name (number_of x) n)

-- a written type asks for the type
abbrev pub ask_type : Expr → Option Expr → Doing Scene (Unit {0})
ask_type x None = pure tt
ask_type x (Some t) = ask (has_type (number_of x) t)

module _ (constraint : List ℕ → Constrains) where
  -- each constraint among refs is called on what they stand beside
  abbrev pub call_named : Meant Expr → Option (List ℕ) → Doing Scene (Unit {0})
  call_named x None = pure tt
  call_named x (Some n) = (constraint n).call (x ∷ [])

  abbrev pub call_refs : List Ref → Meant Expr → Doing Scene (Unit {0})
  call_refs rs x = for_each (λ r. call_named x (ref_name r)) rs

  abbrev pub kind_of_refs : List Ref → Written
  kind_of_refs rs = written_kind (λ n. (constraint n).param) rs

  -- a variable without a value, at this place, whose written type is this
  abbrev pub variable : ℕ → List Ref → Option Expr → Doing Scene (Meant Expr)
  variable at rs type = do
    x ← new_variable at (kind_of_refs rs).kind
    ask_name x.is (kind_of_refs rs).name
    ask_type x.is type
    call_refs rs x
    pure x

  abbrev mutual
    pub expression : Syntax → Doing Scene (Meant Expr)
    expression (expr at form) = form_at form at

    pub form_at : ExprForm → ℕ → Doing Scene (Meant Expr)
    form_at (name_expr n) at = look_up n
    form_at (call_expr n xs) at = pure (meant kind.Value (the 0))
    form_at (declare_expr n rs) at = do
      t ← type_of_refs rs
      x ← variable at (ref_list rs) t
      see_name n x
      pure x
    form_at (attr_expr l) at = a_literal_attr at (attr_spelled l.bytes)
    form_at (type_expr l) at = a_literal_type at (type_spelled l.bytes)
    form_at (op_expr o) at = operation_at o at
    form_at (member_expr e k) at = do
      x ← expression e
      mention kind.Value (result (number_of x.is) k)

    -- operands, attributes and types come before the operation
    pub operation_at : OpExpr → ℕ → Doing Scene (Meant Expr)
    operation_at (operation n os es ts) at = do
      operands ← operands_at os at
      entries ← entries_of es
      types ← types_at ts at
      x ← new_number at kind.Op
      ask (has_name (number_of x.is) n)
      ask (has_parts (number_of x.is) (record { operands = operands; entries = entries; types = types }))
      pure x

    -- left-out operands are `_: ValueRange`
    pub operands_at : MaybeExprs → ℕ → Doing Scene (List Expr)
    operands_at left_out at = do
      x ← new_variable at kind.Values
      pure (x.is ∷ [])
    operands_at (written es) at = operand_list es

    pub operand_list : Exprs → Doing Scene (List Expr)
    operand_list no_exprs = pure []
    operand_list (expr_then e es) = do
      x ← expression e
      y ← as_operand x
      ys ← operand_list es
      pure (y.is ∷ ys)

    -- left-out types are `_: TypeRange`
    pub types_at : MaybeExprs → ℕ → Doing Scene (List Expr)
    types_at left_out at = do
      x ← new_variable at kind.Tys
      pure (x.is ∷ [])
    types_at (written es) at = do
      xs ← expressions es
      pure (map (λ x. x.is) xs)

    pub expressions : Exprs → Doing Scene (List (Meant Expr))
    expressions no_exprs = pure []
    expressions (expr_then e es) = do
      x ← expression e
      xs ← expressions es
      pure (x ∷ xs)

    pub entries_of : Entries → Doing Scene (List (List ℕ × Expr))
    entries_of no_entries = pure []
    entries_of (entry_then e es) = do
      x ← entry_of e
      xs ← entries_of es
      pure (x ∷ xs)

    -- an entry without a value asks for unit
    pub entry_of : Entry → Doing Scene (List ℕ × Expr)
    entry_of (entry at n no_expr) = do
      x ← a_literal_attr at unit
      pure (n, x.is)
    entry_of (entry at n (some_expr e)) = do
      x ← expression e
      pure (n, x.is)

    pub given : MaybeExpr → Doing Scene (Option Expr)
    given no_expr = pure None
    given (some_expr e) = do
      x ← expression e
      pure (Some x.is)

    -- the type that is written in the first ref that is a kind
    pub type_of_refs : Refs → Doing Scene (Option Expr)
    type_of_refs no_refs = pure None
    type_of_refs (ref_then r rs) = type_of_ref r (type_of_refs rs)

    pub type_of_ref : Ref → Doing Scene (Option Expr) → Doing Scene (Option Expr)
    type_of_ref (ref at form) more = type_of_form form more

    pub type_of_form : RefForm → Doing Scene (Option Expr) → Doing Scene (Option Expr)
    type_of_form (attr_ref t) more = given t
    type_of_form (op_ref n) more = pure None
    type_of_form type_ref more = pure None
    type_of_form type_range_ref more = pure None
    type_of_form (value_ref t) more = given t
    type_of_form (value_range_ref t) more = given t
    type_of_form (named_ref n) more = more

  -- ---- statements

  abbrev pub call : List ℕ → Exprs → Doing Scene (Unit {0})
  call n es = do
    xs ← expressions es
    (constraint n).call xs

  -- an expression that stands alone; a call is what its constraint asks for
  abbrev pub plain : Syntax → Doing Scene (Unit {0})
  plain (expr at (call_expr n es)) = call n es
  plain e = expression e >> pure tt

  abbrev pub let_value : List Ref → Option Syntax → ℕ → Doing Scene (Meant Expr)
  let_value rs None at = do
    t ← type_of_refs (refs rs)
    variable at rs t
  let_value rs (Some e) at = do
    x ← expression e
    call_refs rs x
    pure x

  abbrev pub statement : Stmt → Doing Scene (Unit {0})
  statement (stmt at (let_stmt n rs value)) = do
    x ← let_value rs value n.at
    see_name n.text x
  statement (stmt at (plain_stmt e)) = plain e
  statement s = pure tt
