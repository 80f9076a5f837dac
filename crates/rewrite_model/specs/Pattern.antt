-- Patterns after expanding: each call of a declared constraint or rewrite is replaced by its body
-- (PDLL document, "Patterns", "Constraints", "Rewrites").
use Rattle.std.specs.Prelude.{ℕ, List}
use Rattle.mlir_tree.specs.Tree.{Ty, Attr}
use Rattle.native_set.specs.declared.native.Kind.{Kind}
use Rattle.native_set.specs.declared.native.Constraint.{Constraint}
use Rattle.native_set.specs.declared.native.Rewrite.{Rewrite}

-- What stands behind the name in `op<name>(..) {..} -> (..)`.
pub record Parts (E : Type 0) : Type 0 where
  pub operands : List E
  pub entries : List (List ℕ × E)
  pub types : List E

-- ---- the match

-- An expression of the match. Each variable, each `_`, each left-out list, each literal and each operation expression is
-- known by a number, in the order of first mention, the parts of an operation before it.
pub data Expr : Type 0 where
  the : ℕ → Expr
  result : ℕ → ℕ → Expr  -- result k of operation x
  only_result : ℕ → Expr  -- an operation among operands

-- What a match asks for, in the order of mention. That an expression denotes something is asked where it is written.
pub data Demand : Type 0 where
  stands : Expr → Demand  -- the expression denotes something
  is_attr : ℕ → Attr → Demand  -- attr<"..">
  is_type : ℕ → Ty → Demand  -- type<"..">
  has_name : ℕ → List ℕ → Demand  -- op<name>, x: Op<name>
  has_parts : ℕ → Parts Expr → Demand  -- op<..>(..) {..} -> (..)
  has_type : ℕ → Expr → Demand  -- x: Value<t>, x: ValueRange<t>, x: Attr<t>
  calls : Constraint → List Expr → Demand

-- ---- the rewrite

-- A thing that an action works on.
pub data Part : Type 0 where
  matched : Expr → Part  -- what an expression of the match denoted when the step began
  made : ℕ → Part  -- what the rewrite made, counted from 0

-- An expression of the rewrite whose parts are there.
pub data Making : Type 0 where
  attr_literal : Attr → Making
  type_literal : Ty → Making
  new_operation : List ℕ → Parts Part → Making
  result_of : Part → ℕ → Making
  only_result_of : Part → Making  -- an operation among operands
  results_of : Part → Making  -- an operation among replacements
  result_types_of : Part → Making  -- left-out types directly after `replace e with`
  native : Rewrite → List Part → Making

-- What a rewrite does, in this order.
pub data Action : Type 0 where
  makes : Making → Action
  replaces : Part → List Part → Action
  erases : Part → Action

-- ---- patterns

pub record Pattern : Type 0 where
  pub name : List ℕ  -- empty where the pattern has none
  pub benefit : ℕ
  pub kinds : List Kind  -- of what has the numbers 0, 1, ..
  pub places : List ℕ  -- where each stands in the pattern file
  pub demands : List Demand
  pub root : ℕ
  pub actions : List Action
