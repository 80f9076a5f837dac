-- Operations as they are written, as contracts see them: plain data (MLIR Language Reference, "Operations" and "Regions").
use Rattle.std.specs.Prelude.{ℕ, List, [], ◌∷◌}
use Rattle.mlir_tree.specs.Tree.{Ty}
use Rattle.mlir_parse.specs.declared.syn.SynResult.{SynResult}
use Rattle.mlir_parse.specs.declared.syn.SynUse.{SynUse}
use Rattle.mlir_parse.specs.declared.syn.SynEntry.{SynEntry}
use Rattle.mlir_parse.specs.declared.syn.SynArg.{SynArg}

-- An operation but for its regions. `at` is the place of its name, and `types_at` that of its function type.
pub record Head : Type 0 where
  pub at : ℕ
  pub name : List ℕ
  pub results : List SynResult
  pub operands : List SynUse
  pub props : List SynEntry
  pub attrs : List SynEntry
  pub types_at : ℕ
  pub operand_types : List Ty
  pub result_types : List Ty

mutual
  pub data Operation : Type 0 where
    operation : Head → Regions → Operation

  -- regions, each with its arguments and its operations
  pub data Regions : Type 0 where
    no_regions : Regions
    region_then : List SynArg → Operations → Regions → Regions

  pub data Operations : Type 0 where
    no_operations : Operations
    operation_then : Operation → Operations → Operations

-- what a list stands for inside an operation
abbrev pub operations : List Operation → Operations
operations [] = no_operations
operations (o ∷ os) = operation_then o (operations os)
