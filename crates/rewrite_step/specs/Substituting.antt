-- Which rows change where values are put in.
use Rattle.std.specs.Prelude.{Bool, List, position}
use Rattle.std.specs.Option.{is_some}
use Rattle.std.specs.List.{list_any}
use Rattle.mlir_tree.specs.declared.value.Val.{Val}
use Rattle.mlir_tree.specs.Edits.{val_eq}

-- Whether something stands for the value.
abbrev pub is_replaced : List Val → Val → Bool
is_replaced from v = is_some (position (val_eq v) from)

-- Whether something stands for one of the operands.
abbrev pub uses_any : List Val → List Val → Bool
uses_any from operands = list_any (is_replaced from) operands
