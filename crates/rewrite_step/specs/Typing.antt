-- Whether a value has a type.
use Rattle.std.specs.Prelude.{Bool, false, List}
use Rattle.std.specs.Option.{option_map_or}
use Rattle.mlir_tree.specs.declared.row.Row.{Row}
use Rattle.mlir_tree.specs.declared.value.Val.{Val}
use Rattle.mlir_tree.specs.Tree.{Ty}
use Rattle.native_set.specs.Arithmetic.{is_same}
use Rattle.rewrite_model.specs.Things.{type_of}

abbrev pub has_type : List Row → Val → Ty → Bool
has_type rows v t = option_map_or (λ u. is_same u t) (type_of rows v) false
