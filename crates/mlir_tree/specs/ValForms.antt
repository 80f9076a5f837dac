-- What a list of values is seen as.
use Rattle.std.specs.Prelude.{◌≤◌, List, take}
use Rattle.std.specs.declared.rc.Rc.{Rc}
use Rattle.mlir_tree.specs.declared.value.Val.{Val}
use Rattle.mlir_tree.specs.declared.value.ValForm.{ValForm}
use Rattle.mlir_tree.specs.declared.value.ValForm.TheVariants.{Few, Many}

abbrev pub vals_of : ValForm → List Val
vals_of (Few n room) = take n room
vals_of (Many r) = r.value

-- A list of few values has no more than there is room for.
abbrev pub Fits : ValForm → Type 0
Fits (Few n room) = n ≤ 2
Fits (Many r) = Unit {0}
