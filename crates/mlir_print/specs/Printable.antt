-- What the printing of a row rests on.
use Rattle.std.specs.Prelude.{ℕ, ◌<◌, List, length, All, IsTrue}
use Rattle.mlir_tree.specs.declared.row.Row.{Row}
use Rattle.mlir_tree.specs.declared.value.Val.{Val}
use Rattle.mlir_tree.specs.declared.value.Val.TheVariants.{Arg}
use Rattle.mlir_tree.specs.Tree.{Ty}
use Rattle.mlir_tree.specs.Module.{is_value}
use Rattle.mlir_tree.specs.WellFormed.{AreDistinct, AreNested}
use Rattle.mlir_print.specs.declared.numbers.Numbers.{Numbers}
use Rattle.mlir_print.specs.NumberMaps.{AreNumbersOf}

abbrev pub AreValues : List Row → List Val → Type 0
AreValues rows values = All (λ v. IsTrue (is_value rows v)) values

-- Region g of row d has so many arguments, or more.
abbrev pub AreArguments : List Row → ℕ → ℕ → List Ty → Type 0
AreArguments rows d g arguments = (k : ℕ) → k < length arguments → IsTrue (is_value rows (Arg d g k))

pub record IsPrintable (rows : List Row) (n : Numbers) : Type 0 where
  pub distinct : AreDistinct rows
  pub nested : AreNested rows
  pub operands : All (λ r. AreValues rows r.operands) rows
  pub numbers : AreNumbersOf rows n
