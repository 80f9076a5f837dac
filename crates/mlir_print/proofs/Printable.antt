-- Well-formed rows can be printed.
use Rattle.std.proofs.Common.{ℕ, List}
use Rattle.std.specs.Prelude.{IsTrue}
use Rattle.std.proofs.lemmas.List.Elements.{All-weaker}
use Rattle.mlir_tree.specs.declared.row.Row.{Row}
use Rattle.mlir_tree.specs.declared.rows.Rows.{Rows}
use Rattle.mlir_tree.specs.declared.value.Val.{Val}
use Rattle.mlir_tree.specs.Module.{is_value, is_in_scope, is_visible, IsVisible}
use Rattle.mlir_tree.specs.WellFormed.{HasVisibleOperands, IsWellFormed}
use Rattle.mlir_print.specs.declared.numbers.Numbers.{Numbers}
use Rattle.mlir_print.specs.NumberMaps.{AreNumbersOf}
use Rattle.mlir_print.specs.Printable.{AreValues, IsPrintable}
use Rattle.mlir_tree.proofs.Places.{both_true}

visible_value : (rows : List Row) (u : ℕ) (v : Val) → IsVisible rows v u → IsTrue (is_value rows v)
unfolding is_visible
visible_value rows u v seen = (both_true (is_value rows v) (is_in_scope rows v u) seen).0

pub printable : (m : Rows) (n : Numbers) → IsWellFormed m → AreNumbersOf m.rows n → IsPrintable m.rows n
printable m n well numbers = record {
  distinct = well.numbers.differ;
  nested = well.nesting;
  operands = All-weaker (HasVisibleOperands m.rows) (λ r. AreValues m.rows r.operands)
      (λ r seen. All-weaker (λ v. IsVisible m.rows v r.id) (λ v. IsTrue (is_value m.rows v)) (λ v is. visible_value m.rows r.id v is) r.operands seen) m.rows well.operands;
  numbers = numbers;
}
