-- The rows of a module with the numbers of their places in text order.
use Rattle.std.specs.Prelude.{ℕ, List, length, map, unwrap_or}
use Rattle.std.specs.Option.{option_map}
use Rattle.mlir_tree.specs.declared.row.Home.{Home}
use Rattle.mlir_tree.specs.declared.row.Row.{Row}
use Rattle.mlir_tree.specs.declared.rows.Rows.{Rows}
use Rattle.mlir_tree.specs.declared.value.Val.{Val}
use Rattle.mlir_tree.specs.declared.value.Val.TheVariants.{Res, Arg}
use Rattle.mlir_print.specs.Numbering.{place_of}

-- The new number of row d: its place.
abbrev pub new_number : List Row → ℕ → ℕ
new_number rows d = unwrap_or (place_of rows d) 0

abbrev pub new_home : List Row → Home → Home
new_home rows h = record { row = new_number rows h.row; region = h.region }

abbrev pub new_value : List Row → Val → Val
new_value rows (Res d k) = Res (new_number rows d) k
new_value rows (Arg d g k) = Arg (new_number rows d) g k

-- The row, with homes and operands that follow.
abbrev pub new_row : List Row → Row → Row
new_row rows r = record r {
  id = new_number rows r.id;
  home = option_map (new_home rows) r.home;
  operands = map (new_value rows) r.operands;
}

unfoldable pub renumbered : Rows → Rows
renumbered m = record { rows = map (new_row m.rows) m.rows; next = length m.rows }
