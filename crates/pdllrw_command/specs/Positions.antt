-- Lines and columns.
use Rattle.std.specs.Prelude.{ℕ, ◌+◌, not, List, length, take, filter, reverse}
use Rattle.std.specs.List.{prefix_len}
use Rattle.text_scan.specs.Bytes.{is_line_feed}
use Rattle.pdllrw_command.specs.declared.position.Position.{Position}

-- the line and the column behind a text: one more than its line feeds, and one more than the bytes since the last of them
abbrev pub position_behind : List ℕ → Position
position_behind text = record { line = length (filter is_line_feed text) + 1; column = prefix_len (λ b. not (is_line_feed b)) (reverse text) + 1 }

-- the line and the column of a place
unfoldable pub position_of : List ℕ → ℕ → Position
position_of bytes at = position_behind (take at bytes)
