-- The three edits of a module, and the attribute of a row.
use Rattle.std.specs.Prelude.{ℕ, ◌+◌, max, Bool, false, not, ◌&&◌, ◌||◌, ◌==◌, List, length, map, filter, find, position, insert, slice_index_or, Option, unwrap_or, option_map, option_and_then}
use Rattle.std.specs.Option.{option_map_or, option_or}
use Rattle.std.specs.Str.{bytes_eq}
use Rattle.mlir_tree.specs.declared.row.Row.{Row}
use Rattle.mlir_tree.specs.declared.rows.Rows.{Rows}
use Rattle.mlir_tree.specs.declared.value.Val.{Val}
use Rattle.mlir_tree.specs.declared.value.Val.TheVariants.{Res, Arg}
use Rattle.mlir_tree.specs.Tree.{Attr}
use Rattle.mlir_tree.specs.Module.{is_contained}

-- The attribute of this name in a dictionary.
abbrev pub entry_of : List (List ℕ × Attr) → List ℕ → Option Attr
entry_of entries name = option_map (λ e. e.1) (find (λ e. bytes_eq e.0 name) entries)

-- The attribute of a row: a property, else one of the other attributes.
abbrev pub attribute_of : Row → List ℕ → Option Attr
attribute_of r name = option_or (entry_of r.props name) (entry_of r.attrs name)

-- Where a row goes that is put before this one, or last.
abbrev pub place_before : Option ℕ → List Row → ℕ
place_before at rows = unwrap_or (option_and_then (λ u. position (λ r. r.id == u) rows) at) (length rows)

-- The row put just before row `at`, or last where there is none.
unfoldable pub put_before : Row → Option ℕ → List Row → List Row
put_before row at rows = insert rows (place_before at rows) row

unfoldable pub inserted : Row → Option ℕ → Rows → Rows
inserted row at m = record { rows = put_before row at m.rows; next = max m.next (row.id + 1) }

abbrev pub val_eq : Val → Val → Bool
val_eq (Res d k) (Res e j) = (d == e) && (k == j)
val_eq (Arg d g k) (Arg e h j) = (d == e) && ((g == h) && (k == j))
val_eq v w = false

-- What stands for a value where each member of `from` is replaced by the member of `to` at its place.
abbrev pub substitute : List Val → List Val → Val → Val
substitute from to v = option_map_or (λ k. slice_index_or to k v) (position (val_eq v) from) v

abbrev pub substituted_row : List Val → List Val → Row → Row
substituted_row from to r = record r { operands = map (substitute from to) r.operands }

-- Each operand place of each row that holds a member of `from` gets the member of `to` at its place, all at once.
unfoldable pub substituted : List Val → List Val → Rows → Rows
substituted from to m = record m { rows = map (substituted_row from to) m.rows }

-- Whether row u goes when row d is removed: it is d, or inside d.
abbrev pub is_removed : List Row → ℕ → ℕ → Bool
is_removed rows d u = (u == d) || is_contained rows u d

-- The row goes with all rows inside it.
unfoldable pub removed : ℕ → Rows → Rows
removed id m = record m { rows = filter (λ r. not (is_removed m.rows id r.id)) m.rows }
