-- The entries of a dictionary in the order of their names, while they are read.
use Rattle.std.specs.Prelude.{ℕ, Bool, List, map, Vec}
use Rattle.std.specs.Option.{is_some}
use Rattle.std.specs.BTreeMap.{BTreeMap, insert_entry, is_at}
use Rattle.std.specs.Map.{lookup}
use Rattle.std.specs.declared.alloc.Global.{Global}
use Rattle.mlir_tree.specs.Tree.{Attr}
use Rattle.mlir_tree.specs.Order.{text_cmp}

-- The name stands there.
abbrev pub has_name : List ℕ → List (List ℕ × Attr) → Bool
has_name name found = is_some (lookup (is_at (text_cmp name)) found)

-- The entries with one more, in its place by its name.
abbrev pub put_entry : List ℕ → Attr → List (List ℕ × Attr) → List (List ℕ × Attr)
put_entry name value found = insert_entry text_cmp found name value

abbrev pub entry_of : Vec ℕ Global × Attr → List ℕ × Attr
entry_of e = (e.0.items, e.1)

-- The entries of a map whose keys are vectors of bytes.
abbrev pub named : BTreeMap (Vec ℕ Global) Attr → List (List ℕ × Attr)
named found = map entry_of found.entries
