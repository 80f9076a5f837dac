-- Entries that are put into a dictionary.
use Rattle.std.specs.Prelude.{ℕ, List, [], ◌∷◌}
use Rattle.mlir_tree.specs.Tree.{Attr}
use Rattle.mlir_attributes.specs.Dictionary.{put_entry}

-- the last first
abbrev pub put_all : List (List ℕ × Attr) → List (List ℕ × Attr) → List (List ℕ × Attr)
put_all [] found = found
put_all (e ∷ es) found = put_entry e.0 e.1 (put_all es found)
