-- The uses of each value.
use Rattle.std.specs.Prelude.{◌≡◌, ◌≢◌, ℕ, ◌+◌, List, ◌++◌, map, Option, Some, None}
use Rattle.std.specs.Map.{lookup}
use Rattle.mlir_tree.specs.declared.value.Val.{Val}
use Rattle.use_lists.specs.declared.nodes.Node.{Node}
use Rattle.use_lists.specs.declared.nodes.Node.TheVariants.{Head, Use}
use Rattle.use_lists.specs.declared.nodes.Link.{Link}
use Rattle.use_lists.specs.Nodes.{same, link_or}
use Rattle.use_lists.specs.Chain.{IsIn, IsApart, IsChain, walk}

-- the links between uses, and how many uses more find room
pub record Lists : Type 0 where
  pub entries : List (Node × Link)
  pub spare : ℕ

abbrev pub links_in : List (Node × Link) → Node → Link
links_in es x = link_or x (lookup (same x) es)

abbrev pub next_of : (Node → Link) → Node → Node
next_of links x = (links x).next

abbrev pub prev_of : (Node → Link) → Node → Node
prev_of links x = (links x).prev

abbrev pub owner_of : (Node → Link) → Node → Val
owner_of links x = (links x).owner

abbrev pub count_of : (Node → Link) → Node → ℕ
count_of links x = (links x).count

abbrev pub IsUse : Node → Type 0
IsUse (Head v) = ⊥
IsUse (Use r p) = Unit {0}

-- the row and the place of a use
abbrev pub use_of : Node → ℕ × ℕ
use_of (Head v) = (0, 0)
use_of (Use r p) = (r, p)

abbrev pub use_at : Node → Option (ℕ × ℕ)
use_at (Head v) = None
use_at (Use r p) = Some (r, p)

-- the uses of a value, as nodes
unfoldable pub nodes_of : (Node → Link) → Val → List Node
nodes_of links v = walk (next_of links) (count_of links (Head v)) (Head v)

-- the uses of a value, the first linked one first
abbrev pub uses_in : Lists → Val → List (ℕ × ℕ)
uses_in s v = map use_of (nodes_of (links_in s.entries) v)

pub record IsRing (links : Node → Link) (v : Val) (xs : List Node) : Type 0 where
  pub chain : IsChain (next_of links) (prev_of links) (Head v) xs (Head v)
  pub apart : IsApart xs
  pub uses : (x : Node) → IsIn x xs → IsUse x
  pub owned : (x : Node) → IsIn x xs → owner_of links x ≡ v

abbrev pub AreRings : (Node → Link) → Type 0
AreRings links = (v : Val) → IsRing links v (nodes_of links v)

-- A node is put last before a head.
pub record Appends (old new : Node → Link) (v : Val) (x : Node) : Type 0 where
  pub into : next_of new (prev_of old (Head v)) ≡ x
  pub out : next_of new x ≡ Head v
  pub back_into : prev_of new (Head v) ≡ x
  pub back_out : prev_of new x ≡ prev_of old (Head v)
  pub owner : owner_of new x ≡ v
  pub counted : count_of new (Head v) ≡ count_of old (Head v) + 1
  pub nexts : (y : Node) → y ≢ prev_of old (Head v) → y ≢ x → next_of new y ≡ next_of old y
  pub prevs : (y : Node) → y ≢ Head v → y ≢ x → prev_of new y ≡ prev_of old y
  pub owners : (y : Node) → y ≢ x → owner_of new y ≡ owner_of old y
  pub counts : (w : Val) → w ≢ v → count_of new (Head w) ≡ count_of old (Head w)

-- A node is taken out.
pub record Cuts (old new : Node → Link) (v : Val) (x : Node) : Type 0 where
  pub onward : next_of new (prev_of old x) ≡ next_of old x
  pub back : prev_of new (next_of old x) ≡ prev_of old x
  pub counted : count_of new (Head v) + 1 ≡ count_of old (Head v)
  pub nexts : (y : Node) → y ≢ prev_of old x → y ≢ x → next_of new y ≡ next_of old y
  pub prevs : (y : Node) → y ≢ next_of old x → y ≢ x → prev_of new y ≡ prev_of old y
  pub owners : (y : Node) → y ≢ x → owner_of new y ≡ owner_of old y
  pub counts : (w : Val) → w ≢ v → count_of new (Head w) ≡ count_of old (Head w)

-- These nodes get another owner, and nothing else changes.
pub record Renames (old new : Node → Link) (xs : List Node) (to : Val) : Type 0 where
  pub nexts : (y : Node) → next_of new y ≡ next_of old y
  pub prevs : (y : Node) → prev_of new y ≡ prev_of old y
  pub counts : (y : Node) → count_of new y ≡ count_of old y
  pub renamed : (y : Node) → IsIn y xs → owner_of new y ≡ to
  pub owners : (y : Node) → ¬ IsIn y xs → owner_of new y ≡ owner_of old y

-- After so many nodes of the list the walk stands at one.
pub record Renaming (old now : Node → Link) (head : Node) (n i : ℕ) (at : Node) (to : Val) : Type 0 where
  pub done : List Node
  pub left : ℕ
  pub total : i + left ≡ n
  pub parts : walk (next_of old) n head ≡ done ++ walk (next_of old) left at
  pub renames : Renames old now done to

-- The ring of one head goes behind that of another.
pub record Joins (old new : Node → Link) (from to : Val) : Type 0 where
  pub into : next_of new (prev_of old (Head to)) ≡ next_of old (Head from)
  pub back_into : prev_of new (next_of old (Head from)) ≡ prev_of old (Head to)
  pub out : next_of new (prev_of old (Head from)) ≡ Head to
  pub back_out : prev_of new (Head to) ≡ prev_of old (Head from)
  pub counted : count_of new (Head to) ≡ count_of old (Head to) + count_of old (Head from)
  pub none : (next_of new (Head from) ≡ Head from) × (prev_of new (Head from) ≡ Head from) × (count_of new (Head from) ≡ 0)
  pub nexts : (y : Node) → y ≢ prev_of old (Head to) → y ≢ prev_of old (Head from) → y ≢ Head from → next_of new y ≡ next_of old y
  pub prevs : (y : Node) → y ≢ next_of old (Head from) → y ≢ Head to → y ≢ Head from → prev_of new y ≡ prev_of old y
  pub owners : (y : Node) → y ≢ Head from → owner_of new y ≡ owner_of old y
  pub counts : (w : Val) → w ≢ from → w ≢ to → count_of new (Head w) ≡ count_of old (Head w)
