-- Nodes and their links.
use Rattle.std.specs.Prelude.{◌≡◌, ◌≢◌, ◌+◌, ℕ, Bool, Option, Some, None}
use Rattle.indexmap.specs.IndexMap.{get, IndexMap}
use Rattle.mlir_tree.specs.declared.value.Val.{Val}
use Rattle.mlir_tree.specs.declared.value.Val.TheVariants.{Res}
use Rattle.use_lists.specs.declared.nodes.Node.{Node}
use Rattle.use_lists.specs.declared.nodes.Node.TheVariants.{Head, Use}
use Rattle.use_lists.specs.declared.nodes.Link.{Link}
use Rattle.use_lists.specs.contracts.nodes.NodePartialEq.TheImpl as node_eq

-- whether two nodes are the same
abbrev pub same : Node → Node → Bool
same = (node_eq.ghosts).eq

-- a node that leads to itself
abbrev pub no_link : Node → Link
no_link (Head v) = record { prev = Head v; next = Head v; owner = v; count = 0 }
no_link (Use r p) = record { prev = Use r p; next = Use r p; owner = Res 0 0; count = 0 }

abbrev pub link_or : Node → Option Link → Link
link_or x None = no_link x
link_or x (Some k) = k

-- what a node leads to
abbrev pub link_at : {S : Type 0} → IndexMap Node Link S → Node → Link
link_at m x = link_or x (get same m x)

abbrev pub with_next : Link → Node → Link
with_next k x = record { prev = k.prev; next = x; owner = k.owner; count = k.count }

abbrev pub with_prev : Link → Node → Link
with_prev k x = record { prev = x; next = k.next; owner = k.owner; count = k.count }

abbrev pub with_count : Link → ℕ → Link
with_count k n = record { prev = k.prev; next = k.next; owner = k.owner; count = n }

abbrev pub with_owner : Link → Val → Link
with_owner k v = record { prev = k.prev; next = k.next; owner = v; count = k.count }

-- a head with another last node, which is counted
abbrev pub with_last : Link → Node → Link
with_last k x = record { prev = x; next = k.next; owner = k.owner; count = k.count + 1 }

-- one link is written
pub record Puts (old new : Node → Link) (at : Node) (link : Link) : Type 0 where
  pub here : new at ≡ link
  pub others : (y : Node) → y ≢ at → new y ≡ old y
