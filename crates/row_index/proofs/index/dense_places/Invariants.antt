use Rattle.std.proofs.Common.{◌≡◌, ◌≤◌, ℕ, drop, length}
use Rattle.row_index.specs.Indexing.{place_from, slot_of}
use Rattle.row_index.proofs.index.dense_places.Given as goal

abbrev pub invariant-loop-at : goal.invariant-loop-at
invariant-loop-at l = record {
  known : (id : ℕ) → slot_of l.slots.items id ≡ place_from l.at (drop l.at l.rows) id;
  long : length l.slots.items ≡ l.len;
  within : l.at ≤ length l.rows;
}

abbrev pub decreases-loop-at : goal.decreases-loop-at
decreases-loop-at l = l.at
