-- The longest part of a text that has a form.
use Rattle.std.specs.Prelude.{ℕ, ◌≤◌, List, length, slice_range}

-- The bytes from `from` to `end` have the form, and no longer front of the bytes from `from` on has it.
pub record IsLongest (Form : List ℕ → Type 0) (bytes : List ℕ) (from end : ℕ) : Type 0 where
  pub in_order : from ≤ end
  pub within : end ≤ length bytes
  pub form : Form (slice_range bytes from end)
  pub longest : (other : ℕ) → other ≤ length bytes → Form (slice_range bytes from other) → other ≤ end
