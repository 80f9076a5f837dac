-- Runs of bytes of one class.
use Rattle.std.specs.Prelude.{ℕ, ◌+◌, ◌≤◌, Bool, List, length, slice_range}
use Rattle.byte_lanes.specs.Bytes.{AllAre}

-- n is the greatest number of bytes at `from` that all pass the test.
pub record IsRun (test : ℕ → Bool) (bytes : List ℕ) (from n : ℕ) : Type 0 where
  pub within : from + n ≤ length bytes
  pub passes : AllAre test (slice_range bytes from (from + n))
  pub greatest : (m : ℕ) → from + m ≤ length bytes → AllAre test (slice_range bytes from (from + m)) → m ≤ n
