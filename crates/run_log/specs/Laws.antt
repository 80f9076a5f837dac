-- Laws of logs.
use Rattle.std.specs.Prelude.{◌≡◌, ℕ, ◌≤◌, List, length}
use Rattle.rewrite_model.specs.declared.run.Ending.{Ending}
use Rattle.rewrite_model.specs.Taken.{Taken}
use Rattle.run_log.specs.ReadLog.{IsLogOf}

-- A text of at most 67,108,864 bytes is the log of at most one run.
abbrev pub LogsTellOneRun : Type 0
LogsTellOneRun =
    (text : List ℕ) (steps others : List Taken) (ending other : Ending) → length text ≤ 67108864 → IsLogOf steps ending text → IsLogOf others other text → (steps ≡ others) × (ending ≡ other)
