-- What is known when all lines of steps are read.
use Rattle.std.specs.Prelude.{◌≡◌, ℕ, ◌+◌, true, false, List, ◌++◌, length, slice_index}
use Rattle.rewrite_model.specs.Taken.{Taken}
use Rattle.run_model.specs.LogText.{step_line, step_lines}
use Rattle.run_log.specs.Cursor.{At}
use Rattle.run_log.specs.Written.{IsStep}
use Rattle.run_log.specs.ReadLog.{AreSteps}

-- The text doesn't begin with the line of a step with this number.
abbrev pub NoStep : ℕ → List ℕ → Type 0
NoStep k text = (s : Taken) (r : List ℕ) → IsStep s → text ≡ step_line k s ++ r → ⊥

-- Steps stood at the front of a text. Where all is well they are followed by the rest, else by what begins as a step and is none.
pub record WalksTo (start now : At) (steps : List Taken) : Type 0 where
  pub left : List ℕ
  pub steps_are : AreSteps steps
  pub split : start.rest ≡ step_lines 1 steps ++ left
  pub well : now.ok ≡ true → now.rest ≡ left
  pub ill : now.ok ≡ false → NoStep (length steps + 1) left × (slice_index left 0 ≡ 115)

-- No further step stands there.
pub record EndsWalk (start now : At) (steps : List Taken) : Type 0 where
  pub left : List ℕ
  pub steps_are : AreSteps steps
  pub split : start.rest ≡ step_lines 1 steps ++ left
  pub none : NoStep (length steps + 1) left
  pub well : now.ok ≡ true → now.rest ≡ left
  pub ill : now.ok ≡ false → slice_index left 0 ≡ 115
