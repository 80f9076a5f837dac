-- Runs as they are told, and one turn of a run.
use Rattle.std.specs.Prelude.{◌≡◌, ℕ, ◌<◌, List, ◌++◌, Ok}
use Rattle.mlir_tree.specs.declared.rows.Rows.{Rows}
use Rattle.row_index.specs.Indexing.{Indexes}
use Rattle.rewrite_model.specs.declared.run.Hit.{Hit}
use Rattle.rewrite_model.specs.declared.run.Order.{Order}
use Rattle.run_model.specs.declared.run.Run.{Run}
use Rattle.rewrite_model.specs.Taken.{Taken}
use Rattle.rewrite_model.specs.Pattern.{Pattern}
use Rattle.rewrite_model.specs.Things.{Thing}
use Rattle.rewrite_model.specs.Matching.{MatchesBy}
use Rattle.rewrite_model.specs.Step.{step}
use Rattle.rewrite_model.specs.Running.{Course, ended, taken, IsNext, Runs}
use Rattle.greedy_driver.specs.declared.turn.Turn.{Turn}
use Rattle.greedy_driver.specs.declared.turn.Turn.TheVariants.{Ended, Took}

-- What was told of a run, and the module at its end.
abbrev pub course_of : Run → Rows → Course
course_of r m = record { taken = r.taken; ending = r.ending; rows = m }

-- A step of the run leads from one module to the next, and is told so.
pub record Goes (order : Order) (ps : List Pattern) (m n : Rows) (t : Taken) : Type 0 where
  pub hit : Hit
  pub pattern : Pattern
  pub given : List Thing
  pub is_next : IsNext order ps m.rows hit pattern
  pub matches : MatchesBy m.rows pattern given hit.row
  pub steps : step pattern given hit.row m ≡ Ok n
  pub told : t ≡ taken pattern hit m n

-- With so many steps left the run ends here, or a step is taken and the places of the rows behind it are known.
abbrev pub IsTurn : Order → List Pattern → ℕ → Rows → Rows → Turn → Type 0
IsTurn order ps left m n (Ended e) = (n ≡ m) × Runs order ps left m (ended e m)
IsTurn order ps left m n (Took t index) = (0 < left) × (Goes order ps m n t × Indexes index n.rows)

-- These steps before a course.
abbrev pub behind : List Taken → Course → Course
behind steps c = record { taken = steps ++ c.taken; ending = c.ending; rows = c.rows }
