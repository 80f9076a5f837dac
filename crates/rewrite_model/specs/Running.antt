-- The run of patterns on a module. The order of steps is this project's.
use Rattle.std.specs.Prelude.{◌≡◌, ℕ, zero, suc, List, [], ◌∷◌, ◌++◌, Ok, Err}
use Rattle.std.specs.List.{AllByRecursion}
use Rattle.mlir_tree.specs.declared.row.Row.{Row}
use Rattle.mlir_tree.specs.declared.rows.Rows.{Rows}
use Rattle.rewrite_model.specs.declared.run.Hit.{Hit}
use Rattle.rewrite_model.specs.declared.run.Order.{Order}
use Rattle.rewrite_model.specs.declared.run.Order.TheVariants.{First, Last}
use Rattle.rewrite_model.specs.declared.run.BoundKind.TheVariants.{Rewrites}
use Rattle.rewrite_model.specs.declared.run.Ending.{Ending}
use Rattle.rewrite_model.specs.declared.run.Ending.TheVariants.{Converged, Bound, Broken}
use Rattle.rewrite_model.specs.Taken.{Taken}
use Rattle.rewrite_model.specs.Pattern.{Pattern}
use Rattle.rewrite_model.specs.Things.{Thing}
use Rattle.rewrite_model.specs.Matching.{MatchesBy, NoneAt, IsBest}
use Rattle.rewrite_model.specs.Making.{Stop, breaks, bound}
use Rattle.rewrite_model.specs.Step.{step, made_numbers, removed_numbers}

-- A run: the steps that it took, how it ended, and the module at its end.
pub record Course : Type 0 where
  pub taken : List Taken
  pub ending : Ending
  pub rows : Rows

abbrev pub ended : Ending → Rows → Course
ended e m = record { taken = []; ending = e; rows = m }

-- how a run ends whose next step is stopped
abbrev pub ending_by : Hit → Stop → Ending
ending_by h (breaks b) = Broken (record { pattern = h.pattern; root = h.row; why = b })
ending_by h (bound k) = Bound k h

-- the step from one module to the next
abbrev pub taken : Pattern → Hit → Rows → Rows → Taken
taken p h m n = record { pattern = h.pattern; name = p.name; root = h.row; made = made_numbers m n; removed = removed_numbers m n }

abbrev pub after_step : Taken → Course → Course
after_step t c = record { taken = t ∷ c.taken; ending = c.ending; rows = c.rows }

-- ---- the next step

-- No pattern matches at any of these operations.
abbrev pub NoneAmong : List Pattern → List Row → List Row → Type 0
NoneAmong ps all rows = AllByRecursion (λ r. NoneAt ps all r.id) rows

-- The operations that are looked at before one in this order, of those before and those after it in text order.
abbrev pub ahead : Order → List Row → List Row → List Row
ahead First before after = before
ahead Last before after = after

-- The first operation in text order at which a pattern matches, or the last one, with its best pattern.
pub record IsNext (order : Order) (ps : List Pattern) (rows : List Row) (h : Hit) (p : Pattern) : Type 0 where
  pub before : List Row
  pub row : Row
  pub after : List Row
  pub in_order : rows ≡ before ++ (row ∷ after)
  pub none_ahead : NoneAmong ps rows (ahead order before after)
  pub number : row.id ≡ h.row
  pub best : IsBest ps rows h.row h.pattern p

-- ---- the run

-- While fewer than so many steps were taken and a pattern matches somewhere, the first such operation in text order, or the
-- last one, is rewritten by its best pattern.
pub data Runs (order : Order) (ps : List Pattern) : ℕ → Rows → Course → Type 0 where
  converges : {n : ℕ} {m : Rows} → NoneAmong ps m.rows m.rows → Runs order ps n m (ended Converged m)
  is_bounded : {m : Rows} {h : Hit} {p : Pattern} → IsNext order ps m.rows h p → Runs order ps zero m (ended (Bound Rewrites h) m)
  is_stopped : {n : ℕ} {m : Rows} {h : Hit} {p : Pattern} {a : List Thing} {e : Stop}
      → IsNext order ps m.rows h p → MatchesBy m.rows p a h.row → step p a h.row m ≡ Err e
      → Runs order ps (suc n) m (ended (ending_by h e) m)
  goes_on : {n : ℕ} {m m' : Rows} {h : Hit} {p : Pattern} {a : List Thing} {c : Course}
      → IsNext order ps m.rows h p → MatchesBy m.rows p a h.row → step p a h.row m ≡ Ok m'
      → Runs order ps n m' c
      → Runs order ps (suc n) m (after_step (taken p h m m') c)

-- The modules of a run: the one that it begins at, and the one after each step.
pub data Reaches (order : Order) (ps : List Pattern) : ℕ → Rows → Rows → Type 0 where
  stays : {n : ℕ} {m : Rows} → Reaches order ps n m m
  steps_on : {n : ℕ} {m m' k : Rows} {h : Hit} {p : Pattern} {a : List Thing}
      → IsNext order ps m.rows h p → MatchesBy m.rows p a h.row → step p a h.row m ≡ Ok m'
      → Reaches order ps n m' k
      → Reaches order ps (suc n) m k
