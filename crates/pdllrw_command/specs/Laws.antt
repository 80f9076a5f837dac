-- Laws of the run.
use Rattle.std.specs.Prelude.{◌≡◌, ℕ}
use Rattle.mlir_tree.specs.declared.rows.Rows.{Rows}
use Rattle.pdll_syntax.specs.declared.file.PatFile.{PatFile}
use Rattle.pdll_types.specs.Accepted.{IsAccepted}
use Rattle.rewrite_model.specs.Expanding.{patterns}
use Rattle.rewrite_model.specs.declared.run.Order.{Order}
use Rattle.rewrite_model.specs.Running.{Course, Runs}

-- From each module, with each bound, there is exactly one run of the patterns of an accepted file.
abbrev pub AcceptedFilesHaveOneRun : Type 0
AcceptedFilesHaveOneRun =
    (file : PatFile) → IsAccepted file
    → (order : Order) (bound : ℕ) (rows : Rows) → (c : Course) × Runs order (patterns file) bound rows c × ((d : Course) → Runs order (patterns file) bound rows d → d ≡ c)
