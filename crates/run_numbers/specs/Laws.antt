-- How far the numbers of operations go in a run.
use Rattle.std.specs.Prelude.{ℕ, ◌+◌, ◌*◌, ◌^◌, ◌<◌, ◌≤◌, List}
use Rattle.std.specs.List.{AllByRecursion}
use Rattle.mlir_tree.specs.declared.rows.Rows.{Rows}
use Rattle.pdll_syntax.specs.declared.file.PatFile.{PatFile}
use Rattle.rewrite_model.specs.declared.run.Order.{Order}
use Rattle.rewrite_model.specs.Pattern.{Pattern}
use Rattle.rewrite_model.specs.Expanding.{patterns}
use Rattle.rewrite_model.specs.Laws.{new_operations}
use Rattle.rewrite_model.specs.Running.{Reaches}
use Rattle.pdll_types.specs.Accepted.{IsAccepted}

-- Each pattern makes at most 256 operations.
abbrev pub MakeFew : List Pattern → Type 0
MakeFew ps = AllByRecursion (λ p. new_operations p.actions ≤ 256) ps

abbrev pub AcceptedFilesMakeFew : Type 0
AcceptedFilesMakeFew = (file : PatFile) → IsAccepted file → MakeFew (patterns file)

-- The next free number of each module of a run is below 2^32, and so is each number that an operation has there.
abbrev pub NumbersStaySmall : Type 0
NumbersStaySmall =
    (order : Order) (file : PatFile) → IsAccepted file → (bound : ℕ) (m k : Rows) → bound ≤ 1000000 → m.next ≤ 1000001 → Reaches order (patterns file) bound m k → k.next < 2 ^ 32
