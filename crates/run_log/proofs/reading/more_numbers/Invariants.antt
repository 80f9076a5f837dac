use Rattle.std.proofs.Common.{◌≡◌, ℕ, List, ◌∷◌, ◌++◌, [], drop}
use Rattle.rewrite_model.specs.Taken.{IsRising}
use Rattle.run_log.specs.Cursor.{Takes, size}
use Rattle.run_log.specs.Written.{AreWords}
use Rattle.run_log.proofs.Lines.{more_numbers}
use Rattle.run_log.proofs.Numbers.{LeftNumbers}
use Rattle.run_log.proofs.reading.more_numbers.Given as goal

abbrev pub invariant-loop-cursor : goal.invariant-loop-cursor
invariant-loop-cursor l = record {
  starts : l.numbers ≡ l.first ∷ drop 1 l.numbers;
  rising : IsRising l.numbers;
  words : AreWords l.numbers;
  last : (front : List ℕ) × (l.numbers ≡ front ++ l.last ∷ []);
  took : Takes l.fn.cursor l.cursor (more_numbers (drop 1 l.numbers));
  left : LeftNumbers l.fn.cursor l.cursor l.first l.numbers l.last;
}

abbrev pub decreases-loop-cursor : goal.decreases-loop-cursor
decreases-loop-cursor l = size l.cursor
