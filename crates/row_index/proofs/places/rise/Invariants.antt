use Rattle.row_index.proofs.Searching.{RiseBefore}
use Rattle.row_index.proofs.places.rise.Given as goal

abbrev pub invariant-loop-i : goal.invariant-loop-i
invariant-loop-i l = RiseBefore l.rows l.i
