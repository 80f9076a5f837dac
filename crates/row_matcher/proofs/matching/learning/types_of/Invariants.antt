use Rattle.std.proofs.Common.{◌≡◌, drop, Some}
use Rattle.rewrite_model.specs.Things.{joined, each, type_of}
use Rattle.row_matcher.proofs.matching.learning.types_of.Given as goal

abbrev pub invariant-loop-v : goal.invariant-loop-v
invariant-loop-v l = joined (Some l.types) (each (type_of l.rows) (drop l.v-index l.vs)) ≡ each (type_of l.rows) l.vs
