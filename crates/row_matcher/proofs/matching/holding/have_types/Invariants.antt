use Rattle.std.proofs.Common.{◌≡◌, drop, Some}
use Rattle.std.specs.Prelude.{◌↔◌}
use Rattle.rewrite_model.specs.Things.{each, type_of}
use Rattle.row_matcher.proofs.matching.holding.have_types.Given as goal

abbrev pub invariant-loop-v : goal.invariant-loop-v
invariant-loop-v l = (each (type_of l.rows) l.vs ≡ Some l.ts) ↔ (each (type_of l.rows) (drop l.v-index l.vs) ≡ Some l.rest)
