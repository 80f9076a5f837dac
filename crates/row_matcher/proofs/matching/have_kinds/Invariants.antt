use Rattle.std.proofs.Common.{◌≡◌, drop, map}
use Rattle.std.specs.Prelude.{◌↔◌}
use Rattle.rewrite_model.specs.Things.{kind_of}
use Rattle.row_matcher.specs.View.{thing_of}
use Rattle.row_matcher.proofs.matching.have_kinds.Given as goal

abbrev pub invariant-loop-t : goal.invariant-loop-t
invariant-loop-t l = (map kind_of (map thing_of l.given) ≡ l.kinds) ↔ (map kind_of (map thing_of (drop l.t-index l.given)) ≡ l.rest)
