use Rattle.std.proofs.Common.{◌≡◌, drop, map}
use Rattle.std.specs.List.{list_all}
use Rattle.rewrite_model.specs.Things.{is_thing}
use Rattle.row_matcher.specs.View.{thing_of}
use Rattle.row_matcher.proofs.matching.are_things.Given as goal

abbrev pub invariant-loop-t : goal.invariant-loop-t
invariant-loop-t l = list_all (is_thing l.rows) (map thing_of (drop l.t-index l.given)) ≡ list_all (is_thing l.rows) (map thing_of l.given)
