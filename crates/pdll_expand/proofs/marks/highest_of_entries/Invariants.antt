use Rattle.std.proofs.Common.{◌≡◌, drop, map}
use Rattle.rewrite_model.specs.Determined.{values_of}
use Rattle.rewrite_model.specs.Laws.{number_in}
use Rattle.pdll_expand.specs.View.{named_expr_of}
use Rattle.pdll_expand.specs.Marking.{highest}
use Rattle.pdll_expand.proofs.marks.highest_of_entries.Given as goal

abbrev pub invariant-loop-e : goal.invariant-loop-e
invariant-loop-e l = highest (map number_in (values_of (map named_expr_of (drop l.e-index l.entries)))) l.highest ≡ highest (map number_in (values_of (map named_expr_of l.entries))) l.fn.highest
