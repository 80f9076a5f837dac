use Rattle.std.proofs.Common.{◌≡◌, drop, map}
use Rattle.rewrite_model.specs.Determined.{values_of}
use Rattle.rewrite_model.specs.Laws.{number_in}
use Rattle.pdll_expand.specs.View.{named_expr_of}
use Rattle.pdll_expand.specs.Marking.{marked}
use Rattle.pdll_expand.proofs.marks.mark_entries.Given as goal

abbrev pub invariant-loop-e : goal.invariant-loop-e
invariant-loop-e l = marked (map number_in (values_of (map named_expr_of (drop l.e-index l.entries)))) l.marks ≡ marked (map number_in (values_of (map named_expr_of l.entries))) l.fn.marks
