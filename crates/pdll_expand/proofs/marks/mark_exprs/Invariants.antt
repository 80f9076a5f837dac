use Rattle.std.proofs.Common.{◌≡◌, drop, map}
use Rattle.rewrite_model.specs.Laws.{number_in}
use Rattle.pdll_expand.specs.View.{expr_of}
use Rattle.pdll_expand.specs.Marking.{marked}
use Rattle.pdll_expand.proofs.marks.mark_exprs.Given as goal

abbrev pub invariant-loop-e : goal.invariant-loop-e
invariant-loop-e l = marked (map number_in (map expr_of (drop l.e-index l.exprs))) l.marks ≡ marked (map number_in (map expr_of l.exprs)) l.fn.marks
