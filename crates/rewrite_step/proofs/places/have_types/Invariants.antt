use Rattle.std.proofs.Common.{◌≡◌, drop}
use Rattle.std.specs.Cmp.Lexicographic.{pointwise}
use Rattle.rewrite_model.specs.Making.{have_types}
use Rattle.rewrite_step.specs.Typing.{has_type}
use Rattle.rewrite_step.proofs.places.have_types.Given as goal

abbrev pub invariant-loop-i : goal.invariant-loop-i
invariant-loop-i l = have_types l.rows l.values l.types ≡ pointwise (has_type l.rows) (drop l.i l.values) (drop l.i l.types)
