use Rattle.std.proofs.Common.{◌≡◌, ◌-◌, suc, false, cond, map, length}
use Rattle.pdll_expand.specs.View.{demand_of}
use Rattle.pdll_expand.specs.Marking.{marks_in, passed, IsGrown}
use Rattle.pdll_expand.proofs.marks.close.Given as goal

abbrev pub invariant-loop-grows : goal.invariant-loop-grows
invariant-loop-grows l = record {
  grown : IsGrown (map demand_of l.demands) l.fn.marks l.marks;
  closed : l.grows ≡ false → passed (map demand_of l.demands) l.marks ≡ l.marks;
}

-- how many marks are still wanted
abbrev pub decreases-loop-grows : goal.decreases-loop-grows
decreases-loop-grows l = cond l.grows (suc (length l.marks - marks_in l.marks)) 0
