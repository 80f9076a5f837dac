use Rattle.std.proofs.Common.{◌≡◌, map, drop}
use Rattle.rewrite_model.specs.Making.{act_all}
use Rattle.pdll_patterns.specs.View.{action_of}
use Rattle.rewrite_step.specs.View.{start_of, progress_of}
use Rattle.rewrite_step.proofs.progress.Progress.act_all.Given as goal

abbrev pub invariant-loop-x : goal.invariant-loop-x
invariant-loop-x l =
    act_all (start_of l.start) (progress_of l.fn.self) (map action_of l.xs) ≡ act_all (start_of l.start) (progress_of l.self) (map action_of (drop l.x-index l.xs))
