use Rattle.std.proofs.Common.{◌≡◌, length, take}
use Rattle.rewrite_step.proofs.refresh.keep_front.Given as goal

abbrev pub invariant-loop-copy : goal.invariant-loop-copy
invariant-loop-copy l = take l.count l.copy ≡ take l.count l.initial.copy

abbrev pub decreases-loop-copy : goal.decreases-loop-copy
decreases-loop-copy l = length l.copy
