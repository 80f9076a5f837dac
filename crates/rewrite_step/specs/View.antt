-- What the program's stops and the progress of a step stand for.
use Rattle.std.specs.Prelude.{map}
use Rattle.rewrite_model.specs.Making.{Stop, breaks, bound, Start, Progress}
use Rattle.row_matcher.specs.View.{thing_of}
use Rattle.rewrite_step.specs.declared.stop.Stop.{Stop as StopNode}
use Rattle.rewrite_step.specs.declared.stop.Stop.TheVariants as s
use Rattle.rewrite_step.specs.declared.progress.Start.{Start as StartNode}
use Rattle.rewrite_step.specs.declared.progress.Progress.{Progress as ProgressNode}

abbrev pub stop_of : StopNode → Stop
stop_of (s.Breaks b) = breaks b
stop_of (s.Bound k) = bound k

abbrev pub start_of : StartNode → Start
start_of s = record { rows = s.rows.now; given = map thing_of s.given.now; root = s.root }

abbrev pub progress_of : ProgressNode → Progress
progress_of p = record { now = p.current; made = map thing_of p.made; rows = p.rows; slots = p.slots }
