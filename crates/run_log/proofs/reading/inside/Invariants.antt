use Rattle.run_log.specs.Cursor.{Takes, size}
use Rattle.run_log.specs.Written.{AreBytes}
use Rattle.run_log.proofs.Strings.{inside_text, LeftBytes}
use Rattle.run_log.proofs.reading.inside.Given as goal

abbrev pub invariant-loop-cursor : goal.invariant-loop-cursor
invariant-loop-cursor l = record {
  all : AreBytes l.bytes;
  took : Takes l.fn.cursor l.cursor (inside_text l.bytes);
  left : LeftBytes l.fn.cursor l.cursor l.bytes;
}

abbrev pub decreases-loop-cursor : goal.decreases-loop-cursor
decreases-loop-cursor l = size l.cursor
