use Rattle.std.proofs.Common.{◌≡◌, ◌<◌, ◌≤◌, ◌-◌, length, drop}
use Rattle.mlir_lexer.specs.Body.{end_of_body, body, stack_of}
use Rattle.mlir_lexer.proofs.body.body_end.Given as goal

abbrev pub invariant-loop-i : goal.invariant-loop-i
invariant-loop-i l = record {
  end : end_of_body l.bytes l.at l.depth ≡ body l.room (stack_of l.closers l.count) l.dash 0 l.i (drop l.i l.bytes);
  some : 1 ≤ l.count;
  few : l.count ≤ l.room;
  size : length l.closers ≡ 256;
  after : l.at < l.i;
  within : l.i ≤ length l.bytes;
}

abbrev pub decreases-loop-i : goal.decreases-loop-i
decreases-loop-i l = length l.bytes - l.i
