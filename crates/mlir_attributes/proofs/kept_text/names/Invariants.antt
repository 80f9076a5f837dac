use Rattle.std.proofs.Common.{◌≡◌, ◌≤◌, ◌-◌, length, drop, [], false}
use Rattle.std.specs.Prelude.{reverse}
use Rattle.mlir_attributes.specs.KeptText.{names, in_front}
use Rattle.mlir_attributes.proofs.kept_text.names.Given as goal

abbrev pub invariant-loop-i : goal.invariant-loop-i
invariant-loop-i l =
    (names l.aliases l.room [] false 0 l.fn.put 0 l.body ≡ in_front l.text.items (names l.aliases l.room (reverse l.closers.items) l.dash 0 l.put l.i (drop l.i l.body))) × (l.i ≤ length l.body) × (l.put ≤ 67108864)

abbrev pub decreases-loop-i : goal.decreases-loop-i
decreases-loop-i l = length l.body - l.i
