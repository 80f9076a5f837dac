use Rattle.std.proofs.Common.{map, drop}
use Rattle.std.specs.List.{concat}
use Rattle.rw_outside.proofs.Putting.{PutSoFar}
use Rattle.pdllrw_command.proofs.pieces.put_pieces.Given as goal

abbrev pub invariant-loop-piece : goal.invariant-loop-piece
invariant-loop-piece g l = PutSoFar (g.S.Sink.state l.fn.sink) (g.S.Sink.state l.sink) (concat (map (λ p. p.now) l.pieces)) (concat (map (λ p. p.now) (drop l.piece-index l.pieces)))
