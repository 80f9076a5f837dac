use Rattle.std.proofs.Common.{◌+◌, List, ℕ, map, drop, get_or, Bor, [], subst}
use Rattle.std.specs.List.{concat}
use Rattle.std.proofs.lemmas.List.{at_drop_more}
use Rattle.std.proofs.lemmas.Result.{err_from_is_err_and}
use Rattle.rw_outside.proofs.Putting.{PutSoFar, put_goes_on, puts_fails}
use Rattle.pdllrw_command.proofs.pieces.put_pieces.Goals as goal

abbrev pieces_text : List (Bor (List ℕ)) → List ℕ
pieces_text ps = concat (map (λ p. p.now) ps)

abbrev nothing : Bor (List ℕ)
nothing = record { ref_ptr = (0, 0); now = [] }

pub returns-in_err-put_all : goal.returns-in_err-put_all
returns-in_err-put_all g c =
    let p = err_from_is_err_and c.from_residual.result c.from_residual.ensures.1 in
    let pieces = c.args.pieces.now in
    let i = c.loop-piece.piece-index in
    let so_far = subst (PutSoFar (g.S.Sink.state c.args.sink.now) (g.S.Sink.state c.loop-piece.sink) (pieces_text pieces)) (at_drop_more pieces_text pieces i nothing c.loop-piece-test.true) c.loop-piece.invariant in
    puts_fails c.from_residual.result p.0 _ _ _ _ (pieces_text pieces) (get_or pieces i nothing).now (pieces_text (drop (i + 1) pieces)) p.1 so_far c.in_err-put_all.ensures

pub loop-piece-preserved : goal.loop-piece-preserved
loop-piece-preserved g c =
    let pieces = c.args.pieces.now in
    let i = c.loop-piece.piece-index in
    let so_far = subst (PutSoFar (g.S.Sink.state c.args.sink.now) (g.S.Sink.state c.loop-piece.sink) (pieces_text pieces)) (at_drop_more pieces_text pieces i nothing c.loop-piece-test.true) c.loop-piece.invariant in
    put_goes_on _ _ _ _ (pieces_text pieces) (get_or pieces i nothing).now (pieces_text (drop (i + 1) pieces)) so_far c.in_ok-put_all.ensures
