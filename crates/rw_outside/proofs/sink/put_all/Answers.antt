use Rattle.std.proofs.Common.{refl, arith}
use Rattle.std.proofs.lemmas.Result.{err_from_is_err_and}
use Rattle.rw_outside.proofs.Put.{put_stops, put_goes_on_by, inside_more, nothing_taken, some_left}
use Rattle.rw_outside.proofs.sink.put_all.Goals as goal

pub returns-in_err-count : goal.returns-in_err-count
returns-in_err-count g c =
    let p = err_from_is_err_and c.from_residual.result c.from_residual.ensures.1 in
    let put = c.put.ensures in
    put_stops c.from_residual.result p.0 _ _ _ c.loop-done.done c.args.piece.now p.1 c.loop-done.invariant.puts c.in_err-count.ensures.kept c.in_err-count.ensures.failed put.never_falls put.arrives put.same_way

pub returns-then-count-eq0 : goal.returns-then-count-eq0
returns-then-count-eq0 g c =
    let put = c.put.ensures in
    let left = c.in_ok-count.ensures in
    put_stops _ _ _ _ _ c.loop-done.done c.args.piece.now refl c.loop-done.invariant.puts (nothing_taken _ _ _ _ c.if-count-eq0.true left.taken)
    (left.refused c.if-count-eq0.true (some_left c.loop-done.done c.args.piece.now c.loop-done-test.true)) put.never_falls put.arrives put.same_way

pub loop-done-preserved : goal.loop-done-preserved
loop-done-preserved g c =
    let put = c.put.ensures in
    record {
      inside = inside_more c.loop-done.done c.in_ok-count.count c.args.piece.now c.loop-done.invariant.inside c.in_ok-count.ensures.within;
      puts = put_goes_on_by _ _ _ c.loop-done.done c.in_ok-count.count c.args.piece.now c.loop-done.invariant.puts c.in_ok-count.ensures.taken put.never_falls put.arrives put.same_way;
    }
