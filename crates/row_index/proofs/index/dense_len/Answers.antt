use Rattle.std.proofs.Common.{◌≡◌, ◌<◌, ◌≤◌, length, take, subst, arith}
use Rattle.std.specs.Prelude.{All}
use Rattle.std.proofs.lemmas.List.{take_all}
use Rattle.row_index.proofs.Indexing.{below_more}
use Rattle.row_index.proofs.index.dense_len.Goals.{then-id-len, else-id-len}
use Rattle.row_index.proofs.index.dense_len.Goals as goal

pub loop-i-preserved : goal.loop-i-preserved
loop-i-preserved c = elim c.if-id-len.branch [
  | then-id-len w ↦ rw w.len-is (below_more c.args.rows.now c.loop-i.i c.loop-i.len _ c.index-rows-i.result c.loop-i-test.true (omega (arith)) (omega (arith)) c.loop-i.invariant)
  | else-id-len w ↦ rw w.len-is (below_more c.args.rows.now c.loop-i.i c.loop-i.len _ c.index-rows-i.result c.loop-i-test.true (omega (arith)) (omega (arith)) c.loop-i.invariant)
]

pub returns-then-len-rows : goal.returns-then-len-rows
returns-then-len-rows c =
    subst (All (λ r. r.id < c.loop-i.len)) (take_all c.loop-i.i c.args.rows.now (omega (arith, c.loop-i-test.false))) c.loop-i.invariant
