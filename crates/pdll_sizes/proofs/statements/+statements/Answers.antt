use Rattle.std.proofs.Common.{arith}
use Rattle.pdll_syntax.specs.StmtSize.{stmt_item}
use Rattle.rewrite_model.specs.Size as spec
use Rattle.pdll_sizes.proofs.Sums.{total_more, total_all}
use Rattle.pdll_sizes.proofs.Totals.{stmts_total}
use Rattle.pdll_sizes.proofs.statements.+statements.Goals as goal

pub stmts_size-stmt_size-requires : goal.stmts_size-stmt_size-requires
stmts_size-stmt_size-requires t c =
    (omega (arith, c.decreases, stmt_item c.args.all.now c.loop-one.one-index c.one-item.result (omega arith) c.one-item.is), tt)

pub stmts_size-loop-one-preserved : goal.stmts_size-loop-one-preserved
stmts_size-loop-one-preserved t c =
    total_more (spec.stmt_size (spec.sizes c.args.earlier.now)) c.args.all.now c.loop-one.one-index c.one-item.result _ _ _ (omega arith) c.one-item.is c.loop-one.invariant c.stmt_size.ensures c.and-size.ensures

pub stmts_size-returns : goal.stmts_size-returns
stmts_size-returns t c =
    let d = spec.sizes c.args.earlier.now in
    let all = c.args.all.now in
    total_all (spec.stmt_size d) all c.loop-one.one-index c.loop-one.size _ c.loop-one-test.false c.loop-one.auto.one-index-end c.loop-one.invariant (stmts_total d all)
