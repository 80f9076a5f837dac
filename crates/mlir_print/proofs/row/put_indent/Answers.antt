use Rattle.std.proofs.Common.{◌≡◌, replicate, ap, ◌*◌, arith}
use Rattle.mlir_print.proofs.Printing.{prints_then, prints_as, prints_none}
use Rattle.mlir_print.proofs.Parts.{indent_more}
use Rattle.mlir_print.proofs.row.put_indent.Goals as goal

pub loop-left-preserved : goal.loop-left-preserved
loop-left-preserved g c = λ is s more.
    c.loop-left.invariant is s (prints_as _ is _ s _ _ (prints_then _ _ is _ _ s _ _ c.put.ensures more) (indent_more c.loop-left.left c.loop-left-test.true))

pub returns : goal.returns
returns g c =
    let now = g.S.Sink.state c.loop-left.sink in
    let none : 0 ≡ 2 * c.loop-left.left = omega (arith, c.loop-left-test.false) in
    c.loop-left.invariant c.loop-left.ok now (prints_as _ _ now now _ _ (prints_none c.loop-left.ok now) (ap (λ n. replicate n 32) none))
