use Rattle.std.proofs.Common.{ap}
use Rattle.mlir_print.specs.ModuleText.{argument_text}
use Rattle.mlir_print.proofs.Printing.{prints_then, prints_as, prints_none}
use Rattle.mlir_print.proofs.Parts.{arguments_more, arguments_end}
use Rattle.mlir_print.proofs.module.put_arguments.Goals as goal

pub loop-i-preserved : goal.loop-i-preserved
loop-i-preserved g c = λ is s more.
    let ty = c.index-arguments-i.result in
    let named = prints_as _ _ _ _ _ _ c.put_argument.ensures (ap (λ n. argument_text n ty) c.argument_number.ensures) in
    c.loop-i.invariant is s (prints_as _ is _ s _ _
    (prints_then _ _ is _ _ s _ _ c.put_separator.ensures (prints_then _ _ is _ _ s _ _ named more))
    (arguments_more c.args.rows.now c.args.id c.args.region c.args.arguments.now c.loop-i.i ty c.loop-i-test.true c.index-arguments-i.is))

pub returns : goal.returns
returns g c =
    let now = g.S.Sink.state c.loop-i.sink in
    c.loop-i.invariant c.loop-i.ok now (prints_as _ _ now now _ _ (prints_none c.loop-i.ok now) (arguments_end c.args.rows.now c.args.id c.args.region c.args.arguments.now c.loop-i.i c.loop-i-test.false))
