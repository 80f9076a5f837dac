use Rattle.std.proofs.Common.{arith, sym, ap}
use Rattle.std.proofs.lemmas.List.{at_drop_all}
use Rattle.mlir_print.specs.Text.{name_text, more_symbols_text}
use Rattle.mlir_print.proofs.Printing.{prints_then, prints_as, prints_none}
use Rattle.mlir_print.proofs.Lists.{symbols_more}
use Rattle.mlir_print.proofs.attr.put_more_symbols.Goals as goal

pub loop-name-preserved : goal.loop-name-preserved
loop-name-preserved g c = λ is s more.
    let named = prints_as _ _ _ _ _ _ c.put_name.ensures (ap name_text c.as_slice.ensures) in
    c.loop-name.invariant is s (prints_as _ is _ s _ _
    (prints_then _ _ is _ _ s _ _ c.put.ensures (prints_then _ _ is _ _ s _ _ named more))
    (symbols_more c.args.names.now c.loop-name.name-index c.name-item.result (omega arith) c.name-item.is))

pub returns : goal.returns
returns g c =
    let now = g.S.Sink.state c.loop-name.sink in
    c.loop-name.invariant c.loop-name.ok now
    (prints_as _ _ now now _ _ (prints_none c.loop-name.ok now) (sym (at_drop_all more_symbols_text c.args.names.now c.loop-name.name-index (omega arith))))
