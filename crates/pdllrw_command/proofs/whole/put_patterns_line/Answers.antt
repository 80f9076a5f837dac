use Rattle.pdllrw_command.proofs.Lines.{puts_placed}
use Rattle.pdllrw_command.proofs.whole.put_patterns_line.Goals as goal

pub returns-in_default : goal.returns-in_default
returns-in_default g c =
    puts_placed (g.G.Sink.state c.args.log.now) (g.G.Sink.state c.put_placed.new.log) c.put_placed.result c.args.place c.args.kind c.code_text.result.now
    c.in_default.not-TooLong c.code_text.ensures c.put_placed.ensures
