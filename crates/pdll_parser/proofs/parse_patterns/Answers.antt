use Rattle.pdll_parser.proofs.SoundFiles.{file_found}
use Rattle.pdll_parser.proofs.CompleteFiles.{file_only, not_spelled}
use Rattle.pdll_parser.proofs.FaultRules.{file_fault}
use Rattle.pdll_parser.proofs.parse_patterns.Goals as goal

pub returns-clause-found : goal.returns-clause-found
returns-clause-found c = file_found c.args.bytes.now c.whole.result c.whole.ensures

pub returns-clause-only : goal.returns-clause-only
returns-clause-only c = λ file h. file_only c.args.bytes.now c.whole.result file c.whole.ensures h

pub returns-clause-not_spelled : goal.returns-clause-not_spelled
returns-clause-not_spelled c = λ f is file h. not_spelled c.args.bytes.now c.whole.result f c.whole.ensures is file h

pub returns-clause-kinds : goal.returns-clause-kinds
returns-clause-kinds c = λ f is. let fault = file_fault c.args.bytes.now c.whole.result f c.whole.ensures is in fault.kind

pub returns-clause-within : goal.returns-clause-within
returns-clause-within c = λ f is. let fault = file_fault c.args.bytes.now c.whole.result f c.whole.ensures is in fault.within
