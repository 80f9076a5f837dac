use Rattle.pdll_parser.proofs.CompleteFiles.{spelled_once}
use Rattle.pdll_parser.proofs.laws.spelled_once.Goals as goal

pub returns : goal.returns
returns c = spelled_once
