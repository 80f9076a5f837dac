use Rattle.pdll_lexer.proofs.Told.{tokens_are_told}
use Rattle.pdll_lexer.proofs.laws.tokens_are_told.Goals as goal

pub returns : goal.returns
returns c = tokens_are_told
