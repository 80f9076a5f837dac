use Rattle.std.proofs.Common.{ap, ◌∙◌, map, not}
use Rattle.pdll_types.specs.Sight.{is_word, with_word}
use Rattle.pdll_types.proofs.Maps.{any_word, word_put, word_of, not_not}
use Rattle.pdll_types.proofs.sight.Words.put.Goals as goal

pub returns-clause-was : goal.returns-clause-was
returns-clause-was c =
    let q = c.args.word in
    let ws = c.self.inside.words.keys in
    ap not c.in_ok-is_new.ensures.added ∙ (not_not _ ∙ (any_word q ws ∙ ap (λ s. is_word s q.now) c.self.view_is))

pub returns-clause-put : goal.returns-clause-put
returns-clause-put c =
    let q = c.args.word in
    let ws = c.self.inside.words.keys in
    ap (map word_of) c.in_ok-is_new.ensures.keys ∙ (word_put q ws ∙ ap (λ s. with_word s q.now) c.self.view_is)
