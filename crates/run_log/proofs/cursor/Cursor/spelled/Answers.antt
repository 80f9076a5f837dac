use Rattle.std.proofs.Common.{◌≡◌, ◌++◌, ◌∙◌, ap, [], ◌∷◌, rules}
use Rattle.mlir_print.specs.Text.{byte_text}
use Rattle.run_log.specs.Cursor.{good}
use Rattle.run_log.proofs.cursor.Cursor.spelled.Goals as goal

pub returns-then-b-eq92-clause-complete : goal.returns-then-b-eq92-clause-complete
returns-then-b-eq92-clause-complete c = λ r h.
    let text : byte_text c.args.b ≡ 92 ∷ 92 ∷ [] = search rules in
    c.literal.ensures.complete r (h ∙ ap (λ t. good (t ++ r)) text)

pub returns-then-b-ne34-clause-complete : goal.returns-then-b-ne34-clause-complete
returns-then-b-ne34-clause-complete c = λ r h.
    let text : byte_text c.args.b ≡ c.args.b ∷ [] = search rules in
    c.literal-then-b-ne34.ensures.complete r (h ∙ ap (λ t. good (t ++ r)) text)

pub returns-else-b-ge32-clause-complete : goal.returns-else-b-ge32-clause-complete
returns-else-b-ge32-clause-complete c = λ r h.
    let text : byte_text c.args.b ≡ 92 ∷ c.hex_digit.result ∷ c.hex_digit-else-b-ge32.result ∷ [] = search rules in
    c.literal-else-b-ge32.ensures.complete r (h ∙ ap (λ t. good (t ++ r)) text)
