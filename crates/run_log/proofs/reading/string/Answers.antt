use Rattle.std.proofs.Common.{◌∙◌, ◌++◌, codes, ap, subst, sym}
use Rattle.mlir_print.specs.Text.{string_text}
use Rattle.run_log.specs.Cursor.{Takes, good}
use Rattle.run_log.proofs.Pieces.{takes_then, joins}
use Rattle.run_log.proofs.Strings.{inside_text}
use Rattle.run_log.proofs.reading.string.Goals as goal

pub returns-clause-sound : goal.returns-clause-sound
unfolding string_text
returns-clause-sound c =
    subst (λ t. Takes c.args.cursor.now c.literal-2.new.self (string_text t)) (sym c.in_ok-text.ensures)
    (takes_then c.args.cursor.now c.literal.new.self c.literal-2.new.self (codes "\"") (inside_text c.in_ok-bytes.bytes ++ codes "\"") c.literal.ensures.sound
    (takes_then c.literal.new.self c.inside.new.cursor c.literal-2.new.self (inside_text c.in_ok-bytes.bytes) (codes "\"") (c.in_ok-bytes.ensures {u = tt}).sound c.literal-2.ensures.sound))

pub returns-clause-complete : goal.returns-clause-complete
unfolding string_text
returns-clause-complete c = λ bytes r words h.
    let first = c.literal.ensures.complete ((inside_text bytes ++ codes "\"") ++ r) h in
    let (same, behind) = (c.in_ok-bytes.ensures {u = tt}).complete bytes r words (first ∙ ap good (joins (inside_text bytes) (codes "\"") r)) in
    (c.in_ok-text.ensures ∙ same, c.literal-2.ensures.complete r behind)
