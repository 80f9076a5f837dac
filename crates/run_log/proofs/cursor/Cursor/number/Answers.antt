use Rattle.std.proofs.Common.{◌≡◌, ◌∙◌, ◌++◌, ap, arith, take, drop}
use Rattle.std.specs.Prelude.{decimal}
use Rattle.std.specs.List.{prefix_len}
use Rattle.std.specs.Str.Parse.{digits_value}
use Rattle.text_scan.specs.Bytes.{is_digit}
use Rattle.run_log.proofs.Pieces.{number_front}
use Rattle.run_log.proofs.cursor.Cursor.number.Goals as goal

pub returns-clause-complete : goal.returns-clause-complete
returns-clause-complete c = λ n r small ends h.
    let text : c.self.inside.rest.now ≡ decimal n ++ r = ap (λ a. a.rest) (c.self.view_is ∙ h) in
    let front = number_front n r (omega (arith, small)) ends in
    let len : c.run_len-len.result ≡ prefix_len is_digit (decimal n ++ r) = c.run_len-len.ensures.value ∙ ap (λ t. prefix_len is_digit (drop 0 t)) text in
    let value : digits_value 10 (take c.run_len-len.result c.self.inside.rest.now) ≡ n = rw (len, text) front.value in
    let is = c.value_of-number.ensures (omega (arith, value, small)) ∙ value in
    (is, c.count.ensures.complete r (rw is h))
