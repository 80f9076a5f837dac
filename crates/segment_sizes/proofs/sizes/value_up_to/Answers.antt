use Rattle.std.proofs.Common.{◌≡◌, ◌+◌, ◌*◌, ap, sym, ◌∙◌, take, arith}
use Rattle.std.specs.Str.Parse.{digits_value}
use Rattle.std.proofs.lemmas.Str.Parse.{digits_value-take-le}
use Rattle.segment_sizes.specs.Reading.{up_to}
use Rattle.segment_sizes.proofs.Reading.{next_digit, too_great, not_too_great}
use Rattle.segment_sizes.proofs.sizes.value_up_to.Goals as goal

pub returns-in_err-value : goal.returns-in_err-value
returns-in_err-value c =
    let d = next_digit c.args.digits.now c.loop-b.b-index c.loop-b-test.true c.requires in
    let s : c.loop-b.value * 10 + c.from.result ≡ digits_value 10 (take (c.loop-b.b-index + 1) c.args.digits.now) = omega (arith, c.loop-b.invariant.value, c.from.ensures, d.0) in
    let m = digits_value-take-le 10 c.args.digits.now (c.loop-b.b-index + 1) (omega arith) in
    c.from_residual.ensures ∙ too_great c.args.most _ _ (sym c.in_err-value.was ∙ (c.with_digit.ensures ∙ ap (up_to c.args.most) s)) m

pub loop-b-preserved : goal.loop-b-preserved
loop-b-preserved c =
    let d = next_digit c.args.digits.now c.loop-b.b-index c.loop-b-test.true c.requires in
    let s : c.loop-b.value * 10 + c.from.result ≡ digits_value 10 (take (c.loop-b.b-index + 1) c.args.digits.now) = omega (arith, c.loop-b.invariant.value, c.from.ensures, d.0) in
    let g = not_too_great c.args.most (c.loop-b.value * 10 + c.from.result) c.in_ok-value.value (sym c.in_ok-value.was ∙ c.with_digit.ensures) in
    record { value = g.0 ∙ s; within = omega (arith, g.0, g.1) }
