use Rattle.std.proofs.Common.{◌≡◌, arith, ap, ◌∙◌, take, take_all}
use Rattle.std.specs.Str.Parse.{digits_value}
use Rattle.run_log.proofs.Pieces.{one_more_digit}
use Rattle.run_log.proofs.cursor.value_of.Goals as goal

pub loop-b-preserved : goal.loop-b-preserved
loop-b-preserved c = λ small.
    let next = one_more_digit c.args.digits.now c.loop-b.b-index 0 c.loop-b-test.true in
    let was = c.loop-b.invariant (omega (arith, next)) in
    omega (arith, was, small, next, c.from.ensures, c.digit_value.ensures.value)

pub returns : goal.returns
returns c = λ small.
    let all : take c.loop-b.b-index c.args.digits.now ≡ c.args.digits.now = take_all _ _ c.loop-b-test.false in
    let same = ap (digits_value 10) all in
    c.loop-b.invariant (omega (arith, same)) ∙ same
