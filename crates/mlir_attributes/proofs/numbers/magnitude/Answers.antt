use Rattle.std.proofs.Common.{◌≡◌, arith, sym, ap, ◌∙◌, take, take_all}
use Rattle.std.specs.Str.Parse.{digits_value}
use Rattle.mlir_attributes.specs.Numbers.{if_short}
use Rattle.mlir_attributes.proofs.Digits.{one_more_digit, at_least, short_some, short_none, short, long}
use Rattle.mlir_attributes.proofs.numbers.magnitude.Goals as goal

pub returns-in-None : goal.returns-in-None
returns-in-None c =
    let most = short_none _ (sym c.with_digit.ensures ∙ c.in-None.is) in
    sym (long _ (at_least c.args.radix c.args.digits.now c.loop-b.b-index 0 _ c.requires c.loop-b-test.true (rw (sym c.loop-b.invariant.0) most)))

pub loop-b-preserved : goal.loop-b-preserved
loop-b-preserved c =
    let more = short_some _ _ (sym c.with_digit.ensures ∙ c.in-Some.is) in
    let next = one_more_digit c.args.radix c.args.digits.now c.loop-b.b-index 0 c.loop-b-test.true in
    (rw (next, sym c.loop-b.invariant.0) more.0, omega (arith, more.0, more.1))

pub returns : goal.returns
returns c =
    let all : take c.loop-b.b-index c.args.digits.now ≡ c.args.digits.now = take_all _ _ c.loop-b-test.false in
    let is = c.loop-b.invariant.0 ∙ ap (digits_value c.args.radix) all in
    sym (short c.loop-b.value c.loop-b.invariant.1) ∙ ap if_short is
