use Rattle.std.proofs.Common.{◌≡◌, ◌<◌, ◌≤◌, Some, [], IfSome, take, length, ap, sym, ◌∙◌, subst, arith}
use Rattle.std.specs.Option.{option_map_or}
use Rattle.pdll_expand.specs.Called.{last_named}
use Rattle.pdll_expand.proofs.Calling.{get_front, front_length, front_front, last_below, last_in_front, none_in_front, named_there}
use Rattle.pdll_expand.proofs.declared.Declared.find.Goals as goal

pub returns-then-at-count-clause-found : goal.returns-then-at-count-clause-found
returns-then-at-count-clause-found c = λ calls h.
    let n = c.args.name.now in
    let i = c.loop-found.invariant calls h in
    last_in_front n (take i.0 calls) c.in-Some.at c.args.count (sym c.in-Some.is ∙ i.2) c.if-at-count.true ∙ sym i.3

pub loop-found-preserved : goal.loop-found-preserved
loop-found-preserved c = λ calls h.
    let n = c.args.name.now in
    let at = c.in-Some.at in
    let i = c.loop-found.invariant calls h in
    let m = i.0 in
    let some : Some at ≡ last_named n (take m calls) = sym c.in-Some.is ∙ i.2 in
    let below : at < length (take m calls) = subst (λ o. IfSome o (λ k. k < length (take m calls))) (sym some) (last_below n (take m calls)) in
    let within : at < m = omega (arith, below, front_length calls m) in
    let bound = i.1 in
    let inside : at < length calls = omega arith in
    let named = sym (ap (λ o. option_map_or (λ c. c.name.text) o []) (get_front calls at m within)) ∙ named_there n (take m calls) at some in
    let older = c.older-found.ensures.found calls h inside in
    let some_before : at ≤ length calls = omega arith in
    (at, some_before, older ∙ ap (λ k. last_named k (take at calls)) named, ap (last_named n) (sym (front_front calls at c.args.count c.if-at-count.false)))

pub returns-clause-found : goal.returns-clause-found
returns-clause-found c = λ calls h.
    let n = c.args.name.now in
    let i = c.loop-found.invariant calls h in
    none_in_front n (take i.0 calls) c.args.count (sym c.in_default.is ∙ i.2) ∙ sym i.3
