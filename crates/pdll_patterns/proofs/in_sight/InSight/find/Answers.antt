use Rattle.std.proofs.Common.{◌≡◌, ◌≤◌, [], Some, None, take, slice_get, option_copied, refl, sym, ap, ◌∙◌, arith}
use Rattle.rewrite_model.specs.Expanding.{rewrites, call_rewrite}
use Rattle.pdll_expand.specs.Called.{calls_in, last_named}
use Rattle.pdll_patterns.specs.InSight.{behind, by_first}
use Rattle.pdll_patterns.proofs.Calling.{get_front, front_front, last_there, weight_before, called_none, called_last}
use Rattle.pdll_patterns.proofs.in_sight.InSight.find.Goals as goal

pub returns-in-None-clause-found : goal.returns-in-None-clause-found
returns-in-None-clause-found c = λ rewrite m xs.
    let n = c.args.name.now in
    let none : None ≡ last_named n (take c.args.self.now.count m.calls) = sym c.in-None.is ∙ c.find.ensures.found m.calls m.table in
    ap (λ r. r n xs) m.is ∙ called_none n xs [] (take c.args.self.now.count m.calls) none

pub returns-in-None-get-clause-found : goal.returns-in-None-get-clause-found
returns-in-None-get-clause-found c = λ rewrite m xs.
    let n = c.args.name.now in
    let at = c.in-Some.at in
    let count = c.args.self.now.count in
    let last : Some at ≡ last_named n (take count m.calls) = sym c.in-Some.is ∙ c.find.ensures.found m.calls m.table in
    let none : None ≡ slice_get m.calls at = sym (ap option_copied c.in-None-get.is) ∙ c.get.ensures.found m.calls m.table in
    absurd (last_there n (take count m.calls) at last (none ∙ sym (get_front m.calls at count c.in-Some.ensures.within)))

pub returns-in-Some-get-clause-found : goal.returns-in-Some-get-clause-found
returns-in-Some-get-clause-found c = λ rewrite m.
    let n = c.args.name.now in
    let at = c.in-Some.at in
    let count = c.args.self.now.count in
    let call = c.in-Some-get.call.now in
    let within = c.in-Some.ensures.within in
    let le : at ≤ count = omega (arith, within) in
    let last : Some at ≡ last_named n (take count m.calls) = sym c.in-Some.is ∙ c.find.ensures.found m.calls m.table in
    let some : Some call ≡ slice_get m.calls at = sym (ap option_copied c.in-Some-get.is) ∙ c.get.ensures.found m.calls m.table in (
      by_first m.calls at,
      (
        record { calls = m.calls; table = m.table; is = refl },
        λ xs. ap (λ r. r n xs) m.is
            ∙ (called_last n xs [] (take count m.calls) at call last (some ∙ sym (get_front m.calls at count within))
            ∙ ap (λ cs. call_rewrite (rewrites (behind [] cs)) call call.body xs) (front_front m.calls count at le)),
      ),
    )

pub returns-in-Some-get-clause-less : goal.returns-in-Some-get-clause-less
returns-in-Some-get-clause-less c =
    let at = c.in-Some.at in
    let call = c.in-Some-get.call.now in
    let cs = calls_in c.args.self.now.declared.now in
    let some : Some call ≡ slice_get cs at = sym (ap option_copied c.in-Some-get.is) ∙ c.get.ensures.here in
    weight_before cs at c.args.self.now.count call c.in-Some.ensures.within some
