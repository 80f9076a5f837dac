use Rattle.std.proofs.Common.{◌≤◌, [], option_copied, take, sym, ap, ◌∙◌, arith}
use Rattle.rewrite_model.specs.Expanding.{constrains}
use Rattle.pdll_expand.specs.Behind.{behind}
use Rattle.pdll_expand.specs.Table.{calls_of}
use Rattle.pdll_expand.proofs.Behind.{not_found, found, no_gap}
use Rattle.pdll_expand.proofs.Calling.{get_front, front_front}
use Rattle.pdll_expand.proofs.constraints.Constraints.find.Goals as goal

pub returns-in-None-clause-means : goal.returns-in-None-clause-means
returns-in-None-clause-means c =
    not_found c.args.name.now (take c.args.count (calls_of c.args.self.now)) [] (sym c.in-None.is ∙ c.place.ensures.found)

pub returns-in-None-get-clause-means : goal.returns-in-None-get-clause-means
returns-in-None-get-clause-means c =
    absurd (no_gap c.args.name.now (calls_of c.args.self.now) c.args.count c.in-Some.at (sym c.in-Some.is ∙ c.place.ensures.found) (sym (ap option_copied c.in-None-get.is) ∙ c.get.ensures.here))

pub returns-in-Some-get-clause-means : goal.returns-in-Some-get-clause-means
returns-in-Some-get-clause-means c =
    let cs = calls_of c.args.self.now in
    let at = c.in-Some.at in
    let count = c.args.count in
    let d = c.in-Some-get.call.now in
    let within = c.in-Some.ensures.within in
    let before : at ≤ count = omega (arith, within) in
    found c.args.name.now (take count cs) [] at d (sym c.in-Some.is ∙ c.place.ensures.found)
    (sym (ap option_copied c.in-Some-get.is) ∙ (c.get.ensures.here ∙ sym (get_front cs at count within)))
    ∙ ap (λ bs. constrains (behind bs) d) (front_front cs count at before)
