use Rattle.std.proofs.Common.{ap, ◌∙◌}
use Rattle.std.specs.Option.{is_some}
use Rattle.pdll_types.specs.Sight.{variable_of, is_in_sight}
use Rattle.pdll_types.proofs.Maps.{some_copied, some_mapped, looked_kind, known_of}
use Rattle.std.proofs.Common.{map}
use Rattle.pdll_types.proofs.sight.Sight.has.Goals as goal

pub returns : goal.returns
returns c =
    let q = c.args.name.now in
    let es = c.self.inside.variables.entries in
    c.is_some.ensures ∙ (some_copied c.get.result ∙ (ap is_some (c.get.ensures.value ∙ looked_kind q es)
    ∙ (some_mapped (λ v. v.kind) (variable_of (map known_of es) q) ∙ ap (λ s. is_in_sight s q) c.self.view_is)))
