use Rattle.std.proofs.Common.{◌≡◌, ap, ◌∙◌, sym, subst, map, IfOk}
use Rattle.std.specs.Option.{option_and_then, option_copied}
use Rattle.pdll_types.specs.Sight.{variable_of}
use Rattle.pdll_types.proofs.Maps.{looked_kind, known_of, kind_joined}
use Rattle.pdll_types.proofs.sight.Sight.kind.Goals as goal

pub returns-in-None : goal.returns-in-None
returns-in-None c =
    let q = c.args.name.now in
    let es = c.self.inside.variables.entries in
    ap (λ o. option_and_then (λ k. k) (option_copied o)) (sym c.in-None.is)
    ∙ (ap (option_and_then (λ k. k)) (c.get.ensures.value ∙ looked_kind q es)
    ∙ (kind_joined (variable_of (map known_of es) q) ∙ ap (λ s. option_and_then (λ v. v.kind) (variable_of s q)) c.self.view_is))

pub returns-in-Some : goal.returns-in-Some
returns-in-Some c =
    let q = c.args.name.now in
    let es = c.self.inside.variables.entries in
    let e = ap (λ o. option_and_then (λ k. k) (option_copied o)) (sym c.in-Some.is)
    ∙ (ap (option_and_then (λ k. k)) (c.get.ensures.value ∙ looked_kind q es)
    ∙ (kind_joined (variable_of (map known_of es) q) ∙ ap (λ s. option_and_then (λ v. v.kind) (variable_of s q)) c.self.view_is)) in
    subst (λ t. IfOk c.copy_maybe_kind.result (λ k. k ≡ t)) e c.copy_maybe_kind.ensures
