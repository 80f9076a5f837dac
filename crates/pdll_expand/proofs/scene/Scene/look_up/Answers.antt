use Rattle.std.proofs.Common.{sym, ap, ◌∙◌, option_map, option_copied}
use Rattle.std.specs.Option.{unwrap_or}
use Rattle.native_set.specs.declared.native.Kind.TheVariants as kind
use Rattle.rewrite_model.specs.Pattern.{the}
use Rattle.rewrite_model.specs.MatchPart.{meant}
use Rattle.pdll_expand.specs.View.{meant_of}
use Rattle.pdll_expand.proofs.Names.{meaning_is}
use Rattle.pdll_expand.proofs.scene.Scene.look_up.Goals as goal

pub returns-in-Some : goal.returns-in-Some
returns-in-Some c = λ t i.
    let n = c.args.name.now in
    let none = meant kind.Value (the 0) in
    ap (λ o. unwrap_or (option_map meant_of (option_copied o)) none) (sym c.in-Some.is)
    ∙ (ap (λ o. unwrap_or (option_map meant_of o) none) c.get.ensures.value
    ∙ (ap (λ o. unwrap_or o none) (i.names n) ∙ meaning_is t.names n none))

pub returns-in-None : goal.returns-in-None
returns-in-None c = λ t i.
    let n = c.args.name.now in
    let none = meant kind.Value (the 0) in
    ap (λ o. unwrap_or (option_map meant_of (option_copied o)) none) (sym c.in-None.is)
    ∙ (ap (λ o. unwrap_or (option_map meant_of o) none) c.get.ensures.value
    ∙ (ap (λ o. unwrap_or o none) (i.names n) ∙ meaning_is t.names n none))
