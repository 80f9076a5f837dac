use Rattle.std.proofs.Common.{sym, ap, ◌∙◌, option_map, option_copied}
use Rattle.std.specs.Option.{unwrap_or}
use Rattle.rewrite_model.specs.RewritePart.{no_part}
use Rattle.pdll_patterns.specs.View.{meant_part_of}
use Rattle.pdll_patterns.specs.Scripts.{matched_known, first_of}
use Rattle.pdll_patterns.proofs.Sight.{meaning_is}
use Rattle.pdll_patterns.proofs.names.Names.look_up.Goals as goal

pub returns-in-Some : goal.returns-in-Some
returns-in-Some c = λ names h.
    let n = c.args.name.now in
    let more = matched_known c.args.self.now.matched n in
    ap (λ o. unwrap_or (first_of (option_map meant_part_of (option_copied o)) more) no_part) (sym c.in-Some.is)
    ∙ (ap (λ o. unwrap_or (first_of (option_map meant_part_of o) more) no_part) c.get.ensures.value
    ∙ (ap (λ o. unwrap_or o no_part) (h n) ∙ meaning_is names n no_part))
