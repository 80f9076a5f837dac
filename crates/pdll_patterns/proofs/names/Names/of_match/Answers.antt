use Rattle.std.proofs.Common.{rules, ◌≡◌, Option, None, ap, ◌∙◌, option_map}
use Rattle.std.specs.HashMap.{get_by}
use Rattle.std.specs.Str.{bytes_eq}
use Rattle.pdll_patterns.specs.declared.names.MeantPart.{MeantPart}
use Rattle.pdll_patterns.specs.View.{meant_part_of}
use Rattle.pdll_patterns.specs.Scripts.{as_matched, first_of}
use Rattle.pdll_expand.specs.Scenes.{known}
use Rattle.pdll_patterns.proofs.Sight.{newest_matched}
use Rattle.pdll_patterns.proofs.names.Names.of_match.Goals as goal

pub returns : goal.returns
returns c = λ t i n.
    let none : get_by (λ k. bytes_eq n k.now) c.new.result ≡ None = search rules in
    ap (λ (o : Option MeantPart). first_of (option_map meant_part_of o) (option_map as_matched (known c.args.scene.now n))) none
    ∙ (ap (option_map as_matched) (i.names n) ∙ newest_matched t.names n)
