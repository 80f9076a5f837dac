use Rattle.std.proofs.Common.{ap, ◌∙◌, sym}
use Rattle.pdll_syntax.specs.declared.fault.PatKind.TheVariants.{WrongPart}
use Rattle.pdll_types.specs.Signatures.{ref_place}
use Rattle.pdll_types.specs.Accepted.{faults}
use Rattle.pdll_types.specs.Walk.{noted, all_noted}
use Rattle.pdll_types.proofs.FirstRef.{first_not_plain}
use Rattle.pdll_types.proofs.marks.not_plain_noted.Goals as goal

pub returns-in-len1-up : goal.returns-in-len1-up
returns-in-len1-up c =
    c.noted_where-in-len1-up.ensures
    ∙ (ap (λ r. noted (record { kind = WrongPart; at = ref_place r }) c.args.least) c.first.view_is
    ∙ ap (λ ps. all_noted (faults WrongPart ps) c.args.least) (sym (first_not_plain c.args.all.now c.first-item.result c.in-len1-up.len_at_least c.first-item.is)))
