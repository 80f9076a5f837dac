use Rattle.std.proofs.Common.{ap, ◌∙◌, not}
use Rattle.pdll_syntax.specs.declared.fault.PatKind.TheVariants.{BadRoot}
use Rattle.pdll_types.specs.Mentions.{body_stmts}
use Rattle.pdll_types.specs.Names.{where_so}
use Rattle.pdll_types.specs.Parts.{ends_in_root, end_of}
use Rattle.pdll_types.specs.Accepted.{faults}
use Rattle.pdll_types.specs.Walk.{all_noted}
use Rattle.pdll_types.proofs.Steps.{pattern_step}
use Rattle.pdll_types.proofs.headings.use_pattern.Goals as goal

pub returns : goal.returns
returns c =
    let p = c.args.pattern.now in
    let ends = c.ends_in_root-rootless.ensures ∙ ap ends_in_root c.body_stmts.ensures in
    let before = c.pattern_twice_noted-least.result in
    pattern_step c.args.table.now p c.args.walk.now c.noted_where-walk.result
    (c.noted_where-walk.ensures ∙ (ap (λ b. all_noted (faults BadRoot (where_so (not b) c.end_of.result)) before) ends
    ∙ (ap (λ e. all_noted (faults BadRoot (where_so (not (ends_in_root (body_stmts p.body))) e)) before) c.end_of.ensures
    ∙ ap (all_noted (faults BadRoot (where_so (not (ends_in_root (body_stmts p.body))) (end_of p)))) c.pattern_twice_noted-least.ensures)))
