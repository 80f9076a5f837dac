use Rattle.std.proofs.Common.{◌≡◌, suc, ◌-◌, length, get_or, ap, sym, ◌∙◌, subst, arith}
use Rattle.pdll_syntax.specs.StmtView.{stmt_form}
use Rattle.pdll_patterns.specs.View.{part_of}
use Rattle.pdll_patterns.specs.Scripts.{Does}
use Rattle.pdll_patterns.proofs.Declaring.{last_is}
use Rattle.pdll_patterns.proofs.Steps.{both}
use Rattle.pdll_patterns.proofs.pattern.rewrite_by_last.Goals as goal

pub returns-in-len1-up : goal.returns-in-len1-up
returns-in-len1-up c = λ w h.
    let ss = c.args.all.now in
    let n = length ss - 1 in
    let at = c.last.inside.at in
    let form = stmt_form c.last.inside.form in
    let root = part_of c.args.root in
    let old = both c.args.names.now c.args.script.now in
    let new = both c.rewrite_by_form.new.names c.rewrite_by_form.new.script in
    let long : suc n ≡ length ss = omega arith in
    let is = c.last.view_is ∙ (c.last-item.is ∙ ap (get_or ss n) (sym c.last.view_is)) in
    subst (λ p. Does (λ u. u) p old c.rewrite_by_form.result new) (last_is w root ss n at form long is) (c.rewrite_by_form.ensures w h)
