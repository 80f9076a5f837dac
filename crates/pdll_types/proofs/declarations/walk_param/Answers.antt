use Rattle.std.proofs.Common.{◌≡◌, ◌∷◌, ◌++◌, [], true, OnOk, ap, sym, ◌∙◌, subst}
use Rattle.pdll_syntax.specs.ExprTree.{refs, no_expr}
use Rattle.pdll_types.specs.declared.section.Holder.TheVariants.{Parameter}
use Rattle.pdll_types.specs.Mentions.{word, shown, of_all_refs}
use Rattle.pdll_types.specs.Walk.{walked, step}
use Rattle.pdll_types.proofs.Steps.{walked_both, shown_step}
use Rattle.pdll_types.proofs.Loops.{kind_without_value}
use Rattle.pdll_types.proofs.declarations.walk_param.Goals as goal

pub returns : goal.returns
returns c =
    let d = c.args.table.now in
    let p = c.args.section in
    let at = c.args.param.now.name.at in
    let n = c.as_slice-word.result.now in
    let w = c.args.walk.now in
    let all = c.as_slice-all.result.now in
    let refs_walked = of_all_refs d p Parameter (refs all) in
    let own = c.in_ok-kind.ensures.kind ∙ kind_without_value d c.walk_refs.new.walk.sight (refs all) in
    let e = shown_step d c.walk_refs.new.walk n (refs all) no_expr c.in_ok-kind.kind own
    ∙ (ap (step d (shown n (refs all) no_expr)) (c.in_ok-kind.ensures.walked ∙ ap (walked d refs_walked) (c.in_ok-note_word.ensures d))
    ∙ (sym (walked_both d refs_walked (shown n (refs all) no_expr ∷ []) (step d (word p true at n) w))
    ∙ (ap (λ m. walked d (word p true at m ∷ (of_all_refs d p Parameter (refs all) ++ shown m (refs all) no_expr ∷ [])) w) c.as_slice-word.ensures
    ∙ ap (λ rs. walked d (word p true at c.args.param.now.name.text ∷ (of_all_refs d p Parameter (refs rs) ++ shown c.args.param.now.name.text (refs rs) no_expr ∷ [])) w) c.as_slice-all.ensures))) in
    subst (λ v. OnOk c.show.result (c.show.new.walk ≡ v)) e c.show.ensures
