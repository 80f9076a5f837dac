use Rattle.std.proofs.Common.{[], sym, ap, ◌∙◌, subst}
use Rattle.rewrite_model.specs.Pattern.{the, matched}
use Rattle.rewrite_model.specs.MatchPart.{empty}
use Rattle.rewrite_model.specs.Expanding.{constraints, rewrites, benefit_of, body_statements, read_match, last_rewrites, script_of, expanded}
use Rattle.pdll_patterns.specs.InSight.{behind, Means}
use Rattle.pdll_patterns.proofs.Declaring.{front_whole}
use Rattle.pdll_patterns.proofs.pattern.expand.Goals as goal

pub returns : goal.returns
unfolding expanded
returns c = λ ds h.
    let w = rewrites ds in
    let p = c.args.pattern.now in
    let ss = body_statements p.body in
    let read = read_match (constraints ds) ss empty in
    let is = c.in_ok-found.ensures.exact ds h.constraints_are in
    let whole = ap (λ cs. rewrites (behind [] cs)) (front_whole h.calls) ∙ sym h.rewrites_are in
    let means = subst (Means c.new-rewrites.result) whole (c.new-rewrites.ensures h.calls h.table) in
    let done = c.in_ok-actions.ensures w means read.1 is.1
    ∙ (ap (λ n. (last_rewrites w (matched (the n)) c.body_stmts.result.now (script_of read.1)).1.actions) is.0
    ∙ ap (λ rs. (last_rewrites w (matched (the read.0)) rs (script_of read.1)).1.actions) c.body_stmts.ensures) in
    let benefit = c.benefit_of.ensures ∙ ap benefit_of c.as_slice.ensures in
    λ i. record {
      name = c.pattern_name.ensures i;
      benefit = benefit i;
      kinds = is.1.kinds i;
      places = is.1.places i;
      demands = is.1.demands i;
      root = is.0 i;
      actions = done i;
    }
