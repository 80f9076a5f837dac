use Rattle.std.proofs.Common.{◌≡◌, ◌∷◌, ◌++◌, [], ap, ◌∙◌, subst}
use Rattle.rewrite_model.specs.MatchPart.{empty}
use Rattle.rewrite_model.specs.Expanding.{body_statements, read_match}
use Rattle.rewrite_model.specs.Own.{own, silent}
use Rattle.pdll_expand.specs.Scenes.{IsScene}
use Rattle.pdll_expand.specs.Table.{in_sight, calls_of}
use Rattle.pdll_expand.proofs.Known.{all_known}
use Rattle.pdll_expand.proofs.own.own_pattern.Goals as goal

pub returns : goal.returns
unfolding own
returns c = λ earlier h.
    let cs = calls_of c.args.constraints.now in
    let ss = body_statements c.args.pattern.now.body in
    let q = in_sight c.quiet.result in
    let root = c.in_ok-root.root in
    let new = c.read_match.new.scene in
    let e = ap (λ l. read_match q l empty) c.body_stmts.ensures
    ∙ (ap (λ w. read_match w ss empty) c.quiet.ensures ∙ ap (λ w. read_match (silent w) ss empty) (all_known cs earlier h)) in
    let read = subst (λ v. (root ≡ v.0) × IsScene new v.1) e (c.in_ok-root.ensures empty c.new-scene.ensures) in
    record {
      kinds = read.1.kinds;
      places = read.1.places;
      demands = read.1.demands;
      given = c.in_ok-push.ensures.ok ∙ (ap (λ ns. ns ++ root ∷ []) c.new-given.ensures ∙ ap (λ n. n ∷ []) read.0);
    }
