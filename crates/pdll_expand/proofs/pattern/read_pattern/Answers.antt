use Rattle.std.proofs.Common.{◌≡◌, ap, ◌∙◌, subst}
use Rattle.rewrite_model.specs.MatchPart.{empty}
use Rattle.rewrite_model.specs.Expanding.{body_statements, read_match}
use Rattle.pdll_expand.specs.Scenes.{IsScene}
use Rattle.pdll_expand.specs.Table.{in_sight, calls_of}
use Rattle.pdll_expand.proofs.Known.{all_known}
use Rattle.pdll_expand.proofs.pattern.read_pattern.Goals as goal

pub returns : goal.returns
returns c = record {
  exact = λ earlier h.
      let root = c.in_ok-root.root in
      let new = c.read_match.new.scene in
      let e = ap (λ l. read_match (in_sight c.whole.result) l empty) c.body_stmts.ensures
      ∙ ap (λ w. read_match w (body_statements c.args.pattern.now.body) empty) (c.whole.ensures ∙ all_known (calls_of c.args.constraints.now) earlier h) in
      subst (λ v. (root ≡ v.0) × IsScene new v.1) e (c.in_ok-root.ensures empty c.new-scene.ensures);
}
