use Rattle.std.proofs.Common.{◌≡◌, suc, ◌-◌, length, take, subst, arith}
use Rattle.rewrite_model.specs.Expanding.{last_root}
use Rattle.pdll_expand.specs.Scenes.{Does}
use Rattle.pdll_expand.specs.Reading.{statements}
use Rattle.pdll_expand.specs.Table.{in_sight}
use Rattle.pdll_expand.proofs.Plain.{match_is}
use Rattle.pdll_expand.proofs.Steps.{then_do}
use Rattle.pdll_expand.proofs.statements.read_match.Goals as goal

pub returns-in_ok-read_stmts-in-len1-up : goal.returns-in_ok-read_stmts-in-len1-up
returns-in_ok-read_stmts-in-len1-up c =
    let q = in_sight c.args.constraints in
    let ss = c.args.all.now in
    let n = length ss - 1 in
    let s = c.last-item.result in
    let r = c.read_last.result in
    let old = c.args.scene.now in
    let mid = c.read_stmts.new.scene in
    let new = c.read_last.new.scene in
    let long : suc n ≡ length ss = omega arith in
    subst (λ w. Does (λ m. m) w old r new) (match_is q ss n s long c.last-item.is)
    (then_do (λ u. u) (λ m. m) (statements q (take n ss)) (λ _. last_root q s) old mid new c.in_ok-read_stmts-in-len1-up.field-0 r c.in_ok-read_stmts-in-len1-up.ensures c.read_last.ensures)
