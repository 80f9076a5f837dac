use Rattle.std.proofs.Common.{ℕ, List, subst, ap, ◌∙◌}
use Rattle.native_set.specs.declared.native.Kind.{Kind}
use Rattle.rewrite_model.specs.Pattern.{Expr}
use Rattle.rewrite_model.specs.Doing.{Doing, pure, ◌>>=◌, ◌>>◌}
use Rattle.rewrite_model.specs.Names.{Meant}
use Rattle.rewrite_model.specs.MatchPart.{Scene, new_variable, see_name, kind_of_refs}
use Rattle.pdll_expand.specs.View.{meant_of}
use Rattle.pdll_expand.specs.Scenes.{Gave}
use Rattle.pdll_expand.specs.Table.{in_sight}
use Rattle.pdll_expand.proofs.Steps.{gave, then_gave}
use Rattle.pdll_expand.proofs.own.read_param.Goals as goal

abbrev with_kind : ℕ → List ℕ → Kind → Doing Scene (Meant Expr)
with_kind at n k = new_variable at k >>= (λ y. see_name n y >> pure y)

pub returns : goal.returns
returns c =
    let q = in_sight c.args.constraints in
    let p = c.args.param.now in
    let at = p.name.at in
    let n = c.as_slice-2.result.now in
    let k = c.kind_of_refs-written.result.kind in
    let x = c.in_ok-x.x in
    let y = meant_of x in
    let old = c.args.scene.now in
    let mid = c.new_variable.new.self in
    let new = c.see_name.new.self in
    let seen = then_gave (λ u. u) meant_of (see_name n y) (λ _. pure y) mid new new c.in_ok-see_name.field-0 x c.in_ok-see_name.ensures (gave meant_of x new) in
    let all = then_gave meant_of meant_of (new_variable at k) (λ z. see_name n z >> pure z) old mid new x x c.in_ok-x.ensures seen in
    let named = subst (λ m. Gave meant_of (with_kind at m k) old x new) c.as_slice-2.ensures all in
    subst (λ w. Gave meant_of (with_kind at p.name.text w.kind) old x new) (c.kind_of_refs-written.ensures ∙ ap (kind_of_refs q) c.as_slice.ensures) named
