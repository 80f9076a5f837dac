use Rattle.std.proofs.Common.{◌+◌, ◌∷◌, [], Ok, Err, drop, refl, sym, ap, subst, ◌∙◌, arith}
use Rattle.pdll_types.specs.Signatures.{declared}
use Rattle.pdll_types.specs.Walk.{Tells, decl_walked}
use Rattle.pdll_types.proofs.Loops.{next_item, none_left}
use Rattle.pdll_types.proofs.WholeFiles.{one_told, next_told}
use Rattle.pdll_types.proofs.files.walk_decls.Goals as goal

pub loop-one-init : goal.loop-one-init
loop-one-init c = ([], [], c.requires, λ r new t. t)

pub returns-in-Err : goal.returns-in-Err
returns-in-Err c =
    let all = c.args.all.now in
    let i = c.loop-one.one-index in
    let one = c.one-item.result in
    let known = c.loop-one.invariant in
    let new = c.walk_next.new.walk in
    known.3 (Err c.in-Err.refusal) new
    (subst (λ ds. Tells known.0 known.1 ds c.loop-one.walk (Err c.in-Err.refusal) new) (sym (next_item all i one c.loop-one-test.true c.one-item.is))
    (next_told known.0 known.1 one (drop (i + 1) all) c.loop-one.walk new c.walk_next.new.earlier c.in-Err.refusal (c.in-Err.ensures.next known.0 known.1 known.2)))

pub loop-one-preserved : goal.loop-one-preserved
loop-one-preserved c =
    let all = c.args.all.now in
    let i = c.loop-one.one-index in
    let one = c.one-item.result in
    let known = c.loop-one.invariant in
    let old = c.loop-one.walk in
    let next = c.in_default.ensures.next known.0 known.1 known.2 in
    let walked = c.in_default.ensures.walked ∙ ap (λ t. decl_walked t one old) known.2.table in (
      declared known.0 one,
      one ∷ known.1,
      next.1,
      λ r new t. known.3 r new
          (subst (λ ds. Tells known.0 known.1 ds old r new) (sym (next_item all i one c.loop-one-test.true c.one-item.is))
          (one_told known.0 known.1 one (drop (i + 1) all) old new r next.0 (subst (λ w. Tells (declared known.0 one) (one ∷ known.1) (drop (i + 1) all) w r new) walked t))),
    )

pub returns : goal.returns
returns c =
    let all = c.args.all.now in
    let known = c.loop-one.invariant in
    let w = c.loop-one.walk in
    known.3 (Ok tt) w (subst (λ ds. Tells known.0 known.1 ds w (Ok tt) w) (sym (none_left all c.loop-one.one-index c.loop-one-test.false)) (tt, refl))
