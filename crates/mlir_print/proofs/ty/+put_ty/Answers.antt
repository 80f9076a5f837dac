use Rattle.std.proofs.Common.{◌≡◌, ◌++◌, codes, decimal, length, rules, arith, sym, ap}
use Rattle.std.proofs.lemmas.Bool.Decides.{nat_tests}
use Rattle.std.proofs.lemmas.List.{at_drop_all}
use Rattle.mlir_tree.specs.Tree.{tys}
use Rattle.mlir_tree.specs.Measure.{ty_item}
use Rattle.mlir_print.specs.Text.{ty_text, tys_text, more_tys_text, stands_bare, results_by}
use Rattle.mlir_print.proofs.Printing.{prints_then, prints_as, prints_none}
use Rattle.mlir_print.proofs.Lists.{tys_none, tys_more, tys_first}
use Rattle.mlir_print.proofs.ty.+put_ty.Goals as goal

pub put_ty-returns-in-Int : goal.put_ty-returns-in-Int
unfolding ty_text
put_ty-returns-in-Int g t c =
    let is : c.sign_text.result.now ++ decimal c.from.result ≡ ty_text c.args.ty.now = search rules in
    prints_as _ _ _ _ _ _ (prints_then _ _ _ _ _ _ _ _ c.put.ensures c.put_number.ensures) is

pub put_ty-returns-in-Func : goal.put_ty-returns-in-Func
unfolding ty_text
put_ty-returns-in-Func g t c =
    let ys = tys c.as_slice-in-Func.result.now in
    let is : codes "(" ++ (tys_text (tys c.as_slice.result.now) ++ (codes ") -> " ++ results_by (stands_bare ys) (tys_text ys))) ≡ ty_text c.args.ty.now = search rules in
    prints_as _ _ _ _ _ _
    (prints_then _ _ _ _ _ _ _ _ c.put-in-Func.ensures (prints_then _ _ _ _ _ _ _ _ c.put_tys.ensures (prints_then _ _ _ _ _ _ _ _ c.put-in-Func-2.ensures c.put_results.ensures)))
    is

pub put_tys-returns : goal.put_tys-returns
put_tys-returns g t c =
    prints_as _ _ _ _ _ _
    (prints_then _ _ _ _ _ _ _ _ c.put_ty.ensures (prints_as _ _ _ _ _ _ c.put_more_tys.ensures (ap (λ xs. more_tys_text (tys xs)) c.split_at.ensures.back)))
    (tys_first c.args.all.now c.index-all-0.result (grind (arith, nat_tests)) c.index-all-0.is)

pub put_results-returns : goal.put_results-returns
put_results-returns g t c =
    let text = tys_text (tys c.args.all.now) in
    prints_as _ _ _ _ _ _
    (prints_then _ _ _ _ _ _ _ _ c.put.ensures (prints_then _ _ _ _ _ _ _ _ c.put_tys-2.ensures c.put-2.ensures))
    (ap (λ b. results_by b text) c.if-stands_bare.ensures)

pub put_more_tys-put_ty-requires : goal.put_more_tys-put_ty-requires
put_more_tys-put_ty-requires g t c κs within =
    (omega (arith, c.decreases, ty_item c.args.all.now c.loop-ty.ty-index c.ty-item.result (omega arith) c.ty-item.is), within)

pub put_more_tys-loop-ty-preserved : goal.put_more_tys-loop-ty-preserved
put_more_tys-loop-ty-preserved g t c = λ is s more.
    c.loop-ty.invariant is s (prints_as _ is _ s _ _
    (prints_then _ _ is _ _ s _ _ c.put.ensures (prints_then _ _ is _ _ s _ _ c.put_ty.ensures more))
    (tys_more c.args.all.now c.loop-ty.ty-index c.ty-item.result (omega arith) c.ty-item.is))

pub put_more_tys-returns : goal.put_more_tys-returns
unfolding ty_text
put_more_tys-returns g t c =
    let now = g.S.Sink.state c.loop-ty.sink in
    c.loop-ty.invariant c.loop-ty.ok now
    (prints_as _ _ now now _ _ (prints_none c.loop-ty.ok now) (sym (at_drop_all (λ xs. more_tys_text (tys xs)) c.args.all.now c.loop-ty.ty-index (omega arith))))

pub put_tys-returns-then-is_empty : goal.put_tys-returns-then-is_empty
put_tys-returns-then-is_empty g t c =
    let none : length c.args.all.now ≡ 0 = grind (arith, nat_tests) in
    prints_as _ _ _ _ _ _ (prints_none _ _) (tys_none c.args.all.now none)
