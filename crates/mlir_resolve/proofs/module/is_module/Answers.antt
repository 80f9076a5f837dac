use Rattle.std.proofs.Common.{◌&&◌, ap, sym, ◌∙◌, length}
use Rattle.std.specs.Prelude.{◌==◌, codes}
use Rattle.std.specs.Str.{bytes_eq}
use Rattle.std.proofs.lemmas.Bool.{ne_eqb}
use Rattle.mlir_resolve.specs.Laid.{has_no_values}
use Rattle.mlir_resolve.specs.Walk.{head_of, regions_of}
use Rattle.mlir_resolve.proofs.Modules.{module_by_parts, no_and, by_not}
use Rattle.mlir_resolve.proofs.module.is_module.Goals as goal

pub returns-then-len-ne1 : goal.returns-then-len-ne1
returns-then-len-ne1 c =
    let h = head_of c.args.op.now in
    let rs = c.op.inside.regions in
    sym (module_by_parts c.args.op.now rs (ap regions_of c.op.view_is)
    ∙ no_and (length rs == 1) (bytes_eq h.name (codes "builtin.module")) (has_no_values h) (ne_eqb (length rs) 1 (λ p. c.if-len-ne1.true (c.len.ensures ∙ p))))

pub returns : goal.returns
returns c =
    let h = head_of c.args.op.now in
    let rs = c.op.inside.regions in
    let one = ap (λ n. n == 1) (sym c.len.ensures ∙ c.if-len-ne1.false) in
    let name = by_not _ c.if-ne.ensures in
    let names = ap (λ o. (head_of o).name) c.op.view_is in
    let is = (λ i. bytes_eq (sym names i) (codes "builtin.module")) ∙ ((λ i. bytes_eq (sym c.as_slice.ensures i) (sym c.as_slice-2.ensures i)) ∙ name) in
    c.has_no_values.ensures
    ∙ sym (module_by_parts c.args.op.now rs (ap regions_of c.op.view_is) ∙ (λ i. one i && (is i && has_no_values h)))
