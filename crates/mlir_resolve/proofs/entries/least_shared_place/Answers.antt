use Rattle.std.proofs.Common.{◌+◌, sym, ap, ◌∙◌, arith, drop}
use Rattle.mlir_tree.specs.Order.{text_cmp}
use Rattle.mlir_resolve.specs.Resolving.{least_shared}
use Rattle.mlir_resolve.proofs.Shared.{least_of, least_more, least_end, rising_from, none_left, drop_all, less_from, greater_from, equal_from}
use Rattle.mlir_resolve.proofs.entries.least_shared_place.Goals as goal

pub loop-i-preserved-in-Less : goal.loop-i-preserved-in-Less
loop-i-preserved-in-Less c =
    let props = c.args.props.now in
    let attrs = c.args.attrs.now in
    let p = c.index-props-i.result in
    let a = c.index-attrs-j.result in
    let order = (λ k. text_cmp (sym c.as_slice.ensures k) (sym c.as_slice-in-loop-i.ensures k)) ∙ (sym c.cmp.ensures ∙ c.in-Less.is) in
    let inv = c.loop-i.invariant in
    let step = less_from props attrs c.loop-i.i c.loop-i.j p a (omega arith) c.index-props-i.is (omega arith) c.index-attrs-j.is order inv.3 in
    (omega arith, inv.1, rising_from props c.loop-i.i p (omega arith) c.index-props-i.is inv.2, inv.3, sym (ap (least_of c.loop-i.least) step) ∙ inv.4)

pub loop-i-preserved-in-Greater : goal.loop-i-preserved-in-Greater
loop-i-preserved-in-Greater c =
    let props = c.args.props.now in
    let attrs = c.args.attrs.now in
    let p = c.index-props-i.result in
    let a = c.index-attrs-j.result in
    let order = (λ k. text_cmp (sym c.as_slice.ensures k) (sym c.as_slice-in-loop-i.ensures k)) ∙ (sym c.cmp.ensures ∙ c.in-Greater.is) in
    let inv = c.loop-i.invariant in
    let step = greater_from props attrs c.loop-i.i c.loop-i.j p a (omega arith) c.index-props-i.is (omega arith) c.index-attrs-j.is order inv.2 in
    (inv.0, omega arith, inv.2, rising_from attrs c.loop-i.j a (omega arith) c.index-attrs-j.is inv.3, sym (ap (least_of c.loop-i.least) step) ∙ inv.4)

pub loop-i-preserved : goal.loop-i-preserved
loop-i-preserved c =
    let props = c.args.props.now in
    let attrs = c.args.attrs.now in
    let p = c.index-props-i.result in
    let a = c.index-attrs-j.result in
    let order = (λ k. text_cmp (sym c.as_slice.ensures k) (sym c.as_slice-in-loop-i.ensures k)) ∙ (sym c.cmp.ensures ∙ c.in-Equal.is) in
    let inv = c.loop-i.invariant in
    let rest = least_shared (drop (c.loop-i.i + 1) props) (drop (c.loop-i.j + 1) attrs) in
    let step = equal_from props attrs c.loop-i.i c.loop-i.j p a (omega arith) c.index-props-i.is (omega arith) c.index-attrs-j.is order inv.3 in (
      omega arith,
      omega arith,
      rising_from props c.loop-i.i p (omega arith) c.index-props-i.is inv.2,
      rising_from attrs c.loop-i.j a (omega arith) c.index-attrs-j.is inv.3,
      ap (λ o. least_of o rest) c.lesser_place-least.ensures
          ∙ (least_more a.at c.loop-i.least rest ∙ (sym (ap (least_of c.loop-i.least) step) ∙ inv.4)),
    )

pub returns-after-loop-i : goal.returns-after-loop-i
returns-after-loop-i c =
    let props = c.args.props.now in
    let attrs = c.args.attrs.now in
    let inv = c.loop-i.invariant in
    let none = ap (λ es. least_shared es (drop c.loop-i.j attrs)) (drop_all props c.loop-i.i c.loop-i-test.false) ∙ none_left (drop c.loop-i.j attrs) in
    sym (least_end c.loop-i.least) ∙ (sym (ap (least_of c.loop-i.least) none) ∙ inv.4)
