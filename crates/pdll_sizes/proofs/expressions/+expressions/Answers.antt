use Rattle.std.proofs.Common.{ap, ◌∙◌, length, arith}
use Rattle.pdll_syntax.specs.ExprSize.{expr_size, expr_item, entry_item, ref_item}
use Rattle.pdll_syntax.specs.ExprFalls.{members_more}
use Rattle.pdll_syntax.specs.ExprView.{expr_form}
use Rattle.rewrite_model.specs.Size as spec
use Rattle.pdll_sizes.specs.Capped.{capped_size, sum}
use Rattle.pdll_sizes.specs.Members.{just_expressions}
use Rattle.pdll_sizes.proofs.Sums.{sum_capped, total_more, total_all}
use Rattle.pdll_sizes.proofs.Totals.{exprs_total, entries_total, refs_total, members_behind}
use Rattle.pdll_sizes.proofs.expressions.+expressions.Goals as goal

pub exprs_size-expr_size-requires : goal.exprs_size-expr_size-requires
exprs_size-expr_size-requires t c =
    (omega (arith, c.decreases, expr_item c.args.all.now c.loop-x.x-index c.x-item.result (omega arith) c.x-item.is), tt)

pub entries_size-entry_size-requires : goal.entries_size-entry_size-requires
entries_size-entry_size-requires t c =
    (omega (arith, c.decreases, entry_item c.args.all.now c.loop-entry.entry-index c.entry-item.result (omega arith) c.entry-item.is), tt)

pub refs_size-ref_size-requires : goal.refs_size-ref_size-requires
refs_size-ref_size-requires t c =
    (omega (arith, c.decreases, ref_item c.args.all.now c.loop-one.one-index c.one-item.result (omega arith) c.one-item.is), tt)

pub expr_size-form_size-requires : goal.expr_size-form_size-requires
expr_size-form_size-requires t c =
    (omega (arith, c.decreases, ap expr_size c.x.view_is, members_more c.x.inside.at (expr_form c.x.inside.form) c.x.inside.members), tt)

pub expr_size-returns : goal.expr_size-returns
expr_size-returns t c =
    let d = spec.sizes c.args.earlier.now in
    let at = c.x.inside.at in
    let form = expr_form c.x.inside.form in
    let ks = c.x.inside.members in
    c.and.ensures
    ∙ (ap (λ s. sum s c.form_size.result) (c.members_size.ensures ∙ ap (λ l. capped_size (just_expressions (length l))) c.as_slice.ensures)
    ∙ (ap (sum (capped_size (just_expressions (length ks)))) c.form_size.ensures
    ∙ (sum_capped (just_expressions (length ks)) (spec.form_size d form)
    ∙ (ap capped_size (members_behind d at form ks) ∙ ap (λ x. capped_size (spec.expr_size d x)) c.x.view_is))))

pub exprs_size-loop-x-preserved : goal.exprs_size-loop-x-preserved
exprs_size-loop-x-preserved t c =
    total_more (spec.expr_size (spec.sizes c.args.earlier.now)) c.args.all.now c.loop-x.x-index c.x-item.result _ _ _ (omega arith) c.x-item.is c.loop-x.invariant c.expr_size.ensures c.and-size.ensures

pub entries_size-loop-entry-preserved : goal.entries_size-loop-entry-preserved
entries_size-loop-entry-preserved t c =
    total_more (spec.entry_size (spec.sizes c.args.earlier.now)) c.args.all.now c.loop-entry.entry-index c.entry-item.result _ _ _ (omega arith) c.entry-item.is c.loop-entry.invariant c.entry_size.ensures c.and-size.ensures

pub refs_size-loop-one-preserved : goal.refs_size-loop-one-preserved
refs_size-loop-one-preserved t c =
    total_more (spec.ref_size (spec.sizes c.args.earlier.now)) c.args.all.now c.loop-one.one-index c.one-item.result _ _ _ (omega arith) c.one-item.is c.loop-one.invariant c.ref_size.ensures c.and-size.ensures

pub exprs_size-returns : goal.exprs_size-returns
exprs_size-returns t c =
    let d = spec.sizes c.args.earlier.now in
    let all = c.args.all.now in
    total_all (spec.expr_size d) all c.loop-x.x-index c.loop-x.size _ c.loop-x-test.false c.loop-x.auto.x-index-end c.loop-x.invariant (exprs_total d all)

pub entries_size-returns : goal.entries_size-returns
entries_size-returns t c =
    let d = spec.sizes c.args.earlier.now in
    let all = c.args.all.now in
    total_all (spec.entry_size d) all c.loop-entry.entry-index c.loop-entry.size _ c.loop-entry-test.false c.loop-entry.auto.entry-index-end c.loop-entry.invariant (entries_total d all)

pub refs_size-returns : goal.refs_size-returns
refs_size-returns t c =
    let d = spec.sizes c.args.earlier.now in
    let all = c.args.all.now in
    total_all (spec.ref_size d) all c.loop-one.one-index c.loop-one.size _ c.loop-one-test.false c.loop-one.auto.one-index-end c.loop-one.invariant (refs_total d all)
