use Rattle.std.proofs.Common.{◌∙◌, nat_eq, false, true, refl, sym as back, ap, inl, inr, arith}
use Rattle.pdll_syntax.specs.ExprSize.{expr_size, expr_item, entry_item, ref_item}
use Rattle.pdll_syntax.proofs.Ends.{exprs_end, entries_end, refs_end}
use Rattle.pdll_syntax.specs.Equal.{expr_eq, list_eq}
use Rattle.pdll_syntax.specs.ExprFalls.{members_more}
use Rattle.pdll_syntax.proofs.Members.{members_at}
use Rattle.pdll_syntax.specs.ExprView.{expr_form}
use Rattle.pdll_syntax.proofs.expr.+same_expr.Goals as goal
use Rattle.pdll_syntax.proofs.expr.+same_expr.Goals.{same_exprs-then-loop-at-test+else-at-b, same_exprs-else-loop-at-test, same_entries-then-loop-at-test+else-at-b, same_entries-else-loop-at-test, same_refs-then-loop-at-test+else-at-b, same_refs-else-loop-at-test}

pub same_exprs-same_expr-requires : goal.same_exprs-same_expr-requires
same_exprs-same_expr-requires t c =
    (omega (arith, c.decreases, expr_item c.args.a.now c.loop-at.at c.index-a-at.result (omega arith) c.index-a-at.is), tt)

pub same_exprs-returns : goal.same_exprs-returns
same_exprs-returns t c =
    elim c.loop-at-test.branch [
      | same_exprs-then-loop-at-test+else-at-b w ↦ exprs_end c.args.a.now c.args.b.now c.loop-at.at (omega arith) (omega arith) (inr (omega arith)) ∙ c.loop-at.invariant.2
      | same_exprs-else-loop-at-test w ↦ exprs_end c.args.a.now c.args.b.now c.loop-at.at (omega arith) (omega arith) (inl (omega arith)) ∙ c.loop-at.invariant.2
    ]

pub same_entries-same_entry-requires : goal.same_entries-same_entry-requires
same_entries-same_entry-requires t c =
    (omega (arith, c.decreases, entry_item c.args.a.now c.loop-at.at c.index-a-at.result (omega arith) c.index-a-at.is), tt)

pub same_entries-returns : goal.same_entries-returns
same_entries-returns t c =
    elim c.loop-at-test.branch [
      | same_entries-then-loop-at-test+else-at-b w ↦ entries_end c.args.a.now c.args.b.now c.loop-at.at (omega arith) (omega arith) (inr (omega arith)) ∙ c.loop-at.invariant.2
      | same_entries-else-loop-at-test w ↦ entries_end c.args.a.now c.args.b.now c.loop-at.at (omega arith) (omega arith) (inl (omega arith)) ∙ c.loop-at.invariant.2
    ]

pub same_refs-same_ref-requires : goal.same_refs-same_ref-requires
same_refs-same_ref-requires t c =
    (omega (arith, c.decreases, ref_item c.args.a.now c.loop-at.at c.index-a-at.result (omega arith) c.index-a-at.is), tt)

pub same_refs-returns : goal.same_refs-returns
same_refs-returns t c =
    elim c.loop-at-test.branch [
      | same_refs-then-loop-at-test+else-at-b w ↦ refs_end c.args.a.now c.args.b.now c.loop-at.at (omega arith) (omega arith) (inr (omega arith)) ∙ c.loop-at.invariant.2
      | same_refs-else-loop-at-test w ↦ refs_end c.args.a.now c.args.b.now c.loop-at.at (omega arith) (omega arith) (inl (omega arith)) ∙ c.loop-at.invariant.2
    ]

pub same_expr-same_expr_form-requires : goal.same_expr-same_expr_form-requires
same_expr-same_expr_form-requires t c =
    (omega (arith, c.decreases, ap expr_size c.x.view_is, members_more c.x.inside.at (expr_form c.x.inside.form) c.x.inside.members), tt)

pub same_expr-returns-then-not-same_expr_form : goal.same_expr-returns-then-not-same_expr_form
same_expr-returns-then-not-same_expr_form t c =
    members_at c.x.inside.at c.y.inside.at c.x.inside.form c.y.inside.form c.x.inside.members c.y.inside.members false _ c.if-x-y.false (back c.if-not-same_expr_form.true ∙ c.same_expr_form.ensures) refl
    ∙ (λ i. expr_eq (c.x.view_is i) (c.y.view_is i))

pub same_expr-returns : goal.same_expr-returns
same_expr-returns t c =
    members_at c.x.inside.at c.y.inside.at c.x.inside.form c.y.inside.form c.x.inside.members c.y.inside.members true c.same_members.result c.if-x-y.false (back c.if-not-same_expr_form.false ∙ c.same_expr_form.ensures)
    (c.same_members.ensures ∙ (λ i. list_eq nat_eq (c.as_slice.ensures i) (c.as_slice-2.ensures i)))
    ∙ (λ i. expr_eq (c.x.view_is i) (c.y.view_is i))
