use Rattle.std.proofs.Common.{◌≡◌, ◌∷◌, ◌++◌, [], false, ◌||◌, length, drop, ◌+◌, ap, sym, ◌∙◌, subst, arith, OnOk}
use Rattle.pdll_syntax.specs.ExprTree.{expr, exprs, entries, refs, no_expr}
use Rattle.pdll_syntax.specs.ExprSize.{expr_size, expr_item, entry_item, ref_item}
use Rattle.pdll_syntax.specs.ExprFalls.{members_more}
use Rattle.pdll_syntax.specs.ExprView.{expr_form}
use Rattle.pdll_types.specs.declared.section.Holder.TheVariants.{Variable}
use Rattle.pdll_types.specs.Asking.{asked_of}
use Rattle.pdll_types.specs.Mentions.{within, word, shown, of_expr, of_exprs, of_arguments, of_entries, of_entry, of_refs, of_all_refs, inside_ref, inside_form, is_kind, one_ref, first_asked, others_asked}
use Rattle.pdll_types.specs.Walk.{walked, step, asked_after, members_walked}
use Rattle.pdll_types.proofs.Steps.{walked_both, members_are, shown_step}
use Rattle.pdll_types.proofs.Loops.{next_expr, next_entry, next_ref, kind_without_value}
use Rattle.pdll_types.proofs.expressions.+expressions.Goals as goal

pub walk_arguments-walk_expr-requires : goal.walk_arguments-walk_expr-requires
walk_arguments-walk_expr-requires t c =
    (omega (arith, c.decreases, expr_item c.args.all.now c.loop-x.x-index c.x-item.result (omega arith) c.x-item.is), tt)

pub walk_exprs-walk_expr-requires : goal.walk_exprs-walk_expr-requires
walk_exprs-walk_expr-requires t c =
    (omega (arith, c.decreases, expr_item c.args.all.now c.loop-x.x-index c.x-item.result (omega arith) c.x-item.is), tt)

pub walk_entries-walk_entry-requires : goal.walk_entries-walk_entry-requires
walk_entries-walk_entry-requires t c =
    (omega (arith, c.decreases, entry_item c.args.all.now c.loop-entry.entry-index c.entry-item.result (omega arith) c.entry-item.is), tt)

pub walk_each_ref-walk_ref-requires : goal.walk_each_ref-walk_ref-requires
walk_each_ref-walk_ref-requires t c =
    (omega (arith, c.decreases, ref_item c.args.all.now c.loop-one.one-index c.one-item.result (omega arith) c.one-item.is), tt)

pub walk_expr-walk_form-requires : goal.walk_expr-walk_form-requires
walk_expr-walk_form-requires t c =
    (omega (arith, c.decreases, ap expr_size c.x.view_is, members_more c.x.inside.at (expr_form c.x.inside.form) c.x.inside.members), tt)

pub walk_expr-returns : goal.walk_expr-returns
walk_expr-returns t c =
    let d = c.args.table.now in
    let p = c.args.section in
    let a = asked_of c.args.asked in
    let at = c.x.inside.at in
    let form = expr_form c.x.inside.form in
    let ks = c.x.inside.members in
    let w = c.args.walk.now in
    let e = ap (λ v. walked d (of_expr d p (asked_of c.in_ok-behind.behind) (expr at form)) v) c.in_ok-behind.ensures.walked
    ∙ (ap (λ b. walked d (of_expr d p b (expr at form)) (members_walked a at (length c.as_slice.result.now) w)) c.in_ok-behind.ensures.asked
    ∙ (ap (λ l. walked d (of_expr d p (asked_after a (length l)) (expr at form)) (members_walked a at (length l) w)) c.as_slice.ensures
    ∙ (sym (members_are d p a at form ks w) ∙ ap (λ x. walked d (of_expr d p a x) w) c.x.view_is))) in
    subst (λ v. OnOk c.walk_form.result (c.walk_form.new.walk ≡ v)) e c.walk_form.ensures

pub walk_exprs-loop-x-preserved : goal.walk_exprs-loop-x-preserved
unfolding of_exprs
walk_exprs-loop-x-preserved t c =
    let d = c.args.table.now in
    let p = c.args.section in
    let a = asked_of c.args.asked in
    let xs = c.args.all.now in
    let i = c.loop-x.x-index in
    let x = c.x-item.result in
    c.loop-x.invariant
    ∙ (ap (λ ys. walked d (of_exprs d p a ys) c.loop-x.walk) (next_expr xs i x (omega arith) c.x-item.is)
    ∙ (walked_both d (of_expr d p a x) (of_exprs d p a (exprs (drop (i + 1) xs))) c.loop-x.walk
    ∙ ap (walked d (of_exprs d p a (exprs (drop (i + 1) xs)))) (sym c.in_ok-walk_expr.ensures)))

pub walk_arguments-loop-x-preserved : goal.walk_arguments-loop-x-preserved
unfolding of_arguments
walk_arguments-loop-x-preserved t c =
    let d = c.args.table.now in
    let p = c.args.section in
    let ks = c.loop-x.rest.now in
    let xs = c.args.all.now in
    let i = c.loop-x.x-index in
    let x = c.x-item.result in
    let behind = exprs (drop (i + 1) xs) in
    c.loop-x.invariant
    ∙ (ap (λ ys. walked d (of_arguments d p ks ys) c.loop-x.walk) (next_expr xs i x (omega arith) c.x-item.is)
    ∙ (walked_both d (of_expr d p (first_asked ks) x) (of_arguments d p (others_asked ks) behind) c.loop-x.walk
    ∙ (ap (λ a. walked d (of_arguments d p (others_asked ks) behind) (walked d (of_expr d p a x) c.loop-x.walk)) (sym c.first_asked.ensures)
    ∙ (ap (walked d (of_arguments d p (others_asked ks) behind)) (sym c.in_ok-walk_expr.ensures)
    ∙ ap (λ js. walked d (of_arguments d p js behind) c.walk_expr.new.walk) (sym c.others_asked-rest.ensures)))))

pub walk_entries-loop-entry-preserved : goal.walk_entries-loop-entry-preserved
unfolding of_entries
walk_entries-loop-entry-preserved t c =
    let d = c.args.table.now in
    let p = c.args.section in
    let es = c.args.all.now in
    let i = c.loop-entry.entry-index in
    let e = c.entry-item.result in
    let behind = entries (drop (i + 1) es) in
    c.loop-entry.invariant
    ∙ (ap (λ ys. walked d (of_entries d p ys) c.loop-entry.walk) (next_entry es i e (omega arith) c.entry-item.is)
    ∙ (walked_both d (of_entry d p e) (of_entries d p behind) c.loop-entry.walk ∙ ap (walked d (of_entries d p behind)) (sym c.in_ok-walk_entry.ensures)))

pub walk_each_ref-loop-one-preserved : goal.walk_each_ref-loop-one-preserved
unfolding of_refs
walk_each_ref-loop-one-preserved t c =
    let d = c.args.table.now in
    let p = c.args.section in
    let h = c.args.holder in
    let k = c.args.kind.now in
    let rs = c.args.all.now in
    let i = c.loop-one.one-index in
    let r = c.one-item.result in
    let later = c.loop-one.later in
    let behind = refs (drop (i + 1) rs) in
    let w = c.loop-one.walk in
    c.loop-one.invariant
    ∙ (ap (λ ys. walked d (of_refs d p h k later ys) w) (next_ref rs i r (omega arith) c.one-item.is)
    ∙ (walked_both d (inside_ref d p r) (of_refs d p h k (later || is_kind r) behind) (step d (one_ref h k later r) w)
    ∙ (ap (λ v. walked d (of_refs d p h k (later || is_kind r) behind) (walked d (inside_ref d p r) v)) (sym c.in_ok-use_ref.ensures)
    ∙ (ap (walked d (of_refs d p h k (later || is_kind r) behind)) (sym c.in_ok-walk_ref.ensures)
    ∙ ap (λ b. walked d (of_refs d p h k b behind) c.walk_ref.new.walk) (sym c.is_later-later.ensures)))))

pub walk_declared-returns : goal.walk_declared-returns
unfolding inside_form of_all_refs
walk_declared-returns t c =
    let d = c.args.table.now in
    let p = c.within-part.result in
    let n = c.as_slice-word.result.now in
    let at = c.args.at in
    let rs = refs c.args.all.now in
    let w = c.args.walk.now in
    let refs_walked = of_all_refs d p Variable rs in
    let own = c.in_ok-kind.ensures.kind ∙ kind_without_value d c.walk_refs.new.walk.sight rs in
    let e = shown_step d c.walk_refs.new.walk n rs no_expr c.in_ok-kind.kind own
    ∙ (ap (step d (shown n rs no_expr)) (c.in_ok-kind.ensures.walked ∙ ap (walked d refs_walked) (c.in_ok-note_word.ensures d))
    ∙ (sym (walked_both d refs_walked (shown n rs no_expr ∷ []) (step d (word p false at n) w))
    ∙ (ap (λ q. walked d (word q false at n ∷ (of_all_refs d q Variable rs ++ shown n rs no_expr ∷ [])) w) c.within-part.ensures
    ∙ ap (λ m. walked d (word (within c.args.section) false at m ∷ (of_all_refs d (within c.args.section) Variable rs ++ shown m rs no_expr ∷ [])) w) c.as_slice-word.ensures))) in
    subst (λ v. OnOk c.show.result (c.show.new.walk ≡ v)) e c.show.ensures
