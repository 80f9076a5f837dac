use Rattle.std.proofs.Common.{◌≡◌, ℕ, true, false, Option, List, [], ◌∷◌, None, map, drop, take, get_or, ◌+◌, ap, refl, sym, ◌∙◌, subst, arith, option_map}
use Rattle.std.specs.Option.{is_none}
use Rattle.std.specs.HashMap.{get_by}
use Rattle.std.specs.Str.{bytes_eq}
use Rattle.rewrite_model.specs.Names.{ref_name, form_name, Written, Meant, named_together}
use Rattle.rewrite_model.specs.Expanding.{param_names, call_params, body_asks}
use Rattle.pdll_syntax.specs.ExprTree.{expr, Ref, ref, RefForm, attr_ref, op_ref, type_ref, type_range_ref, value_ref, value_range_ref, named_ref, MaybeExpr, some_expr, maybe_expr, entry, exprs, entries, refs, no_expr, maybe_exprs, refs_back}
use Rattle.pdll_syntax.specs.ExprSize.{expr_size, expr_item, entry_item, ref_item, ref_size}
use Rattle.pdll_syntax.specs.ExprFalls.{members_more}
use Rattle.pdll_syntax.specs.StmtSize.{stmt_item}
use Rattle.pdll_syntax.specs.declared.stmt.Param.{Param}
use Rattle.pdll_syntax.specs.ExprView.{expr_form, ref_form, op_of, with_members}
use Rattle.pdll_syntax.specs.StmtView.{stmt_form}
use Rattle.rewrite_model.specs.Pattern.{Parts, Expr as Term}
use Rattle.native_set.specs.declared.native.Kind.TheVariants.{Attr}
use Rattle.pdll_expand.specs.declared.expr.Expr.TheVariants.{The}
use Rattle.pdll_expand.specs.declared.scene.Meant.{Meant as MeantNode}
use Rattle.pdll_expand.specs.declared.demand.Parts.{Parts as PartsNode}
use Rattle.pdll_expand.specs.declared.demand.NamedExpr.{NamedExpr}
use Rattle.rewrite_model.specs.Doing.{Doing, pure, ◌>>=◌, ◌>>◌}
use Rattle.rewrite_model.specs.MatchPart.{Scene, Constrains, new_variable, ask_name, ask_type, call_named, call_refs, call, plain, statement, let_value, expression, expressions, form_at, operation_at, operands_at, operand_list, types_at, entries_of, entry_of, type_of_refs, type_of_ref, type_of_form, variable, see_name, as_operand}
use Rattle.pdll_expand.specs.View.{expr_of, meant_of, named_expr_of, parts_of, written_of}
use Rattle.pdll_expand.specs.Scenes.{Gave, Does, HasExchanged}
use Rattle.pdll_expand.specs.Behind.{behind}
use Rattle.pdll_expand.specs.Table.{in_sight, calls_of}
use Rattle.pdll_expand.specs.Reading.{members_read, operation_read, parts_read, operand_read, type_list, value_read, alone_read, form_read, statements, body_read}
use Rattle.pdll_expand.proofs.Bodies.{no_arguments, body_call, put_back, exchanged}
use Rattle.pdll_expand.proofs.Depth.{deeper}
use Rattle.pdll_expand.proofs.Loops.{next_item, next_of, none_behind}
use Rattle.pdll_expand.proofs.Members.{members_are}
use Rattle.pdll_expand.proofs.Plain.{plain_members, plain_other, plain_call}
use Rattle.pdll_expand.proofs.Steps.{gave, then_gave, then_do, read_all, none_read, one_read, type_read, left_as, left_after, none_left, all_left}
use Rattle.pdll_expand.proofs.+reading.Goals as goal

abbrev all_parts : List Term → List (List ℕ × Term) → List Term → Doing Scene (Parts Term)
all_parts ws ys zs = pure (record { operands = ws; entries = ys; types = zs })

entry_is : (q : List ℕ → Constrains) (at : ℕ) (n : List ℕ) (v : MaybeExpr) → (value_read q v at >>= (λ x. pure (n, x.is))) ≡ entry_of q (entry at n v)
entry_is q at n no_expr = refl
entry_is q at n (some_expr e) = refl

-- a constraint is no kind
passed : (q : List ℕ → Constrains) (r : Ref) (more : Doing Scene (Option Term)) → is_none (ref_name r) ≡ false → type_of_ref q r more ≡ more
passed q (ref at (named_ref n)) more h = refl
passed q (ref at (attr_ref x)) more h = absurd (cc)
passed q (ref at (op_ref n)) more h = absurd (cc)
passed q (ref at type_ref) more h = absurd (cc)
passed q (ref at type_range_ref) more h = absurd (cc)
passed q (ref at (value_ref x)) more h = absurd (cc)
passed q (ref at (value_range_ref x)) more h = absurd (cc)

-- what stands behind a kind isn't read
stopped : (q : List ℕ → Constrains) (form : RefForm) (more : Doing Scene (Option Term)) → is_none (form_name form) ≡ true → type_of_form q form (pure None) ≡ type_of_form q form more
stopped q (named_ref n) more h = absurd (cc)
stopped q (attr_ref x) more h = refl
stopped q (op_ref n) more h = refl
stopped q type_ref more h = refl
stopped q type_range_ref more h = refl
stopped q (value_ref x) more h = refl
stopped q (value_range_ref x) more h = refl

pub expressions::read_operand_list-read_operand-requires : goal.expressions::read_operand_list-read_operand-requires
expressions::read_operand_list-read_operand-requires t c =
    (omega (arith, c.decreases, expr_item c.args.all.now c.loop-x.x-index c.x-item.result (omega arith) c.x-item.is), tt)

pub expressions::read_type_list-read_expr-requires : goal.expressions::read_type_list-read_expr-requires
expressions::read_type_list-read_expr-requires t c =
    (omega (arith, c.decreases, expr_item c.args.all.now c.loop-x.x-index c.x-item.result (omega arith) c.x-item.is), tt)

pub expressions::read_entries-read_entry-requires : goal.expressions::read_entries-read_entry-requires
expressions::read_entries-read_entry-requires t c =
    (omega (arith, c.decreases, entry_item c.args.all.now c.loop-entry.entry-index c.entry-item.result (omega arith) c.entry-item.is), tt)

pub expressions::read_expr-read_form-requires : goal.expressions::read_expr-read_form-requires
expressions::read_expr-read_form-requires t c =
    (omega (arith, c.decreases, ap expr_size c.x.view_is, members_more c.x.inside.at (expr_form c.x.inside.form) c.x.inside.members), tt)

pub expressions::read_expr-returns : goal.expressions::read_expr-returns
expressions::read_expr-returns t c =
    let q = in_sight c.args.constraints in
    let at = c.x.inside.at in
    let form = expr_form c.x.inside.form in
    let ks = c.as_slice.result.now in
    let old = c.args.scene.now in
    let mid = c.read_form.new.scene in
    let new = c.read_members.new.scene in
    let r = c.read_members.result in
    let e = ap (λ (js : List _). form_at q form at >>= members_read js) c.as_slice.ensures
    ∙ (members_are q at form c.x.inside.members ∙ ap (expression q) c.x.view_is) in
    subst (λ w. Does meant_of w old r new) e
    (then_do meant_of meant_of (form_at q form at) (members_read ks) old mid new c.in_ok-first.first r c.in_ok-first.ensures c.read_members.ensures)

pub expressions::read_declared-returns : goal.expressions::read_declared-returns
expressions::read_declared-returns t c =
    let q = in_sight c.args.constraints in
    let at = c.args.at in
    let n = c.args.name.now in
    let rs = c.args.all.now in
    let x = c.in_ok-x.x in
    let ty = c.in_ok-ty.ty in
    let old = c.args.scene.now in
    let one = c.read_ref_type.new.scene in
    let two = c.read_variable.new.scene in
    let new = c.see_name.new.self in
    let last = then_gave (λ u. u) meant_of (see_name n (meant_of x)) (λ _. pure (meant_of x)) two new new c.in_ok-see_name.field-0 x c.in_ok-see_name.ensures (gave meant_of x new) in
    let declared = then_gave meant_of meant_of (variable q at rs (option_map expr_of ty)) (λ y. see_name n y >> pure y) one two new x x c.in_ok-x.ensures last in
    let all = then_gave (option_map expr_of) meant_of (type_of_refs q (refs rs)) (λ u. variable q at rs u >>= (λ y. see_name n y >> pure y)) old one new ty x c.in_ok-ty.ensures declared in
    subst (λ (ss : List Ref). Gave meant_of (type_of_refs q (refs rs) >>= (λ u. variable q at ss u >>= (λ y. see_name n y >> pure y))) old x new) (sym (refs_back rs)) all

pub expressions::read_operation-returns : goal.expressions::read_operation-returns
expressions::read_operation-returns t c =
    let q = in_sight c.args.constraints in
    let at = c.args.at in
    let o = c.operation.inside in
    let op = op_of o.name o.operands o.entries o.types in
    let old = c.args.scene.now in
    let mid = c.read_parts.new.scene in
    let new = c.new_operation.new.scene in
    let r = c.new_operation.result in
    let p = c.in_ok-parts.parts in
    let parted = subst (λ v. Gave parts_of (parts_read q v at) old p mid) (sym c.operation.view_is) c.in_ok-parts.ensures in
    let made = subst (λ n. Does meant_of (operation_read n at (parts_of p)) mid r new) c.as_slice.ensures c.new_operation.ensures in
    subst (λ v. Does meant_of (operation_at q v at) old r new) c.operation.view_is
    (then_do parts_of meant_of (parts_read q op at) (operation_read o.name at) old mid new p r parted made)

pub expressions::read_operand-returns : goal.expressions::read_operand-returns
expressions::read_operand-returns t c =
    let q = in_sight c.args.constraints in
    let x = c.args.x.now in
    let old = c.args.scene.now in
    let mid = c.read_expr.new.scene in
    let new = c.as_operand.new.self in
    let v = c.in_ok-value.value in
    let y = c.in_ok-operand.operand in
    then_gave meant_of expr_of (expression q x) (λ z. as_operand z >>= (λ w. pure w.is)) old mid new v y.is c.in_ok-value.ensures
    (then_gave meant_of expr_of (as_operand (meant_of v)) (λ w. pure w.is) mid new new y y.is c.in_ok-operand.ensures (gave expr_of y.is new))

pub expressions::read_operand_list-loop-x-init : goal.expressions::read_operand_list-loop-x-init
expressions::read_operand_list-loop-x-init t c =
    let q = in_sight c.args.constraints in
    none_read expr_of (operand_read q) (λ xs. operand_list q (exprs xs)) c.args.all.now c.new-found.result c.args.scene.now c.new-found.ensures

pub expressions::read_operand_list-loop-x-preserved : goal.expressions::read_operand_list-loop-x-preserved
expressions::read_operand_list-loop-x-preserved t c =
    let q = in_sight c.args.constraints in
    let all = c.args.all.now in
    let i = c.loop-x.x-index in
    let x = c.x-item.result in
    let mid = c.loop-x.scene in
    let new = c.read_operand.new.scene in
    one_read expr_of (operand_read q) (λ xs. operand_list q (exprs xs)) (λ x xs. refl) all i x c.loop-x.found c.push.new.self c.in_ok-read_operand.field-0 c.args.scene.now mid new
    (next_item all i x (omega arith) c.x-item.is) c.in_ok-push.ensures.ok c.loop-x.invariant (c.in_ok-read_operand.ensures)

pub expressions::read_operand_list-returns : goal.expressions::read_operand_list-returns
expressions::read_operand_list-returns t c =
    let q = in_sight c.args.constraints in
    let all = c.args.all.now in
    let i = c.loop-x.x-index in
    read_all expr_of (operand_read q) (λ xs. operand_list q (exprs xs)) refl all i c.loop-x.found c.args.scene.now c.loop-x.scene (none_behind all i (omega arith)) c.loop-x.invariant

pub expressions::read_type_list-loop-x-init : goal.expressions::read_type_list-loop-x-init
expressions::read_type_list-loop-x-init t c =
    let q = in_sight c.args.constraints in
    none_read expr_of (type_read q) (λ xs. type_list q (exprs xs)) c.args.all.now c.new-found.result c.args.scene.now c.new-found.ensures

pub expressions::read_type_list-loop-x-preserved : goal.expressions::read_type_list-loop-x-preserved
expressions::read_type_list-loop-x-preserved t c =
    let q = in_sight c.args.constraints in
    let all = c.args.all.now in
    let i = c.loop-x.x-index in
    let x = c.x-item.result in
    let mid = c.loop-x.scene in
    let new = c.read_expr.new.scene in
    one_read expr_of (type_read q) (λ xs. type_list q (exprs xs)) (λ x xs. refl) all i x c.loop-x.found c.push.new.self c.in_ok-ty.ty.is c.args.scene.now mid new
    (next_item all i x (omega arith) c.x-item.is) c.in_ok-push.ensures.ok c.loop-x.invariant (then_gave meant_of expr_of (expression q x) (λ y. pure y.is) mid new new c.in_ok-ty.ty c.in_ok-ty.ty.is c.in_ok-ty.ensures (gave expr_of c.in_ok-ty.ty.is new))

pub expressions::read_type_list-returns : goal.expressions::read_type_list-returns
expressions::read_type_list-returns t c =
    let q = in_sight c.args.constraints in
    let all = c.args.all.now in
    let i = c.loop-x.x-index in
    read_all expr_of (type_read q) (λ xs. type_list q (exprs xs)) refl all i c.loop-x.found c.args.scene.now c.loop-x.scene (none_behind all i (omega arith)) c.loop-x.invariant

pub expressions::read_entries-loop-entry-init : goal.expressions::read_entries-loop-entry-init
expressions::read_entries-loop-entry-init t c =
    let q = in_sight c.args.constraints in
    none_read named_expr_of (entry_of q) (λ es. entries_of q (entries es)) c.args.all.now c.new-found.result c.args.scene.now c.new-found.ensures

pub expressions::read_entries-loop-entry-preserved : goal.expressions::read_entries-loop-entry-preserved
expressions::read_entries-loop-entry-preserved t c =
    let q = in_sight c.args.constraints in
    let all = c.args.all.now in
    let i = c.loop-entry.entry-index in
    let x = c.entry-item.result in
    let mid = c.loop-entry.scene in
    let new = c.read_entry.new.scene in
    one_read named_expr_of (entry_of q) (λ es. entries_of q (entries es)) (λ x xs. refl) all i x c.loop-entry.found c.push.new.self c.in_ok-read_entry.field-0 c.args.scene.now mid new
    (next_item all i x (omega arith) c.entry-item.is) c.in_ok-push.ensures.ok c.loop-entry.invariant (c.in_ok-read_entry.ensures)

pub expressions::read_entries-returns : goal.expressions::read_entries-returns
expressions::read_entries-returns t c =
    let q = in_sight c.args.constraints in
    let all = c.args.all.now in
    let i = c.loop-entry.entry-index in
    read_all named_expr_of (entry_of q) (λ es. entries_of q (entries es)) refl all i c.loop-entry.found c.args.scene.now c.loop-entry.scene (none_behind all i (omega arith)) c.loop-entry.invariant

pub expressions::read_parts-returns : goal.expressions::read_parts-returns
expressions::read_parts-returns t c =
    let q = in_sight c.args.constraints in
    let at = c.args.at in
    let o = c.operation.inside in
    let s0 = c.args.scene.now in
    let s1 = c.read_operands.new.scene in
    let s2 = c.read_entries.new.scene in
    let s3 = c.read_types.new.scene in
    let xs = c.in_ok-operands.operands in
    let es = c.in_ok-entries.entries in
    let ts = c.in_ok-types.types in
    let p : PartsNode = record { operands = xs; entries = es; types = ts } in
    let entered = subst (λ l. Gave (map named_expr_of) (entries_of q (entries l)) s1 es s2) c.as_slice.ensures c.in_ok-entries.ensures in
    let last = then_gave (map expr_of) parts_of (types_at q (maybe_exprs o.types) at) (λ zs. all_parts (map expr_of xs) (map named_expr_of es) zs) s2 s3 s3 ts p c.in_ok-types.ensures (gave parts_of p s3) in
    let more = then_gave (map named_expr_of) parts_of (entries_of q (entries o.entries)) (λ ys. types_at q (maybe_exprs o.types) at >>= (λ zs. all_parts (map expr_of xs) ys zs)) s1 s2 s3 es p entered last in
    let all = then_gave (map expr_of) parts_of (operands_at q (maybe_exprs o.operands) at) (λ ws. entries_of q (entries o.entries) >>= (λ ys. types_at q (maybe_exprs o.types) at >>= (λ zs. all_parts ws ys zs))) s0 s1 s3 xs p c.in_ok-operands.ensures more in
    subst (λ v. Gave parts_of (parts_read q v at) s0 p s3) c.operation.view_is all

pub expressions::read_entry-returns : goal.expressions::read_entry-returns
expressions::read_entry-returns t c =
    let q = in_sight c.args.constraints in
    let e = c.entry.inside in
    let v = c.in_ok-value.value in
    let new = c.read_value.new.scene in
    let ne : NamedExpr = record { name = c.as_slice.result; value = v.is } in
    let first = then_gave meant_of named_expr_of (value_read q (maybe_expr e.value) e.at) (λ x. pure (c.as_slice.result.now, x.is)) c.args.scene.now new new v ne c.in_ok-value.ensures (gave named_expr_of ne new) in
    let is = ap (λ (n : List ℕ). value_read q (maybe_expr e.value) e.at >>= (λ x. pure (n, x.is))) c.as_slice.ensures ∙ (entry_is q e.at e.name (maybe_expr e.value) ∙ ap (entry_of q) c.entry.view_is) in
    subst (λ w. Gave named_expr_of w c.args.scene.now ne new) is first

pub expressions::read_ref_type-read_type_in-requires : goal.expressions::read_ref_type-read_type_in-requires
expressions::read_ref_type-read_type_in-requires t c =
    (omega (arith, c.decreases, ap ref_size c.one.view_is, ref_item c.args.all.now c.loop-one.one-index c.one-item.result (omega arith) c.one-item.is), tt)

pub expressions::read_ref_type-loop-one-preserved : goal.expressions::read_ref_type-loop-one-preserved
expressions::read_ref_type-loop-one-preserved t c =
    let q = in_sight c.args.constraints in
    let all = c.args.all.now in
    let i = c.loop-one.one-index in
    let r = c.one-item.result in
    let more = type_of_refs q (refs (drop (i + 1) all)) in
    let named = sym c.is_kind.ensures ∙ c.if-is_kind.false in
    (c.loop-one.invariant.0 ∙ (ap (λ (rs : List Ref). type_of_refs q (refs rs)) (next_item all i r (omega arith) c.one-item.is) ∙ passed q r more named), c.loop-one.invariant.1)

pub expressions::read_ref_type-returns-then-is_kind : goal.expressions::read_ref_type-returns-then-is_kind
expressions::read_ref_type-returns-then-is_kind t c =
    let q = in_sight c.args.constraints in
    let all = c.args.all.now in
    let i = c.loop-one.one-index in
    let r = c.one-item.result in
    let form = ref_form c.one.inside.form in
    let more = type_of_refs q (refs (drop (i + 1) all)) in
    let new = c.read_type_in.new.scene in
    let given = c.read_type_in.result in
    let unnamed = ap (λ (s : Ref). is_none (ref_name s)) c.one.view_is ∙ (sym c.is_kind.ensures ∙ c.if-is_kind.true) in
    let e = stopped q form more unnamed ∙ (ap (λ (s : Ref). type_of_ref q s more) c.one.view_is
    ∙ (ap (λ (rs : List Ref). type_of_refs q (refs rs)) (sym (next_item all i r (omega arith) c.one-item.is)) ∙ sym c.loop-one.invariant.0)) in
    subst (λ s. Does (option_map expr_of) (type_of_refs q (refs all)) s given new) c.loop-one.invariant.1
    (subst (λ w. Does (option_map expr_of) w c.loop-one.scene given new) e c.read_type_in.ensures)

pub expressions::read_ref_type-returns : goal.expressions::read_ref_type-returns
expressions::read_ref_type-returns t c =
    let q = in_sight c.args.constraints in
    let all = c.args.all.now in
    let i = c.loop-one.one-index in
    let here = c.loop-one.scene in
    let e = c.loop-one.invariant.0 ∙ ap (λ (rs : List Ref). type_of_refs q (refs rs)) (none_behind all i (omega arith)) in
    subst (λ w. Gave (option_map expr_of) w c.args.scene.now None here) (sym e)
    (subst (λ s. Gave (option_map expr_of) (pure None) s None here) c.loop-one.invariant.1 (gave (option_map expr_of) None here))

abbrev with_written : (List ℕ → Constrains) → ℕ → List Ref → Option Term → Written → Doing Scene (Meant Term)
with_written q at rs ty v = new_variable at v.kind >>= (λ z. ask_name z.is v.name >> (ask_type z.is ty >> (call_refs q rs z >> pure z)))

pub expressions::read_variable-returns : goal.expressions::read_variable-returns
expressions::read_variable-returns t c =
    let q = in_sight c.args.constraints in
    let at = c.args.at in
    let rs = c.args.all.now in
    let ty = option_map expr_of c.args.ty in
    let w = c.kind_of_refs-written.result in
    let x = c.in_ok-x.x in
    let y = meant_of x in
    let s0 = c.args.scene.now in
    let s1 = c.new_variable.new.self in
    let s2 = c.ask_name.new.self in
    let s3 = c.ask_type.new.self in
    let s4 = c.call_refs.new.scene in
    let last = then_gave (λ u. u) meant_of (call_refs q rs y) (λ _. pure y) s3 s4 s4 c.in_ok-call_refs.field-0 x c.in_ok-call_refs.ensures (gave meant_of x s4) in
    let typed = then_gave (λ u. u) meant_of (ask_type y.is ty) (λ _. call_refs q rs y >> pure y) s2 s3 s4 c.in_ok-ask_type.field-0 x c.in_ok-ask_type.ensures last in
    let named = then_gave (λ u. u) meant_of (ask_name y.is (written_of w).name) (λ _. ask_type y.is ty >> (call_refs q rs y >> pure y)) s1 s2 s4 c.in_ok-ask_name.field-0 x c.in_ok-ask_name.ensures typed in
    let all = then_gave meant_of meant_of (new_variable at (written_of w).kind) (λ z. ask_name z.is (written_of w).name >> (ask_type z.is ty >> (call_refs q rs z >> pure z))) s0 s1 s4 x x c.in_ok-x.ensures named in
    subst (λ (v : Written). Gave meant_of (with_written q at rs ty v) s0 x s4) c.kind_of_refs-written.ensures all

pub statements::read_exprs-loop-x-init : goal.statements::read_exprs-loop-x-init
statements::read_exprs-loop-x-init t c =
    let q = in_sight c.args.constraints in
    none_read meant_of (expression q) (λ xs. expressions q (exprs xs)) c.args.all.now c.new-found.result c.args.scene.now c.new-found.ensures

pub statements::read_exprs-loop-x-preserved : goal.statements::read_exprs-loop-x-preserved
statements::read_exprs-loop-x-preserved t c =
    let q = in_sight c.args.constraints in
    let all = c.args.all.now in
    let i = c.loop-x.x-index in
    let x = c.x-item.result in
    one_read meant_of (expression q) (λ xs. expressions q (exprs xs)) (λ x xs. refl) all i x c.loop-x.found c.push.new.self c.in_ok-read_expr.field-0
    c.args.scene.now c.loop-x.scene c.read_expr.new.scene (next_item all i x (omega arith) c.x-item.is) c.in_ok-push.ensures.ok c.loop-x.invariant c.in_ok-read_expr.ensures

pub statements::read_exprs-returns : goal.statements::read_exprs-returns
statements::read_exprs-returns t c =
    let q = in_sight c.args.constraints in
    let all = c.args.all.now in
    let i = c.loop-x.x-index in
    read_all meant_of (expression q) (λ xs. expressions q (exprs xs)) refl all i c.loop-x.found c.args.scene.now c.loop-x.scene (none_behind all i (omega arith)) c.loop-x.invariant

pub statements::read_call-returns : goal.statements::read_call-returns
statements::read_call-returns t c =
    let q = in_sight c.args.constraints in
    let n = c.args.name.now in
    let mid = c.read_exprs.new.scene in
    let new = c.call_constraint.new.scene in
    let r = c.call_constraint.result in
    let called = subst (λ ys. Does (λ u. u) ((q n).call (map meant_of ys)) mid r new) c.as_slice.ensures c.call_constraint.ensures in
    then_do (map meant_of) (λ u. u) (expressions q (exprs c.args.all.now)) (λ xs. (q n).call xs) c.args.scene.now mid new c.in_ok-arguments.arguments r c.in_ok-arguments.ensures called

pub statements::read_plain-returns-then-len-gt0 : goal.statements::read_plain-returns-then-len-gt0
statements::read_plain-returns-then-len-gt0 t c =
    let q = in_sight c.args.constraints in
    let x = c.x.inside in
    let e = ap (alone_read q) (sym c.x.view_is) ∙ (plain_members q x.at (expr_form x.form) x.members (omega arith) ∙ ap (plain q) c.x.view_is) in
    subst (λ w. Does (λ u. u) w c.args.scene.now c.read_alone.result c.read_alone.new.scene) e c.read_alone.ensures

pub statements::read_plain-returns-in-Call : goal.statements::read_plain-returns-in-Call
statements::read_plain-returns-in-Call t c =
    let q = in_sight c.args.constraints in
    let x = c.x.inside in
    let e = ap (λ n. call q n (exprs c.as_slice-in-Call.result.now)) c.as_slice.ensures
    ∙ (ap (λ xs. call q c.in-Call.name (exprs xs)) c.as_slice-in-Call.ensures
    ∙ (plain_call q x.at c.in-Call.name c.in-Call.all x.members (omega arith)
    ∙ (ap (λ form. plain q (expr x.at (with_members x.at (expr_form form) x.members))) (sym c.in-Call.is) ∙ ap (plain q) c.x.view_is))) in
    subst (λ w. Does (λ u. u) w c.args.scene.now c.read_call.result c.read_call.new.scene) e c.read_call.ensures

pub statements::read_plain-returns-in_default : goal.statements::read_plain-returns-in_default
statements::read_plain-returns-in_default t c =
    let q = in_sight c.args.constraints in
    let x = c.x.inside in
    let e = ap (alone_read q) (sym c.x.view_is) ∙ (plain_other q x.at x.form x.members (omega arith) c.in_default.not-Call ∙ ap (plain q) c.x.view_is) in
    subst (λ w. Does (λ u. u) w c.args.scene.now c.read_alone-in_default.result c.read_alone-in_default.new.scene) e c.read_alone-in_default.ensures

pub statements::read_stmt_form-returns-in_ok-x-in-Let : goal.statements::read_stmt_form-returns-in_ok-x-in-Let
statements::read_stmt_form-returns-in_ok-x-in-Let t c =
    let q = in_sight c.args.constraints in
    let name = c.in-Let.name in
    let value = c.in-Let.value in
    let x = c.in_ok-x-in-Let.x in
    let old = c.args.scene.now in
    let mid = c.read_let.new.scene in
    let new = c.see_name.new.self in
    let r = c.see_name.result in
    let read = subst (λ rs. Gave meant_of (let_value q rs value name.at) old x mid) c.as_slice.ensures c.in_ok-x-in-Let.ensures in
    let seen = subst (λ n. Does (λ u. u) (see_name n (meant_of x)) mid r new) c.as_slice-in-Let.ensures c.see_name.ensures in
    subst (λ f. Does (λ u. u) (form_read q (stmt_form f)) old r new) (sym c.in-Let.is)
    (then_do meant_of (λ u. u) (let_value q c.in-Let.refs value name.at) (λ y. see_name name.text y) old mid new x r read seen)

pub statements::read_stmts-loop-one-init : goal.statements::read_stmts-loop-one-init
statements::read_stmts-loop-one-init t c = all_left (statements (in_sight c.args.constraints) c.args.all.now) c.args.scene.now

pub statements::read_stmts-loop-one-preserved : goal.statements::read_stmts-loop-one-preserved
statements::read_stmts-loop-one-preserved t c =
    let q = in_sight c.args.constraints in
    let ss = c.args.all.now in
    let i = c.loop-one.one-index in
    let s = c.one-item.result in
    let behind = statements q (drop (i + 1) ss) in
    let old = c.args.scene.now in
    let mid = c.loop-one.scene in
    let before = left_as (statements q ss) (statements q (drop i ss)) (statement q s >> behind) old mid
    (λ u. ap (λ rest. statements q rest u) (next_item ss i s (omega arith) c.one-item.is)) c.loop-one.invariant in
    left_after (λ u. u) (statements q ss) (statement q s) (λ _. behind) old mid c.read_stmt.new.scene c.in_ok-read_stmt.field-0 before c.in_ok-read_stmt.ensures

pub statements::read_stmts-returns : goal.statements::read_stmts-returns
statements::read_stmts-returns t c =
    let q = in_sight c.args.constraints in
    let ss = c.args.all.now in
    let i = c.loop-one.one-index in
    none_left (λ u. u) (statements q ss) c.args.scene.now c.loop-one.scene tt
    (left_as (statements q ss) (statements q (drop i ss)) (statements q []) c.args.scene.now c.loop-one.scene
    (λ u. ap (λ rest. statements q rest u) (none_behind ss i (omega arith))) c.loop-one.invariant)

pub calls::call_refs-loop-one-init : goal.calls::call_refs-loop-one-init
calls::call_refs-loop-one-init t c = all_left (call_refs (in_sight c.args.constraints) c.args.all.now (meant_of c.args.x)) c.args.scene.now

pub calls::call_refs-loop-one-preserved : goal.calls::call_refs-loop-one-preserved
calls::call_refs-loop-one-preserved t c =
    let q = in_sight c.args.constraints in
    let rs = c.args.all.now in
    let x = meant_of c.args.x in
    let i = c.loop-one.one-index in
    let r = c.one-item.result in
    let behind = call_refs q (drop (i + 1) rs) x in
    let old = c.args.scene.now in
    let mid = c.loop-one.scene in
    let before = left_as (call_refs q rs x) (call_refs q (drop i rs) x) (call_named q x (ref_name r) >> behind) old mid
    (λ u. ap (λ rest. call_refs q rest x u) (next_item rs i r (omega arith) c.one-item.is)) c.loop-one.invariant in
    left_after (λ u. u) (call_refs q rs x) (call_named q x (ref_name r)) (λ _. behind) old mid c.call_named.new.scene c.in_ok-call_named.field-0 before c.in_ok-call_named.ensures

pub calls::call_refs-returns : goal.calls::call_refs-returns
calls::call_refs-returns t c =
    let q = in_sight c.args.constraints in
    let rs = c.args.all.now in
    let x = meant_of c.args.x in
    let i = c.loop-one.one-index in
    none_left (λ u. u) (call_refs q rs x) c.args.scene.now c.loop-one.scene tt
    (left_as (call_refs q rs x) (call_refs q (drop i rs) x) (call_refs q [] x) c.args.scene.now c.loop-one.scene
    (λ u. ap (λ rest. call_refs q rest x u) (none_behind rs i (omega arith))) c.loop-one.invariant)

pub calls::call_params-loop-at-preserved : goal.calls::call_params-loop-at-preserved
calls::call_params-loop-at-preserved t c =
    let q = in_sight c.args.constraints in
    let ps = c.args.params.now in
    let xs = c.args.arguments.now in
    let i = c.loop-at.at in
    let p = c.index-params-at.result in
    let none : MeantNode = record { kind = Attr; is = The 0 } in
    let x = meant_of (get_or xs i none) in
    let whole = call_params q ps (map meant_of xs) in
    let behind = call_params q (drop (i + 1) ps) (map meant_of (drop (i + 1) xs)) in
    let old = c.args.scene.now in
    let mid = c.loop-at.scene in
    let before = left_as whole (call_params q (drop i ps) (map meant_of (drop i xs))) (call_refs q p.refs x >> behind) old mid
    (λ u. ap (λ (l : List Param). call_params q l (map meant_of (drop i xs)) u) (next_item ps i p c.loop-at-test.true c.index-params-at.is)
    ∙ ap (λ l. call_params q (p ∷ drop (i + 1) ps) (map meant_of l) u) (next_of xs i none c.if-at-arguments.true)) c.loop-at.invariant in
    let called = subst (λ rs. Gave (λ u. u) (call_refs q rs x) mid c.in_ok-call_refs.field-0 c.call_refs.new.scene) c.as_slice.ensures c.in_ok-call_refs.ensures in
    left_after (λ u. u) whole (call_refs q p.refs x) (λ _. behind) old mid c.call_refs.new.scene c.in_ok-call_refs.field-0 before called

pub calls::call_params-returns-after-loop-at : goal.calls::call_params-returns-after-loop-at
calls::call_params-returns-after-loop-at t c =
    let q = in_sight c.args.constraints in
    let ps = c.args.params.now in
    let xs = c.args.arguments.now in
    let i = c.loop-at.at in
    let ys = map meant_of (drop i xs) in
    let whole = call_params q ps (map meant_of xs) in
    let old = c.args.scene.now in
    let mid = c.loop-at.scene in
    none_left (λ u. u) whole old mid tt (left_as whole (call_params q (drop i ps) ys) (pure tt) old mid (λ u. ap (λ (l : List Param). call_params q l ys u) (none_behind ps i (omega arith))) c.loop-at.invariant)

pub calls::call_params-returns-else-at-arguments : goal.calls::call_params-returns-else-at-arguments
calls::call_params-returns-else-at-arguments t c =
    let q = in_sight c.args.constraints in
    let ps = c.args.params.now in
    let xs = c.args.arguments.now in
    let i = c.loop-at.at in
    let ys = map meant_of (drop i xs) in
    let whole = call_params q ps (map meant_of xs) in
    let old = c.args.scene.now in
    let mid = c.loop-at.scene in
    none_left (λ u. u) whole old mid tt (left_as whole (call_params q (drop i ps) ys) (pure tt) old mid
    (λ u. ap (λ l. call_params q (drop i ps) (map meant_of l) u) (none_behind xs i (omega arith)) ∙ ap (λ w. w u) (no_arguments q (drop i ps))) c.loop-at.invariant)

pub calls::run_body-returns : goal.calls::run_body-returns
calls::run_body-returns t c =
    let q = in_sight c.args.constraints in
    let call = c.args.call.now in
    let xs = map meant_of c.args.arguments.now in
    let s0 = c.args.scene.now in
    let s1 = c.call_params.new.scene in
    let called = subst (λ (ps : List Param). Gave (λ u. u) (call_params q ps xs) s0 c.in_ok-call_params.field-0 s1) c.as_slice.ensures c.in_ok-call_params.ensures in
    then_do (λ u. u) (λ u. u) (call_params q call.params xs) (λ _. body_asks q call.body) s0 s1 c.read_body.new.scene c.in_ok-call_params.field-0 c.read_body.result called c.read_body.ensures

pub calls::call_body-returns : goal.calls::call_body-returns
calls::call_body-returns t c =
    let q = in_sight c.args.constraints in
    let call = c.args.call.now in
    let xs = map meant_of c.args.arguments.now in
    let names = named_together (param_names call.params) xs in
    let old = c.args.scene.now in
    let mid = c.enter.new.scene in
    let outer = c.in_ok-outer.outer in
    let e = subst (λ (ps : List Param). HasExchanged (named_together (param_names ps) xs) old outer mid) c.as_slice.ensures c.in_ok-outer.ensures in
    put_back names (body_read q call xs) old mid c.run_body-done.new.scene c.put_back.new.self c.run_body-done.result (exchanged names old mid outer e) c.run_body-done.ensures
    c.put_back.ensures.kinds c.put_back.ensures.places c.put_back.ensures.demands
    (λ n. ap (λ o. option_map meant_of (get_by (λ k. bytes_eq n k.now) o)) c.put_back.ensures.names ∙ sym (e.outside n))

pub calls::call_found-returns-in_default : goal.calls::call_found-returns-in_default
calls::call_found-returns-in_default t c =
    let s = c.args.constraints in
    let f = c.args.found in
    let xs = map meant_of c.args.arguments.now in
    subst (λ w. Does (λ u. u) w c.args.scene.now c.call_body.result c.call_body.new.scene)
    (body_call (behind (take f.at (calls_of s.constraints.now))) f.call.now f.call.now.body xs c.in_default.not-Absent) c.call_body.ensures

pub calls::call_constraint-call_found-requires : goal.calls::call_constraint-call_found-requires
calls::call_constraint-call_found-requires t c =
    let s = c.args.constraints in
    let f = c.in-Some.found in
    (omega (arith, c.decreases, deeper s.constraints.now f.at s.count f.call.now c.in-Some.ensures.within c.in-Some.ensures.there), tt)

pub statements::read_exprs-read_expr-requires : goal.statements::read_exprs-read_expr-requires
statements::read_exprs-read_expr-requires t c =
    (omega (arith, c.decreases, expr_item c.args.all.now c.loop-x.x-index c.x-item.result (omega arith) c.x-item.is), tt)

pub statements::read_stmts-read_stmt-requires : goal.statements::read_stmts-read_stmt-requires
statements::read_stmts-read_stmt-requires t c =
    (omega (arith, c.decreases, stmt_item c.args.all.now c.loop-one.one-index c.one-item.result (omega arith) c.one-item.is), tt)
