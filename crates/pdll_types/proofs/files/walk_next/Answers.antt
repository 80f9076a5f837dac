use Rattle.std.proofs.Common.{ap, sym, subst, ◌∙◌}
use Rattle.pdll_types.specs.Judged.{Later}
use Rattle.pdll_types.proofs.Fresh.{new_name}
use Rattle.pdll_types.proofs.Nexts.{by_names, by_later, by_none}
use Rattle.pdll_types.proofs.files.walk_next.Goals as goal

pub declare-requires : goal.declare-requires
declare-requires c = λ n same. new_name c.args.earlier.now.table c.args.one.now c.args.walk.now n (ap (λ w. w.least) (sym c.in_ok-walk_one.ensures) ∙ c.in_default.is) same

pub returns-in-Some-clause-next : goal.returns-in-Some-clause-next
returns-in-Some-clause-next c = λ k ds e.
    by_names c.args.earlier.now c.args.earlier.now k ds c.args.one.now c.args.walk.now c.in-Some.fault e
    (ap (λ w. w.least) (sym c.in_ok-walk_one.ensures) ∙ c.in-Some.is)

pub returns-in-Some-2-clause-next : goal.returns-in-Some-2-clause-next
returns-in-Some-2-clause-next c = λ k ds e.
    by_later c.args.earlier.now c.args.earlier.now k ds c.args.one.now c.args.walk.now c.in-Some-2.fault e
    (ap (λ w. w.least) (sym c.in_ok-walk_one.ensures) ∙ c.in_default.is)
    (subst (Later ds c.args.one.now) c.in-Some-2.is (c.in_ok-fault.ensures k ds e))

pub returns-clause-next : goal.returns-clause-next
returns-clause-next c = λ k ds e.
    by_none c.args.earlier.now c.declare.new.self k ds c.args.one.now c.args.walk.now e
    (ap (λ w. w.least) (sym c.in_ok-walk_one.ensures) ∙ c.in_default.is)
    (subst (Later ds c.args.one.now) c.in_default-2.is (c.in_ok-fault.ensures k ds e))
    (c.in_ok-declare.ensures k ds e)
