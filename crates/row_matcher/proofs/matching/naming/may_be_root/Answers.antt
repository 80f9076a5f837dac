use Rattle.std.proofs.Common.{sym, subst}
use Rattle.std.specs.Prelude.{IsTrue}
use Rattle.rewrite_model.specs.Holding.{Holds}
use Rattle.pdll_expand.specs.View.{demand_of}
use Rattle.row_matcher.proofs.Naming.{one_of_all}
use Rattle.row_matcher.proofs.matching.naming.may_be_root.Goals as goal

pub returns-then-not-allows : goal.returns-then-not-allows
returns-then-not-allows c rows a e h =
    subst IsTrue c.if-not-allows.true (c.allows.ensures rows a e (subst (λ d. Holds rows a (demand_of d)) (sym c.demand-item.is)
    (one_of_all demand_of (Holds rows a) c.args.demands.now c.loop-demand.demand-index c.demand-item.result c.loop-demand-test.true h)))
