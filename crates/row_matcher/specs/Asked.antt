-- Which pattern the program's demands are.
use Rattle.std.specs.Prelude.{◌≡◌, ℕ, List, map}
use Rattle.native_set.specs.declared.native.Kind.{Kind}
use Rattle.rewrite_model.specs.Pattern.{Pattern}
use Rattle.pdll_expand.specs.declared.demand.Demand.{Demand as DemandNode}
use Rattle.pdll_expand.specs.View.{demand_of}

-- The pattern numbers things of these kinds, asks for this, and has this root.
pub record Asks (kinds : List Kind) (demands : List DemandNode) (root : ℕ) (p : Pattern) : Type 0 where
  pub kinds_are : p.kinds ≡ kinds
  pub demands_are : p.demands ≡ map demand_of demands
  pub root_is : p.root ≡ root
