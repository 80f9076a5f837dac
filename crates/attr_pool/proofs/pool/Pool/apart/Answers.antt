use Rattle.std.proofs.Common.{subst}
use Rattle.std.specs.Ordering.{eq_by_cmp}
use Rattle.mlir_tree.specs.Order.{ty_cmp, attr_cmp}
use Rattle.attr_pool.specs.Lists.{AreApart}
use Rattle.attr_pool.proofs.Places.{apart}
use Rattle.attr_pool.proofs.Named.{apart_names}
use Rattle.attr_pool.proofs.Sorts.{ty_itself, same_ty, attr_itself, same_attr}
use Rattle.attr_pool.proofs.pool.Pool.apart.Goals as goal

pub returns-clause-types : goal.returns-clause-types
returns-clause-types c = subst (λ l. AreApart l.types) c.self.view_is (apart (eq_by_cmp ty_cmp) ty_itself same_ty c.self.inside.types.keys c.len.ensures.unique)

pub returns-clause-attributes : goal.returns-clause-attributes
returns-clause-attributes c = subst (λ l. AreApart l.attributes) c.self.view_is (apart (eq_by_cmp attr_cmp) attr_itself same_attr c.self.inside.attributes.keys c.len-2.ensures.unique)

pub returns-clause-names : goal.returns-clause-names
returns-clause-names c = subst (λ l. AreApart l.names) c.self.view_is (apart_names c.self.inside.names.entries c.self.invariant c.len-3.ensures.unique)
