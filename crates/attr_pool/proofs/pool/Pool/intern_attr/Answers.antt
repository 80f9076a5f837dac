use Rattle.std.proofs.Common.{subst, sym}
use Rattle.std.specs.Ordering.{eq_by_cmp}
use Rattle.mlir_tree.specs.Order.{attr_cmp}
use Rattle.attr_pool.specs.Lists.{Interns}
use Rattle.attr_pool.proofs.Places.{found, added}
use Rattle.attr_pool.proofs.Sorts.{attr_itself, same_attr}
use Rattle.attr_pool.proofs.pool.Pool.intern_attr.Goals as goal

pub returns-in-Some-clause-interned : goal.returns-in-Some-clause-interned
returns-in-Some-clause-interned c =
    subst (λ l. Interns l.attributes l.attributes c.args.attr.now c.in-Some.place) c.self.view_is
    (found (eq_by_cmp attr_cmp) attr_itself same_attr c.args.attr.now c.self.inside.attributes.keys c.in-Some.place (sym c.in-Some.ensures.index))

pub returns-clause-interned : goal.returns-clause-interned
returns-clause-interned c =
    let (k, at, same) = c.in_ok-place.ensures.stored in
    subst (λ l. Interns l.attributes c.insert_full.new.self.keys c.args.attr.now c.in_ok-place.place) c.self.view_is
    (subst (λ x. Interns c.self.inside.attributes.keys c.insert_full.new.self.keys x c.in_ok-place.place) c.in_ok-copy.ensures
    (added (eq_by_cmp attr_cmp) attr_itself same_attr _ c.self.inside.attributes.keys c.insert_full.new.self.keys c.in_ok-place.place k c.in_ok-place.ensures.keys at same))
