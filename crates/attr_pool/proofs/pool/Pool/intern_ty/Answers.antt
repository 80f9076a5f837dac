use Rattle.std.proofs.Common.{subst, sym}
use Rattle.std.specs.Ordering.{eq_by_cmp}
use Rattle.mlir_tree.specs.Order.{ty_cmp}
use Rattle.attr_pool.specs.Lists.{Interns}
use Rattle.attr_pool.proofs.Places.{found, added}
use Rattle.attr_pool.proofs.Sorts.{ty_itself, same_ty}
use Rattle.attr_pool.proofs.pool.Pool.intern_ty.Goals as goal

pub returns-in-Some-clause-interned : goal.returns-in-Some-clause-interned
returns-in-Some-clause-interned c =
    subst (λ l. Interns l.types l.types c.args.ty.now c.in-Some.place) c.self.view_is
    (found (eq_by_cmp ty_cmp) ty_itself same_ty c.args.ty.now c.self.inside.types.keys c.in-Some.place (sym c.in-Some.ensures.index))

pub returns-clause-interned : goal.returns-clause-interned
returns-clause-interned c =
    let (k, at, same) = c.in_ok-place.ensures.stored in
    subst (λ l. Interns l.types c.insert_full.new.self.keys c.args.ty.now c.in_ok-place.place) c.self.view_is
    (subst (λ x. Interns c.self.inside.types.keys c.insert_full.new.self.keys x c.in_ok-place.place) c.in_ok-copy.ensures
    (added (eq_by_cmp ty_cmp) ty_itself same_ty _ c.self.inside.types.keys c.insert_full.new.self.keys c.in_ok-place.place k c.in_ok-place.ensures.keys at same))
