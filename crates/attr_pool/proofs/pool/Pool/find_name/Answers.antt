use Rattle.std.proofs.Common.{◌≡◌, slice_get, Some, subst, sym, ap, ◌∙◌, refl, is_some}
use Rattle.attr_pool.specs.Lists.{IsAbsent}
use Rattle.attr_pool.proofs.Named.{here, missing, not_there, finds}
use Rattle.attr_pool.proofs.pool.Pool.find_name.Goals as goal

pub returns-in-Some-clause-found : goal.returns-in-Some-clause-found
returns-in-Some-clause-found c =
    let asked : finds c.as_slice.result.now c.self.inside.names.entries ≡ finds c.args.name.now c.self.inside.names.entries = ap (λ n. finds n c.self.inside.names.entries) c.as_slice.ensures in
    subst (λ l. slice_get l.names c.in-Some.place ≡ Some c.args.name.now) c.self.view_is
    (here c.args.name.now c.self.inside.names.entries c.self.invariant c.in-Some.place (c.in-Some.ensures.value ∙ asked) (sym (c.in-Some.ensures.found ∙ ap is_some (asked))))

pub returns-in-Some-clause-none : goal.returns-in-Some-clause-none
returns-in-Some-clause-none c = (λ e. absurd (cc), λ a. absurd (a c.in-Some.place (returns-in-Some-clause-found c)))

pub returns-in-None-clause-none : goal.returns-in-None-clause-none
returns-in-None-clause-none c = (
  λ e. subst (λ l. IsAbsent c.args.name.now l.names) c.self.view_is
      (not_there c.args.name.now c.self.inside.names.entries c.self.invariant
      (missing _ (ap (λ n. is_some (finds n c.self.inside.names.entries)) (sym c.as_slice.ensures) ∙ sym c.in-None.ensures.found))),
  λ a. refl,
)
