use Rattle.std.proofs.Common.{subst, sym, inl, refl, None, ◌≡◌}
use Rattle.attr_pool.specs.Lists.{Interns}
use Rattle.attr_pool.specs.Names.{names_of, AreNamed}
use Rattle.indexmap.specs.IndexMap.{insert_entry}
use Rattle.attr_pool.proofs.Named.{here, missing, finds, key_eq, still_named, interned}
use Rattle.attr_pool.proofs.pool.Pool.intern_name.Goals as goal

pub returns-in-Some-clause-interned : goal.returns-in-Some-clause-interned
returns-in-Some-clause-interned c =
    subst (λ l. Interns l.names l.names c.args.name.now c.in-Some.place) c.self.view_is
    (record { here = here c.args.name.now c.self.inside.names.entries c.self.invariant c.in-Some.place c.in-Some.ensures.value (sym c.in-Some.ensures.found); kept = inl refl })

pub invariant_of-self-2 : goal.invariant_of-self-2
invariant_of-self-2 c =
    let m = c.self.inside.names in
    let new : finds c.args.name.now m.entries ≡ None = missing _ (sym c.in_default.ensures.found) in
    subst AreNamed (sym c.in_ok-insert.ensures.entries)
    (subst (λ t. AreNamed (insert_entry key_eq m.entries c.in_ok-bytes.bytes t)) (sym c.in_ok-text.ensures) (still_named m c.in_ok-bytes.bytes c.args.name.now c.self.invariant c.in_ok-bytes.ensures.items new))

pub returns-clause-interned : goal.returns-clause-interned
returns-clause-interned c =
    let m = c.self.inside.names in
    let new : finds c.args.name.now m.entries ≡ None = missing _ (sym c.in_default.ensures.found) in
    subst (λ l. Interns l.names (names_of c.insert.new.self.entries) c.args.name.now c.len-place.result) c.self.view_is
    (subst (λ es. Interns (names_of m.entries) (names_of es) c.args.name.now c.len-place.result) (sym c.in_ok-insert.ensures.entries)
    (subst (λ t. Interns (names_of m.entries) (names_of (insert_entry key_eq m.entries c.in_ok-bytes.bytes t)) c.args.name.now c.len-place.result) (sym c.in_ok-text.ensures)
    (subst (λ n. Interns (names_of m.entries) (names_of (insert_entry key_eq m.entries c.in_ok-bytes.bytes c.args.name.now)) c.args.name.now n) (sym c.len-place.ensures.len)
    (interned m c.in_ok-bytes.bytes c.args.name.now c.self.invariant c.in_ok-bytes.ensures.items new))))
