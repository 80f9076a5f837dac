-- What the writes of an edit make of the links.
use Rattle.std.proofs.Common.{◌≡◌, ◌≢◌, ◌<◌, arith, inl, inr, ℕ, Option, Some, None, refl, sym, ap, ◌∙◌, subst}
use Rattle.std.specs.Prelude.{IsSome}
use Rattle.std.proofs.lemmas.Bool.{cases_eq}
use Rattle.slab.specs.Slab.{Slab, get, Updates, ContainsKey}
use Rattle.order_labels.specs.declared.links.Link.{Link}
use Rattle.order_labels.specs.Chain.{link_at, link_or, label_of, prev_of, next_of, Sets, Inserts}

-- what a write writes back is the same everywhere
pub field_kept : {B : Type 0} (f : Link → B) (old new : ℕ → Link) (x : ℕ) (k : Link) → Sets old new x k → f k ≡ f (old x) → (y : ℕ) → f (new y) ≡ f (old y)
field_kept f old new x k s e y = elim (cases_eq y x) [
  | inl is ↦ ap f (ap new is ∙ s.here) ∙ (e ∙ sym (ap f (ap old is)))
  | inr not ↦ ap f (s.others y not)
]

-- a key with a value is none without
pub differs : (s : Slab Link) (x y : ℕ) → get s x ≡ None → ContainsKey s y → x ≢ y
differs s x y n k e =
    let P : Option Link → Type 0 = λ o. IsSome o in
    let no : get s y ≡ None = sym (ap (get s) e) ∙ n in
    let bad : P None = subst P no k in
    cc

pub updated : (old new : Slab Link) (x : ℕ) (k : Link) → Updates old new x (Some k) → Sets (link_at old) (link_at new) x k
updated old new x k u = record { here = ap link_or u.changed; others = λ y n. ap link_or (u.others y n) }

module _ (old one two new : ℕ → Link) (x at p : ℕ) (k : Link) (p_is : p ≡ prev_of old at) (s : Sets old one x k)
    (t : Sets one two p (record (one p) { next = record { 0 = x } })) (u : Sets two new at (record (two at) { prev = record { 0 = x } }))
    (prev : k.prev.0 ≡ p) (next : k.next.0 ≡ at) (not_at : x ≢ at) (not_prev : x ≢ p) where
  last : {B : Type 0} (f : Link → B) → f (record (two at) { prev = record { 0 = x } }) ≡ f (two at) → (y : ℕ) → f (new y) ≡ f (two y)
  last f e = field_kept f two new at (record (two at) { prev = record { 0 = x } }) u e

  middle : {B : Type 0} (f : Link → B) → f (record (one p) { next = record { 0 = x } }) ≡ f (one p) → (y : ℕ) → f (two y) ≡ f (one y)
  middle f e = field_kept f one two p (record (one p) { next = record { 0 = x } }) t e

  pub inserts : Inserts old new x at k.label k.id
  inserts = record {
    into = ap (next_of new) (sym p_is) ∙ (last (λ l. l.next.0) refl p ∙ ap (λ l. l.next.0) t.here);
    out = last (λ l. l.next.0) refl x ∙ (ap (λ l. l.next.0) (t.others x not_prev) ∙ (ap (λ l. l.next.0) s.here ∙ next));
    back_into = ap (λ l. l.prev.0) u.here;
    back_out = ap (λ l. l.prev.0) (u.others x not_at) ∙ (middle (λ l. l.prev.0) refl x ∙ (ap (λ l. l.prev.0) s.here ∙ (prev ∙ p_is)));
    labelled = last (λ l. l.label) refl x ∙ (middle (λ l. l.label) refl x ∙ ap (λ l. l.label) s.here);
    named = last (λ l. l.id) refl x ∙ (middle (λ l. l.id) refl x ∙ ap (λ l. l.id) s.here);
    nexts = λ y n m. last (λ l. l.next.0) refl y ∙ (ap (λ l. l.next.0) (t.others y (λ e. n (e ∙ p_is))) ∙ ap (λ l. l.next.0) (s.others y m));
    prevs = λ y n m. ap (λ l. l.prev.0) (u.others y n) ∙ (middle (λ l. l.prev.0) refl y ∙ ap (λ l. l.prev.0) (s.others y m));
    labels = λ y m. last (λ l. l.label) refl y ∙ (middle (λ l. l.label) refl y ∙ ap (λ l. l.label) (s.others y m));
    names = λ y m. last (λ l. l.id) refl y ∙ (middle (λ l. l.id) refl y ∙ ap (λ l. l.id) (s.others y m));
  }

labelled_by : (o : Option Link) → 0 < (link_or o).label → IsSome o
labelled_by None l = absurd (omega (arith, l))
labelled_by (Some k) l = refl

-- a slot with a label above 0 holds something
pub labelled_there : (s : Slab Link) (x : ℕ) → 0 < label_of (link_at s) x → ContainsKey s x
labelled_there s x l = labelled_by (get s x) l
