-- The uses of values by their nodes.
use Rattle.std.proofs.Common.{◌≡◌, ◌⊎◌, inl, inr, ℕ, List, [], ◌∷◌, ◌++◌, length, map, refl, sym, ap, ap₂, ◌∙◌, subst, arith}
use Rattle.std.proofs.lemmas.List.{length-map, map-append}
use Rattle.mlir_tree.specs.declared.value.Val.{Val}
use Rattle.use_lists.specs.declared.nodes.Node.{Node}
use Rattle.use_lists.specs.declared.nodes.Node.TheVariants.{Head, Use}
use Rattle.use_lists.specs.Chain.{IsIn, IsApart, IsChain, IsFollowed}
use Rattle.use_lists.specs.Rings.{Lists, links_in, uses_in, use_of, use_at, nodes_of, count_of, IsUse, AreRings}
use Rattle.std.specs.Prelude.{slice_get}
use Rattle.std.proofs.Common.{Option, Some, None, ◌<◌}
use Rattle.std.specs.Prelude.{IsSome}
use Rattle.std.specs.Map.{lookup}
use Rattle.use_lists.specs.declared.nodes.Link.{Link}
use Rattle.use_lists.specs.Nodes.{same, link_or, no_link}
use Rattle.use_lists.specs.Chain.{TakesOut}
use Rattle.use_lists.specs.Rings.{next_of, prev_of, owner_of}
use Rattle.use_lists.proofs.Chains.{in_back}
use Rattle.use_lists.proofs.Rings.{follows_there, counted_nodes, owner_there, into_there, out_there, some_there, not_before, not_after}

pub mapped_in : {A B : Type 0} (f : A → B) (x : A) (xs : List A) → IsIn x xs → IsIn (f x) (map f xs)
mapped_in f x [] i = absurd i
mapped_in f x (y ∷ ys) (inl e) = inl (ap f e)
mapped_in f x (y ∷ ys) (inr i) = inr (mapped_in f x ys i)

pub count_is : (s : Lists) (v : Val) → count_of (links_in s.entries) (Head v) ≡ length (uses_in s v)
count_is s v = sym (counted_nodes (links_in s.entries) v) ∙ sym (length-map (nodes_of (links_in s.entries) v) use_of)

pub absent_nodes : (s now : Lists) (r p : ℕ) → s ≡ now → ((w : Val) → ¬ IsIn (r, p) (uses_in now w)) → (w : Val) → ¬ IsIn (Use r p) (nodes_of (links_in s.entries) w)
absent_nodes s now r p e absent w i =
    absent w (subst (λ z. IsIn (r, p) (uses_in z w)) e (mapped_in use_of (Use r p) (nodes_of (links_in s.entries) w) i))

pub count_seen : (s now : Lists) (v : Val) → s ≡ now → count_of (links_in s.entries) (Head v) ≡ length (uses_in now v)
count_seen s now v e = count_is s v ∙ ap (λ z. length (uses_in z v)) e

unmapped_in : (r p : ℕ) (xs : List Node) → ((x : Node) → IsIn x xs → IsUse x) → IsIn (r, p) (map use_of xs) → IsIn (Use r p) xs
unmapped_in r p [] u i = absurd i
unmapped_in r p (Head v ∷ xs) u i = absurd (u (Head v) (inl refl))
unmapped_in r p (Use a b ∷ xs) u (inl e) = inl (ap₂ Use (ap (λ q. q.0) e) (ap (λ q. q.1) e))
unmapped_in r p (Use a b ∷ xs) u (inr i) = inr (unmapped_in r p xs (λ x j. u x (inr j)) i)

pub there_nodes : (s now : Lists) (v : Val) (r p : ℕ) → AreRings (links_in s.entries) → s ≡ now → IsIn (r, p) (uses_in now v) → IsIn (Use r p) (nodes_of (links_in s.entries) v)
there_nodes s now v r p rings e i =
    unmapped_in r p (nodes_of (links_in s.entries) v) (rings v).uses (subst (λ z. IsIn (r, p) (uses_in z v)) (sym e) i)

pub empty_rings : AreRings (links_in [])
unfolding nodes_of
empty_rings v = record { chain = (refl, refl); apart = tt; uses = λ x i. absurd i; owned = λ x i. absurd i }

pub empty_uses : (n : ℕ) (v : Val) → uses_in (record { entries = []; spare = n }) v ≡ []
unfolding nodes_of
empty_uses n v = refl

seen_by : (y : Node) (o : Option Link) → IsSome o ⊎ (link_or y o ≡ no_link y)
seen_by y None = inr refl
seen_by y (Some k) = inl refl

seen : (es : List (Node × Link)) (y : Node) → IsSome (lookup (same y) es) ⊎ (links_in es y ≡ no_link y)
seen es y = seen_by y (lookup (same y) es)

no_next : (y : Node) → (no_link y).next ≡ y
no_next (Head v) = refl
no_next (Use r p) = refl

no_prev : (y : Node) → (no_link y).prev ≡ y
no_prev (Head v) = refl
no_prev (Use r p) = refl

module _ (es : List (Node × Link)) (rings : AreRings (links_in es)) (v : Val) (r p : ℕ) (there : IsIn (Use r p) (nodes_of (links_in es) v)) where
  old : Node → Link
  old = links_in es

  pub has_before : IsSome (lookup (same (prev_of (links_in es) (Use r p))) es)
  has_before = elim (seen es (prev_of (links_in es) (Use r p))) [
    | inl s ↦ s
    | inr n ↦ absurd (not_before (links_in es) rings v (Use r p) there
        (sym (no_next (prev_of (links_in es) (Use r p))) ∙ (sym (ap (λ k. k.next) n) ∙ into_there (links_in es) rings v (Use r p) there)))
  ]

  pub has_after : IsSome (lookup (same (next_of (links_in es) (Use r p))) es)
  has_after = elim (seen es (next_of (links_in es) (Use r p))) [
    | inl s ↦ s
    | inr n ↦ absurd (not_after (links_in es) rings v (Use r p) there
        (sym (no_prev (next_of (links_in es) (Use r p))) ∙ (sym (ap (λ k. k.prev) n) ∙ out_there (links_in es) rings v (Use r p) there)))
  ]

  has_own : IsSome (lookup (same (Head v)) es)
  has_own = elim (seen es (Head v)) [
    | inl s ↦ s
    | inr n ↦ absurd (omega (arith, some_there (links_in es) rings v (Use r p) there, ap (λ k. k.count) n))
  ]

  pub has_head : IsSome (lookup (same (Head (owner_of (links_in es) (Use r p)))) es)
  has_head = subst (λ w. IsSome (lookup (same (Head w)) es)) (sym (owner_there (links_in es) rings v (Use r p) there)) has_own

  pub has_some : 0 < count_of (links_in es) (Head (owner_of (links_in es) (Use r p)))
  has_some = subst (λ w. 0 < count_of (links_in es) (Head w)) (sym (owner_there (links_in es) rings v (Use r p) there)) (some_there (links_in es) rings v (Use r p) there)

pub taken_uses : (es es' : List (Node × Link)) (n : ℕ) (now : Lists) (v : Val) (r p : ℕ) → record { entries = es; spare = n } ≡ now
    → ((us : List Node) × (vs : List Node) × (nodes_of (links_in es) v ≡ us ++ Use r p ∷ vs) × (nodes_of (links_in es') v ≡ us ++ vs))
    → TakesOut (r, p) (uses_in now v) (map use_of (nodes_of (links_in es') v))
taken_uses es es' n now v r p e (us, vs, a, b) =
    subst (λ s. TakesOut (r, p) (uses_in s v) (map use_of (nodes_of (links_in es') v))) e
    (map use_of us, map use_of vs, ap (map use_of) a ∙ map-append use_of us (Use r p ∷ vs), ap (map use_of) b ∙ map-append use_of us vs)

use_found : (x : Node) → IsUse x → use_at x ≡ Some (use_of x)
use_found (Head v) u = absurd u
use_found (Use r p) u = refl

head_found : (links : Node → Link) (a : Node) (v : Val) (xs : List Node) → IsChain (next_of links) (prev_of links) a xs (Head v) → ((x : Node) → IsIn x xs → IsUse x)
    → use_at (next_of links a) ≡ slice_get (map use_of xs) 0
head_found links a v [] c u = ap use_at c.0
head_found links a v (x ∷ xs) c u = ap use_at c.0 ∙ use_found x (u x (inl refl))

pub first_is : (s now : Lists) (v : Val) → AreRings (links_in s.entries) → s ≡ now → use_at (next_of (links_in s.entries) (Head v)) ≡ slice_get (uses_in now v) 0
first_is s now v rings e =
    head_found (links_in s.entries) (Head v) v (nodes_of (links_in s.entries) v) (rings v).chain (rings v).uses ∙ ap (λ z. slice_get (uses_in z v) 0) e

pub next_is : (s now : Lists) (v : Val) (r p : ℕ) → AreRings (links_in s.entries) → s ≡ now → IsIn (r, p) (uses_in now v)
    → IsFollowed (r, p) (uses_in now v) (use_at (next_of (links_in s.entries) (Use r p)))
next_is s now v r p rings e i =
    let x = Use r p in
    let (us, vs, is, c) = follows_there (links_in s.entries) rings v x (there_nodes s now v r p rings e i) in
    let nodes = nodes_of (links_in s.entries) v in (
      map use_of us,
      map use_of vs,
      ap (λ z. uses_in z v) (sym e) ∙ (ap (map use_of) is ∙ map-append use_of us (x ∷ vs)),
      head_found (links_in s.entries) x v vs c (λ y j. (rings v).uses y (subst (IsIn y) (sym is) (in_back y us (x ∷ vs) (inr j)))),
    )

mapped_apart : (xs : List Node) → ((x : Node) → IsIn x xs → IsUse x) → IsApart xs → IsApart (map use_of xs)
mapped_apart [] u a = tt
mapped_apart (Head v ∷ xs) u a = absurd (u (Head v) (inl refl))
mapped_apart (Use r p ∷ xs) u a = (λ i. a.0 (unmapped_in r p xs (λ x j. u x (inr j)) i), mapped_apart xs (λ x j. u x (inr j)) a.1)

pub apart_uses : (s now : Lists) (v : Val) → AreRings (links_in s.entries) → s ≡ now → IsApart (uses_in now v)
apart_uses s now v rings e =
    subst (λ z. IsApart (uses_in z v)) e (mapped_apart (nodes_of (links_in s.entries) v) (rings v).uses (rings v).apart)

-- a use that is listed has a link
pub member_there : (es : List (Node × Link)) → AreRings (links_in es) → (v : Val) (y : Node) → IsIn y (nodes_of (links_in es) v) → IsSome (lookup (same y) es)
member_there es rings v y i = elim (seen es y) [
  | inl s ↦ s
  | inr n ↦ absurd (not_after (links_in es) rings v y i (ap (λ k. k.next) n ∙ no_next y))
]
