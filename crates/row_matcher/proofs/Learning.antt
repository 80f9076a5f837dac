-- What is known grows, and is what the assignment of a match gives.
use Rattle.std.proofs.Common.{◌≡◌, ℕ, zero, suc, ◌≤◌, List, [], ◌∷◌, length, Option, Some, None, option_map, refl, sym, ap, ◌∙◌, arith}
use Rattle.std.specs.Prelude.{⊤}
use Rattle.mlir_tree.specs.declared.row.Row.{Row}
use Rattle.mlir_tree.specs.Edits.{attribute_of}
use Rattle.native_set.specs.declared.native.Kind.{Kind}
use Rattle.rewrite_model.specs.Pattern.{Parts, Expr, Demand, stands, is_attr, is_type, has_name, has_parts, has_type, calls}
use Rattle.rewrite_model.specs.Laws.{number_in}
use Rattle.rewrite_model.specs.Things.{Thing, a_value, some_values, an_attr, a_type}
use Rattle.row_matcher.specs.Learning.{Known, learnt, learnt_if, tell, tells, tell_operands, tell_entries, tell_row, grown, passed, known_in}

-- ---- less is known

abbrev pub Below : Known → Known → Type 0
Below [] [] = ⊤
Below [] (q ∷ ys) = ⊥
Below (o ∷ xs) [] = ⊥
Below (o ∷ xs) (q ∷ ys) = ((t : Thing) → o ≡ Some t → q ≡ Some t) × Below xs ys

pub below_itself : (xs : Known) → Below xs xs
below_itself [] = tt
below_itself (o ∷ xs) = (λ t h. h, below_itself xs)

pub below_on : (xs ys zs : Known) → Below xs ys → Below ys zs → Below xs zs
below_on [] [] [] h k = tt
below_on [] [] (z ∷ zs) h k = elim k [ ]
below_on [] (y ∷ ys) zs h k = elim h [ ]
below_on (x ∷ xs) [] zs h k = elim h [ ]
below_on (x ∷ xs) (y ∷ ys) [] h k = elim k [ ]
below_on (x ∷ xs) (y ∷ ys) (z ∷ zs) h k = (λ t e. k.0 t (h.0 t e), below_on xs ys zs h.1 k.1)

same_option : (o q : Option Thing) → ((t : Thing) → o ≡ Some t → q ≡ Some t) → ((t : Thing) → q ≡ Some t → o ≡ Some t) → o ≡ q
same_option None None h k = refl
same_option None (Some y) h k = k y refl
same_option (Some x) q h k = sym (h x refl)

pub below_both : (xs ys : Known) → Below xs ys → Below ys xs → xs ≡ ys
below_both [] [] h k = refl
below_both [] (y ∷ ys) h k = elim h [ ]
below_both (x ∷ xs) [] h k = elim h [ ]
below_both (x ∷ xs) (y ∷ ys) h k = ap (λ b. b ∷ xs) (same_option x y h.0 k.0) ∙ ap (λ bs. y ∷ bs) (below_both xs ys h.1 k.1)

pub below_length : (xs ys : Known) → Below xs ys → length ys ≡ length xs
below_length [] [] h = refl
below_length [] (y ∷ ys) h = elim h [ ]
below_length (x ∷ xs) [] h = elim h [ ]
below_length (x ∷ xs) (y ∷ ys) h = ap suc (below_length xs ys h.1)

pub below_counts : (xs ys : Known) → Below xs ys → known_in xs ≤ known_in ys
below_counts [] [] h = omega arith
below_counts [] (y ∷ ys) h = elim h [ ]
below_counts (x ∷ xs) [] h = elim h [ ]
below_counts (None ∷ xs) (None ∷ ys) h = below_counts xs ys h.1
below_counts (None ∷ xs) (Some y ∷ ys) h = let c = below_counts xs ys h.1 in omega (arith, c)
below_counts (Some x ∷ xs) (None ∷ ys) h = absurd (cc (h.0 x refl))
below_counts (Some x ∷ xs) (Some y ∷ ys) h = let c = below_counts xs ys h.1 in omega (arith, c)

pub below_same : (xs ys : Known) → Below xs ys → known_in ys ≤ known_in xs → ys ≡ xs
below_same [] [] h le = refl
below_same [] (y ∷ ys) h le = elim h [ ]
below_same (x ∷ xs) [] h le = elim h [ ]
below_same (None ∷ xs) (None ∷ ys) h le = ap (λ bs. None ∷ bs) (below_same xs ys h.1 le)
below_same (None ∷ xs) (Some y ∷ ys) h le = let c = below_counts xs ys h.1 in absurd (omega (arith, c, le))
below_same (Some x ∷ xs) (None ∷ ys) h le = absurd (cc (h.0 x refl))
below_same (Some x ∷ xs) (Some y ∷ ys) h le = ap (λ b. b ∷ ys) (h.0 x refl) ∙ ap (λ bs. Some x ∷ bs) (below_same xs ys h.1 (omega (arith, le)))

pub counts_within : (xs : Known) → known_in xs ≤ length xs
counts_within [] = omega arith
counts_within (None ∷ xs) = let h = counts_within xs in omega (arith, h)
counts_within (Some t ∷ xs) = let h = counts_within xs in omega (arith, h)

-- ---- what is told is above

pub below_learnt : (x : ℕ) (t : Thing) (k : Known) → Below k (learnt x t k)
below_learnt zero t [] = tt
below_learnt (suc x) t [] = tt
below_learnt zero t (None ∷ k) = (λ u h. absurd (cc h), below_itself k)
below_learnt zero t (Some u ∷ k) = below_itself (Some u ∷ k)
below_learnt (suc x) t (o ∷ k) = (λ u h. h, below_learnt x t k)

below_if : (x : ℕ) (o : Option Thing) (k : Known) → Below k (learnt_if x o k)
below_if x None k = below_itself k
below_if x (Some t) k = below_learnt x t k

pub below_tell : (e : Expr) (t : Option Thing) (k : Known) → Below k (tell e t k)
below_tell e t k = below_if (number_in e) _ k

pub below_tells : (es : List Expr) (ts : List Thing) (k : Known) → Below k (tells es ts k)
below_tells [] ts k = below_itself k
below_tells (e ∷ es) [] k = below_itself k
below_tells (e ∷ es) (t ∷ ts) k = below_on k (tell e (Some t) k) _ (below_tell e (Some t) k) (below_tells es ts (tell e (Some t) k))

pub below_entries : (r : Row) (es : List (List ℕ × Expr)) (k : Known) → Below k (tell_entries r es k)
below_entries r [] k = below_itself k
below_entries r (x ∷ es) k =
    let t = option_map an_attr (attribute_of r x.0) in
    below_on k (tell x.1 t k) _ (below_tell x.1 t k) (below_entries r es (tell x.1 t k))

below_row : (ks : List Kind) (r : Option Row) (o : Parts Expr) (k : Known) → Below k (tell_row ks r o k)
below_row ks None o k = below_itself k
below_row ks (Some r) o k =
    let one = tell_operands ks o.operands r k in
    let two = tell_entries r o.entries one in
    below_on k one _ (below_tells o.operands _ k) (below_on one two _ (below_entries r o.entries one) (below_tells o.types _ two))

module _ (rows : List Row) (ks : List Kind) where
  pub below_grown : (d : Demand) (k : Known) → Below k (grown rows ks d k)
  unfolding grown
  below_grown (stands e) k = below_itself k
  below_grown (has_name x n) k = below_itself k
  below_grown (calls c es) k = below_itself k
  below_grown (is_attr x v) k = below_learnt x (an_attr v) k
  below_grown (is_type x t) k = below_learnt x (a_type t) k
  below_grown (has_parts x o) k = below_row ks _ o k
  below_grown (has_type x e) k = below_tell e _ k

  pub below_passed : (ds : List Demand) (k : Known) → Below k (passed rows ks ds k)
  below_passed [] k = below_itself k
  below_passed (d ∷ ds) k = below_on k (passed rows ks ds k) _ (below_passed ds k) (below_grown d (passed rows ks ds k))
