-- What is closed under the rules by which variables are determined has each determined variable. So a set of numbers, or
-- of things that are known of them, which is grown by the rules until it grows no more, has them all.
use Rattle.std.proofs.Common.{◌≡◌, inl, inr, ℕ, Bool, true, List, [], ◌∷◌, Option, Some, sym, ap, ◌∙◌, subst, None, refl}
use Rattle.std.specs.Prelude.{slice_get, option_and_then}
use Rattle.std.specs.List.{AllByRecursion}
use Rattle.mlir_tree.specs.declared.row.Row.{Row}
use Rattle.mlir_tree.specs.Tree.{Ty, Attr}
use Rattle.native_set.specs.declared.native.Kind.{Kind}
use Rattle.rewrite_model.specs.Pattern.{Parts, Expr, the, result, only_result, Demand, is_attr, is_type, has_parts, has_type, Pattern}
use Rattle.rewrite_model.specs.Determined.{IsIn, StandsIn, IsPart, Determined, given_one, attr_told, type_told, part_of, type_of, KeepsOneRange}
use Rattle.rewrite_model.specs.Things.{Thing, row_at, result_at, only_result_at, denoted}
use Rattle.rewrite_model.specs.Holding.{thing_type, Holds}
use Rattle.rewrite_model.specs.Matching.{MatchesBy}
use Rattle.rewrite_model.proofs.Told.{some_or, holding, pick_part, variable_in, part_denotes, picked_part, variable_right}

-- ---- numbers

-- A set of numbers, by its test.
pub record IsClosed (given : List ℕ) (demands : List Demand) (has : ℕ → Bool) : Type 0 where
  pub given_ones : (x : ℕ) → IsIn x given → has x ≡ true
  pub attrs : (x : ℕ) (v : Attr) → IsIn (is_attr x v) demands → has x ≡ true
  pub types : (x : ℕ) (t : Ty) → IsIn (is_type x t) demands → has x ≡ true
  pub parts : (x y : ℕ) (o : Parts Expr) (e : Expr) → IsIn (has_parts x o) demands → has x ≡ true → IsPart e o → StandsIn y e → has y ≡ true
  pub written : (x y : ℕ) (e : Expr) → IsIn (has_type x e) demands → has x ≡ true → StandsIn y e → has y ≡ true

pub closed_has : (given : List ℕ) (demands : List Demand) (has : ℕ → Bool) → IsClosed given demands has → (x : ℕ) → Determined given demands x → has x ≡ true
closed_has given demands has c _ (given_one x i) = c.given_ones x i
closed_has given demands has c _ (attr_told x v i) = c.attrs x v i
closed_has given demands has c _ (type_told x t i) = c.types x t i
closed_has given demands has c _ (part_of x y o e i d p s) = c.parts x y o e i (closed_has given demands has c x d) p s
closed_has given demands has c _ (type_of x y e i d s) = c.written x y e i (closed_has given demands has c x d) s

-- ---- things

-- What is known of the numbers is what the assignment gives them.
abbrev pub IsBelow : (ℕ → Option Thing) → List Thing → Type 0
IsBelow known a = (x : ℕ) (t : Thing) → known x ≡ Some t → slice_get a x ≡ Some t

abbrev pub IsKnown : (ℕ → Option Thing) → ℕ → Type 0
IsKnown known x = (t : Thing) × (known x ≡ Some t)

given_by : (f : Row → Option Thing) (g : Thing → Option Row) (o : Option Thing) (t : Thing) → option_and_then f (option_and_then g o) ≡ Some t → (w : Thing) × (o ≡ Some w)
given_by f g None t d = absurd (cc)
given_by f g (Some w) t d = (w, refl)

-- What is known of an operation, or of a variable with a written type, was used to learn what its parts are.
pub record IsLearned (rows : List Row) (ks : List Kind) (demands : List Demand) (root : ℕ) (known : ℕ → Option Thing) : Type 0 where
  pub root_known : IsKnown known root
  pub attrs : (x : ℕ) (v : Attr) → IsIn (is_attr x v) demands → IsKnown known x
  pub types : (x : ℕ) (t : Ty) → IsIn (is_type x t) demands → IsKnown known x
  pub parts : (x y : ℕ) (o : Parts Expr) (e : Expr) (u t w : Thing) (r : Row) → IsIn (has_parts x o) demands → known x ≡ Some u → row_at rows u ≡ Some r
      → (p : IsPart e o) → pick_part ks r e o p ≡ Some t → variable_in e t ≡ Some w → StandsIn y e → IsKnown known y
  pub written : (x y : ℕ) (e : Expr) (u t w : Thing) → IsIn (has_type x e) demands → known x ≡ Some u → thing_type rows u ≡ Some t → variable_in e t ≡ Some w → StandsIn y e → IsKnown known y

-- what has a number in an expression that denotes something was given something
was_given : (rows : List Row) (a : List Thing) (e : Expr) (t : Thing) (y : ℕ) → denoted rows a e ≡ Some t → StandsIn y e → (w : Thing) × (slice_get a y ≡ Some w)
was_given rows a (the x) t y d s = (t, ap (slice_get a) s ∙ d)
was_given rows a (result x k) t y d s = let g = given_by (result_at k) (row_at rows) (slice_get a x) t d in (g.0, ap (slice_get a) s ∙ g.1)
was_given rows a (only_result x) t y d s = let g = given_by only_result_at (row_at rows) (slice_get a x) t d in (g.0, ap (slice_get a) s ∙ g.1)

module _ (rows : List Row) (p : Pattern) (id : ℕ) (a : List Thing) (one : AllByRecursion (KeepsOneRange p.kinds) p.demands) (m : MatchesBy rows p a id)
    (known : ℕ → Option Thing) (below : IsBelow known a) (learned : IsLearned rows p.kinds p.demands p.root known) where
  -- Where the pattern matches, each determined number is known then.
  pub learned_knows : (x : ℕ) → Determined (p.root ∷ []) p.demands x → IsKnown known x
  learned_knows _ (given_one x (inl i)) = subst (IsKnown known) (sym i) learned.root_known
  learned_knows _ (given_one x (inr i)) = elim i [ ]
  learned_knows _ (attr_told x v i) = learned.attrs x v i
  learned_knows _ (type_told x t i) = learned.types x t i
  learned_knows _ (part_of x y o e i d q s) =
      let k = learned_knows x d in
      let h : Holds rows a (has_parts x o) = holding (Holds rows a) (has_parts x o) p.demands i m.holds in
      let u = holding (KeepsOneRange p.kinds) (has_parts x o) p.demands i one in
      let w : row_at rows k.0 ≡ Some h.0 = ap (option_and_then (row_at rows)) (sym (below x k.0 k.1)) ∙ h.1 in
      let n = part_denotes rows p.kinds a m.assigned.kinds_fit h.0 e o q u h.2 in
      let v = was_given rows a e n.0 y n.1 s in
      learned.parts x y o e k.0 n.0 v.0 h.0 i k.1 w q (sym (picked_part rows p.kinds a m.assigned.kinds_fit h.0 e o q u h.2) ∙ n.1) (sym (variable_right rows a e n.0 y n.1 s) ∙ v.1) s
  learned_knows _ (type_of x y e i d s) =
      let k = learned_knows x d in
      let h : Holds rows a (has_type x e) = holding (Holds rows a) (has_type x e) p.demands i m.holds in
      let v = was_given rows a e h.0 y h.1 s in
      learned.written x y e k.0 h.0 v.0 i k.1 (ap (option_and_then (thing_type rows)) (sym (below x k.0 k.1)) ∙ h.2) (sym (variable_right rows a e h.0 y h.1 s) ∙ v.1) s

  -- What is learned of a part is what the assignment gives.
  pub part_below : (x y : ℕ) (o : Parts Expr) (e : Expr) (u t : Thing) (r : Row) → IsIn (has_parts x o) p.demands → known x ≡ Some u → row_at rows u ≡ Some r
      → (q : IsPart e o) → pick_part p.kinds r e o q ≡ Some t → StandsIn y e → slice_get a y ≡ variable_in e t
  part_below x y o e u t r i k w q f s =
      let h : Holds rows a (has_parts x o) = holding (Holds rows a) (has_parts x o) p.demands i m.holds in
      let v = holding (KeepsOneRange p.kinds) (has_parts x o) p.demands i one in
      let same : h.0 ≡ r = ap (some_or r) (sym h.1 ∙ (ap (option_and_then (row_at rows)) (below x u k) ∙ w)) in
      let d : denoted rows a e ≡ Some t = picked_part rows p.kinds a m.assigned.kinds_fit h.0 e o q v h.2 ∙ (ap (λ z. pick_part p.kinds z e o q) same ∙ f) in
      variable_right rows a e t y d s

  pub written_below : (x y : ℕ) (e : Expr) (u t : Thing) → IsIn (has_type x e) p.demands → known x ≡ Some u → thing_type rows u ≡ Some t → StandsIn y e → slice_get a y ≡ variable_in e t
  written_below x y e u t i k f s =
      let h : Holds rows a (has_type x e) = holding (Holds rows a) (has_type x e) p.demands i m.holds in
      let same : h.0 ≡ t = ap (some_or t) (sym h.2 ∙ (ap (option_and_then (thing_type rows)) (below x u k) ∙ f)) in
      variable_right rows a e t y (h.1 ∙ ap Some same) s
