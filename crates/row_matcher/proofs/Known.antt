-- What is known in the end is the assignment of any match, and all is known then.
use Rattle.std.proofs.Common.{◌≡◌, ◌⊎◌, inl, inr, ℕ, zero, suc, ◌-◌, ◌<◌, ◌≤◌, Bool, true, false, List, [], ◌∷◌, map, length, take, drop, replicate, Option, Some, None, option_map, refl, sym, ap, subst, ◌∙◌, arith}
use Rattle.std.specs.Prelude.{slice_get, option_and_then}
use Rattle.std.specs.List.{AllByRecursion}
use Rattle.std.proofs.lemmas.Option.{slice_get_past}
use Rattle.mlir_tree.specs.declared.row.Row.{Row}
use Rattle.mlir_tree.specs.declared.value.Val.{Val}
use Rattle.mlir_tree.specs.declared.value.Val.TheVariants.{Res, Arg}
use Rattle.mlir_tree.specs.Tree.{Ty, Attr}
use Rattle.mlir_tree.specs.Edits.{attribute_of}
use Rattle.native_set.specs.declared.native.Kind.{Kind}
use Rattle.rewrite_model.specs.Pattern.{Parts, Expr, the, result, only_result, Demand, stands, is_attr, is_type, has_name, has_parts, has_type, calls, Pattern}
use Rattle.rewrite_model.specs.Determined.{IsIn, StandsIn, IsPart, values_of, KeepsOneRange, IsDetermined}
use Rattle.rewrite_model.specs.Ranges.{is_range, has_ranges}
use Rattle.rewrite_model.specs.Segments.{segments_of}
use Rattle.rewrite_model.specs.Laws.{number_in}
use Rattle.rewrite_model.specs.Things.{Thing, an_op, a_value, some_values, an_attr, a_type, some_types, row_at, denoted}
use Rattle.rewrite_model.specs.Holding.{thing_type, Holds}
use Rattle.rewrite_model.specs.Matching.{MatchesBy, Matches}
use Rattle.rewrite_model.proofs.Told as told
use Rattle.rewrite_model.proofs.Told.{some_or, holding, pick, pick_entry, pick_part, picked_part, variable_right}
use Rattle.rewrite_model.proofs.Closing.{IsBelow, IsKnown, IsLearned, learned_knows}
use Rattle.rewrite_model.proofs.Unique.{less_or_not, length_fits}
use Rattle.pdll_expand.specs.declared.demand.Demand.{Demand as DemandNode}
use Rattle.pdll_expand.specs.View.{demand_of}
use Rattle.row_matcher.specs.Asked.{Asks}
use Rattle.row_matcher.specs.Learning.{Known, known_at, learnt, learnt_if, holder, variable_in, tell, tells, cut, of_segments, by_segments, operands_cut, tell_operands, tell_list, tell_entries, tell_parts, tell_row, grown, passed, all_known, times, IsReached, start}
use Rattle.row_matcher.proofs.Learning.{Below, below_itself, below_both, below_on, below_length, below_learnt, below_tell, below_tells, below_entries, below_grown, below_passed}

-- ---- the same words

same_holder : (t : Thing) → holder t ≡ told.holder t
same_holder (a_value (Res d j)) = refl
same_holder (a_value (Arg d g j)) = refl
same_holder t = refl

same_variable : (e : Expr) (t : Thing) → variable_in e t ≡ told.variable_in e t
same_variable (the x) t = refl
same_variable (result x k) t = same_holder t
same_variable (only_result x) t = same_holder t

same_cut : {X : Type 0} (single : X → Thing) (many : List X → Thing) (fs : List Bool) (xs : List X) → cut single many fs xs ≡ told.cut single many fs xs
same_cut single many [] xs = refl
same_cut single many (true ∷ fs) xs = ap (λ ts. many (take (length xs - length fs) xs) ∷ ts) (same_cut single many fs (drop (length xs - length fs) xs))
same_cut single many (false ∷ fs) [] = refl
same_cut single many (false ∷ fs) (x ∷ xs) = ap (λ ts. single x ∷ ts) (same_cut single many fs xs)

same_segments : (fs : List Bool) (ss : List (List Val)) → of_segments fs ss ≡ told.of_segments fs ss
same_segments [] ss = refl
same_segments (true ∷ fs) [] = refl
same_segments (false ∷ fs) [] = refl
same_segments (true ∷ fs) (s ∷ ss) = ap (λ ts. some_values s ∷ ts) (same_segments fs ss)
same_segments (false ∷ fs) ([] ∷ ss) = refl
same_segments (false ∷ fs) ((v ∷ []) ∷ ss) = ap (λ ts. a_value v ∷ ts) (same_segments fs ss)
same_segments (false ∷ fs) ((v ∷ w ∷ vs) ∷ ss) = refl

same_by : (fs : List Bool) (o : Option (List (List Val))) → by_segments fs o ≡ told.by_segments fs o
same_by fs None = refl
same_by fs (Some ss) = same_segments fs ss

same_operands : (b : Bool) (fs : List Bool) (r : Row) → operands_cut b fs r ≡ told.operands_cut b fs r
same_operands true fs r = same_by fs (segments_of r)
same_operands false fs r = same_cut a_value some_values fs r.operands

stands_number : (e : Expr) → StandsIn (number_in e) e
stands_number (the x) = refl
stands_number (result x k) = refl
stands_number (only_result x) = refl

number_stands : (e : Expr) (y : ℕ) → StandsIn y e → y ≡ number_in e
number_stands (the x) y s = s
number_stands (result x k) y s = s
number_stands (only_result x) y s = s

-- ---- what is told is the assignment's

learnt_else : (x : ℕ) (t : Thing) (k : Known) (y : ℕ) (u : Thing) → known_at (learnt x t k) y ≡ Some u → ((y ≡ x) × (u ≡ t)) ⊎ (known_at k y ≡ Some u)
learnt_else zero t [] y u h = inr h
learnt_else (suc x) t [] y u h = inr h
learnt_else zero t (None ∷ k) zero u h = inl (refl, sym (ap (some_or t) h))
learnt_else zero t (None ∷ k) (suc y) u h = inr h
learnt_else zero t (Some v ∷ k) y u h = inr h
learnt_else (suc x) t (o ∷ k) zero u h = inr h
learnt_else (suc x) t (o ∷ k) (suc y) u h = by (learnt_else x t k y u h) where
  by : ((y ≡ x) × (u ≡ t)) ⊎ (known_at k y ≡ Some u) → ((suc y ≡ suc x) × (u ≡ t)) ⊎ (known_at k y ≡ Some u)
  by (inl e) = inl (ap suc e.0, e.1)
  by (inr e) = inr e

module _ (a : List Thing) where
  fits_learnt : (x : ℕ) (t : Thing) (k : Known) → slice_get a x ≡ Some t → IsBelow (known_at k) a → IsBelow (known_at (learnt x t k)) a
  fits_learnt x t k g b y u h = by (learnt_else x t k y u h) where
    by : ((y ≡ x) × (u ≡ t)) ⊎ (known_at k y ≡ Some u) → slice_get a y ≡ Some u
    by (inl e) = ap (slice_get a) e.0 ∙ (g ∙ ap Some (sym e.1))
    by (inr e) = b y u e

  fits_if : (x : ℕ) (o : Option Thing) (k : Known) → slice_get a x ≡ o → IsBelow (known_at k) a → IsBelow (known_at (learnt_if x o k)) a
  fits_if x None k g b = b
  fits_if x (Some t) k g b = fits_learnt x t k g b

  fits_tell : (e : Expr) (o : Option Thing) (k : Known) → IsBelow (known_at k) a → ((t : Thing) → o ≡ Some t → slice_get a (number_in e) ≡ told.variable_in e t) → IsBelow (known_at (tell e o k)) a
  fits_tell e None k b h = b
  fits_tell e (Some t) k b h = fits_if (number_in e) (variable_in e t) k (h t refl ∙ sym (same_variable e t)) b

  fits_tells : (es : List Expr) (ts : List Thing) (k : Known) → IsBelow (known_at k) a
      → ((e : Expr) (i : IsIn e es) (t : Thing) → pick e es i ts ≡ Some t → slice_get a (number_in e) ≡ told.variable_in e t) → IsBelow (known_at (tells es ts k)) a
  fits_tells [] ts k b h = b
  fits_tells (e ∷ es) [] k b h = b
  fits_tells (e ∷ es) (t ∷ ts) k b h = fits_tells es ts (tell e (Some t) k) (fits_tell e (Some t) k b (λ u g. h e (inl refl) u g)) (λ x i u g. h x (inr i) u g)

  fits_entries : (r : Row) (es : List (List ℕ × Expr)) (k : Known) → IsBelow (known_at k) a
      → ((e : Expr) (i : IsIn e (values_of es)) (t : Thing) → pick_entry r e es i ≡ Some t → slice_get a (number_in e) ≡ told.variable_in e t) → IsBelow (known_at (tell_entries r es k)) a
  fits_entries r [] k b h = b
  fits_entries r (x ∷ es) k b h =
      fits_entries r es (tell x.1 (option_map an_attr (attribute_of r x.0)) k) (fits_tell x.1 (option_map an_attr (attribute_of r x.0)) k b (λ t g. h x.1 (inl refl) t g)) (λ e i t g. h e (inr i) t g)

-- ---- what adds nothing is known

between : (k y z : Known) → Below k y → Below y z → z ≡ k → y ≡ k
between k y z h g e = sym (below_both k y h (subst (Below y) e g))

learnt_known : (x : ℕ) (t : Thing) (k : Known) → learnt x t k ≡ k → x < length k → IsKnown (known_at k) x
learnt_known zero t [] e l = absurd (omega (arith, l))
learnt_known (suc x) t [] e l = absurd (omega (arith, l))
learnt_known zero t (None ∷ k) e l = absurd (cc e)
learnt_known zero t (Some u ∷ k) e l = (u, refl)
learnt_known (suc x) t (o ∷ k) e l = let s : learnt x t k ≡ k = cc e in learnt_known x t k s (omega (arith, l))

tell_known : (e : Expr) (o : Option Thing) (w : Thing) (k : Known) → option_and_then (variable_in e) o ≡ Some w → tell e o k ≡ k → number_in e < length k → IsKnown (known_at k) (number_in e)
tell_known e o w k v s l = learnt_known (number_in e) w k (subst (λ q. learnt_if (number_in e) q k ≡ k) v s) l

-- the expression that is told is this one
known_here : (e x : Expr) (o : Option Thing) (t w : Thing) (k : Known) → e ≡ x → o ≡ Some t → told.variable_in e t ≡ Some w → tell x o k ≡ k → number_in e < length k → IsKnown (known_at k) (number_in e)
known_here e x o t w k i g v s l =
    let u : option_and_then (variable_in e) o ≡ Some w = ap (option_and_then (variable_in e)) g ∙ (same_variable e t ∙ v) in
    tell_known e o w k u (ap (λ z. tell z o k) i ∙ s) l

tells_known : (es : List Expr) (ts : List Thing) (k : Known) → tells es ts k ≡ k → (e : Expr) (i : IsIn e es) (t w : Thing) → pick e es i ts ≡ Some t → told.variable_in e t ≡ Some w
    → number_in e < length k → IsKnown (known_at k) (number_in e)
tells_known [] ts k s e i t w g v l = elim i [ ]
tells_known (x ∷ es) [] k s e i t w g v l = absurd (cc g)
tells_known (x ∷ es) (y ∷ ts) k s e (inl i) t w g v l =
    known_here e x (Some y) t w k i g v (between k (tell x (Some y) k) _ (below_tell x (Some y) k) (below_tells es ts (tell x (Some y) k)) s) l
tells_known (x ∷ es) (y ∷ ts) k s e (inr i) t w g v l =
    let first = between k (tell x (Some y) k) _ (below_tell x (Some y) k) (below_tells es ts (tell x (Some y) k)) s in
    tells_known es ts k (ap (tells es ts) (sym first) ∙ s) e i t w g v l

entries_known : (r : Row) (es : List (List ℕ × Expr)) (k : Known) → tell_entries r es k ≡ k → (e : Expr) (i : IsIn e (values_of es)) (t w : Thing) → pick_entry r e es i ≡ Some t → told.variable_in e t ≡ Some w
    → number_in e < length k → IsKnown (known_at k) (number_in e)
entries_known r [] k s e i t w g v l = elim i [ ]
entries_known r (x ∷ es) k s e (inl i) t w g v l =
    let o = option_map an_attr (attribute_of r x.0) in
    known_here e x.1 o t w k i g v (between k (tell x.1 o k) _ (below_tell x.1 o k) (below_entries r es (tell x.1 o k)) s) l
entries_known r (x ∷ es) k s e (inr i) t w g v l =
    let o = option_map an_attr (attribute_of r x.0) in
    let first = between k (tell x.1 o k) _ (below_tell x.1 o k) (below_entries r es (tell x.1 o k)) s in
    entries_known r es k (ap (tell_entries r es) (sym first) ∙ s) e i t w g v l

parts_known : (ks : List Kind) (r : Row) (o : Parts Expr) (k : Known) → tell_parts ks r o k ≡ k → (e : Expr) (q : IsPart e o) (t w : Thing) → pick_part ks r e o q ≡ Some t → told.variable_in e t ≡ Some w
    → number_in e < length k → IsKnown (known_at k) (number_in e)
parts_known ks r o k s e q t w g v l =
    let first = tell_operands ks o.operands r k in
    let second = tell_entries r o.entries first in
    let third = tell_list a_type some_types ks o.types r.results second in
    let a : Below k first = below_tells o.operands _ k in
    let b : Below first second = below_entries r o.entries first in
    let c : Below second third = below_tells o.types _ second in
    let one : first ≡ k = between k first third a (below_on first second third b c) s in
    let two : second ≡ k = between k second third (below_on k first second a b) c s in
    by q g one two where
      by : (q : IsPart e o) → pick_part ks r e o q ≡ Some t → tell_operands ks o.operands r k ≡ k
          → tell_entries r o.entries (tell_operands ks o.operands r k) ≡ k → IsKnown (known_at k) (number_in e)
      by (inl i) g one two =
          tells_known o.operands _ k one e i t w (ap (pick e o.operands i) (same_operands (has_ranges ks o.operands) (map (is_range ks) o.operands) r) ∙ g) v l
      by (inr (inl i)) g one two = entries_known r o.entries k (ap (tell_entries r o.entries) (sym one) ∙ two) e i t w g v l
      by (inr (inr i)) g one two =
          tells_known o.types _ k (ap (tell_list a_type some_types ks o.types r.results) (sym two) ∙ s) e i t w (ap (pick e o.types i) (same_cut a_type some_types (map (is_range ks) o.types) r.results) ∙ g) v l

passed_one : (rows : List Row) (ks : List Kind) (ds : List Demand) (k : Known) → passed rows ks ds k ≡ k → (d : Demand) → IsIn d ds → grown rows ks d k ≡ k
passed_one rows ks [] k same d i = elim i [ ]
passed_one rows ks (e ∷ ds) k same d i =
    let y = passed rows ks ds k in
    let rest : y ≡ k = between k y (grown rows ks e y) (below_passed rows ks ds k) (below_grown rows ks e y) same in
    by i rest (λ j. passed_one rows ks ds k rest d j) where
      by : IsIn d (e ∷ ds) → passed rows ks ds k ≡ k → (IsIn d ds → grown rows ks d k ≡ k) → grown rows ks d k ≡ k
      by (inl s) rest more = ap (λ z. grown rows ks z k) s ∙ (ap (grown rows ks e) (sym rest) ∙ same)
      by (inr j) rest more = more j

-- ---- a match

within : (a : List Thing) (x : ℕ) (t : Thing) → slice_get a x ≡ Some t → x < length a
within a x t e = by (less_or_not x (length a)) where
  by : (x < length a) ⊎ (length a ≤ x) → x < length a
  by (inl l) = l
  by (inr l) = absurd (cc (slice_get_past a x l, e))

module _ (rows : List Row) (p : Pattern) (id : ℕ) (a : List Thing) (one : AllByRecursion (KeepsOneRange p.kinds) p.demands) (m : MatchesBy rows p a id) where
  part_told : (x : ℕ) (o : Parts Expr) (u : Thing) (r : Row) (k : Known) → IsIn (has_parts x o) p.demands → IsBelow (known_at k) a → known_at k x ≡ Some u → row_at rows u ≡ Some r
      → (e : Expr) (q : IsPart e o) (t : Thing) → pick_part p.kinds r e o q ≡ Some t → slice_get a (number_in e) ≡ told.variable_in e t
  part_told x o u r k i b g w e q t f =
      let h : Holds rows a (has_parts x o) = holding (Holds rows a) (has_parts x o) p.demands i m.holds in
      let v = holding (KeepsOneRange p.kinds) (has_parts x o) p.demands i one in
      let same : h.0 ≡ r = ap (some_or r) (sym h.1 ∙ (ap (option_and_then (row_at rows)) (b x u g) ∙ w)) in
      let d : denoted rows a e ≡ Some t = picked_part rows p.kinds a m.assigned.kinds_fit h.0 e o q v h.2 ∙ (ap (λ z. pick_part p.kinds z e o q) same ∙ f) in
      variable_right rows a e t (number_in e) d (stands_number e)

  written_told : (x : ℕ) (e : Expr) (u t : Thing) (k : Known) → IsIn (has_type x e) p.demands → IsBelow (known_at k) a → known_at k x ≡ Some u → thing_type rows u ≡ Some t
      → slice_get a (number_in e) ≡ told.variable_in e t
  written_told x e u t k i b g f =
      let h : Holds rows a (has_type x e) = holding (Holds rows a) (has_type x e) p.demands i m.holds in
      let same : h.0 ≡ t = ap (some_or t) (sym h.2 ∙ (ap (option_and_then (thing_type rows)) (b x u g) ∙ f)) in
      variable_right rows a e t (number_in e) (h.1 ∙ ap Some same) (stands_number e)

  there : {X : Type 0} (f : Thing → Option X) (o : Option Thing) (y : X) → option_and_then f o ≡ Some y → (t : Thing) × (o ≡ Some t) × (f t ≡ Some y)
  there f None y q = absurd (cc q)
  there f (Some t) y q = (t, refl, q)

  fits_parts : (o : Parts Expr) (r : Row) (k : Known) → IsBelow (known_at k) a → ((e : Expr) (q : IsPart e o) (t : Thing) → pick_part p.kinds r e o q ≡ Some t → slice_get a (number_in e) ≡ told.variable_in e t)
      → IsBelow (known_at (tell_parts p.kinds r o k)) a
  fits_parts o r k b f =
      let many = has_ranges p.kinds o.operands in
      let vs = map (is_range p.kinds) o.operands in
      let ts = map (is_range p.kinds) o.types in
      let first = fits_tells a o.operands (operands_cut many vs r) k b (λ e i t g. f e (inl i) t (ap (pick e o.operands i) (sym (same_operands many vs r)) ∙ g)) in
      let second = fits_entries a r o.entries _ first (λ e i t g. f e (inr (inl i)) t g) in
      fits_tells a o.types (cut a_type some_types ts r.results) _ second (λ e i t g. f e (inr (inr i)) t (ap (pick e o.types i) (sym (same_cut a_type some_types ts r.results)) ∙ g))

  fits_grown : (d : Demand) → IsIn d p.demands → (k : Known) → IsBelow (known_at k) a → IsBelow (known_at (grown rows p.kinds d k)) a
  unfolding grown
  fits_grown (stands e) i k b = b
  fits_grown (has_name x n) i k b = b
  fits_grown (calls c es) i k b = b
  fits_grown (is_attr x v) i k b = fits_learnt a x (an_attr v) k (holding (Holds rows a) (is_attr x v) p.demands i m.holds) b
  fits_grown (is_type x t) i k b = fits_learnt a x (a_type t) k (holding (Holds rows a) (is_type x t) p.demands i m.holds) b
  fits_grown (has_parts x o) i k b = by (option_and_then (row_at rows) (known_at k x)) refl where
    by : (q : Option Row) → option_and_then (row_at rows) (known_at k x) ≡ q → IsBelow (known_at (tell_row p.kinds q o k)) a
    by None e = b
    by (Some r) e = let u = there (row_at rows) (known_at k x) r e in fits_parts o r k b (part_told x o u.0 r k i b u.1 u.2)
  fits_grown (has_type x e) i k b = fits_tell a e _ k b (λ t f. let u = there (thing_type rows) (known_at k x) t f in written_told x e u.0 t k i b u.1 u.2)

  fits_passed : (ds : List Demand) → ((d : Demand) → IsIn d ds → IsIn d p.demands) → (k : Known) → IsBelow (known_at k) a → IsBelow (known_at (passed rows p.kinds ds k)) a
  fits_passed [] f k b = b
  fits_passed (d ∷ ds) f k b = fits_grown d (f d (inl refl)) (passed rows p.kinds ds k) (fits_passed ds (λ e i. f e (inr i)) k b)

  fits_times : (n : ℕ) (k : Known) → IsBelow (known_at k) a → IsBelow (known_at (times n (passed rows p.kinds p.demands) k)) a
  fits_times zero k b = b
  fits_times (suc n) k b = fits_times n (passed rows p.kinds p.demands k) (fits_passed p.demands (λ d i. i) k b)

  long_passed : (n : ℕ) (k : Known) → length (times n (passed rows p.kinds p.demands) k) ≡ length k
  long_passed zero k = refl
  long_passed (suc n) k = long_passed n (passed rows p.kinds p.demands k) ∙ below_length k (passed rows p.kinds p.demands k) (below_passed rows p.kinds p.demands k)

  -- what is known in the end
  module _ (k : Known) (closed : passed rows p.kinds p.demands k ≡ k) (b : IsBelow (known_at k) a) (size : length k ≡ length p.kinds) (root : IsKnown (known_at k) p.root) where
    room : (x : ℕ) (t : Thing) → slice_get a x ≡ Some t → x < length k
    room x t e = let l = within a x t e in let s = length_fits a p.kinds m.assigned.kinds_fit in omega (arith, l, s, size)

    step : (d : Demand) → IsIn d p.demands → grown rows p.kinds d k ≡ k
    step d i = passed_one rows p.kinds p.demands k closed d i

    attrs : (x : ℕ) (v : Attr) → IsIn (is_attr x v) p.demands → IsKnown (known_at k) x
    unfolding grown
    attrs x v i = learnt_known x (an_attr v) k (step (is_attr x v) i) (room x (an_attr v) (holding (Holds rows a) (is_attr x v) p.demands i m.holds))

    types : (x : ℕ) (t : Ty) → IsIn (is_type x t) p.demands → IsKnown (known_at k) x
    unfolding grown
    types x t i = learnt_known x (a_type t) k (step (is_type x t) i) (room x (a_type t) (holding (Holds rows a) (is_type x t) p.demands i m.holds))

    parts : (x y : ℕ) (o : Parts Expr) (e : Expr) (u t w : Thing) (r : Row) → IsIn (has_parts x o) p.demands → known_at k x ≡ Some u → row_at rows u ≡ Some r
        → (q : IsPart e o) → pick_part p.kinds r e o q ≡ Some t → told.variable_in e t ≡ Some w → StandsIn y e → IsKnown (known_at k) y
    unfolding grown
    parts x y o e u t w r i g h q f v s =
        let same : option_and_then (row_at rows) (known_at k x) ≡ Some r = ap (option_and_then (row_at rows)) g ∙ h in
        let fixed : tell_parts p.kinds r o k ≡ k = subst (λ z. tell_row p.kinds z o k ≡ k) same (step (has_parts x o) i) in
        let l = room (number_in e) w (part_told x o u r k i b g h e q t f ∙ v) in
        subst (IsKnown (known_at k)) (sym (number_stands e y s)) (parts_known p.kinds r o k fixed e q t w f v l)

    written : (x y : ℕ) (e : Expr) (u t w : Thing) → IsIn (has_type x e) p.demands → known_at k x ≡ Some u → thing_type rows u ≡ Some t → told.variable_in e t ≡ Some w → StandsIn y e → IsKnown (known_at k) y
    unfolding grown
    written x y e u t w i g f v s =
        let same : option_and_then (thing_type rows) (known_at k x) ≡ Some t = ap (option_and_then (thing_type rows)) g ∙ f in
        let l = room (number_in e) w (written_told x e u t k i b g f ∙ v) in
        subst (IsKnown (known_at k)) (sym (number_stands e y s)) (known_here e e _ t w k refl same v (step (has_type x e) i) l)

    pub is_learned : IsLearned rows p.kinds p.demands p.root (known_at k)
    is_learned = record { root_known = root; attrs = attrs; types = types; parts = parts; written = written }

-- ---- the end

some_unknown : (k : Known) → all_known k ≡ None → (x : ℕ) × (x < length k) × (known_at k x ≡ None)
some_unknown [] e = absurd (cc e)
some_unknown (None ∷ k) e = (0, omega arith, refl)
some_unknown (Some t ∷ k) e = by (all_known k) e (some_unknown k) where
  by : (o : Option (List Thing)) → option_map (λ ts. t ∷ ts) o ≡ None → (o ≡ None → (x : ℕ) × (x < length k) × (known_at k x ≡ None)) → (x : ℕ) × (x < suc (length k)) × (known_at (Some t ∷ k) x ≡ None)
  by None e go = let h = go refl in let l = h.1 in (suc h.0, omega (arith, l), h.2)
  by (Some ts) e go = absurd (cc e)

all_same : (k : Known) (a ts : List Thing) → all_known k ≡ Some ts → IsBelow (known_at k) a → length a ≡ length k → ts ≡ a
all_same [] [] ts e b l = sym (ap (some_or []) e)
all_same [] (u ∷ a) ts e b l = absurd (omega (arith, l))
all_same (o ∷ k) [] ts e b l = absurd (omega (arith, l))
all_same (None ∷ k) (u ∷ a) ts e b l = absurd (cc e)
all_same (Some t ∷ k) (u ∷ a) ts e b l = by (all_known k) e (λ us f. all_same k a us f (λ x. b (suc x)) (omega (arith, l))) where
  by : (o : Option (List Thing)) → option_map (λ us. t ∷ us) o ≡ Some ts → ((us : List Thing) → o ≡ Some us → us ≡ a) → ts ≡ u ∷ a
  by None e go = absurd (cc e)
  by (Some us) e go = sym (ap (some_or ts) e) ∙ (ap (λ v. v ∷ us) (sym (ap (some_or u) (b 0 t refl))) ∙ ap (λ vs. u ∷ vs) (go us refl))

unknown : (n x : ℕ) (t : Thing) → known_at (replicate n None) x ≡ Some t → ⊥
unknown zero x t h = cc h
unknown (suc n) zero t h = cc h
unknown (suc n) (suc x) t h = unknown n x t h

nothing_below : (n : ℕ) (a : List Thing) → IsBelow (known_at (replicate n None)) a
nothing_below n a x t h = elim (unknown n x t h) [ ]

long_none : (n : ℕ) → length (replicate {A = Option Thing} n None) ≡ n
long_none zero = refl
long_none (suc n) = ap suc (long_none n)

learnt_there : (n x : ℕ) (t : Thing) → x < n → known_at (learnt x t (replicate n None)) x ≡ Some t
learnt_there zero x t l = absurd (omega (arith, l))
learnt_there (suc n) zero t l = refl
learnt_there (suc n) (suc x) t l = learnt_there n x t (omega (arith, l))

below_keeps : (xs ys : Known) → Below xs ys → (x : ℕ) (t : Thing) → known_at xs x ≡ Some t → known_at ys x ≡ Some t
below_keeps [] [] h x t e = e
below_keeps [] (q ∷ ys) h x t e = elim h [ ]
below_keeps (o ∷ xs) [] h x t e = elim h [ ]
below_keeps (o ∷ xs) (q ∷ ys) h zero t e = h.0 t e
below_keeps (o ∷ xs) (q ∷ ys) h (suc x) t e = below_keeps xs ys h.1 x t e

below_times : (rows : List Row) (ks : List Kind) (ds : List Demand) (n : ℕ) (k : Known) → Below k (times n (passed rows ks ds) k)
below_times rows ks ds zero k = below_itself k
below_times rows ks ds (suc n) k = below_on k (passed rows ks ds k) _ (below_passed rows ks ds k) (below_times rows ks ds n (passed rows ks ds k))

module _ (rows : List Row) (p : Pattern) (id : ℕ) (d : IsDetermined p) (k : Known) (closed : passed rows p.kinds p.demands k ≡ k)
    (reached : IsReached rows p.kinds p.demands (start (length p.kinds) p.root id) k) (a : List Thing) (m : MatchesBy rows p a id) where
  fits : IsBelow (known_at k) a
  fits =
      let first = fits_learnt a p.root (an_op id) (replicate (length p.kinds) None) m.root (nothing_below (length p.kinds) a) in
      subst (λ z. IsBelow (known_at z) a) (sym reached.1) (fits_times rows p id a d.ranges m reached.0 (start (length p.kinds) p.root id) first)

  size : length k ≡ length p.kinds
  size =
      let s = start (length p.kinds) p.root id in
      ap length reached.1 ∙ (long_passed rows p id a d.ranges m reached.0 s
      ∙ (below_length (replicate (length p.kinds) None) s (below_learnt p.root (an_op id) (replicate (length p.kinds) None)) ∙ long_none (length p.kinds)))

  root_is_known : IsKnown (known_at k) p.root
  root_is_known =
      let s = start (length p.kinds) p.root id in
      let l : p.root < length p.kinds = (let w = within a p.root (an_op id) m.root in let n = length_fits a p.kinds m.assigned.kinds_fit in omega (arith, w, n)) in
      (an_op id, below_keeps s k (subst (Below s) (sym reached.1) (below_times rows p.kinds p.demands reached.0 s)) p.root (an_op id) (learnt_there (length p.kinds) p.root (an_op id) l))

  knows : (x : ℕ) → x < length p.kinds → IsKnown (known_at k) x
  knows x l =
      let learned = is_learned rows p id a d.ranges m k closed fits size root_is_known in
      learned_knows rows p id a d.ranges m (known_at k) fits learned x (d.each x l)

  all_there : all_known k ≡ None → ⊥
  all_there e =
      let h = some_unknown k e in
      let l = h.1 in
      let s = size in
      let n = knows h.0 (omega (arith, l, s)) in
      cc (n.1, h.2)

  only_one : (ts : List Thing) → all_known k ≡ Some ts → ts ≡ a
  only_one ts e = all_same k a ts e fits (length_fits a p.kinds m.assigned.kinds_fit ∙ sym size)

module _ (rows : List Row) (kinds : List Kind) (demands : List DemandNode) (root id : ℕ) (k : Known) (closed : passed rows kinds (map demand_of demands) k ≡ k)
    (reached : IsReached rows kinds (map demand_of demands) (start (length kinds) root id) k) (p : Pattern) (q : Asks kinds demands root p) (d : IsDetermined p) where
  closed_too : passed rows p.kinds p.demands k ≡ k
  closed_too = subst (λ ks. passed rows ks p.demands k ≡ k) (sym q.kinds_are) (subst (λ ds. passed rows kinds ds k ≡ k) (sym q.demands_are) closed)

  reached_too : IsReached rows p.kinds p.demands (start (length p.kinds) p.root id) k
  reached_too =
      subst (λ ks. IsReached rows ks p.demands (start (length ks) p.root id) k) (sym q.kinds_are)
      (subst (λ ds. IsReached rows kinds ds (start (length kinds) p.root id) k) (sym q.demands_are)
      (subst (λ r. IsReached rows kinds (map demand_of demands) (start (length kinds) r id) k) (sym q.root_is) reached))

  -- Where not all is known the pattern doesn't match.
  pub none_where_open : all_known k ≡ None → Matches rows p id → ⊥
  none_where_open e m = all_there rows p id d k closed_too reached_too m.0 m.1 e

  -- Where all is known only this can be the assignment.
  pub none_but_this : (ts : List Thing) → all_known k ≡ Some ts → (MatchesBy rows p ts id → ⊥) → Matches rows p id → ⊥
  none_but_this ts e n m = n (subst (λ a. MatchesBy rows p a id) (sym (only_one rows p id d k closed_too reached_too m.0 m.1 ts e)) m.1)
