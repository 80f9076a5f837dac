-- What a determined variable is given is told by the root: each derivation computes it.
use Rattle.std.proofs.Common.{◌≡◌, inl, inr, ℕ, suc, ◌+◌, ◌-◌, ◌≤◌, Bool, true, false, cond, List, [], ◌∷◌, ◌++◌, map, length, take, drop, Option, Some, None, option_map, length-append, refl, sym, ap, ◌∙◌, subst, arith}
use Rattle.std.specs.Prelude.{slice_get, nat_lt, nat_eq, option_and_then, ◌==◌}
use Rattle.std.specs.List.{AllByRecursion}
use Rattle.std.proofs.lemmas.Option.{slice_get-map}
use Rattle.std.proofs.lemmas.Bool.Decides.{nat_tests}
use Rattle.std.proofs.Math.Seq.{drop-append_seam, take-append_seam}
use Rattle.mlir_tree.specs.declared.row.Row.{Row}
use Rattle.mlir_tree.specs.declared.value.Val.{Val}
use Rattle.mlir_tree.specs.declared.value.Val.TheVariants.{Res}
use Rattle.mlir_tree.specs.Tree.{Ty}
use Rattle.mlir_tree.specs.Module.{row_of}
use Rattle.mlir_tree.specs.Edits.{attribute_of}
use Rattle.native_set.specs.declared.native.Kind.{Kind}
use Rattle.native_set.specs.declared.native.Kind.TheVariants as kind
use Rattle.rewrite_model.specs.Pattern.{Parts, Expr, the, result, only_result, Demand, is_attr, is_type, has_parts, has_type, Pattern}
use Rattle.rewrite_model.specs.Determined.{IsIn, StandsIn, values_of, IsPart, Determined, given_one, attr_told, type_told, part_of, type_of, HasOneRange, KeepsOneRange}
use Rattle.rewrite_model.specs.Ranges.{kind_in, is_range_kind, is_range, ranges, has_ranges}
use Rattle.rewrite_model.specs.Segments.{segments_of}
use Rattle.rewrite_model.specs.Things.{Thing, an_op, a_value, some_values, an_attr, a_type, some_types, kind_of, row_at, result_at, only_result_at, values_in, types_in, joined, concatenated, each, denoted, values_denoted, types_denoted}
use Rattle.rewrite_model.specs.Holding.{HasEntry, HasOperands, HasParts, thing_type, Holds}
use Rattle.rewrite_model.specs.Matching.{MatchesBy}

abbrev pub some_or : {X : Type 0} → X → Option X → X
some_or d None = d
some_or d (Some x) = x

-- ---- a list of values, or of types, cut into what the expressions of a list denote

module _ {X : Type 0} (single : X → Thing) (many : List X → Thing) where
  -- by which of them are ranges
  abbrev pub cut : List Bool → List X → List Thing
  cut [] xs = []
  cut (true ∷ fs) xs = many (take (length xs - length fs) xs) ∷ cut fs (drop (length xs - length fs) xs)
  cut (false ∷ fs) [] = []
  cut (false ∷ fs) (x ∷ xs) = single x ∷ cut fs xs

-- ---- segments

-- by which of the members are ranges
abbrev pub of_segments : List Bool → List (List Val) → List Thing
of_segments [] ss = []
of_segments (true ∷ fs) (s ∷ ss) = some_values s ∷ of_segments fs ss
of_segments (false ∷ fs) ((v ∷ []) ∷ ss) = a_value v ∷ of_segments fs ss
of_segments (f ∷ fs) ss = []

abbrev pub by_segments : List Bool → Option (List (List Val)) → List Thing
by_segments fs None = []
by_segments fs (Some ss) = of_segments fs ss

-- what the members of a list of operands are, by whether it has two or more ranges
abbrev pub operands_cut : Bool → List Bool → Row → List Thing
operands_cut true fs r = by_segments fs (segments_of r)
operands_cut false fs r = cut a_value some_values fs r.operands

-- ---- what is denoted

-- each expression denotes the thing at its place
abbrev pub Denote : List Row → List Thing → List Expr → List Thing → Type 0
Denote rows a [] ts = Unit {0}
Denote rows a (e ∷ es) [] = ⊥
Denote rows a (e ∷ es) (t ∷ ts) = (denoted rows a e ≡ Some t) × Denote rows a es ts

-- the thing at the place of a member
abbrev pub pick : (e : Expr) (es : List Expr) → IsIn e es → List Thing → Option Thing
pick e [] i ts = None
pick e (x ∷ es) i [] = None
pick e (x ∷ es) (inl i) (t ∷ ts) = Some t
pick e (x ∷ es) (inr i) (t ∷ ts) = pick e es i ts

picked : (rows : List Row) (a : List Thing) (e : Expr) (es : List Expr) (i : IsIn e es) (ts : List Thing) → Denote rows a es ts → denoted rows a e ≡ pick e es i ts
picked rows a e [] i ts d = elim i [ ]
picked rows a e (x ∷ es) i [] d = elim d [ ]
picked rows a e (x ∷ es) (inl i) (t ∷ ts) d = ap (denoted rows a) i ∙ d.0
picked rows a e (x ∷ es) (inr i) (t ∷ ts) d = picked rows a e es i ts d.1

-- ---- the kinds of what is denoted

module _ (rows : List Row) (ks : List Kind) (a : List Thing) (fits : map kind_of a ≡ ks) where
  -- the row of a number, or none
  value_result : (k : ℕ) (o : Option Row) (t : Thing) → option_and_then (result_at k) o ≡ Some t → kind_of t ≡ kind.Value
  value_result k None t d = absurd (cc)
  value_result k (Some r) t d = by (nat_lt k (length r.results)) d where
    by : (b : Bool) → cond b (Some (a_value (Res r.id k))) None ≡ Some t → kind_of t ≡ kind.Value
    by true d = ap (λ o. kind_of (some_or t o)) (sym d)
    by false d = absurd (cc)

  value_only : (o : Option Row) (t : Thing) → option_and_then only_result_at o ≡ Some t → kind_of t ≡ kind.Value
  value_only None t d = absurd (cc)
  value_only (Some r) t d = by (nat_eq (length r.results) 1) d where
    by : (b : Bool) → cond b (Some (a_value (Res r.id 0))) None ≡ Some t → kind_of t ≡ kind.Value
    by true d = ap (λ o. kind_of (some_or t o)) (sym d)
    by false d = absurd (cc)

  pub kind_is : (e : Expr) (t : Thing) → denoted rows a e ≡ Some t → kind_in ks e ≡ Some (kind_of t)
  kind_is (the x) t d = ap (λ l. slice_get l x) (sym fits) ∙ (slice_get-map kind_of a x ∙ ap (option_map kind_of) d)
  kind_is (result x k) t d = ap Some (sym (value_result k (option_and_then (row_at rows) (slice_get a x)) t d))
  kind_is (only_result x) t d = ap Some (sym (value_only (option_and_then (row_at rows) (slice_get a x)) t d))

-- ---- what is joined is cut into the same parts

pub record IsJoinedBy {X : Type 0} (single : X → Thing) (many : List X → Thing) (part : Thing → Option (List X)) : Type 0 where
  pub one : (t : Thing) (xs : List X) → is_range_kind (Some (kind_of t)) ≡ false → part t ≡ Some xs → (x : X) × (xs ≡ x ∷ []) × (t ≡ single x)
  pub more : (t : Thing) (xs : List X) → is_range_kind (Some (kind_of t)) ≡ true → part t ≡ Some xs → t ≡ many xs

both_parts : {X : Type 0} (o q : Option (List X)) (xs : List X) → joined o q ≡ Some xs → (f r : List X) × (o ≡ Some f) × (q ≡ Some r) × (xs ≡ f ++ r)
both_parts (Some f) (Some r) xs p = (f, r, refl, refl, ap (some_or xs) (sym p))
both_parts None q xs p = absurd (cc)
both_parts (Some f) None xs p = absurd (cc)

there : {A X : Type 0} (f : A → Option X) (o : Option A) (y : X) → option_and_then f o ≡ Some y → (t : A) × (o ≡ Some t) × (f t ≡ Some y)
there f None y p = absurd (cc)
there f (Some t) y p = (t, refl, p)

pub same_length : {A B : Type 0} (f : A → B) (xs : List A) → length (map f xs) ≡ length xs
same_length f [] = refl
same_length f (x ∷ xs) = ap suc (same_length f xs)

module _ {X : Type 0} (single : X → Thing) (many : List X → Thing) (part : Thing → Option (List X)) (is : IsJoinedBy single many part)
    (rows : List Row) (ks : List Kind) (a : List Thing) (fits : map kind_of a ≡ ks) where
  abbrev parts : Expr → Option (List X)
  parts e = option_and_then part (denoted rows a e)

  long : (es : List Expr) (xs : List X) → ranges ks es ≡ 0 → concatenated parts es ≡ Some xs → length xs ≡ length es
  long [] xs z j = ap (λ o. length (some_or [] o)) (sym j)
  long (e ∷ es) xs z j =
      let h = both_parts (parts e) (concatenated parts es) xs j in
      let d = there part (denoted rows a e) h.0 h.2 in
      let k = kind_is rows ks a fits e d.0 d.1 in
      by h.0 h.1 (is_range ks e) refl z d.0 (sym (ap is_range_kind k)) d.2 (λ y. long es h.1 y h.3) (ap length h.4 ∙ length-append h.0 h.1) where
        by : (f r : List X) (b : Bool) → is_range ks e ≡ b → cond b 1 0 + ranges ks es ≡ 0 → (t : Thing) → is_range_kind (Some (kind_of t)) ≡ is_range ks e → part t ≡ Some f
            → (ranges ks es ≡ 0 → length r ≡ length es) → length xs ≡ length f + length r → length xs ≡ suc (length es)
        by f r true c y t k p go l = absurd (omega (arith, y))
        by f r false c y t k p go l =
            let n : length f ≡ 1 = ap length (is.one t f (k ∙ c) p).1 in
            let g : length r ≡ length es = go (omega (arith, y)) in
            omega (arith, l, n, g)

  -- What the expressions denote are the parts that the list is cut into.
  pub cut_right : (es : List Expr) (xs : List X) → ranges ks es ≤ 1 → concatenated parts es ≡ Some xs → Denote rows a es (cut single many (map (is_range ks) es) xs)
  cut_right [] xs o j = tt
  cut_right (e ∷ es) xs o j =
      let h = both_parts (parts e) (concatenated parts es) xs j in
      let d = there part (denoted rows a e) h.0 h.2 in
      let k = kind_is rows ks a fits e d.0 d.1 in
      by h.0 h.1 (is_range ks e) refl o d.0 (sym (ap is_range_kind k)) d.1 d.2 h.3 h.4 (λ y. cut_right es h.1 y h.3) where
        by : (f r : List X) (b : Bool) → is_range ks e ≡ b → cond b 1 0 + ranges ks es ≤ 1 → (t : Thing) → is_range_kind (Some (kind_of t)) ≡ is_range ks e → denoted rows a e ≡ Some t → part t ≡ Some f
            → concatenated parts es ≡ Some r → xs ≡ f ++ r → (ranges ks es ≤ 1 → Denote rows a es (cut single many (map (is_range ks) es) r))
            → Denote rows a (e ∷ es) (cut single many (is_range ks e ∷ map (is_range ks) es) xs)
        by f r true c y t k d p q x go =
            let l : length r ≡ length es = long es r (omega (arith, y)) q in
            let n : length xs - length (map (is_range ks) es) ≡ length f = (let s = same_length (is_range ks) es in let m = ap length x ∙ length-append f r in omega (arith, l, s, m)) in
            let rest : drop (length xs - length (map (is_range ks) es)) xs ≡ r = (λ i. drop (n i) (x i)) ∙ drop-append_seam f r in
            let front : take (length xs - length (map (is_range ks) es)) xs ≡ f = (λ i. take (n i) (x i)) ∙ take-append_seam f r in
            subst (λ b. Denote rows a (e ∷ es) (cut single many (b ∷ map (is_range ks) es) xs)) (sym c)
            (d ∙ ap Some (is.more t f (k ∙ c) p ∙ ap many (sym front)), subst (λ w. Denote rows a es (cut single many (map (is_range ks) es) w)) (sym rest) (go (omega (arith, y))))
        by f r false c y t k d p q x go =
            let h = is.one t f (k ∙ c) p in
            let z : xs ≡ h.0 ∷ r = x ∙ ap (λ w. w ++ r) h.1 in
            subst (λ b. Denote rows a (e ∷ es) (cut single many (b ∷ map (is_range ks) es) xs)) (sym c)
            (subst (λ w. Denote rows a (e ∷ es) (cut single many (false ∷ map (is_range ks) es) w)) (sym z) (d ∙ ap Some h.2, go (omega (arith, y))))

-- one member, and the others
pub each_part : {A X : Type 0} (f : A → Option X) (x : A) (xs : List A) (ys : List X) → each f (x ∷ xs) ≡ Some ys → (y : X) × (rest : List X) × (f x ≡ Some y) × (each f xs ≡ Some rest) × (ys ≡ y ∷ rest)
each_part {X = X} f x xs ys e = by (f x) (each f xs) e where
  by : (o : Option X) (q : Option (List X)) → joined (option_map (λ y. y ∷ []) o) q ≡ Some ys → (y : X) × (rest : List X) × (o ≡ Some y) × (q ≡ Some rest) × (ys ≡ y ∷ rest)
  by None q e = absurd (cc)
  by (Some y) None e = absurd (cc)
  by (Some y) (Some rest) e = (y, rest, refl, refl, ap (some_or ys) (sym e))

-- ---- values and types

one_value : (t : Thing) (xs : List Val) → is_range_kind (Some (kind_of t)) ≡ false → values_in t ≡ Some xs → (x : Val) × (xs ≡ x ∷ []) × (t ≡ a_value x)
one_value (a_value v) xs k p = (v, ap (some_or xs) (sym p), refl)
one_value t xs k p = absurd (cc)

more_values : (t : Thing) (xs : List Val) → is_range_kind (Some (kind_of t)) ≡ true → values_in t ≡ Some xs → t ≡ some_values xs
more_values (some_values v) xs k p = ap some_values (ap (some_or xs) p)
more_values t xs k p = absurd (cc)

one_type : (t : Thing) (xs : List Ty) → is_range_kind (Some (kind_of t)) ≡ false → types_in t ≡ Some xs → (x : Ty) × (xs ≡ x ∷ []) × (t ≡ a_type x)
one_type (a_type v) xs k p = (v, ap (some_or xs) (sym p), refl)
one_type t xs k p = absurd (cc)

more_types : (t : Thing) (xs : List Ty) → is_range_kind (Some (kind_of t)) ≡ true → types_in t ≡ Some xs → t ≡ some_types xs
more_types (some_types v) xs k p = ap some_types (ap (some_or xs) p)
more_types t xs k p = absurd (cc)

value_parts : IsJoinedBy a_value some_values values_in
value_parts = record { one = one_value; more = more_values }

type_parts : IsJoinedBy a_type some_types types_in
type_parts = record { one = one_type; more = more_types }

-- What the expressions denote are the segments.
segments_right : (rows : List Row) (ks : List Kind) (a : List Thing) → map kind_of a ≡ ks → (es : List Expr) (ss : List (List Val)) → each (values_denoted rows a) es ≡ Some ss
    → Denote rows a es (of_segments (map (is_range ks) es) ss)
segments_right rows ks a fits [] ss j = tt
segments_right rows ks a fits (e ∷ es) ss j =
    let p = each_part (values_denoted rows a) e es ss j in
    let d = there values_in (denoted rows a e) p.0 p.2 in
    let k = kind_is rows ks a fits e d.0 d.1 in
    by p.0 p.1 (is_range ks e) refl d.0 (sym (ap is_range_kind k)) d.1 d.2 p.4 (segments_right rows ks a fits es p.1 p.3) where
      by : (s : List Val) (rest : List (List Val)) (b : Bool) → is_range ks e ≡ b → (t : Thing) → is_range_kind (Some (kind_of t)) ≡ is_range ks e → denoted rows a e ≡ Some t → values_in t ≡ Some s
          → ss ≡ s ∷ rest → Denote rows a es (of_segments (map (is_range ks) es) rest) → Denote rows a (e ∷ es) (of_segments (is_range ks e ∷ map (is_range ks) es) ss)
      by s rest true c t k d p x go =
          subst (λ b. Denote rows a (e ∷ es) (of_segments (b ∷ map (is_range ks) es) ss)) (sym c)
          (subst (λ w. Denote rows a (e ∷ es) (of_segments (true ∷ map (is_range ks) es) w)) (sym x) (d ∙ ap Some (more_values t s (k ∙ c) p), go))
      by s rest false c t k d p x go =
          let h = one_value t s (k ∙ c) p in
          subst (λ b. Denote rows a (e ∷ es) (of_segments (b ∷ map (is_range ks) es) ss)) (sym c)
          (subst (λ w. Denote rows a (e ∷ es) (of_segments (false ∷ map (is_range ks) es) w)) (sym (x ∙ ap (λ w. w ∷ rest) h.1)) (d ∙ ap Some h.2, go))

operands_right : (rows : List Row) (ks : List Kind) (a : List Thing) → map kind_of a ≡ ks → (es : List Expr) (r : Row) → HasOperands (has_ranges (map kind_of a) es) rows a es r
    → Denote rows a es (operands_cut (has_ranges ks es) (map (is_range ks) es) r)
operands_right rows ks a fits es r h = by (has_ranges ks es) refl (subst (λ l. HasOperands (has_ranges l es) rows a es r) fits h) where
  by : (b : Bool) → has_ranges ks es ≡ b → HasOperands b rows a es r → Denote rows a es (operands_cut b (map (is_range ks) es) r)
  by true p h = subst (λ o. Denote rows a es (by_segments (map (is_range ks) es) o)) (sym h.1) (segments_right rows ks a fits es h.0 h.2)
  by false p h = cut_right a_value some_values values_in value_parts rows ks a fits es r.operands (grind (arith, nat_tests)) h

-- ---- the variable in an expression, by what the expression denotes

abbrev pub holder : Thing → Option Thing
holder (a_value (Res d j)) = Some (an_op d)
holder t = None

abbrev pub variable_in : Expr → Thing → Option Thing
variable_in (the x) t = Some t
variable_in (result x k) t = holder t
variable_in (only_result x) t = holder t

-- the row that is found by a number has it
found_number : (rows : List Row) (id : ℕ) (r : Row) → row_of rows id ≡ Some r → r.id ≡ id
found_number [] id r e = absurd (cc)
found_number (x ∷ rows) id r e = by (x.id == id) refl e (found_number rows id r) where
  by : (b : Bool) → (x.id == id) ≡ b → cond b (Some x) (row_of rows id) ≡ Some r → (row_of rows id ≡ Some r → r.id ≡ id) → r.id ≡ id
  by true p e go = let same : x ≡ r = ap (some_or x) e in let n : x.id ≡ id = grind (arith, nat_tests) in (ap (λ y. y.id) (sym same) ∙ n)
  by false p e go = go e

module _ (rows : List Row) where
  holds_result : (k : ℕ) (u : Thing) (t : Thing) → option_and_then (result_at k) (row_at rows u) ≡ Some t → holder t ≡ Some u
  holds_result k (an_op id) t d = by (row_of rows id) refl d where
    by : (o : Option Row) → row_of rows id ≡ o → option_and_then (result_at k) o ≡ Some t → holder t ≡ Some (an_op id)
    by None p d = absurd (cc)
    by (Some r) p d = of (nat_lt k (length r.results)) d where
      of : (b : Bool) → cond b (Some (a_value (Res r.id k))) None ≡ Some t → holder t ≡ Some (an_op id)
      of true d = ap (λ o. holder (some_or t o)) (sym d) ∙ ap (λ n. Some (an_op n)) (found_number rows id r p)
      of false d = absurd (cc)
  holds_result k u t d = absurd (cc)

  holds_only : (u : Thing) (t : Thing) → option_and_then only_result_at (row_at rows u) ≡ Some t → holder t ≡ Some u
  holds_only (an_op id) t d = by (row_of rows id) refl d where
    by : (o : Option Row) → row_of rows id ≡ o → option_and_then only_result_at o ≡ Some t → holder t ≡ Some (an_op id)
    by None p d = absurd (cc)
    by (Some r) p d = of (nat_eq (length r.results) 1) d where
      of : (b : Bool) → cond b (Some (a_value (Res r.id 0))) None ≡ Some t → holder t ≡ Some (an_op id)
      of true d = ap (λ o. holder (some_or t o)) (sym d) ∙ ap (λ n. Some (an_op n)) (found_number rows id r p)
      of false d = absurd (cc)
  holds_only u t d = absurd (cc)

  given_of : (a : List Thing) (x : ℕ) (f : Row → Option Thing) (t : Thing) → ((u : Thing) → option_and_then f (row_at rows u) ≡ Some t → holder t ≡ Some u)
      → option_and_then f (option_and_then (row_at rows) (slice_get a x)) ≡ Some t → slice_get a x ≡ holder t
  given_of a x f t h d = by (slice_get a x) d where
    by : (o : Option Thing) → option_and_then f (option_and_then (row_at rows) o) ≡ Some t → o ≡ holder t
    by None d = absurd (cc)
    by (Some u) d = sym (h u d)

  pub variable_right : (a : List Thing) (e : Expr) (t : Thing) (y : ℕ) → denoted rows a e ≡ Some t → StandsIn y e → slice_get a y ≡ variable_in e t
  variable_right a (the x) t y d s = ap (slice_get a) s ∙ d
  variable_right a (result x k) t y d s = ap (slice_get a) s ∙ given_of a x (result_at k) t (λ u. holds_result k u t) d
  variable_right a (only_result x) t y d s = ap (slice_get a) s ∙ given_of a x only_result_at t (λ u. holds_only u t) d

-- ---- what derivations tell

-- an entry's expression, and the attribute of its name
abbrev pub pick_entry : Row → (e : Expr) (es : List (List ℕ × Expr)) → IsIn e (values_of es) → Option Thing
pick_entry r e [] i = None
pick_entry r e (x ∷ es) (inl i) = option_map an_attr (attribute_of r x.0)
pick_entry r e (x ∷ es) (inr i) = pick_entry r e es i

picked_entry : (rows : List Row) (a : List Thing) (r : Row) (e : Expr) (es : List (List ℕ × Expr)) (i : IsIn e (values_of es)) → AllByRecursion (HasEntry rows a r) es → denoted rows a e ≡ pick_entry r e es i
picked_entry rows a r e [] i h = elim i [ ]
picked_entry rows a r e (x ∷ es) (inl i) h = ap (denoted rows a) i ∙ (h.0.2 ∙ ap (option_map an_attr) (sym h.0.1))
picked_entry rows a r e (x ∷ es) (inr i) h = picked_entry rows a r e es i h.1

abbrev pub pick_part : List Kind → Row → (e : Expr) (o : Parts Expr) → IsPart e o → Option Thing
pick_part ks r e o (inl i) = pick e o.operands i (operands_cut (has_ranges ks o.operands) (map (is_range ks) o.operands) r)
pick_part ks r e o (inr (inl i)) = pick_entry r e o.entries i
pick_part ks r e o (inr (inr i)) = pick e o.types i (cut a_type some_types (map (is_range ks) o.types) r.results)

pub picked_part : (rows : List Row) (ks : List Kind) (a : List Thing) → map kind_of a ≡ ks → (r : Row) (e : Expr) (o : Parts Expr) (i : IsPart e o)
    → HasOneRange ks o.types → HasParts rows a o r → denoted rows a e ≡ pick_part ks r e o i
picked_part rows ks a fits r e o (inl i) one d =
    picked rows a e o.operands i (operands_cut (has_ranges ks o.operands) (map (is_range ks) o.operands) r)
    (operands_right rows ks a fits o.operands r d.operands)
picked_part rows ks a fits r e o (inr (inl i)) one d = picked_entry rows a r e o.entries i d.entries
picked_part rows ks a fits r e o (inr (inr i)) one d =
    picked rows a e o.types i (cut a_type some_types (map (is_range ks) o.types) r.results)
    (cut_right a_type some_types types_in type_parts rows ks a fits o.types r.results one d.types)

module _ (rows : List Row) (ks : List Kind) (demands : List Demand) (root : ℕ) (id : ℕ) where
  abbrev pub told : (x : ℕ) → Determined (root ∷ []) demands x → Option Thing
  told _ (given_one x i) = Some (an_op id)
  told _ (attr_told x v i) = Some (an_attr v)
  told _ (type_told x t i) = Some (a_type t)
  told _ (part_of x y o e d t i s) = option_and_then (variable_in e) (option_and_then (λ r. pick_part ks r e o i) (option_and_then (row_at rows) (told x t)))
  told _ (type_of x y e d t s) = option_and_then (variable_in e) (option_and_then (thing_type rows) (told x t))

pub holding : (P : Demand → Type 0) (d : Demand) (ds : List Demand) → IsIn d ds → AllByRecursion P ds → P d
holding P d [] i h = elim i [ ]
holding P d (x ∷ ds) (inl i) h = subst P (sym i) h.0
holding P d (x ∷ ds) (inr i) h = holding P d ds i h.1

-- a part denotes something
pub part_denotes : (rows : List Row) (ks : List Kind) (a : List Thing) → map kind_of a ≡ ks → (r : Row) (e : Expr) (o : Parts Expr) → IsPart e o
    → HasOneRange ks o.types → HasParts rows a o r → (t : Thing) × (denoted rows a e ≡ Some t)
part_denotes rows ks a fits r e o (inl i) one d = by (has_ranges (map kind_of a) o.operands) d.operands where
  segment : (es : List Expr) → IsIn e es → (ss : List (List Val)) → each (values_denoted rows a) es ≡ Some ss → (t : Thing) × (denoted rows a e ≡ Some t)
  segment [] i ss j = elim i [ ]
  segment (x ∷ es) (inl i) ss j =
      let p = each_part (values_denoted rows a) x es ss j in
      let d = there values_in (denoted rows a x) p.0 p.2 in
      (d.0, ap (denoted rows a) i ∙ d.1)
  segment (x ∷ es) (inr i) ss j = let p = each_part (values_denoted rows a) x es ss j in segment es i p.1 p.3

  operand : (es : List Expr) → IsIn e es → (vs : List Val) → concatenated (values_denoted rows a) es ≡ Some vs → (t : Thing) × (denoted rows a e ≡ Some t)
  operand [] i vs j = elim i [ ]
  operand (x ∷ es) (inl i) vs j =
      let h = both_parts (values_denoted rows a x) (concatenated (values_denoted rows a) es) vs j in
      let d = there values_in (denoted rows a x) h.0 h.2 in
      (d.0, ap (denoted rows a) i ∙ d.1)
  operand (x ∷ es) (inr i) vs j = let h = both_parts (values_denoted rows a x) (concatenated (values_denoted rows a) es) vs j in operand es i h.1 h.3

  by : (b : Bool) → HasOperands b rows a o.operands r → (t : Thing) × (denoted rows a e ≡ Some t)
  by true h = segment o.operands i h.0 h.2
  by false h = operand o.operands i r.operands h
part_denotes rows ks a fits r e o (inr (inl i)) one d = value o.entries i d.entries where
  value : (es : List (List ℕ × Expr)) → IsIn e (values_of es) → AllByRecursion (HasEntry rows a r) es → (t : Thing) × (denoted rows a e ≡ Some t)
  value [] i h = elim i [ ]
  value (x ∷ es) (inl i) h = (an_attr h.0.0, ap (denoted rows a) i ∙ h.0.2)
  value (x ∷ es) (inr i) h = value es i h.1
part_denotes rows ks a fits r e o (inr (inr i)) one d = type o.types i r.results d.types where
  type : (es : List Expr) → IsIn e es → (ts : List Ty) → concatenated (types_denoted rows a) es ≡ Some ts → (t : Thing) × (denoted rows a e ≡ Some t)
  type [] i vs j = elim i [ ]
  type (x ∷ es) (inl i) vs j =
      let h = both_parts (types_denoted rows a x) (concatenated (types_denoted rows a) es) vs j in
      let d = there types_in (denoted rows a x) h.0 h.2 in
      (d.0, ap (denoted rows a) i ∙ d.1)
  type (x ∷ es) (inr i) vs j = let h = both_parts (types_denoted rows a x) (concatenated (types_denoted rows a) es) vs j in type es i h.1 h.3

module _ (rows : List Row) (p : Pattern) (id : ℕ) (a : List Thing) (one : AllByRecursion (KeepsOneRange p.kinds) p.demands) (m : MatchesBy rows p a id) where
  -- Under each assignment by which the pattern matches a determined variable is given what its derivation tells.
  pub told_right : (x : ℕ) (d : Determined (p.root ∷ []) p.demands x) → slice_get a x ≡ told rows p.kinds p.demands p.root id x d
  told_right _ (given_one x (inl i)) = ap (slice_get a) i ∙ m.root
  told_right _ (given_one x (inr i)) = elim i [ ]
  told_right _ (attr_told x v i) = holding (Holds rows a) (is_attr x v) p.demands i m.holds
  told_right _ (type_told x t i) = holding (Holds rows a) (is_type x t) p.demands i m.holds
  told_right _ (part_of x y o e d t i s) =
      let h : Holds rows a (has_parts x o) = holding (Holds rows a) (has_parts x o) p.demands d m.holds in
      let u : HasOneRange p.kinds o.types = holding (KeepsOneRange p.kinds) (has_parts x o) p.demands d one in
      let n = part_denotes rows p.kinds a m.assigned.kinds_fit h.0 e o i u h.2 in
      let q : denoted rows a e ≡ pick_part p.kinds h.0 e o i = picked_part rows p.kinds a m.assigned.kinds_fit h.0 e o i u h.2 in
      let w : option_and_then (row_at rows) (told rows p.kinds p.demands p.root id x t) ≡ Some h.0 = ap (option_and_then (row_at rows)) (sym (told_right x t)) ∙ h.1 in
      variable_right rows a e n.0 y n.1 s
      ∙ sym (ap (λ z. option_and_then (variable_in e) (option_and_then (λ r. pick_part p.kinds r e o i) z)) w ∙ ap (option_and_then (variable_in e)) (sym q ∙ n.1))
  told_right _ (type_of x y e d t s) =
      let h : Holds rows a (has_type x e) = holding (Holds rows a) (has_type x e) p.demands d m.holds in
      variable_right rows a e h.0 y h.1 s
      ∙ sym (ap (λ z. option_and_then (variable_in e) (option_and_then (thing_type rows) z)) (sym (told_right x t)) ∙ ap (option_and_then (variable_in e)) h.2)
