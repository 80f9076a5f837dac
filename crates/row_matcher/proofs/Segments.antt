-- The operands of a row by their segments.
use Rattle.std.proofs.Common.{◌≡◌, ◌⊎◌, inl, inr, ℕ, zero, suc, ◌+◌, ◌<◌, ◌≤◌, Bool, true, false, cond, List, [], ◌∷◌, map, length, drop, get_or, Option, Some, None, option_map, refl, sym, ap, subst, ◌∙◌, arith}
use Rattle.std.specs.Prelude.{◌↔◌, slice_get, option_copied, option_and_then, codes, nat_lt, ◌==◌}
use Rattle.std.proofs.lemmas.Bool.Decides.{nat_tests}
use Rattle.std.proofs.lemmas.Option.{slice_get-map}
use Rattle.std.proofs.lemmas.List.Splits.{length-slice_split}
use Rattle.mlir_tree.specs.declared.row.Row.{Row}
use Rattle.mlir_tree.specs.declared.value.Val.{Val}
use Rattle.mlir_tree.specs.Tree.{Attr}
use Rattle.mlir_tree.specs.Edits.{attribute_of}
use Rattle.segment_sizes.specs.declared.segments.Segment.{Segment}
use Rattle.segment_sizes.specs.Sizes.{parts, size_of, size_then, sizes_of, spelling, sizes}
use Rattle.segment_sizes.specs.Segments.{fitting, runs, segments}
use Rattle.segment_sizes.specs.Reading.{parts_left, segments_in}
use Rattle.native_set.specs.declared.native.Kind.{Kind}
use Rattle.rewrite_model.specs.Pattern.{Expr}
use Rattle.rewrite_model.specs.Ranges.{is_range, ranges}
use Rattle.rewrite_model.specs.Segments.{segments_of}
use Rattle.rewrite_model.specs.Things.{Thing, kind_of, each, joined, values_denoted}
use Rattle.rewrite_model.proofs.Told.{some_or, each_part}
use Rattle.row_matcher.specs.declared.thing.Thing.{Thing as ThingNode}
use Rattle.row_matcher.specs.View.{thing_of}
use Rattle.row_matcher.specs.Learning.{Known, tell, tells, segment_thing, thing_then, of_segments, by_segments, tell_segments}
use Rattle.row_matcher.specs.Segments.{AreDenoted, SpellsSegments, IsNextSegment}

-- ---- how many ranges

ranges_behind : {B : Type 0} (ks : List Kind) (g : B → Expr) (es : List B) (i : ℕ) (d : B) → i < length es → ranges ks (map g (drop i es)) ≡ cond (is_range ks (g (get_or es i d))) 1 0 + ranges ks (map g (drop (suc i) es))
ranges_behind ks g [] i d l = absurd (omega (arith, l))
ranges_behind ks g (e ∷ es) zero d l = refl
ranges_behind ks g (e ∷ es) (suc i) d l = ranges_behind ks g es i d (omega (arith, l))

pub ranges_next : {B : Type 0} (ks : List Kind) (g : B → Expr) (es : List B) (i : ℕ) (d : B) → i < length es → ranges ks (map g (drop i es)) ≡ cond (is_range ks (g (get_or es i d))) 1 0 + ranges ks (map g (drop (i + 1) es))
ranges_next ks g es i d l =
    let n : suc i ≡ i + 1 = omega arith in
    ranges_behind ks g es i d l ∙ ap (λ k. cond (is_range ks (g (get_or es i d))) 1 0 + ranges ks (map g (drop k es))) n

pub kind_there : (a : List ThingNode) (x : ℕ) (t : ThingNode) → Some t ≡ slice_get a x → slice_get (map kind_of (map thing_of a)) x ≡ Some (kind_of (thing_of t))
kind_there a x t e = slice_get-map kind_of (map thing_of a) x ∙ ap (option_map kind_of) (slice_get-map thing_of a x ∙ ap (option_map thing_of) (sym e))

pub kind_nowhere : (a : List ThingNode) (x : ℕ) → None ≡ slice_get a x → slice_get (map kind_of (map thing_of a)) x ≡ None
kind_nowhere a x e = slice_get-map kind_of (map thing_of a) x ∙ ap (option_map kind_of) (slice_get-map thing_of a x ∙ ap (option_map thing_of) (sym e))

-- ---- the sizes that a row spells

pub no_attribute : (r : Row) → None ≡ attribute_of r (codes "operandSegmentSizes") → segments_of r ≡ None
no_attribute r e = ap (option_and_then (λ x. segments x r.operands)) (sym e)

pub counted : (r : Row) (a : Attr) → Some a ≡ attribute_of r (codes "operandSegmentSizes") → (o : Option ℕ) → o ≡ option_map length (option_and_then (fitting (length r.operands)) (sizes a)) → o ≡ None → segments_of r ≡ None
counted r a e o c n = ap (option_and_then (λ x. segments x r.operands)) (sym e) ∙ by (option_and_then (fitting (length r.operands)) (sizes a)) (sym c ∙ n) where
  by : (q : Option (List ℕ)) → option_map length q ≡ None → option_map (λ ns. runs ns r.operands) q ≡ None
  by None p = refl
  by (Some ns) p = absurd (cc)

pub spelled : (r : Row) (a : Attr) → Some a ≡ attribute_of r (codes "operandSegmentSizes") → (n : ℕ) → Some n ≡ option_map length (option_and_then (fitting (length r.operands)) (sizes a)) → (o : Option (List ℕ)) → o ≡ spelling a → SpellsSegments r o
spelled r a e n c o s = by o (subst (λ q. Some n ≡ option_map length (option_and_then (fitting (length r.operands)) (option_and_then (λ text. sizes_of (parts text)) q))) (sym s) c)
    (ap (option_and_then (λ x. segments x r.operands)) (sym e) ∙ ap (λ q. option_map (λ ns. runs ns r.operands) (option_and_then (fitting (length r.operands)) (option_and_then (λ text. sizes_of (parts text)) q))) (sym s)) where
      there : (q : Option (List ℕ)) → Some n ≡ option_map length q → (ss : List (List Val)) × (option_map (λ ns. runs ns r.operands) q ≡ Some ss)
      there None p = absurd (cc)
      there (Some ns) p = (_, refl)

      by : (o : Option (List ℕ)) → Some n ≡ option_map length (option_and_then (fitting (length r.operands)) (option_and_then (λ text. sizes_of (parts text)) o))
          → segments_of r ≡ option_map (λ ns. runs ns r.operands) (option_and_then (fitting (length r.operands)) (option_and_then (λ text. sizes_of (parts text)) o)) → SpellsSegments r o
      by None c f = absurd (cc)
      by (Some text) c f = let t = there (option_and_then (fitting (length r.operands)) (sizes_of (parts text))) c in (t.0, f ∙ t.1, t.1)

-- ---- what segments denote

module _ (rows : List Row) (a : List Thing) where
  pub denoted_next : (e : Expr) (es : List Expr) (vs : List Val) (o q : Option (List (List Val))) → o ≡ option_map (λ ss. vs ∷ ss) q → values_denoted rows a e ≡ Some vs
      → AreDenoted rows a (e ∷ es) o ↔ AreDenoted rows a es q
  denoted_next e es vs o q p v = (there q p, back q p) where
    there : (q : Option (List (List Val))) → o ≡ option_map (λ ss. vs ∷ ss) q → AreDenoted rows a (e ∷ es) o → AreDenoted rows a es q
    there None p h = absurd (let g = sym p ∙ h.1 in cc)
    there (Some qs) p h =
        let d = each_part (values_denoted rows a) e es h.0 h.2 in
        let same : vs ∷ qs ≡ d.0 ∷ d.1 = ap (some_or h.0) (sym p ∙ h.1) ∙ d.4 in
        let rest : d.1 ≡ qs = cc in
        (qs, refl, d.3 ∙ ap Some rest)

    back : (q : Option (List (List Val))) → o ≡ option_map (λ ss. vs ∷ ss) q → AreDenoted rows a es q → AreDenoted rows a (e ∷ es) o
    back None p h = absurd (let g = h.1 in cc)
    back (Some qs) p h =
        let same : h.0 ≡ qs = ap (some_or h.0) (sym h.1) in
        let all : each (values_denoted rows a) es ≡ Some qs = h.2 ∙ ap Some same in
        (vs ∷ qs, p, λ i. joined (option_map (λ y. y ∷ []) (v i)) (all i))

  pub not_denoted : (e : Expr) (es : List Expr) (vs : List Val) (o q : Option (List (List Val))) → o ≡ option_map (λ ss. vs ∷ ss) q → (values_denoted rows a e ≡ Some vs → ⊥) → AreDenoted rows a (e ∷ es) o → ⊥
  not_denoted e es vs o None p n h = let g = sym p ∙ h.1 in cc
  not_denoted e es vs o (Some qs) p n h =
      let d = each_part (values_denoted rows a) e es h.0 h.2 in
      let same : vs ∷ qs ≡ d.0 ∷ d.1 = ap (some_or h.0) (sym p ∙ h.1) ∙ d.4 in
      let first : d.0 ≡ vs = cc in
      n (d.2 ∙ ap Some first)

  pub none_denoted : (es : List Expr) (o : Option (List (List Val))) → o ≡ None → AreDenoted rows a es o → ⊥
  none_denoted es o p h = let g = sym p ∙ h.1 in cc

  pub none_left : (e : Expr) (es : List Expr) (vs : List Val) → AreDenoted rows a (e ∷ es) (segments_in [] vs) → ⊥
  none_left e es vs h = by _ h.1 (each_part (values_denoted rows a) e es h.0 h.2).4 where
    by : {x : List Val} {xs : List (List Val)} (b : Bool) → option_map (λ ns. runs ns vs) (cond b (Some []) None) ≡ Some h.0 → h.0 ≡ x ∷ xs → ⊥
    by true f g = let c = f ∙ ap Some g in cc
    by false f g = cc

no_parts : (text : List ℕ) → parts text ≡ [] → ⊥
no_parts text e = let l = length-slice_split (λ b. b == 44) text in let z : length (parts text) ≡ 0 = ap length e in omega (arith, l, z)

some_part : (ps : List (List ℕ)) (vs : List Val) → segments_in ps vs ≡ Some [] → (ps ≡ []) × (vs ≡ [])
some_part [] [] e = (refl, refl)
some_part [] (v ∷ vs) e = absurd (by (0 == suc (length vs)) refl e) where
  by : (b : Bool) → (0 == suc (length vs)) ≡ b → option_map (λ ns. runs ns (v ∷ vs)) (cond b (Some []) None) ≡ Some [] → ⊥
  by true p e = grind (arith, nat_tests)
  by false p e = cc
some_part (p ∷ ps) vs e = absurd (by (size_of p) (sizes_of ps) e) where
  fits : (n : ℕ) (ns : List ℕ) (b : Bool) → option_map (λ ms. runs ms vs) (cond b (Some (n ∷ ns)) None) ≡ Some [] → ⊥
  fits n ns true e = cc
  fits n ns false e = cc

  by : (o : Option ℕ) (q : Option (List ℕ)) → option_map (λ ms. runs ms vs) (option_and_then (fitting (length vs)) (size_then o q)) ≡ Some [] → ⊥
  by None q e = cc
  by (Some n) None e = cc
  by (Some n) (Some ns) e = fits n ns _ e

-- At the end nothing is left.
pub all_denoted : (rows : List Row) (a : List Thing) (left : Option (List ℕ)) (vs : List Val) → AreDenoted rows a [] (segments_in (parts_left left) vs) → (left ≡ None) × (vs ≡ [])
all_denoted rows a None vs h = (refl, (some_part [] vs (h.1 ∙ sym h.2)).1)
all_denoted rows a (Some text) vs h = elim (no_parts text (some_part (parts text) vs (h.1 ∙ sym h.2)).0) [ ]

-- ---- what segments tell

pub told_segment : (ks : List Kind) (e : Expr) (es : List Expr) (vs : List Val) (t : Thing) (o q : Option (List (List Val))) (ss : List (List Val)) (k : Known) → o ≡ Some ss → o ≡ option_map (λ ss. vs ∷ ss) q → segment_thing (is_range ks e) vs ≡ Some t
    → ((rest : List (List Val)) × (q ≡ Some rest)) × (tell_segments ks (e ∷ es) o k ≡ tell_segments ks es q (tell e (Some t) k))
told_segment ks e es vs t o None ss k s p f = absurd (let g = sym p ∙ s in cc)
told_segment ks e es vs t o (Some rest) ss k s p f =
    ((rest, refl), ap (λ z. tell_segments ks (e ∷ es) z k) p ∙ ap (λ z. tells (e ∷ es) (thing_then z (of_segments (map (is_range ks) es) rest)) k) f)

pub told_no_more : (ks : List Kind) (e : Expr) (es : List Expr) (vs : List Val) (o q : Option (List (List Val))) (k : Known) → o ≡ option_map (λ ss. vs ∷ ss) q → segment_thing (is_range ks e) vs ≡ None → tell_segments ks (e ∷ es) o k ≡ k
told_no_more ks e es vs o None k p f = ap (λ z. tell_segments ks (e ∷ es) z k) p
told_no_more ks e es vs o (Some rest) k p f = ap (λ z. tell_segments ks (e ∷ es) z k) p ∙ ap (λ z. tells (e ∷ es) (thing_then z (of_segments (map (is_range ks) es) rest)) k) f

-- ---- loops

drop_next : {B : Type 0} (g : B → Expr) (es : List B) (i : ℕ) (d : B) → i < length es → map g (drop i es) ≡ g (get_or es i d) ∷ map g (drop (suc i) es)
drop_next g [] i d l = absurd (omega (arith, l))
drop_next g (e ∷ es) zero d l = refl
drop_next g (e ∷ es) (suc i) d l = drop_next g es i d (omega (arith, l))

drop_more : {B : Type 0} (g : B → Expr) (es : List B) (i : ℕ) (d : B) → i < length es → map g (drop i es) ≡ g (get_or es i d) ∷ map g (drop (i + 1) es)
drop_more g es i d l = let n : suc i ≡ i + 1 = omega arith in drop_next g es i d l ∙ ap (λ k. g (get_or es i d) ∷ map g (drop k es)) n

-- the segments that are left
abbrev pub left_of : Option (List ℕ) → List Val → Option (List (List Val))
left_of left vs = segments_in (parts_left left) vs

next_is : (left : Option (List ℕ)) (vs : List Val) (s : Segment Val) → IsNextSegment left vs (Some s) → left_of left vs ≡ option_map (λ ss. s.items.now ∷ ss) (left_of (option_copied s.sizes) s.rest.now)
next_is None vs s h = absurd (cc)
next_is (Some text) vs s h = h

module _ {B : Type 0} (g : B → Expr) (es : List B) (i : ℕ) (d : B) (l : i < length es) (left : Option (List ℕ)) (vs : List Val) where
  module _ (rows : List Row) (a : List Thing) where
    pub segments_next : (s : Segment Val) → IsNextSegment left vs (Some s) → values_denoted rows a (g (get_or es i d)) ≡ Some s.items.now
        → AreDenoted rows a (map g (drop i es)) (left_of left vs) ↔ AreDenoted rows a (map g (drop (i + 1) es)) (left_of (option_copied s.sizes) s.rest.now)
    segments_next s h v =
        subst (λ xs. AreDenoted rows a xs (left_of left vs) ↔ AreDenoted rows a (map g (drop (i + 1) es)) (left_of (option_copied s.sizes) s.rest.now)) (sym (drop_more g es i d l))
        (denoted_next rows a (g (get_or es i d)) (map g (drop (i + 1) es)) s.items.now (left_of left vs) (left_of (option_copied s.sizes) s.rest.now) (next_is left vs s h) v)

    pub segments_differ : (s : Segment Val) → IsNextSegment left vs (Some s) → (values_denoted rows a (g (get_or es i d)) ≡ Some s.items.now → ⊥) → AreDenoted rows a (map g (drop i es)) (left_of left vs) → ⊥
    segments_differ s h n x =
        not_denoted rows a (g (get_or es i d)) (map g (drop (i + 1) es)) s.items.now (left_of left vs) (left_of (option_copied s.sizes) s.rest.now) (next_is left vs s h) n
        (subst (λ xs. AreDenoted rows a xs (left_of left vs)) (drop_more g es i d l) x)

    pub segments_end : IsNextSegment left vs None → AreDenoted rows a (map g (drop i es)) (left_of left vs) → ⊥
    segments_end h x = by left h (subst (λ xs. AreDenoted rows a xs (left_of left vs)) (drop_more g es i d l) x) where
      by : (o : Option (List ℕ)) → IsNextSegment o vs None → AreDenoted rows a (g (get_or es i d) ∷ map g (drop (i + 1) es)) (left_of o vs) → ⊥
      by None h x = none_left rows a (g (get_or es i d)) (map g (drop (i + 1) es)) vs x
      by (Some text) h x = none_denoted rows a (g (get_or es i d) ∷ map g (drop (i + 1) es)) (segments_in (parts text) vs) h x

  module _ (ks : List Kind) (k : Known) where
    pub segment_told : (s : Segment Val) (t : Thing) (ss : List (List Val)) → IsNextSegment left vs (Some s) → left_of left vs ≡ Some ss → segment_thing (is_range ks (g (get_or es i d))) s.items.now ≡ Some t
        → ((rest : List (List Val)) × (left_of (option_copied s.sizes) s.rest.now ≡ Some rest))
        × (tell_segments ks (map g (drop i es)) (left_of left vs) k ≡ tell_segments ks (map g (drop (i + 1) es)) (left_of (option_copied s.sizes) s.rest.now) (tell (g (get_or es i d)) (Some t) k))
    segment_told s t ss h is f =
        let r = told_segment ks (g (get_or es i d)) (map g (drop (i + 1) es)) s.items.now t (left_of left vs) (left_of (option_copied s.sizes) s.rest.now) ss k is (next_is left vs s h) f in
        (r.0, ap (λ xs. tell_segments ks xs (left_of left vs) k) (drop_more g es i d l) ∙ r.1)

    pub segment_untold : (s : Segment Val) → IsNextSegment left vs (Some s) → segment_thing (is_range ks (g (get_or es i d))) s.items.now ≡ None → tell_segments ks (map g (drop i es)) (left_of left vs) k ≡ k
    segment_untold s h f =
        ap (λ xs. tell_segments ks xs (left_of left vs) k) (drop_more g es i d l)
        ∙ told_no_more ks (g (get_or es i d)) (map g (drop (i + 1) es)) s.items.now (left_of left vs) (left_of (option_copied s.sizes) s.rest.now) k (next_is left vs s h) f

    pub no_segment : IsNextSegment left vs None → tell_segments ks (map g (drop i es)) (left_of left vs) k ≡ k
    no_segment h = ap (λ xs. tell_segments ks xs (left_of left vs) k) (drop_more g es i d l) ∙ by left vs h where
      e : Expr
      e = g (get_or es i d)

      more : List Expr
      more = map g (drop (i + 1) es)

      nothing : (ws : List Val) (b : Bool) → tell_segments ks (e ∷ more) (option_map (λ ns. runs ns ws) (cond b (Some []) None)) k ≡ k
      nothing ws true = refl
      nothing ws false = refl

      by : (o : Option (List ℕ)) (ws : List Val) → IsNextSegment o ws None → tell_segments ks (e ∷ more) (left_of o ws) k ≡ k
      by None ws h = nothing ws _
      by (Some text) ws h = ap (λ z. tell_segments ks (e ∷ more) z k) h
