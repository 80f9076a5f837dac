-- The names that two dictionaries share, found by one walk along both.
use Rattle.std.proofs.Common.{◌≡◌, ℕ, zero, suc, ◌+◌, ◌<◌, ◌≤◌, true, false, ◌||◌, List, [], ◌∷◌, length, drop, Option, Some, None, refl, sym, ap, subst, ◌∙◌, arith, slice_index_or}
use Rattle.std.specs.Prelude.{if◌then◌else◌, nat_le}
use Rattle.std.specs.List.{AllByRecursion}
use Rattle.std.specs.Str.{bytes_eq}
use Rattle.std.specs.Ordering.{is_eq, ordering_reverse}
use Rattle.std.specs.declared.cmp.Ordering.TheVariants.{Less, Equal, Greater}
use Rattle.std.proofs.lemmas.Bool.Decides.{nat_tests}
use Rattle.std.proofs.lemmas.Cmp.{nat_list_cmp_total}
use Rattle.std.proofs.lemmas.Map.Text.{is_eq-slice_cmp}
use Rattle.std.proofs.lemmas.Map.Lookups.{exact_bytes}
use Rattle.mlir_tree.specs.Order.{text_cmp}
use Rattle.mlir_tree.specs.Range.{AreRising}
use Rattle.mlir_parse.specs.declared.syn.SynEntry.{SynEntry}
use Rattle.mlir_parse.specs.Limits.{syn_names}
use Rattle.mlir_resolve.specs.Resolving.{lesser, has_entry, least_shared}
use Rattle.mlir_resolve.proofs.Trees.{drop_item}

-- ---- the least place so far

-- the lesser of two places that may be there
abbrev pub least_of : Option ℕ → Option ℕ → Option ℕ
least_of None o = o
least_of (Some at) o = lesser at o

two_ways : (a b : ℕ) → (if nat_le a b then a else b) ≡ (if nat_le b a then b else a)
two_ways a b = grind (arith, nat_tests)

three_ways : (a b c : ℕ) → (if nat_le (if nat_le a b then a else b) c then (if nat_le a b then a else b) else c)
    ≡ (if nat_le b (if nat_le a c then a else c) then b else (if nat_le a c then a else c))
three_ways a b c = grind (arith, nat_tests)

pub least_more : (at : ℕ) (least rest : Option ℕ) → least_of (lesser at least) rest ≡ least_of least (lesser at rest)
least_more at None rest = refl
least_more at (Some l) None = ap (λ n. Some n) (two_ways at l)
least_more at (Some l) (Some r) = ap (λ n. Some n) (three_ways at l r)

pub least_end : (least : Option ℕ) → least_of least None ≡ least
least_end None = refl
least_end (Some at) = refl

-- ---- names that rise

abbrev AreAbove : List ℕ → List (List ℕ) → Type 0
AreAbove m names = AllByRecursion (λ n. text_cmp m n ≡ Less) names

above_from : (m n : List ℕ) (ns : List (List ℕ)) → text_cmp m n ≡ Less → AreRising (n ∷ ns) → AreAbove m (n ∷ ns)
above_from m n [] p r = (p, tt)
above_from m n (k ∷ ns) p r = (p, above_from m k ns (nat_list_cmp_total.trans m n k p r.0) r.1)

above_first : (m : List ℕ) (ns : List (List ℕ)) → AreRising (m ∷ ns) → AreAbove m ns
above_first m [] r = tt
above_first m (n ∷ ns) r = above_from m n ns r.0 r.1

pub rising_rest : (m : List ℕ) (ns : List (List ℕ)) → AreRising (m ∷ ns) → AreRising ns
rising_rest m [] r = tt
rising_rest m (n ∷ ns) r = r.1

-- ---- one step

less_is_other : (m n : List ℕ) → text_cmp m n ≡ Less → bytes_eq m n ≡ false
less_is_other m n p = sym (is_eq-slice_cmp m n) ∙ ap is_eq p

greater_is_other : (m n : List ℕ) → text_cmp m n ≡ Greater → bytes_eq m n ≡ false
greater_is_other m n p = sym (is_eq-slice_cmp m n) ∙ ap is_eq p

turned : (m n : List ℕ) → text_cmp m n ≡ Less → text_cmp n m ≡ Greater
turned m n p = nat_list_cmp_total.antisymm n m ∙ ap ordering_reverse p

turned_back : (m n : List ℕ) → text_cmp m n ≡ Greater → text_cmp n m ≡ Less
turned_back m n p = nat_list_cmp_total.antisymm n m ∙ ap ordering_reverse p

skip_property : (p : SynEntry) (ps attrs : List SynEntry) → AreAbove p.name (syn_names attrs) → least_shared (p ∷ ps) attrs ≡ least_shared ps attrs
skip_property p ps [] r = refl
skip_property p ps (a ∷ attrs) r =
    let other = less_is_other p.name a.name r.0 in
    let rest = skip_property p ps attrs r.1 in
    λ i. if (other i || has_entry ps a.name) then lesser a.at (rest i) else rest i

no_property : (name : List ℕ) (ps : List SynEntry) → AreAbove name (syn_names ps) → has_entry ps name ≡ false
no_property name [] r = refl
no_property name (p ∷ ps) r = λ i. greater_is_other p.name name (turned name p.name r.0) i || no_property name ps r.1 i

pub less_step : (p a : SynEntry) (ps attrs : List SynEntry) → text_cmp p.name a.name ≡ Less → AreRising (syn_names (a ∷ attrs))
    → least_shared (p ∷ ps) (a ∷ attrs) ≡ least_shared ps (a ∷ attrs)
less_step p a ps attrs q r = skip_property p ps (a ∷ attrs) (above_from p.name a.name (syn_names attrs) q r)

pub greater_step : (p a : SynEntry) (ps attrs : List SynEntry) → text_cmp p.name a.name ≡ Greater → AreRising (syn_names (p ∷ ps))
    → least_shared (p ∷ ps) (a ∷ attrs) ≡ least_shared (p ∷ ps) attrs
greater_step p a ps attrs q r =
    ap (λ b. if b then lesser a.at (least_shared (p ∷ ps) attrs) else least_shared (p ∷ ps) attrs)
    (no_property a.name (p ∷ ps) (above_from a.name p.name (syn_names ps) (turned_back p.name a.name q) r))

pub equal_step : (p a : SynEntry) (ps attrs : List SynEntry) → text_cmp p.name a.name ≡ Equal → AreRising (syn_names (a ∷ attrs))
    → least_shared (p ∷ ps) (a ∷ attrs) ≡ lesser a.at (least_shared ps attrs)
equal_step p a ps attrs q r =
    let same : bytes_eq p.name a.name ≡ true = sym (is_eq-slice_cmp p.name a.name) ∙ ap is_eq q in
    let rise : AreRising (p.name ∷ syn_names attrs) = subst (λ n. AreRising (n ∷ syn_names attrs)) (sym (exact_bytes p.name a.name q)) r in
    (λ i. if (same i || has_entry ps a.name) then lesser a.at (least_shared (p ∷ ps) attrs) else least_shared (p ∷ ps) attrs)
    ∙ ap (lesser a.at) (skip_property p ps attrs (above_first p.name (syn_names attrs) rise))

-- ---- the same where the lists go on from a place

pub rising_from : (xs : List SynEntry) (i : ℕ) (x : SynEntry) → i < length xs → x ≡ slice_index_or xs i x → AreRising (syn_names (drop i xs))
    → AreRising (syn_names (drop (i + 1) xs))
rising_from xs i x q p r =
    rising_rest x.name (syn_names (drop (i + 1) xs)) (subst (λ ys. AreRising (syn_names ys)) (drop_item xs i x q p) r)

pub none_left : (attrs : List SynEntry) → least_shared [] attrs ≡ None
none_left [] = refl
none_left (a ∷ attrs) = none_left attrs

pub drop_all : {A : Type 0} → (xs : List A) (i : ℕ) → length xs ≤ i → drop i xs ≡ []
drop_all [] zero q = refl
drop_all [] (suc i) q = refl
drop_all (x ∷ xs) zero q = absurd (omega arith)
drop_all (x ∷ xs) (suc i) q = drop_all xs i (omega arith)

module _ (props attrs : List SynEntry) (i j : ℕ) (p a : SynEntry) (in_p : i < length props) (p_is : p ≡ slice_index_or props i p) (in_a : j < length attrs) (a_is : a ≡ slice_index_or attrs j a) where
  abbrev props_are : drop i props ≡ p ∷ drop (i + 1) props
  props_are = drop_item props i p in_p p_is

  abbrev attrs_are : drop j attrs ≡ a ∷ drop (j + 1) attrs
  attrs_are = drop_item attrs j a in_a a_is

  both_are : least_shared (drop i props) (drop j attrs) ≡ least_shared (p ∷ drop (i + 1) props) (a ∷ drop (j + 1) attrs)
  both_are = λ k. least_shared (props_are k) (attrs_are k)

  pub less_from : text_cmp p.name a.name ≡ Less → AreRising (syn_names (drop j attrs)) → least_shared (drop i props) (drop j attrs) ≡ least_shared (drop (i + 1) props) (drop j attrs)
  less_from q r =
      both_are
      ∙ (less_step p a (drop (i + 1) props) (drop (j + 1) attrs) q (subst (λ es. AreRising (syn_names es)) attrs_are r)
      ∙ ap (least_shared (drop (i + 1) props)) (sym attrs_are))

  pub greater_from : text_cmp p.name a.name ≡ Greater → AreRising (syn_names (drop i props)) → least_shared (drop i props) (drop j attrs) ≡ least_shared (drop i props) (drop (j + 1) attrs)
  greater_from q r =
      both_are
      ∙ (greater_step p a (drop (i + 1) props) (drop (j + 1) attrs) q (subst (λ es. AreRising (syn_names es)) props_are r)
      ∙ ap (λ es. least_shared es (drop (j + 1) attrs)) (sym props_are))

  pub equal_from : text_cmp p.name a.name ≡ Equal → AreRising (syn_names (drop j attrs)) → least_shared (drop i props) (drop j attrs) ≡ lesser a.at (least_shared (drop (i + 1) props) (drop (j + 1) attrs))
  equal_from q r = both_are ∙ equal_step p a (drop (i + 1) props) (drop (j + 1) attrs) q (subst (λ es. AreRising (syn_names es)) attrs_are r)
