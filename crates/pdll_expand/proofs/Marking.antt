-- Marks grow until they are exactly what is determined.
use Rattle.std.proofs.Common.{◌≡◌, ◌⊎◌, inl, inr, ℕ, zero, suc, ◌+◌, ◌-◌, ◌<◌, ◌≤◌, max, Bool, true, false, cond, List, [], ◌∷◌, ◌++◌, map, length, get_or, set, slice_get, Some, None, replicate, refl, sym, ap, subst, ◌∙◌, arith}
use Rattle.std.specs.Prelude.{⊤, nat_lt}
use Rattle.std.proofs.lemmas.Bool.Decides.{nat_tests}
use Rattle.mlir_tree.specs.Tree.{Ty, Attr}
use Rattle.rewrite_model.specs.Pattern.{Parts, Expr, the, result, only_result, Demand, stands, is_attr, is_type, has_name, has_parts, has_type, calls}
use Rattle.rewrite_model.specs.Determined.{IsIn, StandsIn, IsPart, values_of, Determined, given_one, attr_told, type_told, part_of, type_of}
use Rattle.rewrite_model.specs.Laws.{number_in}
use Rattle.rewrite_model.proofs.Closing.{IsClosed, closed_has}
use Rattle.pdll_expand.specs.Marking.{is_marked, marks_in, marked, numbers_of, told, grown, passed, highest, numbers_in, highest_in, MarkDetermined, IsSound, IsGrown}

-- ---- fewer marks

abbrev pub Below : List Bool → List Bool → Type 0
Below [] [] = ⊤
Below [] (y ∷ ys) = ⊥
Below (x ∷ xs) [] = ⊥
Below (x ∷ xs) (y ∷ ys) = (x ≡ true → y ≡ true) × Below xs ys

pub below_itself : (xs : List Bool) → Below xs xs
below_itself [] = tt
below_itself (x ∷ xs) = (λ h. h, below_itself xs)

pub below_on : (xs ys zs : List Bool) → Below xs ys → Below ys zs → Below xs zs
below_on [] [] [] h k = tt
below_on [] [] (z ∷ zs) h k = elim k [ ]
below_on [] (y ∷ ys) zs h k = elim h [ ]
below_on (x ∷ xs) [] zs h k = elim h [ ]
below_on (x ∷ xs) (y ∷ ys) [] h k = elim k [ ]
below_on (x ∷ xs) (y ∷ ys) (z ∷ zs) h k = (λ e. k.0 (h.0 e), below_on xs ys zs h.1 k.1)

same_bits : (x y : Bool) → (x ≡ true → y ≡ true) → (y ≡ true → x ≡ true) → x ≡ y
same_bits true y h k = sym (h refl)
same_bits false true h k = k refl
same_bits false false h k = refl

pub below_both : (xs ys : List Bool) → Below xs ys → Below ys xs → xs ≡ ys
below_both [] [] h k = refl
below_both [] (y ∷ ys) h k = elim h [ ]
below_both (x ∷ xs) [] h k = elim h [ ]
below_both (x ∷ xs) (y ∷ ys) h k = ap (λ b. b ∷ xs) (same_bits x y h.0 k.0) ∙ ap (λ bs. y ∷ bs) (below_both xs ys h.1 k.1)

pub below_length : (xs ys : List Bool) → Below xs ys → length ys ≡ length xs
below_length [] [] h = refl
below_length [] (y ∷ ys) h = elim h [ ]
below_length (x ∷ xs) [] h = elim h [ ]
below_length (x ∷ xs) (y ∷ ys) h = ap suc (below_length xs ys h.1)

pub below_keeps : (xs ys : List Bool) → Below xs ys → (n : ℕ) → is_marked xs n ≡ true → is_marked ys n ≡ true
below_keeps [] [] h n m = m
below_keeps [] (y ∷ ys) h n m = elim h [ ]
below_keeps (x ∷ xs) [] h n m = elim h [ ]
below_keeps (x ∷ xs) (y ∷ ys) h zero m = h.0 m
below_keeps (x ∷ xs) (y ∷ ys) h (suc n) m = below_keeps xs ys h.1 n m

one_counts : (x y : Bool) (m n : ℕ) → (x ≡ true → y ≡ true) → m ≤ n → cond x 1 0 + m ≤ cond y 1 0 + n
one_counts true true m n h le = omega arith
one_counts true false m n h le = absurd (cc (h refl))
one_counts false true m n h le = omega arith
one_counts false false m n h le = omega arith

pub below_counts : (xs ys : List Bool) → Below xs ys → marks_in xs ≤ marks_in ys
below_counts [] [] h = omega arith
below_counts [] (y ∷ ys) h = elim h [ ]
below_counts (x ∷ xs) [] h = elim h [ ]
below_counts (x ∷ xs) (y ∷ ys) h = one_counts x y (marks_in xs) (marks_in ys) h.0 (below_counts xs ys h.1)

-- as many marks are the same marks
pub below_same : (xs ys : List Bool) → Below xs ys → marks_in ys ≤ marks_in xs → ys ≡ xs
below_same [] [] h le = refl
below_same [] (y ∷ ys) h le = elim h [ ]
below_same (x ∷ xs) [] h le = elim h [ ]
below_same (true ∷ xs) (true ∷ ys) h le = ap (λ bs. true ∷ bs) (below_same xs ys h.1 (omega arith))
below_same (true ∷ xs) (false ∷ ys) h le = absurd (cc (h.0 refl))
below_same (false ∷ xs) (true ∷ ys) h le = let c = below_counts xs ys h.1 in absurd (omega arith)
below_same (false ∷ xs) (false ∷ ys) h le = ap (λ bs. false ∷ bs) (below_same xs ys h.1 (omega arith))

pub counts_within : (xs : List Bool) → marks_in xs ≤ length xs
counts_within [] = omega arith
counts_within (true ∷ xs) = let h = counts_within xs in omega arith
counts_within (false ∷ xs) = let h = counts_within xs in omega arith

-- what is read at a place
pub marked_there : (xs : List Bool) (n : ℕ) (b : Bool) → Some b ≡ slice_get xs n → b ≡ is_marked xs n
marked_there [] zero b h = absurd (cc)
marked_there [] (suc n) b h = absurd (cc)
marked_there (x ∷ xs) zero b h = let s : b ≡ x = cc in s
marked_there (x ∷ xs) (suc n) b h = marked_there xs n b h

pub marked_nowhere : (xs : List Bool) (n : ℕ) → None ≡ slice_get xs n → false ≡ is_marked xs n
marked_nowhere [] zero h = refl
marked_nowhere [] (suc n) h = refl
marked_nowhere (x ∷ xs) zero h = absurd (cc)
marked_nowhere (x ∷ xs) (suc n) h = marked_nowhere xs n h

-- ---- marking

pub below_set : (xs : List Bool) (n : ℕ) → Below xs (set xs n true)
below_set [] zero = tt
below_set [] (suc n) = tt
below_set (x ∷ xs) zero = (λ h. refl, below_itself xs)
below_set (x ∷ xs) (suc n) = (λ h. h, below_set xs n)

pub below_marked : (ns : List ℕ) (xs : List Bool) → Below xs (marked ns xs)
below_marked [] xs = below_itself xs
below_marked (n ∷ ns) xs = below_on xs (set xs n true) (marked ns (set xs n true)) (below_set xs n) (below_marked ns (set xs n true))

pub below_grown : (d : Demand) (xs : List Bool) → Below xs (grown d xs)
unfolding grown
below_grown d xs = below_marked (told xs d) xs

pub below_passed : (ds : List Demand) (xs : List Bool) → Below xs (passed ds xs)
below_passed [] xs = below_itself xs
below_passed (d ∷ ds) xs = below_on xs (passed ds xs) (grown d (passed ds xs)) (below_passed ds xs) (below_grown d (passed ds xs))

set_here : (xs : List Bool) (n : ℕ) → n < length xs → is_marked (set xs n true) n ≡ true
set_here [] n h = absurd (omega arith)
set_here (x ∷ xs) zero h = refl
set_here (x ∷ xs) (suc n) h = set_here xs n (omega arith)

set_else : (xs : List Bool) (n m : ℕ) → is_marked (set xs n true) m ≡ true → (m ≡ n) ⊎ (is_marked xs m ≡ true)
set_else [] zero m h = inr h
set_else [] (suc n) m h = inr h
set_else (x ∷ xs) zero zero h = inl refl
set_else (x ∷ xs) zero (suc m) h = inr h
set_else (x ∷ xs) (suc n) zero h = inr h
set_else (x ∷ xs) (suc n) (suc m) h = by (set_else xs n m h) where
  by : (m ≡ n) ⊎ (is_marked xs m ≡ true) → (suc m ≡ suc n) ⊎ (is_marked xs m ≡ true)
  by (inl e) = inl (ap suc e)
  by (inr e) = inr e

pub marked_both : (ns ms : List ℕ) (xs : List Bool) → marked (ns ++ ms) xs ≡ marked ms (marked ns xs)
marked_both [] ms xs = refl
marked_both (n ∷ ns) ms xs = marked_both ns ms (set xs n true)

-- what marking doesn't change has these marks
marked_has : (ns : List ℕ) (xs : List Bool) → marked ns xs ≡ xs → (n : ℕ) → IsIn n ns → n < length xs → is_marked xs n ≡ true
marked_has [] xs same n i h = elim i [ ]
marked_has (m ∷ ns) xs same n i h =
    let ys = set xs m true in
    let up : Below ys xs = subst (Below ys) same (below_marked ns ys) in
    let one : ys ≡ xs = sym (below_both xs ys (below_set xs m) up) in
    by i one (λ j. marked_has ns xs (ap (marked ns) (sym one) ∙ same) n j h) where
      by : IsIn n (m ∷ ns) → set xs m true ≡ xs → (IsIn n ns → is_marked xs n ≡ true) → is_marked xs n ≡ true
      by (inl e) one more = ap (λ bs. is_marked bs n) (sym one) ∙ (ap (is_marked (set xs m true)) e ∙ set_here xs m (subst (λ k. k < length xs) e h))
      by (inr j) one more = more j

-- one demand of a way that changes nothing changes nothing
passed_one : (ds : List Demand) (xs : List Bool) → passed ds xs ≡ xs → (d : Demand) → IsIn d ds → grown d xs ≡ xs
passed_one [] xs same d i = elim i [ ]
passed_one (e ∷ ds) xs same d i =
    let ys = passed ds xs in
    let up : Below ys xs = subst (Below ys) same (below_grown e ys) in
    let rest : ys ≡ xs = sym (below_both xs ys (below_passed ds xs) up) in
    by i rest (λ j. passed_one ds xs rest d j) where
      by : IsIn d (e ∷ ds) → passed ds xs ≡ xs → (IsIn d ds → grown d xs ≡ xs) → grown d xs ≡ xs
      by (inl s) rest more = ap (λ z. grown z xs) s ∙ (ap (grown e) (sym rest) ∙ same)
      by (inr j) rest more = more j

-- ---- what is told is determined

in_map : {A : Type 0} (f : A → ℕ) (xs : List A) (n : ℕ) → IsIn n (map f xs) → (x : A) × IsIn x xs × (n ≡ f x)
in_map f [] n i = elim i [ ]
in_map f (x ∷ xs) n (inl e) = (x, inl refl, e)
in_map f (x ∷ xs) n (inr i) = let r = in_map f xs n i in (r.0, inr r.1, r.2)

map_in : {A : Type 0} (f : A → ℕ) (xs : List A) (x : A) → IsIn x xs → IsIn (f x) (map f xs)
map_in f [] x i = elim i [ ]
map_in f (y ∷ xs) x (inl e) = inl (ap f e)
map_in f (y ∷ xs) x (inr i) = inr (map_in f xs x i)

in_either : (xs ys : List ℕ) (n : ℕ) → IsIn n (xs ++ ys) → IsIn n xs ⊎ IsIn n ys
in_either [] ys n i = inr i
in_either (x ∷ xs) ys n (inl e) = inl (inl e)
in_either (x ∷ xs) ys n (inr i) = by (in_either xs ys n i) where
  by : IsIn n xs ⊎ IsIn n ys → IsIn n (x ∷ xs) ⊎ IsIn n ys
  by (inl j) = inl (inr j)
  by (inr j) = inr j

in_left : (xs ys : List ℕ) (n : ℕ) → IsIn n xs → IsIn n (xs ++ ys)
in_left [] ys n i = elim i [ ]
in_left (x ∷ xs) ys n (inl e) = inl e
in_left (x ∷ xs) ys n (inr i) = inr (in_left xs ys n i)

in_right : (xs ys : List ℕ) (n : ℕ) → IsIn n ys → IsIn n (xs ++ ys)
in_right [] ys n i = i
in_right (x ∷ xs) ys n i = inr (in_right xs ys n i)

stands_in : (e : Expr) (n : ℕ) → n ≡ number_in e → StandsIn n e
stands_in (the x) n h = h
stands_in (result x k) n h = h
stands_in (only_result x) n h = h

number_stands : (e : Expr) (n : ℕ) → StandsIn n e → n ≡ number_in e
number_stands (the x) n h = h
number_stands (result x k) n h = h
number_stands (only_result x) n h = h

part_of_number : (o : Parts Expr) (n : ℕ) → IsIn n (numbers_of o) → (e : Expr) × IsPart e o × StandsIn n e
part_of_number o n i = by (in_either (map number_in o.operands) (map number_in (values_of o.entries) ++ map number_in o.types) n i) where
  found : (es : List Expr) → ((e : Expr) → IsIn e es → IsPart e o) → IsIn n (map number_in es) → (e : Expr) × IsPart e o × StandsIn n e
  found es f j = let r = in_map number_in es n j in (r.0, f r.0 r.1, stands_in r.0 n r.2)

  rest : IsIn n (map number_in (values_of o.entries)) ⊎ IsIn n (map number_in o.types) → (e : Expr) × IsPart e o × StandsIn n e
  rest (inl j) = found (values_of o.entries) (λ e k. inr (inl k)) j
  rest (inr j) = found o.types (λ e k. inr (inr k)) j

  by : IsIn n (map number_in o.operands) ⊎ IsIn n (map number_in (values_of o.entries) ++ map number_in o.types) → (e : Expr) × IsPart e o × StandsIn n e
  by (inl j) = found o.operands (λ e k. inl k) j
  by (inr j) = rest (in_either (map number_in (values_of o.entries)) (map number_in o.types) n j)

number_of_part : (o : Parts Expr) (n : ℕ) (e : Expr) → IsPart e o → StandsIn n e → IsIn n (numbers_of o)
number_of_part o n e p s = subst (λ k. IsIn k (numbers_of o)) (sym (number_stands e n s)) (by p) where
  by : IsPart e o → IsIn (number_in e) (numbers_of o)
  by (inl i) = in_left (map number_in o.operands) _ _ (map_in number_in o.operands e i)
  by (inr (inl i)) = in_right (map number_in o.operands) _ _ (in_left (map number_in (values_of o.entries)) _ _ (map_in number_in (values_of o.entries) e i))
  by (inr (inr i)) = in_right (map number_in o.operands) _ _ (in_right (map number_in (values_of o.entries)) _ _ (map_in number_in o.types e i))

module _ (given : List ℕ) (ds : List Demand) where
  if_marked : (b : Bool) (ns : List ℕ) (n : ℕ) → IsIn n (cond b ns []) → (b ≡ true) × IsIn n ns
  if_marked true ns n i = (refl, i)
  if_marked false ns n i = elim i [ ]

  told_right : (xs : List Bool) (d : Demand) → IsIn d ds → IsSound given ds xs → (n : ℕ) → IsIn n (told xs d) → Determined given ds n
  told_right xs (stands e) i s n t = elim t [ ]
  told_right xs (has_name x m) i s n t = elim t [ ]
  told_right xs (calls c es) i s n t = elim t [ ]
  told_right xs (is_attr x v) i s n (inl e) = subst (Determined given ds) (sym e) (attr_told x v i)
  told_right xs (is_attr x v) i s n (inr t) = elim t [ ]
  told_right xs (is_type x v) i s n (inl e) = subst (Determined given ds) (sym e) (type_told x v i)
  told_right xs (is_type x v) i s n (inr t) = elim t [ ]
  told_right xs (has_parts x o) i s n t =
      let m = if_marked (is_marked xs x) (numbers_of o) n t in
      let p = part_of_number o n m.1 in
      part_of x n o p.0 i (s x m.0) p.1 p.2
  told_right xs (has_type x e) i s n t =
      let m = if_marked (is_marked xs x) (number_in e ∷ []) n t in
      type_of x n e i (s x m.0) (stands_in e n (only m.1)) where
        only : IsIn n (number_in e ∷ []) → n ≡ number_in e
        only (inl h) = h
        only (inr h) = elim h [ ]

  pub marked_sound : (ns : List ℕ) (xs : List Bool) → IsSound given ds xs → ((n : ℕ) → IsIn n ns → Determined given ds n) → IsSound given ds (marked ns xs)
  marked_sound [] xs s h = s
  marked_sound (m ∷ ns) xs s h = marked_sound ns (set xs m true) one (λ n i. h n (inr i)) where
    one : IsSound given ds (set xs m true)
    one n e = by (set_else xs m n e) where
      by : (n ≡ m) ⊎ (is_marked xs n ≡ true) → Determined given ds n
      by (inl same) = subst (Determined given ds) (sym same) (h m (inl refl))
      by (inr had) = s n had

  grown_sound : (d : Demand) → IsIn d ds → (xs : List Bool) → IsSound given ds xs → IsSound given ds (grown d xs)
  unfolding grown
  grown_sound d i xs s = marked_sound (told xs d) xs s (told_right xs d i s)

  passed_sound : (es : List Demand) → ((d : Demand) → IsIn d es → IsIn d ds) → (xs : List Bool) → IsSound given ds xs → IsSound given ds (passed es xs)
  passed_sound [] f xs s = s
  passed_sound (e ∷ es) f xs s = grown_sound e (f e (inl refl)) (passed es xs) (passed_sound es (λ d i. f d (inr i)) xs s)

pub passed_grown : (ds : List Demand) (xs : List Bool) → IsGrown ds xs (passed ds xs)
passed_grown ds xs = record {
  lengths = below_length xs (passed ds xs) (below_passed ds xs);
  keeps = below_keeps xs (passed ds xs) (below_passed ds xs);
  sound = λ given s. passed_sound given ds ds (λ d i. i) xs s;
}

-- ---- another way through the demands

below_or : (a b : ℕ) → nat_lt a b ≡ true → a < b
below_or a b h = grind (arith, nat_tests)

not_below : (a b : ℕ) → nat_lt a b ≡ false → b ≤ a
not_below a b h = grind (arith, nat_tests)

fewer : (l m n : ℕ) → m < n → n ≤ l → l - n < l - m
fewer l m n h k = omega arith

pub fewer_wanted : (ds : List Demand) (old new : List Bool) (m n : ℕ) → new ≡ passed ds old → m ≡ marks_in old → n ≡ marks_in new
    → cond (nat_lt m n) (suc (length new - marks_in new)) 0 < suc (length old - marks_in old)
fewer_wanted ds old new m n is first last = by (nat_lt m n) refl where
  by : (b : Bool) → nat_lt m n ≡ b → cond b (suc (length new - marks_in new)) 0 < suc (length old - marks_in old)
  by true h =
      let size : length new ≡ length old = ap length is ∙ below_length old (passed ds old) (below_passed ds old) in
      let most = counts_within new in
      let more = below_or m n h in
      omega arith
  by false h = omega arith

pub closed_there : (ds : List Demand) (old new : List Bool) (m n : ℕ) → new ≡ passed ds old → m ≡ marks_in old → n ≡ marks_in new → nat_lt m n ≡ false
    → passed ds new ≡ new
closed_there ds old new m n is first last h =
    let few = not_below m n h in
    let same : new ≡ old = below_same old new (subst (Below old) (sym is) (below_passed ds old)) (omega arith) in
    ap (passed ds) same ∙ sym is

pub grown_on : (ds : List Demand) (xs ys zs : List Bool) → IsGrown ds xs ys → IsGrown ds ys zs → IsGrown ds xs zs
grown_on ds xs ys zs h k = record {
  lengths = k.lengths ∙ h.lengths;
  keeps = λ n e. k.keeps n (h.keeps n e);
  sound = λ given s. k.sound given (h.sound given s);
}

pub grown_none : (ds : List Demand) (xs : List Bool) → IsGrown ds xs xs
grown_none ds xs = record { lengths = refl; keeps = λ n e. e; sound = λ given s. s }

-- ---- room

max_left : (a b : ℕ) → a ≤ max a b
max_left a b = grind (arith)

max_right : (a b : ℕ) → b ≤ max a b
max_right a b = grind (arith)

pub highest_from : (ns : List ℕ) (k : ℕ) → k ≤ highest ns k
highest_from [] k = omega arith
highest_from (n ∷ ns) k = let a = max_left k n in let b = highest_from ns (max k n) in omega arith

pub highest_has : (ns : List ℕ) (k n : ℕ) → IsIn n ns → n ≤ highest ns k
highest_has [] k n i = elim i [ ]
highest_has (m ∷ ns) k n (inl e) = let a = max_right k m in let b = highest_from ns (max k m) in subst (λ z. z ≤ highest ns (max k m)) (sym e) (omega arith)
highest_has (m ∷ ns) k n (inr i) = highest_has ns (max k m) n i

pub highest_in_from : (ds : List Demand) (k : ℕ) → k ≤ highest_in ds k
highest_in_from [] k = omega arith
highest_in_from (d ∷ ds) k = let a = highest_from (numbers_in d) k in let b = highest_in_from ds (highest (numbers_in d) k) in omega arith

highest_in_has : (ds : List Demand) (k : ℕ) (d : Demand) (n : ℕ) → IsIn d ds → IsIn n (numbers_in d) → n ≤ highest_in ds k
highest_in_has [] k d n i j = elim i [ ]
highest_in_has (e ∷ ds) k d n (inl same) j =
    let a = highest_has (numbers_in e) k n (subst (λ z. IsIn n (numbers_in z)) same j) in
    let b = highest_in_from ds (highest (numbers_in e) k) in
    omega arith
highest_in_has (e ∷ ds) k d n (inr i) j = highest_in_has ds (highest (numbers_in e) k) d n i j

pub highest_both : (ns ms : List ℕ) (k : ℕ) → highest (ns ++ ms) k ≡ highest ms (highest ns k)
highest_both [] ms k = refl
highest_both (n ∷ ns) ms k = highest_both ns ms (max k n)

-- ---- all

module _ (given : List ℕ) (ds : List Demand) (xs : List Bool) (same : passed ds xs ≡ xs) (room : highest_in ds (highest given 0) < length xs) where
  within : (d : Demand) (n : ℕ) → IsIn d ds → IsIn n (numbers_in d) → n < length xs
  within d n i j = let a = highest_in_has ds (highest given 0) d n i j in omega arith

  has_told : (d : Demand) → IsIn d ds → (n : ℕ) → IsIn n (told xs d) → n < length xs → is_marked xs n ≡ true
  unfolding grown
  has_told d i n t h = marked_has (told xs d) xs (passed_one ds xs same d i) n t h

  told_if : (b : Bool) (ns : List ℕ) (n : ℕ) → b ≡ true → IsIn n ns → IsIn n (cond b ns [])
  told_if true ns n e i = i
  told_if false ns n e i = absurd (cc e)

  closed : ((x : ℕ) → IsIn x given → is_marked xs x ≡ true) → IsClosed given ds (is_marked xs)
  closed g = record {
    given_ones = g;
    attrs = λ x v i. has_told (is_attr x v) i x (inl refl) (within (is_attr x v) x i (inl refl));
    types = λ x t i. has_told (is_type x t) i x (inl refl) (within (is_type x t) x i (inl refl));
    parts = λ x y o e i h p s.
        let j = number_of_part o y e p s in
        has_told (has_parts x o) i y (told_if (is_marked xs x) (numbers_of o) y h j) (within (has_parts x o) y i (inr j));
    written = λ x y e i h s.
        let j : IsIn y (number_in e ∷ []) = inl (number_stands e y s) in
        has_told (has_type x e) i y (told_if (is_marked xs x) (number_in e ∷ []) y h j) (within (has_type x e) y i (inr j));
  }

-- no mark
none_marked : (k n : ℕ) → is_marked (replicate k false) n ≡ true → ⊥
none_marked zero n h = cc h
none_marked (suc k) zero h = cc h
none_marked (suc k) (suc n) h = none_marked k n h

marked_all : (ns : List ℕ) (xs : List Bool) (n : ℕ) → IsIn n ns → n < length xs → is_marked (marked ns xs) n ≡ true
marked_all [] xs n i h = elim i [ ]
marked_all (m ∷ ns) xs n (inl e) h =
    below_keeps (set xs m true) (marked ns (set xs m true)) (below_marked ns (set xs m true)) n
    (ap (is_marked (set xs m true)) e ∙ set_here xs m (subst (λ k. k < length xs) e h))
marked_all (m ∷ ns) xs n (inr i) h =
    marked_all ns (set xs m true) n i (subst (λ k. n < k) (sym (below_length xs (set xs m true) (below_set xs m))) h)

room_for : (k : ℕ) → length (replicate k false) ≡ k
room_for zero = refl
room_for (suc k) = ap suc (room_for k)

pub all_marked : (given : List ℕ) (ds : List Demand) (k : ℕ) (xs : List Bool) → k ≡ highest_in ds (highest given 0) + 1
    → passed ds xs ≡ xs → IsGrown ds (marked given (replicate k false)) xs → MarkDetermined given ds xs
all_marked given ds k xs enough same g =
    let none = replicate k false in
    let size : length xs ≡ k = g.lengths ∙ (below_length none (marked given none) (below_marked given none) ∙ room_for k) in
    let first : IsSound given ds (marked given none) = marked_sound given ds given none (λ n h. elim (none_marked k n h) [ ]) (λ n i. given_one n i) in
    let starts : (x : ℕ) → IsIn x given → x < length none = λ x i.
    let a = highest_has given 0 x i in
    let b = highest_in_from ds (highest given 0) in
    subst (λ z. x < z) (sym (room_for k)) (omega arith) in
    record {
      sound = g.sound given first;
      complete = closed_has given ds (is_marked xs) (closed given ds xs same (omega arith) (λ x i. g.keeps x (marked_all given none x i (starts x i))));
    }
