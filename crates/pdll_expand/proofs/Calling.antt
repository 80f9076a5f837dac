-- The last declaration of a name.
use Rattle.std.proofs.Common.{◌≡◌, ◌⊎◌, inl, inr, ℕ, zero, suc, ◌<◌, ◌≤◌, Bool, true, false, cond, List, [], ◌∷◌, ◌++◌, map, take, length, slice_get, Option, Some, None, IfSome, MatchOption, refl, sym, ap, ◌∙◌, subst, arith}
use Rattle.std.specs.Option.{option_map}
use Rattle.std.specs.Str.{bytes_eq}
use Rattle.std.proofs.lemmas.Slice.Eq.{bytes_eq-Decides}
use Rattle.pdll_syntax.specs.declared.file.CallDecl.{CallDecl}
use Rattle.pdll_expand.specs.declared.declared.Declared.{Declared}
use Rattle.pdll_expand.specs.Called.{later_or, last_named, name_at, calls_in, IsTable}

-- ---- lists

pub get_within : {A : Type 0} (xs : List A) (i : ℕ) (x : A) → Some x ≡ slice_get xs i → i < length xs
get_within [] zero x h = absurd (cc)
get_within [] (suc i) x h = absurd (cc)
get_within (y ∷ xs) zero x h = omega arith
get_within (y ∷ xs) (suc i) x h = omega (arith, get_within xs i x h)

pub get_appended : {A : Type 0} (xs : List A) (x : A) (i : ℕ) (k : A) → Some k ≡ slice_get (xs ++ x ∷ []) i
    → (Some k ≡ slice_get xs i) ⊎ ((i ≡ length xs) × (Some k ≡ Some x))
get_appended [] x zero k h = inr (refl, h)
get_appended [] x (suc i) k h = absurd (cc)
get_appended (y ∷ xs) x zero k h = inl h
get_appended (y ∷ xs) x (suc i) k h = by (get_appended xs x i k h) where
  by : (Some k ≡ slice_get xs i) ⊎ ((i ≡ length xs) × (Some k ≡ Some x)) → (Some k ≡ slice_get xs i) ⊎ ((suc i ≡ suc (length xs)) × (Some k ≡ Some x))
  by (inl e) = inl e
  by (inr e) = inr (ap suc e.0, e.1)

pub get_mapped : {A B : Type 0} (f : A → B) (xs : List A) (i : ℕ) → slice_get (map f xs) i ≡ option_map f (slice_get xs i)
get_mapped f [] zero = refl
get_mapped f [] (suc i) = refl
get_mapped f (x ∷ xs) zero = refl
get_mapped f (x ∷ xs) (suc i) = get_mapped f xs i

pub get_front : {A : Type 0} (xs : List A) (i n : ℕ) → i < n → slice_get (take n xs) i ≡ slice_get xs i
get_front [] i zero h = absurd (omega arith)
get_front [] i (suc n) h = refl
get_front (x ∷ xs) i zero h = absurd (omega arith)
get_front (x ∷ xs) zero (suc n) h = refl
get_front (x ∷ xs) (suc i) (suc n) h = get_front xs i n (omega arith)

pub mapped_length : {A B : Type 0} (f : A → B) (xs : List A) → length (map f xs) ≡ length xs
mapped_length f [] = refl
mapped_length f (x ∷ xs) = ap suc (mapped_length f xs)

pub mapped_more : {A B : Type 0} (f : A → B) (xs : List A) (x : A) → map f (xs ++ x ∷ []) ≡ map f xs ++ f x ∷ []
mapped_more f [] x = refl
mapped_more f (y ∷ xs) x = ap (λ ys. f y ∷ ys) (mapped_more f xs x)

pub front_more : {A : Type 0} (xs : List A) (x : A) (i : ℕ) → i ≤ length xs → take i (xs ++ x ∷ []) ≡ take i xs
front_more [] x zero h = refl
front_more [] x (suc i) h = absurd (omega arith)
front_more (y ∷ xs) x zero h = refl
front_more (y ∷ xs) x (suc i) h = ap (λ ys. y ∷ ys) (front_more xs x i (omega arith))

pub front_whole : {A : Type 0} (xs : List A) → take (length xs) xs ≡ xs
front_whole [] = refl
front_whole (x ∷ xs) = ap (λ ys. x ∷ ys) (front_whole xs)

pub front_front : {A : Type 0} (xs : List A) (m n : ℕ) → n ≤ m → take n (take m xs) ≡ take n xs
front_front [] zero zero h = refl
front_front [] zero (suc n) h = absurd (omega arith)
front_front [] (suc m) zero h = refl
front_front [] (suc m) (suc n) h = refl
front_front (x ∷ xs) zero zero h = refl
front_front (x ∷ xs) zero (suc n) h = absurd (omega arith)
front_front (x ∷ xs) (suc m) zero h = refl
front_front (x ∷ xs) (suc m) (suc n) h = ap (λ ys. x ∷ ys) (front_front xs m n (omega arith))

pub front_length : {A : Type 0} (xs : List A) (n : ℕ) → length (take n xs) ≤ n
front_length [] zero = omega arith
front_length [] (suc n) = omega arith
front_length (x ∷ xs) zero = omega arith
front_length (x ∷ xs) (suc n) = omega (arith, front_length xs n)

-- all but the last
abbrev front : {A : Type 0} → List A → List A
front [] = []
front (x ∷ []) = []
front (x ∷ y ∷ xs) = x ∷ front (y ∷ xs)

front_is : {A : Type 0} (xs : List A) (x : A) → front (xs ++ x ∷ []) ≡ xs
front_is [] x = refl
front_is (y ∷ []) x = refl
front_is (y ∷ z ∷ xs) x = ap (λ zs. y ∷ zs) (front_is (z ∷ xs) x)

not_none : {A : Type 0} (xs : List A) (x : A) → [] ≡ xs ++ x ∷ [] → ⊥
not_none [] x h = cc
not_none (y ∷ xs) x h = cc

-- what was added last is taken off again
pub popped : {A : Type 0} (r : Option A) (old mid new : List A) (x : A) → MatchOption r ((mid ≡ []) × (new ≡ [])) (λ last. mid ≡ new ++ last ∷ []) → mid ≡ old ++ x ∷ [] → new ≡ old
popped None old mid new x h e = absurd (not_none old x (sym h.0 ∙ e))
popped (Some y) old mid new x h e = sym (front_is new y) ∙ (ap front (sym h ∙ e) ∙ front_is old x)

pub own_table : (d : Declared) (calls : List CallDecl) → IsTable d calls → IsTable d (calls_in d)
own_table d calls h = subst (IsTable d) (sym h.calls_are) h

-- ---- the last of a name

first_more : (b : Bool) → later_or b None ≡ cond b (Some 0) None
first_more true = refl
first_more false = refl

later_more : (a b : Bool) (n : ℕ) (o : Option ℕ) → later_or a (cond b (Some n) o) ≡ cond b (Some (suc n)) (later_or a o)
later_more a true n o = refl
later_more a false n o = refl

pub last_one_more : (n : List ℕ) (cs : List CallDecl) (c : CallDecl) → last_named n (cs ++ c ∷ []) ≡ cond (bytes_eq c.name.text n) (Some (length cs)) (last_named n cs)
last_one_more n [] c = first_more (bytes_eq c.name.text n)
last_one_more n (d ∷ cs) c =
    ap (later_or (bytes_eq d.name.text n)) (last_one_more n cs c)
    ∙ later_more (bytes_eq d.name.text n) (bytes_eq c.name.text n) (length cs) (last_named n cs)

below_later : (b : Bool) (o : Option ℕ) (m : ℕ) → IfSome o (λ k. k < m) → IfSome (later_or b o) (λ k. k < suc m)
below_later b (Some k) m h = omega (arith, h)
below_later true None m h = omega arith
below_later false None m h = tt

pub last_below : (n : List ℕ) (cs : List CallDecl) → IfSome (last_named n cs) (λ k. k < length cs)
last_below n [] = tt
last_below n (c ∷ cs) = below_later (bytes_eq c.name.text n) (last_named n cs) (length cs) (last_below n cs)

more_below : (o : Option ℕ) (m n : ℕ) → m ≤ n → IfSome o (λ k. k < m) → IfSome o (λ k. k < n)
more_below (Some k) m n h l = omega (arith, h, l)
more_below None m n h l = tt

pub last_before : (n : List ℕ) (cs : List CallDecl) (i : ℕ) → IfSome (last_named n (take i cs)) (λ k. k < i)
last_before n cs i = more_below (last_named n (take i cs)) (length (take i cs)) i (front_length cs i) (last_below n (take i cs))

-- no call of the name, then none in front
pub none_in_front : (n : List ℕ) (cs : List CallDecl) (m : ℕ) → None ≡ last_named n cs → None ≡ last_named n (take m cs)
none_in_front n [] zero h = refl
none_in_front n [] (suc m) h = refl
none_in_front n (c ∷ cs) zero h = refl
none_in_front n (c ∷ cs) (suc m) h = by (bytes_eq c.name.text n) (last_named n cs) h (none_in_front n cs m) where
  by : (b : Bool) (o : Option ℕ) → None ≡ later_or b o → (None ≡ o → None ≡ last_named n (take m cs)) → None ≡ later_or b (last_named n (take m cs))
  by b (Some k) e f = absurd (cc)
  by true None e f = absurd (cc)
  by false None e f = ap (later_or false) (f refl)

-- the last one is the last one of what is in front, if it is there
pub last_in_front : (n : List ℕ) (cs : List CallDecl) (k m : ℕ) → Some k ≡ last_named n cs → k < m → Some k ≡ last_named n (take m cs)
last_in_front n [] k zero h l = absurd (omega (arith, l))
last_in_front n [] k (suc m) h l = absurd (cc)
last_in_front n (c ∷ cs) k zero h l = absurd (omega (arith, l))
last_in_front n (c ∷ cs) k (suc m) h l = by (bytes_eq c.name.text n) (last_named n cs) h (λ j. last_in_front n cs j m) (none_in_front n cs m) where
  by : (b : Bool) (o : Option ℕ) → Some k ≡ later_or b o → ((j : ℕ) → Some j ≡ o → j < m → Some j ≡ last_named n (take m cs)) → (None ≡ o → None ≡ last_named n (take m cs))
      → Some k ≡ later_or b (last_named n (take m cs))
  by b (Some j) e f g = let s : k ≡ suc j = cc in e ∙ ap (later_or b) (f j refl (omega (arith, s, l)))
  by true None e f g = e ∙ ap (later_or true) (g refl)
  by false None e f g = absurd (cc)

-- it has the name
pub named_there : (n : List ℕ) (cs : List CallDecl) (k : ℕ) → Some k ≡ last_named n cs → name_at cs k ≡ n
named_there n [] k h = absurd (cc)
named_there n (c ∷ cs) k h = by (bytes_eq c.name.text n) (last_named n cs) (bytes_eq-Decides c.name.text n).0 k h (named_there n cs) where
  by : (b : Bool) (o : Option ℕ) → (b ≡ true → c.name.text ≡ n) → (k : ℕ) → Some k ≡ later_or b o → ((j : ℕ) → Some j ≡ o → name_at cs j ≡ n) → name_at (c ∷ cs) k ≡ n
  by b (Some j) d zero e f = absurd (cc)
  by b (Some j) d (suc i) e f = f i (cc)
  by true None d zero e f = d refl
  by true None d (suc i) e f = absurd (cc)
  by false None d k e f = absurd (cc)
