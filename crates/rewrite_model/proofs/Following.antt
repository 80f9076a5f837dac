-- A scene that follows another one: the same with other numbers, and with literals between.
use Rattle.std.proofs.Common.{◌≡◌, inl, inr, ℕ, ◌+◌, ◌≤◌, ◌<◌, Bool, true, false, cond, List, [], ◌∷◌, ◌++◌, length, Some, length-append, refl, sym, ap, ◌∙◌, subst, arith}
use Rattle.std.specs.Prelude.{◌⊎◌, ⊤, slice_get, find}
use Rattle.std.specs.Option.{option_map_or}
use Rattle.std.specs.Str.{bytes_eq}
use Rattle.std.specs.List.{AllByRecursion}
use Rattle.std.proofs.lemmas.Bool.{cases_lt}
use Rattle.native_set.specs.declared.native.Kind.{Kind}
use Rattle.rewrite_model.specs.Pattern.{Parts, Expr, the, result, only_result, Demand, stands, is_attr, is_type, has_name, has_parts, has_type}
use Rattle.rewrite_model.specs.Pattern as asks
use Rattle.rewrite_model.specs.Names.{Meant, Names, meaning}
use Rattle.rewrite_model.specs.MatchPart.{Scene, new_number, ask}
use Rattle.rewrite_model.specs.Determined.{IsIn, StandsIn, values_of, IsPart, Determined, given_one, attr_told, type_told, part_of, type_of, HasOneRange, KeepsOneRange}
use Rattle.rewrite_model.specs.Ranges.{kind_in, is_range_kind, ranges}
use Rattle.rewrite_model.proofs.Apart.{IsTold, in_front, in_either}
use Rattle.rewrite_model.proofs.Adding.{Adds, front_get, still_told}

-- which number stands for which
abbrev pub Renumbering : Type 0
Renumbering = List (ℕ × ℕ)

-- each number stands for one alone
abbrev IsMap : ℕ → Renumbering → Type 0
IsMap n [] = ⊤
IsMap n (p ∷ r) = (p.0 < n) × IsMap p.0 r

abbrev pub Same : Renumbering → Expr → Expr → Type 0
Same r (the x) (the y) = IsIn (x, y) r
Same r (result x k) (result y j) = IsIn (x, y) r × (k ≡ j)
Same r (only_result x) (only_result y) = IsIn (x, y) r
Same r d e = ⊥

abbrev pub AllSame : Renumbering → List Expr → List Expr → Type 0
AllSame r [] [] = ⊤
AllSame r (d ∷ ds) (e ∷ es) = Same r d e × AllSame r ds es
AllSame r ds es = ⊥

pub record SameParts (r : Renumbering) (o q : Parts Expr) : Type 0 where
  pub operands : AllSame r o.operands q.operands
  pub values : AllSame r (values_of o.entries) (values_of q.entries)
  pub types : AllSame r o.types q.types

abbrev pub HasSame : Renumbering → Demand → List Demand → Type 0
HasSame r (is_attr x v) ds = (y : ℕ) × IsIn (x, y) r × IsIn (is_attr y v) ds
HasSame r (is_type x t) ds = (y : ℕ) × IsIn (x, y) r × IsIn (is_type y t) ds
HasSame r (has_parts x o) ds = (y : ℕ) × (q : Parts Expr) × IsIn (x, y) r × IsIn (has_parts y q) ds × SameParts r o q
HasSame r (has_type x d) ds = (y : ℕ) × (e : Expr) × IsIn (x, y) r × IsIn (has_type y e) ds × Same r d e
HasSame r d ds = ⊤

-- ---- ranges

abbrev pub range_count : List Kind → ℕ
range_count [] = 0
range_count (k ∷ ks) = cond (is_range_kind (Some k)) 1 0 + range_count ks

-- expressions of these kinds
abbrev pub AreOf : List Kind → List Expr → List Kind → Type 0
AreOf ks [] [] = ⊤
AreOf ks (e ∷ es) (n ∷ ns) = (kind_in ks e ≡ Some n) × AreOf ks es ns
AreOf ks es ns = ⊥

abbrev pub HasFewRanges : List Kind → List Expr → Type 0
HasFewRanges ks es = (ns : List Kind) × AreOf ks es ns × (range_count ns ≤ 1)

-- ---- scenes

-- one is the other with other numbers, and its kind is known
pub record Pair (r : Renumbering) (ks : List Kind) (x y : Meant Expr) : Type 0 where
  pub kind : x.kind ≡ y.kind
  pub same : Same r x.is y.is
  pub known : kind_in ks y.is ≡ Some y.kind

abbrev pub SameNames : Renumbering → List Kind → Names Expr → Names Expr → Type 0
SameNames r ks [] [] = ⊤
SameNames r ks (d ∷ ds) (e ∷ es) = (d.0 ≡ e.0) × Pair r ks d.1 e.1 × SameNames r ks ds es
SameNames r ks ds es = ⊥

pub record Follows (r : Renumbering) (s t : Scene) : Type 0 where
  pub is_map : IsMap (length s.kinds) r
  pub names : SameNames r t.kinds s.names t.names
  pub demands : (d : Demand) → IsIn d s.demands → HasSame r d t.demands
  pub covered : (y : ℕ) → y < length t.kinds → ((x : ℕ) × (x < length s.kinds) × IsIn (x, y) r) ⊎ IsTold y t.demands
  pub few : (y : ℕ) (o : Parts Expr) → IsIn (has_parts y o) t.demands → HasFewRanges t.kinds o.types

-- ---- more numbers

abbrev pub IsWithin : Renumbering → Renumbering → Type 0
IsWithin r q = (p : ℕ × ℕ) → IsIn p r → IsIn p q

abbrev pub AreMore : List Kind → List Kind → Type 0
AreMore ks js = (x : ℕ) (k : Kind) → slice_get ks x ≡ Some k → slice_get js x ≡ Some k

pub same_more : (r q : Renumbering) → IsWithin r q → (d e : Expr) → Same r d e → Same q d e
same_more r q w (the x) (the y) h = w (x, y) h
same_more r q w (result x k) (result y j) h = (w (x, y) h.0, h.1)
same_more r q w (only_result x) (only_result y) h = w (x, y) h
same_more r q w (the x) (result y j) h = absurd h
same_more r q w (the x) (only_result y) h = absurd h
same_more r q w (result x k) (the y) h = absurd h
same_more r q w (result x k) (only_result y) h = absurd h
same_more r q w (only_result x) (the y) h = absurd h
same_more r q w (only_result x) (result y j) h = absurd h

pub all_same_more : (r q : Renumbering) → IsWithin r q → (ds es : List Expr) → AllSame r ds es → AllSame q ds es
all_same_more r q w [] [] h = tt
all_same_more r q w (d ∷ ds) (e ∷ es) h = (same_more r q w d e h.0, all_same_more r q w ds es h.1)
all_same_more r q w [] (e ∷ es) h = absurd h
all_same_more r q w (d ∷ ds) [] h = absurd h

pub kind_more : (ks js : List Kind) → AreMore ks js → (e : Expr) (k : Kind) → kind_in ks e ≡ Some k → kind_in js e ≡ Some k
kind_more ks js m (the x) k h = m x k h
kind_more ks js m (result x i) k h = h
kind_more ks js m (only_result x) k h = h

pub are_of_more : (ks js : List Kind) → AreMore ks js → (es : List Expr) (ns : List Kind) → AreOf ks es ns → AreOf js es ns
are_of_more ks js m [] [] h = tt
are_of_more ks js m (e ∷ es) (n ∷ ns) h = (kind_more ks js m e n h.0, are_of_more ks js m es ns h.1)
are_of_more ks js m [] (n ∷ ns) h = absurd h
are_of_more ks js m (e ∷ es) [] h = absurd h

pub pair_more : (r q : Renumbering) (ks js : List Kind) → IsWithin r q → AreMore ks js → (x y : Meant Expr) → Pair r ks x y → Pair q js x y
pair_more r q ks js w m x y h = record { kind = h.kind; same = same_more r q w x.is y.is h.same; known = kind_more ks js m y.is y.kind h.known }

names_more : (r q : Renumbering) (ks js : List Kind) → IsWithin r q → AreMore ks js → (ds es : Names Expr) → SameNames r ks ds es → SameNames q js ds es
names_more r q ks js w m [] [] h = tt
names_more r q ks js w m (d ∷ ds) (e ∷ es) h = (h.0, pair_more r q ks js w m d.1 e.1 h.1, names_more r q ks js w m ds es h.2)
names_more r q ks js w m [] (e ∷ es) h = absurd h
names_more r q ks js w m (d ∷ ds) [] h = absurd h

few_more : (ks js : List Kind) → AreMore ks js → (es : List Expr) → HasFewRanges ks es → HasFewRanges js es
few_more ks js m es h = (h.0, are_of_more ks js m es h.0 h.1, h.2)

has_more : (r q : Renumbering) → IsWithin r q → (ds es : List Demand) → ((d : Demand) → IsIn d ds → IsIn d es) → (d : Demand) → HasSame r d ds → HasSame q d es
has_more r q w ds es k (is_attr x v) h = (h.0, w (x, h.0) h.1, k (is_attr h.0 v) h.2)
has_more r q w ds es k (is_type x t) h = (h.0, w (x, h.0) h.1, k (is_type h.0 t) h.2)
has_more r q w ds es k (has_parts x o) h = (
  h.0,
  h.1,
  w (x, h.0) h.2,
  k (has_parts h.0 h.1) h.3,
  record {
    operands = all_same_more r q w o.operands h.1.operands h.4.operands;
    values = all_same_more r q w (values_of o.entries) (values_of h.1.entries) h.4.values;
    types = all_same_more r q w o.types h.1.types h.4.types;
  },
)
has_more r q w ds es k (has_type x d) h = (h.0, h.1, w (x, h.0) h.2, k (has_type h.0 h.1) h.3, same_more r q w d h.1 h.4)
has_more r q w ds es k (stands e) h = tt
has_more r q w ds es k (has_name x n) h = tt
has_more r q w ds es k (asks.calls c xs) h = tt

-- ---- steps

-- literals that a call adds to the second scene
pub follows_adds : (r : Renumbering) (s t u : Scene) → Follows r s t → Adds t u → u.names ≡ t.names → Follows r s u
follows_adds r s t u f a e = record {
  is_map = f.is_map;
  names = subst (λ ns. SameNames r u.kinds s.names ns) (sym e) (names_more r r t.kinds u.kinds (λ p i. i) a.kinds s.names t.names f.names);
  demands = λ d i. has_more r r (λ p j. j) t.demands u.demands a.kept d (f.demands d i);
  covered = λ y l. by y (a.told y l);
  few = λ y o i. few_more t.kinds u.kinds a.kinds o.types (f.few y o (a.parts y o i));
} where
  old : (y : ℕ) → ((x : ℕ) × (x < length s.kinds) × IsIn (x, y) r) ⊎ IsTold y t.demands → ((x : ℕ) × (x < length s.kinds) × IsIn (x, y) r) ⊎ IsTold y u.demands
  old y (inl h) = inl h
  old y (inr i) = inr (still_told y t.demands u.demands a.kept i)

  by : (y : ℕ) → (y < length t.kinds) ⊎ IsTold y u.demands → ((x : ℕ) × (x < length s.kinds) × IsIn (x, y) r) ⊎ IsTold y u.demands
  by y (inl l) = old y (f.covered y l)
  by y (inr i) = inr i

last_get : {X : Type 0} (xs : List X) (x : X) → slice_get (xs ++ x ∷ []) (length xs) ≡ Some x
last_get [] x = refl
last_get (y ∷ xs) x = last_get xs x

-- the pair of new numbers
abbrev pub with_new : Renumbering → Scene → Scene → Renumbering
with_new r s t = (length s.kinds, length t.kinds) ∷ r

pub kinds_more : (k : Kind) (t : Scene) → AreMore t.kinds (t.kinds ++ k ∷ [])
kinds_more k t x j h = front_get t.kinds (k ∷ []) x j h

-- a new number in both
pub follows_numbered : (at : ℕ) (k : Kind) (r : Renumbering) (s t : Scene) → Follows r s t → Follows (with_new r s t) (new_number at k s).1 (new_number at k t).1
follows_numbered at k r s t f =
    let l = length-append s.kinds (k ∷ []) in
    let m = length-append t.kinds (k ∷ []) in
    let q = with_new r s t in
    let w : IsWithin r q = λ p i. inr i in
    record {
      is_map = (omega (arith, l), f.is_map);
      names = names_more r q t.kinds (t.kinds ++ k ∷ []) w (kinds_more k t) s.names t.names f.names;
      demands = λ d i. has_more r q w t.demands t.demands (λ e j. j) d (f.demands d i);
      covered = λ y n. by y (omega (arith, m, n)) (cases_lt y (length t.kinds));
      few = λ y o i. few_more t.kinds (t.kinds ++ k ∷ []) (kinds_more k t) o.types (f.few y o i);
    } where
      old : (y : ℕ) → ((x : ℕ) × (x < length s.kinds) × IsIn (x, y) r) ⊎ IsTold y t.demands
          → ((x : ℕ) × (x < length (s.kinds ++ k ∷ [])) × IsIn (x, y) (with_new r s t)) ⊎ IsTold y t.demands
      old y (inl h) = let l = length-append s.kinds (k ∷ []) in let n = h.1 in inl (h.0, omega (arith, l, n), inr h.2)
      old y (inr i) = inr i

      by : (y : ℕ) → y < length t.kinds + 1 → (y < length t.kinds) ⊎ (length t.kinds ≤ y)
          → ((x : ℕ) × (x < length (s.kinds ++ k ∷ [])) × IsIn (x, y) (with_new r s t)) ⊎ IsTold y t.demands
      by y n (inl l) = old y (f.covered y l)
      by y n (inr l) =
          let e : y ≡ length t.kinds = omega (arith, l, n) in
          let m = length-append s.kinds (k ∷ []) in
          inl (length s.kinds, omega (arith, m), inl (ap (λ z. (length s.kinds, z)) e))

pub new_pair : (k : Kind) (r : Renumbering) (s t : Scene) → Pair (with_new r s t) (t.kinds ++ k ∷ []) (record { kind = k; is = the (length s.kinds) }) (record { kind = k; is = the (length t.kinds) })
new_pair k r s t = record { kind = refl; same = inl refl; known = last_get t.kinds k }

-- what is asked of parts
abbrev pub AsksFew : List Kind → Demand → Type 0
AsksFew ks (has_parts x o) = HasFewRanges ks o.types
AsksFew ks d = ⊤

few_of : (ks : List Kind) (y : ℕ) (o : Parts Expr) (d : Demand) → has_parts y o ≡ d → AsksFew ks d → HasFewRanges ks o.types
few_of ks y o d e h = subst (AsksFew ks) (sym e) h

-- a demand in both
pub follows_asked : (d e : Demand) (r : Renumbering) (s t : Scene) → HasSame r d (t.demands ++ e ∷ []) → AsksFew t.kinds e → Follows r s t → Follows r (ask d s).1 (ask e t).1
follows_asked d e r s t h a f = record {
  is_map = f.is_map;
  names = f.names;
  demands = λ c i. by c (in_either c s.demands d i);
  covered = λ y l. cover y (f.covered y l);
  few = λ y o i. fewer y o (in_either (has_parts y o) t.demands e i);
} where
  kept : (c : Demand) → IsIn c t.demands → IsIn c (t.demands ++ e ∷ [])
  kept c i = in_front c t.demands (e ∷ []) i

  by : (c : Demand) → IsIn c s.demands ⊎ (c ≡ d) → HasSame r c (t.demands ++ e ∷ [])
  by c (inl i) = has_more r r (λ p j. j) t.demands (t.demands ++ e ∷ []) kept c (f.demands c i)
  by c (inr g) = subst (λ z. HasSame r z (t.demands ++ e ∷ [])) (sym g) h

  cover : (y : ℕ) → ((x : ℕ) × (x < length s.kinds) × IsIn (x, y) r) ⊎ IsTold y t.demands → ((x : ℕ) × (x < length s.kinds) × IsIn (x, y) r) ⊎ IsTold y (t.demands ++ e ∷ [])
  cover y (inl g) = inl g
  cover y (inr i) = inr (still_told y t.demands (t.demands ++ e ∷ []) kept i)

  fewer : (y : ℕ) (o : Parts Expr) → IsIn (has_parts y o) t.demands ⊎ (has_parts y o ≡ e) → HasFewRanges t.kinds o.types
  fewer y o (inl i) = f.few y o i
  fewer y o (inr g) = few_of t.kinds y o e g a

pub follows_named : (n : List ℕ) (x y : Meant Expr) (r : Renumbering) (s t : Scene) → Pair r t.kinds x y → Follows r s t
    → Follows r (record s { names = (n, x) ∷ s.names }) (record t { names = (n, y) ∷ t.names })
follows_named n x y r s t p f = record { is_map = f.is_map; names = (refl, p, f.names); demands = f.demands; covered = f.covered; few = f.few }

-- ---- names

abbrev has_name_of : List ℕ → List ℕ × Meant Expr → Bool
has_name_of n e = bytes_eq e.0 n

pub found_same : (r : Renumbering) (ks : List Kind) (n : List ℕ) (d : Meant Expr) (ds es : Names Expr) (x : List ℕ × Meant Expr) → SameNames r ks ds es
    → find (λ e. bytes_eq e.0 n) ds ≡ Some x → (meaning ds n d ≡ x.1) × Pair r ks (meaning ds n d) (meaning es n d)
found_same r ks n d [] es x h i = absurd (cc)
found_same r ks n d (b ∷ ds) [] x h i = absurd h
found_same r ks n d (b ∷ ds) (e ∷ es) x h i = by (bytes_eq b.0 n) (bytes_eq e.0 n) (ap (λ m. bytes_eq m n) h.0) i (found_same r ks n d ds es x h.2) where
  by : (a c : Bool) → a ≡ c → cond a (Some b) (find (has_name_of n) ds) ≡ Some x → (find (has_name_of n) ds ≡ Some x → (meaning ds n d ≡ x.1) × Pair r ks (meaning ds n d) (meaning es n d))
      → (option_map_or (λ (e : List ℕ × Meant Expr). e.1) (cond a (Some b) (find (has_name_of n) ds)) d ≡ x.1)
      × Pair r ks (option_map_or (λ (e : List ℕ × Meant Expr). e.1) (cond a (Some b) (find (has_name_of n) ds)) d) (option_map_or (λ (e : List ℕ × Meant Expr). e.1) (cond c (Some e) (find (has_name_of n) es)) d)
  by true true g i go = (ap (λ o. option_map_or (λ (e : List ℕ × Meant Expr). e.1) o d) i, h.1)
  by false false g i go = go i
  by true false g i go = absurd (cc)
  by false true g i go = absurd (cc)

-- ---- what is determined in the one is so in the other

one_number : (n : ℕ) (r : Renumbering) → IsMap n r → (x y : ℕ) → IsIn (x, y) r → x < n
one_number n [] h x y i = elim i [ ]
one_number n (p ∷ r) h x y (inl e) = let a = h.0 in let b = ap (λ q. q.0) e in omega (arith, a, b)
one_number n (p ∷ r) h x y (inr i) = let a = h.0 in let b = one_number p.0 r h.1 x y i in omega (arith, a, b)

one_image : (n : ℕ) (r : Renumbering) → IsMap n r → (x y z : ℕ) → IsIn (x, y) r → IsIn (x, z) r → y ≡ z
one_image n [] h x y z i j = elim i [ ]
one_image n (p ∷ r) h x y z (inl e) (inl g) = ap (λ q. q.1) e ∙ sym (ap (λ q. q.1) g)
one_image n (p ∷ r) h x y z (inl e) (inr j) = let a = ap (λ q. q.0) e in let b = one_number p.0 r h.1 x z j in absurd (omega (arith, a, b))
one_image n (p ∷ r) h x y z (inr i) (inl g) = let a = ap (λ q. q.0) g in let b = one_number p.0 r h.1 x y i in absurd (omega (arith, a, b))
one_image n (p ∷ r) h x y z (inr i) (inr j) = one_image p.0 r h.1 x y z i j

there_same : (r : Renumbering) (e : Expr) (ds es : List Expr) → AllSame r ds es → IsIn e ds → (g : Expr) × IsIn g es × Same r e g
there_same r e [] es h i = elim i [ ]
there_same r e (d ∷ ds) [] h i = absurd h
there_same r e (d ∷ ds) (g ∷ es) h (inl i) = (g, inl refl, subst (λ z. Same r z g) (sym i) h.0)
there_same r e (d ∷ ds) (g ∷ es) h (inr i) = let t = there_same r e ds es h.1 i in (t.0, inr t.1, t.2)

part_same : (r : Renumbering) (o q : Parts Expr) → SameParts r o q → (e : Expr) → IsPart e o → (g : Expr) × IsPart g q × Same r e g
part_same r o q h e (inl i) = let t = there_same r e o.operands q.operands h.operands i in (t.0, inl t.1, t.2)
part_same r o q h e (inr (inl i)) = let t = there_same r e (values_of o.entries) (values_of q.entries) h.values i in (t.0, inr (inl t.1), t.2)
part_same r o q h e (inr (inr i)) = let t = there_same r e o.types q.types h.types i in (t.0, inr (inr t.1), t.2)

stands_same : (r : Renumbering) (x : ℕ) (e g : Expr) → Same r e g → StandsIn x e → (y : ℕ) × StandsIn y g × IsIn (x, y) r
stands_same r x (the u) (the v) h i = (v, refl, subst (λ z. IsIn (z, v) r) (sym i) h)
stands_same r x (result u k) (result v j) h i = (v, refl, subst (λ z. IsIn (z, v) r) (sym i) h.0)
stands_same r x (only_result u) (only_result v) h i = (v, refl, subst (λ z. IsIn (z, v) r) (sym i) h)
stands_same r x (the u) (result v j) h i = absurd h
stands_same r x (the u) (only_result v) h i = absurd h
stands_same r x (result u k) (the v) h i = absurd h
stands_same r x (result u k) (only_result v) h i = absurd h
stands_same r x (only_result u) (the v) h i = absurd h
stands_same r x (only_result u) (result v j) h i = absurd h

module _ (r : Renumbering) (s t : Scene) (f : Follows r s t) (root top : ℕ) (roots : IsIn (root, top) r) where
  abbrev Is : ℕ → Type 0
  Is y = Determined (top ∷ []) t.demands y

  -- the one number for which it stands
  only : (x y z : ℕ) → IsIn (x, y) r → IsIn (x, z) r → Is y → Is z
  only x y z i j d = subst Is (one_image (length s.kinds) r f.is_map x y z i j) d

  carried : (x : ℕ) → Determined (root ∷ []) s.demands x → (y : ℕ) → IsIn (x, y) r → Is y
  carried x (given_one _ (inl e)) y i = only root top y roots (subst (λ z. IsIn (z, y) r) e i) (given_one top (inl refl))
  carried x (given_one _ (inr n)) y i = elim n [ ]
  carried x (attr_told _ v n) y i = let h = f.demands (is_attr x v) n in only x h.0 y h.1 i (attr_told h.0 v h.2)
  carried x (type_told _ v n) y i = let h = f.demands (is_type x v) n in only x h.0 y h.1 i (type_told h.0 v h.2)
  carried x (part_of u _ o e n d p q) y i =
      let h = f.demands (has_parts u o) n in
      let g = part_same r o h.1 h.4 e p in
      let z = stands_same r x e g.0 g.2 q in
      only x z.0 y z.2 i (part_of h.0 z.0 h.1 g.0 h.3 (carried u d h.0 h.2) g.1 z.1)
  carried x (type_of u _ e n d q) y i =
      let h = f.demands (has_type u e) n in
      let z = stands_same r x e h.1 h.4 q in
      only x z.0 y z.2 i (type_of h.0 z.0 h.1 h.3 (carried u d h.0 h.2) z.1)

  -- All is determined in the second scene if it is in the first.
  pub all_carried : ((x : ℕ) → x < length s.kinds → Determined (root ∷ []) s.demands x) → (y : ℕ) → y < length t.kinds → Is y
  all_carried all y l = by (f.covered y l) where
    by : ((x : ℕ) × (x < length s.kinds) × IsIn (x, y) r) ⊎ IsTold y t.demands → Is y
    by (inl h) = carried h.0 (all h.0 h.1) y h.2
    by (inr (inl i)) = attr_told y i.0 i.1
    by (inr (inr i)) = type_told y i.0 i.1

-- ---- ranges

counted : (ks : List Kind) (es : List Expr) (ns : List Kind) → AreOf ks es ns → ranges ks es ≡ range_count ns
counted ks [] [] h = refl
counted ks (e ∷ es) (n ∷ ns) h = let a : (cond (is_range_kind (kind_in ks e)) 1 0) ≡ (cond (is_range_kind (Some n)) 1 0) = ap {B = ℕ} (λ o. cond (is_range_kind o) 1 0) h.0 in let b = counted ks es ns h.1 in omega (arith, a, b)
counted ks [] (n ∷ ns) h = absurd h
counted ks (e ∷ es) [] h = absurd h

one_range : (ks : List Kind) (es : List Expr) → HasFewRanges ks es → HasOneRange ks es
one_range ks es h = let a = counted ks es h.0 h.1 in let b = h.2 in omega (arith, a, b)

keeps_one : (ks : List Kind) (d : Demand) → AsksFew ks d → KeepsOneRange ks d
keeps_one ks (has_parts x o) h = one_range ks o.types h
keeps_one ks (is_attr x v) h = tt
keeps_one ks (is_type x t) h = tt
keeps_one ks (has_type x e) h = tt
keeps_one ks (stands e) h = tt
keeps_one ks (has_name x n) h = tt
keeps_one ks (asks.calls c xs) h = tt

all_of : (ks : List Kind) (ds es : List Demand) → ((d : Demand) → IsIn d ds → IsIn d es)
    → ((y : ℕ) (o : Parts Expr) → IsIn (has_parts y o) es → HasFewRanges ks o.types) → AllByRecursion (KeepsOneRange ks) ds
all_of ks [] es k f = tt
all_of ks (d ∷ ds) es k f = (keeps_one ks d (by d (k d (inl refl))), all_of ks ds es (λ c i. k c (inr i)) f) where
  by : (d : Demand) → IsIn d es → AsksFew ks d
  by (has_parts x o) i = f x o i
  by (is_attr x v) i = tt
  by (is_type x t) i = tt
  by (has_type x e) i = tt
  by (stands e) i = tt
  by (has_name x n) i = tt
  by (asks.calls c xs) i = tt

-- No list of types of the second scene has two ranges.
pub few_everywhere : (r : Renumbering) (s t : Scene) → Follows r s t → AllByRecursion (KeepsOneRange t.kinds) t.demands
few_everywhere r s t f = all_of t.kinds t.demands t.demands (λ d i. i) f.few
