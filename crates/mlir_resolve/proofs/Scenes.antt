-- What the rows before a place of a tree show there.
use Rattle.std.proofs.Common.{◌≡◌, ◌<◌, ◌≤◌, ◌+◌, ℕ, suc, true, false, ◌&&◌, inl, inr, List, [], ◌∷◌, ◌++◌, length, Option, Some, None, refl, sym, ap, subst, ◌∙◌, arith, append-nil}
use Rattle.std.specs.Prelude.{if◌then◌else◌, flat_map}
use Rattle.std.specs.Option.{option_or, option_map_or}
use Rattle.std.specs.List.{list_any}
use Rattle.std.proofs.lemmas.Bool.{ne_eqb}
use Rattle.std.proofs.lemmas.Bool.Decides.{nat_tests}
use Rattle.std.proofs.lemmas.Grind.{flat_map-append}
use Rattle.mlir_tree.specs.declared.row.Home.{Home}
use Rattle.mlir_tree.specs.Module.{home_eq}
use Rattle.mlir_parse.specs.declared.syn.SynArg.{SynArg}
use Rattle.mlir_parse.specs.SynTree.{Head, Operation, operation, Regions, Operations}
use Rattle.mlir_resolve.specs.Laid.{Laid, region, arguments_of, laid_operation, laid_regions, laid_operations}
use Rattle.mlir_resolve.specs.Sight.{Definition, result_definitions, argument_definitions, meaning_at}
use Rattle.mlir_resolve.specs.Scopes.{find_name}
use Rattle.mlir_resolve.proofs.Spans.{AllAt, all_weaker, operation_numbers, IsNumber, IsBefore, IsBetween, IsIn, inner_homes, operations_homes, operations_numbers}
use Rattle.mlir_resolve.proofs.RowFacts.{homes_before}
use Rattle.mlir_resolve.proofs.Shown.{shown, shown_regions, shows_arguments, firsts, tree, around, meaning_by_rows}
use Rattle.mlir_resolve.proofs.Sights.{late, apart, still, deeper, own, shows_own, all_nothing, all_same, Outward, outward_later, no_row_around}

-- ---- facts of parts of a list

pub front : (P : ℕ → Laid → Type 0) (n : ℕ) (xs ys : List Laid) → AllAt P n (xs ++ ys) → AllAt P n xs
front P n [] ys a = tt
front P n (x ∷ xs) ys a = (a.0, front P (suc n) xs ys a.1)

pub back : (P : ℕ → Laid → Type 0) (n : ℕ) (xs ys : List Laid) → AllAt P n (xs ++ ys) → AllAt P (n + length xs) ys
back P n [] ys a = let e : n ≡ n + 0 = omega arith in subst (λ (k : ℕ). AllAt P k ys) e a
back P n (x ∷ xs) ys a = let e : suc n + length xs ≡ n + suc (length xs) = omega arith in subst (λ (k : ℕ). AllAt P k ys) e (back P (suc n) xs ys a.1)

pub both : (P Q : ℕ → Laid → Type 0) (n : ℕ) (xs : List Laid) → AllAt P n xs → AllAt Q n xs → AllAt (λ k l. P k l × Q k l) n xs
both P Q n [] a b = tt
both P Q n (x ∷ xs) a b = ((a.0, b.0), both P Q (suc n) xs a.1 b.1)

-- what a row is in a tree: its number, and a home before it
abbrev pub Placed : ℕ → Laid → Type 0
Placed k l = (l.id ≡ k) × IsBefore k l

pub placed : (o : Operation) → AllAt Placed 0 (tree o)
placed o = both IsNumber IsBefore 0 (tree o) (operation_numbers 0 None o) (homes_before o)

-- a row before number n
abbrev pub Before : ℕ → ℕ → Laid → Type 0
Before n k l = (l.id < n) × ((h : Home) → l.home ≡ Some h → h.row < l.id)

pub before_from : (n m : ℕ) (xs : List Laid) → n + length xs ≤ m → AllAt Placed n xs → AllAt (Before m) n xs
before_from n m xs p all = all_weaker Placed (Before m) n xs (λ k l a b f. (omega (arith, f.0, b, p), λ h is. omega (arith, f.0, f.1.before h is))) all

-- a row behind row n, whose home is a region of row n before region g, or of a later row
pub record Early (n g : ℕ) (l : Laid) : Type 0 where
  pub id : n < l.id
  pub home : Home
  pub is : l.home ≡ Some home
  pub from : n ≤ home.row
  pub region : home.row ≡ n → home.region < g

pub home_apart : (h x : Home) → (h.row ≡ x.row → h.region ≡ x.region → ⊥) → home_eq h x ≡ false
home_apart h x p = grind (arith, nat_tests, p)

early_apart : (h : Home) (homes : List Home) (u n g : ℕ) (l : Laid) → h.row < n → Early n g l → shown h homes u l ≡ []
early_apart h homes u n g l p e =
    apart h homes u l (ap (λ o. option_map_or (home_eq h) o false) e.is ∙ home_apart h e.home (λ a b. omega (arith, a, p, e.from)))
    (ne_eqb h.row l.id (λ a. omega (arith, a, p, e.id)))

pub early_other : (homes : List Home) (u n g : ℕ) (l : Laid) → Early n g l → shown (region n g) homes u l ≡ []
early_other homes u n g l e =
    apart (region n g) homes u l (ap (λ o. option_map_or (home_eq (region n g)) o false) e.is ∙ home_apart (region n g) e.home (λ a b. let c = e.region (sym a) in omega (arith, b, c)))
    (ne_eqb n l.id (λ a. omega (arith, a, e.id)))

pub early_more : (n g : ℕ) (k : ℕ) (xs : List Laid) → AllAt (λ j l. Early n g l) k xs → AllAt (λ j l. Early n (suc g) l) k xs
early_more n g k xs all = all_weaker (λ j l. Early n g l) (λ j l. Early n (suc g) l) k xs (λ j l p q e. record { id = e.id; home = e.home; is = e.is; from = e.from; region = λ a. let c = e.region a in omega (arith, c) }) all

-- the rows of region g of row n
pub early_region : (n g m : ℕ) (os : Operations) → n < m → AllAt (λ j l. Early n (suc g) l) m (laid_operations (region n g) m os)
early_region n g m os p =
    all_weaker (λ k l. (l.id ≡ k) × IsIn (region n g) m k l) (λ j l. Early n (suc g) l) m (laid_operations (region n g) m os)
    (λ k l a b f. of_row k l a f.0 f.1) (both IsNumber (IsIn (region n g) m) m (laid_operations (region n g) m os) (operations_numbers (region n g) m os) (operations_homes (region n g) m os))
  where
    of_row : (k : ℕ) (l : Laid) → m ≤ k → l.id ≡ k → IsIn (region n g) m k l → Early n (suc g) l
    of_row k l a e (inl is) = record { id = omega (arith, a, e, p); home = region n g; is = is; from = omega arith; region = λ c. omega arith }
    of_row k l a e (inr b) = record { id = omega (arith, a, e, p); home = b.home; is = b.is; from = omega (arith, b.from, p); region = λ c. absurd (omega (arith, c, b.from, p)) }

-- the rows inside row n
inner_early : (n : ℕ) (home : Option Home) (h : Head) (rs : Regions) → AllAt (λ j l. (n < l.id) × IsBetween n j l) (suc n) (laid_regions n 0 (suc n) rs)
unfolding laid_operation
inner_early n home h rs =
    all_weaker (λ k l. (l.id ≡ k) × IsBetween n k l) (λ j l. (n < l.id) × IsBetween n j l) (suc n) (laid_regions n 0 (suc n) rs)
    (λ k l a b f. (omega (arith, a, f.0), f.1))
    (both IsNumber (IsBetween n) (suc n) (laid_regions n 0 (suc n) rs) (operation_numbers n home (operation h rs)).1 (inner_homes n rs))

inner_apart : (h : Home) (homes : List Home) (u n j : ℕ) (l : Laid) → h.row < n → (n < l.id) × IsBetween n j l → shown h homes u l ≡ []
inner_apart h homes u n j l p e =
    apart h homes u l (ap (λ o. option_map_or (home_eq h) o false) e.1.is ∙ home_apart h e.1.home (λ a b. omega (arith, a, p, e.1.from)))
    (ne_eqb h.row l.id (λ a. omega (arith, a, p, e.0)))

-- ---- what stands in sight at row n

pub firsts_same : (name : List ℕ) (n : ℕ) (s t : Home → List Definition) (hs : List Home) → Outward n hs → ((h : Home) → h.row < n → s h ≡ t h) → firsts name s hs ≡ firsts name t hs
firsts_same name n s t [] o f = refl
firsts_same name n s t (h ∷ hs) o f =
    λ i. option_or (find_name name (f h o.0 i)) (firsts_same name n s t hs (outward_later h.row n hs (omega (arith, o.0)) o.1) f i)

-- the names of region h that stand in sight at row u, of these rows
abbrev pub scene : List Laid → List Home → ℕ → Home → List Definition
scene rows homes u h = flat_map (shown h homes u) rows

scene_before : (pre rest : List Laid) (homes : List Home) (n : ℕ) (h : Home) → length pre ≡ n → AllAt Placed 0 (pre ++ rest) → h.row < n → scene (pre ++ rest) homes n h ≡ scene pre homes n h
scene_before pre rest homes n h e all p =
    flat_map-append (shown h homes n) pre rest
    ∙ (ap (λ xs. flat_map (shown h homes n) pre ++ xs) (all_nothing (shown h homes n) (0 + length pre) rest
    (all_weaker Placed (λ k l. shown h homes n l ≡ []) (0 + length pre) rest (λ k l a b f. late h homes n l (omega (arith, a, f.0, e)) p) (back Placed 0 pre rest all)))
    ∙ append-nil (flat_map (shown h homes n) pre))

pub meaning_is : (o : Operation) (pre rest : List Laid) (n : ℕ) (name : List ℕ) → tree o ≡ pre ++ rest → length pre ≡ n → n < length (tree o) → Outward n (around o n)
    → meaning_at (tree o) n name ≡ firsts name (scene pre (around o n) n) (around o n)
meaning_is o pre rest n name e len p out =
    meaning_by_rows o n p name
    ∙ firsts_same name n (scene (tree o) (around o n) n) (scene pre (around o n) n) (around o n) out
    (λ h q. ap (λ ls. scene ls (around o n) n h) e ∙ scene_before pre rest (around o n) n h len (subst (AllAt Placed 0) e (placed o)) q)

-- ---- behind row n, in the same regions

still_all : (pre : List Laid) (homes : List Home) (n m : ℕ) (h : Home) → length pre ≡ n → n ≤ m → AllAt Placed 0 pre → scene pre homes m h ≡ scene pre homes n h
still_all pre homes n m h e p all =
    all_same (shown h homes m) (shown h homes n) 0 pre
    (all_weaker (Before n) (λ k l. shown h homes m l ≡ shown h homes n l) 0 pre (λ k l a b f. still h homes m n l (omega (arith, f.0, p)) f.0) (before_from 0 n pre (omega (arith, e)) all))

module _ (pre : List Laid) (n m : ℕ) (home : Home) (hs : List Home) (h : Head) (rs : Regions) (len : length pre ≡ n) (later : n < m) (all : AllAt Placed 0 pre) (out : Outward n (home ∷ hs)) where
  pub scene_own : scene (pre ++ laid_operation n (Some home) (operation h rs)) (home ∷ hs) m home ≡ scene pre (home ∷ hs) n home ++ result_definitions n 0 h.results h.result_types
  unfolding laid_operation
  scene_own =
      flat_map-append (shown home (home ∷ hs) m) pre (laid_operation n (Some home) (operation h rs))
      ∙ (λ i. still_all pre (home ∷ hs) n m home len (omega (arith, later)) all i
      ++ ((λ j. shows_own home hs m (record { id = n; home = Some home; head = h; arguments = arguments_of rs }) refl later out.0 (no_row_around home.row n hs (omega (arith, out.0)) out.1) j
      ++ all_nothing (shown home (home ∷ hs) m) (suc n) (laid_regions n 0 (suc n) rs) (all_weaker (λ j l. (n < l.id) × IsBetween n j l) (λ j l. shown home (home ∷ hs) m l ≡ []) (suc n) (laid_regions n 0 (suc n) rs) (λ k l a b f. inner_apart home (home ∷ hs) m n k l out.0 f) (inner_early n (Some home) h rs)) j)
      ∙ append-nil (result_definitions n 0 h.results h.result_types)) i)

  pub scene_around : (x : Home) → x.row < home.row → scene (pre ++ laid_operation n (Some home) (operation h rs)) (home ∷ hs) m x ≡ scene pre (home ∷ hs) n x
  unfolding laid_operation
  scene_around x p =
      flat_map-append (shown x (home ∷ hs) m) pre (laid_operation n (Some home) (operation h rs))
      ∙ ((λ i. still_all pre (home ∷ hs) n m x len (omega (arith, later)) all i
      ++ (apart x (home ∷ hs) m (record { id = n; home = Some home; head = h; arguments = arguments_of rs }) (home_apart x home (λ a b. omega (arith, a, p))) (ne_eqb x.row n (λ a. omega (arith, a, p, out.0))) i
      ++ all_nothing (shown x (home ∷ hs) m) (suc n) (laid_regions n 0 (suc n) rs) (all_weaker (λ j l. (n < l.id) × IsBetween n j l) (λ j l. shown x (home ∷ hs) m l ≡ []) (suc n) (laid_regions n 0 (suc n) rs) (λ k l a b f. inner_apart x (home ∷ hs) m n k l (omega (arith, p, out.0)) f) (inner_early n (Some home) h rs)) i))
      ∙ append-nil (scene pre (home ∷ hs) n x))

-- ---- inside row n

regions_behind : (d g k : ℕ) (homes : List Home) (more : List (List SynArg)) → g < k → shown_regions (region d g) homes d k more ≡ []
regions_behind d g k homes [] p = refl
regions_behind d g k homes (args ∷ more) p =
    λ i. (if (home_apart (region d g) (region d k) (λ a b. omega (arith, b, p)) i && list_any (home_eq (region d k)) homes) then argument_definitions d k 0 args else [])
    ++ regions_behind d g (k + 1) homes more (omega (arith, p)) i

own_region : (d g : ℕ) (homes : List Home) → shows_arguments (region d g) (region d g ∷ homes) d g ≡ true
own_region d g homes = grind (arith, nat_tests)

pub region_at : (d g k : ℕ) (homes : List Home) (first : List (List SynArg)) (args : List SynArg) (more : List (List SynArg)) → g ≡ k + length first
    → shown_regions (region d g) (region d g ∷ homes) d k (first ++ args ∷ more) ≡ argument_definitions d g 0 args
region_at d g k homes [] args more e =
    let same : k ≡ g = omega (arith, e) in
    (λ i. (if shows_arguments (region d g) (region d g ∷ homes) d (same i) then argument_definitions d (same i) 0 args else []) ++ regions_behind d g (k + 1) (region d g ∷ homes) more (omega (arith, e)) i)
    ∙ ((λ i. (if own_region d g homes i then argument_definitions d g 0 args else []) ++ []) ∙ append-nil (argument_definitions d g 0 args))
region_at d g k homes (other ∷ first) args more e =
    λ i. (if (home_apart (region d g) (region d k) (λ a b. omega (arith, b, e)) i && list_any (home_eq (region d k)) (region d g ∷ homes)) then argument_definitions d k 0 other else [])
    ++ region_at d g (k + 1) homes first args more (omega (arith, e)) i

module _ (pre mid : List Laid) (n g u : ℕ) (hs : List Home) (l : Laid) (len : length pre ≡ n) (inside : n < u) (all : AllAt Placed 0 pre) (number : l.id ≡ n) (early : AllAt (λ j x. Early n g x) (suc n) mid) where
  pub scene_outside : (x : Home) → x.row < n → scene (pre ++ l ∷ mid) (region n g ∷ hs) u x ≡ scene pre hs n x
  scene_outside x p =
      flat_map-append (shown x (region n g ∷ hs) u) pre (l ∷ mid)
      ∙ ((λ i. all_same (shown x (region n g ∷ hs) u) (shown x hs n) 0 pre (all_weaker (Before n) (λ k y. shown x (region n g ∷ hs) u y ≡ shown x hs n y) 0 pre (λ k y a b f. deeper x n g u hs y f.0 inside p) (before_from 0 n pre (omega (arith, len)) all)) i
      ++ (own x n g u hs l number p i
      ++ all_nothing (shown x (region n g ∷ hs) u) (suc n) mid (all_weaker (λ j y. Early n g y) (λ k y. shown x (region n g ∷ hs) u y ≡ []) (suc n) mid (λ k y a b e. early_apart x (region n g ∷ hs) u n g y p e) early) i))
      ∙ append-nil (scene pre hs n x))
