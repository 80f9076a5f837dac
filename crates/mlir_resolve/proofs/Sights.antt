-- How what rows show changes along a tree.
use Rattle.std.proofs.Common.{◌≡◌, ◌<◌, ◌≤◌, ◌+◌, ℕ, zero, suc, Bool, true, false, not, ◌&&◌, ◌||◌, List, [], ◌∷◌, ◌++◌, length, get_or, Option, Some, None, refl, sym, ap, subst, ◌∙◌, arith, append-nil}
use Rattle.std.specs.Prelude.{◌==◌, nat_lt, if◌then◌else◌, flat_map, ⊤}
use Rattle.std.specs.Option.{option_map_or}
use Rattle.std.specs.List.{list_any}
use Rattle.std.proofs.lemmas.Bool.{ne_eqb}
use Rattle.std.proofs.lemmas.Bool.Decides.{nat_tests}
use Rattle.mlir_tree.specs.declared.row.Home.{Home}
use Rattle.mlir_tree.specs.Module.{home_eq}
use Rattle.mlir_parse.specs.declared.syn.SynArg.{SynArg}
use Rattle.mlir_parse.specs.SynTree.{Operation}
use Rattle.mlir_resolve.specs.Laid.{Laid, region}
use Rattle.mlir_resolve.specs.Sight.{Definition, result_definitions, argument_definitions}
use Rattle.mlir_resolve.proofs.Spans.{AllAt, IsBefore}
use Rattle.mlir_resolve.proofs.RowFacts.{fact_of, homes_before}
use Rattle.mlir_resolve.proofs.Nested.{blank, around_none, around_some}
use Rattle.mlir_resolve.proofs.Shown.{shows_results, shows_arguments, shown_regions, shown, no_values, tree, around}

-- ---- one row

region_apart : (h : Home) (d g : ℕ) → (h.row == d) ≡ false → home_eq h (region d g) ≡ false
region_apart h d g p = λ i. p i && (h.region == g)

regions_none : (h : Home) (homes : List Home) (d g : ℕ) (more : List (List SynArg)) → (h.row == d) ≡ false → shown_regions h homes d g more ≡ []
regions_none h homes d g [] p = refl
regions_none h homes d g (args ∷ more) p =
    λ i. (if (region_apart h d g p i && list_any (home_eq (region d g)) homes) then argument_definitions d g 0 args else []) ++ regions_none h homes d (g + 1) more p i

-- a row that shows no results, and has another number, shows nothing
pub shows_nothing : (h : Home) (homes : List Home) (u : ℕ) (l : Laid) → shows_results h homes u l ≡ false → (h.row == l.id) ≡ false → shown h homes u l ≡ []
shows_nothing h homes u l p q =
    λ i. (if p i then result_definitions l.id 0 l.head.results l.head.result_types else []) ++ regions_none h homes l.id 0 l.arguments q i

late_results : (a c : Bool) (d u : ℕ) → u ≤ d → (a && (nat_lt d u && c)) ≡ false
late_results a c d u p = grind (arith, nat_tests, p)

pub late : (h : Home) (homes : List Home) (u : ℕ) (l : Laid) → u ≤ l.id → h.row < u → shown h homes u l ≡ []
late h homes u l p q =
    shows_nothing h homes u l (late_results _ _ l.id u p) (ne_eqb h.row l.id (λ e. omega (arith, e, p, q)))

pub apart : (h : Home) (homes : List Home) (u : ℕ) (l : Laid) → option_map_or (home_eq h) l.home false ≡ false → (h.row == l.id) ≡ false → shown h homes u l ≡ []
apart h homes u l p q =
    shows_nothing h homes u l (λ i. p i && (nat_lt l.id u && (option_map_or (λ x. list_any (home_eq x) homes) l.home false && not (list_any (λ x. x.row == l.id) homes)))) q

-- later rows in the same regions see the same of earlier ones
less_is : (a b : ℕ) → a < b → nat_lt a b ≡ true
less_is a b p = grind (arith, nat_tests, p)

pub still : (h : Home) (homes : List Home) (u v : ℕ) (l : Laid) → l.id < u → l.id < v → shown h homes u l ≡ shown h homes v l
still h homes u v l p q =
    λ i. (if (option_map_or (home_eq h) l.home false
    && ((less_is l.id u p ∙ sym (less_is l.id v q)) i && (option_map_or (λ x. list_any (home_eq x) homes) l.home false && not (list_any (λ x. x.row == l.id) homes))))
    then result_definitions l.id 0 l.head.results l.head.result_types else []) ++ shown_regions h homes l.id 0 l.arguments

-- a row inside region g of row n sees the same of rows before n as n does, in regions around n
deeper_home : (h x : Home) (n g d : ℕ) (homes : List Home) (a : Bool) → d < n → h.row < n
    → (home_eq h x && (a && (list_any (home_eq x) (region n g ∷ homes) && not (list_any (λ y. y.row == d) (region n g ∷ homes)))))
    ≡ (home_eq h x && (a && (list_any (home_eq x) homes && not (list_any (λ y. y.row == d) homes))))
deeper_home h x n g d homes a p q = grind (arith, nat_tests, p, q)

deeper_results : (h : Home) (n g u d : ℕ) (homes : List Home) (o : Option Home) → d < n → n < u → h.row < n
    → (option_map_or (home_eq h) o false && (nat_lt d u && (option_map_or (λ x. list_any (home_eq x) (region n g ∷ homes)) o false && not (list_any (λ x. x.row == d) (region n g ∷ homes)))))
    ≡ (option_map_or (home_eq h) o false && (nat_lt d n && (option_map_or (λ x. list_any (home_eq x) homes) o false && not (list_any (λ x. x.row == d) homes))))
deeper_results h n g u d homes None p r q = refl
deeper_results h n g u d homes (Some x) p r q =
    (λ i. home_eq h x && ((less_is d u (omega (arith, p, r)) ∙ sym (less_is d n p)) i && (list_any (home_eq x) (region n g ∷ homes) && not (list_any (λ y. y.row == d) (region n g ∷ homes)))))
    ∙ deeper_home h x n g d homes (nat_lt d n) p q

deeper_arguments : (h : Home) (n g d k : ℕ) (homes : List Home) → d < n → shows_arguments h (region n g ∷ homes) d k ≡ shows_arguments h homes d k
deeper_arguments h n g d k homes p = grind (arith, nat_tests, p)

deeper_regions : (h : Home) (n g d k : ℕ) (homes : List Home) (more : List (List SynArg)) → d < n → shown_regions h (region n g ∷ homes) d k more ≡ shown_regions h homes d k more
deeper_regions h n g d k homes [] p = refl
deeper_regions h n g d k homes (args ∷ more) p =
    λ i. (if deeper_arguments h n g d k homes p i then argument_definitions d k 0 args else []) ++ deeper_regions h n g d (k + 1) homes more p i

pub deeper : (h : Home) (n g u : ℕ) (homes : List Home) (l : Laid) → l.id < n → n < u → h.row < n → shown h (region n g ∷ homes) u l ≡ shown h homes n l
deeper h n g u homes l p r q =
    λ i. (if deeper_results h n g u l.id homes l.home p r q i then result_definitions l.id 0 l.head.results l.head.result_types else [])
    ++ deeper_regions h n g l.id 0 homes l.arguments p i

-- the row itself shows no results inside itself
own_results : (a b c : Bool) (n g : ℕ) (homes : List Home) → (a && (b && (c && not (list_any (λ (y : Home). y.row == n) (region n g ∷ homes))))) ≡ false
own_results a b c n g homes = grind (arith, nat_tests)

pub own : (h : Home) (n g u : ℕ) (homes : List Home) (l : Laid) → l.id ≡ n → h.row < n → shown h (region n g ∷ homes) u l ≡ []
own h n g u homes l e q =
    shows_nothing h (region n g ∷ homes) u l
    (ap (λ m. option_map_or (home_eq h) l.home false && (nat_lt m u && (option_map_or (λ x. list_any (home_eq x) (region n g ∷ homes)) l.home false && not (list_any (λ x. x.row == m) (region n g ∷ homes))))) e
    ∙ own_results (option_map_or (home_eq h) l.home false) (nat_lt n u) (option_map_or (λ x. list_any (home_eq x) (region n g ∷ homes)) l.home false) n g homes)
    (ne_eqb h.row l.id (λ d. omega (arith, d, e, q)))

-- a row shows its results behind itself
pub shows_own : (h : Home) (homes : List Home) (u : ℕ) (l : Laid) → l.home ≡ Some h → l.id < u → h.row < l.id → list_any (λ x. x.row == l.id) homes ≡ false
    → shown h (h ∷ homes) u l ≡ result_definitions l.id 0 l.head.results l.head.result_types
shows_own h homes u l is p q none =
    (λ i. (if seen i then result_definitions l.id 0 l.head.results l.head.result_types else []) ++ regions_none h (h ∷ homes) l.id 0 l.arguments (ne_eqb h.row l.id (λ e. omega (arith, e, q))) i)
    ∙ append-nil (result_definitions l.id 0 l.head.results l.head.result_types)
  where
    seen_at : (h : Home) (d u : ℕ) (homes : List Home) → d < u → h.row < d → list_any (λ (x : Home). x.row == d) homes ≡ false
        → (home_eq h h && (nat_lt d u && (list_any (home_eq h) (h ∷ homes) && not (list_any (λ (x : Home). x.row == d) (h ∷ homes))))) ≡ true
    seen_at h d u homes p q none = grind (arith, nat_tests, p, q, none)

    seen : shows_results h (h ∷ homes) u l ≡ true
    seen =
        ap (λ o. option_map_or (home_eq h) o false && (nat_lt l.id u && (option_map_or (λ x. list_any (home_eq x) (h ∷ homes)) o false && not (list_any (λ x. x.row == l.id) (h ∷ homes))))) is
        ∙ seen_at h l.id u homes p q none

-- ---- lists of rows

pub all_nothing : (f : Laid → List Definition) (n : ℕ) (ls : List Laid) → AllAt (λ k l. f l ≡ []) n ls → flat_map f ls ≡ []
all_nothing f n [] all = refl
all_nothing f n (l ∷ ls) all = λ i. all.0 i ++ all_nothing f (suc n) ls all.1 i

pub all_same : (f g : Laid → List Definition) (n : ℕ) (ls : List Laid) → AllAt (λ k l. f l ≡ g l) n ls → flat_map f ls ≡ flat_map g ls
all_same f g n [] all = refl
all_same f g n (l ∷ ls) all = λ i. all.0 i ++ all_same f g (suc n) ls all.1 i

-- ---- the homes around a row go outward

abbrev pub Outward : ℕ → List Home → Type 0
Outward n [] = ⊤
Outward n (h ∷ hs) = (h.row < n) × Outward h.row hs

pub outward_later : (n m : ℕ) (hs : List Home) → n ≤ m → Outward n hs → Outward m hs
outward_later n m [] p o = tt
outward_later n m (h ∷ hs) p o = (omega (arith, p, o.0), o.1)

pub no_row_around : (n d : ℕ) (hs : List Home) → n ≤ d → Outward n hs → list_any (λ x. x.row == d) hs ≡ false
no_row_around n d [] p o = refl
no_row_around n d (h ∷ hs) p o =
    λ i. ne_eqb h.row d (λ e. omega (arith, e, p, o.0)) i || no_row_around h.row d hs (omega (arith, p, o.0)) o.1 i

pub outward_below : (o : Operation) (m u : ℕ) → u < m → u < length (tree o) → Outward u (around o u)
outward_below o zero u l p = absurd (omega (arith, l))
outward_below o (suc m) u l p = by_home (get_or (tree o) u blank).home refl (λ h before. outward_below o m h.row (omega (arith, before, l)) (omega (arith, before, p)))
  where
    by_home : (x : Option Home) → (get_or (tree o) u blank).home ≡ x → ((h : Home) → h.row < u → Outward h.row (around o h.row)) → Outward u (around o u)
    by_home None is rest = subst (Outward u) (sym (around_none no_values o u p is)) tt
    by_home (Some h) is rest =
        let before = (fact_of IsBefore (tree o) u blank (homes_before o) p).before h is in
        subst (Outward u) (sym (around_some no_values o u h p is)) (before, rest h before)
