-- The homes around a row, by places.
use Rattle.std.proofs.Common.{◌≡◌, ◌≢◌, ◌<◌, ◌≤◌, ℕ, zero, suc, Bool, true, false, ◌||◌, ◌&&◌, not, cond, List, [], ◌∷◌, length, map, take, reverse, get_or, Option, Some, None, refl, sym, ap, subst, ◌∙◌, arith, ⊎_elim}
use Rattle.std.specs.Prelude.{◌==◌, nat_eq, nat_lt, slice_get, IfSome}
use Rattle.std.specs.Option.{option_map_or, option_and_then}
use Rattle.std.specs.List.{list_any, IsDistinct, AllByRecursion}
use Rattle.std.proofs.lemmas.Bool.{ne_eqb}
use Rattle.std.proofs.lemmas.Bool.Decides.{nat_tests}
use Rattle.std.proofs.lemmas.List.{reverse-append}
use Rattle.std.proofs.lemmas.Option.{slice_get-get_or}
use Rattle.std.proofs.Math.Seq.{take-suc, take-length}
use Rattle.mlir_tree.specs.declared.row.Home.{Home}
use Rattle.mlir_tree.specs.declared.row.Row.{Row}
use Rattle.mlir_tree.specs.declared.value.Val.TheVariants as vals
use Rattle.mlir_tree.specs.Module.{has_row, is_earlier, row_of, homes_around, enclosing, home_eq, has_argument, is_in_scope, is_visible}
use Rattle.mlir_tree.specs.WellFormed.{AreDistinct, AreNested, IsEarlierRegion}
use Rattle.row_index.specs.Walking.{homes_from, around_place, number_at, sees_at, has_result_in_sight, has_argument_in_sight}
use Rattle.row_index.proofs.Searching.{order, at_place, read_at}

-- ---- numbers that differ

apart_from : (rows : List Row) (r : Row) (i n : ℕ) → AllByRecursion (λ m. nat_eq r.id m ≡ false) (map (λ (s : Row). s.id) rows) → number_at rows i ≡ Some n → r.id ≢ n
apart_from [] r i n all is = absurd (cc)
apart_from (s ∷ rows) r zero n all is = let same : Some s.id ≡ Some n = is in λ e. grind (arith, nat_tests, all.0, same, e)
apart_from (s ∷ rows) r (suc i) n all is = apart_from rows r i n all.1 is

-- one number stands at one place
pub one_place : (rows : List Row) (i j n : ℕ) → AreDistinct rows → number_at rows i ≡ Some n → number_at rows j ≡ Some n → i ≡ j
unfolding IsDistinct
one_place [] i j n apart p q = absurd (cc)
one_place (r ∷ rows) zero zero n apart p q = refl
one_place (r ∷ rows) zero (suc j) n apart p q = absurd (apart_from rows r j n apart.0 q (same p))
  where
    same : Some r.id ≡ Some n → r.id ≡ n
    same e = cc
one_place (r ∷ rows) (suc i) zero n apart p q = absurd (apart_from rows r i n apart.0 p (same q))
  where
    same : Some r.id ≡ Some n → r.id ≡ n
    same e = cc
one_place (r ∷ rows) (suc i) (suc j) n apart p q = ap suc (one_place rows i j n apart.1 p q)

-- ---- the homes behind a home

-- The row of number n stands at place p, and the rows before place j are looked at, last first.
pub around_of : (rows : List Row) (j p n : ℕ) (d : Row) → AreDistinct rows → number_at rows p ≡ Some n → p < j → j ≤ length rows
    → homes_around (reverse (take j rows)) n ≡ homes_from rows p (get_or rows p d).home
around_of rows zero p n d apart is before fits = absurd (omega (arith, before))
around_of rows (suc m) p n d apart is before fits =
    ap (λ l. homes_around (reverse l) n) (take-suc rows m d fits)
    ∙ (ap (λ l. homes_around l n) (reverse-append (take m rows) (get_or rows m d ∷ [])) ∙ ⊎_elim (later (λ l. around_of rows m p n d apart is l (omega (arith, fits)))) here (order p m))
  where
    later : (p < m → homes_around (reverse (take m rows)) n ≡ homes_from rows p (get_or rows p d).home) → p < m → homes_around (get_or rows m d ∷ reverse (take m rows)) n ≡ homes_from rows p (get_or rows p d).home
    later rest l =
        let other : ((get_or rows m d).id == n) ≡ false = ne_eqb (get_or rows m d).id n (λ e. let same = one_place rows p m n apart is (at_place rows m d fits ∙ ap Some e) in absurd (omega (arith, same, l))) in
        (λ i. cond (other i) (homes_from rows m (get_or rows m d).home) (homes_around (reverse (take m rows)) n)) ∙ rest l

    here : m ≤ p → homes_around (get_or rows m d ∷ reverse (take m rows)) n ≡ homes_from rows p (get_or rows p d).home
    here l =
        let place : m ≡ p = omega (arith, l, before) in
        let same : ((get_or rows m d).id == n) ≡ true = grind (arith, nat_tests, read_at rows m n d (subst (λ (x : ℕ). number_at rows x ≡ Some n) (sym place) is) fits) in
        (λ i. cond (same i) (homes_from rows m (get_or rows m d).home) (homes_around (reverse (take m rows)) n)) ∙ (λ i. homes_from rows (place i) (get_or rows (place i) d).home)

-- the homes around a row that stands at a place
pub enclosed_at : (rows : List Row) (p : ℕ) (d : Row) → AreDistinct rows → p < length rows → enclosing rows (get_or rows p d).id ≡ around_place rows p
unfolding enclosing around_place
enclosed_at rows p d apart fits =
    ap (λ l. homes_around (reverse l) (get_or rows p d).id) (sym (take-length rows))
    ∙ (around_of rows (length rows) p (get_or rows p d).id d apart (at_place rows p d fits) fits (omega arith)
    ∙ sym (ap (λ (o : Option Row). option_map_or (λ r. homes_from rows p r.home) o []) (slice_get-get_or rows p d fits)))

-- a home of the row at a place, and the homes behind it
pub outer_home : (rows : List Row) (j p : ℕ) (h : Home) (d : Row) → AreDistinct rows → j < length rows → (get_or rows j d).home ≡ Some h → number_at rows p ≡ Some h.row → p < j
    → around_place rows j ≡ h ∷ around_place rows p
unfolding around_place
outer_home rows j p h d apart fits is at before =
    ap (λ (o : Option Row). option_map_or (λ r. homes_from rows j r.home) o []) (slice_get-get_or rows j d fits)
    ∙ (ap (homes_from rows j) is
    ∙ ap (λ l. h ∷ l) (around_of rows j p h.row d apart at before (omega (arith, fits))
    ∙ sym (ap (λ (o : Option Row). option_map_or (λ r. homes_from rows p r.home) o []) (slice_get-get_or rows p d (omega (arith, fits, before))))))

pub no_home : (rows : List Row) (j : ℕ) (d : Row) → j < length rows → (get_or rows j d).home ≡ None → around_place rows j ≡ []
unfolding around_place
no_home rows j d fits is = ap (λ (o : Option Row). option_map_or (λ r. homes_from rows j r.home) o []) (slice_get-get_or rows j d fits) ∙ ap (homes_from rows j) is

-- ---- earlier rows

pub or_false : (a b : Bool) → (a || b) ≡ false → (a ≡ false) × (b ≡ false)
or_false true b h = absurd (cc)
or_false false b h = (refl, h)

has_at : (rows : List Row) (j m : ℕ) → number_at rows j ≡ Some m → has_row rows m ≡ true
has_at [] j m q = absurd (cc)
has_at (r ∷ rows) zero m q = let same : (r.id == m) ≡ true = grind (arith, nat_tests, is q) in λ i. same i || has_row rows m
  where
    is : Some r.id ≡ Some m → r.id ≡ m
    is e = cc
has_at (r ∷ rows) (suc j) m q = (λ i. (r.id == m) || has_at rows j m q i) ∙ always (r.id == m)
  where
    always : (b : Bool) → (b || true) ≡ true
    always true = refl
    always false = refl

none_has : (rows : List Row) (n : ℕ) → AllByRecursion (λ m. nat_eq n m ≡ false) (map (λ (s : Row). s.id) rows) → has_row rows n ≡ false
none_has [] n all = refl
none_has (s ∷ rows) n all = let other : (s.id == n) ≡ false = grind (arith, nat_tests, all.0) in (λ i. other i || has_row rows n) ∙ none_has rows n all.1

pub not_later : (rows : List Row) (d u : ℕ) → has_row rows u ≡ false → is_earlier rows d u ≡ false
not_later [] d u none = refl
not_later (r ∷ rows) d u none =
    let q = or_false (r.id == u) (has_row rows u) none in
    (λ i. ((r.id == d) && q.1 i) || not_later rows d u q.1 i) ∙ never (r.id == d)
  where
    never : (b : Bool) → ((b && false) || false) ≡ false
    never true = refl
    never false = refl

pub not_earlier : (rows : List Row) (d u : ℕ) → has_row rows d ≡ false → is_earlier rows d u ≡ false
not_earlier [] d u none = refl
not_earlier (r ∷ rows) d u none =
    let q = or_false (r.id == d) (has_row rows d) none in
    (λ i. (q.0 i && has_row rows u) || not_earlier rows d u q.1 i)

first_less : (j : ℕ) → true ≡ nat_lt 0 (suc j)
first_less j = grind (arith, nat_tests)

none_less : (i : ℕ) → false ≡ nat_lt i 0
none_less i = grind (arith, nat_tests)

both_less : (i j : ℕ) → nat_lt i j ≡ nat_lt (suc i) (suc j)
both_less i j = grind (arith, nat_tests)

-- of two rows that stand at places, the earlier one has the lesser place
pub earlier_place : (rows : List Row) (i j n m : ℕ) → AreDistinct rows → number_at rows i ≡ Some n → number_at rows j ≡ Some m → is_earlier rows n m ≡ nat_lt i j
unfolding IsDistinct
earlier_place [] i j n m apart p q = absurd (cc)
earlier_place (r ∷ rows) zero zero n m apart p q = later_none ∙ none_less 0
  where
    is : (k : ℕ) → Some r.id ≡ Some k → r.id ≡ k
    is k e = cc

    none : has_row rows m ≡ false
    none = subst (λ (k : ℕ). has_row rows k ≡ false) (is m q) (none_has rows r.id apart.0)

    later_none : (((r.id == n) && has_row rows m) || is_earlier rows n m) ≡ false
    later_none = (λ i. ((r.id == n) && none i) || not_later rows n m none i) ∙ never (r.id == n)
      where
        never : (b : Bool) → ((b && false) || false) ≡ false
        never true = refl
        never false = refl
earlier_place (r ∷ rows) zero (suc j) n m apart p q =
    let same : (r.id == n) ≡ true = grind (arith, nat_tests, is p) in
    (λ i. (same i && has_at rows j m q i) || is_earlier rows n m) ∙ first_less j
  where
    is : Some r.id ≡ Some n → r.id ≡ n
    is e = cc
earlier_place (r ∷ rows) (suc i) zero n m apart p q = later_none ∙ none_less (suc i)
  where
    is : (k : ℕ) → Some r.id ≡ Some k → r.id ≡ k
    is k e = cc

    none : has_row rows m ≡ false
    none = subst (λ (k : ℕ). has_row rows k ≡ false) (is m q) (none_has rows r.id apart.0)

    later_none : (((r.id == n) && has_row rows m) || is_earlier rows n m) ≡ false
    later_none = (λ i. ((r.id == n) && none i) || not_later rows n m none i) ∙ never (r.id == n)
      where
        never : (b : Bool) → ((b && false) || false) ≡ false
        never true = refl
        never false = refl
earlier_place (r ∷ rows) (suc i) (suc j) n m apart p q =
    let other : (r.id == n) ≡ false = ne_eqb r.id n (λ e. apart_from rows r i n apart.0 p e) in
    (λ k. (other k && has_row rows m) || is_earlier rows n m) ∙ (earlier_place rows i j n m apart.1 p q ∙ both_less i j)

-- ---- the row of a number

pub row_at : (rows : List Row) (p n : ℕ) (d : Row) → AreDistinct rows → number_at rows p ≡ Some n → row_of rows n ≡ Some (get_or rows p d)
unfolding IsDistinct
row_at [] p n d apart is = absurd (cc)
row_at (r ∷ rows) zero n d apart is = let same : (r.id == n) ≡ true = grind (arith, nat_tests, are is) in λ i. cond (same i) (Some r) (row_of rows n)
  where
    are : Some r.id ≡ Some n → r.id ≡ n
    are e = cc
row_at (r ∷ rows) (suc p) n d apart is =
    let other : (r.id == n) ≡ false = ne_eqb r.id n (λ e. apart_from rows r p n apart.0 is e) in
    (λ i. cond (other i) (Some r) (row_of rows n)) ∙ row_at rows p n d apart.1 is

pub row_none : (rows : List Row) (n : ℕ) → has_row rows n ≡ false → row_of rows n ≡ None
row_none [] n none = refl
row_none (r ∷ rows) n none =
    let q = or_false (r.id == n) (has_row rows n) none in
    (λ i. cond (q.0 i) (Some r) (row_of rows n)) ∙ row_none rows n q.1

-- ---- homes in nested rows

-- The row that has the home of the row at a place stands before it.
pub home_before : (rows : List Row) (j p : ℕ) (h : Home) (d : Row) → AreDistinct rows → AreNested rows → j < length rows → (get_or rows j d).home ≡ Some h → number_at rows p ≡ Some h.row → p < j
home_before rows j p h d apart nested fits is at =
    let home : IsEarlierRegion rows (get_or rows j d).id h = subst (λ (o : Option Home). IfSome o (IsEarlierRegion rows (get_or rows j d).id)) is (nested.homes j d fits) in
    grind (arith, nat_tests, home.0, earlier_place rows p j h.row (get_or rows j d).id apart at (at_place rows j d fits))

-- That row is there.
pub home_there : (rows : List Row) (j : ℕ) (h : Home) (d : Row) → AreNested rows → j < length rows → (get_or rows j d).home ≡ Some h → has_row rows h.row ≡ false → ⊥
home_there rows j h d nested fits is none =
    let home : IsEarlierRegion rows (get_or rows j d).id h = subst (λ (o : Option Home). IfSome o (IsEarlierRegion rows (get_or rows j d).id)) is (nested.homes j d fits) in
    cc (home.0, not_earlier rows h.row (get_or rows j d).id none)

-- ---- what is in sight

pub sees_result : (rows : List Row) (at p d k : ℕ) (e : Row) → AreDistinct rows → at < length rows → number_at rows p ≡ Some d → sees_at rows at (vals.Res d k) ≡ has_result_in_sight rows at p d k (get_or rows p e)
unfolding sees_at is_visible
sees_result rows at p d k e apart fits here =
    let row = row_at rows p d e apart here in
    let u = (get_or rows at e).id in
    let around = enclosed_at rows at e apart fits in
    ap (λ (o : Option Row). option_map_or (λ (r : Row). is_visible rows (vals.Res d k) r.id) o false) (slice_get-get_or rows at e fits)
    ∙ (λ i. option_map_or (λ (r : Row). nat_lt k (length r.results)) (row i) false
    && (earlier_place rows p at d u apart here (at_place rows at e fits) i
    && (option_map_or (λ h. list_any (home_eq h) (around i)) (option_and_then (λ (r : Row). r.home) (row i)) false && not (list_any (λ h. h.row == d) (around i)))))

pub sees_argument : (rows : List Row) (at p d g k : ℕ) (e : Row) → AreDistinct rows → at < length rows → number_at rows p ≡ Some d → sees_at rows at (vals.Arg d g k) ≡ has_argument_in_sight rows at d g k (get_or rows p e)
unfolding sees_at is_visible
sees_argument rows at p d g k e apart fits here =
    let row = row_at rows p d e apart here in
    let around = enclosed_at rows at e apart fits in
    ap (λ (o : Option Row). option_map_or (λ (r : Row). is_visible rows (vals.Arg d g k) r.id) o false) (slice_get-get_or rows at e fits)
    ∙ (λ i. option_map_or (has_argument g k) (row i) false && list_any (home_eq (record { row = d; region = g })) (around i))

pub sees_no_result : (rows : List Row) (at d k : ℕ) → has_row rows d ≡ false → sees_at rows at (vals.Res d k) ≡ false
unfolding sees_at is_visible
sees_no_result rows at d k none = by_row (slice_get rows at)
  where
    by_row : (o : Option Row) → option_map_or (λ (r : Row). is_visible rows (vals.Res d k) r.id) o false ≡ false
    by_row None = refl
    by_row (Some r) = λ i. option_map_or (λ (s : Row). nat_lt k (length s.results)) (row_none rows d none i) false && is_in_scope rows (vals.Res d k) r.id

pub sees_no_argument : (rows : List Row) (at d g k : ℕ) → has_row rows d ≡ false → sees_at rows at (vals.Arg d g k) ≡ false
unfolding sees_at is_visible
sees_no_argument rows at d g k none = by_row (slice_get rows at)
  where
    by_row : (o : Option Row) → option_map_or (λ (r : Row). is_visible rows (vals.Arg d g k) r.id) o false ≡ false
    by_row None = refl
    by_row (Some r) = λ i. option_map_or (has_argument g k) (row_none rows d none i) false && is_in_scope rows (vals.Arg d g k) r.id

at_first : (a b c d : Bool) → a ≡ false → (a && (b && (c && d))) ≡ false
at_first a b c d h = λ i. h i && (b && (c && d))

at_second : (a b c d : Bool) → b ≡ false → (a && (b && (c && d))) ≡ false
at_second true b c d h = λ i. h i && (c && d)
at_second false b c d h = refl

at_third : (a b c d : Bool) → c ≡ false → (a && (b && (c && d))) ≡ false
at_third true true c d h = λ i. h i && d
at_third true false c d h = refl
at_third false b c d h = refl

at_last : (a b c d : Bool) → a ≡ true → b ≡ true → c ≡ true → (a && (b && (c && d))) ≡ d
at_last a b c d p q r = λ i. p i && (q i && (r i && d))

not_less : (a b : ℕ) → b ≤ a → nat_lt a b ≡ false
not_less a b h = grind (arith, nat_tests)

is_less : (a b : ℕ) → a < b → nat_lt a b ≡ true
is_less a b h = grind (arith, nat_tests)

module _ (rows : List Row) (at p d k : ℕ) (e : Row) (apart : AreDistinct rows) (fits : at < length rows) (here : number_at rows p ≡ Some d) where
  abbrev has : Bool
  has = nat_lt k (length (get_or rows p e).results)

  abbrev pub encloses : Bool
  encloses = option_map_or (λ h. list_any (home_eq h) (around_place rows at)) (get_or rows p e).home false

  abbrev pub is_apart : Bool
  is_apart = not (list_any (λ h. h.row == d) (around_place rows at))

  pub no_such_result : length (get_or rows p e).results ≤ k → false ≡ sees_at rows at (vals.Res d k)
  no_such_result h = sym (sees_result rows at p d k e apart fits here ∙ at_first has (nat_lt p at) encloses is_apart (not_less k (length (get_or rows p e).results) h))

  pub later_result : at ≤ p → false ≡ sees_at rows at (vals.Res d k)
  later_result h = sym (sees_result rows at p d k e apart fits here ∙ at_second has (nat_lt p at) encloses is_apart (not_less p at h))

  pub outside_result : false ≡ encloses → false ≡ sees_at rows at (vals.Res d k)
  outside_result h = sym (sees_result rows at p d k e apart fits here ∙ at_third has (nat_lt p at) encloses is_apart (sym h))

  pub seen_result : k < length (get_or rows p e).results → p < at → true ≡ encloses → is_apart ≡ sees_at rows at (vals.Res d k)
  seen_result l b h = sym (sees_result rows at p d k e apart fits here ∙ at_last has (nat_lt p at) encloses is_apart (is_less k (length (get_or rows p e).results) l) (is_less p at b) (sym h))
