-- What the actions of a rewrite leave is laid out.
use Rattle.std.proofs.Common.{◌≡◌, ◌≢◌, ℕ, zero, suc, ◌+◌, ◌<◌, ◌≤◌, max, Bool, true, false, not, ◌||◌, cond, List, [], ◌∷◌, ◌++◌, length, take, drop, get_or, Option, Some, None, refl, sym, ap, subst, ◌∙◌, arith}
use Rattle.std.specs.Prelude.{◌==◌, All, Contains, IsSome, nat_lt, unwrap_or}
use Rattle.std.specs.List.{AllByRecursion, prefix_len}
use Rattle.std.specs.Ordering.{match_ordering, ordering_reverse}
use Rattle.std.specs.declared.cmp.Ordering.{Ordering}
use Rattle.std.specs.declared.cmp.Ordering.TheVariants.{Less, Equal, Greater}
use Rattle.std.proofs.lemmas.Bool.Decides.{nat_tests}
use Rattle.std.proofs.lemmas.Cmp.{nat_list_cmp_total}
use Rattle.std.proofs.lemmas.List.{take-append-drop, length-take-le}
use Rattle.mlir_tree.specs.Laws.{is_parent}
use Rattle.std.proofs.lemmas.List.Elements.{All-from_recursion, recursion_from_All}
use Rattle.mlir_tree.specs.declared.row.Home.{Home}
use Rattle.mlir_tree.specs.declared.row.Row.{Row}
use Rattle.mlir_tree.specs.declared.rows.Rows.{Rows}
use Rattle.mlir_tree.specs.Tree.{Attr}
use Rattle.mlir_tree.specs.Order.{text_cmp}
use Rattle.mlir_tree.specs.Range.{AreRising}
use Rattle.mlir_tree.specs.Module.{row_of, has_row}
use Rattle.mlir_tree.specs.WellFormed.{AreDistinct, BeginsWithModule, AreNested, names, HasDictionaries, HasSizes}
use Rattle.mlir_tree.specs.Edits.{place_before, put_before, inserted}
use Rattle.mlir_tree.proofs.Nesting.{homes_are_rows}
use Rattle.mlir_attributes.specs.Dictionary.{put_entry}
use Rattle.row_index.specs.Walking.{number_at}
use Rattle.row_index.proofs.Searching.{within}
use Rattle.row_index.proofs.Walks.{row_at}
use Rattle.rewrite_model.specs.Making.{sorted}
use Rattle.rewrite_model.specs.Laws.{IsLaidOut}
use Rattle.rewrite_model.proofs.Told.{some_or}
use Rattle.rewrite_model.proofs.LayoutInserted.{with_one, distinct_inserted, nested_inserted}

-- ---- dictionaries of new rows

-- a name below the front of a list, and below what is put in, is below the front afterwards
put_above : (m n : List ℕ) (v : Attr) (es : List (List ℕ × Attr)) → AreRising (m ∷ names es) → text_cmp m n ≡ Less → AreRising (m ∷ names (put_entry n v es))
put_above m n v [] r l = (l, tt)
put_above m n v (d ∷ ds) r l = by (text_cmp n d.0) refl (put_above d.0 n v ds r.1) where
  by : (o : Ordering) → text_cmp n d.0 ≡ o → (text_cmp d.0 n ≡ Less → AreRising (d.0 ∷ names (put_entry n v ds))) → AreRising (m ∷ names (match_ordering o ((n, v) ∷ d ∷ ds) ((d.0, v) ∷ ds) (d ∷ put_entry n v ds)))
  by Less e go = (l, (e, r.1))
  by Equal e go = r
  by Greater e go = (r.0, go (nat_list_cmp_total.antisymm d.0 n ∙ ap ordering_reverse e))

put_rising : (n : List ℕ) (v : Attr) (es : List (List ℕ × Attr)) → AreRising (names es) → AreRising (names (put_entry n v es))
put_rising n v [] r = tt
put_rising n v (d ∷ ds) r = by (text_cmp n d.0) refl where
  by : (o : Ordering) → text_cmp n d.0 ≡ o → AreRising (names (match_ordering o ((n, v) ∷ d ∷ ds) ((d.0, v) ∷ ds) (d ∷ put_entry n v ds)))
  by Less e = (e, r)
  by Equal e = r
  by Greater e = put_above d.0 n v ds r (nat_list_cmp_total.antisymm d.0 n ∙ ap ordering_reverse e)

sorted_rising : (es : List (List ℕ × Attr)) → AreRising (names (sorted es))
sorted_rising [] = tt
sorted_rising (e ∷ es) = put_rising e.0 e.1 (sorted es) (sorted_rising es)

no_names : (name : List ℕ) → Contains {X = List ℕ} [] name → ⊥
no_names name c = let l = c.1 in omega (arith, l)

pub new_dictionaries : (r : Row) (es : List (List ℕ × Attr)) → r.props ≡ [] → r.attrs ≡ sorted es → HasDictionaries r
new_dictionaries r es p a = record {
  properties = subst (λ d. AreRising (names d)) (sym p) tt;
  attributes = subst (λ d. AreRising (names d)) (sym a) (sorted_rising es);
  apart = λ name c d. no_names name (subst (λ d. Contains (names d) name) p c);
}

-- ---- the place before a row

first_place : (rows : List Row) (u : ℕ) → has_row rows u ≡ true → number_at rows (prefix_len (λ r. not (r.id == u)) rows) ≡ Some u
first_place [] u h = absurd (cc)
first_place (r ∷ rows) u h = by (r.id == u) refl h (first_place rows u) where
  by : (b : Bool) → (r.id == u) ≡ b → (b || has_row rows u) ≡ true → (has_row rows u ≡ true → number_at rows (prefix_len (λ r. not (r.id == u)) rows) ≡ Some u)
      → number_at (r ∷ rows) (cond (not b) (1 + prefix_len (λ r. not (r.id == u)) rows) 0) ≡ Some u
  by true e h go = ap Some (same e) where
    same : (r.id == u) ≡ true → r.id ≡ u
    same e = grind (arith, nat_tests, e)
  by false e h go = ap (number_at (r ∷ rows)) one ∙ go h where
    one : 1 + prefix_len (λ (r : Row). not (r.id == u)) rows ≡ suc (prefix_len (λ (r : Row). not (r.id == u)) rows)
    one = omega arith

place_is : (rows : List Row) (u : ℕ) → has_row rows u ≡ true → (i : ℕ) × (place_before (Some u) rows ≡ i) × (number_at rows i ≡ Some u) × (i < length rows)
place_is rows u h =
    let i = prefix_len (λ (r : Row). not (r.id == u)) rows in
    let at = first_place rows u h in
    let fits = within rows i u at in
    (i, ap (λ b. unwrap_or (cond b (Some i) None) (length rows)) (less i (length rows) fits), at, fits) where
      less : (a b : ℕ) → a < b → nat_lt a b ≡ true
      less a b l = grind (arith, nat_tests, l)

-- the module stands first, and a row with a home is put behind it
begins_with : (x : Row) → IsSome x.home → (ys zs : List Row) → 0 < length ys → BeginsWithModule (ys ++ zs) → BeginsWithModule (ys ++ x ∷ zs)
begins_with x is [] zs l h = absurd (omega (arith, l))
begins_with x is (y ∷ ys) zs l h = (
  h.0,
  All-from_recursion (λ s. IsSome s.home) (ys ++ x ∷ zs) (with_one (λ s. IsSome s.home) (λ s. IsSome s.home) (λ s z. z) x is ys zs (recursion_from_All (λ s. IsSome s.home) (ys ++ zs) h.1)),
)

-- a row that isn't the module has a home, and stands behind the module
home_of_other : (rows : List Row) (i u : ℕ) (d : Row) → BeginsWithModule rows → number_at rows i ≡ Some u → u ≢ 0 → (0 < i) × IsSome (get_or rows i d).home
home_of_other [] i u d b at top = absurd (cc)
home_of_other (r ∷ rows) zero u d b at top = absurd (top (same (sym at) ∙ b.0.number)) where
  same : {a c : ℕ} → Some a ≡ Some c → a ≡ c
  same e = cc
home_of_other (r ∷ rows) (suc i) u d b at top = (omega arith, b.1 i d (within rows i u at))

some_home : (o : Option Home) → IsSome o → (h : Home) × (o ≡ Some h)
some_home None i = absurd (cc)
some_home (Some h) i = (h, refl)

is_some_home : (o : Option Home) (h : Home) → o ≡ Some h → IsSome o
is_some_home None h e = absurd (cc)
is_some_home (Some k) h e = refl

-- ---- a new row

module _ (m : Rows) (l : IsLaidOut m) (x : Row) (root : ℕ) (r : Row) (found : row_of m.rows root ≡ Some r) (not_top : root ≢ 0)
    (number : x.id ≡ m.next) (home : x.home ≡ r.home) (dictionaries : HasDictionaries x) (sizes : HasSizes x) where
  below : (rows : List Row) (u : ℕ) → AllByRecursion (λ s. s.id < m.next) rows → m.next ≤ u → has_row rows u ≡ false
  below [] u h le = refl
  below (s ∷ rows) u h le = let a = h.0 in let n : (s.id == u) ≡ false = grind (arith, nat_tests, a, le) in (λ i. n i || has_row rows u) ∙ below rows u h.1 le

  new : has_row m.rows x.id ≡ false
  new = below m.rows x.id (recursion_from_All (λ s. s.id < m.next) m.rows l.numbers.below_next) (omega (arith, number))

  there : (rows : List Row) → row_of rows root ≡ Some r → has_row rows root ≡ true
  there [] e = absurd (cc)
  there (s ∷ rows) e = by (s.id == root) e (there rows) where
    by : (b : Bool) → cond b (Some s) (row_of rows root) ≡ Some r → (row_of rows root ≡ Some r → has_row rows root ≡ true) → (b || has_row rows root) ≡ true
    by true e go = refl
    by false e go = go e

  place : (i : ℕ) × (place_before (Some root) m.rows ≡ i) × (number_at m.rows i ≡ Some root) × (i < length m.rows)
  place = place_is m.rows root (there m.rows found)

  abbrev ys : List Row
  ys = take place.0 m.rows

  abbrev zs : List Row
  zs = drop place.0 m.rows

  parted : ys ++ zs ≡ m.rows
  parted = take-append-drop place.0 m.rows

  -- the root is the row at its place
  root_row : (d : Row) → get_or m.rows place.0 d ≡ r
  root_row d = by m.rows place.0 l.numbers.differ place.2 found where
    same_row : {a b : Row} → Some a ≡ Some b → a ≡ b
    same_row e = ap (some_or r) e

    by : (rows : List Row) (i : ℕ) → AreDistinct rows → number_at rows i ≡ Some root → row_of rows root ≡ Some r → get_or rows i d ≡ r
    by rows i apart at f = same_row (sym (row_at rows i root d apart at) ∙ f)

  length_ys : length ys ≡ place.0
  length_ys = length-take-le place.0 m.rows (let f = place.3 in omega (arith, f))

  its : (0 < place.0) × IsSome (get_or m.rows place.0 x).home
  its = home_of_other m.rows place.0 root x l.numbers.begins place.2 not_top

  root_home : (h : Home) × ((get_or m.rows place.0 x).home ≡ Some h)
  root_home = some_home (get_or m.rows place.0 x).home its.1

  its_home : x.home ≡ Some root_home.0
  its_home = home ∙ (ap (λ s. s.home) (sym (root_row x)) ∙ root_home.1)

  abbrev more : List Row
  more = ys ++ x ∷ zs

  apart : AreDistinct (ys ++ zs)
  apart = subst AreDistinct (sym parted) l.numbers.differ

  new' : has_row (ys ++ zs) x.id ≡ false
  new' = ap (λ rs. has_row rs x.id) parted ∙ new

  nested : AreNested more
  nested =
      nested_inserted ys zs x root root_home.0 apart (subst AreNested (sym parted) l.nesting) new'
      (ap (λ rs. is_parent rs x.id) parted ∙ (homes_are_rows m.rows x.id l.nesting new).no_home)
      ((λ i. number_at (parted i) (length_ys i)) ∙ place.2) its_home
      ((λ i. (get_or (parted i) (length_ys i) x).home) ∙ root_home.1)

  of_all : (P Q : Row → Type 0) → ((s : Row) → P s → Q s) → Q x → All P m.rows → All Q more
  of_all P Q f q h = All-from_recursion Q more (with_one P Q f x q ys zs (subst (AllByRecursion P) (sym parted) (recursion_from_All P m.rows h)))

  laid : IsLaidOut (record { rows = more; next = max m.next (x.id + 1) })
  laid = record {
    numbers = record {
      differ = distinct_inserted x ys zs new' apart;
      below_next = of_all (λ s. s.id < m.next) (λ s. s.id < max m.next (x.id + 1)) (λ s a. omega (arith, a)) (omega arith) l.numbers.below_next;
      begins = begins_with x (is_some_home x.home root_home.0 its_home) ys zs (let a = its.0 in let b = length_ys in omega (arith, a, b)) (subst BeginsWithModule (sym parted) l.numbers.begins);
    };
    nesting = nested;
    dictionaries = of_all HasDictionaries HasDictionaries (λ s d. d) dictionaries l.dictionaries;
    sizes = of_all HasSizes HasSizes (λ s d. d) sizes l.sizes;
  }

  pub inserted_layout : IsLaidOut (inserted x (Some root) m)
  unfolding inserted put_before
  inserted_layout = subst (λ i. IsLaidOut (record { rows = take i m.rows ++ x ∷ drop i m.rows; next = max m.next (x.id + 1) })) (sym place.1) laid
