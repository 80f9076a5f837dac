-- What is known of the numbers of the rows so far, whether they go.
use Rattle.std.proofs.Common.{◌≡◌, ℕ, ◌+◌, ◌<◌, Bool, true, false, ◌||◌, cond, List, [], ◌∷◌, length, get_or, take, reverse, Option, Some, None, refl, sym, ap, ◌∙◌, arith}
use Rattle.std.specs.Prelude.{◌==◌, nat_eq, unwrap_or, not, filter}
use Rattle.std.specs.Option.{option_map_or}
use Rattle.std.specs.List.{list_any}
use Rattle.std.proofs.Math.Bool.{or-false}
use Rattle.std.proofs.lemmas.Bool.{or_parts}
use Rattle.std.proofs.lemmas.List.Sorted.{list_any-IsPermutation, IsPermutation-reverse}
use Rattle.indexmap.specs.IndexMap.{IndexMap, get}
use Rattle.mlir_tree.specs.declared.row.Home.{Home}
use Rattle.mlir_tree.specs.declared.row.Row.{Row}
use Rattle.mlir_tree.specs.declared.rows.Rows.{Rows}
use Rattle.mlir_tree.specs.Module.{homes_around, enclosing, is_contained}
use Rattle.mlir_tree.specs.Edits.{removed}
use Rattle.rewrite_step.specs.Removing.{is_inner, has_inner_home, stays, stands_in, has_inner}
use Rattle.rewrite_step.proofs.Inside.{inside, last, one_back}

abbrev with_rows : Rows → List Row → Rows
with_rows m rows = record { rows = rows; next = m.next }

at_home : {S : Type 0} (old : IndexMap ℕ Bool S) (rows : List Row) (owner at : ℕ) → ((u : ℕ) → is_inner old u ≡ inside rows at u owner) → (home : Option Home)
    → has_inner_home old home owner ≡ list_any (λ h. h.row == owner) (option_map_or (λ h. h ∷ homes_around (reverse (take at rows)) h.row) home [])
at_home old rows owner at known None = refl
at_home old rows owner at known (Some h) = ap (λ b. (h.row == owner) || b) (known h.row)

-- one more row
pub one_more : {S : Type 0} (old new : IndexMap ℕ Bool S) (rows : List Row) (owner at : ℕ) (r : Row) (b : Bool) → at < length rows → r ≡ get_or rows at r
    → ((u : ℕ) → is_inner old u ≡ inside rows at u owner) → b ≡ has_inner_home old r.home owner
    → ((q : ℕ) → get nat_eq new q ≡ cond (nat_eq r.id q) (Some b) (get nat_eq old q)) → (u : ℕ) → is_inner new u ≡ inside rows (at + 1) u owner
one_more old new rows owner at r b h is known goes put u =
    ap (λ o. unwrap_or o false) (put u) ∙ (by (r.id == u)
    ∙ (ap (λ (s : Row). last rows at u owner s (s.id == u)) is ∙ sym (one_back rows (at + 1) at u owner r (omega arith) h)))
  where
    by : (x : Bool) → unwrap_or (cond x (Some b) (get nat_eq old u)) false ≡ last rows at u owner r x
    by true = goes ∙ at_home old rows owner at known r.home
    by false = known u

pub stay_exactly : {S : Type 0} (inner : IndexMap ℕ Bool S) (m : Rows) (owner : ℕ) (rows : List Row) → ((u : ℕ) → is_inner inner u ≡ is_contained m.rows u owner)
    → rows ≡ filter (λ r. stays inner owner r.id) m.rows → with_rows m rows ≡ removed owner m
unfolding removed
stay_exactly inner m owner rows known are = ap (with_rows m) are ∙ (λ i. with_rows m (filter (λ (r : Row). not ((r.id == owner) || known r.id i)) m.rows))

-- ---- where no row stands inside it

one_home : (rows : List Row) (u d : ℕ) → ((w : ℕ) → list_any (λ h. h.row == d) (homes_around rows w) ≡ false) → (is : Bool) (home : Option Home) → stands_in d home ≡ false
    → list_any (λ h. h.row == d) (cond is (option_map_or (λ h. h ∷ homes_around rows h.row) home []) (homes_around rows u)) ≡ false
one_home rows u d others false home out = others u
one_home rows u d others true None out = refl
one_home rows u d others true (Some h) out = ap (λ b. b || list_any (λ k. k.row == d) (homes_around rows h.row)) out ∙ others h.row

no_home : (rows : List Row) (u d : ℕ) → has_inner d rows ≡ false → list_any (λ h. h.row == d) (homes_around rows u) ≡ false
no_home [] u d none = refl
no_home (r ∷ rows) u d none =
    let parts = or_parts (stands_in d r.home) (has_inner d rows) none in
    one_home rows u d (λ w. no_home rows w d parts.1) (r.id == u) r.home parts.0

none_contained : (rows : List Row) (u d : ℕ) → has_inner d rows ≡ false → is_contained rows u d ≡ false
unfolding enclosing
none_contained rows u d none =
    no_home (reverse rows) u d (sym (list_any-IsPermutation (λ (r : Row). stands_in d r.home) rows (reverse rows) (IsPermutation-reverse rows)) ∙ none)

pub it_alone_goes : (m : Rows) (owner : ℕ) (rows : List Row) → has_inner owner m.rows ≡ false → rows ≡ filter (λ r. not (r.id == owner)) m.rows → with_rows m rows ≡ removed owner m
unfolding removed
it_alone_goes m owner rows none are =
    let same : (u : ℕ) → ((u == owner) || is_contained m.rows u owner) ≡ (u == owner) = λ u. ap (λ b. (u == owner) || b) (none_contained m.rows u owner none) ∙ or-false (u == owner) in
    ap (with_rows m) are ∙ sym (λ i. with_rows m (filter (λ (r : Row). not (same r.id i)) m.rows))
