-- The rows by their places.
use Rattle.std.proofs.Common.{◌≡◌, ◌≢◌, ◌<◌, ◌≤◌, ℕ, zero, suc, ◌+◌, Bool, true, false, ◌||◌, cond, List, [], ◌∷◌, length, take, drop, Option, Some, None, refl, sym, ap, subst, ◌∙◌, arith}
use Rattle.std.specs.Prelude.{slice_get, get_or, option_and_then, ◌==◌, All, IfSome}
use Rattle.std.proofs.Math.ListN.{set, replicate}
use Rattle.std.proofs.Math.Seq.{drop-cons}
use Rattle.std.proofs.lemmas.List.{drop_all}
use Rattle.std.proofs.lemmas.List.Elements.{All-more}
use Rattle.std.proofs.lemmas.Bool.Decides.{nat_tests}
use Rattle.mlir_tree.specs.declared.row.Row.{Row}
use Rattle.mlir_tree.specs.Module.{row_of, has_row}
use Rattle.row_index.specs.declared.index.RowIndex.{RowIndex}
use Rattle.row_index.specs.Indexing.{place_of, place_from, slot_of, Indexes}
use Rattle.row_index.specs.Walking.{number_at}

abbrev some_or : {X : Type 0} → X → Option X → X
some_or d None = d
some_or d (Some x) = x

there : (rows : List Row) (id n k : ℕ) → place_from n rows id ≡ Some k → (j : ℕ) × (k ≡ n + j) × (slice_get rows j ≡ row_of rows id)
there [] id n k e = absurd (cc)
there (r ∷ rows) id n k e = by (r.id == id) e (there rows id (n + 1) k) where
  by : (b : Bool) → cond b (Some n) (place_from (n + 1) rows id) ≡ Some k
      → (place_from (n + 1) rows id ≡ Some k → (j : ℕ) × (k ≡ (n + 1) + j) × (slice_get rows j ≡ row_of rows id))
      → (j : ℕ) × (k ≡ n + j) × (slice_get (r ∷ rows) j ≡ cond b (Some r) (row_of rows id))
  by true e go = let s : n ≡ k = ap (some_or 0) e in (0, omega (arith, s), refl)
  by false e go = let h = go e in let s : k ≡ (n + 1) + h.0 = h.1 in (suc h.0, omega (arith, s), h.2)

nowhere : (rows : List Row) (id n : ℕ) → place_from n rows id ≡ None → row_of rows id ≡ None
nowhere [] id n e = refl
nowhere (r ∷ rows) id n e = by (r.id == id) e (nowhere rows id (n + 1)) where
  by : (b : Bool) → cond b (Some n) (place_from (n + 1) rows id) ≡ None → (place_from (n + 1) rows id ≡ None → row_of rows id ≡ None) → cond b (Some r) (row_of rows id) ≡ None
  by true e go = absurd (cc)
  by false e go = go e

pub row_by_place : (index : RowIndex) (rows : List Row) (id : ℕ) → Indexes index rows → option_and_then (slice_get rows) (place_of index id) ≡ row_of rows id
row_by_place index rows id i = ap (option_and_then (slice_get rows)) (i id) ∙ by (place_from 0 rows id) refl where
  by : (o : Option ℕ) → place_from 0 rows id ≡ o → option_and_then (slice_get rows) o ≡ row_of rows id
  by None e = sym (nowhere rows id 0 e)
  by (Some k) e =
      let h = there rows id 0 k e in
      let n : k ≡ 0 + h.0 = h.1 in
      let s : k ≡ h.0 = omega (arith, n) in
      ap (slice_get rows) s ∙ h.2

-- ---- what an index finds

number_there : (rows : List Row) (id n k : ℕ) → place_from n rows id ≡ Some k → (j : ℕ) × (k ≡ n + j) × (number_at rows j ≡ Some id) × (j < length rows)
number_there [] id n k e = absurd (cc)
number_there (r ∷ rows) id n k e = by (r.id == id) refl e (number_there rows id (n + 1)) where
  by : (b : Bool) → (r.id == id) ≡ b → cond b (Some n) (place_from (n + 1) rows id) ≡ Some k
      → ((k : ℕ) → place_from (n + 1) rows id ≡ Some k → (j : ℕ) × (k ≡ (n + 1) + j) × (number_at rows j ≡ Some id) × (j < length rows))
      → (j : ℕ) × (k ≡ n + j) × (number_at (r ∷ rows) j ≡ Some id) × (j < suc (length rows))
  by true t e go = let s : n ≡ k = ap (some_or 0) e in let same : r.id ≡ id = grind (arith, nat_tests) in (0, omega (arith, s), ap Some same, omega arith)
  by false t e go = let h = go k e in let s : k ≡ (n + 1) + h.0 = h.1 in (suc h.0, omega (arith, s), h.2, omega (arith, h.3))

no_number : (rows : List Row) (id n : ℕ) → place_from n rows id ≡ None → has_row rows id ≡ false
no_number [] id n e = refl
no_number (r ∷ rows) id n e = by (r.id == id) e (no_number rows id (n + 1)) where
  by : (b : Bool) → cond b (Some n) (place_from (n + 1) rows id) ≡ None → (place_from (n + 1) rows id ≡ None → has_row rows id ≡ false) → (b || has_row rows id) ≡ false
  by true e go = absurd (cc)
  by false e go = go e

from_start : (rows : List Row) (k j : ℕ) (P : ℕ → Type 0) → k ≡ 0 + j → P j → P k
from_start rows k j P e p = subst P (omega (arith, e)) p

pub place_has : (index : RowIndex) (rows : List Row) (id : ℕ) → Indexes index rows → IfSome (place_of index id) (λ p. number_at rows p ≡ Some id)
place_has index rows id i = by (place_of index id) (i id) where
  by : (o : Option ℕ) → o ≡ place_from 0 rows id → IfSome o (λ p. number_at rows p ≡ Some id)
  by None e = tt
  by (Some k) e = let h = number_there rows id 0 k (sym e) in from_start rows k h.0 (λ p. number_at rows p ≡ Some id) h.1 h.2

pub place_within : (index : RowIndex) (rows : List Row) (id : ℕ) → Indexes index rows → IfSome (place_of index id) (λ p. p < length rows)
place_within index rows id i = by (place_of index id) (i id) where
  by : (o : Option ℕ) → o ≡ place_from 0 rows id → IfSome o (λ p. p < length rows)
  by None e = tt
  by (Some k) e = let h = number_there rows id 0 k (sym e) in from_start rows k h.0 (λ p. p < length rows) h.1 h.3

pub no_place : (index : RowIndex) (rows : List Row) (id : ℕ) → Indexes index rows → place_of index id ≡ None → has_row rows id ≡ false
no_place index rows id i e = no_number rows id 0 (sym (i id) ∙ e)

-- ---- numbers below a length

pub below_more : (rows : List Row) (i len more : ℕ) (d : Row) → i < length rows → len ≤ more → (get_or rows i d).id < more → All (λ r. r.id < len) (take i rows) → All (λ r. r.id < more) (take (i + 1) rows)
below_more rows i len more d within grown here so =
    All-more (λ r. r.id < more) rows i d within (λ k x q. let below = so k x q in omega (arith, below, grown)) here

-- ---- a list of places

no_slot : (len id : ℕ) → slot_of (replicate len 0) id ≡ None
no_slot zero id = refl
no_slot (suc len) zero = refl
no_slot (suc len) (suc id) = no_slot len id

pub slots_none : (rows : List Row) (len at id : ℕ) → length rows ≤ at → slot_of (replicate len 0) id ≡ place_from at (drop at rows) id
slots_none rows len at id all = no_slot len id ∙ sym (ap (λ l. place_from at l id) (drop_all at rows all))

slot_here : (slots : List ℕ) (i p : ℕ) → i < length slots → slot_of (set slots i (suc p)) i ≡ Some p
slot_here [] i p few = absurd (omega (arith, few))
slot_here (s ∷ slots) zero p few = refl
slot_here (s ∷ slots) (suc i) p few = slot_here slots i p (omega (arith, few))

slot_other : (slots : List ℕ) (i p id : ℕ) → i ≢ id → slot_of (set slots i p) id ≡ slot_of slots id
slot_other [] i p id other = refl
slot_other (s ∷ slots) zero p zero other = absurd (other refl)
slot_other (s ∷ slots) zero p (suc id) other = refl
slot_other (s ∷ slots) (suc i) p zero other = refl
slot_other (s ∷ slots) (suc i) p (suc id) other = slot_other slots i p id (λ e. other (ap suc e))

slot_set : (slots : List ℕ) (i p id : ℕ) → i < length slots → slot_of (set slots i (suc p)) id ≡ cond (i == id) (Some p) (slot_of slots id)
slot_set slots i p id few = by (i == id) refl where
  by : (b : Bool) → (i == id) ≡ b → slot_of (set slots i (suc p)) id ≡ cond b (Some p) (slot_of slots id)
  by true t = let same : i ≡ id = grind (arith, nat_tests) in ap (λ n. slot_of (set slots i (suc p)) n) (sym same) ∙ slot_here slots i p few
  by false t = slot_other slots i (suc p) id (λ e. let not : (i == id) ≡ true = grind (arith, nat_tests, e) in absurd (cc))

pub slots_more : (rows : List Row) (slots : List ℕ) (at before : ℕ) (d : Row) → before + 1 ≡ at → before < length rows → (get_or rows before d).id < length slots
    → ((id : ℕ) → slot_of slots id ≡ place_from at (drop at rows) id) → (id : ℕ) → slot_of (set slots (get_or rows before d).id at) id ≡ place_from before (drop before rows) id
slots_more rows slots at before d next within few known id =
    ap (λ n. slot_of (set slots (get_or rows before d).id n) id) (let e : at ≡ suc before = omega (arith, next) in e)
    ∙ (slot_set slots (get_or rows before d).id before id few
    ∙ (ap (λ o. cond ((get_or rows before d).id == id) (Some before) o) (known id ∙ ap (λ n. place_from n (drop n rows) id) (sym next))
    ∙ sym (ap (λ l. place_from before l id) (drop-cons rows before d within) ∙ one_more)))
  where
    one_more : place_from before (get_or rows before d ∷ drop (suc before) rows) id ≡ cond ((get_or rows before d).id == id) (Some before) (place_from (before + 1) (drop (before + 1) rows) id)
    one_more = let e : suc before ≡ before + 1 = omega arith in ap (λ n. cond ((get_or rows before d).id == id) (Some before) (place_from (before + 1) (drop n rows) id)) e
