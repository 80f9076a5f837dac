-- A map has the entries that were put into it, in the order of their names.
use Rattle.std.proofs.Common.{◌≡◌, ℕ, false, cond, List, [], ◌∷◌, refl, ap, sym, subst, inl, inr}
use Rattle.std.specs.Prelude.{◌⊎◌, Some}
use Rattle.std.specs.Option.{is_some}
use Rattle.std.specs.Ordering.{is_eq, match_ordering}
use Rattle.std.specs.declared.cmp.Ordering.{Ordering}
use Rattle.std.specs.declared.cmp.Ordering.TheVariants.{Less, Equal, Greater}
use Rattle.std.specs.Map.{lookup}
use Rattle.std.specs.BTreeMap.{is_at}
use Rattle.mlir_tree.specs.Tree.{Attr, entries}
use Rattle.mlir_tree.specs.Order.{text_cmp}
use Rattle.mlir_tree.specs.Range.{AreRising, entry_names}
use Rattle.mlir_attributes.specs.Dictionary.{has_name, put_entry}
use Rattle.mlir_attributes.specs.AttributeGrammar.{Fills, IsIn, KeepsEntries}
use Rattle.mlir_attributes.proofs.Rising.{names, rising_put}

abbrev Entry : Type 0
Entry = List ℕ × Attr

-- ---- which entries there are

abbrev IsNewOr : Entry → Entry → List Entry → List Entry → Type 0
IsNewOr e new old all = (IsIn e all → (e ≡ new) ⊎ IsIn e old) × ((e ≡ new) ⊎ IsIn e old → IsIn e all)

behind : (e new d : Entry) (old all : List Entry) → IsNewOr e new old all → IsNewOr e new (d ∷ old) (d ∷ all)
behind e new d old all h = (
  λ is. elim is [
    | inl first ↦ inr (inl first)
    | inr more ↦ elim (h.0 more) [
      | inl same ↦ inl same
      | inr among ↦ inr (inr among)
    ]
  ],
  λ is. elim is [
    | inl same ↦ inr (h.1 (inl same))
    | inr among ↦ elim among [
      | inl first ↦ inl first
      | inr more ↦ inr (h.1 (inr more))
    ]
  ],
)

members_by : (e d : Entry) (n : List ℕ) (v : Attr) (ds more : List Entry) (o : Ordering) → is_some (cond (is_eq o) (Some d.1) (lookup (is_at (text_cmp n)) ds)) ≡ false
    → (has_name n ds ≡ false → IsNewOr e (n, v) ds more) → IsNewOr e (n, v) (d ∷ ds) (match_ordering o ((n, v) ∷ d ∷ ds) ((d.0, v) ∷ ds) (d ∷ more))
members_by e d n v ds more Less new go = (λ is. is, λ is. is)
members_by e d n v ds more Equal new go = absurd (cc)
members_by e d n v ds more Greater new go = behind e (n, v) d ds more (go new)

members : (e : Entry) (n : List ℕ) (v : Attr) (ds : List Entry) → has_name n ds ≡ false → IsNewOr e (n, v) ds (put_entry n v ds)
members e n v [] new = (λ is. is, λ is. is)
members e n v (d ∷ ds) new = members_by e d n v ds (put_entry n v ds) (text_cmp n d.0) new (members e n v ds)

-- ---- their order

names_are : (es : List Entry) → names es ≡ entry_names (entries es)
names_are [] = refl
names_are (e ∷ es) = ap (λ ns. e.0 ∷ ns) (names_are es)

-- ---- all of a dictionary

fills_rising : (written found all : List Entry) → Fills found written all → AreRising (names found) → AreRising (entry_names (entries all))
fills_rising [] found all same rising = subst (λ es. AreRising (entry_names (entries es))) same (subst AreRising (names_are found) rising)
fills_rising (e ∷ es) found all (new, fills) rising = fills_rising es (put_entry e.0 e.1 found) all fills (rising_put e.0 e.1 found new rising)

from_all : (e : Entry) (written found all : List Entry) → Fills found written all → IsIn e all → IsIn e written ⊎ IsIn e found
from_all e [] found all same is = inr (rw same is)
from_all e (d ∷ ds) found all (new, fills) is =
    elim (from_all e ds (put_entry d.0 d.1 found) all fills is) [
      | inl among ↦ inl (inr among)
      | inr put ↦ elim ((members e d.0 d.1 found new).0 put) [
        | inl same ↦ inl (inl same)
        | inr old ↦ inr old
      ]
    ]

to_all : (e : Entry) (written found all : List Entry) → Fills found written all → IsIn e written ⊎ IsIn e found → IsIn e all
to_all e [] found all same (inl none) = absurd none
to_all e [] found all same (inr is) = rw (sym same) is
to_all e (d ∷ ds) found all (new, fills) (inl (inl first)) = to_all e ds (put_entry d.0 d.1 found) all fills (inr ((members e d.0 d.1 found new).1 (inl first)))
to_all e (d ∷ ds) found all (new, fills) (inl (inr more)) = to_all e ds (put_entry d.0 d.1 found) all fills (inl more)
to_all e (d ∷ ds) found all (new, fills) (inr old) = to_all e ds (put_entry d.0 d.1 found) all fills (inr ((members e d.0 d.1 found new).1 (inr old)))

pub keeps_entries : KeepsEntries
keeps_entries written all h = (fills_rising written [] all h tt, λ e. (λ is. to_all e written [] all h (inl is), λ is. only_written e (from_all e written [] all h is)))
  where
    only_written : (e : Entry) → IsIn e written ⊎ IsIn e [] → IsIn e written
    only_written e (inl is) = is
    only_written e (inr none) = absurd none
