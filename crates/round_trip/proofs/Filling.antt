-- Entries whose names rise are put into a map one behind another.
use Rattle.std.proofs.Common.{◌≡◌, ℕ, false, cond, List, [], ◌∷◌, ◌++◌, refl, ap, sym, subst, ◌∙◌, append_assoc, append-nil}
use Rattle.std.specs.Prelude.{Some, map}
use Rattle.std.specs.Option.{is_some}
use Rattle.std.specs.Ordering.{is_eq, match_ordering, ordering_reverse}
use Rattle.std.specs.declared.cmp.Ordering.TheVariants.{Less, Greater}
use Rattle.std.specs.Map.{lookup}
use Rattle.std.specs.BTreeMap.{insert_entry, is_at}
use Rattle.std.proofs.lemmas.Cmp.{nat_list_cmp_total}
use Rattle.mlir_tree.specs.Tree.{Attr, Entries, no_entries, entry_then, entries}
use Rattle.mlir_tree.specs.Order.{text_cmp}
use Rattle.mlir_tree.specs.Range.{AreRising, entry_names}
use Rattle.mlir_attributes.specs.AttributeGrammar.{Fills}

above : (n m : List ℕ) → text_cmp m n ≡ Less → text_cmp n m ≡ Greater
above n m h = nat_list_cmp_total.antisymm n m ∙ ap ordering_reverse h

module _ {V : Type 0} where
  abbrev pub names : List (List ℕ × V) → List (List ℕ)
  names es = map (λ e. e.0) es

  -- each name is below this one
  abbrev pub AreBelow : List ℕ → List (List ℕ × V) → Type 0
  AreBelow n [] = Unit {0}
  AreBelow n (d ∷ ds) = (text_cmp d.0 n ≡ Less) × AreBelow n ds

  pub is_new : (n : List ℕ) (ds : List (List ℕ × V)) → AreBelow n ds → is_some (lookup (is_at (text_cmp n)) ds) ≡ false
  is_new n [] h = refl
  is_new n (d ∷ ds) h = ap (λ o. is_some (cond (is_eq o) (Some d.1) (lookup (is_at (text_cmp n)) ds))) (above n d.0 h.0) ∙ is_new n ds h.1

  pub put_last : (n : List ℕ) (v : V) (ds : List (List ℕ × V)) → AreBelow n ds → insert_entry text_cmp ds n v ≡ ds ++ (n, v) ∷ []
  put_last n v [] h = refl
  put_last n v (d ∷ ds) h =
      ap (λ o. match_ordering o ((n, v) ∷ d ∷ ds) ((d.0, v) ∷ ds) (d ∷ insert_entry text_cmp ds n v)) (above n d.0 h.0)
      ∙ ap (λ t. d ∷ t) (put_last n v ds h.1)

  pub below_more : (n m : List ℕ) (v : V) (ds : List (List ℕ × V)) → AreBelow n ds → text_cmp n m ≡ Less → AreBelow m (ds ++ (n, v) ∷ [])
  below_more n m v [] h less = (less, tt)
  below_more n m v (d ∷ ds) h less = (nat_list_cmp_total.trans d.0 n m h.0 less, below_more n m v ds h.1 less)

-- ---- the entries of a dictionary

-- those that were put in are below those to come, whose names rise
abbrev IsReady : List (List ℕ × Attr) → List (List ℕ × Attr) → Type 0
IsReady found [] = Unit {0}
IsReady found (e ∷ es) = AreBelow e.0 found × AreRising (names (e ∷ es))

next_ready : (found : List (List ℕ × Attr)) (e : List ℕ × Attr) (es : List (List ℕ × Attr)) → IsReady found (e ∷ es) → IsReady (found ++ e ∷ []) es
next_ready found e [] h = tt
next_ready found e (d ∷ es) h = (below_more e.0 d.0 e.1 found h.0 h.1.0, h.1.1)

fills_from : (found es : List (List ℕ × Attr)) → IsReady found es → Fills found es (found ++ es)
fills_from found [] h = sym (append-nil found)
fills_from found (e ∷ es) h = (
  is_new e.0 found h.0,
  subst (λ f. Fills f es (found ++ e ∷ es)) (sym (put_last e.0 e.1 found h.0))
      (subst (Fills (found ++ e ∷ []) es) (append_assoc found (e ∷ []) es) (fills_from (found ++ e ∷ []) es (next_ready found e es h))),
)

abbrev pub pairs : Entries → List (List ℕ × Attr)
pairs no_entries = []
pairs (entry_then n x es) = (n, x) ∷ pairs es

pub pairs_are : (es : Entries) → entries (pairs es) ≡ es
pairs_are no_entries = refl
pairs_are (entry_then n x es) = ap (entry_then n x) (pairs_are es)

pair_names : (es : Entries) → names (pairs es) ≡ entry_names es
pair_names no_entries = refl
pair_names (entry_then n x es) = ap (λ t. n ∷ t) (pair_names es)

ready : (es : List (List ℕ × Attr)) → AreRising (names es) → IsReady [] es
ready [] h = tt
ready (e ∷ es) h = (tt, h)

pub fills : (es : Entries) → AreRising (entry_names es) → Fills [] (pairs es) (pairs es)
fills es h = fills_from [] (pairs es) (ready (pairs es) (subst AreRising (sym (pair_names es)) h))
