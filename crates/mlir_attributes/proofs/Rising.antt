-- Entries that are put in in the order of their names keep that order.
use Rattle.std.proofs.Common.{◌≡◌, ℕ, false, cond, List, [], ◌∷◌, refl, ap, ◌∙◌}
use Rattle.std.specs.Prelude.{Some, map}
use Rattle.std.specs.Option.{is_some}
use Rattle.std.specs.Ordering.{is_eq, match_ordering, ordering_reverse}
use Rattle.std.specs.declared.cmp.Ordering.{Ordering}
use Rattle.std.specs.declared.cmp.Ordering.TheVariants.{Less, Equal, Greater}
use Rattle.std.specs.Map.{lookup}
use Rattle.std.specs.BTreeMap.{insert_entry, is_at}
use Rattle.std.proofs.lemmas.Cmp.{nat_list_cmp_total}
use Rattle.mlir_tree.specs.Order.{text_cmp}
use Rattle.mlir_tree.specs.Range.{AreRising}

module _ {V : Type 0} where
  abbrev pub names : List (List ℕ × V) → List (List ℕ)
  names es = map (λ e. e.0) es

  -- a name is below the first entry's
  abbrev IsBelow : List ℕ → List (List ℕ × V) → Type 0
  IsBelow m [] = Unit {0}
  IsBelow m (d ∷ ds) = text_cmp m d.0 ≡ Less

  rising_then : (d : List ℕ × V) (es : List (List ℕ × V)) → IsBelow d.0 es → AreRising (names es) → AreRising (names (d ∷ es))
  rising_then d [] below rising = tt
  rising_then d (e ∷ es) below rising = (below, rising)

  rising_parts : (d : List ℕ × V) (es : List (List ℕ × V)) → AreRising (names (d ∷ es)) → IsBelow d.0 es × AreRising (names es)
  rising_parts d [] h = (tt, tt)
  rising_parts d (e ∷ es) h = (h.0, h.1)

  below_by : (m n : List ℕ) (v : V) (d : List ℕ × V) (ds more : List (List ℕ × V)) (o : Ordering) → text_cmp m n ≡ Less → text_cmp m d.0 ≡ Less → IsBelow m (match_ordering o ((n, v) ∷ d ∷ ds) ((d.0, v) ∷ ds) (d ∷ more))
  below_by m n v d ds more Less new old = new
  below_by m n v d ds more Equal new old = old
  below_by m n v d ds more Greater new old = old

  below_put : (m n : List ℕ) (v : V) (es : List (List ℕ × V)) → text_cmp m n ≡ Less → IsBelow m es → IsBelow m (insert_entry text_cmp es n v)
  below_put m n v [] new old = new
  below_put m n v (d ∷ ds) new old = below_by m n v d ds (insert_entry text_cmp ds n v) (text_cmp n d.0) new old

  rising_by : (n : List ℕ) (v : V) (d : List ℕ × V) (ds more : List (List ℕ × V)) (o : Ordering) → text_cmp n d.0 ≡ o → is_some (cond (is_eq o) (Some d.1) (lookup (is_at (text_cmp n)) ds)) ≡ false → AreRising (names (d ∷ ds))
      → (is_some (lookup (is_at (text_cmp n)) ds) ≡ false → AreRising (names more)) → (text_cmp d.0 n ≡ Less → IsBelow d.0 more) → AreRising (names (match_ordering o ((n, v) ∷ d ∷ ds) ((d.0, v) ∷ ds) (d ∷ more)))
  rising_by n v d ds more Less is new rising go below = (is, rising)
  rising_by n v d ds more Equal is new rising go below = absurd (cc)
  rising_by n v d ds more Greater is new rising go below =
      let under : text_cmp d.0 n ≡ Less = nat_list_cmp_total.antisymm d.0 n ∙ ap ordering_reverse is in
      rising_then d more (below under) (go new)

  pub rising_put : (n : List ℕ) (v : V) (es : List (List ℕ × V)) → is_some (lookup (is_at (text_cmp n)) es) ≡ false → AreRising (names es) → AreRising (names (insert_entry text_cmp es n v))
  rising_put n v [] new rising = tt
  rising_put n v (d ∷ ds) new rising =
      let parts = rising_parts d ds rising in
      rising_by n v d ds (insert_entry text_cmp ds n v) (text_cmp n d.0) refl new rising (λ new. rising_put n v ds new parts.1) (λ under. below_put d.0 n v ds under parts.0)
