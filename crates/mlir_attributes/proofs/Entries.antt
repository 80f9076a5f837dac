-- Entries by their names.
use Rattle.std.proofs.Common.{◌≡◌, ℕ, List, [], ◌∷◌, refl, ap}
use Rattle.std.specs.Prelude.{map, Vec, Option, Some, cond, Bool, true, false}
use Rattle.std.specs.Option.{is_some}
use Rattle.std.specs.BTreeMap.{insert_entry, is_at}
use Rattle.std.specs.Map.{lookup, keys_of}
use Rattle.std.specs.List.Sorted.{IsStrictlySortedBy}
use Rattle.std.specs.Ordering.{match_ordering}
use Rattle.std.specs.declared.cmp.Ordering.{Ordering}
use Rattle.std.specs.declared.cmp.Ordering.TheVariants.{Less, Equal, Greater}
use Rattle.std.specs.declared.alloc.Global.{Global}
use Rattle.mlir_tree.specs.Tree.{Attr, entries}
use Rattle.mlir_tree.specs.Range.{AreRising, entry_names}
use Rattle.mlir_tree.specs.Order.{text_cmp}
use Rattle.mlir_attributes.specs.Dictionary.{has_name, entry_of}

abbrev pub key_cmp : Vec ℕ Global → Vec ℕ Global → Ordering
key_cmp m n = text_cmp m.items n.items

put_by : (e : Vec ℕ Global × Attr) (es more : List (Vec ℕ Global × Attr)) (k : Vec ℕ Global) (v : Attr) → map entry_of more ≡ insert_entry text_cmp (map entry_of es) k.items v → (o : Ordering)
    → map entry_of (match_ordering o ((k, v) ∷ e ∷ es) ((e.0, v) ∷ es) (e ∷ more))
    ≡ match_ordering o ((k.items, v) ∷ map entry_of (e ∷ es)) ((e.0.items, v) ∷ map entry_of es) (entry_of e ∷ insert_entry text_cmp (map entry_of es) k.items v)
put_by e es more k v h Less = refl
put_by e es more k v h Equal = refl
put_by e es more k v h Greater = ap (λ xs. entry_of e ∷ xs) h

pub put_named : (es : List (Vec ℕ Global × Attr)) (k : Vec ℕ Global) (v : Attr) → map entry_of (insert_entry key_cmp es k v) ≡ insert_entry text_cmp (map entry_of es) k.items v
put_named [] k v = refl
put_named (e ∷ es) k v = put_by e es (insert_entry key_cmp es k v) k v (put_named es k v) (text_cmp k.items e.0.items)

has_by : (x : Attr) (b : Bool) (o p : Option Attr) → is_some o ≡ is_some p → is_some (cond b (Some x) o) ≡ is_some (cond b (Some x) p)
has_by x true o p h = refl
has_by x false o p h = h

pub has_named : (name : List ℕ) (es : List (Vec ℕ Global × Attr)) → is_some (lookup (λ (k : Vec ℕ Global). is_at (text_cmp name) k.items) es) ≡ has_name name (map entry_of es)
has_named name [] = refl
has_named name (e ∷ es) = has_by e.1 (is_at (text_cmp name) e.0.items) _ _ (has_named name es)

pub rising : (es : List (Vec ℕ Global × Attr)) → IsStrictlySortedBy key_cmp (keys_of es) → AreRising (entry_names (entries (map entry_of es)))
unfolding IsStrictlySortedBy
rising [] h = tt
rising (e ∷ []) h = tt
rising (e ∷ (d ∷ es)) h = (h.0.0, rising (d ∷ es) h.1)
