-- A map with one more entry.
use Rattle.std.proofs.Common.{◌≡◌, ℕ, Bool, true, false, cond, List, [], ◌∷◌, Option, Some, refl, ap}
use Rattle.std.specs.Prelude.{map}
use Rattle.std.specs.Global.{Vec}
use Rattle.std.specs.Option.{is_some}
use Rattle.std.specs.BTreeMap.{insert_entry, is_at}
use Rattle.std.specs.Map.{lookup}
use Rattle.std.specs.Ordering.{match_ordering}
use Rattle.std.specs.declared.cmp.Ordering.{Ordering}
use Rattle.std.specs.declared.cmp.Ordering.TheVariants.{Less, Equal, Greater}
use Rattle.mlir_tree.specs.Tree.{Attr}
use Rattle.mlir_tree.specs.Order.{text_cmp}
use Rattle.mlir_parse.specs.Entries.{is_placed, placed_of}
use Rattle.mlir_attributes.proofs.Entries.{key_cmp}

abbrev pub Entry : Type 0
Entry = Vec ℕ × (ℕ × Attr)

put_by : (e : Entry) (es more : List Entry) (k : Vec ℕ) (v : ℕ × Attr) → map placed_of more ≡ insert_entry text_cmp (map placed_of es) k.items v → (o : Ordering)
    → map placed_of (match_ordering o ((k, v) ∷ e ∷ es) ((e.0, v) ∷ es) (e ∷ more))
    ≡ match_ordering o ((k.items, v) ∷ map placed_of (e ∷ es)) ((e.0.items, v) ∷ map placed_of es) (placed_of e ∷ insert_entry text_cmp (map placed_of es) k.items v)
put_by e es more k v h Less = refl
put_by e es more k v h Equal = refl
put_by e es more k v h Greater = ap (λ xs. placed_of e ∷ xs) h

pub put_named : (es : List Entry) (k : Vec ℕ) (v : ℕ × Attr) → map placed_of (insert_entry key_cmp es k v) ≡ insert_entry text_cmp (map placed_of es) k.items v
put_named [] k v = refl
put_named (e ∷ es) k v = put_by e es (insert_entry key_cmp es k v) k v (put_named es k v) (text_cmp k.items e.0.items)

has_by : (x : ℕ × Attr) (b : Bool) (o p : Option (ℕ × Attr)) → is_some o ≡ is_some p → is_some (cond b (Some x) o) ≡ is_some (cond b (Some x) p)
has_by x true o p h = refl
has_by x false o p h = h

pub has_placed : (name : List ℕ) (es : List Entry) → is_some (lookup (λ (k : Vec ℕ). is_at (text_cmp name) k.items) es) ≡ is_placed name (map placed_of es)
has_placed name [] = refl
has_placed name (e ∷ es) = has_by e.1 (is_at (text_cmp name) e.0.items) _ _ (has_placed name es)
