-- Entries that are put into a dictionary one by one.
use Rattle.std.proofs.Common.{◌≡◌, ℕ, List, [], ◌∷◌, ◌++◌, refl, ap}
use Rattle.std.specs.Prelude.{map, Vec}
use Rattle.std.specs.BTreeMap.{insert_entry}
use Rattle.std.specs.Ordering.{match_ordering}
use Rattle.std.specs.declared.cmp.Ordering.{Ordering}
use Rattle.std.specs.declared.cmp.Ordering.TheVariants.{Less, Equal, Greater}
use Rattle.std.specs.declared.alloc.Global.{Global}
use Rattle.mlir_tree.specs.Tree.{Attr}
use Rattle.mlir_tree.specs.Order.{text_cmp}
use Rattle.mlir_attributes.specs.Dictionary.{put_entry, entry_of}
use Rattle.rewrite_model.specs.Making.{sorted}
use Rattle.rewrite_step.specs.Sorting.{put_all}

abbrev pub key_cmp : Vec ℕ Global → Vec ℕ Global → Ordering
key_cmp m n = text_cmp m.items n.items

put_by : (e : Vec ℕ Global × Attr) (es more : List (Vec ℕ Global × Attr)) (k : Vec ℕ Global) (v : Attr) → map entry_of more ≡ insert_entry text_cmp (map entry_of es) k.items v → (o : Ordering)
    → map entry_of (match_ordering o ((k, v) ∷ e ∷ es) ((e.0, v) ∷ es) (e ∷ more))
    ≡ match_ordering o ((k.items, v) ∷ map entry_of (e ∷ es)) ((e.0.items, v) ∷ map entry_of es) (entry_of e ∷ insert_entry text_cmp (map entry_of es) k.items v)
put_by e es more k v h Less = refl
put_by e es more k v h Equal = refl
put_by e es more k v h Greater = ap (λ xs. entry_of e ∷ xs) h

pub put_named : (es : List (Vec ℕ Global × Attr)) (k : Vec ℕ Global) (v : Attr) → map entry_of (insert_entry key_cmp es k v) ≡ insert_entry text_cmp (map entry_of es) k.items v
put_named [] k v = refl
put_named (e ∷ es) k v = put_by e es (insert_entry key_cmp es k v) k v (put_named es k v) (text_cmp k.items e.0.items)

pub put_last : (es : List (List ℕ × Attr)) (e : List ℕ × Attr) (found : List (List ℕ × Attr)) → put_all (es ++ e ∷ []) found ≡ put_all es (put_entry e.0 e.1 found)
put_last [] e found = refl
put_last (x ∷ es) e found = ap (put_entry x.0 x.1) (put_last es e found)

pub all_put : (es : List (List ℕ × Attr)) → put_all es [] ≡ sorted es
all_put [] = refl
all_put (e ∷ es) = ap (put_entry e.0 e.1) (all_put es)
