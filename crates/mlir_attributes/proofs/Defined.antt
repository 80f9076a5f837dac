-- Aliases are found in a map by their names as they are in the list of their definitions.
use Rattle.std.proofs.Common.{◌≡◌, ℕ, Bool, true, false, cond, List, [], ◌∷◌, ◌++◌, refl, ap, sym, subst, ◌∙◌}
use Rattle.std.specs.Prelude.{Vec, Some, None}
use Rattle.std.specs.declared.alloc.Global.{Global}
use Rattle.std.specs.Map.{lookup}
use Rattle.std.specs.Str.{bytes_eq}
use Rattle.std.proofs.lemmas.Slice.Eq.{bytes_eq-Decides}
use Rattle.indexmap.specs.IndexMap.{IndexMap, insert_entry}
use Rattle.indexmap.proofs.CallerLemmas.{insert_entry-new}
use Rattle.mlir_attributes.specs.declared.aliases.Alias.{Alias}
use Rattle.mlir_attributes.specs.Aliases.{find, defined, AreNamed}

abbrev Entry : Type 0
Entry = Vec ℕ Global × Alias

both_same : (a b : Bool) → (a ≡ true → b ≡ true) → (b ≡ true → a ≡ true) → a ≡ b
both_same true b to from = sym (to refl)
both_same false true to from = from refl
both_same false false to from = refl

swapped : (m n : List ℕ) → bytes_eq m n ≡ bytes_eq n m
swapped m n =
    let one = bytes_eq-Decides m n in
    let other = bytes_eq-Decides n m in
    both_same (bytes_eq m n) (bytes_eq n m) (λ h. other.1 (sym (one.0 h))) (λ h. one.1 (sym (other.0 h)))

pub found : (name : List ℕ) (es : List Entry) → AreNamed es → lookup (λ (k : Vec ℕ Global). bytes_eq name k.items) es ≡ find name (defined es)
found name [] h = refl
found name (e ∷ es) h =
    let same = ap (bytes_eq name) h.0 ∙ swapped name e.1.name in
    (λ i. cond (same i) (Some e.1) (found name es h.1 i))

pub one_more : (es : List Entry) (k : Vec ℕ Global) (a : Alias) → AreNamed es → k.items ≡ a.name → AreNamed (es ++ (k, a) ∷ [])
one_more [] k a h same = (same, tt)
one_more (e ∷ es) k a h same = (h.0, one_more es k a h.1 same)

pub defined_more : (es : List Entry) (k : Vec ℕ Global) (a : Alias) → defined (es ++ (k, a) ∷ []) ≡ defined es ++ a ∷ []
defined_more [] k a = refl
defined_more (e ∷ es) k a = ap (λ xs. e.1 ∷ xs) (defined_more es k a)

abbrev pub key_eq : Vec ℕ Global → Vec ℕ Global → Bool
key_eq k l = bytes_eq k.items l.items

module _ {S : Type 0} (m : IndexMap (Vec ℕ Global) Alias S) (k : Vec ℕ Global) (a : Alias) where
  -- a new name goes last
  new_last : AreNamed m.entries → k.items ≡ a.name → find a.name (defined m.entries) ≡ None → insert_entry key_eq m.entries k a ≡ m.entries ++ (k, a) ∷ []
  new_last named same new =
      insert_entry-new key_eq m k a (found k.items m.entries named ∙ (ap (λ n. find n (defined m.entries)) same ∙ new))

  pub still_named : AreNamed m.entries → k.items ≡ a.name → find a.name (defined m.entries) ≡ None → AreNamed (insert_entry key_eq m.entries k a)
  still_named named same new = subst AreNamed (sym (new_last named same new)) (one_more m.entries k a named same)

  pub defined_last : AreNamed m.entries → k.items ≡ a.name → find a.name (defined m.entries) ≡ None → defined (insert_entry key_eq m.entries k a) ≡ defined m.entries ++ a ∷ []
  defined_last named same new = ap defined (new_last named same new) ∙ defined_more m.entries k a
