-- Names are found in a map by their bytes as they stand in the list of names.
use Rattle.std.proofs.Common.{◌≡◌, ℕ, zero, suc, Bool, true, false, cond, List, [], ◌∷◌, ◌++◌, refl, ap, sym, subst, ◌∙◌, inr, true≢false, ap₂, slice_get, is_some, length, Some, None, Option}
use Rattle.std.specs.Prelude.{Vec}
use Rattle.std.specs.declared.alloc.Global.{Global}
use Rattle.std.specs.Map.{lookup, keys_of}
use Rattle.std.specs.Str.{bytes_eq}
use Rattle.std.specs.List.{IsDistinct, AllByRecursion}
use Rattle.std.proofs.lemmas.Slice.Eq.{bytes_eq-Decides}
use Rattle.indexmap.specs.IndexMap.{IndexMap, insert_entry}
use Rattle.indexmap.proofs.CallerLemmas.{insert_entry-new}
use Rattle.attr_pool.specs.Lists.{AreApart, IsAbsent, Interns}
use Rattle.attr_pool.specs.Names.{names_of, AreNamed}
use Rattle.attr_pool.proofs.Places.{some_same, not_none, last_place, apart}

abbrev Entry : Type 0
Entry = Vec ℕ Global × List ℕ

abbrev pub key_eq : Vec ℕ Global → Vec ℕ Global → Bool
key_eq k l = bytes_eq k.items l.items

abbrev pub finds : List ℕ → List Entry → Option (List ℕ)
finds name es = lookup (λ (k : Vec ℕ Global). bytes_eq name k.items) es

pub its_own : (name w : List ℕ) (es : List Entry) → AreNamed es → finds name es ≡ Some w → w ≡ name
its_own name w [] h p = absurd (not_none p)
its_own name w (e ∷ es) h p = by (bytes_eq name e.0.items) refl p (its_own name w es h.1)
  where
    by : (b : Bool) → bytes_eq name e.0.items ≡ b → cond b (Some e.1) (finds name es) ≡ Some w → (finds name es ≡ Some w → w ≡ name) → w ≡ name
    by true q r later = sym (some_same r) ∙ (sym h.0 ∙ sym ((bytes_eq-Decides name e.0.items).0 q))
    by false q r later = later r

pub not_there : (name : List ℕ) (es : List Entry) → AreNamed es → finds name es ≡ None → IsAbsent name (names_of es)
not_there name [] h p = λ i q. not_none q
not_there name (e ∷ es) h p = by (bytes_eq name e.0.items) refl p (not_there name es h.1)
  where
    by : (b : Bool) → bytes_eq name e.0.items ≡ b → cond b (Some e.1) (finds name es) ≡ None → (finds name es ≡ None → IsAbsent name (names_of es)) → (i : ℕ) → slice_get (names_of (e ∷ es)) i ≡ Some name → ⊥
    by true r s later i q = not_none (sym s)
    by false r s later zero q = true≢false (sym ((bytes_eq-Decides name e.0.items).1 (sym (some_same q) ∙ sym h.0)) ∙ r)
    by false r s later (suc i) q = later s i q

pub here : (name : List ℕ) (es : List Entry) → AreNamed es → (i : ℕ) → slice_get (names_of es) i ≡ finds name es → is_some (finds name es) ≡ true → slice_get (names_of es) i ≡ Some name
here name es h i p s = by (finds name es) refl p s
  where
    by : (o : Option (List ℕ)) → finds name es ≡ o → slice_get (names_of es) i ≡ o → is_some o ≡ true → slice_get (names_of es) i ≡ Some name
    by None q r t = absurd (true≢false (sym t))
    by (Some w) q r t = r ∙ ap Some (its_own name w es h q)

pub missing : (o : Option (List ℕ)) → is_some o ≡ false → o ≡ None
missing None e = refl
missing (Some w) e = absurd (true≢false e)

pub one_more : (es : List Entry) (k : Vec ℕ Global) (name : List ℕ) → AreNamed es → k.items ≡ name → AreNamed (es ++ (k, name) ∷ [])
one_more [] k name h same = (same, tt)
one_more (e ∷ es) k name h same = (h.0, one_more es k name h.1 same)

pub names_more : (es : List Entry) (k : Vec ℕ Global) (name : List ℕ) → names_of (es ++ (k, name) ∷ []) ≡ names_of es ++ name ∷ []
names_more [] k name = refl
names_more (e ∷ es) k name = ap (λ xs. e.1 ∷ xs) (names_more es k name)

pub as_many : (es : List Entry) → length (names_of es) ≡ length es
as_many [] = refl
as_many (e ∷ es) = ap suc (as_many es)

-- names are the bytes of keys
distinct_names : (es : List Entry) → AreNamed es → IsDistinct key_eq (keys_of es) → IsDistinct bytes_eq (names_of es)
unfolding IsDistinct
distinct_names [] h d = tt
distinct_names (e ∷ es) h d = (others es h.1 (d.0), distinct_names es h.1 d.1)
  where
    others : (fs : List Entry) → AreNamed fs → AllByRecursion (λ y. key_eq e.0 y ≡ false) (keys_of fs) → AllByRecursion (λ y. bytes_eq e.1 y ≡ false) (names_of fs)
    others [] g a = tt
    others (f ∷ fs) g a = (ap₂ bytes_eq (sym h.0) (sym g.0) ∙ a.0, others fs g.1 a.1)

pub apart_names : (es : List Entry) → AreNamed es → IsDistinct key_eq (keys_of es) → AreApart (names_of es)
apart_names es h d = apart bytes_eq (λ x. (bytes_eq-Decides x x).1 refl) (λ x y. (bytes_eq-Decides x y).0) (names_of es) (distinct_names es h d)

module _ {S : Type 0} (m : IndexMap (Vec ℕ Global) (List ℕ) S) (k : Vec ℕ Global) (name : List ℕ) (named : AreNamed m.entries) (same : k.items ≡ name) (new : finds name m.entries ≡ None) where
  -- a new name goes last
  new_last : insert_entry key_eq m.entries k name ≡ m.entries ++ (k, name) ∷ []
  new_last = insert_entry-new key_eq m k name (ap (λ n. finds n m.entries) same ∙ new)

  pub still_named : AreNamed (insert_entry key_eq m.entries k name)
  still_named = subst AreNamed (sym new_last) (one_more m.entries k name named same)

  pub interned : Interns (names_of m.entries) (names_of (insert_entry key_eq m.entries k name)) name (length m.entries)
  interned =
      let more : names_of (insert_entry key_eq m.entries k name) ≡ names_of m.entries ++ name ∷ [] = ap names_of new_last ∙ names_more m.entries k name in
      record {
        here = ap₂ (λ xs i. slice_get xs i) more (sym (as_many m.entries)) ∙ last_place (names_of m.entries) name;
        kept = inr (not_there name m.entries named new, more);
      }
