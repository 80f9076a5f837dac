-- Lists of values whose places are keys.
use Rattle.std.specs.Prelude.{◌≡◌, ◌≢◌, ◌⊎◌, ℕ, List, [], ◌∷◌, ◌++◌, slice_get, Some, refl}
use Rattle.std.specs.Coded.{Coded, code_by, coded×, coded_ℕ, coded_list}
use Rattle.mlir_tree.specs.Tree.{Ty, Attr}
use Rattle.mlir_tree.specs.Codes.{coded_ty, coded_attr}

pub record Lists : Type 0 where
  pub types : List Ty
  pub attributes : List Attr
  pub names : List (List ℕ)

-- By it the logic stores the lists.
abbrev pub coded_lists : Coded Lists
coded_lists = code_by (List Ty × (List Attr × List (List ℕ))) (coded× (coded_list coded_ty) (coded× (coded_list coded_attr) (coded_list (coded_list coded_ℕ))))
    (λ l. (l.types, (l.attributes, l.names))) (λ p. record { types = p.0; attributes = p.1.0; names = p.1.1 }) (λ _. refl)

-- No value stands at two places.
abbrev pub AreApart : {A : Type 0} → List A → Type 0
AreApart {A} xs = (i j : ℕ) (x : A) → slice_get xs i ≡ Some x → slice_get xs j ≡ Some x → i ≡ j

-- The value stands at no place.
abbrev pub IsAbsent : {A : Type 0} → A → List A → Type 0
IsAbsent x xs = (i : ℕ) → slice_get xs i ≢ Some x

-- The value stands at this place of the new list. That is the old one, or has the value behind it, where it wasn't there.
pub record Interns {A : Type 0} (old new : List A) (x : A) (place : ℕ) : Type 0 where
  pub here : slice_get new place ≡ Some x
  pub kept : (new ≡ old) ⊎ (IsAbsent x old × (new ≡ old ++ x ∷ []))
