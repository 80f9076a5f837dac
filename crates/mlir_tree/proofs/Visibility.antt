-- What the three edits do to visibility.
use Rattle.std.proofs.Common.{◌≡◌, ℕ, Bool, true, false, not, ◌&&◌, ◌||◌, cond, List, [], ◌∷◌, ◌++◌, map, reverse, Option, refl, sym, ap, ◌∙◌}
use Rattle.std.specs.Prelude.{◌==◌, filter}
use Rattle.std.specs.Option.{option_map_or, option_and_then}
use Rattle.std.specs.List.{list_any}
use Rattle.std.proofs.lemmas.List.{reverse-append}
use Rattle.std.proofs.lemmas.List.Elements.{filter-append}
use Rattle.mlir_tree.specs.declared.row.Home.{Home}
use Rattle.mlir_tree.specs.declared.row.Row.{Row}
use Rattle.mlir_tree.specs.declared.value.Val.{Val}
use Rattle.mlir_tree.specs.declared.value.Val.TheVariants.{Res, Arg}
use Rattle.mlir_tree.specs.Module.{row_of, is_earlier, enclosing, home_eq, has_result, has_argument, is_visible}
use Rattle.mlir_tree.specs.Laws.{owner_of}

-- ---- what visibility reads of rows

-- the scope of a value by what it reads: the order, the home, and the homes around
abbrev pub scope_of_result : Bool → Option Home → List Home → ℕ → Bool
scope_of_result earlier home around d =
    earlier && (option_map_or (λ h. list_any (home_eq h) around) home false && not (list_any (λ h. h.row == d) around))

abbrev pub scope_of_argument : List Home → ℕ → ℕ → Bool
scope_of_argument around d g = list_any (home_eq (record { row = d; region = g })) around

-- rows of which every question has the same answer for a value of row d at row u
pub record Agree (rows others : List Row) (d u : ℕ) : Type 0 where
  pub found : row_of others d ≡ row_of rows d
  pub order : is_earlier others d u ≡ is_earlier rows d u
  pub around : enclosing others u ≡ enclosing rows u

pub agree_visible : (rows others : List Row) (v : Val) (u : ℕ) → Agree rows others (owner_of v) u → is_visible others v u ≡ is_visible rows v u
unfolding is_visible
agree_visible rows others (Res d k) u a =
    λ i. option_map_or (has_result k) (a.found i) false && scope_of_result (a.order i) (option_and_then (λ r. r.home) (a.found i)) (a.around i) d
agree_visible rows others (Arg d g k) u a = λ i. option_map_or (has_argument g k) (a.found i) false && scope_of_argument (a.around i) d g

-- ---- tests and lists

pub or_false : (a b : Bool) → (a || b) ≡ false → (a ≡ false) × (b ≡ false)
or_false true b p = absurd (cc)
or_false false b p = (refl, p)

pub reverse-cons : {X : Type 0} → (x : X) (xs : List X) → reverse (x ∷ xs) ≡ reverse xs ++ x ∷ []
reverse-cons x xs = reverse-append (x ∷ []) xs

pub map-append : {X Y : Type 0} (f : X → Y) → (xs ys : List X) → map f (xs ++ ys) ≡ map f xs ++ map f ys
map-append f [] ys = refl
map-append f (x ∷ xs) ys = λ i. f x ∷ map-append f xs ys i

pub map-reverse : {X Y : Type 0} (f : X → Y) → (xs : List X) → map f (reverse xs) ≡ reverse (map f xs)
map-reverse f [] = refl
map-reverse f (x ∷ xs) =
    ap (map f) (reverse-cons x xs) ∙ (map-append f (reverse xs) (x ∷ []) ∙ ((λ i. map-reverse f xs i ++ f x ∷ []) ∙ sym (reverse-cons (f x) (map f xs))))

pub filter-one : {X : Type 0} (p : X → Bool) → (x : X) (xs : List X) → filter p (x ∷ xs) ≡ cond (p x) (x ∷ []) [] ++ filter p xs
filter-one p x xs = elim (p x) as (λ b. cond b (x ∷ filter p xs) (filter p xs) ≡ cond b (x ∷ []) [] ++ filter p xs) [ true ↦ refl | false ↦ refl ]

reverse_one : {X : Type 0} (b : Bool) (x : X) → reverse (cond b (x ∷ []) []) ≡ cond b (x ∷ []) []
reverse_one true x = refl
reverse_one false x = refl

pub filter-reverse : {X : Type 0} (p : X → Bool) → (xs : List X) → filter p (reverse xs) ≡ reverse (filter p xs)
filter-reverse p [] = refl
filter-reverse p (x ∷ xs) =
    ap (filter p) (reverse-cons x xs)
    ∙ (filter-append p (reverse xs) (x ∷ [])
    ∙ ((λ i. filter-reverse p xs i ++ filter p (x ∷ []))
    ∙ ((λ i. reverse (filter p xs) ++ sym (reverse_one (p x) x) i)
    ∙ (sym (reverse-append (cond (p x) (x ∷ []) []) (filter p xs)) ∙ ap reverse (sym (filter-one p x xs))))))
