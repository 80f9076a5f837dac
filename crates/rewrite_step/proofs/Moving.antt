-- Items that are moved from the end of one list to another, and items that are changed or removed in their places.
use Rattle.std.proofs.Common.{◌≡◌, ℕ, zero, suc, ◌+◌, ◌<◌, ◌≤◌, Bool, List, [], ◌∷◌, ◌++◌, length, get_or, take, drop, map, reverse, Some, refl, sym, ap, ◌∙◌, arith, add-one}
use Rattle.std.specs.Prelude.{filter, slice_set, slice_get}
use Rattle.std.proofs.lemmas.List.{reverse-reverse, append-nil}
use Rattle.std.proofs.lemmas.List.Elements.{filter-append}
use Rattle.std.proofs.lemmas.Option.{slice_get-get_or}
use Rattle.std.proofs.Math.Seq.{take-length}
use Rattle.rewrite_step.proofs.Loops.{none_behind}

-- what is moved twice stands in its order
pub moved_twice : {X : Type 0} (all first none turned now : List X) → first ≡ [] → none ≡ [] → turned ≡ first ++ reverse all → now ≡ none ++ reverse turned → now ≡ all
moved_twice all first none turned now f n there back =
    back ∙ ((λ i. n i ++ reverse ((there ∙ ap (λ l. l ++ reverse all) f) i)) ∙ reverse-reverse all)

-- ---- items that are changed in their places

pub still_there : {X : Type 0} (f : X → X) (xs : List X) (i : ℕ) (d : X) → i < length xs → get_or (map f (take i xs) ++ drop i xs) i d ≡ get_or xs i d
still_there f [] i d h = absurd (omega arith)
still_there f (x ∷ xs) zero d h = refl
still_there f (x ∷ xs) (suc i) d h = still_there f xs i d (omega arith)

set_one : {X : Type 0} (f : X → X) (xs : List X) (i : ℕ) (d : X) → i < length xs → slice_set (map f (take i xs) ++ drop i xs) i (f (get_or xs i d)) ≡ map f (take (suc i) xs) ++ drop (suc i) xs
set_one f [] i d h = absurd (omega arith)
set_one f (x ∷ xs) zero d h = refl
set_one f (x ∷ xs) (suc i) d h = ap (λ l. f x ∷ l) (set_one f xs i d (omega arith))

pub changed_one : {X : Type 0} (f : X → X) (xs now new : List X) (i : ℕ) (d y : X) → i < length xs → now ≡ map f (take i xs) ++ drop i xs → y ≡ f (get_or now i d)
    → new ≡ slice_set now i y → new ≡ map f (take (i + 1) xs) ++ drop (i + 1) xs
changed_one f xs now new i d y h are made put =
    put ∙ ((λ j. slice_set (are j) i ((made ∙ ap f (ap (λ l. get_or l i d) are ∙ still_there f xs i d h)) j))
    ∙ (set_one f xs i d h ∙ ap (λ n. map f (take n xs) ++ drop n xs) (sym (add-one i))))

-- an item of a list that has one
some_item : {X : Type 0} (xs : List X) (i : ℕ) → i < length xs → X
some_item [] i h = absurd (omega arith)
some_item (x ∷ xs) i h = x

same_length : {X : Type 0} (f : X → X) (xs : List X) (i : ℕ) → length (map f (take i xs) ++ drop i xs) ≡ length xs
same_length f [] zero = refl
same_length f [] (suc i) = refl
same_length f (x ∷ xs) zero = refl
same_length f (x ∷ xs) (suc i) = ap suc (same_length f xs i)

-- the same, where it is known of the item that stands there
pub changed_there : {X : Type 0} (f : X → X) (xs now new : List X) (i : ℕ) → i < length xs → now ≡ map f (take i xs) ++ drop i xs → ((x : X) → slice_get now i ≡ Some x → new ≡ slice_set now i (f x))
    → new ≡ map f (take (i + 1) xs) ++ drop (i + 1) xs
changed_there f xs now new i h are put =
    let d = some_item xs i h in
    let within : i < length now = omega (arith, h, ap length are ∙ same_length f xs i) in
    changed_one f xs now new i d (f (get_or now i d)) h are refl (put (get_or now i d) (slice_get-get_or now i d within))

pub all_changed : {X : Type 0} (f : X → X) (xs now : List X) (i : ℕ) → i ≡ length xs → now ≡ map f (take i xs) ++ drop i xs → now ≡ map f xs
all_changed f xs now i whole are =
    are ∙ (ap (λ n. map f (take n xs) ++ drop n xs) whole
    ∙ ((λ j. map f (take-length xs j) ++ none_behind xs (length xs) (omega arith) j) ∙ append-nil (map f xs)))

-- ---- items that are removed in their places, the last first

filtered_at : {X : Type 0} (p : X → Bool) (xs : List X) (i : ℕ) → i < length xs → let now = take (suc i) xs ++ filter p (drop (suc i) xs) in
    take i now ++ (filter p (take 1 (drop i now)) ++ drop (suc i) now) ≡ take i xs ++ filter p (drop i xs)
filtered_at p [] i h = absurd (omega arith)
filtered_at p (x ∷ xs) zero h = sym (filter-append p (x ∷ []) xs)
filtered_at p (x ∷ xs) (suc i) h = ap (λ l. x ∷ l) (filtered_at p xs i (omega arith))

pub filtered_one : {X : Type 0} (p : X → Bool) (xs now new : List X) (n i : ℕ) → n ≡ suc i → n ≤ length xs → now ≡ take n xs ++ filter p (drop n xs)
    → new ≡ take i now ++ (filter p (take 1 (drop i now)) ++ drop (i + 1) now) → new ≡ take i xs ++ filter p (drop i xs)
filtered_one p xs now new n i one le are put =
    put ∙ (ap (λ k. take i now ++ (filter p (take 1 (drop i now)) ++ drop k now)) (add-one i)
    ∙ (ap (λ l. take i l ++ (filter p (take 1 (drop i l)) ++ drop (suc i) l)) (are ∙ ap (λ k. take k xs ++ filter p (drop k xs)) one)
    ∙ filtered_at p xs i (omega (arith, one, le))))

pub all_filtered : {X : Type 0} (p : X → Bool) (xs now : List X) (n : ℕ) → n ≡ 0 → now ≡ take n xs ++ filter p (drop n xs) → now ≡ filter p xs
all_filtered p xs now n all are = are ∙ ap (λ k. take k xs ++ filter p (drop k xs)) all
