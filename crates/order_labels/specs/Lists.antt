-- Lists and what an edit makes of them.
use Rattle.std.specs.Prelude.{◌≡◌, ◌⊎◌, ◌-◌, List, [], ◌∷◌, ◌++◌, length, Option, slice_get}

abbrev pub IsIn : {A : Type 0} → A → List A → Type 0
IsIn x [] = ⊥
IsIn x (y ∷ ys) = (x ≡ y) ⊎ IsIn x ys

-- none stands twice
abbrev pub IsApart : {A : Type 0} → List A → Type 0
IsApart [] = Unit {0}
IsApart (x ∷ xs) = (¬ IsIn x xs) × IsApart xs

-- the second list is the first one with x just before y
abbrev pub PutsBefore : {A : Type 0} → A → A → List A → List A → Type 0
PutsBefore {A} x y xs ys = (us : List A) × (vs : List A) × (xs ≡ us ++ y ∷ vs) × (ys ≡ us ++ x ∷ y ∷ vs)

-- the second list is the first one without one place of x
abbrev pub TakesOut : {A : Type 0} → A → List A → List A → Type 0
TakesOut {A} x xs ys = (us : List A) × (vs : List A) × (xs ≡ us ++ x ∷ vs) × (ys ≡ us ++ vs)

-- x stands in the list, and behind it this
abbrev pub IsFollowed : {A : Type 0} → A → List A → Option A → Type 0
IsFollowed {A} x xs o = (us : List A) × (vs : List A) × (xs ≡ us ++ x ∷ vs) × (o ≡ slice_get vs 0)

-- the last of a list
abbrev pub last_of : {A : Type 0} → List A → Option A
last_of xs = slice_get xs (length xs - 1)

-- x stands in the list, and before it this
abbrev pub IsPreceded : {A : Type 0} → A → List A → Option A → Type 0
IsPreceded {A} x xs o = (us : List A) × (vs : List A) × (xs ≡ us ++ x ∷ vs) × (o ≡ last_of us)
