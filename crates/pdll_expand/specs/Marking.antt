-- Numbers that are known to be determined, as marks, and how the marks grow.
use Rattle.std.specs.Prelude.{◌≡◌, ℕ, ◌+◌, max, Bool, true, false, if◌then◌else◌, List, [], ◌∷◌, ◌++◌, map, length, get_or, set}
use Rattle.rewrite_model.specs.Pattern.{Parts, Expr, Demand, is_attr, is_type, has_parts, has_type}
use Rattle.rewrite_model.specs.Determined.{values_of, Determined}
use Rattle.rewrite_model.specs.Laws.{number_in}

abbrev pub is_marked : List Bool → ℕ → Bool
is_marked marks x = get_or marks x false

-- How many there are.
abbrev pub marks_in : List Bool → ℕ
marks_in [] = 0
marks_in (b ∷ bs) = (if b then 1 else 0) + marks_in bs

-- With these marked too.
abbrev pub marked : List ℕ → List Bool → List Bool
marked [] marks = marks
marked (x ∷ xs) marks = marked xs (set marks x true)

abbrev pub numbers_of : Parts Expr → List ℕ
numbers_of o = map number_in o.operands ++ (map number_in (values_of o.entries) ++ map number_in o.types)

-- What a demand tells to be determined, where those that are marked are.
abbrev pub told : List Bool → Demand → List ℕ
told marks (is_attr x v) = x ∷ []
told marks (is_type x t) = x ∷ []
told marks (has_parts x o) = if is_marked marks x then numbers_of o else []
told marks (has_type x e) = if is_marked marks x then number_in e ∷ [] else []
told marks d = []

unfoldable pub grown : Demand → List Bool → List Bool
grown d marks = marked (told marks d) marks

-- One way through demands, the last one first.
abbrev pub passed : List Demand → List Bool → List Bool
passed [] marks = marks
passed (d ∷ ds) marks = grown d (passed ds marks)

-- ---- how many marks are wanted

-- The highest of these.
abbrev pub highest : List ℕ → ℕ → ℕ
highest [] n = n
highest (x ∷ xs) n = highest xs (max n x)

-- The numbers that a demand tells of.
abbrev pub numbers_in : Demand → List ℕ
numbers_in (is_attr x v) = x ∷ []
numbers_in (is_type x t) = x ∷ []
numbers_in (has_parts x o) = x ∷ numbers_of o
numbers_in (has_type x e) = x ∷ number_in e ∷ []
numbers_in d = []

abbrev pub highest_in : List Demand → ℕ → ℕ
highest_in [] n = n
highest_in (d ∷ ds) n = highest_in ds (highest (numbers_in d) n)

-- ---- what the marks tell

-- Exactly what is determined is marked.
pub record MarkDetermined (given : List ℕ) (demands : List Demand) (marks : List Bool) : Type 0 where
  pub sound : (x : ℕ) → is_marked marks x ≡ true → Determined given demands x
  pub complete : (x : ℕ) → Determined given demands x → is_marked marks x ≡ true

abbrev pub IsSound : List ℕ → List Demand → List Bool → Type 0
IsSound given demands marks = (x : ℕ) → is_marked marks x ≡ true → Determined given demands x

-- More marks, by what demands tell alone.
pub record IsGrown (demands : List Demand) (old new : List Bool) : Type 0 where
  pub lengths : length new ≡ length old
  pub keeps : (x : ℕ) → is_marked old x ≡ true → is_marked new x ≡ true
  pub sound : (given : List ℕ) → IsSound given demands old → IsSound given demands new
