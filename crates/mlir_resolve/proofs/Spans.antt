-- Which rows of a tree stand inside a row, and inside a region: those of a run of numbers.
use Rattle.std.proofs.Common.{◌≡◌, ◌<◌, ◌≤◌, ◌+◌, ℕ, zero, suc, Bool, true, false, ◌&&◌, ◌||◌, ◌⊎◌, inl, inr, List, [], ◌∷◌, ◌++◌, length, Option, Some, None, refl, sym, ap, subst, ◌∙◌, arith}
use Rattle.std.specs.Prelude.{◌==◌, nat_lt, nat_le, ⊤}
use Rattle.std.proofs.lemmas.Bool.Decides.{nat_tests}
use Rattle.std.proofs.lemmas.List.{length-append}
use Rattle.mlir_tree.specs.declared.row.Home.{Home}
use Rattle.mlir_tree.specs.Module.{home_eq}
use Rattle.mlir_parse.specs.SynTree.{Head, Operation, operation, Regions, no_regions, region_then, Operations, no_operations, operation_then}
use Rattle.mlir_parse.specs.Limits.{operation_count, region_operation_count, operations_count}
use Rattle.mlir_resolve.specs.Laid.{Laid, arguments_of, region, laid_operation, laid_regions, laid_operations}

-- ---- a fact of each row of a list that begins at a place

abbrev pub AllAt : (ℕ → Laid → Type 0) → ℕ → List Laid → Type 0
AllAt P n [] = ⊤
AllAt P n (l ∷ ls) = P n l × AllAt P (suc n) ls

pub all_append : (P : ℕ → Laid → Type 0) (n : ℕ) (xs ys : List Laid) → AllAt P n xs → AllAt P (n + length xs) ys → AllAt P n (xs ++ ys)
all_append P n [] ys a b = let e : n + 0 ≡ n = omega arith in subst (λ (k : ℕ). AllAt P k ys) e b
all_append P n (x ∷ xs) ys a b = (a.0, let e : n + suc (length xs) ≡ suc n + length xs = omega arith in all_append P (suc n) xs ys a.1 (subst (λ (k : ℕ). AllAt P k ys) e b))

pub all_weaker : (P Q : ℕ → Laid → Type 0) (n : ℕ) (xs : List Laid) → ((k : ℕ) (l : Laid) → n ≤ k → k < n + length xs → P k l → Q k l) → AllAt P n xs → AllAt Q n xs
all_weaker P Q n [] f a = tt
all_weaker P Q n (x ∷ xs) f a = (f n x (omega arith) (omega arith) a.0, all_weaker P Q (suc n) xs (λ k l p q r. f k l (omega (arith, p)) (omega (arith, q)) r) a.1)

-- behind the rows before a place
pub from_start : (P : ℕ → Laid → Type 0) (n : ℕ) (xs ys : List Laid) → length xs ≡ n → AllAt P 0 xs → AllAt P n ys → AllAt P 0 (xs ++ ys)
from_start P n xs ys e a b = all_append P 0 xs ys a (let same : n ≡ 0 + length xs = omega (arith, e) in subst (λ (k : ℕ). AllAt P k ys) same b)

-- ---- how many rows

mutual
  unfolding laid_operation

  pub operation_length : (n : ℕ) (home : Option Home) (o : Operation) → length (laid_operation n home o) ≡ operation_count o
  operation_length n home (operation h rs) = ap suc (regions_length n 0 (suc n) rs)

  pub regions_length : (d g n : ℕ) (rs : Regions) → length (laid_regions d g n rs) ≡ region_operation_count rs
  regions_length d g n no_regions = refl
  regions_length d g n (region_then args os rs) =
      length-append (laid_operations (region d g) n os) (laid_regions d (suc g) (n + operations_count os) rs)
      ∙ (λ i. operations_length (region d g) n os i + regions_length d (suc g) (n + operations_count os) rs i)

  pub operations_length : (h : Home) (n : ℕ) (os : Operations) → length (laid_operations h n os) ≡ operations_count os
  operations_length h n no_operations = refl
  operations_length h n (operation_then o os) =
      length-append (laid_operation n (Some h) o) (laid_operations h (n + operation_count o) os)
      ∙ (λ i. operation_length n (Some h) o i + operations_length h (n + operation_count o) os i)

-- behind rows that are as many as this
pub all_behind : (P : ℕ → Laid → Type 0) (n c : ℕ) (xs ys : List Laid) → length xs ≡ c → AllAt P n xs → AllAt P (n + c) ys → AllAt P n (xs ++ ys)
all_behind P n c xs ys e a b = all_append P n xs ys a (subst (λ (k : ℕ). AllAt P (n + k) ys) (sym e) b)

-- ---- numbers

abbrev pub IsNumber : ℕ → Laid → Type 0
IsNumber k l = l.id ≡ k

mutual
  unfolding laid_operation

  pub operation_numbers : (n : ℕ) (home : Option Home) (o : Operation) → AllAt IsNumber n (laid_operation n home o)
  operation_numbers n home (operation h rs) = (refl, regions_numbers n 0 (suc n) rs)

  regions_numbers : (d g n : ℕ) (rs : Regions) → AllAt IsNumber n (laid_regions d g n rs)
  regions_numbers d g n no_regions = tt
  regions_numbers d g n (region_then args os rs) =
      all_behind IsNumber n (operations_count os) (laid_operations (region d g) n os) (laid_regions d (suc g) (n + operations_count os) rs)
      (operations_length (region d g) n os) (operations_numbers (region d g) n os) (regions_numbers d (suc g) (n + operations_count os) rs)

  pub operations_numbers : (h : Home) (n : ℕ) (os : Operations) → AllAt IsNumber n (laid_operations h n os)
  operations_numbers h n no_operations = tt
  operations_numbers h n (operation_then o os) =
      all_behind IsNumber n (operation_count o) (laid_operation n (Some h) o) (laid_operations h (n + operation_count o) os)
      (operation_length n (Some h) o) (operation_numbers n (Some h) o) (operations_numbers h (n + operation_count o) os)

-- ---- homes

-- The home is a region of a row between row n and this one.
pub record IsBetween (n k : ℕ) (l : Laid) : Type 0 where
  pub home : Home
  pub is : l.home ≡ Some home
  pub from : n ≤ home.row
  pub before : home.row < k

-- The home is a region of row d, from its region g on.
pub record IsOfRow (d g : ℕ) (l : Laid) : Type 0 where
  pub home : Home
  pub is : l.home ≡ Some home
  pub row : home.row ≡ d
  pub from : g ≤ home.region

abbrev pub IsIn : Home → ℕ → ℕ → Laid → Type 0
IsIn h n k l = (l.home ≡ Some h) ⊎ IsBetween n k l

abbrev pub IsOf : ℕ → ℕ → ℕ → ℕ → Laid → Type 0
IsOf d g n k l = IsOfRow d g l ⊎ IsBetween n k l

lower : (m n k : ℕ) (l : Laid) → m ≤ n → IsBetween n k l → IsBetween m k l
lower m n k l le b = record { home = b.home; is = b.is; from = omega (arith, le, b.from); before = b.before }

between_of : (n : ℕ) (ls : List Laid) → AllAt (IsOf n 0 (suc n)) (suc n) ls → AllAt (IsBetween n) (suc n) ls
between_of n ls all =
    all_weaker (IsOf n 0 (suc n)) (IsBetween n) (suc n) ls
    (λ k l p q is. elim is [ inl own ↦ record { home = own.home; is = own.is; from = omega (arith, own.row); before = omega (arith, own.row, p) } | inr b ↦ lower n (suc n) k l (omega arith) b ])
    all

mutual
  unfolding laid_operation

  pub regions_homes : (d g n : ℕ) (rs : Regions) → AllAt (IsOf d g n) n (laid_regions d g n rs)
  regions_homes d g n no_regions = tt
  regions_homes d g n (region_then args os rs) =
      all_behind (IsOf d g n) n (operations_count os) (laid_operations (region d g) n os) (laid_regions d (suc g) (n + operations_count os) rs)
      (operations_length (region d g) n os)
      (all_weaker (IsIn (region d g) n) (IsOf d g n) n (laid_operations (region d g) n os)
      (λ k l p q is. elim is [ inl e ↦ inl (record { home = region d g; is = e; row = refl; from = omega arith }) | inr b ↦ inr b ])
      (operations_homes (region d g) n os))
      (all_weaker (IsOf d (suc g) (n + operations_count os)) (IsOf d g n) (n + operations_count os) (laid_regions d (suc g) (n + operations_count os) rs)
      (λ k l p q is. elim is [
        | inl own ↦ inl (record { home = own.home; is = own.is; row = own.row; from = omega (arith, own.from) })
        | inr b ↦ inr (lower n (n + operations_count os) k l (omega arith) b)
      ])
      (regions_homes d (suc g) (n + operations_count os) rs))

  pub operations_homes : (h : Home) (n : ℕ) (os : Operations) → AllAt (IsIn h n) n (laid_operations h n os)
  operations_homes h n no_operations = tt
  operations_homes h n (operation_then o os) =
      all_behind (IsIn h n) n (operation_count o) (laid_operation n (Some h) o) (laid_operations h (n + operation_count o) os)
      (operation_length n (Some h) o)
      (operation_homes h n o)
      (all_weaker (IsIn h (n + operation_count o)) (IsIn h n) (n + operation_count o) (laid_operations h (n + operation_count o) os)
      (λ k l p q is. elim is [ inl e ↦ inl e | inr b ↦ inr (lower n (n + operation_count o) k l (omega arith) b) ])
      (operations_homes h (n + operation_count o) os))

  pub operation_homes : (h : Home) (n : ℕ) (o : Operation) → AllAt (IsIn h n) n (laid_operation n (Some h) o)
  operation_homes h n (operation e rs) =
      (inl refl, all_weaker (IsBetween n) (IsIn h n) (suc n) (laid_regions n 0 (suc n) rs) (λ k l p q b. inr b) (between_of n (laid_regions n 0 (suc n) rs) (regions_homes n 0 (suc n) rs)))

-- the rows inside an operation
pub inner_homes : (n : ℕ) (rs : Regions) → AllAt (IsBetween n) (suc n) (laid_regions n 0 (suc n) rs)
inner_homes n rs = between_of n (laid_regions n 0 (suc n) rs) (regions_homes n 0 (suc n) rs)

-- ---- rows and regions as runs of numbers

-- where region g begins, whose row's regions begin there
abbrev pub region_start : ℕ → Regions → ℕ → ℕ
region_start n no_regions g = n
region_start n (region_then args os rs) zero = n
region_start n (region_then args os rs) (suc g) = region_start (n + operations_count os) rs g

abbrev pub is_between : ℕ → ℕ → ℕ → Bool
is_between s e k = nat_le s k && nat_lt k e

-- whether it is the home of a row inside row d, which ends there
abbrev pub leads_to_row : ℕ → ℕ → Option Home → Bool
leads_to_row d e None = false
leads_to_row d e (Some h) = is_between d e h.row

-- whether it is the home of a row inside this region, whose rows go from one number to another
abbrev pub leads_to_region : Home → ℕ → ℕ → Option Home → Bool
leads_to_region r s e None = false
leads_to_region r s e (Some h) = home_eq r h || is_between s e h.row

abbrev pub IsRowRun : ℕ → ℕ → ℕ → Laid → Type 0
IsRowRun d e k l = is_between (suc d) e k ≡ leads_to_row d e l.home

abbrev pub IsRegionRun : Home → ℕ → ℕ → ℕ → Laid → Type 0
IsRegionRun r s e k l = is_between s e k ≡ leads_to_region r s e l.home

-- homes before a row, and behind its end
pub record IsBefore (k : ℕ) (l : Laid) : Type 0 where
  pub before : (h : Home) → l.home ≡ Some h → h.row < k

pub record IsBehind (s e k : ℕ) (l : Laid) : Type 0 where
  pub apart : (h : Home) → l.home ≡ Some h → (h.row < s) ⊎ (e ≤ h.row)

pub not_in : (s e k : ℕ) → k < s → is_between s e k ≡ false
not_in s e k p = grind (arith, nat_tests)

pub not_in_behind : (s e k : ℕ) → e ≤ k → is_between s e k ≡ false
not_in_behind s e k p = grind (arith, nat_tests)

is_in : (s e k : ℕ) → s ≤ k → k < e → is_between s e k ≡ true
is_in s e k p q = grind (arith, nat_tests)

leads_nowhere : (d e : ℕ) (o : Option Home) → ((h : Home) → o ≡ Some h → (h.row < d) ⊎ (e ≤ h.row)) → leads_to_row d e o ≡ false
leads_nowhere d e None f = refl
leads_nowhere d e (Some h) f = elim (f h refl) [ inl p ↦ not_in d e h.row p | inr p ↦ not_in_behind d e h.row p ]

leads_there : (d e : ℕ) (o : Option Home) (h : Home) → o ≡ Some h → d ≤ h.row → h.row < e → leads_to_row d e o ≡ true
leads_there d e o h is p q = ap (leads_to_row d e) is ∙ is_in d e h.row p q

-- A row with all rows inside it, between those before and those behind.
pub row_run : (pre post : List Laid) (n : ℕ) (home : Option Home) (h : Head) (rs : Regions) → length pre ≡ n → ((e : Home) → home ≡ Some e → e.row < n)
    → AllAt IsBefore 0 pre → AllAt (IsBehind n (n + operation_count (operation h rs))) (n + operation_count (operation h rs)) post
    → AllAt (IsRowRun n (n + operation_count (operation h rs))) 0 (pre ++ (laid_operation n home (operation h rs) ++ post))
unfolding laid_operation
row_run pre post n home h rs long own before behind =
    let e = n + operation_count (operation h rs) in
    let row : Laid = record { id = n; home = home; head = h; arguments = arguments_of rs } in
    from_start (IsRowRun n e) n pre (laid_operation n home (operation h rs) ++ post) long
    (all_weaker IsBefore (IsRowRun n e) 0 pre (λ k l p q b. not_in (suc n) e k (omega (arith, q, long)) ∙ sym (leads_nowhere n e l.home (λ x is. inl (omega (arith, b.before x is, q, long))))) before) (
      not_in (suc n) e n (omega arith) ∙ sym (leads_nowhere n e home (λ x is. inl (own x is))),
      all_behind (IsRowRun n e) (suc n) (region_operation_count rs) (laid_regions n 0 (suc n) rs) post (regions_length n 0 (suc n) rs)
          (all_weaker (IsBetween n) (IsRowRun n e) (suc n) (laid_regions n 0 (suc n) rs)
          (λ k l p q b. is_in (suc n) e k p (omega (arith, q, regions_length n 0 (suc n) rs)) ∙ sym (leads_there n e l.home b.home b.is b.from (omega (arith, b.before, q, regions_length n 0 (suc n) rs))))
          (inner_homes n rs))
          (let same : e ≡ suc n + region_operation_count rs = omega arith in
          subst (λ (k : ℕ). AllAt (IsRowRun n e) k post) same
          (all_weaker (IsBehind n e) (IsRowRun n e) e post (λ k l p q b. not_in_behind (suc n) e k p ∙ sym (leads_nowhere n e l.home b.apart)) behind)),
    )

-- ---- regions

-- a home before the row, and none of this region or a later one of row d
pub record IsBeforeRegion (d g k : ℕ) (l : Laid) : Type 0 where
  pub before : (h : Home) → l.home ≡ Some h → h.row < k
  pub earlier : (h : Home) → l.home ≡ Some h → h.row ≡ d → h.region < g

-- a home apart from the rows from one number to another, and none of this region or an earlier one of row d
pub record IsBehindRegion (d g s e k : ℕ) (l : Laid) : Type 0 where
  pub apart : (h : Home) → l.home ≡ Some h → (h.row < s) ⊎ (e ≤ h.row)
  pub later : (h : Home) → l.home ≡ Some h → h.row ≡ d → g < h.region

other_region : (d g : ℕ) (h : Home) → (h.row ≡ d → h.region ≡ g → ⊥) → home_eq (region d g) h ≡ false
other_region d g h never = by_row (d == h.row) (g == h.region) refl refl
  where
    by_row : (a b : Bool) → (d == h.row) ≡ a → (g == h.region) ≡ b → (a && b) ≡ false
    by_row false b p q = refl
    by_row true false p q = refl
    by_row true true p q = absurd (never (grind (arith, nat_tests)) (grind (arith, nat_tests)))

pub outside : (d g s e : ℕ) (o : Option Home) → ((h : Home) → o ≡ Some h → h.row ≡ d → h.region ≡ g → ⊥) → ((h : Home) → o ≡ Some h → (h.row < s) ⊎ (e ≤ h.row)) → leads_to_region (region d g) s e o ≡ false
outside d g s e None never apart = refl
outside d g s e (Some h) never apart = (λ i. other_region d g h (never h refl) i || is_between s e h.row) ∙ elim (apart h refl) [ inl p ↦ not_in s e h.row p | inr p ↦ not_in_behind s e h.row p ]

same_region : (d g : ℕ) → home_eq (region d g) (region d g) ≡ true
same_region d g = grind (arith, nat_tests)

inside : (d g s e k : ℕ) (l : Laid) → k < e → IsIn (region d g) s k l → leads_to_region (region d g) s e l.home ≡ true
inside d g s e k l q (inl is) = ap (leads_to_region (region d g) s e) is ∙ (λ i. same_region d g i || is_between s e d)
inside d g s e k l q (inr b) = ap (leads_to_region (region d g) s e) b.is ∙ ((λ i. home_eq (region d g) b.home || is_in s e b.home.row b.from (omega (arith, b.before, q)) i) ∙ always (home_eq (region d g) b.home))
  where
    always : (x : Bool) → (x || true) ≡ true
    always true = refl
    always false = refl

-- The rows of a region, between those before and those behind.
pub region_run : (pre post : List Laid) (d g n : ℕ) (os : Operations) → length pre ≡ n → AllAt (IsBeforeRegion d g) 0 pre → AllAt (IsBehindRegion d g n (n + operations_count os)) (n + operations_count os) post
    → AllAt (IsRegionRun (region d g) n (n + operations_count os)) 0 (pre ++ (laid_operations (region d g) n os ++ post))
region_run pre post d g n os long before behind =
    let e = n + operations_count os in
    let P = IsRegionRun (region d g) n e in
    from_start P n pre (laid_operations (region d g) n os ++ post) long
    (all_weaker (IsBeforeRegion d g) P 0 pre
    (λ k l p q b. not_in n e k (omega (arith, q, long)) ∙ sym (outside d g n e l.home (λ h is row at. absurd (omega (arith, b.earlier h is row, at))) (λ h is. inl (omega (arith, b.before h is, q, long)))))
    before)
    (all_behind P n (operations_count os) (laid_operations (region d g) n os) post (operations_length (region d g) n os)
    (all_weaker (IsIn (region d g) n) P n (laid_operations (region d g) n os)
    (λ k l p q b. is_in n e k p (omega (arith, q, operations_length (region d g) n os)) ∙ sym (inside d g n e k l (omega (arith, q, operations_length (region d g) n os)) b))
    (operations_homes (region d g) n os))
    (all_weaker (IsBehindRegion d g n e) P e post (λ k l p q b. not_in_behind n e k p ∙ sym (outside d g n e l.home (λ h is row at. absurd (omega (arith, b.later h is row, at))) b.apart)) behind))
