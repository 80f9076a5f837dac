-- Each row of a tree has its run of numbers, and so has each of its regions.
use Rattle.std.proofs.Common.{◌≡◌, ◌<◌, ◌≤◌, ◌+◌, ℕ, zero, suc, inl, inr, List, [], ◌∷◌, ◌++◌, length, Option, Some, None, refl, sym, ap, subst, ◌∙◌, arith, append_assoc, append-nil, get_or}
use Rattle.std.proofs.lemmas.List.{length-append}
use Rattle.mlir_tree.specs.declared.row.Home.{Home}
use Rattle.mlir_parse.specs.SynTree.{Operation, operation, Regions, no_regions, region_then, Operations, no_operations, operation_then}
use Rattle.mlir_parse.specs.Limits.{operation_count, region_operation_count, operations_count}
use Rattle.mlir_resolve.specs.Laid.{Laid, arguments_of, region, laid_operation, laid_regions, laid_operations}
use Rattle.mlir_resolve.proofs.Spans.{AllAt, all_weaker, all_behind, from_start, operation_length, regions_length, operations_length, IsBetween, IsIn, IsOf, region_start, IsRowRun, IsRegionRun, IsBefore, IsBehind, IsBeforeRegion, IsBehindRegion, not_in, not_in_behind, outside, operation_homes, operations_homes, inner_homes, regions_homes, row_run, region_run}

-- The numbers of the rows inside a row, and of those inside each of its regions.
pub record Facts (ls : List Laid) (d : ℕ) (l : Laid) : Type 0 where
  pub end : ℕ
  pub start : ℕ → ℕ
  pub begins : start 0 ≡ suc d
  pub beyond : d < end
  pub rises : (g : ℕ) → start g ≤ start (suc g)
  pub still : (g : ℕ) → length l.arguments ≤ g → start g ≡ start (suc g)
  pub rows : AllAt (IsRowRun d end) 0 ls
  pub regions : (g : ℕ) → AllAt (IsRegionRun (region d g) (start g) (start (suc g))) 0 ls

-- ---- where regions begin

pub first_start : (n : ℕ) (rs : Regions) → region_start n rs 0 ≡ n
first_start n no_regions = refl
first_start n (region_then args os rs) = refl

start_rises : (n : ℕ) (rs : Regions) (g : ℕ) → region_start n rs g ≤ region_start n rs (suc g)
start_rises n no_regions g = omega arith
start_rises n (region_then args os rs) zero = omega (arith, first_start (n + operations_count os) rs)
start_rises n (region_then args os rs) (suc g) = start_rises (n + operations_count os) rs g

start_stays : (n : ℕ) (rs : Regions) (g : ℕ) → length (arguments_of rs) ≤ g → region_start n rs g ≡ region_start n rs (suc g)
start_stays n no_regions g le = refl
start_stays n (region_then args os rs) zero le = absurd (omega (arith, le))
start_stays n (region_then args os rs) (suc g) le = start_stays (n + operations_count os) rs g (omega (arith, le))

-- ---- regions

-- rows behind a row: their homes are before it, or behind its end
weaker_behind : (s e s' e' k : ℕ) (l : Laid) → s ≤ s' → e' ≤ e → IsBehind s e k l → IsBehind s' e' k l
weaker_behind s e s' e' k l p q b = record { apart = λ h is. elim (b.apart h is) [ inl x ↦ inl (omega (arith, x, p)) | inr x ↦ inr (omega (arith, x, q)) ] }

-- what the rows of later regions are to a region
later_regions : (d g n k : ℕ) (s : ℕ) (l : Laid) → d < s → d < n → IsOf d (suc g) n k l → IsBehindRegion d g s n k l
later_regions d g n k s l p q (inl own) = record {
  apart = λ h is. inl (omega (arith, row_is h is, p));
  later = λ h is row. omega (arith, region_is h is);
}
  where
    row_is : (h : Home) → l.home ≡ Some h → h.row ≡ d
    row_is h is = let same : own.home ≡ h = (let e : Some own.home ≡ Some h = sym own.is ∙ is in cc) in ap (λ (x : Home). x.row) (sym same) ∙ own.row

    region_is : (h : Home) → l.home ≡ Some h → g < h.region
    region_is h is = let same : own.home ≡ h = (let e : Some own.home ≡ Some h = sym own.is ∙ is in cc) in omega (arith, ap (λ (x : Home). x.region) same, own.from)
later_regions d g n k s l p q (inr b) = record {
  apart = λ h is. inr (omega (arith, row_from h is));
  later = λ h is row. absurd (omega (arith, row_from h is, row, q));
}
  where
    row_from : (h : Home) → l.home ≡ Some h → n ≤ h.row
    row_from h is = let same : b.home ≡ h = (let e : Some b.home ≡ Some h = sym b.is ∙ is in cc) in omega (arith, ap (λ (x : Home). x.row) same, b.from)

-- what rows behind the whole row are to one of its regions
behind_all : (d g s n e k : ℕ) (l : Laid) → d < s → d < e → n ≤ e → IsBehind d e k l → IsBehindRegion d g s n k l
behind_all d g s n e k l p q r b = record {
  apart = λ h is. elim (b.apart h is) [ inl x ↦ inl (omega (arith, x, p)) | inr x ↦ inr (omega (arith, x, r)) ];
  later = λ h is row. absurd (elim (b.apart h is) [ inl x ↦ omega (arith, x, row) | inr x ↦ omega (arith, x, row, q) ]);
}

-- what the rows of a region are to the next region
region_before : (d g n k : ℕ) (l : Laid) → d < n → n ≤ k → IsIn (region d g) n k l → IsBeforeRegion d (suc g) k l
region_before d g n k l p q (inl e) = record {
  before = λ h is. omega (arith, ap (λ (x : Home). x.row) (same h is), p, q);
  earlier = λ h is row. omega (arith, ap (λ (x : Home). x.region) (same h is));
}
  where
    same : (h : Home) → l.home ≡ Some h → region d g ≡ h
    same h is = let x : Some (region d g) ≡ Some h = sym e ∙ is in cc
region_before d g n k l p q (inr b) = record {
  before = λ h is. omega (arith, ap (λ (x : Home). x.row) (same h is), b.before);
  earlier = λ h is row. absurd (omega (arith, ap (λ (x : Home). x.row) (same h is), b.from, row, p));
}
  where
    same : (h : Home) → l.home ≡ Some h → b.home ≡ h
    same h is = let x : Some b.home ≡ Some h = sym b.is ∙ is in cc

longer : (d g k : ℕ) (l : Laid) → IsBeforeRegion d g k l → IsBeforeRegion d (suc g) k l
longer d g k l b = record { before = b.before; earlier = λ h is row. omega (arith, b.earlier h is row) }

-- Region i of those from g on.
pub region_facts : (ls pre post : List Laid) (d g n e : ℕ) (rs : Regions) (i : ℕ) → ls ≡ pre ++ (laid_regions d g n rs ++ post) → length pre ≡ n → d < n → e ≡ n + region_operation_count rs
    → AllAt (IsBeforeRegion d g) 0 pre → AllAt (IsBehind d e) e post → AllAt (IsRegionRun (region d (g + i)) (region_start n rs i) (region_start n rs (suc i))) 0 ls
unfolding laid_operation
region_facts ls pre post d g n e no_regions i is long inner end before behind =
    let P = IsRegionRun (region d (g + i)) n n in
    subst (AllAt P 0) (sym is)
    (from_start P n pre post long
    (all_weaker (IsBeforeRegion d g) P 0 pre
    (λ k l p q b. not_in n n k (omega (arith, q, long)) ∙ sym (outside d (g + i) n n l.home (λ h at row reg. absurd (omega (arith, b.earlier h at row, reg))) (λ h at. inl (omega (arith, b.before h at, q, long)))))
    before)
    (let same : e ≡ n = omega (arith, end) in
    subst (λ (k : ℕ). AllAt P k post) same
    (all_weaker (IsBehind d e) P e post
    (λ k l p q b. not_in_behind n n k (omega (arith, p, same))
    ∙ sym (outside d (g + i) n n l.home
    (λ h at row reg. absurd (elim (b.apart h at) [ inl x ↦ omega (arith, x, row) | inr x ↦ omega (arith, x, row, same, inner) ]))
    (λ h at. elim (b.apart h at) [ inl x ↦ inl (omega (arith, x, inner)) | inr x ↦ inr (omega (arith, x, same)) ])))
    behind)))
region_facts ls pre post d g n e (region_then args os rs) zero is long inner end before behind =
    let m = n + operations_count os in
    let same : g + 0 ≡ g = omega arith in
    let next : region_start m rs 0 ≡ m = first_start m rs in
    let moved : ls ≡ pre ++ (laid_operations (region d g) n os ++ (laid_regions d (suc g) m rs ++ post)) =
    is ∙ ap (λ l. pre ++ l) (append_assoc (laid_operations (region d g) n os) (laid_regions d (suc g) m rs) post) in
    subst (λ (k : ℕ). AllAt (IsRegionRun (region d (g + 0)) n k) 0 ls) (sym next)
    (subst (λ (k : ℕ). AllAt (IsRegionRun (region d k) n m) 0 ls) (sym same)
    (subst (AllAt (IsRegionRun (region d g) n m) 0) (sym moved)
    (region_run pre (laid_regions d (suc g) m rs ++ post) d g n os long before
    (all_behind (IsBehindRegion d g n m) m (region_operation_count rs) (laid_regions d (suc g) m rs) post (regions_length d (suc g) m rs)
    (all_weaker (IsOf d (suc g) m) (IsBehindRegion d g n m) m (laid_regions d (suc g) m rs) (λ k l p q o. later_regions d g m k n l inner (omega (arith, inner)) o) (regions_homes d (suc g) m rs))
    (let there : e ≡ m + region_operation_count rs = omega (arith, end) in
    subst (λ (k : ℕ). AllAt (IsBehindRegion d g n m) k post) there
    (all_weaker (IsBehind d e) (IsBehindRegion d g n m) e post (λ k l p q b. behind_all d g n m e k l inner (omega (arith, inner, there)) (omega (arith, there)) b) behind))))))
region_facts ls pre post d g n e (region_then args os rs) (suc i) is long inner end before behind =
    let m = n + operations_count os in
    let mine = laid_operations (region d g) n os in
    let same : suc g + i ≡ g + suc i = omega arith in
    let moved : ls ≡ (pre ++ mine) ++ (laid_regions d (suc g) m rs ++ post) =
    is ∙ (ap (λ l. pre ++ l) (append_assoc mine (laid_regions d (suc g) m rs) post) ∙ sym (append_assoc pre mine (laid_regions d (suc g) m rs ++ post))) in
    subst (λ (k : ℕ). AllAt (IsRegionRun (region d k) (region_start m rs i) (region_start m rs (suc i))) 0 ls) same
    (region_facts ls (pre ++ mine) post d (suc g) m e rs i moved (length-append pre mine ∙ omega (arith, long, operations_length (region d g) n os)) (omega (arith, inner)) (omega (arith, end))
    (from_start (IsBeforeRegion d (suc g)) n pre mine long
    (all_weaker (IsBeforeRegion d g) (IsBeforeRegion d (suc g)) 0 pre (λ k l p q b. longer d g k l b) before)
    (all_weaker (IsIn (region d g) n) (IsBeforeRegion d (suc g)) n mine (λ k l p q b. region_before d g n k l inner p b) (operations_homes (region d g) n os)))
    behind)

-- ---- all rows

before_all : (d g k : ℕ) (l : Laid) → k < d → IsBefore k l → IsBeforeRegion d g k l
before_all d g k l p b = record { before = b.before; earlier = λ h is row. absurd (omega (arith, b.before h is, row, p)) }

-- what rows in the same region are to those before them
brother_before : (h : Home) (n k : ℕ) (l : Laid) → h.row < n → n ≤ k → IsIn h n k l → IsBefore k l
brother_before h n k l p q (inl e) = record { before = λ x is. let same : h ≡ x = (let y : Some h ≡ Some x = sym e ∙ is in cc) in omega (arith, ap (λ (y : Home). y.row) same, p, q) }
brother_before h n k l p q (inr b) = record { before = λ x is. let same : b.home ≡ x = (let y : Some b.home ≡ Some x = sym b.is ∙ is in cc) in omega (arith, ap (λ (y : Home). y.row) same, b.before) }

brother_behind : (h : Home) (s n k : ℕ) (l : Laid) → h.row < s → IsIn h n k l → IsBehind s n k l
brother_behind h s n k l p (inl e) = record { apart = λ x is. let same : h ≡ x = (let y : Some h ≡ Some x = sym e ∙ is in cc) in inl (omega (arith, ap (λ (y : Home). y.row) same, p)) }
brother_behind h s n k l p (inr b) = record { apart = λ x is. let same : b.home ≡ x = (let y : Some b.home ≡ Some x = sym b.is ∙ is in cc) in inr (omega (arith, ap (λ (y : Home). y.row) same, b.from)) }

region_behind : (d g s n k : ℕ) (l : Laid) → d < s → IsOf d g n k l → IsBehind s n k l
region_behind d g s n k l p (inl own) = record { apart = λ x is. let same : own.home ≡ x = (let y : Some own.home ≡ Some x = sym own.is ∙ is in cc) in inl (omega (arith, ap (λ (y : Home). y.row) same, own.row, p)) }
region_behind d g s n k l p (inr b) = record { apart = λ x is. let same : b.home ≡ x = (let y : Some b.home ≡ Some x = sym b.is ∙ is in cc) in inr (omega (arith, ap (λ (y : Home). y.row) same, b.from)) }

mutual
  unfolding laid_operation

  -- e is where the rows of the operation end
  pub operation_facts : (ls pre post : List Laid) (n e : ℕ) (home : Option Home) (o : Operation) → ls ≡ pre ++ (laid_operation n home o ++ post) → length pre ≡ n → e ≡ n + operation_count o
      → ((h : Home) → home ≡ Some h → h.row < n) → AllAt IsBefore 0 pre → AllAt (IsBehind n e) e post → AllAt (Facts ls) n (laid_operation n home o)
  operation_facts ls pre post n e home (operation h rs) is long end own before behind =
      let row : Laid = record { id = n; home = home; head = h; arguments = arguments_of rs } in
      let inside = laid_regions n 0 (suc n) rs in
      let c = n + operation_count (operation h rs) in
      let moved : ls ≡ (pre ++ row ∷ []) ++ (inside ++ post) = is ∙ sym (append_assoc pre (row ∷ []) (inside ++ post)) in
      let longer_by_one : length (pre ++ row ∷ []) ≡ suc n = length-append pre (row ∷ []) ∙ omega (arith, long) in
      let ends : e ≡ suc n + region_operation_count rs = omega (arith, end) in (
        record {
          end = c;
          start = region_start (suc n) rs;
          begins = first_start (suc n) rs;
          beyond = omega arith;
          rises = start_rises (suc n) rs;
          still = start_stays (suc n) rs;
          rows = subst (AllAt (IsRowRun n c) 0) (sym is) (row_run pre post n home h rs long own before (subst (λ (k : ℕ). AllAt (IsBehind n k) k post) end behind));
          regions = λ g. let same : 0 + g ≡ g = omega arith in subst (λ (k : ℕ). AllAt (IsRegionRun (region n k) (region_start (suc n) rs g) (region_start (suc n) rs (suc g))) 0 ls) same (region_facts ls (pre ++ row ∷ []) post n 0 (suc n) e rs g moved longer_by_one (omega arith) ends
              (from_start (IsBeforeRegion n 0) n pre (row ∷ []) long (all_weaker IsBefore (IsBeforeRegion n 0) 0 pre (λ k l p q b. before_all n 0 k l (omega (arith, q, long)) b) before)
              (record { before = own; earlier = λ x at same. absurd (omega (arith, own x at, same)) }, tt))
              behind);
        },
        regions_facts ls (pre ++ row ∷ []) post n 0 (suc n) e rs moved longer_by_one (omega arith) ends
            (from_start IsBefore n pre (row ∷ []) long before (record { before = own }, tt)) behind,
      )

  regions_facts : (ls pre post : List Laid) (d g n e : ℕ) (rs : Regions) → ls ≡ pre ++ (laid_regions d g n rs ++ post) → length pre ≡ n → d < n → e ≡ n + region_operation_count rs
      → AllAt IsBefore 0 pre → AllAt (IsBehind d e) e post → AllAt (Facts ls) n (laid_regions d g n rs)
  regions_facts ls pre post d g n e no_regions is long inner end before behind = tt
  regions_facts ls pre post d g n e (region_then args os rs) is long inner end before behind =
      let m = n + operations_count os in
      let mine = laid_operations (region d g) n os in
      let rest = laid_regions d (suc g) m rs in
      let ends : e ≡ m + region_operation_count rs = omega (arith, end) in
      all_behind (Facts ls) n (operations_count os) mine rest (operations_length (region d g) n os)
      (operations_facts ls pre (rest ++ post) (region d g) n m os (is ∙ ap (λ l. pre ++ l) (append_assoc mine rest post)) long inner refl before
      (all_behind (IsBehind n m) m (region_operation_count rs) rest post (regions_length d (suc g) m rs)
      (all_weaker (IsOf d (suc g) m) (IsBehind n m) m rest (λ k l p q o. region_behind d (suc g) n m k l inner o) (regions_homes d (suc g) m rs))
      (subst (λ (k : ℕ). AllAt (IsBehind n m) k post) ends (all_weaker (IsBehind d e) (IsBehind n m) e post (λ k l p q b. weaker_behind d e n m k l (omega (arith, inner)) (omega (arith, ends)) b) behind))))
      (regions_facts ls (pre ++ mine) post d (suc g) m e rs
      (is ∙ (ap (λ l. pre ++ l) (append_assoc mine rest post) ∙ sym (append_assoc pre mine (rest ++ post))))
      (length-append pre mine ∙ omega (arith, long, operations_length (region d g) n os)) (omega (arith, inner)) ends
      (from_start IsBefore n pre mine long before (all_weaker (IsIn (region d g) n) IsBefore n mine (λ k l p q b. brother_before (region d g) n k l inner p b) (operations_homes (region d g) n os)))
      behind)

  operations_facts : (ls pre post : List Laid) (h : Home) (n e : ℕ) (os : Operations) → ls ≡ pre ++ (laid_operations h n os ++ post) → length pre ≡ n → h.row < n → e ≡ n + operations_count os
      → AllAt IsBefore 0 pre → AllAt (IsBehind n e) e post → AllAt (Facts ls) n (laid_operations h n os)
  operations_facts ls pre post h n e no_operations is long inner end before behind = tt
  operations_facts ls pre post h n e (operation_then o os) is long inner end before behind =
      let m = n + operation_count o in
      let mine = laid_operation n (Some h) o in
      let rest = laid_operations h m os in
      let ends : e ≡ m + operations_count os = omega (arith, end) in
      all_behind (Facts ls) n (operation_count o) mine rest (operation_length n (Some h) o)
      (operation_facts ls pre (rest ++ post) n m (Some h) o (is ∙ ap (λ l. pre ++ l) (append_assoc mine rest post)) long refl
      (λ x at. let same : h ≡ x = cc in omega (arith, ap (λ (y : Home). y.row) same, inner)) before
      (all_behind (IsBehind n m) m (operations_count os) rest post (operations_length h m os)
      (all_weaker (IsIn h m) (IsBehind n m) m rest (λ k l p q b. brother_behind h n m k l inner b) (operations_homes h m os))
      (subst (λ (k : ℕ). AllAt (IsBehind n m) k post) ends (all_weaker (IsBehind n e) (IsBehind n m) e post (λ k l p q b. weaker_behind n e n m k l (omega arith) (omega (arith, ends)) b) behind))))
      (operations_facts ls (pre ++ mine) post h m e os
      (is ∙ (ap (λ l. pre ++ l) (append_assoc mine rest post) ∙ sym (append_assoc pre mine (rest ++ post))))
      (length-append pre mine ∙ omega (arith, long, operation_length n (Some h) o)) (omega (arith, inner)) ends
      (from_start IsBefore n pre mine long before (all_weaker (IsIn h n) IsBefore n mine (λ k l p q b. brother_before h n k l inner p b) (operation_homes h n o)))
      (all_weaker (IsBehind n e) (IsBehind m e) e post (λ k l p q b. weaker_behind n e m e k l (omega arith) (omega arith) b) behind))

-- Each row of a whole tree.
pub tree_facts : (o : Operation) → AllAt (Facts (laid_operation 0 None o)) 0 (laid_operation 0 None o)
tree_facts o =
    let ls = laid_operation 0 None o in
    operation_facts ls [] [] 0 (operation_count o) None o (sym (append-nil ls)) refl (omega arith) (λ h is. absurd (cc)) tt tt

-- Each home is that of an earlier row.
pub homes_before : (o : Operation) → AllAt IsBefore 0 (laid_operation 0 None o)
unfolding laid_operation
homes_before (operation h rs) = (
  record { before = λ x is. absurd (cc) },
  all_weaker (IsBetween 0) IsBefore 1 (laid_regions 0 0 1 rs) (λ k l p q b. record { before = λ x is. let same : b.home ≡ x = (let y : Some b.home ≡ Some x = sym b.is ∙ is in cc) in omega (arith, ap (λ (y : Home). y.row) same, b.before) }) (inner_homes 0 rs),
)

-- What is a fact of each row is one of the row at a place.
pub fact_at : (P : ℕ → Laid → Type 0) (n : ℕ) (ls : List Laid) (i : ℕ) (d : Laid) → AllAt P n ls → i < length ls → P (n + i) (get_or ls i d)
fact_at P n [] i d all l = absurd (omega (arith, l))
fact_at P n (x ∷ ls) zero d all l = let same : n ≡ n + 0 = omega arith in subst (λ (k : ℕ). P k x) same all.0
fact_at P n (x ∷ ls) (suc i) d all l = let same : suc n + i ≡ n + suc i = omega arith in subst (λ (k : ℕ). P k (get_or ls i d)) same (fact_at P (suc n) ls i d all.1 (omega (arith, l)))

pub fact_of : (P : ℕ → Laid → Type 0) (ls : List Laid) (i : ℕ) (d : Laid) → AllAt P 0 ls → i < length ls → P i (get_or ls i d)
fact_of P ls i d all l = let same : 0 + i ≡ i = omega arith in subst (λ (k : ℕ). P k (get_or ls i d)) same (fact_at P 0 ls i d all l)
