-- The names of results that are put.
use Rattle.std.proofs.Common.{◌≡◌, ◌+◌, ℕ, Bool, true, false, ◌&&◌, List, [], ◌∷◌, ◌++◌, length, Option, Some, None, Ok, refl, sym, ap, subst, ◌∙◌, arith, append_assoc, append-nil}
use Rattle.std.specs.Prelude.{◌==◌, nat_lt, drop, sum_by, if◌then◌else◌}
use Rattle.std.specs.List.{list_all}
use Rattle.std.specs.Option.{is_some}
use Rattle.mlir_tree.specs.declared.value.Val.TheVariants.{Res}
use Rattle.mlir_tree.specs.Tree.{Ty}
use Rattle.mlir_attributes.specs.declared.fault.ModFault.{ModFault}
use Rattle.mlir_parse.specs.declared.syn.SynResult.{SynResult}
use Rattle.mlir_parse.specs.SynTree.{Head}
use Rattle.mlir_resolve.specs.Sight.{Definition, result_definitions}
use Rattle.mlir_resolve.specs.Scopes.{find_name}
use Rattle.mlir_resolve.specs.Resolving.{Twice, names_fault, results_fault, result_count_fault, are_counted, or_then}
use Rattle.mlir_resolve.specs.Walk.{unless, put_names, put_results, result_definition}
use Rattle.mlir_resolve.proofs.Earlier.{ArePositive, first_positive, total}
use Rattle.mlir_resolve.proofs.Entering.{one_put}

abbrev left_types : List SynResult → List Ty → List Ty
left_types [] ts = ts
left_types (r ∷ rs) ts = left_types rs (drop r.count ts)

left_more : (taken : List SynResult) (r : SynResult) (ts : List Ty) → left_types (taken ++ r ∷ []) ts ≡ drop r.count (left_types taken ts)
left_more [] r ts = refl
left_more (t ∷ taken) r ts = left_more taken r (drop t.count ts)

total_more : (taken : List SynResult) (r : SynResult) → total (taken ++ r ∷ []) ≡ total taken + r.count
total_more [] r = omega arith
total_more (t ∷ taken) r = omega (arith, total_more taken r)

results_more : (n at : ℕ) (taken : List SynResult) (r : SynResult) (ts : List Ty)
    → result_definitions n at taken ts ++ result_definition n (at + total taken) r (left_types taken ts) ∷ [] ≡ result_definitions n at (taken ++ r ∷ []) ts
results_more n at [] r ts = let e : at + 0 ≡ at = omega arith in ap (λ j. result_definition n j r ts ∷ []) e
results_more n at (t ∷ taken) r ts =
    let e : at + (t.count + total taken) ≡ at + t.count + total taken = omega arith in
    ap (λ ds. result_definition n at t ts ∷ ds)
    (ap (λ j. result_definitions n (at + t.count) taken (drop t.count ts) ++ result_definition n j r (left_types taken (drop t.count ts)) ∷ []) e ∙ results_more n (at + t.count) taken r (drop t.count ts))

names_law : (twice : Twice) (n k : ℕ) (taken rs : List SynResult) (ts : List Ty) (base : List Definition) → total taken ≡ k
    → ((before : List SynResult) (r : SynResult) (behind : List SynResult) → taken ++ rs ≡ before ++ r ∷ behind → twice r.name (Res n (total before)) ≡ is_some (find_name r.name (base ++ result_definitions n 0 before ts)))
    → put_names n k rs (left_types taken ts) (base ++ result_definitions n 0 taken ts) ≡ unless (names_fault twice n k rs) (Ok (base ++ result_definitions n 0 (taken ++ rs) ts))
names_law twice n k taken [] ts base e is = ap (λ rs. Ok (base ++ result_definitions n 0 rs ts)) (sym (append-nil taken))
names_law twice n k taken (r ∷ rs) ts base e is =
    let whole = append_assoc taken (r ∷ []) rs in
    let rest = names_law twice n (k + r.count) (taken ++ r ∷ []) rs ts base (total_more taken r ∙ ap (λ j. j + r.count) e) (λ before x behind p. is before x behind (sym whole ∙ p)) in
    let at : k ≡ 0 + total taken = omega (arith, e) in
    let scope = append_assoc base (result_definitions n 0 taken ts) (result_definition n k r (left_types taken ts) ∷ [])
    ∙ ap (λ ds. base ++ ds) ((λ i. result_definitions n 0 taken ts ++ result_definition n (at i) r (left_types taken ts) ∷ []) ∙ results_more n 0 taken r ts) in
    let same = sym (is taken r rs refl) ∙ ap (λ j. twice r.name (Res n j)) e in
    one_put _ (twice r.name (Res n k)) r.at ((base ++ result_definitions n 0 taken ts) ++ result_definition n k r (left_types taken ts) ∷ []) (put_names n (k + r.count) rs (drop r.count (left_types taken ts))) (names_fault twice n (k + r.count) rs) (base ++ result_definitions n 0 (taken ++ r ∷ rs) ts)
    same
    ((λ i. put_names n (k + r.count) rs (sym (left_more taken r ts) i) (scope i))
    ∙ (rest ∙ ap (λ xs. unless (names_fault twice n (k + r.count) rs) (Ok (base ++ result_definitions n 0 xs ts))) whole))

-- ---- counts

fault_or_none : (b : Bool) (f : Option ModFault) (e : ModFault) → f ≡ (if b then None else Some e) → f ≡ None → b ≡ true
fault_or_none true f e p q = refl
fault_or_none false f e p q = absurd (let r = sym p ∙ q in cc)

pub counted_positive : (rs : List SynResult) (ts : List Ty) → result_count_fault rs ts ≡ None → ArePositive rs
counted_positive [] ts p = refl
counted_positive (r ∷ rs) ts p = (first_positive (list_all (λ (x : SynResult). nat_lt 0 x.count) (r ∷ rs)) (sum_by (λ (x : SynResult). x.count) (r ∷ rs) == length ts) (fault_or_none (are_counted (r ∷ rs) ts) _ _ refl p)).0

pub positive_front : (xs ys : List SynResult) → ArePositive (xs ++ ys) → ArePositive xs
positive_front [] ys p = refl
positive_front (x ∷ xs) ys p =
    let q = first_positive (nat_lt 0 x.count) (list_all (λ (r : SynResult). nat_lt 0 r.count) (xs ++ ys)) p in
    λ i. q.0 i && positive_front xs ys q.1 i

by_count : (twice : Twice) (n : ℕ) (h : Head) (base : List Definition) (c : Option ModFault)
    → (c ≡ None → put_names n 0 h.results h.result_types base ≡ unless (names_fault twice n 0 h.results) (Ok (base ++ result_definitions n 0 h.results h.result_types)))
    → unless c (put_names n 0 h.results h.result_types base) ≡ unless (or_then c (names_fault twice n 0 h.results)) (Ok (base ++ result_definitions n 0 h.results h.result_types))
by_count twice n h base None f = f refl
by_count twice n h base (Some e) f = refl

pub results_law : (twice : Twice) (n : ℕ) (h : Head) (base : List Definition)
    → ((before : List SynResult) (r : SynResult) (behind : List SynResult) → h.results ≡ before ++ r ∷ behind → ArePositive before → twice r.name (Res n (total before)) ≡ is_some (find_name r.name (base ++ result_definitions n 0 before h.result_types)))
    → put_results n h base ≡ unless (results_fault twice n h) (Ok (base ++ result_definitions n 0 h.results h.result_types))
unfolding put_results results_fault
results_law twice n h base is =
    by_count twice n h base (result_count_fault h.results h.result_types) (λ c.
    let pos = counted_positive h.results h.result_types c in
    ap (put_names n 0 h.results h.result_types) (sym (append-nil base))
    ∙ names_law twice n 0 [] h.results h.result_types base refl (λ before r behind p. is before r behind p (positive_front before (r ∷ behind) (subst ArePositive p pos))))
