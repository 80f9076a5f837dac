-- The steps of the way through a tree.
use Rattle.std.proofs.Common.{◌≡◌, ℕ, suc, ◌+◌, ◌<◌, ◌≤◌, List, [], ◌∷◌, ◌++◌, length, drop, Option, Some, Result, Ok, Err, refl, sym, ap, subst, ◌∙◌, arith, slice_index_or}
use Rattle.mlir_tree.specs.declared.refusal.Refusal.{Refusal}
use Rattle.mlir_tree.specs.declared.refusal.Refusal.TheVariants as refusals
use Rattle.mlir_tree.specs.declared.row.Home.{Home}
use Rattle.mlir_tree.specs.declared.row.Row.{Row}
use Rattle.mlir_attributes.specs.declared.fault.ModFault.{ModFault}
use Rattle.mlir_parse.specs.declared.syn.SynRegion.{SynRegion}
use Rattle.mlir_parse.specs.SynTree.{Operation, operation, operations}
use Rattle.mlir_parse.specs.SynView.{region_tree}
use Rattle.mlir_parse.specs.SynSize.{operation_size, regions_size}
use Rattle.mlir_attributes.specs.Input.{Gives}
use Rattle.mlir_parse.specs.Limits.{operation_count, operations_count, region_operation_count, region_count, IsOperationKept, AreOperationsKept, AreRegionsKept}
use Rattle.mlir_resolve.specs.Scopes.{Fails, Leaves}
use Rattle.mlir_resolve.specs.Sight.{Definition}
use Rattle.mlir_resolve.specs.Walk.{State, after, head_of, regions_of, head_row, names_in, put_results, operation_walk, operations_walk, regions_walk, region_walk}
use Rattle.mlir_resolve.proofs.Trees.{drop_item, region_count_is}

abbrev pub behind_row : List Operation → List (List Definition) → Operation → State → Row → Result State ModFault
behind_row file outer o s row =
    after (regions_walk file (outer ++ s.0 ∷ []) (length s.1) 0 (regions_of o) (s.1 ++ row ∷ [])) (λ rows.
    after (put_results (length s.1) (head_of o) s.0) (λ scope. Ok (scope, rows)))

pub op_step : (file : List Operation) (outer : List (List Definition)) (home : Option Home) (o : Operation) (s : State)
    → operation_walk file outer home o s ≡ after (head_row (names_in file outer s.0) (length s.1) home o) (behind_row file outer o s)
unfolding operation_walk
op_step file outer home (operation h rs) s = refl

pub ops_step : (file : List Operation) (outer : List (List Definition)) (h : Home) (ops : List Operation) (i : ℕ) (o : Operation) (s : State)
    → i < length ops → o ≡ slice_index_or ops i o
    → operations_walk file outer h (operations (drop i ops)) s ≡ after (operation_walk file outer (Some h) o s) (operations_walk file outer h (operations (drop (i + 1) ops)))
unfolding operations_walk
ops_step file outer h ops i o s q p = ap (λ os. operations_walk file outer h (operations os) s) (drop_item ops i o q p)

pub no_ops : (file : List Operation) (outer : List (List Definition)) (h : Home) (s : State) → operations_walk file outer h (operations []) s ≡ Ok s
unfolding operations_walk
no_ops file outer h s = refl

pub regions_step : (file : List Operation) (outer : List (List Definition)) (d g : ℕ) (rs : List SynRegion) (r : SynRegion) (rows : List Row)
    → g < length rs → r ≡ slice_index_or rs g r
    → regions_walk file outer d g (region_tree (drop g rs)) rows
    ≡ after (region_walk file outer d g r.args (operations r.ops) rows) (regions_walk file outer d (g + 1) (region_tree (drop (g + 1) rs)))
unfolding regions_walk
regions_step file outer d g rs r rows q p =
    let e : suc g ≡ g + 1 = omega arith in
    ap (λ ts. regions_walk file outer d g (region_tree ts) rows) (drop_item rs g r q p)
    ∙ ap (λ n. after (region_walk file outer d g r.args (operations r.ops) rows) (regions_walk file outer d n (region_tree (drop (g + 1) rs)))) e

pub no_regions_left : (file : List Operation) (outer : List (List Definition)) (d g : ℕ) (rows : List Row) → regions_walk file outer d g (region_tree []) rows ≡ Ok rows
unfolding regions_walk
no_regions_left file outer d g rows = refl

-- ---- steps that fail

pub fails_after : {A B : Type 0} → (e : Refusal ModFault) (m : Result A ModFault) (f : A → Result B ModFault) → Fails e m → Fails e (after m f)
fails_after refusals.NoMemory m f p = tt
fails_after (refusals.Fault g) m f p = ap (λ r. after r f) p

gives_fails : {A : Type 0} → (e : Refusal ModFault) (m : Result A ModFault) → Gives (Err e) m → Fails e m
gives_fails refusals.NoMemory m p = tt
gives_fails (refusals.Fault g) m p = p

pub fails_at : {A : Type 0} → (e : Refusal ModFault) (m n : Result A ModFault) → m ≡ n → Fails e m → Fails e n
fails_at e m n p q = subst (Fails e) p q

leaves_after : (m : Result (List Definition) ModFault) (r : Result (Unit {0}) (Refusal ModFault)) (scope : List Definition) (rows : List Row)
    → Leaves m r scope → Leaves {A = State} (after m (λ (sc : List Definition). Ok (sc, rows))) r (scope, rows)
leaves_after m (Ok u) scope rows p = ap (λ r. after r (λ (sc : List Definition). Ok (sc, rows))) p
leaves_after m (Err e) scope rows p = fails_after e m (λ (sc : List Definition). Ok (sc, rows)) p

leaves_at : {A : Type 0} → (m n : Result A ModFault) (r : Result (Unit {0}) (Refusal ModFault)) (a : A) → m ≡ n → Leaves m r a → Leaves n r a
leaves_at m n r a p q = subst (λ x. Leaves x r a) p q

-- ---- one operation

module _ (file : List Operation) (outer xs : List (List Definition)) (home : Option Home) (o : Operation) (s : State) (n : ℕ) (same : xs ≡ outer) (is_n : n ≡ length s.1) where
  row_at : head_row (names_in file xs s.0) n home o ≡ head_row (names_in file outer s.0) (length s.1) home o
  row_at = λ i. head_row (names_in file (same i) s.0) (is_n i) home o

  pub row_fails : (e : Refusal ModFault) → Gives (Err e) (head_row (names_in file xs s.0) n home o) → Fails e (operation_walk file outer home o s)
  row_fails e p =
      fails_at e _ _ (sym (op_step file outer home o s))
      (fails_after e (head_row (names_in file outer s.0) (length s.1) home o) (behind_row file outer o s) (fails_at e _ _ row_at (gives_fails e _ p)))

  module _ (row : Row) (rows : List Row) (rs : List SynRegion) (is_row : head_row (names_in file xs s.0) n home o ≡ Ok row) (is_rows : rows ≡ s.1 ++ row ∷ []) (are : region_tree rs ≡ regions_of o) where
    abbrev walk_inside : Result (List Row) ModFault
    walk_inside = regions_walk file (outer ++ s.0 ∷ []) n 0 (region_tree rs) rows

    abbrev results_behind : List Row → Result State ModFault
    results_behind more = after (put_results (length s.1) (head_of o) s.0) (λ scope. Ok (scope, more))

    pub row_stands : operation_walk file outer home o s ≡ after walk_inside results_behind
    row_stands =
        op_step file outer home o s
        ∙ (ap (λ r. after r (behind_row file outer o s)) (sym row_at ∙ is_row)
        ∙ (λ i. after (regions_walk file (outer ++ s.0 ∷ []) (sym is_n i) 0 (sym are i) (sym is_rows i)) results_behind))

    pub inner_fails : (e : Refusal ModFault) → Fails e walk_inside → Fails e (operation_walk file outer home o s)
    inner_fails e p = fails_at e _ _ (sym row_stands) (fails_after e walk_inside results_behind p)

    pub results_leave : (more : List Row) → walk_inside ≡ Ok more → (scope left : List Definition) → scope ≡ s.0 → (r : Result (Unit {0}) (Refusal ModFault))
        → Leaves (put_results n (head_of o) scope) r left → Leaves {A = State} (operation_walk file outer home o s) r (left, more)
    results_leave more w scope left p r q =
        leaves_at {A = State} _ _ r (left, more) (sym (row_stands ∙ ap (λ x. after x results_behind) w))
        (leaves_after (put_results (length s.1) (head_of o) s.0) r left more (leaves_at _ _ r left (λ i. put_results (is_n i) (head_of o) (p i)) q))

-- ---- what is left of an operation, and of lists

pub size_of : (o : Operation) (rs : List SynRegion) → region_tree rs ≡ regions_of o → operation_size o ≡ regions_size (region_tree rs) + 1
size_of (operation h ts) rs p = ap (λ t. regions_size t + 1) (sym p)

pub count_of : (o : Operation) (rs : List SynRegion) → region_tree rs ≡ regions_of o → operation_count o ≡ suc (region_operation_count (region_tree rs))
count_of (operation h ts) rs p = ap (λ t. suc (region_operation_count t)) (sym p)

pub kept_of : (o : Operation) (rs : List SynRegion) → region_tree rs ≡ regions_of o → IsOperationKept o → (length rs ≤ 65535) × AreRegionsKept (region_tree rs)
kept_of (operation h ts) rs p k =
    let e = sym (region_count_is rs) ∙ ap region_count p in
    (omega (arith, e, k.0.regions), subst AreRegionsKept (sym p) k.1)

pub ops_count : (ops : List Operation) (i : ℕ) (o : Operation) → i < length ops → o ≡ slice_index_or ops i o
    → operations_count (operations (drop i ops)) ≡ operation_count o + operations_count (operations (drop (i + 1) ops))
ops_count ops i o q p = ap (λ os. operations_count (operations os)) (drop_item ops i o q p)

pub ops_kept : (ops : List Operation) (i : ℕ) (o : Operation) → i < length ops → o ≡ slice_index_or ops i o → AreOperationsKept (operations (drop i ops))
    → IsOperationKept o × AreOperationsKept (operations (drop (i + 1) ops))
ops_kept ops i o q p k = subst (λ os. AreOperationsKept (operations os)) (drop_item ops i o q p) k

pub regions_count : (rs : List SynRegion) (g : ℕ) (r : SynRegion) → g < length rs → r ≡ slice_index_or rs g r
    → region_operation_count (region_tree (drop g rs)) ≡ operations_count (operations r.ops) + region_operation_count (region_tree (drop (g + 1) rs))
regions_count rs g r q p = ap (λ ts. region_operation_count (region_tree ts)) (drop_item rs g r q p)

pub regions_kept : (rs : List SynRegion) (g : ℕ) (r : SynRegion) → g < length rs → r ≡ slice_index_or rs g r → AreRegionsKept (region_tree (drop g rs))
    → (length r.args ≤ 65535) × AreOperationsKept (operations r.ops) × AreRegionsKept (region_tree (drop (g + 1) rs))
regions_kept rs g r q p k = subst (λ ts. AreRegionsKept (region_tree ts)) (drop_item rs g r q p) k
