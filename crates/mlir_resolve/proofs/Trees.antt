-- Items of lists of operations and of regions.
use Rattle.std.proofs.Common.{◌≡◌, ◌<◌, ◌≤◌, ◌+◌, ℕ, zero, suc, List, [], ◌∷◌, length, drop, refl, sym, ap, ◌∙◌, arith, slice_index_or}
use Rattle.mlir_parse.specs.declared.syn.SynRegion.{SynRegion}
use Rattle.mlir_parse.specs.SynTree.{Operation, operations}
use Rattle.mlir_parse.specs.SynView.{region_tree}
use Rattle.mlir_parse.specs.Limits.{region_count}
use Rattle.mlir_parse.specs.SynSize.{operation_size, operations_size, regions_size}

pub operation_item : (os : List Operation) (i : ℕ) (o : Operation) → i < length os → o ≡ slice_index_or os i o → operation_size o + 1 ≤ operations_size (operations os)
operation_item [] i o q p = absurd (omega arith)
operation_item (x ∷ os) zero o q p = let f = ap operation_size p in omega (arith, f)
operation_item (x ∷ os) (suc i) o q p = omega (arith, operation_item os i o (omega arith) p)

region_has_size : (rs : List SynRegion) → 1 ≤ regions_size (region_tree rs)
region_has_size [] = omega arith
region_has_size (r ∷ rs) = omega arith

pub region_item : (rs : List SynRegion) (i : ℕ) (r : SynRegion) → i < length rs → r ≡ slice_index_or rs i r → operations_size (operations r.ops) + 2 ≤ regions_size (region_tree rs)
region_item [] i r q p = absurd (omega arith)
region_item (x ∷ rs) zero r q p = let f = ap (λ (y : SynRegion). operations_size (operations y.ops)) p in omega (arith, f, region_has_size rs)
region_item (x ∷ rs) (suc i) r q p = omega (arith, region_item rs i r (omega arith) p)

drop_here : {A : Type 0} → (xs : List A) (i : ℕ) (x : A) → i < length xs → x ≡ slice_index_or xs i x → drop i xs ≡ x ∷ drop (suc i) xs
drop_here [] i x q p = absurd (omega arith)
drop_here (y ∷ xs) zero x q p = ap (λ z. z ∷ xs) (sym p)
drop_here (y ∷ xs) (suc i) x q p = drop_here xs i x (omega arith) p

-- what is left from an item on is the item and what follows
pub drop_item : {A : Type 0} → (xs : List A) (i : ℕ) (x : A) → i < length xs → x ≡ slice_index_or xs i x → drop i xs ≡ x ∷ drop (i + 1) xs
drop_item xs i x q p = let e : suc i ≡ i + 1 = omega arith in drop_here xs i x q p ∙ ap (λ n. x ∷ drop n xs) e

pub region_count_is : (rs : List SynRegion) → region_count (region_tree rs) ≡ length rs
region_count_is [] = refl
region_count_is (r ∷ rs) = ap (λ n. suc n) (region_count_is rs)
