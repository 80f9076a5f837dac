-- The operations that are read are the rows of the tree, one by one in text order.
use Rattle.std.proofs.Common.{◌≡◌, ℕ, zero, suc, ◌+◌, cond, List, [], ◌∷◌, ◌++◌, length, refl, ap, sym, subst, ◌∙◌, arith, append_assoc, length-append, Option, Some, eq-eqb}
use Rattle.std.specs.Prelude.{slice_get, unwrap_or}
use Rattle.std.specs.Option.{option_map}
use Rattle.std.specs.List.{IsDistinct}
use Rattle.std.proofs.lemmas.Option.{same_Some}
use Rattle.mlir_tree.specs.declared.row.Home.{Home}
use Rattle.mlir_tree.specs.declared.row.Row.{Row}
use Rattle.mlir_tree.specs.Tree.{Ty}
use Rattle.mlir_tree.specs.WellFormed.{AreDistinct}
use Rattle.mlir_print.specs.Numbering.{place_of}
use Rattle.mlir_tree.proofs.Places.{IsAt, nothing_at, apart_at}
use Rattle.mlir_parse.specs.declared.syn.SynArg.{SynArg}
use Rattle.mlir_parse.specs.SynTree.{Operation, operation, Regions, no_regions, region_then, Operations, no_operations, operation_then}
use Rattle.mlir_parse.specs.Limits.{operation_count, region_operation_count, operations_count}
use Rattle.mlir_resolve.specs.Laid.{Laid, arguments_of, region, laid_operation, laid_regions, laid_operations}
use Rattle.round_trip.specs.Renumbering.{new_number, new_home}
use Rattle.round_trip.proofs.Parts.{Fits}
use Rattle.round_trip.proofs.RowTree.{Tree, node, Branches, no_branches, branch_then, Trees, no_trees, tree_then, arguments_in, IsHeadOf, IsArgumentOf, IsTreeOf, AreBranchesOf, AreTreesOf}
use Rattle.round_trip.proofs.Forest.{flat, flat_branches, flat_trees, IsSound, AreRegionsSound, AreSound}

-- ---- places

pub place_at : (rows : List Row) → AreDistinct rows → (k : ℕ) (r : Row) → IsAt rows k r → place_of rows r.id ≡ Some k
unfolding IsDistinct
place_at [] apart k r at_r = absurd (nothing_at k r at_r)
place_at (x ∷ rows) apart zero r at_r =
    ap (λ b. cond b (Some 0) (option_map suc (place_of rows r.id))) (eq-eqb x.id r.id (ap (λ (t : Row). t.id) (same_Some x r at_r)))
place_at (x ∷ rows) apart (suc k) r at_r =
    ap (λ b. cond b (Some 0) (option_map suc (place_of rows r.id))) (apart_at x.id rows apart.0 k r at_r) ∙ ap (option_map suc) (place_at rows apart.1 k r at_r)

pub number_at : (rows : List Row) → AreDistinct rows → (k : ℕ) (r : Row) → IsAt rows k r → new_number rows r.id ≡ k
number_at rows apart k r at_r = ap (λ o. unwrap_or o 0) (place_at rows apart k r at_r)

at_seam : (pre post : List Row) (r : Row) → IsAt (pre ++ r ∷ post) (length pre) r
at_seam [] post r = refl
at_seam (x ∷ pre) post r = at_seam pre post r

-- ---- rows with their operations

abbrev pub AreArgumentsOf : List Row → ℕ → ℕ → List (List Ty) → List (List SynArg) → Type 0
AreArgumentsOf rows d g [] [] = Unit {0}
AreArgumentsOf rows d g [] (xs ∷ more) = ⊥
AreArgumentsOf rows d g (ts ∷ regions) [] = ⊥
AreArgumentsOf rows d g (ts ∷ regions) (xs ∷ more) = Fits (IsArgumentOf rows d g) 0 ts xs × AreArgumentsOf rows d (suc g) regions more

-- Operation k is that of the row at place k.
pub record IsLaidAs (rows : List Row) (k : ℕ) (r : Row) (l : Laid) : Type 0 where
  pub there : IsAt rows k r
  pub id : l.id ≡ k
  pub home : l.home ≡ option_map (new_home rows) r.home
  pub head : IsHeadOf rows r l.head
  pub arguments : AreArgumentsOf rows r.id 0 r.regions l.arguments

abbrev pub ArePairs : (ℕ → Row → Laid → Type 0) → ℕ → List Row → List Laid → Type 0
ArePairs P n [] [] = Unit {0}
ArePairs P n [] (l ∷ ls) = ⊥
ArePairs P n (r ∷ rs) [] = ⊥
ArePairs P n (r ∷ rs) (l ∷ ls) = P n r l × ArePairs P (suc n) rs ls

pairs_append : (P : ℕ → Row → Laid → Type 0) (n m : ℕ) (xs ys : List Row) (ls ms : List Laid) → n + length xs ≡ m → ArePairs P n xs ls → ArePairs P m ys ms → ArePairs P n (xs ++ ys) (ls ++ ms)
pairs_append P n m [] ys [] ms e x y = subst (λ k. ArePairs P k ys ms) (let same : m ≡ n = omega arith in same) y
pairs_append P n m [] ys (l ∷ ls) ms e x y = absurd x
pairs_append P n m (r ∷ xs) ys [] ms e x y = absurd x
pairs_append P n m (r ∷ xs) ys (l ∷ ls) ms e x y = (x.0, pairs_append P (suc n) m xs ys ls ms (omega arith) x.1 y)

pub pairs_length : (P : ℕ → Row → Laid → Type 0) (n : ℕ) (rs : List Row) (ls : List Laid) → ArePairs P n rs ls → length ls ≡ length rs
pairs_length P n [] [] h = refl
pairs_length P n [] (l ∷ ls) h = absurd h
pairs_length P n (r ∷ rs) [] h = absurd h
pairs_length P n (r ∷ rs) (l ∷ ls) h = ap suc (pairs_length P (suc n) rs ls h.1)

-- the operation at the place of a row
pub pair_at : (P : ℕ → Row → Laid → Type 0) (n : ℕ) (rs : List Row) (ls : List Laid) → ArePairs P n rs ls → (k : ℕ) (r : Row) → IsAt rs k r → (l : Laid) × (slice_get ls k ≡ Some l) × P (n + k) r l
pair_at P n [] ls h k r at_r = absurd (nothing_at k r at_r)
pair_at P n (x ∷ rs) [] h k r at_r = absurd h
pair_at P n (x ∷ rs) (l ∷ ls) h zero r at_r = (l, refl, subst (λ k. P k r l) (let e : n ≡ n + 0 = omega arith in e) (subst (λ t. P n t l) (same_Some x r at_r) h.0))
pair_at P n (x ∷ rs) (l ∷ ls) h (suc k) r at_r =
    let (l, there, is) = pair_at P (suc n) rs ls h.1 k r at_r in (l, there, subst (λ j. P j r l) (let e : suc n + k ≡ n + suc k = omega arith in e) is)

-- ---- counts

mutual
  tree_ops : (rows : List Row) (t : Tree) (o : Operation) → IsTreeOf rows t o → operation_count o ≡ length (flat t)
  tree_ops rows (node r bs) (operation h rs) is = ap suc (branches_ops rows r.id 0 bs rs is.1)

  branches_ops : (rows : List Row) (d g : ℕ) (bs : Branches) (rs : Regions) → AreBranchesOf rows d g bs rs → region_operation_count rs ≡ length (flat_branches bs)
  branches_ops rows d g no_branches no_regions is = refl
  branches_ops rows d g no_branches (region_then xs os rs) is = absurd is
  branches_ops rows d g (branch_then args ts bs) no_regions is = absurd is
  branches_ops rows d g (branch_then args ts bs) (region_then xs os rs) is = omega (arith, trees_ops rows ts os is.1, branches_ops rows d (suc g) bs rs is.2, length-append (flat_trees ts) (flat_branches bs))

  trees_ops : (rows : List Row) (ts : Trees) (os : Operations) → AreTreesOf rows ts os → operations_count os ≡ length (flat_trees ts)
  trees_ops rows no_trees no_operations is = refl
  trees_ops rows no_trees (operation_then o os) is = absurd is
  trees_ops rows (tree_then t ts) no_operations is = absurd is
  trees_ops rows (tree_then t ts) (operation_then o os) is = omega (arith, tree_ops rows t o is.0, trees_ops rows ts os is.1, length-append (flat t) (flat_trees ts))

-- ---- the pairs of a tree

argument_pairs : (rows : List Row) (d g : ℕ) (bs : Branches) (rs : Regions) → AreBranchesOf rows d g bs rs → AreArgumentsOf rows d g (arguments_in bs) (arguments_of rs)
argument_pairs rows d g no_branches no_regions is = tt
argument_pairs rows d g no_branches (region_then xs os rs) is = absurd is
argument_pairs rows d g (branch_then args ts bs) no_regions is = absurd is
argument_pairs rows d g (branch_then args ts bs) (region_then xs os rs) is = (is.0, argument_pairs rows d (suc g) bs rs is.2)

regroup : (pre a b post : List Row) → pre ++ ((a ++ b) ++ post) ≡ (pre ++ a) ++ (b ++ post)
regroup pre a b post = simp append_assoc

regroup_first : (pre a b post : List Row) → pre ++ ((a ++ b) ++ post) ≡ pre ++ (a ++ (b ++ post))
regroup_first pre a b post = simp append_assoc

regroup_node : (pre b post : List Row) (r : Row) → pre ++ ((r ∷ b) ++ post) ≡ (pre ++ r ∷ []) ++ (b ++ post)
regroup_node pre b post r = simp append_assoc

module _ (rows : List Row) (apart : AreDistinct rows) where
  mutual
    unfolding laid_operation

    pub tree_laid : (pre post : List Row) (n depth : ℕ) (home own : Option Home) (t : Tree) (o : Operation) → rows ≡ pre ++ (flat t ++ post) → length pre ≡ n → IsSound rows depth own t → home ≡ option_map (new_home rows) own → IsTreeOf rows t o
        → ArePairs (IsLaidAs rows) n (flat t) (laid_operation n home o)
    tree_laid pre post n depth home own (node r bs) (operation h rs) all len (placed, args, inside) home_is (head, branches) =
        let at_r : IsAt rows n r = subst (λ k. IsAt rows k r) len (subst (λ xs. IsAt xs (length pre) r) (sym all) (at_seam pre (flat_branches bs ++ post) r)) in (
          record {
            there = at_r;
            id = refl;
            home = home_is ∙ ap (option_map (new_home rows)) (sym placed.home_is);
            head = head;
            arguments = subst (λ ts. AreArgumentsOf rows r.id 0 ts (arguments_of rs)) args (argument_pairs rows r.id 0 bs rs branches);
          },
          branches_laid (pre ++ r ∷ []) post (suc n) (suc depth) r.id n 0 bs rs (all ∙ regroup_node pre (flat_branches bs) post r) (omega (arith, length-append pre (r ∷ []), len)) inside (number_at rows apart n r at_r) branches,
        )

    branches_laid : (pre post : List Row) (n depth rid d g : ℕ) (bs : Branches) (rs : Regions) → rows ≡ pre ++ (flat_branches bs ++ post) → length pre ≡ n → AreRegionsSound rows depth rid g bs → new_number rows rid ≡ d → AreBranchesOf rows rid g bs rs
        → ArePairs (IsLaidAs rows) n (flat_branches bs) (laid_regions d g n rs)
    branches_laid pre post n depth rid d g no_branches no_regions all len sound number is = tt
    branches_laid pre post n depth rid d g no_branches (region_then xs os rs) all len sound number is = absurd is
    branches_laid pre post n depth rid d g (branch_then args ts bs) no_regions all len sound number is = absurd is
    branches_laid pre post n depth rid d g (branch_then args ts bs) (region_then xs os rs) all len sound number is =
        let count = trees_ops rows ts os is.1 in
        pairs_append (IsLaidAs rows) n (n + operations_count os) (flat_trees ts) (flat_branches bs) (laid_operations (region d g) n os) (laid_regions d (suc g) (n + operations_count os) rs) (omega (arith, count))
        (trees_laid pre (flat_branches bs ++ post) n depth (region d g) (record { row = rid; region = g }) ts os (all ∙ regroup_first pre (flat_trees ts) (flat_branches bs) post) len sound.0 (sym (ap (λ x. record { row = x; region = g }) number)) is.1)
        (branches_laid (pre ++ flat_trees ts) post (n + operations_count os) depth rid d (suc g) bs rs (all ∙ regroup pre (flat_trees ts) (flat_branches bs) post) (omega (arith, length-append pre (flat_trees ts), len, count)) sound.1 number is.2)

    trees_laid : (pre post : List Row) (n depth : ℕ) (home own : Home) (ts : Trees) (os : Operations) → rows ≡ pre ++ (flat_trees ts ++ post) → length pre ≡ n → AreSound rows depth own ts → home ≡ new_home rows own → AreTreesOf rows ts os
        → ArePairs (IsLaidAs rows) n (flat_trees ts) (laid_operations home n os)
    trees_laid pre post n depth home own no_trees no_operations all len sound home_is is = tt
    trees_laid pre post n depth home own no_trees (operation_then o os) all len sound home_is is = absurd is
    trees_laid pre post n depth home own (tree_then t ts) no_operations all len sound home_is is = absurd is
    trees_laid pre post n depth home own (tree_then t ts) (operation_then o os) all len sound home_is is =
        let count = tree_ops rows t o is.0 in
        pairs_append (IsLaidAs rows) n (n + operation_count o) (flat t) (flat_trees ts) (laid_operation n (Some home) o) (laid_operations home (n + operation_count o) os) (omega (arith, count))
        (tree_laid pre (flat_trees ts ++ post) n depth (Some home) (Some own) t o (all ∙ regroup_first pre (flat t) (flat_trees ts) post) len sound.0 (ap Some home_is) is.0)
        (trees_laid (pre ++ flat t) post (n + operation_count o) depth home own ts os (all ∙ regroup pre (flat t) (flat_trees ts) post) (omega (arith, length-append pre (flat t), len, count)) sound.1 home_is is.1)
