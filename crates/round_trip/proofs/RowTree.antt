-- The rows of a module as a tree: its text, and the operations that fit it.
use Rattle.std.proofs.Common.{◌≡◌, ℕ, suc, ◌+◌, ◌<◌, ◌≤◌, ◌^◌, if◌then◌else◌, List, [], ◌∷◌, ◌++◌, length, map}
use Rattle.std.specs.Prelude.{codes}
use Rattle.mlir_tree.specs.declared.row.Row.{Row}
use Rattle.mlir_tree.specs.Tree.{Ty, tys, Attr, entries}
use Rattle.mlir_tree.specs.Range.{AreRising}
use Rattle.mlir_tree.specs.WellFormed as rows
use Rattle.mlir_print.specs.Text.{stands_bare}
use Rattle.mlir_print.specs.Numbering.{result_number, argument_number}
use Rattle.mlir_print.specs.ModuleText.{separator, region_text, head_text, tail_text}
use Rattle.mlir_parse.specs.declared.syn.SynArg.{SynArg}
use Rattle.mlir_attributes.specs.Steps.{max_parts}
use Rattle.mlir_parse.specs.SynTree.{Head, Operation, operation, Regions, no_regions, region_then, Operations, no_operations, operation_then}
use Rattle.mlir_resolve.specs.Laid.{entry_pair}
use Rattle.round_trip.specs.Printable.{AreBytes, IsPrintableTy, ArePrintableTys, ArePrintableEntries}
use Rattle.round_trip.proofs.Parts.{Fits, Facts}
use Rattle.round_trip.proofs.Uses.{IsUsable, IsUseOf, AreResultsOf, argument_name}
use Rattle.round_trip.proofs.Results.{HasType, IsTypeOf}

-- A row with its regions, each with its arguments and the rows in it.
mutual
  pub data Tree : Type 0 where
    node : Row → Branches → Tree

  pub data Branches : Type 0 where
    no_branches : Branches
    branch_then : List Ty → Trees → Branches → Branches

  pub data Trees : Type 0 where
    no_trees : Trees
    tree_then : Tree → Trees → Trees

abbrev pub arguments_in : Branches → List (List Ty)
arguments_in no_branches = []
arguments_in (branch_then args ts bs) = args ∷ arguments_in bs

-- ---- the text

abbrev pub in_parens : Branches → List ℕ → List ℕ
in_parens no_branches text = []
in_parens (branch_then args ts bs) text = codes " (" ++ (text ++ codes ")")

abbrev mutual
  pub tree_text : List Row → ℕ → Tree → List ℕ
  tree_text all depth (node r bs) = head_text all depth r ++ (in_parens bs (branches_text all depth r.id 0 bs) ++ tail_text all r)

  pub branches_text : List Row → ℕ → ℕ → ℕ → Branches → List ℕ
  branches_text all depth d g no_branches = []
  branches_text all depth d g (branch_then args ts bs) = separator g ++ (region_text all depth d g args (trees_text all (suc depth) ts) ++ branches_text all depth d (suc g) bs)

  pub trees_text : List Row → ℕ → Trees → List ℕ
  trees_text all depth no_trees = []
  trees_text all depth (tree_then t ts) = tree_text all depth t ++ trees_text all depth ts

-- ---- counts

abbrev mutual
  pub tree_count : Tree → ℕ
  tree_count (node r bs) = suc (branches_count bs)

  pub branches_count : Branches → ℕ
  branches_count no_branches = 0
  branches_count (branch_then args ts bs) = trees_count ts + branches_count bs

  pub trees_count : Trees → ℕ
  trees_count no_trees = 0
  trees_count (tree_then t ts) = tree_count t + trees_count ts

abbrev mutual
  pub tree_slots : Tree → ℕ
  tree_slots (node r bs) = (length r.operands + length r.results) + branches_slots bs

  pub branches_slots : Branches → ℕ
  branches_slots no_branches = 0
  branches_slots (branch_then args ts bs) = trees_slots ts + branches_slots bs

  pub trees_slots : Trees → ℕ
  trees_slots no_trees = 0
  trees_slots (tree_then t ts) = tree_slots t + trees_slots ts

-- ---- what the reading rests on

abbrev pub ArePropertiesReady : ℕ → List (List ℕ × Attr) → Type 0
ArePropertiesReady room [] = Unit {0}
ArePropertiesReady room (e ∷ es) = (less : ℕ) × (suc less ≡ room) × ArePrintableEntries less (entries (e ∷ es))

-- A row, where so many brackets may be opened within one that it opens.
pub record IsRowReady (all : List Row) (room : ℕ) (r : Row) : Type 0 where
  pub name : AreBytes r.name
  pub named : 0 < length r.name
  pub number : result_number all r.id < 10 ^ 64
  pub usable : Facts (λ i v. IsUsable all v) 0 r.operands
  pub typed : Facts (λ i v. HasType all room v) 0 r.operands
  pub few_operands : length r.operands ≤ max_parts
  pub few_results : length r.results ≤ max_parts
  pub few_regions : length r.regions ≤ max_parts
  pub results : ArePrintableTys (if stands_bare (tys r.results) then suc room else room) (tys r.results)
  pub rising_properties : AreRising (rows.names r.props)
  pub properties : ArePropertiesReady room r.props
  pub rising_attributes : AreRising (rows.names r.attrs)
  pub attributes : ArePrintableEntries room (entries r.attrs)

abbrev pub IsArgumentReady : List Row → ℕ → ℕ → ℕ → ℕ → Ty → Type 0
IsArgumentReady all room d g i t = (argument_number all d g i < 10 ^ 64) × IsPrintableTy room t

abbrev pub AreArgumentsReady : List Row → ℕ → ℕ → ℕ → List Ty → Type 0
AreArgumentsReady all room d g [] = Unit {0}
AreArgumentsReady all room d g (t ∷ ts) = (less : ℕ) × (suc less ≡ room) × (length (t ∷ ts) ≤ max_parts) × Facts (IsArgumentReady all less d g) 0 (t ∷ ts)

abbrev mutual
  pub IsReady : List Row → ℕ → Tree → Type 0
  IsReady all room (node r bs) = (less : ℕ) × (suc less ≡ room) × IsRowReady all less r × (arguments_in bs ≡ r.regions) × AreRegionsReady all less r.id 0 bs

  pub AreRegionsReady : List Row → ℕ → ℕ → ℕ → Branches → Type 0
  AreRegionsReady all room d g no_branches = Unit {0}
  AreRegionsReady all room d g (branch_then args ts bs) =
      (less : ℕ) × (suc less ≡ room) × AreArgumentsReady all less d g args × AreReady all less ts × AreRegionsReady all room d (suc g) bs

  pub AreReady : List Row → ℕ → Trees → Type 0
  AreReady all room no_trees = Unit {0}
  AreReady all room (tree_then t ts) = IsReady all room t × AreReady all room ts

-- ---- the operations that fit

pub record IsHeadOf (all : List Row) (r : Row) (h : Head) : Type 0 where
  pub name : h.name ≡ r.name
  pub results : AreResultsOf all r h.results
  pub operands : Fits (λ i v x. IsUseOf all v x) 0 r.operands h.operands
  pub props : map entry_pair h.props ≡ r.props
  pub attrs : map entry_pair h.attrs ≡ r.attrs
  pub operand_types : Fits (IsTypeOf all) 0 r.operands h.operand_types
  pub result_types : h.result_types ≡ r.results

pub record IsArgumentOf (all : List Row) (d g i : ℕ) (t : Ty) (a : SynArg) : Type 0 where
  pub name : a.name ≡ argument_name (argument_number all d g i)
  pub type : a.ty ≡ t

abbrev mutual
  pub IsTreeOf : List Row → Tree → Operation → Type 0
  IsTreeOf all (node r bs) (operation h rs) = IsHeadOf all r h × AreBranchesOf all r.id 0 bs rs

  pub AreBranchesOf : List Row → ℕ → ℕ → Branches → Regions → Type 0
  AreBranchesOf all d g no_branches no_regions = Unit {0}
  AreBranchesOf all d g no_branches (region_then xs os rs) = ⊥
  AreBranchesOf all d g (branch_then args ts bs) no_regions = ⊥
  AreBranchesOf all d g (branch_then args ts bs) (region_then xs os rs) = Fits (IsArgumentOf all d g) 0 args xs × AreTreesOf all ts os × AreBranchesOf all d (suc g) bs rs

  pub AreTreesOf : List Row → Trees → Operations → Type 0
  AreTreesOf all no_trees no_operations = Unit {0}
  AreTreesOf all no_trees (operation_then o os) = ⊥
  AreTreesOf all (tree_then t ts) no_operations = ⊥
  AreTreesOf all (tree_then t ts) (operation_then o os) = IsTreeOf all t o × AreTreesOf all ts os
