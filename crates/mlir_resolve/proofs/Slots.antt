-- How many operands and results the rows of a tree have together.
use Rattle.std.proofs.Common.{◌≡◌, ◌≤◌, ◌+◌, ℕ, suc, Bool, true, false, List, [], ◌∷◌, ◌++◌, length, map, Option, Some, None, Result, Ok, Err, ap, subst, ◌∙◌, arith}
use Rattle.std.specs.Prelude.{filter_map, IfOk, if◌then◌else◌}
use Rattle.std.specs.List.{cons_option}
use Rattle.std.proofs.lemmas.List.{map-append}
use Rattle.mlir_tree.specs.declared.refusal.Refusal.{Refusal}
use Rattle.mlir_tree.specs.declared.row.Home.{Home}
use Rattle.mlir_tree.specs.declared.row.Row.{Row}
use Rattle.mlir_tree.specs.declared.rows.Rows.{Rows}
use Rattle.mlir_attributes.specs.declared.fault.ModFault.{ModFault}
use Rattle.mlir_parse.specs.declared.syn.Syn.{Syn}
use Rattle.mlir_parse.specs.SynTree.{Operation, operation, Regions, no_regions, region_then, Operations, no_operations, operation_then, operations}
use Rattle.mlir_attributes.specs.Input.{Gives}
use Rattle.mlir_parse.specs.Limits.{KeepsLimits, operation_count, operations_count, operation_slots, region_slots, operations_slots}
use Rattle.mlir_resolve.specs.Laid.{Laid, region, laid_operation, laid_regions, laid_operations, is_module, implied_module, module_of}
use Rattle.mlir_resolve.specs.Resolving.{names_at, used_value, resolved, resolved_row, resolved_rows, rows_or, operation_fault, slots_of}

short_cons : {Y : Type 0} → (o : Option Y) (ys : List Y) → length (cons_option o ys) ≤ suc (length ys)
short_cons None ys = omega arith
short_cons (Some y) ys = omega arith

short : {X Y : Type 0} → (f : X → Option Y) (xs : List X) → length (filter_map f xs) ≤ length xs
short f [] = omega arith
short f (x ∷ xs) = omega (arith, short_cons (f x) (filter_map f xs), short f xs)

slots_append : (xs ys : List Row) → slots_of (xs ++ ys) ≡ slots_of xs + slots_of ys
slots_append [] ys = omega arith
slots_append (x ∷ xs) ys = omega (arith, slots_append xs ys)

module _ (ls : List Laid) where
  abbrev slots_in : List Laid → ℕ
  slots_in xs = slots_of (map (resolved_row ls) xs)

  both_slots : (xs ys : List Laid) → slots_in (xs ++ ys) ≡ slots_in xs + slots_in ys
  both_slots xs ys = ap slots_of (map-append (resolved_row ls) xs ys) ∙ slots_append (map (resolved_row ls) xs) (map (resolved_row ls) ys)

  mutual
    unfolding laid_operation laid_regions laid_operations

    operation_fits : (n : ℕ) (home : Option Home) (o : Operation) → slots_in (laid_operation n home o) ≤ operation_slots o
    operation_fits n home (operation h rs) = omega (arith, short (used_value (names_at ls n)) h.operands, regions_fit n 0 (suc n) rs)

    regions_fit : (d g n : ℕ) (rs : Regions) → slots_in (laid_regions d g n rs) ≤ region_slots rs
    regions_fit d g n no_regions = omega arith
    regions_fit d g n (region_then args os rs) =
        omega (arith, both_slots (laid_operations (region d g) n os) (laid_regions d (suc g) (n + operations_count os) rs), operations_fit (region d g) n os, regions_fit d (suc g) (n + operations_count os) rs)

    operations_fit : (h : Home) (n : ℕ) (os : Operations) → slots_in (laid_operations h n os) ≤ operations_slots os
    operations_fit h n no_operations = omega arith
    operations_fit h n (operation_then o os) =
        omega (arith, both_slots (laid_operation n (Some h) o) (laid_operations h (n + operation_count o) os), operation_fits n (Some h) o, operations_fit h (n + operation_count o) os)

one_module : (b : Bool) (o : Operation) → operation_slots (if b then o else implied_module (o ∷ [])) ≤ operation_slots o + 0
one_module true o = omega arith
one_module false o = omega arith

module_slots : (os : List Operation) → operation_slots (module_of os) ≤ operations_slots (operations os)
module_slots [] = omega arith
module_slots (o ∷ []) = one_module (is_module o) o
module_slots (o ∷ (p ∷ os)) = omega arith

rows_fit : (ls : List Laid) (f : Option ModFault) (m : Rows) (n : ℕ) → rows_or ls f ≡ Ok m → slots_of (map (resolved_row ls) ls) ≤ n → slots_of m.rows ≤ n
rows_fit ls None m n p q = let same : resolved_rows ls ≡ m = cc in subst (λ (x : Rows). slots_of x.rows ≤ n) same q
rows_fit ls (Some f) m n p q = absurd (cc)

pub slots_kept : (file : Syn) (result : Result Rows (Refusal ModFault)) → KeepsLimits file → Gives result (resolved file) → IfOk result (λ m. slots_of m.rows ≤ 16000000)
unfolding resolved
slots_kept file (Ok m) k g =
    let ls = laid_operation 0 None (module_of file.ops) in
    rows_fit ls (operation_fault ls 0 None (module_of file.ops)) m 16000000 g (omega (arith, operation_fits ls 0 None (module_of file.ops), module_slots file.ops, k.slots))
slots_kept file (Err e) k g = tt
