-- The way through the tree of a file gives what the file is resolved to.
use Rattle.std.proofs.Common.{◌≡◌, ◌≤◌, ◌+◌, ℕ, suc, Bool, true, false, ◌&&◌, ◌||◌, List, [], ◌∷◌, ◌++◌, length, map, Option, Some, None, Ok, refl, sym, ap, ◌∙◌, arith, append-nil}
use Rattle.std.specs.Prelude.{◌==◌, nat_lt, if◌then◌else◌, flat_map, sum_by}
use Rattle.std.specs.List.{list_any, list_all, fold}
use Rattle.std.specs.Str.{bytes_eq}
use Rattle.std.proofs.lemmas.Bool.{ne_eqb}
use Rattle.std.proofs.lemmas.Bool.Decides.{nat_tests}
use Rattle.std.proofs.lemmas.Grind.{flat_map-append}
use Rattle.std.proofs.lemmas.List.{length-map}
use Rattle.mlir_tree.specs.declared.row.Home.{Home}
use Rattle.mlir_tree.specs.Tree.{Ty}
use Rattle.mlir_attributes.specs.declared.fault.ModFault.{ModFault}
use Rattle.mlir_attributes.specs.declared.fault.ModKind.TheVariants as faults
use Rattle.mlir_parse.specs.declared.syn.Syn.{Syn}
use Rattle.mlir_parse.specs.declared.syn.SynArg.{SynArg}
use Rattle.mlir_parse.specs.declared.syn.SynResult.{SynResult}
use Rattle.mlir_parse.specs.SynTree.{Head, Operation, operation, Regions, no_regions, region_then, Operations, no_operations, operation_then, operations}
use Rattle.mlir_parse.specs.Limits.{operation_count, operations_count}
use Rattle.mlir_resolve.specs.Laid.{Laid, region, arguments_of, laid_operation, laid_regions, laid_operations, is_module, has_no_values, implied_module, module_of}
use Rattle.mlir_resolve.specs.Sight.{Definition, result_definitions, argument_definitions, region_definitions, row_definitions, definitions, is_defined}
use Rattle.mlir_resolve.specs.Resolving.{Twice, fault, names_fault, results_fault, result_count_fault, are_counted, or_then, operation_fault, twice_in, resolved_row, rows_or, resolved}
use Rattle.mlir_resolve.specs.Walk.{State, unless, head_of, put_names, put_results, operation_walk, operation_defines, operations_define, regions_define, has_result_name, has_argument_name, rows_of, walked}
use Rattle.mlir_resolve.proofs.Nested.{around_none}
use Rattle.mlir_resolve.proofs.Shown.{firsts, tree, around, no_values}
use Rattle.mlir_resolve.proofs.Scenes.{scene}
use Rattle.mlir_resolve.proofs.Law.{within, home_here, operation_law, last_step}

-- ---- which names the file has

any_append : (t : Definition → Bool) (xs ys : List Definition) → list_any t (xs ++ ys) ≡ (list_any t xs || list_any t ys)
any_append t [] ys = refl
any_append t (x ∷ xs) ys = ap (λ b. t x || b) (any_append t xs ys) ∙ or_three (t x) (list_any t xs) (list_any t ys)
  where
    or_three : (a b c : Bool) → (a || (b || c)) ≡ ((a || b) || c)
    or_three true b c = refl
    or_three false b c = refl

module _ (name : List ℕ) where
  abbrev is_name : Definition → Bool
  is_name d = bytes_eq d.name name

  any_results : (d o : ℕ) (rs : List SynResult) (ts : List Ty) → list_any is_name (result_definitions d o rs ts) ≡ has_result_name name rs
  any_results d o [] ts = refl
  any_results d o (r ∷ rs) ts = ap (λ b. bytes_eq r.name name || b) (any_results d (o + r.count) rs _)

  any_arguments : (d g k : ℕ) (args : List SynArg) → list_any is_name (argument_definitions d g k args) ≡ has_argument_name name args
  any_arguments d g k [] = refl
  any_arguments d g k (a ∷ args) = ap (λ b. bytes_eq a.name name || b) (any_arguments d g (k + 1) args)

  abbrev in_arguments : List (List SynArg) → Bool
  in_arguments [] = false
  in_arguments (args ∷ more) = has_argument_name name args || in_arguments more

  any_regions : (d g : ℕ) (more : List (List SynArg)) → list_any is_name (region_definitions d g more) ≡ in_arguments more
  any_regions d g [] = refl
  any_regions d g (args ∷ more) =
      any_append is_name (argument_definitions d g 0 args) (region_definitions d (g + 1) more) ∙ (λ i. any_arguments d g 0 args i || any_regions d (g + 1) more i)

  shuffled : (a b c d : Bool) → ((a || b) || (c || d)) ≡ (a || (c || (b || d)))
  shuffled true b c d = refl
  shuffled false true true d = refl
  shuffled false true false d = refl
  shuffled false false c d = refl

  or_back : (a b c : Bool) → ((a || b) || c) ≡ (a || (b || c))
  or_back true b c = refl
  or_back false b c = refl

  mutual
    unfolding laid_operation laid_regions laid_operations

    any_operation : (n : ℕ) (home : Option Home) (p : Operation) → list_any is_name (flat_map row_definitions (laid_operation n home p)) ≡ operation_defines name p
    any_operation n home (operation h rs) =
        any_append is_name (result_definitions n 0 h.results h.result_types ++ region_definitions n 0 (arguments_of rs)) (flat_map row_definitions (laid_regions n 0 (suc n) rs))
        ∙ (ap (λ b. b || list_any is_name (flat_map row_definitions (laid_regions n 0 (suc n) rs)))
        (any_append is_name (result_definitions n 0 h.results h.result_types) (region_definitions n 0 (arguments_of rs)) ∙ (λ i. any_results n 0 h.results h.result_types i || any_regions n 0 (arguments_of rs) i))
        ∙ (or_back (has_result_name name h.results) (in_arguments (arguments_of rs)) (list_any is_name (flat_map row_definitions (laid_regions n 0 (suc n) rs)))
        ∙ ap (λ b. has_result_name name h.results || b) (any_inside n 0 (suc n) rs)))

    any_inside : (d g n : ℕ) (rs : Regions) → (in_arguments (arguments_of rs) || list_any is_name (flat_map row_definitions (laid_regions d g n rs))) ≡ regions_define name rs
    any_inside d g n no_regions = refl
    any_inside d g n (region_then args os rs) =
        ap (λ b. (has_argument_name name args || in_arguments (arguments_of rs)) || b)
        (ap (list_any is_name) (flat_map-append row_definitions (laid_operations (region d g) n os) (laid_regions d (suc g) (n + operations_count os) rs))
        ∙ any_append is_name (flat_map row_definitions (laid_operations (region d g) n os)) (flat_map row_definitions (laid_regions d (suc g) (n + operations_count os) rs)))
        ∙ (shuffled (has_argument_name name args) (in_arguments (arguments_of rs)) (list_any is_name (flat_map row_definitions (laid_operations (region d g) n os))) (list_any is_name (flat_map row_definitions (laid_regions d (suc g) (n + operations_count os) rs)))
        ∙ (λ i. has_argument_name name args || (any_operations (region d g) n os i || any_inside d (suc g) (n + operations_count os) rs i)))

    any_operations : (h : Home) (n : ℕ) (os : Operations) → list_any is_name (flat_map row_definitions (laid_operations h n os)) ≡ operations_define name os
    any_operations h n no_operations = refl
    any_operations h n (operation_then p os) =
        ap (list_any is_name) (flat_map-append row_definitions (laid_operation n (Some h) p) (laid_operations h (n + operation_count p) os))
        ∙ (any_append is_name (flat_map row_definitions (laid_operation n (Some h) p)) (flat_map row_definitions (laid_operations h (n + operation_count p) os))
        ∙ (λ i. any_operation n (Some h) p i || any_operations h (n + operation_count p) os i))

  or_none : (b : Bool) → (b || false) ≡ b
  or_none true = refl
  or_none false = refl

  one_module : (b : Bool) (p : Operation) → operation_defines name (if b then p else implied_module (p ∷ [])) ≡ (operation_defines name p || false)
  one_module true p = sym (or_none (operation_defines name p))
  one_module false p = or_none (operation_defines name p || false)

  module_defines : (ops : List Operation) → operation_defines name (module_of ops) ≡ operations_define name (operations ops)
  module_defines [] = refl
  module_defines (p ∷ []) = one_module (is_module p) p
  module_defines (p ∷ (q ∷ ops)) = or_none (operations_define name (operations (p ∷ (q ∷ ops))))

  pub known_is : (ops : List Operation) → operations_define name (operations ops) ≡ is_defined (tree (module_of ops)) name
  unfolding is_defined definitions
  known_is ops = sym (any_operation 0 None (module_of ops) ∙ module_defines ops)

-- ---- the module names no results

no_items : {A : Type 0} → (xs : List A) → (length xs == 0) ≡ true → xs ≡ []
no_items [] p = refl
no_items (x ∷ xs) p = absurd (let q = sym (ne_eqb (suc (length xs)) 0 (λ e. omega (arith, e))) ∙ p in cc)

second_true : (a b : Bool) → (a && b) ≡ true → b ≡ true
second_true true b p = p
second_true false b p = absurd (cc)

module_types : (p : Operation) → is_module p ≡ true → (head_of p).result_types ≡ []
module_types (operation h no_regions) q = absurd (cc)
module_types (operation h (region_then args os no_regions)) q =
    no_items h.result_types (second_true (length h.operands == 0) (length h.result_types == 0) (second_true (bytes_eq h.name _) (has_no_values h) q))
module_types (operation h (region_then args os (region_then more ps rs))) q = absurd (cc)

one_types : (b : Bool) (p : Operation) → is_module p ≡ b → (head_of (if b then p else implied_module (p ∷ []))).result_types ≡ []
one_types true p q = module_types p q
one_types false p q = refl

no_types : (ops : List Operation) → (head_of (module_of ops)).result_types ≡ []
no_types [] = refl
no_types (p ∷ []) = one_types (is_module p) p refl
no_types (p ∷ (q ∷ ops)) = refl

at_least : (a : ℕ) (rs : List SynResult) → a ≤ fold (λ s (x : SynResult). s + x.count) a rs
at_least a [] = omega arith
at_least a (r ∷ rs) = omega (arith, at_least (a + r.count) rs)

count_of_none : (a b : Bool) (n s : ℕ) → nat_lt 0 n ≡ a → n ≤ s → ((a && b) && (s == 0)) ≡ false
count_of_none true b n s p q = grind (arith, nat_tests, p, q)
count_of_none false b n s p q = refl

not_counted : (r : SynResult) (rs : List SynResult) → are_counted (r ∷ rs) [] ≡ false
not_counted r rs = count_of_none (nat_lt 0 r.count) (list_all (λ (x : SynResult). nat_lt 0 x.count) rs) r.count (sum_by (λ (x : SynResult). x.count) (r ∷ rs)) refl (omega (arith, at_least (0 + r.count) rs))

ends_of : (twice : Twice) (n : ℕ) (rs : List SynResult) (ts : List Ty) → ts ≡ []
    → unless (result_count_fault rs ts) (put_names n 0 rs ts []) ≡ unless (or_then (result_count_fault rs ts) (names_fault twice n 0 rs)) (Ok ([] ++ result_definitions n 0 rs ts))
ends_of twice n [] ts e = refl
ends_of twice n (r ∷ rs) ts e =
    let c = ap (λ xs. if are_counted (r ∷ rs) xs then None else fault faults.CountDiffers r.at) e ∙ ap (λ b. if b then None else fault faults.CountDiffers r.at) (not_counted r rs) in
    ap (λ x. unless x (put_names n 0 (r ∷ rs) ts [])) c ∙ sym (ap (λ x. unless (or_then x (names_fault twice n 0 (r ∷ rs))) (Ok ([] ++ result_definitions n 0 (r ∷ rs) ts))) c)

root_ends : (twice : Twice) (n : ℕ) (h : Head) → h.result_types ≡ [] → put_results n h [] ≡ unless (results_fault twice n h) (Ok ([] ++ result_definitions n 0 h.results h.result_types))
unfolding put_results results_fault
root_ends twice n h e = ends_of twice n h.results h.result_types e

-- ---- the whole

rows_are_rows : (ls : List Laid) (f : Option ModFault) → unless f (Ok (rows_of (map (resolved_row ls) ls))) ≡ rows_or ls f
rows_are_rows ls None = λ i. Ok (record { rows = map (resolved_row ls) ls; next = length-map ls (resolved_row ls) i })
rows_are_rows ls (Some e) = refl

pub walked_is_resolved : (file : Syn) → walked file ≡ resolved file
unfolding walked resolved
walked_is_resolved file =
    let p = module_of file.ops in
    let known = λ (name : List ℕ). known_is name file.ops in
    let e : tree p ≡ [] ++ (laid_operation 0 None p ++ []) = sym (append-nil (laid_operation 0 None p)) in
    let nowhere = around_none no_values p 0 (within p file.ops known [] [] 0 None p e refl) (home_here p file.ops known [] [] 0 None p e refl) in
    let law = operation_law p file.ops known None p 0 [] [] [] [] [] e refl refl (λ x is. absurd (cc)) (λ name. sym (ap (λ hs. firsts name (scene [] (around p 0) 0) hs) nowhere)) (root_ends (twice_in (tree p) None) 0 (head_of p) (no_types file.ops)) in
    last_step {A = State} (operation_fault (tree p) 0 None p) (operation_walk file.ops [] None p ([], [])) _ (λ s. rows_of s.1) law
    ∙ rows_are_rows (tree p) (operation_fault (tree p) 0 None p)
