-- The operation that is the module.
use Rattle.std.proofs.Common.{◌≡◌, suc, Bool, true, false, not, ◌&&◌, List, [], ◌∷◌, length, None, Result, Ok, Err, refl, sym, ap, ◌∙◌, arith}
use Rattle.std.specs.Prelude.{◌==◌, codes}
use Rattle.std.specs.Str.{bytes_eq}
use Rattle.std.proofs.lemmas.Bool.{ne_eqb}
use Rattle.mlir_tree.specs.declared.row.Row.{Row}
use Rattle.mlir_attributes.specs.declared.fault.ModFault.{ModFault}
use Rattle.mlir_parse.specs.declared.syn.SynRegion.{SynRegion}
use Rattle.mlir_parse.specs.SynTree.{Head, Operation, operation, operations}
use Rattle.mlir_parse.specs.SynView.{region_tree}
use Rattle.mlir_resolve.specs.Sight.{Definition}
use Rattle.mlir_resolve.specs.Laid.{region, has_no_values, is_module, is_module_shape, implied_module, implied_row}
use Rattle.mlir_resolve.specs.Resolving.{head_fault}
use Rattle.mlir_resolve.specs.Walk.{State, after, head_of, regions_of, head_row, put_results, operation_walk, operations_walk}

pub no_and : (a b c : Bool) → a ≡ false → (a && (b && c)) ≡ false
no_and a b c p = λ i. p i && (b && c)

shape_by_parts : (h : Head) (rs : List SynRegion) → is_module_shape h (region_tree rs) ≡ ((length rs == 1) && (bytes_eq h.name (codes "builtin.module") && has_no_values h))
shape_by_parts h [] = refl
shape_by_parts h (r ∷ []) = refl
shape_by_parts h (r ∷ (q ∷ rs)) =
    sym (no_and (suc (suc (length rs)) == 1) (bytes_eq h.name (codes "builtin.module")) (has_no_values h) (ne_eqb (suc (suc (length rs))) 1 (λ p. omega (arith, p))))

pub module_by_parts : (o : Operation) (rs : List SynRegion) → region_tree rs ≡ regions_of o
    → is_module o ≡ ((length rs == 1) && (bytes_eq (head_of o).name (codes "builtin.module") && has_no_values (head_of o)))
module_by_parts (operation h ts) rs p = ap (is_module_shape h) (sym p) ∙ shape_by_parts h rs

-- ---- the module that isn't written

pub by_not : (b : Bool) → false ≡ not b → b ≡ true
by_not true p = refl
by_not false p = absurd (cc)

abbrev nameless : List Row → Result State ModFault
nameless rows = Ok ([], rows)

inner_rows : (r : Result State ModFault) → after {B = List Row} (after (after (after r (λ t. Ok t.1)) (λ rows. Ok rows)) nameless) (λ s. Ok s.1) ≡ after r (λ t. Ok t.1)
inner_rows (Ok t) = refl
inner_rows (Err e) = refl

pub implied_rows_are : (file os : List Operation)
    → after {B = List Row} (operation_walk file [] None (implied_module os) ([], [])) (λ s. Ok s.1)
    ≡ after (operations_walk file ([] ∷ []) (region 0 0) (operations os) ([], implied_row ∷ [])) (λ t. Ok t.1)
unfolding operation_walk head_row head_fault put_results
implied_rows_are file os = inner_rows (operations_walk file ([] ∷ []) (region 0 0) (operations os) ([], implied_row ∷ []))

pub implied_at : (file : List Operation) (outer : List (List Definition)) (scope : List Definition) (rows : List Row) → outer ≡ [] ∷ [] → scope ≡ [] → rows ≡ implied_row ∷ []
    → after {B = List Row} (operation_walk file [] None (implied_module file) ([], [])) (λ s. Ok s.1)
    ≡ after (operations_walk file outer (region 0 0) (operations file) (scope, rows)) (λ t. Ok t.1)
implied_at file outer scope rows p q r =
    implied_rows_are file file
    ∙ (λ i. after (operations_walk file (sym p i) (region 0 0) (operations file) (sym q i, sym r i)) (λ t. Ok t.1))
