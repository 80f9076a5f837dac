-- A pattern with two ranges of operands, and modules on which the checker computes where it matches.
use Rattle.std.specs.Prelude.{◌≡◌, ℕ, zero, suc, ◌<◌, ◌≤◌, false, List, [], ◌∷◌, take, slice_get, Option, Some, None, Ok, codes}
use Rattle.std.proofs.Common.{◌⊎◌, inl, inr, refl, sym, ap, subst, arith}
use Rattle.row_index.specs.BadUses.{bad_use}
use Rattle.mlir_tree.specs.declared.row.Row.{Row}
use Rattle.mlir_tree.specs.declared.rows.Rows.{Rows}
use Rattle.mlir_tree.specs.declared.value.Val.{Val}
use Rattle.mlir_tree.specs.declared.value.Val.TheVariants.{Res}
use Rattle.mlir_tree.specs.Tree.{Attr, kept}
use Rattle.mlir_tree.specs.Module.{enclosing, is_visible}
use Rattle.mlir_tree.specs.Edits.{inserted, put_before, substituted, removed}
use Rattle.segment_sizes.specs.Sizes.{sizes}
use Rattle.pdll_syntax.specs.declared.stmt.Values.TheVariants.{One}
use Rattle.pdll_syntax.specs.declared.file.PatFile.{PatFile}
use Rattle.pdll_syntax.specs.declared.file.Decl.TheVariants as decl
use Rattle.pdll_syntax.specs.ExprTree.{value_range_ref, no_expr}
use Rattle.pdll_syntax.specs.StmtTree.{Stmt, stmt, replace_stmt}
use Rattle.native_set.specs.declared.native.Kind.TheVariants as kind
use Rattle.rewrite_model.specs.declared.run.Hit.{Hit}
use Rattle.rewrite_model.specs.declared.run.Order.TheVariants.{First}
use Rattle.rewrite_model.specs.declared.run.Ending.TheVariants.{Converged}
use Rattle.rewrite_model.specs.Pattern.{Parts, Expr, the, stands, has_name, has_parts, matched, made, new_operation, results_of, result_types_of, makes, replaces, Pattern}
use Rattle.rewrite_model.specs.Expanding.{expanded, patterns}
use Rattle.rewrite_model.specs.Determined.{Determined, given_one, part_of, IsDetermined}
use Rattle.rewrite_model.specs.Segments.{segments_of}
use Rattle.rewrite_model.specs.Things.{Thing, an_op, some_values, some_types}
use Rattle.rewrite_model.specs.Matching.{Matches, MatchesBy, NoneAt, IsBest}
use Rattle.rewrite_model.specs.Step.{rewritten, step}
use Rattle.rewrite_model.specs.Running.{NoneAmong, IsNext, Runs, converges, goes_on}
use Rattle.rewrite_model.proofs.Samples.{name, declared, op_at, let_be, pattern, braces, op, module_of, i32}
use Rattle.rewrite_model.proofs.Told.{some_or}
use Rattle.rewrite_model.proofs.Unique.{candidate, less_or_not}
use Rattle.rewrite_model.proofs.Refuting.{may_match, no_match}

-- ---- sizes

spaced : sizes (kept (codes "array< i32 :1 ,02>") None) ≡ Some (1 ∷ 2 ∷ [])
spaced = refl

no_sizes : sizes (kept (codes "array<i32>") None) ≡ None
no_sizes = refl

an_open_end : sizes (kept (codes "array<i32: 1,>") None) ≡ None
an_open_end = refl

two_in_one : sizes (kept (codes "array<i32: 1 2>") None) ≡ None
two_in_one = refl

wider : sizes (kept (codes "array<i64: 1, 2>") None) ≡ None
wider = refl

-- ---- the pattern

-- Pattern Seg {
--   let root = op<t.s>(a: ValueRange, b: ValueRange);
--   replace root with op<t.pair>(b, a);
-- }
abbrev seg_body : List Stmt
seg_body =
    let_be (codes "root") (op_at 25 (codes "t.s") (Some (declared 33 (codes "a") (value_range_ref no_expr ∷ []) ∷ declared 48 (codes "b") (value_range_ref no_expr ∷ []) ∷ [])) [] None)
    ∷ stmt 0 (replace_stmt (name (codes "root")) (One (op_at 83 (codes "t.pair") (Some (name (codes "b") ∷ name (codes "a") ∷ [])) [] None)))
    ∷ []

abbrev outer : Parts Expr
outer = record { operands = the 0 ∷ the 1 ∷ []; entries = []; types = the 2 ∷ [] }

abbrev seg : Pattern
seg = record {
  name = codes "Seg";
  benefit = 1;
  kinds = kind.Values ∷ kind.Values ∷ kind.Tys ∷ kind.Op ∷ [];
  places = 33 ∷ 48 ∷ 25 ∷ 25 ∷ [];
  demands = stands (the 0) ∷ stands (the 1) ∷ stands (the 2) ∷ has_name 3 (codes "t.s") ∷ has_parts 3 outer ∷ [];
  root = 3;
  actions =
      makes (result_types_of (matched (the 3)))
      ∷ makes (new_operation (codes "t.pair") (record { operands = matched (the 1) ∷ matched (the 0) ∷ []; entries = []; types = made 0 ∷ [] }))
      ∷ makes (results_of (made 1))
      ∷ replaces (matched (the 3)) (made 2 ∷ [])
      ∷ [];
}

read : expanded [] (pattern (codes "Seg") [] (braces seg_body)) ≡ seg
unfolding expanded
read = refl

abbrev told : (x : ℕ) → x < 4 → Determined (3 ∷ []) seg.demands x
told zero l = part_of 3 0 outer (the 0) (inr (inr (inr (inr (inl refl))))) (given_one 3 (inl refl)) (inl (inl refl)) refl
told (suc zero) l = part_of 3 1 outer (the 1) (inr (inr (inr (inr (inl refl))))) (given_one 3 (inl refl)) (inl (inr (inl refl))) refl
told (suc (suc zero)) l = part_of 3 2 outer (the 2) (inr (inr (inr (inr (inl refl))))) (given_one 3 (inl refl)) (inr (inr (inl refl))) refl
told (suc (suc (suc zero))) l = given_one 3 (inl refl)
told (suc (suc (suc (suc x)))) l = absurd (omega (arith, l))

-- Both are determined, though one list has two ranges.
abbrev is_determined : IsDetermined seg
is_determined = record { each = told; ranges = (tt, (tt, (tt, (tt, (omega arith, tt))))) }

-- ---- the modules

abbrev sizes_are : List ℕ → List (List ℕ × Attr)
sizes_are text = (codes "operandSegmentSizes", kept text None) ∷ []

--     %0:3 = "t.src"() : () -> (i32, i32, i32)
--     %1 = "t.s"(%0#0, %0#1, %0#2) <{..}> : (i32, i32, i32) -> i32
abbrev three : Row
three = op 1 (codes "t.src") [] (i32 ∷ i32 ∷ i32 ∷ [])

abbrev pieces : List (List ℕ × Attr) → Row
pieces entries = record (op 2 (codes "t.s") (Res 1 0 ∷ Res 1 1 ∷ Res 1 2 ∷ []) (i32 ∷ [])) { props = entries }

abbrev module_with : List (List ℕ × Attr) → Rows
module_with entries = module_of (three ∷ pieces entries ∷ []) 3

-- <{operandSegmentSizes = array<i32: 1, 2>}>
abbrev one_and_two : Rows
one_and_two = module_with (sizes_are (codes "array<i32: 1, 2>"))

abbrev after : Rows
after = module_of (three ∷ op 3 (codes "t.pair") (Res 1 1 ∷ Res 1 2 ∷ Res 1 0 ∷ []) (i32 ∷ []) ∷ []) 4

-- <{operandSegmentSizes = array<i32: 1, 1>}>
abbrev one_and_one : Rows
one_and_one = module_with (sizes_are (codes "array<i32: 1, 1>"))

-- no such entry
abbrev without : Rows
without = module_with []

two_segments : segments_of (pieces (sizes_are (codes "array<i32: 1, 2>"))) ≡ Some ((Res 1 0 ∷ []) ∷ (Res 1 1 ∷ Res 1 2 ∷ []) ∷ [])
two_segments = refl

-- ---- where it matches

abbrev given : List Thing
given = some_values (Res 1 0 ∷ []) ∷ some_values (Res 1 1 ∷ Res 1 2 ∷ []) ∷ some_types (i32 ∷ []) ∷ an_op 2 ∷ []

seg_match : MatchesBy one_and_two.rows seg given 2
seg_match = record {
  assigned = record { kinds_fit = refl; are_things = refl };
  holds = ((_, refl), ((_, refl), ((_, refl), (refl, ((_, refl, record { operands = (_, refl, refl); entries = tt; types = refl }), tt)))));
  root = refl;
}

seg_step : step seg given 2 one_and_two ≡ Ok after
unfolding step rewritten bad_use is_visible enclosing inserted put_before substituted removed
seg_step = refl

not_there : (rows : List Row) (id : ℕ) → may_match rows seg.demands (candidate rows seg is_determined id) ≡ false → Matches rows seg id → ⊥
not_there rows id out = no_match rows seg is_determined id out

-- Sizes that aren't the number of operands in all are no segments.
too_few : Matches one_and_one.rows seg 2 → ⊥
unfolding less_or_not
too_few = not_there one_and_one.rows 2 refl

-- Without sizes there are none.
none_written : Matches without.rows seg 2 → ⊥
unfolding less_or_not
none_written = not_there without.rows 2 refl

-- ---- the runs

abbrev ps : List Pattern
ps = seg ∷ []

not_here : (rows : List Row) (id : ℕ) → may_match rows seg.demands (candidate rows seg is_determined id) ≡ false → NoneAt ps rows id
not_here rows id out zero p e m = not_there rows id out (subst (λ q. Matches rows q id) (sym (ap (some_or seg) e)) m)
not_here rows id out (suc k) p e m = absurd (cc)

is_best : IsBest ps one_and_two.rows 2 0 seg
is_best = record { declared = refl; matches = (given, seg_match); best = best } where
  best : (j : ℕ) (q : Pattern) → slice_get ps j ≡ Some q → Matches one_and_two.rows q 2 → (q.benefit < 1) ⊎ ((q.benefit ≡ 1) × (0 ≤ j))
  best zero q e m = inr (ap (λ o. (some_or seg o).benefit) (sym e), omega arith)
  best (suc j) q e m = absurd (cc)

abbrev hit : Hit
hit = record { pattern = 0; row = 2 }

is_next : IsNext First ps one_and_two.rows hit seg
unfolding less_or_not
is_next = record {
  before = take 2 one_and_two.rows;
  row = pieces (sizes_are (codes "array<i32: 1, 2>"));
  after = [];
  in_order = refl;
  none_ahead = (not_here one_and_two.rows 0 refl, (not_here one_and_two.rows 1 refl, tt));
  number = refl;
  best = is_best;
}

none_left : NoneAmong ps after.rows after.rows
unfolding less_or_not
none_left = (not_here after.rows 0 refl, (not_here after.rows 1 refl, (not_here after.rows 3 refl, tt)))

-- The segments change places.
seg_run : Runs First ps 10000 one_and_two (record {
  taken = record { pattern = 0; name = codes "Seg"; root = 2; made = 3 ∷ []; removed = 2 ∷ [] } ∷ [];
  ending = Converged;
  rows = after;
})
seg_run = goes_on {n = 9999} {h = hit} {p = seg} is_next seg_match seg_step (converges none_left)

-- No step is taken.
run_with_too_few : Runs First ps 10000 one_and_one (record { taken = []; ending = Converged; rows = one_and_one })
unfolding less_or_not
run_with_too_few = converges (not_here one_and_one.rows 0 refl, (not_here one_and_one.rows 1 refl, (not_here one_and_one.rows 2 refl, tt)))

run_without : Runs First ps 10000 without (record { taken = []; ending = Converged; rows = without })
unfolding less_or_not
run_without = converges (not_here without.rows 0 refl, (not_here without.rows 1 refl, (not_here without.rows 2 refl, tt)))
