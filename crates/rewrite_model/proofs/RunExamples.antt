-- Runs of which the checker computes each step.
use Rattle.std.specs.Prelude.{◌≡◌, ℕ, zero, suc, ◌<◌, ◌≤◌, false, List, [], ◌∷◌, take, drop, slice_get, Some, codes}
use Rattle.std.proofs.Common.{◌⊎◌, inl, inr, refl, sym, ap, subst, arith}
use Rattle.mlir_tree.specs.declared.row.Row.{Row}
use Rattle.mlir_tree.specs.declared.value.Val.TheVariants.{Res}
use Rattle.rewrite_model.specs.declared.run.Hit.{Hit}
use Rattle.rewrite_model.specs.declared.run.Order.TheVariants.{First}
use Rattle.rewrite_model.specs.declared.run.Ending.TheVariants.{Converged}
use Rattle.rewrite_model.specs.Pattern.{Parts, Expr, the, only_result, has_parts, Pattern}
use Rattle.rewrite_model.specs.Determined.{IsIn, Determined, given_one, part_of, IsDetermined}
use Rattle.rewrite_model.specs.Matching.{Matches, NoneAt, IsBest}
use Rattle.rewrite_model.specs.Running.{NoneAmong, IsNext, Runs, converges, goes_on}
use Rattle.mlir_tree.specs.Tree.{word}
use Rattle.rewrite_model.proofs.Samples.{op}
use Rattle.rewrite_model.proofs.Told.{some_or}
use Rattle.rewrite_model.proofs.Unique.{candidate, less_or_not}
use Rattle.rewrite_model.proofs.Refuting.{may_match, no_match}
use Rattle.rewrite_model.proofs.ExpandingExamples.{reshape_reshape}
use Rattle.rewrite_model.proofs.Examples.{shapes, shapes_after, shapes_given, shapes_match, shapes_step}

-- ---- the pattern is determined by its root

abbrev outer : Parts Expr
outer = record { operands = only_result 2 ∷ []; entries = []; types = the 3 ∷ [] }

abbrev inner : Parts Expr
inner = record { operands = the 0 ∷ []; entries = []; types = the 1 ∷ [] }

abbrev IsTold : ℕ → Type 0
IsTold x = Determined (4 ∷ []) reshape_reshape.demands x

abbrev root_told : IsTold 4
root_told = given_one 4 (inl refl)

abbrev outer_stands : IsIn (has_parts 4 outer) reshape_reshape.demands
outer_stands = inr (inr (inr (inr (inr (inr (inr (inl refl)))))))

abbrev inner_stands : IsIn (has_parts 2 inner) reshape_reshape.demands
inner_stands = inr (inr (inr (inl refl)))

abbrev inner_told : IsTold 2
inner_told = part_of 4 2 outer (only_result 2) outer_stands root_told (inl (inl refl)) refl

abbrev each_told : (x : ℕ) → x < 5 → IsTold x
each_told zero l = part_of 2 0 inner (the 0) inner_stands inner_told (inl (inl refl)) refl
each_told (suc zero) l = part_of 2 1 inner (the 1) inner_stands inner_told (inr (inr (inl refl))) refl
each_told (suc (suc zero)) l = inner_told
each_told (suc (suc (suc zero))) l = part_of 4 3 outer (the 3) outer_stands root_told (inr (inr (inl refl))) refl
each_told (suc (suc (suc (suc zero)))) l = root_told
each_told (suc (suc (suc (suc (suc x))))) l = absurd (omega (arith, l))

abbrev is_determined : IsDetermined reshape_reshape
is_determined = record { each = each_told; ranges = (tt, (tt, (tt, (omega arith, (tt, (tt, (tt, (omega arith, tt)))))))) }

-- ---- the run

abbrev ps : List Pattern
ps = reshape_reshape ∷ []

not_here : (rows : List Row) (id : ℕ) → may_match rows reshape_reshape.demands (candidate rows reshape_reshape is_determined id) ≡ false → NoneAt ps rows id
not_here rows id out zero p e m = no_match rows reshape_reshape is_determined id out (subst (λ q. Matches rows q id) (sym (ap (some_or reshape_reshape) e)) m)
not_here rows id out (suc k) p e m = absurd (cc)

abbrev hit : Hit
hit = record { pattern = 0; row = 3 }

is_best : IsBest ps shapes.rows 3 0 reshape_reshape
is_best = record { declared = refl; matches = (shapes_given, shapes_match); best = best } where
  best : (j : ℕ) (q : Pattern) → slice_get ps j ≡ Some q → Matches shapes.rows q 3 → (q.benefit < 1) ⊎ ((q.benefit ≡ 1) × (0 ≤ j))
  best zero q e m = inr (ap (λ o. (some_or reshape_reshape o).benefit) (sym e), omega arith)
  best (suc j) q e m = absurd (cc)

is_next : IsNext First ps shapes.rows hit reshape_reshape
unfolding less_or_not
is_next = record {
  before = take 3 shapes.rows;
  row = op 3 (codes "t.reshape") (Res 2 0 ∷ []) (word (codes "tensor<1x4xf32>") ∷ []);
  after = drop 4 shapes.rows;
  in_order = refl;
  none_ahead = (not_here shapes.rows 0 refl, (not_here shapes.rows 1 refl, (not_here shapes.rows 2 refl, tt)));
  number = refl;
  best = is_best;
}

none_left : NoneAmong ps shapes_after.rows shapes_after.rows
unfolding less_or_not
none_left =
    (not_here shapes_after.rows 0 refl, (not_here shapes_after.rows 1 refl, (not_here shapes_after.rows 2 refl, (not_here shapes_after.rows 5 refl, (not_here shapes_after.rows 4 refl, tt)))))

-- One step is taken, and no pattern matches in the module that it leaves.
reshape_run : Runs First ps 10000 shapes (record {
  taken = record { pattern = 0; name = codes "ReshapeReshape"; root = 3; made = 5 ∷ []; removed = 3 ∷ [] } ∷ [];
  ending = Converged;
  rows = shapes_after;
})
reshape_run = goes_on {n = 9999} {h = hit} {p = reshape_reshape} is_next shapes_match shapes_step (converges none_left)
