-- The best of two patterns, and a run in which a step of the second one lets the first one match.
use Rattle.std.specs.Prelude.{◌≡◌, ℕ, zero, suc, ◌<◌, ◌≤◌, false, List, [], ◌∷◌, take, slice_get, Some, codes}
use Rattle.std.proofs.Common.{◌⊎◌, inl, inr, refl, sym, ap, subst, arith}
use Rattle.mlir_tree.specs.declared.row.Row.{Row}
use Rattle.mlir_tree.specs.declared.rows.Rows.{Rows}
use Rattle.mlir_tree.specs.declared.value.Val.TheVariants.{Res}
use Rattle.rewrite_model.specs.declared.run.Hit.{Hit}
use Rattle.rewrite_model.specs.declared.run.Order.TheVariants.{First}
use Rattle.rewrite_model.specs.declared.run.Ending.TheVariants.{Converged}
use Rattle.rewrite_model.specs.Pattern.{Parts, Expr, the, only_result, has_parts, Pattern}
use Rattle.rewrite_model.specs.Determined.{IsIn, Determined, given_one, part_of, IsDetermined}
use Rattle.rewrite_model.specs.Things.{Thing, an_op, some_values, some_types}
use Rattle.rewrite_model.specs.Matching.{Matches, MatchesBy, NoneAt, IsBest}
use Rattle.rewrite_model.specs.Running.{NoneAmong, IsNext, Runs, converges, goes_on}
use Rattle.rewrite_model.proofs.Samples.{op, module_of, i32}
use Rattle.rewrite_model.proofs.Told.{some_or}
use Rattle.rewrite_model.proofs.Unique.{candidate, less_or_not}
use Rattle.rewrite_model.proofs.Refuting.{may_match, no_match}
use Rattle.rewrite_model.proofs.ExpandingExamples.{low, high, fuse, drop_dead}
use Rattle.rewrite_model.proofs.Examples.{one_a, one_a_given, one_a_matches, with_dead, fuse_given, fuse_match, drop_step, fuse_step}

-- ---- the best of two

matches_high : (n : ℕ) → MatchesBy (one_a []).rows (record high { benefit = n }) (one_a_given []) 1
matches_high n = record { assigned = one_a_matches.assigned; holds = one_a_matches.holds; root = refl }

-- The one of greater benefit, though it is declared later.
greater_benefit : IsBest (low ∷ high ∷ []) (one_a []).rows 1 1 high
greater_benefit = record { declared = refl; matches = (one_a_given [], matches_high 10); best = best } where
  best : (j : ℕ) (q : Pattern) → slice_get (low ∷ high ∷ []) j ≡ Some q → Matches (one_a []).rows q 1 → (q.benefit < 10) ⊎ ((q.benefit ≡ 10) × (1 ≤ j))
  best zero q e m = inl (subst (λ p. p.benefit < 10) (ap (some_or low) e) (omega arith))
  best (suc zero) q e m = inr (ap (λ o. (some_or high o).benefit) (sym e), omega arith)
  best (suc (suc j)) q e m = absurd (cc)

-- Of equal ones the one that is declared first.
first_declared : IsBest (low ∷ record high { benefit = 1 } ∷ []) (one_a []).rows 1 0 low
first_declared = record { declared = refl; matches = (one_a_given [], one_a_matches); best = best } where
  best : (j : ℕ) (q : Pattern) → slice_get (low ∷ record high { benefit = 1 } ∷ []) j ≡ Some q → Matches (one_a []).rows q 1 → (q.benefit < 1) ⊎ ((q.benefit ≡ 1) × (0 ≤ j))
  best zero q e m = inr (ap (λ o. (some_or low o).benefit) (sym e), omega arith)
  best (suc zero) q e m = inr (ap (λ o. (some_or low o).benefit) (sym e), omega arith)
  best (suc (suc j)) q e m = absurd (cc)

-- ---- what the patterns determine

stands_at : {X : Type 0} (n : ℕ) (xs : List X) (x : X) → slice_get xs n ≡ Some x → IsIn x xs
stands_at n [] x e = absurd (cc)
stands_at zero (y ∷ xs) x e = inl (sym (ap (some_or y) e))
stands_at (suc n) (y ∷ xs) x e = inr (stands_at n xs x e)

abbrev parts : List Expr → List Expr → Parts Expr
parts os ts = record { operands = os; entries = []; types = ts }

abbrev outer : Parts Expr
outer = parts (only_result 4 ∷ []) (the 5 ∷ [])

abbrev middle : Parts Expr
middle = parts (only_result 2 ∷ []) (the 3 ∷ [])

abbrev inner : Parts Expr
inner = parts (the 0 ∷ []) (the 1 ∷ [])

abbrev IsTold : ℕ → Type 0
IsTold x = Determined (6 ∷ []) fuse.demands x

abbrev told_6 : IsTold 6
told_6 = given_one 6 (inl refl)

abbrev told_4 : IsTold 4
told_4 = part_of 6 4 outer (only_result 4) (stands_at 11 fuse.demands (has_parts 6 outer) refl) told_6 (inl (inl refl)) refl

abbrev told_2 : IsTold 2
told_2 = part_of 4 2 middle (only_result 2) (stands_at 7 fuse.demands (has_parts 4 middle) refl) told_4 (inl (inl refl)) refl

abbrev fuse_told : (x : ℕ) → x < 7 → IsTold x
fuse_told zero l = part_of 2 0 inner (the 0) (stands_at 3 fuse.demands (has_parts 2 inner) refl) told_2 (inl (inl refl)) refl
fuse_told (suc zero) l = part_of 2 1 inner (the 1) (stands_at 3 fuse.demands (has_parts 2 inner) refl) told_2 (inr (inr (inl refl))) refl
fuse_told (suc (suc zero)) l = told_2
fuse_told (suc (suc (suc zero))) l = part_of 4 3 middle (the 3) (stands_at 7 fuse.demands (has_parts 4 middle) refl) told_4 (inr (inr (inl refl))) refl
fuse_told (suc (suc (suc (suc zero)))) l = told_4
fuse_told (suc (suc (suc (suc (suc zero))))) l = part_of 6 5 outer (the 5) (stands_at 11 fuse.demands (has_parts 6 outer) refl) told_6 (inr (inr (inl refl))) refl
fuse_told (suc (suc (suc (suc (suc (suc zero)))))) l = told_6
fuse_told (suc (suc (suc (suc (suc (suc (suc x))))))) l = absurd (omega (arith, l))

abbrev fuse_determined : IsDetermined fuse
fuse_determined = record {
  each = fuse_told;
  ranges = (tt, (tt, (tt, (omega arith, (tt, (tt, (tt, (omega arith, (tt, (tt, (tt, (omega arith, (tt, (tt, tt))))))))))))));
}

abbrev drop_told : (x : ℕ) → x < 3 → Determined (2 ∷ []) drop_dead.demands x
drop_told zero l = part_of 2 0 inner (the 0) (stands_at 3 drop_dead.demands (has_parts 2 inner) refl) (given_one 2 (inl refl)) (inl (inl refl)) refl
drop_told (suc zero) l = part_of 2 1 inner (the 1) (stands_at 3 drop_dead.demands (has_parts 2 inner) refl) (given_one 2 (inl refl)) (inr (inr (inl refl))) refl
drop_told (suc (suc zero)) l = given_one 2 (inl refl)
drop_told (suc (suc (suc x))) l = absurd (omega (arith, l))

abbrev drop_determined : IsDetermined drop_dead
drop_determined = record { each = drop_told; ranges = (tt, (tt, (tt, (omega arith, tt)))) }

-- ---- the run

abbrev ps : List Pattern
ps = fuse ∷ drop_dead ∷ []

none_at : (rows : List Row) (id : ℕ) → may_match rows fuse.demands (candidate rows fuse fuse_determined id) ≡ false → may_match rows drop_dead.demands (candidate rows drop_dead drop_determined id) ≡ false → NoneAt ps rows id
none_at rows id f d zero p e m = no_match rows fuse fuse_determined id f (subst (λ q. Matches rows q id) (sym (ap (some_or fuse) e)) m)
none_at rows id f d (suc zero) p e m = no_match rows drop_dead drop_determined id d (subst (λ q. Matches rows q id) (sym (ap (some_or drop_dead) e)) m)
none_at rows id f d (suc (suc k)) p e m = absurd (cc)

abbrev dead : Row
dead = op 4 (codes "t.dead") (Res 1 0 ∷ []) []

abbrev before : Rows
before = with_dead (dead ∷ [])

abbrev after : Rows
after = module_of (op 1 (codes "t.a") [] (i32 ∷ []) ∷ op 2 (codes "t.b") (Res 1 0 ∷ []) (i32 ∷ []) ∷ op 5 (codes "t.abc") [] (i32 ∷ []) ∷ []) 6

abbrev drop_given : List Thing
drop_given = some_values (Res 1 0 ∷ []) ∷ some_types [] ∷ an_op 4 ∷ []

drop_match : MatchesBy before.rows drop_dead drop_given 4
drop_match = record {
  assigned = record { kinds_fit = refl; are_things = refl };
  holds = ((_, refl), ((_, refl), (refl, ((_, refl, record { operands = refl; entries = tt; types = refl }), tt))));
  root = refl;
}

drop_best : IsBest ps before.rows 4 1 drop_dead
unfolding less_or_not
drop_best = record { declared = refl; matches = (drop_given, drop_match); best = best (no_match before.rows fuse fuse_determined 4 refl) } where
  best : (Matches before.rows fuse 4 → ⊥) → (j : ℕ) (q : Pattern) → slice_get ps j ≡ Some q → Matches before.rows q 4 → (q.benefit < 1) ⊎ ((q.benefit ≡ 1) × (1 ≤ j))
  best no_fuse zero q e m = absurd (no_fuse (subst (λ p. Matches before.rows p 4) (sym (ap (some_or fuse) e)) m))
  best no_fuse (suc zero) q e m = inr (ap (λ o. (some_or fuse o).benefit) (sym e), omega arith)
  best no_fuse (suc (suc j)) q e m = absurd (cc)

fuse_best : IsBest ps (with_dead []).rows 3 0 fuse
fuse_best = record { declared = refl; matches = (fuse_given, fuse_match); best = best } where
  best : (j : ℕ) (q : Pattern) → slice_get ps j ≡ Some q → Matches (with_dead []).rows q 3 → (q.benefit < 1) ⊎ ((q.benefit ≡ 1) × (0 ≤ j))
  best zero q e m = inr (ap (λ o. (some_or fuse o).benefit) (sym e), omega arith)
  best (suc zero) q e m = inr (ap (λ o. (some_or fuse o).benefit) (sym e), omega arith)
  best (suc (suc j)) q e m = absurd (cc)

abbrev hit : ℕ → ℕ → Hit
hit k id = record { pattern = k; row = id }

-- While the dead operation uses the first value too, the value has two uses, and the first pattern matches nowhere.
first_step : IsNext First ps before.rows (hit 1 4) drop_dead
unfolding less_or_not
first_step = record {
  before = take 4 before.rows;
  row = dead;
  after = [];
  in_order = refl;
  none_ahead = (none_at before.rows 0 refl refl, (none_at before.rows 1 refl refl, (none_at before.rows 2 refl refl, (none_at before.rows 3 refl refl, tt))));
  number = refl;
  best = drop_best;
}

second_step : IsNext First ps (with_dead []).rows (hit 0 3) fuse
unfolding less_or_not
second_step = record {
  before = take 3 (with_dead []).rows;
  row = op 3 (codes "t.c") (Res 2 0 ∷ []) (i32 ∷ []);
  after = [];
  in_order = refl;
  none_ahead = (none_at (with_dead []).rows 0 refl refl, (none_at (with_dead []).rows 1 refl refl, (none_at (with_dead []).rows 2 refl refl, tt)));
  number = refl;
  best = fuse_best;
}

none_left : NoneAmong ps after.rows after.rows
unfolding less_or_not
none_left = (none_at after.rows 0 refl refl, (none_at after.rows 1 refl refl, (none_at after.rows 2 refl refl, (none_at after.rows 5 refl refl, tt))))

fuse_run : Runs First ps 10000 before (record {
  taken =
      record { pattern = 1; name = codes "Drop"; root = 4; made = []; removed = 4 ∷ [] }
      ∷ record { pattern = 0; name = codes "Fuse"; root = 3; made = 5 ∷ []; removed = 3 ∷ [] }
      ∷ [];
  ending = Converged;
  rows = after;
})
fuse_run =
    goes_on {n = 9999} {h = hit 1 4} {p = drop_dead} first_step drop_match drop_step
    (goes_on {n = 9998} {h = hit 0 3} {p = fuse} second_step fuse_match fuse_step (converges none_left))
