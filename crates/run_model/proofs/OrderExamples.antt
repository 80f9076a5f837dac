-- A run by the last operation each time, which the checker computes, and its log.
use Rattle.std.specs.Prelude.{◌≡◌, ℕ, zero, suc, ◌<◌, ◌≤◌, List, [], ◌∷◌, take, slice_get, Some, Ok, codes}
use Rattle.std.proofs.Common.{◌⊎◌, inl, inr, refl, sym, ap, arith}
use Rattle.std.specs.Fmt.{digits}
use Rattle.mlir_print.specs.Text.{string_text}
use Rattle.mlir_tree.specs.Module.{is_visible, enclosing}
use Rattle.mlir_tree.specs.Edits.{inserted, put_before, substituted, removed}
use Rattle.mlir_tree.specs.declared.row.Row.{Row}
use Rattle.mlir_tree.specs.declared.rows.Rows.{Rows}
use Rattle.row_index.specs.BadUses.{bad_use}
use Rattle.rewrite_model.specs.declared.run.Hit.{Hit}
use Rattle.rewrite_model.specs.declared.run.Order.TheVariants.{Last}
use Rattle.rewrite_model.specs.declared.run.BoundKind.TheVariants.{Rewrites}
use Rattle.rewrite_model.specs.declared.run.Ending.TheVariants.{Bound}
use Rattle.rewrite_model.specs.Pattern.{Pattern}
use Rattle.rewrite_model.specs.Things.{Thing, an_op, some_values, some_types}
use Rattle.rewrite_model.specs.Matching.{Matches, MatchesBy, IsBest}
use Rattle.rewrite_model.specs.Step.{step, rewritten}
use Rattle.rewrite_model.specs.Taken.{Taken}
use Rattle.rewrite_model.specs.Running.{IsNext, Runs, is_bounded, goes_on}
use Rattle.run_model.specs.LogText.{header, step_line, step_lines, ending_line, log_text}
use Rattle.rewrite_model.proofs.Samples.{op, module_of}
use Rattle.rewrite_model.proofs.Told.{some_or}
use Rattle.rewrite_model.proofs.ExpandingExamples.{low}

-- "t.a"() : () -> ()
abbrev an_a : ℕ → Row
an_a id = op id (codes "t.a") [] []

abbrev two : Rows
two = module_of (an_a 1 ∷ an_a 2 ∷ []) 3

abbrev one : Rows
one = module_of (an_a 1 ∷ []) 3

-- Pattern Low => erase op<t.a>;
abbrev ps : List Pattern
ps = low ∷ []

abbrev given : ℕ → List Thing
given id = some_values [] ∷ some_types [] ∷ an_op id ∷ []

abbrev hit : ℕ → Hit
hit id = record { pattern = 0; row = id }

second_matches : MatchesBy two.rows low (given 2) 2
second_matches = record {
  assigned = record { kinds_fit = refl; are_things = refl };
  holds = ((_, refl), ((_, refl), (refl, ((_, refl, record { operands = refl; entries = tt; types = refl }), tt))));
  root = refl;
}

first_matches : MatchesBy one.rows low (given 1) 1
first_matches = record {
  assigned = record { kinds_fit = refl; are_things = refl };
  holds = ((_, refl), ((_, refl), (refl, ((_, refl, record { operands = refl; entries = tt; types = refl }), tt))));
  root = refl;
}

best : (rows : List Row) (id : ℕ) → MatchesBy rows low (given id) id → IsBest ps rows id 0 low
best rows id m = record { declared = refl; matches = (given id, m); best = first } where
  first : (j : ℕ) (q : Pattern) → slice_get ps j ≡ Some q → Matches rows q id → (q.benefit < 1) ⊎ ((q.benefit ≡ 1) × (0 ≤ j))
  first zero q e m = inr (ap (λ o. (some_or low o).benefit) (sym e), omega arith)
  first (suc j) q e m = absurd (cc)

from_the_end : IsNext Last ps two.rows (hit 2) low
from_the_end = record {
  before = take 2 two.rows;
  row = an_a 2;
  after = [];
  in_order = refl;
  none_ahead = tt;
  number = refl;
  best = best two.rows 2 second_matches;
}

then_the_other : IsNext Last ps one.rows (hit 1) low
then_the_other = record {
  before = take 1 one.rows;
  row = an_a 1;
  after = [];
  in_order = refl;
  none_ahead = tt;
  number = refl;
  best = best one.rows 1 first_matches;
}

second_step : step low (given 2) 2 two ≡ Ok one
unfolding step rewritten bad_use is_visible enclosing inserted put_before substituted removed
second_step = refl

abbrev steps : List Taken
steps = record { pattern = 0; name = codes "Low"; root = 2; made = []; removed = 2 ∷ [] } ∷ []

-- One step is allowed, and it's taken at the last of the two operations.
last_run : Runs Last ps 1 two (record { taken = steps; ending = Bound Rewrites (hit 1); rows = one })
last_run = goes_on {n = 0} {h = hit 2} {p = low} from_the_end second_matches second_step (is_bounded {h = hit 1} {p = low} then_the_other)

last_log : log_text steps (Bound Rewrites (hit 1)) ≡ codes "pdllrw-log 1\nstep 1 pattern 0 \"Low\" root 2 made - removed 2\nend bound rewrites steps 1 pattern 0 root 1\n"
unfolding log_text header step_lines step_line ending_line string_text digits
last_log = refl
