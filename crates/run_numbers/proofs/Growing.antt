-- How far the next free number goes.
use Rattle.std.proofs.Common.{◌≡◌, ◌≤◌, ◌+◌, ◌*◌, ℕ, suc, List, arith}
use Rattle.mlir_tree.specs.declared.rows.Rows.{Rows}
use Rattle.rewrite_model.specs.declared.run.Order.{Order}
use Rattle.rewrite_model.specs.Pattern.{Pattern}
use Rattle.rewrite_model.specs.Running.{Reaches, stays, steps_on}
use Rattle.rewrite_model.specs.Laws.{new_operations, StepsGiveNumbers}
use Rattle.rewrite_model.proofs.OneRun.{holds_at}
use Rattle.run_numbers.specs.Laws.{MakeFew}

module _ (gives : StepsGiveNumbers) (order : Order) (ps : List Pattern) (few : MakeFew ps) where
  pub grown : (n : ℕ) (m k : Rows) → Reaches order ps n m k → k.next ≤ m.next + 256 * n
  grown n m _ stays = omega arith
  grown (suc n) m k (steps_on {m' = m'} {h = h} {p = p} {a = a} s i e r) =
      let made = holds_at (λ q. new_operations q.actions ≤ 256) ps h.pattern p few s.best.declared in
      let now = gives p a h.row m m' e in
      let rest = grown n m' k r in
      omega (arith, made, now, rest)
