-- A step: its actions, and the test of what they leave.
use Rattle.std.proofs.Common.{◌≡◌, ℕ, List, [], refl, sym, ap, ◌∙◌, subst}
use Rattle.std.specs.Prelude.{Result, Ok, Err}
use Rattle.mlir_tree.specs.declared.row.Row.{Row}
use Rattle.mlir_tree.specs.declared.rows.Rows.{Rows}
use Rattle.mlir_tree.specs.declared.refusal.Refusal.{Refusal}
use Rattle.mlir_tree.specs.declared.refusal.Refusal.TheVariants.{Fault, NoMemory}
use Rattle.row_index.specs.BadUses.{bad_use}
use Rattle.rewrite_model.specs.Laws.{IsLaidOut, RewritesKeepLayout}
use Rattle.rewrite_model.specs.Pattern.{Action, Pattern}
use Rattle.rewrite_model.specs.Things.{Thing}
use Rattle.rewrite_model.specs.Making.{Start, Progress, Outcome, ◌>>=◌, act_all}
use Rattle.rewrite_model.specs.Step.{begun, rewritten, accepted, step}
use Rattle.rewrite_step.specs.declared.stop.Stop.{Stop as StopNode}
use Rattle.rewrite_step.specs.Ends.{Ends}

abbrev start_with : List Row → List Thing → ℕ → Start
start_with rs a root = record { rows = rs; given = a; root = root }

all_done : (p : Pattern) (a : List Thing) (root : ℕ) (m : Rows) (rs : List Row) (q : Progress) (xs : List Action) → rs ≡ m.rows → q ≡ begun m → p.actions ≡ xs
    → rewritten p a root m ≡ act_all (start_with rs a root) q xs
unfolding rewritten
all_done p a root m rs q xs are is same =
    let rows = sym are in
    let from = sym is in
    λ i. act_all (start_with (rows i) a root) (from i) (same i)

pub step_stops : {A : Type 0} (view : A → Rows) (p : Pattern) (a : List Thing) (root : ℕ) (m : Rows) (rs : List Row) (q n : Progress) (xs : List Action) (e : Refusal StopNode) → rs ≡ m.rows → q ≡ begun m → p.actions ≡ xs
    → Ends (λ (u : Unit {0}). n) (act_all (start_with rs a root) q xs) (Err e) → Ends view (step p a root m) (Err e)
unfolding step
step_stops view p a root m rs q n xs (Fault s) are is same stops = ap (λ o. o >>= (λ q. accepted q.now (bad_use q.now.rows))) (all_done p a root m rs q xs are is same ∙ stops)
step_stops view p a root m rs q n xs NoMemory are is same stops = tt

pub accepted_after : {A : Type 0} (view : A → Rows) (p : Pattern) (a : List Thing) (root : ℕ) (m : Rows) (rs : List Row) (q n : Progress) (xs : List Action) (r : Result A (Refusal StopNode)) → rs ≡ m.rows → q ≡ begun m
    → p.actions ≡ xs → act_all (start_with rs a root) q xs ≡ Ok n → Ends view (accepted n.now (bad_use n.now.rows)) r → Ends view (step p a root m) r
unfolding step
accepted_after view p a root m rs q n xs r are is same done ends =
    subst (λ (o : Outcome Rows). Ends view o r)
    (sym (ap (λ (o : Outcome Progress). o >>= (λ q. accepted q.now (bad_use q.now.rows))) (all_done p a root m rs q xs are is same ∙ done))) ends

pub still_laid_out : RewritesKeepLayout → (a : List Thing) (root : ℕ) (m : Rows) (rs : List Row) (q n : Progress) (xs : List Action) → IsLaidOut m → rs ≡ m.rows → q ≡ begun m
    → act_all (start_with rs a root) q xs ≡ Ok n → IsLaidOut n.now
still_laid_out keep a root m rs q n xs laid are is done =
    let p : Pattern = record { name = []; benefit = 0; kinds = []; places = []; demands = []; root = 0; actions = xs } in
    keep p a root m n laid (all_done p a root m rs q xs are is refl ∙ done)
