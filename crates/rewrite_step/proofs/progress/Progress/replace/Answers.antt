use Rattle.std.proofs.Common.{◌≡◌, map, ap, ◌∙◌}
use Rattle.mlir_tree.specs.declared.rows.Rows.{Rows}
use Rattle.mlir_tree.specs.Edits.{removed, substituted}
use Rattle.rewrite_model.specs.Making.{results, edited}
use Rattle.pdll_patterns.specs.View.{part_of}
use Rattle.rewrite_step.specs.View.{start_of, progress_of}
use Rattle.rewrite_step.proofs.Outcomes.{replace_goes, replace_stops}
use Rattle.rewrite_step.proofs.progress.Progress.replace.Goals as goal

pub returns : goal.returns
returns c =
    let s = start_of c.args.start.now in
    let p = progress_of c.args.self.now in
    let r = c.in_ok-row.row.now in
    let from : c.as_slice-from.result.now ≡ results r = c.as_slice-from.ensures ∙ c.in_ok-results.ensures in
    let to : c.as_slice-2.result.now ≡ c.in_ok-values.values = c.as_slice-2.ensures in
    let done : c.exchange.new.rows ≡ removed r.id (substituted (results r) c.in_ok-values.values c.args.self.now.current) =
    c.in_ok-exchange.ensures ∙ (λ i. removed r.id (substituted (from i) (to i) c.args.self.now.current)) in
    replace_goes s p _ (part_of c.args.x) (map part_of c.args.xs.now) r c.in_ok-values.values c.as_slice.result.now c.as_slice-rows.result.now c.in_default.field-0
    c.in_ok-row.ensures c.in_ok-values.ensures c.as_slice-rows.ensures c.as_slice.ensures c.in_default.ensures (ap (λ (m : Rows). edited s p (λ n. m)) done)

pub returns-in-Err : goal.returns-in-Err
returns-in-Err c =
    let s = start_of c.args.start.now in
    let p = progress_of c.args.self.now in
    replace_stops (λ u. p) s p (part_of c.args.x) (map part_of c.args.xs.now) c.in_ok-row.row.now c.in_ok-values.values c.as_slice.result.now c.as_slice-rows.result.now c.in-Err.e
    c.in_ok-row.ensures c.in_ok-values.ensures c.as_slice-rows.ensures c.as_slice.ensures c.in-Err.ensures
