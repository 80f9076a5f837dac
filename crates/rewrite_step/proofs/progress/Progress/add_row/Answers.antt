use Rattle.std.proofs.Common.{◌≡◌, ◌+◌, length, refl, sym, ap, ◌∙◌}
use Rattle.std.specs.Prelude.{Ok}
use Rattle.mlir_tree.specs.declared.row.Row.{Row}
use Rattle.rewrite_model.specs.Making.{slots_of, put_in}
use Rattle.rewrite_step.specs.View.{start_of, progress_of}
use Rattle.rewrite_step.specs.Worked.{slots_with}
use Rattle.rewrite_step.proofs.Outcomes.{put_where}
use Rattle.rewrite_step.proofs.progress.Progress.add_row.Goals as goal

pub returns : goal.returns
returns c =
    let p = progress_of c.args.self.now in
    let s = start_of c.args.start.now in
    let counted : slots_with p.rows p.slots c.len.result c.len-2.result ≡ slots_with p.rows p.slots (length c.args.operands) (length c.args.types) = λ i. slots_with p.rows p.slots (c.len.ensures i) (c.len-2.ensures i) in
    let put = put_where s p c.args.home c.args.name.now c.args.operands c.args.entries.now c.args.types c.in_ok-slots.slots (sym counted ∙ c.in_ok-slots.ensures.slots) in
    let row = c.in_ok-row.ensures in
    let is : progress_of c.put_in.new.self ≡ put_in s p c.in_ok-row.row =
    c.in_ok-put_in.ensures s refl (put.1 ∙ sym (ap (λ (r : Row). p.slots + slots_of r) row)) in
    put.0 ∙ (ap (λ (r : Row). Ok (put_in s p r)) (sym row) ∙ ap Ok (sym is))
