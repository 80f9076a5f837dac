use Rattle.std.proofs.Common.{sym, ap, ◌∙◌}
use Rattle.rewrite_step.specs.Removing.{has_inner}
use Rattle.rewrite_step.proofs.Removing.{it_alone_goes}
use Rattle.rewrite_step.proofs.edits.remove.Goals as goal

pub returns : goal.returns
returns c =
    let old = c.args.rows.now in
    let none = sym (c.has_inner.ensures ∙ ap (has_inner c.args.owner) c.as_slice.ensures) ∙ c.if-has_inner.false in
    it_alone_goes old c.args.owner c.remove_rows.new.rows none c.remove_rows.ensures
