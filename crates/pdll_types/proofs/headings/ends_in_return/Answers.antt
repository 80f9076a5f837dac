use Rattle.std.proofs.Common.{◌-◌, length, ap, sym, ◌∙◌, arith}
use Rattle.pdll_types.specs.Parts.{is_return}
use Rattle.pdll_types.proofs.Loops.{return_last}
use Rattle.pdll_types.proofs.headings.ends_in_return.Goals as goal

pub returns-in-len1-up : goal.returns-in-len1-up
returns-in-len1-up c =
    c.is_return_form.ensures ∙ (ap is_return c.last.view_is
    ∙ sym (return_last c.args.all.now (length c.args.all.now - 1) c.last-item.result (omega arith) c.last-item.is))
