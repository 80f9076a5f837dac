use Rattle.std.proofs.Common.{◌≡◌, Ok, subst, sym, ap, ◌∙◌}
use Rattle.row_matcher.specs.View.{thing_of}
use Rattle.rewrite_step.specs.View.{progress_of}
use Rattle.rewrite_step.specs.Ends.{Ends}
use Rattle.rewrite_step.specs.Worked.{given}
use Rattle.rewrite_step.proofs.progress.Progress.give_ended.Goals as goal

pub returns-in_ok-give-in-Ok : goal.returns-in_ok-give-in-Ok
returns-in_ok-give-in-Ok c = λ s o q ends same.
    let is : o ≡ Ok (thing_of c.in-Ok.thing) = subst (Ends thing_of o) c.in-Ok.is ends in
    sym same ∙ (ap (given s (progress_of c.args.self.now)) is ∙ ap Ok (sym (c.in_ok-give-in-Ok.ensures s)))
