use Rattle.std.proofs.Common.{map, sym, ap, subst, ◌∙◌}
use Rattle.std.proofs.Math.Logic.{∥∥₁_map}
use Rattle.rewrite_model.specs.Determined.{AreDetermined}
use Rattle.rewrite_model.specs.Running.{stays}
use Rattle.pdll_patterns.specs.View.{pattern_of}
use Rattle.greedy_driver.proofs.drive.drive_rows.Goals as goal

pub returns-in_err-patterns-clause-reached : goal.returns-in_err-patterns-clause-reached
returns-in_err-patterns-clause-reached c = stays

pub drive-requires-clause-determined : goal.drive-requires-clause-determined
drive-requires-clause-determined c =
    subst (λ ps. ∥ AreDetermined ps ∥₁) (sym c.in_ok-patterns.ensures.exact ∙ ap (map pattern_of) (sym c.as_slice.ensures))
    (∥∥₁_map c.args.typed.now.accepted (λ a. c.accepted_files_are_determined.ensures c.args.typed.now.file a))
