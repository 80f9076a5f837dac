use Rattle.std.proofs.Common.{◌≡◌, ◌∙◌, ℕ, ap, take}
use Rattle.std.proofs.lemmas.List.{take_min}
use Rattle.pdllrw_command.specs.Positions.{position_behind, position_of}
use Rattle.pdllrw_command.proofs.position.position_of.Goals as goal

pub returns : goal.returns
unfolding position_of
returns c = c.position_behind.ensures ∙ ap position_behind (ap (λ (n : ℕ). take n c.args.bytes.now) c.min.ensures ∙ take_min c.args.at c.args.bytes.now)
