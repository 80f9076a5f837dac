use Rattle.std.proofs.Common.{ap, ◌∙◌}
use Rattle.std.specs.Prelude.{slice_get}
use Rattle.std.specs.Option.{option_and_then}
use Rattle.rewrite_step.proofs.Finding.{found_there}
use Rattle.rewrite_step.proofs.places.place_of.Goals as goal

pub returns-clause-row : goal.returns-clause-row
returns-clause-row c = ap (option_and_then (slice_get c.args.rows.now)) c.first_place.ensures.place ∙ found_there _ c.args.rows.now
