use Rattle.std.proofs.Math.Logic.{∥∥₁_elim}
use Rattle.std.proofs.Props.{props}
use Rattle.pdll_expand.specs.Called.{calls_in}
use Rattle.pdll_expand.proofs.constraints.Constraints.place.Goals as goal

pub returns-clause-found : goal.returns-clause-found
returns-clause-found c =
    let d = c.args.self.now.calls in
    ∥∥₁_elim c.args.self.now.table (hlevel props) (λ h. c.find.ensures.found (calls_in d) h)
