use Rattle.rewrite_model.specs.MatchPart.{new_number, mention}
use Rattle.pdll_expand.specs.View.{meant_of}
use Rattle.pdll_expand.proofs.Steps.{then_do}
use Rattle.pdll_expand.proofs.scene.Scene.new_variable.Goals as goal

pub returns : goal.returns
returns c =
    then_do meant_of meant_of (new_number c.args.at c.args.kind) (λ x. mention c.args.kind x.is)
    c.args.self.now c.new_number.new.self c.mention.new.self c.in_ok-x.x c.mention.result c.in_ok-x.ensures c.mention.ensures
