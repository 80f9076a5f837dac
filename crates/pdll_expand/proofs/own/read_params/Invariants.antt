use Rattle.rewrite_model.specs.Expanding.{param_variables}
use Rattle.pdll_expand.specs.Reading.{param_read}
use Rattle.pdll_expand.specs.View.{meant_of}
use Rattle.pdll_expand.specs.Table.{in_sight}
use Rattle.pdll_expand.proofs.Steps.{Reads}
use Rattle.pdll_expand.proofs.own.read_params.Given as goal

abbrev pub invariant-loop-param : goal.invariant-loop-param
invariant-loop-param l =
    Reads meant_of (param_read (in_sight l.constraints)) (param_variables (in_sight l.constraints)) l.params l.param-index l.found l.fn.scene l.scene
