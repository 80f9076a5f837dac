use Rattle.std.proofs.Common.{◌≡◌, drop}
use Rattle.pdll_types.specs.Mentions.{of_params}
use Rattle.pdll_types.specs.Walk.{walked}
use Rattle.pdll_types.proofs.declarations.walk_params.Given as goal

abbrev pub invariant-loop-param : goal.invariant-loop-param
invariant-loop-param l =
    walked l.table (of_params l.table l.section l.params) l.fn.walk ≡ walked l.table (of_params l.table l.section (drop l.param-index l.params)) l.walk
