use Rattle.std.proofs.Common.{◌≡◌, ◌++◌, drop}
use Rattle.std.specs.Option.{option_map}
use Rattle.pdll_types.specs.Names.{plain_kinds}
use Rattle.pdll_types.proofs.natives.plain_kinds.Given as goal

abbrev pub invariant-loop-param : goal.invariant-loop-param
invariant-loop-param l = plain_kinds l.params ≡ option_map (λ ks. l.kinds ++ ks) (plain_kinds (drop l.param-index l.params))
