use Rattle.pdll_sizes.proofs.Maps.{nothing_kept}
use Rattle.pdll_sizes.proofs.sizes.Sizes.new.Goals as goal

pub invariant_of-result : goal.invariant_of-result
invariant_of-result c = nothing_kept c.new-3.result.items c.new.result.entries c.new-2.result.entries c.new-3.ensures.items c.new.ensures.empty c.new-2.ensures.empty
