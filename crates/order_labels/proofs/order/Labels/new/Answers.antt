use Rattle.std.proofs.Common.{refl}
use Rattle.order_labels.specs.Chain.{slots_of}
use Rattle.order_labels.proofs.Keeping.{no_labels}
use Rattle.order_labels.proofs.order.Labels.new.Goals as goal

pub invariant_of-result : goal.invariant_of-result
invariant_of-result c = no_labels c.new.result c.new-2.result c.new.ensures.empty c.new.ensures.first_key c.new-2.ensures.empty

pub returns-clause-ids : goal.returns-clause-ids
unfolding slots_of
returns-clause-ids c = refl
