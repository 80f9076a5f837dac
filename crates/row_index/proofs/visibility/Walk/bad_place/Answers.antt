use Rattle.row_index.proofs.BadUses.{begun_at}
use Rattle.row_index.proofs.visibility.Walk.bad_place.Goals as goal

pub loop-k-init : goal.loop-k-init
loop-k-init c = begun_at c.args.self.now.rows.now c.args.at c.index-self-at.result _ c.requires.within c.as_slice-operands.ensures
