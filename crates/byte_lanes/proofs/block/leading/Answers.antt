use Rattle.std.proofs.Common.{arith}
use Rattle.std.proofs.lemmas.Bool.Decides.{nat_tests}
use Rattle.byte_lanes.specs.Bytes.{is_in}
use Rattle.byte_lanes.proofs.Blocks.{first_out}
use Rattle.byte_lanes.proofs.block.leading.Goals as goal

pub returns-then-outside-eq0 : goal.returns-then-outside-eq0
returns-then-outside-eq0 c =
    let is = first_out (is_in c.args.class) c.args.v c.lanes_outside-outside.result c.requires c.lanes_outside-outside.ensures in
    grind (arith, nat_tests, is)

pub returns-else-outside-eq0 : goal.returns-else-outside-eq0
returns-else-outside-eq0 c =
    let is = first_out (is_in c.args.class) c.args.v c.lanes_outside-outside.result c.requires c.lanes_outside-outside.ensures in
    grind (arith, nat_tests, is)
