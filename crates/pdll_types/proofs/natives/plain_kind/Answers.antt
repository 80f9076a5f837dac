use Rattle.std.proofs.Common.{sym}
use Rattle.pdll_types.proofs.FirstRef.{plain_two}
use Rattle.pdll_types.proofs.natives.plain_kind.Goals as goal

pub returns-in_default-2 : goal.returns-in_default-2
returns-in_default-2 c = sym (plain_two c.args.all.now c.in_default.len_at_least)
