use Rattle.std.proofs.Common.{◌∙◌, ap, eqb, arith, w8}
use Rattle.std.specs.Int.RustNames.{count_ones}
use Rattle.std.proofs.lemmas.Simd.{bitmask_splat, ones-mask_l}
use Rattle.byte_lanes.specs.Bytes.{is_line_feed}
use Rattle.byte_lanes.proofs.block.line_feeds.Goals as goal

pub returns : goal.returns
returns c = ap count_ones (bitmask_splat w8 eqb c.args.v 32 10 c.requires (omega arith)) ∙ ones-mask_l is_line_feed c.args.v
