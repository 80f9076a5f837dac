use Rattle.std.proofs.Common.{not}
use Rattle.std.proofs.lemmas.Simd.{zip2_splat}
use Rattle.byte_lanes.specs.Bytes as spec
use Rattle.byte_lanes.proofs.Lanes.{hit, masked}
use Rattle.byte_lanes.proofs.class.not_line.Goals as goal

pub returns : goal.returns
returns c =
    let v = c.args.v in
    masked _ (λ x. not (not (spec.is_line_feed x))) v _ c.fits-v (zip2_splat hit v 32 10 c.fits-v.0) tt
