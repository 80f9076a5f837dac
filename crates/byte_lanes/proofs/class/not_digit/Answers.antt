use Rattle.std.proofs.Common.{not}
use Rattle.std.proofs.lemmas.Simd.{zip2_splat, zip2_splat_left}
use lib.Bits.{bit_or}
use Rattle.byte_lanes.specs.Bytes as spec
use Rattle.byte_lanes.proofs.Lanes.{below, of_two, masked}
use Rattle.byte_lanes.proofs.class.not_digit.Goals as goal

pub returns : goal.returns
returns c =
    let v = c.args.v in
    masked _ (λ x. not (spec.is_digit x)) v _ c.fits-v
    (of_two bit_or _ _ v (zip2_splat below v 32 48 c.fits-v.0) (zip2_splat_left below 57 32 v c.fits-v.0)) tt
