use Rattle.std.proofs.Common.{ℕ, not}
use Rattle.std.proofs.lemmas.Simd.{zip2_splat}
use lib.Bits.{bit_and}
use Rattle.byte_lanes.specs.Bytes as spec
use Rattle.byte_lanes.proofs.Lanes.{miss, of_two, masked}
use Rattle.byte_lanes.proofs.class.not_space.Goals as goal

pub returns : goal.returns
returns c =
    let v = c.args.v in
    let is = λ (y : ℕ). zip2_splat miss v 32 y c.fits-v.0 in
    masked _ (λ x. not (spec.is_space x)) v _ c.fits-v
    (of_two bit_and _ _ v (of_two bit_and _ _ v (of_two bit_and _ _ v (is 32) (is 9)) (is 10)) (is 13)) tt
