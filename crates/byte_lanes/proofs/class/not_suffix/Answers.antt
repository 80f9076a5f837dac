use Rattle.std.proofs.Common.{ℕ, not}
use Rattle.std.proofs.lemmas.Simd.{zip2_splat, zip2_splat_left}
use lib.Bits.{bit_or, bit_and}
use Rattle.byte_lanes.specs.Bytes as spec
use Rattle.byte_lanes.proofs.Lanes.{below, miss, of_two, with_splat, splat_with, masked}
use Rattle.byte_lanes.proofs.class.not_suffix.Goals as goal

pub returns : goal.returns
returns c =
    let v = c.args.v in
    let is = λ (y : ℕ). zip2_splat miss v 32 y c.fits-v.0 in
    let lower = zip2_splat bit_or v 32 32 c.fits-v.0 in
    let letters = of_two bit_or _ _ v (with_splat below _ 97 32 v c.fits-v.0 lower) (splat_with below _ 122 32 v c.fits-v.0 lower) in
    let digits = of_two bit_or _ _ v (zip2_splat below v 32 48 c.fits-v.0) (zip2_splat_left below 57 32 v c.fits-v.0) in
    let marks = of_two bit_and _ _ v (of_two bit_and _ _ v (of_two bit_and _ _ v (is 95) (is 36)) (is 46)) (is 45) in
    masked _ (λ x. not (spec.is_suffix_byte x)) v _ c.fits-v (of_two bit_and _ _ v (of_two bit_and _ _ v letters digits) marks) tt
