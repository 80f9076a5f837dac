-- How the sign of an integer type is written (MLIR builtin dialect, "IntegerType").
use Rattle.std.specs.Prelude.{ℕ, List, codes}
use Rattle.mlir_tree.specs.declared.sign.Sign.{Sign}
use Rattle.mlir_tree.specs.declared.sign.Sign.TheVariants.{Signless, Signed, Unsigned}

abbrev pub sign_text : Sign → List ℕ
sign_text Signless = codes "i"
sign_text Signed = codes "si"
sign_text Unsigned = codes "ui"
