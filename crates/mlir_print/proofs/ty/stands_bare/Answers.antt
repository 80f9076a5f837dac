use Rattle.std.proofs.Common.{◌≡◌, ◌≢◌, ◌∙◌, false, List, [], ◌∷◌, length, eqb, refl, arith}
use Rattle.std.proofs.lemmas.Bool.Decides.{nat_tests}
use Rattle.mlir_tree.specs.Tree.{Ty, tys}
use Rattle.mlir_print.specs.Text.{stands_bare}
use Rattle.mlir_print.proofs.ty.stands_bare.Goals as goal

none_or_many : (all : List Ty) → length all ≢ 1 → false ≡ stands_bare (tys all)
none_or_many [] other = refl
none_or_many (t ∷ []) other = absurd (other refl)
none_or_many (t ∷ (u ∷ more)) other = refl

pub returns-else-all-eq1 : goal.returns-else-all-eq1
returns-else-all-eq1 c =
    let no : eqb (length c.args.all.now) 1 ≡ false = grind (arith, nat_tests) in
    no ∙ none_or_many c.args.all.now c.if-all-eq1.false
