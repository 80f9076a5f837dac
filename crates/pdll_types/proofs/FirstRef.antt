-- The first of two or more refs.
use Rattle.std.proofs.Common.{◌≡◌, ◌≤◌, List, [], ◌∷◌, length, get_or, None, refl, ap, sym, arith}
use Rattle.pdll_syntax.specs.ExprTree.{Ref, refs}
use Rattle.pdll_types.specs.Signatures.{ref_place}
use Rattle.pdll_types.specs.Names.{plain_kind}
use Rattle.pdll_types.specs.Parts.{refs_not_plain}

pub first_not_plain : (rs : List Ref) (r : Ref) → 2 ≤ length rs → r ≡ get_or rs 0 r → refs_not_plain (refs rs) ≡ ref_place r ∷ []
first_not_plain [] r h is = absurd (omega arith)
first_not_plain (a ∷ []) r h is = absurd (omega arith)
first_not_plain (a ∷ b ∷ rs) r h is = ap (λ x. ref_place x ∷ []) (sym is)

pub plain_two : (rs : List Ref) → 2 ≤ length rs → plain_kind (refs rs) ≡ None
plain_two [] h = absurd (omega arith)
plain_two (a ∷ []) h = absurd (omega arith)
plain_two (a ∷ b ∷ rs) h = refl
