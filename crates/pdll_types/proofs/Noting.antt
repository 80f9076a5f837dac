-- Faults that are noted one after the other.
use Rattle.std.proofs.Common.{◌≡◌, ℕ, List, [], ◌∷◌, ◌++◌, Option, refl, ap, ◌∙◌}
use Rattle.pdll_syntax.specs.declared.fault.PatFault.{PatFault}
use Rattle.pdll_syntax.specs.declared.fault.PatKind.{PatKind}
use Rattle.pdll_types.specs.Accepted.{faults}
use Rattle.pdll_types.specs.Walk.{noted, all_noted}

pub noted_both : (fs gs : List PatFault) (least : Option PatFault) → all_noted (fs ++ gs) least ≡ all_noted gs (all_noted fs least)
noted_both [] gs least = refl
noted_both (f ∷ fs) gs least = noted_both fs gs (noted f least)

pub faults_both : (k : PatKind) (xs ys : List ℕ) → faults k (xs ++ ys) ≡ faults k xs ++ faults k ys
faults_both k [] ys = refl
faults_both k (x ∷ xs) ys = ap (λ fs. record { kind = k; at = x } ∷ fs) (faults_both k xs ys)

pub noted_places : (k : PatKind) (xs ys : List ℕ) (least : Option PatFault)
    → all_noted (faults k (xs ++ ys)) least ≡ all_noted (faults k ys) (all_noted (faults k xs) least)
noted_places k xs ys least = ap (λ fs. all_noted fs least) (faults_both k xs ys) ∙ noted_both (faults k xs) (faults k ys) least
