-- Each alias as a list of numbers that no other alias has. By it the logic stores an alias.
use Rattle.std.proofs.Common.{◌≡◌, ℕ, List, [], ◌∷◌, refl}
use Rattle.std.specs.Coded.{Coded, code_by, coded×, coded_ℕ, coded_list}
use Rattle.mlir_tree.specs.Tree.{Ty, Attr}
use Rattle.mlir_tree.specs.Codes.{coded_ty, coded_attr}
use Rattle.mlir_attributes.specs.declared.aliases.Alias.{Alias}
use Rattle.mlir_attributes.specs.declared.aliases.Meaning.{Meaning}
use Rattle.mlir_attributes.specs.declared.aliases.Meaning.TheVariants as meanings

abbrev pub MeaningParts : Type 0
MeaningParts = List Ty × List Attr

abbrev pub parts : Meaning → MeaningParts
parts (meanings.Ty t) = (t ∷ [], [])
parts (meanings.Attr x) = ([], x ∷ [])
parts meanings.Location = ([], [])

abbrev pub meaning_of : MeaningParts → Meaning
meaning_of (t ∷ ts, xs) = meanings.Ty t
meaning_of ([], x ∷ xs) = meanings.Attr x
meaning_of ([], []) = meanings.Location

pub same_meaning : (m : Meaning) → meaning_of (parts m) ≡ m
same_meaning (meanings.Ty t) = refl
same_meaning (meanings.Attr x) = refl
same_meaning meanings.Location = refl

abbrev pub coded_meaning : Coded Meaning
coded_meaning = code_by MeaningParts (coded× (coded_list coded_ty) (coded_list coded_attr)) parts meaning_of same_meaning

abbrev pub numbers : Coded (List ℕ)
numbers = coded_list coded_ℕ

abbrev pub coded_alias : Coded Alias
coded_alias = code_by ((List ℕ × Meaning) × (List ℕ × ℕ)) (coded× (coded× numbers coded_meaning) (coded× numbers coded_ℕ))
    (λ a. ((a.name, a.meaning), (a.text, a.brackets))) (λ p. record { name = p.0.0; meaning = p.0.1; text = p.1.0; brackets = p.1.1 }) (λ _. refl)
