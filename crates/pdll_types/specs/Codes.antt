-- Kinds, variables and declarations as numbers, by which the logic stores them.
use Rattle.std.specs.Prelude.{◌≡◌, ℕ, zero, suc, List, Option, None}
use Rattle.std.proofs.Common.{refl}
use Rattle.std.specs.Coded.{Coded, code_by, coded×, coded_ℕ, coded_list, coded_option}
use Rattle.pdll_types.specs.declared.kind.Kind.{Kind}
use Rattle.pdll_types.specs.declared.kind.Kind.TheVariants.{Row, Value, Values, Attr, Ty, Tys, Call}
use Rattle.pdll_types.specs.declared.signature.Sort.{Sort}
use Rattle.pdll_types.specs.declared.signature.Sort.TheVariants as sort
use Rattle.pdll_types.specs.declared.signature.Signature.{Signature}
use Rattle.pdll_types.specs.Signatures.{Declared}
use Rattle.pdll_types.specs.Sight.{Known}

abbrev pub Parts : Type 0
Parts = ℕ × Option (List ℕ)

abbrev parts : Kind → Parts
parts (Row n) = (0, n)
parts Value = (1, None)
parts Values = (2, None)
parts Attr = (3, None)
parts Ty = (4, None)
parts Tys = (5, None)
parts Call = (6, None)

abbrev whole : Parts → Kind
whole (zero, n) = Row n
whole (suc zero, n) = Value
whole (suc (suc zero), n) = Values
whole (suc (suc (suc zero)), n) = Attr
whole (suc (suc (suc (suc zero))), n) = Ty
whole (suc (suc (suc (suc (suc zero)))), n) = Tys
whole (suc (suc (suc (suc (suc (suc k))))), n) = Call

pub whole_parts : (k : Kind) → whole (parts k) ≡ k
whole_parts (Row n) = refl
whole_parts Value = refl
whole_parts Values = refl
whole_parts Attr = refl
whole_parts Ty = refl
whole_parts Tys = refl
whole_parts Call = refl

abbrev pub coded_kind : Coded Kind
coded_kind = code_by Parts (coded× coded_ℕ (coded_option (coded_list coded_ℕ))) parts whole whole_parts

abbrev pub coded_known : Coded Known
coded_known = code_by (List ℕ × Option Kind) (coded× (coded_list coded_ℕ) (coded_option coded_kind))
    (λ v. (v.name, v.kind)) (λ p. record { name = p.0; kind = p.1 }) (λ _. refl)

abbrev pub coded_sight : Coded (List Known)
coded_sight = coded_list coded_known

abbrev sort_number : Sort → ℕ
sort_number sort.Pattern = 0
sort_number sort.Constraint = 1
sort_number sort.Rewrite = 2

abbrev sort_of : ℕ → Sort
sort_of zero = sort.Pattern
sort_of (suc zero) = sort.Constraint
sort_of (suc (suc n)) = sort.Rewrite

pub same_sort : (s : Sort) → sort_of (sort_number s) ≡ s
same_sort sort.Pattern = refl
same_sort sort.Constraint = refl
same_sort sort.Rewrite = refl

abbrev pub coded_sort : Coded Sort
coded_sort = code_by ℕ coded_ℕ sort_number sort_of same_sort

abbrev pub coded_signature : Coded Signature
coded_signature = code_by (Sort × (List (Option Kind) × Option Kind)) (coded× coded_sort (coded× (coded_list (coded_option coded_kind)) (coded_option coded_kind)))
    (λ g. (g.sort, (g.params, g.gives))) (λ p. record { sort = p.0; params = p.1.0; gives = p.1.1 }) (λ _. refl)

abbrev pub coded_declared : Coded Declared
coded_declared = code_by (List ℕ × Signature) (coded× (coded_list coded_ℕ) coded_signature)
    (λ d. (d.name, d.signature)) (λ p. record { name = p.0; signature = p.1 }) (λ _. refl)

abbrev pub coded_table : Coded (List Declared)
coded_table = coded_list coded_declared
