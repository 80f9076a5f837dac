-- The names in sight as they are kept on the way through a tree.
use Rattle.std.specs.Prelude.{◌≡◌, ℕ, List, [], ◌∷◌, ◌++◌, find, Option, None, Result, Ok, Err, if◌then◌else◌}
use Rattle.mlir_tree.specs.declared.refusal.Refusal.{Refusal}
use Rattle.mlir_tree.specs.declared.refusal.Refusal.TheVariants as refusals
use Rattle.mlir_attributes.specs.declared.fault.ModFault.{ModFault}
use Rattle.mlir_attributes.specs.declared.fault.ModKind.TheVariants as faults
use Rattle.std.proofs.Common.{refl, ◌⊎◌, inl, inr}
use Rattle.std.specs.Coded.{Coded, code_by, coded×, coded⊎, coded_ℕ, coded_list}
use Rattle.std.specs.Option.{option_or, is_some}
use Rattle.std.specs.Str.{bytes_eq}
use Rattle.mlir_tree.specs.declared.value.Val.{Val}
use Rattle.mlir_tree.specs.declared.value.Val.TheVariants.{Res, Arg}
use Rattle.mlir_tree.specs.Tree.{Ty}
use Rattle.mlir_tree.specs.Codes.{coded_ty}
use Rattle.mlir_resolve.specs.declared.named.Named.{Named}
use Rattle.mlir_resolve.specs.Sight.{Definition}

-- ---- how a scope is stored

abbrev pub Parts : Type 0
Parts = (ℕ × ℕ) ⊎ (ℕ × (ℕ × ℕ))

abbrev parts : Val → Parts
parts (Res d k) = inl (d, k)
parts (Arg d g k) = inr (d, (g, k))

abbrev whole : Parts → Val
whole (inl p) = Res p.0 p.1
whole (inr p) = Arg p.0 p.1.0 p.1.1

pub whole_parts : (v : Val) → whole (parts v) ≡ v
whole_parts (Res d k) = refl
whole_parts (Arg d g k) = refl

abbrev pub val_code : Coded Val
val_code = code_by Parts (coded⊎ (coded× coded_ℕ coded_ℕ) (coded× coded_ℕ (coded× coded_ℕ coded_ℕ))) parts whole whole_parts

abbrev pub definition_code : Coded Definition
definition_code = code_by (List ℕ × (Val × List Ty)) (coded× (coded_list coded_ℕ) (coded× val_code (coded_list coded_ty)))
    (λ d. (d.name, (d.first, d.types))) (λ p. record { name = p.0; first = p.1.0; types = p.1.1 }) (λ _. refl)

abbrev pub definitions_code : Coded (List Definition)
definitions_code = coded_list definition_code

-- ---- looking up

abbrev pub named : List ℕ → Named → Definition
named name n = record { name = name; first = n.first; types = n.types.now }

-- The definition of this name in one scope.
abbrev pub find_name : List ℕ → List Definition → Option Definition
find_name name scope = find (λ d. bytes_eq name d.name) scope

-- The same in scopes, the innermost last.
abbrev pub lookup : List (List Definition) → List ℕ → Option Definition
lookup [] name = None
lookup (scope ∷ inner) name = option_or (lookup inner name) (find_name name scope)

-- ---- what a step that may be refused leaves, unless memory fails

abbrev pub Fails : {A : Type 0} → Refusal ModFault → Result A ModFault → Type 0
Fails refusals.NoMemory outcome = Unit {0}
Fails (refusals.Fault f) outcome = outcome ≡ Err f

abbrev pub Leaves : {A : Type 0} → Result A ModFault → Result (Unit {0}) (Refusal ModFault) → A → Type 0
Leaves outcome (Ok _) new = outcome ≡ Ok new
Leaves outcome (Err e) new = Fails e outcome

-- ---- putting names

abbrev pub put_name : List Definition → ℕ → Definition → Result (List Definition) ModFault
put_name scope at d = if is_some (find_name d.name scope) then Err (record { kind = faults.Redefined; at = at }) else Ok (scope ++ d ∷ [])
