-- The steps of the rules.
use Rattle.std.proofs.Common.{◌≡◌, ℕ, zero, suc, ◌-◌, ◌+◌, ◌<◌, ◌≤◌, ◌==◌, if◌then◌else◌, false, List, Result, Ok, Err, refl, ap, ap₂, ◌∙◌, arith}
use Rattle.std.proofs.lemmas.Bool.Decides.{nat_tests}
use Rattle.mlir_tree.specs.Tree.{Ty, Attr}
use Rattle.mlir_attributes.specs.Attributes.{attr, attr_by, array_attr, dict_attr}
use Rattle.mlir_tree.specs.declared.refusal.Refusal.{Refusal}
use Rattle.mlir_tree.specs.declared.refusal.Refusal.TheVariants as refusals
use Rattle.mlir_attributes.specs.declared.fault.ModFault.{ModFault}
use Rattle.mlir_attributes.specs.declared.fault.ModKind.TheVariants.{TooMany}
use Rattle.mlir_attributes.specs.declared.aliases.Alias.{Alias}
use Rattle.mlir_attributes.specs.Place.{Place, kind}
use Rattle.mlir_attributes.specs.Input.{Parser, Reads, Gives, lift, ◌>>◌, fail, take_token}
use Rattle.mlir_attributes.specs.Types.{ty, ty_by, function}

-- what doesn't depend on the place is read at any
pub lifted : {A : Type 0} (o : Result A ModFault) (s : Place) (r : Result A (Refusal ModFault)) → Gives r o → Reads (lift o s) r s
lifted o s (Ok a) h = ap (λ o. lift o s) h
lifted o s (Err refusals.NoMemory) h = tt
lifted o s (Err (refusals.Fault f)) h = ap (λ o. lift o s) h

-- what `(` begins where so many brackets may be opened
abbrev pub opening : List Alias → ℕ → Parser Ty
opening aliases room = if room == 0 then fail TooMany else (take_token >> function aliases (room - 1 + 1) (ty aliases (room - 1)))

pub ty_is : (aliases : List Alias) (room : ℕ) (s : Place) → ty aliases room s ≡ ty_by aliases room (opening aliases room) (kind s) s
unfolding ty
ty_is aliases zero s = refl
ty_is aliases (suc room) s =
    let none : false ≡ (suc room == 0) = grind (arith, nat_tests) in
    let one : room ≡ suc room - 1 = omega arith in
    let two : suc room ≡ suc room - 1 + 1 = omega arith in
    ap₂ (λ b (n : ℕ × ℕ). ty_by aliases (suc room) (if b then fail TooMany else (take_token >> function aliases n.1 (ty aliases n.0))) (kind s) s) none (ap₂ (λ x y. (x, y)) one two)

-- what an attribute's first bracket begins
abbrev pub opening_array : List Alias → ℕ → Parser Attr
opening_array aliases room = if room == 0 then fail TooMany else (take_token >> array_attr (attr aliases (room - 1)))

abbrev pub opening_dict : List Alias → ℕ → Parser Attr
opening_dict aliases room = if room == 0 then fail TooMany else (take_token >> dict_attr (attr aliases (room - 1)))

pub attr_is : (aliases : List Alias) (room : ℕ) (s : Place) → attr aliases room s ≡ attr_by aliases room (opening_array aliases room) (opening_dict aliases room) (kind s) s
unfolding attr
attr_is aliases zero s = refl
attr_is aliases (suc room) s =
    let none : false ≡ (suc room == 0) = grind (arith, nat_tests) in
    let one : room ≡ suc room - 1 = omega arith in
    ap₂ (λ b (n : ℕ). attr_by aliases (suc room) (if b then fail TooMany else (take_token >> array_attr (attr aliases n))) (if b then fail TooMany else (take_token >> dict_attr (attr aliases n))) (kind s) s) none one

pub one_more : {X : Type 0} {x : X} (f : ℕ → X) (n at : ℕ) → at < n → x ≡ f (n - at) → x ≡ f (suc (n - (at + 1)))
one_more f n at below e = let turn : n - at ≡ suc (n - (at + 1)) = omega arith in e ∙ ap f turn

pub no_more : {X : Type 0} {x : X} (f : ℕ → X) (n at : ℕ) → n ≤ at → x ≡ f (n - at) → x ≡ f 0
no_more f n at done e = let none : n - at ≡ 0 = omega arith in e ∙ ap f none
