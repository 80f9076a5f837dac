-- The uses of an operation one by one.
use Rattle.std.proofs.Common.{◌≡◌, ℕ, zero, suc, ◌+◌, ◌<◌, List, [], ◌∷◌, ◌++◌, length, drop, Option, Some, None, refl, sym, ap, ◌∙◌, arith, slice_index_or}
use Rattle.std.specs.Prelude.{slice_get, filter_map, if◌then◌else◌}
use Rattle.std.specs.Option.{option_or, option_map, option_and_then}
use Rattle.std.specs.Ordering.{is_eq}
use Rattle.std.specs.List.{cons_option}
use Rattle.std.proofs.lemmas.List.{append_assoc}
use Rattle.mlir_resolve.proofs.Trees.{drop_item}
use Rattle.mlir_tree.specs.Tree.{Ty}
use Rattle.mlir_tree.specs.Order.{ty_cmp}
use Rattle.mlir_attributes.specs.declared.fault.ModFault.{ModFault}
use Rattle.mlir_attributes.specs.declared.fault.ModKind.TheVariants as faults
use Rattle.mlir_parse.specs.declared.syn.SynUse.{SynUse}
use Rattle.mlir_resolve.specs.declared.named.Named.{Named}
use Rattle.mlir_resolve.specs.Sight.{value_at}
use Rattle.mlir_resolve.specs.Scopes.{named}
use Rattle.mlir_resolve.specs.Resolving.{Names, fault, use_type, use_fault, uses_fault, types_fault, used_value, has_type, or_then}
use Rattle.mlir_resolve.specs.Heads.{type_step, IsMeaning}

none_written : (names : Names) (xs : List SynUse) → types_fault names xs [] ≡ None
none_written names [] = refl
none_written names (x ∷ xs) = refl

abbrev type_of : Names → SynUse → Option Ty → Option ModFault
type_of names x None = None
type_of names x (Some t) = if has_type (use_type names x) t then None else fault faults.TypeDiffers x.at

types_from : (names : Names) (xs : List SynUse) (ts : List Ty) (i : ℕ) (x : SynUse) → i < length xs → x ≡ slice_index_or xs i x
    → types_fault names (drop i xs) (drop i ts) ≡ or_then (type_of names x (slice_get ts i)) (types_fault names (drop (suc i) xs) (drop (suc i) ts))
types_from names [] ts i x q p = absurd (omega arith)
types_from names (y ∷ xs) [] zero x q p = sym (none_written names xs)
types_from names (y ∷ xs) (t ∷ ts) zero x q p = ap (λ z. or_then (type_of names z (Some t)) (types_fault names xs ts)) (sym p)
types_from names (y ∷ xs) [] (suc i) x q p = none_written names (drop i xs) ∙ sym (none_written names (drop (suc i) xs))
types_from names (y ∷ xs) (t ∷ ts) (suc i) x q p = types_from names xs ts i x (omega arith) p

by_meaning : (names : Names) (x : SynUse) (n : Named) → names.meaning x.name ≡ Some (named x.name n) → (o : Option Ty) → type_of names x o ≡ type_step n.types.now x o
unfolding use_type
by_meaning names x n m None = refl
by_meaning names x n m (Some t) =
    ap (λ d. if has_type (option_and_then (λ e. slice_get e.types x.index) d) t then None else fault faults.TypeDiffers x.at) m

-- the types from a use on, whose value is known
pub types_step : (names : Names) (xs : List SynUse) (ts : List Ty) (i : ℕ) (x : SynUse) (n : Named) → i < length xs → x ≡ slice_index_or xs i x → IsMeaning names x n
    → types_fault names (drop i xs) (drop i ts) ≡ or_then (type_step n.types.now x (slice_get ts i)) (types_fault names (drop (i + 1) xs) (drop (i + 1) ts))
types_step names xs ts i x n q p m =
    let e : suc i ≡ i + 1 = omega arith in
    types_from names xs ts i x q p
    ∙ ((λ k. or_then (by_meaning names x n m.0 (slice_get ts i) k) (types_fault names (drop (e k) xs) (drop (e k) ts))))

-- the value of a use whose name is known
pub value_step : (names : Names) (x : SynUse) (n : Named) → IsMeaning names x n → used_value names x ≡ Some (value_at n.first x.index)
value_step names x n m = ap (option_map (λ d. value_at d.first x.index)) m.0

pub or_none : {A : Type 0} → (o : Option A) → option_or o None ≡ o
or_none None = refl
or_none (Some x) = refl

pub got : {A : Type 0} → (xs : List A) (i : ℕ) (x : A) → i < length xs → x ≡ slice_index_or xs i x → slice_get xs i ≡ Some x
got [] i x q p = absurd (omega arith)
got (y ∷ xs) zero x q p = ap (λ z. Some z) (sym p)
got (y ∷ xs) (suc i) x q p = got xs i x (omega arith) p

-- the fault of a use whose value has the type u, where t is written
pub type_known : (types : List Ty) (x : SynUse) (u t : Ty) → x.index < length types → u ≡ slice_index_or types x.index u
    → type_step types x (Some t) ≡ (if is_eq (ty_cmp u t) then None else fault faults.TypeDiffers x.at)
type_known types x u t q p = ap (λ o. if has_type o t then None else fault faults.TypeDiffers x.at) (got types x.index u q p)

pub or_first : {A : Type 0} → (a b c : Option A) → option_or (option_or a b) c ≡ option_or a (option_or b c)
or_first None b c = refl
or_first (Some x) b c = refl

-- the values from a use on, whose name is known
pub values_step : (names : Names) (xs : List SynUse) (i : ℕ) (x : SynUse) (n : Named) → i < length xs → x ≡ slice_index_or xs i x → IsMeaning names x n
    → filter_map (used_value names) (drop i xs) ≡ value_at n.first x.index ∷ filter_map (used_value names) (drop (i + 1) xs)
values_step names xs i x n q p m =
    ap (filter_map (used_value names)) (drop_item xs i x q p)
    ∙ ap (λ o. cons_option o (filter_map (used_value names) (drop (i + 1) xs))) (value_step names x n m)

-- the faults from a use on, which has none
pub faults_step : (names : Names) (xs : List SynUse) (i : ℕ) (x : SynUse) → i < length xs → x ≡ slice_index_or xs i x → use_fault names x ≡ None
    → uses_fault names (drop i xs) ≡ uses_fault names (drop (i + 1) xs)
faults_step names xs i x q p none =
    ap (uses_fault names) (drop_item xs i x q p) ∙ ap (λ o. or_then o (uses_fault names (drop (i + 1) xs))) none

-- one more item
pub push_from : {A : Type 0} → (xs ys rest whole : List A) (v : A) → xs ++ v ∷ rest ≡ whole → ys ≡ xs ++ v ∷ [] → ys ++ rest ≡ whole
push_from xs ys rest whole v p q = ap (λ zs. zs ++ rest) q ∙ (append_assoc xs (v ∷ []) rest ∙ p)
