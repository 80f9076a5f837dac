-- Values of types, place by place.
use Rattle.std.proofs.Common.{◌≡◌, ◌≢◌, ℕ, ◌+◌, ◌<◌, ◌≤◌, Bool, true, false, ◌&&◌, List, [], ◌∷◌, length, get_or, drop, Option, Some, None, refl, sym, ◌∙◌}
use Rattle.std.specs.Option.{option_map, option_map_or}
use Rattle.std.specs.Cmp.Lexicographic.{pointwise, unequal}
use Rattle.mlir_tree.specs.declared.row.Row.{Row}
use Rattle.mlir_tree.specs.declared.value.Val.{Val}
use Rattle.mlir_tree.specs.Tree.{Ty}
use Rattle.native_set.specs.Arithmetic.{is_same}
use Rattle.rewrite_model.specs.Things.{type_of, joined, each}
use Rattle.rewrite_model.specs.Making.{have_types, are_types}
use Rattle.rewrite_step.specs.Typing.{has_type}
use Rattle.rewrite_step.proofs.Loops.{next_item, none_behind}

abbrev typed : Option (List Ty) → List Ty → Bool
typed o ts = elim o as (λ x. Bool) [ None ↦ false | Some us ↦ are_types us ts ]

as_typed : (rows : List Row) (vs : List Val) (ts : List Ty) → have_types rows vs ts ≡ typed (each (type_of rows) vs) ts
as_typed rows vs ts = refl

one_less : (o : Option Ty) (os : Option (List Ty)) → typed (joined (option_map (λ y. y ∷ []) o) os) [] ≡ false
one_less None os = refl
one_less (Some u) None = refl
one_less (Some u) (Some us) = refl

and_false : (b : Bool) → false ≡ (b && false)
and_false true = refl
and_false false = refl

one_more : (o : Option Ty) (os : Option (List Ty)) (t : Ty) (ts : List Ty) → typed (joined (option_map (λ y. y ∷ []) o) os) (t ∷ ts) ≡ (option_map_or (λ u. is_same u t) o false && typed os ts)
one_more None os t ts = refl
one_more (Some u) None t ts = and_false (is_same u t)
one_more (Some u) (Some us) t ts = refl

placed : (rows : List Row) (vs : List Val) (ts : List Ty) → typed (each (type_of rows) vs) ts ≡ pointwise (has_type rows) vs ts
placed rows [] [] = refl
placed rows [] (t ∷ ts) = refl
placed rows (v ∷ vs) [] = one_less (type_of rows v) (each (type_of rows) vs)
placed rows (v ∷ vs) (t ∷ ts) = one_more (type_of rows v) (each (type_of rows) vs) t ts ∙ (λ i. has_type rows v t && placed rows vs ts i)

pub placewise : (rows : List Row) (vs : List Val) (ts : List Ty) → have_types rows vs ts ≡ pointwise (has_type rows) vs ts
placewise rows vs ts = as_typed rows vs ts ∙ placed rows vs ts

pub not_as_long : (rows : List Row) (vs : List Val) (ts : List Ty) → length vs ≢ length ts → false ≡ have_types rows vs ts
not_as_long rows vs ts other = sym (placewise rows vs ts ∙ unequal (has_type rows) vs ts other)

-- one place further on
pub one_place : (rows : List Row) (vs : List Val) (ts : List Ty) (i : ℕ) (v : Val) (t : Ty) → i < length vs → i < length ts → v ≡ get_or vs i v → t ≡ get_or ts i t
    → pointwise (has_type rows) (drop i vs) (drop i ts) ≡ (has_type rows v t && pointwise (has_type rows) (drop (i + 1) vs) (drop (i + 1) ts))
one_place rows vs ts i v t h k is are = λ j. pointwise (has_type rows) (next_item vs i v h is j) (next_item ts i t k are j)

pub no_place : (rows : List Row) (vs : List Val) (ts : List Ty) (i : ℕ) → length vs ≤ i → length ts ≤ i → pointwise (has_type rows) (drop i vs) (drop i ts) ≡ true
no_place rows vs ts i h k = λ j. pointwise (has_type rows) (none_behind vs i h j) (none_behind ts i k j)
