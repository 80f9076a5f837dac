-- Worked values, which the checker computes.
use Rattle.std.proofs.Common.{◌≡◌, ℕ, ◌^◌, ◌-◌, true, false, [], ◌∷◌, Some, None, refl}
use Rattle.std.specs.Prelude.{codes}
use Rattle.mlir_tree.specs.declared.sign.Sign.TheVariants.{Signless, Unsigned}
use Rattle.mlir_tree.specs.Tree.{int, index, word, Attr, unit, int_attr, num}
use Rattle.native_set.specs.Arithmetic.{natural, negated, sum, product, negative, is_int, is_zero}
use Rattle.native_set.specs.declared.native.Kind.TheVariants as kind
use Rattle.native_set.specs.declared.native.Constraint.TheVariants.{SameBlock}
use Rattle.native_set.specs.declared.native.Rewrite.TheVariants.{AddInt}
use Rattle.native_set.specs.Table.{constraint_of, rewrite_of}

abbrev i8 : ℕ → Attr
i8 n = int_attr (natural n) (int Signless 8)

abbrev minus_i8 : ℕ → Attr
minus_i8 n = int_attr (negated n) (int Signless 8)

abbrev u8 : ℕ → Attr
u8 n = int_attr (natural n) (int Unsigned 8)

abbrev i128 : ℕ → Attr
i128 n = int_attr (natural n) (int Signless 128)

abbrev minus_i128 : ℕ → Attr
minus_i128 n = int_attr (negated n) (int Signless 128)

abbrev i0 : Attr
i0 = int_attr (natural 0) (int Signless 0)

abbrev of_index : ℕ → Attr
of_index n = int_attr (natural n) index

product_wraps_to_zero : product (i8 16) (i8 16) ≡ Some (i8 0)
product_wraps_to_zero = refl

product_of_negatives : product (minus_i8 128) (minus_i8 1) ≡ Some (minus_i8 128)
product_of_negatives = refl

product_of_both_signs : product (minus_i8 3) (i8 5) ≡ Some (minus_i8 15)
product_of_both_signs = refl

least_is_its_negative : negative (minus_i8 128) ≡ Some (minus_i8 128)
least_is_its_negative = refl

negative_of_a_natural : negative (i8 5) ≡ Some (minus_i8 5)
negative_of_a_natural = refl

negative_unsigned : negative (u8 1) ≡ Some (u8 255)
negative_unsigned = refl

no_negative_of_unit : negative unit ≡ None
no_negative_of_unit = refl

sum_wraps : sum (i8 100) (i8 50) ≡ Some (minus_i8 106)
sum_wraps = refl

sum_of_opposites : sum (i8 5) (minus_i8 5) ≡ Some (i8 0)
sum_of_opposites = refl

sum_unsigned : sum (u8 250) (u8 10) ≡ Some (u8 4)
sum_unsigned = refl

sum_of_least : sum (minus_i128 (2 ^ 127)) (minus_i128 (2 ^ 127)) ≡ Some (i128 0)
sum_of_least = refl

sum_past_the_greatest : sum (i128 (2 ^ 127 - 1)) (i128 1) ≡ Some (minus_i128 (2 ^ 127))
sum_past_the_greatest = refl

product_of_greatest : product (i128 (2 ^ 127 - 1)) (i128 (2 ^ 127 - 1)) ≡ Some (i128 1)
product_of_greatest = refl

sum_of_no_bits : sum i0 i0 ≡ Some i0
sum_of_no_bits = refl

negative_of_no_bits : negative i0 ≡ Some i0
negative_of_no_bits = refl

sum_of_index : sum (of_index (2 ^ 63 - 1)) (of_index 1) ≡ Some (int_attr (negated (2 ^ 63)) index)
sum_of_index = refl

no_sum_of_two_types : sum (i8 1) (int_attr (natural 1) (int Signless 16)) ≡ None
no_sum_of_two_types = refl

no_sum_of_two_signs : sum (i8 1) (u8 1) ≡ None
no_sum_of_two_signs = refl

no_product_with_a_float : product (i8 1) (num (codes "1.0") (word (codes "f32"))) ≡ None
no_product_with_a_float = refl

zero_is_zero : is_zero (i8 0) ≡ true
zero_is_zero = refl

float_zero_is_not : is_zero (num (codes "0.0") (word (codes "f32"))) ≡ false
float_zero_is_not = refl

float_is_no_integer : is_int (num (codes "0.0") (word (codes "f32"))) ≡ false
float_is_no_integer = refl

found_by_name_and_kinds : constraint_of (codes "SameBlock") (kind.Op ∷ kind.Op ∷ []) ≡ Some SameBlock
found_by_name_and_kinds = refl

not_of_other_kinds : constraint_of (codes "HasOneUse") (kind.Op ∷ []) ≡ None
not_of_other_kinds = refl

not_of_more_kinds : constraint_of (codes "HasOneUse") (kind.Value ∷ kind.Value ∷ []) ≡ None
not_of_more_kinds = refl

no_constraint_of_a_rewrite_name : constraint_of (codes "NegInt") (kind.Attr ∷ []) ≡ None
no_constraint_of_a_rewrite_name = refl

rewrite_found : rewrite_of (codes "AddInt") (kind.Attr ∷ kind.Attr ∷ []) (Some kind.Attr) ≡ Some AddInt
rewrite_found = refl

rewrite_without_result : rewrite_of (codes "NegInt") (kind.Attr ∷ []) None ≡ None
rewrite_without_result = refl

rewrite_of_another_result : rewrite_of (codes "NegInt") (kind.Attr ∷ []) (Some kind.Value) ≡ None
rewrite_of_another_result = refl
