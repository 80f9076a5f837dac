-- Texts that the checker computes.
use Rattle.std.proofs.Common.{◌≡◌, true, false, [], ◌∷◌, codes, None, refl}
use Rattle.std.specs.Fmt.{digits}
use Rattle.mlir_tree.specs.declared.sign.Sign.TheVariants.{Signless, Signed}
use Rattle.mlir_tree.specs.Tree.{int, index, func, no_tys, ty_then, unit, int_attr, str, sym, array, dict, no_attrs, attr_then, no_entries, entry_then}
use Rattle.mlir_print.specs.Text.{ty_text, attr_text, string_text, name_text}

pub plain_integer : attr_text (int_attr (record { neg = false; mag = 7 }) (int Signless 64)) ≡ codes "7 : i64"
unfolding digits attr_text ty_text
plain_integer = refl

pub negative_integer : attr_text (int_attr (record { neg = true; mag = 1 }) (int Signless 8)) ≡ codes "-1 : i8"
unfolding digits attr_text ty_text
negative_integer = refl

pub true_bit : attr_text (int_attr (record { neg = true; mag = 1 }) (int Signless 1)) ≡ codes "true"
unfolding digits attr_text ty_text
true_bit = refl

pub signed_bit : attr_text (int_attr (record { neg = true; mag = 1 }) (int Signed 1)) ≡ codes "-1 : si1"
unfolding digits attr_text ty_text
signed_bit = refl

pub several_results : ty_text (func no_tys (ty_then (int Signless 32) (ty_then index no_tys))) ≡ codes "() -> (i32, index)"
unfolding digits ty_text
several_results = refl

pub function_as_result : ty_text (func no_tys (ty_then (func no_tys (ty_then (int Signless 32) no_tys)) no_tys)) ≡ codes "() -> (() -> i32)"
unfolding digits ty_text
function_as_result = refl

pub array_of_two : attr_text (array (attr_then (int_attr (record { neg = false; mag = 1 }) (int Signless 8)) (attr_then (str (97 ∷ 10 ∷ 98 ∷ []) None) no_attrs))) ≡ codes "[1 : i8, \"a\\0Ab\"]"
unfolding digits attr_text ty_text string_text
array_of_two = refl

pub dictionary : attr_text (dict (entry_then (codes "a") unit (entry_then (codes "b c") (sym (codes "x" ∷ codes "y z" ∷ [])) no_entries))) ≡ codes "{a, \"b c\" = @x::@\"y z\"}"
unfolding digits attr_text string_text name_text
dictionary = refl
