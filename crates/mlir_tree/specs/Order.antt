-- The order of types and attributes: variants first, in the order in which they are declared, then fields from left to right.
-- Lists and texts go by their first difference, and a front of a list is below the list.
use Rattle.std.specs.Prelude.{ℕ, List, Option, Some, None}
use Rattle.std.specs.declared.cmp.Ordering.{Ordering}
use Rattle.std.specs.declared.cmp.Ordering.TheVariants.{Less, Equal, Greater}
use Rattle.std.specs.Ordering.{ordering_then, nat_cmp, bool_cmp}
use Rattle.std.specs.Cmp.Lexicographic.{slice_cmp}
use Rattle.mlir_tree.specs.declared.sign.Sign.{Sign}
use Rattle.mlir_tree.specs.declared.sign.Sign.TheVariants.{Signless, Signed, Unsigned}
use Rattle.mlir_tree.specs.declared.number.Number.{Number}
use Rattle.mlir_tree.specs.Tree.{Ty, int, index, func, word, Tys, no_tys, ty_then}
use Rattle.mlir_tree.specs.Tree.{Attr, unit, int_attr, num, str, sym, of_ty, array, dict, kept, Attrs, no_attrs, attr_then, Entries, no_entries, entry_then}

abbrev pub sign_rank : Sign → ℕ
sign_rank Signless = 0
sign_rank Signed = 1
sign_rank Unsigned = 2

abbrev pub ty_rank : Ty → ℕ
ty_rank (int s w) = 0
ty_rank index = 1
ty_rank (func xs ys) = 2
ty_rank (word t) = 3

abbrev pub text_cmp : List ℕ → List ℕ → Ordering
text_cmp = slice_cmp nat_cmp

abbrev pub texts_cmp : List (List ℕ) → List (List ℕ) → Ordering
texts_cmp = slice_cmp text_cmp

abbrev mutual
  pub ty_cmp : Ty → Ty → Ordering
  ty_cmp (int s w) (int t v) = ordering_then (nat_cmp (sign_rank s) (sign_rank t)) (nat_cmp w v)
  ty_cmp (func a b) (func c d) = ordering_then (tys_cmp a c) (tys_cmp b d)
  ty_cmp (word s) (word t) = text_cmp s t
  ty_cmp x y = nat_cmp (ty_rank x) (ty_rank y)

  pub tys_cmp : Tys → Tys → Ordering
  tys_cmp no_tys no_tys = Equal
  tys_cmp no_tys (ty_then y ys) = Less
  tys_cmp (ty_then x xs) no_tys = Greater
  tys_cmp (ty_then x xs) (ty_then y ys) = ordering_then (ty_cmp x y) (tys_cmp xs ys)

abbrev pub ty_option_cmp : Option Ty → Option Ty → Ordering
ty_option_cmp None None = Equal
ty_option_cmp None (Some y) = Less
ty_option_cmp (Some x) None = Greater
ty_option_cmp (Some x) (Some y) = ty_cmp x y

abbrev pub number_cmp : Number → Number → Ordering
number_cmp m n = ordering_then (bool_cmp m.neg n.neg) (nat_cmp m.mag n.mag)

abbrev pub attr_rank : Attr → ℕ
attr_rank unit = 0
attr_rank (int_attr n t) = 1
attr_rank (num s t) = 2
attr_rank (str s t) = 3
attr_rank (sym ns) = 4
attr_rank (of_ty t) = 5
attr_rank (array xs) = 6
attr_rank (dict es) = 7
attr_rank (kept s t) = 8

abbrev mutual
  pub attr_cmp : Attr → Attr → Ordering
  attr_cmp (int_attr m t) (int_attr n u) = ordering_then (number_cmp m n) (ty_cmp t u)
  attr_cmp (num m t) (num n u) = ordering_then (text_cmp m n) (ty_cmp t u)
  attr_cmp (str m t) (str n u) = ordering_then (text_cmp m n) (ty_option_cmp t u)
  attr_cmp (sym m) (sym n) = texts_cmp m n
  attr_cmp (of_ty t) (of_ty u) = ty_cmp t u
  attr_cmp (array xs) (array ys) = attrs_cmp xs ys
  attr_cmp (dict xs) (dict ys) = entries_cmp xs ys
  attr_cmp (kept m t) (kept n u) = ordering_then (text_cmp m n) (ty_option_cmp t u)
  attr_cmp x y = nat_cmp (attr_rank x) (attr_rank y)

  pub attrs_cmp : Attrs → Attrs → Ordering
  attrs_cmp no_attrs no_attrs = Equal
  attrs_cmp no_attrs (attr_then y ys) = Less
  attrs_cmp (attr_then x xs) no_attrs = Greater
  attrs_cmp (attr_then x xs) (attr_then y ys) = ordering_then (attr_cmp x y) (attrs_cmp xs ys)

  pub entries_cmp : Entries → Entries → Ordering
  entries_cmp no_entries no_entries = Equal
  entries_cmp no_entries (entry_then m y ys) = Less
  entries_cmp (entry_then m x xs) no_entries = Greater
  entries_cmp (entry_then m x xs) (entry_then n y ys) = ordering_then (text_cmp m n) (ordering_then (attr_cmp x y) (entries_cmp xs ys))
