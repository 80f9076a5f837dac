-- Integers of attributes and their arithmetic modulo a power of two (builtin dialect, "IntegerType" and "IntegerAttr").
use Rattle.std.specs.Prelude.{ℕ, ◌-◌, ◌^◌, ◌==◌, ℤ, pos, ◌+ℤ◌, ◌*ℤ◌, neg_ℤ, unsigned_abs, Bool, true, false, if◌then◌else◌, nat_lt, Option, Some, None}
use Rattle.std.specs.Int.{int_rem_euclid}
use Rattle.std.specs.Ordering.{is_eq}
use Rattle.mlir_tree.specs.declared.sign.Sign.TheVariants.{Signless, Signed, Unsigned}
use Rattle.mlir_tree.specs.declared.number.Number.{Number}
use Rattle.mlir_tree.specs.Tree.{Ty, int, index, func, word, Attr, int_attr}
use Rattle.mlir_tree.specs.Order.{ty_cmp}

-- The integer that a number is.
abbrev pub value : Number → ℤ
value n = if n.neg then neg_ℤ (pos n.mag) else pos n.mag

-- How many bits a number of the type has.
abbrev pub width : Ty → ℕ
width (int s w) = w
width index = 64
width (func xs ys) = 0
width (word t) = 0

-- What is left of an integer modulo 2^w, from 0 to 2^w - 1.
abbrev pub residue : ℕ → ℤ → ℕ
residue w z = unsigned_abs (int_rem_euclid z (pos (2 ^ w)))

abbrev pub natural : ℕ → Number
natural n = record { neg = false; mag = n }

abbrev pub negated : ℕ → Number
negated n = record { neg = true; mag = n }

-- The number of two's complement at this width with this residue: from the half of 2^w on, it is 2^w less.
abbrev pub complement : ℕ → ℕ → Number
complement w r = if nat_lt r (2 ^ (w - 1)) then natural r else negated (2 ^ w - r)

-- The number of the type with this residue.
abbrev pub number_of : Ty → ℕ → Number
number_of (int Signless w) r = complement w r
number_of (int Signed w) r = complement w r
number_of (int Unsigned w) r = natural r
number_of index r = complement 64 r
number_of (func xs ys) r = natural r
number_of (word t) r = natural r

-- The number of the type that an integer is modulo 2^w.
abbrev pub wrapped : Ty → ℤ → Number
wrapped t z = number_of t (residue (width t) z)

abbrev pub is_same : Ty → Ty → Bool
is_same t u = is_eq (ty_cmp t u)

-- What an operation on integers gives of two integer attributes of one type.
abbrev pub combined : (ℤ → ℤ → ℤ) → Attr → Attr → Option Attr
combined f (int_attr m t) (int_attr n u) = if is_same t u then Some (int_attr (wrapped t (f (value m) (value n))) t) else None
combined f a b = None

abbrev pub sum : Attr → Attr → Option Attr
sum = combined ◌+ℤ◌

abbrev pub product : Attr → Attr → Option Attr
product = combined ◌*ℤ◌

-- Zero less the integer.
abbrev pub negative : Attr → Option Attr
negative (int_attr n t) = Some (int_attr (wrapped t (neg_ℤ (value n))) t)
negative a = None

abbrev pub is_int : Attr → Bool
is_int (int_attr n t) = true
is_int a = false

abbrev pub is_zero : Attr → Bool
is_zero (int_attr n t) = n.mag == 0
is_zero a = false
