-- What the arithmetic and the table mean, in words of their own.
use Rattle.std.specs.Prelude.{◌≡◌, ◌↔◌, ℕ, ◌*◌, ◌^◌, ◌≤◌, ℤ, pos, ◌+ℤ◌, List, Option, Some, IsSome, Contains, ⊤}
use Rattle.mlir_tree.specs.declared.number.Number.{Number}
use Rattle.mlir_tree.specs.Tree.{Ty, int, index, func, word, Attr, int_attr}
use Rattle.mlir_tree.specs.Range.{IsInRange}
use Rattle.native_set.specs.declared.native.Kind.{Kind}
use Rattle.native_set.specs.Table.{Native, table, native_of, name_of, params_of, gives_of}
use Rattle.native_set.specs.Arithmetic.{value, width, wrapped, sum, product}

-- The type is `index` or an integer type of width at most 128.
abbrev pub HasNumbers : Ty → Type 0
HasNumbers (int s w) = w ≤ 128
HasNumbers index = ⊤
HasNumbers (func xs ys) = ⊥
HasNumbers (word t) = ⊥

-- The two integers differ by a multiple of the modulus.
abbrev pub AreCongruent : ℕ → ℤ → ℤ → Type 0
AreCongruent m x y = (j : ℕ) × (k : ℕ) × (x +ℤ pos (j * m) ≡ y +ℤ pos (k * m))

-- What an integer wraps to is in the range of the type.
abbrev pub WrappedIsInRange : Type 0
WrappedIsInRange = (t : Ty) (z : ℤ) → HasNumbers t → IsInRange t (wrapped t z)

-- It is congruent to the integer modulo 2^w.
abbrev pub WrappedIsCongruent : Type 0
WrappedIsCongruent = (t : Ty) (z : ℤ) → HasNumbers t → AreCongruent (2 ^ width t) (value (wrapped t z)) z

-- No other number of the range is.
abbrev pub WrappedIsTheOne : Type 0
WrappedIsTheOne = (t : Ty) (z : ℤ) (n : Number) → IsInRange t n → AreCongruent (2 ^ width t) (value n) z → n ≡ wrapped t z

-- Both are integers of one type.
abbrev pub HaveOneType : Attr → Attr → Type 0
HaveOneType (int_attr m t) (int_attr n u) = t ≡ u
HaveOneType a b = ⊥

-- There is a sum, and a product, exactly of integers of one type.
abbrev pub SumsAreOfOneType : Type 0
SumsAreOfOneType = (a b : Attr) → IsSome (sum a b) ↔ HaveOneType a b

abbrev pub ProductsAreOfOneType : Type 0
ProductsAreOfOneType = (a b : Attr) → IsSome (product a b) ↔ HaveOneType a b

-- A name and kinds have a native exactly where the table has a line of that name with just these kinds, and it is that line's.
abbrev pub NativesAreLines : Type 0
NativesAreLines =
    (s : List ℕ) (ks : List Kind) (g : Option Kind) (n : Native)
    → (native_of s ks g ≡ Some n) ↔ Contains table (record { name = s; params = ks; gives = g; native = n })

-- The name, the parameters and the result of each native are those of its line.
abbrev pub EachHasALine : Type 0
EachHasALine = (n : Native) → Contains table (record { name = name_of n; params = params_of n; gives = gives_of n; native = n })
