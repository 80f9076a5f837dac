-- Types and attributes as contracts see them (MLIR Language Reference, "Type System" and "Attributes"; builtin dialect).
-- A list of types, of attributes and of dictionary entries is a tree too, since a type of antt does not nest in `List`.
use Rattle.std.specs.Prelude.{ℕ, List, [], ◌∷◌, Option}
use Rattle.mlir_tree.specs.declared.sign.Sign.{Sign}
use Rattle.mlir_tree.specs.declared.number.Number.{Number}

-- An integer type by sign and width, `index`, a function type, or a type that is kept as it is written.
mutual
  pub data Ty : Type 0 where
    int : Sign → ℕ → Ty
    index : Ty
    func : Tys → Tys → Ty
    word : List ℕ → Ty

  pub data Tys : Type 0 where
    no_tys : Tys
    ty_then : Ty → Tys → Tys

-- `unit`, an integer, a number as it is written, a string, a symbol reference, a type, an array, a dictionary,
-- or an attribute that is kept as it is written.
mutual
  pub data Attr : Type 0 where
    unit : Attr
    int_attr : Number → Ty → Attr
    num : List ℕ → Ty → Attr
    str : List ℕ → Option Ty → Attr
    sym : List (List ℕ) → Attr
    of_ty : Ty → Attr
    array : Attrs → Attr
    dict : Entries → Attr
    kept : List ℕ → Option Ty → Attr

  pub data Attrs : Type 0 where
    no_attrs : Attrs
    attr_then : Attr → Attrs → Attrs

  pub data Entries : Type 0 where
    no_entries : Entries
    entry_then : List ℕ → Attr → Entries → Entries

-- What a list stands for.
abbrev pub tys : List Ty → Tys
tys [] = no_tys
tys (t ∷ ts) = ty_then t (tys ts)

abbrev pub attrs : List Attr → Attrs
attrs [] = no_attrs
attrs (a ∷ more) = attr_then a (attrs more)

abbrev pub entries : List (List ℕ × Attr) → Entries
entries [] = no_entries
entries (e ∷ more) = entry_then e.0 e.1 (entries more)
