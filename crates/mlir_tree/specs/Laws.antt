-- Laws of the orders, and of what the three edits do to visibility.
use Rattle.std.specs.Prelude.{◌≡◌, ◌≢◌, ◌↔◌, ℕ, Bool, false, ◌==◌, List, Option}
use Rattle.std.specs.Option.{option_map_or}
use Rattle.std.specs.List.{list_any}
use Rattle.std.specs.Cmp.{IsTotalOrder}
use Rattle.std.specs.declared.cmp.Ordering.TheVariants.{Equal}
use Rattle.mlir_tree.specs.declared.row.Row.{Row}
use Rattle.mlir_tree.specs.declared.rows.Rows.{Rows}
use Rattle.mlir_tree.specs.declared.value.Val.{Val}
use Rattle.mlir_tree.specs.declared.value.Val.TheVariants.{Res, Arg}
use Rattle.mlir_tree.specs.Tree.{Ty, Attr}
use Rattle.mlir_tree.specs.Order.{ty_cmp, attr_cmp}
use Rattle.mlir_tree.specs.Module.{has_row, is_visible, IsVisible}
use Rattle.mlir_tree.specs.WellFormed.{AreDistinct, AreNested}
use Rattle.mlir_tree.specs.Edits.{inserted, substituted, removed, is_removed}

-- Types have a total order.
abbrev pub TysAreOrdered : Type 0
TysAreOrdered = IsTotalOrder ty_cmp

-- Two types are at one place of it exactly where they are equal.
abbrev pub TiedTysAreEqual : Type 0
TiedTysAreEqual = (x y : Ty) → (ty_cmp x y ≡ Equal) ↔ (x ≡ y)

abbrev pub AttrsAreOrdered : Type 0
AttrsAreOrdered = IsTotalOrder attr_cmp

abbrev pub TiedAttrsAreEqual : Type 0
TiedAttrsAreEqual = (x y : Attr) → (attr_cmp x y ≡ Equal) ↔ (x ≡ y)

-- The row that has the value.
abbrev pub owner_of : Val → ℕ
owner_of (Res d k) = d
owner_of (Arg d g k) = d

-- Whether some row stands in a region of row d.
abbrev pub is_parent : List Row → ℕ → Bool
is_parent rows d = list_any (λ r. option_map_or (λ h. h.row == d) r.home false) rows

-- No row and no home names this number.
pub record IsNew (n : ℕ) (rows : List Row) : Type 0 where
  pub no_row : has_row rows n ≡ false
  pub no_home : is_parent rows n ≡ false

-- In nested rows, a number that no row has is named by no home either.
abbrev pub HomesAreRows : Type 0
HomesAreRows = (rows : List Row) (n : ℕ) → AreNested rows → has_row rows n ≡ false → IsNew n rows

-- A value that is visible at a row stays so there when a row with a new number is put in.
abbrev pub InsertionKeepsVisible : Type 0
InsertionKeepsVisible =
    (m : Rows) (row : Row) (at : Option ℕ) (v : Val) (u : ℕ)
    → IsNew row.id m.rows → u ≢ row.id → IsVisible m.rows v u → IsVisible (inserted row at m).rows v u

-- No other value becomes visible there.
abbrev pub InsertionShowsNothing : Type 0
InsertionShowsNothing =
    (m : Rows) (row : Row) (at : Option ℕ) (v : Val) (u : ℕ)
    → IsNew row.id m.rows → u ≢ row.id → owner_of v ≢ row.id → IsVisible (inserted row at m).rows v u → IsVisible m.rows v u

-- Where a row and those inside it are removed, the values of the rows that stay are visible at those rows as before.
abbrev pub RemovalKeepsVisibility : Type 0
RemovalKeepsVisibility =
    (m : Rows) (d : ℕ) (v : Val) (u : ℕ)
    → AreDistinct m.rows → is_removed m.rows d (owner_of v) ≡ false → is_removed m.rows d u ≡ false
    → is_visible (removed d m).rows v u ≡ is_visible m.rows v u

-- Values in place of others, as operands, leave the visibility of all values as it is.
abbrev pub SubstitutionKeepsVisibility : Type 0
SubstitutionKeepsVisibility =
    (m : Rows) (from to : List Val) (v : Val) (u : ℕ) → is_visible (substituted from to m).rows v u ≡ is_visible m.rows v u
