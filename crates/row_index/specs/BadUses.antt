-- The first operand of a module that doesn't exist or isn't visible.
use Rattle.std.specs.Prelude.{ℕ, not, List, [], ◌∷◌, position, Option, None}
use Rattle.std.specs.Option.{option_or, option_map}
use Rattle.mlir_tree.specs.declared.row.Row.{Row}
use Rattle.mlir_tree.specs.declared.bad_use.BadUse.{BadUse}
use Rattle.mlir_tree.specs.Module.{is_visible}

-- The first place of a row whose operand isn't visible there.
abbrev pub bad_place : List Row → Row → Option ℕ
bad_place all r = position (λ v. not (is_visible all v r.id)) r.operands

abbrev pub bad_use_of : List Row → Row → Option BadUse
bad_use_of all r = option_map (λ k. record { row = r.id; place = k }) (bad_place all r)

-- The first of these rows that has one.
abbrev pub first_bad_use : List Row → List Row → Option BadUse
first_bad_use all [] = None
first_bad_use all (r ∷ rows) = option_or (bad_use_of all r) (first_bad_use all rows)

unfoldable pub bad_use : List Row → Option BadUse
bad_use rows = first_bad_use rows rows
