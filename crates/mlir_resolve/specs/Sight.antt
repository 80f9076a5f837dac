-- What a name means at an operation (MLIR Language Reference, "Value Scoping").
use Rattle.std.specs.Prelude.{ℕ, ◌+◌, Bool, true, false, ◌&&◌, ◌||◌, ◌==◌, nat_lt, List, [], ◌∷◌, ◌++◌, take, drop, find, flat_map, Option, None}
use Rattle.std.specs.Option.{option_or, option_map_or}
use Rattle.std.specs.List.{list_any}
use Rattle.std.specs.Str.{bytes_eq}
use Rattle.mlir_tree.specs.declared.row.Home.{Home}
use Rattle.mlir_tree.specs.declared.row.Row.{Row}
use Rattle.mlir_tree.specs.declared.value.Val.{Val}
use Rattle.mlir_tree.specs.declared.value.Val.TheVariants.{Res, Arg}
use Rattle.mlir_tree.specs.Tree.{Ty}
use Rattle.mlir_tree.specs.Module.{home_eq, home_of, enclosing, is_in_scope}
use Rattle.mlir_parse.specs.declared.syn.SynArg.{SynArg}
use Rattle.mlir_parse.specs.declared.syn.SynResult.{SynResult}
use Rattle.mlir_resolve.specs.Laid.{Laid, region, bare_rows}

-- A name that is written where values are made: the first of its values, and the types of them all.
pub record Definition : Type 0 where
  pub name : List ℕ
  pub first : Val
  pub types : List Ty

-- The value behind the first one of a name.
abbrev pub value_at : Val → ℕ → Val
value_at (Res d o) k = Res d (o + k)
value_at (Arg d g j) k = Arg d g (j + k)

-- The place of a value among the results of its row, or among the arguments of its region.
abbrev pub place_of : Val → ℕ
place_of (Res d k) = k
place_of (Arg d g k) = k

-- The names of the results of row d, from its result o on.
abbrev pub result_definitions : ℕ → ℕ → List SynResult → List Ty → List Definition
result_definitions d o [] types = []
result_definitions d o (r ∷ rs) types =
    record { name = r.name; first = Res d o; types = take r.count types } ∷ result_definitions d (o + r.count) rs (drop r.count types)

-- The arguments of region g of row d, from its argument k on.
abbrev pub argument_definitions : ℕ → ℕ → ℕ → List SynArg → List Definition
argument_definitions d g k [] = []
argument_definitions d g k (a ∷ args) =
    record { name = a.name; first = Arg d g k; types = a.ty ∷ [] } ∷ argument_definitions d g (k + 1) args

abbrev pub region_definitions : ℕ → ℕ → List (List SynArg) → List Definition
region_definitions d g [] = []
region_definitions d g (args ∷ more) = argument_definitions d g 0 args ++ region_definitions d (g + 1) more

abbrev pub row_definitions : Laid → List Definition
row_definitions l = result_definitions l.id 0 l.head.results l.head.result_types ++ region_definitions l.id 0 l.arguments

-- All names of the file.
unfoldable pub definitions : List Laid → List Definition
definitions ls = flat_map row_definitions ls

-- ---- in sight

-- Whether the value is one of this region: a result of one of its rows, or one of its arguments.
abbrev pub is_of_region : List Row → Home → Val → Bool
is_of_region rows h (Res d k) = option_map_or (home_eq h) (home_of rows d) false
is_of_region rows h (Arg d g k) = home_eq h (region d g)

-- Whether it is a definition of this name in region h that stands in sight at row u.
abbrev pub is_in_sight : List Row → Home → List ℕ → ℕ → Definition → Bool
is_in_sight rows h name u d = bytes_eq d.name name && (is_of_region rows h d.first && is_in_scope rows d.first u)

-- The definition of this name in the first of these regions that has one in sight.
abbrev pub first_in_sight : List Row → List Definition → List Home → List ℕ → ℕ → Option Definition
first_in_sight rows ds [] name u = None
first_in_sight rows ds (h ∷ hs) name u = option_or (find (is_in_sight rows h name u) ds) (first_in_sight rows ds hs name u)

-- The innermost definition of a name that stands in sight at row u.
unfoldable pub meaning_at : List Laid → ℕ → List ℕ → Option Definition
meaning_at ls u name = first_in_sight (bare_rows ls) (definitions ls) (enclosing (bare_rows ls) u) name u

-- Whether the name is defined anywhere in the file.
unfoldable pub is_defined : List Laid → List ℕ → Bool
is_defined ls name = list_any (λ d. bytes_eq d.name name) (definitions ls)

-- ---- names twice

-- Whether a value of one region is made before another one of it: arguments first, then results in their order.
abbrev pub is_made_before : Val → Val → Bool
is_made_before (Arg d g k) (Arg e h j) = nat_lt k j
is_made_before (Arg d g k) (Res e j) = true
is_made_before (Res d k) (Arg e h j) = false
is_made_before (Res d k) (Res e j) = nat_lt d e || ((d == e) && nat_lt k j)

abbrev pub is_earlier_name : List Row → Home → List ℕ → Val → Definition → Bool
is_earlier_name rows h name v d = bytes_eq d.name name && (is_of_region rows h d.first && is_made_before d.first v)

-- Whether a name stands in region h before this value, which is made there.
unfoldable pub is_named_before : List Laid → Home → List ℕ → Val → Bool
is_named_before ls h name v = list_any (is_earlier_name (bare_rows ls) h name v) (definitions ls)
