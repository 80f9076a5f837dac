-- The first of the numbers of a declaration that aren't marked as determined.
use Rattle.std.specs.Prelude.{ℕ, zero, suc, Bool, true, false, List, get_or, slice_get, Option, Some, None}
use Rattle.pdll_syntax.specs.declared.fault.PatFault.{PatFault}
use Rattle.native_set.specs.declared.native.Kind.{Kind}
use Rattle.pdll_types.specs.Accepted.{open_kind}
use Rattle.pdll_types.specs.Walk.{noted}

abbrev pub noted_there : Option Kind → Option ℕ → Option PatFault → Option PatFault
noted_there (Some k) (Some at) least = noted (record { kind = open_kind k; at = at }) least
noted_there k at least = least

abbrev pub noted_if : Bool → Option Kind → Option ℕ → Option PatFault → Option PatFault
noted_if true k at least = least
noted_if false k at least = noted_there k at least

-- With one more number.
abbrev pub noted_number : List Kind → List ℕ → List Bool → ℕ → Option PatFault → Option PatFault
noted_number kinds places marks x least = noted_if (get_or marks x false) (slice_get kinds x) (slice_get places x) least

-- Of the numbers below this one.
abbrev pub least_open : List Kind → List ℕ → List Bool → ℕ → Option PatFault
least_open kinds places marks zero = None
least_open kinds places marks (suc n) = noted_number kinds places marks n (least_open kinds places marks n)
