-- The words of the command.
use Rattle.std.specs.Prelude.{ℕ, ◌+◌, ◌*◌, ◌-◌, ◌&&◌, nat_le, Bool, if◌then◌else◌, List, [], ◌∷◌, Option, Some, None, unwrap_or, codes}
use Rattle.std.specs.List.{list_all}
use Rattle.clap.specs.Kinds.{Kinds}
use Rattle.clap.specs.Walk.{Row, Text, first_of, all_of}
use Rattle.clap.specs.Simple.{matches_of}
use Rattle.clap.specs.Faults.{fault_of}
use Rattle.command_line.specs.App.{the_app}

-- A module is to be rewritten by patterns, with at most so many steps.
pub record Rewriting : Type 0 where
  pub bound : ℕ
  pub patterns : Text
  pub module_file : Text

-- ---- numbers

abbrev pub is_digit : ℕ → Bool
is_digit b = nat_le 48 b && nat_le b 57

-- what decimal digits behind a number make of it
abbrev pub digits_behind : ℕ → List ℕ → ℕ
digits_behind n [] = n
digits_behind n (d ∷ ds) = digits_behind (n * 10 + (d - 48)) ds

-- the number that decimal digits behind another make, where it isn't above this one
abbrev pub spelled_up_to : ℕ → ℕ → List ℕ → Option ℕ
spelled_up_to most n ds = if list_all is_digit ds && nat_le (digits_behind n ds) most then Some (digits_behind n ds) else None

-- one or more decimal digits, of a number that isn't above this one
abbrev pub number_up_to : ℕ → Text → Option ℕ
number_up_to most [] = None
number_up_to most (d ∷ ds) = spelled_up_to most 0 (d ∷ ds)

-- ---- what the words ask for

abbrev pub bound_of : Option Text → Option ℕ
bound_of None = Some 10000
bound_of (Some t) = number_up_to 1000000 t

-- two files: the patterns and the module
abbrev pub files_of : ℕ → List Text → Option Rewriting
files_of bound (p ∷ m ∷ []) = Some (record { bound = bound; patterns = p; module_file = m })
files_of bound files = None

abbrev pub bounded : Option ℕ → List Text → Option Rewriting
bounded None files = None
bounded (Some n) files = files_of n files

-- `--emit` and `--generate` aren't built yet.
abbrev pub rewriting_of : Option Text → Option Text → Option Text → List Text → Option Rewriting
rewriting_of bound None None files = bounded (bound_of bound) files
rewriting_of bound emit generate files = None

abbrev pub read_of : List Row → Option Rewriting
read_of rows = rewriting_of (first_of (codes "max-rewrites") rows) (first_of (codes "emit") rows) (first_of (codes "generate") rows) (unwrap_or (all_of (codes "FILE") rows) [])

abbrev pub taken_by : Kinds → List Row → Option Rewriting
taken_by [] rows = read_of rows
taken_by (k ∷ ks) rows = None

-- The command that the words are, where the simple command takes them and they keep the rules on files and numbers.
unfoldable pub command_of : List Text → Option Rewriting
command_of words = taken_by (fault_of the_app words) (matches_of the_app words)
