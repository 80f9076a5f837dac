-- Declarations that are called by name, in their order.
use Rattle.std.specs.Prelude.{◌≡◌, ℕ, suc, List, [], ◌∷◌, map, take, Bool, true, false, Option, Some, None}
use Rattle.std.specs.Option.{option_map_or}
use Rattle.std.specs.Prelude.{slice_get}
use Rattle.std.specs.Str.{bytes_eq}
use Rattle.std.specs.HashMap.{get_by}
use Rattle.pdll_syntax.specs.declared.file.CallDecl.{CallDecl}
use Rattle.pdll_expand.specs.declared.declared.Declared.{Declared}
use Rattle.pdll_expand.specs.declared.declared.Known.{Known}

abbrev pub later_or : Bool → Option ℕ → Option ℕ
later_or b (Some k) = Some (suc k)
later_or true None = Some 0
later_or false None = None

-- the place of the last declaration of this name
abbrev pub last_named : List ℕ → List CallDecl → Option ℕ
last_named n [] = None
last_named n (c ∷ cs) = later_or (bytes_eq c.name.text n) (last_named n cs)

abbrev pub name_at : List CallDecl → ℕ → List ℕ
name_at cs k = option_map_or (λ c. c.name.text) (slice_get cs k) []

abbrev pub call_of : Known → CallDecl
call_of k = k.call.now

-- what is declared, in its order
abbrev pub calls_in : Declared → List CallDecl
calls_in d = map call_of d.calls

-- The program has these declarations, finds the last one of each name, and has with each the one before of its name.
pub record IsTable (d : Declared) (calls : List CallDecl) : Type 0 where
  pub calls_are : calls_in d ≡ calls
  pub newest_are : (n : List ℕ) → get_by (λ k. bytes_eq n k.now) d.newest ≡ last_named n calls
  pub older_are : (i : ℕ) (k : Known) → Some k ≡ slice_get d.calls i → k.older ≡ last_named (call_of k).name.text (take i calls)
