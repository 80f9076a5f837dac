use Rattle.std.proofs.Common.{◌≡◌, ℕ, suc, ◌≤◌, List, take, length}
use Rattle.std.specs.Option.{option_map_or}
use Rattle.pdll_syntax.specs.declared.file.CallDecl.{CallDecl}
use Rattle.pdll_expand.specs.Called.{last_named, IsTable}
use Rattle.pdll_expand.proofs.declared.Declared.find.Given as goal

-- so many are looked through
abbrev pub invariant-loop-found : goal.invariant-loop-found
invariant-loop-found l =
    (calls : List CallDecl) → IsTable l.self calls
    → (m : ℕ) × (m ≤ length calls) × (l.found ≡ last_named l.name (take m calls)) × (last_named l.name (take l.count calls) ≡ last_named l.name (take l.count (take m calls)))

abbrev pub decreases-loop-found : goal.decreases-loop-found
decreases-loop-found l = option_map_or suc l.found 0
