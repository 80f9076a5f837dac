-- What a call answers where its definition gives an attribute, and where it gives none.
use Rattle.std.specs.Prelude.{◌≡◌, Option, Some, None, Result, Ok, Err, ⊤}
use Rattle.mlir_tree.specs.declared.refusal.Refusal.{Refusal}
use Rattle.mlir_tree.specs.declared.refusal.Refusal.TheVariants.{Fault, NoMemory}
use Rattle.mlir_tree.specs.Tree.{Attr}
use Rattle.native_set.specs.declared.arithmetic.Refused.{Refused}

-- The attribute, or a refusal exactly where there is none. Want of memory may be answered at any time.
abbrev pub Gives : Result Attr (Refusal Refused) → Option Attr → Type 0
Gives (Ok a) (Some b) = a ≡ b
Gives (Ok a) None = ⊥
Gives (Err (Fault f)) (Some b) = ⊥
Gives (Err (Fault f)) None = ⊤
Gives (Err NoMemory) b = ⊤
