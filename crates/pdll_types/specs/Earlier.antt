-- What is known of the declarations before.
use Rattle.std.specs.Prelude.{◌≡◌, List, ◌∷◌, None, Result, Ok, Err}
use Rattle.mlir_tree.specs.declared.refusal.Refusal.{Refusal}
use Rattle.mlir_tree.specs.declared.refusal.Refusal.TheVariants as refusal
use Rattle.pdll_syntax.specs.declared.fault.PatFault.{PatFault}
use Rattle.pdll_syntax.specs.declared.file.Decl.{Decl}
use Rattle.pdll_expand.specs.Table.{Knows}
use Rattle.pdll_types.specs.declared.files.Earlier.{Earlier}
use Rattle.pdll_types.specs.Signatures.{Declared, declared}
use Rattle.pdll_types.specs.Accepted.{decl_fault, IsFault, IsSound}

-- Each part of it is about these declarations, the last one first.
pub record IsEarlier (e : Earlier) (c : List Declared) (earlier : List Decl) : Type 0 where
  pub table : e.table ≡ c
  pub constraints : Knows e.constraints earlier
  pub sizes : e.sizes ≡ earlier

-- What one more declaration leaves, unless memory fails.
abbrev pub Nexts : List Declared → List Decl → Decl → Earlier → Result (Unit {0}) (Refusal PatFault) → Type 0
Nexts c ds d new (Ok _) = IsSound c ds d × IsEarlier new (declared c d) (d ∷ ds)
Nexts c ds d new (Err (refusal.Fault f)) = IsFault c ds d f
Nexts c ds d new (Err refusal.NoMemory) = Unit {0}
