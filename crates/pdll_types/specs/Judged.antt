-- What is answered of a pattern file.
use Rattle.std.specs.Prelude.{◌≡◌, ◌⊎◌, ℕ, true, false, List, Option, Some, None, Result, Ok, Err}
use Rattle.mlir_tree.specs.declared.refusal.Refusal.{Refusal}
use Rattle.mlir_tree.specs.declared.refusal.Refusal.TheVariants as refusal
use Rattle.pdll_syntax.specs.declared.fault.PatFault.{PatFault}
use Rattle.pdll_syntax.specs.declared.fault.PatKind.TheVariants.{TooMany}
use Rattle.pdll_syntax.specs.declared.file.Decl.{Decl}
use Rattle.pdll_syntax.specs.declared.file.PatFile.{PatFile}
use Rattle.rewrite_model.specs.Size.{is_too_large}
use Rattle.rewrite_model.specs.Own.{Own, own, IsDeterminedAlone}
use Rattle.pdll_types.specs.declared.kind.Kind.{Kind}
use Rattle.pdll_types.specs.declared.typed.Typed.{Typed}
use Rattle.pdll_types.specs.Accepted.{IsAccepted, IsFirstFault, IsFirstOpen, decl_place, expression_kinds, root_numbers}

-- The file with its kinds and roots, exactly where it is accepted, or its first fault, unless memory fails.
abbrev pub Judges : PatFile → Result Typed (Refusal PatFault) → Type 0
Judges file (Ok t) = IsAccepted file × (t.file ≡ file) × (t.kinds ≡ expression_kinds file) × (t.roots ≡ root_numbers file)
Judges file (Err (refusal.Fault f)) = IsFirstFault file f
Judges file (Err refusal.NoMemory) = Unit {0}

-- The same, before the file is copied.
abbrev pub Finds : PatFile → Result (List Kind × List ℕ) (Refusal PatFault) → Type 0
Finds file (Ok r) = IsAccepted file × (r.0 ≡ expression_kinds file) × (r.1 ≡ root_numbers file)
Finds file (Err (refusal.Fault f)) = IsFirstFault file f
Finds file (Err refusal.NoMemory) = Unit {0}

-- The first fault of the numbers of a declaration that aren't determined.
abbrev pub Opened : Own → Option PatFault → Type 0
Opened o None = IsDeterminedAlone o
Opened o (Some f) = IsFirstOpen o f

-- The first fault that comes behind those of names, kinds, literals and parts.
abbrev pub Later : List Decl → Decl → Option PatFault → Type 0
Later earlier d None = IsDeterminedAlone (own earlier d) × (is_too_large earlier d ≡ false)
Later earlier d (Some f) =
    IsFirstOpen (own earlier d) f ⊎ (IsDeterminedAlone (own earlier d) × (is_too_large earlier d ≡ true) × (f ≡ record { kind = TooMany; at = decl_place d }))
