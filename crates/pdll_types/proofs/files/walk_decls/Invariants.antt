use Rattle.std.specs.Prelude.{List, [], drop, Result}
use Rattle.mlir_tree.specs.declared.refusal.Refusal.{Refusal}
use Rattle.pdll_syntax.specs.declared.fault.PatFault.{PatFault}
use Rattle.pdll_syntax.specs.declared.file.Decl.{Decl}
use Rattle.pdll_types.specs.declared.walk.Walk.{Walk}
use Rattle.pdll_types.specs.Signatures.{Declared}
use Rattle.pdll_types.specs.Earlier.{IsEarlier}
use Rattle.pdll_types.specs.Walk.{Tells}
use Rattle.pdll_types.proofs.files.walk_decls.Given as goal

-- What is told of the declarations that are left is told of all.
abbrev pub invariant-loop-one : goal.invariant-loop-one
invariant-loop-one l =
    (c : List Declared) × (earlier : List Decl) × IsEarlier l.earlier c earlier
    × ((r : Result (Unit {0}) (Refusal PatFault)) (new : Walk) → Tells c earlier (drop l.one-index l.all) l.walk r new → Tells [] [] l.all l.fn.walk r new)
