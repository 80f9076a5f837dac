use Rattle.std.proofs.Common.{◌≡◌, ◌++◌, drop}
use Rattle.std.specs.Prelude.{filter_map}
use Rattle.mlir_resolve.specs.Resolving.{uses_fault, types_fault, used_value, or_then}
use Rattle.mlir_resolve.specs.Walk.{names_in}
use Rattle.mlir_resolve.proofs.operands.operands.Given as goal

abbrev pub invariant-loop-i : goal.invariant-loop-i
invariant-loop-i l =
    (uses_fault (names_in l.file l.outer l.scope) (drop l.i l.uses) ≡ uses_fault (names_in l.file l.outer l.scope) l.uses)
    × (l.values ++ filter_map (used_value (names_in l.file l.outer l.scope)) (drop l.i l.uses) ≡ filter_map (used_value (names_in l.file l.outer l.scope)) l.uses)
    × (or_then l.differs (types_fault (names_in l.file l.outer l.scope) (drop l.i l.uses) (drop l.i l.written)) ≡ types_fault (names_in l.file l.outer l.scope) l.uses l.written)
