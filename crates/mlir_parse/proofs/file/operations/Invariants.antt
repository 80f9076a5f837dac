use Rattle.std.proofs.Common.{◌≡◌, ◌-◌}
use Rattle.mlir_parse.specs.ModuleFile.{file_operations, all_operations}
use Rattle.mlir_parse.proofs.file.operations.Given as goal

abbrev pub invariant-loop-turn : goal.invariant-loop-turn
invariant-loop-turn l = all_operations l.fn.reader ≡ file_operations (l._turn-end - l._turn) l.aliases l.found l.reader
