use Rattle.std.proofs.Common.{◌≡◌, false, drop}
use Rattle.pdll_syntax.specs.StmtTree.{stmts}
use Rattle.pdll_types.specs.Mentions.{of_pattern}
use Rattle.pdll_types.specs.Walk.{walked}
use Rattle.pdll_types.proofs.statements.walk_pattern.Given as goal

abbrev pub invariant-loop-at : goal.invariant-loop-at
invariant-loop-at l =
    walked l.table (of_pattern l.table false (stmts l.all)) l.fn.walk ≡ walked l.table (of_pattern l.table l.late (stmts (drop l.at l.all))) l.walk
