use Rattle.std.proofs.Common.{◌≡◌, drop}
use Rattle.pdll_syntax.specs.StmtTree.{stmts}
use Rattle.pdll_types.specs.Mentions.{of_constraint}
use Rattle.pdll_types.specs.Walk.{walked}
use Rattle.pdll_types.proofs.statements.walk_constraint.Given as goal

abbrev pub invariant-loop-one : goal.invariant-loop-one
invariant-loop-one l =
    walked l.table (of_constraint l.table (stmts l.all)) l.fn.walk ≡ walked l.table (of_constraint l.table (stmts (drop l.one-index l.all))) l.walk
