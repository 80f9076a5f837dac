use Rattle.std.proofs.Common.{◌≡◌, List, [], ◌++◌, map, drop}
use Rattle.pdll_syntax.specs.declared.file.Decl.{Decl}
use Rattle.rewrite_model.specs.Expanding.{patterns_from}
use Rattle.pdll_patterns.specs.View.{pattern_of}
use Rattle.pdll_patterns.specs.Files.{IsEarlier}
use Rattle.pdll_patterns.proofs.pattern.patterns.Given as goal

-- so many declarations are read
abbrev pub invariant-loop-d : goal.invariant-loop-d
invariant-loop-d l =
    (ds : List Decl) × (IsEarlier l.earlier ds × (patterns_from [] l.fn.file.decls ≡ map pattern_of l.found ++ patterns_from ds (drop l.d-index l.fn.file.decls)))
