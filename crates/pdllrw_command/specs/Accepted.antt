-- Which files are accepted.
use Rattle.std.specs.Prelude.{◌≡◌, ◌≤◌, ℕ, List, length, Ok}
use Rattle.pdll_syntax.specs.declared.file.PatFile.{PatFile}
use Rattle.pdll_parser.specs.FileGrammar.{IsPatternFile}
use Rattle.pdll_types.specs.Accepted.{IsAccepted}
use Rattle.mlir_parse.specs.declared.syn.Syn.{Syn}
use Rattle.mlir_parse.specs.FileGrammar.{IsModuleFile}
use Rattle.mlir_tree.specs.declared.rows.Rows.{Rows}
use Rattle.mlir_resolve.specs.Resolving.{resolved}

-- the bytes are not too many, and spell this pattern file, which is accepted
pub record AcceptsPatterns (file : PatFile) (bytes : List ℕ) : Type 0 where
  pub short : length bytes ≤ 67108864
  pub spelled : IsPatternFile bytes file
  pub accepted : IsAccepted file

-- the bytes are not too many, and spell a module file, of which these are the rows
pub record AcceptsModule (m : Rows) (bytes : List ℕ) : Type 0 where
  pub short : length bytes ≤ 67108864
  pub file : Syn
  pub spelled : IsModuleFile bytes file
  pub resolves : resolved file ≡ Ok m
