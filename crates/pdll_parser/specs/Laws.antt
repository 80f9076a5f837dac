-- Laws of the grammar.
use Rattle.std.specs.Prelude.{◌≡◌, ℕ, List}
use Rattle.pdll_syntax.specs.declared.file.PatFile.{PatFile}
use Rattle.pdll_parser.specs.FileGrammar.{IsPatternFile}

-- No text spells two pattern files.
abbrev pub SpelledOnce : Type 0
SpelledOnce = (bytes : List ℕ) (a b : PatFile) → IsPatternFile bytes a → IsPatternFile bytes b → a ≡ b
