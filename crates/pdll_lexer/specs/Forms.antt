-- What text a token of each kind is.
use Rattle.std.specs.Prelude.{◌≡◌, ℕ, List, [], ◌∷◌, IsTrue, codes}
use Rattle.text_scan.specs.Bytes.{AllAre, is_digit, is_word_start, is_name_byte}
use Rattle.text_scan.specs.Strings.{IsString}
use Rattle.pdll_lexer.specs.declared.token.TokenKind.{TokenKind}
use Rattle.pdll_lexer.specs.declared.token.TokenKind.TheVariants as kind

-- a letter or `_`, then letters, digits and `_`
abbrev pub IsWord : List ℕ → Type 0
IsWord [] = ⊥
IsWord (b ∷ s) = IsTrue (is_word_start b) × AllAre is_name_byte s

-- one or more decimal digits
abbrev pub IsInteger : List ℕ → Type 0
IsInteger [] = ⊥
IsInteger (b ∷ s) = AllAre is_digit (b ∷ s)

-- The text has the form of a token of this kind. The end is no text.
abbrev pub HasForm : TokenKind → List ℕ → Type 0
HasForm kind.End text = ⊥
HasForm kind.Word text = IsWord text
HasForm kind.Integer text = IsInteger text
HasForm kind.String text = IsString text
HasForm kind.LeftParen text = text ≡ codes "("
HasForm kind.RightParen text = text ≡ codes ")"
HasForm kind.LeftBrace text = text ≡ codes "{"
HasForm kind.RightBrace text = text ≡ codes "}"
HasForm kind.LeftBracket text = text ≡ codes "["
HasForm kind.RightBracket text = text ≡ codes "]"
HasForm kind.Less text = text ≡ codes "<"
HasForm kind.Greater text = text ≡ codes ">"
HasForm kind.Comma text = text ≡ codes ","
HasForm kind.Colon text = text ≡ codes ":"
HasForm kind.Semicolon text = text ≡ codes ";"
HasForm kind.Equal text = text ≡ codes "="
HasForm kind.Dot text = text ≡ codes "."
HasForm kind.Arrow text = text ≡ codes "->"
HasForm kind.FatArrow text = text ≡ codes "=>"
HasForm kind.CppBody text = text ≡ codes "[{"
HasForm kind.Include text = text ≡ codes "#include"

-- the text has the form of a token
abbrev pub IsTokenText : List ℕ → Type 0
IsTokenText text = (kind : TokenKind) × HasForm kind text
