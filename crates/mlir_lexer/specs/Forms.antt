-- The forms of tokens of module text.
use Rattle.std.specs.Prelude.{◌≡◌, ℕ, Bool, ◌||◌, ◌==◌, List, [], ◌∷◌, ◌++◌, IsTrue, ◌⊎◌, codes}
use Rattle.text_scan.specs.Bytes.{is_digit, is_word_start, is_word_byte, is_suffix_byte, AllAre}
use Rattle.text_scan.specs.Hexadecimal.{is_hex_digit}
use Rattle.text_scan.specs.Strings.{IsString}
use Rattle.mlir_lexer.specs.declared.token.TokenKind.{TokenKind}
use Rattle.mlir_lexer.specs.declared.token.TokenKind.TheVariants as kind

-- one or more bytes that pass the test
abbrev pub AreSome : (ℕ → Bool) → List ℕ → Type 0
AreSome test [] = ⊥
AreSome test (b ∷ s) = AllAre test (b ∷ s)

-- a letter or `_`, then letters, digits, `_`, `$` and `.`
abbrev pub IsWord : List ℕ → Type 0
IsWord [] = ⊥
IsWord (b ∷ s) = IsTrue (is_word_start b) × AllAre is_word_byte s

-- a letter or one of `$ . _ -`
abbrev pub is_suffix_start : ℕ → Bool
is_suffix_start b = is_word_start b || b == 36 || b == 46 || b == 45

-- digits; or a letter or one of `$ . _ -`, then letters, digits and these
abbrev pub IsSuffix : List ℕ → Type 0
IsSuffix [] = ⊥
IsSuffix (b ∷ s) = AllAre is_digit (b ∷ s) ⊎ (IsTrue (is_suffix_start b) × AllAre is_suffix_byte s)

-- this byte, directly followed by a text of a form
abbrev pub IsBehind : ℕ → (List ℕ → Type 0) → List ℕ → Type 0
IsBehind mark Form [] = ⊥
IsBehind mark Form (b ∷ s) = (b ≡ mark) × Form s

-- a suffix or a string
abbrev pub IsSymbolName : List ℕ → Type 0
IsSymbolName text = IsSuffix text ⊎ IsString text

-- digits; or `0x` and one or more hexadecimal digits
abbrev pub IsInteger : List ℕ → Type 0
IsInteger text = AreSome is_digit text ⊎ ((digits : List ℕ) × AreSome is_hex_digit digits × (text ≡ 48 ∷ 120 ∷ digits))

-- `e` or `E`
abbrev pub is_exponent_mark : ℕ → Bool
is_exponent_mark b = b == 101 || b == 69

abbrev pub is_sign : ℕ → Bool
is_sign b = b == 43 || b == 45

-- a sign and digits
abbrev pub IsSignedDigits : List ℕ → Type 0
IsSignedDigits [] = ⊥
IsSignedDigits (b ∷ s) = IsTrue (is_sign b) × AreSome is_digit s

-- `e` or `E`, optionally `+` or `-`, and digits
abbrev pub IsExponent : List ℕ → Type 0
IsExponent [] = ⊥
IsExponent (b ∷ s) = IsTrue (is_exponent_mark b) × (AreSome is_digit s ⊎ IsSignedDigits s)

-- digits, `.`, any digits, then optionally an exponent
pub record IsFloat (text : List ℕ) : Type 0 where
  pub whole : List ℕ
  pub fraction : List ℕ
  pub exponent : List ℕ
  pub has_whole : AreSome is_digit whole
  pub has_fraction : AllAre is_digit fraction
  pub has_exponent : (exponent ≡ []) ⊎ IsExponent exponent
  pub parts : text ≡ whole ++ (46 ∷ (fraction ++ exponent))

-- The text has the form of a token of this kind. The end is no text.
abbrev pub HasForm : TokenKind → List ℕ → Type 0
HasForm kind.End text = ⊥
HasForm kind.Word text = IsWord text
HasForm kind.Value text = IsBehind 37 IsSuffix text
HasForm kind.Label text = IsBehind 94 IsSuffix text
HasForm kind.Hash text = IsBehind 35 IsSuffix text
HasForm kind.Bang text = IsBehind 33 IsSuffix text
HasForm kind.Symbol text = IsBehind 64 IsSymbolName text
HasForm kind.Integer text = IsInteger text
HasForm kind.Float text = IsFloat text
HasForm kind.String text = IsString text
HasForm kind.LeftParen text = text ≡ codes "("
HasForm kind.RightParen text = text ≡ codes ")"
HasForm kind.LeftBrace text = text ≡ codes "{"
HasForm kind.RightBrace text = text ≡ codes "}"
HasForm kind.LeftBracket text = text ≡ codes "["
HasForm kind.RightBracket text = text ≡ codes "]"
HasForm kind.Less text = text ≡ codes "<"
HasForm kind.Greater text = text ≡ codes ">"
HasForm kind.Comma text = text ≡ codes ","
HasForm kind.Colon text = text ≡ codes ":"
HasForm kind.ColonColon text = text ≡ codes "::"
HasForm kind.Equal text = text ≡ codes "="
HasForm kind.Minus text = text ≡ codes "-"
HasForm kind.Arrow text = text ≡ codes "->"

-- the text has the form of a token
abbrev pub IsTokenText : List ℕ → Type 0
IsTokenText text = (kind : TokenKind) × HasForm kind text
