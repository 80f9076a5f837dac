-- What a token is for the grammar (MLIR's document "PDLL - PDL Language").
use Rattle.std.specs.Prelude.{ℕ, Bool, true, false, if◌then◌else◌, List, codes, Option, Some, None}
use Rattle.std.specs.Option.{unwrap_or}
use Rattle.std.specs.Str.{bytes_eq}
use Rattle.pdll_lexer.specs.declared.token.TokenKind.{TokenKind}
use Rattle.pdll_lexer.specs.declared.token.TokenKind.TheVariants as kind
use Rattle.pdll_parser.specs.declared.terminal.Terminal.{Terminal}
use Rattle.pdll_parser.specs.declared.terminal.Terminal.TheVariants as t

-- the words that are no names
abbrev pub lower_keyword : List ℕ → Option Terminal
lower_keyword w =
    if bytes_eq w (codes "erase") then Some t.Erase else (if bytes_eq w (codes "let") then Some t.Let
    else (if bytes_eq w (codes "not") then Some t.Not else (if bytes_eq w (codes "replace") then Some t.Replace
    else (if bytes_eq w (codes "return") then Some t.Return else (if bytes_eq w (codes "rewrite") then Some t.RewriteWith
    else (if bytes_eq w (codes "with") then Some t.With else None))))))

abbrev pub kind_keyword : List ℕ → Option Terminal
kind_keyword w =
    if bytes_eq w (codes "Attr") then Some t.Attr else (if bytes_eq w (codes "Op") then Some t.Op
    else (if bytes_eq w (codes "Type") then Some t.Type else (if bytes_eq w (codes "TypeRange") then Some t.TypeRange
    else (if bytes_eq w (codes "Value") then Some t.Value else (if bytes_eq w (codes "ValueRange") then Some t.ValueRange else None)))))

abbrev pub declaration_keyword : List ℕ → Option Terminal
declaration_keyword w =
    if bytes_eq w (codes "Constraint") then Some t.Constraint else (if bytes_eq w (codes "Pattern") then Some t.Pattern
    else (if bytes_eq w (codes "Rewrite") then Some t.Rewrite else None))

-- a word that is a name
abbrev pub name : List ℕ → Terminal
name w =
    if bytes_eq w (codes "attr") then t.AttrName else (if bytes_eq w (codes "op") then t.OpName
    else (if bytes_eq w (codes "type") then t.TypeName else (if bytes_eq w (codes "benefit") then t.BenefitName
    else (if bytes_eq w (codes "recursion") then t.RecursionName else t.OtherName))))

abbrev pub word : List ℕ → Terminal
word w = unwrap_or (lower_keyword w) (unwrap_or (kind_keyword w) (unwrap_or (declaration_keyword w) (name w)))

abbrev pub terminal_of : TokenKind → List ℕ → Terminal
terminal_of kind.End w = t.End
terminal_of kind.Word w = word w
terminal_of kind.Integer w = t.Integer
terminal_of kind.String w = t.String
terminal_of kind.LeftParen w = t.LeftParen
terminal_of kind.RightParen w = t.RightParen
terminal_of kind.LeftBrace w = t.LeftBrace
terminal_of kind.RightBrace w = t.RightBrace
terminal_of kind.LeftBracket w = t.LeftBracket
terminal_of kind.RightBracket w = t.RightBracket
terminal_of kind.Less w = t.Less
terminal_of kind.Greater w = t.Greater
terminal_of kind.Comma w = t.Comma
terminal_of kind.Colon w = t.Colon
terminal_of kind.Semicolon w = t.Semicolon
terminal_of kind.Equal w = t.Equal
terminal_of kind.Dot w = t.Dot
terminal_of kind.Arrow w = t.Arrow
terminal_of kind.FatArrow w = t.FatArrow
terminal_of kind.CppBody w = t.CppBody
terminal_of kind.Include w = t.Include

-- the words that may name a pattern, a variable, a constraint or a rewrite
abbrev pub is_name : Terminal → Bool
is_name t.OtherName = true
is_name t.AttrName = true
is_name t.OpName = true
is_name t.TypeName = true
is_name t.BenefitName = true
is_name t.RecursionName = true
is_name _ = false

-- all words
abbrev pub is_word : Terminal → Bool
is_word t.Erase = true
is_word t.Let = true
is_word t.Not = true
is_word t.Replace = true
is_word t.Return = true
is_word t.RewriteWith = true
is_word t.With = true
is_word t.Attr = true
is_word t.Op = true
is_word t.Type = true
is_word t.TypeRange = true
is_word t.Value = true
is_word t.ValueRange = true
is_word t.Constraint = true
is_word t.Pattern = true
is_word t.Rewrite = true
is_word w = is_name w

-- the words that are kinds
abbrev pub is_kind : Terminal → Bool
is_kind t.Attr = true
is_kind t.Op = true
is_kind t.Type = true
is_kind t.TypeRange = true
is_kind t.Value = true
is_kind t.ValueRange = true
is_kind _ = false

-- the words that are names, but begin something else where `<` follows
abbrev pub begins_literal : Terminal → Bool
begins_literal t.AttrName = true
begins_literal t.OpName = true
begins_literal t.TypeName = true
begins_literal _ = false
