-- Declarations and whole files, read from a place on.
use Rattle.std.specs.Prelude.{ℕ, ◌+◌, if◌then◌else◌, ◌==◌, nat_le, List, [], ◌∷◌, length, Option, Some, None, Result, Ok, Err}
use Rattle.std.specs.Str.Lossy.{utf8_valid_len}
use Rattle.pdll_syntax.specs.declared.fault.PatFault.{PatFault}
use Rattle.pdll_syntax.specs.declared.fault.PatKind.TheVariants.{NotUtf8, TooMany, BenefitRange}
use Rattle.pdll_syntax.specs.declared.name.Name.{Name}
use Rattle.pdll_syntax.specs.declared.stmt.Body.{Body}
use Rattle.pdll_syntax.specs.declared.stmt.Body.TheVariants as body
use Rattle.pdll_syntax.specs.declared.stmt.Param.{Param}
use Rattle.pdll_syntax.specs.declared.file.PatFile.{PatFile}
use Rattle.pdll_syntax.specs.declared.file.Decl.{Decl}
use Rattle.pdll_syntax.specs.declared.file.Decl.TheVariants as decl
use Rattle.pdll_syntax.specs.declared.file.PatternDecl.{PatternDecl}
use Rattle.pdll_syntax.specs.declared.file.CallDecl.{CallDecl}
use Rattle.pdll_syntax.specs.declared.file.Meta.{Meta}
use Rattle.pdll_syntax.specs.declared.file.MetaForm.{MetaForm}
use Rattle.pdll_syntax.specs.declared.file.MetaForm.TheVariants.{Benefit, Recursion}
use Rattle.pdll_syntax.specs.ExprTree.{Ref}
use Rattle.pdll_parser.specs.declared.terminal.Terminal.{Terminal}
use Rattle.pdll_parser.specs.declared.terminal.Terminal.TheVariants as t
use Rattle.pdll_parser.specs.Terminals.{is_name, is_kind}
use Rattle.pdll_parser.specs.Place.{at_place, start}
use Rattle.pdll_parser.specs.Input.{Outcome, Parser, ◌>>=◌, ◌>>◌, ◌<$>◌, pure, fault, fail, refuse, peek, here, take_token, eat, expect, name, bracket, items, list, all_up_to}
use Rattle.pdll_parser.specs.Expressions.{Rules, number, text_of, expression, reference, references, room_of}
use Rattle.pdll_parser.specs.Statements.{declared_name, statement, braces, inside_of}

-- how many brackets may be open at once
unfoldable pub max_depth : ℕ
max_depth = 256

abbrev pub room : Option Rules
room = room_of max_depth

-- the number of a benefit
unfoldable pub benefit : Parser ℕ
benefit = λ s. (text_of t.Integer >>= (λ digits u. if nat_le (number digits) 65534 then Ok (number digits, u) else Err (fault BenefitRange (start s)))) s

-- `(`, the number of a benefit and `)`
unfoldable pub benefit_in_parens : Parser ℕ
benefit_in_parens = bracket room t.LeftParen (λ r. benefit) t.RightParen

abbrev pub meta_by : Terminal → Parser MetaForm
meta_by t.BenefitName = take_token >> (Benefit <$> benefit_in_parens)
meta_by t.RecursionName = take_token >> pure Recursion
meta_by x = refuse

-- what is said of a pattern
unfoldable pub a_meta : Parser Meta
a_meta = do
  at ← here
  x ← peek
  form ← meta_by x
  pure (record { at = at; form = form })

-- `with` and one or more, where it is written
unfoldable pub maybe_metas : Parser (List Meta)
maybe_metas = do
  written ← eat t.With
  if written then items a_meta else pure []

-- a name, where it is written
unfoldable pub maybe_name : Parser (Option Name)
maybe_name = do
  x ← peek
  if is_name x then Some <$> declared_name else pure None

abbrev pub in_braces : Parser Body
in_braces = (λ found. body.Braces found.0 found.1) <$> braces (inside_of max_depth)

abbrev pub pattern_body_by : Terminal → Parser Body
pattern_body_by t.LeftBrace = in_braces
pattern_body_by t.FatArrow = take_token >> (body.One <$> statement max_depth)
pattern_body_by x = refuse

unfoldable pub pattern_body : Parser Body
pattern_body = peek >>= pattern_body_by

abbrev pub call_body_by : Terminal → Parser Body
call_body_by t.Semicolon = take_token >> pure body.Absent
call_body_by t.LeftBrace = in_braces
call_body_by t.FatArrow = do
  take_token
  x ← expression room
  expect t.Semicolon
  pure (body.Value x)
call_body_by x = refuse

unfoldable pub call_body : Parser Body
call_body = peek >>= call_body_by

-- `name: refs`
unfoldable pub a_parameter : Parser (List Ref) → Parser Param
a_parameter references = do
  name ← declared_name
  expect t.Colon
  written ← references
  pure (record { name = name; refs = written })

unfoldable pub parameters : Parser (List Param)
parameters = bracket room t.LeftParen (λ r. list t.RightParen (a_parameter r.references)) t.RightParen

-- a kind
unfoldable pub a_kind : Parser Ref
a_kind = do
  x ← peek
  if is_kind x then reference room else refuse

-- `->` and the kind of the result, where they are written
unfoldable pub maybe_result : Parser (Option Ref)
maybe_result = do
  written ← eat t.Arrow
  if written then Some <$> a_kind else pure None

unfoldable pub a_pattern : Parser PatternDecl
a_pattern = do
  at ← here
  take_token
  name ← maybe_name
  metas ← maybe_metas
  body ← pattern_body
  pure (record { at = at; name = name; metas = metas; body = body })

unfoldable pub a_constraint : Parser CallDecl
a_constraint = do
  at ← here
  take_token
  name ← declared_name
  params ← parameters
  body ← call_body
  pure (record { at = at; name = name; params = params; gives = None; body = body })

unfoldable pub a_rewrite_declaration : Parser CallDecl
a_rewrite_declaration = do
  at ← here
  take_token
  name ← declared_name
  params ← parameters
  gives ← maybe_result
  body ← call_body
  pure (record { at = at; name = name; params = params; gives = gives; body = body })

abbrev pub max_patterns : ℕ
max_patterns = 4096

abbrev pub is_pattern : Decl → ℕ
is_pattern (decl.Pattern p) = 1
is_pattern d = 0

-- how many of the declarations are patterns
abbrev pub patterns_in : List Decl → ℕ
patterns_in [] = 0
patterns_in (d ∷ ds) = is_pattern d + patterns_in ds

-- the declaration behind those before it, of which so many are patterns
abbrev pub declaration_by : ℕ → Terminal → Parser Decl
declaration_by patterns t.Pattern = if nat_le max_patterns patterns then fail TooMany else decl.Pattern <$> a_pattern
declaration_by patterns t.Constraint = decl.Constraint <$> a_constraint
declaration_by patterns t.Rewrite = decl.Rewrite <$> a_rewrite_declaration
declaration_by patterns x = refuse

unfoldable pub declaration : ℕ → Parser Decl
declaration patterns = peek >>= declaration_by patterns

unfoldable pub declarations : Parser (List Decl)
declarations = all_up_to t.End (λ before. declaration (patterns_in before))

abbrev pub file_of : Outcome (List Decl) → Result PatFile PatFault
file_of (Ok found) = Ok (record { decls = found.0 })
file_of (Err e) = Err e

-- the pattern file that bytes spell, which are UTF-8
unfoldable pub file_in : List ℕ → Result PatFile PatFault
file_in bytes = file_of (declarations (at_place bytes 0))

-- the pattern file that bytes spell
unfoldable pub pattern_file : List ℕ → Result PatFile PatFault
pattern_file bytes = if utf8_valid_len bytes == length bytes then file_in bytes else Err (fault NotUtf8 (utf8_valid_len bytes))
