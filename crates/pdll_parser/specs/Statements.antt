-- Statements, read from a place on.
use Rattle.std.specs.Prelude.{ℕ, zero, suc, if◌then◌else◌, List, [], Option, Some, None}
use Rattle.pdll_syntax.specs.declared.name.Name.{Name}
use Rattle.pdll_syntax.specs.declared.stmt.Values.{Values}
use Rattle.pdll_syntax.specs.declared.stmt.Values.TheVariants as values
use Rattle.pdll_syntax.specs.ExprTree.{Ref}
use Rattle.pdll_syntax.specs.StmtTree.{Stmt, stmt, StmtForm, let_stmt, erase_stmt, return_stmt, replace_stmt, rewrite_stmt, plain_stmt, stmts}
use Rattle.pdll_parser.specs.declared.terminal.Terminal.{Terminal}
use Rattle.pdll_parser.specs.declared.terminal.Terminal.TheVariants as t
use Rattle.pdll_parser.specs.Input.{Parser, ◌>>=◌, ◌>>◌, ◌<$>◌, pure, refuse, peek, here, take_token, look, eat, expect, name, deeper, all_up_to}
use Rattle.pdll_parser.specs.Expressions.{Rules, expression, references, arguments, maybe_value, room_of}

-- a name with its place
unfoldable pub declared_name : Parser Name
declared_name = do
  at ← here
  text ← name
  pure (record { at = at; text = text })

-- `: refs`, where they are written
unfoldable pub maybe_references : Option Rules → Parser (List Ref)
maybe_references room = do
  colon ← eat t.Colon
  if colon then references room else pure []

-- statements in braces, with the place of the closing one
unfoldable pub braces : Option (Parser Stmt) → Parser (List Stmt × ℕ)
braces inside = do
  opens ← look t.LeftBrace
  if opens then (do found ← deeper inside (λ statement. all_up_to t.RightBrace (λ before. statement)); at ← here; expect t.RightBrace; pure (found, at)) else refuse

-- `room` has the rules of expressions one bracket deeper, and `inside` that of statements
module _ (room : Option Rules) (inside : Option (Parser Stmt)) where
  abbrev pub values_by : Terminal → Parser Values
  values_by t.LeftParen = values.Several <$> arguments room
  values_by x = values.One <$> expression room

  -- an expression, or a list in parentheses
  unfoldable pub new_values : Parser Values
  new_values = peek >>= values_by

  unfoldable pub a_let : Parser StmtForm
  a_let = do
    name ← declared_name
    written ← maybe_references room
    value ← maybe_value (expression room)
    pure (let_stmt name written value)

  unfoldable pub a_replace : Parser StmtForm
  a_replace = do
    old ← expression room
    expect t.With
    new ← new_values
    pure (replace_stmt old new)

  unfoldable pub a_rewrite : Parser StmtForm
  a_rewrite = do
    root ← expression room
    expect t.With
    body ← braces inside
    pure (rewrite_stmt root (stmts body.0) body.1)

  abbrev pub statement_by : Terminal → Parser StmtForm
  statement_by t.Let = take_token >> a_let
  statement_by t.Erase = take_token >> (erase_stmt <$> expression room)
  statement_by t.Return = take_token >> (return_stmt <$> expression room)
  statement_by t.Replace = take_token >> a_replace
  statement_by t.RewriteWith = take_token >> a_rewrite
  statement_by x = plain_stmt <$> expression room

  unfoldable pub statement_form : Parser StmtForm
  statement_form = peek >>= statement_by

  -- a statement and its `;`
  unfoldable pub a_statement : Parser Stmt
  a_statement = do
    at ← here
    form ← statement_form
    expect t.Semicolon
    pure (stmt at form)

-- the rule of statements where so many brackets may be open
abbrev pub statement : ℕ → Parser Stmt
statement zero = a_statement (room_of zero) None
statement (suc depth) = a_statement (room_of (suc depth)) (Some (statement depth))

abbrev pub inside_of : ℕ → Option (Parser Stmt)
inside_of zero = None
inside_of (suc depth) = Some (statement depth)
