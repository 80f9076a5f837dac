-- Expressions and refs, read from a place on.
use Rattle.std.specs.Prelude.{ℕ, zero, suc, ◌+◌, ◌-◌, ◌*◌, if◌then◌else◌, nat_le, List, [], ◌∷◌, ◌++◌, fold, Option, Some, None}
use Rattle.text_scan.specs.Strings.{string_value}
use Rattle.pdll_syntax.specs.declared.name.Literal.{Literal}
use Rattle.pdll_syntax.specs.ExprTree.{Expr, expr, ExprForm, name_expr, call_expr, declare_expr, attr_expr, type_expr, op_expr, member_expr, OpExpr, operation, Entry, entry, Ref, ref, RefForm, attr_ref, op_ref, type_ref, type_range_ref, value_ref, value_range_ref, named_ref, exprs, entries, refs, maybe_expr, maybe_exprs}
use Rattle.pdll_parser.specs.declared.terminal.Terminal.{Terminal}
use Rattle.pdll_parser.specs.declared.terminal.Terminal.TheVariants as t
use Rattle.pdll_parser.specs.Place.{left, same}
use Rattle.pdll_parser.specs.Input.{Parser, ◌>>=◌, ◌>>◌, ◌<$>◌, pure, refuse, peek, here, take_token, look, eat, expect_some, name, word, bracket, items, list}

-- how expressions and refs are read within a bracket
pub record Rules : Type 0 where
  pub expression : Parser Expr
  pub reference : Parser Ref
  pub references : Parser (List Ref)

abbrev pub ten : ℕ → ℕ → ℕ
ten n b = 10 * n + (b - 48)

-- the number that decimal digits write
abbrev pub number : List ℕ → ℕ
number = fold ten 0

-- the number, where it is at most 65,534; else 65,535, which is no place of a result
abbrev pub index_of : List ℕ → ℕ
index_of digits = if nat_le (number digits) 65534 then number digits else 65535

abbrev pub text_of : Terminal → Parser (List ℕ)
text_of x = expect_some (λ y. same y x)

-- the string of a literal
unfoldable pub literal : Parser Literal
literal = do
  at ← here
  text ← text_of t.String
  pure (record { at = at; bytes = string_value text })

-- words with `.` between, behind what was found of them
unfoldable pub dotted : ℕ → List ℕ → Parser (List ℕ)
dotted zero found = refuse
dotted (suc n) found = do
  w ← word
  more ← eat t.Dot
  if more then dotted n (found ++ (w ++ 46 ∷ [])) else pure (found ++ w)

unfoldable pub dotted_name : Parser (List ℕ)
dotted_name = λ s. dotted (left s) [] s

abbrev pub entry_name_by : Terminal → Parser (List ℕ)
entry_name_by t.String = string_value <$> take_token
entry_name_by x = word

-- a word, or a string
unfoldable pub entry_name : Parser (List ℕ)
entry_name = peek >>= entry_name_by

-- `= value`, where it is written
unfoldable pub maybe_value : Parser Expr → Parser (Option Expr)
maybe_value expression = do
  equal ← eat t.Equal
  if equal then Some <$> expression else pure None

unfoldable pub an_entry : Parser Expr → Parser Entry
an_entry expression = do
  at ← here
  name ← entry_name
  value ← maybe_value expression
  pure (entry at name (maybe_expr value))

-- `.` and numbers, behind an expression that begins at a place
unfoldable pub members : ℕ → ℕ → Expr → Parser Expr
members at zero x = do
  dot ← look t.Dot
  if dot then refuse else pure x
members at (suc n) x = do
  dot ← eat t.Dot
  if dot then (text_of t.Integer >>= (λ digits. members at n (expr at (member_expr x (index_of digits))))) else pure x

abbrev pub all_members : ℕ → Expr → Parser Expr
all_members at x = λ s. members at (left s) x s

-- `room` has the rules one bracket deeper, where one more bracket may be open
module _ (room : Option Rules) where
  -- `(`, expressions and `)`
  unfoldable pub arguments : Parser (List Expr)
  arguments = bracket room t.LeftParen (λ r. list t.RightParen r.expression) t.RightParen

  -- `<`, an expression and `>`
  unfoldable pub of : Parser Expr
  of = bracket room t.Less (λ r. r.expression) t.Greater

  unfoldable pub maybe_of : Parser (Option Expr)
  maybe_of = do
    angle ← look t.Less
    if angle then Some <$> of else pure None

  -- `<`, words with `.` between and `>`
  unfoldable pub operation_name : Parser (List ℕ)
  operation_name = bracket room t.Less (λ r. dotted_name) t.Greater

  unfoldable pub maybe_operation_name : Parser (Option (List ℕ))
  maybe_operation_name = do
    angle ← look t.Less
    if angle then Some <$> operation_name else pure None

  abbrev pub reference_by : Terminal → Parser RefForm
  reference_by t.Attr = take_token >> ((λ x. attr_ref (maybe_expr x)) <$> maybe_of)
  reference_by t.Op = take_token >> (op_ref <$> maybe_operation_name)
  reference_by t.Type = take_token >> pure type_ref
  reference_by t.TypeRange = take_token >> pure type_range_ref
  reference_by t.Value = take_token >> ((λ x. value_ref (maybe_expr x)) <$> maybe_of)
  reference_by t.ValueRange = take_token >> ((λ x. value_range_ref (maybe_expr x)) <$> maybe_of)
  reference_by x = named_ref <$> name

  unfoldable pub reference_form : Parser RefForm
  reference_form = peek >>= reference_by

  -- a kind, or the name of a constraint
  unfoldable pub reference : Parser Ref
  reference = do
    at ← here
    form ← reference_form
    pure (ref at form)

  -- one ref, or refs in square brackets
  unfoldable pub references : Parser (List Ref)
  references = do
    several ← look t.LeftBracket
    if several then bracket room t.LeftBracket (λ r. items r.reference) t.RightBracket else (λ x. x ∷ []) <$> reference

  -- `<`, the string of a literal and `>`
  unfoldable pub literal_in_angles : Parser Literal
  literal_in_angles = bracket room t.Less (λ r. literal) t.Greater

  unfoldable pub maybe_arguments : Parser (Option (List Expr))
  maybe_arguments = do
    written ← look t.LeftParen
    if written then Some <$> arguments else pure None

  unfoldable pub attributes : Parser (List Entry)
  attributes = bracket room t.LeftBrace (λ r. list t.RightBrace (an_entry r.expression)) t.RightBrace

  unfoldable pub maybe_attributes : Parser (List Entry)
  maybe_attributes = do
    written ← look t.LeftBrace
    if written then attributes else pure []

  unfoldable pub maybe_types : Parser (Option (List Expr))
  maybe_types = do
    written ← eat t.Arrow
    if written then Some <$> arguments else pure None

  -- what stands behind the word `op`
  unfoldable pub an_operation : Parser OpExpr
  an_operation = do
    name ← operation_name
    operands ← maybe_arguments
    found ← maybe_attributes
    types ← maybe_types
    pure (operation name (maybe_exprs operands) (entries found) (maybe_exprs types))

  abbrev pub named_by : List ℕ → Terminal → Parser ExprForm
  named_by name t.LeftParen = (λ xs. call_expr name (exprs xs)) <$> arguments
  named_by name t.Colon = take_token >> ((λ rs. declare_expr name (refs rs)) <$> references)
  named_by name x = pure (name_expr name)

  -- what stands behind a name: arguments, refs, or nothing
  unfoldable pub named : List ℕ → Parser ExprForm
  named name = peek >>= named_by name

  -- a word that is a name, unless `<` follows and it begins something else
  abbrev pub begins : Parser ExprForm → Parser ExprForm
  begins other = do
    name ← take_token
    angle ← look t.Less
    if angle then other else named name

  abbrev pub primary_by : Terminal → Parser ExprForm
  primary_by t.AttrName = begins (attr_expr <$> literal_in_angles)
  primary_by t.TypeName = begins (type_expr <$> literal_in_angles)
  primary_by t.OpName = begins (op_expr <$> an_operation)
  primary_by x = name >>= named

  unfoldable pub primary : Parser ExprForm
  primary = peek >>= primary_by

  unfoldable pub expression : Parser Expr
  expression = do
    at ← here
    form ← primary
    all_members at (expr at form)

abbrev pub rules_in : Option Rules → Rules
rules_in room = record { expression = expression room; reference = reference room; references = references room }

-- the rules where so many brackets may be open
abbrev pub rules : ℕ → Rules
rules zero = rules_in None
rules (suc depth) = rules_in (Some (rules depth))

abbrev pub room_of : ℕ → Option Rules
room_of zero = None
room_of (suc depth) = Some (rules depth)
