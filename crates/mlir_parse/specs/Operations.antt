-- Operations and regions, read from the front of a text.
use Rattle.std.specs.Prelude.{ℕ, zero, suc, Bool, ◌&&◌, ◌==◌, nat_le, if◌then◌else◌, List, [], length, drop, Option, Some, None, Result, Ok, Err}
use Rattle.std.specs.List.{list_all}
use Rattle.std.specs.Str.Parse.{digits_value}
use Rattle.text_scan.specs.Bytes.{is_digit}
pub use Rattle.text_scan.specs.Strings.{string_value}
use Rattle.mlir_lexer.specs.declared.token.TokenKind.{TokenKind}
use Rattle.mlir_lexer.specs.declared.token.TokenKind.TheVariants as k
use Rattle.mlir_tree.specs.Tree.{Ty}
use Rattle.mlir_attributes.specs.declared.fault.ModFault.{ModFault}
use Rattle.mlir_attributes.specs.declared.fault.ModKind.TheVariants as faults
use Rattle.mlir_attributes.specs.declared.aliases.Alias.{Alias}
use Rattle.mlir_parse.specs.declared.operations.FunctionType.{FunctionType}
use Rattle.mlir_parse.specs.declared.operations.Front.{Front}
use Rattle.mlir_parse.specs.declared.operations.Back.{Back}
use Rattle.mlir_parse.specs.declared.syn.SynResult.{SynResult}
use Rattle.mlir_parse.specs.declared.syn.SynUse.{SynUse}
use Rattle.mlir_parse.specs.declared.syn.SynArg.{SynArg}
use Rattle.mlir_parse.specs.declared.syn.SynRegion.{SynRegion}
use Rattle.mlir_attributes.specs.Place.{Place, fault, sees, start, spelling}
use Rattle.mlir_attributes.specs.Input.{Outcome, Parser, ◌>>=◌, ◌>>◌, ◌<$>◌, pure, lift, fail, refuse, peek, see, here, ahead, take_token, eat, expect, items}
use Rattle.mlir_attributes.specs.Numbers.{token_value, if_short}
use Rattle.mlir_attributes.specs.Types.{ty, one_of}
use Rattle.mlir_parse.specs.SynTree.{Head, Operation, operation}
use Rattle.mlir_parse.specs.SynView.{region_tree}
use Rattle.mlir_attributes.specs.Steps.{bracketed, counted_items, listed, all_up_to, max_parts, take_slot, take_operation, maybe_location}
use Rattle.mlir_parse.specs.Entries.{maybe_dictionary, maybe_properties}

-- ---- names of values

-- the bytes behind the first one
abbrev pub behind_mark : List ℕ → List ℕ
behind_mark text = drop 1 text

-- a name behind its `%`
abbrev pub value_name : Parser (List ℕ)
value_name = behind_mark <$> take_token

-- The count of a result, whose token is at this place.
abbrev pub count_of : ℕ → Option ℕ → Result ℕ ModFault
count_of at None = Err (fault faults.TooMany at)
count_of at (Some n) = if n == 0 then Err (fault faults.Syntax at) else (if nat_le n max_parts then Ok n else Err (fault faults.TooMany at))

unfoldable pub count_here : Parser ℕ
count_here = do
  at ← here
  text ← take_token
  lift (count_of at (if_short (token_value text)))

unfoldable pub count : Parser ℕ
count = do
  integer ← see k.Integer
  if integer then count_here else refuse

-- how many values a result names: one, if no number is written
unfoldable pub maybe_count : Parser ℕ
maybe_count = do
  more ← eat k.Colon
  if more then count else pure 1

unfoldable pub result_here : Parser SynResult
result_here = do
  at ← here
  name ← value_name
  n ← maybe_count
  pure (record { at = at; name = name; count = n })

unfoldable pub a_result : Parser SynResult
a_result = do
  value ← see k.Value
  if value then result_here else refuse

-- the names of results and `=`
unfoldable pub results : Parser (List SynResult)
results = do
  found ← items a_result
  expect k.Equal
  pure found

unfoldable pub maybe_results : Parser (List SynResult)
maybe_results = do
  written ← see k.Value
  if written then results else pure []

-- The number, where it is at most 65,534; else 65,535, which no value of a name has.
abbrev pub index_of : List ℕ → ℕ
index_of digits = if nat_le (digits_value 10 digits) 65534 then digits_value 10 digits else 65535

-- a mark and digits
abbrev pub is_index : List ℕ → Bool
is_index text = list_all is_digit (behind_mark text)

-- `#` and digits
unfoldable pub sees_index : Place → Bool
sees_index s = sees k.Hash s && is_index (spelling s)

abbrev pub see_index : Parser Bool
see_index = λ s. Ok (sees_index s, s)

-- which value of a name is used: the first, if no index is written
unfoldable pub maybe_index : Parser ℕ
maybe_index = do
  written ← see_index
  if written then (λ text. index_of (behind_mark text)) <$> take_token else pure 0

unfoldable pub use_here : Parser SynUse
use_here = do
  at ← here
  name ← value_name
  n ← maybe_index
  pure (record { at = at; name = name; index = n })

abbrev pub use_by : Bool → Parser SynUse
use_by fits = if fits then use_here else fail faults.TooMany

-- A use, behind so many others of its operation.
unfoldable pub a_use : ℕ → Parser SynUse
a_use before = do
  value ← see k.Value
  if value then take_slot before >>= use_by else refuse

abbrev pub operands_inside : ℕ → Parser (List SynUse)
operands_inside room = listed k.RightParen (counted_items a_use)

unfoldable pub operands : ℕ → Parser (List SynUse)
operands room = bracketed k.LeftParen k.RightParen operands_inside room

-- ---- the name of an operation

abbrev pub is_empty : List ℕ → Bool
is_empty text = length text == 0

abbrev pub name_by : Bool → Parser (List ℕ)
name_by fits = if fits then string_value <$> take_token else fail faults.TooMany

unfoldable pub name_here : Parser (List ℕ)
name_here = do
  text ← ahead
  if is_empty (string_value text) then fail faults.Syntax else (take_operation >>= name_by)

-- A word there is an operation in a custom form.
abbrev pub operation_name_by : Option TokenKind → Parser (List ℕ)
operation_name_by (Some k.String) = name_here
operation_name_by (Some k.Word) = fail faults.CustomForm
operation_name_by _ = refuse

unfoldable pub operation_name : Parser (List ℕ)
operation_name = peek >>= operation_name_by

-- No `[` follows, behind which successors would stand.
unfoldable pub no_successors : Parser (Unit {0})
no_successors = do
  successors ← see k.LeftBracket
  if successors then fail faults.Successors else pure tt

-- ---- types and regions

-- Where one more is too many: a fault at its own first token comes before that.
abbrev pub first_fault : ℕ → Outcome Ty → Outcome Ty
first_fault at (Ok x) = Err (fault faults.TooMany at)
first_fault at (Err e) = if e.at == at then Err e else Err (fault faults.TooMany at)

unfoldable pub one_too_many : Parser Ty → Parser Ty
one_too_many p = λ s. first_fault (start s) (p s)

-- The type of a result, behind so many others of its operation.
unfoldable pub result_type : Parser Ty → ℕ → Parser Ty
result_type p before = do
  fits ← take_slot before
  if fits then p else one_too_many p

abbrev pub head_of : Front → Back → Head
head_of f b = record {
  at = f.at;
  name = f.name;
  results = f.results;
  operands = f.operands;
  props = f.props;
  attrs = b.attrs;
  types_at = b.types.at;
  operand_types = b.types.from;
  result_types = b.types.to;
}

module _ (aliases : List Alias) where
  abbrev pub operand_types_inside : ℕ → Parser (List Ty)
  operand_types_inside room = listed k.RightParen (items (ty aliases room))

  unfoldable pub operand_types : ℕ → Parser (List Ty)
  operand_types room = bracketed k.LeftParen k.RightParen operand_types_inside room

  abbrev pub result_types_inside : ℕ → Parser (List Ty)
  result_types_inside room = listed k.RightParen (counted_items (result_type (ty aliases room)))

  abbrev pub result_types_in_brackets : ℕ → Parser (List Ty)
  result_types_in_brackets room = bracketed k.LeftParen k.RightParen result_types_inside room

  abbrev pub one_result_type : ℕ → Parser (List Ty)
  one_result_type room = one_of aliases (result_type (ty aliases room) 0)

  abbrev pub result_types_by : ℕ → Option TokenKind → Parser (List Ty)
  result_types_by room (Some k.LeftParen) = result_types_in_brackets room
  result_types_by room (Some k.Word) = one_result_type room
  result_types_by room (Some k.Bang) = one_result_type room
  result_types_by room _ = refuse

  -- one type that isn't written as a function type, or a list in brackets
  unfoldable pub result_types : ℕ → Parser (List Ty)
  result_types room = peek >>= result_types_by room

  unfoldable pub signature : ℕ → Parser FunctionType
  signature room = do
    at ← here
    from ← operand_types room
    expect k.Arrow
    to ← result_types room
    pure (record { at = at; from = from; to = to })

  unfoldable pub argument_here : ℕ → Parser SynArg
  argument_here room = do
    at ← here
    name ← value_name
    expect k.Colon
    t ← ty aliases room
    maybe_location room
    pure (record { at = at; name = name; ty = t })

  -- An argument, behind so many others of its region.
  unfoldable pub argument : ℕ → ℕ → Parser SynArg
  argument room before = do
    value ← see k.Value
    if value then (if nat_le max_parts before then fail faults.TooMany else argument_here room) else refuse

  abbrev pub arguments_inside : ℕ → Parser (List SynArg)
  arguments_inside room = listed k.RightParen (counted_items (argument room))

  unfoldable pub maybe_arguments : ℕ → Parser (List SynArg)
  maybe_arguments room = do
    written ← see k.LeftParen
    if written then bracketed k.LeftParen k.RightParen arguments_inside room else pure []

  -- a label with the arguments of its region
  unfoldable pub label : ℕ → Parser (List SynArg)
  label room = do
    take_token
    found ← maybe_arguments room
    expect k.Colon
    pure found

  unfoldable pub maybe_label : ℕ → Parser (List SynArg)
  maybe_label room = do
    written ← see k.Label
    if written then label room else pure []

  -- an operation up to its regions
  unfoldable pub a_front : ℕ → Parser Front
  a_front room = do
    named ← maybe_results
    at ← here
    name ← operation_name
    uses ← operands room
    no_successors
    props ← maybe_properties aliases room
    pure (record { at = at; name = name; results = named; operands = uses; props = props })

  -- an operation behind its regions
  unfoldable pub a_back : ℕ → Parser Back
  a_back room = do
    attrs ← maybe_dictionary aliases room
    expect k.Colon
    types ← signature room
    maybe_location room
    pure (record { attrs = attrs; types = types })

  -- `inside` reads the operations in the regions of an operation
  module _ (inside : Parser Operation) where
    -- An operation in a region. A label there would begin a second block.
    unfoldable pub inner_operation : Parser Operation
    inner_operation = do
      second ← see k.Label
      if second then fail faults.ManyBlocks else inside

    unfoldable pub region_inside : ℕ → Parser SynRegion
    region_inside room = do
      args ← maybe_label room
      ops ← all_up_to k.RightBrace inner_operation
      pure (record { args = args; ops = ops })

    -- A region, behind so many others of its operation.
    unfoldable pub region : ℕ → ℕ → Parser SynRegion
    region room before = do
      opens ← see k.LeftBrace
      if opens && nat_le max_parts before then fail faults.TooMany else bracketed k.LeftBrace k.RightBrace region_inside room

    abbrev pub regions_inside : ℕ → Parser (List SynRegion)
    regions_inside room = counted_items (region room)

    unfoldable pub maybe_regions : ℕ → Parser (List SynRegion)
    maybe_regions room = do
      written ← see k.LeftParen
      if written then bracketed k.LeftParen k.RightParen regions_inside room else pure []

    -- an operation, where so many brackets may be opened
    unfoldable pub an_operation : ℕ → Parser Operation
    an_operation room = do
      f ← a_front room
      found ← maybe_regions room
      b ← a_back room
      pure (operation (head_of f b) (region_tree found))

  -- An operation, where so many brackets may be opened. Two more are open around the operations in its regions.
  abbrev pub an_operation_in : ℕ → Parser Operation
  an_operation_in zero = an_operation refuse zero
  an_operation_in (suc zero) = an_operation refuse (suc zero)
  an_operation_in (suc (suc room)) = an_operation (an_operation_in room) (suc (suc room))

  -- what reads the operations two brackets deeper
  abbrev pub two_deeper : ℕ → Parser Operation
  two_deeper zero = refuse
  two_deeper (suc zero) = refuse
  two_deeper (suc (suc room)) = an_operation_in room
