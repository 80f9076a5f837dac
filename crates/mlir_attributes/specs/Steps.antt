-- The steps of rules for operations: brackets, lists that are counted, and locations.
use Rattle.std.specs.Prelude.{ℕ, zero, suc, ◌+◌, ◌-◌, Bool, ◌&&◌, ◌==◌, nat_le, nat_lt, if◌then◌else◌, List, [], ◌∷◌, ◌++◌, length, drop, slice_index, Result, Ok, Err, codes}
use Rattle.std.specs.Option.{option_map_or}
use Rattle.std.specs.Str.{bytes_eq}
use Rattle.text_scan.specs.Strings.{string_end}
use Rattle.mlir_lexer.specs.declared.body.BodyFault.{BodyFault}
use Rattle.mlir_lexer.specs.declared.body.BodyFault.TheVariants as bodies
use Rattle.mlir_lexer.specs.declared.token.TokenKind.{TokenKind}
use Rattle.mlir_lexer.specs.declared.token.TokenKind.TheVariants as k
use Rattle.mlir_attributes.specs.declared.fault.ModKind.TheVariants as faults
use Rattle.mlir_attributes.specs.Place.{Place, moved, left, fault, sees, start, spelling, next}
use Rattle.mlir_attributes.specs.Input.{Outcome, Parser, ◌>>=◌, ◌>>◌, pure, see, refuse, eat, expect, take_token}
use Rattle.mlir_attributes.specs.Types.{body_fault}

-- ---- brackets

-- An opening bracket, where so many may be opened.
unfoldable pub opening : TokenKind → ℕ → Parser (Unit {0})
opening mark room = λ s. if sees mark s then (if room == 0 then Err (fault faults.TooMany (start s)) else Ok (tt, next s)) else refuse s

-- Brackets, and what stands in them, which is told how many may be opened within.
unfoldable pub bracketed : {A : Type 0} → TokenKind → TokenKind → (ℕ → Parser A) → ℕ → Parser A
bracketed open_mark close_mark inside room = do
  opening open_mark room
  x ← inside (room - 1)
  expect close_mark
  pure x

-- ---- lists

-- One or more with commas between, behind what was found. Each is told how many stand before it. The number bounds the
-- turns, and each takes a byte.
unfoldable pub counted : {A : Type 0} → (ℕ → Parser A) → ℕ → List A → Parser (List A)
counted item zero found = refuse
counted item (suc n) found = do
  x ← item (length found)
  more ← eat k.Comma
  if more then counted item n (found ++ x ∷ []) else pure (found ++ x ∷ [])

abbrev pub counted_items : {A : Type 0} → (ℕ → Parser A) → Parser (List A)
counted_items item = λ s. counted item (left s) [] s

-- what stands in a list, which may be empty before this mark
unfoldable pub listed : {A : Type 0} → TokenKind → Parser (List A) → Parser (List A)
listed close_mark some = do
  empty ← see close_mark
  if empty then pure [] else some

-- One after the other, up to this mark, behind what was found.
unfoldable pub many : {A : Type 0} → TokenKind → Parser A → ℕ → List A → Parser (List A)
many stop item zero found = do
  ends ← see stop
  if ends then pure found else refuse
many stop item (suc n) found = do
  ends ← see stop
  if ends then pure found else (item >>= (λ x. many stop item n (found ++ x ∷ [])))

abbrev pub all_up_to : {A : Type 0} → TokenKind → Parser A → Parser (List A)
all_up_to stop item = λ s. many stop item (left s) [] s

-- ---- limits

-- how many operands, results, regions an operation may have, and how many arguments a region
abbrev pub max_parts : ℕ
max_parts = 65535

-- how many operations a module may have
abbrev pub max_operations : ℕ
max_operations = 1000000

-- how many operands and results all operations may have together
abbrev pub max_slots : ℕ
max_slots = 16000000

-- There is room for one more operand or result, where its operation has so many before it.
abbrev pub has_slot : ℕ → Place → Bool
has_slot before s = nat_lt before max_parts && nat_lt s.slots max_slots

abbrev pub one_slot : Place → Place
one_slot s = record s { slots = s.slots + 1 }

unfoldable pub after_slot : ℕ → Place → Place
after_slot before s = if has_slot before s then one_slot s else s

-- counts one more operand or result, if there is room for it
abbrev pub take_slot : ℕ → Parser Bool
take_slot before = λ s. Ok (has_slot before s, after_slot before s)

abbrev pub has_operation : Place → Bool
has_operation s = nat_lt s.operations max_operations

abbrev pub one_operation : Place → Place
one_operation s = record s { operations = s.operations + 1 }

unfoldable pub after_operation : Place → Place
after_operation s = if has_operation s then one_operation s else s

-- counts one more operation, if there is room for it
abbrev pub take_operation : Parser Bool
take_operation = λ s. Ok (has_operation s, after_operation s)

-- ---- locations

-- Where the `)` stands that closes the innermost of the brackets that are open: the place behind it. Strings are skipped.
-- The first number bounds the turns, and each takes a byte; `room` is how many brackets may be open, and `depth` how many are.
unfoldable pub balanced : ℕ → List ℕ → ℕ → ℕ → ℕ → Result ℕ BodyFault
balanced zero bytes room depth at = Err (bodies.Unclosed (length bytes))
balanced (suc n) bytes room depth at =
    if nat_le (length bytes) at then Err (bodies.Unclosed (length bytes))
    else (if slice_index bytes at == 34 then option_map_or (λ end. balanced n bytes room depth end) (string_end at (drop at bytes)) (Err (bodies.BadString at))
    else (if slice_index bytes at == 40 then (if nat_le room depth then Err (bodies.TooDeep at) else balanced n bytes room (depth + 1) (at + 1))
    else (if slice_index bytes at == 41 then (if nat_le depth 1 then Ok (at + 1) else balanced n bytes room (depth - 1) (at + 1))
    else balanced n bytes room depth (at + 1))))

abbrev pub location_by : Place → Result ℕ BodyFault → Outcome (Unit {0})
location_by s (Ok end) = Ok (tt, moved s end)
location_by s (Err e) = Err (body_fault e)

-- the text of a location behind its first bracket, and the closing one
unfoldable pub location_text : ℕ → Parser (Unit {0})
location_text room = λ s. location_by s (balanced (left s) s.bytes room 1 s.at)

-- a location behind its word
unfoldable pub location : ℕ → Parser (Unit {0})
location room = opening k.LeftParen room >> location_text room

-- whether the next token is the word `loc`
unfoldable pub sees_loc : Place → Bool
sees_loc s = sees k.Word s && bytes_eq (spelling s) (codes "loc")

abbrev pub see_loc : Parser Bool
see_loc = λ s. Ok (sees_loc s, s)

-- a location, where one is written
unfoldable pub maybe_location : ℕ → Parser (Unit {0})
maybe_location room = do
  written ← see_loc
  if written then take_token >> location room else pure tt
