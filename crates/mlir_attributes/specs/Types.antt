-- Types, read from the front of a text.
use Rattle.std.specs.Prelude.{ℕ, zero, suc, ◌+◌, ◌-◌, Bool, true, false, if◌then◌else◌, not, ◌==◌, ◌&&◌, ◌||◌, nat_le, nat_lt, List, [], ◌∷◌, ◌++◌, length, drop, slice_index, slice_range, Option, Some, None, Result, Ok, Err, codes}
use Rattle.std.specs.List.{list_all}
use Rattle.std.specs.Str.{bytes_eq}
use Rattle.std.specs.Str.Parse.{digits_value}
use Rattle.text_scan.specs.Bytes.{is_digit}
use Rattle.mlir_lexer.specs.declared.token.TokenKind.{TokenKind}
use Rattle.mlir_lexer.specs.declared.token.TokenKind.TheVariants as k
use Rattle.mlir_lexer.specs.declared.body.BodyFault.{BodyFault}
use Rattle.mlir_lexer.specs.declared.body.BodyFault.TheVariants as bodies
use Rattle.mlir_lexer.specs.Body.{end_of_body}
use Rattle.mlir_lexer.specs.Scan.{token_at}
use Rattle.mlir_lexer.specs.declared.token.Token.{Token}
use Rattle.mlir_lexer.specs.declared.token.LexFault.{LexFault}
use Rattle.mlir_tree.specs.declared.sign.Sign.{Sign}
use Rattle.mlir_tree.specs.declared.sign.Sign.TheVariants.{Signless, Signed, Unsigned}
use Rattle.mlir_tree.specs.Tree.{Ty, int, index, func, word, tys}
use Rattle.mlir_attributes.specs.declared.fault.ModFault.{ModFault}
use Rattle.mlir_attributes.specs.declared.fault.ModKind.TheVariants as faults
use Rattle.mlir_attributes.specs.declared.aliases.Alias.{Alias}
use Rattle.mlir_attributes.specs.KeptText.{Names, names}
use Rattle.mlir_attributes.specs.Place.{Place, fault, start_of, sees, refusal}
use Rattle.mlir_attributes.specs.Input.{Outcome, Parser, ◌>>=◌, ◌>>◌, ◌<$>◌, pure, lift, see, fail_at, fail, refuse, peek, here, take_token, expect, list}
use Rattle.mlir_attributes.specs.Aliases.{find, ty_meant, has_point, max_put}

-- ---- words

-- The words that begin a kept attribute.
abbrev pub is_kept_word : List ℕ → Bool
is_kept_word w =
    bytes_eq w (codes "affine_map") || bytes_eq w (codes "affine_set") || bytes_eq w (codes "array") || bytes_eq w (codes "dense")
    || bytes_eq w (codes "dense_resource") || bytes_eq w (codes "opaque") || bytes_eq w (codes "sparse") || bytes_eq w (codes "strided")

-- The words that begin no type.
abbrev pub is_other_word : List ℕ → Bool
is_other_word w =
    bytes_eq w (codes "unit") || bytes_eq w (codes "true") || bytes_eq w (codes "false") || bytes_eq w (codes "loc") || is_kept_word w

-- digits that are `0` or don't begin with `0`
abbrev pub is_width : List ℕ → Bool
is_width [] = false
is_width (d ∷ ds) = list_all is_digit (d ∷ ds) && (not (d == 48) || nat_le (length ds) 0)

-- The sign of an integer type by its word, and the digits of its width.
abbrev pub int_word : List ℕ → Option (Sign × List ℕ)
int_word w =
    if slice_index w 0 == 105 && is_width (drop 1 w) then Some (Signless, drop 1 w)
    else (if slice_index w 0 == 115 && slice_index w 1 == 105 && is_width (drop 2 w) then Some (Signed, drop 2 w)
    else (if slice_index w 0 == 117 && slice_index w 1 == 105 && is_width (drop 2 w) then Some (Unsigned, drop 2 w) else None))

-- the widest integer type
abbrev pub max_width : ℕ
max_width = 16777215

abbrev pub wide_or_int : ℕ → Sign → ℕ → Result Ty ModFault
wide_or_int at s w = if nat_le w max_width then Ok (int s w) else Err (fault faults.WideInt at)

abbrev pub leaf_by : ℕ → List ℕ → Option (Sign × List ℕ) → Result Ty ModFault
leaf_by at w (Some i) = wide_or_int at i.0 (digits_value 10 i.1)
leaf_by at w None = Ok (if bytes_eq w (codes "index") then index else word w)

-- The type of a word without a body, which stands at this place.
unfoldable pub leaf : ℕ → List ℕ → Result Ty ModFault
leaf at w = leaf_by at w (int_word w)

-- ---- kept bodies

-- how many brackets may be open at once
abbrev pub max_open : ℕ
max_open = 256

abbrev pub body_fault : BodyFault → ModFault
body_fault (bodies.Unclosed at) = fault faults.Syntax at
body_fault (bodies.TooDeep at) = fault faults.TooMany at
body_fault (bodies.BadString at) = fault faults.BadString at

-- The place behind a body that ends there, by the text that it has.
abbrev pub named_by : Place → ℕ → ℕ → Names → Outcome (List ℕ)
named_by s at end (Ok p) = Ok (p.0, record s { at = end; put = p.1 })
named_by s at end (Err i) = Err (fault faults.TooMany (at + i))

-- Where what there is of a body that breaks off ends: behind the byte of its fault.
abbrev pub broken_end : List ℕ → ℕ → ℕ → ℕ
broken_end bytes at stop = if nat_le at stop && nat_lt stop (length bytes) then stop + 1 else length bytes

-- An alias that passes a limit before the fault of a body comes first.
abbrev pub first_in_body : ℕ → BodyFault → Names → ModFault
first_in_body at e (Ok p) = body_fault e
first_in_body at e (Err i) = fault faults.TooMany (at + i)

abbrev pub body_by : List Alias → ℕ → Place → ℕ → Result ℕ BodyFault → Outcome (List ℕ)
body_by aliases room s at (Ok end) = named_by s at end (names aliases room [] false 0 s.put 0 (slice_range s.bytes at end))
body_by aliases room s at (Err e) =
    Err (first_in_body at e (names aliases room [] false 0 s.put 0 (slice_range s.bytes at (broken_end s.bytes at (body_fault e).at))))

-- `<` with no `=` directly behind it
abbrev pub opens_body : List ℕ → ℕ → Bool
opens_body bytes at = slice_index bytes at == 60 && not (slice_index bytes (at + 1) == 61)

abbrev pub body_at : List Alias → ℕ → Place → Result Token LexFault → Outcome (List ℕ)
body_at aliases room s (Ok t) =
    if opens_body s.bytes t.start then (if room == 0 then Err (fault faults.TooMany t.start) else body_by aliases room s t.start (end_of_body s.bytes t.start (max_open - room)))
    else refuse s
body_at aliases room s (Err e) = refuse s

-- The kept body that begins with the next token, where so many brackets may be opened.
unfoldable pub body : List Alias → ℕ → Parser (List ℕ)
body aliases room s = body_at aliases room s (token_at s.bytes s.at)

-- This text and the kept body behind it.
unfoldable pub kept : List Alias → List ℕ → ℕ → Parser (List ℕ)
kept aliases front room = (λ b. front ++ b) <$> body aliases room

-- ---- aliases

-- The alias's text may stand where so many brackets may be opened and this much was put in.
abbrev pub has_room : ℕ → Alias → Place → Bool
has_room room a s = nat_le a.brackets room && nat_le (s.put + length a.text) max_put

abbrev pub put_in : Alias → Place → Place
put_in a s = record s { put = s.put + length a.text }

abbrev pub after_use : ℕ → Alias → Place → Place
after_use room a s = if has_room room a s then put_in a s else s

-- What an alias stands for, whose use is at this place.
abbrev pub use_alias : {A : Type 0} → ℕ → ℕ → Alias → Option A → Parser A
use_alias room at a None = fail_at faults.AliasUnknown at
use_alias room at a (Some x) = λ s. if has_room room a s then Ok (x, put_in a s) else Err (fault faults.TooMany at)

abbrev pub alias_ty_by : ℕ → ℕ → Option Alias → Parser Ty
alias_ty_by room at None = fail_at faults.AliasUnknown at
alias_ty_by room at (Some a) = use_alias room at a (ty_meant a.meaning)

-- The type that an alias of this name stands for, whose use is at this place.
unfoldable pub alias_ty : List Alias → ℕ → ℕ → List ℕ → Parser Ty
alias_ty aliases room at name = alias_ty_by room at (find name aliases)

-- ---- types

-- The type that begins with a word, where so many brackets may be opened.
unfoldable pub word_type : List Alias → ℕ → Parser Ty
word_type aliases room = do
  at ← here
  w ← take_token
  more ← see k.Less
  if is_other_word w then fail_at faults.Syntax at else (if more then word <$> kept aliases w room else lift (leaf at w))

module _ (aliases : List Alias) where
  -- The type that begins with `!` and a name.
  unfoldable pub bang_type : ℕ → Parser Ty
  bang_type room = do
    at ← here
    w ← take_token
    more ← see k.Less
    if more then word <$> kept aliases w room else (if has_point w then pure (word w) else alias_ty aliases room at w)

  abbrev pub one_of : Parser Ty → Parser (List Ty)
  one_of p = (λ t. t ∷ []) <$> p

  -- What a function type gives: one type that isn't written as a function type, or a list in brackets. `inner` reads types one bracket deeper.
  abbrev pub results_by : ℕ → Parser Ty → Option TokenKind → Parser (List Ty)
  results_by room inner (Some k.LeftParen) = take_token >> list k.RightParen inner
  results_by room inner (Some k.Word) = one_of (word_type aliases room)
  results_by room inner (Some k.Bang) = one_of (bang_type room)
  results_by room inner _ = refuse

  -- A function type, behind its first bracket.
  unfoldable pub function : ℕ → Parser Ty → Parser Ty
  function room inner = do
    from ← list k.RightParen inner
    expect k.Arrow
    next ← peek
    to ← results_by room inner next
    pure (func (tys from) (tys to))

  abbrev pub ty_by : ℕ → Parser Ty → Option TokenKind → Parser Ty
  ty_by room bracket (Some k.LeftParen) = bracket
  ty_by room bracket (Some k.Word) = word_type aliases room
  ty_by room bracket (Some k.Bang) = bang_type room
  ty_by room bracket _ = refuse

  -- A type, where so many brackets may be opened.
  unfoldable pub ty : ℕ → Parser Ty
  ty zero = peek >>= ty_by zero (fail faults.TooMany)
  ty (suc room) = peek >>= ty_by (suc room) (take_token >> function (suc room) (ty room))

-- ---- a whole text

abbrev pub whole_by : {A : Type 0} → A → Place → Bool → Result A ModFault
whole_by x s true = Ok x
whole_by x s false = Err (refusal s)

abbrev pub whole : {A : Type 0} → Outcome A → Result A ModFault
whole (Ok p) = whole_by p.0 p.1 (sees k.End p.1)
whole (Err e) = Err e

-- The type that a text without aliases is.
unfoldable pub type_of : List ℕ → Result Ty ModFault
type_of bytes = whole (ty [] max_open (start_of bytes))
