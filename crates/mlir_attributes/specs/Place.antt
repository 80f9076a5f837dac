-- A place in a text, and the token there.
use Rattle.std.specs.Prelude.{ℕ, ◌-◌, Bool, false, List, [], ◌∷◌, length, slice_index, slice_range, Option, Some, None, Result, Ok, Err, refl}
use Rattle.std.specs.Coded.{Coded, code_by, coded×, coded_ℕ, coded_list}
use denote.Enum.Bare.{sameb}
use Rattle.mlir_lexer.specs.contracts.token.TokenKind.{the_type}
use Rattle.mlir_lexer.specs.declared.token.Token.{Token}
use Rattle.mlir_lexer.specs.declared.token.TokenKind.{TokenKind}
use Rattle.mlir_lexer.specs.declared.token.LexFault.{LexFault}
use Rattle.mlir_lexer.specs.declared.token.LexFault.TheVariants as lexes
use Rattle.mlir_lexer.specs.Scan.{token_at}
use Rattle.mlir_attributes.specs.declared.fault.ModFault.{ModFault}
use Rattle.mlir_attributes.specs.declared.fault.ModKind.{ModKind}
use Rattle.mlir_attributes.specs.declared.fault.ModKind.TheVariants as faults

-- A text, how far it was read, and what was counted on the way: the bytes of text that were put in for aliases, the
-- operations, and the operands and results.
pub record Place : Type 0 where
  pub bytes : List ℕ
  pub at : ℕ
  pub put : ℕ
  pub operations : ℕ
  pub slots : ℕ

abbrev pub place_code : Coded Place
place_code = code_by (List ℕ × List ℕ) (coded× (coded_list coded_ℕ) (coded_list coded_ℕ))
    (λ s. (s.bytes, s.at ∷ s.put ∷ s.operations ∷ s.slots ∷ []))
    (λ p. record { bytes = p.0; at = slice_index p.1 0; put = slice_index p.1 1; operations = slice_index p.1 2; slots = slice_index p.1 3 }) (λ _. refl)

-- The same text, read up to another place.
abbrev pub moved : Place → ℕ → Place
moved s at = record s { at = at }

-- The first place of a text.
abbrev pub start_of : List ℕ → Place
start_of bytes = record { bytes = bytes; at = 0; put = 0; operations = 0; slots = 0 }

-- How many bytes are left.
abbrev pub left : Place → ℕ
left s = length s.bytes - s.at

abbrev pub same_kind : TokenKind → TokenKind → Bool
same_kind = sameb the_type

abbrev pub fault : ModKind → ℕ → ModFault
fault k at = record { kind = k; at = at }

-- ---- by what the lexer says of a place

abbrev pub kind_by : Result Token LexFault → Option TokenKind
kind_by (Ok t) = Some t.kind
kind_by (Err e) = None

abbrev pub is_kind_by : TokenKind → Result Token LexFault → Bool
is_kind_by k (Ok t) = same_kind t.kind k
is_kind_by k (Err e) = false

abbrev pub start_by : Result Token LexFault → ℕ
start_by (Ok t) = t.start
start_by (Err (lexes.BadByte at)) = at
start_by (Err (lexes.BadString at)) = at

abbrev pub spelling_by : List ℕ → Result Token LexFault → List ℕ
spelling_by bytes (Ok t) = slice_range bytes t.start t.end
spelling_by bytes (Err e) = []

abbrev pub next_by : Place → Result Token LexFault → Place
next_by s (Ok t) = moved s t.end
next_by s (Err e) = s

abbrev pub refusal_by : Result Token LexFault → ModFault
refusal_by (Ok t) = fault faults.Syntax t.start
refusal_by (Err (lexes.BadByte at)) = fault faults.BadByte at
refusal_by (Err (lexes.BadString at)) = fault faults.BadString at

-- ---- the next token

-- Its kind, if there is a token.
unfoldable pub kind : Place → Option TokenKind
kind s = kind_by (token_at s.bytes s.at)

-- Whether it is of this kind.
unfoldable pub sees : TokenKind → Place → Bool
sees k s = is_kind_by k (token_at s.bytes s.at)

-- Its first byte's place.
unfoldable pub start : Place → ℕ
start s = start_by (token_at s.bytes s.at)

-- Its bytes.
unfoldable pub spelling : Place → List ℕ
spelling s = spelling_by s.bytes (token_at s.bytes s.at)

-- The place behind it.
unfoldable pub next : Place → Place
next s = next_by s (token_at s.bytes s.at)

-- The fault where no rule goes on with it: the lexer's, or else that it doesn't fit.
unfoldable pub refusal : Place → ModFault
refusal s = refusal_by (token_at s.bytes s.at)
