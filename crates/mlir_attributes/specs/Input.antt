-- The steps that every rule is made of.
use Rattle.std.specs.Prelude.{◌≡◌, ℕ, zero, suc, Bool, if◌then◌else◌, List, [], ◌∷◌, ◌++◌, Option, Result, Ok, Err}
use Rattle.mlir_lexer.specs.declared.token.TokenKind.{TokenKind}
use Rattle.mlir_lexer.specs.declared.token.TokenKind.TheVariants.{Comma}
use Rattle.mlir_tree.specs.declared.refusal.Refusal.{Refusal}
use Rattle.mlir_tree.specs.declared.refusal.Refusal.TheVariants as refusals
use Rattle.mlir_attributes.specs.declared.fault.ModFault.{ModFault}
use Rattle.mlir_attributes.specs.declared.fault.ModKind.{ModKind}
use Rattle.mlir_attributes.specs.Place.{Place, left, fault, kind, sees, start, spelling, next, refusal}

-- What is read, and the place behind it, or the first fault.
abbrev pub Outcome : Type 0 → Type 0
Outcome A = Result (A × Place) ModFault

abbrev pub Parser : Type 0 → Type 0
Parser A = Place → Outcome A

abbrev pub and_then : {A B : Type 0} → Outcome A → (A → Parser B) → Outcome B
and_then (Ok p) f = f p.0 p.1
and_then (Err e) f = Err e

infixl 10 ◌>>=◌
abbrev pub ◌>>=◌ : {A B : Type 0} → Parser A → (A → Parser B) → Parser B
p >>= f = λ s. and_then (p s) f

infixl 10 ◌>>◌
abbrev pub ◌>>◌ : {A B : Type 0} → Parser A → Parser B → Parser B
p >> q = p >>= (λ _. q)

abbrev pub pure : {A : Type 0} → A → Parser A
pure a = λ s. Ok (a, s)

infixr 11 ◌<$>◌
abbrev pub ◌<$>◌ : {A B : Type 0} → (A → B) → Parser A → Parser B
f <$> p = p >>= (λ x. pure (f x))

-- what doesn't depend on the place
abbrev pub lift_to : {A : Type 0} → Place → Result A ModFault → Outcome A
lift_to s (Ok x) = Ok (x, s)
lift_to s (Err e) = Err e

abbrev pub lift : {A : Type 0} → Result A ModFault → Parser A
lift o = λ s. lift_to s o

-- a fault at a place
abbrev pub fail_at : {A : Type 0} → ModKind → ℕ → Parser A
fail_at k at = λ _. Err (fault k at)

-- a fault at the next token
abbrev pub fail : {A : Type 0} → ModKind → Parser A
fail k = λ s. Err (fault k (start s))

-- The next token doesn't fit.
abbrev pub refuse : {A : Type 0} → Parser A
refuse = λ s. Err (refusal s)

abbrev pub peek : Parser (Option TokenKind)
peek = λ s. Ok (kind s, s)

-- whether the next token is of this kind
abbrev pub see : TokenKind → Parser Bool
see k = λ s. Ok (sees k s, s)

-- where the next token begins
abbrev pub here : Parser ℕ
here = λ s. Ok (start s, s)

-- the bytes of the next token
abbrev pub ahead : Parser (List ℕ)
ahead = λ s. Ok (spelling s, s)

abbrev pub take_token : Parser (List ℕ)
take_token = λ s. Ok (spelling s, next s)

unfoldable pub after : TokenKind → Place → Place
after k s = if sees k s then next s else s

-- takes a token of this kind if it is the next one
abbrev pub eat : TokenKind → Parser Bool
eat k = λ s. Ok (sees k s, after k s)

-- takes a token of this kind
unfoldable pub expect : TokenKind → Parser (Unit {0})
expect k = λ s. if sees k s then Ok (tt, next s) else refuse s

-- One or more with this mark between, behind what was found. The number bounds the turns, and each takes a byte.
unfoldable pub separated : {A : Type 0} → TokenKind → Parser A → ℕ → List A → Parser (List A)
separated mark item zero found = refuse
separated mark item (suc n) found = do
  x ← item
  more ← eat mark
  if more then separated mark item n (found ++ x ∷ []) else pure (found ++ x ∷ [])

abbrev pub items : {A : Type 0} → Parser A → Parser (List A)
items item = λ s. separated Comma item (left s) [] s

-- zero or more with commas between, up to this mark, which is taken
unfoldable pub list : {A : Type 0} → TokenKind → Parser A → Parser (List A)
list close item = do
  empty ← eat close
  if empty then pure [] else (do xs ← items item; expect close; pure xs)

-- ---- what a function that reads ensures: the outcome, unless memory fails

abbrev pub Fails : {A : Type 0} → Refusal ModFault → Outcome A → Type 0
Fails refusals.NoMemory outcome = Unit {0}
Fails (refusals.Fault f) outcome = outcome ≡ Err f

abbrev pub Reads : {A : Type 0} → Outcome A → Result A (Refusal ModFault) → Place → Type 0
Reads outcome (Ok a) new = outcome ≡ Ok (a, new)
Reads outcome (Err e) new = Fails e outcome

-- the value, or the fault, of a whole text
abbrev pub Gives : {A : Type 0} → Result A (Refusal ModFault) → Result A ModFault → Type 0
Gives (Ok a) read = read ≡ Ok a
Gives (Err refusals.NoMemory) read = Unit {0}
Gives (Err (refusals.Fault f)) read = read ≡ Err f
