-- The steps that every rule is made of.
use Rattle.std.specs.Prelude.{◌≡◌, ℕ, zero, suc, Bool, if◌then◌else◌, List, [], ◌∷◌, ◌++◌, Option, Some, None, Result, Ok, Err}
use Rattle.mlir_tree.specs.declared.refusal.Refusal.{Refusal}
use Rattle.mlir_tree.specs.declared.refusal.Refusal.TheVariants as refusal
use Rattle.pdll_lexer.specs.declared.token.LexFault.TheVariants as lex
use Rattle.pdll_syntax.specs.declared.fault.PatFault.{PatFault}
use Rattle.pdll_syntax.specs.declared.fault.PatKind.{PatKind}
use Rattle.pdll_syntax.specs.declared.fault.PatKind.TheVariants.{BadByte, BadString, Syntax, CppBody, Include, TooMany}
use Rattle.pdll_parser.specs.declared.terminal.Terminal.{Terminal}
use Rattle.pdll_parser.specs.declared.terminal.Terminal.TheVariants as t
use Rattle.pdll_parser.specs.Place.{Place, Lexed, lexed, terminal, spelling, start, next, left, sees, after}
use Rattle.pdll_parser.specs.Terminals.{is_name, is_word}

abbrev pub Outcome : Type 0 → Type 0
Outcome A = Result (A × Place) PatFault

abbrev pub Parser : Type 0 → Type 0
Parser A = Place → Outcome A

abbrev pub and_then : {A B : Type 0} → Outcome A → (A → Parser B) → Outcome B
and_then (Ok p) f = f p.0 p.1
and_then (Err e) f = Err e

infixl 10 ◌>>=◌
abbrev pub ◌>>=◌ : {A B : Type 0} → Parser A → (A → Parser B) → Parser B
p >>= f = λ s. and_then (p s) f

infixl 10 ◌>>◌
abbrev pub ◌>>◌ : {A B : Type 0} → Parser A → Parser B → Parser B
p >> q = p >>= (λ _. q)

abbrev pub pure : {A : Type 0} → A → Parser A
pure a = λ s. Ok (a, s)

infixr 11 ◌<$>◌
abbrev pub ◌<$>◌ : {A B : Type 0} → (A → B) → Parser A → Parser B
f <$> p = p >>= (λ x. pure (f x))

abbrev pub fault : PatKind → ℕ → PatFault
fault kind at = record { kind = kind; at = at }

abbrev pub fail : {A : Type 0} → PatKind → Parser A
fail kind = λ s. Err (fault kind (start s))

-- the fault where no rule goes on with the token
abbrev pub kind_of_refusal : Lexed → Terminal → PatKind
kind_of_refusal (Err (lex.BadByte at)) x = BadByte
kind_of_refusal (Err (lex.BadString at)) x = BadString
kind_of_refusal (Ok token) t.CppBody = CppBody
kind_of_refusal (Ok token) t.Include = Include
kind_of_refusal (Ok token) x = Syntax

unfoldable pub refuse : {A : Type 0} → Parser A
refuse = λ s. Err (fault (kind_of_refusal (lexed s) (terminal s)) (start s))

abbrev pub peek : Parser Terminal
peek = λ s. Ok (terminal s, s)

abbrev pub here : Parser ℕ
here = λ s. Ok (start s, s)

abbrev pub take_token : Parser (List ℕ)
take_token = λ s. Ok (spelling s, next s)

abbrev pub look : Terminal → Parser Bool
look x = λ s. Ok (sees x s, s)

abbrev pub eat : Terminal → Parser Bool
eat x = λ s. Ok (sees x s, after x s)

unfoldable pub expect : Terminal → Parser (Unit {0})
expect x = λ s. if sees x s then Ok (tt, next s) else refuse s

-- a token that passes the test, as its text
unfoldable pub expect_some : (Terminal → Bool) → Parser (List ℕ)
expect_some test = λ s. if test (terminal s) then Ok (spelling s, next s) else refuse s

-- a word that is a name
abbrev pub name : Parser (List ℕ)
name = expect_some is_name

abbrev pub word : Parser (List ℕ)
word = expect_some is_word

-- what stands in brackets is read with the rules one level deeper, where there is a level left
abbrev pub deeper : {R A : Type 0} → Option R → (R → Parser A) → Parser A
deeper None inside = fail TooMany
deeper (Some rules) inside = take_token >> inside rules

-- A bracket and what stands in it. Where no level is left, a bracket is one too many.
unfoldable pub bracket : {R A : Type 0} → Option R → Terminal → (R → Parser A) → Terminal → Parser A
bracket room open_mark inside close_mark = do
  opens ← look open_mark
  if opens then (do x ← deeper room inside; expect close_mark; pure x) else refuse

-- one or more with commas between, behind what was found. The number bounds the turns, and each takes a byte.
unfoldable pub separated : {A : Type 0} → Parser A → ℕ → List A → Parser (List A)
separated item zero found = refuse
separated item (suc n) found = do
  x ← item
  more ← eat t.Comma
  if more then separated item n (found ++ x ∷ []) else pure (found ++ x ∷ [])

abbrev pub items : {A : Type 0} → Parser A → Parser (List A)
items item = λ s. separated item (left s) [] s

-- zero or more with commas between, before this mark
unfoldable pub list : {A : Type 0} → Terminal → Parser A → Parser (List A)
list close_mark item = do
  empty ← look close_mark
  if empty then pure [] else items item

-- One after the other, up to this mark, behind what was found. What was found may decide how the next one is read.
unfoldable pub many : {A : Type 0} → Terminal → (List A → Parser A) → ℕ → List A → Parser (List A)
many stop item zero found = do
  ends ← look stop
  if ends then pure found else refuse
many stop item (suc n) found = do
  ends ← look stop
  if ends then pure found else (item found >>= (λ x. many stop item n (found ++ x ∷ [])))

abbrev pub all_up_to : {A : Type 0} → Terminal → (List A → Parser A) → Parser (List A)
all_up_to stop item = λ s. many stop item (left s) [] s

-- ---- what a function that reads ensures: the outcome, unless memory fails

abbrev pub Fails : {A : Type 0} → Refusal PatFault → Outcome A → Type 0
Fails refusal.NoMemory outcome = Unit {0}
Fails (refusal.Fault f) outcome = outcome ≡ Err f

abbrev pub Reads : {A : Type 0} → Outcome A → Result A (Refusal PatFault) → Place → Type 0
Reads outcome (Ok a) new = outcome ≡ Ok (a, new)
Reads outcome (Err e) new = Fails e outcome

-- the value, or the fault, of a whole text
abbrev pub Gives : {A : Type 0} → Result A (Refusal PatFault) → Result A PatFault → Type 0
Gives (Ok a) read = read ≡ Ok a
Gives (Err refusal.NoMemory) read = Unit {0}
Gives (Err (refusal.Fault f)) read = read ≡ Err f
