-- What a reader keeps.
use Rattle.std.specs.Prelude.{◌≡◌, ℕ, ◌≤◌, if◌then◌else◌, ◌==◌, List, length, Result, Ok, Err}
use Rattle.std.specs.Borrow.{Bor}
use Rattle.mlir_tree.specs.declared.refusal.Refusal.{Refusal}
use Rattle.mlir_tree.specs.declared.refusal.Refusal.TheVariants.{Fault}
use Rattle.pdll_parser.specs.declared.terminal.Terminal.{Terminal}
use Rattle.pdll_syntax.specs.declared.fault.PatFault.{PatFault}
use Rattle.pdll_syntax.specs.declared.fault.PatKind.TheVariants.{TooMany}
use Rattle.pdll_parser.specs.Place.{Place, Lexed, at_place, lexed, terminal, start, next, sees}
use Rattle.pdll_parser.specs.Input.{Outcome, Parser, Fails, fault, kind_of_refusal, refuse}

-- the token stands within the bytes
abbrev pub IsWithin : List ℕ → Lexed → Type 0
IsWithin bytes (Ok token) = (token.start ≤ token.end) × (token.end ≤ length bytes)
IsWithin bytes (Err e) = Unit {0}

-- the token at a place, and what it is for the grammar
pub record IsCut (bytes : List ℕ) (at : ℕ) (token : Lexed) (x : Terminal) : Type 0 where
  pub within : at ≤ length bytes
  pub token_within : IsWithin bytes token
  pub token_there : token ≡ lexed (at_place bytes at)
  pub terminal_there : x ≡ terminal (at_place bytes at)

abbrev pub refusal_at : Place → Refusal PatFault
refusal_at s = Fault (fault (kind_of_refusal (lexed s) (terminal s)) (start s))

abbrev pub too_many_at : Place → Refusal PatFault
too_many_at s = Fault (fault TooMany (start s))

-- opens a bracket, where so many more may be open
unfoldable pub opening : Terminal → ℕ → Parser (Unit {0})
opening mark depth = λ s. if sees mark s then (if depth == 0 then Err (fault TooMany (start s)) else Ok (tt, next s)) else refuse s

-- what a function that reads ensures, where what it gives stands for something
abbrev pub ReadsAs : {A B : Type 0} → (A → B) → Outcome B → Result A (Refusal PatFault) → Place → Type 0
ReadsAs meaning outcome (Ok a) new = outcome ≡ Ok (meaning a, new)
ReadsAs meaning outcome (Err e) new = Fails e outcome

abbrev pub ReadsText : Outcome (List ℕ) → Result (Bor (List ℕ)) (Refusal PatFault) → Place → Type 0
ReadsText = ReadsAs (λ text. text.now)
