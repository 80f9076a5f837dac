-- How tokens spell the leaves of a tree, and how lists and brackets are made of them. Each relation says: from the first
-- place up to the second one stands this.
use Rattle.std.specs.Prelude.{◌≡◌, ℕ, zero, suc, Bool, true, List, [], ◌∷◌, ◌++◌}
use Rattle.text_scan.specs.Strings.{string_value}
use Rattle.pdll_syntax.specs.declared.name.Literal.{Literal}
use Rattle.pdll_syntax.specs.declared.name.Name.{Name}
use Rattle.pdll_parser.specs.declared.terminal.Terminal.{Terminal}
use Rattle.pdll_parser.specs.declared.terminal.Terminal.TheVariants as t
use Rattle.pdll_parser.specs.Terminals.{is_name, is_word}
use Rattle.pdll_parser.specs.Place.{Place, terminal, spelling, start, next, same}
use Rattle.pdll_parser.specs.Expressions.{index_of}

-- this token
pub record Tok (x : Terminal) (s r : Place) : Type 0 where
  pub kind : terminal s ≡ x
  pub rest : next s ≡ r

-- a token that passes the test, with this text
pub record IsText (test : Terminal → Bool) (s : Place) (text : List ℕ) (r : Place) : Type 0 where
  pub kind : test (terminal s) ≡ true
  pub spelled : spelling s ≡ text
  pub rest : next s ≡ r

-- a word that is no keyword
abbrev pub IsName : Place → List ℕ → Place → Type 0
IsName s text r = IsText is_name s text r

-- any word
abbrev pub IsWord : Place → List ℕ → Place → Type 0
IsWord s text r = IsText is_word s text r

-- decimal digits
abbrev pub IsInteger : Place → List ℕ → Place → Type 0
IsInteger s text r = IsText (λ x. same x t.Integer) s text r

-- a string that stands for these bytes
abbrev pub IsStringFor : Place → List ℕ → Place → Type 0
IsStringFor s bytes r = (text : List ℕ) × IsText (λ x. same x t.String) s text r × (string_value text ≡ bytes)

-- a name with its place
abbrev pub IsDeclaredName : Place → Name → Place → Type 0
IsDeclaredName s name r = (name.at ≡ start s) × IsName s name.text r

-- the string of a literal with its place
abbrev pub IsLiteral : Place → Literal → Place → Type 0
IsLiteral s literal r = (literal.at ≡ start s) × IsStringFor s literal.bytes r

-- the number of a result
abbrev pub IsIndex : Place → ℕ → Place → Type 0
IsIndex s k r = (digits : List ℕ) × IsInteger s digits r × (index_of digits ≡ k)

-- ---- words with `.` between

abbrev pub AreMoreWords : Place → List (List ℕ) → Place → Type 0
AreMoreWords s [] r = s ≡ r
AreMoreWords s (w ∷ ws) r = (s1 s2 : Place) × Tok t.Dot s s1 × IsWord s1 w s2 × AreMoreWords s2 ws r

abbrev pub with_dots : List (List ℕ) → List ℕ
with_dots [] = []
with_dots (w ∷ ws) = 46 ∷ (w ++ with_dots ws)

-- the name of an operation: one or more words, their texts with `.` between
pub record IsDottedName (s : Place) (name : List ℕ) (r : Place) : Type 0 where
  pub first : List ℕ
  pub others : List (List ℕ)
  pub middle : Place
  pub is_first : IsWord s first middle
  pub are_others : AreMoreWords middle others r
  pub is_name : name ≡ first ++ with_dots others

-- ---- lists and brackets

-- the rest of a list, each with a comma before it
abbrev pub AreMore : {A : Type 0} → (Place → A → Place → Type 0) → Place → List A → Place → Type 0
AreMore Is s [] r = s ≡ r
AreMore Is s (x ∷ xs) r = (s1 s2 : Place) × Tok t.Comma s s1 × Is s1 x s2 × AreMore Is s2 xs r

-- zero or more with commas between
abbrev pub AreListed : {A : Type 0} → (Place → A → Place → Type 0) → Place → List A → Place → Type 0
AreListed Is s [] r = s ≡ r
AreListed Is s (x ∷ xs) r = (s1 : Place) × Is s x s1 × AreMore Is s1 xs r

-- one or more with commas between
abbrev pub AreSome : {A : Type 0} → (Place → A → Place → Type 0) → Place → List A → Place → Type 0
AreSome Is s [] r = ⊥
AreSome Is s (x ∷ xs) r = (s1 : Place) × Is s x s1 × AreMore Is s1 xs r

-- one after the other
abbrev pub AreMany : {A : Type 0} → (Place → A → Place → Type 0) → Place → List A → Place → Type 0
AreMany Is s [] r = s ≡ r
AreMany Is s (x ∷ xs) r = (s1 : Place) × Is s x s1 × AreMany Is s1 xs r

-- In brackets, where so many more may be open; within them it is one fewer.
abbrev pub InBrackets : Terminal → Terminal → (ℕ → Place → Place → Type 0) → ℕ → Place → Place → Type 0
InBrackets open_mark close_mark Inside zero s r = ⊥
InBrackets open_mark close_mark Inside (suc depth) s r = (s1 s2 : Place) × Tok open_mark s s1 × Inside depth s1 s2 × Tok close_mark s2 r
