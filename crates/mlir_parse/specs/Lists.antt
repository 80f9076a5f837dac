-- Lists and brackets in relations that say what stands from one place up to another.
use Rattle.std.specs.Prelude.{◌≡◌, ℕ, zero, suc, List, [], ◌∷◌}
use Rattle.mlir_lexer.specs.declared.token.TokenKind.{TokenKind}
use Rattle.mlir_lexer.specs.declared.token.TokenKind.TheVariants.{Comma}
use Rattle.mlir_attributes.specs.Place.{Place}
use Rattle.mlir_attributes.specs.Grammar.{IsMark}
use Rattle.mlir_attributes.specs.AttributeGrammar.{AreMore}

-- zero or more with commas between
abbrev pub AreListed : {A : Type 0} → (Place → A → Place → Type 0) → Place → List A → Place → Type 0
AreListed Is s [] r = s ≡ r
AreListed Is s (x ∷ xs) r = (s1 : Place) × Is s x s1 × AreMore Comma Is s1 xs r

-- one or more with commas between
abbrev pub AreSome : {A : Type 0} → (Place → A → Place → Type 0) → Place → List A → Place → Type 0
AreSome Is s [] r = ⊥
AreSome Is s (x ∷ xs) r = (s1 : Place) × Is s x s1 × AreMore Comma Is s1 xs r

-- one after the other
abbrev pub AreMany : {A : Type 0} → (Place → A → Place → Type 0) → Place → List A → Place → Type 0
AreMany Is s [] r = s ≡ r
AreMany Is s (x ∷ xs) r = (s1 : Place) × Is s x s1 × AreMany Is s1 xs r

-- In brackets, where so many may be opened; within them it is one fewer.
abbrev pub InBrackets : TokenKind → TokenKind → (ℕ → Place → Place → Type 0) → ℕ → Place → Place → Type 0
InBrackets open_mark close_mark Inside zero s r = ⊥
InBrackets open_mark close_mark Inside (suc room) s r =
    (s1 s2 : Place) × IsMark open_mark s s1 × Inside room s1 s2 × IsMark close_mark s2 r
