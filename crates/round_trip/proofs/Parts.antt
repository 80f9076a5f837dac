-- Lists and brackets that are read, with the operations and slots that are counted on the way.
use Rattle.std.proofs.Common.{◌≡◌, ℕ, suc, ◌+◌, ◌≤◌, List, [], ◌∷◌, ◌++◌, length, refl, subst, arith, append_assoc}
use Rattle.mlir_lexer.specs.declared.token.TokenKind.{TokenKind}
use Rattle.mlir_lexer.specs.declared.token.TokenKind.TheVariants as k
use Rattle.mlir_print.specs.ModuleText.{separator}
use Rattle.mlir_attributes.specs.Place.{Place, moved}
use Rattle.mlir_attributes.specs.Grammar.{IsNot}
use Rattle.mlir_attributes.specs.Steps.{max_slots}
use Rattle.mlir_attributes.specs.AttributeGrammar.{AreMore}
use Rattle.mlir_parse.specs.Lists.{AreListed, InBrackets}
use Rattle.round_trip.proofs.Places.{Is, Faces, Reads, faces, space, marked, Begins, lacks}
use Rattle.round_trip.proofs.Ends.{Ends, comma_ends, paren_ends, brace_ends}

-- From the place on stands what is asked, with so many operations and slots, and behind it this text.
pub record Goes (Stands : Place → Place → Type 0) (o n : ℕ) (s : Place) (z : List ℕ) : Type 0 where
  pub end : Place
  pub stands : Stands s end
  pub is : Is end z
  pub operations : end.operations ≡ s.operations + o
  pub slots : end.slots ≡ s.slots + n

pub goes : (Stands : Place → Place → Type 0) (s : Place) (z : List ℕ) → Reads Stands s z → Goes Stands 0 0 s z
goes Stands s z (e, there, rest) = record { end = moved s e; stands = there; is = rest; operations = omega arith; slots = omega arith }

-- what ends a list
pub record Closes (z : List ℕ) : Type 0 where
  pub ends : Ends z
  pub no_comma : (s : Place) → Is s z → IsNot k.Comma s

pub paren_closes : (z : List ℕ) → Closes (41 ∷ z)
paren_closes z = record { ends = paren_ends z; no_comma = λ s h. lacks k.Comma s (41 ∷ z) (faces s (41 ∷ z) h) refl (λ at. refl) }

pub brace_closes : (z : List ℕ) → Closes (125 ∷ z)
brace_closes z = record { ends = brace_ends z; no_comma = λ s h. lacks k.Comma s (125 ∷ z) (faces s (125 ∷ z) h) refl (λ at. refl) }

-- the texts of members with commas between, the first of them at place i
abbrev pub joined : {X : Type 0} → (ℕ → X → List ℕ) → ℕ → List X → List ℕ
joined text i [] = []
joined text i (x ∷ xs) = separator i ++ (text i x ++ joined text (suc i) xs)

abbrev pub weight : {X : Type 0} → ℕ → List X → ℕ
weight w [] = 0
weight w (x ∷ xs) = w + weight w xs

abbrev pub Fits : {X A : Type 0} → (ℕ → X → A → Type 0) → ℕ → List X → List A → Type 0
Fits Fit i [] [] = Unit {0}
Fits Fit i [] (a ∷ rest) = ⊥
Fits Fit i (x ∷ xs) [] = ⊥
Fits Fit i (x ∷ xs) (a ∷ rest) = Fit i x a × Fits Fit (suc i) xs rest

abbrev pub Facts : {X : Type 0} → (ℕ → X → Type 0) → ℕ → List X → Type 0
Facts Fact i [] = Unit {0}
Facts Fact i (x ∷ xs) = Fact i x × Facts Fact (suc i) xs

-- A member is read as something that fits it.
pub record Member {A : Type 0} (Fit : A → Type 0) (Stands : Place → A → Place → Type 0) (n : ℕ) (s : Place) (z : List ℕ) : Type 0 where
  pub made : A
  pub fits : Fit made
  pub goes : Goes (λ u v. Stands u made v) 0 n s z

module _ {X A : Type 0} (text : ℕ → X → List ℕ) (Fact : ℕ → X → Type 0) (Fit : ℕ → X → A → Type 0) (Stands : Place → A → Place → Type 0) (w : ℕ)
    (one : (i : ℕ) (x : X) (s : Place) (z : List ℕ) → Fact i x → s.slots + w ≤ max_slots → Faces s (text i x ++ z) → Ends z → Member (Fit i x) Stands w s z) where
  rest_ends : (i : ℕ) (xs : List X) (z : List ℕ) → Closes z → Ends (joined text (suc i) xs ++ z)
  rest_ends i [] z h = h.ends
  rest_ends i (x ∷ xs) z h = comma_ends (32 ∷ ((text (suc i) x ++ joined text (suc (suc i)) xs) ++ z))

  rest_again : (i : ℕ) (xs : List X) (s : Place) (z : List ℕ) → Facts Fact (suc i) xs → s.slots + weight w xs ≤ max_slots → Is s (joined text (suc i) xs ++ z) → Closes z
      → Member (Fits Fit (suc i) xs) (λ u rest v. AreMore k.Comma Stands u rest v) (weight w xs) s z
  rest_again i [] s z h few is closes =
      record { made = []; fits = tt; goes = record { end = s; stands = (closes.no_comma s is, refl); is = is; operations = omega arith; slots = omega arith } }
  rest_again i (x ∷ xs) s z h few is closes =
      let tail = joined text (suc (suc i)) xs ++ z in
      let rest = (text (suc i) x ++ joined text (suc (suc i)) xs) ++ z in
      let (a, comma, r1) = marked k.Comma (44 ∷ []) s (32 ∷ rest) (faces s (44 ∷ 32 ∷ rest) is) (refl, λ at. refl) in
      let m = one (suc i) x (moved s a) tail h.0 (omega arith) (subst (Faces (moved s a)) (append_assoc (text (suc i) x) (joined text (suc (suc i)) xs) z) (space 32 (moved s a) rest refl (faces (moved s a) (32 ∷ rest) r1))) (rest_ends (suc i) xs z closes) in
      let more = rest_again (suc i) xs m.goes.end z h.1 (omega (arith, m.goes.slots)) m.goes.is closes in
      record {
        made = m.made ∷ more.made;
        fits = (m.fits, more.fits);
        goes = record {
          end = more.goes.end;
          stands = (moved s a, m.goes.end, comma, m.goes.stands, more.goes.stands);
          is = more.goes.is;
          operations = omega (arith, m.goes.operations, more.goes.operations);
          slots = omega (arith, m.goes.slots, more.goes.slots);
        };
      }

  pub list_again : (xs : List X) (s : Place) (z : List ℕ) → Facts Fact 0 xs → s.slots + weight w xs ≤ max_slots → Is s (joined text 0 xs ++ z) → Closes z
      → Member (Fits Fit 0 xs) (λ u made v. AreListed Stands u made v) (weight w xs) s z
  list_again [] s z h few is closes =
      record { made = []; fits = tt; goes = record { end = s; stands = refl; is = is; operations = omega arith; slots = omega arith } }
  list_again (x ∷ xs) s z h few is closes =
      let tail = joined text 1 xs ++ z in
      let m = one 0 x s tail h.0 (omega arith) (faces s (text 0 x ++ tail) (subst (Is s) (append_assoc (text 0 x) (joined text 1 xs) z) is)) (rest_ends 0 xs z closes) in
      let more = rest_again 0 xs m.goes.end z h.1 (omega (arith, m.goes.slots)) m.goes.is closes in
      record {
        made = m.made ∷ more.made;
        fits = (m.fits, more.fits);
        goes = record {
          end = more.goes.end;
          stands = (m.goes.end, m.goes.stands, more.goes.stands);
          is = more.goes.is;
          operations = omega (arith, m.goes.operations, more.goes.operations);
          slots = omega (arith, m.goes.slots, more.goes.slots);
        };
      }

pub fits_length : {X A : Type 0} (Fit : ℕ → X → A → Type 0) (i : ℕ) (xs : List X) (made : List A) → Fits Fit i xs made → length made ≡ length xs
fits_length Fit i [] [] h = refl
fits_length Fit i [] (a ∷ rest) h = absurd h
fits_length Fit i (x ∷ xs) [] h = absurd h
fits_length Fit i (x ∷ xs) (a ∷ rest) h = omega (arith, fits_length Fit (suc i) xs rest h.1)

-- ---- brackets

-- Behind an opening mark stands the inside, and behind that the closing mark.
pub enclosed : (open_mark close_mark : TokenKind) (a b : List ℕ) (Inside : ℕ → Place → Place → Type 0) (room o n : ℕ) (s : Place) (t z : List ℕ)
    → Begins open_mark a t → Begins close_mark b z → Faces s (a ++ t)
    → ((u : Place) → u.operations ≡ s.operations → u.slots ≡ s.slots → Is u t → (y : Place) × Inside room u y × Faces y (b ++ z) × (y.operations ≡ u.operations + o) × (y.slots ≡ u.slots + n))
    → Goes (λ u v. InBrackets open_mark close_mark Inside (suc room) u v) o n s z
enclosed open_mark close_mark a b Inside room o n s t z begins ends f inside =
    let (e, left, r1) = marked open_mark a s t f begins in
    let (y, there, r2, os, ns) = inside (moved s e) refl refl r1 in
    let (c, right, r3) = marked close_mark b y z r2 ends in
    record { end = moved y c; stands = (moved s e, y, left, there, right); is = r3; operations = os; slots = ns }

-- the inside of brackets that is read right up to the closing mark
pub closed : (Stands : Place → Place → Type 0) (o n : ℕ) (s : Place) (z : List ℕ) → Goes Stands o n s z → (y : Place) × Stands s y × Faces y z × (y.operations ≡ s.operations + o) × (y.slots ≡ s.slots + n)
closed Stands o n s z g = (g.end, g.stands, faces g.end z g.is, g.operations, g.slots)
