-- Each fault that a rule gives is of a kind that says why a file isn't spelled, and its place is within the text.
use Rattle.std.proofs.Common.{◌≡◌, ℕ, zero, suc, ◌≤◌, Bool, true, false, cond, List, [], ◌∷◌, ◌++◌, length, refl, ap, arith, Ok, Err, Option, Some, None}
use Rattle.pdll_lexer.specs.declared.token.LexFault.TheVariants as lex
use Rattle.pdll_lexer.proofs.Told.{tokens_within, faults_within}
use Rattle.pdll_syntax.specs.declared.fault.PatFault.{PatFault}
use Rattle.pdll_syntax.specs.declared.fault.PatKind.{PatKind}
use Rattle.pdll_syntax.specs.declared.fault.PatKind.TheVariants.{TooMany}
use Rattle.pdll_parser.specs.declared.terminal.Terminal.{Terminal}
use Rattle.pdll_parser.specs.declared.terminal.Terminal.TheVariants as t
use Rattle.pdll_parser.specs.Spelling.{is_spelling_fault}
use Rattle.pdll_parser.specs.Place.{Place, Lexed, lexed, lexed_start, behind, terminal, spelling, start, next, left, sees, after}
use Rattle.pdll_parser.specs.Input.{Outcome, Parser, and_then, fail, kind_of_refusal, refuse, expect, expect_some, deeper, bracket, separated, items, list, many, all_up_to}

-- a place within this text
pub record IsIn (bytes : List ℕ) (s : Place) : Type 0 where
  pub same : s.bytes ≡ bytes
  pub within : s.at ≤ length bytes

pub record IsSpellingFault (bytes : List ℕ) (e : PatFault) : Type 0 where
  pub kind : is_spelling_fault e.kind ≡ true
  pub within : e.at ≤ length bytes

abbrev pub Judged : {A : Type 0} → List ℕ → Outcome A → Type 0
Judged bytes (Ok p) = IsIn bytes p.1
Judged bytes (Err e) = IsSpellingFault bytes e

-- From a place within the text, the rule stays within it, or gives such a fault.
abbrev pub Good : {A : Type 0} → List ℕ → Parser A → Type 0
Good bytes p = (s : Place) → IsIn bytes s → Judged bytes (p s)

module _ (bytes : List ℕ) where
  start_by : (s : Place) (o : Lexed) → IsIn bytes s → lexed s ≡ o → lexed_start o ≤ length bytes
  start_by s (Ok token) h e = let (first, last) = tokens_within s.bytes s.at token (omega (arith, h.within, ap length h.same)) e in omega (arith, first, last, ap length h.same)
  start_by s (Err (lex.BadByte at)) h e = let below = faults_within s.bytes s.at (lex.BadByte at) (omega (arith, h.within, ap length h.same)) e in omega (arith, below, ap length h.same)
  start_by s (Err (lex.BadString at)) h e = let below = faults_within s.bytes s.at (lex.BadString at) (omega (arith, h.within, ap length h.same)) e in omega (arith, below, ap length h.same)

  pub start_within : (s : Place) → IsIn bytes s → start s ≤ length bytes
  unfolding start
  start_within s h = start_by s (lexed s) h refl

  next_by : (s : Place) (o : Lexed) → IsIn bytes s → lexed s ≡ o → IsIn bytes (behind s o)
  next_by s (Ok token) h e = let (first, last) = tokens_within s.bytes s.at token (omega (arith, h.within, ap length h.same)) e in record { same = h.same; within = omega (arith, last, ap length h.same) }
  next_by s (Err f) h e = h

  pub next_in : (s : Place) → IsIn bytes s → IsIn bytes (next s)
  unfolding next
  next_in s h = next_by s (lexed s) h refl

  refusal_kind : (o : Lexed) (x : Terminal) → is_spelling_fault (kind_of_refusal o x) ≡ true
  refusal_kind (Err (lex.BadByte at)) x = refl
  refusal_kind (Err (lex.BadString at)) x = refl
  refusal_kind (Ok token) t.CppBody = refl
  refusal_kind (Ok token) t.Include = refl
  refusal_kind (Ok token) x = refl

  -- ---- the steps, each at a place within the text

  pub refused : (A : Type 0) (s : Place) → IsIn bytes s → Judged {A = A} bytes (refuse s)
  unfolding refuse
  refused A s h = record { kind = refusal_kind (lexed s) (terminal s); within = start_within s h }

  pub failed : (A : Type 0) (k : PatKind) (s : Place) → is_spelling_fault k ≡ true → IsIn bytes s → Judged {A = A} bytes (fail k s)
  failed A k s is h = record { kind = is; within = start_within s h }

  after_by : (s : Place) (b : Bool) → IsIn bytes s → IsIn bytes (cond b (next s) s)
  after_by s true h = next_in s h
  after_by s false h = h

  pub after_in : (x : Terminal) (s : Place) → IsIn bytes s → IsIn bytes (after x s)
  unfolding after
  after_in x s h = after_by s (sees x s) h

  if_by : {A : Type 0} (s : Place) (x : A) (b : Bool) → IsIn bytes s → Judged bytes (cond b (Ok (x, next s)) (refuse s))
  if_by s x true h = next_in s h
  if_by s x false h = refused _ s h

  pub expected : (x : Terminal) (s : Place) → IsIn bytes s → Judged bytes (expect x s)
  unfolding expect
  expected x s h = if_by s tt (sees x s) h

  pub text_judged : (test : Terminal → Bool) (s : Place) → IsIn bytes s → Judged bytes (expect_some test s)
  unfolding expect_some
  text_judged test s h = if_by s (spelling s) (test (terminal s)) h

  -- what is read first, and what is read behind it
  pub both : {A B : Type 0} (o : Outcome A) (f : A → Parser B) → Judged bytes o → ((x : A) (u : Place) → IsIn bytes u → Judged bytes (f x u)) → Judged bytes (and_then o f)
  both (Ok p) f h rest = rest p.0 p.1 h
  both (Err e) f h rest = h

  pub either : {A : Type 0} (b : Bool) (p q : Parser A) (s : Place) → Judged bytes (p s) → Judged bytes (q s) → Judged bytes ((cond b p q) s)
  either true p q s one other = one
  either false p q s one other = other

  -- ---- lists and brackets

  pub separated_judged : {A : Type 0} (item : Parser A) → Good bytes item → (n : ℕ) (found : List A) (s : Place) → IsIn bytes s → Judged bytes (separated item n found s)
  unfolding separated
  separated_judged item one zero found s h = refused _ s h
  separated_judged item one (suc n) found s h =
      both (item s) _ (one s h) (λ x u k. either (sees t.Comma u) _ _ (after t.Comma u) (separated_judged item one n (found ++ x ∷ []) (after t.Comma u) (after_in t.Comma u k)) (after_in t.Comma u k))

  pub items_judged : {A : Type 0} (item : Parser A) → Good bytes item → Good bytes (items item)
  items_judged item one s h = separated_judged item one (left s) [] s h

  pub list_judged : {A : Type 0} (close_mark : Terminal) (item : Parser A) → Good bytes item → Good bytes (list close_mark item)
  unfolding list
  list_judged close_mark item one s h = either (sees close_mark s) _ _ s h (items_judged item one s h)

  pub many_judged : {A : Type 0} (stop : Terminal) (item : List A → Parser A) → ((found : List A) → Good bytes (item found)) → (n : ℕ) (found : List A) (s : Place) → IsIn bytes s → Judged bytes (many stop item n found s)
  unfolding many
  many_judged stop item one zero found s h = either (sees stop s) _ _ s h (refused _ s h)
  many_judged stop item one (suc n) found s h =
      either (sees stop s) _ _ s h (both (item found s) _ (one found s h) (λ x u k. many_judged stop item one n (found ++ x ∷ []) u k))

  pub all_judged : {A : Type 0} (stop : Terminal) (item : List A → Parser A) → ((found : List A) → Good bytes (item found)) → Good bytes (all_up_to stop item)
  all_judged stop item one s h = many_judged stop item one (left s) [] s h

  -- the rules one bracket deeper, where there are any, are good
  abbrev pub GoodRoom : {R : Type 0} → (R → Type 0) → Option R → Type 0
  GoodRoom Are None = Unit {0}
  GoodRoom Are (Some rules) = Are rules

  pub deeper_judged : {R : Type 0} (A : Type 0) (Are : R → Type 0) (room : Option R) (inside : R → Parser A) → GoodRoom Are room → ((rules : R) → Are rules → Good bytes (inside rules)) → Good bytes (deeper room inside)
  deeper_judged A Are None inside ok one s h = failed A TooMany s refl h
  deeper_judged A Are (Some rules) inside ok one s h = one rules ok (next s) (next_in s h)

  pub bracket_judged : {R A : Type 0} (Are : R → Type 0) (room : Option R) (o c : Terminal) (inside : R → Parser A) → GoodRoom Are room → ((rules : R) → Are rules → Good bytes (inside rules)) → Good bytes (bracket room o inside c)
  unfolding bracket
  bracket_judged {R} {A} Are room o c inside ok one s h =
      either (sees o s) _ _ s (both (deeper room inside s) _ (deeper_judged A Are room inside ok one s h) (λ x u k. both (expect c u) _ (expected c u k) (λ y v j. j))) (refused _ s h)
