-- What a token that stands at a place does to each step of a rule.
use Rattle.std.proofs.Common.{◌≡◌, ◌≢◌, ℕ, zero, suc, ◌<◌, ◌≤◌, Bool, true, false, cond, List, refl, ap, sym, ◌∙◌, arith, Ok, Err}
use Rattle.std.specs.Prelude.{slice_range}
use denote.Enum.Bare.{true_same, false_same}
use Rattle.pdll_lexer.proofs.Told.{tokens_go_on}
use Rattle.pdll_parser.specs.contracts.terminal.Terminal.{the_type}
use Rattle.pdll_parser.specs.declared.terminal.Terminal.{Terminal}
use Rattle.pdll_parser.specs.declared.terminal.Terminal.TheVariants as t
use Rattle.pdll_parser.specs.Terminals.{terminal_of}
use Rattle.pdll_parser.specs.Place.{Place, Lexed, lexed, lexed_terminal, behind, terminal, next, left, same, sees, after}
use Rattle.pdll_parser.specs.Input.{Parser, expect, expect_some, bracket}
use Rattle.pdll_parser.specs.Tokens.{Tok, IsText, InBrackets}
use Rattle.pdll_parser.specs.Expressions.{Rules, rules, room_of}

pub seen : (x : Terminal) (s : Place) → terminal s ≡ x → sees x s ≡ true
unfolding sees same
seen x s h = true_same the_type (terminal s) x h

pub unseen : (x : Terminal) (s : Place) → terminal s ≢ x → sees x s ≡ false
unfolding sees same
unseen x s h = false_same the_type tt (terminal s) x h

pub after_it : (x : Terminal) (s r : Place) → Tok x s r → after x s ≡ r
unfolding after
after_it x s r h = ap (λ b. cond b (next s) s) (seen x s h.kind) ∙ h.rest

pub after_none : (x : Terminal) (s : Place) → terminal s ≢ x → after x s ≡ s
unfolding after
after_none x s h = ap (λ b. cond b (next s) s) (unseen x s h)

pub expects : (x : Terminal) (s r : Place) → Tok x s r → expect x s ≡ Ok (tt, r)
unfolding expect
expects x s r h = rw (seen x s h.kind, h.rest) refl

pub text_read : (test : Terminal → Bool) (s r : Place) (w : List ℕ) → IsText test s w r → expect_some test s ≡ Ok (w, r)
unfolding expect_some
text_read test s r w h = rw h.kind (λ i. Ok (h.spelled i, h.rest i))

-- ---- a token takes a byte

goes_by : (s r : Place) (x : Terminal) (o : Lexed) → lexed s ≡ o → lexed_terminal s.bytes o ≡ x → behind s o ≡ r → x ≢ t.End → x ≢ t.Bad → left r < left s
goes_by s r x (Ok token) e k b not_end not_bad =
    let (more, within) = tokens_go_on s.bytes s.at token e (λ ended. not_end (sym k ∙ ap (λ j. terminal_of j (slice_range s.bytes token.start token.end)) ended)) in
    omega (arith, more, within, ap left b)
goes_by s r x (Err f) e k b not_end not_bad = absurd (not_bad (sym k))

pub tok_moves : (x : Terminal) (s r : Place) → x ≢ t.End → x ≢ t.Bad → Tok x s r → left r < left s
unfolding terminal next
tok_moves x s r not_end not_bad h = goes_by s r x (lexed s) refl h.kind h.rest not_end not_bad

pub text_moves : (test : Terminal → Bool) (s r : Place) (w : List ℕ) → test t.End ≡ false → test t.Bad ≡ false → IsText test s w r → left r < left s
text_moves test s r w no_end no_bad h =
    tok_moves (terminal s) s r (λ e. cc) (λ e. cc) (record { kind = refl; rest = h.rest })

-- ---- what is read, and that it takes bytes

-- the rule reads this from the place up to the other one, which is further on
pub record Takes {A : Type 0} (p : Parser A) (s : Place) (x : A) (r : Place) : Type 0 where
  pub reads : p s ≡ Ok (x, r)
  pub moves : left r < left s

-- the rule reads this from the place up to the other one, which may be the same
pub record Passes {A : Type 0} (p : Parser A) (s : Place) (x : A) (r : Place) : Type 0 where
  pub reads : p s ≡ Ok (x, r)
  pub moves : left r ≤ left s

bracket_reads : {A : Type 0} (d : ℕ) (o c : Terminal) (inside : Rules → Parser A) (x : A) (s s1 s2 r : Place) → Tok o s s1 → inside (rules d) s1 ≡ Ok (x, s2) → Tok c s2 r
    → bracket (room_of (suc d)) o inside c s ≡ Ok (x, r)
unfolding bracket
bracket_reads d o c inside x s s1 s2 r opens is closes = rw (seen o s opens.kind, opens.rest, is, expects c s2 r closes) refl

-- what stands in brackets is read, where what stands inside is read with the rules one level deeper
pub in_brackets : {A : Type 0} (o c : Terminal) (inside : Rules → Parser A) (Inside : ℕ → Place → Place → Type 0) (x : A)
    → o ≢ t.End → o ≢ t.Bad → c ≢ t.End → c ≢ t.Bad
    → ((e : ℕ) (u v : Place) → Inside e u v → terminal v ≡ c → Passes (inside (rules e)) u x v)
    → (d : ℕ) (s r : Place) → InBrackets o c Inside d s r → Takes (bracket (room_of d) o inside c) s x r
in_brackets o c inside Inside x o_end o_bad c_end c_bad reads zero s r h = absurd h
in_brackets o c inside Inside x o_end o_bad c_end c_bad reads (suc d) s r (s1, s2, opens, is, closes) =
    let within = reads d s1 s2 is closes.kind in
    record {
      reads = bracket_reads d o c inside x s s1 s2 r opens within.reads closes;
      moves = omega (arith, within.moves, tok_moves o s s1 o_end o_bad opens, tok_moves c s2 r c_end c_bad closes);
    }

-- which token a bracket begins with
pub bracket_opens : (o c : Terminal) (Inside : ℕ → Place → Place → Type 0) (d : ℕ) (s r : Place) → InBrackets o c Inside d s r → terminal s ≡ o
bracket_opens o c Inside zero s r h = absurd h
bracket_opens o c Inside (suc d) s r (s1, s2, opens, is, closes) = opens.kind
