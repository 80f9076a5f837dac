-- The scan for the end of a body goes past a sound body in it.
use Rattle.std.proofs.Common.{◌≡◌, ℕ, zero, suc, ◌+◌, ◌-◌, ◌≤◌, Bool, true, false, cond, List, [], ◌∷◌, ◌++◌, length, refl, ap, sym, subst, ◌∙◌, arith, length-append, eqb-true, Ok, Err, Option, Some, None}
use Rattle.std.specs.Prelude.{◌==◌, nat_le, slice_index}
use Rattle.std.specs.Option.{option_map_or}
use Rattle.std.proofs.lemmas.Bool.{leb-false, lt-leb}
use Rattle.text_scan.specs.Strings.{string_end}
use Rattle.mlir_lexer.specs.Body.{body, by_effect, effect_of, outer, closer}
use Rattle.mlir_lexer.specs.declared.body.Effect.{Effect}
use Rattle.mlir_lexer.specs.declared.body.Effect.TheVariants.{Opens, Closes, Fails, Passes}
use Rattle.mlir_lexer.specs.declared.body.BodyFault.TheVariants.{Unclosed, TooDeep, BadString}
use Rattle.round_trip.proofs.Bodies.{string_moves, closes_before, last_by}
use Rattle.round_trip.proofs.Sound.{IsSoundBody}
use Rattle.round_trip.proofs.Skips.{End, ends, dash_behind, Skips}

abbrev or_end : ℕ → End → ℕ
or_end n (Ok m) = m
or_end n (Err f) = n

longer : (at : ℕ) (s : List ℕ) → at + suc (length s) ≡ (at + 1) + length s
longer at s = omega arith

no_more : (s : List ℕ) → length s ≡ 0 → s ≡ []
no_more [] e = refl
no_more (b ∷ s) e = absurd (omega arith)

closing_no_dash : (b next : ℕ) (dash : Bool) (inner : ℕ) → effect_of b next dash inner ≡ Closes → b == 45 ≡ false
closing_no_dash b next dash inner h = by_test (b == 45) refl
  where
    no_close : (x next : ℕ) (dash : Bool) (inner : ℕ) → x ≡ 45 → effect_of x next dash inner ≡ Closes → ⊥
    no_close x next dash inner same e = let wrong : effect_of 45 next dash inner ≡ Closes = ap (λ n. effect_of n next dash inner) (sym same) ∙ e in cc

    by_test : (p : Bool) → b == 45 ≡ p → b == 45 ≡ false
    by_test true is = absurd (no_close b next dash inner (eqb-true b 45 is) h)
    by_test false is = is

two : (n : ℕ) → nat_le (suc (suc n)) 1 ≡ false
two n = lt-leb (suc (suc n)) 1 (omega arith)

module _ (small limit d : ℕ) (ds z : List ℕ) (few : small + suc (length ds) ≤ limit) where
  -- Behind the rest of the body the outer brackets are open.
  record Behind (c : ℕ) (cs : List ℕ) (dash : Bool) (n other : ℕ) (s : List ℕ) : Type 0 where
    same : body limit ((c ∷ cs) ++ d ∷ ds) dash n other (s ++ z) ≡ body limit (d ∷ ds) false 0 (other + length s) z
    end_dash : (x : Bool) → dash_behind x s ≡ false

  abbrev Goes : ℕ → ℕ → List ℕ → Type 0
  Goes at other s = (c : ℕ) (cs : List ℕ) (dash : Bool) (n : ℕ) → body small (c ∷ cs) dash n (at + 1) s ≡ ends ((at + 1) + length s) → Behind c cs dash n (other + 1) s

  abbrev step_of : ℕ → ℕ → ℕ → List ℕ → List ℕ → Effect → Bool → Bool → End
  step_of room at b closers s e full last =
      by_effect e (cond full (Err (TooDeep at)) (body room (closer b ∷ closers) (b == 45) 0 (at + 1) s))
      (cond last (ends (at + 1)) (body room (outer closers) (b == 45) 0 (at + 1) s))
      (Err (Unclosed at)) (body room closers (b == 45) 0 (at + 1) s)

  abbrev string_step : ℕ → ℕ → List ℕ → List ℕ → Option ℕ → End
  string_step room at closers s o = option_map_or (λ end. body room closers false (end - (at + 1)) (at + 1) s) o (Err (BadString at))

  -- what the step behind a byte answers
  record Step (other b : ℕ) (s : List ℕ) (x : End) : Type 0 where
    same : x ≡ body limit (d ∷ ds) false 0 (other + suc (length s)) z
    end_dash : dash_behind (b == 45) s ≡ false

  still : (c : ℕ) (cs : List ℕ) → nat_le small (length (c ∷ cs)) ≡ false → nat_le limit (length ((c ∷ cs) ++ d ∷ ds)) ≡ false
  still c cs h = lt-leb limit (length ((c ∷ cs) ++ d ∷ ds)) (let less = leb-false small (length (c ∷ cs)) h in omega (arith, less, few, length-append (c ∷ cs) (d ∷ ds)))

  open_outer : (c : ℕ) (cs : List ℕ) → nat_le (length ((c ∷ cs) ++ d ∷ ds)) 1 ≡ false
  open_outer c cs = lt-leb (length ((c ∷ cs) ++ d ∷ ds)) 1 (omega (arith, length-append (c ∷ cs) (d ∷ ds)))

  of_go : (other b c : ℕ) (cs : List ℕ) (s : List ℕ) (dash : Bool) (n : ℕ) → Behind c cs dash n (other + 1) s → Step other b s (body limit ((c ∷ cs) ++ d ∷ ds) dash n (other + 1) (s ++ z))
  of_go other b c cs s dash n h = record { same = h.same ∙ ap (λ k. body limit (d ∷ ds) false 0 k z) (sym (longer other s)); end_dash = h.end_dash (b == 45) }

  close_step : (at other b c : ℕ) (cs s : List ℕ) (last : Bool) → nat_le (length (c ∷ cs)) 1 ≡ last → b == 45 ≡ false → Goes at other s
      → cond last (ends (at + 1)) (body small cs (b == 45) 0 (at + 1) s) ≡ ends (at + suc (length s)) → Step other b s (body limit (cs ++ d ∷ ds) (b == 45) 0 (other + 1) (s ++ z))
  close_step at other b c [] s true is flat go h =
      let e : at + 1 ≡ at + suc (length s) = ap (or_end 0) h in
      let none : s ≡ [] = no_more s (omega (arith, e)) in
      subst (λ t. Step other b t (body limit (d ∷ ds) (b == 45) 0 (other + 1) (t ++ z))) (sym none)
      (record { same = ap (λ q. body limit (d ∷ ds) q 0 (other + 1) z) flat; end_dash = flat })
  close_step at other b c (c2 ∷ cs) s true is flat go h = absurd (let e : true ≡ false = sym is ∙ two (length cs) in cc)
  close_step at other b c [] s false is flat go h = absurd (cc)
  close_step at other b c (c2 ∷ cs) s false is flat go h = of_go other b c2 cs s (b == 45) 0 (go c2 cs (b == 45) 0 (h ∙ ap ends (longer at s)))

  step : (at other b c : ℕ) (cs s : List ℕ) (e : Effect) (full last : Bool) → nat_le small (length (c ∷ cs)) ≡ full → nat_le (length (c ∷ cs)) 1 ≡ last → (e ≡ Closes → b == 45 ≡ false) → Goes at other s
      → step_of small at b (c ∷ cs) s e full last ≡ ends (at + suc (length s))
      → Step other b s (step_of limit other b ((c ∷ cs) ++ d ∷ ds) (s ++ z) e (nat_le limit (length ((c ∷ cs) ++ d ∷ ds))) (nat_le (length ((c ∷ cs) ++ d ∷ ds)) 1))
  step at other b c cs s Opens true last full_is last_is flat go h = absurd (cc)
  step at other b c cs s Opens false last full_is last_is flat go h =
      subst (λ q. Step other b s (cond q (Err (TooDeep other)) (body limit ((closer b ∷ c ∷ cs) ++ d ∷ ds) (b == 45) 0 (other + 1) (s ++ z)))) (sym (still c cs full_is))
      (of_go other b (closer b) (c ∷ cs) s (b == 45) 0 (go (closer b) (c ∷ cs) (b == 45) 0 (h ∙ ap ends (longer at s))))
  step at other b c cs s Closes full last full_is last_is flat go h =
      subst (λ q. Step other b s (cond q (ends (other + 1)) (body limit (cs ++ d ∷ ds) (b == 45) 0 (other + 1) (s ++ z)))) (sym (open_outer c cs))
      (close_step at other b c cs s last last_is (flat refl) go h)
  step at other b c cs s Fails full last full_is last_is flat go h = absurd (cc)
  step at other b c cs s Passes full last full_is last_is flat go h = of_go other b c cs s (b == 45) 0 (go c cs (b == 45) 0 (h ∙ ap ends (longer at s)))

  -- the step at a byte outside strings, whatever follows
  byte_step : (at other b c : ℕ) (cs : List ℕ) (dash : Bool) (s : List ℕ) → Goes at other s
      → step_of small at b (c ∷ cs) s (effect_of b (slice_index s 0) dash c) (nat_le small (length (c ∷ cs))) (nat_le (length (c ∷ cs)) 1) ≡ ends (at + suc (length s))
      → Step other b s (step_of limit other b ((c ∷ cs) ++ d ∷ ds) (s ++ z) (effect_of b (slice_index (s ++ z) 0) dash c) (nat_le limit (length ((c ∷ cs) ++ d ∷ ds))) (nat_le (length ((c ∷ cs) ++ d ∷ ds)) 1))
  byte_step at other b c cs dash [] go h =
      let (closes, last) = last_by at (at + 1) (effect_of b 0 dash c) (nat_le small (length (c ∷ cs))) (nat_le (length (c ∷ cs)) 1) h in
      subst (λ e. Step other b [] (step_of limit other b ((c ∷ cs) ++ d ∷ ds) z e (nat_le limit (length ((c ∷ cs) ++ d ∷ ds))) (nat_le (length ((c ∷ cs) ++ d ∷ ds)) 1))) (sym (closes_before b (slice_index z 0) dash c closes))
      (step at other b c cs [] Closes (nat_le small (length (c ∷ cs))) (nat_le (length (c ∷ cs)) 1) refl refl (λ e. closing_no_dash b 0 dash c closes) go
      (ap (λ e. step_of small at b (c ∷ cs) [] e (nat_le small (length (c ∷ cs))) (nat_le (length (c ∷ cs)) 1)) (sym closes) ∙ h))
  byte_step at other b c cs dash (x ∷ s) go h =
      step at other b c cs (x ∷ s) (effect_of b x dash c) (nat_le small (length (c ∷ cs))) (nat_le (length (c ∷ cs)) 1) refl refl (λ e. closing_no_dash b x dash c e) go h

  quote_step : (at other b c : ℕ) (cs s : List ℕ) (o : Option ℕ) → string_end at (b ∷ s) ≡ o → Goes at other s → string_step small at (c ∷ cs) s o ≡ ends (at + suc (length s))
      → Step other b s (string_step limit other ((c ∷ cs) ++ d ∷ ds) (s ++ z) (string_end other (b ∷ (s ++ z))))
  quote_step at other b c cs s None is go h = absurd (cc)
  quote_step at other b c cs s (Some end) is go h =
      let m = string_moves at (b ∷ s) z end is in
      let here : end - (at + 1) ≡ m.count - 1 = omega (arith, m.is, m.some) in
      let else : (other + m.count) - (other + 1) ≡ m.count - 1 = omega (arith, m.some) in
      let same : body small (c ∷ cs) false (m.count - 1) (at + 1) s ≡ ends ((at + 1) + length s) = ap (λ n. body small (c ∷ cs) false n (at + 1) s) (sym here) ∙ h ∙ ap ends (longer at s) in
      let r = of_go other b c cs s false (m.count - 1) (go c cs false (m.count - 1) same) in
      record {
        same = ap (string_step limit other ((c ∷ cs) ++ d ∷ ds) (s ++ z)) (m.again other) ∙ ap (λ n. body limit ((c ∷ cs) ++ d ∷ ds) false n (other + 1) (s ++ z)) else ∙ r.same;
        end_dash = r.end_dash;
      }

  either_step : (at other b c : ℕ) (cs : List ℕ) (dash : Bool) (s : List ℕ) (quote : Bool) → Goes at other s
      → cond quote (string_step small at (c ∷ cs) s (string_end at (b ∷ s))) (step_of small at b (c ∷ cs) s (effect_of b (slice_index s 0) dash c) (nat_le small (length (c ∷ cs))) (nat_le (length (c ∷ cs)) 1)) ≡ ends (at + suc (length s))
      → Step other b s (cond quote (string_step limit other ((c ∷ cs) ++ d ∷ ds) (s ++ z) (string_end other (b ∷ (s ++ z))))
      (step_of limit other b ((c ∷ cs) ++ d ∷ ds) (s ++ z) (effect_of b (slice_index (s ++ z) 0) dash c) (nat_le limit (length ((c ∷ cs) ++ d ∷ ds))) (nat_le (length ((c ∷ cs) ++ d ∷ ds)) 1)))
  either_step at other b c cs dash s true go h = quote_step at other b c cs s (string_end at (b ∷ s)) refl go h
  either_step at other b c cs dash s false go h = byte_step at other b c cs dash s go h

  behind : (s : List ℕ) (at other c : ℕ) (cs : List ℕ) (dash : Bool) (n : ℕ) → body small (c ∷ cs) dash n at s ≡ ends (at + length s) → Behind c cs dash n other s
  behind [] at other c cs dash n h = absurd (cc)
  behind (b ∷ s) at other c cs dash (suc n) h =
      let r = of_go other b c cs s false n (behind s (at + 1) (other + 1) c cs false n (h ∙ ap ends (longer at s))) in
      record { same = r.same; end_dash = λ x. r.end_dash }
  behind (b ∷ s) at other c cs dash zero h =
      let r = either_step at other b c cs dash s (b == 34) (λ c2 cs2 d2 n2. behind s (at + 1) (other + 1) c2 cs2 d2 n2) h in
      record { same = r.same; end_dash = λ x. r.end_dash }

-- ---- a sound body

opens_step : (limit second : ℕ) (more closers : List ℕ) (dash : Bool) (at : ℕ) → second == 61 ≡ false → nat_le limit (length closers) ≡ false
    → body limit closers dash 0 at (60 ∷ second ∷ more) ≡ body limit (62 ∷ closers) false 0 (at + 1) (second ∷ more)
opens_step limit second more closers dash at other full = rw (other, full) refl

pub sound_body : (text : List ℕ) → IsSoundBody text → Skips text
sound_body text h = subst Skips (sym h.is) (record {
  need = suc h.limit;
  skips = λ limit c cs dash at z few.
      let r = behind h.limit limit c cs z (omega (arith, few)) (h.second ∷ h.more) 1 (at + 1) 62 [] false 0 (h.ends ∙ ap ends (let e : length (60 ∷ h.second ∷ h.more) ≡ 1 + length (h.second ∷ h.more) = omega arith in e)) in
      opens_step limit h.second (h.more ++ z) (c ∷ cs) dash at h.other (lt-leb limit (length (c ∷ cs)) (omega (arith, few)))
      ∙ r.same
      ∙ ap (λ d. body limit (c ∷ cs) d 0 ((at + 1) + length (h.second ∷ h.more)) z) (sym (r.end_dash (60 == 45)))
      ∙ ap (λ n. body limit (c ∷ cs) (dash_behind dash (60 ∷ h.second ∷ h.more)) 0 n z) (let e : (at + 1) + length (h.second ∷ h.more) ≡ at + length (60 ∷ h.second ∷ h.more) = omega arith in e);
})
