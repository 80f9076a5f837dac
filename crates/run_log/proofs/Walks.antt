-- The lines of a log, one behind another.
use Rattle.std.proofs.Common.{◌≡◌, ℕ, suc, ◌+◌, ◌^◌, ◌<◌, ◌≤◌, Bool, true, false, List, [], ◌∷◌, ◌++◌, codes, length, refl, sym, ap, ◌∙◌, arith, append-nil, length-append, inl, inr, subst, eqb-true}
use Rattle.std.specs.Prelude.{slice_index, ◌==◌, ◌⊎◌, ◌≢◌}
use Rattle.std.specs.List.{concat, AllByRecursion}
use Rattle.rewrite_model.specs.declared.run.Ending.{Ending}
use Rattle.rewrite_model.specs.declared.run.Ending.TheVariants.{Converged, Bound, Broken}
use Rattle.rewrite_model.specs.Taken.{Taken}
use Rattle.run_model.specs.LogText.{step_line, step_lines, ending_line, header, log_text}
use Rattle.run_log.specs.Cursor.{At, good, Takes}
use Rattle.run_log.specs.Written.{IsStep, IsEnding}
use Rattle.run_log.specs.ReadLog.{AreSteps, IsLogOf, NoLog, IsFront, NoFeed, IsLine, IsBadLine}
use Rattle.run_log.specs.Walk.{NoStep, WalksTo, EndsWalk}
use Rattle.run_log.proofs.Pieces.{joins, true_false}
use Rattle.run_log.proofs.LineFeeds.{step_is_line, ending_is_line, one_line, first_line}

pub step_first : (k : ℕ) (s : Taken) (r : List ℕ) → slice_index (step_line k s ++ r) 0 ≡ 115
unfolding step_line
step_first k s r = refl

pub ending_first : (n : ℕ) (e : Ending) (r : List ℕ) → slice_index (ending_line n e ++ r) 0 ≡ 101
unfolding ending_line
ending_first n Converged r = refl
ending_first n (Bound k h) r = refl
ending_first n (Broken b) r = refl

pub not_both : (a b : ℕ) → a ≡ 115 → b ≡ 101 → a ≡ b → ⊥
not_both a b x y e = absurd (omega (arith, x, y, e))

pub step_some : (k : ℕ) (s : Taken) → 1 ≤ length (step_line k s)
unfolding step_line
step_some k s = omega arith

pub few_steps : (k : ℕ) (ss : List Taken) → length ss ≤ length (step_lines k ss)
unfolding step_lines
few_steps k [] = omega arith
few_steps k (s ∷ ss) = omega (arith, step_some k s, few_steps (k + 1) ss, length-append (step_line k s) (step_lines (k + 1) ss))

pub one_more_step : (k : ℕ) (ss : List Taken) (s : Taken) → step_lines k (ss ++ s ∷ []) ≡ step_lines k ss ++ step_line (k + length ss) s
unfolding step_lines
one_more_step k [] s = append-nil (step_line k s) ∙ ap (λ n. step_line n s) (let e : k ≡ k + 0 = omega arith in e)
one_more_step k (t ∷ ss) s =
    ap (λ x. step_line k t ++ x) (one_more_step (k + 1) ss s ∙ ap (λ n. step_lines (k + 1) ss ++ step_line n s) (let e : (k + 1) + length ss ≡ k + suc (length ss) = omega arith in e))
    ∙ sym (joins (step_line k t) (step_lines (k + 1) ss) (step_line (k + suc (length ss)) s))

pub steps_more : (ss : List Taken) (s : Taken) → AreSteps ss → IsStep s → AreSteps (ss ++ s ∷ [])
steps_more [] s all is = (is, tt)
steps_more (t ∷ ss) s all is = (all.0, steps_more ss s all.1 is)

-- ---- reading the lines of the steps

pub walk_none : (start : At) → start.ok ≡ true → WalksTo start start []
unfolding step_lines
walk_none start ok = record {
  left = start.rest;
  steps_are = tt;
  split = refl;
  well = λ e. refl;
  ill = λ e. absurd (true_false (sym ok ∙ e));
}

pub walk_more : (start now new : At) (ss : List Taken) (s : Taken) → WalksTo start now ss → now.ok ≡ true → IsStep s → Takes now new (step_line (length ss + 1) s) → new.ok ≡ true → WalksTo start new (ss ++ s ∷ [])
walk_more start now new ss s walk ok is took next = record {
  left = new.rest;
  steps_are = steps_more ss s walk.steps_are is;
  split = walk.split ∙ ap (λ t. step_lines 1 ss ++ t) (sym (walk.well ok) ∙ took.split next ∙ ap (λ n. step_line n s ++ new.rest) (let e : length ss + 1 ≡ 1 + length ss = omega arith in e))
      ∙ sym (joins (step_lines 1 ss) (step_line (1 + length ss) s) new.rest) ∙ ap (λ t. t ++ new.rest) (sym (one_more_step 1 ss s));
  well = λ e. refl;
  ill = λ e. absurd (true_false (sym next ∙ e));
}

good_at : (now : At) (t : List ℕ) → now.ok ≡ true → now.rest ≡ t → now ≡ good t
good_at now t ok rest = λ i. record { rest = rest i; ok = ok i }

pub walk_stops : (start now new : At) (ss : List Taken) → WalksTo start now ss → now.ok ≡ true → slice_index now.rest 0 ≡ 115 → new.ok ≡ false
    → ((s : Taken) (r : List ℕ) → IsStep s → now ≡ good (step_line (length ss + 1) s ++ r) → new ≡ good r) → WalksTo start new ss
walk_stops start now new ss walk ok first bad complete = record {
  left = walk.left;
  steps_are = walk.steps_are;
  split = walk.split;
  well = λ e. absurd (true_false (sym e ∙ bad));
  ill = λ e. (
    λ s r is h. true_false (sym (ap (λ a. a.ok) (complete s r is (good_at now (step_line (length ss + 1) s ++ r) ok (walk.well ok ∙ h)))) ∙ bad),
    ap (λ t. slice_index t 0) (sym (walk.well ok)) ∙ first,
  );
}

none_by : (start now : At) (ss : List Taken) (p : Bool) → now.ok ≡ p → (walk : WalksTo start now ss) → (now.ok ≡ true → slice_index now.rest 0 ≡ 115 → ⊥) → NoStep (length ss + 1) walk.left
none_by start now ss true ok walk other = λ s r is h. other ok (ap (λ t. slice_index t 0) (walk.well ok ∙ h) ∙ step_first (length ss + 1) s r)
none_by start now ss false ok walk other = (walk.ill ok).0

pub walk_ends : (start now : At) (ss : List Taken) → WalksTo start now ss → (now.ok ≡ true → slice_index now.rest 0 ≡ 115 → ⊥) → EndsWalk start now ss
walk_ends start now ss walk other = record {
  left = walk.left;
  steps_are = walk.steps_are;
  split = walk.split;
  none = none_by start now ss now.ok refl walk other;
  well = walk.well;
  ill = λ e. (walk.ill e).1;
}

pub walk_few : (start now : At) (ss : List Taken) → WalksTo start now ss → length ss ≤ length start.rest
walk_few start now ss walk = omega (arith, few_steps 1 ss, ap length walk.split, length-append (step_lines 1 ss) walk.left)

-- ---- what can stand behind steps

abbrev pub NoEnding : ℕ → List ℕ → Type 0
NoEnding n text = (e : Ending) (r : List ℕ) → IsEnding e → text ≡ ending_line n e ++ r → ⊥

-- a step or an ending
abbrev Next : ℕ → List ℕ → Type 0
Next n text =
    ((s : Taken) × (r : List ℕ) × IsStep s × (text ≡ step_line (n + 1) s ++ r)) ⊎ ((e : Ending) × IsEnding e × (text ≡ ending_line n e))

next_by : (n m k : ℕ) (e : Ending) (ts : List Taken) (x : List ℕ) → AreSteps ts → IsEnding e → m ≡ n + length ts → k ≡ n + 1 → step_lines k ts ++ ending_line m e ≡ x → Next n x
unfolding step_lines
next_by n m k e [] x all is count at h = inr (e, is, sym h ∙ ap (λ c. ending_line c e) (let same : m ≡ n = omega (arith, count) in same))
next_by n m k e (t ∷ ts) x all is count at h =
    inl (t, step_lines (k + 1) ts ++ ending_line m e, all.0, sym h ∙ joins (step_line k t) (step_lines (k + 1) ts) (ending_line m e) ∙ ap (λ c. step_line c t ++ (step_lines (k + 1) ts ++ ending_line m e)) at)

peel : (n m k : ℕ) (e : Ending) (ts ss : List Taken) (x : List ℕ) → AreSteps ts → AreSteps ss → IsEnding e → k + length ss < 2 ^ 64 → m ≡ n + length ts → k ≡ n + 1
    → step_lines k ts ++ ending_line m e ≡ step_lines k ss ++ x → Next (n + length ss) x
unfolding step_lines
peel n m k e ts [] x all are is small count at h = subst (λ c. Next c x) (let e : n ≡ n + 0 = omega arith in e) (next_by n m k e ts x all is count at h)
peel n m k e [] (s ∷ ss) x all are is small count at h =
    absurd (not_both (slice_index ((step_line k s ++ step_lines (k + 1) ss) ++ x) 0) (slice_index (ending_line m e) 0)
    (ap (λ t. slice_index t 0) (joins (step_line k s) (step_lines (k + 1) ss) x) ∙ step_first k s (step_lines (k + 1) ss ++ x))
    (ap (λ t. slice_index t 0) (sym (append-nil (ending_line m e))) ∙ ending_first m e []) (ap (λ t. slice_index t 0) (sym h)))
peel n m k e (t ∷ ts) (s ∷ ss) x all are is small count at h =
    let (same, rest) = one_line (step_line k t) (step_line k s) (step_lines (k + 1) ts ++ ending_line m e) (step_lines (k + 1) ss ++ x)
    (step_is_line k t (omega (arith, small)) all.0) (step_is_line k s (omega (arith, small)) are.0)
    (sym (joins (step_line k t) (step_lines (k + 1) ts) (ending_line m e)) ∙ h ∙ joins (step_line k s) (step_lines (k + 1) ss) x) in
    subst (λ c. Next c x) (let e : (n + 1) + length ss ≡ n + suc (length ss) = omega arith in e)
    (peel (n + 1) m (k + 1) e ts ss x all.1 are.1 is (omega (arith, small)) (omega (arith, count)) (omega (arith, at)) rest)

pub header_is_line : IsLine header
unfolding header
header_is_line = (codes "pdllrw-log 1", refl, refl)

pub next_of : (ss : List Taken) (x : List ℕ) → AreSteps ss → length ss < 2 ^ 32 → (ts : List Taken) (e : Ending) → IsLogOf ts e (header ++ (step_lines 1 ss ++ x)) → Next (length ss) x
unfolding log_text
next_of ss x are few ts e log =
    let (same, rest) = one_line header header (step_lines 1 ss ++ x) (step_lines 1 ts ++ ending_line (length ts) e) header_is_line header_is_line log.text_is in
    subst (λ c. Next c x) (let zero : 0 + length ss ≡ length ss = omega arith in zero) (peel 0 (length ts) 1 e ts ss x log.steps_are are log.ending_is (omega (arith, few)) (omega arith) (omega arith) (sym rest))

-- ---- the first bad line

abbrev lines_of : ℕ → List Taken → List (List ℕ)
lines_of k [] = []
lines_of k (s ∷ ss) = step_line k s ∷ lines_of (k + 1) ss

lines_len : (k : ℕ) (ss : List Taken) → length (lines_of k ss) ≡ length ss
lines_len k [] = refl
lines_len k (s ∷ ss) = omega (arith, lines_len (k + 1) ss)

lines_text : (k : ℕ) (ss : List Taken) (end : List (List ℕ)) → concat (lines_of k ss ++ end) ≡ step_lines k ss ++ concat end
unfolding step_lines
lines_text k [] end = refl
lines_text k (s ∷ ss) end = ap (λ t. step_line k s ++ t) (lines_text (k + 1) ss end) ∙ sym (joins (step_line k s) (step_lines (k + 1) ss) (concat end))

lines_are : (k : ℕ) (ss : List Taken) (end : List (List ℕ)) → AreSteps ss → k + length ss < 2 ^ 64 → AllByRecursion IsLine end → AllByRecursion IsLine (lines_of k ss ++ end)
lines_are k [] end all small h = h
lines_are k (s ∷ ss) end all small h = (step_is_line k s (omega (arith, small)) all.0, lines_are (k + 1) ss end all.1 (omega (arith, small)) h)

bad_at : (bytes x : List ℕ) (lines : List (List ℕ)) (n : ℕ) → AllByRecursion IsLine lines → bytes ≡ concat lines ++ x → n ≡ length lines + 1 → IsFront (concat lines)
    → ((line rest : List ℕ) → x ≡ line ++ rest → IsLine line → IsFront (concat lines ++ line) → ⊥) → IsBadLine bytes n
bad_at bytes x lines n whole split number goes_on stops =
    let first = first_line x in
    record {
      lines = lines;
      line = first.line;
      rest = first.more;
      whole = whole;
      split = split ∙ ap (λ t. concat lines ++ t) first.split;
      number = number;
      goes_on = goes_on;
      stops = by_end first.line first.more first.split first.is;
    }
  where
    by_end : (line rest : List ℕ) → x ≡ line ++ rest → (IsLine line ⊎ (NoFeed line × (rest ≡ []))) → (IsLine line × (IsFront (concat lines ++ line) → ⊥)) ⊎ (NoFeed line × (rest ≡ []))
    by_end line rest e (inl is) = inl (is, λ front. stops line rest e is front)
    by_end line rest e (inr h) = inr h

-- no header stands there
pub no_header : (bytes : List ℕ) → ((r : List ℕ) → bytes ≡ header ++ r → ⊥) → NoLog bytes × IsBadLine bytes 1
unfolding log_text
no_header bytes none = (
  λ steps ending log. none (step_lines 1 steps ++ ending_line (length steps) ending) log.text_is,
  bad_at bytes bytes [] 1 tt refl refl ([], Converged, log_text [] Converged, record { steps_are = tt; ending_is = tt; text_is = refl })
      (λ line rest e is (steps, ending, more, log).
      let (same, behind) = one_line line header more (step_lines 1 steps ++ ending_line (length steps) ending) is header_is_line log.text_is in
      none rest (e ∙ ap (λ t. t ++ rest) same)),
)

-- neither a step nor an ending stands behind the steps
module _ (bytes : List ℕ) (ss : List Taken) (x : List ℕ) (are : AreSteps ss) (few : length ss < 2 ^ 32) where
  abbrev lines : List (List ℕ) → List (List ℕ)
  lines end = header ∷ (lines_of 1 ss ++ end)

  text : (end : List (List ℕ)) (y : List ℕ) → concat (lines end) ++ y ≡ header ++ (step_lines 1 ss ++ (concat end ++ y))
  text end y = joins header (concat (lines_of 1 ss ++ end)) y ∙ ap (λ t. header ++ t) (ap (λ t. t ++ y) (lines_text 1 ss end) ∙ joins (step_lines 1 ss) (concat end) y)

  whole : (end : List (List ℕ)) → AllByRecursion IsLine end → AllByRecursion IsLine (lines end)
  whole end h = (header_is_line, lines_are 1 ss end are (omega (arith, few)) h)

  count : (end : List (List ℕ)) → length (lines end) ≡ length ss + length end + 1
  count end = omega (arith, length-append (lines_of 1 ss) end, lines_len 1 ss)

  front : (e : Ending) → IsEnding e → IsLogOf ss e (header ++ (step_lines 1 ss ++ ending_line (length ss) e))
  unfolding log_text
  front e is = record { steps_are = are; ending_is = is; text_is = refl }

  no_next : NoStep (length ss + 1) x → NoEnding (length ss) x → (y : List ℕ) → x ≡ y → Next (length ss) y → ⊥
  no_next no_step no_ending y same (inl (s, r, is, e)) = no_step s r is (same ∙ e)
  no_next no_step no_ending y same (inr (e, is, h)) = no_ending e [] is (same ∙ h ∙ sym (append-nil (ending_line (length ss) e)))

  no_line : NoStep (length ss + 1) x → NoEnding (length ss) x → (line rest more : List ℕ) → x ≡ line ++ rest → IsLine line → Next (length ss) (line ++ more) → ⊥
  no_line no_step no_ending line rest more e is (inl (s, r, step, h)) =
      let (same, behind) = one_line line (step_line (length ss + 1) s) more r is (step_is_line (length ss + 1) s (omega (arith, few)) step) h in
      no_step s rest step (e ∙ ap (λ t. t ++ rest) same)
  no_line no_step no_ending line rest more e is (inr (end, ending, h)) =
      let (same, behind) = one_line line (ending_line (length ss) end) more [] is (ending_is_line (length ss) end (omega (arith, few)) ending) (h ∙ sym (append-nil (ending_line (length ss) end))) in
      no_ending end rest ending (e ∙ ap (λ t. t ++ rest) same)

  pub stuck : bytes ≡ header ++ (step_lines 1 ss ++ x) → NoStep (length ss + 1) x → NoEnding (length ss) x → NoLog bytes × IsBadLine bytes (length ss + 2)
  stuck is no_step no_ending = (
    λ ts e log. no_next no_step no_ending x refl (next_of ss x are few ts e (subst (IsLogOf ts e) is log)),
    bad_at bytes x (lines []) (length ss + 2) (whole [] tt) (is ∙ sym (text [] x)) (omega (arith, count [])) (ss, Converged, ending_line (length ss) Converged, subst (IsLogOf ss Converged) (sym (text [] (ending_line (length ss) Converged))) (front Converged tt))
        (λ line rest e line_is (ts, end, more, log).
        no_line no_step no_ending line rest more e line_is (next_of ss (line ++ more) are few ts end (subst (IsLogOf ts end) (joins (concat (lines [])) line more ∙ text [] (line ++ more)) log))),
  )

  -- more stands behind the ending
  none_behind : (e : Ending) → IsEnding e → (y : List ℕ) → Next (length ss) (ending_line (length ss) e ++ y) → y ≡ []
  none_behind e is y (inl (s, r, step, h)) =
      absurd (not_both (slice_index (step_line (length ss + 1) s ++ r) 0) (slice_index (ending_line (length ss) e ++ y) 0) (step_first (length ss + 1) s r) (ending_first (length ss) e y) (ap (λ t. slice_index t 0) (sym h)))
  none_behind e is y (inr (end, ending, h)) =
      (one_line (ending_line (length ss) e) (ending_line (length ss) end) y [] (ending_is_line (length ss) e (omega (arith, few)) is) (ending_is_line (length ss) end (omega (arith, few)) ending) (h ∙ sym (append-nil (ending_line (length ss) end)))).1

  some_line : (line more : List ℕ) → IsLine line → line ++ more ≡ [] → ⊥
  some_line line more (t, plain, is) h = absurd (omega (arith, ap length h, ap length is, length-append line more, length-append t (codes "\n")))

  pub over : (e : Ending) → IsEnding e → bytes ≡ header ++ (step_lines 1 ss ++ (ending_line (length ss) e ++ x)) → x ≢ [] → NoLog bytes × IsBadLine bytes (length ss + 3)
  over e is split some =
      let end = ending_line (length ss) e in
      let one : (y : List ℕ) → concat (lines (end ∷ [])) ++ y ≡ header ++ (step_lines 1 ss ++ (end ++ y)) = λ y. text (end ∷ []) y ∙ ap (λ t. header ++ (step_lines 1 ss ++ (t ++ y))) (append-nil end) in (
        λ ts f log. some (none_behind e is x (next_of ss (end ++ x) are few ts f (subst (IsLogOf ts f) split log))),
        bad_at bytes x (lines (end ∷ [])) (length ss + 3) (whole (end ∷ []) (ending_is_line (length ss) e (omega (arith, few)) is, tt)) (split ∙ sym (one x)) (omega (arith, count (end ∷ [])))
            (ss, e, [], subst (IsLogOf ss e) (sym (one [] ∙ ap (λ t. header ++ (step_lines 1 ss ++ t)) (append-nil end))) (front e is))
            (λ line rest h line_is (ts, f, more, log).
            some_line line more line_is (none_behind e is (line ++ more) (next_of ss (end ++ (line ++ more)) are few ts f (subst (IsLogOf ts f) (joins (concat (lines (end ∷ []))) line more ∙ one (line ++ more)) log)))),
      )

-- ---- the answers

no_ending_by : (start mid new : At) (ss : List Taken) (n : ℕ) (p : Bool) → mid.ok ≡ p → (walk : EndsWalk start mid ss) → n ≡ length ss → new.ok ≡ false
    → ((e : Ending) (r : List ℕ) → IsEnding e → mid ≡ good (ending_line n e ++ r) → new ≡ good r) → NoEnding (length ss) walk.left
no_ending_by start mid new ss n true ok walk count bad complete = λ e r is h.
    true_false (sym (ap (λ a. a.ok) (complete e r is (good_at mid (ending_line n e ++ r) ok (walk.well ok ∙ h ∙ ap (λ c. ending_line c e ++ r) (sym count))))) ∙ bad)
no_ending_by start mid new ss n false ok walk count bad complete = λ e r is h.
    not_both (slice_index walk.left 0) (slice_index (ending_line (length ss) e ++ r) 0) (walk.ill ok) (ending_first (length ss) e r) (ap (λ t. slice_index t 0) h)

start_is : (bytes : List ℕ) (a mid : At) (ss : List Taken) → Takes (good bytes) a header → a.ok ≡ true → (walk : EndsWalk a mid ss) → bytes ≡ header ++ (step_lines 1 ss ++ walk.left)
start_is bytes a mid ss took ok walk = took.split ok ∙ ap (λ t. header ++ t) walk.split

pub no_end : (bytes : List ℕ) (a mid new : At) (ss : List Taken) (n m : ℕ) → Takes (good bytes) a header → a.ok ≡ true → EndsWalk a mid ss → length ss < 2 ^ 32 → n ≡ length ss → m ≡ length ss → new.ok ≡ false
    → ((e : Ending) (r : List ℕ) → IsEnding e → mid ≡ good (ending_line n e ++ r) → new ≡ good r) → NoLog bytes × IsBadLine bytes (m + 2)
no_end bytes a mid new ss n m took ok walk few count same bad complete =
    subst (λ c. NoLog bytes × IsBadLine bytes (c + 2)) (sym same)
    (stuck bytes ss walk.left walk.steps_are few (start_is bytes a mid ss took ok walk) walk.none (no_ending_by a mid new ss n mid.ok refl walk count bad complete))

end_is : (bytes : List ℕ) (a mid new : At) (ss : List Taken) (n : ℕ) (e : Ending) → Takes (good bytes) a header → a.ok ≡ true → (walk : EndsWalk a mid ss) → n ≡ length ss → Takes mid new (ending_line n e) → new.ok ≡ true
    → bytes ≡ header ++ (step_lines 1 ss ++ (ending_line (length ss) e ++ new.rest))
end_is bytes a mid new ss n e took ok walk count ends well =
    start_is bytes a mid ss took ok walk ∙ ap (λ t. header ++ (step_lines 1 ss ++ t)) (sym (walk.well (ends.was well)) ∙ ends.split well ∙ ap (λ c. ending_line c e ++ new.rest) count)

pub goes_over : (bytes : List ℕ) (a mid new : At) (ss : List Taken) (n m : ℕ) (e : Ending) → Takes (good bytes) a header → a.ok ≡ true → EndsWalk a mid ss → length ss < 2 ^ 32 → n ≡ length ss → m ≡ length ss
    → Takes mid new (ending_line n e) → IsEnding e → new.ok ≡ true → new.rest ≢ [] → NoLog bytes × IsBadLine bytes (m + 2 + 1)
goes_over bytes a mid new ss n m e took ok walk few count same ends is well some =
    subst (λ c. NoLog bytes × IsBadLine bytes c) (let line : length ss + 3 ≡ m + 2 + 1 = omega (arith, same) in line)
    (over bytes ss new.rest walk.steps_are few e is (end_is bytes a mid new ss n e took ok walk count ends well) some)

pub is_log : (bytes : List ℕ) (a mid new : At) (ss : List Taken) (n : ℕ) (e : Ending) → Takes (good bytes) a header → a.ok ≡ true → EndsWalk a mid ss → n ≡ length ss
    → Takes mid new (ending_line n e) → new.ok ≡ true → new.rest ≡ [] → bytes ≡ log_text ss e
unfolding log_text
is_log bytes a mid new ss n e took ok walk count ends well none =
    end_is bytes a mid new ss n e took ok walk count ends well ∙ ap (λ t. header ++ (step_lines 1 ss ++ t)) (ap (λ t. ending_line (length ss) e ++ t) none ∙ append-nil (ending_line (length ss) e))

pub empty : (t : List ℕ) → (length t == 0) ≡ true → t ≡ []
empty [] h = refl
empty (b ∷ t) h = absurd (omega (arith, eqb-true (length (b ∷ t)) 0 h))

pub not_empty : (t : List ℕ) → (length t == 0) ≡ false → t ≢ []
not_empty t h e = true_false (sym (ap (λ u. length u == 0) e) ∙ h)

pub few_of : (bytes : List ℕ) (a : At) (n : ℕ) → Takes (good bytes) a header → a.ok ≡ true → n ≤ length a.rest → length bytes ≤ 67108864 → n < 2 ^ 32
few_of bytes a n took ok few small = omega (arith, few, small, ap length (took.split ok), length-append header a.rest)
