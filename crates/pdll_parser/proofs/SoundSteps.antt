-- What the steps of reading say.
use Rattle.std.proofs.Common.{◌≡◌, ℕ, zero, suc, Bool, true, false, cond, List, [], ◌∷◌, ◌++◌, Option, Some, None, refl, ap, sym, subst, ◌∙◌, inl, inr, Ok, Err, append_assoc, append-nil}
use Rattle.std.specs.Prelude.{◌⊎◌}
use denote.Enum.Bare.{same_true, same_false}
use Rattle.pdll_syntax.specs.declared.fault.PatKind.{PatKind}
use Rattle.pdll_parser.specs.contracts.terminal.Terminal.{the_type}
use Rattle.pdll_parser.specs.declared.terminal.Terminal.{Terminal}
use Rattle.pdll_parser.specs.declared.terminal.Terminal.TheVariants as t
use Rattle.pdll_parser.specs.Place.{Place, left, terminal, spelling, next, same, sees, after}
use Rattle.pdll_parser.specs.Input.{Outcome, Parser, and_then, ◌>>=◌, ◌>>◌, ◌<$>◌, pure, fail, refuse, expect, expect_some, deeper, bracket, separated, items, list, many, all_up_to}
use Rattle.pdll_parser.specs.Tokens.{Tok, IsText, AreMore, AreListed, AreSome, AreMany, InBrackets}

-- what is read is so
abbrev pub Sound : {A : Type 0} → Parser A → (Place → A → Place → Type 0) → Type 0
Sound {A} p Is = (s r : Place) (x : A) → p s ≡ Ok (x, r) → Is s x r

-- what went before an `Ok`
pub bind_ok : {A B : Type 0} (o : Outcome A) (f : A → Parser B) (b : B) (r : Place) → and_then o f ≡ Ok (b, r) → (a : A) × (s : Place) × (o ≡ Ok (a, s)) × (f a s ≡ Ok (b, r))
bind_ok (Ok p) f b r h = (p.0, p.1, refl, h)
bind_ok (Err e) f b r h = absurd (cc)

abbrev or_else : {A : Type 0} → Outcome A → A × Place → A × Place
or_else (Ok p) q = p
or_else (Err e) q = q

abbrev pub done : {A : Type 0} → A → Place → Outcome A
done a s = Ok (a, s)

pub same_ok : {A : Type 0} {a b : A} {s r : Place} → done a s ≡ done b r → (a ≡ b) × (s ≡ r)
same_ok {A} {a} {b} {s} {r} e = (ap (λ o. (or_else o (a, s)).0) e, ap (λ o. (or_else o (a, s)).1) e)

-- what is true of the answer that is given
pub given : {A : Type 0} (Is : A → Place → Type 0) {a b : A} {s r : Place} → done a s ≡ done b r → Is a s → Is b r
given {A} Is {a} {b} {s} {r} e h = subst (λ o. Is (or_else o (a, s)).0 (or_else o (a, s)).1) e h

-- which way was taken
pub taken : {A : Type 0} (b : Bool) (p q : Parser A) (s r : Place) (x : A) → cond b p q s ≡ Ok (x, r) → ((b ≡ true) × (p s ≡ Ok (x, r))) ⊎ ((b ≡ false) × (q s ≡ Ok (x, r)))
taken true p q s r x e = inl (refl, e)
taken false p q s r x e = inr (refl, e)

pub mapped : {A B : Type 0} (f : A → B) (p : Parser A) (Is : Place → B → Place → Type 0) → Sound p (λ s x r. Is s (f x) r) → Sound (f <$> p) Is
mapped f p Is sound s r y e =
    let (x, u, e1, e2) = bind_ok (p s) _ y r e in
    given (Is s) e2 (sound s u x e1)

-- ---- tokens

pub refused : {A : Type 0} (s r : Place) (x : A) → refuse s ≡ Ok (x, r) → ⊥
unfolding refuse
refused s r x e = cc

pub failed : {A : Type 0} (kind : PatKind) (s r : Place) (x : A) → fail kind s ≡ Ok (x, r) → ⊥
failed kind s r x e = cc

pub sees_is : (x : Terminal) (s : Place) → sees x s ≡ true → terminal s ≡ x
unfolding sees same
sees_is x s h = same_true the_type tt (terminal s) x h

pub sees_not : (x : Terminal) (s : Place) → sees x s ≡ false → terminal s ≡ x → ⊥
unfolding sees same
sees_not x s h = same_false the_type (terminal s) x h

pub after_at : (x : Terminal) (s : Place) (b : Bool) → sees x s ≡ b → after x s ≡ cond b (next s) s
unfolding after
after_at x s b h = ap (λ c. cond c (next s) s) h

-- a mark that was taken
pub eaten : (x : Terminal) (s : Place) → sees x s ≡ true → Tok x s (after x s)
eaten x s h = record { kind = sees_is x s h; rest = sym (after_at x s true h) }

pub left_alone : (x : Terminal) (s : Place) → sees x s ≡ false → s ≡ after x s
left_alone x s h = sym (after_at x s false h)

expect_by : (x : Terminal) (s r : Place) (u : Unit {0}) (b : Bool) → sees x s ≡ b → cond b (Ok (tt, next s)) (refuse s) ≡ Ok (u, r) → Tok x s r
expect_by x s r u true h e = record { kind = sees_is x s h; rest = (same_ok e).1 }
expect_by x s r u false h e = absurd (refused s r u e)

pub expected : (x : Terminal) (s r : Place) (u : Unit {0}) → expect x s ≡ Ok (u, r) → Tok x s r
unfolding expect
expected x s r u e = expect_by x s r u (sees x s) refl e

some_by : (test : Terminal → Bool) (s r : Place) (text : List ℕ) (b : Bool) → test (terminal s) ≡ b → cond b (Ok (spelling s, next s)) (refuse s) ≡ Ok (text, r) → IsText test s text r
some_by test s r text true h e = let (same_text, same_place) = same_ok e in record { kind = h; spelled = same_text; rest = same_place }
some_by test s r text false h e = absurd (refused s r text e)

-- a token that passes the test
pub text_sound : (test : Terminal → Bool) → Sound (expect_some test) (IsText test)
unfolding expect_some
text_sound test s r text e = some_by test s r text (test (terminal s)) refl e

-- ---- brackets

-- what is true of the level below is true of what is one level deeper
abbrev pub IsRoom : {R : Type 0} → (ℕ → R → Type 0) → ℕ → Option R → Type 0
IsRoom Good zero None = Unit {0}
IsRoom Good zero (Some rules) = ⊥
IsRoom Good (suc d) None = ⊥
IsRoom Good (suc d) (Some rules) = Good d rules

-- where something is read, a level is left
pub deeper_sound : {R A : Type 0} (Good : ℕ → R → Type 0) (Is : ℕ → Place → A → Place → Type 0) (inside : R → Parser A)
    → ((e : ℕ) (rules : R) → Good e rules → Sound (inside rules) (Is e))
    → (d : ℕ) (room : Option R) → IsRoom Good d room → (s r : Place) (x : A) → deeper room inside s ≡ Ok (x, r) → (e : ℕ) × (d ≡ suc e) × Is e (next s) x r
deeper_sound Good Is inside sound zero None good s r x e = absurd (cc)
deeper_sound Good Is inside sound zero (Some rules) good s r x e = absurd good
deeper_sound Good Is inside sound (suc d) None good s r x e = absurd good
deeper_sound Good Is inside sound (suc d) (Some rules) good s r x e = (d, refl, sound d rules good (next s) r x e)

-- what stands in brackets
pub in_brackets : (open_mark close_mark : Terminal) (Inside : ℕ → Place → Place → Type 0) (d e : ℕ) (s u r : Place)
    → d ≡ suc e → sees open_mark s ≡ true → Inside e (next s) u → Tok close_mark u r → InBrackets open_mark close_mark Inside d s r
in_brackets open_mark close_mark Inside d e s u r level opens inside closes =
    subst (λ n. InBrackets open_mark close_mark Inside n s r) (sym level) (next s, u, record { kind = sees_is open_mark s opens; rest = refl }, inside, closes)

pub bracket_sound : {R A : Type 0} (Good : ℕ → R → Type 0) (Is : ℕ → Place → A → Place → Type 0) (open_mark close_mark : Terminal) (inside : R → Parser A)
    → ((e : ℕ) (rules : R) → Good e rules → Sound (inside rules) (Is e))
    → (d : ℕ) (room : Option R) → IsRoom Good d room
    → Sound (bracket room open_mark inside close_mark) (λ s x r. InBrackets open_mark close_mark (λ e u v. Is e u x v) d s r)
unfolding bracket
bracket_sound Good Is open_mark close_mark inside sound d room good s r x e = by_test (taken (sees open_mark s) _ _ s r x e)
  where
    by_test : ((sees open_mark s ≡ true) × ((deeper room inside >>= (λ y. expect close_mark >> pure y)) s ≡ Ok (x, r))) ⊎ ((sees open_mark s ≡ false) × (refuse s ≡ Ok (x, r))) → InBrackets open_mark close_mark (λ e u v. Is e u x v) d s r
    by_test (inl (opens, e)) =
        let (y, u, e1, e2) = bind_ok (deeper room inside s) _ x r e in
        let (unit, v, e3, e4) = bind_ok (expect close_mark u) _ x r e2 in
        let (below, level, inner) = deeper_sound Good Is inside sound d room good s u y e1 in
        given (λ z w. InBrackets open_mark close_mark (λ e u v. Is e u z v) d s w) e4 (in_brackets open_mark close_mark (λ e u v. Is e u y v) d below s u v level opens inner (expected close_mark u v unit e3))
    by_test (inr (shut, e)) = absurd (refused s r x e)

-- ---- lists

-- what the loop adds to what was found
abbrev Adds : {A : Type 0} → (Place → A → Place → Type 0) → Place → List A → List A → Place → Type 0
Adds {A} Is s found all r = (x : A) × (xs : List A) × (s1 : Place) × (all ≡ found ++ x ∷ xs) × Is s x s1 × AreMore Is s1 xs r

separated_go : {A : Type 0} (Is : Place → A → Place → Type 0) (item : Parser A) (n : ℕ) → ((found all : List A) (s r : Place) → separated item n found s ≡ Ok (all, r) → Adds Is s found all r)
    → (found all : List A) (s s1 r : Place) (x : A) → Is s x s1 → (b : Bool) → sees t.Comma s1 ≡ b
    → (cond b (separated item n (found ++ x ∷ [])) (pure (found ++ x ∷ []))) (after t.Comma s1) ≡ Ok (all, r) → Adds Is s found all r
separated_go Is item n go found all s s1 r x is true c e =
    let (y, ys, s2, same_list, is_y, more) = go (found ++ x ∷ []) all (after t.Comma s1) r e in
    (x, y ∷ ys, s1, same_list ∙ append_assoc found (x ∷ []) (y ∷ ys), is, (after t.Comma s1, s2, eaten t.Comma s1 c, is_y, more))
separated_go Is item n go found all s s1 r x is false c e =
    let (same_list, same_place) = same_ok e in
    (x, [], s1, sym same_list, is, left_alone t.Comma s1 c ∙ same_place)

separated_sound : {A : Type 0} (Is : Place → A → Place → Type 0) (item : Parser A) → Sound item Is → (n : ℕ) (found all : List A) (s r : Place) → separated item n found s ≡ Ok (all, r) → Adds Is s found all r
unfolding separated
separated_sound Is item sound zero found all s r e = absurd (refused s r all e)
separated_sound Is item sound (suc n) found all s r e =
    let (x, s1, e1, e2) = bind_ok (item s) _ all r e in
    separated_go Is item n (separated_sound Is item sound n) found all s s1 r x (sound s s1 x e1) (sees t.Comma s1) refl e2

-- one or more with commas between
pub items_sound : {A : Type 0} (Is : Place → A → Place → Type 0) (item : Parser A) → Sound item Is → Sound (items item) (AreSome Is)
items_sound Is item sound s r all e =
    let (x, xs, s1, same_list, is, more) = separated_sound Is item sound (left s) [] all s r e in
    subst (λ ys. AreSome Is s ys r) (sym same_list) (s1, is, more)

pub some_listed : {A : Type 0} (Is : Place → A → Place → Type 0) (s r : Place) (xs : List A) → AreSome Is s xs r → AreListed Is s xs r
some_listed Is s r [] h = absurd h
some_listed Is s r (x ∷ xs) h = h

-- zero or more with commas between
pub list_sound : {A : Type 0} (Is : Place → A → Place → Type 0) (close_mark : Terminal) (item : Parser A) → Sound item Is → Sound (list close_mark item) (AreListed Is)
unfolding list
list_sound {A} Is close_mark item sound s r all e = by_test (taken (sees close_mark s) _ _ s r all e)
  where
    by_test : ((sees close_mark s ≡ true) × (done [] s ≡ done all r)) ⊎ ((sees close_mark s ≡ false) × (items item s ≡ Ok (all, r))) → AreListed Is s all r
    by_test (inl (closes, e)) = given (λ xs u. AreListed Is s xs u) e refl
    by_test (inr (goes_on, e)) = some_listed Is s r all (items_sound Is item sound s r all e)

-- one after the other, behind what was found, up to a mark
abbrev AddsMany : {A : Type 0} → (Place → A → Place → Type 0) → Terminal → Place → List A → List A → Place → Type 0
AddsMany {A} Is stop s found all r = (xs : List A) × (all ≡ found ++ xs) × AreMany Is s xs r × (terminal r ≡ stop)

many_end : {A : Type 0} (Is : Place → A → Place → Type 0) (stop : Terminal) (found all : List A) (s r : Place) → sees stop s ≡ true → done found s ≡ done all r → AddsMany Is stop s found all r
many_end {A} Is stop found all s r stops e = given (λ xs u. AddsMany Is stop s found xs u) e ([], sym (append-nil found), refl, sees_is stop s stops)

many_sound : {A : Type 0} (Is : Place → A → Place → Type 0) (stop : Terminal) (item : List A → Parser A) → ((found : List A) → Sound (item found) Is)
    → (n : ℕ) (found all : List A) (s r : Place) → many stop item n found s ≡ Ok (all, r) → AddsMany Is stop s found all r
unfolding many
many_sound Is stop item sound zero found all s r e = elim (taken (sees stop s) _ _ s r all e) [ inl h ↦ many_end Is stop found all s r h.0 h.1 | inr h ↦ absurd (refused s r all h.1) ]
many_sound Is stop item sound (suc n) found all s r e = elim (taken (sees stop s) _ _ s r all e) [
  | inl h ↦ many_end Is stop found all s r h.0 h.1
  | inr h ↦
      let (x, s1, e1, e2) = bind_ok (item found s) _ all r h.1 in
      let (xs, same_list, are, ends) = many_sound Is stop item sound n (found ++ x ∷ []) all s1 r e2 in
      (x ∷ xs, same_list ∙ append_assoc found (x ∷ []) xs, (s1, sound found s s1 x e1, are), ends)
]

-- one after the other, up to a mark
pub all_sound : {A : Type 0} (Is : Place → A → Place → Type 0) (stop : Terminal) (item : List A → Parser A) → ((found : List A) → Sound (item found) Is)
    → Sound (all_up_to stop item) (λ s xs r. AreMany Is s xs r × (terminal r ≡ stop))
all_sound Is stop item sound s r all e =
    let (xs, same_list, are, ends) = many_sound Is stop item sound (left s) [] all s r e in
    (subst (λ ys. AreMany Is s ys r) (sym same_list) are, ends)

many_keeps : {A : Type 0} (Keeps : List A → Type 0) (stop : Terminal) (item : List A → Parser A)
    → ((found : List A) (s r : Place) (x : A) → Keeps found → item found s ≡ Ok (x, r) → Keeps (found ++ x ∷ []))
    → (n : ℕ) (found all : List A) (s r : Place) → Keeps found → many stop item n found s ≡ Ok (all, r) → Keeps all
unfolding many
many_keeps Keeps stop item step zero found all s r keeps e = elim (taken (sees stop s) _ _ s r all e) [ inl h ↦ given (λ xs u. Keeps xs) h.1 keeps | inr h ↦ absurd (refused s r all h.1) ]
many_keeps Keeps stop item step (suc n) found all s r keeps e = elim (taken (sees stop s) _ _ s r all e) [
  | inl h ↦ given (λ xs u. Keeps xs) h.1 keeps
  | inr h ↦
      let (x, s1, e1, e2) = bind_ok (item found s) _ all r h.1 in
      many_keeps Keeps stop item step n (found ++ x ∷ []) all s1 r (step found s s1 x keeps e1) e2
]

-- what each item keeps of those before it is true of all
pub all_keep : {A : Type 0} (Keeps : List A → Type 0) (stop : Terminal) (item : List A → Parser A)
    → ((found : List A) (s r : Place) (x : A) → Keeps found → item found s ≡ Ok (x, r) → Keeps (found ++ x ∷ []))
    → Keeps [] → (s r : Place) (all : List A) → all_up_to stop item s ≡ Ok (all, r) → Keeps all
all_keep Keeps stop item step none s r all e = many_keeps Keeps stop item step (left s) [] all s r none e

-- ---- what may be left out

abbrev pub IsMaybe : {A : Type 0} → (Place → A → Place → Type 0) → Place → Option A → Place → Type 0
IsMaybe Is s None r = s ≡ r
IsMaybe Is s (Some x) r = Is s x r

-- behind a mark
abbrev pub Behind : {A : Type 0} → Terminal → (Place → A → Place → Type 0) → Place → A → Place → Type 0
Behind {A} mark Is s x r = (s1 : Place) × Tok mark s s1 × Is s1 x r

pub maybe_seen : {A : Type 0} (Is : Place → A → Place → Type 0) (mark : Terminal) (p : Parser A) → Sound p Is
    → (s r : Place) (o : Option A) → cond (sees mark s) (Some <$> p) (pure None) s ≡ Ok (o, r) → IsMaybe Is s o r
maybe_seen {A} Is mark p sound s r o e = elim (taken (sees mark s) _ _ s r o e) [ inl h ↦ mapped Some p (IsMaybe Is) sound s r o h.1 | inr h ↦ given (IsMaybe Is s) h.1 refl ]

pub maybe_eaten : {A : Type 0} (Is : Place → A → Place → Type 0) (mark : Terminal) (p : Parser A) → Sound p Is
    → (s r : Place) (o : Option A) → cond (sees mark s) (Some <$> p) (pure None) (after mark s) ≡ Ok (o, r) → IsMaybe (Behind mark Is) s o r
maybe_eaten {A} Is mark p sound s r o e = elim (taken (sees mark s) _ _ (after mark s) r o e) [
  | inl h ↦
      let (x, u, e1, e2) = bind_ok (p (after mark s)) _ o r h.1 in
      given (IsMaybe (Behind mark Is) s) e2 (after mark s, eaten mark s h.0, sound (after mark s) u x e1)
  | inr h ↦ given (IsMaybe (Behind mark Is) s) h.1 (left_alone mark s h.0)
]

-- a token whose terminal is known
pub token_is : (x : Terminal) (s : Place) → terminal s ≡ x → Tok x s (next s)
token_is x s h = record { kind = h; rest = refl }
