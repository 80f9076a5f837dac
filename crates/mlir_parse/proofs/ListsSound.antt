-- Brackets and lists that are read stand there.
use Rattle.std.proofs.Common.{◌≡◌, ℕ, zero, suc, ◌-◌, ◌<◌, ◌≤◌, Bool, true, false, cond, List, [], ◌∷◌, ◌++◌, length, refl, ap, sym, subst, ◌∙◌, Ok, Err, append_assoc, append-nil, length-append, arith}
use Rattle.std.specs.Prelude.{◌==◌}
use Rattle.mlir_lexer.specs.declared.token.TokenKind.{TokenKind}
use Rattle.mlir_lexer.specs.declared.token.TokenKind.TheVariants as k
use Rattle.mlir_attributes.specs.declared.fault.ModKind.TheVariants as faults
use Rattle.mlir_attributes.specs.Place.{Place, fault, left, sees, start, spelling, next}
use Rattle.mlir_attributes.specs.Input.{Outcome, Parser, after, expect, refuse, pure, separated, items, ◌>>=◌}
use Rattle.mlir_attributes.specs.Grammar.{IsSpelled, IsMark}
use Rattle.mlir_attributes.specs.AttributeGrammar.{AreMore}
use Rattle.mlir_parse.specs.Lists.{AreListed, AreSome, AreMany, InBrackets}
use Rattle.mlir_attributes.specs.Steps.{opening, bracketed, counted, counted_items, listed, many, all_up_to, max_parts}
use Rattle.mlir_attributes.proofs.Tokens.{bind_ok, same_ok, IsWithin, taken, not_seen, eaten, left_alone, expected}
use Rattle.mlir_attributes.proofs.TypesSound.{Finds}

-- ---- brackets

opening_by : (mark : TokenKind) (room : ℕ) (s r : Place) (u : Unit {0}) (b c : Bool) → IsWithin s → sees mark s ≡ b → (room == 0) ≡ c
    → cond {A = Outcome (Unit {0})} b (cond c (Err (fault faults.TooMany (start s))) (Ok (tt, next s))) (refuse s) ≡ Ok (u, r) → (0 < room) × IsMark mark s r × IsWithin r
opening_by mark zero s r u true false within is none h = absurd (cc)
opening_by mark (suc room) s r u true false within is none h =
    let first = taken mark s within is in
    let same = same_ok h in
    (omega arith, (spelling s, subst (IsSpelled mark (spelling s) s) same.1 first.0), subst IsWithin same.1 first.1)
opening_by mark room s r u true true within is none h = absurd (cc)
opening_by mark room s r u false c within is none h = absurd (cc)

pub opening_sound : (mark : TokenKind) (room : ℕ) (s r : Place) (u : Unit {0}) → IsWithin s → opening mark room s ≡ Ok (u, r) → (0 < room) × IsMark mark s r × IsWithin r
unfolding opening
opening_sound mark room s r u within h = opening_by mark room s r u (sees mark s) (room == 0) within refl refl h

module _ {A : Type 0} (open_mark close_mark : TokenKind) (inside : ℕ → Parser A) (Inside : ℕ → Place → A → Place → Type 0) where
  in_brackets : (room : ℕ) (s s1 s2 r : Place) (x : A) → 0 < room → IsMark open_mark s s1 → Inside (room - 1) s1 x s2 → IsMark close_mark s2 r → InBrackets open_mark close_mark (λ d u v. Inside d u x v) room s r
  in_brackets zero s s1 s2 r x some opens is shut = absurd (omega arith)
  in_brackets (suc room) s s1 s2 r x some opens is shut =
      let one : suc room - 1 ≡ room = omega arith in
      (s1, s2, opens, subst (λ d. Inside d s1 x s2) one is, shut)

  pub bracketed_at : (room : ℕ) → Finds (Inside (room - 1)) (inside (room - 1)) → Finds (λ s x r. InBrackets open_mark close_mark (λ d u v. Inside d u x v) room s r) (bracketed open_mark close_mark inside room)
  unfolding bracketed
  bracketed_at room reads s r x within e =
      let o = bind_ok (opening open_mark room s) _ x r e in
      let i = bind_ok (inside (room - 1) o.1) _ x r o.3 in
      let c = bind_ok (expect close_mark i.1) _ x r i.3 in
      let same = same_ok c.3 in
      let opens = opening_sound open_mark room s o.1 o.0 within o.2 in
      let found = reads o.1 i.1 i.0 opens.2 i.2 in
      let shut = expected close_mark i.1 c.1 c.0 found.1 c.2 in
      (in_brackets room s o.1 i.1 r x opens.0 opens.1 (subst (λ y. Inside (room - 1) o.1 y i.1) same.0 found.0) (subst (IsMark close_mark i.1) same.1 shut.0), subst IsWithin same.1 shut.1)

  pub bracketed_sound : ((room : ℕ) → Finds (Inside room) (inside room)) → (room : ℕ) → Finds (λ s x r. InBrackets open_mark close_mark (λ d u v. Inside d u x v) room s r) (bracketed open_mark close_mark inside room)
  bracketed_sound reads room = bracketed_at room (reads (room - 1))

-- ---- lists

module _ {A : Type 0} (One : Place → A → Place → Type 0) where
  some_of : (s s1 r : Place) (x : A) (xs all : List A) → all ≡ x ∷ xs → One s x s1 → AreMore k.Comma One s1 xs r → AreSome One s all r
  some_of s s1 r x xs all is first more = subst (λ ys. AreSome One s ys r) (sym is) (s1, first, more)

  module _ (item : Parser A) (reads : Finds One item) where
    abbrev Adds : Place → List A → List A → Place → Type 0
    Adds s found all r = (x : A) × (xs : List A) × (s1 : Place) × (all ≡ found ++ x ∷ xs) × One s x s1 × AreMore k.Comma One s1 xs r × IsWithin r

    separated_go : (n : ℕ) → ((found all : List A) (s r : Place) → IsWithin s → separated k.Comma item n found s ≡ Ok (all, r) → Adds s found all r)
        → (found all : List A) (s s1 r : Place) (x : A) → One s x s1 → IsWithin s1 → (b : Bool) → sees k.Comma s1 ≡ b
        → (cond b (separated k.Comma item n (found ++ x ∷ [])) (pure (found ++ x ∷ []))) (after k.Comma s1) ≡ Ok (all, r) → Adds s found all r
    separated_go n go found all s s1 r x h within true c e =
        let comma = eaten k.Comma s1 within c in
        let more = go (found ++ x ∷ []) all (after k.Comma s1) r comma.1 e in
        (x, more.0 ∷ more.1, s1, more.3 ∙ append_assoc found (x ∷ []) (more.0 ∷ more.1), h, (after k.Comma s1, more.2, comma.0, more.4, more.5), more.6)
    separated_go n go found all s s1 r x h within false c e =
        let end = same_ok e in
        let same : s1 ≡ r = sym (left_alone k.Comma s1 c) ∙ end.1 in
        (x, [], s1, sym end.0, h, (not_seen k.Comma s1 c, same), subst IsWithin same within)

    separated_sound : (n : ℕ) (found all : List A) (s r : Place) → IsWithin s → separated k.Comma item n found s ≡ Ok (all, r) → Adds s found all r
    unfolding separated
    separated_sound zero found all s r within e = absurd (cc)
    separated_sound (suc n) found all s r within e =
        let one = bind_ok (item s) _ all r e in
        let first = reads s one.1 one.0 within one.2 in
        separated_go n (separated_sound n) found all s one.1 r one.0 first.0 first.1 (sees k.Comma one.1) refl one.3

    pub items_sound : Finds (AreSome One) (items item)
    items_sound s r all within e =
        let (x, xs, s1, is, first, more, inside) = separated_sound (left s) [] all s r within e in
        (some_of s s1 r x xs all is first more, inside)

  module _ (item : ℕ → Parser A) (reads : (before : ℕ) (s r : Place) (x : A) → IsWithin s → item before s ≡ Ok (x, r) → One s x r × IsWithin r × (before < max_parts)) where
    abbrev Counts : Place → List A → List A → Place → Type 0
    Counts s found all r = (x : A) × (xs : List A) × (s1 : Place) × (all ≡ found ++ x ∷ xs) × One s x s1 × AreMore k.Comma One s1 xs r × IsWithin r × (length all ≤ max_parts)

    counted_go : (n : ℕ) → ((found all : List A) (s r : Place) → IsWithin s → counted item n found s ≡ Ok (all, r) → Counts s found all r)
        → (found all : List A) (s s1 r : Place) (x : A) → One s x s1 → IsWithin s1 → length found < max_parts → (b : Bool) → sees k.Comma s1 ≡ b
        → (cond b (counted item n (found ++ x ∷ [])) (pure (found ++ x ∷ []))) (after k.Comma s1) ≡ Ok (all, r) → Counts s found all r
    counted_go n go found all s s1 r x h within few true c e =
        let comma = eaten k.Comma s1 within c in
        let more = go (found ++ x ∷ []) all (after k.Comma s1) r comma.1 e in
        (x, more.0 ∷ more.1, s1, more.3 ∙ append_assoc found (x ∷ []) (more.0 ∷ more.1), h, (after k.Comma s1, more.2, comma.0, more.4, more.5), more.6, more.7)
    counted_go n go found all s s1 r x h within few false c e =
        let end = same_ok e in
        let same : s1 ≡ r = sym (left_alone k.Comma s1 c) ∙ end.1 in
        let all_are : length (found ++ x ∷ []) ≡ length all = ap length end.0 in
        (x, [], s1, sym end.0, h, (not_seen k.Comma s1 c, same), subst IsWithin same within, omega (arith, few, all_are, length-append found (x ∷ [])))

    counted_sound : (n : ℕ) (found all : List A) (s r : Place) → IsWithin s → counted item n found s ≡ Ok (all, r) → Counts s found all r
    unfolding counted
    counted_sound zero found all s r within e = absurd (cc)
    counted_sound (suc n) found all s r within e =
        let one = bind_ok (item (length found) s) _ all r e in
        let (first, inside, few) = reads (length found) s one.1 one.0 within one.2 in
        counted_go n (counted_sound n) found all s one.1 r one.0 first inside few (sees k.Comma one.1) refl one.3

    pub counted_items_sound : Finds (λ s xs r. AreSome One s xs r × (length xs ≤ max_parts)) (counted_items item)
    counted_items_sound s r all within e =
        let (x, xs, s1, is, first, more, inside, few) = counted_sound (left s) [] all s r within e in
        ((some_of s s1 r x xs all is first more, few), inside)

  some_listed : (s r : Place) (xs : List A) → AreSome One s xs r → AreListed One s xs r
  some_listed s r [] h = absurd h
  some_listed s r (x ∷ xs) h = h

  module _ (close_mark : TokenKind) (some : Parser (List A)) (reads : Finds (λ s xs r. AreSome One s xs r × (length xs ≤ max_parts)) some) where
    listed_by : (s r : Place) (xs : List A) (b : Bool) → IsWithin s → (cond b (pure []) some) s ≡ Ok (xs, r) → (AreListed One s xs r × (length xs ≤ max_parts)) × IsWithin r
    listed_by s r xs true within e =
        let same = same_ok e in
        let none : 0 ≡ length xs = ap length same.0 in
        ((subst (λ ys. AreListed One s ys r) same.0 same.1, omega (arith, none)), subst IsWithin same.1 within)
    listed_by s r xs false within e =
        let found = reads s r xs within e in
        ((some_listed s r xs found.0.0, found.0.1), found.1)

    pub listed_sound : Finds (λ s xs r. AreListed One s xs r × (length xs ≤ max_parts)) (listed close_mark some)
    unfolding listed
    listed_sound s r xs within e = listed_by s r xs (sees close_mark s) within e

  module _ (close_mark : TokenKind) (some : Parser (List A)) (reads : Finds (AreSome One) some) where
    any_listed_by : (s r : Place) (xs : List A) (b : Bool) → IsWithin s → (cond b (pure []) some) s ≡ Ok (xs, r) → AreListed One s xs r × IsWithin r
    any_listed_by s r xs true within e = let same = same_ok e in (subst (λ ys. AreListed One s ys r) same.0 same.1, subst IsWithin same.1 within)
    any_listed_by s r xs false within e = let found = reads s r xs within e in (some_listed s r xs found.0, found.1)

    pub any_listed_sound : Finds (AreListed One) (listed close_mark some)
    unfolding listed
    any_listed_sound s r xs within e = any_listed_by s r xs (sees close_mark s) within e

  module _ (stop : TokenKind) (item : Parser A) (reads : Finds One item) where
    many_go : (n : ℕ) → ((found all : List A) (s r : Place) → IsWithin s → many stop item n found s ≡ Ok (all, r) → (xs : List A) × (all ≡ found ++ xs) × AreMany One s xs r × IsWithin r)
        → (found all : List A) (s r : Place) (b : Bool) → IsWithin s
        → (cond b (pure found) (item >>= (λ x. many stop item n (found ++ x ∷ [])))) s ≡ Ok (all, r) → (xs : List A) × (all ≡ found ++ xs) × AreMany One s xs r × IsWithin r
    many_go n go found all s r true within e =
        let same = same_ok e in
        ([], sym same.0 ∙ sym (append-nil found), same.1, subst IsWithin same.1 within)
    many_go n go found all s r false within e =
        let one = bind_ok (item s) _ all r e in
        let first = reads s one.1 one.0 within one.2 in
        let (xs, is, more, inside) = go (found ++ one.0 ∷ []) all one.1 r first.1 one.3 in
        (one.0 ∷ xs, is ∙ append_assoc found (one.0 ∷ []) xs, (one.1, first.0, more), inside)

    none_left : (found all : List A) (s r : Place) (b : Bool) → IsWithin s → (cond b (pure found) refuse) s ≡ Ok (all, r) → (xs : List A) × (all ≡ found ++ xs) × AreMany One s xs r × IsWithin r
    none_left found all s r true within e =
        let same = same_ok e in
        ([], sym same.0 ∙ sym (append-nil found), same.1, subst IsWithin same.1 within)
    none_left found all s r false within e = absurd (cc)

    many_sound : (n : ℕ) (found all : List A) (s r : Place) → IsWithin s → many stop item n found s ≡ Ok (all, r) → (xs : List A) × (all ≡ found ++ xs) × AreMany One s xs r × IsWithin r
    unfolding many
    many_sound zero found all s r within e = none_left found all s r (sees stop s) within e
    many_sound (suc n) found all s r within e = many_go n (many_sound n) found all s r (sees stop s) within e

    pub all_sound : Finds (AreMany One) (all_up_to stop item)
    all_sound s r all within e =
        let (xs, is, are, inside) = many_sound (left s) [] all s r within e in
        (subst (λ ys. AreMany One s ys r) (sym is) are, inside)
