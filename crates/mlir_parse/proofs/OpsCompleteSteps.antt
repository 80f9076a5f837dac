-- What is spelled in brackets and in lists is read.
use Rattle.std.proofs.Common.{◌≡◌, ◌≢◌, ℕ, zero, suc, ◌+◌, ◌-◌, ◌<◌, ◌≤◌, true, false, List, [], ◌∷◌, ◌++◌, length, refl, ap, sym, subst, ◌∙◌, Ok, append_assoc, length-append, arith}
use Rattle.std.specs.Prelude.{◌==◌}
use Rattle.std.proofs.lemmas.Bool.Decides.{nat_tests}
use Rattle.mlir_lexer.specs.declared.token.TokenKind.{TokenKind}
use Rattle.mlir_lexer.specs.declared.token.TokenKind.TheVariants as k
use Rattle.mlir_attributes.specs.Place.{Place, left, sees}
use Rattle.mlir_attributes.specs.Input.{Parser, separated, items}
use Rattle.mlir_attributes.specs.Grammar.{IsMark}
use Rattle.mlir_attributes.specs.AttributeGrammar.{AreMore}
use Rattle.mlir_parse.specs.Lists.{AreListed, AreSome, InBrackets}
use Rattle.mlir_attributes.specs.Steps.{opening, bracketed, counted, counted_items, listed, max_parts}
use Rattle.mlir_attributes.proofs.Tokens.{IsWithin, spelled_within, spelled_sees, spelled_next, spelled_shorter, unseen, expects, after_at, eaten_is}

-- the rule reads this from the place up to the other one, which is further on
pub record Takes {A : Type 0} (p : Parser A) (s : Place) (x : A) (r : Place) : Type 0 where
  pub reads : p s ≡ Ok (x, r)
  pub moves : left r < left s
  pub within : IsWithin r

-- the rule reads this from the place up to the other one, which may be the same
pub record Passes {A : Type 0} (p : Parser A) (s : Place) (x : A) (r : Place) : Type 0 where
  pub reads : p s ≡ Ok (x, r)
  pub moves : left r ≤ left s
  pub within : IsWithin r

pub passes : {A : Type 0} {p : Parser A} {s r : Place} {x : A} → Takes p s x r → Passes p s x r
passes h = record { reads = h.reads; moves = omega (arith, h.moves); within = h.within }

-- The rule reads whatever is spelled so.
abbrev pub TakesAll : {A : Type 0} → Parser A → (Place → A → Place → Type 0) → Type 0
TakesAll {A} p Is = (s r : Place) (x : A) → IsWithin s → Is s x r → Takes p s x r

abbrev pub PassesAll : {A : Type 0} → Parser A → (Place → A → Place → Type 0) → Type 0
PassesAll {A} p Is = (s r : Place) (x : A) → IsWithin s → Is s x r → Passes p s x r

-- ---- brackets

pub mark_moves : (j : TokenKind) (s r : Place) → j ≢ k.End → IsMark j s r → left r < left s
mark_moves j s r other (text, h) = spelled_shorter j text s r other h

pub mark_within : (j : TokenKind) (s r : Place) → IsMark j s r → IsWithin r
mark_within j s r (text, h) = spelled_within j text s r h

bracket_reads : {A : Type 0} (o c : TokenKind) (inside : ℕ → Parser A) (room : ℕ) (x : A) (s s1 s2 r : Place) → IsMark o s s1 → inside room s1 ≡ Ok (x, s2) → IsMark c s2 r
    → bracketed o c inside (suc room) s ≡ Ok (x, r)
unfolding bracketed opening
bracket_reads o c inside room x s s1 s2 r (o_text, opens) is (c_text, closes) =
    let none : (suc room == 0) ≡ false = grind (arith, nat_tests) in
    let one : room ≡ suc room - 1 = omega arith in
    let here : inside (suc room - 1) s1 ≡ Ok (x, s2) = subst (λ d. inside d s1 ≡ Ok (x, s2)) one is in
    rw (spelled_sees o o_text s s1 opens, none, spelled_next o o_text s s1 opens, here, expects c c_text s2 r closes) refl

-- what stands in brackets is read, where what stands inside is read with one bracket fewer to open
pub in_brackets : {A : Type 0} (o c : TokenKind) (inside : ℕ → Parser A) (Inside : ℕ → Place → Place → Type 0) (x : A) → o ≢ k.End → c ≢ k.End → (room : ℕ)
    → ((d : ℕ) (u v w : Place) → room ≡ suc d → IsWithin u → Inside d u v → IsMark c v w → Passes (inside d) u x v)
    → (s r : Place) → InBrackets o c Inside room s r → Takes (bracketed o c inside room) s x r
in_brackets o c inside Inside x o_end c_end zero reads s r h = absurd h
in_brackets o c inside Inside x o_end c_end (suc room) reads s r (s1, s2, opens, is, closes) =
    let within = reads room s1 s2 r refl (mark_within o s s1 opens) is closes in
    record {
      reads = bracket_reads o c inside room x s s1 s2 r opens within.reads closes;
      moves = omega (arith, within.moves, mark_moves o s s1 o_end opens, mark_moves c s2 r c_end closes);
      within = mark_within c s2 r closes;
    }

-- which token a bracket begins with
pub bracket_opens : (o c : TokenKind) (Inside : ℕ → Place → Place → Type 0) (room : ℕ) (s r : Place) → InBrackets o c Inside room s r → (s1 : Place) × IsMark o s s1
bracket_opens o c Inside zero s r h = absurd h
bracket_opens o c Inside (suc room) s r (s1, s2, opens, is, closes) = (s1, opens)

-- ---- lists

comma_moves : (s r : Place) → IsMark k.Comma s r → left r < left s
comma_moves s r h = mark_moves k.Comma s r (λ e. cc) h

module _ {A : Type 0} (One : Place → A → Place → Type 0) where
  module _ (item : ℕ → Parser A) (reads : (before : ℕ) → before < max_parts → TakesAll (item before) One) where
    counted_more : (n : ℕ) (found : List A) (s s1 s2 : Place) (x : A) → item (length found) s ≡ Ok (x, s1) → IsMark k.Comma s1 s2 → counted item (suc n) found s ≡ counted item n (found ++ x ∷ []) s2
    unfolding counted
    counted_more n found s s1 s2 x e (text, c) = rw (e, spelled_sees k.Comma text s1 s2 c, eaten_is k.Comma text s1 s2 c) refl

    counted_last : (n : ℕ) (found : List A) (s s1 : Place) (x : A) → item (length found) s ≡ Ok (x, s1) → sees k.Comma s1 ≡ false → counted item (suc n) found s ≡ Ok (found ++ x ∷ [], s1)
    unfolding counted
    counted_last n found s s1 x e c = rw (e, c, after_at k.Comma s1 false c) refl

    counted_reads : (xs : List A) (n : ℕ) (found : List A) (x : A) (s s1 r : Place) → Takes (item (length found)) s x s1 → AreMore k.Comma One s1 xs r → left s ≤ n → length found + length xs < max_parts
        → Takes (counted item n found) s (found ++ x ∷ xs) r
    counted_reads xs zero found x s s1 r one more fits few = absurd (let up = one.moves in omega arith)
    counted_reads [] (suc n) found x s s1 r one (alone, same) fits few = record {
      reads = subst (λ u. counted item (suc n) found s ≡ Ok (found ++ x ∷ [], u)) same (counted_last n found s s1 x one.reads (unseen k.Comma s1 one.within alone));
      moves = omega (arith, one.moves, ap left same);
      within = subst IsWithin same one.within;
    }
    counted_reads (y ∷ ys) (suc n) found x s s1 r one (s2, s3, comma, two, more) fits few =
        let long = length-append found (x ∷ []) in
        let up = comma_moves s1 s2 comma in
        let next = reads (length (found ++ x ∷ [])) (omega (arith, long, few)) s2 s3 y (mark_within k.Comma s1 s2 comma) two in
        let rest = counted_reads ys n (found ++ x ∷ []) y s2 s3 r next more (omega (arith, one.moves, up)) (omega (arith, long, few)) in
        record {
          reads = counted_more n found s s1 s2 x one.reads comma ∙ (rest.reads ∙ (λ i. Ok (append_assoc found (x ∷ []) (y ∷ ys) i, r)));
          moves = omega (arith, one.moves, up, rest.moves);
          within = rest.within;
        }

    pub counted_read : (s r : Place) (xs : List A) → IsWithin s → AreSome One s xs r → length xs ≤ max_parts → Takes (counted_items item) s xs r
    counted_read s r [] within h few = absurd h
    counted_read s r (x ∷ xs) within (s1, one, more) few =
        let all = counted_reads xs (left s) [] x s s1 r (reads 0 (omega arith) s s1 x within one) more (omega arith) (omega (arith, few)) in
        record { reads = all.reads; moves = all.moves; within = all.within }

  module _ (item : Parser A) (reads : TakesAll item One) where
    separated_more : (n : ℕ) (found : List A) (s s1 s2 : Place) (x : A) → item s ≡ Ok (x, s1) → IsMark k.Comma s1 s2 → separated k.Comma item (suc n) found s ≡ separated k.Comma item n (found ++ x ∷ []) s2
    unfolding separated
    separated_more n found s s1 s2 x e (text, c) = rw (e, spelled_sees k.Comma text s1 s2 c, eaten_is k.Comma text s1 s2 c) refl

    separated_last : (n : ℕ) (found : List A) (s s1 : Place) (x : A) → item s ≡ Ok (x, s1) → sees k.Comma s1 ≡ false → separated k.Comma item (suc n) found s ≡ Ok (found ++ x ∷ [], s1)
    unfolding separated
    separated_last n found s s1 x e c = rw (e, c, after_at k.Comma s1 false c) refl

    separated_reads : (xs : List A) (n : ℕ) (found : List A) (x : A) (s s1 r : Place) → Takes item s x s1 → AreMore k.Comma One s1 xs r → left s ≤ n → Takes (separated k.Comma item n found) s (found ++ x ∷ xs) r
    separated_reads xs zero found x s s1 r one more fits = absurd (let up = one.moves in omega arith)
    separated_reads [] (suc n) found x s s1 r one (alone, same) fits = record {
      reads = subst (λ u. separated k.Comma item (suc n) found s ≡ Ok (found ++ x ∷ [], u)) same (separated_last n found s s1 x one.reads (unseen k.Comma s1 one.within alone));
      moves = omega (arith, one.moves, ap left same);
      within = subst IsWithin same one.within;
    }
    separated_reads (y ∷ ys) (suc n) found x s s1 r one (s2, s3, comma, two, more) fits =
        let up = comma_moves s1 s2 comma in
        let next = reads s2 s3 y (mark_within k.Comma s1 s2 comma) two in
        let rest = separated_reads ys n (found ++ x ∷ []) y s2 s3 r next more (omega (arith, one.moves, up)) in
        record {
          reads = separated_more n found s s1 s2 x one.reads comma ∙ (rest.reads ∙ (λ i. Ok (append_assoc found (x ∷ []) (y ∷ ys) i, r)));
          moves = omega (arith, one.moves, up, rest.moves);
          within = rest.within;
        }

    pub items_read : (s r : Place) (xs : List A) → IsWithin s → AreSome One s xs r → Takes (items item) s xs r
    items_read s r [] within h = absurd h
    items_read s r (x ∷ xs) within (s1, one, more) =
        let all = separated_reads xs (left s) [] x s s1 r (reads s s1 x within one) more (omega arith) in
        record { reads = all.reads; moves = all.moves; within = all.within }

  module _ (close_mark : TokenKind) (some : Parser (List A)) (begins : (s r : Place) (x : A) → One s x r → sees close_mark s ≡ false) where
    list_empty : (s : Place) → sees close_mark s ≡ true → listed close_mark some s ≡ Ok ([], s)
    unfolding listed
    list_empty s h = rw h refl

    list_some : (s r : Place) (xs : List A) → sees close_mark s ≡ false → some s ≡ Ok (xs, r) → listed close_mark some s ≡ Ok (xs, r)
    unfolding listed
    list_some s r xs h e = rw h e

    pub listed_read : (s r w : Place) (xs : List A) → IsWithin s → (AreSome One s xs r → Takes some s xs r) → AreListed One s xs r → IsMark close_mark r w → Passes (listed close_mark some) s xs r
    listed_read s r w [] within reads same (text, closes) = record {
      reads = list_empty s (subst (λ u. sees close_mark u ≡ true) (sym same) (spelled_sees close_mark text r w closes)) ∙ (λ i. Ok ([], same i));
      moves = omega (arith, ap left same);
      within = subst IsWithin same within;
    }
    listed_read s r w (x ∷ xs) within reads (s1, one, more) closes =
        let all = reads (s1, one, more) in
        record { reads = list_some s r (x ∷ xs) (begins s s1 x one) all.reads; moves = omega (arith, all.moves); within = all.within }
