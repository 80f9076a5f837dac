-- Numbers that rise, with commas between.
use Rattle.std.proofs.Common.{◌≡◌, ℕ, ◌<◌, ◌^◌, true, false, List, [], ◌∷◌, ◌++◌, codes, decimal, drop, refl, sym, ap, ◌∙◌, arith, append-nil, subst}
use Rattle.std.specs.Prelude.{◌==◌, slice_index}
use Rattle.std.proofs.lemmas.List.{flat_map_more}
use Rattle.text_scan.specs.Bytes.{is_digit}
use Rattle.rewrite_model.specs.Taken.{IsRising}
use Rattle.run_log.specs.Cursor.{At, good, Takes, EndsNumber, EndsNumbers}
use Rattle.run_log.specs.Written.{AreWords}
use Rattle.std.proofs.lemmas.Bool.Decides.{nat_tests}
use Rattle.run_model.specs.LogText.{numbers_text}
use Rattle.run_log.proofs.Lines.{more_numbers}
use Rattle.run_log.proofs.Pieces.{takes_then, takes_as, joins, number_first, true_false}

-- Whatever numbers stood there, the ones read are their front, and the others are left.
abbrev pub LeftNumbers : At → At → ℕ → List ℕ → ℕ → Type 0
LeftNumbers start now first numbers last =
    (ns r : List ℕ) → AreWords ns → IsRising (first ∷ ns) → EndsNumbers r → start ≡ good (more_numbers ns ++ r)
    → (more : List ℕ) × AreWords more × IsRising (last ∷ more) × (first ∷ ns ≡ numbers ++ more) × (now ≡ good (more_numbers more ++ r))

pub left_all : (start : At) (first : ℕ) → LeftNumbers start start first (first ∷ []) first
left_all start first ns r words rising ends h = (ns, words, rising, refl, h)

-- behind numbers stands no digit
pub ends_more : (ns r : List ℕ) → EndsNumbers r → EndsNumber (more_numbers ns ++ r)
ends_more [] r ends = ends.0
ends_more (n ∷ ns) r ends = refl

-- what one more number makes of it
pub left_more : (start now mid new : At) (first : ℕ) (numbers : List ℕ) (last next : ℕ) → LeftNumbers start now first numbers last → (slice_index now.rest 0 == 44) ≡ true
    → ((r : List ℕ) → now ≡ good (codes "," ++ r) → mid ≡ good r)
    → ((x : ℕ) (r : List ℕ) → x < 2 ^ 32 → EndsNumber r → mid ≡ good (decimal x ++ r) → (next ≡ x) × (new ≡ good r))
    → (ns r : List ℕ) → AreWords ns → IsRising (first ∷ ns) → EndsNumbers r → start ≡ good (more_numbers ns ++ r)
    → (last < next) × ((more : List ℕ) × AreWords more × IsRising (next ∷ more) × (first ∷ ns ≡ (numbers ++ next ∷ []) ++ more) × (new ≡ good (more_numbers more ++ r)))
left_more start now mid new first numbers last next left comma at_comma reads ns r words rising ends h = by_more (left ns r words rising ends h)
  where
    by_more : ((more : List ℕ) × AreWords more × IsRising (last ∷ more) × (first ∷ ns ≡ numbers ++ more) × (now ≡ good (more_numbers more ++ r))) → (last < next) × ((more : List ℕ) × AreWords more × IsRising (next ∷ more) × (first ∷ ns ≡ (numbers ++ next ∷ []) ++ more) × (new ≡ good (more_numbers more ++ r)))
    by_more ([], all, rises, is, at) = absurd (true_false (sym comma ∙ ap (λ a. slice_index a.rest 0 == 44) at ∙ ends.1))
    by_more (x ∷ more, all, rises, is, at) =
        let behind = at_comma (decimal x ++ (more_numbers more ++ r)) (at ∙ ap (λ t. good (44 ∷ t)) (joins (decimal x) (more_numbers more) r)) in
        let (same, next_at) = reads x (more_numbers more ++ r) all.0 (ends_more more r ends) behind in
        (rw same rises.0, (more, all.1, subst IsRising (ap (λ f. f ∷ more) (sym same)) rises.1, is ∙ sym (joins numbers (next ∷ []) more ∙ ap (λ y. numbers ++ (y ∷ more)) same), next_at))

-- where the loop ends
pub left_none : (start now : At) (first : ℕ) (numbers : List ℕ) (last : ℕ) (ns r : List ℕ) → LeftNumbers start now first numbers last → (now.ok ≡ true → (slice_index now.rest 0 == 44) ≡ false)
    → AreWords ns → IsRising (first ∷ ns) → EndsNumbers r → start ≡ good (more_numbers ns ++ r) → (numbers ≡ first ∷ ns) × (now ≡ good r)
left_none start now first numbers last ns r left none words rising ends h = by_more (left ns r words rising ends h)
  where
    by_more : ((more : List ℕ) × AreWords more × IsRising (last ∷ more) × (first ∷ ns ≡ numbers ++ more) × (now ≡ good (more_numbers more ++ r))) → (numbers ≡ first ∷ ns) × (now ≡ good r)
    by_more ([], all, rises, is, at) = (sym (is ∙ append-nil numbers), at)
    by_more (x ∷ more, all, rises, is, at) = absurd (true_false (sym (ap (λ a. slice_index a.rest 0 == 44) at) ∙ none (ap (λ a. a.ok) at)))

pub rises_more : (front : List ℕ) (last next : ℕ) → IsRising (front ++ last ∷ []) → last < next → IsRising ((front ++ last ∷ []) ++ next ∷ [])
rises_more [] last next rising h = (h, tt)
rises_more (a ∷ []) last next rising h = (rising.0, (h, tt))
rises_more (a ∷ b ∷ front) last next rising h = (rising.0, rises_more (b ∷ front) last next rising.1 h)

pub more_text : (numbers : List ℕ) (first n : ℕ) → numbers ≡ first ∷ drop 1 numbers → more_numbers (drop 1 numbers) ++ (codes "," ++ decimal n) ≡ more_numbers (drop 1 (numbers ++ n ∷ []))
more_text [] first n h = absurd (cc)
more_text (a ∷ numbers) first n h = flat_map_more (λ (m : ℕ). codes "," ++ decimal m) [] numbers n

pub starts_more : (numbers : List ℕ) (first n : ℕ) → numbers ≡ first ∷ drop 1 numbers → numbers ++ n ∷ [] ≡ first ∷ drop 1 (numbers ++ n ∷ [])
starts_more [] first n h = absurd (cc)
starts_more (a ∷ numbers) first n h = ap (λ x. x ∷ (numbers ++ n ∷ [])) (ap (λ t. slice_index t 0) h)

pub took_more : (start now mid new : At) (numbers : List ℕ) (first n : ℕ) → numbers ≡ first ∷ drop 1 numbers → Takes start now (more_numbers (drop 1 numbers)) → Takes now mid (codes ",") → Takes mid new (decimal n)
    → Takes start new (more_numbers (drop 1 (numbers ++ n ∷ [])))
took_more start now mid new numbers first n starts x y z =
    takes_as start new (more_numbers (drop 1 numbers) ++ (codes "," ++ decimal n)) (more_numbers (drop 1 (numbers ++ n ∷ [])))
    (takes_then start now new (more_numbers (drop 1 numbers)) (codes "," ++ decimal n) x (takes_then now mid new (codes ",") (decimal n) y z))
    (more_text numbers first n starts)

pub other_byte : (b : ℕ) → (b ≡ 44 → ⊥) → (b == 44) ≡ false
other_byte b h = grind (arith, nat_tests)

-- a dash stands for no numbers
pub dash_none : (ns r : List ℕ) → AreWords ns → slice_index (numbers_text ns ++ r) 0 ≡ 45 → ns ≡ []
dash_none [] r words h = refl
dash_none (n ∷ ns) r words h =
    absurd (true_false (sym (number_first n (more_numbers ns ++ r) (omega (arith, words.0))) ∙ ap (λ t. is_digit (slice_index t 0)) (sym (joins (decimal n) (more_numbers ns) r)) ∙ ap is_digit h))

pub dash_some : (ns r : List ℕ) → (slice_index (numbers_text ns ++ r) 0 ≡ 45 → ⊥) → (n : ℕ) × (more : List ℕ) × (ns ≡ n ∷ more)
dash_some [] r h = absurd (h refl)
dash_some (n ∷ ns) r h = (n, ns, refl)

pub words_more : (ns : List ℕ) (n : ℕ) → AreWords ns → n < 2 ^ 32 → AreWords (ns ++ n ∷ [])
words_more [] n all h = (h, tt)
words_more (x ∷ ns) n all h = (all.0, words_more ns n all.1 h)
