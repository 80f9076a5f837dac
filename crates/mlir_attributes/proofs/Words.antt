-- Words that are types.
use Rattle.std.proofs.Common.{◌≡◌, ◌≢◌, ℕ, ◌+◌, ◌<◌, ◌≤◌, Bool, true, false, cond, List, [], ◌∷◌, ◌++◌, length, drop, refl, ap, sym, subst, ◌∙◌, arith, inl, inr, slice_index, eqb-true, Result, Ok, Err, codes}
use Rattle.std.specs.Prelude.{Option, Some, None, nat_le, ◌==◌, ◌&&◌, ◌||◌, not, ◌⊎◌}
use Rattle.std.specs.List.{list_all}
use Rattle.std.specs.Str.{bytes_eq}
use Rattle.std.specs.Str.Parse.{AllDigits, digits_value}
use Rattle.std.specs.Char.{digit_value}
use Rattle.std.proofs.lemmas.Bool.{and_parts, leb-true, le-leb}
use Rattle.std.proofs.lemmas.Bool.Decides.{nat_tests}
use Rattle.std.proofs.lemmas.Option.{same_Some, none-some}
use Rattle.std.proofs.lemmas.Slice.Eq.{bytes_eq-Decides}
use Rattle.std.proofs.lemmas.Str.Parse.{digit_from_value}
use Rattle.text_scan.specs.Bytes.{is_digit}
use Rattle.mlir_lexer.specs.declared.token.TokenKind.TheVariants as k
use Rattle.mlir_tree.specs.declared.sign.Sign.{Sign}
use Rattle.mlir_tree.specs.declared.sign.Sign.TheVariants.{Signless, Signed, Unsigned}
use Rattle.mlir_tree.specs.Tree.{Ty, int, index, word}
use Rattle.mlir_tree.specs.SignText.{sign_text}
use Rattle.mlir_attributes.specs.declared.fault.ModFault.{ModFault}
use Rattle.mlir_attributes.specs.declared.fault.ModKind.TheVariants as faults
use Rattle.mlir_attributes.specs.declared.aliases.Alias.{Alias}
use Rattle.mlir_attributes.specs.Place.{Place, fault}
use Rattle.mlir_attributes.specs.Types.{is_width, int_word, max_width, leaf_by, leaf, is_other_word}
use Rattle.mlir_attributes.specs.Grammar.{IsSpelled, IsNot}
use Rattle.mlir_attributes.specs.TypeGrammar.{IsDecimal, IsIntWord, IsPlainWord, IsLeaf}

-- ---- decimal digits

digit_small : (b : ℕ) → 48 ≤ b → b ≤ 57 → digit_value b < 10
digit_small b low high = grind (arith, nat_tests)

both : {a b : Bool} → a ≡ true → b ≡ true → (a && b) ≡ true
both {a} {b} p q = ap (λ x. x && b) p ∙ q

pub all_digits : (ds : List ℕ) → list_all is_digit ds ≡ true → AllDigits 10 ds
all_digits [] h = tt
all_digits (b ∷ ds) h =
    let parts = and_parts (is_digit b) (list_all is_digit ds) h in
    let range = and_parts (nat_le 48 b) (nat_le b 57) parts.0 in
    (digit_small b (leb-true 48 b range.0) (leb-true b 57 range.1), all_digits ds parts.1)

pub digits_all : (ds : List ℕ) → AllDigits 10 ds → list_all is_digit ds ≡ true
digits_all [] h = refl
digits_all (b ∷ ds) h =
    let range = digit_from_value b h.0 in
    both (both (le-leb 48 b range.0) (le-leb b 57 range.1)) (digits_all ds h.1)

no_zero_by : (d n : ℕ) (z : Bool) → d == 48 ≡ z → (not z || nat_le n 0) ≡ true → d ≡ 48 → n + 1 ≡ 1
no_zero_by d n true e h is = omega (arith, leb-true n 0 h)
no_zero_by d n false e h is = absurd (true_false (sym (ap (λ b. b == 48) is ∙ refl) ∙ e))
  where
    true_false : true ≡ false → ⊥
    true_false e = cc

pub decimal_is : (ds : List ℕ) → is_width ds ≡ true → IsDecimal ds
decimal_is [] h = absurd (cc)
decimal_is (d ∷ ds) h =
    let parts = and_parts (list_all is_digit (d ∷ ds)) (not (d == 48) || nat_le (length ds) 0) h in
    record {
      digits_are = all_digits (d ∷ ds) parts.0;
      some = omega arith;
      no_zero = λ zero_first. omega (arith, no_zero_by d (length ds) (d == 48) refl parts.1 zero_first);
    }

zero_or : (d n : ℕ) (z : Bool) → d == 48 ≡ z → (d ≡ 48 → n ≤ 0) → (not z || nat_le n 0) ≡ true
zero_or d n true e h = le-leb n 0 (h (eqb-true d 48 e))
zero_or d n false e h = refl

pub is_decimal : (ds : List ℕ) → IsDecimal ds → is_width ds ≡ true
is_decimal [] h = absurd (let s = h.some in omega arith)
is_decimal (d ∷ ds) h = both (digits_all (d ∷ ds) h.digits_are) (zero_or d (length ds) (d == 48) refl (λ z. omega (arith, h.no_zero z)))

-- ---- integer types

first_or : {X : Type 0} (b : Bool) (x i : X) (o : Option X) → cond b (Some x) o ≡ Some i → ((b ≡ true) × (x ≡ i)) ⊎ (o ≡ Some i)
first_or true x i o h = inl (refl, same_Some x i h)
first_or false x i o h = inr h

front_one : (w : List ℕ) (b : ℕ) → 0 < b → (slice_index w 0 == b) ≡ true → w ≡ b ∷ drop 1 w
front_one [] b some h = absurd (omega (arith, some, eqb-true 0 b h))
front_one (c ∷ w) b some h = ap (λ x. x ∷ w) (eqb-true c b h)

front_two : (w : List ℕ) (b c : ℕ) → 0 < b → 0 < c → (slice_index w 0 == b) ≡ true → (slice_index w 1 == c) ≡ true → w ≡ b ∷ c ∷ drop 2 w
front_two [] b c some more h g = absurd (omega (arith, some, eqb-true 0 b h))
front_two (x ∷ w) b c some more h g = ap (λ y. y ∷ w) (eqb-true x b h) ∙ ap (λ v. b ∷ v) (front_one w c more g)

-- what is found of an integer type is written so
pub int_found : (w : List ℕ) (i : Sign × List ℕ) → int_word w ≡ Some i → (w ≡ sign_text i.0 ++ i.1) × IsDecimal i.1
int_found w i h =
    elim (first_or (slice_index w 0 == 105 && is_width (drop 1 w)) (Signless, drop 1 w) i _ h) [
      | inl (test, same) ↦
          let parts = and_parts (slice_index w 0 == 105) (is_width (drop 1 w)) test in
          subst (λ i. (w ≡ sign_text i.0 ++ i.1) × IsDecimal i.1) same (front_one w 105 (omega arith) parts.0, decimal_is (drop 1 w) parts.1)
      | inr more ↦ elim (first_or (slice_index w 0 == 115 && slice_index w 1 == 105 && is_width (drop 2 w)) (Signed, drop 2 w) i _ more) [
        | inl (test, same) ↦
            let parts = and_parts (slice_index w 0 == 115 && slice_index w 1 == 105) (is_width (drop 2 w)) test in
            let front = and_parts (slice_index w 0 == 115) (slice_index w 1 == 105) parts.0 in
            subst (λ i. (w ≡ sign_text i.0 ++ i.1) × IsDecimal i.1) same (front_two w 115 105 (omega arith) (omega arith) front.0 front.1, decimal_is (drop 2 w) parts.1)
        | inr last ↦ elim (first_or (slice_index w 0 == 117 && slice_index w 1 == 105 && is_width (drop 2 w)) (Unsigned, drop 2 w) i _ last) [
          | inl (test, same) ↦
              let parts = and_parts (slice_index w 0 == 117 && slice_index w 1 == 105) (is_width (drop 2 w)) test in
              let front = and_parts (slice_index w 0 == 117) (slice_index w 1 == 105) parts.0 in
              subst (λ i. (w ≡ sign_text i.0 ++ i.1) × IsDecimal i.1) same (front_two w 117 105 (omega arith) (omega arith) front.0 front.1, decimal_is (drop 2 w) parts.1)
          | inr no_more ↦ absurd (none-some i no_more)
        ]
      ]
    ]

-- what is written so is found
pub int_read : (g : Sign) (ds : List ℕ) → IsDecimal ds → int_word (sign_text g ++ ds) ≡ Some (g, ds)
int_read Signless ds h = rw (is_decimal ds h) refl
int_read Signed ds h = rw (is_decimal ds h) refl
int_read Unsigned ds h = rw (is_decimal ds h) refl

pub int_word_read : (g : Sign) (n : ℕ) (w : List ℕ) → IsIntWord g n w → (ds : List ℕ) × (int_word w ≡ Some (g, ds)) × (digits_value 10 ds ≡ n)
int_word_read g n w (ds, decimal, same, value) = (ds, ap int_word same ∙ int_read g ds decimal, value)

-- ---- a word without a body

width_by : (at : ℕ) (g : Sign) (n : ℕ) (b : Bool) (t : Ty) → nat_le n max_width ≡ b → cond {A = Result Ty ModFault} b (Ok (int g n)) (Err (fault faults.WideInt at)) ≡ Ok t → (int g n ≡ t) × (n ≤ max_width)
width_by at g n true t is h = (ap (or_ty t) h, leb-true n max_width is)
  where
    or_ty : Ty → Result Ty ModFault → Ty
    or_ty u (Ok t) = t
    or_ty u (Err f) = u
width_by at g n false t is h = absurd (cc)

other_by : (aliases : List Alias) (room : ℕ) (s r : Place) (w : List ℕ) (b : Bool) → bytes_eq w (codes "index") ≡ b → IsSpelled k.Word w s r → IsNot k.Less r → (is_other_word w ≡ false) → int_word w ≡ None → IsLeaf aliases room s (cond b index (word w)) r
other_by aliases room s r w true is spelled alone other none = (subst (λ v. IsSpelled k.Word v s r) ((bytes_eq-Decides w (codes "index")).0 is) spelled, alone)
other_by aliases room s r w false is spelled alone other none =
    inl (
      spelled,
      record {
        no_other = other;
        no_index = λ e. absurd (true_false (sym ((bytes_eq-Decides w (codes "index")).1 e) ∙ is));
        no_int = λ g n h. let found = int_word_read g n w h in none-some (g, found.0) (sym none ∙ found.1);
      },
      alone,
    )
  where
    true_false : true ≡ false → ⊥
    true_false e = cc

leaf_found : (aliases : List Alias) (room at : ℕ) (s r : Place) (w : List ℕ) (t : Ty) (i : Option (Sign × List ℕ)) → int_word w ≡ i → leaf_by at w i ≡ Ok t → IsSpelled k.Word w s r → IsNot k.Less r → (is_other_word w ≡ false) → IsLeaf aliases room s t r
leaf_found aliases room at s r w t (Some i) is h spelled alone other =
    let found = int_found w i is in
    let width = width_by at i.0 (digits_value 10 i.1) (nat_le (digits_value 10 i.1) max_width) t refl h in
    subst (λ t. IsLeaf aliases room s t r) width.0 (w, spelled, (i.1, found.1, found.0, refl), width.1, alone)
leaf_found aliases room at s r w t None is h spelled alone other =
    subst (λ t. IsLeaf aliases room s t r) (ap (or_ty t) h) (other_by aliases room s r w (bytes_eq w (codes "index")) refl spelled alone other is)
  where
    or_ty : Ty → Result Ty ModFault → Ty
    or_ty u (Ok t) = t
    or_ty u (Err f) = u

-- A word that is read as a type is one.
pub leaf_sound : (aliases : List Alias) (room at : ℕ) (s r : Place) (w : List ℕ) (t : Ty) → leaf at w ≡ Ok t → IsSpelled k.Word w s r → IsNot k.Less r → (is_other_word w ≡ false) → IsLeaf aliases room s t r
unfolding leaf
leaf_sound aliases room at s r w t h spelled alone other = leaf_found aliases room at s r w t (int_word w) refl h spelled alone other

pub int_leaf : (at : ℕ) (g : Sign) (n : ℕ) (w : List ℕ) → IsIntWord g n w → n ≤ max_width → leaf at w ≡ Ok (int g n)
unfolding leaf
int_leaf at g n w h small =
    let found = int_word_read g n w h in
    rw (found.1, found.2, le-leb n max_width small) refl

pub index_leaf : (at : ℕ) → leaf at (codes "index") ≡ Ok index
unfolding leaf
index_leaf at = refl

no_int_by : (w : List ℕ) (i : Option (Sign × List ℕ)) → int_word w ≡ i → ((g : Sign) (n : ℕ) → ¬ IsIntWord g n w) → int_word w ≡ None
no_int_by w None is h = is
no_int_by w (Some i) is h = let found = int_found w i is in absurd (h i.0 (digits_value 10 i.1) (i.1, found.1, found.0, refl))

pub word_leaf : (at : ℕ) (w : List ℕ) → IsPlainWord w → leaf at w ≡ Ok (word w)
unfolding leaf
word_leaf at w h =
    let none = no_int_by w (int_word w) refl h.no_int in
    rw (none, no_index w (bytes_eq w (codes "index")) refl h.no_index) refl
  where
    no_index : (w : List ℕ) (b : Bool) → bytes_eq w (codes "index") ≡ b → w ≢ codes "index" → bytes_eq w (codes "index") ≡ false
    no_index w true is other = absurd (other ((bytes_eq-Decides w (codes "index")).0 is))
    no_index w false is other = is

-- ---- such words begin no attribute

pub index_no_other : is_other_word (codes "index") ≡ false
index_no_other = refl

-- none of these words begins with `i` and a digit, with `si` or with `ui`
pub int_no_other : (g : Sign) (n : ℕ) (w : List ℕ) → IsIntWord g n w → is_other_word w ≡ false
int_no_other Signless n w ([], decimal, same, value) = absurd (let s = decimal.some in omega arith)
int_no_other Signless n w (d ∷ ds, decimal, same, value) = ap is_other_word same ∙ refl
int_no_other Signed n w (ds, decimal, same, value) = ap is_other_word same ∙ refl
int_no_other Unsigned n w (ds, decimal, same, value) = ap is_other_word same ∙ refl
