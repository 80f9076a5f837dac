-- Steps through the text of a kept body.
use Rattle.std.proofs.Common.{◌≡◌, ◌≢◌, ℕ, zero, suc, ◌+◌, ◌-◌, ◌<◌, ◌≤◌, Bool, true, false, cond, List, [], ◌∷◌, ◌++◌, length, take, drop, get_or, refl, ap, sym, ◌∙◌, arith, add-zero, length-drop, append_assoc, Ok, Err}
use Rattle.std.specs.Prelude.{◌==◌, slice_index, Option, Some, None}
use Rattle.std.proofs.lemmas.Bool.{ne_eqb}
use Rattle.std.proofs.lemmas.List.{drop_more, drop-drop}
use Rattle.text_scan.specs.Strings.{string_end}
use Rattle.mlir_lexer.specs.Scan.{suffix_len}
use Rattle.mlir_lexer.specs.Body.{effect_of, innermost}
use Rattle.mlir_attributes.specs.declared.aliases.Alias.{Alias}
use Rattle.mlir_attributes.specs.Aliases.{find}
use Rattle.mlir_attributes.specs.KeptText.{Names, names, in_front, used_at, put_text, fits, closers_after, or_use, is_mark, may_be_used, unless_location}

pub front_again : (s t : List ℕ) (n : Names) → in_front s (in_front t n) ≡ in_front (s ++ t) n
front_again s t (Ok p) = ap (λ u. Ok (u, p.1)) (sym (append_assoc s t p.0))
front_again s t (Err at) = refl

module _ (aliases : List Alias) (room : ℕ) where
  skipped : (closers : List ℕ) (n put at : ℕ) (s : List ℕ) → n ≤ length s → names aliases room closers false n put at s ≡ names aliases room closers false 0 put (at + n) (drop n s)
  skipped closers zero put at s h = ap (λ k. names aliases room closers false 0 put k s) (sym (add-zero at))
  skipped closers (suc n) put at [] h = absurd (omega arith)
  skipped closers (suc n) put at (b ∷ s) h = skipped closers n put (at + 1) s (omega arith) ∙ ap (λ k. names aliases room closers false 0 put k (drop n s)) (omega arith)

  past_string : (closers : List ℕ) (dash : Bool) (put : ℕ) (bytes : List ℕ) (i end : ℕ) (s : List ℕ) → string_end i (34 ∷ s) ≡ Some end
      → names aliases room closers dash 0 put i (34 ∷ s) ≡ in_front (take (end - i) (34 ∷ s)) (names aliases room closers false (end - (i + 1)) put (i + 1) s)
  past_string closers dash put bytes i end s is = rw is refl

  pub at_string : (closers : List ℕ) (dash : Bool) (put : ℕ) (bytes : List ℕ) (i end : ℕ) → i < length bytes → get_or bytes i 0 ≡ 34 → string_end i (drop i bytes) ≡ Some end → i < end → end ≤ length bytes
      → names aliases room closers dash 0 put i (drop i bytes) ≡ in_front (take (end - i) (drop i bytes)) (names aliases room closers false 0 put end (drop end bytes))
  at_string closers dash put bytes i end inside quote is after within =
      let text : drop i bytes ≡ 34 ∷ drop (i + 1) bytes = drop_more bytes i 0 inside ∙ ap (λ b. b ∷ drop (i + 1) bytes) quote in
      let found : string_end i (34 ∷ drop (i + 1) bytes) ≡ Some end = ap (string_end i) (sym text) ∙ is in
      let place : (i + 1) + (end - (i + 1)) ≡ end = omega arith in
      let rest = skipped closers (end - (i + 1)) put (i + 1) (drop (i + 1) bytes) (omega (arith, length-drop (i + 1) bytes)) in
      ap (names aliases room closers dash 0 put i) text ∙ (past_string closers dash put bytes i end (drop (i + 1) bytes) found
      ∙ (ap (λ t. in_front (take (end - i) t) (names aliases room closers false (end - (i + 1)) put (i + 1) (drop (i + 1) bytes))) (sym text)
      ∙ ap (in_front (take (end - i) (drop i bytes))) (rest ∙ rw drop-drop (ap (λ k. names aliases room closers false 0 put k (drop k bytes)) place))))

  past_byte : (closers : List ℕ) (dash : Bool) (put i b : ℕ) (s : List ℕ) (o : Option Alias) → b ≢ 34 → used_at aliases (b ∷ s) ≡ o
      → names aliases room closers dash 0 put i (b ∷ s) ≡ or_use o
      (λ a. cond (fits room a (length closers) put) (in_front (put_text a) (names aliases room closers false (suffix_len s) (put + length a.text) (i + 1) s)) (Err i))
      (in_front (b ∷ []) (names aliases room (closers_after (effect_of b (slice_index s 0) dash (innermost closers)) b closers) (b == 45) 0 put (i + 1) s))
  past_byte closers dash put i b s o other is = rw (ne_eqb b 34 other, is) refl

  pub at_use : (closers : List ℕ) (dash : Bool) (put : ℕ) (bytes : List ℕ) (i : ℕ) (a : Alias) → i < length bytes → get_or bytes i 0 ≢ 34 → used_at aliases (drop i bytes) ≡ Some a → fits room a (length closers) put ≡ true
      → suffix_len (drop (i + 1) bytes) ≤ length (drop (i + 1) bytes)
      → names aliases room closers dash 0 put i (drop i bytes) ≡ in_front (put_text a) (names aliases room closers false 0 (put + length a.text) (i + 1 + suffix_len (drop (i + 1) bytes)) (drop (i + 1 + suffix_len (drop (i + 1) bytes)) bytes))
  at_use closers dash put bytes i a inside other is enough within =
      let text = drop_more bytes i 0 inside in
      let rest = skipped closers (suffix_len (drop (i + 1) bytes)) (put + length a.text) (i + 1) (drop (i + 1) bytes) within in
      ap (names aliases room closers dash 0 put i) text ∙ (past_byte closers dash put i (get_or bytes i 0) (drop (i + 1) bytes) (Some a) other (ap (used_at aliases) (sym text) ∙ is)
      ∙ rw enough (ap (in_front (put_text a)) (rest ∙ rw drop-drop refl)))

  pub at_full : (closers : List ℕ) (dash : Bool) (put : ℕ) (bytes : List ℕ) (i : ℕ) (a : Alias) → i < length bytes → get_or bytes i 0 ≢ 34 → used_at aliases (drop i bytes) ≡ Some a → fits room a (length closers) put ≡ false
      → names aliases room closers dash 0 put i (drop i bytes) ≡ Err i
  at_full closers dash put bytes i a inside other is enough =
      let text = drop_more bytes i 0 inside in
      ap (names aliases room closers dash 0 put i) text ∙ (past_byte closers dash put i (get_or bytes i 0) (drop (i + 1) bytes) (Some a) other (ap (used_at aliases) (sym text) ∙ is) ∙ rw enough refl)

  pub at_byte : (closers : List ℕ) (dash : Bool) (put : ℕ) (bytes : List ℕ) (i : ℕ) → i < length bytes → get_or bytes i 0 ≢ 34 → used_at aliases (drop i bytes) ≡ None
      → names aliases room closers dash 0 put i (drop i bytes) ≡ in_front (get_or bytes i 0 ∷ [])
      (names aliases room (closers_after (effect_of (get_or bytes i 0) (slice_index (drop (i + 1) bytes) 0) dash (innermost closers)) (get_or bytes i 0) closers) (get_or bytes i 0 == 45) 0 put (i + 1) (drop (i + 1) bytes))
  at_byte closers dash put bytes i inside other is =
      let text = drop_more bytes i 0 inside in
      ap (names aliases room closers dash 0 put i) text ∙ past_byte closers dash put i (get_or bytes i 0) (drop (i + 1) bytes) None other (ap (used_at aliases) (sym text) ∙ is)

pub used_is : (aliases : List Alias) (text : List ℕ) (n : ℕ) (o : Option Alias) → 1 ≤ length text → is_mark (get_or text 0 0) ≡ true → n ≡ suffix_len (drop 1 text) → may_be_used (drop 1 text) n ≡ true → o ≡ unless_location (find (take (1 + n) text) aliases) → o ≡ used_at aliases text
unfolding used_at
used_is aliases [] n o some mark len may is = absurd (omega arith)
used_is aliases (b ∷ s) n o some mark len may is =
    let place : 1 + n ≡ suc n = omega arith in
    let whole : take (1 + n) (b ∷ s) ≡ b ∷ take n s = ap (λ k. take k (b ∷ s)) place in
    rw (← len, mark, may) (is ∙ ap (λ t. unless_location (find t aliases)) whole)
