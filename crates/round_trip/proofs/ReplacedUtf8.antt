-- A body in which aliases are replaced is UTF-8.
use Rattle.std.proofs.Common.{◌≡◌, ℕ, zero, suc, ◌+◌, ◌-◌, ◌<◌, Bool, true, false, cond, if◌then◌else◌, List, [], ◌∷◌, ◌++◌, length, take, drop, get_or, refl, ap, sym, subst, ◌∙◌, arith, inl, inr, append_assoc, append-nil, length-append, take-append-drop, eqb-true, Err, Option, Some, None}
use Rattle.std.specs.Prelude.{◌==◌, slice_index, IsUtf8}
use Rattle.std.specs.Option.{option_map_or}
use Rattle.std.proofs.lemmas.Str.{IsUtf8-drop, IsUtf8-between, IsUtf8-append, IsCharBoundary-start, IsCharBoundary-before_ascii, IsCharBoundary-after_ascii}
use Rattle.std.proofs.lemmas.Bool.{or_cases}
use Rattle.std.proofs.lemmas.List.{get_or_at}
use Rattle.std.proofs.Math.Seq.{take-append_seam, drop-append_seam}
use Rattle.text_scan.specs.Strings.{string_end}
use Rattle.text_scan.proofs.StringLaws.{string_front}
use Rattle.mlir_lexer.specs.Scan.{suffix_len}
use Rattle.mlir_lexer.specs.Body.{effect_of, innermost}
use Rattle.mlir_attributes.specs.declared.aliases.Alias.{Alias}
use Rattle.mlir_attributes.specs.KeptText.{Names, names, in_front, closers_after, used_at, is_mark, put_text, fits, or_use}
use Rattle.round_trip.proofs.Bodies.{some_string}
use Rattle.round_trip.proofs.SoundTypes.{AreSoundAliases}
use Rattle.round_trip.proofs.Put.{used_parts, alias_put, name_of}
use Rattle.round_trip.proofs.Utf8.{AreAscii}
use Rattle.round_trip.proofs.Replaced.{behind_front, fits_or, text_of, told}

-- ---- where a text may be cut

before_ascii : (p : List ℕ) (b : ℕ) (s : List ℕ) → b < 128 → IsUtf8 (p ++ b ∷ s) → IsUtf8 p
before_ascii p b s low h =
    let all = p ++ b ∷ s in
    let inside : length p < length all = omega (arith, length-append p (b ∷ s)) in
    let here : get_or all (length p) 0 ≡ b = get_or_at p b s 0 (length p) refl in
    let cut : IsUtf8 (take (length p - 0) (drop 0 all)) = IsUtf8-between all 0 (length p) h (omega arith) (IsCharBoundary-start all h) (IsCharBoundary-before_ascii all (length p) inside (subst (λ n. n < 128) (sym here) low)) in
    subst IsUtf8 (ap (λ n. take n all) (let e : length p - 0 ≡ length p = omega arith in e) ∙ take-append_seam p (b ∷ s)) cut

from_ascii : (p : List ℕ) (b : ℕ) (s : List ℕ) → b < 128 → IsUtf8 (p ++ b ∷ s) → IsUtf8 (b ∷ s)
from_ascii p b s low h =
    let all = p ++ b ∷ s in
    let inside : length p < length all = omega (arith, length-append p (b ∷ s)) in
    let here : get_or all (length p) 0 ≡ b = get_or_at p b s 0 (length p) refl in
    subst IsUtf8 (drop-append_seam p (b ∷ s)) (IsUtf8-drop all (length p) h (IsCharBoundary-before_ascii all (length p) inside (subst (λ n. n < 128) (sym here) low)))

behind_ascii : (b : ℕ) (s : List ℕ) → b < 128 → IsUtf8 (b ∷ s) → IsUtf8 s
behind_ascii b s low h = IsUtf8-drop (b ∷ s) 1 h (IsCharBoundary-after_ascii (b ∷ s) 0 h (omega arith) low)

behind_all : (a s : List ℕ) → AreAscii a → IsUtf8 (a ++ s) → IsUtf8 s
behind_all [] s h utf8 = utf8
behind_all (b ∷ a) s h utf8 = behind_all a s h.1 (behind_ascii b (a ++ s) h.0 utf8)

mark_low : (b : ℕ) → is_mark b ≡ true → b < 128
mark_low b h = elim (or_cases (b == 35) (b == 33) h) [
  | inl is ↦ let e = eqb-true b 35 is in omega (arith, e)
  | inr is ↦ let e = eqb-true b 33 is in omega (arith, e)
]

module _ (aliases : List Alias) (known : AreSoundAliases aliases) (room : ℕ) where
  abbrev string_put : List ℕ → ℕ → ℕ → ℕ → List ℕ → Option ℕ → Names
  string_put cs put at b s o = option_map_or (λ end. in_front (take (end - at) (b ∷ s)) (names aliases room cs false (end - (at + 1)) put (at + 1) s)) o (told [] put)

  abbrev use_put : List ℕ → Bool → ℕ → ℕ → ℕ → List ℕ → Option Alias → Names
  use_put cs dash put at b s o =
      or_use o (λ a. if fits room a (length cs) put then in_front (put_text a) (names aliases room cs false (suffix_len s) (put + length a.text) (at + 1) s) else Err at)
      (in_front (b ∷ []) (names aliases room (closers_after (effect_of b (slice_index s 0) dash (innermost cs)) b cs) (b == 45) 0 put (at + 1) s))

  abbrev Goes : List ℕ → Type 0
  Goes s = (p : List ℕ) (cs : List ℕ) (dash : Bool) (n put at : ℕ) (text : List ℕ) (put2 : ℕ) → names aliases room cs dash n put at s ≡ told text put2 → IsUtf8 (p ++ drop n s) → IsUtf8 (p ++ text)

  string_case : (p cs : List ℕ) (put at b : ℕ) (s text : List ℕ) (put2 : ℕ) (o : Option ℕ) → string_end at (b ∷ s) ≡ o → b == 34 ≡ true → Goes s → string_put cs put at b s o ≡ told text put2 → IsUtf8 (p ++ b ∷ s) → IsUtf8 (p ++ text)
  string_case p cs put at b s text put2 None is quote go h utf8 =
      subst (λ t. IsUtf8 (p ++ t)) (ap (text_of []) h) (subst IsUtf8 (sym (append-nil p)) (before_ascii p b s (let e = eqb-true b 34 quote in omega (arith, e)) utf8))
  string_case p cs put at b s text put2 (Some end) is quote go h utf8 =
      let (front, more, of, same, long) = string_front (b ∷ s) at end is in
      let some = some_string front of in
      let r = behind_front (take (end - at) (b ∷ s)) _ text put2 h in
      let taken : take (end - at) (b ∷ s) ≡ front = ap (λ n. take n (b ∷ s)) (let e : end - at ≡ length front = omega (arith, long) in e) ∙ ap (take (length front)) same ∙ take-append_seam front more in
      let left : drop (end - (at + 1)) s ≡ more = ap (λ n. drop n (b ∷ s)) (let e : suc (end - (at + 1)) ≡ length front = omega (arith, long, some) in e) ∙ ap (drop (length front)) same ∙ drop-append_seam front more in
      let before : IsUtf8 ((p ++ front) ++ drop (end - (at + 1)) s) = subst IsUtf8 (ap (λ t. p ++ t) same ∙ sym (append_assoc p front more) ∙ ap (λ t. (p ++ front) ++ t) (sym left)) utf8 in
      let i = go (p ++ front) cs false (end - (at + 1)) put (at + 1) r.rest put2 r.is before in
      subst IsUtf8 (append_assoc p front r.rest ∙ ap (λ t. p ++ t) (ap (λ t. t ++ r.rest) (sym taken) ∙ r.same)) i

  use_case : (p cs : List ℕ) (dash : Bool) (put at b : ℕ) (s text : List ℕ) (put2 : ℕ) (o : Option Alias) → used_at aliases (b ∷ s) ≡ o → Goes s → use_put cs dash put at b s o ≡ told text put2 → IsUtf8 (p ++ b ∷ s) → IsUtf8 (p ++ text)
  use_case p cs dash put at b s text put2 None is go h utf8 =
      let r = behind_front (b ∷ []) _ text put2 h in
      let i = go (p ++ b ∷ []) (closers_after (effect_of b (slice_index s 0) dash (innermost cs)) b cs) (b == 45) 0 put (at + 1) r.rest put2 r.is (subst IsUtf8 (sym (append_assoc p (b ∷ []) s)) utf8) in
      subst IsUtf8 (append_assoc p (b ∷ []) r.rest ∙ ap (λ t. p ++ t) r.same) i
  use_case p cs dash put at b s text put2 (Some a) is go h utf8 =
      let u = used_parts aliases b s a is in
      let r = behind_front (put_text a) _ text put2 (fits_or (fits room a (length cs) put) _ at text put2 h) in
      let x = alias_put a u.value (known _ a u.found) in
      let low = mark_low b u.mark in
      let name = name_of s in
      let tail : IsUtf8 s = behind_ascii b s low (from_ascii p b s low utf8) in
      let rest : IsUtf8 (drop (suffix_len s) s) = behind_all (take (suffix_len s) s) (drop (suffix_len s) s) name.ascii (subst IsUtf8 (sym (take-append-drop (suffix_len s) s)) tail) in
      let i = go [] cs false (suffix_len s) (put + length a.text) (at + 1) r.rest put2 r.is rest in
      subst (λ t. IsUtf8 (p ++ t)) r.same (IsUtf8-append p (put_text a ++ r.rest) (before_ascii p b s low utf8) (IsUtf8-append (put_text a) r.rest x.utf8 i))

  pub replaced_utf8 : (s : List ℕ) → Goes s
  replaced_utf8 [] p cs dash zero put at text put2 h utf8 = subst (λ t. IsUtf8 (p ++ t)) (ap (text_of []) h) utf8
  replaced_utf8 [] p cs dash (suc n) put at text put2 h utf8 = subst (λ t. IsUtf8 (p ++ t)) (ap (text_of []) h) utf8
  replaced_utf8 (b ∷ s) p cs dash (suc n) put at text put2 h utf8 = replaced_utf8 s p cs false n put (at + 1) text put2 h utf8
  replaced_utf8 (b ∷ s) p cs dash zero put at text put2 h utf8 = by_quote (b == 34) refl h (replaced_utf8 s)
    where
      by_quote : (q : Bool) → b == 34 ≡ q → cond q (string_put cs put at b s (string_end at (b ∷ s))) (use_put cs dash put at b s (used_at aliases (b ∷ s))) ≡ told text put2 → Goes s → IsUtf8 (p ++ text)
      by_quote true is g go = string_case p cs put at b s text put2 (string_end at (b ∷ s)) refl is go g utf8
      by_quote false is g go = use_case p cs dash put at b s text put2 (used_at aliases (b ∷ s)) refl go g utf8
