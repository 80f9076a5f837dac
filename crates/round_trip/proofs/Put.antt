-- A body in which aliases are replaced by the texts of what they stand for is a sound body.
use Rattle.std.proofs.Common.{◌≡◌, ℕ, zero, suc, ◌+◌, ◌-◌, ◌<◌, ◌≤◌, Bool, true, false, cond, not, if◌then◌else◌, List, [], ◌∷◌, ◌++◌, length, take, drop, refl, ap, sym, subst, ◌∙◌, arith, inl, inr, length-take, take-append-drop, Option, Some, None}
use Rattle.std.specs.Prelude.{◌==◌, ◌&&◌, nat_lt, slice_index, IsUtf8}
use Rattle.std.specs.List.{AllByRecursion, prefix_len}
use Rattle.std.proofs.lemmas.Bool.{and_parts}
use Rattle.std.proofs.lemmas.Option.{same_Some, none-some}
use Rattle.text_scan.specs.Bytes.{AllAre, is_digit, is_in}
use Rattle.byte_lanes.specs.declared.class.Class.TheVariants as class
use Rattle.mlir_lexer.specs.Forms.{is_suffix_start}
use Rattle.mlir_lexer.specs.Scan.{suffix_len, digits}
use Rattle.mlir_lexer.specs.Body.{body}
use Rattle.mlir_attributes.specs.declared.aliases.Alias.{Alias}
use Rattle.mlir_attributes.specs.declared.aliases.Meaning.{Meaning}
use Rattle.mlir_attributes.specs.declared.aliases.Meaning.TheVariants as meanings
use Rattle.mlir_attributes.specs.Aliases.{find, has_point}
use Rattle.mlir_parse.specs.ModuleFile.{meaning_text}
use Rattle.mlir_attributes.specs.KeptText.{used_at, unless_location, is_location, may_be_used, is_mark, put_text}
use Rattle.round_trip.proofs.Nesting.{IsOuter}
use Rattle.round_trip.proofs.Sound.{class_outer, suffix_outer}
use Rattle.round_trip.proofs.SoundTypes.{IsSoundMeaning, IsSoundAlias}
use Rattle.round_trip.proofs.SpelledTypes.{suffix_ascii}
use Rattle.round_trip.proofs.Utf8.{AreAscii, both, written}
use Rattle.round_trip.proofs.Skips.{dash_behind, Skips, join, plain, pass, pass_byte, skip_bytes, dash_last}
use Rattle.round_trip.proofs.Fits.{IsFit, ty_fit, attr_fit}
use Rattle.round_trip.proofs.Begins.{Begins, ty_begins, attr_begins}

-- ---- names

-- A byte of a class stands at each place of the run at the front.
run_by : (p : ℕ → Bool) (b : ℕ) (s : List ℕ) (q : Bool) → p b ≡ q → AllAre p (take (prefix_len p s) s) × (prefix_len p s ≤ length s) → AllAre p (take (if q then 1 + prefix_len p s else 0) (b ∷ s)) × ((if q then 1 + prefix_len p s else 0) ≤ length (b ∷ s))
run_by p b s true is r = subst (λ n. AllAre p (take n (b ∷ s)) × (n ≤ length (b ∷ s))) (let e : suc (prefix_len p s) ≡ 1 + prefix_len p s = omega arith in e) ((is, r.0), omega (arith, r.1))
run_by p b s false is r = (tt, omega arith)

run : (p : ℕ → Bool) (s : List ℕ) → AllAre p (take (prefix_len p s) s) × (prefix_len p s ≤ length s)
run p [] = (tt, omega arith)
run p (b ∷ s) = run_by p b s (p b) refl (run p s)

pub record IsName (s : List ℕ) (n : ℕ) : Type 0 where
  pub outer : AllByRecursion IsOuter (take n s)
  pub ascii : AreAscii (take n s)
  pub within : n ≤ length s

name_by : (b : ℕ) (s : List ℕ) (p q : Bool) → is_digit b ≡ p → is_suffix_start b ≡ q → IsName (b ∷ s) (if p then 1 + digits s else (if q then 1 + prefix_len (is_in class.Suffix) s else 0))
name_by b s true q digit start =
    let r = run (is_in class.Digit) s in
    subst (IsName (b ∷ s)) (let e : suc (digits s) ≡ 1 + digits s = omega arith in e) (record { outer = suffix_outer (b ∷ take (digits s) s) (inl (digit, r.0)); ascii = suffix_ascii (b ∷ take (digits s) s) (inl (digit, r.0)); within = omega (arith, r.1) })
name_by b s false true digit start =
    let r = run (is_in class.Suffix) s in
    subst (IsName (b ∷ s)) (let e : suc (prefix_len (is_in class.Suffix) s) ≡ 1 + prefix_len (is_in class.Suffix) s = omega arith in e) (record { outer = suffix_outer (b ∷ take (prefix_len (is_in class.Suffix) s) s) (inr (start, r.0)); ascii = suffix_ascii (b ∷ take (prefix_len (is_in class.Suffix) s) s) (inr (start, r.0)); within = omega (arith, r.1) })
name_by b s false false digit start = record { outer = tt; ascii = tt; within = omega arith }

pub name_of : (s : List ℕ) → IsName s (suffix_len s)
name_of [] = record { outer = tt; ascii = tt; within = omega arith }
name_of (b ∷ s) = name_by b s (is_digit b) (is_suffix_start b) refl refl

dash_take : (s : List ℕ) (n : ℕ) (d : Bool) → n < length s → dash_behind d (take (suc n) s) ≡ (slice_index s n == 45)
dash_take [] n d less = absurd (omega (arith, less))
dash_take (b ∷ s) zero d less = refl
dash_take (b ∷ s) (suc n) d less = dash_take s n (b == 45) (omega (arith, less))

pub not_true : (b : Bool) → not b ≡ true → b ≡ false
not_true true h = absurd (cc)
not_true false h = refl

positive : (n : ℕ) → nat_lt 0 n ≡ true → 0 < n
positive zero h = absurd (cc)
positive (suc n) h = omega arith

-- What the use of an alias says.
pub record IsUsed (aliases : List Alias) (b : ℕ) (s : List ℕ) (a : Alias) : Type 0 where
  pub mark : is_mark b ≡ true
  pub found : find (b ∷ take (suffix_len s) s) aliases ≡ Some a
  pub some : 0 < suffix_len s
  pub no_dash : (slice_index s (suffix_len s - 1) == 45) ≡ false
  pub value : is_location a.meaning ≡ false

-- the one that is found stands for no location
abbrev IsValue : Option Alias → Alias → Type 0
IsValue o a = (o ≡ Some a) × (is_location a.meaning ≡ false)

some_same : (a : Alias) (o : Option Alias) → unless_location o ≡ Some a → IsValue o a
some_same a None h = absurd (none-some a h)
some_same a (Some x) h = by_test (is_location x.meaning) refl h
  where
    by_test : (p : Bool) → is_location x.meaning ≡ p → cond p None (Some x) ≡ Some a → IsValue (Some x) a
    by_test true is e = absurd (none-some a e)
    by_test false is e = (e, ap (λ (y : Alias). is_location y.meaning) (sym (same_Some x a e)) ∙ is)

pub used_parts : (aliases : List Alias) (b : ℕ) (s : List ℕ) (a : Alias) → used_at aliases (b ∷ s) ≡ Some a → IsUsed aliases b s a
unfolding used_at
used_parts aliases b s a h = by_test (is_mark b && may_be_used s (suffix_len s)) refl h
  where
    by_test : (p : Bool) → (is_mark b && may_be_used s (suffix_len s)) ≡ p → cond p (unless_location (find (b ∷ take (suffix_len s) s) aliases)) None ≡ Some a → IsUsed aliases b s a
    by_test false is e = absurd (none-some a e)
    by_test true is e =
        let n = suffix_len s in
        let value = some_same a (find (b ∷ take n s) aliases) e in
        let both = and_parts (is_mark b) (may_be_used s n) is in
        let last = and_parts (nat_lt 0 n && not (has_point (take n s)) && not (slice_index s (n - 1) == 45)) (not (slice_index s n == 60)) both.1 in
        let third = and_parts (nat_lt 0 n && not (has_point (take n s))) (not (slice_index s (n - 1) == 45)) last.0 in
        let first = and_parts (nat_lt 0 n) (not (has_point (take n s))) third.0 in
        record { mark = both.0; found = value.0; value = value.1; some = positive n first.0; no_dash = not_true (slice_index s (n - 1) == 45) third.1 }

pub mark_outer : (b : ℕ) → is_mark b ≡ true → IsOuter b
mark_outer = class_outer is_mark refl refl refl refl refl refl refl refl refl

-- The scan goes past the name of an alias as past skipped bytes.
pub past_name : (limit : ℕ) (closers : List ℕ) (dash : Bool) (at b : ℕ) (s : List ℕ) → is_mark b ≡ true → 0 < suffix_len s → (slice_index s (suffix_len s - 1) == 45) ≡ false
    → body limit closers dash 0 at (b ∷ s) ≡ body limit closers false (suffix_len s) (at + 1) s
past_name limit closers dash at b s mark some no_dash =
    let n = suffix_len s in
    let name = name_of s in
    let long : length (take n s) ≡ n = omega (arith, length-take n s, name.within) in
    let one : suc (n - 1) ≡ n = omega (arith, some) in
    let end_dash : dash_behind (b == 45) (take n s) ≡ false = ap (λ m. dash_behind (b == 45) (take m s)) (sym one) ∙ dash_take s (n - 1) (b == 45) (omega (arith, name.within, some)) ∙ no_dash in
    let parts : s ≡ take n s ++ drop n s = sym (take-append-drop n s) in
    pass_byte limit closers dash at b s (mark_outer b mark)
    ∙ ap (body limit closers (b == 45) 0 (at + 1)) parts
    ∙ pass (take n s) limit closers (b == 45) (at + 1) (drop n s) name.outer
    ∙ ap (λ d. body limit closers d 0 ((at + 1) + length (take n s)) (drop n s)) end_dash
    ∙ ap (λ m. body limit closers false 0 ((at + 1) + m) (drop n s)) long
    ∙ sym (skip_bytes n limit closers (at + 1) (take n s) (drop n s) long)
    ∙ ap (body limit closers false n (at + 1)) (sym parts)

-- ---- the texts that are put in

pub record IsPut (text : List ℕ) : Type 0 where
  pub skips : Skips text
  pub utf8 : IsUtf8 text
  pub begins : Begins text
  pub no_dash : (d : Bool) → dash_behind d text ≡ false

meaning_fit : (a : Alias) → is_location a.meaning ≡ false → IsSoundAlias a → IsFit a.text × Begins a.text
meaning_fit a other h = by_meaning a.meaning other h.0 h.1
  where
    by_meaning : (m : Meaning) → is_location m ≡ false → IsSoundMeaning m → a.text ≡ meaning_text m → IsFit a.text × Begins a.text
    by_meaning (meanings.Ty t) o s e = subst (λ x. IsFit x × Begins x) (sym e) (ty_fit t s, ty_begins t s)
    by_meaning (meanings.Attr x) o s e = subst (λ y. IsFit y × Begins y) (sym e) (attr_fit x s, attr_begins x s)
    by_meaning meanings.Location o s e = absurd (cc)

dash_text : (d : Bool) (text : List ℕ) → 0 < length text → dash_behind d text ≡ (slice_index text (length text - 1) == 45)
dash_text d [] some = absurd (omega (arith, some))
dash_text d (b ∷ []) some = refl
dash_text d (b ∷ c ∷ text) some = dash_text (b == 45) (c ∷ text) (omega arith) ∙ ap (λ n. slice_index (b ∷ c ∷ text) n == 45) (let e : suc (length (c ∷ text) - 1) ≡ length (b ∷ c ∷ text) - 1 = omega arith in e)

space_outer : AllByRecursion IsOuter (32 ∷ [])
space_outer = (record { quote = refl; round = refl; close_round = refl; less = refl; greater = refl; square = refl; close_square = refl; brace = refl; close_brace = refl }, tt)

pub alias_put : (a : Alias) → is_location a.meaning ≡ false → IsSoundAlias a → IsPut (put_text a)
alias_put a other h =
    let (f, g) = meaning_fit a other h in
    let some : 0 < length a.text = omega (arith, ap length g.is) in
    by_test f g some (slice_index a.text (length a.text - 1) == 45) refl
  where
    by_test : IsFit a.text → Begins a.text → 0 < length a.text → (p : Bool) → (slice_index a.text (length a.text - 1) == 45) ≡ p → IsPut (if p then a.text ++ 32 ∷ [] else a.text)
    by_test f g some true is = record {
      skips = join a.text (32 ∷ []) f.skips (plain (32 ∷ []) space_outer);
      utf8 = both f.utf8 (written (32 ∷ []) refl);
      begins = record { first = g.first; more = g.more ++ 32 ∷ []; is = ap (λ t. t ++ 32 ∷ []) g.is; other = g.other };
      no_dash = λ d. dash_last d a.text 32;
    }
    by_test f g some false is = record { skips = f.skips; utf8 = f.utf8; begins = g; no_dash = λ d. dash_text d a.text some ∙ is }
