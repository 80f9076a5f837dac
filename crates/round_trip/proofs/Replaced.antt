-- A body in which aliases are replaced ends where its text ends.
use Rattle.std.proofs.Common.{◌≡◌, ℕ, zero, suc, ◌+◌, ◌-◌, Bool, true, false, cond, not, if◌then◌else◌, List, [], ◌∷◌, ◌++◌, length, take, refl, ap, sym, subst, ◌∙◌, arith, length-append, eqb-true, Ok, Err, Option, Some, None}
use Rattle.std.specs.Prelude.{◌==◌, ◌&&◌, ◌||◌, nat_le, slice_index}
use Rattle.std.specs.Option.{option_map_or}
use Rattle.std.proofs.lemmas.Bool.{lt-leb}
use Rattle.std.proofs.Math.Seq.{take-append_seam}
use Rattle.text_scan.specs.Strings.{IsString, string_end}
use Rattle.text_scan.proofs.StringLaws.{string_front}
use Rattle.mlir_lexer.specs.Scan.{suffix_len}
use Rattle.mlir_lexer.specs.Body.{body, by_effect, effect_of, innermost, outer, closer, must_close}
use Rattle.mlir_lexer.specs.declared.body.Effect.{Effect}
use Rattle.mlir_lexer.specs.declared.body.Effect.TheVariants.{Opens, Closes, Fails, Passes}
use Rattle.mlir_lexer.specs.declared.body.BodyFault.TheVariants.{Unclosed, TooDeep, BadString}
use Rattle.mlir_attributes.specs.declared.aliases.Alias.{Alias}
use Rattle.mlir_attributes.specs.KeptText.{Names, names, in_front, closers_after, used_at, is_mark, put_text, fits, or_use}
use Rattle.round_trip.proofs.Bodies.{string_moves}
use Rattle.round_trip.proofs.SoundTypes.{AreSoundAliases}
use Rattle.round_trip.proofs.SpelledTypes.{wider}
use Rattle.round_trip.proofs.Skips.{End, ends, dash_behind, Skips, string, dash_last}
use Rattle.round_trip.proofs.Begins.{other_of}
use Rattle.round_trip.proofs.Put.{used_parts, past_name, alias_put}

abbrev pub text_of : List ℕ → Names → List ℕ
text_of d (Ok p) = p.0
text_of d (Err at) = d

abbrev put_of : ℕ → Names → ℕ
put_of d (Ok p) = p.1
put_of d (Err at) = d

abbrev end_of : ℕ → End → ℕ
end_of d (Ok n) = n
end_of d (Err f) = d

abbrev pub told : List ℕ → ℕ → Names
told text put = Ok (text, put)

-- what stands behind a front that was put
pub record Behind (front : List ℕ) (x : Names) (text : List ℕ) (put : ℕ) : Type 0 where
  pub rest : List ℕ
  pub is : x ≡ told rest put
  pub same : front ++ rest ≡ text

pub behind_front : (front : List ℕ) (x : Names) (text : List ℕ) (put : ℕ) → in_front front x ≡ told text put → Behind front x text put
behind_front front (Ok p) text put h = record { rest = p.0; is = ap (λ n. told p.0 n) (ap (put_of 0) h); same = ap (text_of []) h }
behind_front front (Err at) text put h = absurd (cc)

pub fits_or : (p : Bool) (x : Names) (at : ℕ) (text : List ℕ) (put : ℕ) → cond p x (Err at) ≡ told text put → x ≡ told text put
fits_or true x at text put h = h
fits_or false x at text put h = absurd (cc)

-- The scan of a text ends where the text ends.
pub record Ends (closers : List ℕ) (dash : Bool) (text : List ℕ) : Type 0 where
  pub limit : ℕ
  pub ends_at : (other : ℕ) → body limit closers dash 0 other text ≡ ends (other + length text)

abbrev dash_of : ℕ → Bool → Bool
dash_of zero dash = dash
dash_of (suc n) dash = false

no_dash : (n : ℕ) → dash_of n false ≡ false
no_dash zero = refl
no_dash (suc n) = refl

-- a text that the scan goes past, before one that ends
put_before : (front rest : List ℕ) (c : ℕ) (cs : List ℕ) (dash : Bool) → Skips front → dash_behind dash front ≡ false → Ends (c ∷ cs) false rest → Ends (c ∷ cs) dash (front ++ rest)
put_before front rest c cs dash x flat h = record {
  limit = h.limit + (x.need + suc (length cs));
  ends_at = λ other.
      x.skips (h.limit + (x.need + suc (length cs))) c cs dash other rest (omega arith)
      ∙ ap (λ d. body (h.limit + (x.need + suc (length cs))) (c ∷ cs) d 0 (other + length front) rest) flat
      ∙ wider h.limit (h.limit + (x.need + suc (length cs))) (omega arith) rest (other + length front) ((other + length front) + length rest) (c ∷ cs) false 0 (h.ends_at (other + length front))
      ∙ ap ends (let e : (other + length front) + length rest ≡ other + length (front ++ rest) = omega (arith, length-append front rest) in e);
}

-- ---- the byte that follows

abbrev effect_by : ℕ → Bool → Bool → ℕ → Effect
effect_by b equal dash inner =
    if (b == 60 && not equal) || (b == 40 || (b == 91 || b == 123)) then Opens
    else (if (must_close b || (b == 62 && not dash)) && inner == b then Closes
    else (if must_close b then Fails else Passes))

module _ (aliases : List Alias) (known : AreSoundAliases aliases) (room : ℕ) where
  abbrev rest_of : List ℕ → Bool → ℕ → ℕ → ℕ → List ℕ → Names
  rest_of cs dash n put at s = names aliases room cs dash n put at s

  abbrev string_put : List ℕ → ℕ → ℕ → ℕ → List ℕ → Option ℕ → Names
  string_put cs put at b s o = option_map_or (λ end. in_front (take (end - at) (b ∷ s)) (rest_of cs false (end - (at + 1)) put (at + 1) s)) o (told [] put)

  abbrev use_put : List ℕ → Bool → ℕ → ℕ → ℕ → List ℕ → Option Alias → Names
  use_put cs dash put at b s o =
      or_use o (λ a. if fits room a (length cs) put then in_front (put_text a) (rest_of cs false (suffix_len s) (put + length a.text) (at + 1) s) else Err at)
      (in_front (b ∷ []) (rest_of (closers_after (effect_of b (slice_index s 0) dash (innermost cs)) b cs) (b == 45) 0 put (at + 1) s))

  -- whether the text begins with `=`
  first_use : (cs : List ℕ) (dash : Bool) (put at b : ℕ) (s text : List ℕ) (put2 : ℕ) (o : Option Alias) → used_at aliases (b ∷ s) ≡ o → use_put cs dash put at b s o ≡ told text put2 → (slice_index text 0 == 61) ≡ (b == 61)
  first_use cs dash put at b s text put2 None is h =
      let r = behind_front (b ∷ []) _ text put2 h in ap (λ t. slice_index t 0 == 61) (sym r.same)
  first_use cs dash put at b s text put2 (Some a) is h =
      let u = used_parts aliases b s a is in
      let r = behind_front (put_text a) _ text put2 (fits_or (fits room a (length cs) put) _ at text put2 h) in
      let p = alias_put a u.value (known _ a u.found) in
      ap (λ t. slice_index t 0 == 61) (sym r.same ∙ ap (λ t. t ++ r.rest) p.begins.is) ∙ p.begins.other ∙ sym (other_of is_mark b refl u.mark)

  first_string : (cs : List ℕ) (put at b : ℕ) (s text : List ℕ) (put2 : ℕ) (o : Option ℕ) → string_end at (b ∷ s) ≡ o → b == 34 ≡ true → string_put cs put at b s o ≡ told text put2 → (slice_index text 0 == 61) ≡ (b == 61)
  first_string cs put at b s text put2 None is quote h = ap (λ t. slice_index t 0 == 61) (sym (ap (text_of []) h)) ∙ sym (ap (λ n. n == 61) (eqb-true b 34 quote))
  first_string cs put at b s text put2 (Some end) is quote h =
      let m = string_moves at (b ∷ s) [] end is in
      let r = behind_front (take (end - at) (b ∷ s)) _ text put2 h in
      let one : end - at ≡ suc (m.count - 1) = omega (arith, m.is, m.some) in
      ap (λ t. slice_index t 0 == 61) (sym r.same ∙ ap (λ n. take n (b ∷ s) ++ r.rest) one)

  pub same_first : (cs : List ℕ) (dash : Bool) (put at : ℕ) (s text : List ℕ) (put2 : ℕ) → rest_of cs dash 0 put at s ≡ told text put2 → (slice_index text 0 == 61) ≡ (slice_index s 0 == 61)
  same_first cs dash put at [] text put2 h = ap (λ t. slice_index t 0 == 61) (sym (ap (text_of []) h))
  same_first cs dash put at (b ∷ s) text put2 h = by_quote (b == 34) refl h
    where
      by_quote : (q : Bool) → b == 34 ≡ q → cond q (string_put cs put at b s (string_end at (b ∷ s))) (use_put cs dash put at b s (used_at aliases (b ∷ s))) ≡ told text put2 → (slice_index text 0 == 61) ≡ (b == 61)
      by_quote true is g = first_string cs put at b s text put2 (string_end at (b ∷ s)) refl is g
      by_quote false is g = first_use cs dash put at b s text put2 (used_at aliases (b ∷ s)) refl g

  -- ---- the whole rest

  abbrev Goes : ℕ → ℕ → List ℕ → Type 0
  Goes limit at s = (place put put2 c : ℕ) (cs : List ℕ) (dash : Bool) (n : ℕ) (ncs : List ℕ) (ndash : Bool) (text : List ℕ) → body limit (c ∷ cs) dash n at s ≡ ends (at + length s) → rest_of ncs ndash n put place s ≡ told text put2 → Ends (c ∷ cs) (dash_of n dash) text

  abbrev step_of : ℕ → ℕ → ℕ → List ℕ → List ℕ → Effect → Bool → Bool → End
  step_of limit at b closers s e full last =
      by_effect e (cond full (Err (TooDeep at)) (body limit (closer b ∷ closers) (b == 45) 0 (at + 1) s))
      (cond last (ends (at + 1)) (body limit (outer closers) (b == 45) 0 (at + 1) s))
      (Err (Unclosed at)) (body limit closers (b == 45) 0 (at + 1) s)

  longer_at : (at : ℕ) (s : List ℕ) → at + suc (length s) ≡ (at + 1) + length s
  longer_at at s = omega arith

  no_more : (s : List ℕ) → length s ≡ 0 → s ≡ []
  no_more [] e = refl
  no_more (b ∷ s) e = absurd (omega arith)

  -- a byte outside strings before a text, by what it does there
  record Next (c : ℕ) (cs : List ℕ) (b : ℕ) (rest : List ℕ) (e : Effect) : Type 0 where
    limit : ℕ
    next : (other : ℕ) → step_of limit other b (c ∷ cs) rest e (nat_le limit (length (c ∷ cs))) (nat_le (length (c ∷ cs)) 1) ≡ ends (other + suc (length rest))

  opens_next : (c : ℕ) (cs : List ℕ) (b : ℕ) (rest : List ℕ) → Ends (closer b ∷ c ∷ cs) (b == 45) rest → Next c cs b rest Opens
  opens_next c cs b rest h = record {
    limit = h.limit + suc (length (c ∷ cs));
    next = λ other.
        ap (λ q. cond q (Err (TooDeep other)) (body (h.limit + suc (length (c ∷ cs))) (closer b ∷ c ∷ cs) (b == 45) 0 (other + 1) rest)) (lt-leb (h.limit + suc (length (c ∷ cs))) (length (c ∷ cs)) (omega arith))
        ∙ wider h.limit (h.limit + suc (length (c ∷ cs))) (omega arith) rest (other + 1) ((other + 1) + length rest) (closer b ∷ c ∷ cs) (b == 45) 0 (h.ends_at (other + 1))
        ∙ ap ends (sym (longer_at other rest));
  }

  closes_next : (limit at b c : ℕ) (cs s rest : List ℕ) (put2 place put : ℕ) (ncs : List ℕ) (last : Bool) → nat_le (length (c ∷ cs)) 1 ≡ last → Goes limit (at + 1) s
      → cond last (ends (at + 1)) (body limit cs (b == 45) 0 (at + 1) s) ≡ ends (at + suc (length s)) → rest_of ncs (b == 45) 0 put place s ≡ told rest put2 → Next c cs b rest Closes
  closes_next limit at b c cs s rest put2 place put ncs true is go h r =
      let e : at + 1 ≡ at + suc (length s) = ap (end_of 0) h in
      let none : s ≡ [] = no_more s (omega (arith, e)) in
      let nothing : [] ≡ rest = ap (text_of []) (ap (rest_of ncs (b == 45) 0 put place) (sym none) ∙ r) in
      subst (λ t. Next c cs b t Closes) nothing (record {
        limit = limit;
        next = λ other. ap (λ q. cond q (ends (other + 1)) (body limit cs (b == 45) 0 (other + 1) [])) is;
      })
  closes_next limit at b c [] s rest put2 place put ncs false is go h r = absurd (cc)
  closes_next limit at b c (c2 ∷ cs) s rest put2 place put ncs false is go h r =
      let i = go place put put2 c2 cs (b == 45) 0 ncs (b == 45) rest (h ∙ ap ends (longer_at at s)) r in
      record {
        limit = i.limit;
        next = λ other. ap (λ q. cond q (ends (other + 1)) (body i.limit (c2 ∷ cs) (b == 45) 0 (other + 1) rest)) is ∙ i.ends_at (other + 1) ∙ ap ends (sym (longer_at other rest));
      }

  next_of : (limit at b c : ℕ) (cs s rest : List ℕ) (put2 place put : ℕ) (ncs : List ℕ) (e : Effect) (full last : Bool) → nat_le (length (c ∷ cs)) 1 ≡ last → Goes limit (at + 1) s
      → step_of limit at b (c ∷ cs) s e full last ≡ ends (at + suc (length s)) → rest_of ncs (b == 45) 0 put place s ≡ told rest put2 → Next c cs b rest e
  next_of limit at b c cs s rest put2 place put ncs Opens true last is go h r = absurd (cc)
  next_of limit at b c cs s rest put2 place put ncs Opens false last is go h r =
      opens_next c cs b rest (go place put put2 (closer b) (c ∷ cs) (b == 45) 0 ncs (b == 45) rest (h ∙ ap ends (longer_at at s)) r)
  next_of limit at b c cs s rest put2 place put ncs Closes full last is go h r = closes_next limit at b c cs s rest put2 place put ncs last is go h r
  next_of limit at b c cs s rest put2 place put ncs Fails full last is go h r = absurd (cc)
  next_of limit at b c cs s rest put2 place put ncs Passes full last is go h r =
      let i = go place put put2 c cs (b == 45) 0 ncs (b == 45) rest (h ∙ ap ends (longer_at at s)) r in
      record { limit = i.limit; next = λ other. i.ends_at (other + 1) ∙ ap ends (sym (longer_at other rest)) }

  plain_put : (limit at b c : ℕ) (cs s rest : List ℕ) (put2 place put : ℕ) (ncs : List ℕ) (dash : Bool) → b == 34 ≡ false → Goes limit (at + 1) s
      → step_of limit at b (c ∷ cs) s (effect_of b (slice_index s 0) dash c) (nat_le limit (length (c ∷ cs))) (nat_le (length (c ∷ cs)) 1) ≡ ends (at + suc (length s)) → rest_of ncs (b == 45) 0 put place s ≡ told rest put2 → Ends (c ∷ cs) dash (b ∷ rest)
  plain_put limit at b c cs s rest put2 place put ncs dash other_byte go h r =
      let x = next_of limit at b c cs s rest put2 place put ncs (effect_of b (slice_index s 0) dash c) (nat_le limit (length (c ∷ cs))) (nat_le (length (c ∷ cs)) 1) refl go h r in
      let seen : effect_of b (slice_index rest 0) dash c ≡ effect_of b (slice_index s 0) dash c = ap (λ q. effect_by b q dash c) (same_first ncs (b == 45) put place s rest put2 r) in
      record {
        limit = x.limit;
        ends_at = λ other.
            ap (λ q. cond q (option_map_or (λ end. body x.limit (c ∷ cs) false (end - (other + 1)) (other + 1) rest) (string_end other (b ∷ rest)) (Err (BadString other)))
            (step_of x.limit other b (c ∷ cs) rest (effect_of b (slice_index rest 0) dash c) (nat_le x.limit (length (c ∷ cs))) (nat_le (length (c ∷ cs)) 1))) other_byte
            ∙ ap (λ e. step_of x.limit other b (c ∷ cs) rest e (nat_le x.limit (length (c ∷ cs))) (nat_le (length (c ∷ cs)) 1)) seen
            ∙ x.next other;
      }

  use_ends : (limit at b c : ℕ) (cs s text : List ℕ) (put2 place put : ℕ) (ncs : List ℕ) (dash ndash : Bool) (o : Option Alias) → used_at aliases (b ∷ s) ≡ o → b == 34 ≡ false → Goes limit (at + 1) s
      → body limit (c ∷ cs) dash 0 at (b ∷ s) ≡ ends (at + suc (length s))
      → step_of limit at b (c ∷ cs) s (effect_of b (slice_index s 0) dash c) (nat_le limit (length (c ∷ cs))) (nat_le (length (c ∷ cs)) 1) ≡ ends (at + suc (length s))
      → use_put ncs ndash put place b s o ≡ told text put2 → Ends (c ∷ cs) dash text
  use_ends limit at b c cs s text put2 place put ncs dash ndash None is other_byte go h step g =
      let r = behind_front (b ∷ []) _ text put2 g in
      subst (Ends (c ∷ cs) dash) r.same (plain_put limit at b c cs s r.rest put2 (place + 1) put (closers_after (effect_of b (slice_index s 0) ndash (innermost ncs)) b ncs) dash other_byte go step r.is)
  use_ends limit at b c cs s text put2 place put ncs dash ndash (Some a) is other_byte go h step g =
      let u = used_parts aliases b s a is in
      let r = behind_front (put_text a) _ text put2 (fits_or (fits room a (length ncs) put) _ place text put2 g) in
      let p = alias_put a u.value (known _ a u.found) in
      let past : body limit (c ∷ cs) false (suffix_len s) (at + 1) s ≡ ends ((at + 1) + length s) = sym (past_name limit (c ∷ cs) dash at b s u.mark u.some u.no_dash) ∙ h ∙ ap ends (longer_at at s) in
      let i = go (place + 1) (put + length a.text) put2 c cs false (suffix_len s) ncs false r.rest past r.is in
      subst (Ends (c ∷ cs) dash) r.same (put_before (put_text a) r.rest c cs dash p.skips (p.no_dash dash) (subst (λ d. Ends (c ∷ cs) d r.rest) (no_dash (suffix_len s)) i))

  abbrev string_step : ℕ → ℕ → List ℕ → List ℕ → Option ℕ → End
  string_step limit at closers s o = option_map_or (λ end. body limit closers false (end - (at + 1)) (at + 1) s) o (Err (BadString at))

  string_ends : (limit at b c : ℕ) (cs s text : List ℕ) (put2 place put : ℕ) (ncs : List ℕ) (dash : Bool) (o : Option ℕ) → string_end at (b ∷ s) ≡ o → Goes limit (at + 1) s
      → string_step limit at (c ∷ cs) s o ≡ ends (at + suc (length s)) → string_put ncs put place b s (string_end place (b ∷ s)) ≡ told text put2 → Ends (c ∷ cs) dash text
  string_ends limit at b c cs s text put2 place put ncs dash None is go h g = absurd (cc)
  string_ends limit at b c cs s text put2 place put ncs dash (Some end) is go h g =
      let m = string_moves at (b ∷ s) [] end is in
      let (front, more, of, same, long) = string_front (b ∷ s) at end is in
      let here : end - (at + 1) ≡ m.count - 1 = omega (arith, m.is, m.some) in
      let there : (place + m.count) - (place + 1) ≡ m.count - 1 = omega (arith, m.some) in
      let count : (place + m.count) - place ≡ length front = omega (arith, m.is, long) in
      let g2 : string_put ncs put place b s (Some (place + m.count)) ≡ told text put2 = ap (string_put ncs put place b s) (sym (m.alone place)) ∙ g in
      let r = behind_front (take ((place + m.count) - place) (b ∷ s)) _ text put2 g2 in
      let taken : take ((place + m.count) - place) (b ∷ s) ≡ front = ap (λ n. take n (b ∷ s)) count ∙ ap (take (length front)) same ∙ take-append_seam front more in
      let i = go (place + 1) put put2 c cs false (m.count - 1) ncs false r.rest (ap (λ n. body limit (c ∷ cs) false n (at + 1) s) (sym here) ∙ h ∙ ap ends (longer_at at s)) (ap (λ n. rest_of ncs false n put (place + 1) s) (sym there) ∙ r.is) in
      subst (Ends (c ∷ cs) dash) (ap (λ t. t ++ r.rest) (sym taken) ∙ r.same)
      (put_before front r.rest c cs dash (string front of) (string_dash front of) (subst (λ d. Ends (c ∷ cs) d r.rest) (no_dash (m.count - 1)) i))
    where
      string_dash : (front : List ℕ) → IsString front → dash_behind dash front ≡ false
      string_dash front (value, (within, spells, same)) = ap (dash_behind dash) same ∙ dash_last (34 == 45) within 34

  pub replaced : (limit : ℕ) (s : List ℕ) (at : ℕ) → Goes limit at s
  replaced limit [] at place put put2 c cs dash n ncs ndash text h g = absurd (cc)
  replaced limit (b ∷ s) at place put put2 c cs dash (suc n) ncs ndash text h g =
      subst (λ d. Ends (c ∷ cs) d text) (no_dash n) (replaced limit s (at + 1) (place + 1) put put2 c cs false n ncs false text (h ∙ ap ends (longer_at at s)) g)
  replaced limit (b ∷ s) at place put put2 c cs dash zero ncs ndash text h g =
      by_quote (b == 34) refl h g (λ p1 p2 p3 c2 cs2 d2 n2 x2 y2 t2. replaced limit s (at + 1) p1 p2 p3 c2 cs2 d2 n2 x2 y2 t2)
    where
      by_quote : (q : Bool) → b == 34 ≡ q
          → cond q (string_step limit at (c ∷ cs) s (string_end at (b ∷ s))) (step_of limit at b (c ∷ cs) s (effect_of b (slice_index s 0) dash c) (nat_le limit (length (c ∷ cs))) (nat_le (length (c ∷ cs)) 1)) ≡ ends (at + suc (length s))
          → cond q (string_put ncs put place b s (string_end place (b ∷ s))) (use_put ncs ndash put place b s (used_at aliases (b ∷ s))) ≡ told text put2 → Goes limit (at + 1) s → Ends (c ∷ cs) dash text
      by_quote true is x y go = string_ends limit at b c cs s text put2 place put ncs dash (string_end at (b ∷ s)) refl go x y
      by_quote false is x y go = use_ends limit at b c cs s text put2 place put ncs dash ndash (used_at aliases (b ∷ s)) refl is go h x y
