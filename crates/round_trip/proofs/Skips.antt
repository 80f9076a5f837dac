-- Texts that a scan for the end of a body goes past: behind them the same brackets are open.
use Rattle.std.proofs.Common.{◌≡◌, ℕ, zero, suc, ◌+◌, ◌-◌, ◌≤◌, Bool, false, cond, List, [], ◌∷◌, ◌++◌, length, refl, ap, sym, subst, ◌∙◌, arith, append_assoc, length-append, add-zero, Result, Ok, Err, Some}
use Rattle.std.specs.Prelude.{◌==◌, nat_le, slice_index}
use Rattle.std.specs.List.{AllByRecursion}
use Rattle.std.specs.Option.{option_map_or}
use Rattle.std.proofs.lemmas.Bool.{lt-leb}
use Rattle.text_scan.specs.Strings.{IsString, string_end}
use Rattle.text_scan.proofs.StringLaws.{string_covers}
use Rattle.mlir_lexer.specs.Body.{body, by_effect, effect_of, innermost, outer, closer}
use Rattle.mlir_lexer.specs.declared.body.Effect.{Effect}
use Rattle.mlir_lexer.specs.declared.body.Effect.TheVariants.{Passes}
use Rattle.mlir_lexer.specs.declared.body.BodyFault.{BodyFault}
use Rattle.mlir_lexer.specs.declared.body.BodyFault.TheVariants.{Unclosed, TooDeep, BadString}
use Rattle.round_trip.proofs.Nesting.{IsOuter}

abbrev pub End : Type 0
End = Result ℕ BodyFault

abbrev pub ends : ℕ → End
ends n = Ok n

-- whether the last byte is `-`, where the byte before the text is or isn't
abbrev pub dash_behind : Bool → List ℕ → Bool
dash_behind dash [] = dash
dash_behind dash (b ∷ text) = dash_behind (b == 45) text

dash_join : (dash : Bool) (a b : List ℕ) → dash_behind dash (a ++ b) ≡ dash_behind (dash_behind dash a) b
dash_join dash [] b = refl
dash_join dash (c ∷ a) b = dash_join (c == 45) a b

-- Behind the text the scan goes on with the same brackets, where so many may be opened in it.
pub record Skips (text : List ℕ) : Type 0 where
  pub need : ℕ
  pub skips : (limit c : ℕ) (cs : List ℕ) (dash : Bool) (at : ℕ) (z : List ℕ) → need + suc (length cs) ≤ limit
      → body limit (c ∷ cs) dash 0 at (text ++ z) ≡ body limit (c ∷ cs) (dash_behind dash text) 0 (at + length text) z

pub nothing : Skips []
nothing = record { need = 0; skips = λ limit c cs dash at z few. ap (λ n. body limit (c ∷ cs) dash 0 n z) (sym (add-zero at)) }

pub join : (a b : List ℕ) → Skips a → Skips b → Skips (a ++ b)
join a b x y = record {
  need = x.need + y.need;
  skips = λ limit c cs dash at z few.
      ap (body limit (c ∷ cs) dash 0 at) (append_assoc a b z) ∙ x.skips limit c cs dash at (b ++ z) (omega (arith, few))
      ∙ y.skips limit c cs (dash_behind dash a) (at + length a) z (omega (arith, few))
      ∙ ap (λ d. body limit (c ∷ cs) d 0 ((at + length a) + length b) z) (sym (dash_join dash a b))
      ∙ ap (λ n. body limit (c ∷ cs) (dash_behind dash (a ++ b)) 0 n z) (let e : (at + length a) + length b ≡ at + length (a ++ b) = omega (arith, length-append a b) in e);
}

pub same_text : (a b : List ℕ) → a ≡ b → Skips a → Skips b
same_text a b e x = subst Skips e x

-- ---- bytes without brackets

passes : (b next : ℕ) (dash : Bool) (last : ℕ) → IsOuter b → effect_of b next dash last ≡ Passes
passes b next dash last h = rw (h.less, h.round, h.square, h.brace, h.close_round, h.close_square, h.close_brace, h.greater) refl

pub pass_byte : (limit : ℕ) (closers : List ℕ) (dash : Bool) (at b : ℕ) (z : List ℕ) → IsOuter b → body limit closers dash 0 at (b ∷ z) ≡ body limit closers (b == 45) 0 (at + 1) z
pass_byte limit closers dash at b z h =
    ap (λ q. cond q (option_map_or (λ end. body limit closers false (end - (at + 1)) (at + 1) z) (string_end at (b ∷ z)) (Err (BadString at))) (step_of (effect_of b (slice_index z 0) dash (innermost closers)))) h.quote
    ∙ ap step_of (passes b (slice_index z 0) dash (innermost closers) h)
  where
    step_of : Effect → End
    step_of e =
        by_effect e (cond (nat_le limit (length closers)) (Err (TooDeep at)) (body limit (closer b ∷ closers) (b == 45) 0 (at + 1) z))
        (cond (nat_le (length closers) 1) (ends (at + 1)) (body limit (outer closers) (b == 45) 0 (at + 1) z))
        (Err (Unclosed at)) (body limit closers (b == 45) 0 (at + 1) z)

pub pass : (text : List ℕ) (limit : ℕ) (closers : List ℕ) (dash : Bool) (at : ℕ) (z : List ℕ) → AllByRecursion IsOuter text → body limit closers dash 0 at (text ++ z) ≡ body limit closers (dash_behind dash text) 0 (at + length text) z
pass [] limit closers dash at z h = ap (λ n. body limit closers dash 0 n z) (sym (add-zero at))
pass (b ∷ text) limit closers dash at z h =
    pass_byte limit closers dash at b (text ++ z) h.0 ∙ pass text limit closers (b == 45) (at + 1) z h.1
    ∙ ap (λ n. body limit closers (dash_behind (b == 45) text) 0 n z) (let e : (at + 1) + length text ≡ at + length (b ∷ text) = omega arith in e)

pub plain : (text : List ℕ) → AllByRecursion IsOuter text → Skips text
plain text h = record { need = 0; skips = λ limit c cs dash at z few. pass text limit (c ∷ cs) dash at z h }

-- ---- strings

pub skip_bytes : (n : ℕ) (limit : ℕ) (closers : List ℕ) (at : ℕ) (a z : List ℕ) → length a ≡ n → body limit closers false n at (a ++ z) ≡ body limit closers false 0 (at + n) z
skip_bytes zero limit closers at [] z h = ap (λ k. body limit closers false 0 k z) (sym (add-zero at))
skip_bytes zero limit closers at (b ∷ a) z h = absurd (omega (arith, h))
skip_bytes (suc n) limit closers at [] z h = absurd (omega (arith, h))
skip_bytes (suc n) limit closers at (b ∷ a) z h =
    skip_bytes n limit closers (at + 1) a z (omega (arith, h)) ∙ ap (λ k. body limit closers false 0 k z) (let e : (at + 1) + n ≡ at + suc n = omega arith in e)

dash_quote : (dash : Bool) (text : List ℕ) → dash_behind dash (text ++ 34 ∷ []) ≡ false
dash_quote dash [] = refl
dash_quote dash (b ∷ text) = dash_quote (b == 45) text

pub string : (text : List ℕ) → IsString text → Skips text
string text (value, (within, spells, same)) = subst Skips (sym same) (record {
  need = 0;
  skips = λ limit c cs dash at z few.
      let covers : string_end at ((34 ∷ (within ++ 34 ∷ [])) ++ z) ≡ Some (at + length (34 ∷ (within ++ 34 ∷ []))) = string_covers (34 ∷ (within ++ 34 ∷ [])) z at (value, (within, spells, refl)) in
      let count : (at + length (34 ∷ (within ++ 34 ∷ []))) - (at + 1) ≡ length (within ++ 34 ∷ []) = omega arith in
      ap (λ o. option_map_or (λ end. body limit (c ∷ cs) false (end - (at + 1)) (at + 1) ((within ++ 34 ∷ []) ++ z)) o (Err (BadString at))) covers
      ∙ ap (λ n. body limit (c ∷ cs) false n (at + 1) ((within ++ 34 ∷ []) ++ z)) count
      ∙ skip_bytes (length (within ++ 34 ∷ [])) limit (c ∷ cs) (at + 1) (within ++ 34 ∷ []) z refl
      ∙ ap (λ n. body limit (c ∷ cs) false 0 n z) (let e : (at + 1) + length (within ++ 34 ∷ []) ≡ at + length (34 ∷ (within ++ 34 ∷ [])) = omega arith in e)
      ∙ ap (λ d. body limit (c ∷ cs) d 0 (at + length (34 ∷ (within ++ 34 ∷ []))) z) (sym (dash_quote (34 == 45) within));
})

-- ---- brackets

room_for : (limit n : ℕ) → suc n ≤ limit → nat_le limit n ≡ false
room_for limit n h = lt-leb limit n (omega (arith, h))

two : (n : ℕ) → nat_le (suc (suc n)) 1 ≡ false
two n = lt-leb (suc (suc n)) 1 (omega arith)

-- `(`, `[` or `{`, a text, and what closes it
pub record IsPair (b e : ℕ) : Type 0 where
  pub opens : (limit : ℕ) (closers : List ℕ) (dash : Bool) (at : ℕ) (z : List ℕ) → nat_le limit (length closers) ≡ false → body limit closers dash 0 at (b ∷ z) ≡ body limit (e ∷ closers) false 0 (at + 1) z
  pub closes : (limit c : ℕ) (cs : List ℕ) (dash : Bool) (at : ℕ) (z : List ℕ) → body limit (e ∷ c ∷ cs) dash 0 at (e ∷ z) ≡ body limit (c ∷ cs) false 0 (at + 1) z
  pub no_dash : (b == 45) ≡ false
  pub end_no_dash : (e == 45) ≡ false

pub round : IsPair 40 41
round = record {
  opens = λ limit closers dash at z h. ap (λ q. cond q (Err (TooDeep at)) (body limit (41 ∷ closers) false 0 (at + 1) z)) h;
  closes = λ limit c cs dash at z. ap (λ q. cond q (ends (at + 1)) (body limit (c ∷ cs) false 0 (at + 1) z)) (two (length cs));
  no_dash = refl;
  end_no_dash = refl;
}

pub square : IsPair 91 93
square = record {
  opens = λ limit closers dash at z h. ap (λ q. cond q (Err (TooDeep at)) (body limit (93 ∷ closers) false 0 (at + 1) z)) h;
  closes = λ limit c cs dash at z. ap (λ q. cond q (ends (at + 1)) (body limit (c ∷ cs) false 0 (at + 1) z)) (two (length cs));
  no_dash = refl;
  end_no_dash = refl;
}

pub brace : IsPair 123 125
brace = record {
  opens = λ limit closers dash at z h. ap (λ q. cond q (Err (TooDeep at)) (body limit (125 ∷ closers) false 0 (at + 1) z)) h;
  closes = λ limit c cs dash at z. ap (λ q. cond q (ends (at + 1)) (body limit (c ∷ cs) false 0 (at + 1) z)) (two (length cs));
  no_dash = refl;
  end_no_dash = refl;
}

pub dash_last : (dash : Bool) (text : List ℕ) (e : ℕ) → dash_behind dash (text ++ e ∷ []) ≡ (e == 45)
dash_last dash [] e = refl
dash_last dash (b ∷ text) e = dash_last (b == 45) text e

pub bracketed : (b e : ℕ) (text : List ℕ) → IsPair b e → Skips text → Skips (b ∷ (text ++ e ∷ []))
bracketed b e text p x = record {
  need = suc x.need;
  skips = λ limit c cs dash at z few.
      let full = room_for limit (suc (length cs)) (omega (arith, few)) in
      p.opens limit (c ∷ cs) dash at ((text ++ e ∷ []) ++ z) full
      ∙ ap (body limit (e ∷ c ∷ cs) false 0 (at + 1)) (append_assoc text (e ∷ []) z)
      ∙ x.skips limit e (c ∷ cs) false (at + 1) (e ∷ z) (omega (arith, few))
      ∙ p.closes limit c cs (dash_behind false text) ((at + 1) + length text) z
      ∙ ap (λ d. body limit (c ∷ cs) d 0 (((at + 1) + length text) + 1) z) (sym (dash_last (b == 45) text e ∙ p.end_no_dash))
      ∙ ap (λ n. body limit (c ∷ cs) (dash_behind dash (b ∷ (text ++ e ∷ []))) 0 n z) (let same : ((at + 1) + length text) + 1 ≡ at + length (b ∷ (text ++ e ∷ [])) = omega (arith, length-append text (e ∷ [])) in same);
}

-- ` -> `, whose `>` closes nothing
pub arrow : Skips (32 ∷ 45 ∷ 62 ∷ 32 ∷ [])
arrow = record { need = 0; skips = λ limit c cs dash at z few. ap (λ n. body limit (c ∷ cs) false 0 n z) (let e : (((at + 1) + 1) + 1) + 1 ≡ at + 4 = omega arith in e) }
