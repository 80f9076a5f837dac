-- Steps of the scan of a body.
use Rattle.std.proofs.Common.{◌≡◌, ◌≢◌, ℕ, zero, suc, ◌+◌, ◌-◌, ◌<◌, ◌≤◌, Bool, false, cond, List, [], ◌∷◌, length, take, drop, set, get_or, refl, ap, sym, ◌∙◌, arith, add-zero, length-drop, length-take, Ok, Err, Some, Option, Result}
use Rattle.std.specs.Prelude.{◌==◌, nat_le, reverse}
use Rattle.std.specs.Option.{option_map_or}
use Rattle.std.proofs.lemmas.Bool.{ne_eqb, lt-leb}
use Rattle.std.proofs.lemmas.List.{drop_more, drop-drop, get_or-drop, take_more, take_more_set, reverse-append, length-reverse}
use Rattle.text_scan.specs.Strings.{string_end}
use Rattle.mlir_lexer.specs.Body.{body, by_effect, effect_of, innermost, outer, closer, stack_of}
use Rattle.mlir_lexer.specs.declared.body.Effect.{Effect}
use Rattle.mlir_lexer.specs.declared.body.Effect.TheVariants.{Opens, Closes, Passes}
use Rattle.mlir_lexer.specs.declared.body.BodyFault.{BodyFault}
use Rattle.mlir_lexer.specs.declared.body.BodyFault.TheVariants.{Unclosed, TooDeep, BadString}

skipped : (room : ℕ) (closers : List ℕ) (n at : ℕ) (s : List ℕ) → n ≤ length s → body room closers false n at s ≡ body room closers false 0 (at + n) (drop n s)
skipped room closers zero at s h = ap (λ k. body room closers false 0 k s) (sym (add-zero at))
skipped room closers (suc n) at [] h = absurd (omega arith)
skipped room closers (suc n) at (b ∷ s) h = skipped room closers n (at + 1) s (omega arith) ∙ ap (λ k. body room closers false 0 k (drop n s)) (omega arith)

next_byte : (bytes : List ℕ) (i : ℕ) → get_or (drop (i + 1) bytes) 0 0 ≡ get_or bytes (i + 1) 0
next_byte bytes i = get_or-drop (i + 1) bytes 0 0 ∙ ap (λ n. get_or bytes n 0) (add-zero (i + 1))

-- a byte outside strings
pub at_byte : (room : ℕ) (closers : List ℕ) (dash : Bool) (bytes : List ℕ) (i : ℕ) (effect : Effect) → i < length bytes → get_or bytes i 0 ≢ 34 → effect ≡ effect_of (get_or bytes i 0) (get_or bytes (i + 1) 0) dash (innermost closers) → body room closers dash 0 i (drop i bytes) ≡ by_effect effect
    (cond (nat_le room (length closers)) (Err (TooDeep i)) (body room (closer (get_or bytes i 0) ∷ closers) (get_or bytes i 0 == 45) 0 (i + 1) (drop (i + 1) bytes)))
    (cond (nat_le (length closers) 1) (Ok (i + 1)) (body room (outer closers) (get_or bytes i 0 == 45) 0 (i + 1) (drop (i + 1) bytes)))
    (Err (Unclosed i))
    (body room closers (get_or bytes i 0 == 45) 0 (i + 1) (drop (i + 1) bytes))
at_byte room closers dash bytes i effect inside other is =
    ap (body room closers dash 0 i) (drop_more bytes i 0 inside) ∙ rw (ne_eqb (get_or bytes i 0) 34 other, next_byte bytes i, ← is) refl

abbrev past_string : ℕ → List ℕ → List ℕ → ℕ → Option ℕ → Result ℕ BodyFault
past_string room closers bytes i o = option_map_or (λ end. body room closers false (end - (i + 1)) (i + 1) (drop (i + 1) bytes)) o (Err (BadString i))

-- a quote
pub at_string : (room : ℕ) (closers : List ℕ) (dash : Bool) (bytes : List ℕ) (i : ℕ) (o : Option ℕ) → i < length bytes → get_or bytes i 0 ≡ 34 → o ≡ string_end i (drop i bytes) → body room closers dash 0 i (drop i bytes) ≡ past_string room closers bytes i o
at_string room closers dash bytes i o inside quote is =
    let text : drop i bytes ≡ 34 ∷ drop (i + 1) bytes = drop_more bytes i 0 inside ∙ ap (λ b. b ∷ drop (i + 1) bytes) quote in
    let found : o ≡ string_end i (34 ∷ drop (i + 1) bytes) = is ∙ ap (string_end i) text in
    ap (body room closers dash 0 i) text ∙ ap (past_string room closers bytes i) (sym found)

-- behind a string
pub behind_string : (room : ℕ) (closers : List ℕ) (bytes : List ℕ) (i end : ℕ) → i < end → end ≤ length bytes → past_string room closers bytes i (Some end) ≡ body room closers false 0 end (drop end bytes)
behind_string room closers bytes i end after within =
    let place : (i + 1) + (end - (i + 1)) ≡ end = omega arith in
    skipped room closers (end - (i + 1)) (i + 1) (drop (i + 1) bytes) (omega (arith, length-drop (i + 1) bytes))
    ∙ rw drop-drop (ap (λ k. body room closers false 0 k (drop k bytes)) place)

-- the open brackets

stack_more : (xs : List ℕ) (n : ℕ) → n < length xs → stack_of xs (n + 1) ≡ get_or xs n 0 ∷ stack_of xs n
stack_more xs n h = ap reverse (take_more xs n 0 h) ∙ reverse-append (take n xs) (get_or xs n 0 ∷ [])

pub stack_push : (xs : List ℕ) (n c : ℕ) → n < length xs → stack_of (set xs n c) (n + 1) ≡ c ∷ stack_of xs n
stack_push xs n c h = ap reverse (take_more_set xs n c h) ∙ reverse-append (take n xs) (c ∷ [])

pub stack_top : (xs : List ℕ) (n : ℕ) → 1 ≤ n → n ≤ length xs → (innermost (stack_of xs n) ≡ get_or xs (n - 1) 0) × (outer (stack_of xs n) ≡ stack_of xs (n - 1))
stack_top xs n some h =
    let less : n - 1 < length xs = omega arith in
    let is : stack_of xs n ≡ get_or xs (n - 1) 0 ∷ stack_of xs (n - 1) = ap (stack_of xs) (let e : n ≡ (n - 1) + 1 = omega arith in e) ∙ stack_more xs (n - 1) less in
    (ap innermost is, ap outer is)

pub stack_len : (xs : List ℕ) (n : ℕ) → n ≤ length xs → length (stack_of xs n) ≡ n
stack_len xs n h = length-reverse (take n xs) ∙ omega (arith, length-take n xs)

-- what each effect leaves to do

pub record At (room n : ℕ) (xs : List ℕ) (dash : Bool) (bytes : List ℕ) (i : ℕ) (effect : Effect) : Type 0 where
  pub inside : i < length bytes
  pub other : get_or bytes i 0 ≢ 34
  pub some : 1 ≤ n
  pub size : n ≤ length xs
  pub is : effect ≡ effect_of (get_or bytes i 0) (get_or bytes (i + 1) 0) dash (get_or xs (n - 1) 0)

abbrev pub rest_of : ℕ → List ℕ → List ℕ → ℕ → Result ℕ BodyFault
rest_of room closers bytes i = body room closers (get_or bytes i 0 == 45) 0 (i + 1) (drop (i + 1) bytes)

by_byte : (room n : ℕ) (xs : List ℕ) (dash : Bool) (bytes : List ℕ) (i : ℕ) (effect : Effect) → At room n xs dash bytes i effect → body room (stack_of xs n) dash 0 i (drop i bytes) ≡ by_effect effect
    (cond (nat_le room n) (Err (TooDeep i)) (rest_of room (closer (get_or bytes i 0) ∷ stack_of xs n) bytes i))
    (cond (nat_le n 1) (Ok (i + 1)) (rest_of room (stack_of xs (n - 1)) bytes i))
    (Err (Unclosed i))
    (rest_of room (stack_of xs n) bytes i)
by_byte room n xs dash bytes i effect h =
    let (top, below) = stack_top xs n h.some h.size in
    let is : effect ≡ effect_of (get_or bytes i 0) (get_or bytes (i + 1) 0) dash (innermost (stack_of xs n)) = h.is ∙ ap (effect_of (get_or bytes i 0) (get_or bytes (i + 1) 0) dash) (sym top) in
    at_byte room (stack_of xs n) dash bytes i effect h.inside h.other is ∙ rw (stack_len xs n h.size, below) refl

pub at_opening : (room n : ℕ) (xs : List ℕ) (dash : Bool) (bytes : List ℕ) (i : ℕ) → At room n xs dash bytes i Opens → n < room → n < length xs → body room (stack_of xs n) dash 0 i (drop i bytes) ≡ rest_of room (stack_of (set xs n (closer (get_or bytes i 0))) (n + 1)) bytes i
at_opening room n xs dash bytes i h few fits =
    by_byte room n xs dash bytes i Opens h ∙ rw (lt-leb room n few, stack_push xs n (closer (get_or bytes i 0)) fits) refl

pub at_closing : (room n : ℕ) (xs : List ℕ) (dash : Bool) (bytes : List ℕ) (i : ℕ) → At room n xs dash bytes i Closes → 1 < n → body room (stack_of xs n) dash 0 i (drop i bytes) ≡ rest_of room (stack_of xs (n - 1)) bytes i
at_closing room n xs dash bytes i h more = by_byte room n xs dash bytes i Closes h ∙ rw (lt-leb n 1 more) refl

pub at_other : (room n : ℕ) (xs : List ℕ) (dash : Bool) (bytes : List ℕ) (i : ℕ) → At room n xs dash bytes i Passes → body room (stack_of xs n) dash 0 i (drop i bytes) ≡ rest_of room (stack_of xs n) bytes i
at_other room n xs dash bytes i h = by_byte room n xs dash bytes i Passes h
