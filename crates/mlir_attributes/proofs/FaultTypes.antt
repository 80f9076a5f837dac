-- The faults of types and of kept bodies.
use Rattle.std.proofs.Common.{◌≡◌, ℕ, zero, suc, ◌+◌, ◌-◌, ◌<◌, ◌≤◌, Bool, true, false, cond, List, [], ◌∷◌, ◌++◌, length, take, drop, refl, ap, arith, slice_index, length-drop, length-take, Result, Ok, Err, Option, Some, None}
use Rattle.std.specs.Prelude.{slice_range, nat_le, ◌==◌}
use Rattle.std.specs.Option.{option_map_or}
use Rattle.std.specs.Str.Parse.{digits_value}
use Rattle.text_scan.specs.Strings.{string_end}
use Rattle.mlir_lexer.specs.declared.token.Token.{Token}
use Rattle.mlir_lexer.specs.declared.token.TokenKind.{TokenKind}
use Rattle.mlir_lexer.specs.declared.token.TokenKind.TheVariants as k
use Rattle.mlir_lexer.specs.declared.token.LexFault.{LexFault}
use Rattle.mlir_lexer.specs.declared.body.BodyFault.{BodyFault}
use Rattle.mlir_lexer.specs.declared.body.BodyFault.TheVariants.{Unclosed, TooDeep, BadString}
use Rattle.mlir_lexer.specs.declared.body.Effect.{Effect}
use Rattle.mlir_lexer.specs.declared.body.Effect.TheVariants.{Opens, Closes, Fails, Passes}
use Rattle.mlir_lexer.specs.Body.{body as body_from, by_effect, effect_of, innermost, outer, closer, end_of_body}
use Rattle.mlir_lexer.specs.Scan.{token_at, suffix_len}
use Rattle.mlir_tree.specs.declared.sign.Sign.{Sign}
use Rattle.mlir_tree.specs.Tree.{Ty, int, word}
use Rattle.mlir_attributes.specs.declared.fault.ModKind.TheVariants as faults
use Rattle.mlir_attributes.specs.declared.aliases.Alias.{Alias}
use Rattle.mlir_attributes.specs.Place.{Place, fault, kind, sees, start, spelling, next}
use Rattle.mlir_attributes.specs.Input.{Outcome, Parser, refuse, expect, list}
use Rattle.mlir_attributes.specs.Aliases.{find, ty_meant, has_point}
use Rattle.mlir_attributes.specs.KeptText.{Names, names, in_front, put_text, fits, or_use, used_at, closers_after}
use Rattle.mlir_attributes.specs.Types.{named_by, body_fault, broken_end, first_in_body, max_width, leaf_by, leaf, int_word, is_other_word, opens_body, max_open, body_by, body_at, body, kept, has_room, put_in, use_alias, alias_ty_by, alias_ty, word_type, bang_type, results_by, function, ty_by, ty}
use Rattle.mlir_attributes.proofs.Bodies.{opens_inside, end_within}
use Rattle.mlir_attributes.proofs.FaultSteps.{Reading, IsIn, IsFault, Judged, Good, Told, FailsBy, start_within, next_in, refused, failed, failed_at, lifted, expected, both, mapped, either, list_judged, body_told}

-- ---- where a body ends

module _ (m room : ℕ) where
  -- what follows a byte
  abbrev FailsAfter : ℕ → List ℕ → Type 0
  FailsAfter at s = (closers : List ℕ) (dash : Bool) (n : ℕ) → FailsBy m (body_from room closers dash n (at + 1) s)

  string_fails : (at : ℕ) (closers s : List ℕ) (o : Option ℕ) → FailsAfter at s → at ≤ m
      → FailsBy m (option_map_or (λ stop. body_from room closers false (stop - (at + 1)) (at + 1) s) o (Err (BadString at)))
  string_fails at closers s (Some stop) go inside = go closers false (stop - (at + 1))
  string_fails at closers s None go inside = inside

  byte_fails : (at b : ℕ) (closers s : List ℕ) (e : Effect) (full last : Bool) → FailsAfter at s → at ≤ m
      → FailsBy m (by_effect e (cond full (Err (TooDeep at)) (body_from room (closer b ∷ closers) (b == 45) 0 (at + 1) s))
      (cond last (Ok (at + 1)) (body_from room (outer closers) (b == 45) 0 (at + 1) s))
      (Err (Unclosed at)) (body_from room closers (b == 45) 0 (at + 1) s))
  byte_fails at b closers s Opens true last go inside = inside
  byte_fails at b closers s Opens false last go inside = go (closer b ∷ closers) (b == 45) 0
  byte_fails at b closers s Closes full true go inside = tt
  byte_fails at b closers s Closes full false go inside = go (outer closers) (b == 45) 0
  byte_fails at b closers s Fails full last go inside = inside
  byte_fails at b closers s Passes full last go inside = go closers (b == 45) 0

  quote_fails : (at b : ℕ) (closers : List ℕ) (dash : Bool) (s : List ℕ) (q : Bool) → FailsAfter at s → at ≤ m
      → FailsBy m (cond q (option_map_or (λ stop. body_from room closers false (stop - (at + 1)) (at + 1) s) (string_end at (b ∷ s)) (Err (BadString at)))
      (by_effect (effect_of b (slice_index s 0) dash (innermost closers)) (cond (nat_le room (length closers)) (Err (TooDeep at)) (body_from room (closer b ∷ closers) (b == 45) 0 (at + 1) s))
      (cond (nat_le (length closers) 1) (Ok (at + 1)) (body_from room (outer closers) (b == 45) 0 (at + 1) s))
      (Err (Unclosed at)) (body_from room closers (b == 45) 0 (at + 1) s)))
  quote_fails at b closers dash s true go inside = string_fails at closers s (string_end at (b ∷ s)) go inside
  quote_fails at b closers dash s false go inside = byte_fails at b closers s (effect_of b (slice_index s 0) dash (innermost closers)) (nat_le room (length closers)) (nat_le (length closers) 1) go inside

  fails_inside : (n at : ℕ) (closers : List ℕ) (dash : Bool) (s : List ℕ) → at + length s ≤ m → FailsBy m (body_from room closers dash n at s)
  fails_inside n at closers dash [] h = omega (arith, h)
  fails_inside (suc n) at closers dash (b ∷ s) h = fails_inside n (at + 1) closers false s (omega (arith, h))
  fails_inside zero at closers dash (b ∷ s) h =
      let go : FailsAfter at s = (λ cs d n. fails_inside n (at + 1) cs d s (omega (arith, h))) in
      quote_fails at b closers dash s (b == 34) go (omega (arith, h))

end_fails : (bytes : List ℕ) (at depth : ℕ) → at < length bytes → FailsBy (length bytes) (end_of_body bytes at depth)
end_fails bytes at depth inside = fails_inside (length bytes) (256 - depth) 0 (at + 1) (62 ∷ []) false (drop (at + 1) bytes) (omega (arith, inside, length-drop (at + 1) bytes))

-- ---- where an alias in a body passes a limit

abbrev StopsBy : ℕ → Names → Type 0
StopsBy m (Ok p) = Unit {0}
StopsBy m (Err i) = i ≤ m

front_stops : (m : ℕ) (t : List ℕ) (o : Names) → StopsBy m o → StopsBy m (in_front t o)
front_stops m t (Ok p) h = tt
front_stops m t (Err i) h = h

module _ (m : ℕ) (aliases : List Alias) (room : ℕ) where
  -- what follows a byte
  abbrev StopsAfter : ℕ → List ℕ → Type 0
  StopsAfter at s = (closers : List ℕ) (dash : Bool) (n put : ℕ) → StopsBy m (names aliases room closers dash n put (at + 1) s)

  string_stops : (at put b : ℕ) (closers s : List ℕ) (o : Option ℕ) → StopsAfter at s
      → StopsBy m (option_map_or (λ end. in_front (take (end - at) (b ∷ s)) (names aliases room closers false (end - (at + 1)) put (at + 1) s)) o (Ok ([], put)))
  string_stops at put b closers s (Some end) go = front_stops m (take (end - at) (b ∷ s)) (names aliases room closers false (end - (at + 1)) put (at + 1) s) (go closers false (end - (at + 1)) put)
  string_stops at put b closers s None go = tt

  fits_stops : (at put : ℕ) (a : Alias) (closers s : List ℕ) (b : Bool) → StopsAfter at s → at ≤ m
      → StopsBy m (cond b (in_front (put_text a) (names aliases room closers false (suffix_len s) (put + length a.text) (at + 1) s)) (Err at))
  fits_stops at put a closers s true go inside = front_stops m (put_text a) (names aliases room closers false (suffix_len s) (put + length a.text) (at + 1) s) (go closers false (suffix_len s) (put + length a.text))
  fits_stops at put a closers s false go inside = inside

  use_stops : (at put b : ℕ) (closers after s : List ℕ) (o : Option Alias) → StopsAfter at s → at ≤ m
      → StopsBy m (or_use o (λ a. cond (fits room a (length closers) put) (in_front (put_text a) (names aliases room closers false (suffix_len s) (put + length a.text) (at + 1) s)) (Err at))
      (in_front (b ∷ []) (names aliases room after (b == 45) 0 put (at + 1) s)))
  use_stops at put b closers after s (Some a) go inside = fits_stops at put a closers s (fits room a (length closers) put) go inside
  use_stops at put b closers after s None go inside = front_stops m (b ∷ []) (names aliases room after (b == 45) 0 put (at + 1) s) (go after (b == 45) 0 put)

  byte_stops : (at put b : ℕ) (closers after s : List ℕ) (q : Bool) → StopsAfter at s → at ≤ m
      → StopsBy m (cond q (option_map_or (λ end. in_front (take (end - at) (b ∷ s)) (names aliases room closers false (end - (at + 1)) put (at + 1) s)) (string_end at (b ∷ s)) (Ok ([], put)))
      (or_use (used_at aliases (b ∷ s)) (λ a. cond (fits room a (length closers) put) (in_front (put_text a) (names aliases room closers false (suffix_len s) (put + length a.text) (at + 1) s)) (Err at))
      (in_front (b ∷ []) (names aliases room after (b == 45) 0 put (at + 1) s))))
  byte_stops at put b closers after s true go inside = string_stops at put b closers s (string_end at (b ∷ s)) go
  byte_stops at put b closers after s false go inside = use_stops at put b closers after s (used_at aliases (b ∷ s)) go inside

  names_stop : (closers : List ℕ) (dash : Bool) (n put at : ℕ) (s : List ℕ) → at + length s ≤ m → StopsBy m (names aliases room closers dash n put at s)
  names_stop closers dash n put at [] h = tt
  names_stop closers dash (suc n) put at (b ∷ s) h = names_stop closers false n put (at + 1) s (omega (arith, h))
  names_stop closers dash zero put at (b ∷ s) h =
      let go : StopsAfter at s = (λ cs d n p. names_stop cs d n p (at + 1) s (omega (arith, h))) in
      byte_stops at put b closers (closers_after (effect_of b (slice_index s 0) dash (innermost closers)) b closers) s (b == 34) go (omega (arith, h))

-- ---- the rules

module _ (j : Reading) where
  width_told : (at : ℕ) (g : Sign) (n : ℕ) (b : Bool) → at ≤ length j.base.bytes → Told {A = Ty} j (cond b (Ok (int g n)) (Err (fault faults.WideInt at)))
  width_told at g n true inside = tt
  width_told at g n false inside = record { kind = j.wide faults.WideInt refl; within = inside }

  leaf_by_told : (at : ℕ) (w : List ℕ) (i : Option (Sign × List ℕ)) → at ≤ length j.base.bytes → Told j (leaf_by at w i)
  leaf_by_told at w (Some i) inside = width_told at i.0 (digits_value 10 i.1) (nat_le (digits_value 10 i.1) max_width) inside
  leaf_by_told at w None inside = tt

  leaf_told : (at : ℕ) (w : List ℕ) → at ≤ length j.base.bytes → Told j (leaf at w)
  unfolding leaf
  leaf_told at w inside = leaf_by_told at w (int_word w) inside

  use_by : {A : Type 0} (room at : ℕ) (a : Alias) (x : A) (s : Place) (b : Bool) → at ≤ length j.base.bytes → IsIn j s → Judged j (cond {A = Outcome A} b (Ok (x, put_in a s)) (Err (fault faults.TooMany at)))
  use_by room at a x s true inside h = record { same = h.same; within = h.within; operations = h.operations; few_operations = h.few_operations; slots = h.slots; few_slots = h.few_slots }
  use_by room at a x s false inside h = record { kind = j.wide faults.TooMany refl; within = inside }

  pub use_judged : {A : Type 0} (room at : ℕ) (a : Alias) (o : Option A) (s : Place) → at ≤ length j.base.bytes → IsIn j s → Judged j (use_alias room at a o s)
  use_judged room at a None s inside h = failed_at j faults.AliasUnknown at (j.wide faults.AliasUnknown refl) inside
  use_judged room at a (Some x) s inside h = use_by room at a x s (has_room room a s) inside h

  alias_by : (room at : ℕ) (o : Option Alias) (s : Place) → at ≤ length j.base.bytes → IsIn j s → Judged j (alias_ty_by room at o s)
  alias_by room at None s inside h = failed_at j faults.AliasUnknown at (j.wide faults.AliasUnknown refl) inside
  alias_by room at (Some a) s inside h = use_judged room at a (ty_meant a.meaning) s inside h

  module _ (aliases : List Alias) where
    alias_judged : (room at : ℕ) (name : List ℕ) (s : Place) → at ≤ length j.base.bytes → IsIn j s → Judged j (alias_ty aliases room at name s)
    unfolding alias_ty
    alias_judged room at name s inside h = alias_by room at (find name aliases) s inside h

    -- ---- kept bodies

    named_judged : (s : Place) (at end : ℕ) (o : Names) → IsIn j s → at ≤ end → end ≤ length j.base.bytes → StopsBy (end - at) o → Judged j (named_by s at end o)
    named_judged s at end (Ok p) h order inside stops = record { same = h.same; within = inside; operations = h.operations; few_operations = h.few_operations; slots = h.slots; few_slots = h.few_slots }
    named_judged s at end (Err i) h order inside stops = record { kind = j.wide faults.TooMany refl; within = omega (arith, order, inside, stops) }

    first_judged : (s : Place) (at : ℕ) (f : BodyFault) (n : ℕ) (o : Names) → IsIn j s → FailsBy (length s.bytes) (Err f) → at + n ≤ length s.bytes → StopsBy n o → IsFault j (first_in_body at f o)
    first_judged s at f n (Ok p) h fails short stops = body_told j s f h fails
    first_judged s at f n (Err i) h fails short stops = record { kind = j.wide faults.TooMany refl; within = omega (arith, short, stops, ap length h.same) }

    ends_judged : (room : ℕ) (s : Place) (at : ℕ) (o : Result ℕ BodyFault) → IsIn j s → at < length s.bytes → end_of_body s.bytes at (max_open - room) ≡ o → FailsBy (length s.bytes) o → Judged j (body_by aliases room s at o)
    ends_judged room s at (Ok end) h inside is fails =
        let (after, within) = end_within s.bytes at (max_open - room) end inside is in
        named_judged s at end (names aliases room [] false 0 s.put 0 (slice_range s.bytes at end)) h (omega (arith, after)) (omega (arith, within, ap length h.same))
        (names_stop (end - at) aliases room [] false 0 s.put 0 (slice_range s.bytes at end) (omega (arith, length-take (end - at) (drop at s.bytes))))
    ends_judged room s at (Err f) h inside is fails =
        let text = slice_range s.bytes at (broken_end s.bytes at (body_fault f).at) in
        let short : at + length text ≤ length s.bytes = omega (arith, inside, length-take (broken_end s.bytes at (body_fault f).at - at) (drop at s.bytes), length-drop at s.bytes) in
        first_judged s at f (length text) (names aliases room [] false 0 s.put 0 text) h fails short (names_stop (length text) aliases room [] false 0 s.put 0 text (omega arith))

    opens_judged : (room : ℕ) (s : Place) (t : Token) (b z : Bool) → IsIn j s → token_at s.bytes s.at ≡ Ok t → opens_body s.bytes t.start ≡ b
        → Judged j (cond {A = Outcome (List ℕ)} b (cond z (Err (fault faults.TooMany t.start)) (body_by aliases room s t.start (end_of_body s.bytes t.start (max_open - room)))) (refuse s))
    opens_judged room s t true true h is opens =
        let inside = opens_inside s.bytes t.start opens in
        record { kind = j.wide faults.TooMany refl; within = omega (arith, inside, ap length h.same) }
    opens_judged room s t true false h is opens =
        let inside = opens_inside s.bytes t.start opens in
        ends_judged room s t.start (end_of_body s.bytes t.start (max_open - room)) h inside refl (end_fails s.bytes t.start (max_open - room) inside)
    opens_judged room s t false z h is opens = refused j s h

    token_judged : (room : ℕ) (s : Place) (o : Result Token LexFault) → IsIn j s → token_at s.bytes s.at ≡ o → Judged j (body_at aliases room s o)
    token_judged room s (Ok t) h is = opens_judged room s t (opens_body s.bytes t.start) (room == 0) h is refl
    token_judged room s (Err e) h is = refused j s h

    body_judged : (room : ℕ) → Good j (body aliases room)
    unfolding body
    body_judged room s h = token_judged room s (token_at s.bytes s.at) h refl

    pub kept_judged : (front : List ℕ) (room : ℕ) → Good j (kept aliases front room)
    unfolding kept
    kept_judged front room s h = mapped j (body aliases room s) (λ b. front ++ b) (body_judged room s h)

    -- ---- types

    pub word_judged : (room : ℕ) → Good j (word_type aliases room)
    unfolding word_type
    word_judged room s h =
        let inside = start_within j s h in
        let there = next_in j s h in
        either j (is_other_word (spelling s)) _ _ (next s) (failed_at j faults.Syntax (start s) (j.wide faults.Syntax refl) inside)
        (either j (sees k.Less (next s)) _ _ (next s) (mapped j (kept aliases (spelling s) room (next s)) word (kept_judged (spelling s) room (next s) there)) (lifted j (leaf (start s) (spelling s)) (next s) there (leaf_told (start s) (spelling s) inside)))

    pub bang_judged : (room : ℕ) → Good j (bang_type aliases room)
    unfolding bang_type
    bang_judged room s h =
        let there = next_in j s h in
        either j (sees k.Less (next s)) _ _ (next s) (mapped j (kept aliases (spelling s) room (next s)) word (kept_judged (spelling s) room (next s) there))
        (either j (has_point (spelling s)) _ _ (next s) there (alias_judged room (start s) (spelling s) (next s) (start_within j s h) there))

    results_judged : (room : ℕ) (inner : Parser Ty) → Good j inner → (n : Option TokenKind) → Good j (results_by aliases room inner n)
    results_judged room inner one (Some k.LeftParen) s h = list_judged j k.RightParen inner one (next s) (next_in j s h)
    results_judged room inner one (Some k.Word) s h = mapped j (word_type aliases room s) (λ t. t ∷ []) (word_judged room s h)
    results_judged room inner one (Some k.Bang) s h = mapped j (bang_type aliases room s) (λ t. t ∷ []) (bang_judged room s h)
    results_judged room inner one _ s h = refused j s h

    function_judged : (room : ℕ) (inner : Parser Ty) → Good j inner → Good j (function aliases room inner)
    unfolding function
    function_judged room inner one s h =
        both j (list k.RightParen inner s) _ (list_judged j k.RightParen inner one s h)
        (λ from u i. both j (expect k.Arrow u) _ (expected j k.Arrow u i) (λ y v l. both j (results_by aliases room inner (kind v) v) _ (results_judged room inner one (kind v) v l) (λ to w m. m)))

    ty_by_judged : (room : ℕ) (p : Parser Ty) → Good j p → (n : Option TokenKind) → Good j (ty_by aliases room p n)
    ty_by_judged room p one (Some k.LeftParen) s h = one s h
    ty_by_judged room p one (Some k.Word) s h = word_judged room s h
    ty_by_judged room p one (Some k.Bang) s h = bang_judged room s h
    ty_by_judged room p one _ s h = refused j s h

    pub ty_judged : (room : ℕ) → Good j (ty aliases room)
    unfolding ty
    ty_judged zero s h = ty_by_judged zero _ (λ s h. failed j faults.TooMany s (j.wide faults.TooMany refl) h) (kind s) s h
    ty_judged (suc room) s h = ty_by_judged (suc room) _ (λ s h. function_judged (suc room) (ty aliases room) (ty_judged room) (next s) (next_in j s h)) (kind s) s h
