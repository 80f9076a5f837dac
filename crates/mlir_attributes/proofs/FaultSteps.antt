-- Each fault that a rule gives is of a kind that says why a text isn't spelled, and its place is within the text. What is
-- counted on the way never falls, and keeps its limits.
use Rattle.std.proofs.Common.{◌≡◌, ℕ, zero, suc, ◌+◌, ◌-◌, ◌<◌, ◌≤◌, Bool, true, false, cond, List, [], ◌∷◌, ◌++◌, length, drop, get_or, refl, ap, arith, inl, inr, Result, Ok, Err, Option, Some, None}
use Rattle.std.specs.Prelude.{◌==◌, nat_le, nat_lt, slice_index}
use Rattle.std.specs.Option.{option_map_or}
use Rattle.std.proofs.lemmas.Bool.{cases_lt, and_parts}
use Rattle.std.proofs.lemmas.Bool.Decides.{nat_tests}
use Rattle.std.proofs.lemmas.List.{get_or_past}
use Rattle.text_scan.specs.Gaps.{gap_len}
use Rattle.text_scan.specs.Strings.{string_end}
use Rattle.text_scan.proofs.GapLaws.{gap_is_longest}
use Rattle.mlir_lexer.specs.declared.token.Token.{Token}
use Rattle.mlir_lexer.specs.declared.token.TokenKind.{TokenKind}
use Rattle.mlir_lexer.specs.declared.token.TokenKind.TheVariants as k
use Rattle.mlir_lexer.specs.declared.token.LexFault.{LexFault}
use Rattle.mlir_lexer.specs.declared.token.LexFault.TheVariants as lexes
use Rattle.mlir_lexer.specs.declared.body.BodyFault.{BodyFault}
use Rattle.mlir_lexer.specs.declared.body.BodyFault.TheVariants as bodies
use Rattle.mlir_lexer.specs.Scan.{token_at}
use Rattle.mlir_lexer.proofs.Places.{goes_on, bad_byte_is, bad_string_is}
use Rattle.mlir_attributes.specs.declared.fault.ModFault.{ModFault}
use Rattle.mlir_attributes.specs.declared.fault.ModKind.{ModKind}
use Rattle.mlir_attributes.specs.declared.fault.ModKind.TheVariants as faults
use Rattle.mlir_attributes.specs.Faults.{is_type_fault}
use Rattle.mlir_attributes.specs.Place.{Place, moved, left, fault, sees, start, start_by, next, next_by, refusal, refusal_by}
use Rattle.mlir_attributes.specs.Input.{Outcome, Parser, and_then, refuse, lift, after, expect, separated, items, list}
use Rattle.mlir_attributes.specs.Types.{body_fault}
use Rattle.mlir_attributes.specs.Steps.{max_operations, max_slots, max_parts, opening, bracketed, counted, counted_items, listed, many, all_up_to, has_slot, after_slot, has_operation, after_operation, balanced, location_by, location_text, location, sees_loc, maybe_location}
use Rattle.mlir_attributes.proofs.Tokens.{token_stands}
use Rattle.mlir_attributes.proofs.BracketEnds.{not_le, balanced_within}

-- The place from which a text is read, and the kinds of its faults.
pub record Reading : Type 0 where
  pub base : Place
  pub kinds : ModKind → Bool
  pub wide : (n : ModKind) → is_type_fault n ≡ true → kinds n ≡ true

-- a place that is reached from there
pub record IsIn (j : Reading) (s : Place) : Type 0 where
  pub same : s.bytes ≡ j.base.bytes
  pub within : s.at ≤ length j.base.bytes
  pub operations : j.base.operations ≤ s.operations
  pub few_operations : s.operations ≤ max_operations
  pub slots : j.base.slots ≤ s.slots
  pub few_slots : s.slots ≤ max_slots

pub record IsFault (j : Reading) (e : ModFault) : Type 0 where
  pub kind : j.kinds e.kind ≡ true
  pub within : e.at ≤ length j.base.bytes

abbrev pub Judged : {A : Type 0} → Reading → Outcome A → Type 0
Judged j (Ok p) = IsIn j p.1
Judged j (Err e) = IsFault j e

-- From a place that is reached, the rule comes to another one, or gives such a fault.
abbrev pub Good : {A : Type 0} → Reading → Parser A → Type 0
Good j p = (s : Place) → IsIn j s → Judged j (p s)

-- what doesn't depend on the place
abbrev pub Told : {A : Type 0} → Reading → Result A ModFault → Type 0
Told j (Ok x) = Unit {0}
Told j (Err e) = IsFault j e

-- ---- places of faults of tokens

abbrev place_of : LexFault → ℕ
place_of (lexes.BadByte at) = at
place_of (lexes.BadString at) = at

some_place : (bytes : List ℕ) (p b : ℕ) → get_or bytes p 0 ≡ b → 0 < b → p < length bytes
some_place bytes p b e some =
    elim (cases_lt p (length bytes)) [ inl less ↦ less | inr past ↦ absurd (let z = get_or_past bytes p 0 past in omega arith) ]

faults_within : (bytes : List ℕ) (at : ℕ) (f : LexFault) → at ≤ length bytes → token_at bytes at ≡ Err f → place_of f ≤ length bytes
unfolding token_at
faults_within bytes at (lexes.BadByte p) within e =
    let gap = gap_is_longest bytes at (at + gap_len (drop at bytes)) within refl in
    let bad = bad_byte_is bytes at (at + gap_len (drop at bytes)) p gap e in
    omega (arith, bad.inside)
faults_within bytes at (lexes.BadString p) within e =
    let gap = gap_is_longest bytes at (at + gap_len (drop at bytes)) within refl in
    let bad = bad_string_is bytes at (at + gap_len (drop at bytes)) p gap e in
    let breaks = bad.breaks_off in
    let inside = some_place bytes p 34 breaks.quote (omega arith) in
    omega (arith, inside)

-- ---- places of faults of bodies

abbrev pub FailsBy : ℕ → Result ℕ BodyFault → Type 0
FailsBy n (Ok end) = Unit {0}
FailsBy n (Err (bodies.Unclosed at)) = at ≤ n
FailsBy n (Err (bodies.TooDeep at)) = at ≤ n
FailsBy n (Err (bodies.BadString at)) = at ≤ n

module _ (bytes : List ℕ) (room : ℕ) where
  string_fails : (n at depth : ℕ) → ((depth at : ℕ) → FailsBy (length bytes) (balanced n bytes room depth at)) → at ≤ length bytes → (o : Option ℕ)
      → FailsBy (length bytes) (option_map_or (λ e. balanced n bytes room depth e) o (Err (bodies.BadString at)))
  string_fails n at depth go inside (Some e) = go depth e
  string_fails n at depth go inside None = inside

  balanced_by : (n at depth : ℕ) → ((depth at : ℕ) → FailsBy (length bytes) (balanced n bytes room depth at)) → (a b c d e f : Bool) → nat_le (length bytes) at ≡ a
      → FailsBy (length bytes) (cond {A = Result ℕ BodyFault} a (Err (bodies.Unclosed (length bytes))) (cond b (option_map_or (λ e. balanced n bytes room depth e) (string_end at (drop at bytes)) (Err (bodies.BadString at)))
      (cond c (cond d (Err (bodies.TooDeep at)) (balanced n bytes room (depth + 1) (at + 1)))
      (cond e (cond f (Ok (at + 1)) (balanced n bytes room (depth - 1) (at + 1))) (balanced n bytes room depth (at + 1))))))
  balanced_by n at depth go true b c d e f is = omega arith
  balanced_by n at depth go false true c d e f is = string_fails n at depth go (let below = not_le (length bytes) at is in omega (arith, below)) (string_end at (drop at bytes))
  balanced_by n at depth go false false true true e f is = let below = not_le (length bytes) at is in omega (arith, below)
  balanced_by n at depth go false false true false e f is = go (depth + 1) (at + 1)
  balanced_by n at depth go false false false d true true is = tt
  balanced_by n at depth go false false false d true false is = go (depth - 1) (at + 1)
  balanced_by n at depth go false false false d false f is = go depth (at + 1)

  pub balanced_fails : (n depth at : ℕ) → FailsBy (length bytes) (balanced n bytes room depth at)
  unfolding balanced
  balanced_fails zero depth at = omega arith
  balanced_fails (suc n) depth at =
      balanced_by n at depth (balanced_fails n) (nat_le (length bytes) at) (slice_index bytes at == 34) (slice_index bytes at == 40) (nat_le room depth) (slice_index bytes at == 41) (nat_le depth 1) refl

module _ (j : Reading) where
  -- ---- tokens

  pub moved_in : (s : Place) (at : ℕ) → IsIn j s → at ≤ length j.base.bytes → IsIn j (moved s at)
  moved_in s at h inside = record {
    same = h.same;
    within = inside;
    operations = h.operations;
    few_operations = h.few_operations;
    slots = h.slots;
    few_slots = h.few_slots;
  }

  start_is : (s : Place) (o : Result Token LexFault) → IsIn j s → token_at s.bytes s.at ≡ o → start_by o ≤ length j.base.bytes
  start_is s (Ok t) h e = let (from, order, last, some) = goes_on s.bytes s.at t (token_stands s.bytes s.at t (omega (arith, h.within, ap length h.same)) e) in omega (arith, order, last, ap length h.same)
  start_is s (Err (lexes.BadByte at)) h e = let below = faults_within s.bytes s.at (lexes.BadByte at) (omega (arith, h.within, ap length h.same)) e in omega (arith, below, ap length h.same)
  start_is s (Err (lexes.BadString at)) h e = let below = faults_within s.bytes s.at (lexes.BadString at) (omega (arith, h.within, ap length h.same)) e in omega (arith, below, ap length h.same)

  pub start_within : (s : Place) → IsIn j s → start s ≤ length j.base.bytes
  unfolding start
  start_within s h = start_is s (token_at s.bytes s.at) h refl

  next_is : (s : Place) (o : Result Token LexFault) → IsIn j s → token_at s.bytes s.at ≡ o → IsIn j (next_by s o)
  next_is s (Ok t) h e = let (from, order, last, some) = goes_on s.bytes s.at t (token_stands s.bytes s.at t (omega (arith, h.within, ap length h.same)) e) in moved_in s t.end h (omega (arith, last, ap length h.same))
  next_is s (Err f) h e = h

  pub next_in : (s : Place) → IsIn j s → IsIn j (next s)
  unfolding next
  next_in s h = next_is s (token_at s.bytes s.at) h refl

  refusal_is : (s : Place) (o : Result Token LexFault) → IsIn j s → token_at s.bytes s.at ≡ o → IsFault j (refusal_by o)
  refusal_is s (Ok t) h e = record { kind = j.wide faults.Syntax refl; within = start_is s (Ok t) h e }
  refusal_is s (Err (lexes.BadByte at)) h e = record { kind = j.wide faults.BadByte refl; within = start_is s (Err (lexes.BadByte at)) h e }
  refusal_is s (Err (lexes.BadString at)) h e = record { kind = j.wide faults.BadString refl; within = start_is s (Err (lexes.BadString at)) h e }

  -- the next token doesn't fit
  pub refused : (s : Place) → IsIn j s → IsFault j (refusal s)
  unfolding refusal
  refused s h = refusal_is s (token_at s.bytes s.at) h refl

  -- ---- the steps, each at a place that is reached

  pub failed : (n : ModKind) (s : Place) → j.kinds n ≡ true → IsIn j s → IsFault j (fault n (start s))
  failed n s is h = record { kind = is; within = start_within s h }

  pub failed_at : (n : ModKind) (at : ℕ) → j.kinds n ≡ true → at ≤ length j.base.bytes → IsFault j (fault n at)
  failed_at n at is inside = record { kind = is; within = inside }

  pub lifted : {A : Type 0} (o : Result A ModFault) (s : Place) → IsIn j s → Told j o → Judged j (lift o s)
  lifted (Ok x) s h told = h
  lifted (Err e) s h told = told

  after_by : (s : Place) (b : Bool) → IsIn j s → IsIn j (cond b (next s) s)
  after_by s true h = next_in s h
  after_by s false h = h

  pub after_in : (x : TokenKind) (s : Place) → IsIn j s → IsIn j (after x s)
  unfolding after
  after_in x s h = after_by s (sees x s) h

  pub if_seen : {A : Type 0} (s : Place) (x : A) (b : Bool) → IsIn j s → Judged j (cond b (Ok (x, next s)) (refuse s))
  if_seen s x true h = next_in s h
  if_seen s x false h = refused s h

  pub expected : (x : TokenKind) (s : Place) → IsIn j s → Judged j (expect x s)
  unfolding expect
  expected x s h = if_seen s tt (sees x s) h

  -- what is read first, and what is read behind it
  pub both : {A B : Type 0} (o : Outcome A) (f : A → Parser B) → Judged j o → ((x : A) (u : Place) → IsIn j u → Judged j (f x u)) → Judged j (and_then o f)
  both (Ok p) f h rest = rest p.0 p.1 h
  both (Err e) f h rest = h

  -- what is made of what is read
  pub mapped : {A B : Type 0} (o : Outcome A) (f : A → B) → Judged j o → Judged j (and_then o (λ x u. Ok (f x, u)))
  mapped (Ok p) f h = h
  mapped (Err e) f h = h

  pub either : {A : Type 0} (b : Bool) (p q : Parser A) (s : Place) → Judged j (p s) → Judged j (q s) → Judged j ((cond b p q) s)
  either true p q s one other = one
  either false p q s one other = other

  -- ---- lists and brackets

  pub separated_judged : {A : Type 0} (mark : TokenKind) (item : Parser A) → Good j item → (n : ℕ) (found : List A) (s : Place) → IsIn j s → Judged j (separated mark item n found s)
  unfolding separated
  separated_judged mark item one zero found s h = refused s h
  separated_judged mark item one (suc n) found s h =
      both (item s) _ (one s h) (λ x u i. either (sees mark u) _ _ (after mark u) (separated_judged mark item one n (found ++ x ∷ []) (after mark u) (after_in mark u i)) (after_in mark u i))

  pub items_judged : {A : Type 0} (item : Parser A) → Good j item → Good j (items item)
  items_judged item one s h = separated_judged k.Comma item one (left s) [] s h

  pub list_judged : {A : Type 0} (close_mark : TokenKind) (item : Parser A) → Good j item → Good j (list close_mark item)
  unfolding list
  list_judged close_mark item one s h =
      either (sees close_mark s) _ _ (after close_mark s) (after_in close_mark s h)
      (both (items item (after close_mark s)) _ (items_judged item one (after close_mark s) (after_in close_mark s h)) (λ xs u i. both (expect close_mark u) _ (expected close_mark u i) (λ y v l. l)))

  opening_by : (s : Place) (b z : Bool) → IsIn j s → Judged j (cond b (cond z (Err (record { kind = faults.TooMany; at = start s })) (Ok (tt, next s))) (refuse {A = Unit {0}} s))
  opening_by s true true h = record { kind = j.wide faults.TooMany refl; within = start_within s h }
  opening_by s true false h = next_in s h
  opening_by s false z h = refused s h

  pub opened : (mark : TokenKind) (room : ℕ) → Good j (opening mark room)
  unfolding opening
  opened mark room s h = opening_by s (sees mark s) (room == 0) h

  pub bracketed_judged : {A : Type 0} (o c : TokenKind) (inside : ℕ → Parser A) → ((room : ℕ) → Good j (inside room)) → (room : ℕ) → Good j (bracketed o c inside room)
  unfolding bracketed
  bracketed_judged o c inside one room s h =
      both (opening o room s) _ (opened o room s h) (λ x u i. both (inside (room - 1) u) _ (one (room - 1) u i) (λ y v l. both (expect c v) _ (expected c v l) (λ z w m. m)))

  pub counted_judged : {A : Type 0} (item : ℕ → Parser A) → ((before : ℕ) → Good j (item before)) → (n : ℕ) (found : List A) (s : Place) → IsIn j s → Judged j (counted item n found s)
  unfolding counted
  counted_judged item one zero found s h = refused s h
  counted_judged item one (suc n) found s h =
      both (item (length found) s) _ (one (length found) s h)
      (λ x u i. either (sees k.Comma u) _ _ (after k.Comma u) (counted_judged item one n (found ++ x ∷ []) (after k.Comma u) (after_in k.Comma u i)) (after_in k.Comma u i))

  pub counted_items_judged : {A : Type 0} (item : ℕ → Parser A) → ((before : ℕ) → Good j (item before)) → Good j (counted_items item)
  counted_items_judged item one s h = counted_judged item one (left s) [] s h

  pub listed_judged : {A : Type 0} (close_mark : TokenKind) (some : Parser (List A)) → Good j some → Good j (listed close_mark some)
  unfolding listed
  listed_judged close_mark some one s h = either (sees close_mark s) _ _ s h (one s h)

  pub many_judged : {A : Type 0} (stop : TokenKind) (item : Parser A) → Good j item → (n : ℕ) (found : List A) (s : Place) → IsIn j s → Judged j (many stop item n found s)
  unfolding many
  many_judged stop item one zero found s h = either (sees stop s) _ _ s h (refused s h)
  many_judged stop item one (suc n) found s h =
      either (sees stop s) _ _ s h (both (item s) _ (one s h) (λ x u i. many_judged stop item one n (found ++ x ∷ []) u i))

  pub all_judged : {A : Type 0} (stop : TokenKind) (item : Parser A) → Good j item → Good j (all_up_to stop item)
  all_judged stop item one s h = many_judged stop item one (left s) [] s h

  -- ---- what is counted

  slot_by : (before : ℕ) (s : Place) (b : Bool) → has_slot before s ≡ b → IsIn j s → IsIn j (cond b (record s { slots = s.slots + 1 }) s)
  slot_by before s true is h =
      let few : s.slots < max_slots = below (and_parts (nat_lt before max_parts) (nat_lt s.slots max_slots) is).1 in
      record {
        same = h.same;
        within = h.within;
        operations = h.operations;
        few_operations = h.few_operations;
        slots = omega (arith, h.slots);
        few_slots = omega (arith, few);
      }
    where
      below : {m n : ℕ} → nat_lt m n ≡ true → m < n
      below e = grind (arith, nat_tests)
  slot_by before s false is h = h

  pub slot_in : (before : ℕ) (s : Place) → IsIn j s → IsIn j (after_slot before s)
  unfolding after_slot
  slot_in before s h = slot_by before s (has_slot before s) refl h

  operation_by : (s : Place) (b : Bool) → has_operation s ≡ b → IsIn j s → IsIn j (cond b (record s { operations = s.operations + 1 }) s)
  operation_by s true is h =
      let few : s.operations < max_operations = below is in
      record {
        same = h.same;
        within = h.within;
        operations = omega (arith, h.operations);
        few_operations = omega (arith, few);
        slots = h.slots;
        few_slots = h.few_slots;
      }
    where
      below : {m n : ℕ} → nat_lt m n ≡ true → m < n
      below e = grind (arith, nat_tests)
  operation_by s false is h = h

  pub operation_in : (s : Place) → IsIn j s → IsIn j (after_operation s)
  unfolding after_operation
  operation_in s h = operation_by s (has_operation s) refl h

  -- ---- bodies and locations

  pub body_told : (s : Place) (f : BodyFault) → IsIn j s → FailsBy (length s.bytes) (Err f) → IsFault j (body_fault f)
  body_told s (bodies.Unclosed at) h below = record { kind = j.wide faults.Syntax refl; within = omega (arith, below, ap length h.same) }
  body_told s (bodies.TooDeep at) h below = record { kind = j.wide faults.TooMany refl; within = omega (arith, below, ap length h.same) }
  body_told s (bodies.BadString at) h below = record { kind = j.wide faults.BadString refl; within = omega (arith, below, ap length h.same) }

  location_ends : (room : ℕ) (s : Place) (o : Result ℕ BodyFault) → IsIn j s → balanced (left s) s.bytes room 1 s.at ≡ o → FailsBy (length s.bytes) o → Judged j (location_by s o)
  location_ends room s (Ok end) h is below =
      let inside = balanced_within s.bytes room (left s) end 1 s.at (omega (arith, h.within, ap length h.same)) is in
      moved_in s end h (omega (arith, inside, ap length h.same))
  location_ends room s (Err f) h is below = body_told s f h below

  location_read : (room : ℕ) → Good j (location_text room)
  unfolding location_text
  location_read room s h = location_ends room s (balanced (left s) s.bytes room 1 s.at) h refl (balanced_fails s.bytes room (left s) 1 s.at)

  pub location_judged : (room : ℕ) → Good j (location room)
  unfolding location
  location_judged room s h = both (opening k.LeftParen room s) _ (opened k.LeftParen room s h) (λ x u i. location_read room u i)

  pub maybe_location_judged : (room : ℕ) → Good j (maybe_location room)
  unfolding maybe_location
  maybe_location_judged room s h = either (sees_loc s) _ _ s (location_judged room (next s) (next_in s h)) h
