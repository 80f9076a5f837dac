-- Parts of an operation that are read are spelled so.
use Rattle.std.proofs.Common.{◌≡◌, ℕ, zero, suc, ◌<◌, ◌≤◌, Bool, true, false, cond, List, [], ◌∷◌, length, refl, ap, sym, subst, ◌∙◌, inl, inr, Result, Ok, Err, arith}
use Rattle.std.specs.Prelude.{◌==◌, ◌&&◌, nat_le, nat_lt, Option, Some, None}
use Rattle.std.proofs.lemmas.Bool.{ltb-true, leb-true, and_parts}
use Rattle.text_scan.specs.Strings.{string_value}
use Rattle.mlir_lexer.specs.declared.token.TokenKind.{TokenKind}
use Rattle.mlir_lexer.specs.declared.token.TokenKind.TheVariants as k
use Rattle.mlir_attributes.specs.declared.fault.ModFault.{ModFault}
use Rattle.mlir_attributes.specs.declared.fault.ModKind.TheVariants as faults
use Rattle.mlir_parse.specs.declared.syn.SynResult.{SynResult}
use Rattle.mlir_parse.specs.declared.syn.SynUse.{SynUse}
use Rattle.mlir_attributes.specs.Place.{Place, fault, kind, sees, start, spelling, next}
use Rattle.mlir_attributes.specs.Input.{Parser, after, expect, refuse, fail, pure, lift, items, take_token, ◌>>=◌, ◌<$>◌}
use Rattle.mlir_attributes.specs.Numbers.{token_value, if_short}
use Rattle.mlir_attributes.specs.Grammar.{IsSpelled, IsMark, IsNot}
use Rattle.mlir_parse.specs.Lists.{AreListed, AreSome, InBrackets}
use Rattle.mlir_attributes.specs.Steps.{max_parts, max_slots, max_operations, has_slot, one_slot, after_slot, take_slot, has_operation, one_operation, after_operation, take_operation, counted_items}
use Rattle.mlir_parse.specs.Operations as read
use Rattle.mlir_parse.specs.OperationGrammar.{IsValueName, IsMaybeCount, IsResult, AreResults, IsNoIndex, IsMaybeIndex, IsSlot, IsOperand, IsOperationName}
use Rattle.mlir_attributes.proofs.Tokens.{bind_ok, same_ok, IsWithin, taken, kind_sees, not_seen, eaten, left_alone, expected, spelled_sees, spelled_text}
use Rattle.mlir_attributes.proofs.TypesSound.{Finds}
use Rattle.mlir_parse.proofs.ListsSound.{bracketed_sound, items_sound, counted_items_sound, listed_sound}

-- ---- names of values

pub value_at : (s : Place) → IsWithin s → sees k.Value s ≡ true → IsValueName (read.behind_mark (spelling s)) s (next s) × IsWithin (next s)
value_at s within is =
    let first = taken k.Value s within is in
    ((spelling s, first.0, refl), first.1)

-- a number below 2^128 that is given is the token's
short_by : (n m : ℕ) (b : Bool) → cond {A = Option ℕ} b (Some n) None ≡ Some m → n ≡ m
short_by n m true h = ap (or_number n) h
  where
    or_number : ℕ → Option ℕ → ℕ
    or_number n (Some m) = m
    or_number n None = n
short_by n m false h = absurd (cc)

or_count : ℕ → Result ℕ ModFault → ℕ
or_count n (Ok m) = m
or_count n (Err f) = n

in_range : (at n m : ℕ) (b c : Bool) → (n == 0) ≡ b → nat_le n max_parts ≡ c
    → cond {A = Result ℕ ModFault} b (Err (fault faults.Syntax at)) (cond c (Ok n) (Err (fault faults.TooMany at))) ≡ Ok m → (n ≡ m) × (0 < m) × (m ≤ max_parts)
unfolding or_count
in_range at zero m false true zero_is few h = absurd (cc)
in_range at (suc n) m false true zero_is few h =
    let same : suc n ≡ m = ap (or_count (suc n)) h in
    (same, subst (λ x. 0 < x) same (omega arith), subst (λ x. x ≤ max_parts) same (leb-true (suc n) max_parts few))
in_range at n m true c zero_is few h = absurd (cc)
in_range at n m false false zero_is few h = absurd (cc)

count_by : (at m : ℕ) (text : List ℕ) (o : Option ℕ) → if_short (token_value text) ≡ o → read.count_of at o ≡ Ok m → (token_value text ≡ m) × (0 < m) × (m ≤ max_parts)
count_by at m text (Some n) is h =
    let (same, some, few) = in_range at n m (n == 0) (nat_le n max_parts) refl refl h in
    (short_by (token_value text) n _ is ∙ same, some, few)
count_by at m text None is h = absurd (cc)

pub lifted : {A : Type 0} (o : Result A ModFault) (s r : Place) (x : A) → lift o s ≡ Ok (x, r) → (o ≡ Ok x) × (s ≡ r)
lifted (Ok y) s r x h = let same = same_ok h in (ap Ok same.0, same.1)
lifted (Err e) s r x h = absurd (cc)

count_go : (s r : Place) (n : ℕ) (b : Bool) → IsWithin s → sees k.Integer s ≡ b → (cond b read.count_here refuse) s ≡ Ok (n, r)
    → (text : List ℕ) × IsSpelled k.Integer text s r × (token_value text ≡ n) × (0 < n) × (n ≤ max_parts) × IsWithin r
unfolding read.count_here
count_go s r n true within is h =
    let first = taken k.Integer s within is in
    let here = lifted (read.count_of (start s) (if_short (token_value (spelling s)))) (next s) r n h in
    let (same, some, few) = count_by (start s) n (spelling s) (if_short (token_value (spelling s))) refl here.0 in
    (spelling s, subst (IsSpelled k.Integer (spelling s) s) here.1 first.0, same, some, few, subst IsWithin here.1 first.1)
count_go s r n false within is h = absurd (cc)

count_sound : (s r : Place) (n : ℕ) → IsWithin s → read.count s ≡ Ok (n, r) → (text : List ℕ) × IsSpelled k.Integer text s r × (token_value text ≡ n) × (0 < n) × (n ≤ max_parts) × IsWithin r
unfolding read.count
count_sound s r n within h = count_go s r n (sees k.Integer s) within refl h

maybe_count_by : (s r : Place) (n : ℕ) (b : Bool) → sees k.Colon s ≡ b → IsWithin s → (cond b read.count (pure 1)) (after k.Colon s) ≡ Ok (n, r) → IsMaybeCount n s r × IsWithin r
maybe_count_by s r n true is within h =
    let mark = eaten k.Colon s within is in
    let (text, spelled, value, some, few, inside) = count_sound (after k.Colon s) r n mark.1 h in
    (inr (after k.Colon s, text, mark.0, spelled, value, some, few), inside)
maybe_count_by s r n false is within h =
    let same = same_ok h in
    let here : s ≡ r = sym (left_alone k.Colon s is) ∙ same.1 in
    (inl (not_seen k.Colon s is, sym same.0, here), subst IsWithin here within)

maybe_count_sound : (s r : Place) (n : ℕ) → IsWithin s → read.maybe_count s ≡ Ok (n, r) → IsMaybeCount n s r × IsWithin r
unfolding read.maybe_count
maybe_count_sound s r n within h = maybe_count_by s r n (sees k.Colon s) refl within h

result_by : (s r : Place) (x : SynResult) (b : Bool) → sees k.Value s ≡ b → IsWithin s → (cond b read.result_here refuse) s ≡ Ok (x, r) → IsResult s x r × IsWithin r
unfolding read.result_here
result_by s r x true is within h =
    let n = bind_ok (read.maybe_count (next s)) _ x r h in
    let same = same_ok n.3 in
    let one = value_at s within is in
    let two = maybe_count_sound (next s) n.1 n.0 one.1 n.2 in
    (subst (λ y. IsResult s y r) same.0 (next s, refl, one.0, subst (IsMaybeCount n.0 (next s)) same.1 two.0), subst IsWithin same.1 two.1)
result_by s r x false is within h = absurd (cc)

result_sound : Finds IsResult read.a_result
unfolding read.a_result
result_sound s r x within h = result_by s r x (sees k.Value s) refl within h

some_results : (s s1 r : Place) (xs : List SynResult) → AreSome IsResult s xs s1 → IsMark k.Equal s1 r → AreResults s xs r
some_results s s1 r [] h shut = absurd h
some_results s s1 r (x ∷ xs) h shut = (s1, h, shut)

results_by : (s r : Place) (xs : List SynResult) (b : Bool) → sees k.Value s ≡ b → IsWithin s → (cond b read.results (pure [])) s ≡ Ok (xs, r) → AreResults s xs r × IsWithin r
unfolding read.results
results_by s r xs true is within h =
    let found = bind_ok (items read.a_result s) _ xs r h in
    let shut = bind_ok (expect k.Equal found.1) _ xs r found.3 in
    let same = same_ok shut.3 in
    let all = items_sound IsResult read.a_result result_sound s found.1 found.0 within found.2 in
    let mark = expected k.Equal found.1 shut.1 shut.0 all.1 shut.2 in
    (subst (λ ys. AreResults s ys r) same.0 (some_results s found.1 r found.0 all.0 (subst (IsMark k.Equal found.1) same.1 mark.0)), subst IsWithin same.1 mark.1)
results_by s r xs false is within h =
    let same = same_ok h in
    (subst (λ ys. AreResults s ys r) same.0 (not_seen k.Value s is, same.1), subst IsWithin same.1 within)

pub results_sound : Finds AreResults read.maybe_results
unfolding read.maybe_results
results_sound s r xs within h = results_by s r xs (sees k.Value s) refl within h

-- ---- operands

no_index : (s : Place) → read.sees_index s ≡ false → IsNoIndex s
unfolding read.sees_index
no_index s is text r spelled =
    let here = spelled_sees k.Hash text s r spelled in
    let same = spelled_text k.Hash text s r spelled in
    ap read.is_index (sym same) ∙ other (sees k.Hash s) (read.is_index (spelling s)) here is
  where
    other : (a b : Bool) → a ≡ true → (a && b) ≡ false → b ≡ false
    other true b h e = e
    other false b h e = absurd (cc)

index_by : (s r : Place) (n : ℕ) (b : Bool) → read.sees_index s ≡ b → IsWithin s → (cond b ((λ text. read.index_of (read.behind_mark text)) <$> take_token) (pure 0)) s ≡ Ok (n, r) → IsMaybeIndex n s r × IsWithin r
unfolding read.sees_index
index_by s r n true is within h =
    let parts = and_parts (sees k.Hash s) (read.is_index (spelling s)) is in
    let first = taken k.Hash s within parts.0 in
    let same = same_ok h in
    (inr (spelling s, subst (IsSpelled k.Hash (spelling s) s) same.1 first.0, parts.1, same.0), subst IsWithin same.1 first.1)
index_by s r n false is within h =
    let same = same_ok h in
    (inl (no_index s is, sym same.0, same.1), subst IsWithin same.1 within)

index_sound : (s r : Place) (n : ℕ) → IsWithin s → read.maybe_index s ≡ Ok (n, r) → IsMaybeIndex n s r × IsWithin r
unfolding read.maybe_index
index_sound s r n within h = index_by s r n (read.sees_index s) refl within h

-- counting moves no token
pub slot_sees : (j : TokenKind) (s : Place) → sees j (one_slot s) ≡ sees j s
unfolding sees
slot_sees j s = refl

operation_sees : (j : TokenKind) (s : Place) → sees j (one_operation s) ≡ sees j s
unfolding sees
operation_sees j s = refl

operation_start : (s : Place) → start s ≡ start (one_operation s)
unfolding start
operation_start s = refl

operation_spelling : (s : Place) → spelling (one_operation s) ≡ spelling s
unfolding spelling
operation_spelling s = refl

-- what counting a slot says
pub slot_facts : (before : ℕ) (s : Place) → has_slot before s ≡ true → (before < max_parts) × IsSlot s (one_slot s)
slot_facts before s h =
    let parts = and_parts (nat_lt before max_parts) (nat_lt s.slots max_slots) h in
    (ltb-true before max_parts parts.0, (ltb-true s.slots max_slots parts.1, refl))

use_by : (before : ℕ) (s r : Place) (x : SynUse) (c : Bool) → has_slot before s ≡ c → sees k.Value s ≡ true → IsWithin s → read.use_by c (cond c (one_slot s) s) ≡ Ok (x, r) → IsOperand s x r × IsWithin r × (before < max_parts)
unfolding read.use_here
use_by before s r x true fits is within h =
    let facts = slot_facts before s fits in
    let n = bind_ok (read.maybe_index (next (one_slot s))) _ x r h in
    let same = same_ok n.3 in
    let one = value_at (one_slot s) within (slot_sees k.Value s ∙ is) in
    let two = index_sound (next (one_slot s)) n.1 n.0 one.1 n.2 in
    (subst (λ y. IsOperand s y r) same.0 (one_slot s, next (one_slot s), facts.1, refl, one.0, subst (IsMaybeIndex n.0 (next (one_slot s))) same.1 two.0), subst IsWithin same.1 two.1, facts.0)
use_by before s r x false fits is within h = absurd (cc)

use_go : (before : ℕ) (s r : Place) (x : SynUse) (b : Bool) → sees k.Value s ≡ b → IsWithin s → (cond b (take_slot before >>= read.use_by) refuse) s ≡ Ok (x, r) → IsOperand s x r × IsWithin r × (before < max_parts)
unfolding after_slot
use_go before s r x true is within h = use_by before s r x (has_slot before s) refl is within h
use_go before s r x false is within h = absurd (cc)

use_sound : (before : ℕ) (s r : Place) (x : SynUse) → IsWithin s → read.a_use before s ≡ Ok (x, r) → IsOperand s x r × IsWithin r × (before < max_parts)
unfolding read.a_use
use_sound before s r x within h = use_go before s r x (sees k.Value s) refl within h

pub operands_sound : (room : ℕ) → Finds (λ s xs r. InBrackets k.LeftParen k.RightParen (λ d u v. AreListed IsOperand u xs v × (length xs ≤ max_parts)) room s r) (read.operands room)
unfolding read.operands
operands_sound room =
    bracketed_sound k.LeftParen k.RightParen read.operands_inside (λ d u xs v. AreListed IsOperand u xs v × (length xs ≤ max_parts))
    (λ d. listed_sound IsOperand k.RightParen (counted_items read.a_use) (counted_items_sound IsOperand read.a_use use_sound)) room

-- ---- the name of an operation

name_by : (s r : Place) (name : List ℕ) (c : Bool) → has_operation s ≡ c → sees k.String s ≡ true → IsWithin s → 0 < length (string_value (spelling s)) → read.name_by c (cond c (one_operation s) s) ≡ Ok (name, r) → IsOperationName (start s) name s r × IsWithin r
name_by s r name true fits is within some h =
    let first = taken k.String (one_operation s) within (operation_sees k.String s ∙ is) in
    let same = same_ok h in
    let few : s.operations < max_operations = ltb-true s.operations max_operations fits in
    let text : string_value (spelling s) ≡ name = sym (ap string_value (operation_spelling s)) ∙ same.0 in
    ((one_operation s, spelling (one_operation s), few, refl, operation_start s, subst (IsSpelled k.String (spelling (one_operation s)) (one_operation s)) same.1 first.0, same.0, subst (λ n. 0 < length n) text some), subst IsWithin same.1 first.1)
name_by s r name false fits is within some h = absurd (cc)

some_bytes : (xs : List ℕ) → (length xs == 0) ≡ false → 0 < length xs
some_bytes [] h = absurd (cc)
some_bytes (x ∷ xs) h = omega arith

name_go : (s r : Place) (name : List ℕ) (b : Bool) → read.is_empty (string_value (spelling s)) ≡ b → sees k.String s ≡ true → IsWithin s
    → (cond {A = Parser (List ℕ)} b (fail faults.Syntax) (take_operation >>= read.name_by)) s ≡ Ok (name, r) → IsOperationName (start s) name s r × IsWithin r
unfolding after_operation
name_go s r name false some is within h = name_by s r name (has_operation s) refl is within (some_bytes (string_value (spelling s)) some) h
name_go s r name true some is within h = absurd (cc)

name_here_sound : (s r : Place) (name : List ℕ) → IsWithin s → sees k.String s ≡ true → read.name_here s ≡ Ok (name, r) → IsOperationName (start s) name s r × IsWithin r
unfolding read.name_here
name_here_sound s r name within is h = name_go s r name (read.is_empty (string_value (spelling s))) refl is within h

operation_name_by : (s r : Place) (name : List ℕ) (j : Option TokenKind) → IsWithin s → kind s ≡ j → read.operation_name_by j s ≡ Ok (name, r) → IsOperationName (start s) name s r × IsWithin r
operation_name_by s r name (Some k.String) within is h = name_here_sound s r name within (kind_sees k.String s is) h
operation_name_by s r name _ within is h = absurd (cc)

pub operation_name_sound : (s r : Place) (name : List ℕ) → IsWithin s → read.operation_name s ≡ Ok (name, r) → IsOperationName (start s) name s r × IsWithin r
unfolding read.operation_name
operation_name_sound s r name within h = operation_name_by s r name (kind s) within refl h

successors_by : (s r : Place) (u : Unit {0}) (b : Bool) → sees k.LeftBracket s ≡ b → (cond b (fail faults.Successors) (pure tt)) s ≡ Ok (u, r) → IsNot k.LeftBracket s × (s ≡ r)
successors_by s r u true is h = absurd (cc)
successors_by s r u false is h = (not_seen k.LeftBracket s is, (same_ok h).1)

pub no_successors_sound : (s r : Place) (u : Unit {0}) → read.no_successors s ≡ Ok (u, r) → IsNot k.LeftBracket s × (s ≡ r)
unfolding read.no_successors
no_successors_sound s r u h = successors_by s r u (sees k.LeftBracket s) refl h
