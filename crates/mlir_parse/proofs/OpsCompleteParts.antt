-- Parts of an operation that are spelled are read.
use Rattle.std.proofs.Common.{◌≡◌, ℕ, ◌<◌, ◌≤◌, Bool, true, false, cond, List, [], ◌∷◌, length, refl, ap, sym, subst, ◌∙◌, inl, inr, Ok, arith}
use Rattle.std.specs.Prelude.{◌==◌, ◌&&◌, ◌^◌, nat_le, nat_lt, Some}
use Rattle.std.proofs.lemmas.Bool.Decides.{nat_tests}
use Rattle.text_scan.specs.Strings.{string_value}
use Rattle.mlir_lexer.specs.declared.token.TokenKind.{TokenKind}
use Rattle.mlir_lexer.specs.declared.token.TokenKind.TheVariants as k
use Rattle.mlir_parse.specs.declared.syn.SynResult.{SynResult}
use Rattle.mlir_parse.specs.declared.syn.SynUse.{SynUse}
use Rattle.mlir_attributes.specs.Place.{Place, left, kind, sees, start, spelling, next}
use Rattle.mlir_attributes.specs.Input.{items}
use Rattle.mlir_attributes.specs.Numbers.{token_value, if_short}
use Rattle.mlir_attributes.specs.Grammar.{IsSpelled, IsNot}
use Rattle.mlir_parse.specs.Lists.{AreListed}
use Rattle.mlir_attributes.specs.Steps.{max_parts, max_slots, max_operations, one_slot, after_slot, one_operation, after_operation, counted_items}
use Rattle.mlir_parse.specs.Operations as read
use Rattle.mlir_parse.specs.OperationGrammar.{IsAt, IsValueName, IsMaybeCount, IsResult, AreResults, IsNoIndex, IsMaybeIndex, IsSlot, IsOperand, AreOperands, IsOperationName}
use Rattle.mlir_attributes.proofs.Tokens.{IsWithin, taken, spelled_within, spelled_sees, spelled_kind, spelled_text, spelled_next, spelled_shorter, unseen, expects, after_at, eaten_is, kind_other}
use Rattle.mlir_parse.proofs.OpsCompleteSteps.{Takes, TakesAll, PassesAll, in_brackets, counted_read, items_read, listed_read}

-- ---- names of results

short : (n : ℕ) → n ≤ max_parts → if_short n ≡ Some n
short n few =
    let below : 65535 < 2 ^ 128 = omega arith in
    let yes : nat_lt n (2 ^ 128) ≡ true = grind (arith, nat_tests) in
    rw yes refl

count_is : (at n : ℕ) → 0 < n → n ≤ max_parts → read.count_of at (if_short n) ≡ Ok n
count_is at n some few =
    let zero_is : (n == 0) ≡ false = grind (arith, nat_tests) in
    let fits : nat_le n max_parts ≡ true = grind (arith, nat_tests) in
    ap (read.count_of at) (short n few) ∙ rw (zero_is, fits) refl

count_read : (s r : Place) (text : List ℕ) (n : ℕ) → IsSpelled k.Integer text s r → token_value text ≡ n → 0 < n → n ≤ max_parts → read.count s ≡ Ok (n, r)
unfolding read.count read.count_here
count_read s r text n spelled value some few =
    let is : read.count_of (start s) (if_short (token_value text)) ≡ Ok n = subst (λ v. read.count_of (start s) (if_short v) ≡ Ok n) (sym value) (count_is (start s) n some few) in
    rw (spelled_sees k.Integer text s r spelled, spelled_text k.Integer text s r spelled, spelled_next k.Integer text s r spelled, is) refl

maybe_count_read : PassesAll read.maybe_count (λ s n r. IsMaybeCount n s r)
unfolding read.maybe_count
maybe_count_read s r n within (inl (alone, one, same)) =
    let other = unseen k.Colon s within alone in
    record { reads = rw (other, after_at k.Colon s false other) (λ i. Ok (sym one i, same i)); moves = omega (arith, ap left same); within = subst IsWithin same within }
maybe_count_read s r n within (inr (s1, text, (mark, colon), spelled, value, some, few)) = record {
  reads = rw (spelled_sees k.Colon mark s s1 colon, eaten_is k.Colon mark s s1 colon) (count_read s1 r text n spelled value some few);
  moves = omega (arith, spelled_shorter k.Colon mark s s1 (λ e. cc) colon, spelled_shorter k.Integer text s1 r (λ e. cc) spelled);
  within = spelled_within k.Integer text s1 r spelled;
}

result_read : TakesAll read.a_result IsResult
unfolding read.a_result read.result_here
result_read s r x within (s1, at, (text, spelled, named), counted) =
    let n = maybe_count_read s1 r x.count (spelled_within k.Value text s s1 spelled) counted in
    record {
      reads = rw (spelled_sees k.Value text s s1 spelled, spelled_text k.Value text s s1 spelled, spelled_next k.Value text s s1 spelled, n.reads) (λ i. Ok (record { at = sym at i; name = named i; count = x.count }, r));
      moves = omega (arith, spelled_shorter k.Value text s s1 (λ e. cc) spelled, n.moves);
      within = n.within;
    }

no_results : (s : Place) → sees k.Value s ≡ false → read.maybe_results s ≡ Ok ([], s)
unfolding read.maybe_results
no_results s h = rw h refl

some_results : (s s1 r : Place) (xs : List SynResult) (text : List ℕ) → sees k.Value s ≡ true → Takes (items read.a_result) s xs s1 → IsSpelled k.Equal text s1 r → read.maybe_results s ≡ Ok (xs, r)
unfolding read.maybe_results read.results
some_results s s1 r xs text h all shut = rw (h, all.reads, expects k.Equal text s1 r shut) refl

pub results_read : PassesAll read.maybe_results AreResults
results_read s r [] within (alone, same) = record {
  reads = no_results s (unseen k.Value s within alone) ∙ (λ i. Ok ([], same i));
  moves = omega (arith, ap left same);
  within = subst IsWithin same within;
}
results_read s r (x ∷ xs) within (s1, (m, (m1, at, (name_text, spelled, named), counted), more), (text, shut)) =
    let all = items_read IsResult read.a_result result_read s s1 (x ∷ xs) within (m, (m1, at, (name_text, spelled, named), counted), more) in
    record {
      reads = some_results s s1 r (x ∷ xs) text (spelled_sees k.Value name_text s m1 spelled) all shut;
      moves = omega (arith, all.moves, spelled_shorter k.Equal text s1 r (λ e. cc) shut);
      within = spelled_within k.Equal text s1 r shut;
    }

-- ---- operands

index_unseen : (s : Place) → IsWithin s → IsNoIndex s → read.sees_index s ≡ false
unfolding read.sees_index
index_unseen s within none = by_test (sees k.Hash s) refl
  where
    by_test : (b : Bool) → sees k.Hash s ≡ b → (b && read.is_index (spelling s)) ≡ false
    by_test true is = none (spelling s) (next s) (taken k.Hash s within is).0
    by_test false is = refl

index_seen : (s r : Place) (text : List ℕ) → IsSpelled k.Hash text s r → read.is_index text ≡ true → read.sees_index s ≡ true
unfolding read.sees_index
index_seen s r text spelled is = rw (spelled_sees k.Hash text s r spelled) (ap read.is_index (spelled_text k.Hash text s r spelled) ∙ is)

index_read : PassesAll read.maybe_index (λ s n r. IsMaybeIndex n s r)
unfolding read.maybe_index
index_read s r n within (inl (alone, none, same)) =
    record { reads = rw (index_unseen s within alone) (λ i. Ok (sym none i, same i)); moves = omega (arith, ap left same); within = subst IsWithin same within }
index_read s r n within (inr (text, spelled, is, value)) = record {
  reads = rw (index_seen s r text spelled is, spelled_text k.Hash text s r spelled, spelled_next k.Hash text s r spelled) (λ i. Ok (value i, r));
  moves = (let up = spelled_shorter k.Hash text s r (λ e. cc) spelled in omega arith);
  within = spelled_within k.Hash text s r spelled;
}

-- counting moves no token
pub slot_sees : (j : TokenKind) (s : Place) → sees j s ≡ sees j (one_slot s)
unfolding sees
slot_sees j s = refl

slot_start : (s : Place) → start s ≡ start (one_slot s)
unfolding start
slot_start s = refl

operation_kind : (s : Place) → kind s ≡ kind (one_operation s)
unfolding kind
operation_kind s = refl

operation_spelling : (s : Place) → spelling s ≡ spelling (one_operation s)
unfolding spelling
operation_spelling s = refl

pub slot_taken : (before : ℕ) (s : Place) → before < max_parts → s.slots < max_slots → (nat_lt before max_parts && nat_lt s.slots max_slots) ≡ true
slot_taken before s few fits =
    let a : nat_lt before max_parts ≡ true = grind (arith, nat_tests) in
    let b : nat_lt s.slots max_slots ≡ true = grind (arith, nat_tests) in
    rw (a, b) refl

pub slot_after : (before : ℕ) (s s1 : Place) → before < max_parts → IsSlot s s1 → after_slot before s ≡ s1
unfolding after_slot
slot_after before s s1 few (fits, same) = ap (λ b. cond b (one_slot s) s) (slot_taken before s few fits) ∙ same

use_is : (before : ℕ) (s s1 s2 r : Place) (x : SynUse) → before < max_parts → IsSlot s s1 → IsAt x.at s1 → IsValueName x.name s1 s2 → IsMaybeIndex x.index s2 r → IsWithin s → Takes (read.a_use before) s x r
unfolding read.a_use read.use_here
use_is before s s1 s2 r x few (fits, same) at (text, spelled, named) indexed within =
    let n = index_read s2 r x.index (spelled_within k.Value text s1 s2 spelled) indexed in
    let is : sees k.Value s ≡ true = slot_sees k.Value s ∙ (ap (sees k.Value) same ∙ spelled_sees k.Value text s1 s2 spelled) in
    let up : left s1 ≡ left s = ap left (sym same) in
    record {
      reads = rw (is, slot_taken before s few fits, slot_after before s s1 few (fits, same), spelled_text k.Value text s1 s2 spelled, spelled_next k.Value text s1 s2 spelled, n.reads) (λ i. Ok (record { at = sym at i; name = named i; index = x.index }, r));
      moves = omega (arith, spelled_shorter k.Value text s1 s2 (λ e. cc) spelled, n.moves, up);
      within = n.within;
    }

use_read : (before : ℕ) → before < max_parts → TakesAll (read.a_use before) IsOperand
use_read before few s r x within (s1, s2, slot, at, named, indexed) = use_is before s s1 s2 r x few slot at named indexed within

use_begins : (s r : Place) (x : SynUse) → IsOperand s x r → sees k.RightParen s ≡ false
use_begins s r x (s1, s2, (fits, same), at, (text, spelled, named), indexed) =
    slot_sees k.RightParen s ∙ (ap (sees k.RightParen) same ∙ kind_other k.Value k.RightParen s1 (spelled_kind k.Value text s1 s2 spelled) (λ e. cc))

pub operands_read : (room : ℕ) → TakesAll (read.operands room) (λ s xs r. AreOperands room s xs r)
unfolding read.operands
operands_read room s r xs within h =
    in_brackets k.LeftParen k.RightParen read.operands_inside (λ d u v. AreListed IsOperand u xs v × (length xs ≤ max_parts)) xs (λ e. cc) (λ e. cc) room
    (λ d u v w deep inside is closes. listed_read IsOperand k.RightParen (counted_items read.a_use) use_begins u v w xs inside (λ some. counted_read IsOperand read.a_use use_read u v xs inside some is.1) is.0 closes) s r h

-- ---- the name of an operation

name_after : (s s1 : Place) → s.operations < max_operations → one_operation s ≡ s1 → after_operation s ≡ s1
unfolding after_operation
name_after s s1 few same =
    let a : nat_lt s.operations max_operations ≡ true = grind (arith, nat_tests) in
    ap (λ b. cond b (one_operation s) s) a ∙ same

name_here_read : (s s1 r : Place) (text : List ℕ) → s.operations < max_operations → one_operation s ≡ s1 → IsSpelled k.String text s1 r → 0 < length (string_value text) → read.name_here s ≡ Ok (string_value text, r)
unfolding read.name_here
name_here_read s s1 r text few same spelled some =
    let fits : nat_lt s.operations max_operations ≡ true = grind (arith, nat_tests) in
    let words : spelling s ≡ text = operation_spelling s ∙ (ap spelling same ∙ spelled_text k.String text s1 r spelled) in
    let long : (length (string_value text) == 0) ≡ false = grind (arith, nat_tests) in
    rw (words, long, fits, name_after s s1 few same, spelled_text k.String text s1 r spelled, spelled_next k.String text s1 r spelled) refl

pub operation_begins : (at : ℕ) (s r : Place) (name : List ℕ) → IsOperationName at name s r → kind s ≡ Some k.String
operation_begins at s r name (s1, text, few, same, here, spelled, named, some) = operation_kind s ∙ (ap kind same ∙ spelled_kind k.String text s1 r spelled)

pub operation_name_read : (at : ℕ) → TakesAll read.operation_name (λ s name r. IsOperationName at name s r)
unfolding read.operation_name
operation_name_read at s r name within (s1, text, few, same, here, spelled, named, some) =
    let up : left s1 ≡ left s = ap left (sym same) in
    let is = operation_begins at s r name (s1, text, few, same, here, spelled, named, some) in
    record {
      reads = rw is (name_here_read s s1 r text few same spelled (subst (λ n. 0 < length n) (sym named) some)) ∙ (λ i. Ok (named i, r));
      moves = omega (arith, up, spelled_shorter k.String text s1 r (λ e. cc) spelled);
      within = spelled_within k.String text s1 r spelled;
    }

operation_start : (s : Place) → start s ≡ start (one_operation s)
unfolding start
operation_start s = refl

pub operation_at : (at : ℕ) (s r : Place) (name : List ℕ) → IsOperationName at name s r → start s ≡ at
operation_at at s r name (s1, text, few, same, here, spelled, named, some) = operation_start s ∙ (ap start same ∙ sym here)

pub no_successors_read : (s : Place) → IsWithin s → IsNot k.LeftBracket s → read.no_successors s ≡ Ok (tt, s)
unfolding read.no_successors
no_successors_read s within alone = rw (unseen k.LeftBracket s within alone) refl
