-- Function types and arguments that are spelled are read.
use Rattle.std.proofs.Common.{◌≡◌, ℕ, ◌<◌, ◌≤◌, false, List, [], ◌∷◌, length, refl, ap, sym, subst, ◌∙◌, inl, inr, Ok, arith}
use Rattle.std.specs.Prelude.{◌⊎◌, nat_le, Some}
use Rattle.std.proofs.lemmas.Bool.Decides.{nat_tests}
use Rattle.mlir_lexer.specs.declared.token.TokenKind.TheVariants as k
use Rattle.mlir_tree.specs.Tree.{Ty}
use Rattle.mlir_attributes.specs.declared.aliases.Alias.{Alias}
use Rattle.mlir_parse.specs.declared.syn.SynArg.{SynArg}
use Rattle.mlir_attributes.specs.Place.{Place, left, kind, sees, start}
use Rattle.mlir_attributes.specs.Input.{Parser, items}
use Rattle.mlir_attributes.specs.Types.{ty}
use Rattle.mlir_attributes.specs.Grammar.{IsSpelled, IsMark}
use Rattle.mlir_attributes.specs.TypeGrammar.{IsTy, IsPlain}
use Rattle.mlir_parse.specs.Lists.{AreListed, InBrackets}
use Rattle.mlir_attributes.specs.Steps as steps
use Rattle.mlir_attributes.specs.Steps.{max_parts, one_slot, bracketed, counted_items}
use Rattle.mlir_parse.specs.Operations as read
use Rattle.mlir_parse.specs.OperationGrammar.{IsSlot, AreOperandTypes, IsResultType, IsOneResultType, AreResultTypes, IsArgument, AreArguments, IsLabel}
use Rattle.mlir_attributes.proofs.Tokens.{IsWithin, spelled_within, spelled_sees, spelled_kind, spelled_text, spelled_next, spelled_shorter, unseen, expects, kind_other}
use Rattle.mlir_attributes.proofs.TypesSound.{ty_sound}
use Rattle.mlir_attributes.proofs.TypesComplete.{ReadBy, plain_read, plain_takes, begins, not_closed, ty_plain}
use Rattle.mlir_parse.proofs.OpsCompleteSteps.{Takes, TakesAll, PassesAll, mark_moves, mark_within, in_brackets, bracket_opens, counted_read, items_read, listed_read}
use Rattle.mlir_parse.proofs.OpsCompleteParts.{slot_sees, slot_taken, slot_after}
use Rattle.mlir_parse.proofs.OpsCompleteRules.{ty_read, maybe_location_read}

slot_kind : (s : Place) → kind s ≡ kind (one_slot s)
unfolding kind
slot_kind s = refl

-- the type of a result is counted before it is read
slot_read : (p : Parser Ty) (before : ℕ) (s s1 r : Place) (t : Ty) → before < max_parts → IsSlot s s1 → p s1 ≡ Ok (t, r) → read.result_type p before s ≡ Ok (t, r)
unfolding read.result_type
slot_read p before s s1 r t few (fits, same) e = rw (slot_taken before s few fits, slot_after before s s1 few (fits, same)) e

result_type_read : (p : Parser Ty) (Is : Place → Ty → Place → Type 0) → TakesAll p Is → (before : ℕ) → before < max_parts → TakesAll (read.result_type p before) (IsResultType Is)
result_type_read p Is reads before few s r t within (s1, (fits, same), is) =
    let found = reads s1 r t (subst IsWithin same within) is in
    let up : left s1 ≡ left s = ap left (sym same) in
    record { reads = slot_read p before s s1 r t few (fits, same) found.reads; moves = omega (arith, up, found.moves); within = found.within }

module _ (aliases : List Alias) where
  -- ---- types of operands

  type_begins : (room : ℕ) (s r : Place) (t : Ty) → IsTy aliases room s t r → sees k.RightParen s ≡ false
  type_begins room s r t h = not_closed aliases s (begins aliases room t s r h)

  pub operand_types_read : (room : ℕ) → TakesAll (read.operand_types aliases room) (AreOperandTypes aliases room)
  unfolding read.operand_types
  operand_types_read room s r ts within h =
      in_brackets k.LeftParen k.RightParen (read.operand_types_inside aliases) (λ d u v. AreListed (IsTy aliases d) u ts v) ts (λ e. cc) (λ e. cc) room
      (λ d u v w deep inside is closes. listed_read (IsTy aliases d) k.RightParen (items (ty aliases d)) (type_begins d) u v w ts inside (λ some. items_read (IsTy aliases d) (ty aliases d) (ty_read aliases d) u v ts inside some) is closes) s r h

  -- ---- types of results

  result_begins : (room : ℕ) (s r : Place) (t : Ty) → IsResultType (IsTy aliases room) s t r → sees k.RightParen s ≡ false
  result_begins room s r t (s1, (fits, same), is) = slot_sees k.RightParen s ∙ (ap (sees k.RightParen) same ∙ type_begins room s1 r t is)

  plain_ty_read : (room : ℕ) → TakesAll (ty aliases room) (IsPlain aliases room)
  plain_ty_read room s r t within h =
      let e = ty_plain aliases room s r t h in
      record { reads = e; moves = plain_takes aliases room t s r h; within = (ty_sound aliases room s r t within e).1 }

  one_by : (room : ℕ) (s r : Place) (t : Ty) → (kind s ≡ Some k.Word) ⊎ (kind s ≡ Some k.Bang) → read.result_type (ty aliases room) 0 s ≡ Ok (t, r) → read.result_types aliases room s ≡ Ok (t ∷ [], r)
  unfolding read.result_types
  one_by room s r t (inl is) e = rw (is, e) refl
  one_by room s r t (inr is) e = rw (is, e) refl

  plain_kind : (room : ℕ) (s r : Place) (t : Ty) → ReadBy aliases room s t r → (kind s ≡ Some k.Word) ⊎ (kind s ≡ Some k.Bang)
  plain_kind room s r t (inl h) = inl h.1
  plain_kind room s r t (inr h) = inr h.1

  several_by : (room : ℕ) (s s1 r : Place) (ts : List Ty) → IsMark k.LeftParen s s1 → read.result_types_in_brackets aliases room s ≡ Ok (ts, r) → read.result_types aliases room s ≡ Ok (ts, r)
  unfolding read.result_types
  several_by room s s1 r ts (text, opens) e = rw (spelled_kind k.LeftParen text s s1 opens) e

  one_result_read : (room : ℕ) → TakesAll (read.result_types aliases room) (IsOneResultType aliases room)
  one_result_read room s r [] within h = absurd h
  one_result_read room s r (t ∷ []) within (s1, (fits, same), is) =
      let found = result_type_read (ty aliases room) (IsPlain aliases room) (plain_ty_read room) 0 (omega arith) s r t within (s1, (fits, same), is) in
      let here : kind s ≡ kind s1 = slot_kind s ∙ ap kind same in
      let first = subst (λ j. (j ≡ Some k.Word) ⊎ (j ≡ Some k.Bang)) (sym here) (plain_kind room s1 r t (plain_read aliases room t s1 r is)) in
      record { reads = one_by room s r t first found.reads; moves = found.moves; within = found.within }
  one_result_read room s r (t ∷ (u ∷ us)) within h = absurd h

  several_results_read : (room : ℕ) → TakesAll (read.result_types_in_brackets aliases room) (λ s ts r. InBrackets k.LeftParen k.RightParen (λ d u v. AreListed (IsResultType (IsTy aliases d)) u ts v × (length ts ≤ max_parts)) room s r)
  several_results_read room s r ts within h =
      in_brackets k.LeftParen k.RightParen (read.result_types_inside aliases) (λ d u v. AreListed (IsResultType (IsTy aliases d)) u ts v × (length ts ≤ max_parts)) ts (λ e. cc) (λ e. cc) room
      (λ d u v w deep inside is closes. listed_read (IsResultType (IsTy aliases d)) k.RightParen (counted_items (read.result_type (ty aliases d))) (result_begins d) u v w ts inside
      (λ some. counted_read (IsResultType (IsTy aliases d)) (read.result_type (ty aliases d)) (λ before few. result_type_read (ty aliases d) (IsTy aliases d) (ty_read aliases d) before few) u v ts inside some is.1) is.0 closes) s r h

  pub result_types_read : (room : ℕ) → TakesAll (read.result_types aliases room) (AreResultTypes aliases room)
  result_types_read room s r ts within (inl h) = one_result_read room s r ts within h
  result_types_read room s r ts within (inr h) =
      let (s1, opens) = bracket_opens k.LeftParen k.RightParen _ room s r h in
      let all = several_results_read room s r ts within h in
      record { reads = several_by room s s1 r ts opens all.reads; moves = all.moves; within = all.within }

  signature_reads : (room at : ℕ) (s s1 s2 r : Place) (from to : List Ty) → at ≡ start s → read.operand_types aliases room s ≡ Ok (from, s1) → IsMark k.Arrow s1 s2 → read.result_types aliases room s2 ≡ Ok (to, r)
      → read.signature aliases room s ≡ Ok (record { at = at; from = from; to = to }, r)
  unfolding read.signature
  signature_reads room at s s1 s2 r from to here e (text, arrow) f = rw (e, expects k.Arrow text s1 s2 arrow, f) (λ i. Ok (record { at = sym here i; from = from; to = to }, r))

  pub signature_read : (room at : ℕ) (s s1 s2 r : Place) (from to : List Ty) → IsWithin s → at ≡ start s → AreOperandTypes aliases room s from s1 → IsMark k.Arrow s1 s2 → AreResultTypes aliases room s2 to r
      → Takes (read.signature aliases room) s (record { at = at; from = from; to = to }) r
  signature_read room at s s1 s2 r from to within here a arrow b =
      let one = operand_types_read room s s1 from within a in
      let two = result_types_read room s2 r to (mark_within k.Arrow s1 s2 arrow) b in
      record {
        reads = signature_reads room at s s1 s2 r from to here one.reads arrow two.reads;
        moves = omega (arith, one.moves, mark_moves k.Arrow s1 s2 (λ e. cc) arrow, two.moves);
        within = two.within;
      }

  -- ---- arguments

  argument_reads : (room before : ℕ) (s s1 s2 s3 r : Place) (x : SynArg) (text : List ℕ) → before < max_parts → x.at ≡ start s → IsSpelled k.Value text s s1 → read.behind_mark text ≡ x.name → IsMark k.Colon s1 s2
      → ty aliases room s2 ≡ Ok (x.ty, s3) → steps.maybe_location room s3 ≡ Ok (tt, r) → read.argument aliases room before s ≡ Ok (x, r)
  unfolding read.argument read.argument_here
  argument_reads room before s s1 s2 s3 r x text few at spelled named (mark, colon) e f =
      let fits : nat_le max_parts before ≡ false = grind (arith, nat_tests) in
      rw (spelled_sees k.Value text s s1 spelled, fits, spelled_text k.Value text s s1 spelled, spelled_next k.Value text s s1 spelled, expects k.Colon mark s1 s2 colon, e, f) (λ i. Ok (record { at = sym at i; name = named i; ty = x.ty }, r))

  argument_read : (room before : ℕ) → before < max_parts → TakesAll (read.argument aliases room before) (IsArgument aliases room)
  argument_read room before few s r x within (s1, s2, s3, at, (text, spelled, named), colon, typed, placed) =
      let t = ty_read aliases room s2 s3 x.ty (mark_within k.Colon s1 s2 colon) typed in
      let l = maybe_location_read room s3 r t.within placed in
      record {
        reads = argument_reads room before s s1 s2 s3 r x text few at spelled named colon t.reads l.reads;
        moves = omega (arith, spelled_shorter k.Value text s s1 (λ e. cc) spelled, mark_moves k.Colon s1 s2 (λ e. cc) colon, t.moves, l.moves);
        within = l.within;
      }

  argument_begins : (room : ℕ) (s r : Place) (x : SynArg) → IsArgument aliases room s x r → sees k.RightParen s ≡ false
  argument_begins room s r x (s1, s2, s3, at, (text, spelled, named), colon, typed, placed) = kind_other k.Value k.RightParen s (spelled_kind k.Value text s s1 spelled) (λ e. cc)

  some_arguments_read : (room : ℕ) → TakesAll (bracketed k.LeftParen k.RightParen (read.arguments_inside aliases) room) (λ s xs r. InBrackets k.LeftParen k.RightParen (λ d u v. AreListed (IsArgument aliases d) u xs v × (length xs ≤ max_parts)) room s r)
  some_arguments_read room s r xs within h =
      in_brackets k.LeftParen k.RightParen (read.arguments_inside aliases) (λ d u v. AreListed (IsArgument aliases d) u xs v × (length xs ≤ max_parts)) xs (λ e. cc) (λ e. cc) room
      (λ d u v w deep inside is closes. listed_read (IsArgument aliases d) k.RightParen (counted_items (read.argument aliases d)) (argument_begins d) u v w xs inside
      (λ some. counted_read (IsArgument aliases d) (read.argument aliases d) (λ before few. argument_read d before few) u v xs inside some is.1) is.0 closes) s r h

  arguments_read : (room : ℕ) → PassesAll (read.maybe_arguments aliases room) (AreArguments aliases room)
  unfolding read.maybe_arguments
  arguments_read room s r xs within (inl (alone, none, same)) =
      record { reads = rw (unseen k.LeftParen s within alone) (λ i. Ok (sym none i, same i)); moves = omega (arith, ap left same); within = subst IsWithin same within }
  arguments_read room s r xs within (inr h) =
      let (s1, (text, opens)) = bracket_opens k.LeftParen k.RightParen _ room s r h in
      let all = some_arguments_read room s r xs within h in
      record { reads = rw (spelled_sees k.LeftParen text s s1 opens) all.reads; moves = omega (arith, all.moves); within = all.within }

  pub label_read : (room : ℕ) → PassesAll (read.maybe_label aliases room) (IsLabel aliases room)
  unfolding read.maybe_label read.label
  label_read room s r xs within (inl (alone, none, same)) =
      record { reads = rw (unseen k.Label s within alone) (λ i. Ok (sym none i, same i)); moves = omega (arith, ap left same); within = subst IsWithin same within }
  label_read room s r xs within (inr (s1, s2, (text, labelled), are, (mark, colon))) =
      let all = arguments_read room s1 s2 xs (spelled_within k.Label text s s1 labelled) are in
      record {
        reads = rw (spelled_sees k.Label text s s1 labelled, spelled_next k.Label text s s1 labelled, all.reads, expects k.Colon mark s2 r colon) refl;
        moves = omega (arith, spelled_shorter k.Label text s s1 (λ e. cc) labelled, all.moves, spelled_shorter k.Colon mark s2 r (λ e. cc) colon);
        within = spelled_within k.Colon mark s2 r colon;
      }
