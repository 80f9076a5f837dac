-- What is read as an operation is spelled so.
use Rattle.std.proofs.Common.{◌≡◌, ℕ, zero, suc, ◌<◌, ◌≤◌, Bool, true, false, cond, List, length, refl, ap, sym, subst, ◌∙◌, inl, inr, Ok, Err}
use Rattle.std.specs.Prelude.{◌==◌, Option, Some}
use Rattle.mlir_lexer.specs.declared.token.TokenKind.{TokenKind}
use Rattle.mlir_lexer.specs.declared.token.TokenKind.TheVariants as k
use Rattle.mlir_tree.specs.Tree.{Ty}
use Rattle.mlir_attributes.specs.declared.fault.ModKind.TheVariants as faults
use Rattle.mlir_attributes.specs.declared.aliases.Alias.{Alias}
use Rattle.mlir_parse.specs.declared.operations.Front.{Front}
use Rattle.mlir_parse.specs.declared.operations.Back.{Back}
use Rattle.mlir_attributes.specs.Place.{Place, fault, kind, start}
use Rattle.mlir_attributes.specs.Input.{Outcome, Parser, expect, fail, items, take_token, ◌>>◌}
use Rattle.mlir_attributes.specs.Types.{ty, ty_by, word_type, bang_type, function}
use Rattle.mlir_attributes.specs.TypeGrammar.{IsTy, IsPlain}
use Rattle.mlir_parse.specs.Lists.{AreListed, InBrackets}
use Rattle.mlir_attributes.specs.Steps as steps
use Rattle.mlir_attributes.specs.Steps.{max_parts, bracketed, listed, counted_items, all_up_to, take_slot, has_slot, one_slot, after_slot}
use Rattle.mlir_parse.specs.Entries.{maybe_dictionary, maybe_properties}
use Rattle.mlir_parse.specs.Operations as read
use Rattle.mlir_parse.specs.OperationGrammar.{IsMaybeLocation, AreProperties, IsResultType, IsOneResultType, AreOperandTypes, AreResultTypes, IsFront, IsBack}
use Rattle.mlir_attributes.proofs.Tokens.{bind_ok, same_ok, IsWithin, kind_sees, expected}
use Rattle.mlir_attributes.proofs.TypesSound.{Finds, ty_sound, word_sound, bang_sound}
use Rattle.mlir_parse.proofs.ListsSound.{bracketed_sound, items_sound, counted_items_sound, listed_sound, any_listed_sound}
use Rattle.mlir_parse.proofs.PartsSound.{slot_facts, results_sound, operands_sound, operation_name_sound, no_successors_sound}
use Rattle.mlir_parse.proofs.RulesSound.{maybe_location_sound, attributes_sound, properties_sound}

-- ---- types of results

never : (at : ℕ) (o : Outcome Ty) (t : Ty) (r : Place) → read.first_fault at o ≡ Ok (t, r) → ⊥
never at (Ok p) t r h = absurd (cc)
never at (Err e) t r h = by_place (e.at == at) h
  where
    by_place : (b : Bool) → cond {A = Outcome Ty} b (Err e) (Err (fault faults.TooMany at)) ≡ Ok (t, r) → ⊥
    by_place true h = absurd (cc)
    by_place false h = absurd (cc)

module _ (P : Place → Ty → Place → Type 0) (p : Parser Ty) where
  result_type_by : (before : ℕ) (s r : Place) (t : Ty) (c : Bool) → ((m : Place) → IsWithin m → p m ≡ Ok (t, r) → m ≡ one_slot s → P m t r × IsWithin r) → has_slot before s ≡ c → IsWithin s
      → (cond c p (read.one_too_many p)) (cond c (one_slot s) s) ≡ Ok (t, r) → IsResultType P s t r × IsWithin r × (before < max_parts)
  unfolding read.one_too_many
  result_type_by before s r t true reads fits within h =
      let facts = slot_facts before s fits in
      let found = reads (one_slot s) within h refl in
      ((one_slot s, facts.1, found.0), found.1, facts.0)
  result_type_by before s r t false reads fits within h = absurd (never (start s) (p s) t r h)

  result_type_at : (before : ℕ) (s r : Place) (t : Ty) → ((m : Place) → IsWithin m → p m ≡ Ok (t, r) → m ≡ one_slot s → P m t r × IsWithin r) → IsWithin s → read.result_type p before s ≡ Ok (t, r) → IsResultType P s t r × IsWithin r × (before < max_parts)
  unfolding read.result_type after_slot
  result_type_at before s r t reads within h = result_type_by before s r t (has_slot before s) reads refl within h

slot_kind : (s : Place) → kind (one_slot s) ≡ kind s
unfolding kind
slot_kind s = refl

module _ (aliases : List Alias) where
  -- a type that begins with a word, or with `!`
  ty_word : (room : ℕ) (s r : Place) (t : Ty) → kind s ≡ Some k.Word → ty aliases room s ≡ Ok (t, r) → word_type aliases room s ≡ Ok (t, r)
  unfolding ty
  ty_word zero s r t is h = ap (λ i. ty_by aliases zero (fail faults.TooMany) i s) (sym is) ∙ h
  ty_word (suc room) s r t is h = ap (λ i. ty_by aliases (suc room) (take_token >> function aliases (suc room) (ty aliases room)) i s) (sym is) ∙ h

  ty_bang : (room : ℕ) (s r : Place) (t : Ty) → kind s ≡ Some k.Bang → ty aliases room s ≡ Ok (t, r) → bang_type aliases room s ≡ Ok (t, r)
  unfolding ty
  ty_bang zero s r t is h = ap (λ i. ty_by aliases zero (fail faults.TooMany) i s) (sym is) ∙ h
  ty_bang (suc room) s r t is h = ap (λ i. ty_by aliases (suc room) (take_token >> function aliases (suc room) (ty aliases room)) i s) (sym is) ∙ h

  word_plain : (room : ℕ) (s r : Place) (t : Ty) → IsWithin s → kind s ≡ Some k.Word → ty aliases room s ≡ Ok (t, r) → IsPlain aliases room s t r × IsWithin r
  word_plain room s r t within is h = let found = word_sound aliases room s r t within (kind_sees k.Word s is) (ty_word room s r t is h) in (inl found.0, found.1)

  bang_plain : (room : ℕ) (s r : Place) (t : Ty) → IsWithin s → kind s ≡ Some k.Bang → ty aliases room s ≡ Ok (t, r) → IsPlain aliases room s t r × IsWithin r
  bang_plain room s r t within is h = bang_sound aliases room s r t within (kind_sees k.Bang s is) (ty_bang room s r t is h)

  pub operand_types_sound : (room : ℕ) → Finds (AreOperandTypes aliases room) (read.operand_types aliases room)
  unfolding read.operand_types
  operand_types_sound room =
      bracketed_sound k.LeftParen k.RightParen (read.operand_types_inside aliases) (λ d u ts v. AreListed (IsTy aliases d) u ts v)
      (λ d. any_listed_sound (IsTy aliases d) k.RightParen (items (ty aliases d)) (items_sound (IsTy aliases d) (ty aliases d) (ty_sound aliases d))) room

  abbrev ResultsInside : ℕ → Place → List Ty → Place → Type 0
  ResultsInside d u ts v = AreListed (IsResultType (IsTy aliases d)) u ts v × (length ts ≤ max_parts)

  brackets_sound : (room : ℕ) → Finds (λ s ts r. InBrackets k.LeftParen k.RightParen (λ d u v. ResultsInside d u ts v) room s r) (read.result_types_in_brackets aliases room)
  brackets_sound room =
      bracketed_sound k.LeftParen k.RightParen (read.result_types_inside aliases) ResultsInside
      (λ d. listed_sound (IsResultType (IsTy aliases d)) k.RightParen (counted_items (read.result_type (ty aliases d)))
      (counted_items_sound (IsResultType (IsTy aliases d)) (read.result_type (ty aliases d))
      (λ before s r t within h. result_type_at (IsTy aliases d) (ty aliases d) before s r t (λ m w e same. ty_sound aliases d m r t w e) within h))) room

  one_sound : (room : ℕ) (s r : Place) (ts : List Ty) → ((m r : Place) (t : Ty) → IsWithin m → ty aliases room m ≡ Ok (t, r) → m ≡ one_slot s → IsPlain aliases room m t r × IsWithin r)
      → IsWithin s → read.one_result_type aliases room s ≡ Ok (ts, r) → IsOneResultType aliases room s ts r × IsWithin r
  one_sound room s r ts reads within h =
      let one = bind_ok (read.result_type (ty aliases room) 0 s) _ ts r h in
      let same = same_ok one.3 in
      let found = result_type_at (IsPlain aliases room) (ty aliases room) 0 s one.1 one.0 (λ m w e is. reads m one.1 one.0 w e is) within one.2 in
      (subst (λ us. IsOneResultType aliases room s us r) same.0 (subst (IsResultType (IsPlain aliases room) s one.0) same.1 found.0), subst IsWithin same.1 found.1)

  result_types_by : (room : ℕ) (s r : Place) (ts : List Ty) (j : Option TokenKind) → IsWithin s → kind s ≡ j → read.result_types_by aliases room j s ≡ Ok (ts, r) → AreResultTypes aliases room s ts r × IsWithin r
  result_types_by room s r ts (Some k.LeftParen) within is h = let found = brackets_sound room s r ts within h in (inr found.0, found.1)
  result_types_by room s r ts (Some k.Word) within is h =
      let found = one_sound room s r ts (λ m r t w e same. word_plain room m r t w (ap kind same ∙ (slot_kind s ∙ is)) e) within h in (inl found.0, found.1)
  result_types_by room s r ts (Some k.Bang) within is h =
      let found = one_sound room s r ts (λ m r t w e same. bang_plain room m r t w (ap kind same ∙ (slot_kind s ∙ is)) e) within h in (inl found.0, found.1)
  result_types_by room s r ts _ within is h = absurd (cc)

  pub result_types_sound : (room : ℕ) → Finds (AreResultTypes aliases room) (read.result_types aliases room)
  unfolding read.result_types
  result_types_sound room s r ts within h = result_types_by room s r ts (kind s) within refl h

  -- ---- what stands before and behind the regions

  pub front_sound : (room : ℕ) (s r : Place) (f : Front) → IsWithin s → read.a_front aliases room s ≡ Ok (f, r) → ((b : Back) → IsFront aliases room (read.head_of f b) s r) × IsWithin r
  unfolding read.a_front
  front_sound room s r f within h =
      let named = bind_ok (read.maybe_results s) _ f r h in
      let name = bind_ok (read.operation_name named.1) _ f r named.3 in
      let uses = bind_ok (read.operands room name.1) _ f r name.3 in
      let none = bind_ok (read.no_successors uses.1) _ f r uses.3 in
      let props = bind_ok (maybe_properties aliases room none.1) _ f r none.3 in
      let same = same_ok props.3 in
      let one = results_sound s named.1 named.0 within named.2 in
      let two = operation_name_sound named.1 name.1 name.0 one.1 name.2 in
      let three = operands_sound room name.1 uses.1 uses.0 two.1 uses.2 in
      let four = no_successors_sound uses.1 none.1 none.0 none.2 in
      let five = properties_sound aliases room none.1 props.1 props.0 (subst IsWithin four.1 three.1) props.2 in (
        λ b. subst (λ g. IsFront aliases room (read.head_of g b) s r) same.0 (record {
          behind_results = named.1;
          behind_name = name.1;
          behind_operands = uses.1;
          results = one.0;
          name = two.0;
          operands = three.0;
          no_successors = four.0;
          properties = subst (λ u. AreProperties aliases room u props.0 r) (sym four.1) (subst (AreProperties aliases room none.1 props.0) same.1 five.0);
        }),
        subst IsWithin same.1 five.1,
      )

  pub back_sound : (room : ℕ) (s r : Place) (b : Back) → IsWithin s → read.a_back aliases room s ≡ Ok (b, r) → ((f : Front) → IsBack aliases room (read.head_of f b) s r) × IsWithin r
  unfolding read.a_back read.signature
  back_sound room s r b within h =
      let attrs = bind_ok (maybe_dictionary aliases room s) _ b r h in
      let colon = bind_ok (expect k.Colon attrs.1) _ b r attrs.3 in
      let types = bind_ok (read.signature aliases room colon.1) _ b r colon.3 in
      let at = bind_ok (steps.maybe_location room types.1) _ b r types.3 in
      let same = same_ok at.3 in
      let from = bind_ok (read.operand_types aliases room colon.1) _ types.0 types.1 types.2 in
      let arrow = bind_ok (expect k.Arrow from.1) _ types.0 types.1 from.3 in
      let to = bind_ok (read.result_types aliases room arrow.1) _ types.0 types.1 arrow.3 in
      let type = same_ok to.3 in
      let one = attributes_sound aliases room s attrs.1 attrs.0 within attrs.2 in
      let two = expected k.Colon attrs.1 colon.1 colon.0 one.1 colon.2 in
      let three = operand_types_sound room colon.1 from.1 from.0 two.1 from.2 in
      let four = expected k.Arrow from.1 arrow.1 arrow.0 three.1 arrow.2 in
      let five = result_types_sound room arrow.1 to.1 to.0 four.1 to.2 in
      let six = maybe_location_sound room types.1 at.1 at.0 (subst IsWithin type.1 five.1) at.2 in (
        λ f. subst (λ c. IsBack aliases room (read.head_of f c) s r) same.0 (subst (λ t. IsBack aliases room (read.head_of f (record { attrs = attrs.0; types = t })) s r) type.0 (record {
          behind_attributes = attrs.1;
          types = colon.1;
          behind_from = from.1;
          to = arrow.1;
          behind_to = types.1;
          attributes = one.0;
          colon = two.0;
          at = refl;
          operand_types = three.0;
          arrow = four.0;
          result_types = subst (AreResultTypes aliases room arrow.1 to.0) type.1 five.0;
          location = subst (IsMaybeLocation room types.1) same.1 six.0;
        })),
        subst IsWithin same.1 six.1,
      )
