-- The faults of operations and regions.
use Rattle.std.proofs.Common.{◌≡◌, ℕ, zero, suc, ◌≤◌, Bool, true, false, cond, List, [], ◌∷◌, length, refl, Ok, Err, Option, Some, None}
use Rattle.std.specs.Prelude.{nat_le, ◌==◌, ◌&&◌}
use Rattle.mlir_lexer.specs.declared.token.TokenKind.{TokenKind}
use Rattle.mlir_lexer.specs.declared.token.TokenKind.TheVariants as k
use Rattle.mlir_tree.specs.Tree.{Ty, Attr}
use Rattle.mlir_attributes.specs.declared.fault.ModFault.{ModFault}
use Rattle.mlir_attributes.specs.declared.fault.ModKind.{ModKind}
use Rattle.mlir_attributes.specs.declared.fault.ModKind.TheVariants as faults
use Rattle.mlir_attributes.specs.declared.aliases.Alias.{Alias}
use Rattle.mlir_attributes.specs.Faults.{is_attr_fault, is_spelling_fault}
use Rattle.mlir_attributes.specs.Place.{Place, fault, left, kind, sees, start, next, spelling}
use Rattle.mlir_attributes.specs.Input.{Outcome, Parser, refuse, after, expect, items}
use Rattle.mlir_attributes.specs.Numbers.{if_short, token_value}
use Rattle.mlir_attributes.specs.Types.{ty}
use Rattle.mlir_attributes.specs.Attributes.{attr, entry_name, entry_value, string_value}
use Rattle.mlir_attributes.specs.Steps.{max_parts, counted_items, all_up_to, has_slot, after_slot, has_operation, after_operation, maybe_location}
use Rattle.mlir_parse.specs.Entries.{Placed, is_placed, put_placed, placed_entries, all_placed_entries, dictionary_inside, dictionary, maybe_dictionary, maybe_properties}
use Rattle.mlir_parse.specs.SynTree.{Operation}
use Rattle.mlir_parse.specs.Operations as read
use Rattle.mlir_attributes.proofs.FaultSteps.{Reading, IsIn, IsFault, Judged, Good, Told, start_within, next_in, after_in, refused, failed, failed_at, lifted, expected, both, mapped, either, items_judged, bracketed_judged, counted_items_judged, listed_judged, all_judged, slot_in, operation_in, maybe_location_judged}
use Rattle.mlir_attributes.proofs.FaultTypes.{ty_judged}
use Rattle.mlir_attributes.proofs.FaultAttrs.{attr_judged, entry_name_judged, value_judged}

pub spelling_kind : (n : ModKind) → is_attr_fault n ≡ true → is_spelling_fault n ≡ true
spelling_kind faults.NotUtf8 h = refl
spelling_kind faults.BadByte h = refl
spelling_kind faults.BadString h = refl
spelling_kind faults.Syntax h = refl
spelling_kind faults.WideInt h = refl
spelling_kind faults.AliasUnknown h = refl
spelling_kind faults.TooMany h = refl
spelling_kind faults.IntRange h = refl
spelling_kind faults.DictTwice h = refl
spelling_kind faults.CustomForm h = refl
spelling_kind faults.Successors h = refl
spelling_kind faults.ManyBlocks h = refl
spelling_kind faults.AliasTwice h = refl
spelling_kind n h = absurd (cc)

module _ (j : Reading) (all_in : (n : ModKind) → is_spelling_fault n ≡ true → j.kinds n ≡ true) where
  abbrev attr_in : (n : ModKind) → is_attr_fault n ≡ true → j.kinds n ≡ true
  attr_in n h = all_in n (spelling_kind n h)

  -- ---- names of values

  count_by : (at n : ℕ) (a b : Bool) → at ≤ length j.base.bytes → Told {A = ℕ} j (cond a (Err (fault faults.Syntax at)) (cond b (Ok n) (Err (fault faults.TooMany at))))
  count_by at n true b inside = record { kind = j.wide faults.Syntax refl; within = inside }
  count_by at n false true inside = tt
  count_by at n false false inside = record { kind = j.wide faults.TooMany refl; within = inside }

  count_told : (at : ℕ) (o : Option ℕ) → at ≤ length j.base.bytes → Told j (read.count_of at o)
  count_told at None inside = record { kind = j.wide faults.TooMany refl; within = inside }
  count_told at (Some n) inside = count_by at n (n == 0) (nat_le n max_parts) inside

  count_judged : Good j read.count
  unfolding read.count read.count_here
  count_judged s h =
      either j (sees k.Integer s) _ _ s (lifted j (read.count_of (start s) (if_short (token_value (spelling s)))) (next s) (next_in j s h) (count_told (start s) (if_short (token_value (spelling s))) (start_within j s h))) (refused j s h)

  maybe_count_judged : Good j read.maybe_count
  unfolding read.maybe_count
  maybe_count_judged s h = let there = after_in j k.Colon s h in either j (sees k.Colon s) _ _ (after k.Colon s) (count_judged (after k.Colon s) there) there

  result_judged : Good j read.a_result
  unfolding read.a_result read.result_here
  result_judged s h = either j (sees k.Value s) _ _ s (mapped j (read.maybe_count (next s)) _ (maybe_count_judged (next s) (next_in j s h))) (refused j s h)

  results_judged : Good j read.results
  unfolding read.results
  results_judged s h = both j (items read.a_result s) _ (items_judged j read.a_result result_judged s h) (λ xs u i. both j (expect k.Equal u) _ (expected j k.Equal u i) (λ y v l. l))

  pub maybe_results_judged : Good j read.maybe_results
  unfolding read.maybe_results
  maybe_results_judged s h = either j (sees k.Value s) _ _ s (results_judged s h) h

  index_judged : Good j read.maybe_index
  unfolding read.maybe_index
  index_judged s h = either j (read.sees_index s) _ _ s (next_in j s h) h

  use_by_judged : (b : Bool) → Good j (read.use_by b)
  unfolding read.use_here
  use_by_judged true s h = mapped j (read.maybe_index (next s)) _ (index_judged (next s) (next_in j s h))
  use_by_judged false s h = failed j faults.TooMany s (j.wide faults.TooMany refl) h

  use_judged : (before : ℕ) → Good j (read.a_use before)
  unfolding read.a_use
  use_judged before s h = either j (sees k.Value s) _ _ s (use_by_judged (has_slot before s) (after_slot before s) (slot_in j before s h)) (refused j s h)

  operands_judged : (room : ℕ) → Good j (read.operands room)
  unfolding read.operands
  operands_judged = bracketed_judged j k.LeftParen k.RightParen read.operands_inside (λ room. listed_judged j k.RightParen (counted_items read.a_use) (counted_items_judged j read.a_use use_judged))

  -- ---- the name of an operation

  name_by_judged : (b : Bool) → Good j (read.name_by b)
  name_by_judged true s h = next_in j s h
  name_by_judged false s h = failed j faults.TooMany s (j.wide faults.TooMany refl) h

  name_here_judged : Good j read.name_here
  unfolding read.name_here
  name_here_judged s h =
      either j (read.is_empty (string_value (spelling s))) _ _ s (failed j faults.Syntax s (j.wide faults.Syntax refl) h) (name_by_judged (has_operation s) (after_operation s) (operation_in j s h))

  operation_name_by : (n : Option TokenKind) → Good j (read.operation_name_by n)
  operation_name_by (Some k.String) s h = name_here_judged s h
  operation_name_by (Some k.Word) s h = failed j faults.CustomForm s (all_in faults.CustomForm refl) h
  operation_name_by _ s h = refused j s h

  operation_name_judged : Good j read.operation_name
  unfolding read.operation_name
  operation_name_judged s h = operation_name_by (kind s) s h

  no_successors_judged : Good j read.no_successors
  unfolding read.no_successors
  no_successors_judged s h = either j (sees k.LeftBracket s) _ _ s (failed j faults.Successors s (all_in faults.Successors refl) h) h

  -- ---- dictionaries

  module _ (value : Parser Attr) (one : Good j value) where
    placed_judged : (n : ℕ) (found : List Placed) → Good j (placed_entries value n found)
    unfolding placed_entries
    placed_judged zero found s h = refused j s h
    placed_judged (suc n) found s h =
        both j (entry_name s) _ (entry_name_judged j attr_in s h) (λ name u i.
        either j (is_placed name found) _ _ u (failed_at j faults.DictTwice (start s) (all_in faults.DictTwice refl) (start_within j s h))
        (both j (entry_value value u) _ (value_judged j attr_in value one u i) (λ x v l.
        either j (sees k.Comma v) _ _ (after k.Comma v) (placed_judged n (put_placed name (start s) x found) (after k.Comma v) (after_in j k.Comma v l)) (after_in j k.Comma v l))))

    all_placed_judged : Good j (all_placed_entries value)
    all_placed_judged s h = placed_judged (left s) [] s h

  module _ (aliases : List Alias) where
    dictionary_judged : (room : ℕ) → Good j (dictionary aliases room)
    unfolding dictionary
    dictionary_judged = bracketed_judged j k.LeftBrace k.RightBrace (dictionary_inside aliases) (λ room. listed_judged j k.RightBrace (all_placed_entries (attr aliases room)) (all_placed_judged (attr aliases room) (attr_judged j attr_in aliases room)))

    pub maybe_dictionary_judged : (room : ℕ) → Good j (maybe_dictionary aliases room)
    unfolding maybe_dictionary
    maybe_dictionary_judged room s h = either j (sees k.LeftBrace s) _ _ s (dictionary_judged room s h) h

    pub maybe_properties_judged : (room : ℕ) → Good j (maybe_properties aliases room)
    unfolding maybe_properties
    maybe_properties_judged room s h = either j (sees k.Less s) _ _ s (bracketed_judged j k.Less k.Greater (dictionary aliases) dictionary_judged room s h) h

    -- ---- the function type

    pub operand_types_judged : (room : ℕ) → Good j (read.operand_types aliases room)
    unfolding read.operand_types
    operand_types_judged = bracketed_judged j k.LeftParen k.RightParen (read.operand_types_inside aliases) (λ room. listed_judged j k.RightParen (items (ty aliases room)) (items_judged j (ty aliases room) (ty_judged j aliases room)))

    first_by : (at : ℕ) (e : ModFault) (b : Bool) → at ≤ length j.base.bytes → IsFault j e → Judged {A = Ty} j (cond b (Err e) (Err (fault faults.TooMany at)))
    first_by at e true inside h = h
    first_by at e false inside h = record { kind = j.wide faults.TooMany refl; within = inside }

    first_judged : (at : ℕ) (o : Outcome Ty) → at ≤ length j.base.bytes → Judged j o → Judged j (read.first_fault at o)
    first_judged at (Ok p) inside h = record { kind = j.wide faults.TooMany refl; within = inside }
    first_judged at (Err e) inside h = first_by at e (e.at == at) inside h

    result_by : (p : Parser Ty) → Good j p → (b : Bool) (s : Place) → IsIn j s → Judged j ((cond b p (read.one_too_many p)) s)
    unfolding read.one_too_many
    result_by p one true s h = one s h
    result_by p one false s h = first_judged (start s) (p s) (start_within j s h) (one s h)

    result_type_judged : (p : Parser Ty) → Good j p → (before : ℕ) → Good j (read.result_type p before)
    unfolding read.result_type
    result_type_judged p one before s h = result_by p one (has_slot before s) (after_slot before s) (slot_in j before s h)

    result_list_judged : (room : ℕ) → Good j (read.result_types_in_brackets aliases room)
    result_list_judged = bracketed_judged j k.LeftParen k.RightParen (read.result_types_inside aliases)
        (λ room. listed_judged j k.RightParen (counted_items (read.result_type (ty aliases room))) (counted_items_judged j (read.result_type (ty aliases room)) (result_type_judged (ty aliases room) (ty_judged j aliases room))))

    one_result_judged : (room : ℕ) → Good j (read.one_result_type aliases room)
    one_result_judged room s h = mapped j (read.result_type (ty aliases room) 0 s) (λ t. t ∷ []) (result_type_judged (ty aliases room) (ty_judged j aliases room) 0 s h)

    result_types_by : (room : ℕ) (n : Option TokenKind) → Good j (read.result_types_by aliases room n)
    result_types_by room (Some k.LeftParen) s h = result_list_judged room s h
    result_types_by room (Some k.Word) s h = one_result_judged room s h
    result_types_by room (Some k.Bang) s h = one_result_judged room s h
    result_types_by room _ s h = refused j s h

    result_types_judged : (room : ℕ) → Good j (read.result_types aliases room)
    unfolding read.result_types
    result_types_judged room s h = result_types_by room (kind s) s h

    signature_judged : (room : ℕ) → Good j (read.signature aliases room)
    unfolding read.signature
    signature_judged room s h =
        both j (read.operand_types aliases room s) _ (operand_types_judged room s h) (λ from u i.
        both j (expect k.Arrow u) _ (expected j k.Arrow u i) (λ y v l. mapped j (read.result_types aliases room v) _ (result_types_judged room v l)))

    -- ---- arguments

    argument_here_judged : (room : ℕ) → Good j (read.argument_here aliases room)
    unfolding read.argument_here
    argument_here_judged room s h =
        both j (expect k.Colon (next s)) _ (expected j k.Colon (next s) (next_in j s h)) (λ y u i.
        both j (ty aliases room u) _ (ty_judged j aliases room u i) (λ t v l. both j (maybe_location room v) _ (maybe_location_judged j room v l) (λ z w m. m)))

    argument_judged : (room before : ℕ) → Good j (read.argument aliases room before)
    unfolding read.argument
    argument_judged room before s h =
        either j (sees k.Value s) _ _ s (either j (nat_le max_parts before) _ _ s (failed j faults.TooMany s (j.wide faults.TooMany refl) h) (argument_here_judged room s h)) (refused j s h)

    maybe_arguments_judged : (room : ℕ) → Good j (read.maybe_arguments aliases room)
    unfolding read.maybe_arguments
    maybe_arguments_judged room s h =
        either j (sees k.LeftParen s) _ _ s
        (bracketed_judged j k.LeftParen k.RightParen (read.arguments_inside aliases) (λ room. listed_judged j k.RightParen (counted_items (read.argument aliases room)) (counted_items_judged j (read.argument aliases room) (argument_judged room))) room s h) h

    label_judged : (room : ℕ) → Good j (read.label aliases room)
    unfolding read.label
    label_judged room s h =
        both j (read.maybe_arguments aliases room (next s)) _ (maybe_arguments_judged room (next s) (next_in j s h)) (λ found u i. both j (expect k.Colon u) _ (expected j k.Colon u i) (λ y v l. l))

    pub maybe_label_judged : (room : ℕ) → Good j (read.maybe_label aliases room)
    unfolding read.maybe_label
    maybe_label_judged room s h = either j (sees k.Label s) _ _ s (label_judged room s h) h

    -- ---- operations

    front_judged : (room : ℕ) → Good j (read.a_front aliases room)
    unfolding read.a_front
    front_judged room s h =
        both j (read.maybe_results s) _ (maybe_results_judged s h) (λ named u i.
        both j (read.operation_name u) _ (operation_name_judged u i) (λ name v l.
        both j (read.operands room v) _ (operands_judged room v l) (λ uses w m.
        both j (read.no_successors w) _ (no_successors_judged w m) (λ y x n. mapped j (maybe_properties aliases room x) _ (maybe_properties_judged room x n)))))

    back_judged : (room : ℕ) → Good j (read.a_back aliases room)
    unfolding read.a_back
    back_judged room s h =
        both j (maybe_dictionary aliases room s) _ (maybe_dictionary_judged room s h) (λ found u i.
        both j (expect k.Colon u) _ (expected j k.Colon u i) (λ y v l.
        both j (read.signature aliases room v) _ (signature_judged room v l) (λ types w m. both j (maybe_location room w) _ (maybe_location_judged j room w m) (λ z x n. n))))

    module _ (inside : Parser Operation) (one : Good j inside) where
      inner_judged : Good j (read.inner_operation aliases inside)
      unfolding read.inner_operation
      inner_judged s h = either j (sees k.Label s) _ _ s (failed j faults.ManyBlocks s (all_in faults.ManyBlocks refl) h) (one s h)

      region_inside_judged : (room : ℕ) → Good j (read.region_inside aliases inside room)
      unfolding read.region_inside
      region_inside_judged room s h =
          both j (read.maybe_label aliases room s) _ (maybe_label_judged room s h) (λ args u i. mapped j (all_up_to k.RightBrace (read.inner_operation aliases inside) u) _ (all_judged j k.RightBrace (read.inner_operation aliases inside) inner_judged u i))

      region_judged : (room before : ℕ) → Good j (read.region aliases inside room before)
      unfolding read.region
      region_judged room before s h =
          either j (sees k.LeftBrace s && nat_le max_parts before) _ _ s (failed j faults.TooMany s (j.wide faults.TooMany refl) h)
          (bracketed_judged j k.LeftBrace k.RightBrace (read.region_inside aliases inside) region_inside_judged room s h)

      maybe_regions_judged : (room : ℕ) → Good j (read.maybe_regions aliases inside room)
      unfolding read.maybe_regions
      maybe_regions_judged room s h =
          either j (sees k.LeftParen s) _ _ s
          (bracketed_judged j k.LeftParen k.RightParen (read.regions_inside aliases inside) (λ room. counted_items_judged j (read.region aliases inside room) (region_judged room)) room s h) h

      an_operation_judged : (room : ℕ) → Good j (read.an_operation aliases inside room)
      unfolding read.an_operation
      an_operation_judged room s h =
          both j (read.a_front aliases room s) _ (front_judged room s h) (λ f u i.
          both j (read.maybe_regions aliases inside room u) _ (maybe_regions_judged room u i) (λ found v l. mapped j (read.a_back aliases room v) _ (back_judged room v l)))

    pub operation_judged : (room : ℕ) → Good j (read.an_operation_in aliases room)
    operation_judged zero = an_operation_judged refuse (λ s h. refused j s h) zero
    operation_judged (suc zero) = an_operation_judged refuse (λ s h. refused j s h) (suc zero)
    operation_judged (suc (suc room)) = an_operation_judged (read.an_operation_in aliases room) (operation_judged room) (suc (suc room))
