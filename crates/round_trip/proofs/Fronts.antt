-- What stands before and behind the regions of an operation is read back.
use Rattle.std.proofs.Common.{◌≡◌, ℕ, suc, ◌+◌, ◌<◌, ◌≤◌, List, [], ◌∷◌, ◌++◌, length, map, refl, arith}
use Rattle.mlir_lexer.specs.declared.token.TokenKind.TheVariants as k
use Rattle.mlir_tree.specs.declared.row.Row.{Row}
use Rattle.mlir_tree.specs.Tree.{Ty, tys}
use Rattle.mlir_print.specs.Text.{string_text, tys_text, stands_bare, results_by}
use Rattle.mlir_print.specs.ModuleText.{results_text, properties_text, listed, value_text}
use Rattle.mlir_parse.specs.declared.syn.SynUse.{SynUse}
use Rattle.mlir_parse.specs.declared.syn.SynResult.{SynResult}
use Rattle.mlir_parse.specs.declared.syn.SynEntry.{SynEntry}
use Rattle.mlir_attributes.specs.Place.{Place, moved, start}
use Rattle.mlir_attributes.specs.Grammar.{IsMark, IsNot}
use Rattle.mlir_attributes.specs.Steps.{max_slots, max_operations, one_operation}
use Rattle.mlir_parse.specs.OperationGrammar.{AreOperands, IsOperationName, AreProperties, AreAttributes, AreOperandTypes, AreResultTypes, IsFront, IsBack}
use Rattle.mlir_resolve.specs.Laid.{entry_pair}
use Rattle.round_trip.proofs.Places.{Is, Faces, faces, space, marked}
use Rattle.round_trip.proofs.Ends.{Ends}
use Rattle.round_trip.proofs.Parts.{Goes, Member, Fits}
use Rattle.round_trip.proofs.Uses.{IsUseOf, AreResultsOf}
use Rattle.round_trip.proofs.Nexts.{Next, is_region, is_property, next_lacks}
use Rattle.round_trip.proofs.Dictionaries.{Maybe}
use Rattle.round_trip.proofs.Results.{Results, IsTypeOf, results_again, operand_types_again, result_types_again}
use Rattle.round_trip.proofs.RowTree.{IsRowReady}
use Rattle.round_trip.proofs.Regions.{no_value, no_location}
use Rattle.round_trip.proofs.Operations.{behind_colon, behind_regions, properties_next, properties_part, attributes_part, name_part, operands_part}

-- ---- before the regions

pub record Front (all : List Row) (room : ℕ) (r : Row) (s : Place) (z : List ℕ) : Type 0 where
  pub at : ℕ
  pub results : List SynResult
  pub uses : List SynUse
  pub props : List SynEntry
  pub result_fits : AreResultsOf all r results
  pub use_fits : Fits (λ i v x. IsUseOf all v x) 0 r.operands uses
  pub pairs : map entry_pair props ≡ r.props
  pub end : Place
  pub stands : (attrs : List SynEntry) (types_at : ℕ) (from to : List Ty) → IsFront [] (suc room) (record { at = at; name = r.name; results = results; operands = uses; props = props; attrs = attrs; types_at = types_at; operand_types = from; result_types = to }) s end
  pub is : Faces end z
  pub operations : end.operations ≡ s.operations + 1
  pub slots : end.slots ≡ s.slots + length r.operands

abbrev behind_operands : Row → List ℕ → List ℕ
behind_operands r z = properties_text r.props ++ z

abbrev behind_string : List Row → Row → List ℕ → List ℕ
behind_string all r z = 40 ∷ (listed (value_text all) 0 r.operands ++ (41 ∷ behind_operands r z))

abbrev IsOperands : List Row → ℕ → Row → Place → List ℕ → Type 0
IsOperands all room r s z = Member (Fits (λ i v x. IsUseOf all v x) 0 r.operands) (λ u made v. AreOperands (suc room) u made v) (length r.operands) s z

front_done : (all : List Row) (room : ℕ) (r : Row) (s p1 : Place) (at : ℕ) (y z : List ℕ) (res : Results all r s y) → IsOperationName at r.name res.end p1 → p1.operations ≡ s.operations + 1 → p1.slots ≡ s.slots
    → (ops : IsOperands all room r p1 (behind_operands r z)) → IsNot k.LeftBracket ops.goes.end → Maybe (λ u made v. AreProperties [] (suc room) u made v) r.props ops.goes.end z → Front all room r s z
front_done all room r s p1 at y z res name o1 n1 ops no_successors props = record {
  at = at;
  results = res.made;
  uses = ops.made;
  props = props.made;
  result_fits = res.fits;
  use_fits = ops.fits;
  pairs = props.pairs;
  end = props.end;
  stands = λ attrs types_at from to. record { behind_results = res.end; behind_name = p1; behind_operands = ops.goes.end; results = res.stands; name = name; operands = ops.goes.stands; no_successors = no_successors; properties = props.stands };
  is = props.is;
  operations = omega (arith, props.operations, ops.goes.operations, o1);
  slots = omega (arith, props.slots, ops.goes.slots, n1);
}

front_props : (all : List Row) (room : ℕ) (r : Row) (s p1 : Place) (at : ℕ) (y z : List ℕ) (res : Results all r s y) → IsOperationName at r.name res.end p1 → p1.operations ≡ s.operations + 1 → p1.slots ≡ s.slots
    → IsOperands all room r p1 (behind_operands r z) → IsRowReady all room r → s.slots + length r.operands ≤ max_slots → Next is_region z → Front all room r s z
front_props all room r s p1 at y z res name o1 n1 ops ready few next =
    front_done all room r s p1 at y z res name o1 n1 ops
    (next_lacks is_property k.LeftBracket ops.goes.end (behind_operands r z) refl (properties_next r.props z next) (faces ops.goes.end (behind_operands r z) ops.goes.is))
    (properties_part room r.props ops.goes.end z ready.rising_properties ready.properties (omega (arith, ops.goes.slots, n1, few)) (faces ops.goes.end (behind_operands r z) ops.goes.is) next)

front_named : (all : List Row) (room : ℕ) (r : Row) (s : Place) (z : List ℕ) → Results all r s (string_text r.name ++ behind_string all r z) → IsRowReady all room r → s.operations < max_operations → s.slots + length r.operands ≤ max_slots → Next is_region z → Front all room r s z
front_named all room r s z res ready few_operations few next =
    let (e1, name, i1) = name_part r.name res.end (behind_string all r z) ready.name ready.named (omega (arith, res.operations, few_operations)) res.is in
    front_props all room r s (moved (one_operation res.end) e1) (start (one_operation res.end)) (string_text r.name ++ behind_string all r z) z res name (omega (arith, res.operations)) res.slots
    (operands_part all room r (moved (one_operation res.end) e1) (behind_operands r z) ready (omega (arith, res.slots, few)) i1) ready few next

pub front_again : (all : List Row) (room : ℕ) (r : Row) (s : Place) (z : List ℕ) → IsRowReady all room r → s.operations < max_operations → s.slots + length r.operands ≤ max_slots
    → Faces s (results_text all r ++ (string_text r.name ++ behind_string all r z)) → Next is_region z → Front all room r s z
front_again all room r s z ready few_operations few f next =
    front_named all room r s z (results_again all r s (string_text r.name ++ behind_string all r z) ready.number ready.few_results f (λ e. no_value all r s (behind_string all r z) ready.name e f)) ready few_operations few next

-- ---- behind the regions

pub record Back (all : List Row) (room : ℕ) (r : Row) (s : Place) (z : List ℕ) : Type 0 where
  pub attrs : List SynEntry
  pub types_at : ℕ
  pub from : List Ty
  pub pairs : map entry_pair attrs ≡ r.attrs
  pub types : Fits (IsTypeOf all) 0 r.operands from
  pub end : Place
  pub stands : (at : ℕ) (results : List SynResult) (uses : List SynUse) (props : List SynEntry)
      → IsBack [] (suc room) (record { at = at; name = r.name; results = results; operands = uses; props = props; attrs = attrs; types_at = types_at; operand_types = from; result_types = r.results }) s end
  pub is : Is end (10 ∷ z)
  pub operations : end.operations ≡ s.operations
  pub slots : end.slots ≡ s.slots + length r.results

abbrev result_text : Row → List ℕ → List ℕ
result_text r z = results_by (stands_bare (tys r.results)) (tys_text (tys r.results)) ++ (10 ∷ z)

back_done : (all : List Row) (room : ℕ) (r : Row) (s : Place) (y z : List ℕ) (attrs : Maybe (λ u made v. AreAttributes [] (suc room) u made v) r.attrs s y) (e5 : ℕ) → IsMark k.Colon attrs.end (moved attrs.end e5)
    → (x : List ℕ) (from : Member (Fits (IsTypeOf all) 0 r.operands) (λ u made v. AreOperandTypes [] (suc room) u made v) 0 (moved attrs.end e5) x) (e7 : ℕ) → IsMark k.Arrow from.goes.end (moved from.goes.end e7)
    → Goes (λ u v. AreResultTypes [] (suc room) u r.results v) 0 (length r.results) (moved from.goes.end e7) (10 ∷ z) → Ends (10 ∷ z) → Back all room r s z
back_done all room r s y z attrs e5 colon x from e7 arrow to ends = record {
  attrs = attrs.made;
  types_at = start (moved attrs.end e5);
  from = from.made;
  pairs = attrs.pairs;
  types = from.fits;
  end = to.end;
  stands = λ at results uses props.
      record {
        behind_attributes = attrs.end;
        types = moved attrs.end e5;
        behind_from = from.goes.end;
        to = moved from.goes.end e7;
        behind_to = to.end;
        attributes = attrs.stands;
        colon = colon;
        at = refl;
        operand_types = from.goes.stands;
        arrow = arrow;
        result_types = to.stands;
        location = no_location (suc room) to.end (10 ∷ z) ends (faces to.end (10 ∷ z) to.is);
      };
  is = to.is;
  operations = omega (arith, to.operations, from.goes.operations, attrs.operations);
  slots = omega (arith, to.slots, from.goes.slots, attrs.slots);
}

back_results : (all : List Row) (room : ℕ) (r : Row) (s : Place) (y z : List ℕ) (attrs : Maybe (λ u made v. AreAttributes [] (suc room) u made v) r.attrs s y) (e5 : ℕ) → IsMark k.Colon attrs.end (moved attrs.end e5)
    → Member (Fits (IsTypeOf all) 0 r.operands) (λ u made v. AreOperandTypes [] (suc room) u made v) 0 (moved attrs.end e5) (32 ∷ 45 ∷ 62 ∷ 32 ∷ result_text r z) → IsRowReady all room r → s.slots + length r.results ≤ max_slots → Ends (10 ∷ z) → Back all room r s z
back_results all room r s y z attrs e5 colon from ready few ends =
    let last = result_text r z in
    let (e7, arrow, i7) = marked k.Arrow (45 ∷ 62 ∷ []) from.goes.end (32 ∷ last) (space 32 from.goes.end (45 ∷ 62 ∷ 32 ∷ last) refl (faces from.goes.end (32 ∷ 45 ∷ 62 ∷ 32 ∷ last) from.goes.is)) (refl, λ at. refl) in
    back_done all room r s y z attrs e5 colon (32 ∷ 45 ∷ 62 ∷ 32 ∷ last) from e7 arrow
    (result_types_again room r.results (moved from.goes.end e7) (10 ∷ z) ready.results ready.few_results (omega (arith, from.goes.slots, attrs.slots, few)) (space 32 (moved from.goes.end e7) last refl (faces (moved from.goes.end e7) (32 ∷ last) i7)) ends) ends

back_types : (all : List Row) (room : ℕ) (r : Row) (s : Place) (z : List ℕ) → Maybe (λ u made v. AreAttributes [] (suc room) u made v) r.attrs s (32 ∷ 58 ∷ 32 ∷ behind_colon all r z) → IsRowReady all room r → s.slots + length r.results ≤ max_slots → Ends (10 ∷ z) → Back all room r s z
back_types all room r s z attrs ready few ends =
    let types = behind_colon all r z in
    let (e5, colon, i5) = marked k.Colon (58 ∷ []) attrs.end (32 ∷ types) (space 32 attrs.end (58 ∷ 32 ∷ types) refl attrs.is) (refl, λ at. refl) in
    back_results all room r s (32 ∷ 58 ∷ 32 ∷ types) z attrs e5 colon
    (operand_types_again all room r.operands (moved attrs.end e5) (32 ∷ 45 ∷ 62 ∷ 32 ∷ result_text r z) ready.typed (omega (arith, attrs.slots, few)) (space 32 (moved attrs.end e5) types refl (faces (moved attrs.end e5) (32 ∷ types) i5))) ready few ends

pub back_again : (all : List Row) (room : ℕ) (r : Row) (s : Place) (z : List ℕ) → IsRowReady all room r → s.slots + length r.results ≤ max_slots → Faces s (behind_regions all r z) → Ends (10 ∷ z) → Back all room r s z
back_again all room r s z ready few f ends =
    back_types all room r s z (attributes_part room r.attrs s (behind_colon all r z) ready.rising_attributes ready.attributes (omega (arith, few)) f) ready few ends
