-- What is spelled as an operation is read so.
use Rattle.std.proofs.Common.{◌≡◌, ◌≢◌, ℕ, zero, suc, ◌<◌, ◌≤◌, true, false, List, [], ◌∷◌, ◌++◌, length, refl, ap, ap₂, sym, subst, ◌∙◌, inl, inr, Ok, append_assoc, append-nil, arith}
use Rattle.std.specs.Prelude.{◌⊎◌, nat_le, Some}
use Rattle.std.proofs.lemmas.Bool.Decides.{nat_tests}
use Rattle.mlir_lexer.specs.declared.token.TokenKind.{TokenKind}
use Rattle.mlir_lexer.specs.declared.token.TokenKind.TheVariants as k
use Rattle.mlir_attributes.specs.declared.aliases.Alias.{Alias}
use Rattle.mlir_parse.specs.declared.operations.Front.{Front}
use Rattle.mlir_parse.specs.declared.operations.Back.{Back}
use Rattle.mlir_parse.specs.declared.syn.SynRegion.{SynRegion}
use Rattle.mlir_parse.specs.declared.syn.SynResult.{SynResult}
use Rattle.mlir_attributes.specs.Place.{Place, left, kind, sees}
use Rattle.mlir_attributes.specs.Input.{Parser, refuse}
use Rattle.mlir_attributes.specs.Grammar.{IsMark}
use Rattle.mlir_attributes.specs.AttributeGrammar.{AreMore}
use Rattle.mlir_parse.specs.SynTree.{Head, Operation, operation, Regions, no_regions, region_then, Operations, no_operations, operation_then, operations}
use Rattle.mlir_parse.specs.SynView.{region_tree}
use Rattle.mlir_attributes.specs.Steps.{max_parts, many, bracketed}
use Rattle.mlir_parse.specs.Operations as read
use Rattle.mlir_parse.specs.Operations.{an_operation, an_operation_in}
use Rattle.mlir_parse.specs.OperationGrammar.{AreResults, IsLabel, IsFront, IsBack, IsRegion, IsOperation, AreRegions, AreMoreRegions, AreOperations, region_count}
use Rattle.mlir_attributes.proofs.Tokens.{IsWithin, spelled_within, spelled_sees, spelled_kind, spelled_shorter, unseen, expects, kind_other}
use Rattle.mlir_parse.proofs.OpsCompleteSteps.{Takes, Passes, TakesAll, passes, in_brackets, bracket_opens, counted_read}
use Rattle.mlir_parse.proofs.OpsCompleteParts.{results_read, operands_read, operation_begins, operation_name_read, operation_at, no_successors_read}
use Rattle.mlir_parse.proofs.OpsCompleteRules.{maybe_location_read, attributes_read, properties_read}
use Rattle.mlir_parse.proofs.OpsCompleteTypes.{signature_read, label_read}

-- ---- lists and what they stand for

abbrev pub op_list : Operations → List Operation
op_list no_operations = []
op_list (operation_then o os) = o ∷ op_list os

ops_again : (os : Operations) → operations (op_list os) ≡ os
ops_again no_operations = refl
ops_again (operation_then o os) = ap (operation_then o) (ops_again os)

list_again : (os : List Operation) → op_list (operations os) ≡ os
list_again [] = refl
list_again (o ∷ os) = ap (λ xs. o ∷ xs) (list_again os)

abbrev pub region_list : Regions → List SynRegion
region_list no_regions = []
region_list (region_then args os rs) = record { args = args; ops = op_list os } ∷ region_list rs

regions_again : (rs : Regions) → region_tree (region_list rs) ≡ rs
regions_again no_regions = refl
regions_again (region_then args os rs) = ap₂ (λ xs ys. region_then args xs ys) (ops_again os) (regions_again rs)

length-regions : (rs : Regions) → length (region_list rs) ≡ region_count rs
length-regions no_regions = refl
length-regions (region_then args os rs) = let more = length-regions rs in omega (arith, more)

-- ---- before and behind the regions

abbrev front_of : Head → Front
front_of h = record { at = h.at; name = h.name; results = h.results; operands = h.operands; props = h.props }

abbrev back_of : Head → Back
back_of h = record { attrs = h.attrs; types = record { at = h.types_at; from = h.operand_types; to = h.result_types } }

results_begin : (s m : Place) (xs : List SynResult) → AreResults s xs m → (s ≡ m → kind s ≡ Some k.String) → (kind s ≡ Some k.Value) ⊎ (kind s ≡ Some k.String)
results_begin s m [] (alone, same) named = inr (named same)
results_begin s m (x ∷ xs) (s1, (s2, (s3, here, (text, spelled, is), counted), more), shut) named = inl (spelled_kind k.Value text s s3 spelled)

module _ (aliases : List Alias) where
  front_read : (room : ℕ) (h : Head) (s r : Place) → IsWithin s → IsFront aliases room h s r → Takes (read.a_front aliases room) s (front_of h) r
  unfolding read.a_front
  front_read room h s r within f =
      let named = results_read s f.behind_results h.results within f.results in
      let name = operation_name_read h.at f.behind_results f.behind_name h.name named.within f.name in
      let uses = operands_read room f.behind_name f.behind_operands h.operands name.within f.operands in
      let props = properties_read aliases room f.behind_operands r h.props uses.within f.properties in
      record {
        reads = rw (named.reads, operation_at h.at f.behind_results f.behind_name h.name f.name, name.reads, uses.reads, no_successors_read f.behind_operands uses.within f.no_successors, props.reads) refl;
        moves = omega (arith, named.moves, name.moves, uses.moves, props.moves);
        within = props.within;
      }

  back_read : (room : ℕ) (h : Head) (s r : Place) → IsWithin s → IsBack aliases room h s r → Takes (read.a_back aliases room) s (back_of h) r
  unfolding read.a_back
  back_read room h s r within b =
      let attrs = attributes_read aliases room s b.behind_attributes h.attrs within b.attributes in
      let (text, colon) = b.colon in
      let types = signature_read aliases room h.types_at b.types b.behind_from b.to b.behind_to h.operand_types h.result_types (spelled_within k.Colon text b.behind_attributes b.types colon) b.at b.operand_types b.arrow b.result_types in
      let place = maybe_location_read room b.behind_to r types.within b.location in
      record {
        reads = rw (attrs.reads, expects k.Colon text b.behind_attributes b.types colon, types.reads, place.reads) refl;
        moves = omega (arith, attrs.moves, spelled_shorter k.Colon text b.behind_attributes b.types (λ e. cc) colon, types.moves, place.moves);
        within = place.within;
      }

  -- an operation begins with the name of a result or its own name
  pub op_begins : (room : ℕ) (o : Operation) (s r : Place) → IsOperation aliases room s o r → (kind s ≡ Some k.Value) ⊎ (kind s ≡ Some k.String)
  op_begins room (operation h rs) s r (s1, s2, f, regions, b) =
      results_begin s f.behind_results h.results f.results (λ same. ap kind same ∙ operation_begins h.at f.behind_results f.behind_name h.name f.name)

  begins_other : (j : TokenKind) (s : Place) → k.Value ≢ j → k.String ≢ j → (kind s ≡ Some k.Value) ⊎ (kind s ≡ Some k.String) → sees j s ≡ false
  begins_other j s a b (inl is) = kind_other k.Value j s is a
  begins_other j s a b (inr is) = kind_other k.String j s is b

  -- ---- regions, where the operations inside are read

  module _ (inside : Parser Operation) where
    abbrev item : Parser Operation
    item = read.inner_operation aliases inside

    item_is : (s r : Place) (o : Operation) → sees k.Label s ≡ false → inside s ≡ Ok (o, r) → item s ≡ Ok (o, r)
    unfolding read.inner_operation
    item_is s r o h e = rw h e

    many_more : (n : ℕ) (found : List Operation) (o : Operation) (s s1 : Place) → sees k.RightBrace s ≡ false → item s ≡ Ok (o, s1) → many k.RightBrace item (suc n) found s ≡ many k.RightBrace item n (found ++ o ∷ []) s1
    unfolding many
    many_more n found o s s1 h e = rw (h, e) refl

    many_ends : (n : ℕ) (found : List Operation) (s : Place) → sees k.RightBrace s ≡ true → many k.RightBrace item n found s ≡ Ok (found, s)
    unfolding many
    many_ends zero found s h = rw h refl
    many_ends (suc n) found s h = rw h refl

    module _ (deep : ℕ) (reads : TakesAll inside (IsOperation aliases deep)) where
      operations_read : (os : Operations) (n : ℕ) (found : List Operation) (s r : Place) → IsWithin s → AreOperations aliases deep s os r → left s ≤ n → sees k.RightBrace r ≡ true → Passes (many k.RightBrace item n found) s (found ++ op_list os) r
      operations_read no_operations n found s r within same fits ends = record {
        reads = many_ends n found s (ap (sees k.RightBrace) same ∙ ends) ∙ (λ i. Ok (sym (append-nil found) i, same i));
        moves = omega (arith, ap left same);
        within = subst IsWithin same within;
      }
      operations_read (operation_then o os) zero found s r within (s1, one, more) fits ends = absurd (let up = (reads s s1 o within one).moves in omega arith)
      operations_read (operation_then o os) (suc n) found s r within (s1, one, more) fits ends =
          let first = reads s s1 o within one in
          let begins = op_begins deep o s s1 one in
          let rest = operations_read os n (found ++ o ∷ []) s1 r first.within more (omega (arith, first.moves)) ends in
          record {
            reads = many_more n found o s s1 (begins_other k.RightBrace s (λ e. cc) (λ e. cc) begins) (item_is s s1 o (begins_other k.Label s (λ e. cc) (λ e. cc) begins) first.reads) ∙ (rest.reads ∙ (λ i. Ok (append_assoc found (o ∷ []) (op_list os) i, r)));
            moves = omega (arith, first.moves, rest.moves);
            within = rest.within;
          }

      abbrev One : ℕ → Place → SynRegion → Place → Type 0
      One room s x r = IsRegion aliases (λ d u v. AreOperations aliases d u (operations x.ops) v) room s x.args r

      inside_reads : (room : ℕ) (s m r : Place) (x : SynRegion) → Passes (read.maybe_label aliases room) s x.args m → Passes (many k.RightBrace item (left m) []) m x.ops r → read.region_inside aliases inside room s ≡ Ok (x, r)
      unfolding read.region_inside
      inside_reads room s m r x a b = rw (a.reads, b.reads) refl

      inside_read : (s m r w : Place) (x : SynRegion) → IsWithin s → IsLabel aliases deep s x.args m → AreOperations aliases deep m (operations x.ops) r → IsMark k.RightBrace r w → Passes (read.region_inside aliases inside deep) s x r
      inside_read s m r w x within labelled are (text, closes) =
          let a = label_read aliases deep s m x.args within labelled in
          let b = operations_read (operations x.ops) (left m) [] m r a.within are (omega arith) (spelled_sees k.RightBrace text r w closes) in
          let b' : Passes (many k.RightBrace item (left m) []) m x.ops r = subst (λ ys. Passes (many k.RightBrace item (left m) []) m ys r) (list_again x.ops) b in
          record { reads = inside_reads deep s m r x a b'; moves = omega (arith, a.moves, b.moves); within = b.within }

      region_is : (before : ℕ) (s s1 r : Place) (x : SynRegion) → before < max_parts → IsMark k.LeftBrace s s1 → bracketed k.LeftBrace k.RightBrace (read.region_inside aliases inside) (suc deep) s ≡ Ok (x, r) → read.region aliases inside (suc deep) before s ≡ Ok (x, r)
      unfolding read.region
      region_is before s s1 r x few (text, opens) e =
          let fits : nat_le max_parts before ≡ false = grind (arith, nat_tests) in
          rw (spelled_sees k.LeftBrace text s s1 opens, fits) e

      region_read : (before : ℕ) → before < max_parts → TakesAll (read.region aliases inside (suc deep) before) (One (suc deep))
      region_read before few s r x within h =
          let (s1, opens) = bracket_opens k.LeftBrace k.RightBrace (λ d u v. (m : Place) × IsLabel aliases d u x.args m × AreOperations aliases d m (operations x.ops) v) (suc deep) s r h in
          let all = in_brackets k.LeftBrace k.RightBrace (read.region_inside aliases inside) (λ d u v. (m : Place) × IsLabel aliases d u x.args m × AreOperations aliases d m (operations x.ops) v) x (λ e. cc) (λ e. cc) (suc deep)
          (λ d u v w e here is closes.
          let same : d ≡ deep = omega (arith, e) in
          let (m, labelled, are) = subst (λ n. (m : Place) × IsLabel aliases n u x.args m × AreOperations aliases n m (operations x.ops) v) same is in
          subst (λ n. Passes (read.region_inside aliases inside n) u x v) (sym same) (inside_read u m v w x here labelled are closes)) s r h in
          record { reads = region_is before s s1 r x few opens all.reads; moves = all.moves; within = all.within }

      as_one : (room : ℕ) (args : List _) (os : Operations) (s r : Place) → IsRegion aliases (λ d u v. AreOperations aliases d u os v) room s args r → IsRegion aliases (λ d u v. AreOperations aliases d u (operations (op_list os)) v) room s args r
      as_one room args os s r h = subst (λ xs. IsRegion aliases (λ d u v. AreOperations aliases d u xs v) room s args r) (sym (ops_again os)) h

      as_more : (room : ℕ) (rs : Regions) (s r : Place) → AreMoreRegions aliases room s rs r → AreMore k.Comma (One room) s (region_list rs) r
      as_more room no_regions s r h = h
      as_more room (region_then args os rs) s r (s1, s2, comma, one, more) = (s1, s2, comma, as_one room args os s1 s2 one, as_more room rs s2 r more)

    module _ (room : ℕ) (reads : (deep : ℕ) → room ≡ suc (suc deep) → TakesAll inside (IsOperation aliases deep)) where
      regions_inside_read : (args : List _) (os : Operations) (rs : Regions) (d : ℕ) (u m v : Place) → room ≡ suc d → IsWithin u → IsRegion aliases (λ e x y. AreOperations aliases e x os y) d u args m → AreMoreRegions aliases d m rs v
          → region_count (region_then args os rs) ≤ max_parts → Passes (read.regions_inside aliases inside d) u (region_list (region_then args os rs)) v
      regions_inside_read args os rs zero u m v e within one more few = absurd one
      regions_inside_read args os rs (suc deep) u m v e within one more few =
          let inner = reads deep e in
          passes (counted_read (One deep inner (suc deep)) (read.region aliases inside (suc deep)) (λ before fits. region_read deep inner before fits) u v (region_list (region_then args os rs)) within
          (m, as_one deep inner (suc deep) args os u m one, as_more deep inner (suc deep) rs m v more) (omega (arith, few, length-regions (region_then args os rs))))

      regions_read : (rs : Regions) (s r : Place) → IsWithin s → AreRegions aliases room s rs r → Passes (read.maybe_regions aliases inside room) s (region_list rs) r
      unfolding read.maybe_regions
      regions_read no_regions s r within (alone, same) =
          record { reads = rw (unseen k.LeftParen s within alone) (λ i. Ok ([], same i)); moves = omega (arith, ap left same); within = subst IsWithin same within }
      regions_read (region_then args os rs) s r within h =
          let (s1, (text, opens)) = bracket_opens k.LeftParen k.RightParen _ room s r h in
          let all = in_brackets k.LeftParen k.RightParen (read.regions_inside aliases inside)
          (λ d u v. (m : Place) × IsRegion aliases (λ e x y. AreOperations aliases e x os y) d u args m × AreMoreRegions aliases d m rs v × (region_count (region_then args os rs) ≤ max_parts))
          (region_list (region_then args os rs)) (λ e. cc) (λ e. cc) room (λ d u v w e here is closes. regions_inside_read args os rs d u is.0 v e here is.1 is.2 is.3) s r h in
          record { reads = rw (spelled_sees k.LeftParen text s s1 opens) all.reads; moves = omega (arith, all.moves); within = all.within }

      operation_is : (h : Head) (rs : Regions) (s s1 s2 r : Place) → read.a_front aliases room s ≡ Ok (front_of h, s1) → read.maybe_regions aliases inside room s1 ≡ Ok (region_list rs, s2) → read.a_back aliases room s2 ≡ Ok (back_of h, r)
          → an_operation aliases inside room s ≡ Ok (operation h rs, r)
      unfolding an_operation
      operation_is h rs s s1 s2 r a b c = rw (a, b, c) (λ i. Ok (operation h (regions_again rs i), r))

      operation_reads : TakesAll (an_operation aliases inside room) (IsOperation aliases room)
      operation_reads s r (operation h rs) within (s1, s2, f, regions, b) =
          let one = front_read room h s s1 within f in
          let two = regions_read rs s1 s2 one.within regions in
          let three = back_read room h s2 r two.within b in
          record { reads = operation_is h rs s s1 s2 r one.reads two.reads three.reads; moves = omega (arith, one.moves, two.moves, three.moves); within = three.within }

  -- An operation that is spelled is read.
  pub operation_complete : (room : ℕ) → TakesAll (an_operation_in aliases room) (IsOperation aliases room)
  operation_complete zero = operation_reads refuse zero (λ deep e. absurd (omega (arith, e)))
  operation_complete (suc zero) = operation_reads refuse (suc zero) (λ deep e. absurd (omega (arith, e)))
  operation_complete (suc (suc room)) =
      operation_reads (an_operation_in aliases room) (suc (suc room)) (λ deep e. let same : room ≡ deep = omega (arith, e) in subst (λ d. TakesAll (an_operation_in aliases room) (IsOperation aliases d)) same (operation_complete room))
