-- What every tree of a module file keeps: what is counted on the way bounds it.
use Rattle.std.proofs.Common.{◌≡◌, ℕ, zero, suc, ◌+◌, ◌≤◌, List, [], ◌∷◌, ◌++◌, length, refl, ap, sym, subst, arith, inl, inr, Ok, Err, Result, IfOk}
use Rattle.std.specs.Prelude.{map}
use Rattle.mlir_lexer.specs.declared.token.TokenKind.{TokenKind}
use Rattle.mlir_lexer.specs.declared.token.TokenKind.TheVariants as k
use Rattle.mlir_lexer.proofs.Places.{goes_on}
use Rattle.mlir_tree.specs.declared.refusal.Refusal.{Refusal}
use Rattle.mlir_tree.specs.Tree.{Ty}
use Rattle.mlir_tree.specs.Range.{AreRising}
use Rattle.mlir_attributes.specs.declared.fault.ModFault.{ModFault}
use Rattle.mlir_attributes.specs.declared.aliases.Alias.{Alias}
use Rattle.mlir_attributes.specs.declared.aliases.Meaning.{Meaning}
use Rattle.mlir_attributes.specs.declared.aliases.Meaning.TheVariants as meanings
use Rattle.mlir_parse.specs.declared.syn.SynUse.{SynUse}
use Rattle.mlir_parse.specs.declared.syn.SynArg.{SynArg}
use Rattle.mlir_parse.specs.declared.syn.SynEntry.{SynEntry}
use Rattle.mlir_parse.specs.declared.syn.Syn.{Syn}
use Rattle.mlir_attributes.specs.Faults.{is_spelling_fault}
use Rattle.mlir_attributes.specs.Place.{Place, start_of}
use Rattle.mlir_attributes.specs.Input.{Parser, Gives}
use Rattle.mlir_attributes.specs.Types.{ty, max_open}
use Rattle.mlir_attributes.specs.Attributes.{attr}
use Rattle.mlir_attributes.specs.Steps as steps
use Rattle.mlir_attributes.specs.Steps.{max_parts, max_operations, max_slots, one_slot, one_operation}
use Rattle.mlir_parse.specs.Entries.{Placed, put_placed, syn_entry, maybe_dictionary, maybe_properties}
use Rattle.mlir_parse.specs.Operations as read
use Rattle.mlir_parse.specs.ModuleFile.{module_file}
use Rattle.mlir_parse.specs.SynTree.{Head, Operation, operation, Regions, no_regions, region_then, Operations, no_operations, operation_then, operations}
use Rattle.mlir_attributes.specs.Grammar.{IsSpelled, IsMark}
use Rattle.mlir_attributes.specs.TypeGrammar.{IsTy, IsPlain}
use Rattle.mlir_attributes.specs.AttributeGrammar.{AreMore}
use Rattle.mlir_parse.specs.Lists.{AreListed, InBrackets}
use Rattle.mlir_parse.specs.OperationGrammar as grammar
use Rattle.mlir_parse.specs.OperationGrammar.{IsSlot, IsMaybeIndex, IsOperand, AreOperands, IsOperationName, IsLocation, Fills, IsDictionary, AreProperties, AreAttributes, IsResultType, AreResultTypes, AreArguments, IsLabel, IsFront, IsBack, IsRegion, AreRegions, AreMoreRegions, AreOperations, IsOperation}
use Rattle.mlir_parse.specs.FileGrammar.{IsMeaning, IsDefinition, AreDefinitions, AreFileOperations, IsModuleFile}
use Rattle.mlir_parse.specs.Limits.{operation_count, operations_count, region_operation_count, operation_slots, operations_slots, region_slots, region_count, syn_names, IsOperationKept, AreRegionsKept, AreOperationsKept, KeepsLimits}
use Rattle.mlir_attributes.proofs.Rising.{names, rising_put}
use Rattle.mlir_attributes.proofs.FaultSteps.{Reading, IsIn, Judged, Good, location_judged, maybe_location_judged}
use Rattle.mlir_attributes.proofs.FaultTypes.{ty_judged}
use Rattle.mlir_attributes.proofs.FaultAttrs.{attr_kind, attr_judged}
use Rattle.mlir_parse.proofs.FaultOps.{spelling_kind, maybe_results_judged, maybe_dictionary_judged, maybe_properties_judged, operand_types_judged, maybe_label_judged}
use Rattle.mlir_attributes.proofs.TypesComplete.{ty_plain}
use Rattle.mlir_parse.proofs.OpsCompleteParts.{results_read}
use Rattle.mlir_parse.proofs.OpsCompleteRules.{location_reads, maybe_location_read, attr_read, ty_read, attributes_read, properties_read}
use Rattle.mlir_parse.proofs.OpsCompleteTypes.{operand_types_read, label_read}
use Rattle.mlir_parse.proofs.FileSound.{whole_sound}

-- a place in its text, up to which no more was counted than there may be
pub record IsLow (s : Place) : Type 0 where
  pub within : s.at ≤ length s.bytes
  pub operations : s.operations ≤ max_operations
  pub slots : s.slots ≤ max_slots

-- From one place up to the other one so many operations were counted, and so many operands and results.
pub record Counts (n m : ℕ) (s r : Place) : Type 0 where
  pub operations : s.operations + n ≤ r.operations
  pub slots : s.slots + m ≤ r.slots
  pub low : IsLow r

-- ---- rules that count nothing

abbrev reading_at : Place → Reading
reading_at s = record { base = s; kinds = is_spelling_fault; wide = λ n h. spelling_kind n (attr_kind n h) }

reached : (s r : Place) → IsIn (reading_at s) r → Counts 0 0 s r
reached s r h = record {
  operations = omega (arith, h.operations);
  slots = omega (arith, h.slots);
  low = record { within = omega (arith, h.within, ap length h.same); operations = h.few_operations; slots = h.few_slots };
}

first_in : (s : Place) → IsLow s → IsIn (reading_at s) s
first_in s h = record { same = refl; within = h.within; operations = omega arith; few_operations = h.operations; slots = omega arith; few_slots = h.slots }

counted : {A : Type 0} (p : Parser A) (s r : Place) (x : A) → Good (reading_at s) p → IsLow s → p s ≡ Ok (x, r) → Counts 0 0 s r
counted p s r x good low is = reached s r (subst (Judged (reading_at s)) is (good s (first_in s low)))

none : (s r : Place) → IsLow s → s ≡ r → Counts 0 0 s r
none s r low same = subst (Counts 0 0 s) same (record { operations = omega arith; slots = omega arith; low = low })

chain : (n m a b : ℕ) (s r u : Place) → Counts n m s r → Counts a b r u → Counts (n + a) (m + b) s u
chain n m a b s r u h l = record { operations = omega (arith, h.operations, l.operations); slots = omega (arith, h.slots, l.slots); low = l.low }

spelled : (j : TokenKind) (text : List ℕ) (s r : Place) → IsLow s → IsSpelled j text s r → Counts 0 0 s r
spelled j text s r low h =
    let (from, order, within, some) = goes_on s.bytes s.at h.token h.stands in
    subst (Counts 0 0 s) h.rest (record { operations = omega arith; slots = omega arith; low = record { within = within; operations = low.operations; slots = low.slots } })

marked : (j : TokenKind) (s r : Place) → IsLow s → IsMark j s r → Counts 0 0 s r
marked j s r low (text, h) = spelled j text s r low h

in_brackets : (K : Type 0) (o c : TokenKind) (Inside : ℕ → Place → Place → Type 0) (n m room : ℕ) (s r : Place) → ((d : ℕ) (u v : Place) → IsLow u → Inside d u v → Counts n m u v × K)
    → IsLow s → InBrackets o c Inside room s r → Counts n m s r × K
in_brackets K o c Inside n m zero s r one low h = absurd h
in_brackets K o c Inside n m (suc room) s r one low (s1, s2, opens, is, closes) =
    let first = marked o s s1 low opens in
    let (inside, kept) = one room s1 s2 first.low is in
    let last = marked c s2 r inside.low closes in
    (record { operations = omega (arith, first.operations, inside.operations, last.operations); slots = omega (arith, first.slots, inside.slots, last.slots); low = last.low }, kept)

-- ---- lists whose members are one slot each

slotted : (s s1 : Place) → IsLow s → IsSlot s s1 → Counts 0 1 s s1
slotted s s1 low (few, is) = subst (Counts 0 1 s) is (record { operations = omega arith; slots = omega arith; low = record { within = low.within; operations = low.operations; slots = omega (arith, few) } })

module _ {A : Type 0} (Is : Place → A → Place → Type 0) (one : (s r : Place) (x : A) → IsLow s → Is s x r → Counts 0 1 s r) where
  more_counts : (xs : List A) (s r : Place) → IsLow s → AreMore k.Comma Is s xs r → Counts 0 (length xs) s r
  more_counts [] s r low h = none s r low h.1
  more_counts (x ∷ xs) s r low (s1, s2, mark, is, more) =
      let first = marked k.Comma s s1 low mark in
      let item = one s1 s2 x first.low is in
      let rest = more_counts xs s2 r item.low more in
      record { operations = omega (arith, first.operations, item.operations, rest.operations); slots = omega (arith, first.slots, item.slots, rest.slots); low = rest.low }

  listed_counts : (xs : List A) (s r : Place) → IsLow s → AreListed Is s xs r → Counts 0 (length xs) s r
  listed_counts [] s r low h = none s r low h
  listed_counts (x ∷ xs) s r low (s1, is, more) =
      let item = one s s1 x low is in
      let rest = more_counts xs s1 r item.low more in
      record { operations = omega (arith, item.operations, rest.operations); slots = omega (arith, item.slots, rest.slots); low = rest.low }

index_counts : (n : ℕ) (s r : Place) → IsLow s → IsMaybeIndex n s r → Counts 0 0 s r
index_counts n s r low (inl h) = none s r low h.2
index_counts n s r low (inr h) = spelled k.Hash h.0 s r low h.1

operand_counts : (s r : Place) (x : SynUse) → IsLow s → IsOperand s x r → Counts 0 1 s r
operand_counts s r x low (s1, s2, slot, at, (text, is, same), index) =
    let first = slotted s s1 low slot in
    let name = spelled k.Value text s1 s2 first.low is in
    let last = index_counts x.index s2 r name.low index in
    record { operations = omega (arith, first.operations, name.operations, last.operations); slots = omega (arith, first.slots, name.slots, last.slots); low = last.low }

operands_count : (room : ℕ) (xs : List SynUse) (s r : Place) → IsLow s → AreOperands room s xs r → Counts 0 (length xs) s r × (length xs ≤ max_parts)
operands_count room xs s r low h =
    in_brackets (length xs ≤ max_parts) k.LeftParen k.RightParen _ 0 (length xs) room s r (λ d u v below is. (listed_counts IsOperand operand_counts xs u v below is.0, is.1)) low h

name_counts : (at : ℕ) (name : List ℕ) (s r : Place) → IsLow s → IsOperationName at name s r → Counts 1 0 s r
name_counts at name s r low (s1, text, few, is, stands, h, same, some) =
    let first = subst (Counts 1 0 s) is (record { operations = omega arith; slots = omega arith; low = record { within = low.within; operations = omega (arith, few); slots = low.slots } }) in
    let last = spelled k.String text s1 r first.low h in
    record { operations = omega (arith, first.operations, last.operations); slots = omega (arith, first.slots, last.slots); low = last.low }

-- ---- dictionaries

syn_names_are : (found : List Placed) → names found ≡ syn_names (map syn_entry found)
syn_names_are [] = refl
syn_names_are (e ∷ es) = ap (λ ns. e.0 ∷ ns) (syn_names_are es)

fills_rising : (written : List SynEntry) (found : List Placed) (all : List SynEntry) → Fills found written all → AreRising (names found) → AreRising (syn_names all)
fills_rising [] found all same rising = subst (λ es. AreRising (syn_names es)) same (subst AreRising (syn_names_are found) rising)
fills_rising (e ∷ es) found all (new, fills) rising = fills_rising es (put_placed e.name e.at e.value found) all fills (rising_put e.name (e.at, e.value) found new rising)

no_names : (es : List SynEntry) → es ≡ [] → AreRising (syn_names es)
no_names es same = subst (λ es. AreRising (syn_names es)) (sym same) tt

inside_of : (K : Type 0) (o c : TokenKind) (Inside : ℕ → Place → Place → Type 0) (room : ℕ) (s r : Place) → ((d : ℕ) (u v : Place) → Inside d u v → K) → InBrackets o c Inside room s r → K
inside_of K o c Inside zero s r one h = absurd h
inside_of K o c Inside (suc room) s r one (s1, s2, opens, is, closes) = one room s1 s2 is

module _ (aliases : List Alias) where
  dictionary_rising : (room : ℕ) (es : List SynEntry) (s r : Place) → IsDictionary aliases room s es r → AreRising (syn_names es)
  dictionary_rising room es s r h = inside_of (AreRising (syn_names es)) k.LeftBrace k.RightBrace _ room s r (λ d u v is. fills_rising is.0 [] es is.2 tt) h

  attributes_rising : (room : ℕ) (es : List SynEntry) (s r : Place) → AreAttributes aliases room s es r → AreRising (syn_names es)
  attributes_rising room es s r (inl h) = no_names es h.1
  attributes_rising room es s r (inr h) = dictionary_rising room es s r h

  properties_rising : (room : ℕ) (es : List SynEntry) (s r : Place) → AreProperties aliases room s es r → AreRising (syn_names es)
  properties_rising room es s r (inl h) = no_names es h.1
  properties_rising room es s r (inr h) = inside_of (AreRising (syn_names es)) k.Less k.Greater _ room s r (λ d u v is. dictionary_rising d es u v is) h

  -- ---- types

  ty_counts : (room : ℕ) (t : Ty) (s r : Place) → IsLow s → IsTy aliases room s t r → Counts 0 0 s r
  ty_counts room t s r low h = counted (ty aliases room) s r t (ty_judged (reading_at s) aliases room) low (ty_read aliases room s r t low.within h).reads

  plain_counts : (room : ℕ) (t : Ty) (s r : Place) → IsLow s → IsPlain aliases room s t r → Counts 0 0 s r
  plain_counts room t s r low h = counted (ty aliases room) s r t (ty_judged (reading_at s) aliases room) low (ty_plain aliases room s r t h)

  result_counts : (room : ℕ) (s r : Place) (t : Ty) → IsLow s → IsResultType (IsTy aliases room) s t r → Counts 0 1 s r
  result_counts room s r t low (s1, slot, is) =
      let first = slotted s s1 low slot in
      let last = ty_counts room t s1 r first.low is in
      record { operations = omega (arith, first.operations, last.operations); slots = omega (arith, first.slots, last.slots); low = last.low }

  one_counts : (room : ℕ) (ts : List Ty) (s r : Place) → IsLow s → grammar.IsOneResultType aliases room s ts r → Counts 0 (length ts) s r × (length ts ≤ max_parts)
  one_counts room [] s r low h = absurd h
  one_counts room (t ∷ []) s r low (s1, slot, is) =
      let first = slotted s s1 low slot in
      let last = plain_counts room t s1 r first.low is in
      (record { operations = omega (arith, first.operations, last.operations); slots = omega (arith, first.slots, last.slots); low = last.low }, omega arith)
  one_counts room (t ∷ (u ∷ us)) s r low h = absurd h

  results_count : (room : ℕ) (ts : List Ty) (s r : Place) → IsLow s → AreResultTypes aliases room s ts r → Counts 0 (length ts) s r × (length ts ≤ max_parts)
  results_count room ts s r low (inl h) = one_counts room ts s r low h
  results_count room ts s r low (inr h) =
      in_brackets (length ts ≤ max_parts) k.LeftParen k.RightParen _ 0 (length ts) room s r (λ d u v below is. (listed_counts (IsResultType (IsTy aliases d)) (result_counts d) ts u v below is.0, is.1)) low h

  -- ---- what stands before and behind the regions

  front_counts : (room : ℕ) (h : Head) (s r : Place) → IsLow s → IsFront aliases room h s r → Counts 1 (length h.operands) s r × (length h.operands ≤ max_parts) × AreRising (syn_names h.props)
  front_counts room h s r low f =
      let named = counted read.maybe_results s f.behind_results h.results (maybe_results_judged (reading_at s) (λ n h. h)) low (results_read s f.behind_results h.results low.within f.results).reads in
      let name = name_counts h.at h.name f.behind_results f.behind_name named.low f.name in
      let (uses, few) = operands_count room h.operands f.behind_name f.behind_operands name.low f.operands in
      let props = counted (maybe_properties aliases room) f.behind_operands r h.props (maybe_properties_judged (reading_at f.behind_operands) (λ n h. h) aliases room) uses.low (properties_read aliases room f.behind_operands r h.props (uses.low).within f.properties).reads in (
        record {
          operations = omega (arith, named.operations, name.operations, uses.operations, props.operations);
          slots = omega (arith, named.slots, name.slots, uses.slots, props.slots);
          low = props.low;
        },
        few,
        properties_rising room h.props f.behind_operands r f.properties,
      )

  location_counts : (room : ℕ) (s r : Place) → IsLow s → grammar.IsMaybeLocation room s r → Counts 0 0 s r
  location_counts room s r low h = counted (steps.maybe_location room) s r tt (maybe_location_judged (reading_at s) room) low (maybe_location_read room s r low.within h).reads

  back_counts : (room : ℕ) (h : Head) (s r : Place) → IsLow s → IsBack aliases room h s r → Counts 0 (length h.result_types) s r × (length h.result_types ≤ max_parts) × AreRising (syn_names h.attrs)
  back_counts room h s r low b =
      let found = counted (maybe_dictionary aliases room) s b.behind_attributes h.attrs (maybe_dictionary_judged (reading_at s) (λ n h. h) aliases room) low (attributes_read aliases room s b.behind_attributes h.attrs low.within b.attributes).reads in
      let colon = marked k.Colon b.behind_attributes b.types found.low b.colon in
      let from = counted (read.operand_types aliases room) b.types b.behind_from h.operand_types (operand_types_judged (reading_at b.types) (λ n h. h) aliases room) colon.low (operand_types_read aliases room b.types b.behind_from h.operand_types (colon.low).within b.operand_types).reads in
      let arrow = marked k.Arrow b.behind_from b.to from.low b.arrow in
      let (to, few) = results_count room h.result_types b.to b.behind_to arrow.low b.result_types in
      let last = location_counts room b.behind_to r to.low b.location in (
        record {
          operations = omega (arith, found.operations, colon.operations, from.operations, arrow.operations, to.operations, last.operations);
          slots = omega (arith, found.slots, colon.slots, from.slots, arrow.slots, to.slots, last.slots);
          low = last.low;
        },
        few,
        attributes_rising room h.attrs s b.behind_attributes b.attributes,
      )

  -- ---- regions

  arguments_few : (room : ℕ) (xs : List SynArg) (s r : Place) → AreArguments aliases room s xs r → length xs ≤ max_parts
  arguments_few room xs s r (inl h) = let same = h.1 in omega (arith, ap length same)
  arguments_few room xs s r (inr h) = inside_of (length xs ≤ max_parts) k.LeftParen k.RightParen _ room s r (λ d u v is. is.1) h

  label_few : (room : ℕ) (xs : List SynArg) (s r : Place) → IsLabel aliases room s xs r → length xs ≤ max_parts
  label_few room xs s r (inl h) = let same = h.1 in omega (arith, ap length same)
  label_few room xs s r (inr (s1, s2, mark, are, colon)) = arguments_few room xs s1 s2 are

  region_counts : (K : Type 0) (n m room : ℕ) (args : List SynArg) (s r : Place) (Behind : ℕ → Place → Place → Type 0) → ((d : ℕ) (u v : Place) → IsLow u → Behind d u v → Counts n m u v × K)
      → IsLow s → IsRegion aliases Behind room s args r → Counts n m s r × ((length args ≤ max_parts) × K)
  region_counts K n m room args s r Behind one low h =
      in_brackets ((length args ≤ max_parts) × K) k.LeftBrace k.RightBrace _ n m room s r (λ d u v below (w, label, behind).
      let first = counted (read.maybe_label aliases d) u w args (maybe_label_judged (reading_at u) (λ n h. h) aliases d) below (label_read aliases d u w args below.within label).reads in
      let (rest, kept) = one d w v first.low behind in
      (record { operations = omega (arith, first.operations, rest.operations); slots = omega (arith, first.slots, rest.slots); low = rest.low }, (label_few d args u w label, kept))) low h

  same_count : (rs : Regions) → grammar.region_count rs ≡ region_count rs
  same_count no_regions = refl
  same_count (region_then args os rs) = let same = same_count rs in omega (arith, same)

  -- ---- operations

  mutual
    operation_counts : (room : ℕ) (o : Operation) (s r : Place) → IsLow s → IsOperation aliases room s o r → Counts (operation_count o) (operation_slots o) s r × IsOperationKept o
    operation_counts room (operation h rs) s r low (s1, s2, f, regions, b) =
        let (front, few_operands, props) = front_counts room h s s1 low f in
        let (inside, few_regions, kept) = regions_count room rs s1 s2 front.low regions in
        let (back, few_results, found) = back_counts room h s2 r inside.low b in (
          record {
            operations = omega (arith, front.operations, inside.operations, back.operations);
            slots = omega (arith, front.slots, inside.slots, back.slots);
            low = back.low;
          },
          (record { operands = few_operands; results = few_results; regions = few_regions; props = props; attrs = found }, kept),
        )

    regions_count : (room : ℕ) (rs : Regions) (s r : Place) → IsLow s → AreRegions aliases room s rs r → Counts (region_operation_count rs) (region_slots rs) s r × (region_count rs ≤ 65535) × AreRegionsKept rs
    regions_count room no_regions s r low h = (none s r low h.1, omega arith, tt)
    regions_count room (region_then args os rs) s r low h =
        let (counts, kept) = in_brackets ((region_count (region_then args os rs) ≤ 65535) × AreRegionsKept (region_then args os rs)) k.LeftParen k.RightParen _ (region_operation_count (region_then args os rs)) (region_slots (region_then args os rs)) room s r
        (λ d u v below (w, region, more, few).
        let (first, (few_args, inside)) = region_counts (AreOperationsKept os) (operations_count os) (operations_slots os) d args u w (λ deep x y. AreOperations aliases deep x os y) (λ deep x y under are. operations_counts deep os x y under are) below region in
        let (rest, others) = more_regions_count d rs w v first.low more in
        let same = same_count rs in
        (record { operations = omega (arith, first.operations, rest.operations); slots = omega (arith, first.slots, rest.slots); low = rest.low }, (omega (arith, few, same), (few_args, inside, others)))) low h in
        (counts, kept.0, kept.1)

    more_regions_count : (room : ℕ) (rs : Regions) (s r : Place) → IsLow s → AreMoreRegions aliases room s rs r → Counts (region_operation_count rs) (region_slots rs) s r × AreRegionsKept rs
    more_regions_count room no_regions s r low h = (none s r low h.1, tt)
    more_regions_count room (region_then args os rs) s r low (s1, s2, mark, region, more) =
        let comma = marked k.Comma s s1 low mark in
        let (first, (few_args, inside)) = region_counts (AreOperationsKept os) (operations_count os) (operations_slots os) room args s1 s2 (λ deep x y. AreOperations aliases deep x os y) (λ deep x y under are. operations_counts deep os x y under are) comma.low region in
        let (rest, kept) = more_regions_count room rs s2 r first.low more in
        (record { operations = omega (arith, comma.operations, first.operations, rest.operations); slots = omega (arith, comma.slots, first.slots, rest.slots); low = rest.low }, (few_args, inside, kept))

    operations_counts : (room : ℕ) (os : Operations) (s r : Place) → IsLow s → AreOperations aliases room s os r → Counts (operations_count os) (operations_slots os) s r × AreOperationsKept os
    operations_counts room no_operations s r low h = (none s r low h, tt)
    operations_counts room (operation_then o os) s r low (s1, is, more) =
        let (first, one) = operation_counts room o s s1 low is in
        let (rest, all) = operations_counts room os s1 r first.low more in
        (record { operations = omega (arith, first.operations, rest.operations); slots = omega (arith, first.slots, rest.slots); low = rest.low }, (one, all))

  -- ---- definitions

  meaning_counts : (sort : TokenKind) (m : Meaning) (s r : Place) → IsLow s → IsMeaning aliases sort s m r → Counts 0 0 s r
  meaning_counts sort (meanings.Ty t) s r low h = ty_counts max_open t s r low h.1
  meaning_counts sort (meanings.Attr x) s r low h = counted (attr aliases max_open) s r x (attr_judged (reading_at s) (λ n h. spelling_kind n h) aliases max_open) low (attr_read aliases max_open s r x low.within h.1).reads
  meaning_counts sort meanings.Location s r low h =
      let is = h.1 in
      let word = spelled k.Word _ s is.behind low is.is_word in
      let rest = counted (steps.location max_open) is.behind r tt (location_judged (reading_at is.behind) max_open) word.low (location_reads max_open s r is) in
      record { operations = omega (arith, word.operations, rest.operations); slots = omega (arith, word.slots, rest.slots); low = rest.low }

  definition_counts : (a : Alias) (s r : Place) → IsLow s → IsDefinition aliases s a r → Counts 0 0 s r
  definition_counts a s r low h =
      let name = spelled h.sort a.name s h.behind low h.name in
      let equal = marked k.Equal h.behind h.meant name.low h.equal in
      let rest = meaning_counts h.sort a.meaning h.meant r equal.low h.meaning in
      record { operations = omega (arith, name.operations, equal.operations, rest.operations); slots = omega (arith, name.slots, equal.slots, rest.slots); low = rest.low }

definitions_count : (new aliases : List Alias) (s r : Place) → IsLow s → AreDefinitions aliases s new r → Counts 0 0 s r
definitions_count [] aliases s r low h = none s r low h
definitions_count (a ∷ new) aliases s r low (s1, is, more) =
    let first = definition_counts aliases a s s1 low is in
    let rest = definitions_count new (aliases ++ a ∷ []) s1 r first.low more in
    record { operations = omega (arith, first.operations, rest.operations); slots = omega (arith, first.slots, rest.slots); low = rest.low }

-- ---- files

file_counts : (os : List Operation) (aliases : List Alias) (s r : Place) → IsLow s → AreFileOperations aliases s os r → Counts (operations_count (operations os)) (operations_slots (operations os)) s r × AreOperationsKept (operations os)
file_counts [] aliases s r low (new, are) = (definitions_count new aliases s r low are, tt)
file_counts (o ∷ os) aliases s r low (new, s1, s2, are, is, more) =
    let first = definitions_count new aliases s s1 low are in
    let (one, kept) = operation_counts (aliases ++ new) max_open o s1 s2 first.low is in
    let (rest, all) = file_counts os (aliases ++ new) s2 r one.low more in
    (record { operations = omega (arith, first.operations, one.operations, rest.operations); slots = omega (arith, first.slots, one.slots, rest.slots); low = rest.low }, (kept, all))

limits_kept : (bytes : List ℕ) (file : Syn) → IsModuleFile bytes file → KeepsLimits file
limits_kept bytes file h =
    let (counts, kept) = file_counts file.ops [] (start_of bytes) h.end (record { within = omega arith; operations = omega arith; slots = omega arith }) h.operations in
    let low = counts.low in
    record { few = omega (arith, counts.operations, low.operations); slots = omega (arith, counts.slots, low.slots); each = kept }

-- what a call reads
pub file_kept : (bytes : List ℕ) (r : Result Syn (Refusal ModFault)) → Gives r (module_file bytes) → IfOk r (λ file. KeepsLimits file)
file_kept bytes (Ok file) e = limits_kept bytes file (whole_sound bytes file e)
file_kept bytes (Err e) h = tt
