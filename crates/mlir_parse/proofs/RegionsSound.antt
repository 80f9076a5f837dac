-- What is read as a region or as an operation is spelled so.
use Rattle.std.proofs.Common.{◌≡◌, ℕ, zero, suc, ◌-◌, ◌<◌, ◌≤◌, Bool, true, false, cond, List, [], ◌∷◌, length, refl, sym, subst, inl, inr, Ok, arith}
use Rattle.std.specs.Prelude.{◌&&◌, nat_le}
use Rattle.mlir_lexer.specs.declared.token.TokenKind.TheVariants as k
use Rattle.mlir_attributes.specs.declared.fault.ModKind.TheVariants as faults
use Rattle.mlir_attributes.specs.declared.aliases.Alias.{Alias}
use Rattle.mlir_parse.specs.declared.syn.SynArg.{SynArg}
use Rattle.mlir_parse.specs.declared.syn.SynRegion.{SynRegion}
use Rattle.mlir_attributes.specs.Place.{Place, sees, spelling, next}
use Rattle.mlir_attributes.specs.Input.{Parser, expect, refuse, fail, pure}
use Rattle.mlir_attributes.specs.Types.{ty}
use Rattle.mlir_attributes.specs.Grammar.{IsMark}
use Rattle.mlir_attributes.specs.AttributeGrammar.{AreMore}
use Rattle.mlir_parse.specs.SynTree.{Operation, operation, operations}
use Rattle.mlir_parse.specs.SynView.{region_tree}
use Rattle.mlir_parse.specs.Lists.{AreListed, AreSome, AreMany, InBrackets}
use Rattle.mlir_attributes.specs.Steps as steps
use Rattle.mlir_attributes.specs.Steps.{max_parts, bracketed, counted_items, all_up_to}
use Rattle.mlir_parse.specs.Operations as read
use Rattle.mlir_parse.specs.OperationGrammar.{IsMaybeLocation, IsArgument, AreArguments, IsLabel, IsRegion, region_count, IsOperation, AreRegions, AreMoreRegions, AreOperations}
use Rattle.mlir_attributes.proofs.Tokens.{bind_ok, same_ok, IsWithin, taken, not_seen, expected, spelled_sees}
use Rattle.mlir_attributes.proofs.TypesSound.{Finds, ty_sound}
use Rattle.mlir_parse.proofs.ListsSound.{bracketed_at, bracketed_sound, counted_items_sound, listed_sound, all_sound}
use Rattle.mlir_parse.proofs.PartsSound.{value_at}
use Rattle.mlir_attributes.proofs.BracketEnds.{not_le}
use Rattle.mlir_parse.proofs.RulesSound.{maybe_location_sound}
use Rattle.mlir_parse.proofs.OperationsSound.{front_sound, back_sound}

module _ (aliases : List Alias) where
  -- ---- arguments and labels

  argument_here_sound : (room : ℕ) (s r : Place) (x : SynArg) → IsWithin s → sees k.Value s ≡ true → read.argument_here aliases room s ≡ Ok (x, r) → IsArgument aliases room s x r × IsWithin r
  unfolding read.argument_here
  argument_here_sound room s r x within is h =
      let colon = bind_ok (expect k.Colon (next s)) _ x r h in
      let t = bind_ok (ty aliases room colon.1) _ x r colon.3 in
      let at = bind_ok (steps.maybe_location room t.1) _ x r t.3 in
      let same = same_ok at.3 in
      let one = value_at s within is in
      let two = expected k.Colon (next s) colon.1 colon.0 one.1 colon.2 in
      let three = ty_sound aliases room colon.1 t.1 t.0 two.1 t.2 in
      let four = maybe_location_sound room t.1 at.1 at.0 three.1 at.2 in
      (subst (λ y. IsArgument aliases room s y r) same.0 (next s, colon.1, t.1, refl, one.0, two.0, three.0, subst (IsMaybeLocation room t.1) same.1 four.0), subst IsWithin same.1 four.1)

  argument_few : (room before : ℕ) (s r : Place) (x : SynArg) (c : Bool) → nat_le max_parts before ≡ c → IsWithin s → sees k.Value s ≡ true
      → (cond {A = Parser SynArg} c (fail faults.TooMany) (read.argument_here aliases room)) s ≡ Ok (x, r) → IsArgument aliases room s x r × IsWithin r × (before < max_parts)
  argument_few room before s r x true many within is h = absurd (cc)
  argument_few room before s r x false many within is h =
      let found = argument_here_sound room s r x within is h in
      (found.0, found.1, not_le max_parts before many)

  argument_by : (room before : ℕ) (s r : Place) (x : SynArg) (b : Bool) → sees k.Value s ≡ b → IsWithin s
      → (cond {A = Parser SynArg} b (cond (nat_le max_parts before) (fail faults.TooMany) (read.argument_here aliases room)) refuse) s ≡ Ok (x, r) → IsArgument aliases room s x r × IsWithin r × (before < max_parts)
  argument_by room before s r x true is within h = argument_few room before s r x (nat_le max_parts before) refl within is h
  argument_by room before s r x false is within h = absurd (cc)

  argument_sound : (room before : ℕ) (s r : Place) (x : SynArg) → IsWithin s → read.argument aliases room before s ≡ Ok (x, r) → IsArgument aliases room s x r × IsWithin r × (before < max_parts)
  unfolding read.argument
  argument_sound room before s r x within h = argument_by room before s r x (sees k.Value s) refl within h

  abbrev ArgumentsInside : ℕ → Place → List SynArg → Place → Type 0
  ArgumentsInside d u xs v = AreListed (IsArgument aliases d) u xs v × (length xs ≤ max_parts)

  arguments_by : (room : ℕ) (s r : Place) (xs : List SynArg) (b : Bool) → sees k.LeftParen s ≡ b → IsWithin s
      → (cond b (bracketed k.LeftParen k.RightParen (read.arguments_inside aliases) room) (pure [])) s ≡ Ok (xs, r) → AreArguments aliases room s xs r × IsWithin r
  arguments_by room s r xs true is within h =
      let found = bracketed_sound k.LeftParen k.RightParen (read.arguments_inside aliases) ArgumentsInside
      (λ d. listed_sound (IsArgument aliases d) k.RightParen (counted_items (read.argument aliases d)) (counted_items_sound (IsArgument aliases d) (read.argument aliases d) (argument_sound d)))
      room s r xs within h in
      (inr found.0, found.1)
  arguments_by room s r xs false is within h = let same = same_ok h in (inl (not_seen k.LeftParen s is, sym same.0, same.1), subst IsWithin same.1 within)

  arguments_sound : (room : ℕ) → Finds (AreArguments aliases room) (read.maybe_arguments aliases room)
  unfolding read.maybe_arguments
  arguments_sound room s r xs within h = arguments_by room s r xs (sees k.LeftParen s) refl within h

  label_by : (room : ℕ) (s r : Place) (xs : List SynArg) (b : Bool) → sees k.Label s ≡ b → IsWithin s → (cond b (read.label aliases room) (pure [])) s ≡ Ok (xs, r) → IsLabel aliases room s xs r × IsWithin r
  unfolding read.label
  label_by room s r xs true is within h =
      let first = taken k.Label s within is in
      let found = bind_ok (read.maybe_arguments aliases room (next s)) _ xs r h in
      let colon = bind_ok (expect k.Colon found.1) _ xs r found.3 in
      let same = same_ok colon.3 in
      let all = arguments_sound room (next s) found.1 found.0 first.1 found.2 in
      let mark = expected k.Colon found.1 colon.1 colon.0 all.1 colon.2 in
      (inr (next s, found.1, (spelling s, first.0), subst (λ ys. AreArguments aliases room (next s) ys found.1) same.0 all.0, subst (IsMark k.Colon found.1) same.1 mark.0), subst IsWithin same.1 mark.1)
  label_by room s r xs false is within h = let same = same_ok h in (inl (not_seen k.Label s is, sym same.0, same.1), subst IsWithin same.1 within)

  label_sound : (room : ℕ) → Finds (IsLabel aliases room) (read.maybe_label aliases room)
  unfolding read.maybe_label
  label_sound room s r xs within h = label_by room s r xs (sees k.Label s) refl within h

  -- ---- operations of a region

  tree_of : (room : ℕ) (s r : Place) (os : List Operation) → AreMany (IsOperation aliases room) s os r → AreOperations aliases room s (operations os) r
  tree_of room s r [] h = h
  tree_of room s r (o ∷ os) h = (h.0, h.1, tree_of room h.0 r os h.2)

  -- a region as its tree says
  abbrev RegionIs : ℕ → Place → SynRegion → Place → Type 0
  RegionIs d s x r = IsRegion aliases (λ deep u v. AreOperations aliases deep u (operations x.ops) v) d s x.args r

  abbrev RegionInside : ℕ → Place → SynRegion → Place → Type 0
  RegionInside d u x v = (m : Place) × IsLabel aliases d u x.args m × AreOperations aliases d m (operations x.ops) v

  module _ (inside : Parser Operation) where
    inner_by : (P : Place → Operation → Place → Type 0) (s r : Place) (o : Operation) (b : Bool) → Finds P inside → IsWithin s → (cond {A = Parser Operation} b (fail faults.ManyBlocks) inside) s ≡ Ok (o, r) → P s o r × IsWithin r
    inner_by P s r o true reads within h = absurd (cc)
    inner_by P s r o false reads within h = reads s r o within h

    inner_sound : (P : Place → Operation → Place → Type 0) → Finds P inside → Finds P (read.inner_operation aliases inside)
    unfolding read.inner_operation
    inner_sound P reads s r o within h = inner_by P s r o (sees k.Label s) reads within h

    region_inside_sound : (room : ℕ) → Finds (IsOperation aliases room) inside → Finds (RegionInside room) (read.region_inside aliases inside room)
    unfolding read.region_inside
    region_inside_sound room reads s r x within h =
        let args = bind_ok (read.maybe_label aliases room s) _ x r h in
        let ops = bind_ok (all_up_to k.RightBrace (read.inner_operation aliases inside) args.1) _ x r args.3 in
        let same = same_ok ops.3 in
        let one = label_sound room s args.1 args.0 within args.2 in
        let two = all_sound (IsOperation aliases room) k.RightBrace (read.inner_operation aliases inside) (inner_sound (IsOperation aliases room) reads) args.1 ops.1 ops.0 one.1 ops.2 in
        let tree = tree_of room args.1 ops.1 ops.0 two.0 in
        (subst (λ y. RegionInside room s y r) same.0 (args.1, one.0, subst (AreOperations aliases room args.1 (operations ops.0)) same.1 tree), subst IsWithin same.1 two.1)

    brace_seen : (d : ℕ) (s r : Place) (x : SynRegion) → RegionIs d s x r → sees k.LeftBrace s ≡ true
    brace_seen zero s r x h = absurd h
    brace_seen (suc d) s r x h = spelled_sees k.LeftBrace h.2.0 s h.0 h.2.1

    few_by : (before : ℕ) (b c : Bool) → b ≡ true → nat_le max_parts before ≡ c → (b && c) ≡ false → before < max_parts
    few_by before true true seen is h = absurd (cc)
    few_by before true false seen is h = not_le max_parts before is
    few_by before false c seen is h = absurd (cc)

    region_by : (d before : ℕ) (s r : Place) (x : SynRegion) (b : Bool) → (sees k.LeftBrace s && nat_le max_parts before) ≡ b → Finds (IsOperation aliases (d - 1)) inside → IsWithin s
        → (cond {A = Parser SynRegion} b (fail faults.TooMany) (bracketed k.LeftBrace k.RightBrace (read.region_inside aliases inside) d)) s ≡ Ok (x, r) → RegionIs d s x r × IsWithin r × (before < max_parts)
    region_by d before s r x true is reads within h = absurd (cc)
    region_by d before s r x false is reads within h =
        let found = bracketed_at k.LeftBrace k.RightBrace (read.region_inside aliases inside) RegionInside d (region_inside_sound (d - 1) reads) s r x within h in
        (found.0, found.1, few_by before (sees k.LeftBrace s) (nat_le max_parts before) (brace_seen d s r x found.0) refl is)

    region_sound : (d : ℕ) → Finds (IsOperation aliases (d - 1)) inside → (before : ℕ) (s r : Place) (x : SynRegion) → IsWithin s → read.region aliases inside d before s ≡ Ok (x, r) → RegionIs d s x r × IsWithin r × (before < max_parts)
    unfolding read.region
    region_sound d reads before s r x within h = region_by d before s r x (sees k.LeftBrace s && nat_le max_parts before) refl reads within h

  -- ---- regions as a tree

  counts : (xs : List SynRegion) → region_count (region_tree xs) ≡ length xs
  counts [] = refl
  counts (x ∷ xs) = let e = counts xs in omega (arith, e)

  more_tree : (d : ℕ) (s r : Place) (xs : List SynRegion) → AreMore k.Comma (RegionIs d) s xs r → AreMoreRegions aliases d s (region_tree xs) r
  more_tree d s r [] h = h
  more_tree d s r (x ∷ xs) h = (h.0, h.1, h.2, h.3, more_tree d h.1 r xs h.4)

  abbrev RegionsInside : ℕ → Place → List SynRegion → Place → Type 0
  RegionsInside d u xs v = AreSome (RegionIs d) u xs v × (length xs ≤ max_parts)

  regions_tree : (room : ℕ) (s r : Place) (xs : List SynRegion) → InBrackets k.LeftParen k.RightParen (λ d u v. RegionsInside d u xs v) room s r → AreRegions aliases room s (region_tree xs) r
  regions_tree zero s r xs h = absurd h
  regions_tree (suc room) s r [] h = absurd h.3.0
  regions_tree (suc room) s r (x ∷ xs) h =
      let few : region_count (region_tree (x ∷ xs)) ≤ max_parts = subst (λ n. n ≤ max_parts) (sym (counts (x ∷ xs))) h.3.1 in
      (h.0, h.1, h.2, (h.3.0.0, h.3.0.1, more_tree room h.3.0.0 h.1 xs h.3.0.2, few), h.4)

  module _ (room : ℕ) (inside : Parser Operation) (reads : Finds (IsOperation aliases (room - 1 - 1)) inside) where
    regions_by : (s r : Place) (xs : List SynRegion) (b : Bool) → sees k.LeftParen s ≡ b → IsWithin s
        → (cond b (bracketed k.LeftParen k.RightParen (read.regions_inside aliases inside) room) (pure [])) s ≡ Ok (xs, r) → AreRegions aliases room s (region_tree xs) r × IsWithin r
    regions_by s r xs true is within h =
        let found = bracketed_at k.LeftParen k.RightParen (read.regions_inside aliases inside) RegionsInside room
        (counted_items_sound (RegionIs (room - 1)) (read.region aliases inside (room - 1)) (region_sound inside (room - 1) reads)) s r xs within h in
        (regions_tree room s r xs found.0, found.1)
    regions_by s r xs false is within h =
        let same = same_ok h in
        (subst (λ ys. AreRegions aliases room s (region_tree ys) r) same.0 (not_seen k.LeftParen s is, same.1), subst IsWithin same.1 within)

    regions_sound : (s r : Place) (xs : List SynRegion) → IsWithin s → read.maybe_regions aliases inside room s ≡ Ok (xs, r) → AreRegions aliases room s (region_tree xs) r × IsWithin r
    unfolding read.maybe_regions
    regions_sound s r xs within h = regions_by s r xs (sees k.LeftParen s) refl within h

    an_operation_sound : Finds (IsOperation aliases room) (read.an_operation aliases inside room)
    unfolding read.an_operation
    an_operation_sound s r o within h =
        let f = bind_ok (read.a_front aliases room s) _ o r h in
        let found = bind_ok (read.maybe_regions aliases inside room f.1) _ o r f.3 in
        let b = bind_ok (read.a_back aliases room found.1) _ o r found.3 in
        let same = same_ok b.3 in
        let one = front_sound aliases room s f.1 f.0 within f.2 in
        let two = regions_sound f.1 found.1 found.0 one.1 found.2 in
        let three = back_sound aliases room found.1 b.1 b.0 two.1 b.2 in
        (subst (λ p. IsOperation aliases room s p r) same.0 (subst (λ e. IsOperation aliases room s (operation (read.head_of f.0 b.0) (region_tree found.0)) e) same.1 (f.1, found.1, one.0 b.0, two.0, three.0 f.0)), subst IsWithin same.1 three.1)

  -- An operation that is read is spelled so.
  pub operation_sound : (room : ℕ) → Finds (IsOperation aliases room) (read.an_operation_in aliases room)
  operation_sound zero = an_operation_sound zero refuse (λ s r o within h. absurd (cc))
  operation_sound (suc zero) = an_operation_sound (suc zero) refuse (λ s r o within h. absurd (cc))
  operation_sound (suc (suc room)) =
      let two : room ≡ suc (suc room) - 1 - 1 = omega arith in
      an_operation_sound (suc (suc room)) (read.an_operation_in aliases room) (subst (λ n. Finds (IsOperation aliases n) (read.an_operation_in aliases room)) two (operation_sound room))
