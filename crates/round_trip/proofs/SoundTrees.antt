-- Operations that a text spells are sound, with those inside them, whatever aliases stand in them.
use Rattle.std.proofs.Common.{◌≡◌, ℕ, ◌<◌, ◌≤◌, List, [], ◌∷◌, length, map, sym, subst, ◌∙◌, inl, inr}
use Rattle.std.specs.Prelude.{IsUtf8}
use Rattle.std.specs.List.{AllByRecursion}
use Rattle.mlir_lexer.specs.declared.token.TokenKind.TheVariants as k
use Rattle.mlir_tree.specs.Tree.{tys, entries}
use Rattle.mlir_attributes.specs.declared.aliases.Alias.{Alias}
use Rattle.mlir_parse.specs.declared.syn.SynArg.{SynArg}
use Rattle.mlir_attributes.specs.Place.{Place}
use Rattle.mlir_attributes.specs.Steps.{max_parts}
use Rattle.mlir_parse.specs.Lists.{AreListed}
use Rattle.mlir_parse.specs.SynTree.{Head, Operation, operation, Regions, no_regions, region_then, Operations, no_operations, operation_then}
use Rattle.mlir_parse.specs.OperationGrammar.{IsArgument, AreArguments, IsLabel, IsFront, IsBack, IsRegion, IsOperation, AreRegions, AreMoreRegions, AreOperations, region_count}
use Rattle.mlir_resolve.specs.Laid.{entry_pair}
use Rattle.round_trip.specs.Printable.{AreBytes}
use Rattle.round_trip.proofs.Sound.{IsSoundTy, AreSoundTys, AreSoundEntries}
use Rattle.round_trip.proofs.SpelledTypes.{mark_text}
use Rattle.round_trip.proofs.SpelledAttributes.{Fine, at_same}
use Rattle.round_trip.proofs.SpelledOperations.{opened, same_place, listed_fine, value_text, location_text, results_text, name_fine, operands_fine}
use Rattle.round_trip.proofs.SoundTypes.{AreReady, ty_sound}
use Rattle.round_trip.proofs.SoundOperations.{properties_fine, attributes_fine, operand_types_fine, result_types_fine}
use Rattle.round_trip.proofs.SoundRows.{IsSoundHead, AreSoundArguments, IsSoundOperation, AreSoundRegions, AreSoundOperations}

module _ (aliases : List Alias) (ready : AreReady aliases) where
  -- ---- arguments

  argument_fine : (room : ℕ) (x : SynArg) (s r : Place) → IsUtf8 s.bytes → IsArgument aliases room s x r → Fine (IsSoundTy x.ty) s r
  argument_fine room x s r utf8 (s1, s2, s3, at, name, colon, type, location) =
      let e0 = mark_text k.Colon s1 s2 colon ∙ value_text x.name s s1 name in
      let (fine, e1) = ty_sound aliases ready room x.ty s2 s3 (at_same s s2 e0 utf8) type in
      (fine, location_text room s3 r location ∙ e1 ∙ e0)

  types_of : (xs : List SynArg) → AllByRecursion (λ x. IsSoundTy x.ty) xs → AreSoundArguments xs
  types_of [] h = tt
  types_of (x ∷ xs) h = (h.0, types_of xs h.1)

  none_fine : (xs : List SynArg) → xs ≡ [] → AreSoundArguments xs
  none_fine xs none = subst AreSoundArguments (sym none) tt

  arguments_fine : (room : ℕ) (xs : List SynArg) (s r : Place) → IsUtf8 s.bytes → AreArguments aliases room s xs r → Fine (AreSoundArguments xs) s r
  arguments_fine room xs s r utf8 (inl (paren, none, same)) = (none_fine xs none, same_place s r same)
  arguments_fine room xs s r utf8 (inr h) =
      let o = opened k.LeftParen k.RightParen (λ inner u v. AreListed (IsArgument aliases inner) u xs v × (length xs ≤ max_parts)) room s r h in
      let e0 = mark_text k.LeftParen s o.from o.left in
      let (fine, e1) = listed_fine (IsArgument aliases o.inner) (λ x. IsSoundTy x.ty) (argument_fine o.inner) xs o.from o.to (at_same s o.from e0 utf8) o.inside.0 in
      (types_of xs fine, mark_text k.RightParen o.to r o.right ∙ e1 ∙ e0)

  label_fine : (room : ℕ) (xs : List SynArg) (s r : Place) → IsUtf8 s.bytes → IsLabel aliases room s xs r → Fine (AreSoundArguments xs) s r
  label_fine room xs s r utf8 (inl (label, none, same)) = (none_fine xs none, same_place s r same)
  label_fine room xs s r utf8 (inr (s1, s2, label, args, colon)) =
      let e0 = mark_text k.Label s s1 label in
      let (fine, e1) = arguments_fine room xs s1 s2 (at_same s s1 e0 utf8) args in
      (fine, mark_text k.Colon s2 r colon ∙ e1 ∙ e0)

  -- ---- operations

  front_fine : (room : ℕ) (h : Head) (s r : Place) → IsUtf8 s.bytes → IsFront aliases room h s r → Fine ((AreBytes h.name × (0 < length h.name)) × AreSoundEntries (entries (map entry_pair h.props))) s r
  front_fine room h s r utf8 f =
      let e0 = results_text h.results s f.behind_results utf8 f.results in
      let (name, e1) = name_fine h.at h.name f.behind_results f.behind_name (at_same s f.behind_results e0 utf8) f.name in
      let (one, e2) = operands_fine room h.operands f.behind_name f.behind_operands (at_same s f.behind_name (e1 ∙ e0) utf8) f.operands in
      let (props, e3) = properties_fine aliases ready room h.props f.behind_operands r (at_same s f.behind_operands (e2 ∙ e1 ∙ e0) utf8) f.properties in
      ((name, props), e3 ∙ e2 ∙ e1 ∙ e0)

  back_fine : (room : ℕ) (h : Head) (s r : Place) → IsUtf8 s.bytes → IsBack aliases room h s r
      → Fine (AreSoundEntries (entries (map entry_pair h.attrs)) × AllByRecursion IsSoundTy h.operand_types × AreSoundTys (tys h.result_types)) s r
  back_fine room h s r utf8 b =
      let (attrs, e0) = attributes_fine aliases ready room h.attrs s b.behind_attributes utf8 b.attributes in
      let e1 = mark_text k.Colon b.behind_attributes b.types b.colon in
      let (from, e2) = operand_types_fine aliases ready room h.operand_types b.types b.behind_from (at_same s b.types (e1 ∙ e0) utf8) b.operand_types in
      let e3 = mark_text k.Arrow b.behind_from b.to b.arrow in
      let (to, e4) = result_types_fine aliases ready room h.result_types b.to b.behind_to (at_same s b.to (e3 ∙ e2 ∙ e1 ∙ e0) utf8) b.result_types in
      ((attrs, from, to), location_text room b.behind_to r b.location ∙ e4 ∙ e3 ∙ e2 ∙ e1 ∙ e0)

  region_fine : (room : ℕ) (xs : List SynArg) (os : Operations) (s r : Place) → IsUtf8 s.bytes → ((inner : ℕ) (u v : Place) → IsUtf8 u.bytes → AreOperations aliases inner u os v → Fine (AreSoundOperations os) u v)
      → IsRegion aliases (λ deep x y. AreOperations aliases deep x os y) room s xs r → Fine (AreSoundArguments xs × AreSoundOperations os) s r
  region_fine room xs os s r utf8 go h =
      let o = opened k.LeftBrace k.RightBrace (λ inner u v. (m : Place) × IsLabel aliases inner u xs m × AreOperations aliases inner m os v) room s r h in
      let e0 = mark_text k.LeftBrace s o.from o.left in
      let (m, label, ops) = o.inside in
      let (args, e1) = label_fine o.inner xs o.from m (at_same s o.from e0 utf8) label in
      let (inside, e2) = go o.inner m o.to (at_same s m (e1 ∙ e0) utf8) ops in
      ((args, inside), mark_text k.RightBrace o.to r o.right ∙ e2 ∙ e1 ∙ e0)

  whole_head : (h : Head) → (AreBytes h.name × (0 < length h.name)) × AreSoundEntries (entries (map entry_pair h.props)) → AreSoundEntries (entries (map entry_pair h.attrs)) × AllByRecursion IsSoundTy h.operand_types × AreSoundTys (tys h.result_types) → IsSoundHead h
  whole_head h front back = record { name = front.0.0; named = front.0.1; operand_types = back.1; result_types = back.2; props = front.1; attrs = back.0 }

  mutual
    pub operation_sound : (room : ℕ) (o : Operation) (s r : Place) → IsUtf8 s.bytes → IsOperation aliases room s o r → Fine (IsSoundOperation o) s r
    operation_sound room (operation h rs) s r utf8 (s1, s2, front, regions, back) =
        let (front_is, e0) = front_fine room h s s1 utf8 front in
        let (inside, e1) = regions_sound room rs s1 s2 (at_same s s1 e0 utf8) regions in
        let (back_is, e2) = back_fine room h s2 r (at_same s s2 (e1 ∙ e0) utf8) back in
        ((whole_head h front_is back_is, inside), e2 ∙ e1 ∙ e0)

    regions_sound : (room : ℕ) (rs : Regions) (s r : Place) → IsUtf8 s.bytes → AreRegions aliases room s rs r → Fine (AreSoundRegions rs) s r
    regions_sound room no_regions s r utf8 h = (tt, same_place s r h.1)
    regions_sound room (region_then xs os rs) s r utf8 h =
        let o = opened k.LeftParen k.RightParen (λ inner u v. (m : Place) × IsRegion aliases (λ deep x y. AreOperations aliases deep x os y) inner u xs m × AreMoreRegions aliases inner m rs v × (region_count (region_then xs os rs) ≤ max_parts)) room s r h in
        let e0 = mark_text k.LeftParen s o.from o.left in
        let (m, first, more, count) = o.inside in
        let (one, e1) = region_fine o.inner xs os o.from m (at_same s o.from e0 utf8) (λ inner u v utf8 h. operations_sound inner os u v utf8 h) first in
        let (rest, e2) = more_regions o.inner rs m o.to (at_same s m (e1 ∙ e0) utf8) more in
        ((one.0, one.1, rest), mark_text k.RightParen o.to r o.right ∙ e2 ∙ e1 ∙ e0)

    more_regions : (room : ℕ) (rs : Regions) (s r : Place) → IsUtf8 s.bytes → AreMoreRegions aliases room s rs r → Fine (AreSoundRegions rs) s r
    more_regions room no_regions s r utf8 h = (tt, same_place s r h.1)
    more_regions room (region_then xs os rs) s r utf8 (s1, s2, comma, first, more) =
        let e0 = mark_text k.Comma s s1 comma in
        let (one, e1) = region_fine room xs os s1 s2 (at_same s s1 e0 utf8) (λ deep u v utf8 h. operations_sound deep os u v utf8 h) first in
        let (rest, e2) = more_regions room rs s2 r (at_same s s2 (e1 ∙ e0) utf8) more in
        ((one.0, one.1, rest), e2 ∙ e1 ∙ e0)

    operations_sound : (room : ℕ) (os : Operations) (s r : Place) → IsUtf8 s.bytes → AreOperations aliases room s os r → Fine (AreSoundOperations os) s r
    operations_sound room no_operations s r utf8 h = (tt, same_place s r h)
    operations_sound room (operation_then o os) s r utf8 (s1, first, more) =
        let (one, e0) = operation_sound room o s s1 utf8 first in
        let (rest, e1) = operations_sound room os s1 r (at_same s s1 e0 utf8) more in
        ((one, rest), e1 ∙ e0)
