-- The parts of an operation that a text spells are sound, whatever aliases stand in them.
use Rattle.std.proofs.Common.{◌≡◌, ℕ, ◌≤◌, List, [], ◌∷◌, length, map, ap, sym, subst, ◌∙◌, inl, inr}
use Rattle.std.specs.Prelude.{IsUtf8}
use Rattle.std.specs.List.{AllByRecursion}
use Rattle.std.specs.Ordering.{match_ordering}
use Rattle.std.specs.declared.cmp.Ordering.{Ordering}
use Rattle.std.specs.declared.cmp.Ordering.TheVariants.{Less, Equal, Greater}
use Rattle.std.specs.BTreeMap.{insert_entry}
use Rattle.mlir_lexer.specs.declared.token.TokenKind.TheVariants as k
use Rattle.mlir_tree.specs.Tree.{Ty, tys, Attr, entries}
use Rattle.mlir_tree.specs.Order.{text_cmp}
use Rattle.mlir_parse.specs.declared.syn.SynEntry.{SynEntry}
use Rattle.mlir_attributes.specs.Place.{Place}
use Rattle.mlir_attributes.specs.TypeGrammar.{IsTy}
use Rattle.mlir_attributes.specs.Steps.{max_parts}
use Rattle.mlir_parse.specs.Entries.{Placed, put_placed, syn_entry}
use Rattle.mlir_parse.specs.Lists.{AreListed}
use Rattle.mlir_parse.specs.OperationGrammar.{Fills, IsResultType, IsEntryAt, IsDictionary, AreAttributes, AreProperties, AreOperandTypes, IsOneResultType, AreResultTypes}
use Rattle.mlir_resolve.specs.Laid.{entry_pair}
use Rattle.round_trip.specs.Printable.{AreBytes}
use Rattle.mlir_attributes.specs.declared.aliases.Alias.{Alias}
use Rattle.round_trip.proofs.SpelledTypes.{mark_text}
use Rattle.round_trip.proofs.Sound.{IsSoundTy, AreSoundTys, IsSoundAttr, AreSoundEntries}
use Rattle.round_trip.proofs.SoundTypes.{AreReady, plain_sound, ty_sound}
use Rattle.round_trip.proofs.SpelledOperations.{opened, same_place, listed_fine}
use Rattle.round_trip.proofs.SpelledAttributes.{Fine, at_same, entry_name_fine}
use Rattle.round_trip.proofs.SoundAttributes.{attr_sound}

module _ (aliases : List Alias) (ready : AreReady aliases) where
  -- ---- dictionaries

  abbrev IsPlacedFine : Placed → Type 0
  IsPlacedFine e = AreBytes e.0 × IsSoundAttr e.1.1

  abbrev IsEntryFine : SynEntry → Type 0
  IsEntryFine e = AreBytes e.name × IsSoundAttr e.value

  put_by : (n : List ℕ) (v : ℕ × Attr) (d : Placed) (ds more : List Placed) (o : Ordering) → AreBytes n × IsSoundAttr v.1 → AllByRecursion IsPlacedFine (d ∷ ds) → AllByRecursion IsPlacedFine more
      → AllByRecursion IsPlacedFine (match_ordering o ((n, v) ∷ d ∷ ds) ((d.0, v) ∷ ds) (d ∷ more))
  put_by n v d ds more Less new old rest = (new, old)
  put_by n v d ds more Equal new old rest = ((old.0.0, new.1), old.1)
  put_by n v d ds more Greater new old rest = (old.0, rest)

  put_fine : (n : List ℕ) (v : ℕ × Attr) (ds : List Placed) → AreBytes n × IsSoundAttr v.1 → AllByRecursion IsPlacedFine ds → AllByRecursion IsPlacedFine (insert_entry text_cmp ds n v)
  put_fine n v [] new old = (new, tt)
  put_fine n v (d ∷ ds) new old = put_by n v d ds (insert_entry text_cmp ds n v) (text_cmp n d.0) new old (put_fine n v ds new old.1)

  placed_fine : (found : List Placed) → AllByRecursion IsPlacedFine found → AllByRecursion IsEntryFine (map syn_entry found)
  placed_fine [] h = tt
  placed_fine (e ∷ es) h = (h.0, placed_fine es h.1)

  fills_fine : (found : List Placed) (es all : List SynEntry) → AllByRecursion IsPlacedFine found → AllByRecursion IsEntryFine es → Fills found es all → AllByRecursion IsEntryFine all
  fills_fine found [] all old new h = subst (AllByRecursion IsEntryFine) h (placed_fine found old)
  fills_fine found (e ∷ es) all old new h = fills_fine (put_placed e.name e.at e.value found) es all (put_fine e.name (e.at, e.value) found new.0 old) new.1 h.1

  entry_fine : (room : ℕ) (e : SynEntry) (s r : Place) → IsUtf8 s.bytes → IsEntryAt aliases room s e r → Fine (IsEntryFine e) s r
  entry_fine room e s r utf8 (m, at, name, inl (m1, equal, there)) =
      let (fine, e0) = entry_name_fine e.name s m utf8 name in
      let e1 = mark_text k.Equal m m1 equal in
      let (value, e2) = attr_sound aliases ready room e.value m1 r (at_same s m1 (e1 ∙ e0) utf8) there in
      ((fine, value), e2 ∙ e1 ∙ e0)
  entry_fine room e s r utf8 (m, at, name, inr (none, same, is)) =
      let (fine, e0) = entry_name_fine e.name s m utf8 name in
      ((fine, subst IsSoundAttr is tt), same_place m r same ∙ e0)

  pairs_fine : (es : List SynEntry) → AllByRecursion IsEntryFine es → AreSoundEntries (entries (map entry_pair es))
  pairs_fine [] h = tt
  pairs_fine (e ∷ es) h = (h.0.0, h.0.1, pairs_fine es h.1)

  pub dictionary_fine : (room : ℕ) (es : List SynEntry) (s r : Place) → IsUtf8 s.bytes → IsDictionary aliases room s es r → Fine (AreSoundEntries (entries (map entry_pair es))) s r
  dictionary_fine room es s r utf8 h =
      let o = opened k.LeftBrace k.RightBrace (λ inner u v. (written : List SynEntry) × AreListed (IsEntryAt aliases inner) u written v × Fills [] written es) room s r h in
      let e0 = mark_text k.LeftBrace s o.from o.left in
      let (written, list, fills) = o.inside in
      let (fine, e1) = listed_fine (IsEntryAt aliases o.inner) IsEntryFine (entry_fine o.inner) written o.from o.to (at_same s o.from e0 utf8) list in
      (pairs_fine es (fills_fine [] written es tt fine fills), mark_text k.RightBrace o.to r o.right ∙ e1 ∙ e0)

  no_entries : (es : List SynEntry) → es ≡ [] → AreSoundEntries (entries (map entry_pair es))
  no_entries es none = subst (λ x. AreSoundEntries (entries (map entry_pair x))) (sym none) tt

  pub attributes_fine : (room : ℕ) (es : List SynEntry) (s r : Place) → IsUtf8 s.bytes → AreAttributes aliases room s es r → Fine (AreSoundEntries (entries (map entry_pair es))) s r
  attributes_fine room es s r utf8 (inl (brace, none, same)) = (no_entries es none, same_place s r same)
  attributes_fine room es s r utf8 (inr h) = dictionary_fine room es s r utf8 h

  pub properties_fine : (room : ℕ) (es : List SynEntry) (s r : Place) → IsUtf8 s.bytes → AreProperties aliases room s es r → Fine (AreSoundEntries (entries (map entry_pair es))) s r
  properties_fine room es s r utf8 (inl (angle, none, same)) = (no_entries es none, same_place s r same)
  properties_fine room es s r utf8 (inr h) =
      let o = opened k.Less k.Greater (λ inner u v. IsDictionary aliases inner u es v) room s r h in
      let e0 = mark_text k.Less s o.from o.left in
      let (fine, e1) = dictionary_fine o.inner es o.from o.to (at_same s o.from e0 utf8) o.inside in
      (fine, mark_text k.Greater o.to r o.right ∙ e1 ∙ e0)

  -- ---- the function type

  pub operand_types_fine : (room : ℕ) (ts : List Ty) (s r : Place) → IsUtf8 s.bytes → AreOperandTypes aliases room s ts r → Fine (AllByRecursion IsSoundTy ts) s r
  operand_types_fine room ts s r utf8 h =
      let o = opened k.LeftParen k.RightParen (λ inner u v. AreListed (IsTy aliases inner) u ts v) room s r h in
      let e0 = mark_text k.LeftParen s o.from o.left in
      let (fine, e1) = listed_fine (IsTy aliases o.inner) IsSoundTy (ty_sound aliases ready o.inner) ts o.from o.to (at_same s o.from e0 utf8) o.inside in
      (fine, mark_text k.RightParen o.to r o.right ∙ e1 ∙ e0)

  result_type_fine : (room : ℕ) (t : Ty) (s r : Place) → IsUtf8 s.bytes → IsResultType (IsTy aliases room) s t r → Fine (IsSoundTy t) s r
  result_type_fine room t s r utf8 (s1, (few, slot), type) =
      let e0 : s1.bytes ≡ s.bytes = ap (λ (p : Place). p.bytes) (sym slot) in
      let (fine, e1) = ty_sound aliases ready room t s1 r (at_same s s1 e0 utf8) type in
      (fine, e1 ∙ e0)

  pub all_types : (ts : List Ty) → AllByRecursion IsSoundTy ts → AreSoundTys (tys ts)
  all_types [] h = tt
  all_types (t ∷ ts) h = (h.0, all_types ts h.1)

  one_result_fine : (room : ℕ) (ts : List Ty) (s r : Place) → IsUtf8 s.bytes → IsOneResultType aliases room s ts r → Fine (AreSoundTys (tys ts)) s r
  one_result_fine room [] s r utf8 h = absurd h
  one_result_fine room (t ∷ []) s r utf8 (s1, (few, slot), type) =
      let e0 : s1.bytes ≡ s.bytes = ap (λ (p : Place). p.bytes) (sym slot) in
      let (fine, e1) = plain_sound aliases ready room t s1 r (at_same s s1 e0 utf8) type in
      ((fine, tt), e1 ∙ e0)
  one_result_fine room (t ∷ (u ∷ us)) s r utf8 h = absurd h

  pub result_types_fine : (room : ℕ) (ts : List Ty) (s r : Place) → IsUtf8 s.bytes → AreResultTypes aliases room s ts r → Fine (AreSoundTys (tys ts)) s r
  result_types_fine room ts s r utf8 (inl h) = one_result_fine room ts s r utf8 h
  result_types_fine room ts s r utf8 (inr h) =
      let o = opened k.LeftParen k.RightParen (λ inner u v. AreListed (IsResultType (IsTy aliases inner)) u ts v × (length ts ≤ max_parts)) room s r h in
      let e0 = mark_text k.LeftParen s o.from o.left in
      let (fine, e1) = listed_fine (IsResultType (IsTy aliases o.inner)) IsSoundTy (result_type_fine o.inner) ts o.from o.to (at_same s o.from e0 utf8) o.inside.0 in
      (all_types ts fine, mark_text k.RightParen o.to r o.right ∙ e1 ∙ e0)
