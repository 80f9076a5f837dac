-- Dictionaries, function types, locations and regions that are read are spelled so.
use Rattle.std.proofs.Common.{◌≡◌, ℕ, zero, suc, ◌-◌, Bool, true, false, cond, List, [], ◌∷◌, refl, sym, subst, ◌∙◌, inl, inr, Result, Ok, Err}
use Rattle.std.specs.Prelude.{map, codes}
use Rattle.std.specs.Str.{bytes_eq}
use Rattle.std.proofs.lemmas.Slice.Eq.{bytes_eq-Decides}
use Rattle.std.proofs.lemmas.Bool.{and_parts}
use Rattle.mlir_lexer.specs.declared.body.BodyFault.{BodyFault}
use Rattle.mlir_lexer.specs.declared.body.BodyFault.TheVariants as bodies
use Rattle.mlir_lexer.specs.declared.token.TokenKind.TheVariants as k
use Rattle.mlir_attributes.specs.declared.fault.ModKind.TheVariants as faults
use Rattle.mlir_attributes.specs.declared.aliases.Alias.{Alias}
use Rattle.mlir_parse.specs.declared.syn.SynEntry.{SynEntry}
use Rattle.mlir_attributes.specs.Place.{Place, moved, left, kind, sees, start, spelling, next}
use Rattle.mlir_attributes.specs.Input.{Parser, after, eat, fail_at, pure, take_token, ◌>>=◌, ◌>>◌}
use Rattle.mlir_attributes.specs.Attributes.{attr, entry_name, entry_value}
use Rattle.mlir_attributes.specs.Grammar.{IsSpelled}
use Rattle.mlir_attributes.specs.AttributeGrammar.{AreMore, IsEntryName, IsAttr}
use Rattle.mlir_parse.specs.Lists.{AreListed}
use Rattle.mlir_attributes.specs.Steps as steps
use Rattle.mlir_attributes.specs.Steps.{opening, bracketed, listed, balanced}
use Rattle.mlir_parse.specs.Entries.{Placed, is_placed, put_placed, syn_entry, placed_entries, all_placed_entries, dictionary, dictionary_inside, maybe_dictionary, maybe_properties}
use Rattle.mlir_parse.specs.OperationGrammar.{IsLocation, IsMaybeLocation, IsEntryAt, Fills, IsDictionary, AreAttributes, AreProperties}
use Rattle.mlir_attributes.proofs.BracketEnds.{balanced_within}
use Rattle.mlir_attributes.proofs.Tokens.{bind_ok, same_ok, IsWithin, taken, not_seen, eaten, left_alone, spelled_text, spelled_sees}
use Rattle.mlir_attributes.proofs.TypesSound.{Finds}
use Rattle.mlir_attributes.proofs.AttrsSound.{attr_sound, name_sound, value_sound as behind_sound}
use Rattle.mlir_parse.proofs.ListsSound.{opening_sound, bracketed_sound}

-- ---- locations

location_by : (room : ℕ) (s m r : Place) (u : Unit {0}) (o : Result ℕ BodyFault) → balanced (left m) m.bytes room 1 m.at ≡ o → steps.location_by m o ≡ Ok (u, r) → (end : ℕ) × (balanced (left m) m.bytes room 1 m.at ≡ Ok end) × (moved m end ≡ r)
location_by room s m r u (Ok end) is h = (end, is, (same_ok h).1)
location_by room s m r u (Err e) is h = absurd (cc)

-- what `loc` says
pub loc_word : (s : Place) → steps.sees_loc s ≡ true → (sees k.Word s ≡ true) × (spelling s ≡ codes "loc")
unfolding steps.sees_loc
loc_word s h =
    let parts = and_parts (sees k.Word s) (bytes_eq (spelling s) (codes "loc")) h in
    (parts.0, (bytes_eq-Decides (spelling s) (codes "loc")).0 parts.1)

no_loc : (s : Place) → steps.sees_loc s ≡ false → (m : Place) → ¬ IsSpelled k.Word (codes "loc") s m
unfolding steps.sees_loc
no_loc s is m h =
    let same = spelled_text k.Word (codes "loc") s m h in
    let seen = spelled_sees k.Word (codes "loc") s m h in
    let yes : bytes_eq (spelling s) (codes "loc") ≡ true = (bytes_eq-Decides (spelling s) (codes "loc")).1 same in
    absurd (cc)

pub location_sound : (room : ℕ) (s m r : Place) (u : Unit {0}) → IsSpelled k.Word (codes "loc") s m → IsWithin m → steps.location room m ≡ Ok (u, r) → IsLocation room s r × IsWithin r
unfolding steps.location steps.location_text
location_sound room s m r u named within h =
    let o = bind_ok (opening k.LeftParen room m) _ u r h in
    let opens = opening_sound k.LeftParen room m o.1 o.0 within o.2 in
    let (end, is, rest) = location_by room s o.1 r u (balanced (left o.1) o.1.bytes room 1 o.1.at) refl o.3 in (
      record { behind = m; inside = o.1; is_word = named; opens = opens.1; some = opens.0; end = end; ends = is; rest = rest },
      subst IsWithin rest (balanced_within o.1.bytes room (left o.1) end 1 o.1.at opens.2 is),
    )

location_go : (room : ℕ) (s r : Place) (u : Unit {0}) (b : Bool) → steps.sees_loc s ≡ b → IsWithin s → (cond b (take_token >> steps.location room) (pure tt)) s ≡ Ok (u, r) → IsMaybeLocation room s r × IsWithin r
location_go room s r u true is within h =
    let facts = loc_word s is in
    let first = taken k.Word s within facts.0 in
    let found = location_sound room s (next s) r u (subst (λ t. IsSpelled k.Word t s (next s)) facts.1 first.0) first.1 h in
    (inr found.0, found.1)
location_go room s r u false is within h =
    let same = same_ok h in
    (inl (no_loc s is, same.1), subst IsWithin same.1 within)

pub maybe_location_sound : (room : ℕ) (s r : Place) (u : Unit {0}) → IsWithin s → steps.maybe_location room s ≡ Ok (u, r) → IsMaybeLocation room s r × IsWithin r
unfolding steps.maybe_location
maybe_location_sound room s r u within h = location_go room s r u (steps.sees_loc s) refl within h

module _ (aliases : List Alias) where
  -- ---- dictionaries

  module _ (room : ℕ) where
    abbrev Adds : Place → List Placed → List SynEntry → Place → Type 0
    Adds s found all r =
        (e : SynEntry) × (es : List SynEntry) × (s1 : Place) × Fills found (e ∷ es) all × IsEntryAt aliases room s e s1 × AreMore k.Comma (IsEntryAt aliases room) s1 es r × IsWithin r

    more_go : (n : ℕ) → ((found : List Placed) (all : List SynEntry) (s r : Place) → IsWithin s → placed_entries (attr aliases room) n found s ≡ Ok (all, r) → Adds s found all r)
        → (found : List Placed) (all : List SynEntry) (s s1 r : Place) (e : SynEntry) → is_placed e.name found ≡ false → IsEntryAt aliases room s e s1 → IsWithin s1 → (b : Bool) → sees k.Comma s1 ≡ b
        → (cond b (placed_entries (attr aliases room) n (put_placed e.name e.at e.value found)) (pure (map syn_entry (put_placed e.name e.at e.value found)))) (after k.Comma s1) ≡ Ok (all, r) → Adds s found all r
    more_go n go found all s s1 r e new h within true c p =
        let comma = eaten k.Comma s1 within c in
        let (d, es, m, fills, first, more, inside) = go (put_placed e.name e.at e.value found) all (after k.Comma s1) r comma.1 p in
        (e, d ∷ es, s1, (new, fills), h, (after k.Comma s1, m, comma.0, first, more), inside)
    more_go n go found all s s1 r e new h within false c p =
        let end = same_ok p in
        let same : s1 ≡ r = sym (left_alone k.Comma s1 c) ∙ end.1 in
        (e, [], s1, (new, end.0), h, (not_seen k.Comma s1 c, same), subst IsWithin same within)

    entry_go : (n : ℕ) → ((found : List Placed) (all : List SynEntry) (s r : Place) → IsWithin s → placed_entries (attr aliases room) n found s ≡ Ok (all, r) → Adds s found all r)
        → (found : List Placed) (all : List SynEntry) (s m r : Place) (name : List ℕ) → IsEntryName s name m → IsWithin m → (b : Bool) → is_placed name found ≡ b
        → (cond {A = Parser (List SynEntry)} b (fail_at faults.DictTwice (start s)) (entry_value (attr aliases room) >>= (λ x. eat k.Comma >>= (λ more. cond more (placed_entries (attr aliases room) n (put_placed name (start s) x found)) (pure (map syn_entry (put_placed name (start s) x found))))))) m ≡ Ok (all, r)
        → Adds s found all r
    entry_go n go found all s m r name named within true new p = absurd (cc)
    entry_go n go found all s m r name named within false new p =
        let one = bind_ok (entry_value (attr aliases room) m) _ all r p in
        let value = behind_sound aliases (IsAttr aliases room) (attr aliases room) (attr_sound aliases room) m one.1 one.0 within one.2 in
        more_go n go found all s one.1 r (record { at = start s; name = name; value = one.0 }) new (m, refl, named, value.0) value.1 (sees k.Comma one.1) refl one.3

    placed_sound : (n : ℕ) (found : List Placed) (all : List SynEntry) (s r : Place) → IsWithin s → placed_entries (attr aliases room) n found s ≡ Ok (all, r) → Adds s found all r
    unfolding placed_entries
    placed_sound zero found all s r within p = absurd (cc)
    placed_sound (suc n) found all s r within p =
        let one = bind_ok (entry_name s) _ all r p in
        let name = name_sound aliases (IsAttr aliases room) (attr aliases room) (attr_sound aliases room) s one.1 one.0 (kind s) within refl one.2 in
        entry_go n (placed_sound n) found all s one.1 r one.0 name.0 name.1 (is_placed one.0 found) refl one.3

    abbrev IsInside : Place → List SynEntry → Place → Type 0
    IsInside u all v = (written : List SynEntry) × AreListed (IsEntryAt aliases room) u written v × Fills [] written all

    inside_by : (s r : Place) (all : List SynEntry) (b : Bool) → IsWithin s → (cond b (pure []) (all_placed_entries (attr aliases room))) s ≡ Ok (all, r) → IsInside s all r × IsWithin r
    inside_by s r all true within p = let same = same_ok p in (([], same.1, same.0), subst IsWithin same.1 within)
    inside_by s r all false within p =
        let (e, es, m, fills, first, more, inside) = placed_sound (left s) [] all s r within p in
        ((e ∷ es, (m, first, more), fills), inside)

    inside_sound : Finds IsInside (dictionary_inside aliases room)
    unfolding listed
    inside_sound s r all within p = inside_by s r all (sees k.RightBrace s) within p

  pub dictionary_sound : (room : ℕ) → Finds (IsDictionary aliases room) (dictionary aliases room)
  unfolding dictionary
  dictionary_sound room = bracketed_sound k.LeftBrace k.RightBrace (dictionary_inside aliases) IsInside inside_sound room

  attributes_by : (room : ℕ) (s r : Place) (all : List SynEntry) (b : Bool) → sees k.LeftBrace s ≡ b → IsWithin s → (cond b (dictionary aliases room) (pure [])) s ≡ Ok (all, r) → AreAttributes aliases room s all r × IsWithin r
  attributes_by room s r all true is within p = let found = dictionary_sound room s r all within p in (inr found.0, found.1)
  attributes_by room s r all false is within p = let same = same_ok p in (inl (not_seen k.LeftBrace s is, sym same.0, same.1), subst IsWithin same.1 within)

  pub attributes_sound : (room : ℕ) → Finds (AreAttributes aliases room) (maybe_dictionary aliases room)
  unfolding maybe_dictionary
  attributes_sound room s r all within p = attributes_by room s r all (sees k.LeftBrace s) refl within p

  properties_by : (room : ℕ) (s r : Place) (all : List SynEntry) (b : Bool) → sees k.Less s ≡ b → IsWithin s → (cond b (bracketed k.Less k.Greater (dictionary aliases) room) (pure [])) s ≡ Ok (all, r) → AreProperties aliases room s all r × IsWithin r
  properties_by room s r all true is within p = let found = bracketed_sound k.Less k.Greater (dictionary aliases) (IsDictionary aliases) dictionary_sound room s r all within p in (inr found.0, found.1)
  properties_by room s r all false is within p = let same = same_ok p in (inl (not_seen k.Less s is, sym same.0, same.1), subst IsWithin same.1 within)

  pub properties_sound : (room : ℕ) → Finds (AreProperties aliases room) (maybe_properties aliases room)
  unfolding maybe_properties
  properties_sound room s r all within p = properties_by room s r all (sees k.Less s) refl within p
