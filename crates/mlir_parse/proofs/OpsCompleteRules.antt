-- Locations and dictionaries that are spelled are read.
use Rattle.std.proofs.Common.{◌≡◌, ℕ, zero, suc, ◌+◌, ◌-◌, ◌<◌, ◌≤◌, Bool, true, false, cond, List, [], ◌∷◌, length, refl, ap, sym, subst, ◌∙◌, inl, inr, Result, Ok, Err, arith}
use Rattle.std.specs.Prelude.{◌==◌, ◌&&◌, nat_le, map, drop, slice_index, Option, Some, None, codes}
use Rattle.std.specs.Str.{bytes_eq}
use Rattle.std.specs.Option.{option_map_or}
use Rattle.std.proofs.lemmas.Slice.Eq.{bytes_eq-Decides}
use Rattle.std.proofs.lemmas.Bool.Decides.{nat_tests}
use Rattle.text_scan.specs.Strings.{string_end}
use Rattle.text_scan.proofs.StringLaws.{string_found}
use Rattle.mlir_lexer.specs.declared.body.BodyFault.{BodyFault}
use Rattle.mlir_lexer.specs.declared.body.BodyFault.TheVariants as bodies
use Rattle.mlir_lexer.specs.declared.token.TokenKind.TheVariants as k
use Rattle.mlir_attributes.specs.declared.aliases.Alias.{Alias}
use Rattle.mlir_parse.specs.declared.syn.SynEntry.{SynEntry}
use Rattle.mlir_attributes.specs.Place.{Place, moved, left, sees, start, spelling, next}
use Rattle.mlir_attributes.specs.Types.{ty}
use Rattle.mlir_attributes.specs.Attributes.{attr, entry_name, entry_value}
use Rattle.mlir_attributes.specs.Grammar.{IsSpelled, IsMark}
use Rattle.mlir_attributes.specs.TypeGrammar.{IsTy}
use Rattle.mlir_attributes.specs.AttributeGrammar.{AreMore, IsEntryName, IsBehindName, IsAttr}
use Rattle.mlir_parse.specs.Lists.{AreListed, InBrackets}
use Rattle.mlir_attributes.specs.Steps as steps
use Rattle.mlir_attributes.specs.Steps.{max_parts, one_slot, bracketed, listed, counted_items, balanced}
use Rattle.mlir_parse.specs.Entries.{Placed, is_placed, put_placed, syn_entry, placed_entries, dictionary, dictionary_inside, maybe_dictionary, maybe_properties}
use Rattle.mlir_parse.specs.OperationGrammar.{IsLocation, IsMaybeLocation, IsEntryAt, Fills, IsDictionary, AreAttributes, AreProperties}
use Rattle.mlir_attributes.proofs.Tokens.{IsWithin, taken, spelled_within, spelled_sees, spelled_kind, spelled_text, spelled_next, spelled_shorter, unseen, after_at, eaten_is, kind_other}
use Rattle.mlir_attributes.proofs.TypesSound.{ty_sound}
use Rattle.mlir_attributes.proofs.AttrsSound.{attr_sound}
use Rattle.mlir_attributes.proofs.BracketEnds.{not_le}
use Rattle.mlir_parse.proofs.RulesSound.{location_sound}
use Rattle.mlir_attributes.proofs.TypesComplete.{ty_takes, ty_complete}
use Rattle.mlir_attributes.proofs.AttrsComplete.{attr_takes, attr_complete}
use Rattle.mlir_parse.proofs.OpsCompleteSteps.{Takes, Passes, TakesAll, PassesAll, passes, mark_moves, mark_within, in_brackets, bracket_opens}

-- ---- locations

or_end : ℕ → Result ℕ BodyFault → ℕ
or_end n (Ok m) = m
or_end n (Err e) = n

module _ (bytes : List ℕ) (room : ℕ) where
  behind_string : (n at end depth : ℕ) → ((depth at : ℕ) → at ≤ length bytes → balanced n bytes room depth at ≡ Ok end → at ≤ end) → at ≤ length bytes → (o : Option ℕ) → string_end at (drop at bytes) ≡ o
      → option_map_or (λ e. balanced n bytes room depth e) o (Err (bodies.BadString at)) ≡ Ok end → at ≤ end
  behind_string n at end depth go inside (Some e) is h = let found = string_found bytes at e inside is in omega (arith, found.in_order, go depth e found.within h)
  behind_string n at end depth go inside None is h = absurd (cc)

  balanced_by : (n at end depth : ℕ) → ((depth at : ℕ) → at ≤ length bytes → balanced n bytes room depth at ≡ Ok end → at ≤ end) → at ≤ length bytes
      → (a b c d e f : Bool) → nat_le (length bytes) at ≡ a
      → cond {A = Result ℕ BodyFault} a (Err (bodies.Unclosed (length bytes))) (cond b (option_map_or (λ e. balanced n bytes room depth e) (string_end at (drop at bytes)) (Err (bodies.BadString at)))
      (cond c (cond d (Err (bodies.TooDeep at)) (balanced n bytes room (depth + 1) (at + 1)))
      (cond e (cond f (Ok (at + 1)) (balanced n bytes room (depth - 1) (at + 1))) (balanced n bytes room depth (at + 1))))) ≡ Ok end → at ≤ end
  unfolding or_end
  balanced_by n at end depth go inside true b c d e f is h = absurd (cc)
  balanced_by n at end depth go inside false true c d e f is h = behind_string n at end depth go inside (string_end at (drop at bytes)) refl h
  balanced_by n at end depth go inside false false true true e f is h = absurd (cc)
  balanced_by n at end depth go inside false false true false e f is h = let below = not_le (length bytes) at is in omega (arith, go (depth + 1) (at + 1) (omega (arith, below)) h)
  balanced_by n at end depth go inside false false false d true true is h = let same : at + 1 ≡ end = ap (or_end 0) h in omega (arith, same)
  balanced_by n at end depth go inside false false false d true false is h = let below = not_le (length bytes) at is in omega (arith, go (depth - 1) (at + 1) (omega (arith, below)) h)
  balanced_by n at end depth go inside false false false d false f is h = let below = not_le (length bytes) at is in omega (arith, go depth (at + 1) (omega (arith, below)) h)

  balanced_moves : (n end depth at : ℕ) → at ≤ length bytes → balanced n bytes room depth at ≡ Ok end → at ≤ end
  unfolding balanced
  balanced_moves zero end depth at inside h = absurd (cc)
  balanced_moves (suc n) end depth at inside h =
      balanced_by n at end depth (balanced_moves n end) inside (nat_le (length bytes) at) (slice_index bytes at == 34) (slice_index bytes at == 40) (nat_le room depth) (slice_index bytes at == 41) (nat_le depth 1) refl h

pub location_reads : (room : ℕ) (s r : Place) → (h : IsLocation room s r) → steps.location room h.behind ≡ Ok (tt, r)
unfolding steps.location steps.opening steps.location_text
location_reads room s r h =
    let (text, opens) = h.opens in
    let some = h.some in
    let none : (room == 0) ≡ false = grind (arith, nat_tests) in
    rw (spelled_sees k.LeftParen text h.behind h.inside opens, none, spelled_next k.LeftParen text h.behind h.inside opens, h.ends) (λ i. Ok (tt, h.rest i))

pub location_moves : (room : ℕ) (s r : Place) → IsLocation room s r → left r < left s
location_moves room s r h =
    let (text, opens) = h.opens in
    let up = balanced_moves h.inside.bytes room (left h.inside) h.end 1 h.inside.at (spelled_within k.LeftParen text h.behind h.inside opens) h.ends in
    let same : left (moved h.inside h.end) ≡ left r = ap left h.rest in
    omega (arith, spelled_shorter k.Word (codes "loc") s h.behind (λ e. cc) h.is_word, spelled_shorter k.LeftParen text h.behind h.inside (λ e. cc) opens, up, same)

pub location_within : (room : ℕ) (s r : Place) → IsLocation room s r → IsWithin r
location_within room s r h = (location_sound room s h.behind r tt h.is_word (spelled_within k.Word (codes "loc") s h.behind h.is_word) (location_reads room s r h)).1

pub loc_seen : (s m : Place) → IsSpelled k.Word (codes "loc") s m → steps.sees_loc s ≡ true
unfolding steps.sees_loc
loc_seen s m h =
    let yes : bytes_eq (spelling s) (codes "loc") ≡ true = (bytes_eq-Decides (spelling s) (codes "loc")).1 (spelled_text k.Word (codes "loc") s m h) in
    rw (spelled_sees k.Word (codes "loc") s m h, yes) refl

loc_unseen : (s : Place) → IsWithin s → ((m : Place) → ¬ IsSpelled k.Word (codes "loc") s m) → steps.sees_loc s ≡ false
unfolding steps.sees_loc
loc_unseen s within none = by_test (sees k.Word s) (bytes_eq (spelling s) (codes "loc")) refl refl
  where
    by_test : (a b : Bool) → sees k.Word s ≡ a → bytes_eq (spelling s) (codes "loc") ≡ b → (a && b) ≡ false
    by_test false b is same = refl
    by_test true false is same = refl
    by_test true true is same = absurd (none (next s) (subst (λ t. IsSpelled k.Word t s (next s)) ((bytes_eq-Decides (spelling s) (codes "loc")).0 same) (taken k.Word s within is).0))

pub maybe_location_read : (room : ℕ) (s r : Place) → IsWithin s → IsMaybeLocation room s r → Passes (steps.maybe_location room) s tt r
unfolding steps.maybe_location
maybe_location_read room s r within (inl (none, same)) = record {
  reads = rw (loc_unseen s within none) (λ i. Ok (tt, same i));
  moves = omega (arith, ap left same);
  within = subst IsWithin same within;
}
maybe_location_read room s r within (inr h) = record {
  reads = rw (loc_seen s h.behind h.is_word, spelled_next k.Word (codes "loc") s h.behind h.is_word) (location_reads room s r h);
  moves = omega (arith, location_moves room s r h);
  within = location_within room s r h;
}

-- ---- names of entries

name_read : (name : List ℕ) (s m : Place) → IsEntryName s name m → (entry_name s ≡ Ok (name, m)) × IsWithin m × (sees k.RightBrace s ≡ false) × (left m < left s)
name_read name s m (inl spelled) =
    let is = spelled_kind k.Word name s m spelled in
    (rw (is, spelled_text k.Word name s m spelled, spelled_next k.Word name s m spelled) refl, spelled_within k.Word name s m spelled, kind_other k.Word k.RightBrace s is (λ e. cc), spelled_shorter k.Word name s m (λ e. cc) spelled)
name_read name s m (inr (text, spelled, same)) =
    let is = spelled_kind k.String text s m spelled in
    (rw (is, spelled_text k.String text s m spelled, spelled_next k.String text s m spelled, same) refl, spelled_within k.String text s m spelled, kind_other k.String k.RightBrace s is (λ e. cc), spelled_shorter k.String text s m (λ e. cc) spelled)

module _ (aliases : List Alias) where
  pub attr_read : (room : ℕ) → TakesAll (attr aliases room) (IsAttr aliases room)
  attr_read room s r x within h =
      let e = attr_complete aliases room s r x within h in
      record { reads = e; moves = attr_takes aliases room s r x h; within = (attr_sound aliases room s r x within e).1 }

  pub ty_read : (room : ℕ) → TakesAll (ty aliases room) (IsTy aliases room)
  ty_read room s r t within h =
      let e = ty_complete aliases room t s r h in
      record { reads = e; moves = ty_takes aliases room t s r h; within = (ty_sound aliases room s r t within e).1 }

  -- ---- dictionaries

  module _ (room : ℕ) where
    value_read : PassesAll (entry_value (attr aliases room)) (λ m x r. IsBehindName (IsAttr aliases room) m x r)
    unfolding entry_value
    value_read m r x within (inl (m1, (text, mark), is)) =
        let found = attr_read room m1 r x (spelled_within k.Equal text m m1 mark) is in
        record {
          reads = rw (spelled_sees k.Equal text m m1 mark, eaten_is k.Equal text m m1 mark) found.reads;
          moves = omega (arith, spelled_shorter k.Equal text m m1 (λ e. cc) mark, found.moves);
          within = found.within;
        }
    value_read m r x within (inr (alone, same, is)) =
        let other = unseen k.Equal m within alone in
        record { reads = rw (other, after_at k.Equal m false other, same, is) refl; moves = omega (arith, ap left same); within = subst IsWithin same within }

    placed_more : (n : ℕ) (found : List Placed) (e : SynEntry) (s m s1 s2 : Place) → e.at ≡ start s → entry_name s ≡ Ok (e.name, m) → is_placed e.name found ≡ false → entry_value (attr aliases room) m ≡ Ok (e.value, s1) → IsMark k.Comma s1 s2
        → placed_entries (attr aliases room) (suc n) found s ≡ placed_entries (attr aliases room) n (put_placed e.name e.at e.value found) s2
    unfolding placed_entries
    placed_more n found e s m s1 s2 at named new value (text, comma) =
        rw (named, new, value, spelled_sees k.Comma text s1 s2 comma, eaten_is k.Comma text s1 s2 comma) (λ i. placed_entries (attr aliases room) n (put_placed e.name (sym at i) e.value found) s2)

    placed_last : (n : ℕ) (found : List Placed) (e : SynEntry) (s m s1 : Place) → e.at ≡ start s → entry_name s ≡ Ok (e.name, m) → is_placed e.name found ≡ false → entry_value (attr aliases room) m ≡ Ok (e.value, s1) → sees k.Comma s1 ≡ false
        → placed_entries (attr aliases room) (suc n) found s ≡ Ok (map syn_entry (put_placed e.name e.at e.value found), s1)
    unfolding placed_entries
    placed_last n found e s m s1 at named new value other =
        rw (named, new, value, other, after_at k.Comma s1 false other) (λ i. Ok (map syn_entry (put_placed e.name (sym at i) e.value found), s1))

    entry_moves : (s r : Place) (e : SynEntry) → IsWithin s → IsEntryAt aliases room s e r → left r < left s
    entry_moves s r e within (m, at, named, value) =
        let (reads, inside, other, up) = name_read e.name s m named in
        omega (arith, up, (value_read m r e.value inside value).moves)

    placed_read : (es : List SynEntry) (n : ℕ) (found : List Placed) (all : List SynEntry) (e : SynEntry) (s s1 r : Place) → IsWithin s → IsEntryAt aliases room s e s1 → AreMore k.Comma (IsEntryAt aliases room) s1 es r → Fills found (e ∷ es) all → left s ≤ n
        → Takes (placed_entries (attr aliases room) n found) s all r
    placed_read es zero found all e s s1 r within one more fills fits = absurd (let up = entry_moves s s1 e within one in omega arith)
    placed_read [] (suc n) found all e s s1 r within (m, at, named, value) (alone, same) (new, is) fits =
        let (reads, inside, other, up) = name_read e.name s m named in
        let what = value_read m s1 e.value inside value in
        record {
          reads = placed_last n found e s m s1 at reads new what.reads (unseen k.Comma s1 what.within alone) ∙ (λ i. Ok (is i, same i));
          moves = omega (arith, up, what.moves, ap left same);
          within = subst IsWithin same what.within;
        }
    placed_read (d ∷ ds) (suc n) found all e s s1 r within (m, at, named, value) (s2, s3, comma, two, more) (new, fills) fits =
        let (reads, inside, other, up) = name_read e.name s m named in
        let what = value_read m s1 e.value inside value in
        let further = mark_moves k.Comma s1 s2 (λ e. cc) comma in
        let rest = placed_read ds n (put_placed e.name e.at e.value found) all d s2 s3 r (mark_within k.Comma s1 s2 comma) two more fills (omega (arith, up, what.moves, further)) in
        record { reads = placed_more n found e s m s1 s2 at reads new what.reads comma ∙ rest.reads; moves = omega (arith, up, what.moves, further, rest.moves); within = rest.within }

    no_entries : (s : Place) → sees k.RightBrace s ≡ true → dictionary_inside aliases room s ≡ Ok ([], s)
    unfolding listed
    no_entries s h = rw h refl

    some_entries : (s r : Place) (all : List SynEntry) → sees k.RightBrace s ≡ false → placed_entries (attr aliases room) (left s) [] s ≡ Ok (all, r) → dictionary_inside aliases room s ≡ Ok (all, r)
    unfolding listed
    some_entries s r all h e = rw h e

    inside_read : (written all : List SynEntry) (s r w : Place) → IsWithin s → AreListed (IsEntryAt aliases room) s written r → Fills [] written all → IsMark k.RightBrace r w → Passes (dictionary_inside aliases room) s all r
    inside_read [] all s r w within same is (text, closes) = record {
      reads = no_entries s (subst (λ u. sees k.RightBrace u ≡ true) (sym same) (spelled_sees k.RightBrace text r w closes)) ∙ (λ i. Ok (is i, same i));
      moves = omega (arith, ap left same);
      within = subst IsWithin same within;
    }
    inside_read (e ∷ es) all s r w within (s1, (m, at, named, value), more) fills closes =
        let (reads, inside, other, up) = name_read e.name s m named in
        let found = placed_read es (left s) [] all e s s1 r within (m, at, named, value) more fills (omega arith) in
        record { reads = some_entries s r all other found.reads; moves = omega (arith, found.moves); within = found.within }

  dictionary_read : (room : ℕ) → TakesAll (dictionary aliases room) (IsDictionary aliases room)
  unfolding dictionary
  dictionary_read room s r all within h =
      in_brackets k.LeftBrace k.RightBrace (dictionary_inside aliases) (λ d u v. (written : List SynEntry) × AreListed (IsEntryAt aliases d) u written v × Fills [] written all) all (λ e. cc) (λ e. cc) room
      (λ d u v w deep inside is closes. inside_read d is.0 all u v w inside is.1 is.2 closes) s r h

  pub attributes_read : (room : ℕ) → PassesAll (maybe_dictionary aliases room) (AreAttributes aliases room)
  unfolding maybe_dictionary
  attributes_read room s r es within (inl (alone, none, same)) =
      record { reads = rw (unseen k.LeftBrace s within alone) (λ i. Ok (sym none i, same i)); moves = omega (arith, ap left same); within = subst IsWithin same within }
  attributes_read room s r es within (inr h) =
      let (s1, (text, opens)) = bracket_opens k.LeftBrace k.RightBrace _ room s r h in
      let all = dictionary_read room s r es within h in
      record { reads = rw (spelled_sees k.LeftBrace text s s1 opens) all.reads; moves = omega (arith, all.moves); within = all.within }

  properties_some : (room : ℕ) → TakesAll (bracketed k.Less k.Greater (dictionary aliases) room) (λ s es r. InBrackets k.Less k.Greater (λ d u v. IsDictionary aliases d u es v) room s r)
  properties_some room s r es within h =
      in_brackets k.Less k.Greater (dictionary aliases) (λ d u v. IsDictionary aliases d u es v) es (λ e. cc) (λ e. cc) room (λ d u v w deep inside is closes. passes (dictionary_read d u v es inside is)) s r h

  pub properties_read : (room : ℕ) → PassesAll (maybe_properties aliases room) (AreProperties aliases room)
  unfolding maybe_properties
  properties_read room s r es within (inl (alone, none, same)) =
      record { reads = rw (unseen k.Less s within alone) (λ i. Ok (sym none i, same i)); moves = omega (arith, ap left same); within = subst IsWithin same within }
  properties_read room s r es within (inr h) =
      let (s1, (text, opens)) = bracket_opens k.Less k.Greater _ room s r h in
      let all = properties_some room s r es within h in
      record { reads = rw (spelled_sees k.Less text s s1 opens) all.reads; moves = omega (arith, all.moves); within = all.within }
