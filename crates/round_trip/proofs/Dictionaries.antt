-- The dictionaries of an operation are read back.
use Rattle.std.proofs.Common.{◌≡◌, ℕ, suc, ◌+◌, ◌<◌, ◌≤◌, List, [], ◌∷◌, ◌++◌, length, map, refl, ap, sym, subst, ◌∙◌, arith, append_assoc, append-nil, inl, inr}
use Rattle.std.specs.Prelude.{◌⊎◌, codes}
use Rattle.mlir_lexer.specs.declared.token.TokenKind.TheVariants as k
use Rattle.mlir_tree.specs.Tree.{Attr, entries}
use Rattle.mlir_tree.specs.Range.{AreRising}
use Rattle.mlir_tree.specs.WellFormed as rows
use Rattle.mlir_print.specs.Text.{is_unit, entry_by, attr_text, entries_text, more_entries_text}
use Rattle.mlir_print.specs.ModuleText.{properties_text, attributes_text}
use Rattle.mlir_parse.specs.declared.syn.SynEntry.{SynEntry}
use Rattle.mlir_attributes.specs.Place.{Place, moved, start}
use Rattle.mlir_attributes.specs.Grammar.{IsNot}
use Rattle.mlir_attributes.specs.Steps.{max_slots}
use Rattle.mlir_parse.specs.Entries.{Placed, syn_entry}
use Rattle.mlir_parse.specs.OperationGrammar.{Fills, IsEntryAt, IsDictionary, AreAttributes, AreProperties}
use Rattle.mlir_resolve.specs.Laid.{entry_pair}
use Rattle.round_trip.specs.Printable.{AreBytes, IsPrintableAttr, ArePrintableEntries}
use Rattle.round_trip.proofs.Places.{Faces, faces, space, marked}
use Rattle.round_trip.proofs.Ends.{Ends}
use Rattle.round_trip.proofs.Attributes.{attr_again, entry_again}
use Rattle.round_trip.proofs.Filling.{AreBelow, is_new, put_last, below_more}
use Rattle.round_trip.proofs.Parts.{Goes, Member, Fits, Facts, joined, weight, list_again, brace_closes}
use Rattle.round_trip.proofs.Nexts.{Next, is_tail, is_region, next_lacks}

-- ---- the entries are put in one behind another

abbrev syn_names : List SynEntry → List (List ℕ)
syn_names es = map (λ e. e.name) es

abbrev IsReady : List Placed → List SynEntry → Type 0
IsReady found [] = Unit {0}
IsReady found (e ∷ es) = AreBelow e.name found × AreRising (syn_names (e ∷ es))

next_ready : (found : List Placed) (e : SynEntry) (es : List SynEntry) → IsReady found (e ∷ es) → IsReady (found ++ (e.name, (e.at, e.value)) ∷ []) es
next_ready found e [] h = tt
next_ready found e (d ∷ es) h = (below_more e.name d.name (e.at, e.value) found h.0 h.1.0, h.1.1)

behind_found : (found : List Placed) (e : SynEntry) (es : List SynEntry) → map syn_entry (found ++ (e.name, (e.at, e.value)) ∷ []) ++ es ≡ map syn_entry found ++ e ∷ es
behind_found [] e es = refl
behind_found (d ∷ found) e es = ap (λ t. syn_entry d ∷ t) (behind_found found e es)

fills_from : (found : List Placed) (es : List SynEntry) → IsReady found es → Fills found es (map syn_entry found ++ es)
fills_from found [] h = sym (append-nil (map syn_entry found))
fills_from found (e ∷ es) h = (
  is_new e.name found h.0,
  subst (λ f. Fills f es (map syn_entry found ++ e ∷ es)) (sym (put_last e.name (e.at, e.value) found h.0))
      (subst (Fills (found ++ (e.name, (e.at, e.value)) ∷ []) es) (behind_found found e es) (fills_from (found ++ (e.name, (e.at, e.value)) ∷ []) es (next_ready found e es h))),
)

ready : (es : List SynEntry) → AreRising (syn_names es) → IsReady [] es
ready [] h = tt
ready (e ∷ es) h = (tt, h)

-- ---- a dictionary

abbrev entry_text : ℕ → List ℕ × Attr → List ℕ
entry_text i e = entry_by (is_unit e.1) e.0 (attr_text e.1)

more_joined : (es : List (List ℕ × Attr)) (i : ℕ) → more_entries_text (entries es) ≡ joined entry_text (suc i) es
unfolding more_entries_text
more_joined [] i = refl
more_joined (e ∷ es) i = ap (λ t. codes ", " ++ (entry_text i e ++ t)) (more_joined es (suc i))

all_joined : (es : List (List ℕ × Attr)) → entries_text (entries es) ≡ joined entry_text 0 es
unfolding entries_text
all_joined [] = refl
all_joined (e ∷ es) = ap (λ t. entry_text 0 e ++ t) (more_joined es 0)

abbrev IsFact : ℕ → ℕ → List ℕ × Attr → Type 0
IsFact room i e = AreBytes e.0 × IsPrintableAttr room e.1

facts : (room i : ℕ) (es : List (List ℕ × Attr)) → ArePrintableEntries room (entries es) → Facts (IsFact room) i es
facts room i [] h = tt
facts room i (e ∷ es) h = ((h.0, h.1), facts room (suc i) es h.2)

abbrev IsPair : ℕ → List ℕ × Attr → SynEntry → Type 0
IsPair i e x = entry_pair x ≡ e

pairs_of : (i : ℕ) (es : List (List ℕ × Attr)) (made : List SynEntry) → Fits IsPair i es made → map entry_pair made ≡ es
pairs_of i [] [] h = refl
pairs_of i [] (x ∷ made) h = absurd h
pairs_of i (e ∷ es) [] h = absurd h
pairs_of i (e ∷ es) (x ∷ made) h = λ j. h.0 j ∷ pairs_of (suc i) es made h.1 j

names_of : (made : List SynEntry) → rows.names (map entry_pair made) ≡ syn_names made
names_of [] = refl
names_of (x ∷ made) = ap (λ t. x.name ∷ t) (names_of made)

one_entry : (room i : ℕ) (e : List ℕ × Attr) (s : Place) (z : List ℕ) → IsFact room i e → s.slots + 0 ≤ max_slots → Faces s (entry_text i e ++ z) → Ends z → Member (IsPair i e) (IsEntryAt [] room) 0 s z
one_entry room i e s z h few f ends =
    let (m, name, (b, behind, rest)) = entry_again room e.0 e.1 (is_unit e.1) refl h.0 (λ u y g more. attr_again room e.1 u y h.1 g more) s z f ends in
    record {
      made = record { at = start s; name = e.0; value = e.1 };
      fits = refl;
      goes = record { end = moved s b; stands = (m, refl, name, behind); is = rest; operations = omega arith; slots = omega arith };
    }

no_weight : {X : Type 0} (xs : List X) → weight 0 xs ≡ 0
no_weight [] = refl
no_weight (x ∷ xs) = omega (arith, no_weight xs)

-- What a list of entries is read as.
pub record Dict (Stands : Place → List SynEntry → Place → Type 0) (es : List (List ℕ × Attr)) (s : Place) (z : List ℕ) : Type 0 where
  pub made : List SynEntry
  pub pairs : map entry_pair made ≡ es
  pub goes : Goes (λ u v. Stands u made v) 0 0 s z

pub dictionary_again : (room : ℕ) (es : List (List ℕ × Attr)) (s : Place) (z : List ℕ) → AreRising (rows.names es) → ArePrintableEntries room (entries es) → s.slots ≤ max_slots
    → Faces s (123 ∷ (entries_text (entries es) ++ (125 ∷ z))) → Dict (λ u made v. IsDictionary [] (suc room) u made v) es s z
dictionary_again room es s z rising h few f =
    let text : Faces s (123 ∷ (joined entry_text 0 es ++ (125 ∷ z))) = subst (λ t. Faces s (123 ∷ (t ++ (125 ∷ z)))) (all_joined es) f in
    let (a, left, r1) = marked k.LeftBrace (123 ∷ []) s (joined entry_text 0 es ++ (125 ∷ z)) text (refl, λ at. refl) in
    let m = list_again entry_text (IsFact room) IsPair (IsEntryAt [] room) 0 (one_entry room) es (moved s a) (125 ∷ z) (facts room 0 es h) (omega (arith, no_weight es)) r1 (brace_closes z) in
    let pairs = pairs_of 0 es m.made m.fits in
    let sorted : AreRising (syn_names m.made) = subst AreRising (ap rows.names (sym pairs) ∙ names_of m.made) rising in
    let (c, right, r3) = marked k.RightBrace (125 ∷ []) m.goes.end z (faces m.goes.end (125 ∷ z) m.goes.is) (refl, λ at. refl) in
    record {
      made = m.made;
      pairs = pairs;
      goes = record {
        end = moved m.goes.end c;
        stands = (moved s a, m.goes.end, left, (m.made, m.goes.stands, fills_from [] m.made (ready m.made sorted)), right);
        is = r3;
        operations = omega (arith, m.goes.operations);
        slots = omega (arith, m.goes.slots, no_weight es);
      };
    }

-- A part that may be left out; the place behind it stands before spaces.
pub record Maybe (Stands : Place → List SynEntry → Place → Type 0) (es : List (List ℕ × Attr)) (s : Place) (z : List ℕ) : Type 0 where
  pub made : List SynEntry
  pub pairs : map entry_pair made ≡ es
  pub end : Place
  pub stands : Stands s made end
  pub is : Faces end z
  pub operations : end.operations ≡ s.operations
  pub slots : end.slots ≡ s.slots

-- the attributes of an operation
pub attributes_again : (room : ℕ) (es : List (List ℕ × Attr)) (s : Place) (z : List ℕ) → AreRising (rows.names es) → ArePrintableEntries room (entries es) → s.slots ≤ max_slots
    → Faces s (attributes_text es ++ (32 ∷ 58 ∷ 32 ∷ z)) → Next is_tail (32 ∷ 58 ∷ 32 ∷ z) → IsNot k.LeftBrace s ⊎ (0 < length es) → Maybe (λ u made v. AreAttributes [] (suc room) u made v) es s (32 ∷ 58 ∷ 32 ∷ z)
unfolding attributes_text
attributes_again room [] s z rising h few f next (inl none) = record { made = []; pairs = refl; end = s; stands = inl (none, refl, refl); is = f; operations = refl; slots = refl }
attributes_again room [] s z rising h few f next (inr some) = absurd (omega arith)
attributes_again room (e ∷ es) s z rising h few f next which =
    let tail = 32 ∷ 58 ∷ 32 ∷ z in
    let text = entries_text (entries (e ∷ es)) in
    let d = dictionary_again room (e ∷ es) s tail rising h few (space 32 s (123 ∷ (text ++ (125 ∷ tail))) refl (subst (λ t. Faces s (32 ∷ 123 ∷ t)) (append_assoc text (125 ∷ []) tail) f)) in
    record { made = d.made; pairs = d.pairs; end = d.goes.end; stands = inr d.goes.stands; is = faces d.goes.end tail d.goes.is; operations = omega (arith, d.goes.operations); slots = omega (arith, d.goes.slots) }

-- the properties
pub properties_again : (room : ℕ) (es : List (List ℕ × Attr)) (s : Place) (z : List ℕ) → AreRising (rows.names es) → ArePrintableEntries room (entries es) → s.slots ≤ max_slots
    → Faces s (properties_text es ++ z) → Next is_region z → Maybe (λ u made v. AreProperties [] (suc (suc room)) u made v) es s z
unfolding properties_text
properties_again room [] s z rising h few f next =
    record { made = []; pairs = refl; end = s; stands = inl (next_lacks is_region k.Less s z refl next f, refl, refl); is = f; operations = refl; slots = refl }
properties_again room (e ∷ es) s z rising h few f next =
    let text = entries_text (entries (e ∷ es)) in
    let inside = 123 ∷ (text ++ (125 ∷ 62 ∷ z)) in
    let (a, left, r1) = marked k.Less (60 ∷ []) s inside (space 32 s (60 ∷ inside) refl (subst (λ t. Faces s (32 ∷ 60 ∷ 123 ∷ t)) (append_assoc text (125 ∷ 62 ∷ []) z) f)) (refl, λ at. refl) in
    let d = dictionary_again room (e ∷ es) (moved s a) (62 ∷ z) rising h few (faces (moved s a) inside r1) in
    let (c, right, r3) = marked k.Greater (62 ∷ []) d.goes.end z (faces d.goes.end (62 ∷ z) d.goes.is) (refl, λ at. refl) in
    record {
      made = d.made;
      pairs = d.pairs;
      end = moved d.goes.end c;
      stands = inr (moved s a, d.goes.end, left, d.goes.stands, right);
      is = faces (moved d.goes.end c) z r3;
      operations = omega (arith, d.goes.operations);
      slots = omega (arith, d.goes.slots);
    }
