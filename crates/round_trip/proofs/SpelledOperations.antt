-- The parts of an operation that a text spells without aliases are printable.
use Rattle.std.proofs.Common.{◌≡◌, ℕ, zero, suc, ◌-◌, ◌<◌, ◌≤◌, not, if◌then◌else◌, List, [], ◌∷◌, length, map, refl, ap, sym, subst, ◌∙◌, arith, inl, inr}
use Rattle.std.specs.Prelude.{IsUtf8}
use Rattle.std.specs.List.{AllByRecursion}
use Rattle.std.specs.Ordering.{match_ordering}
use Rattle.std.specs.declared.cmp.Ordering.{Ordering}
use Rattle.std.specs.declared.cmp.Ordering.TheVariants.{Less, Equal, Greater}
use Rattle.std.specs.BTreeMap.{insert_entry}
use Rattle.mlir_lexer.specs.declared.token.TokenKind.{TokenKind}
use Rattle.mlir_lexer.specs.declared.token.TokenKind.TheVariants as k
use Rattle.mlir_tree.specs.Tree.{Ty, tys, Attr, entries}
use Rattle.mlir_tree.specs.Order.{text_cmp}
use Rattle.mlir_print.specs.Text.{stands_bare}
use Rattle.mlir_parse.specs.declared.syn.SynEntry.{SynEntry}
use Rattle.mlir_parse.specs.declared.syn.SynResult.{SynResult}
use Rattle.mlir_parse.specs.declared.syn.SynUse.{SynUse}
use Rattle.mlir_attributes.specs.Place.{Place}
use Rattle.mlir_attributes.specs.Grammar.{IsMark}
use Rattle.mlir_attributes.specs.TypeGrammar.{IsTy}
use Rattle.mlir_attributes.specs.Steps.{max_parts}
use Rattle.mlir_parse.specs.Entries.{Placed, put_placed, syn_entry}
use Rattle.mlir_parse.specs.Lists.{AreListed, InBrackets}
use Rattle.mlir_parse.specs.OperationGrammar.{IsValueName, IsMaybeCount, IsResult, AreResults, IsMaybeIndex, IsOperand, AreOperands, IsMaybeLocation, IsOperationName, Fills, IsResultType, IsEntryAt, IsDictionary, AreAttributes, AreProperties, AreOperandTypes, IsOneResultType, AreResultTypes}
use Rattle.mlir_resolve.specs.Laid.{entry_pair}
use Rattle.round_trip.specs.Printable.{AreBytes, IsPrintableTy, ArePrintableTys, IsPrintableAttr, ArePrintableEntries}
use Rattle.round_trip.proofs.SpelledTypes.{form_of, same_text, mark_text, plain_printable, ty_printable, listed_results}
use Rattle.round_trip.proofs.SpelledBytes.{token_bytes, string_bytes}
use Rattle.round_trip.proofs.SpelledAttributes.{Fine, at_same, more_fine, entry_name_fine, attr_printable}

-- ---- brackets and lists

-- Brackets that stand there.
pub record Opened (a b : TokenKind) (Inside : ℕ → Place → Place → Type 0) (room : ℕ) (s r : Place) : Type 0 where
  pub inner : ℕ
  pub less : suc inner ≡ room
  pub from : Place
  pub to : Place
  pub left : IsMark a s from
  pub inside : Inside inner from to
  pub right : IsMark b to r

pub opened : (a b : TokenKind) (Inside : ℕ → Place → Place → Type 0) (room : ℕ) (s r : Place) → InBrackets a b Inside room s r → Opened a b Inside room s r
opened a b Inside zero s r h = absurd h
opened a b Inside (suc room) s r (s1, s2, left, inside, right) = record { inner = room; less = refl; from = s1; to = s2; left = left; inside = inside; right = right }

pub same_place : (s r : Place) → s ≡ r → r.bytes ≡ s.bytes
same_place s r h = ap (λ (p : Place). p.bytes) (sym h)

pub listed_fine : {A : Type 0} (One : Place → A → Place → Type 0) (P : A → Type 0) → ((x : A) (s r : Place) → IsUtf8 s.bytes → One s x r → Fine (P x) s r) → (xs : List A) (s r : Place) → IsUtf8 s.bytes → AreListed One s xs r → Fine (AllByRecursion P xs) s r
listed_fine One P one [] s r utf8 h = (tt, same_place s r h)
listed_fine One P one (x ∷ xs) s r utf8 (s1, here, more) =
    let (fine, e1) = one x s s1 utf8 here in
    let (rest, e2) = more_fine k.Comma One P one xs s1 r (at_same s s1 e1 utf8) more in
    ((fine, rest), e2 ∙ e1)

-- ---- results and operands

abbrev Any : {A : Type 0} → A → Type 0
Any x = Unit {0}

pub value_text : (name : List ℕ) (s r : Place) → IsValueName name s r → r.bytes ≡ s.bytes
value_text name s r (text, there, same) = same_text k.Value text s r there

count_text : (n : ℕ) (s r : Place) → IsMaybeCount n s r → r.bytes ≡ s.bytes
count_text n s r (inl (none, is, same)) = same_place s r same
count_text n s r (inr (s1, text, colon, there, value, some, few)) = same_text k.Integer text s1 r there ∙ mark_text k.Colon s s1 colon

result_fine : (x : SynResult) (s r : Place) → IsUtf8 s.bytes → IsResult s x r → Fine (Any x) s r
result_fine x s r utf8 (s1, at, name, count) = (tt, count_text x.count s1 r count ∙ value_text x.name s s1 name)

pub results_text : (xs : List SynResult) (s r : Place) → IsUtf8 s.bytes → AreResults s xs r → r.bytes ≡ s.bytes
results_text [] s r utf8 h = same_place s r h.1
results_text (x ∷ xs) s r utf8 (s1, (s2, one, more), equal) =
    let (fine, e1) = result_fine x s s2 utf8 one in
    let (rest, e2) = more_fine k.Comma IsResult Any result_fine xs s2 s1 (at_same s s2 e1 utf8) more in
    mark_text k.Equal s1 r equal ∙ e2 ∙ e1

index_text : (n : ℕ) (s r : Place) → IsMaybeIndex n s r → r.bytes ≡ s.bytes
index_text n s r (inl (none, is, same)) = same_place s r same
index_text n s r (inr (text, there, is, value)) = same_text k.Hash text s r there

operand_fine : (x : SynUse) (s r : Place) → IsUtf8 s.bytes → IsOperand s x r → Fine (Any x) s r
operand_fine x s r utf8 (s1, s2, (few, slot), at, name, index) =
    (tt, index_text x.index s2 r index ∙ value_text x.name s1 s2 name ∙ ap (λ (p : Place). p.bytes) (sym slot))

pub operands_fine : (room : ℕ) (xs : List SynUse) (s r : Place) → IsUtf8 s.bytes → AreOperands room s xs r → Fine (1 ≤ room) s r
operands_fine room xs s r utf8 h =
    let o = opened k.LeftParen k.RightParen (λ inner u v. AreListed IsOperand u xs v × (length xs ≤ max_parts)) room s r h in
    let e0 = mark_text k.LeftParen s o.from o.left in
    let (fine, e1) = listed_fine IsOperand Any operand_fine xs o.from o.to (at_same s o.from e0 utf8) o.inside.0 in
    (omega (arith, o.less), mark_text k.RightParen o.to r o.right ∙ e1 ∙ e0)

pub location_text : (room : ℕ) (s r : Place) → IsMaybeLocation room s r → r.bytes ≡ s.bytes
location_text room s r (inl (none, same)) = same_place s r same
location_text room s r (inr h) = ap (λ (p : Place). p.bytes) (sym h.rest) ∙ mark_text k.LeftParen h.behind h.inside h.opens ∙ same_text k.Word _ s h.behind h.is_word

pub name_fine : (at : ℕ) (name : List ℕ) (s r : Place) → IsUtf8 s.bytes → IsOperationName at name s r → Fine (AreBytes name × (0 < length name)) s r
name_fine at name s r utf8 (s1, text, few, one, is_at, there, value, some) =
    let e0 : s1.bytes ≡ s.bytes = ap (λ (p : Place). p.bytes) (sym one) in
    ((subst AreBytes value (string_bytes text (form_of k.String text s1 r (λ e. cc) there) (token_bytes k.String text s1 r (at_same s s1 e0 utf8) there)), some), same_text k.String text s1 r there ∙ e0)

-- ---- dictionaries

abbrev IsPlacedFine : ℕ → Placed → Type 0
IsPlacedFine room e = AreBytes e.0 × IsPrintableAttr room e.1.1

abbrev IsEntryFine : ℕ → SynEntry → Type 0
IsEntryFine room e = AreBytes e.name × IsPrintableAttr room e.value

put_by : (room : ℕ) (n : List ℕ) (v : ℕ × Attr) (d : Placed) (ds more : List Placed) (o : Ordering) → AreBytes n × IsPrintableAttr room v.1 → AllByRecursion (IsPlacedFine room) (d ∷ ds) → AllByRecursion (IsPlacedFine room) more
    → AllByRecursion (IsPlacedFine room) (match_ordering o ((n, v) ∷ d ∷ ds) ((d.0, v) ∷ ds) (d ∷ more))
put_by room n v d ds more Less new old rest = (new, old)
put_by room n v d ds more Equal new old rest = ((old.0.0, new.1), old.1)
put_by room n v d ds more Greater new old rest = (old.0, rest)

put_fine : (room : ℕ) (n : List ℕ) (v : ℕ × Attr) (ds : List Placed) → AreBytes n × IsPrintableAttr room v.1 → AllByRecursion (IsPlacedFine room) ds → AllByRecursion (IsPlacedFine room) (insert_entry text_cmp ds n v)
put_fine room n v [] new old = (new, tt)
put_fine room n v (d ∷ ds) new old = put_by room n v d ds (insert_entry text_cmp ds n v) (text_cmp n d.0) new old (put_fine room n v ds new old.1)

placed_fine : (room : ℕ) (found : List Placed) → AllByRecursion (IsPlacedFine room) found → AllByRecursion (IsEntryFine room) (map syn_entry found)
placed_fine room [] h = tt
placed_fine room (e ∷ es) h = (h.0, placed_fine room es h.1)

fills_fine : (room : ℕ) (found : List Placed) (es all : List SynEntry) → AllByRecursion (IsPlacedFine room) found → AllByRecursion (IsEntryFine room) es → Fills found es all → AllByRecursion (IsEntryFine room) all
fills_fine room found [] all old new h = subst (AllByRecursion (IsEntryFine room)) h (placed_fine room found old)
fills_fine room found (e ∷ es) all old new h = fills_fine room (put_placed e.name e.at e.value found) es all (put_fine room e.name (e.at, e.value) found new.0 old) new.1 h.1

entry_fine : (room : ℕ) (e : SynEntry) (s r : Place) → IsUtf8 s.bytes → IsEntryAt [] room s e r → Fine (IsEntryFine room e) s r
entry_fine room e s r utf8 (m, at, name, inl (m1, equal, there)) =
    let (fine, e0) = entry_name_fine e.name s m utf8 name in
    let e1 = mark_text k.Equal m m1 equal in
    let (value, e2) = attr_printable room e.value m1 r (at_same s m1 (e1 ∙ e0) utf8) there in
    ((fine, value), e2 ∙ e1 ∙ e0)
entry_fine room e s r utf8 (m, at, name, inr (none, same, is)) =
    let (fine, e0) = entry_name_fine e.name s m utf8 name in
    ((fine, subst (IsPrintableAttr room) is tt), same_place m r same ∙ e0)

pairs_fine : (room : ℕ) (es : List SynEntry) → AllByRecursion (IsEntryFine room) es → ArePrintableEntries room (entries (map entry_pair es))
pairs_fine room [] h = tt
pairs_fine room (e ∷ es) h = (h.0.0, h.0.1, pairs_fine room es h.1)

-- what a dictionary says
record DictFine (room : ℕ) (es : List SynEntry) (s r : Place) : Type 0 where
  some : 1 ≤ room
  fine : ArePrintableEntries (room - 1) (entries (map entry_pair es))
  text : r.bytes ≡ s.bytes

dictionary_fine : (room : ℕ) (es : List SynEntry) (s r : Place) → IsUtf8 s.bytes → IsDictionary [] room s es r → DictFine room es s r
dictionary_fine room es s r utf8 h =
    let o = opened k.LeftBrace k.RightBrace (λ inner u v. (written : List SynEntry) × AreListed (IsEntryAt [] inner) u written v × Fills [] written es) room s r h in
    let e0 = mark_text k.LeftBrace s o.from o.left in
    let (written, list, fills) = o.inside in
    let (fine, e1) = listed_fine (IsEntryAt [] o.inner) (IsEntryFine o.inner) (entry_fine o.inner) written o.from o.to (at_same s o.from e0 utf8) list in
    let less : o.inner ≡ room - 1 = omega (arith, o.less) in
    record {
      some = omega (arith, o.less);
      fine = subst (λ n. ArePrintableEntries n (entries (map entry_pair es))) less (pairs_fine o.inner es (fills_fine o.inner [] written es tt fine fills));
      text = mark_text k.RightBrace o.to r o.right ∙ e1 ∙ e0;
    }

no_entries : (room : ℕ) (es : List SynEntry) → es ≡ [] → ArePrintableEntries room (entries (map entry_pair es))
no_entries room es none = subst (λ x. ArePrintableEntries room (entries (map entry_pair x))) (sym none) tt

pub attributes_fine : (room : ℕ) (es : List SynEntry) (s r : Place) → IsUtf8 s.bytes → AreAttributes [] room s es r → Fine (ArePrintableEntries (room - 1) (entries (map entry_pair es))) s r
attributes_fine room es s r utf8 (inl (brace, none, same)) = (no_entries (room - 1) es none, same_place s r same)
attributes_fine room es s r utf8 (inr h) = let d = dictionary_fine room es s r utf8 h in (d.fine, d.text)

pub properties_fine : (room : ℕ) (es : List SynEntry) (s r : Place) → IsUtf8 s.bytes → AreProperties [] room s es r → Fine ((0 < length es → 2 ≤ room) × ArePrintableEntries (room - 2) (entries (map entry_pair es))) s r
properties_fine room es s r utf8 (inl (angle, none, same)) = ((λ some. absurd (omega (arith, ap length none, some)), no_entries (room - 2) es none), same_place s r same)
properties_fine room es s r utf8 (inr h) =
    let o = opened k.Less k.Greater (λ inner u v. IsDictionary [] inner u es v) room s r h in
    let e0 = mark_text k.Less s o.from o.left in
    let d = dictionary_fine o.inner es o.from o.to (at_same s o.from e0 utf8) o.inside in
    let less : o.inner - 1 ≡ room - 2 = omega (arith, o.less) in
    ((λ some. omega (arith, o.less, d.some), subst (λ n. ArePrintableEntries n (entries (map entry_pair es))) less d.fine), mark_text k.Greater o.to r o.right ∙ d.text ∙ e0)

-- ---- the function type

pub operand_types_fine : (room : ℕ) (ts : List Ty) (s r : Place) → IsUtf8 s.bytes → AreOperandTypes [] room s ts r → Fine (AllByRecursion (IsPrintableTy (room - 1)) ts) s r
operand_types_fine room ts s r utf8 h =
    let o = opened k.LeftParen k.RightParen (λ inner u v. AreListed (IsTy [] inner) u ts v) room s r h in
    let e0 = mark_text k.LeftParen s o.from o.left in
    let (fine, e1) = listed_fine (IsTy [] o.inner) (IsPrintableTy o.inner) (ty_printable o.inner) ts o.from o.to (at_same s o.from e0 utf8) o.inside in
    let less : o.inner ≡ room - 1 = omega (arith, o.less) in
    (subst (λ n. AllByRecursion (IsPrintableTy n) ts) less fine, mark_text k.RightParen o.to r o.right ∙ e1 ∙ e0)

result_type_fine : (room : ℕ) (t : Ty) (s r : Place) → IsUtf8 s.bytes → IsResultType (IsTy [] room) s t r → Fine (IsPrintableTy room t) s r
result_type_fine room t s r utf8 (s1, (few, slot), type) =
    let e0 : s1.bytes ≡ s.bytes = ap (λ (p : Place). p.bytes) (sym slot) in
    let (fine, e1) = ty_printable room t s1 r (at_same s s1 e0 utf8) type in
    (fine, e1 ∙ e0)

pub all_types : (room : ℕ) (ts : List Ty) → AllByRecursion (IsPrintableTy room) ts → ArePrintableTys room (tys ts)
all_types room [] h = tt
all_types room (t ∷ ts) h = (h.0, all_types room ts h.1)

one_result_fine : (room : ℕ) (ts : List Ty) (s r : Place) → IsUtf8 s.bytes → IsOneResultType [] room s ts r → Fine (ArePrintableTys (if stands_bare (tys ts) then room else room - 1) (tys ts)) s r
one_result_fine room [] s r utf8 h = absurd h
one_result_fine room (t ∷ []) s r utf8 (s1, (few, slot), type) =
    let e0 : s1.bytes ≡ s.bytes = ap (λ (p : Place). p.bytes) (sym slot) in
    let (other, fine) = plain_printable room t s1 r (at_same s s1 e0 utf8) type in
    (subst (λ b. ArePrintableTys (if b then room else room - 1) (tys (t ∷ []))) (sym (ap not other)) (fine.0, tt), fine.1 ∙ e0)
one_result_fine room (t ∷ (u ∷ us)) s r utf8 h = absurd h

pub result_types_fine : (room : ℕ) (ts : List Ty) (s r : Place) → IsUtf8 s.bytes → AreResultTypes [] room s ts r → Fine (ArePrintableTys (if stands_bare (tys ts) then room else room - 1) (tys ts)) s r
result_types_fine room ts s r utf8 (inl h) = one_result_fine room ts s r utf8 h
result_types_fine room ts s r utf8 (inr h) =
    let o = opened k.LeftParen k.RightParen (λ inner u v. AreListed (IsResultType (IsTy [] inner)) u ts v × (length ts ≤ max_parts)) room s r h in
    let e0 = mark_text k.LeftParen s o.from o.left in
    let (fine, e1) = listed_fine (IsResultType (IsTy [] o.inner)) (IsPrintableTy o.inner) (result_type_fine o.inner) ts o.from o.to (at_same s o.from e0 utf8) o.inside.0 in
    let results = listed_results o.inner (tys ts) (stands_bare (tys ts)) refl (all_types o.inner ts fine) in
    (subst (λ n. ArePrintableTys (if stands_bare (tys ts) then n else n - 1) (tys ts)) o.less (subst (λ n. ArePrintableTys (if stands_bare (tys ts) then suc o.inner else n) (tys ts)) (let e : o.inner ≡ suc o.inner - 1 = omega arith in e) results), mark_text k.RightParen o.to r o.right ∙ e1 ∙ e0)
