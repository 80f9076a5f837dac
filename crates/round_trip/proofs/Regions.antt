-- The labels and arguments of regions are read back, and what begins an operation.
use Rattle.std.proofs.Common.{◌≡◌, ℕ, zero, suc, ◌+◌, ◌*◌, ◌<◌, ◌≤◌, ◌^◌, Bool, true, false, if◌then◌else◌, List, [], ◌∷◌, ◌++◌, length, refl, ap, sym, subst, ◌∙◌, arith, append_assoc, inl, inr, Result, Ok, Err}
use Rattle.std.specs.Prelude.{codes, decimal, replicate}
use Rattle.text_scan.specs.Bytes.{AllAre, is_space}
use Rattle.mlir_lexer.specs.Scan.{first_token}
use Rattle.mlir_lexer.specs.declared.token.Token.{Token}
use Rattle.mlir_lexer.specs.declared.token.LexFault.{LexFault}
use Rattle.mlir_lexer.specs.declared.token.TokenKind.TheVariants as k
use Rattle.mlir_tree.specs.declared.row.Row.{Row}
use Rattle.mlir_tree.specs.Tree.{Ty}
use Rattle.mlir_print.specs.Text.{string_text, ty_text}
use Rattle.mlir_print.specs.Numbering.{has_results, result_number, argument_number}
use Rattle.mlir_print.specs.ModuleText.{indent, separator, is_group, group_text, results_text, argument_text, arguments_text, label_text}
use Rattle.mlir_parse.specs.declared.syn.SynArg.{SynArg}
use Rattle.mlir_attributes.specs.Place.{Place, moved, start, is_kind_by}
use Rattle.mlir_attributes.specs.Grammar.{IsNot}
use Rattle.mlir_attributes.specs.Steps.{max_slots, max_parts}
use Rattle.mlir_parse.specs.OperationGrammar.{IsMaybeLocation, IsArgument, IsLabel}
use Rattle.round_trip.specs.Printable.{AreBytes}
use Rattle.round_trip.proofs.Places.{Faces, faces, space, spaces, marked, lacks}
use Rattle.round_trip.proofs.Tokens.{Stops, string_begins, value_begins, label_begins}
use Rattle.round_trip.proofs.Strings.{string_is}
use Rattle.round_trip.proofs.Ends.{Ends, ends_lack, is_end, is_end_by}
use Rattle.round_trip.proofs.Types.{ty_again}
use Rattle.round_trip.proofs.Parts.{Member, Fits, Facts, joined, weight, list_again, fits_length, paren_closes}
use Rattle.round_trip.proofs.Uses.{argument_name, argument_again, result_suffix}
use Rattle.round_trip.proofs.Nexts.{Next, passes, next_lacks}
use Rattle.round_trip.proofs.RowTree.{IsArgumentReady, AreArgumentsReady, IsArgumentOf}

-- ---- spaces

pub indented : (depth : ℕ) → AllAre is_space (indent depth)
indented depth = all (2 * depth)
  where
    all : (n : ℕ) → AllAre is_space (replicate n 32)
    all zero = tt
    all (suc n) = (refl, all n)

pub join_spaces : (a b : List ℕ) → AllAre is_space a → AllAre is_space b → AllAre is_space (a ++ b)
join_spaces [] b x y = y
join_spaces (c ∷ a) b x y = (x.0, join_spaces a b x.1 y)

-- ---- what ends an operation

-- a line's end, before what may stand behind an operation
pub line_ends : (z : List ℕ) → Next is_end z → Ends (10 ∷ z)
line_ends z h = record { stops = refl; gap = 10 ∷ h.gap; next = h.next; all = (refl, h.all); is = ap (λ t. 10 ∷ t) h.is; no_gap = h.no_gap; kind = λ at. passed (first_token at h.next) (h.kind at) }
  where
    passed : (o : Result Token LexFault) → passes is_end o ≡ true → is_end_by o ≡ true
    passed (Ok t) h = h
    passed (Err f) h = h

pub brace_line : (gap z : List ℕ) → AllAre is_space gap → Next is_end (gap ++ (125 ∷ z))
brace_line gap z all = record { gap = gap; next = 125 ∷ z; all = all; is = refl; no_gap = refl; kind = λ at. refl }

pub end_line : Next is_end []
end_line = record { gap = []; next = []; all = tt; is = refl; no_gap = refl; kind = λ at. refl }

group_stops : (r : Row) (z : List ℕ) → Stops z → Stops (group_text r ++ z)
group_stops r z h = by_test (is_group r)
  where
    by_test : (b : Bool) → Stops ((if b then codes ":" ++ decimal (length r.results) else []) ++ z)
    by_test true = refl
    by_test false = h

-- what begins an operation behind its indentation
begin_by : (all : List Row) (r : Row) (z : List ℕ) (some : Bool) → has_results r ≡ some → AreBytes r.name → result_number all r.id < 10 ^ 64
    → Next is_end ((if some then codes "%" ++ (decimal (result_number all r.id) ++ (group_text r ++ codes " = ")) else []) ++ (string_text r.name ++ z))
begin_by all r z true is name small =
    let number = decimal (result_number all r.id) in
    let rest = group_text r ++ (codes " = " ++ (string_text r.name ++ z)) in
    let one : (number ++ (group_text r ++ codes " = ")) ++ (string_text r.name ++ z) ≡ number ++ rest = simp append_assoc in
    let b = value_begins number rest (result_suffix (result_number all r.id) small) (group_stops r (codes " = " ++ (string_text r.name ++ z)) refl) in
    record { gap = []; next = 37 ∷ (number ++ rest); all = tt; is = ap (λ t. 37 ∷ t) one; no_gap = b.0; kind = λ at. ap (passes is_end) (b.1 at) }
begin_by all r z false is name small =
    let b = string_begins (string_text r.name) z (string_is r.name name) in
    record { gap = []; next = string_text r.name ++ z; all = tt; is = refl; no_gap = b.0; kind = λ at. ap (passes is_end) (b.1 at) }

pub begin_next : (all : List Row) (r : Row) (z : List ℕ) → AreBytes r.name → result_number all r.id < 10 ^ 64 → Next is_end (results_text all r ++ (string_text r.name ++ z))
unfolding results_text
begin_next all r z name small = begin_by all r z (has_results r) refl name small

pub behind_spaces : (gap z : List ℕ) → AllAre is_space gap → Next is_end z → Next is_end (gap ++ z)
behind_spaces gap z all h = record { gap = gap ++ h.gap; next = h.next; all = join_spaces gap h.gap all h.all; is = ap (λ t. gap ++ t) h.is ∙ sym (append_assoc gap h.gap h.next); no_gap = h.no_gap; kind = h.kind }

-- the string of a name is no value
pub no_value : (all : List Row) (r : Row) (s : Place) (z : List ℕ) → AreBytes r.name → has_results r ≡ false → Faces s (results_text all r ++ (string_text r.name ++ z)) → IsNot k.Value s
unfolding results_text
no_value all r s z name none f =
    let b = string_begins (string_text r.name) z (string_is r.name name) in
    let g : Faces s (string_text r.name ++ z) = subst (λ c. Faces s ((if c then codes "%" ++ (decimal (result_number all r.id) ++ (group_text r ++ codes " = ")) else []) ++ (string_text r.name ++ z))) none f in
    lacks k.Value s (string_text r.name ++ z) g b.0 (λ at. ap (is_kind_by k.Value) (b.1 at))

-- ---- arguments

pub no_location : (room : ℕ) (s : Place) (z : List ℕ) → Ends z → Faces s z → IsMaybeLocation room s s
no_location room s z ends f = inl (λ m there. ends_lack k.Word s z refl ends f there.token there.stands there.kind, refl)

abbrev label_argument : List Row → ℕ → ℕ → ℕ → Ty → List ℕ
label_argument all d g i t = argument_text (argument_number all d g i) t

joined_from : (all : List Row) (d g i : ℕ) (ts : List Ty) → arguments_text all d g i ts ≡ joined (label_argument all d g) i ts
unfolding arguments_text
joined_from all d g i [] = refl
joined_from all d g i (t ∷ ts) = ap (λ x. separator i ++ (argument_text (argument_number all d g i) t ++ x)) (joined_from all d g (suc i) ts)

one_argument : (all : List Row) (room d g i : ℕ) (t : Ty) (s : Place) (z : List ℕ) → IsArgumentReady all room d g i t → s.slots + 0 ≤ max_slots → Faces s (label_argument all d g i t ++ z) → Ends z
    → Member (IsArgumentOf all d g i t) (IsArgument [] room) 0 s z
one_argument all room d g i t s z h few f ends =
    let n = argument_number all d g i in
    let type = ty_text t ++ z in
    let text : label_argument all d g i t ++ z ≡ 37 ∷ (argument_name n ++ (58 ∷ 32 ∷ type)) = ap (λ x. 37 ∷ 97 ∷ 114 ∷ 103 ∷ x) (append_assoc (decimal n) (58 ∷ 32 ∷ ty_text t) z) in
    let (a, name, r1) = argument_again n s (58 ∷ 32 ∷ type) h.0 refl (subst (Faces s) text f) in
    let (b, colon, r2) = marked k.Colon (58 ∷ []) (moved s a) (32 ∷ type) (faces (moved s a) (58 ∷ 32 ∷ type) r1) (refl, λ at. refl) in
    let (c, is, r3) = ty_again room t (moved s b) z h.1 (space 32 (moved s b) type refl (faces (moved s b) (32 ∷ type) r2)) ends in
    record {
      made = record { at = start s; name = argument_name n; ty = t };
      fits = record { name = refl; type = refl };
      goes = record { end = moved s c; stands = (moved s a, moved s b, moved s c, refl, name, colon, is, no_location room (moved s c) z ends (faces (moved s c) z r3)); is = r3; operations = omega arith; slots = omega arith };
    }

no_weight : {X : Type 0} (xs : List X) → weight 0 xs ≡ 0
no_weight [] = refl
no_weight (x ∷ xs) = omega (arith, no_weight xs)

-- ---- labels

-- What a label is read as; the place behind it stands before spaces.
pub record Label (all : List Row) (room d g : ℕ) (args : List Ty) (s : Place) (z : List ℕ) : Type 0 where
  pub made : List SynArg
  pub fits : Fits (IsArgumentOf all d g) 0 args made
  pub end : Place
  pub stands : IsLabel [] room s made end
  pub is : Faces end z
  pub operations : end.operations ≡ s.operations
  pub slots : end.slots ≡ s.slots

label_with : (all : List Row) (room d g : ℕ) (t : Ty) (ts : List Ty) (s : Place) (z : List ℕ) → length (t ∷ ts) ≤ max_parts → Facts (IsArgumentReady all room d g) 0 (t ∷ ts) → s.slots ≤ max_slots
    → Faces s (94 ∷ 98 ∷ 98 ∷ 48 ∷ 40 ∷ (joined (label_argument all d g) 0 (t ∷ ts) ++ (41 ∷ 58 ∷ 10 ∷ z))) → Label all (suc room) d g (t ∷ ts) s z
label_with all room d g t ts s z parts h few f =
    let text = joined (label_argument all d g) 0 (t ∷ ts) ++ (41 ∷ 58 ∷ 10 ∷ z) in
    let (a, label, r1) = marked k.Label (94 ∷ 98 ∷ 98 ∷ 48 ∷ []) s (40 ∷ text) f (label_begins (98 ∷ 98 ∷ 48 ∷ []) (40 ∷ text) (inr (refl, (refl, (refl, tt)))) refl) in
    let (b, left, r2) = marked k.LeftParen (40 ∷ []) (moved s a) text (faces (moved s a) (40 ∷ text) r1) (refl, λ at. refl) in
    let m = list_again (label_argument all d g) (IsArgumentReady all room d g) (IsArgumentOf all d g) (IsArgument [] room) 0 (one_argument all room d g) (t ∷ ts) (moved s b) (41 ∷ 58 ∷ 10 ∷ z) h (omega (arith, no_weight (t ∷ ts))) r2 (paren_closes (58 ∷ 10 ∷ z)) in
    let (c, right, r3) = marked k.RightParen (41 ∷ []) m.goes.end (58 ∷ 10 ∷ z) (faces m.goes.end (41 ∷ 58 ∷ 10 ∷ z) m.goes.is) (refl, λ at. refl) in
    let (e, colon, r4) = marked k.Colon (58 ∷ []) (moved m.goes.end c) (10 ∷ z) (faces (moved m.goes.end c) (58 ∷ 10 ∷ z) r3) (refl, λ at. refl) in
    record {
      made = m.made;
      fits = m.fits;
      end = moved m.goes.end e;
      stands = inr (moved s a, moved m.goes.end c, label, inr (moved s b, m.goes.end, left, (m.goes.stands, omega (arith, fits_length (IsArgumentOf all d g) 0 (t ∷ ts) m.made m.fits, parts)), right), colon);
      is = space 10 (moved m.goes.end e) z refl (faces (moved m.goes.end e) (10 ∷ z) r4);
      operations = omega (arith, m.goes.operations);
      slots = omega (arith, m.goes.slots, no_weight (t ∷ ts));
    }

pub label_again : (all : List Row) (depth room d g : ℕ) (args : List Ty) (s : Place) (z : List ℕ) → AreArgumentsReady all room d g args → s.slots ≤ max_slots
    → Faces s (label_text all depth d g args ++ z) → Next is_end z → Label all room d g args s z
unfolding label_text
label_again all depth room d g [] s z h few f next =
    record { made = []; fits = tt; end = s; stands = inl (next_lacks is_end k.Label s z refl next f, refl, refl); is = f; operations = refl; slots = refl }
label_again all depth room d g (t ∷ ts) s z (less, same, parts, h) few f next =
    let args = arguments_text all d g 0 (t ∷ ts) in
    let text : (indent depth ++ (codes "^bb0(" ++ (args ++ codes "):\n"))) ++ z ≡ indent depth ++ (94 ∷ 98 ∷ 98 ∷ 48 ∷ 40 ∷ (args ++ (41 ∷ 58 ∷ 10 ∷ z))) = simp append_assoc in
    let inner : Faces s (94 ∷ 98 ∷ 98 ∷ 48 ∷ 40 ∷ (args ++ (41 ∷ 58 ∷ 10 ∷ z))) = spaces (indent depth) (94 ∷ 98 ∷ 98 ∷ 48 ∷ 40 ∷ (args ++ (41 ∷ 58 ∷ 10 ∷ z))) s (indented depth) (subst (Faces s) text f) in
    subst (λ n. Label all n d g (t ∷ ts) s z) same
    (label_with all less d g t ts s z parts h few (subst (λ x. Faces s (94 ∷ 98 ∷ 98 ∷ 48 ∷ 40 ∷ (x ++ (41 ∷ 58 ∷ 10 ∷ z)))) (joined_from all d g 0 (t ∷ ts)) inner))
