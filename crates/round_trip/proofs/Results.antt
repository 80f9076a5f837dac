-- The names and types of results, and the types of operands, are read back.
use Rattle.std.proofs.Common.{◌≡◌, ℕ, suc, ◌+◌, ◌<◌, ◌≤◌, ◌^◌, Bool, true, false, not, if◌then◌else◌, List, [], ◌∷◌, ◌++◌, length, refl, ap, subst, ◌∙◌, arith, append_assoc, append-nil, inl, inr}
use Rattle.std.specs.Prelude.{codes, decimal, Some, nat_lt, ◌==◌}
use Rattle.std.specs.Option.{option_map_or}
use Rattle.std.proofs.lemmas.Bool.{ltb-true, ltb-false}
use Rattle.std.proofs.lemmas.Bool.Decides.{nat_tests}
use Rattle.text_scan.specs.Bytes.{is_digit}
use Rattle.mlir_lexer.specs.Forms.{AreSome}
use Rattle.mlir_lexer.specs.declared.token.TokenKind.TheVariants as k
use Rattle.mlir_tree.specs.declared.row.Row.{Row}
use Rattle.mlir_tree.specs.declared.value.Val.{Val}
use Rattle.mlir_tree.specs.Tree.{Ty, tys}
use Rattle.mlir_print.specs.Text.{ty_text, tys_text, more_tys_text, is_function, stands_bare, results_by}
use Rattle.mlir_print.specs.Numbering.{has_results, result_number}
use Rattle.mlir_print.specs.ModuleText.{is_group, group_text, results_text, value_type, value_type_text, listed, separator}
use Rattle.mlir_parse.specs.declared.syn.SynResult.{SynResult}
use Rattle.mlir_attributes.specs.Place.{Place, moved, start}
use Rattle.mlir_attributes.specs.Grammar.{IsNot}
use Rattle.mlir_attributes.specs.TypeGrammar.{IsTy}
use Rattle.mlir_attributes.specs.Steps.{max_slots, max_parts, one_slot}
use Rattle.mlir_parse.specs.Lists.{AreListed}
use Rattle.mlir_parse.specs.OperationGrammar.{IsMaybeCount, AreResults, IsResultType, AreOperandTypes, IsOneResultType, AreResultTypes}
use Rattle.round_trip.specs.Printable.{IsPrintableTy, ArePrintableTys}
use Rattle.round_trip.proofs.Places.{Is, Faces, Reads, faces, space, spelled, marked, Begins, lacks}
use Rattle.round_trip.proofs.Tokens.{Stops, decimal_begins}
use Rattle.round_trip.proofs.Decimals.{decimal_wide, token_means}
use Rattle.round_trip.proofs.Ends.{Ends}
use Rattle.round_trip.proofs.Types.{ty_again, leaf_again}
use Rattle.round_trip.proofs.Parts.{Goes, Member, Fits, Facts, joined, weight, list_again, goes, paren_closes}
use Rattle.round_trip.proofs.Uses.{result_name, result_suffix, name_again, AreResultsOf}

-- ---- names of results

no_colon : (d : ℕ) → is_digit d ≡ true → d == 58 ≡ false
no_colon d h = grind (arith, nat_tests)

colon_begins : (ds z : List ℕ) → AreSome is_digit ds → Begins k.Colon (58 ∷ []) (ds ++ z)
colon_begins [] z h = absurd h
colon_begins (d ∷ ds) z h = (refl, λ at. rw (no_colon d h.0) refl)

group_size : (n : ℕ) → nat_lt 1 n ≡ true → 0 < n
group_size n h = omega (arith, ltb-true 1 n h)

single_size : (n : ℕ) → nat_lt 0 n ≡ true → nat_lt 1 n ≡ false → n ≡ 1
single_size n h g = omega (arith, ltb-true 0 n h, ltb-false 1 n g)

abbrev equal_text : List ℕ → List ℕ
equal_text z = 32 ∷ 61 ∷ 32 ∷ z

count_again : (r : Row) (s : Place) (z : List ℕ) (group : Bool) → is_group r ≡ group → has_results r ≡ true → length r.results ≤ max_parts
    → Is s ((if group then codes ":" ++ decimal (length r.results) else []) ++ equal_text z) → Reads (λ u v. IsMaybeCount (length r.results) u v) s (equal_text z)
count_again r s z true is some few h =
    let n = length r.results in
    let d = decimal_wide n (omega arith) in
    let (a, colon, r1) = marked k.Colon (58 ∷ []) s (decimal n ++ equal_text z) (faces s (58 ∷ (decimal n ++ equal_text z)) h) (colon_begins (decimal n) (equal_text z) d.some) in
    let (b, number, r2) = spelled k.Integer (decimal n) (moved s a) (equal_text z) (faces (moved s a) (decimal n ++ equal_text z) r1) (decimal_begins (decimal n) (equal_text z) d.some refl) in
    (b, inr (moved s a, decimal n, colon, number, token_means n (omega arith), group_size n is, few), r2)
count_again r s z false is some few h =
    (s.at, inl (lacks k.Colon s (61 ∷ 32 ∷ z) (space 32 s (61 ∷ 32 ∷ z) refl (faces s (equal_text z) h)) refl (λ at. refl), single_size (length r.results) some is, refl), h)

-- What the results of a row are read as; the place behind them stands before spaces.
pub record Results (all : List Row) (r : Row) (s : Place) (z : List ℕ) : Type 0 where
  pub made : List SynResult
  pub fits : AreResultsOf all r made
  pub end : Place
  pub stands : AreResults s made end
  pub is : Faces end z
  pub operations : end.operations ≡ s.operations
  pub slots : end.slots ≡ s.slots

group_stops : (group : Bool) (n : ℕ) (z : List ℕ) → Stops ((if group then codes ":" ++ decimal n else []) ++ equal_text z)
group_stops true n z = refl
group_stops false n z = refl

results_by_test : (all : List Row) (r : Row) (s : Place) (z : List ℕ) (some : Bool) → has_results r ≡ some → result_number all r.id < 10 ^ 64 → length r.results ≤ max_parts
    → Faces s ((if some then codes "%" ++ (decimal (result_number all r.id) ++ (group_text r ++ codes " = ")) else []) ++ z) → (some ≡ false → IsNot k.Value s) → Results all r s z
results_by_test all r s z true is small few f none =
    let name = result_name all r.id in
    let one : (name ++ (group_text r ++ codes " = ")) ++ z ≡ name ++ (group_text r ++ equal_text z) = append_assoc name (group_text r ++ codes " = ") z ∙ ap (λ t. name ++ t) (append_assoc (group_text r) (codes " = ") z) in
    let (a, value, r1) = name_again name s (group_text r ++ equal_text z) (result_suffix (result_number all r.id) small) (group_stops (is_group r) (length r.results) z) (subst (λ t. Faces s (37 ∷ t)) one f) in
    let (b, count, r2) = count_again r (moved s a) z (is_group r) refl is few r1 in
    let face : Faces (moved s b) (61 ∷ 32 ∷ z) = space 32 (moved s b) (61 ∷ 32 ∷ z) refl (faces (moved s b) (equal_text z) r2) in
    let (c, equal, r3) = marked k.Equal (61 ∷ []) (moved s b) (32 ∷ z) face (refl, λ at. refl) in
    record {
      made = record { at = start s; name = name; count = length r.results } ∷ [];
      fits = (is, refl {a = name}, refl {a = length r.results});
      end = moved s c;
      stands = (moved s b, (moved s b, (moved s a, refl {a = start s}, value, count), (lacks k.Comma (moved s b) (61 ∷ 32 ∷ z) face refl (λ at. refl), refl)), equal);
      is = space 32 (moved s c) z refl (faces (moved s c) (32 ∷ z) r3);
      operations = refl {a = s.operations};
      slots = refl {a = s.slots};
    }
results_by_test all r s z false is small few f none =
    record { made = []; fits = is; end = s; stands = (none refl, refl); is = f; operations = refl; slots = refl }

pub results_again : (all : List Row) (r : Row) (s : Place) (z : List ℕ) → result_number all r.id < 10 ^ 64 → length r.results ≤ max_parts
    → Faces s (results_text all r ++ z) → (has_results r ≡ false → IsNot k.Value s) → Results all r s z
unfolding results_text
results_again all r s z small few f none = results_by_test all r s z (has_results r) refl small few f none

-- ---- types of operands

listed_joined : {X : Type 0} (text : X → List ℕ) (i : ℕ) (xs : List X) → listed text i xs ≡ joined (λ j x. text x) i xs
listed_joined text i [] = refl
listed_joined text i (x ∷ xs) = ap (λ t. separator i ++ (text x ++ t)) (listed_joined text (suc i) xs)

pub all_listed : {X : Type 0} (text : X → List ℕ) (xs : List X) → listed text 0 xs ≡ joined (λ j x. text x) 0 xs
all_listed text xs = listed_joined text 0 xs

-- The value has this type, which is printable.
pub record HasType (all : List Row) (room : ℕ) (v : Val) : Type 0 where
  pub type : Ty
  pub is : value_type all v ≡ Some type
  pub printable : IsPrintableTy room type

abbrev pub IsTypeOf : List Row → ℕ → Val → Ty → Type 0
IsTypeOf all i v t = value_type all v ≡ Some t

one_type : (all : List Row) (room i : ℕ) (v : Val) (s : Place) (z : List ℕ) → HasType all room v → s.slots + 0 ≤ max_slots → Faces s (value_type_text all v ++ z) → Ends z → Member (IsTypeOf all i v) (IsTy [] room) 0 s z
one_type all room i v s z h few f ends =
    let text : value_type_text all v ≡ ty_text h.type = ap (λ o. option_map_or ty_text o []) h.is in
    record { made = h.type; fits = h.is; goes = goes (λ u w. IsTy [] room u h.type w) s z (ty_again room h.type s z h.printable (subst (λ t. Faces s (t ++ z)) text f) ends) }

no_weight : {X : Type 0} (xs : List X) → weight 0 xs ≡ 0
no_weight [] = refl
no_weight (x ∷ xs) = omega (arith, no_weight xs)

pub full_weight : {X : Type 0} (xs : List X) → weight 1 xs ≡ length xs
full_weight [] = refl
full_weight (x ∷ xs) = omega (arith, full_weight xs)

pub operand_types_again : (all : List Row) (room : ℕ) (vs : List Val) (s : Place) (z : List ℕ) → Facts (λ i v. HasType all room v) 0 vs → s.slots ≤ max_slots
    → Faces s (40 ∷ (listed (value_type_text all) 0 vs ++ (41 ∷ z))) → Member (Fits (IsTypeOf all) 0 vs) (λ u made v. AreOperandTypes [] (suc room) u made v) 0 s z
operand_types_again all room vs s z h few f =
    let text = joined (λ j v. value_type_text all v) 0 vs ++ (41 ∷ z) in
    let (a, left, r1) = marked k.LeftParen (40 ∷ []) s text (subst (λ t. Faces s (40 ∷ (t ++ (41 ∷ z)))) (all_listed (value_type_text all) vs) f) (refl, λ at. refl) in
    let m = list_again (λ j v. value_type_text all v) (λ i v. HasType all room v) (IsTypeOf all) (IsTy [] room) 0 (one_type all room) vs (moved s a) (41 ∷ z) h (omega (arith, no_weight vs)) r1 (paren_closes z) in
    let (c, right, r3) = marked k.RightParen (41 ∷ []) m.goes.end z (faces m.goes.end (41 ∷ z) m.goes.is) (refl, λ at. refl) in
    record {
      made = m.made;
      fits = m.fits;
      goes = record {
        end = moved m.goes.end c;
        stands = (moved s a, m.goes.end, left, m.goes.stands, right);
        is = r3;
        operations = omega (arith, m.goes.operations);
        slots = omega (arith, m.goes.slots, no_weight vs);
      };
    }

-- ---- types of results

abbrev IsSame : ℕ → Ty → Ty → Type 0
IsSame i t u = u ≡ t

same_all : (i : ℕ) (ts made : List Ty) → Fits IsSame i ts made → made ≡ ts
same_all i [] [] h = refl
same_all i [] (u ∷ made) h = absurd h
same_all i (t ∷ ts) [] h = absurd h
same_all i (t ∷ ts) (u ∷ made) h = λ j. h.0 j ∷ same_all (suc i) ts made h.1 j

more_types : (ts : List Ty) (i : ℕ) → more_tys_text (tys ts) ≡ joined (λ j t. ty_text t) (suc i) ts
unfolding more_tys_text
more_types [] i = refl
more_types (t ∷ ts) i = ap (λ x. codes ", " ++ (ty_text t ++ x)) (more_types ts (suc i))

pub all_types : (ts : List Ty) → tys_text (tys ts) ≡ joined (λ j t. ty_text t) 0 ts
unfolding tys_text
all_types [] = refl
all_types (t ∷ ts) = ap (λ x. ty_text t ++ x) (more_types ts 0)

type_facts : (room i : ℕ) (ts : List Ty) → ArePrintableTys room (tys ts) → Facts (λ j t. IsPrintableTy room t) i ts
type_facts room i [] h = tt
type_facts room i (t ∷ ts) h = (h.0, type_facts room (suc i) ts h.1)

slotted : (s : Place) (z : List ℕ) → Faces s z → Faces (one_slot s) z
slotted s z f = record { at = f.at; same = f.same; is = record { stands = f.is.stands; within = f.is.within }; within = f.within }

one_result : (room i : ℕ) (t : Ty) (s : Place) (z : List ℕ) → IsPrintableTy room t → s.slots + 1 ≤ max_slots → Faces s (ty_text t ++ z) → Ends z → Member (IsSame i t) (IsResultType (IsTy [] room)) 1 s z
one_result room i t s z h few f ends =
    let (e, type, rest) = ty_again room t (one_slot s) z h (slotted s (ty_text t ++ z) f) ends in
    record { made = t; fits = refl; goes = record { end = moved (one_slot s) e; stands = (one_slot s, (omega arith, refl), type); is = rest; operations = omega arith; slots = refl } }

not_true : (b : Bool) → not b ≡ true → b ≡ false
not_true true h = absurd (cc)
not_true false h = refl

bare_result : (room : ℕ) (ts : List Ty) (s : Place) (z : List ℕ) → stands_bare (tys ts) ≡ true → ArePrintableTys room (tys ts) → s.slots + length ts ≤ max_slots → Faces s (tys_text (tys ts) ++ z) → Ends z
    → Goes (λ u v. IsOneResultType [] room u ts v) 0 (length ts) s z
unfolding tys_text more_tys_text
bare_result room [] s z bare h few f ends = absurd (cc)
bare_result room (t ∷ []) s z bare h few f ends =
    let (e, type, rest) = leaf_again room t (one_slot s) z (not_true (is_function t) bare) h.0 (slotted s (ty_text t ++ z) (subst (λ x. Faces s (x ++ z)) (append-nil (ty_text t)) f)) ends in
    record { end = moved (one_slot s) e; stands = (one_slot s, (omega arith, refl), inl type); is = rest; operations = omega arith; slots = refl }
bare_result room (t ∷ (u ∷ us)) s z bare h few f ends = absurd (cc)

result_types_by : (room : ℕ) (ts : List Ty) (s : Place) (z : List ℕ) (bare : Bool) → stands_bare (tys ts) ≡ bare → ArePrintableTys (if bare then suc room else room) (tys ts) → length ts ≤ max_parts → s.slots + length ts ≤ max_slots
    → Faces s (results_by bare (tys_text (tys ts)) ++ z) → Ends z → Goes (λ u v. AreResultTypes [] (suc room) u ts v) 0 (length ts) s z
result_types_by room ts s z true is h parts few f ends =
    let g = bare_result (suc room) ts s z is h few f ends in
    record { end = g.end; stands = inl g.stands; is = g.is; operations = g.operations; slots = g.slots }
result_types_by room ts s z false is h parts few f ends =
    let text = joined (λ j t. ty_text t) 0 ts ++ (41 ∷ z) in
    let (a, left, r1) = marked k.LeftParen (40 ∷ []) s text (subst (λ t. Faces s (40 ∷ t)) (append_assoc (tys_text (tys ts)) (41 ∷ []) z ∙ ap (λ x. x ++ (41 ∷ z)) (all_types ts)) f) (refl, λ at. refl) in
    let m = list_again (λ j t. ty_text t) (λ j t. IsPrintableTy room t) IsSame (IsResultType (IsTy [] room)) 1 (one_result room) ts (moved s a) (41 ∷ z) (type_facts room 0 ts h) (omega (arith, full_weight ts)) r1 (paren_closes z) in
    let same = same_all 0 ts m.made m.fits in
    let (c, right, r3) = marked k.RightParen (41 ∷ []) m.goes.end z (faces m.goes.end (41 ∷ z) m.goes.is) (refl, λ at. refl) in
    record {
      end = moved m.goes.end c;
      stands = inr (moved s a, m.goes.end, left, (subst (λ x. AreListed (IsResultType (IsTy [] room)) (moved s a) x m.goes.end) same m.goes.stands, parts), right);
      is = r3;
      operations = omega (arith, m.goes.operations);
      slots = omega (arith, m.goes.slots, full_weight ts);
    }

pub result_types_again : (room : ℕ) (ts : List Ty) (s : Place) (z : List ℕ) → ArePrintableTys (if stands_bare (tys ts) then suc room else room) (tys ts) → length ts ≤ max_parts → s.slots + length ts ≤ max_slots
    → Faces s (results_by (stands_bare (tys ts)) (tys_text (tys ts)) ++ z) → Ends z → Goes (λ u v. AreResultTypes [] (suc room) u ts v) 0 (length ts) s z
result_types_again room ts s z h parts few f ends = result_types_by room ts s z (stands_bare (tys ts)) refl h parts few f ends
