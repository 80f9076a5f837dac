-- The text of a row with the rows inside it spells an operation.
use Rattle.std.proofs.Common.{◌≡◌, ℕ, suc, ◌+◌, ◌<◌, ◌≤◌, Bool, true, false, if◌then◌else◌, List, [], ◌∷◌, ◌++◌, length, refl, sym, subst, arith, append_assoc, eqb-true, inl, inr}
use Rattle.std.specs.Prelude.{codes, ◌&&◌}
use Rattle.std.proofs.lemmas.Bool.{and_parts}
use Rattle.text_scan.specs.Bytes.{AllAre, is_space}
use Rattle.mlir_lexer.specs.declared.token.TokenKind.TheVariants as k
use Rattle.mlir_tree.specs.declared.row.Row.{Row}
use Rattle.mlir_tree.specs.Tree.{Ty, tys, Attr, entries}
use Rattle.mlir_tree.specs.Range.{AreRising}
use Rattle.mlir_tree.specs.WellFormed as rows
use Rattle.mlir_print.specs.Text.{string_text, tys_text, entries_text, stands_bare, results_by}
use Rattle.mlir_print.specs.ModuleText.{indent, results_text, listed, value_text, value_type_text, function_text, properties_text, attributes_text, label_text, is_empty, region_text, head_text, tail_text}
use Rattle.mlir_parse.specs.declared.syn.SynArg.{SynArg}
use Rattle.mlir_attributes.specs.Place.{Place, moved, start}
use Rattle.mlir_attributes.specs.Grammar.{IsMark}
use Rattle.mlir_attributes.specs.Steps.{max_slots, max_operations, one_operation}
use Rattle.mlir_parse.specs.SynTree.{Operations}
use Rattle.mlir_parse.specs.OperationGrammar.{IsOperand, AreOperands, IsOperationName, AreProperties, AreAttributes, IsRegion, AreOperations}
use Rattle.round_trip.specs.Printable.{AreBytes, ArePrintableEntries}
use Rattle.round_trip.proofs.Places.{Is, Faces, faces, space, spelled, marked, lacks}
use Rattle.round_trip.proofs.Tokens.{string_begins}
use Rattle.round_trip.proofs.Strings.{string_is, string_means}
use Rattle.round_trip.proofs.Ends.{is_end}
use Rattle.round_trip.proofs.Parts.{Goes, Member, Fits, joined, list_again, fits_length, paren_closes}
use Rattle.round_trip.proofs.Uses.{IsUsable, IsUseOf, use_again}
use Rattle.round_trip.proofs.Nexts.{Next, is_tail, is_region, is_property, next_lacks, tail_region, region_property, colon_next, brace_next, paren_next, less_next}
use Rattle.round_trip.proofs.Dictionaries.{Maybe, attributes_again, properties_again}
use Rattle.round_trip.proofs.Results.{all_listed, full_weight}
use Rattle.round_trip.proofs.RowTree.{Branches, no_branches, branch_then, Trees, in_parens, trees_text, trees_count, trees_slots, ArePropertiesReady, IsRowReady, AreArgumentsReady, IsArgumentOf, AreTreesOf}
use Rattle.round_trip.proofs.Regions.{indented, label_again}

-- ---- the text of an operation, part by part

abbrev pub behind_colon : List Row → Row → List ℕ → List ℕ
behind_colon all r z = 40 ∷ (listed (value_type_text all) 0 r.operands ++ (41 ∷ 32 ∷ 45 ∷ 62 ∷ 32 ∷ (results_by (stands_bare (tys r.results)) (tys_text (tys r.results)) ++ (10 ∷ z))))

abbrev pub behind_regions : List Row → Row → List ℕ → List ℕ
behind_regions all r z = attributes_text r.attrs ++ (32 ∷ 58 ∷ 32 ∷ behind_colon all r z)

abbrev pub behind_name : List Row → Row → List ℕ → List ℕ → List ℕ
behind_name all r regions z = 40 ∷ (listed (value_text all) 0 r.operands ++ (41 ∷ (properties_text r.props ++ (regions ++ behind_regions all r z))))

pub part_text : (all : List Row) (depth : ℕ) (r : Row) (regions z : List ℕ)
    → (head_text all depth r ++ (regions ++ tail_text all r)) ++ z ≡ indent depth ++ (results_text all r ++ (string_text r.name ++ behind_name all r regions z))
unfolding head_text tail_text function_text
part_text all depth r regions z = simp append_assoc

-- ---- what stands behind a part

pub tail_next : (all : List Row) (r : Row) (z : List ℕ) → Next is_tail (behind_regions all r z)
unfolding attributes_text
tail_next all r z = by_attributes r.attrs
  where
    by_attributes : (es : List (List ℕ × Attr)) → Next is_tail (attributes_text es ++ (32 ∷ 58 ∷ 32 ∷ behind_colon all r z))
    by_attributes [] = colon_next (behind_colon all r z)
    by_attributes (e ∷ es) = brace_next ((entries_text (entries (e ∷ es)) ++ codes "}") ++ (32 ∷ 58 ∷ 32 ∷ behind_colon all r z))

pub regions_next : (bs : Branches) (text y : List ℕ) → Next is_tail y → Next is_region (in_parens bs text ++ y)
regions_next no_branches text y next = tail_region y next
regions_next (branch_then args ts bs) text y next = paren_next ((text ++ codes ")") ++ y)

pub properties_next : (es : List (List ℕ × Attr)) (y : List ℕ) → Next is_region y → Next is_property (properties_text es ++ y)
unfolding properties_text
properties_next [] y next = region_property y next
properties_next (e ∷ es) y next = less_next ((123 ∷ (entries_text (entries (e ∷ es)) ++ codes "}>")) ++ y)

-- ---- properties and attributes, where they may be left out

pub properties_part : (room : ℕ) (es : List (List ℕ × Attr)) (s : Place) (z : List ℕ) → AreRising (rows.names es) → ArePropertiesReady room es → s.slots ≤ max_slots
    → Faces s (properties_text es ++ z) → Next is_region z → Maybe (λ u made v. AreProperties [] (suc room) u made v) es s z
unfolding properties_text
properties_part room [] s z rising h few f next =
    record { made = []; pairs = refl; end = s; stands = inl (next_lacks is_region k.Less s z refl next f, refl, refl); is = f; operations = refl; slots = refl }
properties_part room (e ∷ es) s z rising (less, same, h) few f next =
    subst (λ n. Maybe (λ u made v. AreProperties [] (suc n) u made v) (e ∷ es) s z) same (properties_again less (e ∷ es) s z rising h few f next)

pub attributes_part : (room : ℕ) (es : List (List ℕ × Attr)) (s : Place) (z : List ℕ) → AreRising (rows.names es) → ArePrintableEntries room (entries es) → s.slots ≤ max_slots
    → Faces s (attributes_text es ++ (32 ∷ 58 ∷ 32 ∷ z)) → Maybe (λ u made v. AreAttributes [] (suc room) u made v) es s (32 ∷ 58 ∷ 32 ∷ z)
unfolding attributes_text
attributes_part room [] s z rising h few f =
    attributes_again room [] s z rising h few f (colon_next z) (inl (lacks k.LeftBrace s (58 ∷ 32 ∷ z) (space 32 s (58 ∷ 32 ∷ z) refl f) refl (λ at. refl)))
attributes_part room (e ∷ es) s z rising h few f = attributes_again room (e ∷ es) s z rising h few f (colon_next z) (inr (omega arith))

-- ---- before the regions

counted : (s : Place) (z : List ℕ) → Faces s z → Faces (one_operation s) z
counted s z f = record { at = f.at; same = f.same; is = record { stands = f.is.stands; within = f.is.within }; within = f.within }

-- the name of an operation
pub name_part : (name : List ℕ) (s : Place) (z : List ℕ) → AreBytes name → 0 < length name → s.operations < max_operations → Faces s (string_text name ++ z)
    → (e : ℕ) × IsOperationName (start (one_operation s)) name s (moved (one_operation s) e) × Is (moved (one_operation s) e) z
name_part name s z bytes some few f =
    let (e, there, rest) = spelled k.String (string_text name) (one_operation s) z (counted s (string_text name ++ z) f) (string_begins (string_text name) z (string_is name bytes)) in
    (e, (one_operation s, string_text name, few, refl, refl, there, string_means name bytes, some), rest)

-- the operands
pub operands_part : (all : List Row) (room : ℕ) (r : Row) (s : Place) (z : List ℕ) → IsRowReady all room r → s.slots + length r.operands ≤ max_slots → Is s (40 ∷ (listed (value_text all) 0 r.operands ++ (41 ∷ z)))
    → Member (Fits (λ i v x. IsUseOf all v x) 0 r.operands) (λ u made v. AreOperands (suc room) u made v) (length r.operands) s z
operands_part all room r s z ready few is =
    let text = joined (λ j v. value_text all v) 0 r.operands ++ (41 ∷ z) in
    let (a, left, r1) = marked k.LeftParen (40 ∷ []) s text (subst (λ t. Faces s (40 ∷ (t ++ (41 ∷ z)))) (all_listed (value_text all) r.operands) (faces s (40 ∷ (listed (value_text all) 0 r.operands ++ (41 ∷ z))) is)) (refl, λ at. refl) in
    let m = list_again (λ j v. value_text all v) (λ i v. IsUsable all v) (λ i v x. IsUseOf all v x) IsOperand 1 (λ i v u y h lt f ends. use_again all v u y h lt f ends) r.operands (moved s a) (41 ∷ z) ready.usable
    (omega (arith, full_weight r.operands)) r1 (paren_closes z) in
    let (c, right, r3) = marked k.RightParen (41 ∷ []) m.goes.end z (faces m.goes.end (41 ∷ z) m.goes.is) (refl, λ at. refl) in
    record {
      made = m.made;
      fits = m.fits;
      goes = record {
        end = moved m.goes.end c;
        stands = (moved s a, m.goes.end, left, (m.goes.stands, omega (arith, fits_length (λ i v x. IsUseOf all v x) 0 r.operands m.made m.fits, ready.few_operands)), right);
        is = r3;
        operations = omega (arith, m.goes.operations);
        slots = omega (arith, m.goes.slots, full_weight r.operands);
      };
    }

-- ---- regions, where the rows inside them are read

-- What rows are read as; the place behind them stands before spaces.
pub record Rows (all : List Row) (room : ℕ) (ts : Trees) (s : Place) (z : List ℕ) : Type 0 where
  pub made : Operations
  pub fits : AreTreesOf all ts made
  pub end : Place
  pub stands : AreOperations [] room s made end
  pub is : Faces end z
  pub operations : end.operations ≡ s.operations + trees_count ts
  pub slots : end.slots ≡ s.slots + trees_slots ts

-- how the rows of a region are read, up to a closing brace behind spaces
abbrev pub ReadsRows : List Row → ℕ → ℕ → Trees → Type 0
ReadsRows all depth room ts =
    (s : Place) (gap z : List ℕ) → s.operations + trees_count ts ≤ max_operations → s.slots + trees_slots ts ≤ max_slots → AllAre is_space gap
    → Faces s (trees_text all depth ts ++ (gap ++ (125 ∷ z))) → Rows all room ts s (125 ∷ z)

abbrev pub NextRows : List Row → ℕ → Trees → Type 0
NextRows all depth ts = (gap z : List ℕ) → AllAre is_space gap → Next is_end (trees_text all depth ts ++ (gap ++ (125 ∷ z)))

-- What a region is read as.
pub record Region (all : List Row) (room d g : ℕ) (args : List Ty) (ts : Trees) (s : Place) (z : List ℕ) : Type 0 where
  pub arguments : List SynArg
  pub rows : Operations
  pub argument_fits : Fits (IsArgumentOf all d g) 0 args arguments
  pub row_fits : AreTreesOf all ts rows
  pub goes : Goes (λ u v. IsRegion [] (λ deep x y. AreOperations [] deep x rows y) room u arguments v) (trees_count ts) (trees_slots ts) s z

empty_is : {X : Type 0} (xs : List X) → is_empty xs ≡ true → xs ≡ []
empty_is [] h = refl
empty_is (x ∷ xs) h = absurd (let e = eqb-true (length (x ∷ xs)) 0 h in omega arith)

inside_part : (all : List Row) (depth room d g : ℕ) (args : List Ty) (ts : Trees) (s u : Place) (gap z : List ℕ) → AreArgumentsReady all room d g args → ReadsRows all (suc depth) room ts → NextRows all (suc depth) ts
    → u.operations ≡ s.operations → u.slots ≡ s.slots → s.operations + trees_count ts ≤ max_operations → s.slots + trees_slots ts ≤ max_slots → AllAre is_space gap → IsMark k.LeftBrace s u
    → Faces u (label_text all depth d g args ++ (trees_text all (suc depth) ts ++ (gap ++ (125 ∷ z)))) → Region all (suc room) d g args ts s z
inside_part all depth room d g args ts s u gap z ready read next same_operations same_slots few_operations few_slots all_spaces left f =
    let l = label_again all depth room d g args u (trees_text all (suc depth) ts ++ (gap ++ (125 ∷ z))) ready (omega (arith, few_slots, same_slots)) f (next gap z all_spaces) in
    let o = read l.end gap z (omega (arith, l.operations, same_operations, few_operations)) (omega (arith, l.slots, same_slots, few_slots)) all_spaces l.is in
    let (c, right, r3) = marked k.RightBrace (125 ∷ []) o.end z o.is (refl, λ at. refl) in
    record {
      arguments = l.made;
      rows = o.made;
      argument_fits = l.fits;
      row_fits = o.fits;
      goes = record {
        end = moved o.end c;
        stands = (u, o.end, left, (l.end, l.stands, o.stands), right);
        is = r3;
        operations = omega (arith, o.operations, l.operations, same_operations);
        slots = omega (arith, o.slots, l.slots, same_slots);
      };
    }

region_by : (all : List Row) (depth room d g : ℕ) (args : List Ty) (ts : Trees) (s : Place) (z : List ℕ) (blank : Bool) → (is_empty args && is_empty (trees_text all (suc depth) ts)) ≡ blank
    → AreArgumentsReady all room d g args → ReadsRows all (suc depth) room ts → NextRows all (suc depth) ts → s.operations + trees_count ts ≤ max_operations → s.slots + trees_slots ts ≤ max_slots
    → Faces s ((if blank then codes "{}" else codes "{\n" ++ (label_text all depth d g args ++ (trees_text all (suc depth) ts ++ (indent depth ++ codes "}")))) ++ z) → Region all (suc room) d g args ts s z
unfolding label_text
region_by all depth room d g args ts s z true is ready read next few_operations few_slots f =
    let parts = and_parts (is_empty args) (is_empty (trees_text all (suc depth) ts)) is in
    let no_args = empty_is args parts.0 in
    let no_text = empty_is (trees_text all (suc depth) ts) parts.1 in
    let (a, left, r1) = marked k.LeftBrace (123 ∷ []) s (125 ∷ z) f (refl, λ at. refl) in
    let inner : label_text all depth d g args ++ (trees_text all (suc depth) ts ++ ([] ++ (125 ∷ z))) ≡ 125 ∷ z = (λ j. label_text all depth d g (no_args j) ++ (no_text j ++ (125 ∷ z))) in
    inside_part all depth room d g args ts s (moved s a) [] z ready read next refl refl few_operations few_slots tt left (subst (Faces (moved s a)) (sym inner) (faces (moved s a) (125 ∷ z) r1))
region_by all depth room d g args ts s z false is ready read next few_operations few_slots f =
    let label = label_text all depth d g args in
    let inside = trees_text all (suc depth) ts in
    let text : (label ++ (inside ++ (indent depth ++ codes "}"))) ++ z ≡ label ++ (inside ++ (indent depth ++ (125 ∷ z))) = simp append_assoc in
    let rest = label ++ (inside ++ (indent depth ++ (125 ∷ z))) in
    let (a, left, r1) = marked k.LeftBrace (123 ∷ []) s (10 ∷ rest) (subst (λ t. Faces s (123 ∷ 10 ∷ t)) text f) (refl, λ at. refl) in
    inside_part all depth room d g args ts s (moved s a) (indent depth) z ready read next refl refl few_operations few_slots (indented depth) left (space 10 (moved s a) rest refl (faces (moved s a) (10 ∷ rest) r1))

pub region_again : (all : List Row) (depth room d g : ℕ) (args : List Ty) (ts : Trees) (s : Place) (z : List ℕ)
    → AreArgumentsReady all room d g args → ReadsRows all (suc depth) room ts → NextRows all (suc depth) ts → s.operations + trees_count ts ≤ max_operations → s.slots + trees_slots ts ≤ max_slots
    → Faces s (region_text all depth d g args (trees_text all (suc depth) ts) ++ z) → Region all (suc room) d g args ts s z
unfolding region_text
region_again all depth room d g args ts s z ready read next few_operations few_slots f =
    region_by all depth room d g args ts s z (is_empty args && is_empty (trees_text all (suc depth) ts)) refl ready read next few_operations few_slots f
