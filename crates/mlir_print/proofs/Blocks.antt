-- The rows of a region, printed one behind another.
use Rattle.std.proofs.Common.{◌≡◌, ℕ, suc, ◌+◌, ◌<◌, ◌≤◌, true, false, not, List, [], ◌∷◌, ◌++◌, length, drop, get_or, refl, sym, ap, ◌∙◌, inl, inr, arith}
use Rattle.std.specs.Prelude.{nat_lt}
use Rattle.std.specs.Option.{option_map_or}
use Rattle.std.proofs.lemmas.Bool.Decides.{nat_tests}
use Rattle.std.proofs.lemmas.Option.{slice_get-get_or, slice_get_read, get_or_from_slice_get}
use Rattle.mlir_tree.specs.declared.row.Row.{Row}
use Rattle.mlir_tree.specs.Tree.{Ty}
use Rattle.mlir_tree.specs.Module.{has_argument}
use Rattle.mlir_tree.specs.WellFormed.{AreDistinct, AreNested}
use Rattle.mlir_print.specs.ModuleText.{is_empty, region_of, row_text, rows_in, inside_text}
use Rattle.mlir_print.specs.Printable.{AreArguments}
use Rattle.mlir_print.specs.Cursor.{stands_at, IsOpen, AreEarlier, EndsRow, row_text_at}
use Rattle.mlir_tree.proofs.Places.{true_or_false, IsAt, found_at}
use Rattle.mlir_print.proofs.Closing.{standing, close_region, none_left}
use Rattle.mlir_print.proofs.RowTexts.{rows_from, rows_first, rows_none}
use Rattle.mlir_print.proofs.Parts.{row_filled}

-- where the next row stands elsewhere, no text is left
pub ended : (rows : List Row) → AreDistinct rows → AreNested rows → (i g cur depth : ℕ) (r : Row) → IsAt rows i r → i < cur → IsOpen rows i g cur
    → stands_at rows cur (region_of r g) ≡ false → [] ≡ inside_text rows cur depth r g
ended rows apart nested i g cur depth r at_r lt opened none =
    sym (rows_none rows rows cur depth (region_of r g) (none_left rows i g cur r at_r lt (close_region rows apart nested i g cur r at_r lt opened none)))

-- a region has no text exactly where the next row stands elsewhere
pub inside_blank : (rows : List Row) → AreDistinct rows → AreNested rows → (i g cur depth : ℕ) (r : Row) → IsAt rows i r → i < cur → IsOpen rows i g cur
    → is_empty (inside_text rows cur depth r g) ≡ not (stands_at rows cur (region_of r g))
inside_blank rows apart nested i g cur depth r at_r lt opened = elim (true_or_false (stands_at rows cur (region_of r g))) [
  | inl stands ↦
      let s = standing rows cur (region_of r g) stands in
      ap is_empty (rows_first rows rows cur depth (region_of r g) s.row s.there stands)
      ∙ (row_filled rows depth s.row (λ k. rows_in rows (drop (suc cur) rows) (suc depth) (region_of s.row k)) (rows_in rows (drop (suc cur) rows) depth (region_of r g))
      ∙ sym (ap not stands))
  | inr none ↦ ap is_empty (sym (ended rows apart nested i g cur depth r at_r lt opened none)) ∙ sym (ap not none)
]

-- the next row and what is behind it
pub passed : (rows : List Row) (i g cur to depth : ℕ) (r : Row) → IsAt rows i r → i < cur → stands_at rows cur (region_of r g) ≡ true → EndsRow rows cur to
    → row_text_at rows depth cur ++ inside_text rows to depth r g ≡ inside_text rows cur depth r g
passed rows i g cur to depth r at_r lt stands ends =
    let h = region_of r g in
    let s = standing rows cur h stands in
    let next : cur + 1 ≡ suc cur = omega arith in
    let deeper : depth + 1 ≡ suc depth = omega arith in
    let row : row_text_at rows depth cur ≡ row_text rows depth s.row (λ k. rows_in rows (drop (suc cur) rows) (suc depth) (region_of s.row k))
    = ap (λ o. option_map_or (λ (t : Row). row_text rows depth t (inside_text rows (cur + 1) (depth + 1) t)) o []) s.there
    ∙ (λ j. row_text rows depth s.row (λ k. rows_in rows (drop (next j) rows) (deeper j) (region_of s.row k))) in
    let skip : rows_in rows (drop to rows) depth h ≡ rows_in rows (drop (suc cur) rows) depth h
    = sym (rows_from rows rows (suc cur) to depth h (omega (arith, ends.later)) (λ j le less. ends.inside i r g at_r lt j (omega (arith, le)) less)) in
    (λ j. row j ++ skip j) ∙ sym (rows_first rows rows cur depth h s.row s.there stands)

-- the rows of earlier regions have no text here
pub skipped : (rows : List Row) (i g cur depth : ℕ) (r : Row) → IsAt rows i r → i + 1 ≤ cur → AreEarlier rows i g (i + 1) cur
    → inside_text rows cur depth r g ≡ inside_text rows (i + 1) depth r g
skipped rows i g cur depth r at_r le earlier = sym (rows_from rows rows (i + 1) cur depth (region_of r g) le (earlier r g at_r (omega arith)))

-- ---- the arguments of a region

pub arguments_at : (xs ys : List (List Ty)) (g : ℕ) (x zs : List Ty) → xs ≡ ys → x ≡ get_or xs g x → zs ≡ x → g < length ys → zs ≡ get_or ys g []
arguments_at xs ys g x zs e is z lt = z ∙ sym (get_or_from_slice_get ys g x [] (slice_get_read ys (length ys) g x refl lt (is ∙ ap (λ l. get_or l g x) e)))

pub arguments_there : (rows : List Row) → AreDistinct rows → (i : ℕ) (r : Row) → IsAt rows i r → (g : ℕ) (zs : List Ty) → zs ≡ get_or r.regions g [] → g < length r.regions → AreArguments rows r.id g zs
arguments_there rows apart i r at_r g zs e lt k less =
    let within : nat_lt k (length zs) ≡ true = grind (arith, nat_tests, less) in
    ap (λ o. option_map_or (has_argument g k) o false) (found_at rows apart i r at_r)
    ∙ (ap (λ o. option_map_or (λ arguments. nat_lt k (length arguments)) o false) (slice_get-get_or r.regions g [] lt)
    ∙ (ap (λ l. nat_lt k (length l)) (sym e) ∙ within))

pub some_items : {X : Type 0} (xs : List X) → (xs ≡ [] → ⊥) → is_empty xs ≡ false
some_items [] other = absurd (other refl)
some_items (x ∷ xs) other = grind (arith, nat_tests)
