-- Texts of the parts of a row.
use Rattle.std.proofs.lemmas.Bool.Decides.{nat_tests}
use Rattle.std.proofs.lemmas.List.{at_drop_more}
use Rattle.std.proofs.Common.{◌≡◌, true, false, ◌&&◌, cond, ℕ, zero, suc, ◌+◌, ◌-◌, ◌*◌, ◌<◌, ◌≤◌, List, [], ◌∷◌, ◌++◌, codes, length, drop, replicate, get_or, refl, sym, ap, ◌∙◌, arith}
use Rattle.mlir_tree.specs.declared.row.Row.{Row}
use Rattle.mlir_tree.specs.Tree.{Ty, Attr, entries}
use Rattle.mlir_print.specs.Text.{entries_text}
use Rattle.mlir_print.specs.Numbering.{argument_number}
use Rattle.mlir_print.specs.ModuleText.{is_empty, indent, separator, listed, function_text, properties_text, attributes_text, argument_text, arguments_text, label_text, region_text, region_texts, regions_text, head_text, tail_text, row_text}
use Rattle.mlir_print.proofs.Lists.{rest_at}

pub indent_more : (n : ℕ) → 0 < n → codes "  " ++ indent (n - 1) ≡ indent n
indent_more n h = let e : suc (suc (2 * (n - 1))) ≡ 2 * n = omega (arith, h) in ap (λ k. replicate k 32) e

pub listed_more : {X : Type 0} (text : X → List ℕ) (xs : List X) (i : ℕ) (d : X) → i < length xs
    → separator i ++ (text (get_or xs i d) ++ listed text (i + 1) (drop (i + 1) xs)) ≡ listed text i (drop i xs)
listed_more text xs i d h =
    let e : i + 1 ≡ suc i = omega arith in
    ap (λ k. separator i ++ (text (get_or xs i d) ++ listed text k (drop (i + 1) xs))) e ∙ sym (at_drop_more (listed text i) xs i d h)

nothing_left : {X : Type 0} (xs : List X) (i : ℕ) → length xs ≤ i → drop i xs ≡ []
nothing_left [] zero h = refl
nothing_left [] (suc i) h = refl
nothing_left (x ∷ xs) zero h = absurd (omega (arith, h))
nothing_left (x ∷ xs) (suc i) h = nothing_left xs i (omega (arith, h))

pub listed_end : {X : Type 0} (text : X → List ℕ) (xs : List X) (i : ℕ) → length xs ≤ i → [] ≡ listed text i (drop i xs)
listed_end text xs i h = ap (listed text i) (sym (nothing_left xs i h))

pub arguments_more : (all : List Row) (d g : ℕ) (xs : List Ty) (i : ℕ) (x : Ty) → i < length xs → x ≡ get_or xs i x
    → separator i ++ (argument_text (argument_number all d g i) x ++ arguments_text all d g (i + 1) (drop (i + 1) xs)) ≡ arguments_text all d g i (drop i xs)
unfolding arguments_text
arguments_more all d g xs i x h is =
    let e : i + 1 ≡ suc i = omega arith in
    ap (λ k. separator i ++ (argument_text (argument_number all d g i) x ++ arguments_text all d g k (drop (i + 1) xs))) e ∙ rest_at (arguments_text all d g i) xs i x h is

pub arguments_end : (all : List Row) (d g : ℕ) (xs : List Ty) (i : ℕ) → length xs ≤ i → [] ≡ arguments_text all d g i (drop i xs)
unfolding arguments_text
arguments_end all d g xs i h = ap (arguments_text all d g i) (sym (nothing_left xs i h))

pub properties_some : (es : List (List ℕ × Attr)) → 1 ≤ length es → codes " <{" ++ (entries_text (entries es) ++ codes "}>") ≡ properties_text es
unfolding properties_text
properties_some [] h = absurd (omega (arith, h))
properties_some (e ∷ es) h = refl

pub properties_none : (es : List (List ℕ × Attr)) → length es ≡ 0 → [] ≡ properties_text es
unfolding properties_text
properties_none [] h = refl
properties_none (e ∷ es) h = absurd (omega (arith, h))

pub attributes_some : (es : List (List ℕ × Attr)) → 1 ≤ length es → codes " {" ++ (entries_text (entries es) ++ codes "}") ≡ attributes_text es
unfolding attributes_text
attributes_some [] h = absurd (omega (arith, h))
attributes_some (e ∷ es) h = refl

pub attributes_none : (es : List (List ℕ × Attr)) → length es ≡ 0 → [] ≡ attributes_text es
unfolding attributes_text
attributes_none [] h = refl
attributes_none (e ∷ es) h = absurd (omega (arith, h))

pub label_some : (all : List Row) (depth d g : ℕ) (xs : List Ty) → 1 ≤ length xs → indent depth ++ (codes "^bb0(" ++ (arguments_text all d g 0 xs ++ codes "):\n")) ≡ label_text all depth d g xs
unfolding label_text
label_some all depth d g [] h = absurd (omega (arith, h))
label_some all depth d g (x ∷ xs) h = refl

pub label_none : (all : List Row) (depth d g : ℕ) (xs : List Ty) → length xs ≡ 0 → [] ≡ label_text all depth d g xs
unfolding label_text
label_none all depth d g [] h = refl
label_none all depth d g (x ∷ xs) h = absurd (omega (arith, h))

-- ---- regions

pub regions_more : (all : List Row) (depth d : ℕ) (inside : ℕ → List ℕ) (xs : List (List Ty)) (g : ℕ) → g < length xs
    → separator g ++ (region_text all depth d g (get_or xs g []) (inside g) ++ region_texts all depth d inside (g + 1) (drop (g + 1) xs))
    ≡ region_texts all depth d inside g (drop g xs)
unfolding region_texts
regions_more all depth d inside xs g h =
    let e : g + 1 ≡ suc g = omega arith in
    ap (λ k. separator g ++ (region_text all depth d g (get_or xs g []) (inside g) ++ region_texts all depth d inside k (drop (g + 1) xs))) e
    ∙ sym (at_drop_more (region_texts all depth d inside g) xs g [] h)

pub regions_end : (all : List Row) (depth d : ℕ) (inside : ℕ → List ℕ) (xs : List (List Ty)) (g : ℕ) → length xs ≤ g → [] ≡ region_texts all depth d inside g (drop g xs)
unfolding region_texts
regions_end all depth d inside xs g h = ap (region_texts all depth d inside g) (sym (nothing_left xs g h))

pub some_regions : (all : List Row) (depth : ℕ) (r : Row) (inside : ℕ → List ℕ) → is_empty r.regions ≡ false
    → codes " (" ++ (region_texts all depth r.id inside 0 r.regions ++ codes ")") ≡ regions_text all depth r inside
unfolding regions_text
some_regions all depth r inside h = λ i. cond (sym h i) [] (codes " (" ++ (region_texts all depth r.id inside 0 r.regions ++ codes ")"))

pub no_regions : (all : List Row) (depth : ℕ) (r : Row) (inside : ℕ → List ℕ) → is_empty r.regions ≡ true → [] ≡ regions_text all depth r inside
unfolding regions_text
no_regions all depth r inside h = λ i. cond (sym h i) [] (codes " (" ++ (region_texts all depth r.id inside 0 r.regions ++ codes ")"))

pub some_region : (all : List Row) (depth d g : ℕ) (arguments : List Ty) (inside : List ℕ) → (is_empty arguments && is_empty inside) ≡ false
    → codes "{\n" ++ (label_text all depth d g arguments ++ (inside ++ (indent depth ++ codes "}"))) ≡ region_text all depth d g arguments inside
unfolding region_text
some_region all depth d g arguments inside h = λ i. cond (sym h i) (codes "{}") (codes "{\n" ++ (label_text all depth d g arguments ++ (inside ++ (indent depth ++ codes "}"))))

pub no_region : (all : List Row) (depth d g : ℕ) (arguments : List Ty) (inside : List ℕ) → (is_empty arguments && is_empty inside) ≡ true
    → codes "{}" ≡ region_text all depth d g arguments inside
unfolding region_text
no_region all depth d g arguments inside h = λ i. cond (sym h i) (codes "{}") (codes "{\n" ++ (label_text all depth d g arguments ++ (inside ++ (indent depth ++ codes "}"))))

-- ---- the text of a row isn't empty

some_member : (x : ℕ) (xs : List ℕ) → is_empty (x ∷ xs) ≡ false
some_member x xs = grind (arith, nat_tests)

filled : (xs ys : List ℕ) → is_empty ys ≡ false → is_empty (xs ++ ys) ≡ false
filled [] ys h = h
filled (x ∷ xs) ys h = some_member x (xs ++ ys)

front_filled : (xs ys : List ℕ) → is_empty xs ≡ false → is_empty (xs ++ ys) ≡ false
front_filled [] ys h = let no : true ≡ false = h in absurd (cc)
front_filled (x ∷ xs) ys h = some_member x (xs ++ ys)

pub row_filled : (all : List Row) (depth : ℕ) (r : Row) (inside : ℕ → List ℕ) (more : List ℕ) → is_empty (row_text all depth r inside ++ more) ≡ false
unfolding row_text tail_text
row_filled all depth r inside more =
    front_filled (row_text all depth r inside) more
    (filled (head_text all depth r) (regions_text all depth r inside ++ tail_text all r) (filled (regions_text all depth r inside) (tail_text all r)
    (filled (attributes_text r.attrs) (codes " : " ++ (function_text all r ++ codes "\n")) (some_member 32 (codes ": " ++ (function_text all r ++ codes "\n"))))))
