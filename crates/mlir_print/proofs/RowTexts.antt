-- The text of the rows of a region, by the place of the next one.
use Rattle.std.proofs.Common.{◌≡◌, ℕ, zero, suc, ◌+◌, ◌-◌, ◌≤◌, true, false, cond, List, [], ◌∷◌, ◌++◌, drop, refl, sym, ap, subst, ◌∙◌, arith}
use Rattle.std.proofs.lemmas.Option.{same_Some}
use Rattle.mlir_tree.specs.declared.row.Home.{Home}
use Rattle.mlir_tree.specs.declared.row.Row.{Row}
use Rattle.mlir_print.specs.ModuleText.{region_of, row_text, rows_in}
use Rattle.mlir_print.specs.Cursor.{stands_at, NoneStand}
use Rattle.mlir_tree.proofs.Places.{IsAt, nothing_at}

-- the next row stands elsewhere
rows_other : (all rows : List Row) (a depth : ℕ) (h : Home) → stands_at rows a h ≡ false → rows_in all (drop a rows) depth h ≡ rows_in all (drop (suc a) rows) depth h
unfolding rows_in
rows_other all [] zero depth h p = refl
rows_other all [] (suc a) depth h p = refl
rows_other all (x ∷ xs) zero depth h p = λ i. cond (p i) (row_text all depth x (λ g. rows_in all xs (suc depth) (region_of x g))) [] ++ rows_in all xs depth h
rows_other all (x ∷ xs) (suc a) depth h p = rows_other all xs a depth h p

pub rows_skip : (all rows : List Row) (n a depth : ℕ) (h : Home) → NoneStand rows h a (a + n) → rows_in all (drop a rows) depth h ≡ rows_in all (drop (a + n) rows) depth h
rows_skip all rows zero a depth h none = ap (λ b. rows_in all (drop b rows) depth h) (let e : a ≡ a + 0 = omega arith in e)
rows_skip all rows (suc n) a depth h none =
    let e : suc a + n ≡ a + suc n = omega arith in
    rows_other all rows a depth h (none a (omega arith) (omega arith))
    ∙ (rows_skip all rows n (suc a) depth h (λ j le lt. none j (omega (arith, le)) (omega (arith, lt))) ∙ ap (λ b. rows_in all (drop b rows) depth h) e)

pub rows_from : (all rows : List Row) (a b depth : ℕ) (h : Home) → a ≤ b → NoneStand rows h a b → rows_in all (drop a rows) depth h ≡ rows_in all (drop b rows) depth h
rows_from all rows a b depth h le none =
    let e : a + (b - a) ≡ b = omega (arith, le) in
    rows_skip all rows (b - a) a depth h (subst (NoneStand rows h a) (sym e) none) ∙ ap (λ c. rows_in all (drop c rows) depth h) e

-- the next row stands here
pub rows_first : (all rows : List Row) (a depth : ℕ) (h : Home) (r : Row) → IsAt rows a r → stands_at rows a h ≡ true
    → rows_in all (drop a rows) depth h
    ≡ row_text all depth r (λ g. rows_in all (drop (suc a) rows) (suc depth) (region_of r g)) ++ rows_in all (drop (suc a) rows) depth h
unfolding rows_in
rows_first all [] a depth h r p q = absurd (nothing_at a r p)
rows_first all (x ∷ xs) zero depth h r p q =
    (λ i. cond (q i) (row_text all depth x (λ g. rows_in all xs (suc depth) (region_of x g))) [] ++ rows_in all xs depth h)
    ∙ ap (λ (t : Row). row_text all depth t (λ g. rows_in all xs (suc depth) (region_of t g)) ++ rows_in all xs depth h) (same_Some x r p)
rows_first all (x ∷ xs) (suc a) depth h r p q = rows_first all xs a depth h r p q

-- no further row stands here
pub rows_none : (all rows : List Row) (a depth : ℕ) (h : Home) → ((j : ℕ) → a ≤ j → stands_at rows j h ≡ false) → rows_in all (drop a rows) depth h ≡ []
unfolding rows_in
rows_none all [] zero depth h none = refl
rows_none all [] (suc a) depth h none = refl
rows_none all (x ∷ xs) zero depth h none =
    (λ i. cond (none 0 (omega arith) i) (row_text all depth x (λ g. rows_in all xs (suc depth) (region_of x g))) [] ++ rows_in all xs depth h)
    ∙ rows_none all xs 0 depth h (λ j le. none (suc j) (omega arith))
rows_none all (x ∷ xs) (suc a) depth h none = rows_none all xs a depth h (λ j le. none (suc j) (omega (arith, le)))
