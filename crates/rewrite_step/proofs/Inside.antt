-- Whether a row stands inside another, by the rows before a place.
use Rattle.std.proofs.Common.{◌≡◌, ℕ, suc, ◌<◌, Bool, cond, List, [], ◌∷◌, length, get_or, take, reverse, sym, ap, ◌∙◌}
use Rattle.std.specs.Prelude.{◌==◌}
use Rattle.std.specs.Option.{option_map_or}
use Rattle.std.specs.List.{list_any}
use Rattle.std.proofs.lemmas.List.{reverse-append}
use Rattle.std.proofs.Math.Seq.{take-suc, take-length}
use Rattle.mlir_tree.specs.declared.row.Row.{Row}
use Rattle.mlir_tree.specs.Module.{homes_around, enclosing, is_contained}

-- whether the row of a number stands inside a row, where only so many rows are looked at
abbrev pub inside : List Row → ℕ → ℕ → ℕ → Bool
inside rows at u d = list_any (λ h. h.row == d) (homes_around (reverse (take at rows)) u)

pub all_looked_at : (rows : List Row) (u d : ℕ) → is_contained rows u d ≡ inside rows (length rows) u d
unfolding enclosing
all_looked_at rows u d = ap (λ rs. list_any (λ h. h.row == d) (homes_around (reverse rs) u)) (sym (take-length rows))

last_first : (rows : List Row) (at j : ℕ) (e : Row) → at ≡ suc j → j < length rows → reverse (take at rows) ≡ get_or rows j e ∷ reverse (take j rows)
last_first rows at j e is h = ap (λ n. reverse (take n rows)) is ∙ (ap reverse (take-suc rows j e h) ∙ reverse-append (take j rows) (get_or rows j e ∷ []))

-- what the last of them tells
abbrev pub last : List Row → ℕ → ℕ → ℕ → Row → Bool → Bool
last rows j u d r is = list_any (λ h. h.row == d) (cond is (option_map_or (λ h. h ∷ homes_around (reverse (take j rows)) h.row) r.home []) (homes_around (reverse (take j rows)) u))

pub one_back : (rows : List Row) (at j u d : ℕ) (e : Row) → at ≡ suc j → j < length rows → inside rows at u d ≡ last rows j u d (get_or rows j e) ((get_or rows j e).id == u)
one_back rows at j u d e is h = ap (λ rs. list_any (λ h. h.row == d) (homes_around rs u)) (last_first rows at j e is h)
