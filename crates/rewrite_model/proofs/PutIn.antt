-- What is read of rows among which a new row was put.
use Rattle.std.proofs.Common.{◌≡◌, ◌≢◌, ℕ, Bool, true, false, ◌&&◌, ◌||◌, cond, List, [], ◌∷◌, ◌++◌, reverse, Option, Some, None, refl, sym, ap, ◌∙◌, eq-eqb, append_assoc}
use Rattle.std.specs.Prelude.{◌==◌}
use Rattle.std.specs.Option.{option_map_or}
use Rattle.std.specs.List.{list_any}
use Rattle.std.proofs.lemmas.Bool.{ne_eqb}
use Rattle.std.proofs.lemmas.List.{reverse-append}
use Rattle.std.proofs.lemmas.List.Folds.{list_any-append}
use Rattle.mlir_tree.specs.declared.row.Home.{Home}
use Rattle.mlir_tree.specs.declared.row.Row.{Row}
use Rattle.mlir_tree.specs.Module.{row_of, has_row, is_earlier, homes_around, enclosing}
use Rattle.mlir_tree.specs.Laws.{is_parent}
use Rattle.mlir_tree.proofs.Visibility.{reverse-cons, or_false}

-- the number of the row that is put in is no other's
not_asked : (x : Row) (u : ℕ) → u ≢ x.id → (x.id == u) ≡ false
not_asked x u other = ne_eqb x.id u (λ p. other (sym p))

pub row_of-inserted : (ys zs : List Row) (x : Row) (u : ℕ) → u ≢ x.id → row_of (ys ++ x ∷ zs) u ≡ row_of (ys ++ zs) u
row_of-inserted [] zs x u other = λ i. cond (not_asked x u other i) (Some x) (row_of zs u)
row_of-inserted (y ∷ ys) zs x u other = λ i. cond (y.id == u) (Some y) (row_of-inserted ys zs x u other i)

pub has_row-inserted : (ys zs : List Row) (x : Row) (u : ℕ) → u ≢ x.id → has_row (ys ++ x ∷ zs) u ≡ has_row (ys ++ zs) u
has_row-inserted [] zs x u other = λ i. not_asked x u other i || has_row zs u
has_row-inserted (y ∷ ys) zs x u other = λ i. (y.id == u) || has_row-inserted ys zs x u other i

pub is_earlier-inserted : (ys zs : List Row) (x : Row) (d u : ℕ) → d ≢ x.id → u ≢ x.id → is_earlier (ys ++ x ∷ zs) d u ≡ is_earlier (ys ++ zs) d u
is_earlier-inserted [] zs x d u p q = λ i. (not_asked x d p i && has_row zs u) || is_earlier zs d u
is_earlier-inserted (y ∷ ys) zs x d u p q = λ i. ((y.id == d) && has_row-inserted ys zs x u q i) || is_earlier-inserted ys zs x d u p q i

-- a home and the homes around it, where no home is that of row n
home_step : (n : ℕ) (before after : ℕ → List Home) (o : Option Home) → option_map_or (λ h. h.row == n) o false ≡ false
    → ((k : ℕ) → k ≢ n → after k ≡ before k) → option_map_or (λ h. h ∷ after h.row) o [] ≡ option_map_or (λ h. h ∷ before h.row) o []
home_step n before after None p same = refl
home_step n before after (Some h) p same = λ i. h ∷ same h.row (λ e. absurd (let no : true ≡ false = sym (eq-eqb h.row n e) ∙ p in cc)) i

homes_around-inserted : (ys zs : List Row) (x : Row) (u : ℕ) → is_parent (ys ++ zs) x.id ≡ false → u ≢ x.id → homes_around (ys ++ x ∷ zs) u ≡ homes_around (ys ++ zs) u
homes_around-inserted [] zs x u p other = λ i. cond (not_asked x u other i) (option_map_or (λ h. h ∷ homes_around zs h.row) x.home []) (homes_around zs u)
homes_around-inserted (y ∷ ys) zs x u p other =
    let q = or_false (option_map_or (λ h. h.row == x.id) y.home false) (is_parent (ys ++ zs) x.id) p in
    λ i. cond (y.id == u)
    (home_step x.id (homes_around (ys ++ zs)) (homes_around (ys ++ x ∷ zs)) y.home q.0 (λ k ne. homes_around-inserted ys zs x k q.1 ne) i)
    (homes_around-inserted ys zs x u q.1 other i)

reverse-inserted : (ys zs : List Row) (x : Row) → reverse (ys ++ x ∷ zs) ≡ reverse zs ++ x ∷ reverse ys
reverse-inserted ys zs x =
    reverse-append ys (x ∷ zs) ∙ ((λ i. reverse-cons x zs i ++ reverse ys) ∙ append_assoc (reverse zs) (x ∷ []) (reverse ys))

pub is_parent-reverse : (rows : List Row) (n : ℕ) → is_parent (reverse rows) n ≡ is_parent rows n
is_parent-reverse [] n = refl
is_parent-reverse (r ∷ rows) n =
    ap (λ l. is_parent l n) (reverse-cons r rows)
    ∙ (list_any-append (λ s. option_map_or (λ h. h.row == n) s.home false) (reverse rows) (r ∷ [])
    ∙ turned (is_parent (reverse rows) n) (option_map_or (λ h. h.row == n) r.home false) (is_parent rows n) (is_parent-reverse rows n))
  where
    turned : (a b c : Bool) → a ≡ c → (a || (b || false)) ≡ (b || c)
    turned true true c p = refl
    turned true false c p = p
    turned false true c p = refl
    turned false false c p = p

pub enclosing-inserted : (ys zs : List Row) (x : Row) (u : ℕ) → is_parent (ys ++ zs) x.id ≡ false → u ≢ x.id → enclosing (ys ++ x ∷ zs) u ≡ enclosing (ys ++ zs) u
unfolding enclosing
enclosing-inserted ys zs x u p other =
    let q : is_parent (reverse zs ++ reverse ys) x.id ≡ false
    = ap (λ l. is_parent l x.id) (sym (reverse-append ys zs)) ∙ (is_parent-reverse (ys ++ zs) x.id ∙ p) in
    ap (λ l. homes_around l u) (reverse-inserted ys zs x)
    ∙ (homes_around-inserted (reverse zs) (reverse ys) x u q other ∙ ap (λ l. homes_around l u) (sym (reverse-append ys zs)))

-- a number that no home names has no row around which it is
around-new : (n : ℕ) (rows : List Row) (u : ℕ) → is_parent rows n ≡ false → list_any (λ h. h.row == n) (homes_around rows u) ≡ false
around-new n [] u p = refl
around-new n (r ∷ rows) u p =
    let q = or_false (option_map_or (λ h. h.row == n) r.home false) (is_parent rows n) p in
    by (r.id == u) r.home q.0 (λ k. around-new n rows k q.1) where
      by : (b : Bool) (o : Option Home) → option_map_or (λ h. h.row == n) o false ≡ false → ((k : ℕ) → list_any (λ h. h.row == n) (homes_around rows k) ≡ false)
          → list_any (λ h. h.row == n) (cond b (option_map_or (λ h. h ∷ homes_around rows h.row) o []) (homes_around rows u)) ≡ false
      by true None z go = refl
      by true (Some h) z go = λ i. z i || go h.row i
      by false o z go = go u

pub enclosing-new : (n : ℕ) (rows : List Row) (u : ℕ) → is_parent rows n ≡ false → list_any (λ h. h.row == n) (enclosing rows u) ≡ false
unfolding enclosing
enclosing-new n rows u p = around-new n (reverse rows) u (is_parent-reverse rows n ∙ p)
