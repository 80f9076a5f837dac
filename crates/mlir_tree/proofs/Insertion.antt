-- A row that is put in leaves the visibility of other values at other rows as it is.
use Rattle.std.proofs.Common.{◌≡◌, ◌≢◌, ℕ, Bool, true, false, ◌&&◌, ◌||◌, cond, List, [], ◌∷◌, ◌++◌, reverse, take, drop, Option, Some, None, refl, sym, ap, ◌∙◌, eq-eqb, append_assoc}
use Rattle.std.specs.Prelude.{◌==◌}
use Rattle.std.specs.Option.{option_map_or}
use Rattle.std.proofs.lemmas.Bool.{ne_eqb}
use Rattle.mlir_tree.specs.declared.row.Home.{Home}
use Rattle.mlir_tree.specs.declared.row.Row.{Row}
use Rattle.mlir_tree.specs.declared.rows.Rows.{Rows}
use Rattle.mlir_tree.specs.declared.value.Val.{Val}
use Rattle.mlir_tree.specs.declared.value.Val.TheVariants.{Res, Arg}
use Rattle.mlir_tree.specs.Module.{row_of, has_row, is_earlier, homes_around, enclosing, has_result, has_argument, is_in_scope, is_visible}
use Rattle.std.proofs.lemmas.List.{reverse-append, take-append-drop}
use Rattle.std.proofs.lemmas.List.Folds.{list_any-append}
use Rattle.mlir_tree.specs.Edits.{put_before, place_before, inserted}
use Rattle.mlir_tree.specs.Laws.{IsNew, is_parent, owner_of, InsertionKeepsVisible, InsertionShowsNothing}
use Rattle.mlir_tree.proofs.Visibility.{Agree, agree_visible, reverse-cons, or_false}

-- the number of the row that is put in is no other's
not_asked : (x : Row) (u : ℕ) → u ≢ x.id → (x.id == u) ≡ false
not_asked x u other = ne_eqb x.id u (λ p. other (sym p))

row_of-inserted : (ys zs : List Row) (x : Row) (u : ℕ) → u ≢ x.id → row_of (ys ++ x ∷ zs) u ≡ row_of (ys ++ zs) u
row_of-inserted [] zs x u other = λ i. cond (not_asked x u other i) (Some x) (row_of zs u)
row_of-inserted (y ∷ ys) zs x u other = λ i. cond (y.id == u) (Some y) (row_of-inserted ys zs x u other i)

has_row-inserted : (ys zs : List Row) (x : Row) (u : ℕ) → u ≢ x.id → has_row (ys ++ x ∷ zs) u ≡ has_row (ys ++ zs) u
has_row-inserted [] zs x u other = λ i. not_asked x u other i || has_row zs u
has_row-inserted (y ∷ ys) zs x u other = λ i. (y.id == u) || has_row-inserted ys zs x u other i

is_earlier-inserted : (ys zs : List Row) (x : Row) (d u : ℕ) → d ≢ x.id → u ≢ x.id → is_earlier (ys ++ x ∷ zs) d u ≡ is_earlier (ys ++ zs) d u
is_earlier-inserted [] zs x d u p q = λ i. (not_asked x d p i && has_row zs u) || is_earlier zs d u
is_earlier-inserted (y ∷ ys) zs x d u p q = λ i. ((y.id == d) && has_row-inserted ys zs x u q i) || is_earlier-inserted ys zs x d u p q i

-- a home and the homes around it, where no home is that of row n
home_step : (n : ℕ) (before after : ℕ → List Home) (o : Option Home) → option_map_or (λ h. h.row == n) o false ≡ false
    → ((k : ℕ) → k ≢ n → after k ≡ before k) → option_map_or (λ h. h ∷ after h.row) o [] ≡ option_map_or (λ h. h ∷ before h.row) o []
home_step n before after None p same = refl
home_step n before after (Some h) p same = λ i. h ∷ same h.row (λ e. absurd (let no : true ≡ false = sym (eq-eqb h.row n e) ∙ p in cc)) i

homes_around-inserted : (ys zs : List Row) (x : Row) (u : ℕ) → is_parent (ys ++ zs) x.id ≡ false → u ≢ x.id → homes_around (ys ++ x ∷ zs) u ≡ homes_around (ys ++ zs) u
homes_around-inserted [] zs x u p other = λ i. cond (not_asked x u other i) (option_map_or (λ h. h ∷ homes_around zs h.row) x.home []) (homes_around zs u)
homes_around-inserted (y ∷ ys) zs x u p other =
    let q = or_false (option_map_or (λ h. h.row == x.id) y.home false) (is_parent (ys ++ zs) x.id) p in
    λ i. cond (y.id == u)
    (home_step x.id (homes_around (ys ++ zs)) (homes_around (ys ++ x ∷ zs)) y.home q.0 (λ k ne. homes_around-inserted ys zs x k q.1 ne) i)
    (homes_around-inserted ys zs x u q.1 other i)

reverse-inserted : (ys zs : List Row) (x : Row) → reverse (ys ++ x ∷ zs) ≡ reverse zs ++ x ∷ reverse ys
reverse-inserted ys zs x =
    reverse-append ys (x ∷ zs) ∙ ((λ i. reverse-cons x zs i ++ reverse ys) ∙ append_assoc (reverse zs) (x ∷ []) (reverse ys))

is_parent-reverse : (rows : List Row) (n : ℕ) → is_parent (reverse rows) n ≡ is_parent rows n
is_parent-reverse [] n = refl
is_parent-reverse (r ∷ rows) n =
    ap (λ l. is_parent l n) (reverse-cons r rows)
    ∙ (list_any-append (λ s. option_map_or (λ h. h.row == n) s.home false) (reverse rows) (r ∷ [])
    ∙ turned (is_parent (reverse rows) n) (option_map_or (λ h. h.row == n) r.home false) (is_parent rows n) (is_parent-reverse rows n))
  where
    turned : (a b c : Bool) → a ≡ c → (a || (b || false)) ≡ (b || c)
    turned true true c p = refl
    turned true false c p = p
    turned false true c p = refl
    turned false false c p = p

enclosing-inserted : (ys zs : List Row) (x : Row) (u : ℕ) → is_parent (ys ++ zs) x.id ≡ false → u ≢ x.id → enclosing (ys ++ x ∷ zs) u ≡ enclosing (ys ++ zs) u
unfolding enclosing
enclosing-inserted ys zs x u p other =
    let q : is_parent (reverse zs ++ reverse ys) x.id ≡ false
    = ap (λ l. is_parent l x.id) (sym (reverse-append ys zs)) ∙ (is_parent-reverse (ys ++ zs) x.id ∙ p) in
    ap (λ l. homes_around l u) (reverse-inserted ys zs x)
    ∙ (homes_around-inserted (reverse zs) (reverse ys) x u q other ∙ ap (λ l. homes_around l u) (sym (reverse-append ys zs)))

-- the rows around the place agree with the rows that are there afterwards
agree-inserted : (ys zs : List Row) (x : Row) (d u : ℕ) → is_parent (ys ++ zs) x.id ≡ false → d ≢ x.id → u ≢ x.id → Agree (ys ++ zs) (ys ++ x ∷ zs) d u
agree-inserted ys zs x d u p e other = record {
  found = row_of-inserted ys zs x d e;
  order = is_earlier-inserted ys zs x d u e other;
  around = enclosing-inserted ys zs x u p other;
}

pub insertion_keeps_visibility : (m : Rows) (row : Row) (at : Option ℕ) (v : Val) (u : ℕ) → IsNew row.id m.rows → u ≢ row.id → owner_of v ≢ row.id
    → is_visible (inserted row at m).rows v u ≡ is_visible m.rows v u
unfolding inserted put_before
insertion_keeps_visibility m row at v u is_new other e =
    let i = place_before at m.rows in
    let p : is_parent (take i m.rows ++ drop i m.rows) row.id ≡ false = ap (λ l. is_parent l row.id) (take-append-drop i m.rows) ∙ is_new.no_home in
    agree_visible (take i m.rows ++ drop i m.rows) (take i m.rows ++ row ∷ drop i m.rows) v u (agree-inserted (take i m.rows) (drop i m.rows) row (owner_of v) u p e other)
    ∙ ap (λ l. is_visible l v u) (take-append-drop i m.rows)

-- a row that isn't there has no visible value
absent : (rows : List Row) (d : ℕ) → has_row rows d ≡ false → row_of rows d ≡ None
absent [] d p = refl
absent (r ∷ rows) d p = let q = or_false (r.id == d) (has_row rows d) p in (λ i. cond (q.0 i) (Some r) (row_of rows d)) ∙ absent rows d q.1

no_value : (rows : List Row) (v : Val) (u : ℕ) → row_of rows (owner_of v) ≡ None → is_visible rows v u ≡ false
unfolding is_visible
no_value rows (Res d k) u p = λ i. option_map_or (has_result k) (p i) false && is_in_scope rows (Res d k) u
no_value rows (Arg d g k) u p = λ i. option_map_or (has_argument g k) (p i) false && is_in_scope rows (Arg d g k) u

pub insertion_keeps_visible : InsertionKeepsVisible
insertion_keeps_visible m row at v u is_new other seen =
    insertion_keeps_visibility m row at v u is_new other owner ∙ seen
  where
    owner : owner_of v ≢ row.id
    owner e =
        let gone : is_visible m.rows v u ≡ false = no_value m.rows v u (ap (row_of m.rows) e ∙ absent m.rows row.id is_new.no_row) in
        let no : true ≡ false = sym seen ∙ gone in absurd (cc)

pub insertion_shows_nothing : InsertionShowsNothing
insertion_shows_nothing m row at v u is_new other e seen = sym (insertion_keeps_visibility m row at v u is_new other e) ∙ seen
