-- The texts of what is left of a list.
use Rattle.std.proofs.Common.{◌≡◌, ℕ, ◌+◌, ◌<◌, ◌≤◌, List, [], ◌∷◌, ◌++◌, codes, length, drop, get_or, refl, sym, ap, ◌∙◌, arith}
use Rattle.std.specs.List.{flat_map}
use Rattle.std.proofs.lemmas.List.{at_drop_more}
use Rattle.mlir_tree.specs.Tree.{Ty, tys, Attr, attrs, entries}
use Rattle.mlir_print.specs.Text.{byte_text, name_text, ty_text, tys_text, more_tys_text, more_symbols_text, symbols_text, attr_text, attrs_text, more_attrs_text, entry_by, is_unit, entries_text, more_entries_text}

-- a function of the rest of a list that begins with this item
pub rest_at : {X : Type 0} (F : List X → List ℕ) (xs : List X) (i : ℕ) (x : X) → i < length xs → x ≡ get_or xs i x → F (x ∷ drop (i + 1) xs) ≡ F (drop i xs)
rest_at F xs i x h is = sym (at_drop_more F xs i x h ∙ ap (λ e. F (e ∷ drop (i + 1) xs)) (sym is))

pub whole_at : {X : Type 0} (F : List X → List ℕ) (xs : List X) (x : X) → 1 ≤ length xs → x ≡ get_or xs 0 x → F (x ∷ drop 1 xs) ≡ F xs
whole_at F [] x some is = absurd (omega arith)
whole_at F (y ∷ ys) x some is = ap (λ e. F (e ∷ ys)) is

pub bytes_more : (bytes : List ℕ) (i : ℕ) → i < length bytes → byte_text (get_or bytes i 0) ++ flat_map byte_text (drop (i + 1) bytes) ≡ flat_map byte_text (drop i bytes)
bytes_more bytes i h = sym (at_drop_more (flat_map byte_text) bytes i 0 h)

pub symbols_more : (names : List (List ℕ)) (i : ℕ) (n : List ℕ) → i < length names → n ≡ get_or names i n → codes "::@" ++ (name_text n ++ more_symbols_text (drop (i + 1) names)) ≡ more_symbols_text (drop i names)
symbols_more names i n h is = rest_at more_symbols_text names i n h is

pub symbols_first : (names : List (List ℕ)) (n : List ℕ) → 1 ≤ length names → n ≡ get_or names 0 n → codes "@" ++ (name_text n ++ more_symbols_text (drop 1 names)) ≡ symbols_text names
symbols_first names n some is = whole_at symbols_text names n some is

pub symbols_none : (all : List (List ℕ)) → length all ≡ 0 → [] ≡ symbols_text all
symbols_none [] none = refl
symbols_none (x ∷ all) none = absurd (omega arith)

pub tys_more : (all : List Ty) (i : ℕ) (t : Ty) → i < length all → t ≡ get_or all i t → codes ", " ++ (ty_text t ++ more_tys_text (tys (drop (i + 1) all))) ≡ more_tys_text (tys (drop i all))
unfolding ty_text
tys_more all i t h is = rest_at (λ xs. more_tys_text (tys xs)) all i t h is

pub tys_first : (all : List Ty) (t : Ty) → 1 ≤ length all → t ≡ get_or all 0 t → ty_text t ++ more_tys_text (tys (drop 1 all)) ≡ tys_text (tys all)
unfolding ty_text
tys_first all t some is = whole_at (λ xs. tys_text (tys xs)) all t some is

pub tys_none : (all : List Ty) → length all ≡ 0 → [] ≡ tys_text (tys all)
unfolding ty_text
tys_none [] none = refl
tys_none (x ∷ all) none = absurd (omega arith)

pub attrs_more : (all : List Attr) (i : ℕ) (a : Attr) → i < length all → a ≡ get_or all i a → codes ", " ++ (attr_text a ++ more_attrs_text (attrs (drop (i + 1) all))) ≡ more_attrs_text (attrs (drop i all))
unfolding attr_text
attrs_more all i a h is = rest_at (λ xs. more_attrs_text (attrs xs)) all i a h is

pub attrs_first : (all : List Attr) (a : Attr) → 1 ≤ length all → a ≡ get_or all 0 a → attr_text a ++ more_attrs_text (attrs (drop 1 all)) ≡ attrs_text (attrs all)
unfolding attr_text
attrs_first all a some is = whole_at (λ xs. attrs_text (attrs xs)) all a some is

pub attrs_none : (all : List Attr) → length all ≡ 0 → [] ≡ attrs_text (attrs all)
unfolding attr_text
attrs_none [] none = refl
attrs_none (x ∷ all) none = absurd (omega arith)

abbrev pub entry_text : List ℕ × Attr → List ℕ
entry_text e = entry_by (is_unit e.1) e.0 (attr_text e.1)

pub entries_more : (all : List (List ℕ × Attr)) (i : ℕ) (e : List ℕ × Attr) → i < length all → e ≡ get_or all i e → codes ", " ++ (entry_text e ++ more_entries_text (entries (drop (i + 1) all))) ≡ more_entries_text (entries (drop i all))
unfolding attr_text
entries_more all i e h is = rest_at (λ xs. more_entries_text (entries xs)) all i e h is

pub entries_first : (all : List (List ℕ × Attr)) (e : List ℕ × Attr) → 1 ≤ length all → e ≡ get_or all 0 e → entry_text e ++ more_entries_text (entries (drop 1 all)) ≡ entries_text (entries all)
unfolding attr_text
entries_first all e some is = whole_at (λ xs. entries_text (entries xs)) all e some is

pub entries_none : (all : List (List ℕ × Attr)) → length all ≡ 0 → [] ≡ entries_text (entries all)
unfolding attr_text
entries_none [] none = refl
entries_none (x ∷ all) none = absurd (omega arith)
