-- An expression is its form without numbers behind it, and those numbers.
use Rattle.std.proofs.Common.{◌≡◌, ℕ, Bool, true, false, ◌&&◌, List, [], ◌∷◌, ◌++◌, nat_eq, refl, ap, sym as back, subst, ◌∙◌, append_assoc}
use Rattle.std.proofs.lemmas.List.{append-nil}
use Rattle.pdll_syntax.specs.declared.expr.ExprForm.{ExprForm as ExprNode}
use Rattle.pdll_syntax.specs.declared.expr.ExprForm.TheVariants as e
use Rattle.pdll_syntax.specs.ExprTree.{Expr, expr, ExprForm, member_expr}
use Rattle.pdll_syntax.specs.ExprView.{expr_form, with_members}
use Rattle.pdll_syntax.specs.Equal.{expr_eq, expr_form_eq, list_eq}
use Rattle.pdll_syntax.proofs.Told.{first, second, both, nat_told, nat_itself, expr_told, expr_itself, expr_form_told, expr_form_itself}

abbrev base_of : ExprForm → ExprForm
base_of (member_expr (expr at x) k) = base_of x
base_of f = f

abbrev numbers_of : ExprForm → List ℕ
numbers_of (member_expr (expr at x) k) = numbers_of x ++ k ∷ []
numbers_of f = []

base_with : (at : ℕ) (f : ExprForm) (ks : List ℕ) → base_of (with_members at f ks) ≡ base_of f
base_with at f [] = refl
base_with at f (k ∷ ks) = base_with at (member_expr (expr at f) k) ks

numbers_with : (at : ℕ) (f : ExprForm) (ks : List ℕ) → numbers_of (with_members at f ks) ≡ numbers_of f ++ ks
numbers_with at f [] = back (append-nil (numbers_of f))
numbers_with at f (k ∷ ks) = numbers_with at (member_expr (expr at f) k) ks ∙ append_assoc (numbers_of f) (k ∷ []) ks

plain : (f : ExprNode) → (base_of (expr_form f) ≡ expr_form f) × (numbers_of (expr_form f) ≡ [])
plain (e.Name n) = (refl, refl)
plain (e.Call n xs) = (refl, refl)
plain (e.Declare n rs) = (refl, refl)
plain (e.AttrLit l) = (refl, refl)
plain (e.TyLit l) = (refl, refl)
plain (e.Op o) = (refl, refl)

numbers_told : (ks js : List ℕ) → list_eq nat_eq ks js ≡ true → ks ≡ js
numbers_told [] [] h = refl
numbers_told (k ∷ ks) (j ∷ js) h =
    let a = nat_told k j (first _ (list_eq nat_eq ks js) h) in
    let b = numbers_told ks js (second (nat_eq k j) _ h) in
    λ i. a i ∷ b i
numbers_told _ _ h = absurd (cc)

numbers_itself : (ks : List ℕ) → list_eq nat_eq ks ks ≡ true
numbers_itself [] = refl
numbers_itself (k ∷ ks) = both _ _ (nat_itself k) (numbers_itself ks)

same_truth : (x y : Bool) → (x ≡ true → y ≡ true) → (y ≡ true → x ≡ true) → x ≡ y
same_truth true true f g = refl
same_truth false false f g = refl
same_truth true false f g = absurd (let h = f refl in cc)
same_truth false true f g = absurd (let h = g refl in cc)

place_in : Expr → ℕ
place_in (expr at f) = at

form_in : Expr → ExprForm
form_in (expr at f) = f

-- two expressions are the same exactly where the places, the forms and the numbers are
pub members_eq : (a b : ℕ) (f g : ExprNode) (ks js : List ℕ)
    → ((nat_eq a b && expr_form_eq (expr_form f) (expr_form g)) && list_eq nat_eq ks js) ≡ expr_eq (expr a (with_members a (expr_form f) ks)) (expr b (with_members b (expr_form g) js))
unfolding place_in form_in
members_eq a b f g ks js = same_truth _ _ forth again
  where
    x : Expr
    x = expr a (with_members a (expr_form f) ks)

    y : Expr
    y = expr b (with_members b (expr_form g) js)

    forth : ((nat_eq a b && expr_form_eq (expr_form f) (expr_form g)) && list_eq nat_eq ks js) ≡ true → expr_eq x y ≡ true
    forth h =
        let heads = first (nat_eq a b && expr_form_eq (expr_form f) (expr_form g)) (list_eq nat_eq ks js) h in
        let at = nat_told a b (first (nat_eq a b) _ heads) in
        let form = expr_form_told (expr_form f) (expr_form g) (second (nat_eq a b) _ heads) in
        let numbers = numbers_told ks js (second (nat_eq a b && expr_form_eq (expr_form f) (expr_form g)) _ h) in
        let same : x ≡ y = λ i. expr (at i) (with_members (at i) (form i) (numbers i)) in
        subst (λ z. expr_eq x z ≡ true) same (expr_itself x)

    again : expr_eq x y ≡ true → ((nat_eq a b && expr_form_eq (expr_form f) (expr_form g)) && list_eq nat_eq ks js) ≡ true
    again h =
        let same = expr_told x y h in
        let at : a ≡ b = ap place_in same in
        let whole : with_members a (expr_form f) ks ≡ with_members b (expr_form g) js = ap form_in same in
        let form : expr_form f ≡ expr_form g = back (plain f).0 ∙ back (base_with a (expr_form f) ks) ∙ ap base_of whole ∙ base_with b (expr_form g) js ∙ (plain g).0 in
        let numbers : ks ≡ js = ap (λ l. l ++ ks) (back (plain f).1) ∙ back (numbers_with a (expr_form f) ks) ∙ ap numbers_of whole ∙ numbers_with b (expr_form g) js ∙ ap (λ l. l ++ js) (plain g).1 in
        both _ _ (both _ _ (subst (λ n. nat_eq a n ≡ true) at (nat_itself a)) (subst (λ z. expr_form_eq (expr_form f) z ≡ true) form (expr_form_itself (expr_form f))))
        (subst (λ l. list_eq nat_eq ks l ≡ true) numbers (numbers_itself ks))

-- the same, by tests of the three
pub members_by : (a b : ℕ) (f g : ExprNode) (ks js : List ℕ) (p q r : Bool) → p ≡ nat_eq a b → q ≡ expr_form_eq (expr_form f) (expr_form g) → r ≡ list_eq nat_eq ks js
    → ((p && q) && r) ≡ expr_eq (expr a (with_members a (expr_form f) ks)) (expr b (with_members b (expr_form g) js))
members_by a b f g ks js p q r h k l = (λ i. (h i && k i) && l i) ∙ members_eq a b f g ks js

pub members_at : (a b : ℕ) (f g : ExprNode) (ks js : List ℕ) (q r : Bool) → a ≡ b → q ≡ expr_form_eq (expr_form f) (expr_form g) → r ≡ list_eq nat_eq ks js
    → (q && r) ≡ expr_eq (expr a (with_members a (expr_form f) ks)) (expr b (with_members b (expr_form g) js))
members_at a b f g ks js q r at k l = members_by a b f g ks js true q r (back (subst (λ n. nat_eq a n ≡ true) at (nat_itself a))) k l
