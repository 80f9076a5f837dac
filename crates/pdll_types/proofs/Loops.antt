-- One more item of a list in a tree.
use Rattle.std.proofs.Common.{◌≡◌, ℕ, zero, suc, false, ◌+◌, ◌<◌, ◌≤◌, ◌==◌, List, [], ◌∷◌, length, get_or, drop, refl, sym, ap, ◌∙◌, arith, add-one}
use Rattle.std.proofs.lemmas.Bool.Decides.{nat_tests}
use Rattle.pdll_syntax.specs.ExprTree.{Expr, expr_then, exprs, Entry, entry_then, entries, Ref, Refs, no_refs, ref_then, refs, MaybeExpr, no_expr}
use Rattle.pdll_syntax.specs.StmtTree.{Stmt, stmt_then, stmts}
use Rattle.pdll_types.specs.Signatures.{Declared, kind_of_refs}
use Rattle.pdll_types.specs.Mentions.{are_none, names_root}
use Rattle.pdll_types.specs.Parts.{ends_in_root, ends_in_return, is_return}
use Rattle.pdll_types.specs.Sight.{Known, kind_of_variable}

next : {A : Type 0} (xs : List A) (i : ℕ) (x : A) → i < length xs → x ≡ get_or xs i x → drop i xs ≡ x ∷ drop (suc i) xs
next [] i x h is = absurd (omega arith)
next (y ∷ xs) zero x h is = ap (λ z. z ∷ xs) (sym is)
next (y ∷ xs) (suc i) x h is = next xs i x (omega arith) is

pub next_item : {A : Type 0} (xs : List A) (i : ℕ) (x : A) → i < length xs → x ≡ get_or xs i x → drop i xs ≡ x ∷ drop (i + 1) xs
next_item xs i x h is = next xs i x h is ∙ ap (λ n. x ∷ drop n xs) (sym (add-one i))

pub next_expr : (xs : List Expr) (i : ℕ) (x : Expr) → i < length xs → x ≡ get_or xs i x → exprs (drop i xs) ≡ expr_then x (exprs (drop (i + 1) xs))
next_expr xs i x h is = ap exprs (next_item xs i x h is)

pub next_entry : (es : List Entry) (i : ℕ) (e : Entry) → i < length es → e ≡ get_or es i e → entries (drop i es) ≡ entry_then e (entries (drop (i + 1) es))
next_entry es i e h is = ap entries (next_item es i e h is)

pub next_ref : (rs : List Ref) (i : ℕ) (r : Ref) → i < length rs → r ≡ get_or rs i r → refs (drop i rs) ≡ ref_then r (refs (drop (i + 1) rs))
next_ref rs i r h is = ap refs (next_item rs i r h is)

pub next_stmt : (ss : List Stmt) (i : ℕ) (s : Stmt) → i < length ss → s ≡ get_or ss i s → stmts (drop i ss) ≡ stmt_then s (stmts (drop (i + 1) ss))
next_stmt ss i s h is = ap stmts (next_item ss i s h is)

-- without a value the refs alone give the kind
pub kind_without_value : (c : List Declared) (s : List Known) (rs : Refs) → kind_of_refs c rs ≡ kind_of_variable c s rs no_expr
unfolding kind_of_refs
kind_without_value c s no_refs = refl
kind_without_value c s (ref_then r rs) = refl

one_more : (n : ℕ) → false ≡ (1 == suc (suc n))
one_more n = grind (arith, nat_tests)

same_sucs : (a b : ℕ) → (suc a == suc b) ≡ (a == b)
same_sucs a b = grind (arith, nat_tests)

after_none : (ss : List Stmt) (i : ℕ) → i < length ss → are_none (stmts (drop (suc i) ss)) ≡ (suc i == length ss)
after_none [] i h = absurd (omega arith)
after_none (s ∷ []) zero h = refl
after_none (s ∷ t ∷ ss) zero h = one_more (length ss)
after_none (s ∷ ss) (suc i) h = after_none ss i (omega arith) ∙ sym (same_sucs (suc i) (length ss))

-- whether none stands behind a statement
pub none_behind : (ss : List Stmt) (i : ℕ) → i < length ss → are_none (stmts (drop (i + 1) ss)) ≡ (i + 1 == length ss)
none_behind ss i h = ap (λ n. are_none (stmts (drop n ss))) (add-one i) ∙ (after_none ss i h ∙ ap (λ n. n == length ss) (sym (add-one i)))

-- the kind of a variable with refs is theirs
pub kind_with_refs : (c : List Declared) (s : List Known) (rs : List Ref) (x : MaybeExpr) → 0 < length rs → kind_of_refs c (refs rs) ≡ kind_of_variable c s (refs rs) x
kind_with_refs c s [] x h = absurd (omega arith)
kind_with_refs c s (r ∷ rs) x h = refl

-- the last statement
pub root_last : (ss : List Stmt) (i : ℕ) (s : Stmt) → i + 1 ≡ length ss → s ≡ get_or ss i s → ends_in_root (stmts ss) ≡ names_root s
root_last [] i s h is = absurd (omega arith)
root_last (a ∷ []) zero s h is = ap names_root (sym is)
root_last (a ∷ []) (suc i) s h is = absurd (omega arith)
root_last (a ∷ b ∷ ss) zero s h is = absurd (omega arith)
root_last (a ∷ b ∷ ss) (suc i) s h is = root_last (b ∷ ss) i s (omega arith) is

pub return_last : (ss : List Stmt) (i : ℕ) (s : Stmt) → i + 1 ≡ length ss → s ≡ get_or ss i s → ends_in_return (stmts ss) ≡ is_return s
return_last [] i s h is = absurd (omega arith)
return_last (a ∷ []) zero s h is = ap is_return (sym is)
return_last (a ∷ []) (suc i) s h is = absurd (omega arith)
return_last (a ∷ b ∷ ss) zero s h is = absurd (omega arith)
return_last (a ∷ b ∷ ss) (suc i) s h is = return_last (b ∷ ss) i s (omega arith) is

-- nothing stands behind the last item
pub none_left : {A : Type 0} (xs : List A) (i : ℕ) → length xs ≤ i → drop i xs ≡ []
none_left [] zero h = refl
none_left [] (suc i) h = refl
none_left (x ∷ xs) zero h = absurd (omega arith)
none_left (x ∷ xs) (suc i) h = none_left xs i (omega arith)
