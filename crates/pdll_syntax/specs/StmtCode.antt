-- Each statement as a list of numbers that no other statement has. By it the logic stores a statement.
use Rattle.std.proofs.Common.{◌≡◌, ℕ, List, [], ◌∷◌, Option, Some, None, refl, ap}
use Rattle.std.specs.Coded.{Coded}
use Rattle.pdll_syntax.specs.declared.name.Name.{Name}
use Rattle.pdll_syntax.specs.declared.stmt.Values.{Values}
use Rattle.pdll_syntax.specs.declared.stmt.Values.TheVariants.{One, Several}
use Rattle.pdll_syntax.specs.ExprCode.{flat_text, flat_expr, flat_ref, same_head, same_rest, same_text, same_expr, same_ref, coded_by}
use Rattle.pdll_syntax.specs.StmtTree.{Stmt, stmt, StmtForm, let_stmt, erase_stmt, return_stmt, replace_stmt, rewrite_stmt, plain_stmt, Stmts, no_stmts, stmt_then}

-- ---- the lists, each with what follows

abbrev flat_name : Name → List ℕ → List ℕ
flat_name n r = n.at ∷ flat_text n.text r

-- a list of parts, and a part that may be absent
module _ {A : Type 0} (flat : A → List ℕ → List ℕ) where
  abbrev pub flat_list : List A → List ℕ → List ℕ
  flat_list [] r = 0 ∷ r
  flat_list (x ∷ xs) r = 1 ∷ flat x (flat_list xs r)

  abbrev pub flat_maybe : Option A → List ℕ → List ℕ
  flat_maybe None r = 0 ∷ r
  flat_maybe (Some x) r = 1 ∷ flat x r

abbrev flat_values : Values → List ℕ → List ℕ
flat_values (One x) r = 0 ∷ flat_expr x r
flat_values (Several xs) r = 1 ∷ flat_list flat_expr xs r

abbrev mutual
  pub flat_stmt : Stmt → List ℕ → List ℕ
  flat_stmt (stmt at form) r = at ∷ flat_stmt_form form r

  pub flat_stmt_form : StmtForm → List ℕ → List ℕ
  flat_stmt_form (let_stmt n rs x) r = 0 ∷ flat_name n (flat_list flat_ref rs (flat_maybe flat_expr x r))
  flat_stmt_form (erase_stmt x) r = 1 ∷ flat_expr x r
  flat_stmt_form (return_stmt x) r = 2 ∷ flat_expr x r
  flat_stmt_form (replace_stmt x vs) r = 3 ∷ flat_expr x (flat_values vs r)
  flat_stmt_form (rewrite_stmt x ss end) r = 4 ∷ end ∷ flat_expr x (flat_stmts ss r)
  flat_stmt_form (plain_stmt x) r = 5 ∷ flat_expr x r

  pub flat_stmts : Stmts → List ℕ → List ℕ
  flat_stmts no_stmts r = 0 ∷ r
  flat_stmts (stmt_then s ss) r = 1 ∷ flat_stmt s (flat_stmts ss r)

-- ---- equal lists come from equal trees, and leave equal rests

same_name : (x y : Name) (r u : List ℕ) → flat_name x r ≡ flat_name y u → (x ≡ y) × (r ≡ u)
same_name x y r u p =
    let h = same_head x.at y.at _ _ p in
    let q = same_text x.text y.text r u (same_rest _ _ _ _ p) in
    (λ i. record { at = h i; text = q.0 i }, q.1)

module _ {A : Type 0} (flat : A → List ℕ → List ℕ) (same : (x y : A) (r u : List ℕ) → flat x r ≡ flat y u → (x ≡ y) × (r ≡ u)) where
  pub same_list : (x y : List A) (r u : List ℕ) → flat_list flat x r ≡ flat_list flat y u → (x ≡ y) × (r ≡ u)
  same_list [] [] r u p = (refl, same_rest _ _ _ _ p)
  same_list (x ∷ xs) (y ∷ ys) r u p =
      let a = same x y _ _ (same_rest _ _ _ _ p) in
      let b = same_list xs ys r u a.1 in
      (λ i. a.0 i ∷ b.0 i, b.1)
  same_list _ _ r u p = absurd (cc)

  pub same_maybe : (x y : Option A) (r u : List ℕ) → flat_maybe flat x r ≡ flat_maybe flat y u → (x ≡ y) × (r ≡ u)
  same_maybe None None r u p = (refl, same_rest _ _ _ _ p)
  same_maybe (Some x) (Some y) r u p =
      let q = same x y r u (same_rest _ _ _ _ p) in
      (ap Some q.0, q.1)
  same_maybe _ _ r u p = absurd (cc)

same_values : (x y : Values) (r u : List ℕ) → flat_values x r ≡ flat_values y u → (x ≡ y) × (r ≡ u)
same_values (One x) (One y) r u p =
    let q = same_expr x y r u (same_rest _ _ _ _ p) in
    (ap One q.0, q.1)
same_values (Several xs) (Several ys) r u p =
    let q = same_list flat_expr same_expr xs ys r u (same_rest _ _ _ _ p) in
    (ap Several q.0, q.1)
same_values _ _ r u p = absurd (cc)

mutual
  pub same_stmt : (x y : Stmt) (r u : List ℕ) → flat_stmt x r ≡ flat_stmt y u → (x ≡ y) × (r ≡ u)
  same_stmt (stmt at f) (stmt to g) r u p =
      let h = same_head at to _ _ p in
      let q = same_stmt_form f g r u (same_rest _ _ _ _ p) in
      (λ i. stmt (h i) (q.0 i), q.1)

  pub same_stmt_form : (x y : StmtForm) (r u : List ℕ) → flat_stmt_form x r ≡ flat_stmt_form y u → (x ≡ y) × (r ≡ u)
  same_stmt_form (let_stmt n rs x) (let_stmt m ss y) r u p =
      let a = same_name n m _ _ (same_rest _ _ _ _ p) in
      let b = same_list flat_ref same_ref rs ss _ _ a.1 in
      let c = same_maybe flat_expr same_expr x y r u b.1 in
      (λ i. let_stmt (a.0 i) (b.0 i) (c.0 i), c.1)
  same_stmt_form (erase_stmt x) (erase_stmt y) r u p =
      let q = same_expr x y r u (same_rest _ _ _ _ p) in
      (ap erase_stmt q.0, q.1)
  same_stmt_form (return_stmt x) (return_stmt y) r u p =
      let q = same_expr x y r u (same_rest _ _ _ _ p) in
      (ap return_stmt q.0, q.1)
  same_stmt_form (replace_stmt x vs) (replace_stmt y ws) r u p =
      let a = same_expr x y _ _ (same_rest _ _ _ _ p) in
      let b = same_values vs ws r u a.1 in
      (λ i. replace_stmt (a.0 i) (b.0 i), b.1)
  same_stmt_form (rewrite_stmt x ss end) (rewrite_stmt y ts at) r u p =
      let t = same_rest _ _ _ _ p in
      let h = same_head end at _ _ t in
      let a = same_expr x y _ _ (same_rest _ _ _ _ t) in
      let b = same_stmts ss ts r u a.1 in
      (λ i. rewrite_stmt (a.0 i) (b.0 i) (h i), b.1)
  same_stmt_form (plain_stmt x) (plain_stmt y) r u p =
      let q = same_expr x y r u (same_rest _ _ _ _ p) in
      (ap plain_stmt q.0, q.1)
  same_stmt_form _ _ r u p = absurd (cc)

  pub same_stmts : (x y : Stmts) (r u : List ℕ) → flat_stmts x r ≡ flat_stmts y u → (x ≡ y) × (r ≡ u)
  same_stmts no_stmts no_stmts r u p = (refl, same_rest _ _ _ _ p)
  same_stmts (stmt_then x xs) (stmt_then y ys) r u p =
      let a = same_stmt x y _ _ (same_rest _ _ _ _ p) in
      let b = same_stmts xs ys r u a.1 in
      (λ i. stmt_then (a.0 i) (b.0 i), b.1)
  same_stmts _ _ r u p = absurd (cc)

abbrev pub coded_stmt : Coded Stmt
coded_stmt = coded_by flat_stmt same_stmt
