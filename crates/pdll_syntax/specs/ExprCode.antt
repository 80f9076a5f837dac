-- Each expression as a list of numbers that no other expression has. By it the logic stores an expression.
use Rattle.std.proofs.Common.{◌≡◌, ℕ, suc, List, [], ◌∷◌, Option, Some, None, refl, ap, arith}
use Rattle.std.specs.Coded.{Coded, coded_ℕ, coded_list}
use Rattle.pdll_syntax.specs.declared.name.Literal.{Literal}
use Rattle.pdll_syntax.specs.ExprTree.{Expr, expr, ExprForm, name_expr, call_expr, declare_expr, attr_expr, type_expr, op_expr, member_expr, OpExpr, operation, Entry, entry, Ref, ref, RefForm, attr_ref, op_ref, type_ref, type_range_ref, value_ref, value_range_ref, named_ref, Exprs, no_exprs, expr_then, Entries, no_entries, entry_then, Refs, no_refs, ref_then, MaybeExpr, no_expr, some_expr, MaybeExprs, left_out, written}

-- ---- the lists, each with what follows

abbrev pub flat_text : List ℕ → List ℕ → List ℕ
flat_text [] r = 0 ∷ r
flat_text (b ∷ t) r = suc b ∷ flat_text t r

abbrev pub flat_option : Option (List ℕ) → List ℕ → List ℕ
flat_option None r = 0 ∷ r
flat_option (Some t) r = 1 ∷ flat_text t r

abbrev pub flat_literal : Literal → List ℕ → List ℕ
flat_literal l r = l.at ∷ flat_text l.bytes r

abbrev mutual
  pub flat_expr : Expr → List ℕ → List ℕ
  flat_expr (expr at form) r = at ∷ flat_expr_form form r

  pub flat_expr_form : ExprForm → List ℕ → List ℕ
  flat_expr_form (name_expr n) r = 0 ∷ flat_text n r
  flat_expr_form (call_expr n xs) r = 1 ∷ flat_text n (flat_exprs xs r)
  flat_expr_form (declare_expr n rs) r = 2 ∷ flat_text n (flat_refs rs r)
  flat_expr_form (attr_expr l) r = 3 ∷ flat_literal l r
  flat_expr_form (type_expr l) r = 4 ∷ flat_literal l r
  flat_expr_form (op_expr o) r = 5 ∷ flat_op o r
  flat_expr_form (member_expr x k) r = 6 ∷ k ∷ flat_expr x r

  pub flat_op : OpExpr → List ℕ → List ℕ
  flat_op (operation n xs es ts) r = flat_text n (flat_maybe_exprs xs (flat_entries es (flat_maybe_exprs ts r)))

  pub flat_entry : Entry → List ℕ → List ℕ
  flat_entry (entry at n x) r = at ∷ flat_text n (flat_maybe_expr x r)

  pub flat_ref : Ref → List ℕ → List ℕ
  flat_ref (ref at form) r = at ∷ flat_ref_form form r

  pub flat_ref_form : RefForm → List ℕ → List ℕ
  flat_ref_form (attr_ref x) r = 0 ∷ flat_maybe_expr x r
  flat_ref_form (op_ref n) r = 1 ∷ flat_option n r
  flat_ref_form type_ref r = 2 ∷ r
  flat_ref_form type_range_ref r = 3 ∷ r
  flat_ref_form (value_ref x) r = 4 ∷ flat_maybe_expr x r
  flat_ref_form (value_range_ref x) r = 5 ∷ flat_maybe_expr x r
  flat_ref_form (named_ref n) r = 6 ∷ flat_text n r

  pub flat_exprs : Exprs → List ℕ → List ℕ
  flat_exprs no_exprs r = 0 ∷ r
  flat_exprs (expr_then x xs) r = 1 ∷ flat_expr x (flat_exprs xs r)

  pub flat_entries : Entries → List ℕ → List ℕ
  flat_entries no_entries r = 0 ∷ r
  flat_entries (entry_then e es) r = 1 ∷ flat_entry e (flat_entries es r)

  pub flat_refs : Refs → List ℕ → List ℕ
  flat_refs no_refs r = 0 ∷ r
  flat_refs (ref_then x xs) r = 1 ∷ flat_ref x (flat_refs xs r)

  pub flat_maybe_expr : MaybeExpr → List ℕ → List ℕ
  flat_maybe_expr no_expr r = 0 ∷ r
  flat_maybe_expr (some_expr x) r = 1 ∷ flat_expr x r

  pub flat_maybe_exprs : MaybeExprs → List ℕ → List ℕ
  flat_maybe_exprs left_out r = 0 ∷ r
  flat_maybe_exprs (written xs) r = 1 ∷ flat_exprs xs r

-- ---- equal lists come from equal trees, and leave equal rests

abbrev head_or : ℕ → List ℕ → ℕ
head_or d [] = d
head_or d (x ∷ xs) = x

abbrev rest_of : List ℕ → List ℕ
rest_of [] = []
rest_of (x ∷ xs) = xs

pub same_head : (x y : ℕ) (r u : List ℕ) → x ∷ r ≡ y ∷ u → x ≡ y
same_head x y r u p = ap (head_or 0) p

pub same_rest : (x y : ℕ) (r u : List ℕ) → x ∷ r ≡ y ∷ u → r ≡ u
same_rest x y r u p = ap rest_of p

pub same_text : (x y : List ℕ) (r u : List ℕ) → flat_text x r ≡ flat_text y u → (x ≡ y) × (r ≡ u)
same_text [] [] r u p = (refl, same_rest _ _ r u p)
same_text [] (y ∷ ys) r u p = absurd (omega (arith, same_head _ _ _ _ p))
same_text (x ∷ xs) [] r u p = absurd (omega (arith, same_head _ _ _ _ p))
same_text (x ∷ xs) (y ∷ ys) r u p =
    let h : x ≡ y = omega (arith, same_head _ _ _ _ p) in
    let q = same_text xs ys r u (same_rest _ _ _ _ p) in
    (λ i. h i ∷ q.0 i, q.1)

same_option : (x y : Option (List ℕ)) (r u : List ℕ) → flat_option x r ≡ flat_option y u → (x ≡ y) × (r ≡ u)
same_option None None r u p = (refl, same_rest _ _ _ _ p)
same_option (Some x) (Some y) r u p = let q = same_text x y r u (same_rest _ _ _ _ p) in (ap Some q.0, q.1)
same_option _ _ r u p = absurd (cc)

same_literal : (x y : Literal) (r u : List ℕ) → flat_literal x r ≡ flat_literal y u → (x ≡ y) × (r ≡ u)
same_literal x y r u p =
    let h = same_head x.at y.at _ _ p in
    let q = same_text x.bytes y.bytes r u (same_rest _ _ _ _ p) in
    (λ i. record { at = h i; bytes = q.0 i }, q.1)

mutual
  pub same_expr : (x y : Expr) (r u : List ℕ) → flat_expr x r ≡ flat_expr y u → (x ≡ y) × (r ≡ u)
  same_expr (expr at f) (expr to g) r u p =
      let h = same_head at to _ _ p in
      let q = same_expr_form f g r u (same_rest _ _ _ _ p) in
      (λ i. expr (h i) (q.0 i), q.1)

  pub same_expr_form : (x y : ExprForm) (r u : List ℕ) → flat_expr_form x r ≡ flat_expr_form y u → (x ≡ y) × (r ≡ u)
  same_expr_form (name_expr n) (name_expr m) r u p =
      let q = same_text n m r u (same_rest _ _ _ _ p) in
      (ap name_expr q.0, q.1)
  same_expr_form (call_expr n xs) (call_expr m ys) r u p =
      let q = same_text n m _ _ (same_rest _ _ _ _ p) in
      let s = same_exprs xs ys r u q.1 in
      (λ i. call_expr (q.0 i) (s.0 i), s.1)
  same_expr_form (declare_expr n xs) (declare_expr m ys) r u p =
      let q = same_text n m _ _ (same_rest _ _ _ _ p) in
      let s = same_refs xs ys r u q.1 in
      (λ i. declare_expr (q.0 i) (s.0 i), s.1)
  same_expr_form (attr_expr l) (attr_expr k) r u p =
      let q = same_literal l k r u (same_rest _ _ _ _ p) in
      (ap attr_expr q.0, q.1)
  same_expr_form (type_expr l) (type_expr k) r u p =
      let q = same_literal l k r u (same_rest _ _ _ _ p) in
      (ap type_expr q.0, q.1)
  same_expr_form (op_expr o) (op_expr q) r u p =
      let s = same_op o q r u (same_rest _ _ _ _ p) in
      (ap op_expr s.0, s.1)
  same_expr_form (member_expr x k) (member_expr y l) r u p =
      let t = same_rest _ _ _ _ p in
      let h = same_head k l _ _ t in
      let q = same_expr x y r u (same_rest _ _ _ _ t) in
      (λ i. member_expr (q.0 i) (h i), q.1)
  same_expr_form _ _ r u p = absurd (cc)

  pub same_op : (x y : OpExpr) (r u : List ℕ) → flat_op x r ≡ flat_op y u → (x ≡ y) × (r ≡ u)
  same_op (operation n xs es ts) (operation m ys ds us) r u p =
      let a = same_text n m _ _ p in
      let b = same_maybe_exprs xs ys _ _ a.1 in
      let c = same_entries es ds _ _ b.1 in
      let d = same_maybe_exprs ts us r u c.1 in
      (λ i. operation (a.0 i) (b.0 i) (c.0 i) (d.0 i), d.1)

  pub same_entry : (x y : Entry) (r u : List ℕ) → flat_entry x r ≡ flat_entry y u → (x ≡ y) × (r ≡ u)
  same_entry (entry at n x) (entry to m y) r u p =
      let h = same_head at to _ _ p in
      let a = same_text n m _ _ (same_rest _ _ _ _ p) in
      let b = same_maybe_expr x y r u a.1 in
      (λ i. entry (h i) (a.0 i) (b.0 i), b.1)

  pub same_ref : (x y : Ref) (r u : List ℕ) → flat_ref x r ≡ flat_ref y u → (x ≡ y) × (r ≡ u)
  same_ref (ref at f) (ref to g) r u p =
      let h = same_head at to _ _ p in
      let q = same_ref_form f g r u (same_rest _ _ _ _ p) in
      (λ i. ref (h i) (q.0 i), q.1)

  pub same_ref_form : (x y : RefForm) (r u : List ℕ) → flat_ref_form x r ≡ flat_ref_form y u → (x ≡ y) × (r ≡ u)
  same_ref_form (attr_ref x) (attr_ref y) r u p =
      let q = same_maybe_expr x y r u (same_rest _ _ _ _ p) in
      (ap attr_ref q.0, q.1)
  same_ref_form (op_ref n) (op_ref m) r u p =
      let q = same_option n m r u (same_rest _ _ _ _ p) in
      (ap op_ref q.0, q.1)
  same_ref_form type_ref type_ref r u p = (refl, same_rest _ _ _ _ p)
  same_ref_form type_range_ref type_range_ref r u p = (refl, same_rest _ _ _ _ p)
  same_ref_form (value_ref x) (value_ref y) r u p =
      let q = same_maybe_expr x y r u (same_rest _ _ _ _ p) in
      (ap value_ref q.0, q.1)
  same_ref_form (value_range_ref x) (value_range_ref y) r u p =
      let q = same_maybe_expr x y r u (same_rest _ _ _ _ p) in
      (ap value_range_ref q.0, q.1)
  same_ref_form (named_ref n) (named_ref m) r u p =
      let q = same_text n m r u (same_rest _ _ _ _ p) in
      (ap named_ref q.0, q.1)
  same_ref_form _ _ r u p = absurd (cc)

  pub same_exprs : (x y : Exprs) (r u : List ℕ) → flat_exprs x r ≡ flat_exprs y u → (x ≡ y) × (r ≡ u)
  same_exprs no_exprs no_exprs r u p = (refl, same_rest _ _ _ _ p)
  same_exprs (expr_then x xs) (expr_then y ys) r u p =
      let a = same_expr x y _ _ (same_rest _ _ _ _ p) in
      let b = same_exprs xs ys r u a.1 in
      (λ i. expr_then (a.0 i) (b.0 i), b.1)
  same_exprs _ _ r u p = absurd (cc)

  pub same_entries : (x y : Entries) (r u : List ℕ) → flat_entries x r ≡ flat_entries y u → (x ≡ y) × (r ≡ u)
  same_entries no_entries no_entries r u p = (refl, same_rest _ _ _ _ p)
  same_entries (entry_then x xs) (entry_then y ys) r u p =
      let a = same_entry x y _ _ (same_rest _ _ _ _ p) in
      let b = same_entries xs ys r u a.1 in
      (λ i. entry_then (a.0 i) (b.0 i), b.1)
  same_entries _ _ r u p = absurd (cc)

  pub same_refs : (x y : Refs) (r u : List ℕ) → flat_refs x r ≡ flat_refs y u → (x ≡ y) × (r ≡ u)
  same_refs no_refs no_refs r u p = (refl, same_rest _ _ _ _ p)
  same_refs (ref_then x xs) (ref_then y ys) r u p =
      let a = same_ref x y _ _ (same_rest _ _ _ _ p) in
      let b = same_refs xs ys r u a.1 in
      (λ i. ref_then (a.0 i) (b.0 i), b.1)
  same_refs _ _ r u p = absurd (cc)

  pub same_maybe_expr : (x y : MaybeExpr) (r u : List ℕ) → flat_maybe_expr x r ≡ flat_maybe_expr y u → (x ≡ y) × (r ≡ u)
  same_maybe_expr no_expr no_expr r u p = (refl, same_rest _ _ _ _ p)
  same_maybe_expr (some_expr x) (some_expr y) r u p =
      let q = same_expr x y r u (same_rest _ _ _ _ p) in
      (ap some_expr q.0, q.1)
  same_maybe_expr _ _ r u p = absurd (cc)

  pub same_maybe_exprs : (x y : MaybeExprs) (r u : List ℕ) → flat_maybe_exprs x r ≡ flat_maybe_exprs y u → (x ≡ y) × (r ≡ u)
  same_maybe_exprs left_out left_out r u p = (refl, same_rest _ _ _ _ p)
  same_maybe_exprs (written xs) (written ys) r u p =
      let q = same_exprs xs ys r u (same_rest _ _ _ _ p) in
      (ap written q.0, q.1)
  same_maybe_exprs _ _ r u p = absurd (cc)

-- ---- the codes

abbrev numbers : Coded (List ℕ)
numbers = coded_list coded_ℕ

-- trees whose lists of numbers tell them apart
abbrev pub coded_by : {A : Type 0} (flat : A → List ℕ → List ℕ) → ((x y : A) (r u : List ℕ) → flat x r ≡ flat y u → (x ≡ y) × (r ≡ u)) → Coded A
coded_by flat same = record {
  code = λ x. numbers.code (flat x []);
  inj = λ x y p. (same x y [] [] (numbers.inj (flat x []) (flat y []) p)).0;
}

abbrev pub coded_expr : Coded Expr
coded_expr = coded_by flat_expr same_expr

abbrev pub coded_op : Coded OpExpr
coded_op = coded_by flat_op same_op

abbrev pub coded_entry : Coded Entry
coded_entry = coded_by flat_entry same_entry

abbrev pub coded_ref : Coded Ref
coded_ref = coded_by flat_ref same_ref
