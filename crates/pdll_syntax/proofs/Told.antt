-- The tests of equality tell exactly whether two trees are the same.
use Rattle.std.proofs.Common.{◌≡◌, ◌↔◌, IsTrue, ℕ, Bool, true, false, ◌&&◌, nat_eq, List, [], ◌∷◌, Option, Some, None, refl, sym as back, ap, ◌∙◌}
use Rattle.std.specs.Str.{bytes_eq}
use Rattle.std.proofs.lemmas.Bool.Decides.{Decides-eqb}
use Rattle.std.proofs.lemmas.Slice.Eq.{bytes_eq-Decides}
use Rattle.pdll_syntax.specs.declared.name.Literal.{Literal}
use Rattle.pdll_syntax.specs.declared.name.Name.{Name}
use Rattle.pdll_syntax.specs.declared.stmt.Values.{Values}
use Rattle.pdll_syntax.specs.declared.stmt.Values.TheVariants.{One, Several}
use Rattle.pdll_syntax.specs.declared.stmt.Body.{Body}
use Rattle.pdll_syntax.specs.declared.stmt.Body.TheVariants as body
use Rattle.pdll_syntax.specs.declared.stmt.Body.TheVariants.{Absent, Braces, Value}
use Rattle.pdll_syntax.specs.declared.stmt.Param.{Param}
use Rattle.pdll_syntax.specs.declared.file.Meta.{Meta}
use Rattle.pdll_syntax.specs.declared.file.MetaForm.{MetaForm}
use Rattle.pdll_syntax.specs.declared.file.MetaForm.TheVariants.{Benefit, Recursion}
use Rattle.pdll_syntax.specs.declared.file.PatternDecl.{PatternDecl}
use Rattle.pdll_syntax.specs.declared.file.CallDecl.{CallDecl}
use Rattle.pdll_syntax.specs.declared.file.Decl.{Decl}
use Rattle.pdll_syntax.specs.declared.file.Decl.TheVariants.{Pattern, Constraint, Rewrite}
use Rattle.pdll_syntax.specs.declared.file.PatFile.{PatFile}
use Rattle.pdll_syntax.specs.ExprTree.{Expr, expr, ExprForm, name_expr, call_expr, declare_expr, attr_expr, type_expr, op_expr, member_expr, OpExpr, operation, Entry, entry, Ref, ref, RefForm, attr_ref, op_ref, type_ref, type_range_ref, value_ref, value_range_ref, named_ref, Exprs, no_exprs, expr_then, exprs, expr_list, exprs_back, Entries, no_entries, entry_then, Refs, no_refs, ref_then, refs, ref_list, refs_back, MaybeExpr, no_expr, some_expr, maybe_expr, MaybeExprs, left_out, written}
use Rattle.pdll_syntax.specs.StmtTree.{Stmt, stmt, StmtForm, let_stmt, erase_stmt, return_stmt, replace_stmt, rewrite_stmt, plain_stmt, Stmts, no_stmts, stmt_then, stmts, stmt_list, stmts_back}
use Rattle.pdll_syntax.specs.Equal.{option_eq, literal_eq, name_eq, expr_eq, expr_form_eq, op_eq, entry_eq, ref_eq, ref_form_eq, exprs_eq, entries_eq, refs_eq, maybe_expr_eq, maybe_exprs_eq, values_eq, stmt_eq, stmt_form_eq, stmts_eq, list_eq, body_eq, param_eq, meta_form_eq, meta_eq, pattern_eq, call_eq, decl_eq, file_eq}

-- ---- truth values, numbers and texts

pub first : (a b : Bool) → (a && b) ≡ true → a ≡ true
first true b h = refl
first false b h = absurd (cc)

pub second : (a b : Bool) → (a && b) ≡ true → b ≡ true
second true b h = h
second false b h = absurd (cc)

pub both : (a b : Bool) → a ≡ true → b ≡ true → (a && b) ≡ true
both true b h k = k
both false b h k = absurd (cc)

pub nat_told : (x y : ℕ) → nat_eq x y ≡ true → x ≡ y
nat_told x y = (Decides-eqb x y).0

pub nat_itself : (x : ℕ) → nat_eq x x ≡ true
nat_itself x = (Decides-eqb x x).1 refl

text_told : (x y : List ℕ) → bytes_eq x y ≡ true → x ≡ y
text_told x y = (bytes_eq-Decides x y).0

text_itself : (x : List ℕ) → bytes_eq x x ≡ true
text_itself x = (bytes_eq-Decides x x).1 refl

-- ---- what the tests hold to be the same is the same

option_told : (x y : Option (List ℕ)) → option_eq bytes_eq x y ≡ true → x ≡ y
option_told None None h = refl
option_told (Some x) (Some y) h = ap Some (text_told x y h)
option_told _ _ h = absurd (cc)

literal_told : (x y : Literal) → literal_eq x y ≡ true → x ≡ y
literal_told x y h =
    let a = nat_told x.at y.at (first _ (bytes_eq x.bytes y.bytes) h) in
    let b = text_told x.bytes y.bytes (second (nat_eq x.at y.at) _ h) in
    λ i. record { at = a i; bytes = b i }

pub name_told : (x y : Name) → name_eq x y ≡ true → x ≡ y
name_told x y h =
    let a = nat_told x.at y.at (first _ (bytes_eq x.text y.text) h) in
    let b = text_told x.text y.text (second (nat_eq x.at y.at) _ h) in
    λ i. record { at = a i; text = b i }

mutual
  pub expr_told : (x y : Expr) → expr_eq x y ≡ true → x ≡ y
  expr_told (expr at f) (expr to g) h =
      let a = nat_told at to (first _ (expr_form_eq f g) h) in
      let b = expr_form_told f g (second (nat_eq at to) _ h) in
      λ i. expr (a i) (b i)

  pub expr_form_told : (x y : ExprForm) → expr_form_eq x y ≡ true → x ≡ y
  expr_form_told (name_expr n) (name_expr m) h = ap name_expr (text_told n m h)
  expr_form_told (call_expr n xs) (call_expr m ys) h =
      let a = text_told n m (first _ (exprs_eq xs ys) h) in
      let b = exprs_told xs ys (second (bytes_eq n m) _ h) in
      λ i. call_expr (a i) (b i)
  expr_form_told (declare_expr n rs) (declare_expr m ss) h =
      let a = text_told n m (first _ (refs_eq rs ss) h) in
      let b = refs_told rs ss (second (bytes_eq n m) _ h) in
      λ i. declare_expr (a i) (b i)
  expr_form_told (attr_expr l) (attr_expr k) h = ap attr_expr (literal_told l k h)
  expr_form_told (type_expr l) (type_expr k) h = ap type_expr (literal_told l k h)
  expr_form_told (op_expr o) (op_expr q) h = ap op_expr (op_told o q h)
  expr_form_told (member_expr x k) (member_expr y l) h =
      let a = nat_told k l (first _ (expr_eq x y) h) in
      let b = expr_told x y (second (nat_eq k l) _ h) in
      λ i. member_expr (b i) (a i)
  expr_form_told _ _ h = absurd (cc)

  pub op_told : (x y : OpExpr) → op_eq x y ≡ true → x ≡ y
  op_told (operation n xs es ts) (operation m ys ds us) h =
      let t = second (bytes_eq n m) (maybe_exprs_eq xs ys && (entries_eq es ds && maybe_exprs_eq ts us)) h in
      let s = second (maybe_exprs_eq xs ys) (entries_eq es ds && maybe_exprs_eq ts us) t in
      let a = text_told n m (first (bytes_eq n m) (maybe_exprs_eq xs ys && (entries_eq es ds && maybe_exprs_eq ts us)) h) in
      let b = maybe_exprs_told xs ys (first (maybe_exprs_eq xs ys) (entries_eq es ds && maybe_exprs_eq ts us) t) in
      let c = entries_told es ds (first (entries_eq es ds) (maybe_exprs_eq ts us) s) in
      let d = maybe_exprs_told ts us (second (entries_eq es ds) (maybe_exprs_eq ts us) s) in
      λ i. operation (a i) (b i) (c i) (d i)

  pub entry_told : (x y : Entry) → entry_eq x y ≡ true → x ≡ y
  entry_told (entry at n x) (entry to m y) h =
      let t = second (nat_eq at to) (bytes_eq n m && maybe_expr_eq x y) h in
      let a = nat_told at to (first _ (bytes_eq n m && maybe_expr_eq x y) h) in
      let b = text_told n m (first (bytes_eq n m) (maybe_expr_eq x y) t) in
      let c = maybe_expr_told x y (second (bytes_eq n m) (maybe_expr_eq x y) t) in
      λ i. entry (a i) (b i) (c i)

  pub ref_told : (x y : Ref) → ref_eq x y ≡ true → x ≡ y
  ref_told (ref at f) (ref to g) h =
      let a = nat_told at to (first _ (ref_form_eq f g) h) in
      let b = ref_form_told f g (second (nat_eq at to) _ h) in
      λ i. ref (a i) (b i)

  pub ref_form_told : (x y : RefForm) → ref_form_eq x y ≡ true → x ≡ y
  ref_form_told (attr_ref x) (attr_ref y) h = ap attr_ref (maybe_expr_told x y h)
  ref_form_told (op_ref n) (op_ref m) h = ap op_ref (option_told n m h)
  ref_form_told type_ref type_ref h = refl
  ref_form_told type_range_ref type_range_ref h = refl
  ref_form_told (value_ref x) (value_ref y) h = ap value_ref (maybe_expr_told x y h)
  ref_form_told (value_range_ref x) (value_range_ref y) h = ap value_range_ref (maybe_expr_told x y h)
  ref_form_told (named_ref n) (named_ref m) h = ap named_ref (text_told n m h)
  ref_form_told _ _ h = absurd (cc)

  pub exprs_told : (x y : Exprs) → exprs_eq x y ≡ true → x ≡ y
  exprs_told no_exprs no_exprs h = refl
  exprs_told (expr_then x xs) (expr_then y ys) h =
      let a = expr_told x y (first _ (exprs_eq xs ys) h) in
      let b = exprs_told xs ys (second (expr_eq x y) _ h) in
      λ i. expr_then (a i) (b i)
  exprs_told _ _ h = absurd (cc)

  pub entries_told : (x y : Entries) → entries_eq x y ≡ true → x ≡ y
  entries_told no_entries no_entries h = refl
  entries_told (entry_then x xs) (entry_then y ys) h =
      let a = entry_told x y (first _ (entries_eq xs ys) h) in
      let b = entries_told xs ys (second (entry_eq x y) _ h) in
      λ i. entry_then (a i) (b i)
  entries_told _ _ h = absurd (cc)

  pub refs_told : (x y : Refs) → refs_eq x y ≡ true → x ≡ y
  refs_told no_refs no_refs h = refl
  refs_told (ref_then x xs) (ref_then y ys) h =
      let a = ref_told x y (first _ (refs_eq xs ys) h) in
      let b = refs_told xs ys (second (ref_eq x y) _ h) in
      λ i. ref_then (a i) (b i)
  refs_told _ _ h = absurd (cc)

  pub maybe_expr_told : (x y : MaybeExpr) → maybe_expr_eq x y ≡ true → x ≡ y
  maybe_expr_told no_expr no_expr h = refl
  maybe_expr_told (some_expr x) (some_expr y) h = ap some_expr (expr_told x y h)
  maybe_expr_told _ _ h = absurd (cc)

  pub maybe_exprs_told : (x y : MaybeExprs) → maybe_exprs_eq x y ≡ true → x ≡ y
  maybe_exprs_told left_out left_out h = refl
  maybe_exprs_told (written xs) (written ys) h = ap written (exprs_told xs ys h)
  maybe_exprs_told _ _ h = absurd (cc)

-- ---- the tests hold a tree to be the same as itself

option_itself : (x : Option (List ℕ)) → option_eq bytes_eq x x ≡ true
option_itself None = refl
option_itself (Some x) = text_itself x

literal_itself : (x : Literal) → literal_eq x x ≡ true
literal_itself x = both _ _ (nat_itself x.at) (text_itself x.bytes)

pub name_itself : (x : Name) → name_eq x x ≡ true
name_itself x = both _ _ (nat_itself x.at) (text_itself x.text)

mutual
  pub expr_itself : (x : Expr) → expr_eq x x ≡ true
  expr_itself (expr at f) = both _ _ (nat_itself at) (expr_form_itself f)

  pub expr_form_itself : (x : ExprForm) → expr_form_eq x x ≡ true
  expr_form_itself (name_expr n) = text_itself n
  expr_form_itself (call_expr n xs) = both _ _ (text_itself n) (exprs_itself xs)
  expr_form_itself (declare_expr n rs) = both _ _ (text_itself n) (refs_itself rs)
  expr_form_itself (attr_expr l) = literal_itself l
  expr_form_itself (type_expr l) = literal_itself l
  expr_form_itself (op_expr o) = op_itself o
  expr_form_itself (member_expr x k) = both _ _ (nat_itself k) (expr_itself x)

  pub op_itself : (x : OpExpr) → op_eq x x ≡ true
  op_itself (operation n xs es ts) = both _ _ (text_itself n) (both _ _ (maybe_exprs_itself xs) (both _ _ (entries_itself es) (maybe_exprs_itself ts)))

  pub entry_itself : (x : Entry) → entry_eq x x ≡ true
  entry_itself (entry at n x) = both _ _ (nat_itself at) (both _ _ (text_itself n) (maybe_expr_itself x))

  pub ref_itself : (x : Ref) → ref_eq x x ≡ true
  ref_itself (ref at f) = both _ _ (nat_itself at) (ref_form_itself f)

  pub ref_form_itself : (x : RefForm) → ref_form_eq x x ≡ true
  ref_form_itself (attr_ref x) = maybe_expr_itself x
  ref_form_itself (op_ref n) = option_itself n
  ref_form_itself type_ref = refl
  ref_form_itself type_range_ref = refl
  ref_form_itself (value_ref x) = maybe_expr_itself x
  ref_form_itself (value_range_ref x) = maybe_expr_itself x
  ref_form_itself (named_ref n) = text_itself n

  pub exprs_itself : (x : Exprs) → exprs_eq x x ≡ true
  exprs_itself no_exprs = refl
  exprs_itself (expr_then x xs) = both _ _ (expr_itself x) (exprs_itself xs)

  pub entries_itself : (x : Entries) → entries_eq x x ≡ true
  entries_itself no_entries = refl
  entries_itself (entry_then x xs) = both _ _ (entry_itself x) (entries_itself xs)

  pub refs_itself : (x : Refs) → refs_eq x x ≡ true
  refs_itself no_refs = refl
  refs_itself (ref_then x xs) = both _ _ (ref_itself x) (refs_itself xs)

  pub maybe_expr_itself : (x : MaybeExpr) → maybe_expr_eq x x ≡ true
  maybe_expr_itself no_expr = refl
  maybe_expr_itself (some_expr x) = expr_itself x

  pub maybe_exprs_itself : (x : MaybeExprs) → maybe_exprs_eq x x ≡ true
  maybe_exprs_itself left_out = refl
  maybe_exprs_itself (written xs) = exprs_itself xs

-- ---- the answer of a test

pub told : {A : Type 0} (test : A → A → Bool) → ((x y : A) → test x y ≡ true → x ≡ y) → ((x : A) → test x x ≡ true) → (x y : A) (r : Bool) → r ≡ test x y → IsTrue r ↔ (x ≡ y)
told test sound itself x y r e = (λ h. sound x y (back e ∙ h), λ h. e ∙ (ap (test x) (back h) ∙ itself x))

-- ---- lists and options

-- the lists inside trees
expr_list_told : (xs ys : List Expr) → exprs_eq (exprs xs) (exprs ys) ≡ true → xs ≡ ys
expr_list_told xs ys h = back (exprs_back xs) ∙ (ap expr_list (exprs_told (exprs xs) (exprs ys) h) ∙ exprs_back ys)

ref_list_told : (xs ys : List Ref) → refs_eq (refs xs) (refs ys) ≡ true → xs ≡ ys
ref_list_told xs ys h = back (refs_back xs) ∙ (ap ref_list (refs_told (refs xs) (refs ys) h) ∙ refs_back ys)

maybe_told : (x y : Option Expr) → maybe_expr_eq (maybe_expr x) (maybe_expr y) ≡ true → x ≡ y
maybe_told None None h = refl
maybe_told (Some x) (Some y) h = ap Some (expr_told x y h)
maybe_told _ _ h = absurd (cc)

maybe_itself : (x : Option Expr) → maybe_expr_eq (maybe_expr x) (maybe_expr x) ≡ true
maybe_itself None = refl
maybe_itself (Some x) = expr_itself x

module _ {A : Type 0} (test : A → A → Bool) (sound : (x y : A) → test x y ≡ true → x ≡ y) (itself : (x : A) → test x x ≡ true) where
  list_told : (x y : List A) → list_eq test x y ≡ true → x ≡ y
  list_told [] [] h = refl
  list_told (x ∷ xs) (y ∷ ys) h =
      let a = sound x y (first _ (list_eq test xs ys) h) in
      let b = list_told xs ys (second (test x y) _ h) in
      λ i. a i ∷ b i
  list_told _ _ h = absurd (cc)

  list_itself : (x : List A) → list_eq test x x ≡ true
  list_itself [] = refl
  list_itself (x ∷ xs) = both _ _ (itself x) (list_itself xs)

  some_told : (x y : Option A) → option_eq test x y ≡ true → x ≡ y
  some_told None None h = refl
  some_told (Some x) (Some y) h = ap Some (sound x y h)
  some_told _ _ h = absurd (cc)

  some_itself : (x : Option A) → option_eq test x x ≡ true
  some_itself None = refl
  some_itself (Some x) = itself x

-- ---- statements

values_told : (x y : Values) → values_eq x y ≡ true → x ≡ y
values_told (One x) (One y) h = ap One (expr_told x y h)
values_told (Several xs) (Several ys) h = ap Several (expr_list_told xs ys h)
values_told _ _ h = absurd (cc)

values_itself : (x : Values) → values_eq x x ≡ true
values_itself (One x) = expr_itself x
values_itself (Several xs) = exprs_itself (exprs xs)

mutual
  pub stmt_told : (x y : Stmt) → stmt_eq x y ≡ true → x ≡ y
  stmt_told (stmt at f) (stmt to g) h =
      let a = nat_told at to (first _ (stmt_form_eq f g) h) in
      let b = stmt_form_told f g (second (nat_eq at to) _ h) in
      λ i. stmt (a i) (b i)

  pub stmt_form_told : (x y : StmtForm) → stmt_form_eq x y ≡ true → x ≡ y
  stmt_form_told (let_stmt n rs x) (let_stmt m ss y) h =
      let t = second (name_eq n m) (refs_eq (refs rs) (refs ss) && maybe_expr_eq (maybe_expr x) (maybe_expr y)) h in
      let a = name_told n m (first (name_eq n m) (refs_eq (refs rs) (refs ss) && maybe_expr_eq (maybe_expr x) (maybe_expr y)) h) in
      let b = ref_list_told rs ss (first (refs_eq (refs rs) (refs ss)) (maybe_expr_eq (maybe_expr x) (maybe_expr y)) t) in
      let c = maybe_told x y (second (refs_eq (refs rs) (refs ss)) (maybe_expr_eq (maybe_expr x) (maybe_expr y)) t) in
      λ i. let_stmt (a i) (b i) (c i)
  stmt_form_told (erase_stmt x) (erase_stmt y) h = ap erase_stmt (expr_told x y h)
  stmt_form_told (return_stmt x) (return_stmt y) h = ap return_stmt (expr_told x y h)
  stmt_form_told (replace_stmt x vs) (replace_stmt y ws) h =
      let a = expr_told x y (first _ (values_eq vs ws) h) in
      let b = values_told vs ws (second (expr_eq x y) _ h) in
      λ i. replace_stmt (a i) (b i)
  stmt_form_told (rewrite_stmt x ss end) (rewrite_stmt y ts close) h =
      let t = second (nat_eq end close) (expr_eq x y && stmts_eq ss ts) h in
      let a = nat_told end close (first _ (expr_eq x y && stmts_eq ss ts) h) in
      let b = expr_told x y (first (expr_eq x y) (stmts_eq ss ts) t) in
      let c = stmts_told ss ts (second (expr_eq x y) (stmts_eq ss ts) t) in
      λ i. rewrite_stmt (b i) (c i) (a i)
  stmt_form_told (plain_stmt x) (plain_stmt y) h = ap plain_stmt (expr_told x y h)
  stmt_form_told _ _ h = absurd (cc)

  pub stmts_told : (x y : Stmts) → stmts_eq x y ≡ true → x ≡ y
  stmts_told no_stmts no_stmts h = refl
  stmts_told (stmt_then x xs) (stmt_then y ys) h =
      let a = stmt_told x y (first _ (stmts_eq xs ys) h) in
      let b = stmts_told xs ys (second (stmt_eq x y) _ h) in
      λ i. stmt_then (a i) (b i)
  stmts_told _ _ h = absurd (cc)

mutual
  pub stmt_itself : (x : Stmt) → stmt_eq x x ≡ true
  stmt_itself (stmt at f) = both _ _ (nat_itself at) (stmt_form_itself f)

  pub stmt_form_itself : (x : StmtForm) → stmt_form_eq x x ≡ true
  stmt_form_itself (let_stmt n rs x) = both _ _ (name_itself n) (both _ _ (refs_itself (refs rs)) (maybe_itself x))
  stmt_form_itself (erase_stmt x) = expr_itself x
  stmt_form_itself (return_stmt x) = expr_itself x
  stmt_form_itself (replace_stmt x vs) = both _ _ (expr_itself x) (values_itself vs)
  stmt_form_itself (rewrite_stmt x ss end) = both _ _ (nat_itself end) (both _ _ (expr_itself x) (stmts_itself ss))
  stmt_form_itself (plain_stmt x) = expr_itself x

  pub stmts_itself : (x : Stmts) → stmts_eq x x ≡ true
  stmts_itself no_stmts = refl
  stmts_itself (stmt_then x xs) = both _ _ (stmt_itself x) (stmts_itself xs)

-- ---- declarations

stmt_list_told : (xs ys : List Stmt) → stmts_eq (stmts xs) (stmts ys) ≡ true → xs ≡ ys
stmt_list_told xs ys h = back (stmts_back xs) ∙ (ap stmt_list (stmts_told (stmts xs) (stmts ys) h) ∙ stmts_back ys)

body_told : (x y : Body) → body_eq x y ≡ true → x ≡ y
body_told Absent Absent h = refl
body_told (Braces ss end) (Braces ts close) h =
    let a = nat_told end close (first _ (stmts_eq (stmts ss) (stmts ts)) h) in
    let b = stmt_list_told ss ts (second (nat_eq end close) _ h) in
    λ i. Braces (b i) (a i)
body_told (body.One s) (body.One t) h = ap body.One (stmt_told s t h)
body_told (Value x) (Value y) h = ap Value (expr_told x y h)
body_told _ _ h = absurd (cc)

body_itself : (x : Body) → body_eq x x ≡ true
body_itself Absent = refl
body_itself (Braces ss end) = both _ _ (nat_itself end) (stmts_itself (stmts ss))
body_itself (body.One s) = stmt_itself s
body_itself (Value x) = expr_itself x

param_told : (x y : Param) → param_eq x y ≡ true → x ≡ y
param_told x y h =
    let a = name_told x.name y.name (first _ (refs_eq (refs x.refs) (refs y.refs)) h) in
    let b = ref_list_told x.refs y.refs (second (name_eq x.name y.name) _ h) in
    λ i. record { name = a i; refs = b i }

param_itself : (x : Param) → param_eq x x ≡ true
param_itself x = both _ _ (name_itself x.name) (refs_itself (refs x.refs))

meta_form_told : (x y : MetaForm) → meta_form_eq x y ≡ true → x ≡ y
meta_form_told (Benefit n) (Benefit m) h = ap Benefit (nat_told n m h)
meta_form_told Recursion Recursion h = refl
meta_form_told _ _ h = absurd (cc)

meta_form_itself : (x : MetaForm) → meta_form_eq x x ≡ true
meta_form_itself (Benefit n) = nat_itself n
meta_form_itself Recursion = refl

meta_told : (x y : Meta) → meta_eq x y ≡ true → x ≡ y
meta_told x y h =
    let a = nat_told x.at y.at (first _ (meta_form_eq x.form y.form) h) in
    let b = meta_form_told x.form y.form (second (nat_eq x.at y.at) _ h) in
    λ i. record { at = a i; form = b i }

meta_itself : (x : Meta) → meta_eq x x ≡ true
meta_itself x = both _ _ (nat_itself x.at) (meta_form_itself x.form)

pattern_told : (x y : PatternDecl) → pattern_eq x y ≡ true → x ≡ y
pattern_told x y h =
    let s : Bool = body_eq x.body y.body in
    let t : Bool = list_eq meta_eq x.metas y.metas in
    let u : Bool = option_eq name_eq x.name y.name in
    let k = second (nat_eq x.at y.at) (u && (t && s)) h in
    let l = second u (t && s) k in
    let a = nat_told x.at y.at (first _ (u && (t && s)) h) in
    let b = some_told name_eq name_told name_itself x.name y.name (first u (t && s) k) in
    let c = list_told meta_eq meta_told meta_itself x.metas y.metas (first t s l) in
    let d = body_told x.body y.body (second t s l) in
    λ i. record { at = a i; name = b i; metas = c i; body = d i }

pattern_itself : (x : PatternDecl) → pattern_eq x x ≡ true
pattern_itself x =
    both _ _ (nat_itself x.at) (both _ _ (some_itself name_eq name_told name_itself x.name) (both _ _ (list_itself meta_eq meta_told meta_itself x.metas) (body_itself x.body)))

call_told : (x y : CallDecl) → call_eq x y ≡ true → x ≡ y
call_told x y h =
    let s : Bool = body_eq x.body y.body in
    let t : Bool = option_eq ref_eq x.gives y.gives in
    let u : Bool = list_eq param_eq x.params y.params in
    let v : Bool = name_eq x.name y.name in
    let k = second (nat_eq x.at y.at) (v && (u && (t && s))) h in
    let l = second v (u && (t && s)) k in
    let m = second u (t && s) l in
    let a = nat_told x.at y.at (first _ (v && (u && (t && s))) h) in
    let b = name_told x.name y.name (first v (u && (t && s)) k) in
    let c = list_told param_eq param_told param_itself x.params y.params (first u (t && s) l) in
    let d = some_told ref_eq ref_told ref_itself x.gives y.gives (first t s m) in
    let e = body_told x.body y.body (second t s m) in
    λ i. record { at = a i; name = b i; params = c i; gives = d i; body = e i }

call_itself : (x : CallDecl) → call_eq x x ≡ true
call_itself x =
    both _ _ (nat_itself x.at) (both _ _ (name_itself x.name) (both _ _ (list_itself param_eq param_told param_itself x.params) (both _ _ (some_itself ref_eq ref_told ref_itself x.gives) (body_itself x.body))))

decl_told : (x y : Decl) → decl_eq x y ≡ true → x ≡ y
decl_told (Pattern p) (Pattern q) h = ap Pattern (pattern_told p q h)
decl_told (Constraint c) (Constraint d) h = ap Constraint (call_told c d h)
decl_told (Rewrite c) (Rewrite d) h = ap Rewrite (call_told c d h)
decl_told _ _ h = absurd (cc)

decl_itself : (x : Decl) → decl_eq x x ≡ true
decl_itself (Pattern p) = pattern_itself p
decl_itself (Constraint c) = call_itself c
decl_itself (Rewrite c) = call_itself c

pub file_told : (x y : PatFile) → file_eq x y ≡ true → x ≡ y
file_told x y h = λ i. record { decls = list_told decl_eq decl_told decl_itself x.decls y.decls h i }

pub file_itself : (x : PatFile) → file_eq x x ≡ true
file_itself x = list_itself decl_eq decl_told decl_itself x.decls
