-- What a declaration mentions, in the order of its text (MLIR's document "PDLL - PDL Language", "Patterns", "Constraints" and
-- "Rewriters"): its heading, its words that declare variables, its refs, its statements and each use of an expression, with
-- what its place asks for. A variable comes into sight behind its statement, or behind its refs inside an expression.
use Rattle.std.specs.Prelude.{ℕ, Bool, true, false, ◌||◌, List, [], ◌∷◌, ◌++◌, Option, Some, None}
use Rattle.std.specs.Option.{is_some}
use Rattle.pdll_syntax.specs.declared.stmt.Body.{Body}
use Rattle.pdll_syntax.specs.declared.stmt.Body.TheVariants as body
use Rattle.pdll_syntax.specs.declared.stmt.Param.{Param}
use Rattle.pdll_syntax.specs.declared.stmt.Values.{Values}
use Rattle.pdll_syntax.specs.declared.stmt.Values.TheVariants as values
use Rattle.pdll_syntax.specs.declared.file.Decl.{Decl}
use Rattle.pdll_syntax.specs.declared.file.Decl.TheVariants as decl
use Rattle.pdll_syntax.specs.ExprTree.{Expr, expr, ExprForm, name_expr, call_expr, declare_expr, attr_expr, type_expr, op_expr, member_expr, OpExpr, operation, Entry, entry, Ref, ref, RefForm, attr_ref, op_ref, type_ref, type_range_ref, value_ref, value_range_ref, named_ref, Exprs, no_exprs, expr_then, exprs, Entries, no_entries, entry_then, Refs, no_refs, ref_then, refs, MaybeExpr, no_expr, some_expr, maybe_expr, MaybeExprs, left_out, written as is_listed}
use Rattle.pdll_syntax.specs.StmtTree.{Stmt, stmt, StmtForm, let_stmt, erase_stmt, return_stmt, replace_stmt, rewrite_stmt, plain_stmt, Stmts, no_stmts, stmt_then, stmts}
use Rattle.pdll_types.specs.declared.kind.Kind.{Kind}
use Rattle.pdll_types.specs.declared.section.Section.{Section}
use Rattle.pdll_types.specs.declared.section.Section.TheVariants.{Matched, Rewritten, Replacing}
use Rattle.pdll_types.specs.declared.section.Holder.{Holder}
use Rattle.pdll_types.specs.declared.section.Holder.TheVariants.{Variable, Valued, Parameter, Outcome}
use Rattle.pdll_types.specs.declared.section.Standing.{Standing}
use Rattle.pdll_types.specs.declared.section.Standing.TheVariants.{Matching, Exempt, Final, Inside, Returning}
use Rattle.pdll_types.specs.Kinds.{Asked, anything, root, constraint_call, written, operand, result_type, an_operation, an_attribute, a_type, types}
use Rattle.pdll_types.specs.Signatures.{Declared, form_kind, form_of_ref, parameters, kind_of_refs, result_kind}

pub data Mention : Type 0 where
  -- the head of a declaration
  heading : Decl → Mention
  -- an expression: the part in which it stands, what is asked of it, the place of its first token, and what it is
  use_of : Section → Asked → ℕ → ExprForm → Mention
  -- the operands, or the result types, of an operation, by what is asked of each, behind them
  listed : Section → Asked → Exprs → Mention
  -- a word that declares a variable, which has a value there or not, its place and its name
  word : Section → Bool → ℕ → List ℕ → Mention
  -- refs, and what holds them
  ref_list : Section → Holder → Refs → Mention
  -- one of the refs of a variable of this kind, with a kind before it among them or not
  one_ref : Holder → Option Kind → Bool → Ref → Mention
  -- a variable that comes into sight, with its refs and its value
  shown : List ℕ → Refs → MaybeExpr → Mention
  -- a statement, how it stands, and whether one that names a root stands before it in its pattern
  statement : Standing → Bool → Stmt → Mention

-- ---- expressions

-- The part in which the parts of an expression stand.
abbrev pub within : Section → Section
within Matched = Matched
within Rewritten = Rewritten
within Replacing = Rewritten

abbrev pub is_kind : Ref → Bool
is_kind r = is_some (form_kind (form_of_ref r))

-- The kind that an argument is asked for, and those of the arguments behind it.
abbrev pub first_asked : List (Option Kind) → Asked
first_asked [] = written None
first_asked (k ∷ ks) = written k

abbrev pub others_asked : List (Option Kind) → List (Option Kind)
others_asked [] = []
others_asked (k ∷ ks) = ks

unfoldable mutual
  pub of_expr : List Declared → Section → Asked → Expr → List Mention
  of_expr c p a (expr at form) = use_of p a at form ∷ inside_form c p at form

  pub inside_form : List Declared → Section → ℕ → ExprForm → List Mention
  inside_form c p at (name_expr n) = []
  inside_form c p at (call_expr n xs) = of_arguments c (within p) (parameters c n) xs
  inside_form c p at (declare_expr n rs) =
      word (within p) false at n ∷ (ref_list (within p) Variable rs ∷ (of_refs c (within p) Variable (kind_of_refs c rs) false rs ++ shown n rs no_expr ∷ []))
  inside_form c p at (attr_expr l) = []
  inside_form c p at (type_expr l) = []
  inside_form c p at (op_expr o) = of_operation c (within p) o
  inside_form c p at (member_expr x k) = of_expr c p an_operation x

  pub of_operation : List Declared → Section → OpExpr → List Mention
  of_operation c p (operation n xs es ts) = of_list c p operand xs ++ (of_entries c p es ++ of_list c p result_type ts)

  -- operands or result types
  pub of_list : List Declared → Section → Asked → MaybeExprs → List Mention
  of_list c p a left_out = []
  of_list c p a (is_listed xs) = of_exprs c p a xs ++ listed p a xs ∷ []

  pub of_exprs : List Declared → Section → Asked → Exprs → List Mention
  of_exprs c p a no_exprs = []
  of_exprs c p a (expr_then x xs) = of_expr c p a x ++ of_exprs c p a xs

  -- arguments for parameters of these kinds
  pub of_arguments : List Declared → Section → List (Option Kind) → Exprs → List Mention
  of_arguments c p ks no_exprs = []
  of_arguments c p ks (expr_then x xs) = of_expr c p (first_asked ks) x ++ of_arguments c p (others_asked ks) xs

  pub of_entries : List Declared → Section → Entries → List Mention
  of_entries c p no_entries = []
  of_entries c p (entry_then e es) = of_entry c p e ++ of_entries c p es

  pub of_entry : List Declared → Section → Entry → List Mention
  of_entry c p (entry at n x) = of_maybe c p an_attribute x

  pub of_maybe : List Declared → Section → Asked → MaybeExpr → List Mention
  of_maybe c p a no_expr = []
  of_maybe c p a (some_expr x) = of_expr c p a x

  -- refs of a variable of this kind, with a kind before them or not
  pub of_refs : List Declared → Section → Holder → Option Kind → Bool → Refs → List Mention
  of_refs c p h k later no_refs = []
  of_refs c p h k later (ref_then r rs) = one_ref h k later r ∷ (inside_ref c p r ++ of_refs c p h k (later || is_kind r) rs)

  pub inside_ref : List Declared → Section → Ref → List Mention
  inside_ref c p (ref at form) = inside_ref_form c p form

  pub inside_ref_form : List Declared → Section → RefForm → List Mention
  inside_ref_form c p (attr_ref of) = of_maybe c p a_type of
  inside_ref_form c p (op_ref n) = []
  inside_ref_form c p type_ref = []
  inside_ref_form c p type_range_ref = []
  inside_ref_form c p (value_ref of) = of_maybe c p a_type of
  inside_ref_form c p (value_range_ref of) = of_maybe c p types of
  inside_ref_form c p (named_ref n) = []

-- All refs of a variable, a parameter or a result.
unfoldable pub of_all_refs : List Declared → Section → Holder → Refs → List Mention
of_all_refs c p h rs = ref_list p h rs ∷ of_refs c p h (kind_of_refs c rs) false rs

-- ---- statements

-- The part in which a statement stands, and what replaces an operation in it.
abbrev pub part_of : Standing → Section
part_of Matching = Matched
part_of Exempt = Matched
part_of Final = Matched
part_of Inside = Rewritten
part_of Returning = Rewritten

abbrev pub part_behind_with : Standing → Section
part_behind_with Matching = Matched
part_behind_with Exempt = Matched
part_behind_with Final = Replacing
part_behind_with Inside = Replacing
part_behind_with Returning = Replacing

-- What is asked of the operation that a statement erases, replaces or rewrites.
abbrev pub asked_of_target : Standing → Asked
asked_of_target Matching = anything
asked_of_target Exempt = anything
asked_of_target Final = root
asked_of_target Inside = an_operation
asked_of_target Returning = an_operation

-- What is asked of a returned expression, where results are of this kind.
abbrev pub asked_of_returned : Option Kind → Standing → Asked
asked_of_returned k Matching = anything
asked_of_returned k Exempt = anything
asked_of_returned k Final = anything
asked_of_returned k Inside = written k
asked_of_returned k Returning = written k

abbrev pub holder_of : Option Expr → Holder
holder_of None = Variable
holder_of (Some x) = Valued

abbrev pub are_none : Stmts → Bool
are_none no_stmts = true
are_none (stmt_then s ss) = false

-- How a statement of a rewrite stands, which may have a result, and where it is the last one or not.
abbrev pub standing_in_rewrite : Bool → Bool → Standing
standing_in_rewrite true true = Returning
standing_in_rewrite gives last = Inside

abbrev pub of_values : List Declared → Section → Values → List Mention
of_values c p (values.One x) = of_expr c p operand x
of_values c p (values.Several xs) = of_exprs c (within p) operand (exprs xs)

-- `let name: refs = value;`
unfoldable pub of_let : List Declared → Section → ℕ → List ℕ → List Ref → Option Expr → List Mention
of_let c p at n rs x =
    word p (is_some x) at n ∷ (of_all_refs c p (holder_of x) (refs rs)
    ++ (of_maybe c p (written (kind_of_refs c (refs rs))) (maybe_expr x) ++ shown n (refs rs) (maybe_expr x) ∷ []))

unfoldable mutual
  -- What stands in a statement, where results are of this kind.
  pub of_stmt : List Declared → Option Kind → Standing → Stmt → List Mention
  of_stmt c k st (stmt at form) = inside_stmt c k st form

  pub inside_stmt : List Declared → Option Kind → Standing → StmtForm → List Mention
  inside_stmt c k st (let_stmt n rs x) = of_let c (part_of st) n.at n.text rs x
  inside_stmt c k st (erase_stmt x) = of_expr c (part_of st) (asked_of_target st) x
  inside_stmt c k st (return_stmt x) = of_expr c (part_of st) (asked_of_returned k st) x
  inside_stmt c k st (replace_stmt x vs) = of_expr c (part_of st) (asked_of_target st) x ++ of_values c (part_behind_with st) vs
  inside_stmt c k st (rewrite_stmt x ss end) = of_expr c (part_of st) (asked_of_target st) x ++ of_rewrite c None false ss
  inside_stmt c k st (plain_stmt x) = of_expr c (part_of st) anything x

  -- The statements of a rewrite, which may have a result of this kind.
  pub of_rewrite : List Declared → Option Kind → Bool → Stmts → List Mention
  of_rewrite c k gives no_stmts = []
  of_rewrite c k gives (stmt_then s ss) =
      statement (standing_in_rewrite gives (are_none ss)) false s ∷ (of_stmt c k (standing_in_rewrite gives (are_none ss)) s ++ of_rewrite c k gives ss)

-- The statements of a constraint.
unfoldable pub of_constraint : List Declared → Stmts → List Mention
of_constraint c no_stmts = []
of_constraint c (stmt_then s ss) = statement Matching false s ∷ (of_stmt c None Matching s ++ of_constraint c ss)

-- Whether a statement names a root.
abbrev pub names_root_form : StmtForm → Bool
names_root_form (erase_stmt x) = true
names_root_form (replace_stmt x vs) = true
names_root_form (rewrite_stmt x ss end) = true
names_root_form form = false

abbrev pub names_root : Stmt → Bool
names_root (stmt at form) = names_root_form form

-- How a statement of a pattern stands: the last one, or else the first that names a root, or another one.
abbrev pub standing_in_pattern : Bool → Bool → Bool → Standing
standing_in_pattern true late names = Final
standing_in_pattern false false true = Exempt
standing_in_pattern false late names = Matching

-- The statements of a pattern, behind one that names a root or not.
unfoldable pub of_pattern : List Declared → Bool → Stmts → List Mention
of_pattern c late no_stmts = []
of_pattern c late (stmt_then s ss) =
    statement (standing_in_pattern (are_none ss) late (names_root s)) late s
    ∷ (of_stmt c None (standing_in_pattern (are_none ss) late (names_root s)) s ++ of_pattern c (late || names_root s) ss)

-- ---- declarations

abbrev pub of_param : List Declared → Section → Param → List Mention
of_param c p q = word p true q.name.at q.name.text ∷ (of_all_refs c p Parameter (refs q.refs) ++ shown q.name.text (refs q.refs) no_expr ∷ [])

unfoldable pub of_params : List Declared → Section → List Param → List Mention
of_params c p [] = []
of_params c p (q ∷ qs) = of_param c p q ++ of_params c p qs

abbrev pub of_result : List Declared → Option Ref → List Mention
of_result c None = []
of_result c (Some r) = of_all_refs c Rewritten Outcome (ref_then r no_refs)

-- What is asked of the expression of a rewrite by `=>`, which has a result of this kind or none.
abbrev pub asked_where : Bool → Option Kind → Asked
asked_where true k = written k
asked_where false k = anything

-- The statements of a body. A statement by `=>` is the only one.
abbrev pub body_stmts : Body → Stmts
body_stmts body.Absent = no_stmts
body_stmts (body.Braces ss end) = stmts ss
body_stmts (body.One s) = stmt_then s no_stmts
body_stmts (body.Value x) = no_stmts

-- The expression of a body by `=>`.
abbrev pub of_body_value : List Declared → Section → Asked → Body → List Mention
of_body_value c p a body.Absent = []
of_body_value c p a (body.Braces ss end) = []
of_body_value c p a (body.One s) = []
of_body_value c p a (body.Value x) = of_expr c p a x

abbrev pub inside_decl : List Declared → Decl → List Mention
inside_decl c (decl.Pattern p) = of_pattern c false (body_stmts p.body)
inside_decl c (decl.Constraint d) = of_params c Matched d.params ++ (of_constraint c (body_stmts d.body) ++ of_body_value c Matched constraint_call d.body)
inside_decl c (decl.Rewrite d) =
    of_params c Rewritten d.params ++ (of_result c d.gives
    ++ (of_rewrite c (result_kind c d.gives) (is_some d.gives) (body_stmts d.body)
    ++ of_body_value c Rewritten (asked_where (is_some d.gives) (result_kind c d.gives)) d.body))

-- All that a declaration mentions, where these declarations stand before it.
unfoldable pub mentions : List Declared → Decl → List Mention
mentions c d = heading d ∷ inside_decl c d
