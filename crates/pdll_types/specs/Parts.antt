-- Parts that may not stand where they stand, roots, and new operations without types (MLIR's document "PDLL - PDL Language",
-- "Patterns", "Constraints", "Rewriters" and "Operation Expression").
use Rattle.std.specs.Prelude.{ℕ, Bool, true, false, not, ◌&&◌, if◌then◌else◌, List, [], ◌∷◌, Option}
use Rattle.std.specs.Option.{is_some}
use Rattle.pdll_syntax.specs.declared.stmt.Body.{Body}
use Rattle.pdll_syntax.specs.declared.stmt.Body.TheVariants as body
use Rattle.pdll_syntax.specs.declared.file.Decl.TheVariants as decl
use Rattle.pdll_syntax.specs.declared.file.PatternDecl.{PatternDecl}
use Rattle.pdll_syntax.specs.declared.file.CallDecl.{CallDecl}
use Rattle.pdll_syntax.specs.ExprTree.{ExprForm, call_expr, op_expr, OpExpr, operation, ref, RefForm, attr_ref, op_ref, type_ref, type_range_ref, value_ref, value_range_ref, named_ref, Refs, no_refs, ref_then, MaybeExpr, no_expr, some_expr, MaybeExprs, left_out, written as is_listed}
use Rattle.pdll_syntax.specs.StmtTree.{Stmt, stmt, StmtForm, let_stmt, return_stmt, rewrite_stmt, plain_stmt, Stmts, no_stmts, stmt_then}
use Rattle.pdll_types.specs.declared.kind.Kind.{Kind}
use Rattle.pdll_types.specs.declared.section.Section.{Section}
use Rattle.pdll_types.specs.declared.section.Section.TheVariants.{Matched, Rewritten}
use Rattle.pdll_types.specs.declared.section.Holder.{Holder}
use Rattle.pdll_types.specs.declared.section.Holder.TheVariants.{Variable, Valued, Parameter, Outcome}
use Rattle.pdll_types.specs.declared.section.Standing.{Standing}
use Rattle.pdll_types.specs.declared.section.Standing.TheVariants.{Matching, Exempt, Final, Inside}
use Rattle.pdll_types.specs.Kinds.{Asked, root, holds, is_row}
use Rattle.pdll_types.specs.Signatures.{Declared, is_constraint, is_rewrite, form_of_ref, ref_place}
use Rattle.pdll_types.specs.Mentions.{Mention, heading, use_of, word, ref_list, one_ref, statement, names_root, body_stmts}
use Rattle.pdll_types.specs.Sight.{Seen, kind_of, place_of}
use Rattle.pdll_types.specs.Names.{where_so, plain_form}

-- ---- new operations

abbrev pub types_of : OpExpr → MaybeExprs
types_of (operation n xs es ts) = ts

abbrev pub is_left_out : MaybeExprs → Bool
is_left_out left_out = true
is_left_out (is_listed xs) = false

-- An operation in a rewrite without `->` that doesn't stand directly behind `replace .. with`.
abbrev pub lacks_types : Section → ExprForm → Bool
lacks_types Rewritten (op_expr o) = is_left_out (types_of o)
lacks_types p form = false

abbrev pub no_result_types_at : List Declared → Seen → Mention → List ℕ
no_result_types_at c s (use_of p a at form) = where_so (lacks_types p form) at
no_result_types_at c s m = []

-- ---- roots

-- Whether these are statements, the last of which names a root.
abbrev pub ends_in_root : Stmts → Bool
ends_in_root no_stmts = false
ends_in_root (stmt_then s no_stmts) = names_root s
ends_in_root (stmt_then s ss) = ends_in_root ss

abbrev pub stmt_place : Stmt → ℕ
stmt_place (stmt at form) = at

-- Where a pattern ends: at its closing brace, or where its only statement begins.
abbrev pub end_of : PatternDecl → ℕ
end_of p = end_of_body p.body where
  end_of_body : Body → ℕ
  end_of_body body.Absent = p.at
  end_of_body (body.Braces ss end) = end
  end_of_body (body.One s) = stmt_place s
  end_of_body (body.Value x) = place_of x

-- Whether a root is asked for, and what is of this kind isn't an operation.
abbrev pub is_bad_root : Asked → Option Kind → Bool
is_bad_root root k = not (holds is_row k)
is_bad_root a k = false

-- A pattern whose last statement names no root, or one that isn't an operation.
abbrev pub bad_root_at : List Declared → Seen → Mention → List ℕ
bad_root_at c s (heading (decl.Pattern p)) = where_so (not (ends_in_root (body_stmts p.body))) (end_of p)
bad_root_at c s (use_of p a at form) = where_so (is_bad_root a (kind_of c s.sight form)) at
bad_root_at c s m = []

-- A statement of a pattern behind one that names a root.
abbrev pub after_root_at : List Declared → Seen → Mention → List ℕ
after_root_at c s (statement st late (stmt at form)) = where_so late at
after_root_at c s m = []

-- ---- wrong parts

-- Statements that may not stand so: in a constraint or a match those of rewrites, but for the last one of a pattern and the
-- first that names its root; in a rewrite `rewrite`, and a `return` that isn't the last statement or has no result to return.
abbrev pub is_wrong_statement : Standing → StmtForm → Bool
is_wrong_statement st (let_stmt n rs x) = false
is_wrong_statement st (plain_stmt x) = false
is_wrong_statement Final form = false
is_wrong_statement Matching form = true
is_wrong_statement Exempt (return_stmt x) = true
is_wrong_statement Exempt form = false
is_wrong_statement Inside (return_stmt x) = true
is_wrong_statement st (rewrite_stmt x ss end) = true
is_wrong_statement st form = false

-- A call of a rewrite in a match, or of a constraint in a rewrite.
abbrev pub is_wrong_call : List Declared → Section → ExprForm → Bool
is_wrong_call c Matched (call_expr n xs) = is_rewrite c n
is_wrong_call c p (call_expr n xs) = is_constraint c n
is_wrong_call c p form = false

abbrev pub is_rewritten : Section → Bool
is_rewritten Matched = false
is_rewritten p = true

abbrev pub is_plain : RefForm → Bool
is_plain form = is_some (plain_form form)

-- Refs of a variable or a parameter of a rewrite that aren't one kind without `<`: the place of the first.
abbrev pub refs_not_plain : Refs → List ℕ
refs_not_plain no_refs = []
refs_not_plain (ref_then r no_refs) = where_so (not (is_plain (form_of_ref r))) (ref_place r)
refs_not_plain (ref_then r rs) = ref_place r ∷ []

abbrev pub wrong_refs : Section → Holder → Refs → List ℕ
wrong_refs p Outcome rs = []
wrong_refs p h rs = if is_rewritten p then refs_not_plain rs else []

abbrev pub maybe_place : MaybeExpr → List ℕ
maybe_place no_expr = []
maybe_place (some_expr x) = place_of x ∷ []

-- The place of a type that is written between `<` and `>`.
abbrev pub place_of_type : RefForm → List ℕ
place_of_type (attr_ref of) = maybe_place of
place_of_type (op_ref n) = []
place_of_type type_ref = []
place_of_type type_range_ref = []
place_of_type (value_ref of) = maybe_place of
place_of_type (value_range_ref of) = maybe_place of
place_of_type (named_ref n) = []

-- A type on a parameter, or beside an initial value.
abbrev pub wrong_type : Holder → RefForm → List ℕ
wrong_type Variable form = []
wrong_type Valued form = place_of_type form
wrong_type Parameter form = place_of_type form
wrong_type Outcome form = []

abbrev pub is_return_form : StmtForm → Bool
is_return_form (return_stmt x) = true
is_return_form form = false

abbrev pub is_return : Stmt → Bool
is_return (stmt at form) = is_return_form form

abbrev pub ends_in_return : Stmts → Bool
ends_in_return no_stmts = false
ends_in_return (stmt_then s no_stmts) = is_return s
ends_in_return (stmt_then s ss) = ends_in_return ss

-- A rewrite with a result whose statements don't end in `return`: the closing brace.
abbrev pub lacks_return : CallDecl → List ℕ
lacks_return d = brace_of d.body where
  brace_of : Body → List ℕ
  brace_of (body.Braces ss end) = where_so (is_some d.gives && not (ends_in_return (body_stmts d.body))) end
  brace_of b = []

abbrev pub wrong_part_at : List Declared → Seen → Mention → List ℕ
wrong_part_at c s (heading (decl.Rewrite d)) = lacks_return d
wrong_part_at c s (statement st late (stmt at form)) = where_so (is_wrong_statement st form) at
wrong_part_at c s (use_of p a at form) = where_so (is_wrong_call c p form) at
wrong_part_at c s (word p given at n) = where_so (is_rewritten p && not given) at
wrong_part_at c s (ref_list p h rs) = wrong_refs p h rs
wrong_part_at c s (one_ref h k later (ref at form)) = wrong_type h form
wrong_part_at c s m = []
