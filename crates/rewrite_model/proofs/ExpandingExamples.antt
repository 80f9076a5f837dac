-- Pattern files of which the checker computes the patterns.
use Rattle.std.specs.Prelude.{◌≡◌, ℕ, List, [], ◌∷◌, Some, None, codes}
use Rattle.std.proofs.Common.{refl}
use Rattle.pdll_syntax.specs.declared.stmt.Values.TheVariants.{One}
use Rattle.pdll_syntax.specs.declared.stmt.Body.TheVariants as body
use Rattle.pdll_syntax.specs.declared.file.PatFile.{PatFile}
use Rattle.pdll_syntax.specs.declared.file.Decl.TheVariants as decl
use Rattle.pdll_syntax.specs.declared.file.MetaForm.TheVariants.{Benefit}
use Rattle.pdll_syntax.specs.ExprTree.{Expr as Syntax, attr_ref, value_ref, no_expr}
use Rattle.pdll_syntax.specs.StmtTree.{Stmt, stmt, erase_stmt, replace_stmt, rewrite_stmt, stmts}
use Rattle.native_set.specs.declared.native.Kind.TheVariants as kind
use Rattle.native_set.specs.declared.native.Constraint.TheVariants.{HasOneUse, IsInt}
use Rattle.native_set.specs.declared.native.Rewrite.TheVariants.{AddInt}
use Rattle.rewrite_model.specs.Pattern.{the, result, only_result, has_parts, has_name, stands, calls, matched, made, new_operation, result_of, results_of, result_types_of, native, makes, replaces, erases, Pattern}
use Rattle.rewrite_model.specs.Expanding.{expanded, patterns}
use Rattle.rewrite_model.specs.Size.{expanded_size}
use Rattle.rewrite_model.proofs.Samples.{name, member, call, declared, op_at, with_value, let_be, plain, pattern, braces, param, constraint, rewrite}

-- Pattern ReshapeReshape {
--   let inner = op<t.reshape>(x: Value);
--   let root = op<t.reshape>(inner);
--   replace root with op<t.reshape>(x);
-- }
abbrev reshape_body : List Stmt
reshape_body =
    let_be (codes "inner") (op_at 40 (codes "t.reshape") (Some (declared 54 (codes "x") (value_ref no_expr ∷ []) ∷ [])) [] None)
    ∷ let_be (codes "root") (op_at 80 (codes "t.reshape") (Some (name (codes "inner") ∷ [])) [] None)
    ∷ stmt 0 (replace_stmt (name (codes "root")) (One (op_at 120 (codes "t.reshape") (Some (name (codes "x") ∷ [])) [] None)))
    ∷ []

abbrev pub reshape_reshape : Pattern
reshape_reshape = record {
  name = codes "ReshapeReshape";
  benefit = 1;
  kinds = kind.Value ∷ kind.Tys ∷ kind.Op ∷ kind.Tys ∷ kind.Op ∷ [];
  places = 54 ∷ 40 ∷ 40 ∷ 80 ∷ 80 ∷ [];
  demands =
      stands (the 0)
      ∷ stands (the 1)
      ∷ has_name 2 (codes "t.reshape")
      ∷ has_parts 2 (record { operands = the 0 ∷ []; entries = []; types = the 1 ∷ [] })
      ∷ stands (only_result 2)
      ∷ stands (the 3)
      ∷ has_name 4 (codes "t.reshape")
      ∷ has_parts 4 (record { operands = only_result 2 ∷ []; entries = []; types = the 3 ∷ [] })
      ∷ [];
  root = 4;
  actions =
      makes (result_types_of (matched (the 4)))
      ∷ makes (new_operation (codes "t.reshape") (record { operands = matched (the 0) ∷ []; entries = []; types = made 0 ∷ [] }))
      ∷ makes (results_of (made 1))
      ∷ replaces (matched (the 4)) (made 2 ∷ [])
      ∷ [];
}

reshapes : expanded [] (pattern (codes "ReshapeReshape") [] (braces reshape_body)) ≡ reshape_reshape
unfolding expanded
reshapes = refl

-- The size: 3 statements, 3 operations; 2 names of operations and 2 of a value, one variable, 3 operations and 3 left-out lists
reshape_size : expanded_size [] (decl.Pattern (pattern (codes "ReshapeReshape") [] (braces reshape_body))) ≡ record { statements = 3; operations = 3; expressions = 10 }
unfolding expanded_size
reshape_size = refl

-- ---- the patterns of the other examples

-- Pattern Low => erase op<t.a>;
abbrev pub low : Pattern
low = record {
  name = codes "Low";
  benefit = 1;
  kinds = kind.Values ∷ kind.Tys ∷ kind.Op ∷ [];
  places = 21 ∷ 21 ∷ 21 ∷ [];
  demands =
      stands (the 0)
      ∷ stands (the 1)
      ∷ has_name 2 (codes "t.a")
      ∷ has_parts 2 (record { operands = the 0 ∷ []; entries = []; types = the 1 ∷ [] })
      ∷ [];
  root = 2;
  actions = erases (matched (the 2)) ∷ [];
}

-- Pattern High with benefit(10) { let r = op<t.a>; rewrite r with { op<t.b> -> (); erase r; }; }
abbrev pub high : Pattern
high = record {
  name = codes "High";
  benefit = 10;
  kinds = kind.Values ∷ kind.Tys ∷ kind.Op ∷ [];
  places = 65 ∷ 65 ∷ 65 ∷ [];
  demands =
      stands (the 0)
      ∷ stands (the 1)
      ∷ has_name 2 (codes "t.a")
      ∷ has_parts 2 (record { operands = the 0 ∷ []; entries = []; types = the 1 ∷ [] })
      ∷ [];
  root = 2;
  actions = makes (new_operation (codes "t.b") (record { operands = []; entries = []; types = [] })) ∷ erases (matched (the 2)) ∷ [];
}

abbrev high_body : List Stmt
high_body =
    let_be (codes "r") (op_at 65 (codes "t.a") None [] None)
    ∷ stmt 0 (rewrite_stmt (name (codes "r")) (stmts (plain (op_at 90 (codes "t.b") None [] (Some [])) ∷ stmt 0 (erase_stmt (name (codes "r"))) ∷ [])) 0)
    ∷ []

abbrev low_and_high : PatFile
low_and_high = record {
  decls =
      decl.Pattern (pattern (codes "Low") [] (body.One (stmt 0 (erase_stmt (op_at 21 (codes "t.a") None [] None)))))
      ∷ decl.Pattern (pattern (codes "High") (record { at = 0; form = Benefit 10 } ∷ []) (braces high_body))
      ∷ [];
}

two_patterns : patterns low_and_high ≡ low ∷ high ∷ []
unfolding patterns expanded
two_patterns = refl

-- Pattern Same => replace op<t.sub>(x: Value, x) with op<t.zero>;
abbrev pub same : Pattern
same = record {
  name = codes "Same";
  benefit = 1;
  kinds = kind.Value ∷ kind.Tys ∷ kind.Op ∷ [];
  places = 32 ∷ 24 ∷ 24 ∷ [];
  demands =
      stands (the 0)
      ∷ stands (the 1)
      ∷ has_name 2 (codes "t.sub")
      ∷ has_parts 2 (record { operands = the 0 ∷ the 0 ∷ []; entries = []; types = the 1 ∷ [] })
      ∷ [];
  root = 2;
  actions =
      makes (result_types_of (matched (the 2)))
      ∷ makes (new_operation (codes "t.zero") (record { operands = []; entries = []; types = made 0 ∷ [] }))
      ∷ makes (results_of (made 1))
      ∷ replaces (matched (the 2)) (made 2 ∷ [])
      ∷ [];
}

same_stmt : expanded [] (pattern (codes "Same") [] (body.One (stmt 0 (replace_stmt
    (op_at 24 (codes "t.sub") (Some (declared 32 (codes "x") (value_ref no_expr ∷ []) ∷ name (codes "x") ∷ [])) [] None)
    (One (op_at 60 (codes "t.zero") None [] None)))))) ≡ same
unfolding expanded
same_stmt = refl

-- Pattern Self { let root = op<t.a>; replace root with op<t.x>(root.0); }
abbrev pub self_use : Pattern
self_use = record {
  name = codes "Self";
  benefit = 1;
  kinds = kind.Values ∷ kind.Tys ∷ kind.Op ∷ [];
  places = 26 ∷ 26 ∷ 26 ∷ [];
  demands =
      stands (the 0)
      ∷ stands (the 1)
      ∷ has_name 2 (codes "t.a")
      ∷ has_parts 2 (record { operands = the 0 ∷ []; entries = []; types = the 1 ∷ [] })
      ∷ [];
  root = 2;
  actions =
      makes (result_of (matched (the 2)) 0)
      ∷ makes (result_types_of (matched (the 2)))
      ∷ makes (new_operation (codes "t.x") (record { operands = made 0 ∷ []; entries = []; types = made 1 ∷ [] }))
      ∷ makes (results_of (made 2))
      ∷ replaces (matched (the 2)) (made 3 ∷ [])
      ∷ [];
}

self_stmts : expanded [] (pattern (codes "Self") [] (braces
    (let_be (codes "root") (op_at 26 (codes "t.a") None [] None)
    ∷ stmt 0 (replace_stmt (name (codes "root")) (One (op_at 52 (codes "t.x") (Some (member (name (codes "root")) 0 ∷ [])) [] None)))
    ∷ []))) ≡ self_use
unfolding expanded
self_stmts = refl

-- Pattern Swap { let inner = op<t.a>; let root = op<t.b>(inner); rewrite root with { replace inner with op<t.c>; }; }
abbrev pub swap : Pattern
swap = record {
  name = codes "Swap";
  benefit = 1;
  kinds = kind.Values ∷ kind.Tys ∷ kind.Op ∷ kind.Tys ∷ kind.Op ∷ [];
  places = 1 ∷ 1 ∷ 1 ∷ 2 ∷ 2 ∷ [];
  demands =
      stands (the 0)
      ∷ stands (the 1)
      ∷ has_name 2 (codes "t.a")
      ∷ has_parts 2 (record { operands = the 0 ∷ []; entries = []; types = the 1 ∷ [] })
      ∷ stands (only_result 2)
      ∷ stands (the 3)
      ∷ has_name 4 (codes "t.b")
      ∷ has_parts 4 (record { operands = only_result 2 ∷ []; entries = []; types = the 3 ∷ [] })
      ∷ [];
  root = 4;
  actions =
      makes (result_types_of (matched (the 2)))
      ∷ makes (new_operation (codes "t.c") (record { operands = []; entries = []; types = made 0 ∷ [] }))
      ∷ makes (results_of (made 1))
      ∷ replaces (matched (the 2)) (made 2 ∷ [])
      ∷ [];
}

swap_stmts : expanded [] (pattern (codes "Swap") [] (braces
    (let_be (codes "inner") (op_at 1 (codes "t.a") None [] None)
    ∷ let_be (codes "root") (op_at 2 (codes "t.b") (Some (name (codes "inner") ∷ [])) [] None)
    ∷ stmt 0 (rewrite_stmt (name (codes "root")) (stmts (stmt 0 (replace_stmt (name (codes "inner")) (One (op_at 3 (codes "t.c") None [] None))) ∷ [])) 0)
    ∷ []))) ≡ swap
unfolding expanded
swap_stmts = refl

-- Pattern Two { let x = op<t.a>; let y = op<t.a>; let root = op<t.b>(x, y); rewrite root with { erase root; erase x; erase y; }; }
abbrev pub two : Pattern
two = record {
  name = codes "Two";
  benefit = 1;
  kinds = kind.Values ∷ kind.Tys ∷ kind.Op ∷ kind.Values ∷ kind.Tys ∷ kind.Op ∷ kind.Tys ∷ kind.Op ∷ [];
  places = 1 ∷ 1 ∷ 1 ∷ 2 ∷ 2 ∷ 2 ∷ 3 ∷ 3 ∷ [];
  demands =
      stands (the 0)
      ∷ stands (the 1)
      ∷ has_name 2 (codes "t.a")
      ∷ has_parts 2 (record { operands = the 0 ∷ []; entries = []; types = the 1 ∷ [] })
      ∷ stands (the 3)
      ∷ stands (the 4)
      ∷ has_name 5 (codes "t.a")
      ∷ has_parts 5 (record { operands = the 3 ∷ []; entries = []; types = the 4 ∷ [] })
      ∷ stands (only_result 2)
      ∷ stands (only_result 5)
      ∷ stands (the 6)
      ∷ has_name 7 (codes "t.b")
      ∷ has_parts 7 (record { operands = only_result 2 ∷ only_result 5 ∷ []; entries = []; types = the 6 ∷ [] })
      ∷ [];
  root = 7;
  actions = erases (matched (the 7)) ∷ erases (matched (the 2)) ∷ erases (matched (the 5)) ∷ [];
}

abbrev erase_name : List ℕ → Stmt
erase_name n = stmt 0 (erase_stmt (name n))

two_stmts : expanded [] (pattern (codes "Two") [] (braces
    (let_be (codes "x") (op_at 1 (codes "t.a") None [] None)
    ∷ let_be (codes "y") (op_at 2 (codes "t.a") None [] None)
    ∷ let_be (codes "root") (op_at 3 (codes "t.b") (Some (name (codes "x") ∷ name (codes "y") ∷ [])) [] None)
    ∷ stmt 0 (rewrite_stmt (name (codes "root")) (stmts (erase_name (codes "root") ∷ erase_name (codes "x") ∷ erase_name (codes "y") ∷ [])) 0)
    ∷ []))) ≡ two
unfolding expanded
two_stmts = refl

-- Constraint HasOneUse(v: Value);
-- Pattern Fuse {
--   let a = op<t.a>;
--   let b = op<t.b>(a);
--   let root = op<t.c>(b);
--   HasOneUse(a.0);
--   replace root with op<t.abc>;
-- }
-- Pattern Drop => erase op<t.dead>;
abbrev pub fuse : Pattern
fuse = record {
  name = codes "Fuse";
  benefit = 1;
  kinds = kind.Values ∷ kind.Tys ∷ kind.Op ∷ kind.Tys ∷ kind.Op ∷ kind.Tys ∷ kind.Op ∷ [];
  places = 1 ∷ 1 ∷ 1 ∷ 2 ∷ 2 ∷ 3 ∷ 3 ∷ [];
  demands =
      stands (the 0)
      ∷ stands (the 1)
      ∷ has_name 2 (codes "t.a")
      ∷ has_parts 2 (record { operands = the 0 ∷ []; entries = []; types = the 1 ∷ [] })
      ∷ stands (only_result 2)
      ∷ stands (the 3)
      ∷ has_name 4 (codes "t.b")
      ∷ has_parts 4 (record { operands = only_result 2 ∷ []; entries = []; types = the 3 ∷ [] })
      ∷ stands (only_result 4)
      ∷ stands (the 5)
      ∷ has_name 6 (codes "t.c")
      ∷ has_parts 6 (record { operands = only_result 4 ∷ []; entries = []; types = the 5 ∷ [] })
      ∷ stands (result 2 0)
      ∷ calls HasOneUse (result 2 0 ∷ [])
      ∷ [];
  root = 6;
  actions =
      makes (result_types_of (matched (the 6)))
      ∷ makes (new_operation (codes "t.abc") (record { operands = []; entries = []; types = made 0 ∷ [] }))
      ∷ makes (results_of (made 1))
      ∷ replaces (matched (the 6)) (made 2 ∷ [])
      ∷ [];
}

abbrev pub drop_dead : Pattern
drop_dead = record {
  name = codes "Drop";
  benefit = 1;
  kinds = kind.Values ∷ kind.Tys ∷ kind.Op ∷ [];
  places = 9 ∷ 9 ∷ 9 ∷ [];
  demands =
      stands (the 0)
      ∷ stands (the 1)
      ∷ has_name 2 (codes "t.dead")
      ∷ has_parts 2 (record { operands = the 0 ∷ []; entries = []; types = the 1 ∷ [] })
      ∷ [];
  root = 2;
  actions = erases (matched (the 2)) ∷ [];
}

abbrev fuse_body : List Stmt
fuse_body =
    let_be (codes "a") (op_at 1 (codes "t.a") None [] None)
    ∷ let_be (codes "b") (op_at 2 (codes "t.b") (Some (name (codes "a") ∷ [])) [] None)
    ∷ let_be (codes "root") (op_at 3 (codes "t.c") (Some (name (codes "b") ∷ [])) [] None)
    ∷ plain (call (codes "HasOneUse") (member (name (codes "a")) 0 ∷ []))
    ∷ stmt 0 (replace_stmt (name (codes "root")) (One (op_at 4 (codes "t.abc") None [] None)))
    ∷ []

abbrev fuse_file : PatFile
fuse_file = record {
  decls =
      constraint (codes "HasOneUse") (param (codes "v") (value_ref no_expr ∷ []) ∷ []) body.Absent
      ∷ decl.Pattern (pattern (codes "Fuse") [] (braces fuse_body))
      ∷ decl.Pattern (pattern (codes "Drop") [] (body.One (stmt 0 (erase_stmt (op_at 9 (codes "t.dead") None [] None)))))
      ∷ [];
}

fuses : patterns fuse_file ≡ fuse ∷ drop_dead ∷ []
unfolding patterns expanded
fuses = refl

-- Constraint IsInt(a: Attr);
-- Rewrite AddInt(a: Attr, b: Attr) -> Attr;
-- Pattern Fold {
--   let x = op<t.const> {value = a: Attr};
--   let y = op<t.const> {value = b: Attr};
--   let root = op<t.add>(x, y);
--   IsInt(a);
--   IsInt(b);
--   replace root with op<t.const> {value = AddInt(a, b)};
-- }
abbrev pub fold : Pattern
fold = record {
  name = codes "Fold";
  benefit = 1;
  kinds = kind.Values ∷ kind.Attr ∷ kind.Tys ∷ kind.Op ∷ kind.Values ∷ kind.Attr ∷ kind.Tys ∷ kind.Op ∷ kind.Tys ∷ kind.Op ∷ [];
  places = 1 ∷ 2 ∷ 1 ∷ 1 ∷ 3 ∷ 4 ∷ 3 ∷ 3 ∷ 5 ∷ 5 ∷ [];
  demands =
      stands (the 0)
      ∷ stands (the 1)
      ∷ stands (the 2)
      ∷ has_name 3 (codes "t.const")
      ∷ has_parts 3 (record { operands = the 0 ∷ []; entries = (codes "value", the 1) ∷ []; types = the 2 ∷ [] })
      ∷ stands (the 4)
      ∷ stands (the 5)
      ∷ stands (the 6)
      ∷ has_name 7 (codes "t.const")
      ∷ has_parts 7 (record { operands = the 4 ∷ []; entries = (codes "value", the 5) ∷ []; types = the 6 ∷ [] })
      ∷ stands (only_result 3)
      ∷ stands (only_result 7)
      ∷ stands (the 8)
      ∷ has_name 9 (codes "t.add")
      ∷ has_parts 9 (record { operands = only_result 3 ∷ only_result 7 ∷ []; entries = []; types = the 8 ∷ [] })
      ∷ calls IsInt (the 1 ∷ [])
      ∷ calls IsInt (the 5 ∷ [])
      ∷ [];
  root = 9;
  actions =
      makes (native AddInt (matched (the 1) ∷ matched (the 5) ∷ []))
      ∷ makes (result_types_of (matched (the 9)))
      ∷ makes (new_operation (codes "t.const") (record { operands = []; entries = (codes "value", made 0) ∷ []; types = made 1 ∷ [] }))
      ∷ makes (results_of (made 2))
      ∷ replaces (matched (the 9)) (made 3 ∷ [])
      ∷ [];
}

abbrev constant : ℕ → ℕ → List ℕ → Syntax
constant at var n = op_at at (codes "t.const") None (with_value (codes "value") (declared var n (attr_ref no_expr ∷ [])) ∷ []) None

abbrev fold_body : List Stmt
fold_body =
    let_be (codes "x") (constant 1 2 (codes "a"))
    ∷ let_be (codes "y") (constant 3 4 (codes "b"))
    ∷ let_be (codes "root") (op_at 5 (codes "t.add") (Some (name (codes "x") ∷ name (codes "y") ∷ [])) [] None)
    ∷ plain (call (codes "IsInt") (name (codes "a") ∷ []))
    ∷ plain (call (codes "IsInt") (name (codes "b") ∷ []))
    ∷ stmt 0 (replace_stmt (name (codes "root"))
    (One (op_at 6 (codes "t.const") None (with_value (codes "value") (call (codes "AddInt") (name (codes "a") ∷ name (codes "b") ∷ [])) ∷ []) None)))
    ∷ []

abbrev fold_file : PatFile
fold_file = record {
  decls =
      constraint (codes "IsInt") (param (codes "a") (attr_ref no_expr ∷ []) ∷ []) body.Absent
      ∷ rewrite (codes "AddInt") (param (codes "a") (attr_ref no_expr ∷ []) ∷ param (codes "b") (attr_ref no_expr ∷ []) ∷ []) (Some (attr_ref no_expr)) body.Absent
      ∷ decl.Pattern (pattern (codes "Fold") [] (braces fold_body))
      ∷ [];
}

folds : patterns fold_file ≡ fold ∷ []
unfolding patterns expanded
folds = refl
