-- What small pattern files come to, which the checker computes.
use Rattle.std.proofs.Common.{◌≡◌, ℕ, List, [], ◌∷◌, ◌+◌, true, false, Some, None, refl, codes}
use Rattle.pdll_syntax.specs.declared.stmt.Body.TheVariants.{Braces}
use Rattle.pdll_syntax.specs.declared.file.Decl.{Decl}
use Rattle.pdll_syntax.specs.declared.file.Decl.TheVariants.{Pattern}
use Rattle.pdll_syntax.specs.declared.file.PatFile.{PatFile}
use Rattle.pdll_syntax.specs.ExprTree.{Expr, expr, name_expr, declare_expr, op_expr, operation, ref, value_ref, value_range_ref, type_range_ref, no_exprs, expr_then, no_entries, no_refs, ref_then, no_expr, left_out, written}
use Rattle.pdll_syntax.specs.StmtTree.{Stmt, stmt, let_stmt, erase_stmt}
use Rattle.pdll_types.specs.declared.kind.Kind.TheVariants.{Row}
use Rattle.pdll_types.specs.Kinds.{is_taken}
use Rattle.pdll_types.specs.Signatures.{kind_of_refs, declared}
use Rattle.pdll_types.specs.Mentions.{mentions, of_pattern, of_stmt, of_let, of_expr, of_all_refs}
use Rattle.pdll_types.specs.Sight.{sight_behind, words_behind}
use Rattle.pdll_types.specs.Accepted.{found_in, undefined_places, two_ranges_places, faults_of, decl_fault, expression_kinds, root_numbers}

-- `Op` takes every operation, and `Op<t.a>` only one that is known to be so.
every_name : is_taken (Row None) (Row (Some (codes "t.a"))) ≡ true
every_name = refl

unknown_name : is_taken (Row (Some (codes "t.a"))) (Row None) ≡ false
unknown_name = refl

-- a pattern without a name, whose `}` stands here
abbrev pattern : List Stmt → ℕ → Decl
pattern ss end = Pattern (record { at = 0; name = None; metas = []; body = Braces ss end })

abbrev file : Decl → PatFile
file d = record { decls = d ∷ [] }

abbrev used : ℕ → List ℕ → Expr
used at n = expr at (name_expr n)

abbrev named_operation : ℕ → Expr
named_operation at = expr at (op_expr (operation (codes "t.a") left_out no_entries left_out))

-- `let x: Value = x;`: x isn't in sight in its own value.
own_value : undefined_places [] (pattern (stmt 10 (let_stmt (record { at = 14; text = codes "x" }) (ref 17 (value_ref no_expr) ∷ []) (Some (used 25 (codes "x"))))
    ∷ stmt 28 (erase_stmt (named_operation 34)) ∷ []) 43) ≡ 25 ∷ []
unfolding found_in mentions of_pattern of_stmt of_let of_expr of_all_refs kind_of_refs sight_behind words_behind
own_value = refl

abbrev range : ℕ → List ℕ → Expr
range at n = expr at (declare_expr n (ref_then (ref (at + 3) (value_range_ref no_expr)) no_refs))

abbrev type_range : ℕ → List ℕ → Expr
type_range at n = expr at (declare_expr n (ref_then (ref (at + 3) type_range_ref) no_refs))

-- `op<t.a>(a: ValueRange, b: ValueRange)`
ranges_of_operands : two_ranges_places [] (pattern (stmt 10 (erase_stmt (expr 16 (op_expr (operation (codes "t.a")
    (written (expr_then (range 24 (codes "a")) (expr_then (range 39 (codes "b")) no_exprs))) no_entries left_out)))) ∷ []) 56) ≡ []
unfolding found_in mentions of_pattern of_stmt of_expr of_all_refs kind_of_refs sight_behind words_behind
ranges_of_operands = refl

-- `op<t.a> -> (a: TypeRange, b: TypeRange)`
second_range : two_ranges_places [] (pattern (stmt 10 (erase_stmt (expr 16 (op_expr (operation (codes "t.a")
    left_out no_entries (written (expr_then (type_range 28 (codes "a")) (expr_then (type_range 42 (codes "b")) no_exprs))))))) ∷ []) 58) ≡ 42 ∷ []
unfolding found_in mentions of_pattern of_stmt of_expr of_all_refs kind_of_refs sight_behind words_behind
second_range = refl

-- `let x = op<t.a>; erase x;`: the kinds are known by the name, and the root is the second expression.
abbrev erases_one : Decl
erases_one = pattern (stmt 10 (let_stmt (record { at = 14; text = codes "x" }) [] (Some (named_operation 18))) ∷ stmt 27 (erase_stmt (used 33 (codes "x"))) ∷ []) 36

abbrev erases_named : PatFile
erases_named = file erases_one

has_no_fault : decl_fault [] erases_one ≡ None
unfolding faults_of found_in mentions of_pattern of_stmt of_let of_expr of_all_refs kind_of_refs sight_behind words_behind
has_no_fault = refl

its_kinds : expression_kinds erases_named ≡ Row (Some (codes "t.a")) ∷ Row (Some (codes "t.a")) ∷ []
unfolding expression_kinds declared found_in mentions of_pattern of_stmt of_let of_expr of_all_refs kind_of_refs sight_behind words_behind
its_kinds = refl

its_root : root_numbers erases_named ≡ 1 ∷ []
unfolding root_numbers declared found_in mentions of_pattern of_stmt of_let of_expr of_all_refs kind_of_refs sight_behind words_behind
its_root = refl
