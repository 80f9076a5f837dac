-- A pattern file with bodies, of which the checker computes the pattern and the size.
use Rattle.std.specs.Prelude.{reverse, take, slice_get, option_map, ◌≡◌, List, [], ◌∷◌, Some, None, codes}
use Rattle.std.proofs.Common.{refl}
use Rattle.mlir_tree.specs.Tree.{unit}
use Rattle.pdll_syntax.specs.declared.stmt.Values.TheVariants.{Several}
use Rattle.pdll_syntax.specs.declared.stmt.Body.TheVariants as body
use Rattle.pdll_syntax.specs.declared.file.PatFile.{PatFile}
use Rattle.pdll_syntax.specs.declared.file.Decl.{Decl}
use Rattle.pdll_syntax.specs.declared.file.Decl.TheVariants as decl
use Rattle.pdll_syntax.specs.ExprTree.{op_ref, type_ref, value_ref, named_ref, no_expr, some_expr, entry}
use Rattle.pdll_syntax.specs.StmtTree.{stmt, let_stmt, return_stmt, replace_stmt}
use Rattle.native_set.specs.declared.native.Kind.TheVariants as kind
use Rattle.native_set.specs.declared.native.Constraint.TheVariants.{NoRegions}
use Rattle.rewrite_model.specs.Pattern.{the, attr_literal, result, only_result, has_parts, has_name, has_type, stands, calls, matched, made, new_operation, result_of, results_of, makes, replaces, Pattern}
use Rattle.rewrite_model.specs.Expanding.{expanded, patterns}
use Rattle.rewrite_model.specs.Size.{expanded_size}
use Rattle.rewrite_model.proofs.Samples.{a_ref, name, member, call, declared, op_at, a_name, let_be, plain, pattern, braces, param, constraint, rewrite}

-- Constraint NoRegions(o: Op);
-- Constraint HasResult(o: Op<t.a>) { let r = o.0; NoRegions(o); }
-- Rewrite Wrap(v: Value) -> Value { let w = op<t.w>(v) {flag} -> (); return w.0; }
-- Pattern Bodies {
--   let o: HasResult;
--   let root = op<t.b>(o, v: Value<u: Type>) -> (u);
--   replace root with (Wrap(v), o);
-- }
-- A body stands for its call: `o` is `Op<t.a>` by the parameter, and then come the demands of the body. In the rewrite the
-- argument of `Wrap` is named, its body runs, and what it returns is used; then `o` stands for all its results.
abbrev bodies_file : PatFile
bodies_file = record {
  decls =
      constraint (codes "NoRegions") (param (codes "o") (op_ref None ∷ []) ∷ []) body.Absent
      ∷ constraint (codes "HasResult") (param (codes "o") (op_ref (Some (codes "t.a")) ∷ []) ∷ [])
      (braces (let_be (codes "r") (member (name (codes "o")) 0) ∷ plain (call (codes "NoRegions") (name (codes "o") ∷ [])) ∷ []))
      ∷ rewrite (codes "Wrap") (param (codes "v") (value_ref no_expr ∷ []) ∷ []) (Some (value_ref no_expr))
      (braces (let_be (codes "w") (op_at 30 (codes "t.w") (Some (name (codes "v") ∷ [])) (entry 0 (codes "flag") no_expr ∷ []) (Some [])) ∷ stmt 0 (return_stmt (member (name (codes "w")) 0)) ∷ []))
      ∷ decl.Pattern (pattern (codes "Bodies") [] (braces
      (stmt 0 (let_stmt (a_name 50 (codes "o")) (a_ref (named_ref (codes "HasResult")) ∷ []) None)
      ∷ let_be (codes "root") (op_at 60 (codes "t.b")
      (Some (name (codes "o") ∷ declared 70 (codes "v") (value_ref (some_expr (declared 80 (codes "u") (type_ref ∷ []))) ∷ []) ∷ [])) [] (Some (name (codes "u") ∷ [])))
      ∷ stmt 0 (replace_stmt (name (codes "root")) (Several (call (codes "Wrap") (name (codes "v") ∷ []) ∷ name (codes "o") ∷ [])))
      ∷ [])))
      ∷ [];
}

abbrev bodies : Pattern
bodies = record {
  name = codes "Bodies";
  benefit = 1;
  kinds = kind.Op ∷ kind.Ty ∷ kind.Value ∷ kind.Op ∷ [];
  places = 50 ∷ 80 ∷ 70 ∷ 60 ∷ [];
  demands =
      stands (the 0)
      ∷ has_name 0 (codes "t.a")
      ∷ stands (result 0 0)
      ∷ calls NoRegions (the 0 ∷ [])
      ∷ stands (only_result 0)
      ∷ stands (the 1)
      ∷ stands (the 2)
      ∷ has_type 2 (the 1)
      ∷ has_name 3 (codes "t.b")
      ∷ has_parts 3 (record { operands = only_result 0 ∷ the 2 ∷ []; entries = []; types = the 1 ∷ [] })
      ∷ [];
  root = 3;
  actions =
      makes (attr_literal unit)
      ∷ makes (new_operation (codes "t.w") (record { operands = matched (the 2) ∷ []; entries = (codes "flag", made 0) ∷ []; types = [] }))
      ∷ makes (result_of (made 1) 0)
      ∷ makes (results_of (matched (the 0)))
      ∷ replaces (matched (the 3)) (made 2 ∷ made 3 ∷ [])
      ∷ [];
}

bodies_stand : patterns bodies_file ≡ bodies ∷ []
unfolding patterns expanded
bodies_stand = refl

-- The body of `HasResult` counts where it is called, and so does that of `Wrap`. Of the pattern there are 3 statements, an
-- operation and 9 expressions: the names `o`, `u`, `root`, `v` and `o`, the variables `v` and `u`, the operation, and
-- the call of `Wrap`. `HasResult` has 2 statements and 4 expressions, `Wrap` 2 statements, an operation and 5 expressions.
abbrev before_bodies : List Decl
before_bodies = reverse (take 3 bodies_file.decls)

bodies_size : option_map (expanded_size before_bodies) (slice_get bodies_file.decls 3) ≡ Some (record { statements = 7; operations = 2; expressions = 18 })
unfolding expanded_size
bodies_size = refl
