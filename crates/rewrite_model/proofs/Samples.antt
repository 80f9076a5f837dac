-- Short ways to write trees of pattern files, patterns and modules, for worked examples.
use Rattle.std.specs.Prelude.{ℕ, Bool, List, [], ◌∷◌, map, Option, Some, None, codes}
use Rattle.mlir_tree.specs.declared.sign.Sign.TheVariants.{Signless}
use Rattle.mlir_tree.specs.declared.row.Row.{Row}
use Rattle.mlir_tree.specs.declared.rows.Rows.{Rows}
use Rattle.mlir_tree.specs.declared.value.Val.{Val}
use Rattle.mlir_tree.specs.Tree.{Ty, int, Attr, int_attr}
use Rattle.pdll_syntax.specs.declared.name.Name.{Name}
use Rattle.pdll_syntax.specs.declared.stmt.Body.{Body}
use Rattle.pdll_syntax.specs.declared.stmt.Body.TheVariants.{Braces}
use Rattle.pdll_syntax.specs.declared.stmt.Param.{Param}
use Rattle.pdll_syntax.specs.declared.file.Decl.{Decl}
use Rattle.pdll_syntax.specs.declared.file.Decl.TheVariants as decl
use Rattle.pdll_syntax.specs.declared.file.PatternDecl.{PatternDecl}
use Rattle.pdll_syntax.specs.declared.file.Meta.{Meta}
use Rattle.pdll_syntax.specs.ExprTree.{Expr as Syntax, expr, name_expr, call_expr, declare_expr, op_expr, member_expr, operation, Entry, entry, Ref, ref, RefForm, exprs, entries, refs, maybe_expr, maybe_exprs}
use Rattle.pdll_syntax.specs.StmtTree.{Stmt, stmt, let_stmt, plain_stmt}

-- ---- trees; places count only where a word is declared or an operation begins

abbrev pub name : List ℕ → Syntax
name n = expr 0 (name_expr n)

abbrev pub member : Syntax → ℕ → Syntax
member e k = expr 0 (member_expr e k)

abbrev pub call : List ℕ → List Syntax → Syntax
call n es = expr 0 (call_expr n (exprs es))

abbrev pub a_ref : RefForm → Ref
a_ref form = ref 0 form

abbrev pub declared : ℕ → List ℕ → List RefForm → Syntax
declared at n forms = expr at (declare_expr n (refs (map a_ref forms)))

-- `op<n>(operands) {entries} -> (types)`, whose word `op` is at this place
abbrev pub op_at : ℕ → List ℕ → Option (List Syntax) → List Entry → Option (List Syntax) → Syntax
op_at at n os es ts = expr at (op_expr (operation n (maybe_exprs os) (entries es) (maybe_exprs ts)))

abbrev pub with_value : List ℕ → Syntax → Entry
with_value n e = entry 0 n (maybe_expr (Some e))

abbrev pub a_name : ℕ → List ℕ → Name
a_name at n = record { at = at; text = n }

abbrev pub let_be : List ℕ → Syntax → Stmt
let_be n e = stmt 0 (let_stmt (a_name 0 n) [] (Some e))

abbrev pub plain : Syntax → Stmt
plain e = stmt 0 (plain_stmt e)

abbrev pub pattern : List ℕ → List Meta → Body → PatternDecl
pattern n ms body = record { at = 0; name = Some (a_name 0 n); metas = ms; body = body }

abbrev pub braces : List Stmt → Body
braces ss = Braces ss 0

abbrev pub param : List ℕ → List RefForm → Param
param n forms = record { name = a_name 0 n; refs = map a_ref forms }

abbrev pub constraint : List ℕ → List Param → Body → Decl
constraint n ps body = decl.Constraint (record { at = 0; name = a_name 0 n; params = ps; gives = None; body = body })

abbrev pub rewrite : List ℕ → List Param → Option RefForm → Body → Decl
rewrite n ps gives body = decl.Rewrite (record { at = 0; name = a_name 0 n; params = ps; gives = given gives; body = body }) where
  given : Option RefForm → Option Ref
  given None = None
  given (Some form) = Some (a_ref form)

-- ---- modules

-- an operation of the module's region
abbrev pub op : ℕ → List ℕ → List Val → List Ty → Row
op id n vs ts = record { id = id; home = Some (record { row = 0; region = 0 }); name = n; operands = vs; results = ts; props = []; attrs = []; regions = [] }

abbrev pub top : Row
top = record { id = 0; home = None; name = codes "builtin.module"; operands = []; results = []; props = []; attrs = []; regions = [] ∷ [] }

abbrev pub module_of : List Row → ℕ → Rows
module_of rows next = record { rows = top ∷ rows; next = next }

abbrev pub i8 : Ty
i8 = int Signless 8

abbrev pub i32 : Ty
i32 = int Signless 32

abbrev pub integer : Bool → ℕ → Ty → Attr
integer neg mag t = int_attr (record { neg = neg; mag = mag }) t
