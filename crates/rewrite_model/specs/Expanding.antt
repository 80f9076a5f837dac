-- The patterns of a file, with each call of a declared constraint or rewrite replaced by its body (PDLL document,
-- "Patterns", "Constraints", "Rewrites"). What is written here of files that aren't accepted means nothing.
use Rattle.std.specs.Prelude.{ℕ, List, [], ◌∷◌, map, Bool, true, false, Option, Some, None, option_map, option_and_then}
use Rattle.std.specs.Option.{option_map_or}
use Rattle.std.specs.Str.{bytes_eq}
use Rattle.pdll_syntax.specs.declared.name.Name.{Name}
use Rattle.pdll_syntax.specs.declared.stmt.Body.{Body}
use Rattle.pdll_syntax.specs.declared.stmt.Body.TheVariants as body
use Rattle.pdll_syntax.specs.declared.stmt.Param.{Param}
use Rattle.pdll_syntax.specs.declared.file.PatFile.{PatFile}
use Rattle.pdll_syntax.specs.declared.file.Decl.{Decl}
use Rattle.pdll_syntax.specs.declared.file.Decl.TheVariants as decl
use Rattle.pdll_syntax.specs.declared.file.PatternDecl.{PatternDecl}
use Rattle.pdll_syntax.specs.declared.file.CallDecl.{CallDecl}
use Rattle.pdll_syntax.specs.declared.file.Meta.{Meta}
use Rattle.pdll_syntax.specs.declared.file.MetaForm.{MetaForm}
use Rattle.pdll_syntax.specs.declared.file.MetaForm.TheVariants.{Benefit, Recursion}
use Rattle.pdll_syntax.specs.ExprTree.{Expr as Syntax}
use Rattle.pdll_syntax.specs.StmtTree.{Stmt, stmt, StmtForm, erase_stmt, replace_stmt, rewrite_stmt, stmt_list}
use Rattle.native_set.specs.declared.native.Kind.{Kind}
use Rattle.native_set.specs.declared.native.Kind.TheVariants as kind
use Rattle.native_set.specs.declared.native.Constraint.{Constraint}
use Rattle.native_set.specs.declared.native.Rewrite.{Rewrite}
use Rattle.native_set.specs.Table.{constraint_of, rewrite_of}
use Rattle.rewrite_model.specs.Pattern.{Expr, the, calls, Part, matched, native, erases, Pattern}
use Rattle.rewrite_model.specs.Doing.{Doing, ◌>>=◌, ◌>>◌, pure, for_each}
use Rattle.rewrite_model.specs.Names.{Written, of_kind, ref_kind, Meant, Names, named_together}
use Rattle.rewrite_model.specs.MatchPart.{Scene, empty, Constrains, meant, new_variable, ask, see_name, number_of, call_refs, kind_of_refs, expression, plain, statement}
use Rattle.rewrite_model.specs.RewritePart.{Script, Rewrites, no_part, act, make, evaluated, replace_by, all_done}

abbrev pub param_names : List Param → List (List ℕ)
param_names ps = map (λ p. p.name.text) ps

-- ---- constraints

-- with these names alone in sight
abbrev pub within : Names Expr → Doing Scene (Unit {0}) → Doing Scene (Unit {0})
within names work = λ s. (tt, record (work (record s { names = names })).1 { names = s.names })

-- the constraints in the refs of parameters, on the arguments at their places
abbrev pub call_params : (List ℕ → Constrains) → List Param → List (Meant Expr) → Doing Scene (Unit {0})
call_params earlier [] xs = pure tt
call_params earlier (p ∷ ps) [] = pure tt
call_params earlier (p ∷ ps) (x ∷ xs) = call_refs earlier p.refs x >> call_params earlier ps xs

abbrev pub body_asks : (List ℕ → Constrains) → Body → Doing Scene (Unit {0})
body_asks earlier body.Absent = pure tt
body_asks earlier (body.Braces ss end) = for_each (statement earlier) ss
body_asks earlier (body.One s) = statement earlier s
body_asks earlier (body.Value e) = plain earlier e

abbrev pub ask_native : Option Constraint → List (Meant Expr) → Doing Scene (Unit {0})
ask_native None xs = pure tt
ask_native (Some c) xs = ask (calls c (map (λ x. x.is) xs))

-- A constraint without a body is a native one. Else its body stands for the call, with the parameters as names of the
-- arguments.
abbrev pub call_constraint : (List ℕ → Constrains) → CallDecl → Body → List (Meant Expr) → Doing Scene (Unit {0})
call_constraint earlier c body.Absent xs = ask_native (constraint_of c.name.text (map (λ x. x.kind) xs)) xs
call_constraint earlier c b xs = within (named_together (param_names c.params) xs) (call_params earlier c.params xs >> body_asks earlier b)

abbrev pub first_param_kind : (List ℕ → Constrains) → List Param → Written
first_param_kind earlier [] = of_kind kind.Value
first_param_kind earlier (p ∷ ps) = kind_of_refs earlier p.refs

abbrev pub constrains : (List ℕ → Constrains) → CallDecl → Constrains
constrains earlier c = record { param = first_param_kind earlier c.params; call = call_constraint earlier c c.body }

abbrev pub constrains_if : Bool → (List ℕ → Constrains) → CallDecl → List ℕ → Constrains
constrains_if true earlier c n = constrains earlier c
constrains_if false earlier c n = earlier n

-- The constraints among these declarations, the last one first. A body is read with those before it.
abbrev pub constraints : List Decl → List ℕ → Constrains
constraints [] n = record { param = of_kind kind.Value; call = λ xs. pure tt }
constraints ((decl.Constraint c) ∷ earlier) n = constrains_if (bytes_eq c.name.text n) (constraints earlier) c n
constraints (d ∷ earlier) n = constraints earlier n

-- ---- rewrites

abbrev pub within_parts : Names Part → Doing Script (Meant Part) → Doing Script (Meant Part)
within_parts names work = λ s. restored s (work (record s { names = names })) where
  restored : Script → Meant Part × Script → Meant Part × Script
  restored s r = (r.0, record r.1 { names = s.names })

abbrev pub make_native : Option Rewrite → Kind → List (Meant Part) → Doing Script (Meant Part)
make_native None k xs = pure no_part
make_native (Some r) k xs = make k (native r (map (λ x. x.is) xs))

abbrev pub given_kind : CallDecl → Option Kind
given_kind c = option_map (λ w. w.kind) (option_and_then ref_kind c.gives)

-- A rewrite without a body is a native one. Else its body runs, with the parameters as names of the arguments.
abbrev pub call_rewrite : Rewrites → CallDecl → Body → List (Meant Part) → Doing Script (Meant Part)
call_rewrite earlier c body.Absent xs =
    make_native (rewrite_of c.name.text (map (λ x. x.kind) xs) (given_kind c)) (option_map_or (λ k. k) (given_kind c) kind.Attr) xs
call_rewrite earlier c (body.Braces ss end) xs = within_parts (named_together (param_names c.params) xs) (all_done earlier ss)
call_rewrite earlier c (body.One s) xs = pure no_part
call_rewrite earlier c (body.Value e) xs = within_parts (named_together (param_names c.params) xs) (evaluated earlier e None)

abbrev pub rewrites_if : Bool → Rewrites → CallDecl → Rewrites
rewrites_if true earlier c n xs = call_rewrite earlier c c.body xs
rewrites_if false earlier c n xs = earlier n xs

-- The rewrites among these declarations, the last one first.
abbrev pub rewrites : List Decl → Rewrites
rewrites [] n xs = pure no_part
rewrites ((decl.Rewrite c) ∷ earlier) n xs = rewrites_if (bytes_eq c.name.text n) (rewrites earlier) c n xs
rewrites (d ∷ earlier) n xs = rewrites earlier n xs

-- ---- patterns

abbrev pub body_statements : Body → List Stmt
body_statements (body.Braces ss end) = ss
body_statements (body.One s) = s ∷ []
body_statements b = []

-- the operation that the last statement names is the root
abbrev pub root_of : (List ℕ → Constrains) → Syntax → Doing Scene ℕ
root_of constraint e = do
  x ← expression constraint e
  pure (number_of x.is)

abbrev pub form_root : (List ℕ → Constrains) → StmtForm → Doing Scene ℕ
form_root constraint (erase_stmt e) = root_of constraint e
form_root constraint (replace_stmt e values) = root_of constraint e
form_root constraint (rewrite_stmt e ss end) = root_of constraint e
form_root constraint form = pure 0

abbrev pub last_root : (List ℕ → Constrains) → Stmt → Doing Scene ℕ
last_root constraint (stmt at form) = form_root constraint form

-- all statements but the last, and what that one names
abbrev pub read_match : (List ℕ → Constrains) → List Stmt → Doing Scene ℕ
read_match constraint [] = pure 0
read_match constraint (s ∷ []) = last_root constraint s
read_match constraint (s ∷ ss) = statement constraint s >> read_match constraint ss

-- what the last statement does with the root
abbrev pub form_rewrites : Rewrites → Part → StmtForm → Doing Script (Unit {0})
form_rewrites rewrite root (erase_stmt e) = act (erases root)
form_rewrites rewrite root (replace_stmt e values) = replace_by rewrite root values
form_rewrites rewrite root (rewrite_stmt e ss end) = all_done rewrite (stmt_list ss) >> pure tt
form_rewrites rewrite root form = pure tt

abbrev pub last_rewrites : Rewrites → Part → List Stmt → Doing Script (Unit {0})
last_rewrites rewrite root [] = pure tt
last_rewrites rewrite root ((stmt at form) ∷ []) = form_rewrites rewrite root form
last_rewrites rewrite root (s ∷ ss) = last_rewrites rewrite root ss

-- the names of the match stand in the rewrite for what they denoted
abbrev pub matched_names : Names Expr → Names Part
matched_names ns = map (λ n. (n.0, meant n.1.kind (matched n.1.is))) ns

abbrev pub script_of : Scene → Script
script_of s = record { names = matched_names s.names; count = 0; actions = [] }

abbrev pub benefit_of : List Meta → ℕ
benefit_of [] = 1
benefit_of (m ∷ ms) = by_form m.form (benefit_of ms) where
  by_form : MetaForm → ℕ → ℕ
  by_form (Benefit n) more = n
  by_form Recursion more = more

abbrev pub pattern_name : Option Name → List ℕ
pattern_name None = []
pattern_name (Some n) = n.text

abbrev pub pattern_of : PatternDecl → ℕ × Scene → Script → Pattern
pattern_of p read script = record {
  name = pattern_name p.name;
  benefit = benefit_of p.metas;
  kinds = read.1.kinds;
  places = read.1.places;
  demands = read.1.demands;
  root = read.0;
  actions = script.actions;
}

abbrev pub expanded_by : (List ℕ → Constrains) → Rewrites → PatternDecl → List Stmt → ℕ × Scene → Pattern
expanded_by constraint rewrite p ss read = pattern_of p read (last_rewrites rewrite (matched (the read.0)) ss (script_of read.1)).1

-- The pattern that a declaration stands for, with the declarations before it, the last one first.
unfoldable pub expanded : List Decl → PatternDecl → Pattern
expanded earlier p = expanded_by (constraints earlier) (rewrites earlier) p (body_statements p.body) (read_match (constraints earlier) (body_statements p.body) empty)

abbrev pub patterns_from : List Decl → List Decl → List Pattern
patterns_from earlier [] = []
patterns_from earlier ((decl.Pattern p) ∷ ds) = expanded earlier p ∷ patterns_from (decl.Pattern p ∷ earlier) ds
patterns_from earlier (d ∷ ds) = patterns_from (d ∷ earlier) ds

-- The patterns of a file, in order.
unfoldable pub patterns : PatFile → List Pattern
patterns file = patterns_from [] file.decls

-- ---- constraints by themselves

-- parameters as variables
abbrev pub param_variables : (List ℕ → Constrains) → List Param → Doing Scene (List (Meant Expr))
param_variables earlier [] = pure []
param_variables earlier (p ∷ ps) = do
  x ← new_variable p.name.at (kind_of_refs earlier p.refs).kind
  see_name p.name.text x
  xs ← param_variables earlier ps
  pure (x ∷ xs)

abbrev pub constraint_asks : (List ℕ → Constrains) → CallDecl → Doing Scene (Unit {0})
constraint_asks earlier c = do
  xs ← param_variables earlier c.params
  call_params earlier c.params xs
  body_asks earlier c.body
