-- The parts of a rewrite that functions of the program have for their own.
use Rattle.std.specs.Prelude.{ℕ, List, [], ◌∷◌, map, Option, Some, None}
use Rattle.std.specs.Option.{option_map_or}
use Rattle.pdll_syntax.specs.ExprTree.{Expr as Syntax, OpExpr, operation, Exprs}
use Rattle.pdll_syntax.specs.StmtTree.{Stmt}
use Rattle.pdll_syntax.specs.declared.file.CallDecl.{CallDecl}
use Rattle.pdll_syntax.specs.declared.stmt.Values.{Values}
use Rattle.native_set.specs.declared.native.Kind.TheVariants as kind
use Rattle.native_set.specs.Table.{rewrite_of}
use Rattle.rewrite_model.specs.Pattern.{Parts, Part, result_of, erases}
use Rattle.rewrite_model.specs.Doing.{Doing, ◌>>=◌, ◌>>◌, pure}
use Rattle.rewrite_model.specs.Names.{Meant, Names as Sight, named_together}
use Rattle.rewrite_model.specs.RewritePart.{Script, Rewrites, no_part, act, make, see_part, operand_part, evaluated, all_evaluated, operands_evaluated, entries_evaluated, types_evaluated, replace_by, all_done}
use Rattle.rewrite_model.specs.Expanding.{param_names, within_parts, make_native, given_kind}

-- results of results, by the numbers behind an operation
abbrev pub members_made : List ℕ → Meant Part → Doing Script (Meant Part)
members_made [] x = pure x
members_made (k ∷ ks) x = make kind.Value (result_of x.is k) >>= members_made ks

abbrev pub native_made : CallDecl → List (Meant Part) → Doing Script (Meant Part)
native_made c xs = make_native (rewrite_of c.name.text (map (λ x. x.kind) xs) (given_kind c)) (option_map_or (λ k. k) (given_kind c) kind.Attr) xs

-- with the parameters as names of the arguments
abbrev pub params_named : CallDecl → List (Meant Part) → Sight Part
params_named c xs = named_together (param_names c.params) xs

module _ (rewrite : Rewrites) where
  abbrev pub parts_made : OpExpr → Option Part → Doing Script (Parts Part)
  parts_made (operation n os es ts) old = do
    operands ← operands_evaluated rewrite os
    entries ← entries_evaluated rewrite es
    types ← types_evaluated rewrite ts old
    pure (record { operands = operands; entries = entries; types = types })

  abbrev pub operand_made : Syntax → Doing Script Part
  operand_made e = do
    x ← evaluated rewrite e None
    operand_part x

  abbrev pub type_made : Syntax → Doing Script Part
  type_made e = do
    x ← evaluated rewrite e None
    pure x.is

  abbrev pub call_evaluated : List ℕ → Exprs → Doing Script (Meant Part)
  call_evaluated n es = do
    xs ← all_evaluated rewrite es
    rewrite n xs

  abbrev pub call_made : List ℕ → List (Meant Part) → Doing Script (Meant Part)
  call_made n xs = rewrite n xs

  abbrev pub value_run : CallDecl → List (Meant Part) → Syntax → Doing Script (Meant Part)
  value_run c xs e = within_parts (params_named c xs) (evaluated rewrite e None)

  abbrev pub statements_run : CallDecl → List (Meant Part) → List Stmt → Doing Script (Meant Part)
  statements_run c xs ss = within_parts (params_named c xs) (all_done rewrite ss)

  abbrev pub erased : Syntax → Doing Script (Meant Part)
  erased e = do
    x ← evaluated rewrite e None
    act (erases x.is)
    pure no_part

  abbrev pub replaced : Syntax → Values → Doing Script (Meant Part)
  replaced e values = do
    x ← evaluated rewrite e None
    replace_by rewrite x.is values
    pure no_part

  abbrev pub plain_done : Syntax → Doing Script (Meant Part)
  plain_done e = evaluated rewrite e None >> pure no_part

  abbrev pub let_done : List ℕ → Option Syntax → Doing Script (Meant Part)
  let_done n None = pure no_part
  let_done n (Some e) = do
    x ← evaluated rewrite e None
    see_part n x
    pure no_part

  -- what is left to do of statements; what the last one gives is given
  abbrev pub all_after : Meant Part → List Stmt → Doing Script (Meant Part)
  all_after x [] = pure x
  all_after x (s ∷ ss) = all_done rewrite (s ∷ ss)
