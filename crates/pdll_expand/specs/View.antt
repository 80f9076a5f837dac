-- What the program's expressions and demands stand for.
use Rattle.std.specs.Prelude.{ℕ, List, map}
use Rattle.std.specs.Option.{option_copied}
use Rattle.rewrite_model.specs.Pattern.{Parts, Expr, the, result, only_result, Demand, stands, is_attr, is_type, has_name, has_parts, has_type, calls}
use Rattle.rewrite_model.specs.Names.{Written, Meant}
use Rattle.pdll_expand.specs.declared.expr.Expr.{Expr as ExprNode}
use Rattle.pdll_expand.specs.declared.expr.Expr.TheVariants as e
use Rattle.pdll_expand.specs.declared.demand.NamedExpr.{NamedExpr}
use Rattle.pdll_expand.specs.declared.demand.Parts.{Parts as PartsNode}
use Rattle.pdll_expand.specs.declared.demand.Demand.{Demand as DemandNode}
use Rattle.pdll_expand.specs.declared.demand.Demand.TheVariants as d
use Rattle.pdll_expand.specs.declared.scene.Meant.{Meant as MeantNode}
use Rattle.pdll_expand.specs.declared.written.Written.{Written as WrittenNode}

abbrev pub expr_of : ExprNode → Expr
expr_of (e.The x) = the x
expr_of (e.Result x k) = result x k
expr_of (e.OnlyResult x) = only_result x

abbrev pub named_expr_of : NamedExpr → List ℕ × Expr
named_expr_of n = (n.name.now, expr_of n.value)

abbrev pub parts_of : PartsNode → Parts Expr
parts_of o = record { operands = map expr_of o.operands; entries = map named_expr_of o.entries; types = map expr_of o.types }

abbrev pub demand_of : DemandNode → Demand
demand_of (d.Stands x) = stands (expr_of x)
demand_of (d.IsAttr x v) = is_attr x v
demand_of (d.IsType x t) = is_type x t
demand_of (d.HasName x n) = has_name x n.now
demand_of (d.HasParts x o) = has_parts x (parts_of o)
demand_of (d.HasType x t) = has_type x (expr_of t)
demand_of (d.Calls c xs) = calls c (map expr_of xs)

abbrev pub meant_of : MeantNode → Meant Expr
meant_of x = record { kind = x.kind; is = expr_of x.is }

abbrev pub written_of : WrittenNode → Written
written_of w = record { kind = w.kind; name = option_copied w.name }
