-- What the program's actions stand for.
use Rattle.std.specs.Prelude.{ℕ, List, map}
use Rattle.rewrite_model.specs.Pattern.{Parts, Part, matched, made, Making, attr_literal, type_literal, new_operation, result_of, only_result_of, results_of, result_types_of, native, Action, makes, replaces, erases, Pattern}
use Rattle.rewrite_model.specs.Names.{Meant}
use Rattle.pdll_expand.specs.View.{expr_of, demand_of}
use Rattle.pdll_patterns.specs.declared.pattern.Pattern.{Pattern as PatternNode}
use Rattle.pdll_patterns.specs.declared.names.MeantPart.{MeantPart}
use Rattle.pdll_patterns.specs.declared.action.Part.{Part as PartNode}
use Rattle.pdll_patterns.specs.declared.action.Part.TheVariants as p
use Rattle.pdll_patterns.specs.declared.action.NamedPart.{NamedPart}
use Rattle.pdll_patterns.specs.declared.action.Parts.{Parts as PartsNode}
use Rattle.pdll_patterns.specs.declared.action.Making.{Making as MakingNode}
use Rattle.pdll_patterns.specs.declared.action.Making.TheVariants as m
use Rattle.pdll_patterns.specs.declared.action.Action.{Action as ActionNode}
use Rattle.pdll_patterns.specs.declared.action.Action.TheVariants as a

abbrev pub part_of : PartNode → Part
part_of (p.Matched e) = matched (expr_of e)
part_of (p.Made k) = made k

abbrev pub named_part_of : NamedPart → List ℕ × Part
named_part_of n = (n.name.now, part_of n.part)

abbrev pub parts_of : PartsNode → Parts Part
parts_of o = record { operands = map part_of o.operands; entries = map named_part_of o.entries; types = map part_of o.types }

abbrev pub making_of : MakingNode → Making
making_of (m.AttrLiteral v) = attr_literal v
making_of (m.TypeLiteral y) = type_literal y
making_of (m.NewOperation n o) = new_operation n.now (parts_of o)
making_of (m.ResultOf x k) = result_of (part_of x) k
making_of (m.OnlyResultOf x) = only_result_of (part_of x)
making_of (m.ResultsOf x) = results_of (part_of x)
making_of (m.ResultTypesOf x) = result_types_of (part_of x)
making_of (m.Native f xs) = native f (map part_of xs)

abbrev pub action_of : ActionNode → Action
action_of (a.Makes x) = makes (making_of x)
action_of (a.Replaces x xs) = replaces (part_of x) (map part_of xs)
action_of (a.Erases x) = erases (part_of x)

abbrev pub meant_part_of : MeantPart → Meant Part
meant_part_of x = record { kind = x.kind; is = part_of x.is }

abbrev pub pattern_of : PatternNode → Pattern
pattern_of p = record {
  name = p.name.now;
  benefit = p.benefit;
  kinds = p.kinds;
  places = p.places;
  demands = map demand_of p.demands;
  root = p.root;
  actions = map action_of p.actions;
}
