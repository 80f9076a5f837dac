-- What the program's things stand for.
use Rattle.rewrite_model.specs.Things.{Thing, an_op, a_value, some_values, an_attr, a_type, some_types}
use Rattle.row_matcher.specs.declared.thing.Thing.{Thing as ThingNode}
use Rattle.row_matcher.specs.declared.thing.Thing.TheVariants as t
use Rattle.row_matcher.specs.declared.thing.Seen.{Seen as SeenNode}
use Rattle.row_matcher.specs.declared.thing.Seen.TheVariants as s

abbrev pub thing_of : ThingNode → Thing
thing_of (t.Op id) = an_op id
thing_of (t.Value v) = a_value v
thing_of (t.Values vs) = some_values vs
thing_of (t.Attr a) = an_attr a
thing_of (t.Ty y) = a_type y
thing_of (t.Tys ys) = some_types ys

abbrev pub seen_of : SeenNode → Thing
seen_of (s.Op id) = an_op id
seen_of (s.Value v) = a_value v
seen_of (s.Values vs) = some_values vs.now
seen_of (s.Attr a) = an_attr a.now
seen_of (s.Ty y) = a_type y.now
seen_of (s.Tys ys) = some_types ys.now
