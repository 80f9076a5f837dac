use Rattle.std.proofs.Common.{Bool, ◌+◌, ◌*◌, drop}
use Rattle.rw_outside.specs.Puts.{SinkState}
use Rattle.mlir_tree.specs.Tree.{attrs, entries}
use Rattle.mlir_tree.specs.Measure.{attr_size, attrs_size, entries_size}
use Rattle.mlir_print.specs.Prints.{Prints}
use Rattle.mlir_print.specs.Text.{more_attrs_text, more_entries_text}
use Rattle.mlir_print.proofs.attr.+put_attr.Given as goal

-- whatever puts the rest from here on puts all from the start
abbrev pub invariant-put_more_attrs-loop-attr : goal.invariant-put_more_attrs-loop-attr
invariant-put_more_attrs-loop-attr g l =
    (is : Bool) (s : SinkState) → Prints l.ok is (g.S.Sink.state l.sink) s (more_attrs_text (attrs (drop l.attr-index l.all)))
    → Prints l.fn.ok is (g.S.Sink.state l.fn.sink) s (more_attrs_text (attrs l.all))

abbrev pub invariant-put_more_entries-loop-entry : goal.invariant-put_more_entries-loop-entry
invariant-put_more_entries-loop-entry g l =
    (is : Bool) (s : SinkState) → Prints l.ok is (g.S.Sink.state l.sink) s (more_entries_text (entries (drop l.entry-index l.all)))
    → Prints l.fn.ok is (g.S.Sink.state l.fn.sink) s (more_entries_text (entries l.all))

abbrev pub decreases-put_attr : goal.decreases-put_attr
decreases-put_attr g l = 4 * attr_size l.attr.now

abbrev pub decreases-put_entry : goal.decreases-put_entry
decreases-put_entry g l = 4 * attr_size l.attr.now + 1

abbrev pub decreases-put_more_attrs : goal.decreases-put_more_attrs
decreases-put_more_attrs g l = 4 * attrs_size (attrs l.all.now)

abbrev pub decreases-put_attrs : goal.decreases-put_attrs
decreases-put_attrs g l = 4 * attrs_size (attrs l.all.now) + 1

abbrev pub decreases-put_more_entries : goal.decreases-put_more_entries
decreases-put_more_entries g l = 4 * entries_size (entries l.all.now)

abbrev pub decreases-put_entries : goal.decreases-put_entries
decreases-put_entries g l = 4 * entries_size (entries l.all.now) + 1
