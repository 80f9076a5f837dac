use Rattle.std.proofs.Common.{◌≡◌, ◌+◌, ◌-◌, ◌*◌}
use Rattle.pdll_parser.specs.Input.{items, separated}
use Rattle.pdll_parser.specs.Expressions.{expression, reference, an_entry, room_of}
use Rattle.pdll_parser.proofs.expressions.+expression.Given as goal

abbrev pub decreases-of : goal.decreases-of
decreases-of l = 16 * l.depth

abbrev pub decreases-maybe_of : goal.decreases-maybe_of
decreases-maybe_of l = 16 * l.depth + 1

abbrev pub decreases-reference_form : goal.decreases-reference_form
decreases-reference_form l = 16 * l.depth + 2

abbrev pub decreases-reference : goal.decreases-reference
decreases-reference l = 16 * l.depth + 3

abbrev pub decreases-reference_items : goal.decreases-reference_items
decreases-reference_items l = 16 * l.depth + 4

abbrev pub decreases-references : goal.decreases-references
decreases-references l = 16 * l.depth + 4

abbrev pub decreases-arguments : goal.decreases-arguments
decreases-arguments l = 16 * l.depth

abbrev pub decreases-maybe_arguments : goal.decreases-maybe_arguments
decreases-maybe_arguments l = 16 * l.depth + 1

abbrev pub decreases-maybe_types : goal.decreases-maybe_types
decreases-maybe_types l = 16 * l.depth + 1

abbrev pub decreases-attributes : goal.decreases-attributes
decreases-attributes l = 16 * l.depth

abbrev pub decreases-maybe_attributes : goal.decreases-maybe_attributes
decreases-maybe_attributes l = 16 * l.depth + 1

abbrev pub decreases-operation : goal.decreases-operation
decreases-operation l = 16 * l.depth + 2

abbrev pub decreases-named : goal.decreases-named
decreases-named l = 16 * l.depth + 5

abbrev pub decreases-primary : goal.decreases-primary
decreases-primary l = 16 * l.depth + 6

abbrev pub decreases-expression : goal.decreases-expression
decreases-expression l = 16 * l.depth + 7

abbrev pub decreases-expression_items : goal.decreases-expression_items
decreases-expression_items l = 16 * l.depth + 8

abbrev pub decreases-expression_list : goal.decreases-expression_list
decreases-expression_list l = 16 * l.depth + 9

abbrev pub decreases-maybe_value : goal.decreases-maybe_value
decreases-maybe_value l = 16 * l.depth + 8

abbrev pub decreases-entry : goal.decreases-entry
decreases-entry l = 16 * l.depth + 9

abbrev pub decreases-entry_items : goal.decreases-entry_items
decreases-entry_items l = 16 * l.depth + 10

abbrev pub decreases-entry_list : goal.decreases-entry_list
decreases-entry_list l = 16 * l.depth + 11

abbrev pub invariant-expression_items-loop-turn : goal.invariant-expression_items-loop-turn
invariant-expression_items-loop-turn l = items (expression (room_of l.depth)) l.fn.reader ≡ separated (expression (room_of l.depth)) (l._turn-end - l._turn) l.found l.reader

abbrev pub invariant-reference_items-loop-turn : goal.invariant-reference_items-loop-turn
invariant-reference_items-loop-turn l = items (reference (room_of l.depth)) l.fn.reader ≡ separated (reference (room_of l.depth)) (l._turn-end - l._turn) l.found l.reader

abbrev pub invariant-entry_items-loop-turn : goal.invariant-entry_items-loop-turn
invariant-entry_items-loop-turn l = items (an_entry (expression (room_of l.depth))) l.fn.reader ≡ separated (an_entry (expression (room_of l.depth))) (l._turn-end - l._turn) l.found l.reader
