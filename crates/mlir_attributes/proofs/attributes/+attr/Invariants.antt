use Rattle.std.proofs.Common.{◌≡◌, ◌+◌, ◌-◌, ◌*◌}
use Rattle.mlir_lexer.specs.declared.token.TokenKind.TheVariants.{Comma}
use Rattle.mlir_attributes.specs.Input.{items, separated}
use Rattle.mlir_attributes.specs.Attributes.{attr, entries, all_entries}
use Rattle.mlir_attributes.specs.Dictionary.{named}
use Rattle.mlir_attributes.proofs.attributes.+attr.Given as goal

abbrev pub decreases-attr : goal.decreases-attr
decreases-attr l = 4 * l.room

abbrev pub decreases-attr_items : goal.decreases-attr_items
decreases-attr_items l = 4 * l.room + 1

abbrev pub decreases-array_attr : goal.decreases-array_attr
decreases-array_attr l = 4 * l.room + 2

abbrev pub decreases-entry_value : goal.decreases-entry_value
decreases-entry_value l = 4 * l.room + 1

abbrev pub decreases-dict_entries : goal.decreases-dict_entries
decreases-dict_entries l = 4 * l.room + 2

abbrev pub decreases-dict_attr : goal.decreases-dict_attr
decreases-dict_attr l = 4 * l.room + 3

abbrev pub invariant-attr_items-loop-turn : goal.invariant-attr_items-loop-turn
invariant-attr_items-loop-turn l = items (attr l.aliases l.room) l.fn.reader ≡ separated Comma (attr l.aliases l.room) (l._turn-end - l._turn) l.found l.reader

abbrev pub invariant-dict_entries-loop-turn : goal.invariant-dict_entries-loop-turn
invariant-dict_entries-loop-turn l = all_entries (attr l.aliases l.room) l.fn.reader ≡ entries (attr l.aliases l.room) (l._turn-end - l._turn) (named l.found) l.reader
