use Rattle.std.proofs.Common.{◌≡◌, ◌+◌, ◌-◌, ◌*◌}
use Rattle.mlir_lexer.specs.declared.token.TokenKind.TheVariants.{RightBrace}
use Rattle.mlir_attributes.specs.Steps.{counted, many, all_up_to}
use Rattle.mlir_parse.specs.Operations.{inner_operation, region, regions_inside, two_deeper}
use Rattle.mlir_parse.proofs.operations.+operation.Given as goal

abbrev pub decreases-operation : goal.decreases-operation
decreases-operation l = 4 * l.room + 6

abbrev pub decreases-maybe_regions : goal.decreases-maybe_regions
decreases-maybe_regions l = 4 * l.room + 5

abbrev pub decreases-region_items : goal.decreases-region_items
decreases-region_items l = 4 * l.room + 4

abbrev pub decreases-region : goal.decreases-region
decreases-region l = 4 * l.room + 3

abbrev pub decreases-region_inside : goal.decreases-region_inside
decreases-region_inside l = 4 * l.room + 2

abbrev pub decreases-inner_operations : goal.decreases-inner_operations
decreases-inner_operations l = 4 * l.room + 1

abbrev pub decreases-inner_operation : goal.decreases-inner_operation
decreases-inner_operation l = 4 * l.room + 0

abbrev pub invariant-inner_operations-loop-turn : goal.invariant-inner_operations-loop-turn
invariant-inner_operations-loop-turn l =
    all_up_to RightBrace (inner_operation l.aliases (two_deeper l.aliases l.room)) l.fn.reader
    ≡ many RightBrace (inner_operation l.aliases (two_deeper l.aliases l.room)) (l._turn-end - l._turn) l.found l.reader

abbrev pub invariant-region_items-loop-turn : goal.invariant-region_items-loop-turn
invariant-region_items-loop-turn l =
    regions_inside l.aliases (two_deeper l.aliases l.room) (l.room - 1) l.fn.reader
    ≡ counted (region l.aliases (two_deeper l.aliases l.room) (l.room - 1)) (l._turn-end - l._turn) l.found l.reader
