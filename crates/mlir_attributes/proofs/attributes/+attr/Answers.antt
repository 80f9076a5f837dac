use Rattle.std.proofs.Common.{rules, arith}
use Rattle.std.proofs.lemmas.Grind.{common_steps}
use Rattle.mlir_attributes.specs.Input.{separated}
use Rattle.mlir_attributes.specs.Attributes.{attr, entries}
use Rattle.mlir_attributes.specs.Dictionary.{named}
use Rattle.mlir_lexer.specs.declared.token.TokenKind.TheVariants.{Comma}
use Rattle.mlir_attributes.proofs.Steps.{one_more, no_more}
use Rattle.mlir_attributes.proofs.attributes.+attr.Goals as goal

pub attr_items-returns-in_err-attr : goal.attr_items-returns-in_err-attr
unfolding separated
attr_items-returns-in_err-attr t c =
    let e = one_more (λ n. separated Comma (attr c.args.aliases.now c.args.room) n c.loop-turn.found c.loop-turn.reader) _ c.loop-turn._turn c.loop-turn-test.true c.loop-turn.invariant in
    first_of (search rules, grind (arith, common_steps))

pub attr_items-returns-then-not-eat : goal.attr_items-returns-then-not-eat
unfolding separated
attr_items-returns-then-not-eat t c =
    let e = one_more (λ n. separated Comma (attr c.args.aliases.now c.args.room) n c.loop-turn.found c.loop-turn.reader) _ c.loop-turn._turn c.loop-turn-test.true c.loop-turn.invariant in
    first_of (search rules, grind (arith, common_steps))

pub attr_items-loop-turn-preserved : goal.attr_items-loop-turn-preserved
unfolding separated
attr_items-loop-turn-preserved t c =
    let e = one_more (λ n. separated Comma (attr c.args.aliases.now c.args.room) n c.loop-turn.found c.loop-turn.reader) _ c.loop-turn._turn c.loop-turn-test.true c.loop-turn.invariant in
    first_of (search rules, grind (arith, common_steps))

pub attr_items-returns : goal.attr_items-returns
unfolding separated
attr_items-returns t c =
    let e = no_more (λ n. separated Comma (attr c.args.aliases.now c.args.room) n c.loop-turn.found c.loop-turn.reader) _ c.loop-turn._turn c.loop-turn-test.false c.loop-turn.invariant in
    first_of (search rules, grind (arith, common_steps))

pub dict_entries-loop-turn-preserved : goal.dict_entries-loop-turn-preserved
unfolding entries
dict_entries-loop-turn-preserved t c =
    let e = one_more (λ n. entries (attr c.args.aliases.now c.args.room) n (named c.loop-turn.found) c.loop-turn.reader) _ c.loop-turn._turn c.loop-turn-test.true c.loop-turn.invariant in
    first_of (search rules, grind (arith, common_steps))
