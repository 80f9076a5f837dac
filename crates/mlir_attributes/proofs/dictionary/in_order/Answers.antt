use Rattle.std.proofs.Common.{◌≡◌, rules, arith, sym, subst}
use Rattle.std.proofs.lemmas.Grind.{common_steps}
use Rattle.std.specs.Prelude.{map}
use Rattle.mlir_tree.specs.Tree.{entries}
use Rattle.mlir_tree.specs.Range.{AreRising, entry_names}
use Rattle.mlir_attributes.specs.Dictionary.{entry_of}
use Rattle.mlir_attributes.proofs.Entries.{rising}
use Rattle.mlir_attributes.proofs.dictionary.in_order.Goals as goal

pub returns-clause-rising : goal.returns-clause-rising
returns-clause-rising c =
    let e : c.in_ok-all.all ≡ map entry_of c.args.found.entries = first_of (search rules, grind (arith, common_steps)) in
    subst (λ es. AreRising (entry_names (entries es))) (sym e) (rising c.args.found.entries c.into_iter-name-iterator.ensures.into_iter_gives.5)
