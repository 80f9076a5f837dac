use Rattle.std.proofs.Common.{ℕ, List, sym, ap, ◌∙◌}
use Rattle.mlir_tree.specs.Tree.{Attr}
use Rattle.mlir_attributes.specs.Dictionary.{named, put_entry}
use Rattle.rewrite_step.specs.Sorting.{put_all}
use Rattle.rewrite_step.proofs.Sorting.{put_last}
use Rattle.rewrite_step.proofs.dictionary.put_entries.Goals as goal

pub loop-name-preserved : goal.loop-name-preserved
loop-name-preserved c =
    let es = c.pop.new.self in
    let found = named c.loop-name.found in
    let name = c.in-Some.name in
    let value = c.in-Some.value in
    let put = c.in_ok-put_entry.ensures ∙ ap (λ (n : List ℕ). put_entry n value found) c.as_slice.ensures in
    ap (put_all es) put ∙ (sym (put_last es (name, value) found) ∙ (ap (λ (l : List (List ℕ × Attr)). put_all l found) (sym c.in-Some.ensures) ∙ c.loop-name.invariant))
