use Rattle.std.proofs.Common.{rules}
use Rattle.std.proofs.lemmas.List.Sorted.{answers_always}
use Rattle.row_index.proofs.Searching.{halved, found_ok, none_ok}
use Rattle.row_index.proofs.places.halve.Goals as goal

pub returns-clause-found : goal.returns-clause-found
returns-clause-found c =
    let facts = c.binary_search_by_key.ensures in
    let by_key = facts.position (λ r. r.id) (answers_always _ _ _ (λ f a r g called. search rules)) in
    found_ok c.args.rows.now c.args.id c.binary_search_by_key.result c.ok.result c.ok.ensures.value (halved c.args.rows.now c.args.id c.binary_search_by_key.result by_key facts.bound c.requires)

pub returns-clause-none : goal.returns-clause-none
returns-clause-none c =
    let facts = c.binary_search_by_key.ensures in
    let by_key = facts.position (λ r. r.id) (answers_always _ _ _ (λ f a r g called. search rules)) in
    none_ok c.args.rows.now c.args.id c.binary_search_by_key.result c.ok.result c.ok.ensures.value (halved c.args.rows.now c.args.id c.binary_search_by_key.result by_key facts.bound c.requires)
