use Rattle.std.proofs.Common.{rules}
use Rattle.std.proofs.lemmas.List.Sorted.{answers_always}
use Rattle.mr_families.proofs.Searched.{found_at, found_gap}
use Rattle.mr_families.proofs.places.place_of.Goals as goal

pub returns-clause-found : goal.returns-clause-found
returns-clause-found c =
    let facts = c.binary_search_by_key.ensures in
    found_at c.args.list.now c.requires c.args.number c.binary_search_by_key.result facts.bound (facts.position (λ n. n.number) (answers_always _ _ _ (λ f a r g called. search rules)))

pub returns-clause-absent : goal.returns-clause-absent
returns-clause-absent c =
    let facts = c.binary_search_by_key.ensures in
    found_gap c.args.list.now c.requires c.args.number c.binary_search_by_key.result facts.bound (facts.position (λ n. n.number) (answers_always _ _ _ (λ f a r g called. search rules)))
