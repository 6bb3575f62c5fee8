use Rattle.std.proofs.Common.{rules}
use Rattle.std.proofs.lemmas.List.Sorted.{answers_always}
use Rattle.aug_model.proofs.Searches.{found, absent}
use Rattle.aug_model.proofs.places.find_key.Goals as goal

pub returns-clause-there : goal.returns-clause-there
returns-clause-there c =
    let by_key = c.binary_search_by_key.ensures.position (λ pair. pair.0) (answers_always _ _ _ (λ f a r g called. search rules)) in
    found _ _ c.binary_search_by_key.result c.requires c.binary_search_by_key.ensures.bound by_key

pub returns-clause-absent : goal.returns-clause-absent
returns-clause-absent c =
    let by_key = c.binary_search_by_key.ensures.position (λ pair. pair.0) (answers_always _ _ _ (λ f a r g called. search rules)) in
    absent _ _ c.binary_search_by_key.result c.requires c.binary_search_by_key.ensures.bound by_key
