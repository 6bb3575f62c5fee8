use Rattle.std.proofs.Common.{nat_lt, rules}
use Rattle.std.proofs.lemmas.List.Sorted.{IsPartitionPoint-from_clause, IsPartitionedBy-ltb}
use Rattle.aug_model.proofs.Searches.{keys_do_not_fall, boundary}
use Rattle.aug_model.proofs.places.place_of.Goals as goal

pub returns : goal.returns
returns c =
    let members = c.args.members.now in
    let k = c.args.k in
    let parted = IsPartitionedBy-ltb (λ p. p.0) members k (keys_do_not_fall members c.requires) in
    boundary members k _ c.partition_point.ensures.bound
    (IsPartitionPoint-from_clause (λ p. nat_lt p.0 k) members _ c.partition_point.ensures.partitioned parted (λ a r f' h. search rules))
