use Rattle.std.proofs.Common.{rules, ltb, ltb-true, ltb-false}
use Rattle.std.proofs.lemmas.List.Sorted.{IsPartitionPoint-from_clause, IsPartitionedBy-ltb}
use Rattle.graph_colours.proofs.PlaceLemmas.{not_before}
use Rattle.graph_colours.proofs.member.place_from.Goals as goal

pub returns : goal.returns
returns g c =
    let ms = c.args.members.now in
    let wanted = c.args.wanted in
    let parted = IsPartitionedBy-ltb (λ m. g.C.ConstraintId.number m.id) ms wanted (not_before g.C.ConstraintId.number ms c.requires) in
    let point = IsPartitionPoint-from_clause (λ m. ltb (g.C.ConstraintId.number m.id) wanted) _ _ c.partition_point.ensures.partitioned parted (λ a r q k. search rules) in
    record { within = search rules; before = λ k d low high. ltb-true _ _ (point.0 k d low high); after = λ k d low high. ltb-false _ _ (point.1 k d low high) }
