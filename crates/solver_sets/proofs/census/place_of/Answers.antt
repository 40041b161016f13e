use Rattle.std.proofs.Common.{rules, ltb, ltb-true, ltb-false}
use Rattle.std.proofs.lemmas.List.Sorted.{IsPartitionPoint-from_clause, IsPartitionedBy-ltb}
use Rattle.solver_sets.proofs.CensusLaws.{not_falling}
use Rattle.solver_sets.proofs.census.place_of.Goals as goal

pub returns-clause-before : goal.returns-clause-before
returns-clause-before c =
    let sets = c.args.sets.now in
    let parted = IsPartitionedBy-ltb (λ s. s.name) sets c.args.name (not_falling sets c.requires) in
    let point = IsPartitionPoint-from_clause (λ s. ltb s.name c.args.name) _ _ c.partition_point.ensures.partitioned parted (λ a r q k. search rules) in
    λ k d low high. ltb-true _ _ (point.0 k d low high)

pub returns-clause-after : goal.returns-clause-after
returns-clause-after c =
    let sets = c.args.sets.now in
    let parted = IsPartitionedBy-ltb (λ s. s.name) sets c.args.name (not_falling sets c.requires) in
    let point = IsPartitionPoint-from_clause (λ s. ltb s.name c.args.name) _ _ c.partition_point.ensures.partitioned parted (λ a r q k. search rules) in
    λ k d low high. ltb-false _ _ (point.1 k d low high)
