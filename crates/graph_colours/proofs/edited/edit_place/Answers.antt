use Rattle.std.proofs.Common.{◌≡◌, ◌<◌, ℕ, suc, length, get_or, rules, ltb, ltb-true, ltb-false, arith}
use Rattle.std.proofs.lemmas.Grind.{common_steps}
use Rattle.std.proofs.lemmas.List.Sorted.{IsPartitionPoint-from_clause, IsPartitionedBy-ltb}
use Rattle.graph_colours.specs.Edits.{edit_number}
use Rattle.graph_colours.proofs.NotedLemmas.{not_before, all_above_last}
use Rattle.graph_colours.proofs.edited.edit_place.Goals as goal

pub returns-in-Some-clause-before : goal.returns-in-Some-clause-before
returns-in-Some-clause-before g c =
    let es = c.args.edits.now in
    let wanted = c.args.wanted in
    let parted = IsPartitionedBy-ltb (λ e. g.C.ConstraintId.number e.member.id) es wanted (not_before g.C.ConstraintId.number es c.requires) in
    let point = IsPartitionPoint-from_clause (λ e. ltb (g.C.ConstraintId.number e.member.id) wanted) _ _ c.partition_point.ensures.partitioned parted (λ a r q k. search rules) in
    λ k d low high. ltb-true _ _ (point.0 k d low high)

pub returns-in-Some-clause-after : goal.returns-in-Some-clause-after
returns-in-Some-clause-after g c =
    let es = c.args.edits.now in
    let wanted = c.args.wanted in
    let parted = IsPartitionedBy-ltb (λ e. g.C.ConstraintId.number e.member.id) es wanted (not_before g.C.ConstraintId.number es c.requires) in
    let point = IsPartitionPoint-from_clause (λ e. ltb (g.C.ConstraintId.number e.member.id) wanted) _ _ c.partition_point.ensures.partitioned parted (λ a r q k. search rules) in
    λ k d low high. ltb-false _ _ (point.1 k d low high)

pub returns-in_default-clause-before : goal.returns-in_default-clause-before
returns-in_default-clause-before g c =
    let n = g.C.ConstraintId.number in
    let es = c.args.edits.now in
    let e = c.in-Some.last.now in
    let lt : edit_number n e < c.args.wanted = omega (arith, c.number.ensures, c.if-number-wanted.false) in
    let is : (k : ℕ) → suc k ≡ length es → e ≡ get_or es k e = λ k h. grind (arith, common_steps) in
    let all = all_above_last n es e c.args.wanted c.requires is lt in
    λ k d low high. all k d high
