use Rattle.std.proofs.Common.{eqb}
use Rattle.std.proofs.lemmas.List.Filters.{dedup_is}
use Rattle.contacts.proofs.NearMarkedLaws.{sorted_rises}
use Rattle.world_core_base.specs.JointEnds.{halves}
use Rattle.world_core_base.proofs.JointTableLaws.{same_slots}
use Rattle.world_core_base.proofs.joint_ends.list_slots.Goals as goal

pub returns-clause-rising : goal.returns-clause-rising
returns-clause-rising c = sorted_rises _ _ c.sort_unstable.ensures.sorted (dedup_is eqb _ _ c.dedup.ensures.filtered)

pub returns-clause-slots : goal.returns-clause-slots
returns-clause-slots c = same_slots (halves c.args.ends.now) _ _ (rw c.in_ok-slots.ensures.slots at c.sort_unstable.ensures.permutation) (dedup_is eqb _ _ c.dedup.ensures.filtered)
