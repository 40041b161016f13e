use Rattle.std.proofs.Common.{◌≡◌, drop}
use Rattle.solver_sets.specs.declared.census.Item.TheVariants as items
use Rattle.solver_sets.specs.Ties.{slots_of}
use Rattle.solver_sets.specs.Census.{AreNamed, joint_standings, standing_of_joint, standings_from}
use Rattle.solver_sets.specs.CensusListing.{with_all}
use Rattle.solver_sets.proofs.census.list_joints.Given as goal

abbrev pub invariant-loop-slot : goal.invariant-loop-slot
invariant-loop-slot l = record {
  listed : with_all l.census (standings_from items.Joint (standing_of_joint l.bodies) l.slot (drop l.slot l.slot_entries) (drop l.slot l.joints)) ≡ with_all l.fn.census (joint_standings l.bodies (slots_of l.slot_entries l.joints));
  named : AreNamed l.census.sleeping;
}
