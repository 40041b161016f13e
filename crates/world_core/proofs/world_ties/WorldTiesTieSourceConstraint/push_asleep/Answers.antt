use Rattle.std.proofs.Common.{vec_capacity}
use Rattle.sleep_wake.specs.Sources.{asleep_ties, is_asleep_under}
use Rattle.solver_sets.specs.Ties.{slots_of}
use Rattle.world_core.specs.WorldTies.{all_contact_ties, all_joint_ties}
use Rattle.world_core_base.specs.Asleep.{asleep_under}
use Rattle.world_core.proofs.PushLaws.{both_told, first_room, second_room}
use Rattle.world_core.proofs.WorldTieLaws.{ties_that}
use Rattle.world_core.proofs.world_ties.WorldTiesTieSourceConstraint.push_asleep.Goals as goal

pub push_joints_asleep-requires-clause-room : goal.push_joints_asleep-requires-clause-room
push_joints_asleep-requires-clause-room c = rw c.joints.ensures (first_room c.args.list.now.items _ (asleep_ties (asleep_under c.self.inside.bodies.now) c.args.name (all_joint_ties c.self.inside.bodies.now (slots_of c.self.inside.joint_entries.now c.self.inside.joints.now.joints))) (asleep_ties (asleep_under c.self.inside.bodies.now) c.args.name (all_contact_ties c.self.inside.bodies.now c.self.inside.contacts.now.contacts)) (vec_capacity c.args.list.now) (ties_that (is_asleep_under (asleep_under c.self.inside.bodies.now) c.args.name) c.self.inside.bodies.now (slots_of c.self.inside.joint_entries.now c.self.inside.joints.now.joints) c.self.inside.contacts.now.contacts) (rw (← c.self.view_is) at c.requires.room))

pub push_contacts_asleep-requires-clause-room : goal.push_contacts_asleep-requires-clause-room
push_contacts_asleep-requires-clause-room c = second_room c.args.list.now.items c.push_joints_asleep.new.list.items _ (asleep_ties (asleep_under c.self.inside.bodies.now) c.args.name (all_joint_ties c.self.inside.bodies.now (slots_of c.self.inside.joint_entries.now c.self.inside.joints.now.joints))) (asleep_ties (asleep_under c.self.inside.bodies.now) c.args.name (all_contact_ties c.self.inside.bodies.now c.self.inside.contacts.now.contacts)) (vec_capacity c.args.list.now) (vec_capacity c.push_joints_asleep.new.list) (ties_that (is_asleep_under (asleep_under c.self.inside.bodies.now) c.args.name) c.self.inside.bodies.now (slots_of c.self.inside.joint_entries.now c.self.inside.joints.now.joints) c.self.inside.contacts.now.contacts) (rw c.joints.ensures at c.push_joints_asleep.ensures.pushed) (rw (← c.self.view_is) at c.requires.room) c.push_joints_asleep.ensures.capacity

pub returns-clause-pushed : goal.returns-clause-pushed
returns-clause-pushed c = rw (← c.self.view_is) (both_told c.args.list.now.items c.push_joints_asleep.new.list.items c.push_contacts_asleep.new.list.items _ (asleep_ties (asleep_under c.self.inside.bodies.now) c.args.name (all_joint_ties c.self.inside.bodies.now (slots_of c.self.inside.joint_entries.now c.self.inside.joints.now.joints))) (asleep_ties (asleep_under c.self.inside.bodies.now) c.args.name (all_contact_ties c.self.inside.bodies.now c.self.inside.contacts.now.contacts)) (ties_that (is_asleep_under (asleep_under c.self.inside.bodies.now) c.args.name) c.self.inside.bodies.now (slots_of c.self.inside.joint_entries.now c.self.inside.joints.now.joints) c.self.inside.contacts.now.contacts) (rw c.joints.ensures at c.push_joints_asleep.ensures.pushed) c.push_contacts_asleep.ensures.pushed)
