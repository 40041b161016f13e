use Rattle.std.proofs.Common.{vec_capacity}
use Rattle.sleep_wake.specs.Sources.{first_ties, is_first}
use Rattle.solver_sets.specs.Ties.{slots_of}
use Rattle.world_core.specs.WorldTies.{all_contact_ties, all_joint_ties}
use Rattle.world_core.proofs.PushLaws.{both_told, first_room, second_room}
use Rattle.world_core.proofs.WorldTieLaws.{ties_that}
use Rattle.world_core.proofs.world_ties.WorldTiesTieSourceConstraint.push_firsts.Goals as goal

pub push_first_joints-requires-clause-room : goal.push_first_joints-requires-clause-room
push_first_joints-requires-clause-room c = (first_room c.args.list.now.items _ (first_ties c.args.slot (all_joint_ties c.self.inside.bodies.now (slots_of c.self.inside.joint_entries.now c.self.inside.joints.now.joints))) (first_ties c.args.slot (all_contact_ties c.self.inside.bodies.now c.self.inside.contacts.now.contacts)) (vec_capacity c.args.list.now) (ties_that (is_first c.args.slot) c.self.inside.bodies.now (slots_of c.self.inside.joint_entries.now c.self.inside.joints.now.joints) c.self.inside.contacts.now.contacts) (rw (← c.self.view_is) at c.requires.room))

pub push_first_contacts-requires-clause-room : goal.push_first_contacts-requires-clause-room
push_first_contacts-requires-clause-room c = second_room c.args.list.now.items c.push_first_joints.new.list.items _ (first_ties c.args.slot (all_joint_ties c.self.inside.bodies.now (slots_of c.self.inside.joint_entries.now c.self.inside.joints.now.joints))) (first_ties c.args.slot (all_contact_ties c.self.inside.bodies.now c.self.inside.contacts.now.contacts)) (vec_capacity c.args.list.now) (vec_capacity c.push_first_joints.new.list) (ties_that (is_first c.args.slot) c.self.inside.bodies.now (slots_of c.self.inside.joint_entries.now c.self.inside.joints.now.joints) c.self.inside.contacts.now.contacts) c.push_first_joints.ensures.pushed (rw (← c.self.view_is) at c.requires.room) c.push_first_joints.ensures.capacity

pub returns-clause-pushed : goal.returns-clause-pushed
returns-clause-pushed c = rw (← c.self.view_is) (both_told c.args.list.now.items c.push_first_joints.new.list.items c.push_first_contacts.new.list.items _ (first_ties c.args.slot (all_joint_ties c.self.inside.bodies.now (slots_of c.self.inside.joint_entries.now c.self.inside.joints.now.joints))) (first_ties c.args.slot (all_contact_ties c.self.inside.bodies.now c.self.inside.contacts.now.contacts)) (ties_that (is_first c.args.slot) c.self.inside.bodies.now (slots_of c.self.inside.joint_entries.now c.self.inside.joints.now.joints) c.self.inside.contacts.now.contacts) c.push_first_joints.ensures.pushed c.push_first_contacts.ensures.pushed)
