use Rattle.world_core_base.proofs.impulses.put_impulses.Goals as goal

pub returns-clause-joints : goal.returns-clause-joints
returns-clause-joints c = rw c.joints.ensures at c.put_joint_impulses.ensures

pub returns-clause-contacts : goal.returns-clause-contacts
returns-clause-contacts c = rw c.contacts.ensures at c.put_contact_impulses.ensures.contacts
