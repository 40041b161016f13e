-- Parts of a world that are ready for islands to wake or fall asleep.
use Rattle.std.proofs.Common.{◌≡◌, List, refl}
use Rattle.body_handles.specs.declared.slot_table.SlotEntry.{SlotEntry}
use Rattle.world_core.specs.declared.activity.Activity.{Activity}
use Rattle.world_core.specs.declared.world.WorldCore.TheInside.{Inside}
use Rattle.world_core.specs.Inside.{IsWorldCore, world_of}
use Rattle.world_core.specs.Ready.{IsReady}
use Rattle.world_core.proofs.PartLaws.{kept_of}
use Rattle.world_core.proofs.StepLaws.{consistent_found}
use Rattle.world_core.proofs.WorldSourceLaws.{world_can_tell, world_ties}
use Rattle.world_core_base.specs.Asleep.{AreContactSets, AreJointSets}
use Rattle.world_core_base.specs.declared.step_solver.Constraints.{Constraints}

-- those of a whole world are
pub core_ready : (i : Inside) → IsWorldCore (world_of i) i.activity.sets.acting i.activity.bodies.marks i.activity.joint_sets i.constraints.contacts.numbered i.activity.contact_sets → IsReady i.activity i.joint_handles.slot_entries i.constraints
core_ready i core =
    let w = world_of i in
    let s = i.activity.sets.acting in
    let kept = kept_of w s core.whole in record {
      few_bodies = kept.matched.few;
      bodies = kept.bodies;
      told = kept.told;
      consistent = consistent_found w s s core.whole refl;
      can_tell = world_can_tell w s core.whole;
      ties = world_ties w s core.whole;
      standing = core.standing;
      contacts_standing = core.contacts_standing;
    }

-- and they are so still where room was made in them
pub ready_still : (a b : Activity) (joint_entries : List SlotEntry) (k l : Constraints) → IsReady a joint_entries k → b.bodies.bodies ≡ a.bodies.bodies → b.sets.acting ≡ a.sets.acting → l.joints.joints ≡ k.joints.joints → l.contacts.contacts ≡ k.contacts.contacts
    → AreJointSets b.bodies.bodies l.joints.joints b.joint_sets → AreContactSets b.bodies.bodies l.contacts.numbered b.contact_sets → IsReady b joint_entries l
ready_still a b joint_entries k l is bodies acting joints contacts standing contacts_standing = record {
  few_bodies = rw bodies is.few_bodies;
  bodies = rw bodies is.bodies;
  told = rw (bodies, acting) is.told;
  consistent = rw acting is.consistent;
  can_tell = rw (joints, contacts) is.can_tell;
  ties = rw (bodies, joints, contacts, acting) is.ties;
  standing = standing;
  contacts_standing = contacts_standing;
}
