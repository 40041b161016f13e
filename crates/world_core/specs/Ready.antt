-- What holds between the parts of a world whenever islands may wake or fall asleep.
use Rattle.std.specs.Prelude.{◌≡◌, ◌≤◌, List, length}
use Rattle.body_handles.specs.declared.slot_table.SlotEntry.{SlotEntry}
use Rattle.body_handles.specs.declared.slot_table.TheConstants.{MAX_SLOTS}
use Rattle.plain_world.specs.Constraints.{constraint_number}
use Rattle.plain_world.specs.Bodies.{AreBodies}
use Rattle.sleep_wake.specs.Acting.{IsConsistent}
use Rattle.solver_sets.specs.Ties.{slots_of, ties_of}
use Rattle.world_core.specs.declared.activity.Activity.{Activity}
use Rattle.world_core.specs.WorldTies.{CanTell}
use Rattle.world_core_base.specs.Asleep.{AreContactSets, AreJointSets}
use Rattle.world_core_base.specs.declared.step_solver.Constraints.{Constraints}
use Rattle.world_rules.specs.Sound.{AreTold}

-- the bodies are told who sleeps; the constraints that the islands know are those that joints and contacts tell; and the
-- sets have the joints and the contacts that sleep
pub record IsReady (a : Activity) (joint_entries : List SlotEntry) (k : Constraints) : Type 0 where
  pub few_bodies : length a.bodies.bodies ≤ MAX_SLOTS
  pub bodies : AreBodies a.bodies.bodies
  pub told : AreTold a.bodies.bodies a.sets.acting.labels
  pub consistent : IsConsistent constraint_number a.sets.acting
  pub can_tell : CanTell (slots_of joint_entries k.joints.joints) k.contacts.contacts
  pub ties : ties_of a.bodies.bodies (slots_of joint_entries k.joints.joints) k.contacts.contacts ≡ a.sets.acting.ties
  pub standing : AreJointSets a.bodies.bodies k.joints.joints a.joint_sets
  pub contacts_standing : AreContactSets a.bodies.bodies k.contacts.numbered a.contact_sets
