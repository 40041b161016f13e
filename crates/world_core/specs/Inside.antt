-- The world that the fields of a `WorldCore` show, and what is kept of them.
use Rattle.std.specs.Prelude.{◌≡◌, Bool, List, Option}
use Rattle.plain_world.specs.declared.constraint.Constraint.{Constraint}
use Rattle.contacts.specs.declared.number_book.NumberedContact.{NumberedContact}
use Rattle.contacts.specs.Known.{IsKnown}
use Rattle.contacts.specs.Fates.{moved_by}
use Rattle.contacts_base.specs.declared.contact.ContactEntry.{ContactEntry}
use Rattle.graph_colours.specs.Colours.{ids_of}
use Rattle.plain_world.specs.declared.body.Body.{Body}
use Rattle.plain_world.specs.declared.joint.BodyJoint.{BodyJoint}
use Rattle.plain_world.specs.Joints.{forbidden_pairs}
use Rattle.sleep_wake.specs.Acting.{Acting}
use Rattle.world_core.specs.declared.world.WorldCore.TheInside.{Inside}
use Rattle.world_core_base.specs.Sleeping.{Sleeping}
use Rattle.world_core_base.specs.Asleep.{AreContactSets, AreJointSets}
use Rattle.world_rules.specs.Collide.{proxies_of}
use Rattle.world_rules.specs.Sets.{acting_of}
use Rattle.world_rules.specs.Sound.{IsSound}
use Rattle.world_rules.specs.World.{World}

abbrev pub world_of : Inside → World
world_of a = record {
  plain = record { slot_entries = a.handles.slot_entries; bodies = a.activity.bodies.bodies; joint_entries = a.joint_handles.slot_entries; joints = a.constraints.joints.joints; contacts = a.constraints.contacts.contacts; islands = a.activity.sets.acting.labels; colours = ids_of a.activity.sets.acting.lists; gravity = a.gravity; steps = a.steps; calls = a.calls };
  entries = a.ledger.entries;
  settled = a.ledger.settled;
  events = a.events;
}

-- the world is sound, and the constraints, islands and colours that are kept beside its lists are those that the lists
-- have
pub record IsWhole (w : World) (acting : Acting Constraint) : Type 0 where
  pub sound : IsSound w
  pub same : acting ≡ acting_of w.plain

-- of the shapes of two bodies that aren't marked it is known from the contacts whether they are near and may touch
abbrev pub AreKnown : List Bool → List (Option Body) → List (Option BodyJoint) → List ContactEntry → Type 0
AreKnown marks bodies joints contacts = IsKnown (moved_by marks) (forbidden_pairs joints) (proxies_of bodies) contacts

-- what the fields of a `WorldCore` hold: the world is whole, and its contacts tell all that isn't marked; the sets have
-- the joints that sleep, by slot, and the contacts that do, by number
pub record IsWorldCore (w : World) (acting : Acting Constraint) (marks : List Bool) (joint_sets : Sleeping) (numbered : List (Option NumberedContact)) (contact_sets : Sleeping) : Type 0 where
  pub whole : IsWhole w acting
  pub known : AreKnown marks w.plain.bodies w.plain.joints w.plain.contacts
  pub standing : AreJointSets w.plain.bodies w.plain.joints joint_sets
  pub contacts_standing : AreContactSets w.plain.bodies numbered contact_sets
