-- What a whole world has for its source to tell.
use Rattle.std.proofs.Common.{◌≡◌, ◌≤◌, ◌∙◌, ℕ, List, Option, length, sym, ap, arith}
use Rattle.std.proofs.lemmas.List.Elements.{All-contains}
use Rattle.plain_world.specs.declared.constraint.Constraint.{Constraint}
use Rattle.contacts_base.specs.declared.contact.ContactEntry.{ContactEntry}
use Rattle.plain_world.specs.declared.body.Body.{Body}
use Rattle.plain_world.specs.declared.joint.BodyJoint.{BodyJoint}
use Rattle.plain_world.specs.Sleep.{timed_bodies}
use Rattle.sleep_wake.specs.Acting.{Acting}
use Rattle.solver_sets.proofs.TieLaws.{alike_ties}
use Rattle.solver_sets.specs.Ties.{JointSlots, ties_of}
use Rattle.world_core_base.specs.ContactBodies.{IsContactOf}
use Rattle.contacts.specs.declared.number_book.NumberedContact.{NumberedContact}
use Rattle.world_core_base.specs.Asleep.{AreContactSets, AreJointSets, AreNamedAsleep}
use Rattle.world_core_base.specs.Sleeping.{Sleeping, sleep_at}
use Rattle.world_rules.proofs.TickedLaws.{timed_alike}
use Rattle.world_rules.specs.Sets.{acting_of}
use Rattle.world_rules.specs.World.{World, joints_in_slots}
use Rattle.world_core.specs.Inside.{IsWhole}
use Rattle.world_core.specs.WorldTies.{CanTell}
use Rattle.world_core.proofs.KeepLaws.{named_asleep, told_acting}

pub world_can_tell : (w : World) (s : Acting Constraint) → IsWhole w s → CanTell (joints_in_slots w.plain) w.plain.contacts
world_can_tell w s is = record {
  slots = record { matched = is.sound.formed.joint_slots; slot_entries = is.sound.formed.joint_entries };
  joined = λ slot j at. (is.sound.formed.joints slot j at).apart;
  rising = is.sound.formed.contacts;
  two = λ e there. (All-contains (IsContactOf w.plain.bodies) w.plain.contacts e is.sound.formed.pairs there).apart;
}

-- its constraints are those that act, or would
pub world_ties : (w : World) (s : Acting Constraint) → IsWhole w s → ties_of w.plain.bodies (joints_in_slots w.plain) w.plain.contacts ≡ s.ties
unfolding acting_of
world_ties w s is = sym (ap (λ (a : Acting Constraint). a.ties) is.same)

-- ticks that pass for the timers change none
pub timed_ties : (ticks : ℕ) (bodies : List (Option Body)) (s : JointSlots) (contacts : List ContactEntry) → ties_of (timed_bodies ticks bodies) s contacts ≡ ties_of bodies s contacts
timed_ties ticks bodies s contacts = alike_ties bodies (timed_bodies ticks bodies) s contacts (timed_alike ticks bodies)

-- whoever sleeps does so under the name of a body's slot
pub whole_named : (w : World) (s : Acting Constraint) → IsWhole w s → AreNamedAsleep w.plain.bodies
whole_named w s is = named_asleep w.plain.bodies (acting_of w.plain) is.sound.promises.consistent (told_acting w.plain is.sound.promises.told)

-- sets with room for more stand as they did
pub contacts_more : (bodies : List (Option Body)) (numbered : List (Option NumberedContact)) (before after : Sleeping) → ((number : ℕ) → sleep_at after.names number ≡ sleep_at before.names number) → length before.names ≤ length after.names → length before.sets ≤ length after.sets → AreContactSets bodies numbered before → AreContactSets bodies numbered after
contacts_more bodies numbered before after same items sets are = record {
  asleep = λ number. same number ∙ are.asleep number;
  items = λ number on. let lt = are.items number on in omega (arith, lt, items);
  named = let room = are.named in omega (arith, room, sets);
}

pub joints_more : (bodies : List (Option Body)) (joints : List (Option BodyJoint)) (before after : Sleeping) → ((slot : ℕ) → sleep_at after.names slot ≡ sleep_at before.names slot) → length before.names ≤ length after.names → length before.sets ≤ length after.sets → AreJointSets bodies joints before → AreJointSets bodies joints after
joints_more bodies joints before after same items sets are = record {
  asleep = λ slot. same slot ∙ are.asleep slot;
  items = λ slot on. let lt = are.items slot on in omega (arith, lt, items);
  named = let room = are.named in omega (arith, room, sets);
}
