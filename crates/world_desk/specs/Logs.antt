-- Trusted: The events that a desk keeps of step after step.
use Rattle.std.specs.Prelude.{◌≡◌, ℕ, ◌⊎◌, Bool, true, false, cond, List, [], ◌++◌, map, Option, Some, None, Result, Ok, Err}
use Rattle.fixed_geom.specs.declared.refusal.Refusal.{Refusal}
use Rattle.fixed_geom.specs.declared.refusal.Refusal.TheVariants.{NoMemory}
use Rattle.body_handles.specs.declared.handle.Handle.{Handle}
use Rattle.contacts_base.specs.Contacts.{lookup}
use Rattle.contacts_base.specs.Evaluate.{apart}
use Rattle.contacts_base.specs.declared.contact.Contact.{Contact}
use Rattle.contacts_base.specs.declared.contact.ContactEntry.{ContactEntry}
use Rattle.contacts_base.specs.declared.key.ContactKey.{ContactKey}
use Rattle.event_feed.specs.Events.{EventLists}
use Rattle.plain_world.specs.Plain.{Plain}
use Rattle.solver_sets.specs.Joining.{handle_at}
use Rattle.world_desk.specs.Tags.{tag_of}
use Rattle.world_desk.specs.declared.desk.Desk.{Desk}
use Rattle.world_desk.specs.declared.step_event.EventBody.{EventBody}
use Rattle.world_desk.specs.declared.step_event.StepEvent.{StepEvent}
use Rattle.world_desk.specs.declared.step_event.Tagged.{Tagged}
use Rattle.world_rules.specs.Apply.{Answers, apply}
use Rattle.world_rules.specs.World.{World}
use Rattle.world_rules.specs.declared.command.Command.{Command}
use Rattle.world_rules.specs.declared.command.Reply.{Reply}
use Rattle.world_rules.specs.declared.command.Reply.TheVariants as replies

-- ---- the events of a world's last step

-- a body with the tag that it has
abbrev pub with_tag : List Tagged → Handle → EventBody
with_tag tags h = record { body = h; tag = tag_of tags h }

-- the points of a contact: none where it isn't kept any more
abbrev pub points_of : Option ContactEntry → Contact
points_of None = apart
points_of (Some e) = e.contact

-- two shapes began to touch, or ceased to: with the bodies that are in their slots, and the points where they touch
abbrev pub touched : Bool → List Tagged → Plain → ContactKey → StepEvent
touched begun tags w key = record {
  step = w.steps;
  kind = cond begun 0 1;
  first = with_tag tags (handle_at w.slot_entries key.first.slot);
  second = with_tag tags (handle_at w.slot_entries key.second.slot);
  key = key;
  contact = points_of (lookup w.contacts key);
}

-- a body fell asleep, or woke
abbrev pub rested : Bool → List Tagged → Plain → Handle → StepEvent
rested slept tags w h = record {
  step = w.steps;
  kind = cond slept 2 3;
  first = with_tag tags h;
  second = record { body = record { slot = 0; generation = 0 }; tag = 0 };
  key = record { first = record { slot = 0; index = 0 }; second = record { slot = 0; index = 0 } };
  contact = apart;
}

-- the shapes that began to touch and those that ceased to, the bodies that fell asleep and those that woke, each list
-- in its own order
abbrev pub events_of : List Tagged → World → List StepEvent
events_of tags w = ((map (touched true tags w.plain) w.events.begin ++ map (touched false tags w.plain) w.events.end) ++ map (rested true tags w.plain) w.events.slept) ++ map (rested false tags w.plain) w.events.woke

-- ---- what is kept of them

-- the events that a desk tells: those that are logged, and those of the last step where they are still to be
abbrev pub told : Desk → List StepEvent
told desk = desk.log.items ++ cond desk.pending (events_of desk.tags.items desk.world) []

-- the events that the last step may still have to tell are logged, or aren't, and all that can be told is as it was
pub record IsLogged (old new : Desk) : Type 0 where
  pub kept : new ≡ record old { log = new.log; pending = new.pending }
  pub told : told new ≡ told old

-- whether a command was a step that was accepted
abbrev pub is_stepped : Result Reply Refusal → Bool
is_stepped (Ok (replies.Stepped n)) = true
is_stepped (Ok (replies.Body h)) = false
is_stepped (Ok (replies.Joint h)) = false
is_stepped (Ok replies.Done) = false
is_stepped (Err e) = false

-- what a command adds: the events of a step that was accepted, where events are kept
abbrev pub added : Desk → Result Reply Refusal → List StepEvent
added desk outcome = cond (is_stepped outcome) (cond desk.keeps (events_of desk.tags.items desk.world) []) []

-- a command by the rules of the world, and the events that it adds; all else that lies on the desk stays
pub record IsApplied (c : Command) (old : Desk) (outcome : Result Reply Refusal) (new : Desk) : Type 0 where
  pub answers : Answers (apply old.world.plain c) old.world outcome new.world
  pub kept : new ≡ record old { world = new.world; log = new.log; pending = new.pending }
  pub told : told new ≡ told old ++ added new outcome

-- the same; or memory was wanting for the events of the last step, and nothing has changed
abbrev pub Applies : Command → Desk → Result Reply Refusal → Desk → Type 0
Applies c old outcome new = IsApplied c old outcome new ⊎ ((old.pending ≡ true) × (outcome ≡ Err NoMemory) × IsLogged old new)

-- a body was given a tag, and all else that can be told is as it was
pub record IsTagged (given : List Tagged) (old new : Desk) : Type 0 where
  pub kept : new ≡ record old { log = new.log; pending = new.pending; tags = new.tags }
  pub told : told new ≡ told old
  pub tags : new.tags.items ≡ given
