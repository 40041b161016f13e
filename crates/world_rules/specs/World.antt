-- Trusted: What contracts see of a world.
use Rattle.std.specs.Prelude.{List, Option}
use Rattle.body_handles.specs.declared.handle.Handle.{Handle}
use Rattle.impulse_ledger.specs.declared.entry.Entry.{Entry}
use Rattle.impulse_ledger.specs.declared.totals.Totals.{Totals}
use Rattle.impulse_ledger.specs.Sums.{Book}
use Rattle.plain_world.specs.Plain.{Plain}
use Rattle.plain_world.specs.Slots as slots
use Rattle.plain_world.specs.declared.body.Body.{Body}
use Rattle.event_feed.specs.Events.{EventLists}
use Rattle.solver_sets.specs.Ties.{JointSlots}

-- what contracts see of a world: its plain lists, its ledger, and the events of its last step
pub record World : Type 0 where
  pub plain : Plain
  pub entries : List Entry
  pub settled : Totals
  pub events : EventLists

abbrev pub joints_in_slots : Plain → JointSlots
joints_in_slots w = record { slot_entries = w.joint_entries; joints = w.joints }

abbrev pub body_named : Plain → Handle → Option Body
body_named w h = slots.body_of w.slot_entries w.bodies h

-- its ledger's book, of which no room is known
abbrev pub book_of : World → Book
book_of w = record { entries = w.entries; settled = w.settled; room = 0 }
