-- By body the numbers of its contacts, as they are kept.
use Rattle.std.specs.Prelude.{◌≡◌, ◌<◌, ◌≤◌, ℕ, length, Contains}
use Rattle.contacts_base.specs.declared.key.ContactKey.{ContactKey}
use Rattle.contacts.specs.declared.ends.ContactEnds.{ContactEnds}
use Rattle.contacts.specs.declared.ends.Side.{Side}
use Rattle.contacts.specs.declared.ends.Side.TheVariants.{First, Second}
use Rattle.packed_sets.specs.Linked.{Linked}
use Rattle.packed_sets.specs.Packs.{list_at}
use Rattle.packed_sets.specs.Once.{AreOnce}
use Rattle.packed_sets.specs.declared.items.TheConstants.{MAX_ITEMS}

-- the slot of the body on one side
abbrev pub slot_on : Side → ContactKey → ℕ
slot_on First key = key.first.slot
slot_on Second key = key.second.slot

-- the threads of the bodies on one side
abbrev pub ends_on : Side → ContactEnds → Linked
ends_on First e = e.firsts
ends_on Second e = e.seconds

-- more room, and no thread changes
pub record HasThreads (old new : Linked) : Type 0 where
  pub sets : (slot : ℕ) → list_at new.sets slot ≡ list_at old.sets slot
  pub more_sets : length old.sets ≤ length new.sets
  pub more_ids : old.ids ≤ new.ids

pub record KeepEnds (old new : ContactEnds) : Type 0 where
  pub firsts : HasThreads old.firsts new.firsts
  pub seconds : HasThreads old.seconds new.seconds

-- no number is twice in the threads, and each is below a number
pub record IsOnce (t : Linked) : Type 0 where
  pub once : (slot : ℕ) → AreOnce (list_at t.sets slot)
  pub apart : (a b number : ℕ) → Contains (list_at t.sets a) number → Contains (list_at t.sets b) number → a ≡ b
  pub below : (slot number : ℕ) → Contains (list_at t.sets slot) number → number < t.ids
  pub few : t.ids ≤ MAX_ITEMS
