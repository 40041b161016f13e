use Rattle.std.proofs.Common.{◌≤◌, length}
use Rattle.world_core_base.specs.Asleep.{contact_sleep}
use Rattle.world_core_base.proofs.FollowLaws.{IsListing}
use Rattle.world_core_base.proofs.contacts_asleep.list_contacts_asleep.Given as goal

abbrev pub invariant-loop-number : goal.invariant-loop-number
invariant-loop-number l = IsListing (contact_sleep l.bodies l.contacts.numbered) l.number l.sets.names × ((l.count ≤ length l.sets.names) × (length l.bodies ≤ length l.sets.sets))
