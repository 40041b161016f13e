use Rattle.std.proofs.Common.{◌≡◌, drop, length}
use Rattle.contacts.specs.Numbered.{contact_at}
use Rattle.world_core_base.specs.Asleep.{IsContactOfNone, contact_sleep}
use Rattle.world_core_base.specs.Following.{HaveFollowed}
use Rattle.world_core_base.proofs.contacts_asleep.follow_contacts.Given as goal

abbrev pub invariant-loop-place : goal.invariant-loop-place
invariant-loop-place l = HaveFollowed (contact_sleep l.bodies l.contacts.numbered) (λ number. IsContactOfNone (drop l.place l.slots) (contact_at l.contacts.numbered number)) l.fn.sets.names l.sets.names × (length l.sets.sets ≡ length l.fn.sets.sets)
