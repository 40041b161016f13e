use Rattle.std.proofs.Common.{◌≡◌, length}
use Rattle.contacts.specs.Kept.{numbers_on}
use Rattle.packed_sets.specs.Packs.{list_at}
use Rattle.packed_sets.proofs.WalkLaws.{count_left}
use Rattle.world_core_base.specs.Asleep.{contact_sleep}
use Rattle.world_core_base.proofs.SideLaws.{IsFollowing}
use Rattle.world_core_base.proofs.contacts_asleep.follow_on.Given as goal

abbrev pub invariant-loop-next : goal.invariant-loop-next
invariant-loop-next l = IsFollowing (contact_sleep l.bodies l.contacts.numbered) (list_at (numbers_on l.side l.contacts) l.slot) l.next l.fn.sets.names l.sets.names × (length l.sets.sets ≡ length l.fn.sets.sets)

abbrev pub decreases-loop-next : goal.decreases-loop-next
decreases-loop-next l = count_left (list_at (numbers_on l.side l.contacts) l.slot) l.next
