use Rattle.contacts.specs.Kept.{numbers_on}
use Rattle.packed_sets.specs.Packs.{list_at}
use Rattle.packed_sets.proofs.WalkLaws.{count_left}
use Rattle.world_core.specs.WorldTies.{contact_tie_in}
use Rattle.world_core.proofs.PushLaws.{IsListing}
use Rattle.world_core.proofs.own_contacts.push_ties_on.Given as goal

abbrev pub invariant-loop-next : goal.invariant-loop-next
invariant-loop-next l = IsListing (contact_tie_in l.bodies l.contacts.numbered) (list_at (numbers_on l.side l.contacts) l.slot) l.next l.fn.ties.items l.ties.items

abbrev pub decreases-loop-next : goal.decreases-loop-next
decreases-loop-next l = count_left (list_at (numbers_on l.side l.contacts) l.slot) l.next
