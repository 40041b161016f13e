use Rattle.contacts.specs.Ends.{ends_on}
use Rattle.contacts.proofs.PlaceLaws.{IsSideWalk}
use Rattle.packed_sets.specs.Packs.{list_at}
use Rattle.packed_sets.proofs.WalkLaws.{count_left}
use Rattle.contacts.proofs.stirring_places.push_side.Given as goal

abbrev pub invariant-loop-next : goal.invariant-loop-next
invariant-loop-next l = IsSideWalk (list_at (ends_on l.side l.numbers.ends).sets l.slot) l.next l.entries l.numbers.contacts.items l.fn.places.items l.places.items

abbrev pub decreases-loop-next : goal.decreases-loop-next
decreases-loop-next l = count_left (list_at (ends_on l.side l.numbers.ends).sets l.slot) l.next
