use Rattle.std.proofs.Common.{◌-◌, ◌≤◌, length}
use Rattle.contacts_base.specs.ContactLists.{IsAllBelow}
use Rattle.contacts_base.proofs.contact.place_from.Given as goal

abbrev pub invariant-loop-width : goal.invariant-loop-width
invariant-loop-width l = record {
  below : IsAllBelow l.entries l.wanted l.low;
  some : 1 ≤ l.width;
}

abbrev pub decreases-loop-width : goal.decreases-loop-width
decreases-loop-width l = length l.entries - l.low
