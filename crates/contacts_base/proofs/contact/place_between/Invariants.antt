use Rattle.std.proofs.Common.{◌-◌, ◌≤◌}
use Rattle.contacts_base.specs.ContactLists.{IsAllBelow, IsNoneBelow}
use Rattle.contacts_base.proofs.contact.place_between.Given as goal

abbrev pub invariant-loop-low : goal.invariant-loop-low
invariant-loop-low l = record {
  below : IsAllBelow l.entries l.wanted l.low;
  above : IsNoneBelow l.entries l.wanted l.high;
  order : l.low ≤ l.high;
}

abbrev pub decreases-loop-low : goal.decreases-loop-low
decreases-loop-low l = l.high - l.low
