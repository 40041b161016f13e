use Rattle.std.proofs.Common.{◌≤◌, ◌+◌, vec_len, vec_capacity}
use Rattle.islands.specs.Packed.{ahead, head_at}
use Rattle.islands.proofs.ReadingLemmas.{IsAlong}
use Rattle.islands.proofs.ListingLemmas.{ArePassed}
use Rattle.islands.proofs.listing.list_members.Given as goal

abbrev pub invariant-loop-at : goal.invariant-loop-at
invariant-loop-at l = record {
  along : IsAlong l.notes l.part l.at;
  list : ArePassed l.node_entries l.notes l.part l.at l.members.items;
  room : vec_len l.members + ahead l.notes l.at ≤ (head_at l.heads l.part).count;
  capacity : vec_capacity l.fn.members ≤ vec_capacity l.members;
}

abbrev pub decreases-loop-at : goal.decreases-loop-at
decreases-loop-at l = ahead l.notes l.at
