use Rattle.std.proofs.Common.{◌≤◌, vec_capacity}
use Rattle.islands.specs.Packed.{ahead}
use Rattle.islands.proofs.PartLemmas.{IsWalked}
use Rattle.islands.proofs.JoinPartLemmas.{moved_in}
use Rattle.islands.proofs.merge.move_members.Given as goal

abbrev pub invariant-loop-at : goal.invariant-loop-at
invariant-loop-at l = record {
  walked : IsWalked l.fn.notes.items l.part l.at (moved_in l.to l.whole.count l.whole.first) l.notes.items;
  capacity : vec_capacity l.fn.notes ≤ vec_capacity l.notes;
}

abbrev pub decreases-loop-at : goal.decreases-loop-at
decreases-loop-at l = ahead l.fn.notes.items l.at
