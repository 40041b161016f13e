use Rattle.islands.specs.Packed.{ahead}
use Rattle.islands.proofs.ReadingLemmas.{IsAlong, IsLowestPassed}
use Rattle.islands.proofs.leaving.lowest_along.Given as goal

abbrev pub invariant-loop-at : goal.invariant-loop-at
invariant-loop-at l = record {
  along : IsAlong l.notes l.part l.at;
  lowest : IsLowestPassed l.node_entries l.notes l.part l.at l.low;
}

abbrev pub decreases-loop-at : goal.decreases-loop-at
decreases-loop-at l = ahead l.notes l.at
