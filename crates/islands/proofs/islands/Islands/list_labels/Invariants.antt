use Rattle.std.proofs.Common.{◌≡◌, take}
use Rattle.islands.proofs.islands.Islands.list_labels.Given as goal

abbrev pub invariant-loop-slot : goal.invariant-loop-slot
invariant-loop-slot l = l.labels.items ≡ take l.slot l.self.labels
