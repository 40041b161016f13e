use Rattle.std.proofs.Common.{◌≡◌, drop}
use Rattle.solver_sets.specs.BesideByTies.{own_set}
use Rattle.solver_sets.proofs.timers.set_all_own.Given as goal

abbrev pub invariant-loop-slot : goal.invariant-loop-slot
invariant-loop-slot l = own_set l.bodies (drop l.slot-index l.slots) l.timers.items ≡ own_set l.bodies l.slots l.fn.timers.items
