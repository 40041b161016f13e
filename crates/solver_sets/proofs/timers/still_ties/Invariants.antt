use Rattle.std.proofs.Common.{◌≡◌, drop}
use Rattle.solver_sets.specs.BesideByTies.{stilled_ties}
use Rattle.solver_sets.proofs.timers.still_ties.Given as goal

abbrev pub invariant-loop-member : goal.invariant-loop-member
invariant-loop-member l = stilled_ties l.bodies l.joints (drop l.member-index l.members) l.timers.items ≡ stilled_ties l.bodies l.joints l.members l.fn.timers.items
