use Rattle.std.proofs.Common.{◌≡◌, drop}
use Rattle.solver_sets.specs.BesideByTies.{stilled_lists}
use Rattle.solver_sets.proofs.timers.still_acting.Given as goal

abbrev pub invariant-loop-colour : goal.invariant-loop-colour
invariant-loop-colour l = stilled_lists l.bodies l.joints (drop l.colour l.colours.lists) l.timers.items ≡ stilled_lists l.bodies l.joints l.colours.lists l.fn.timers.items
