use Rattle.std.proofs.Common.{◌≡◌, ◌++◌}
use Rattle.contacts.specs.Sweep.{starts_up}
use Rattle.contacts.proofs.strips.push_further.Given as goal

abbrev pub invariant-loop-step : goal.invariant-loop-step
invariant-loop-step l = l.starts.items ≡ l.fn.starts.items ++ starts_up l.bits l.place l.fat l.step
