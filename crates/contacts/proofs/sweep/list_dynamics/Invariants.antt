use Rattle.std.proofs.Common.{◌≡◌, ◌++◌, drop}
use Rattle.contacts.specs.Sweep.{dynamics_of}
use Rattle.contacts.proofs.sweep.list_dynamics.Given as goal

abbrev pub invariant-loop-start : goal.invariant-loop-start
invariant-loop-start l = l.dynamics.items ++ dynamics_of l.proxies (drop l.start-index l.starts) ≡ dynamics_of l.proxies l.starts
