use Rattle.std.proofs.Common.{◌≡◌, ◌++◌, drop}
use Rattle.contacts.specs.Sweep.{met}
use Rattle.contacts.proofs.sweep.push_met.Given as goal

abbrev pub invariant-loop-other : goal.invariant-loop-other
invariant-loop-other l = l.near.items ++ met l.bits l.proxies l.start (drop l.other-index l.others) ≡ l.initial.near.items ++ met l.bits l.proxies l.start l.others
