use Rattle.std.proofs.Common.{◌≡◌, ◌++◌, drop}
use Rattle.contacts.specs.Sweep.{furthers_from}
use Rattle.contacts.proofs.strips.push_furthers.Given as goal

abbrev pub invariant-loop-place : goal.invariant-loop-place
invariant-loop-place l = l.starts.items ++ furthers_from l.bits l.place (drop l.place l.boxes) ≡ l.initial.starts.items ++ furthers_from l.bits 0 l.boxes
