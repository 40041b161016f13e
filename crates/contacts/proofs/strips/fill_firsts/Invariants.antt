use Rattle.std.proofs.Common.{◌≡◌, ◌++◌, drop}
use Rattle.contacts.specs.Sweep.{firsts_from}
use Rattle.contacts.proofs.strips.fill_firsts.Given as goal

abbrev pub invariant-loop-place : goal.invariant-loop-place
invariant-loop-place l = l.starts.items ++ firsts_from l.bits l.place (drop l.place l.boxes) ≡ firsts_from l.bits 0 l.boxes
