use Rattle.std.proofs.Common.{◌≡◌}
use Rattle.rtrb.specs.Ring.{sent}
use Rattle.part_solver.proofs.mail.send.Given as goal

abbrev pub invariant-loop : goal.invariant-loop
invariant-loop g l = (sent l.sender ≡ sent l.initial.sender) × (l.item ≡ l.initial.item)
