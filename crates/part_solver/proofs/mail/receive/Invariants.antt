use Rattle.std.proofs.Common.{◌≡◌}
use Rattle.rtrb.specs.Ring.{received}
use Rattle.part_solver.proofs.mail.receive.Given as goal

abbrev pub invariant-loop : goal.invariant-loop
invariant-loop g l = received l.receiver ≡ received l.initial.receiver
