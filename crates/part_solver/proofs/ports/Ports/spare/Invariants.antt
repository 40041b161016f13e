use Rattle.std.proofs.Common.{◌≡◌}
use Rattle.part_solver.proofs.ports.Ports.spare.Given as goal

abbrev pub invariant-loop : goal.invariant-loop
invariant-loop g l = (l.self.outs ≡ l.fn.self.outs) × (l.self.ins ≡ l.fn.self.ins)
