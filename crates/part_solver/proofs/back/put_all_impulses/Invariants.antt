use Rattle.std.proofs.Common.{◌≡◌}
use Rattle.part_solver.specs.PuttingBack.{contacts_by, joints_by}
use Rattle.part_solver.proofs.back.put_all_impulses.Given as goal

abbrev pub invariant-loop-number : goal.invariant-loop-number
invariant-loop-number l = record {
  joints : l.constraints.joints.joints ≡ joints_by l.fn.constraints.joints.joints l.parts l.number;
  contacts : l.constraints.contacts.contacts ≡ contacts_by l.fn.constraints.contacts.contacts l.parts l.number;
  numbered : l.constraints.contacts.numbered ≡ l.fn.constraints.contacts.numbered;
}
