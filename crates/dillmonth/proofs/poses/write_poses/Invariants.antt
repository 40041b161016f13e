use Rattle.std.proofs.Common.{◌≡◌, ◌≤◌, length}
use Rattle.dillmonth.specs.Lists.{poses_up, written}
use Rattle.dillmonth.proofs.poses.write_poses.Given as goal

abbrev pub invariant-loop-slot : goal.invariant-loop-slot
invariant-loop-slot l = record {
  count : l.count ≡ length (poses_up l.moving l.slot_entries l.bodies l.slot);
  few : l.count ≤ l.slot;
  written : l.out ≡ written (poses_up l.moving l.slot_entries l.bodies l.slot) l.fn.out;
}
