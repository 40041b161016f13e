use Rattle.std.proofs.Common.{◌≡◌, ◌≤◌, length}
use Rattle.dillmonth.specs.Getters.{ids_up}
use Rattle.dillmonth.specs.Lists.{written}
use Rattle.dillmonth.proofs.constraint_getters.write_ids.Given as goal

abbrev pub invariant-loop-slot : goal.invariant-loop-slot
invariant-loop-slot l = record {
  count : l.count ≡ length (ids_up l.world.plain.joint_entries l.slot);
  few : l.count ≤ l.slot;
  written : l.out ≡ written (ids_up l.world.plain.joint_entries l.slot) l.fn.out;
}
