use Rattle.std.proofs.Common.{◌≡◌, ◌++◌, drop, nat_eq}
use Rattle.std.specs.HashMap.{get}
use Rattle.world_file.specs.Taken.{joint_colours_by}
use Rattle.world_file.proofs.colours.list_joint_colours.Given as goal

abbrev pub invariant-loop-slot : goal.invariant-loop-slot
invariant-loop-slot l = l.colours.items ++ joint_colours_by (get nat_eq l.by_number) l.slot (drop l.slot l.slot_entries) ≡ joint_colours_by (get nat_eq l.by_number) 0 l.slot_entries
