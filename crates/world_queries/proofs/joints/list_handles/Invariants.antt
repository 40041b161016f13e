use Rattle.std.proofs.Common.{◌≡◌, ◌++◌, drop, map}
use Rattle.solver_sets.specs.Joining.{handle_at}
use Rattle.world_queries.proofs.joints.list_handles.Given as goal

abbrev pub invariant-loop-slot : goal.invariant-loop-slot
invariant-loop-slot l = l.handles.items ++ map (handle_at l.slot_entries) (drop l.slot-index l.slots) ≡ map (handle_at l.slot_entries) l.slots
