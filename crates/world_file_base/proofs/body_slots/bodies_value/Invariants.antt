use Rattle.std.proofs.Common.{◌≡◌, ◌++◌, drop, map}
use Rattle.serde_json.specs.View.{view}
use Rattle.world_file_base.specs.SavedSlots.{body_slots}
use Rattle.world_file_base.proofs.body_slots.bodies_value.Given as goal

abbrev pub invariant-loop-slot : goal.invariant-loop-slot
invariant-loop-slot l = map view l.items.items ++ body_slots l.slot (drop l.slot l.slot_entries) (drop l.slot l.bodies) l.labels ≡ body_slots 0 l.slot_entries l.bodies l.labels
