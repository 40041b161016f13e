use Rattle.std.proofs.Common.{map, ap, ◌∙◌, arith}
use Rattle.serde_json.specs.View.{view}
use Rattle.world_file_base.specs.Written.{list_data}
use Rattle.world_file_base.proofs.Listed.{joints_written}
use Rattle.world_file_base.proofs.joint_slots.joints_value.Goals as goal

pub returns-clause-value : goal.returns-clause-value
returns-clause-value c =
    c.array_value.ensures
    ∙ ap list_data (joints_written (map view c.loop-slot.items.items) c.args.slot_entries.now c.args.joint_entries.now c.args.joints.now c.args.colours.now c.lesser.result c.lesser-slot-end.result c.loop-slot.slot
    c.lesser.ensures.one c.lesser-slot-end.ensures.one (omega arith) c.loop-slot.invariant)
