use Rattle.std.proofs.Common.{map, ap, ◌∙◌, arith}
use Rattle.serde_json.specs.View.{view}
use Rattle.world_file_base.specs.Written.{list_data}
use Rattle.world_file_base.proofs.Listed.{bodies_written}
use Rattle.world_file_base.proofs.body_slots.bodies_value.Goals as goal

pub returns-clause-value : goal.returns-clause-value
returns-clause-value c =
    c.array_value.ensures
    ∙ ap list_data (bodies_written (map view c.loop-slot.items.items) c.args.slot_entries.now c.args.bodies.now c.args.labels.now c.lesser-slot-end.result c.loop-slot.slot c.lesser-slot-end.ensures.one (omega arith) c.loop-slot.invariant)
