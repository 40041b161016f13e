use Rattle.std.proofs.Common.{map, ap, ◌∙◌, arith}
use Rattle.serde_json.specs.View.{view}
use Rattle.world_file_base.specs.Written.{list_data}
use Rattle.world_file_base.proofs.Listed.{shapes_written}
use Rattle.world_file_base.proofs.writing_bodies.shapes_value.Goals as goal

pub returns-clause-value : goal.returns-clause-value
returns-clause-value c =
    c.array_value.ensures
    ∙ ap list_data (shapes_written (map view c.loop-place.items.items) c.args.defs.now c.args.fats.now c.lesser-place-end.result c.loop-place.place c.lesser-place-end.ensures.one (omega arith) c.loop-place.invariant)
