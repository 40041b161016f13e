use Rattle.std.specs.Prelude.{option_map}
use Rattle.plain_world.specs.Changes.{is_awake_in}
use Rattle.plain_world.specs.Sleep.{timed}
use Rattle.world_core_base.proofs.TimeLaws.{HasMapped}
use Rattle.world_core_base.proofs.timing.time_bodies.Given as goal

abbrev pub invariant-loop-place : goal.invariant-loop-place
invariant-loop-place l = HasMapped is_awake_in (option_map (timed l.ticks)) l.fn.bodies.items l.awake l.place l.bodies.items
