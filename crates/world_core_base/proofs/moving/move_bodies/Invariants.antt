use Rattle.colour_solver.specs.States.{is_carried, moves}
use Rattle.world_core_base.proofs.AwakeLaws.{HasMoved}
use Rattle.world_core_base.proofs.CoverLaws.{HasMarked}
use Rattle.world_core_base.proofs.MovingLaws.{begun_where, moved_where}
use Rattle.world_core_base.proofs.moving.move_bodies.Given as goal

abbrev pub invariant-loop-place : goal.invariant-loop-place
invariant-loop-place l = HasMarked (HasMoved moves l.fn.bodies.items l.fn.states.items l.awake l.place l.bodies.items l.states.items) l.fn.bodies.items l.fn.marks l.fn.boxes l.bodies.items l.marks l.boxes

abbrev pub invariant-loop-index : goal.invariant-loop-index
invariant-loop-index l = HasMarked (HasMoved is_carried (moved_where moves l.fn.bodies.items l.fn.states.items) (begun_where moves l.fn.states.items) l.carried l.index l.bodies.items l.states.items) l.fn.bodies.items l.fn.marks l.fn.boxes l.bodies.items l.marks l.boxes
