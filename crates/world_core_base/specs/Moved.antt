-- A body as the ticks have left it: its motion given back, and then its fat boxes.
use Rattle.std.specs.Prelude.{◌≡◌, true, Option, option_map}
use Rattle.momenta.specs.declared.state.BodyState.{BodyState}
use Rattle.momenta.specs.ImpulseBounds.{IsState}
use Rattle.colour_solver.specs.States.{HasCourse}
use Rattle.plain_world.specs.declared.body.Body.{Body}
use Rattle.plain_world.specs.Bodies.{IsBody, is_carried}
use Rattle.world_core_base.specs.Gather.{with_motion}
use Rattle.world_core_base.specs.Renewal.{with_renewed}

abbrev pub moved_entry : BodyState → Option Body → Option Body
moved_entry s o = option_map with_renewed (option_map (with_motion s) o)

-- the body can be given the motion of the state
pub record FitsState (s : BodyState) (b : Body) : Type 0 where
  pub body : IsBody b
  pub state : IsState s
  pub course : is_carried b ≡ true → HasCourse s
