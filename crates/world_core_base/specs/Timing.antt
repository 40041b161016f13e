-- The timers of bodies.
use Rattle.std.specs.Prelude.{◌≤◌, ◌^◌}
use Rattle.plain_world.specs.declared.body.Body.{Body}
use Rattle.plain_world.specs.Bodies.{IsBody}

-- a body of which a timer may grow
pub record CanTime (b : Body) : Type 0 where
  pub body : IsBody b
  pub timer : b.timer ≤ 2 ^ 44
