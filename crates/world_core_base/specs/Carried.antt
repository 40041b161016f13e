-- Trusted: The mass and the motion that impulses meet in a body, and the body with the motion that a step has left it.
use Rattle.std.specs.Prelude.{cond}
use Rattle.momenta.specs.declared.mass.MassData.{MassData}
use Rattle.momenta.specs.declared.motion.Motion.{Motion}
use Rattle.colour_solver.specs.Masses.{carrier, standing}
use Rattle.plain_world.specs.declared.body.Body.{Body}
use Rattle.plain_world.specs.Bodies.{is_awake, is_carried}
use Rattle.plain_world.specs.declared.kind.Kind.TheVariants.{Kinematic}
use Rattle.plain_world.specs.Kinds.{carried_by}

-- that of an awake mover; of any other body one with which the momenta of its course are its velocity and its spin
abbrev pub solver_mass : Body → MassData
solver_mass b = cond (is_awake b) b.mass (cond (is_carried b) carrier standing)

abbrev pub carried_motion : Body → Motion
carried_motion b = record b.motion { p = (carried_by b.kind).velocity; l = (carried_by b.kind).spin }

abbrev pub solver_motion : Body → Motion
solver_motion b = cond (is_awake b) b.motion (carried_motion b)

-- a kinematic body where it has been carried, with what is left of its course
abbrev pub carried_to : Motion → Body → Body
carried_to m b = record b { kind = Kinematic (record { velocity = m.p; spin = m.l }); motion = record b.motion { x = m.x; rot = m.rot } }

-- an awake mover with the motion m, and a body that is carried along with its place and course; any other as it was
abbrev pub moved_to : Motion → Body → Body
moved_to m b = cond (is_awake b) (record b { motion = m }) (cond (is_carried b) (carried_to m b) b)
