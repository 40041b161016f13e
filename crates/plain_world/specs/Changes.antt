-- Trusted: Changes of one body in its slot: those that leave it an awake mover, or carried along, or neither, as it
-- was, and those that disable and enable it.
use Rattle.std.specs.Prelude.{Bool, true, false, cond, ℕ, List, Option, None, option_map, slice_set}
use Rattle.std.specs.Option.{option_map_or}
use Rattle.momenta.specs.declared.motion.Momenta.{Momenta}
use Rattle.shapes.specs.declared.pose.Pose.{Pose}
use Rattle.plain_world.specs.declared.body.Body.{Body}
use Rattle.plain_world.specs.declared.kind.Course.{Course}
use Rattle.plain_world.specs.declared.kind.Kind.TheVariants.{Kinematic}
use Rattle.plain_world.specs.Bodies.{at_rest, is_awake}
use Rattle.plain_world.specs.Kinds.{halted, is_dynamic}
use Rattle.plain_world.specs.Fats.{renewed_boxes}
use Rattle.plain_world.specs.Slots.{body_at}

abbrev pub changed_at : (Body → Body) → List (Option Body) → ℕ → List (Option Body)
changed_at f bodies slot = slice_set bodies slot (option_map f (body_at bodies slot))

abbrev pub is_awake_in : Option Body → Bool
is_awake_in body = option_map_or is_awake body false

-- ---- the changes

abbrev pub put_momenta : Momenta → Body → Body
put_momenta m b = record b { motion = record b.motion { p = m.p; l = m.l } }

-- another pose: fat boxes are made anew where the shapes' tight boxes leave them
abbrev pub put_pose : Pose → Body → Body
put_pose o b = record b { motion = record b.motion { x = o.x; rot = o.rot }; fats = renewed_boxes o b.shapes b.fats }

abbrev pub put_course : Course → Body → Body
put_course course b = record b { kind = Kinematic course }

-- a body that is disabled comes to a halt, and sleeps no more; its timer stays
abbrev pub disabled_body : Body → Body
disabled_body b = record b { enabled = false; kind = halted b.kind; motion = at_rest b.motion.x b.motion.rot; asleep = None }

-- a body that is enabled: a mover is awake, and its timer 0
abbrev pub enabled_body : Body → Body
enabled_body b = record b { enabled = true; timer = cond (is_dynamic b.kind) 0 b.timer; asleep = None }
