-- Trusted: The movers' momentum.
use Rattle.std.specs.Prelude.{cond, List, [], ◌∷◌, Option}
use Rattle.std.specs.Option.{option_map_or}
use Rattle.fixed_geom.specs.Vectors.{plus, zero_vector}
use Rattle.fixed_geom.specs.declared.vectors.Vec2.{Vec2}
use Rattle.plain_world.specs.Bodies.{is_mover}
use Rattle.plain_world.specs.declared.body.Body.{Body}

-- the part that the body in a slot has in it
abbrev pub momentum_in : Option Body → Vec2
momentum_in body = option_map_or (λ (b : Body). cond (is_mover b) b.motion.p zero_vector) body zero_vector

abbrev pub momentum : List (Option Body) → Vec2
momentum [] = zero_vector
momentum (o ∷ bodies) = plus (momentum_in o) (momentum bodies)
