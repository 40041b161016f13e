-- Trusted: The fat boxes of all bodies that a step may move, made anew where their shapes have left them.
use Rattle.std.specs.Prelude.{cond, List, Option, option_map, map}
use Rattle.plain_world.specs.declared.body.Body.{Body}
use Rattle.plain_world.specs.Bodies.{can_move, pose_of}
use Rattle.plain_world.specs.Fats.{renewed_boxes}

abbrev pub with_renewed : Body → Body
with_renewed b = cond (can_move b) (record b { fats = renewed_boxes (pose_of b) b.shapes b.fats }) b

abbrev pub renewed_bodies : List (Option Body) → List (Option Body)
renewed_bodies bodies = map (option_map with_renewed) bodies
