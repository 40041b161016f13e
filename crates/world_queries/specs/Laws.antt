-- Laws of what is asked of worlds and of frames.
use Rattle.std.specs.Prelude.{◌≡◌}
use Rattle.world_core.specs.Frames.{frame_of}
use Rattle.world_rules.specs.World.{World}
use Rattle.world_queries.specs.Framed.{framed_shapes}
use Rattle.world_queries.specs.Posed.{posed_shapes}

-- the frame of a world shows just the shapes that can be seen in the world, in the same order: what is asked of both
-- has one answer
abbrev pub FramesShowTheirWorld : Type 0
FramesShowTheirWorld = (w : World) → framed_shapes (frame_of w).bodies ≡ posed_shapes w.plain.bodies
