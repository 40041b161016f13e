-- Trusted: Frames: how one is taken of a world, and what is read of it.
use Rattle.std.specs.Prelude.{◌≡◌, ℕ, ◌⊎◌, false, true, List, length, map, Option, Some, None, option_map}
use Rattle.fixed_geom.specs.declared.boxes.Box2.{Box2}
use Rattle.fixed_geom.specs.declared.vectors.Vec2.{Vec2}
use Rattle.dillmonth.specs.Forms.{facing_shown, handle_said, id_shown, vector_shown}
use Rattle.dillmonth.specs.Getters.{IsWritten, sum_shown}
use Rattle.dillmonth.specs.Lists.{written}
use Rattle.dillmonth.specs.Questions.{hit_shown}
use Rattle.dillmonth.specs.declared.forms.CHandle.{CHandle}
use Rattle.dillmonth.specs.declared.forms.CPose.{CPose}
use Rattle.dillmonth.specs.declared.forms.CShapeId.{CShapeId}
use Rattle.dillmonth.specs.declared.getter_forms.CSum.{CSum}
use Rattle.dillmonth.specs.declared.rays.CHit.{CHit}
use Rattle.dillmonth.specs.declared.statuses.TheConstants.{NO_WORLD}
use Rattle.shape_rays.specs.Hits.{first_hit, region}
use Rattle.shapes.specs.Rays.{IsBeam, beam_of}
use Rattle.shapes.specs.declared.pose.Pose.{Pose}
use Rattle.world_core.specs.Frames.{View, frame_of, pose_in}
use Rattle.world_desk.specs.declared.desk.Desk.{Desk}
use Rattle.world_queries.specs.Framed.{framed_shapes}
use Rattle.world_queries.specs.Limits.{is_region}

-- the frame is held, or memory was wanting and what was held stays
abbrev pub IsFrameHeld : View → Option View → ℕ → Option View → Type 0
IsFrameHeld frame old status new = ((status ≡ 0) × (new ≡ Some frame)) ⊎ ((status ≡ 1) × (new ≡ old))

-- the frame of the world is held; or what was held stays, and memory was wanting, or there is no world
abbrev pub Takes : Option Desk → Option View → ℕ → Option View → Type 0
Takes None old status new = (status ≡ NO_WORLD) × (new ≡ old)
Takes (Some desk) old status new = IsFrameHeld (frame_of desk.world) old status new

-- ---- what is read

abbrev pub pose_framed : CHandle → Pose → CPose
pose_framed h pose = record { handle = h; at = vector_shown pose.x; facing = facing_shown pose.rot }

-- where the body was is written, or 2 is answered where the id names none that lived then and was enabled
abbrev pub IsPosed : CHandle → Option View → ℕ → CPose → CPose → Type 0
IsPosed h None status before after = (status ≡ NO_WORLD) × (after ≡ before)
IsPosed h (Some frame) status before after = IsWritten (option_map (pose_framed h) (pose_in frame.bodies (handle_said h))) status before after

-- the ray's first hit on the shapes that the frame shows is written; or the ray is beyond its limits, and nothing is
-- written
abbrev pub HitsFramed : Vec2 → Vec2 → Option View → ℕ → CHit → CHit → Type 0
HitsFramed from along None status before after = (status ≡ NO_WORLD) × (after ≡ before)
HitsFramed from along (Some frame) status before after =
    (IsBeam (beam_of from along) × (status ≡ 0) × (after ≡ hit_shown (first_hit (beam_of from along) (framed_shapes frame.bodies))))
    ⊎ ((¬ IsBeam (beam_of from along)) × (status ≡ 5) × (after ≡ before))

-- the shapes over the region are counted and written, as many as fit; or nothing is written, and the region is beyond
-- its limits or memory was wanting
abbrev pub FindsFramed : Box2 → Option View → ℕ → ℕ → ℕ → List CShapeId → List CShapeId → Type 0
FindsFramed bounds None status before after out new = (status ≡ NO_WORLD) × (after ≡ before) × (new ≡ out)
FindsFramed bounds (Some frame) status before after out new =
    ((status ≡ 0) × (is_region bounds ≡ true) × (after ≡ length (region bounds (framed_shapes frame.bodies))) × (new ≡ written (map id_shown (region bounds (framed_shapes frame.bodies))) out))
    ⊎ ((((is_region bounds ≡ false) × (status ≡ 5)) ⊎ ((is_region bounds ≡ true) × (status ≡ 1))) × (after ≡ before) × (new ≡ out))

-- the ledger's total is written
abbrev pub IsTotalFramed : Option View → ℕ → CSum → CSum → Type 0
IsTotalFramed None status before after = (status ≡ NO_WORLD) × (after ≡ before)
IsTotalFramed (Some frame) status before after = (status ≡ 0) × (after ≡ sum_shown frame.booked)

abbrev pub calls_framed : Option View → ℕ
calls_framed None = 0
calls_framed (Some frame) = frame.calls
