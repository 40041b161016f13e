-- Trusted: What a frame shows of a world, and what settling the ledger leaves.
use Rattle.std.specs.Prelude.{◌≡◌, ℕ, zero, suc, ◌<◌, ◌≤◌, ◌^◌, ◌==◌, cond, All, List, [], ◌∷◌, ◌++◌, length, Option, Some, None, slice_get}
use Rattle.body_handles.specs.declared.handle.Handle.{Handle}
use Rattle.body_handles.specs.declared.slot_table.SlotEntry.{SlotEntry}
use Rattle.body_handles.specs.declared.slot_table.TheConstants.{MAX_SLOTS}
use Rattle.body_handles.specs.SlotEntries.{generation_at}
use Rattle.impulse_ledger.specs.declared.totals.Total.{Total}
use Rattle.impulse_ledger.specs.Sums.{total, totals_of}
use Rattle.plain_world.specs.declared.body.Body.{Body}
use Rattle.plain_world.specs.Bodies.{pose_of}
use Rattle.plain_world.specs.Momentum.{momentum}
use Rattle.plain_world.specs.Slots.{body_at}
use Rattle.shapes.specs.Poses.{IsPose}
use Rattle.shapes.specs.Shapes.{IsShapeDef}
use Rattle.shapes.specs.declared.limits.TheConstants.{MAX_SHAPES}
use Rattle.shapes.specs.declared.pose.Pose.{Pose}
use Rattle.world_core.specs.declared.frame.FrameBody.{FrameBody}
use Rattle.world_rules.specs.Sound.{IsSound}
use Rattle.world_rules.specs.World.{World, book_of}

-- ---- frames

-- what contracts see of a frame
pub record View : Type 0 where
  -- the enabled body in each slot
  pub bodies : List (Option FrameBody)
  pub momentum : Total
  pub booked : Total
  pub calls : ℕ

-- a body is shown if it is enabled
abbrev pub shown_body : Handle → Body → Option FrameBody
shown_body h b = cond b.enabled (Some (record { handle = h; pose = pose_of b; shapes = b.shapes })) None

abbrev pub shown : Handle → Option Body → Option FrameBody
shown h None = None
shown h (Some b) = shown_body h b

-- what is shown of the slots below n
abbrev pub shown_up : List SlotEntry → List (Option Body) → ℕ → List (Option FrameBody)
shown_up slot_entries bodies zero = []
shown_up slot_entries bodies (suc n) = shown_up slot_entries bodies n ++ shown (record { slot = n; generation = generation_at slot_entries n }) (body_at bodies n) ∷ []

-- the frame of a world: its enabled bodies by slot, the movers' momentum, the ledger's total, and the number of calls
abbrev pub frame_of : World → View
frame_of w = record {
  bodies = shown_up w.plain.slot_entries w.plain.bodies (length w.plain.bodies);
  momentum = record { x = (momentum w.plain.bodies).x; y = (momentum w.plain.bodies).y };
  booked = total (book_of w);
  calls = w.plain.calls;
}

-- the pose of the body that a handle names, as a frame's bodies show it
abbrev pub pose_if : Option FrameBody → Handle → Option Pose
pose_if None h = None
pose_if (Some b) h = cond (b.handle.generation == h.generation) (Some b.pose) None

abbrev pub frame_body_in : Option (Option FrameBody) → Option FrameBody
frame_body_in None = None
frame_body_in (Some o) = o

abbrev pub pose_in : List (Option FrameBody) → Handle → Option Pose
pose_in bodies h = pose_if (frame_body_in (slice_get bodies h.slot)) h

-- ---- what each frame keeps

-- it is the frame of a sound world
pub record IsFrame (f : View) : Type 0 where
  pub world : World
  pub sound : IsSound world
  pub frame : f ≡ frame_of world

-- a body that is shown in a slot: its handle names the slot, and it stands at a pose and has 1 to 8 shapes, all within
-- their limits
pub record IsFrameBody (at : ℕ) (b : FrameBody) : Type 0 where
  pub slot : b.handle.slot ≡ at
  pub generation : b.handle.generation < 2 ^ 32
  pub pose : IsPose b.pose
  pub forms : All IsShapeDef b.shapes
  pub some : 1 ≤ length b.shapes
  pub few : length b.shapes ≤ MAX_SHAPES

-- the bodies by slot that a frame of a sound world shows
pub record AreFrameBodies (bodies : List (Option FrameBody)) : Type 0 where
  pub few : length bodies ≤ MAX_SLOTS
  pub each : (slot : ℕ) (b : FrameBody) → frame_body_in (slice_get bodies slot) ≡ Some b → IsFrameBody slot b

-- ---- settling

-- the ledger's entries are added to the settled sums, and nothing else changes
abbrev pub with_ledger_settled : World → World
with_ledger_settled w = record w { entries = []; settled = totals_of (book_of w) }
