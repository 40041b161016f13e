-- Trusted: Lists that are written into a caller's array.
use Rattle.std.specs.Prelude.{ℕ, zero, suc, ◌++◌, ◌/◌, ◌%◌, ◌^◌, Bool, true, cond, List, [], ◌∷◌, length, Option, Some, None, pos}
use Rattle.std.specs.Int.{cast_signed, cast_unsigned, w64, w128}
use Rattle.body_handles.specs.SlotEntries.{generation_at}
use Rattle.body_handles.specs.declared.slot_table.SlotEntry.{SlotEntry}
use Rattle.contacts_base.specs.declared.contact.ContactEntry.{ContactEntry}
use Rattle.contacts_base.specs.declared.contact.ContactPoint.{ContactPoint}
use Rattle.contacts_base.specs.declared.key.ShapeId.{ShapeId}
use Rattle.dillmonth.specs.Forms.{facing_shown, pair_shown, vector_shown}
use Rattle.dillmonth.specs.declared.forms.CContact.{CContact}
use Rattle.dillmonth.specs.declared.forms.CContactPoint.{CContactPoint}
use Rattle.dillmonth.specs.declared.forms.CHandle.{CHandle}
use Rattle.dillmonth.specs.declared.forms.CPair.{CPair}
use Rattle.dillmonth.specs.declared.forms.CPose.{CPose}
use Rattle.dillmonth.specs.declared.forms.CVector.{CVector}
use Rattle.dillmonth.specs.declared.forms.CView.{CView}
use Rattle.event_feed.specs.Events.{EventLists, no_events}
use Rattle.plain_world.specs.Bodies.{can_move}
use Rattle.plain_world.specs.Plain.{Plain}
use Rattle.plain_world.specs.Slots.{body_at}
use Rattle.plain_world.specs.declared.body.Body.{Body}
use Rattle.plain_world.specs.declared.body.BodyView.{BodyView}
use Rattle.plain_world.specs.declared.body.SetName.{SetName}
use Rattle.plain_world.specs.declared.body.SetName.TheVariants as sets
use Rattle.plain_world.specs.declared.kind.Course.{Course}
use Rattle.world_desk.specs.declared.desk.Desk.{Desk}

-- an array with as many items at its head as fit; the rest stays
abbrev pub written : {T : Type 0} → List T → List T → List T
written [] out = out
written (x ∷ xs) [] = []
written (x ∷ xs) (o ∷ out) = x ∷ written xs out

-- an array with an item at a place that it has
abbrev pub put_at : {T : Type 0} → List T → ℕ → T → List T
put_at [] at x = []
put_at (o ∷ out) zero x = x ∷ out
put_at (o ∷ out) (suc at) x = o ∷ put_at out at x

-- one item or none
abbrev pub list_of : {T : Type 0} → Option T → List T
list_of None = []
list_of (Some x) = x ∷ []

-- an array with one item, or none, at a place that it has
abbrev pub put_list : {T : Type 0} → List T → ℕ → List T → List T
put_list out at [] = out
put_list out at (x ∷ xs) = put_at out at x

-- ---- poses

abbrev pub pose_shown : ℕ → ℕ → Body → CPose
pose_shown slot generation b = record { handle = record { slot = slot; generation = generation }; at = vector_shown b.motion.x; facing = facing_shown b.motion.rot }

-- whether a body's pose is asked for: that of each, or of those that a step may move
abbrev pub is_asked : Bool → Body → Bool
is_asked moving b = cond moving (can_move b) true

abbrev pub pose_if : Bool → CPose → Option CPose
pose_if asked pose = cond asked (Some pose) None

-- the pose of the body in a slot, where there is one and it is asked for
abbrev pub pose_asked : Bool → ℕ → ℕ → Option Body → Option CPose
pose_asked moving slot generation None = None
pose_asked moving slot generation (Some b) = pose_if (is_asked moving b) (pose_shown slot generation b)

-- of the bodies in the slots below n: all, or those that a step may move
abbrev pub poses_up : Bool → List SlotEntry → List (Option Body) → ℕ → List CPose
poses_up moving slot_entries bodies zero = []
poses_up moving slot_entries bodies (suc n) = poses_up moving slot_entries bodies n ++ list_of (pose_asked moving n (generation_at slot_entries n) (body_at bodies n))

abbrev pub poses_of : Bool → Plain → List CPose
poses_of moving w = poses_up moving w.slot_entries w.bodies (length w.bodies)

abbrev pub poses_in : Bool → Option Desk → List CPose
poses_in moving None = []
poses_in moving (Some desk) = poses_of moving desk.world.plain

-- ---- events and counts

abbrev pub events_in : Option Desk → EventLists
events_in None = no_events
events_in (Some desk) = desk.world.events

abbrev pub steps_in : Option Desk → ℕ
steps_in None = 0
steps_in (Some desk) = desk.world.plain.steps

abbrev pub gravity_in : Option Desk → CVector
gravity_in None = record { x = pos 0; y = pos 0 }
gravity_in (Some desk) = vector_shown desk.world.plain.gravity

-- ---- contacts

-- a point that isn't there is told by zeros
abbrev pub point_shown : Option ContactPoint → CContactPoint
point_shown None = record { offset = record { x = pos 0; y = pos 0 }; separation = pos 0; normal_impulse = pos 0; tangent_impulse = pos 0 }
point_shown (Some p) = record { offset = vector_shown p.ra; separation = p.separation; normal_impulse = p.normal_impulse; tangent_impulse = p.tangent_impulse }

abbrev pub normal_shown : Option ContactPoint → CVector
normal_shown None = record { x = pos 0; y = pos 0 }
normal_shown (Some p) = vector_shown p.normal

abbrev pub count_points : Option ContactPoint → Option ContactPoint → ℕ
count_points None second = 0
count_points (Some p) None = 1
count_points (Some p) (Some q) = 2

-- two shapes with the points where they touch
abbrev pub points_shown : CPair → Option ContactPoint → Option ContactPoint → CContact
points_shown pair first second = record {
  pair = pair;
  points = count_points first second;
  unused = 0;
  normal = normal_shown first;
  first = point_shown first;
  second = point_shown second;
}

abbrev pub contact_shown : ContactEntry → CContact
contact_shown e = points_shown (pair_shown e.key) e.contact.first e.contact.second

abbrev pub contacts_in : Option Desk → List ContactEntry
contacts_in None = []
contacts_in (Some desk) = desk.contacts.items

abbrev pub found_in : Option Desk → List ShapeId
found_in None = []
found_in (Some desk) = desk.found.items

-- ---- one body

abbrev pub set_number : SetName → ℕ
set_number sets.Static = 0
set_number sets.Disabled = 1
set_number sets.Awake = 2
set_number (sets.Sleeping name) = 3

abbrev pub island_number : SetName → ℕ
island_number (sets.Sleeping name) = name
island_number _ = 0

abbrev pub course_shown : Option Course → Course
course_shown None = record { velocity = record { x = pos 0; y = pos 0 }; spin = pos 0 }
course_shown (Some course) = course

-- what is seen of a body, its angular momentum as two halves
abbrev pub view_shown : CHandle → ℕ → BodyView → CView
view_shown h tag v = record {
  pose = record { handle = h; at = vector_shown v.at; facing = facing_shown v.facing };
  p = vector_shown v.p;
  l_low = cast_unsigned w128 v.l % 2 ^ 64;
  l_high = cast_signed w64 (cast_unsigned w128 v.l / 2 ^ 64);
  velocity = vector_shown (course_shown v.course).velocity;
  spin = (course_shown v.course).spin;
  set = set_number v.set;
  island = island_number v.set;
  tag = tag;
}
