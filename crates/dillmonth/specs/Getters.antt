-- Trusted: What is read of bodies and joints, of how much there is, and of the ledger.
use Rattle.std.specs.Prelude.{◌≡◌, ℕ, zero, suc, ◌++◌, ◌/◌, ◌%◌, ◌^◌, ◌==◌, ◌⊎◌, cond, if◌then◌else◌, List, [], length, map, Option, Some, None, option_map, ℤ}
use Rattle.std.specs.Int.{cast_signed, cast_unsigned, w64, w128}
use Rattle.body_handles.specs.declared.handle.Handle.{Handle}
use Rattle.body_handles.specs.declared.slot_table.SlotEntry.{SlotEntry}
use Rattle.plain_world.specs.declared.constraint.Constraint.TheVariants.{Joint, Contact}
use Rattle.contacts_base.specs.declared.key.ContactKey.{ContactKey}
use Rattle.contacts_base.specs.declared.key.ShapeId.{ShapeId}
use Rattle.dillmonth.specs.Forms.{handle_said, handle_shown, nobody, vector_shown}
use Rattle.dillmonth.specs.Lists.{contact_shown, list_of, written}
use Rattle.dillmonth.specs.OnShape.{id_said}
use Rattle.dillmonth.specs.declared.forms.CContact.{CContact}
use Rattle.dillmonth.specs.declared.forms.CHandle.{CHandle}
use Rattle.dillmonth.specs.declared.forms.CShape.{CShape}
use Rattle.dillmonth.specs.declared.forms.CShapeId.{CShapeId}
use Rattle.dillmonth.specs.declared.getter_forms.CBodyInfo.{CBodyInfo}
use Rattle.dillmonth.specs.declared.getter_forms.CCounts.{CCounts}
use Rattle.dillmonth.specs.declared.getter_forms.CJointView.{CJointView}
use Rattle.dillmonth.specs.declared.getter_forms.CSum.{CSum}
use Rattle.dillmonth.specs.declared.statuses.TheConstants.{BAD_KIND, NO_WORLD}
use Rattle.impulse_ledger.specs.Sums.{total, total_of}
use Rattle.impulse_ledger.specs.declared.entry.Cause.{Cause}
use Rattle.impulse_ledger.specs.declared.entry.Cause.TheVariants as causes
use Rattle.impulse_ledger.specs.declared.totals.Total.{Total}
use Rattle.islands.specs.Labels.{label_at}
use Rattle.islands.specs.declared.label.Label.{Label}
use Rattle.plain_world.specs.Plain.{Plain, colour_of}
use Rattle.plain_world.specs.declared.body.Body.{Body}
use Rattle.plain_world.specs.declared.kind.Kind.{Kind}
use Rattle.plain_world.specs.declared.kind.Kind.TheVariants.{Static, Kinematic, Dynamic}
use Rattle.shapes.specs.Shapes.{first_end, radius_of, second_end}
use Rattle.shapes.specs.declared.shape.Shape.{Shape}
use Rattle.shapes.specs.declared.shape.Shape.TheVariants.{Circle, Capsule, Segment}
use Rattle.shapes.specs.declared.shape.ShapeDef.{ShapeDef}
use Rattle.world_core.specs.Walks.{handle_in}
use Rattle.world_desk.specs.declared.desk.Desk.{Desk}
use Rattle.world_queries.specs.Counts.{counts_of}
use Rattle.world_queries.specs.Joints.{joint_seen, joints_at}
use Rattle.world_queries.specs.OwnContacts.{contacts_at}
use Rattle.world_queries.specs.declared.counts.Counts.{Counts}
use Rattle.world_queries.specs.declared.joints.JointView.{JointView}
use Rattle.world_rules.specs.World.{World, body_named, book_of}

-- ---- what is written where there is something, and why not where there is nothing

-- the form is written; or 2 is answered, and nothing is written
abbrev pub IsWritten : {F : Type 0} → Option F → ℕ → F → F → Type 0
IsWritten None status before after = (status ≡ 2) × (after ≡ before)
IsWritten (Some form) status before after = (status ≡ 0) × (after ≡ form)

-- the forms are counted and written, as many as fit; or 2 is answered, and nothing is written
abbrev pub AreWritten : {F : Type 0} → Option (List F) → ℕ → ℕ → ℕ → List F → List F → Type 0
AreWritten None status before after out new = (status ≡ 2) × (after ≡ before) × (new ≡ out)
AreWritten (Some forms) status before after out new = (status ≡ 0) × (after ≡ length forms) × (new ≡ written forms out)

-- the same where memory may be wanting for them: 1 is answered then, and nothing is written
abbrev pub AreWrittenOrWanting : {F : Type 0} → Option (List F) → ℕ → ℕ → ℕ → List F → List F → Type 0
AreWrittenOrWanting None status before after out new = (status ≡ 2) × (after ≡ before) × (new ≡ out)
AreWrittenOrWanting (Some forms) status before after out new = ((status ≡ 0) × (after ≡ length forms) × (new ≡ written forms out)) ⊎ ((status ≡ 1) × (after ≡ before) × (new ≡ out))

-- ---- bodies

abbrev pub kind_shown : Kind → ℕ
kind_shown Static = 0
kind_shown (Kinematic course) = 1
kind_shown Dynamic = 2

-- a number of 32 bits that is none: a slot, or a colour
abbrev pub number_or_none : Option ℕ → ℕ
number_or_none None = 4294967295
number_or_none (Some n) = n

-- the name of the island of the mover in a slot, if there is one
abbrev pub island_at : Plain → ℕ → Option ℕ
island_at w slot = option_map (λ (l : Label). l.name) (label_at w.islands slot)

abbrev pub info_shown : Plain → ℕ → Body → CBodyInfo
info_shown w slot b = record {
  kind = kind_shown b.kind;
  enabled = cond b.enabled 1 0;
  mass = b.mass.mass;
  inertia = b.mass.inertia;
  shapes = length b.shapes;
  island = number_or_none (island_at w slot);
  unused = 0;
}

abbrev pub info_of : Plain → CHandle → Option CBodyInfo
info_of w h = option_map (info_shown w h.slot) (body_named w (handle_said h))

-- 0 a circle, 1 a capsule, 2 a segment
abbrev pub form_shown : Shape → ℕ
form_shown (Circle center radius) = 0
form_shown (Capsule first second radius) = 1
form_shown (Segment first second) = 2

-- a circle has its centre at both ends, and a segment has the radius 0
abbrev pub shape_shown : ShapeDef → CShape
shape_shown d = record {
  form = form_shown d.shape;
  group = d.filter.group;
  first = vector_shown (first_end d.shape);
  second = vector_shown (second_end d.shape);
  radius = radius_of d.shape;
  friction = d.friction;
  restitution = d.restitution;
  category = d.filter.category;
  mask = d.filter.mask;
}

abbrev pub shapes_shown : Plain → CHandle → Option (List CShape)
shapes_shown w h = option_map (λ (b : Body). map shape_shown b.shapes) (body_named w (handle_said h))

-- of the joints that a body has, by slot
abbrev pub joints_shown : Plain → CHandle → Option (List CHandle)
joints_shown w h = option_map (λ (b : Body). map handle_shown (joints_at h.slot w)) (body_named w (handle_said h))

-- of the contacts that a body has, ascending by key
abbrev pub contacts_shown : Plain → CHandle → Option (List CContact)
contacts_shown w h = option_map (λ (b : Body). map contact_shown (contacts_at h.slot w.contacts)) (body_named w (handle_said h))

-- ---- colours

-- the name of a contact, where both of its shapes have names
abbrev pub key_of : Option ShapeId → Option ShapeId → Option ContactKey
key_of None second = None
key_of (Some first) None = None
key_of (Some first) (Some second) = Some (record { first = first; second = second })

-- the colour of the contact of this name, if there is one that acts
abbrev pub contact_colour : Plain → Option ContactKey → Option ℕ
contact_colour w None = None
contact_colour w (Some key) = colour_of (Contact key) w.colours

abbrev pub colour_in : Option Desk → CShapeId → CShapeId → ℕ
colour_in None first second = number_or_none None
colour_in (Some desk) first second = number_or_none (contact_colour desk.world.plain (key_of (id_said first) (id_said second)))

-- ---- ids by slot

abbrev pub id_shown : Option Handle → CHandle
id_shown None = nobody
id_shown (Some h) = handle_shown h

-- of what is there in the slots below n
abbrev pub ids_up : List SlotEntry → ℕ → List CHandle
ids_up slot_entries zero = []
ids_up slot_entries (suc n) = ids_up slot_entries n ++ list_of (option_map handle_shown (handle_in slot_entries n))

abbrev pub joint_ids : List SlotEntry → List CHandle
joint_ids slot_entries = ids_up slot_entries (length slot_entries)

-- ---- joints

abbrev pub joint_shown : Plain → CHandle → JointView → CJointView
joint_shown w h v = record {
  def = record { a = handle_shown v.a; b = handle_shown v.b; from = vector_shown v.joint.from; to = vector_shown v.joint.to; length = v.joint.length; collide = cond v.collide 1 0; unused = 0 };
  impulse = v.joint.impulse;
  colour = number_or_none (colour_of (Joint (handle_said h)) w.colours);
  unused = 0;
}

abbrev pub joint_of : Plain → CHandle → Option CJointView
joint_of w h = option_map (joint_shown w h) (joint_seen w (handle_said h))

-- ---- how much there is

abbrev pub counts_shown : Counts → CCounts
counts_shown c = record { bodies = c.bodies; awake = c.awake; joints = c.joints; contacts = c.contacts; touching = c.touching; islands = c.islands; colours = c.colours }

-- the counts are written; or memory was wanting, and nothing is written
abbrev pub IsCounted : Plain → ℕ → CCounts → CCounts → Type 0
IsCounted w status before after = ((status ≡ 0) × (after ≡ counts_shown (counts_of w))) ⊎ ((status ≡ 1) × (after ≡ before))

-- ---- the ledger

abbrev pub low_half : ℤ → ℕ
low_half z = cast_unsigned w128 z % 2 ^ 64

abbrev pub high_half : ℤ → ℤ
high_half z = cast_signed w64 (cast_unsigned w128 z / 2 ^ 64)

-- each component as two halves
abbrev pub sum_shown : Total → CSum
sum_shown t = record { x_low = low_half t.x; x_high = high_half t.x; y_low = low_half t.y; y_high = high_half t.y }

-- 0 a command, 1 gravity, 2 an immovable body, 3 the clamp, 4 rest, 5 a body's departure
abbrev pub cause_said : ℕ → Option Cause
cause_said n =
    if n == 0 then Some causes.Command
    else if n == 1 then Some causes.Gravity
    else if n == 2 then Some causes.Immovable
    else if n == 3 then Some causes.Clamp
    else if n == 4 then Some causes.Rest
    else if n == 5 then Some causes.Departed
    else None

-- the sum of a cause is written; or there is no such cause, and nothing is written
abbrev pub IsSummed : Option Cause → World → ℕ → CSum → CSum → Type 0
IsSummed None w status before after = (status ≡ BAD_KIND) × (after ≡ before)
IsSummed (Some cause) w status before after = (status ≡ 0) × (after ≡ sum_shown (total_of cause (book_of w)))

-- ---- the same where there may be no world: 32 is answered then, and nothing is written

abbrev pub IsInfoIn : Option Desk → CHandle → ℕ → CBodyInfo → CBodyInfo → Type 0
IsInfoIn None h status before after = (status ≡ NO_WORLD) × (after ≡ before)
IsInfoIn (Some desk) h status before after = IsWritten (info_of desk.world.plain h) status before after

abbrev pub AreShapesIn : Option Desk → CHandle → ℕ → ℕ → ℕ → List CShape → List CShape → Type 0
AreShapesIn None h status before after out new = (status ≡ NO_WORLD) × (after ≡ before) × (new ≡ out)
AreShapesIn (Some desk) h status before after out new = AreWritten (shapes_shown desk.world.plain h) status before after out new

abbrev pub AreJointsIn : Option Desk → CHandle → ℕ → ℕ → ℕ → List CHandle → List CHandle → Type 0
AreJointsIn None h status before after out new = (status ≡ NO_WORLD) × (after ≡ before) × (new ≡ out)
AreJointsIn (Some desk) h status before after out new = AreWrittenOrWanting (joints_shown desk.world.plain h) status before after out new

abbrev pub AreContactsIn : Option Desk → CHandle → ℕ → ℕ → ℕ → List CContact → List CContact → Type 0
AreContactsIn None h status before after out new = (status ≡ NO_WORLD) × (after ≡ before) × (new ≡ out)
AreContactsIn (Some desk) h status before after out new = AreWrittenOrWanting (contacts_shown desk.world.plain h) status before after out new

abbrev pub IsJointIn : Option Desk → CHandle → ℕ → CJointView → CJointView → Type 0
IsJointIn None h status before after = (status ≡ NO_WORLD) × (after ≡ before)
IsJointIn (Some desk) h status before after = IsWritten (joint_of desk.world.plain h) status before after

abbrev pub IsCountedIn : Option Desk → ℕ → CCounts → CCounts → Type 0
IsCountedIn None status before after = (status ≡ NO_WORLD) × (after ≡ before)
IsCountedIn (Some desk) status before after = IsCounted desk.world.plain status before after

abbrev pub IsSummedIn : Option Desk → Option Cause → ℕ → CSum → CSum → Type 0
IsSummedIn None cause status before after = (status ≡ NO_WORLD) × (after ≡ before)
IsSummedIn (Some desk) cause status before after = IsSummed cause desk.world status before after

abbrev pub IsTotalIn : Option Desk → ℕ → CSum → CSum → Type 0
IsTotalIn None status before after = (status ≡ NO_WORLD) × (after ≡ before)
IsTotalIn (Some desk) status before after = (status ≡ 0) × (after ≡ sum_shown (total (book_of desk.world)))

abbrev pub body_in : Option Desk → ℕ → CHandle
body_in None slot = nobody
body_in (Some desk) slot = id_shown (handle_in desk.world.plain.slot_entries slot)

abbrev pub joint_in : Option Desk → ℕ → CHandle
joint_in None slot = nobody
joint_in (Some desk) slot = id_shown (handle_in desk.world.plain.joint_entries slot)

abbrev pub joints_in : Option Desk → List CHandle
joints_in None = []
joints_in (Some desk) = joint_ids desk.world.plain.joint_entries
