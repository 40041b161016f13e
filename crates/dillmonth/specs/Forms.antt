-- Trusted: Values as C has them, and what they are for a world.
use Rattle.std.specs.Prelude.{◌≡◌, ℕ, ◌==◌, ◌⊎◌, Bool, not, cond, if◌then◌else◌, List, [], ◌∷◌, ◌++◌, map, Option, Some, None, option_map, Result, Ok, Err, ℤ, pos}
use Rattle.fixed_geom.specs.declared.boxes.Box2.{Box2}
use Rattle.fixed_geom.specs.declared.facings.Rot.{Rot}
use Rattle.fixed_geom.specs.declared.refusal.Refusal.{Refusal}
use Rattle.fixed_geom.specs.declared.vectors.Vec2.{Vec2}
use Rattle.body_handles.specs.declared.handle.Handle.{Handle}
use Rattle.contacts_base.specs.declared.key.ContactKey.{ContactKey}
use Rattle.contacts_base.specs.declared.key.ShapeId.{ShapeId}
use Rattle.dillmonth.specs.Statuses.{status_of}
use Rattle.dillmonth.specs.declared.forms.CAnswer.{CAnswer}
use Rattle.dillmonth.specs.declared.forms.CBodyDef.{CBodyDef}
use Rattle.dillmonth.specs.declared.forms.CBox.{CBox}
use Rattle.dillmonth.specs.declared.forms.CFacing.{CFacing}
use Rattle.dillmonth.specs.declared.forms.CHandle.{CHandle}
use Rattle.dillmonth.specs.declared.forms.CJointDef.{CJointDef}
use Rattle.dillmonth.specs.declared.forms.CPair.{CPair}
use Rattle.dillmonth.specs.declared.forms.CPose.{CPose}
use Rattle.dillmonth.specs.declared.forms.CShape.{CShape}
use Rattle.dillmonth.specs.declared.forms.CShapeId.{CShapeId}
use Rattle.dillmonth.specs.declared.forms.CVector.{CVector}
use Rattle.dillmonth.specs.declared.statuses.TheConstants.{BAD_KIND, OUT_OF_RANGE}
use Rattle.momenta.specs.declared.mass.MassData.{MassData}
use Rattle.plain_world.specs.declared.body.BodyDef.{BodyDef}
use Rattle.plain_world.specs.declared.joint.JointDef.{JointDef}
use Rattle.plain_world.specs.declared.kind.Course.{Course}
use Rattle.plain_world.specs.declared.kind.Kind.{Kind}
use Rattle.plain_world.specs.declared.kind.Kind.TheVariants.{Static, Kinematic, Dynamic}
use Rattle.shapes.specs.declared.pose.Pose.{Pose}
use Rattle.shapes.specs.declared.shape.Shape.{Shape}
use Rattle.shapes.specs.declared.shape.Shape.TheVariants.{Circle, Capsule, Segment}
use Rattle.shapes.specs.declared.shape.ShapeDef.{ShapeDef}
use Rattle.world_rules.specs.declared.command.Reply.{Reply}
use Rattle.world_rules.specs.declared.command.Reply.TheVariants.{Body, Joint, Done, Stepped}

-- ---- plain values

abbrev pub vector_said : CVector → Vec2
vector_said v = record { x = v.x; y = v.y }

abbrev pub vector_shown : Vec2 → CVector
vector_shown v = record { x = v.x; y = v.y }

abbrev pub facing_said : CFacing → Rot
facing_said f = record { c = f.c; s = f.s }

abbrev pub facing_shown : Rot → CFacing
facing_shown f = record { c = f.c; s = f.s }

abbrev pub handle_said : CHandle → Handle
handle_said h = record { slot = h.slot; generation = h.generation }

abbrev pub handle_shown : Handle → CHandle
handle_shown h = record { slot = h.slot; generation = h.generation }

abbrev pub id_shown : ShapeId → CShapeId
id_shown id = record { slot = id.slot; index = id.index }

abbrev pub pair_shown : ContactKey → CPair
pair_shown k = record { first = id_shown k.first; second = id_shown k.second }

abbrev pub pose_said : CVector → CFacing → Pose
pose_said at facing = record { x = vector_said at; rot = facing_said facing }

abbrev pub course_said : CVector → ℤ → Course
course_said velocity spin = record { velocity = vector_said velocity; spin = spin }

abbrev pub box_said : CBox → Box2
box_said b = record { lo = vector_said b.lo; hi = vector_said b.hi }

-- what a kind or a form says, where there is one of this number
abbrev pub known : {T : Type 0} → Option T → Result T ℕ
known None = Err BAD_KIND
known (Some said) = Ok said

-- the joint to be made, where the field without a meaning is 0
abbrev pub joint_said : CJointDef → Result JointDef ℕ
joint_said d = if d.unused == 0 then Ok (record { a = handle_said d.a; b = handle_said d.b; from = vector_said d.from; to = vector_said d.to; length = d.length; collide = not (d.collide == 0) }) else Err OUT_OF_RANGE

-- ---- bodies to be made

-- 0 a circle round the first point, 1 a capsule, 2 a segment
abbrev pub form_said : CShape → Option Shape
form_said s = if s.form == 0 then Some (Circle (vector_said s.first) s.radius) else if s.form == 1 then Some (Capsule (vector_said s.first) (vector_said s.second) s.radius) else if s.form == 2 then Some (Segment (vector_said s.first) (vector_said s.second)) else None

abbrev pub with_form : CShape → Option Shape → Option ShapeDef
with_form s None = None
with_form s (Some form) = Some (record { shape = form; friction = s.friction; restitution = s.restitution; filter = record { category = s.category; mask = s.mask; group = s.group } })

abbrev pub shape_said : CShape → Option ShapeDef
shape_said s = with_form s (form_said s)

abbrev pub both_said : Option ShapeDef → Option (List ShapeDef) → Option (List ShapeDef)
both_said None ds = None
both_said (Some d) None = None
both_said (Some d) (Some ds) = Some (d ∷ ds)

-- the shapes, where the form of each is one
abbrev pub shapes_said : List CShape → Option (List ShapeDef)
shapes_said [] = Some []
shapes_said (s ∷ ss) = both_said (shape_said s) (shapes_said ss)

-- 0 static, 1 kinematic, 2 dynamic
abbrev pub kind_said : CBodyDef → Option Kind
kind_said d = if d.kind == 0 then Some Static else if d.kind == 1 then Some (Kinematic (course_said d.velocity d.spin)) else if d.kind == 2 then Some Dynamic else None

-- of a dynamic body alone
abbrev pub mass_said : CBodyDef → MassData
mass_said d = if d.kind == 2 then record { mass = d.mass; inertia = d.inertia } else record { mass = pos 0; inertia = pos 0 }

abbrev pub body_said : CBodyDef → Option Kind → Option (List ShapeDef) → Option BodyDef
body_said d None shapes = None
body_said d (Some kind) None = None
body_said d (Some kind) (Some shapes) = Some (record { kind = kind; mass = mass_said d; x = vector_said d.at; rot = facing_said d.facing; shapes = shapes })

-- the body to be made, where the field without a meaning is 0, and its kind and the form of each shape is one
abbrev pub def_said : CBodyDef → List CShape → Result BodyDef ℕ
def_said d shapes = if d.unused == 0 then known (body_said d (kind_said d) (shapes_said shapes)) else Err OUT_OF_RANGE

-- why nothing is made: want of memory, or what is wrong with what was said
abbrev pub IsUnmade : {T : Type 0} → Result T ℕ → ℕ → Type 0
IsUnmade (Err due) status = (status ≡ due) ⊎ (status ≡ 1)
IsUnmade (Ok made) status = status ≡ 1

-- ---- answers

abbrev pub nobody : CHandle
nobody = record { slot = 0; generation = 0 }

-- a status, and nothing else
abbrev pub bare : ℕ → CAnswer
bare status = record { status = status; unused = 0; made = nobody; step = 0 }

abbrev pub answer_said : Result Reply Refusal → CAnswer
answer_said (Ok (Body h)) = record { status = 0; unused = 0; made = handle_shown h; step = 0 }
answer_said (Ok (Joint h)) = record { status = 0; unused = 0; made = handle_shown h; step = 0 }
answer_said (Ok Done) = bare 0
answer_said (Ok (Stepped n)) = record { status = 0; unused = 0; made = nobody; step = n }
answer_said (Err e) = bare (status_of e)
