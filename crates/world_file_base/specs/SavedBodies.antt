-- Trusted: Saved bodies, and what they say of their islands.
use Rattle.std.specs.Prelude.{ℕ, ◌&&◌, ◌||◌, Bool, true, false, not, cond, List, [], ◌∷◌, Option, Some, None, codes, is_some, unwrap_or, ℤ, pos, neg_ℤ, unsigned_abs}
use Rattle.std.specs.Option.{is_none}
use Rattle.std.specs.Ordering.{int_eq}
use Rattle.std.specs.Str.{bytes_eq}
use Rattle.serde_json.specs.Data.{Data, Members, boolean, no_members, null, object, string}
use Rattle.serde_json.specs.Find.{get}
use Rattle.fixed_geom.specs.Boxes.{contains}
use Rattle.fixed_geom.specs.declared.boxes.Box2.{Box2}
use Rattle.fixed_geom.specs.declared.facings.Rot.{Rot}
use Rattle.fixed_geom.specs.declared.limits.TheConstants.{MAX_POSITION, MAX_SPIN}
use Rattle.islands.specs.Labels.{is_asleep, is_loose}
use Rattle.islands.specs.declared.label.Label.{Label}
use Rattle.momenta.specs.declared.limits.TheConstants.{MAX_ANGULAR_MOMENTUM, MAX_INERTIA, MAX_MASS, MAX_MOMENTUM, MAX_SPEED}
use Rattle.momenta.specs.declared.mass.MassData.{MassData}
use Rattle.momenta.specs.declared.motion.Momenta.{Momenta}
use Rattle.momenta.specs.declared.motion.Motion.{Motion}
use Rattle.plain_world.specs.Bodies.{is_mover}
use Rattle.plain_world.specs.Kinds.{no_course}
use Rattle.plain_world.specs.declared.body.Body.{Body}
use Rattle.plain_world.specs.declared.kind.Kind.{Kind}
use Rattle.plain_world.specs.declared.kind.Kind.TheVariants.{Static, Kinematic, Dynamic}
use Rattle.shapes.specs.Bounds.{tight_box}
use Rattle.shapes.specs.declared.pose.Pose.{Pose}
use Rattle.shapes.specs.declared.shape.ShapeDef.{ShapeDef}
use Rattle.world_file_base.specs.Reading.{island_in, items_in, signed_in, text_in, truth_in, unsigned_in, vector_in, vector_within}
use Rattle.world_file_base.specs.Texts.{decimal_in}
use Rattle.world_file_base.specs.Written.{decimal_of, integer, list_data, natural, vector_of, with_members}
use Rattle.world_file_base.specs.SavedShapes.{defs_in, fats_in, shapes_of}
use Rattle.world_file_base.specs.declared.saved.Membership.{Membership}

-- ---- its kind

abbrev pub named_kind : List ℕ → Option Kind
named_kind text = cond (bytes_eq text (codes "static")) (Some Static) (cond (bytes_eq text (codes "kinematic")) (Some (Kinematic no_course)) (cond (bytes_eq text (codes "dynamic")) (Some Dynamic) None))

-- the kind with its course, which a kinematic body has
abbrev pub with_course : Kind → Data → Kind
with_course Static d = Static
with_course (Kinematic course) d = Kinematic (record {
  velocity = vector_within (unsigned_abs MAX_SPEED) (get (codes "velocity") d);
  spin = signed_in (neg_ℤ MAX_SPIN) MAX_SPIN (get (codes "spin") d);
})
with_course Dynamic d = Dynamic

abbrev pub bare_kind : Data → Kind
bare_kind d = unwrap_or (named_kind (text_in (get (codes "kind") d))) Static

unfoldable pub kind_in : Data → Kind
kind_in d = with_course (bare_kind d) d

-- ---- its numbers

-- none of a body that isn't dynamic
abbrev pub least_mass : Kind → ℤ
least_mass Static = pos 0
least_mass (Kinematic course) = pos 0
least_mass Dynamic = pos 1

abbrev pub most_mass : Kind → ℤ
most_mass Static = pos 0
most_mass (Kinematic course) = pos 0
most_mass Dynamic = MAX_MASS

abbrev pub most_inertia : Kind → ℤ
most_inertia Static = pos 0
most_inertia (Kinematic course) = pos 0
most_inertia Dynamic = MAX_INERTIA

unfoldable pub mass_in : Kind → Data → MassData
mass_in kind d = record {
  mass = signed_in (least_mass kind) (most_mass kind) (get (codes "mass") d);
  inertia = signed_in (pos 0) (most_inertia kind) (get (codes "inertia") d);
}

abbrev pub facing_in : Option Data → Rot
facing_in value = record { c = (vector_in value).x; s = (vector_in value).y }

-- a body without inertia has no angular momentum
abbrev pub most_angular : ℤ → ℕ
most_angular inertia = cond (int_eq inertia (pos 0)) 0 (unsigned_abs MAX_ANGULAR_MOMENTUM)

unfoldable pub momenta_in : ℕ → Data → Momenta
momenta_in most d = record {
  p = vector_within (unsigned_abs MAX_MOMENTUM) (get (codes "p") d);
  l = decimal_in most (get (codes "l") d);
}

unfoldable pub pose_in : Data → Pose
pose_in d = record {
  x = vector_within (unsigned_abs MAX_POSITION) (get (codes "at") d);
  rot = facing_in (get (codes "facing") d);
}

unfoldable pub motion_in : ℤ → Data → Motion
motion_in inertia d = record {
  p = (momenta_in (most_angular inertia) d).p;
  l = (momenta_in (most_angular inertia) d).l;
  x = (pose_in d).x;
  rot = (pose_in d).rot;
}

-- ---- its island

unfoldable pub membership_in : Data → Membership
membership_in d = record {
  island = island_in (get (codes "island") d);
  loose = truth_in (get (codes "loose") d);
  asleep = truth_in (get (codes "asleep") d);
}

-- the name under which it sleeps
abbrev pub sleeping_under : Membership → Option ℕ
sleeping_under m = cond m.asleep m.island None

-- ---- the body

-- of a world in which none was slow for longer than so many ticks
unfoldable pub body_in : ℕ → Data → Body
body_in most_ticks d = record {
  kind = kind_in d;
  mass = mass_in (kind_in d) d;
  motion = motion_in (mass_in (kind_in d) d).inertia d;
  enabled = truth_in (get (codes "enabled") d);
  asleep = sleeping_under (membership_in d);
  timer = unsigned_in most_ticks (get (codes "timer") d);
  fats = fats_in (items_in (get (codes "shapes") d));
  shapes = defs_in (items_in (get (codes "shapes") d));
}

-- each shape lies in its fat box
abbrev pub are_in_boxes : Pose → List ShapeDef → List Box2 → Bool
are_in_boxes pose [] fats = true
are_in_boxes pose (def ∷ defs) [] = false
are_in_boxes pose (def ∷ defs) (fat ∷ fats) = cond (contains fat (tight_box def.shape pose)) (are_in_boxes pose defs fats) false

abbrev pub is_at_rest : Motion → Bool
is_at_rest m = int_eq m.p.x (pos 0) && (int_eq m.p.y (pos 0) && int_eq m.l (pos 0))

-- just a mover has an island, and what has none says nothing of one
abbrev pub island_fits : Body → Membership → Bool
island_fits b m = cond (is_mover b) (is_some m.island) (is_none m.island)

abbrev pub is_island_or_nothing : Membership → Bool
is_island_or_nothing m = is_some m.island || not (m.loose || m.asleep)

-- ---- how it is written

abbrev pub kind_name : Kind → List ℕ
kind_name Static = codes "static"
kind_name (Kinematic course) = codes "kinematic"
kind_name Dynamic = codes "dynamic"

abbrev pub put_course_data : Kind → Members → Members
put_course_data Static ms = ms
put_course_data (Kinematic course) ms = with_members ((codes "spin", integer course.spin) ∷ (codes "velocity", vector_of course.velocity) ∷ []) ms
put_course_data Dynamic ms = ms

abbrev pub put_label : Option Label → Members → Members
put_label None ms = with_members ((codes "asleep", boolean false) ∷ (codes "island", null) ∷ (codes "loose", boolean false) ∷ []) ms
put_label (Some l) ms = with_members ((codes "asleep", boolean (is_asleep l.state)) ∷ (codes "island", natural l.name) ∷ (codes "loose", boolean (is_loose l.state)) ∷ []) ms

unfoldable pub put_numbers : Body → Members → Members
put_numbers b = with_members (
    (codes "at", vector_of b.motion.x)
    ∷ (codes "enabled", boolean b.enabled)
    ∷ (codes "facing", vector_of (record { x = b.motion.rot.c; y = b.motion.rot.s }))
    ∷ (codes "inertia", integer b.mass.inertia)
    ∷ (codes "kind", string (kind_name b.kind))
    ∷ (codes "l", decimal_of b.motion.l)
    ∷ (codes "mass", integer b.mass.mass)
    ∷ (codes "p", vector_of b.motion.p)
    ∷ (codes "shapes", list_data (shapes_of b.shapes b.fats))
    ∷ (codes "timer", natural b.timer)
    ∷ [])

-- a body, with the label of its island if it is a mover
unfoldable pub body_data : Body → Option Label → Data
body_data b label = object (put_label label (put_course_data b.kind (put_numbers b no_members)))
