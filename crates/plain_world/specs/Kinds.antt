-- Trusted: The kinds of bodies: static, kinematic with a course of its own, dynamic.
use Rattle.std.specs.Prelude.{◌≤◌, Bool, true, false, not, ◌&&◌, ◌||◌, nat_le, Option, Some, None, pos, unsigned_abs}
use Rattle.std.specs.Ordering.{int_eq}
use Rattle.fixed_geom.specs.Vectors.{IsWithin, is_within, zero_vector}
use Rattle.fixed_geom.specs.declared.limits.TheConstants.{MAX_SPIN}
use Rattle.momenta.specs.declared.limits.TheConstants.{MAX_SPEED}
use Rattle.plain_world.specs.declared.kind.Course.{Course}
use Rattle.plain_world.specs.declared.kind.Kind.{Kind}
use Rattle.plain_world.specs.declared.kind.Kind.TheVariants.{Static, Kinematic, Dynamic}

abbrev pub is_static : Kind → Bool
is_static Static = true
is_static (Kinematic course) = false
is_static Dynamic = false

abbrev pub is_dynamic : Kind → Bool
is_dynamic Static = false
is_dynamic (Kinematic course) = false
is_dynamic Dynamic = true

abbrev pub is_kinematic : Kind → Bool
is_kinematic Static = false
is_kinematic (Kinematic course) = true
is_kinematic Dynamic = false

-- ---- how a kinematic body is carried along

-- of a body that stands still
abbrev pub no_course : Course
no_course = record { velocity = zero_vector; spin = pos 0 }

-- that of a kinematic body
abbrev pub course_of : Kind → Option Course
course_of Static = None
course_of (Kinematic course) = Some course
course_of Dynamic = None

-- with which velocity and spin a body that no impulse moves is carried along: one that isn't kinematic stands still
abbrev pub carried_by : Kind → Course
carried_by Static = no_course
carried_by (Kinematic course) = course
carried_by Dynamic = no_course

abbrev pub is_moving : Course → Bool
is_moving course = not (int_eq course.velocity.x (pos 0)) || (not (int_eq course.velocity.y (pos 0)) || not (int_eq course.spin (pos 0)))

-- the kind of a body that comes to a halt: a kinematic one has no course any more
abbrev pub halted : Kind → Kind
halted Static = Static
halted (Kinematic course) = Kinematic no_course
halted Dynamic = Dynamic

abbrev pub is_course : Course → Bool
is_course course = is_within (unsigned_abs MAX_SPEED) course.velocity && nat_le (unsigned_abs course.spin) (unsigned_abs MAX_SPIN)

abbrev pub is_course_allowed : Kind → Bool
is_course_allowed kind = is_course (carried_by kind)

pub record IsCourse (course : Course) : Type 0 where
  pub velocity : IsWithin (unsigned_abs MAX_SPEED) course.velocity
  pub spin : unsigned_abs course.spin ≤ unsigned_abs MAX_SPIN

abbrev pub IsCourseOf : Kind → Type 0
IsCourseOf kind = IsCourse (carried_by kind)
