-- Trusted: The velocity and the spin of a body, and what brings it to others.
use Rattle.std.specs.Prelude.{ℕ, zero, suc, ◌+◌, ◌^◌, Bool, ◌&&◌, cond, Option, Some, None, nat_le, ℤ, pos, ◌+ℤ◌, ◌-ℤ◌, ◌*ℤ◌, unsigned_abs, int_le, int_lt, ◌≤ℤ◌}
use Rattle.fixed_geom.specs.Facings.{IsFacing, direction, is_facing, turn}
use Rattle.fixed_geom.specs.Numbers.{rdiv}
use Rattle.fixed_geom.specs.Vectors.{IsWithin, cross, dot, is_within, unit_length, zero_vector}
use Rattle.fixed_geom.specs.declared.facings.Rot.{Rot}
use Rattle.fixed_geom.specs.declared.vectors.Vec2.{Vec2}
use Rattle.momenta.specs.Motions.{limited, spin, velocity}
use Rattle.momenta.specs.declared.motion.Motion.{Motion}
use Rattle.plain_world.specs.Kinds.{no_course}
use Rattle.plain_world.specs.declared.body.Body.{Body}
use Rattle.plain_world.specs.declared.kind.Course.{Course}
use Rattle.plain_world.specs.declared.kind.Kind.{Kind}
use Rattle.plain_world.specs.declared.kind.Kind.TheVariants.{Static, Kinematic, Dynamic}
use Rattle.shapes.specs.declared.pose.Pose.{Pose}

-- the velocity and the spin of a body: a dynamic one's by its momenta, a kinematic one's own, none of a static one
abbrev pub motion_by : Kind → Body → Course
motion_by Static b = no_course
motion_by (Kinematic course) b = course
motion_by Dynamic b = record { velocity = velocity b.mass.mass b.motion.p; spin = spin b.mass.inertia b.motion.l }

abbrev pub motion_of : Body → Course
motion_of b = motion_by b.kind b

-- a component of a push: one that is beyond 2^40 stays beyond it, so that the push is refused
abbrev pub push_part : ℤ → ℤ
push_part z = limited (2 ^ 40 + 1) z

-- the push that brings a body's momentum to that of a velocity
abbrev pub push_to : Option Body → Vec2 → Vec2
push_to None v = zero_vector
push_to (Some b) v = record { x = push_part (b.mass.mass *ℤ v.x -ℤ b.motion.p.x); y = push_part (b.mass.mass *ℤ v.y -ℤ b.motion.p.y) }

-- beyond the limits of a course, so that it is refused
abbrev pub no_way : Course
no_way = record { velocity = record { x = pos (2 ^ 20 + 1); y = pos 0 }; spin = pos 0 }

-- the share of each of n ticks in the tangent of the angle between two directions; beyond the limit of a spin where
-- that is a quarter of a turn or more
abbrev pub spin_between : Vec2 → Vec2 → ℤ → ℤ
spin_between from to n = cond (int_lt (pos 0) (dot from to)) (limited (2 ^ 28 + 1) (rdiv (rdiv (cross from to *ℤ unit_length) (dot from to)) n)) (pos (2 ^ 28 + 1))

-- the facing after n ticks of a spin
abbrev pub turned : ℕ → ℤ → Rot → Rot
turned zero w q = q
turned (suc n) w q = turn (turned n w q) w

-- what the turn of n ticks of a spin lacks to a facing, as the share of each
abbrev pub missed : Rot → Rot → ℤ → ℤ → ℤ
missed from to n w = spin_between (direction (turned (unsigned_abs n) w from)) (direction to) n

-- a number times the square of a tangent
abbrev pub by_square : ℤ → ℤ → ℤ
by_square m w = rdiv (m *ℤ rdiv (w *ℤ w) unit_length) unit_length

-- a spin with what its turn missed made up for: a tangent grows by the angle times one and its own square
abbrev pub made_up : ℤ → ℤ → ℤ
made_up w m = w +ℤ (m +ℤ by_square m w)

-- a spin whose turn of n ticks misses a facing by less: a step of Newton's method from one that a body may have
unfoldable pub corrected : Rot → Rot → ℤ → ℤ → ℤ
corrected from to n w = made_up (limited (2 ^ 28) w) (missed from to n (limited (2 ^ 28) w))

abbrev pub is_sharp : Rot → Rot → Bool
is_sharp from to = int_lt (pos 0) (dot (direction from) (direction to))

-- the spin that turns one facing into another in n ticks: four steps from the share of a tick; beyond its limit for a
-- quarter of a turn or more
abbrev pub spin_to : Rot → Rot → ℤ → ℤ
spin_to from to n = cond (is_sharp from to) (limited (2 ^ 28 + 1) (corrected from to n (corrected from to n (corrected from to n (corrected from to n (spin_between (direction from) (direction to) n)))))) (pos (2 ^ 28 + 1))

-- a pose that a body may have, and a number of ticks that a step may take
abbrev pub is_target : Pose → ℤ → Bool
is_target to n = is_within (2 ^ 36) to.x && (is_facing to.rot && (int_le (pos 1) n && int_le n (pos 8)))

pub record IsTarget (to : Pose) (n : ℤ) : Type 0 where
  pub place : IsWithin (2 ^ 36) to.x
  pub facing : IsFacing to.rot
  pub first : pos 1 ≤ℤ n
  pub last : n ≤ℤ pos 8

-- the course that leads from a motion to a pose in so many ticks
abbrev pub course_between : Motion → Pose → ℤ → Course
course_between s to n = record {
  velocity = record { x = rdiv (to.x.x -ℤ s.x.x) n; y = rdiv (to.x.y -ℤ s.x.y) n };
  spin = spin_to s.rot to.rot n;
}

abbrev pub course_from : Motion → Pose → ℤ → Course
course_from s to n = cond (is_target to n) (course_between s to n) no_way

-- the same of a body
abbrev pub course_to : Option Body → Pose → ℤ → Course
course_to None to n = no_way
course_to (Some b) to n = course_from b.motion to n

-- an angular impulse is a push beside the centre, and the opposite one at it: the arm of the push, in u
abbrev pub lever : ℤ → ℤ
lever by = cond (nat_le (unsigned_abs by) (2 ^ 40)) (pos 1) (pos (2 ^ 20))

abbrev pub twist_push : ℤ → ℤ
twist_push by = push_part (rdiv by (lever by))

-- the angular impulse that brings an angular momentum to that of a spin; one that is refused where no body may have the
-- spin
abbrev pub twist_from : ℤ → ℤ → ℤ → ℤ
twist_from inertia l s = cond (nat_le (unsigned_abs s) (2 ^ 28)) (limited (2 ^ 62) (rdiv (s *ℤ inertia) unit_length -ℤ l)) (pos (2 ^ 62))

-- the same of a body
abbrev pub twist_to : Option Body → ℤ → ℤ
twist_to None s = pos 0
twist_to (Some b) s = twist_from b.mass.inertia b.motion.l s
