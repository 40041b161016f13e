-- Bodies of one shape: what such a body is, and what it weighs by its shape and its density. π is 355/113.
use Rattle.std.specs.Prelude.{◌≡◌, ℕ, ◌+◌, ◌*◌, ◌^◌, true, false, cond, nat_le, [], ◌∷◌, Option, Some, None, Result, Ok, Err, pos, neg_ℤ, unsigned_abs}
use Rattle.fixed_geom.specs.Numbers.{nearest}
use Rattle.fixed_geom.specs.Vectors.{zero_vector}
use Rattle.fixed_geom.specs.declared.vectors.Vec2.{Vec2}
use Rattle.fixed_geom.specs.declared.refusal.Refusal.{Refusal}
use Rattle.fixed_geom.specs.declared.refusal.Refusal.TheVariants.{NoMemory, OutOfRange}
use Rattle.momenta.specs.declared.limits.TheConstants.{MAX_INERTIA, MAX_MASS}
use Rattle.momenta.specs.declared.mass.MassData.{MassData}
use Rattle.shapes.specs.Filters.{default_filter}
use Rattle.shapes.specs.Shapes.{shapes_refusal}
use Rattle.shapes.specs.declared.shape.Shape.{Shape}
use Rattle.shapes.specs.declared.shape.Shape.TheVariants.{Circle, Capsule, Segment}
use Rattle.shapes.specs.declared.shape.ShapeDef.{ShapeDef}
use Rattle.plain_world.specs.Kinds.{is_course}
use Rattle.plain_world.specs.declared.kind.Course.{Course}
use Rattle.plain_world.specs.declared.kind.Kind.{Kind}
use Rattle.plain_world.specs.declared.kind.Kind.TheVariants.{Static, Kinematic, Dynamic}
use Rattle.plain_world.specs.declared.body.BodyDef.{BodyDef}
use Rattle.contacts_base.specs.declared.surface.Surface.{Surface}

-- ---- what a shape weighs

-- a mass and an inertia, if a dynamic body may have them
abbrev pub mass_within : ℕ → ℕ → Option MassData
mass_within mass inertia = cond (nat_le mass (unsigned_abs MAX_MASS)) (cond (nat_le 1 mass) (cond (nat_le inertia (unsigned_abs MAX_INERTIA)) (Some (record { mass = pos mass; inertia = pos inertia })) None) None) None

-- a disc of radius r: of the mass m = density·π·r² / 2^40 and the inertia m·r² / 2
unfoldable pub disc_mass : ℕ → ℕ → Option MassData
disc_mass r density =
    let m = nearest ((355 * density) * (r * r)) (113 * 2 ^ 40) in
    mass_within m (nearest (m * (r * r)) 2)

-- 113·(4·h + π·r)
unfoldable pub girth : ℕ → ℕ → ℕ
girth h r = 452 * h + 355 * r

-- 113·(8·h·(h² + 3·r²) + 3·π·r·(r² + 2·h²))
unfoldable pub bulk : ℕ → ℕ → ℕ
bulk h r = (904 * h) * (h * h + 3 * (r * r)) + (1065 * r) * (r * r + 2 * (h * h))

-- a capsule of radius r whose core is h long to either side: of the mass m = density·(4·r·h + π·r²) / 2^40 and the
-- inertia m·(8·h·(h² + 3·r²) + 3·π·r·(r² + 2·h²)) / (6·(4·h + π·r))
unfoldable pub capsule_mass : ℕ → ℕ → ℕ → Option MassData
capsule_mass h r density =
    let m = nearest ((r * girth h r) * density) (113 * 2 ^ 40) in
    mass_within m (nearest (m * bulk h r) (6 * girth h r))

-- ---- bodies of one shape

-- a shape with this surface, which collides with all
abbrev pub formed : Shape → Surface → ShapeDef
formed shape surface = record { shape = shape; friction = surface.friction; restitution = surface.restitution; filter = default_filter }

-- a disc about the body's centre
abbrev pub disc : ℕ → Shape
disc r = Circle zero_vector (pos r)

-- the ends of a core along the x axis, h long to either side of the body's centre
abbrev pub left_end : ℕ → Vec2
left_end h = record { x = neg_ℤ (pos h); y = pos 0 }

abbrev pub right_end : ℕ → Vec2
right_end h = record { x = pos h; y = pos 0 }

-- a capsule along the x axis
abbrev pub lying : ℕ → ℕ → Shape
lying h r = Capsule (left_end h) (right_end h) (pos r)

abbrev pub no_mass : MassData
no_mass = record { mass = pos 0; inertia = pos 0 }

-- a body of one shape at the origin, not turned
abbrev pub of_shape : Kind → MassData → ShapeDef → BodyDef
of_shape kind mass shape = record { kind = kind; mass = mass; x = zero_vector; rot = record { c = pos (2 ^ 30); s = pos 0 }; shapes = shape ∷ [] }

-- ---- what is due

abbrev pub weighed : ShapeDef → Option MassData → Result BodyDef Refusal
weighed shape None = Err OutOfRange
weighed shape (Some mass) = Ok (of_shape Dynamic mass shape)

-- the first refusal is the shape's
abbrev pub unless : Option Refusal → Result BodyDef Refusal → Result BodyDef Refusal
unless (Some e) due = Err e
unless None due = due

abbrev pub circle_due : ℕ → ℕ → Surface → Result BodyDef Refusal
circle_due r density surface = unless (shapes_refusal false (formed (disc r) surface ∷ [])) (weighed (formed (disc r) surface) (disc_mass r density))

abbrev pub capsule_due : ℕ → ℕ → ℕ → Surface → Result BodyDef Refusal
capsule_due h r density surface = unless (shapes_refusal false (formed (lying h r) surface ∷ [])) (weighed (formed (lying h r) surface) (capsule_mass h r density))

abbrev pub segment_due : Vec2 → Vec2 → Surface → Result BodyDef Refusal
segment_due first second surface = unless (shapes_refusal true (formed (Segment first second) surface ∷ [])) (Ok (of_shape Static no_mass (formed (Segment first second) surface)))

abbrev pub floor_due : ℕ → Surface → Result BodyDef Refusal
floor_due h surface = segment_due (left_end h) (right_end h) surface

abbrev pub platform_due : ℕ → ℕ → Course → Surface → Result BodyDef Refusal
platform_due h r course surface = unless (shapes_refusal false (formed (lying h r) surface ∷ [])) (cond (is_course course) (Ok (of_shape (Kinematic course) no_mass (formed (lying h r) surface))) (Err OutOfRange))

-- just what is due; or, where a body is, want of memory
abbrev pub IsDue : Result BodyDef Refusal → Result BodyDef Refusal → Type 0
IsDue (Ok def) (Ok given) = given ≡ def
IsDue (Ok def) (Err e) = e ≡ NoMemory
IsDue (Err due) (Ok given) = ⊥
IsDue (Err due) (Err e) = e ≡ due
