-- Inner: what is asked of a saved body while it is read.
use Rattle.std.specs.Prelude.{ℕ, ◌&&◌, ◌||◌, Bool, not, cond, List, [], ◌∷◌, Option, codes, is_some, ℤ, pos, neg_ℤ, unsigned_abs}
use Rattle.std.specs.Option.{is_none}
use Rattle.serde_json.specs.Data.{Data}
use Rattle.serde_json.specs.Find.{get}
use Rattle.fixed_geom.specs.Facings.{is_facing}
use Rattle.fixed_geom.specs.Vectors.{is_within}
use Rattle.fixed_geom.specs.declared.boxes.Box2.{Box2}
use Rattle.fixed_geom.specs.declared.limits.TheConstants.{MAX_POSITION, MAX_SPIN}
use Rattle.momenta.specs.declared.limits.TheConstants.{MAX_MOMENTUM, MAX_SPEED}
use Rattle.plain_world.specs.Bodies.{is_awake, pose_of}
use Rattle.plain_world.specs.Kinds.{carried_by, is_moving, is_static}
use Rattle.plain_world.specs.declared.body.Body.{Body}
use Rattle.plain_world.specs.declared.kind.Kind.{Kind}
use Rattle.plain_world.specs.declared.kind.Kind.TheVariants.{Static, Kinematic, Dynamic}
use Rattle.shapes.specs.Shapes.{shapes_refusal}
use Rattle.shapes.specs.declared.pose.Pose.{Pose}
use Rattle.shapes.specs.declared.shape.ShapeDef.{ShapeDef}
use Rattle.world_file_base.specs.Asks.{Ask, all_asked, asked, noted}
use Rattle.world_file_base.specs.Reading.{has_keys, items_in, text_in}
use Rattle.world_file_base.specs.AskedValues.{island_asks, list_asks, signed_asks, text_asks, truth_asks, unsigned_asks, vector_asks, vector_within_asks, decimal_asks}
use Rattle.world_file_base.specs.declared.clause.Clause.TheVariants.{FatBoxes, Form, Islands, Limits, Memberships}
use Rattle.world_file_base.specs.AskedShapes.{shapes_asks}
use Rattle.world_file_base.specs.declared.saved.Membership.{Membership}
use Rattle.world_file_base.specs.SavedBodies.{named_kind, bare_kind, kind_in, least_mass, most_mass, most_inertia, mass_in, facing_in, most_angular, membership_in, body_in, are_in_boxes, is_at_rest, island_fits, is_island_or_nothing}

-- ---- its kind and its numbers

-- a kinematic body has two keys more
abbrev pub course_asks : Kind → Data → Ask
course_asks Static d = asked (has_keys 13 d) Form
course_asks (Kinematic course) d = all_asked (
    vector_within_asks (unsigned_abs MAX_SPEED) (get (codes "velocity") d)
    ∷ signed_asks (neg_ℤ MAX_SPIN) MAX_SPIN (get (codes "spin") d)
    ∷ asked (has_keys 15 d) Form
    ∷ [])
course_asks Dynamic d = asked (has_keys 13 d) Form

unfoldable pub kind_asks : Data → Ask
kind_asks d = all_asked (
    text_asks (get (codes "kind") d)
    ∷ asked (is_some (named_kind (text_in (get (codes "kind") d)))) Form
    ∷ course_asks (bare_kind d) d
    ∷ [])

unfoldable pub mass_asks : Kind → Data → Ask
mass_asks kind d = all_asked (
    signed_asks (least_mass kind) (most_mass kind) (get (codes "mass") d)
    ∷ signed_asks (pos 0) (most_inertia kind) (get (codes "inertia") d)
    ∷ [])

abbrev pub facing_asks : Option Data → Ask
facing_asks value reader = asked (is_facing (facing_in value)) Limits (vector_asks value reader)

unfoldable pub momenta_asks : ℕ → Data → Ask
momenta_asks most d = all_asked (
    vector_within_asks (unsigned_abs MAX_MOMENTUM) (get (codes "p") d)
    ∷ decimal_asks most (get (codes "l") d)
    ∷ [])

unfoldable pub pose_asks : Data → Ask
pose_asks d = all_asked (
    vector_within_asks (unsigned_abs MAX_POSITION) (get (codes "at") d)
    ∷ facing_asks (get (codes "facing") d)
    ∷ [])

unfoldable pub motion_asks : ℤ → Data → Ask
motion_asks inertia d = all_asked (momenta_asks (most_angular inertia) d ∷ pose_asks d ∷ [])

unfoldable pub membership_asks : Data → Ask
membership_asks d = all_asked (
    island_asks (get (codes "island") d)
    ∷ truth_asks (get (codes "loose") d)
    ∷ truth_asks (get (codes "asleep") d)
    ∷ [])

-- ---- the body

abbrev pub is_pose : Pose → Bool
is_pose pose = is_within (unsigned_abs MAX_POSITION) pose.x && is_facing pose.rot

-- The body may have its shapes, and they lie in their fat boxes. The second is asked of shapes and of a pose that are
-- within their limits.
unfoldable pub fit_asks : Kind → Pose → List ShapeDef → List Box2 → Ask
fit_asks kind pose defs fats reader =
    cond (is_none (shapes_refusal (is_static kind) defs))
    (cond (is_pose pose) (asked (are_in_boxes pose defs fats) FatBoxes reader) reader)
    (noted Limits reader)

-- what isn't an awake mover is at rest, and what is disabled has no course
unfoldable pub rest_asks : Body → Ask
rest_asks b = all_asked (
    asked (is_awake b || is_at_rest b.motion) Islands
    ∷ asked (b.enabled || not (is_moving (carried_by b.kind))) Islands
    ∷ [])

unfoldable pub fitting_membership_asks : Body → Membership → Ask
fitting_membership_asks b m = all_asked (
    asked (island_fits b m) Memberships
    ∷ asked (is_island_or_nothing m) Memberships
    ∷ [])

-- what is asked of its keys, but for its shapes
unfoldable pub numbers_asks : ℕ → Data → Ask
numbers_asks most_ticks d = all_asked (
    kind_asks d
    ∷ mass_asks (kind_in d) d
    ∷ motion_asks (mass_in (kind_in d) d).inertia d
    ∷ membership_asks d
    ∷ truth_asks (get (codes "enabled") d)
    ∷ unsigned_asks most_ticks (get (codes "timer") d)
    ∷ [])

unfoldable pub keys_asks : ℕ → Data → Ask
keys_asks most_ticks d = all_asked (
    numbers_asks most_ticks d
    ∷ list_asks (get (codes "shapes") d)
    ∷ shapes_asks (items_in (get (codes "shapes") d))
    ∷ [])

-- what is asked of it as a whole
unfoldable pub whole_body_asks : Body → Membership → Ask
whole_body_asks b m = all_asked (
    fit_asks b.kind (pose_of b) b.shapes b.fats
    ∷ rest_asks b
    ∷ fitting_membership_asks b m
    ∷ [])

unfoldable pub body_asks : ℕ → Data → Ask
body_asks most_ticks d reader = whole_body_asks (body_in most_ticks d) (membership_in d) (keys_asks most_ticks d reader)
