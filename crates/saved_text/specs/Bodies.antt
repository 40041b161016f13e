-- The members of a body before and behind its shapes.
use Rattle.std.specs.Prelude.{◌∷◌, ◌++◌, ℕ, List, [], Option, Some, None, codes, false}
use Rattle.islands.specs.Labels.{is_asleep, is_loose}
use Rattle.islands.specs.declared.label.Label.{Label}
use Rattle.plain_world.specs.declared.body.Body.{Body}
use Rattle.plain_world.specs.declared.kind.Kind.{Kind}
use Rattle.plain_world.specs.declared.kind.Kind.TheVariants.{Static, Kinematic, Dynamic}
use Rattle.world_file_base.specs.SavedBodies.{kind_name}
use Rattle.world_file_base.specs.Written.{Member, decimal_of, integer, natural, natural_or_null, vector_of}
use Rattle.serde_json.specs.Data.{boolean, string}
use Rattle.saved_text.specs.Leaves.{facing_of}
use Rattle.saved_text.specs.declared.bodies.SavedMembership.{SavedMembership}

-- what a label tells of a body's island
abbrev pub membership_by : Option Label → SavedMembership
membership_by None = record { asleep = false; loose = false; island = None }
membership_by (Some l) = record { asleep = is_asleep l.state; loose = is_loose l.state; island = Some l.name }

abbrev pub position_of_body : Body → SavedMembership → List Member
position_of_body b membership =
    (codes "asleep", boolean membership.asleep)
    ∷ (codes "at", vector_of b.motion.x)
    ∷ (codes "enabled", boolean b.enabled)
    ∷ (codes "facing", facing_of b.motion.rot)
    ∷ (codes "inertia", integer b.mass.inertia)
    ∷ []

abbrev pub numbers_of_body : Body → SavedMembership → List Member
numbers_of_body b membership =
    (codes "island", natural_or_null membership.island)
    ∷ (codes "kind", string (kind_name b.kind))
    ∷ (codes "l", decimal_of b.motion.l)
    ∷ (codes "loose", boolean membership.loose)
    ∷ (codes "mass", integer b.mass.mass)
    ∷ (codes "p", vector_of b.motion.p)
    ∷ []

abbrev pub first_of_body : Body → SavedMembership → List Member
first_of_body b membership = position_of_body b membership ++ numbers_of_body b membership

abbrev pub last_of_body : Kind → ℕ → List Member
last_of_body Static timer = (codes "timer", natural timer) ∷ []
last_of_body (Kinematic course) timer = (codes "spin", integer course.spin) ∷ (codes "timer", natural timer) ∷ (codes "velocity", vector_of course.velocity) ∷ []
last_of_body Dynamic timer = (codes "timer", natural timer) ∷ []
