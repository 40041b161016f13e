-- The rows of a colour share no mover, since its constraints don't.
use Rattle.std.specs.Prelude.{◌≡◌, ℕ, ◌<◌, true, List, [], take, map, length, All, Option, Some, None, slice_index_or}
use Rattle.momenta.specs.declared.state.BodyState.{BodyState}
use Rattle.graph_colours.specs.declared.limits.TheConstants.{COLOURS}
use Rattle.graph_colours.specs.declared.member.Movers.{Movers}
use Rattle.graph_colours.specs.declared.member.Member.{Member}
use Rattle.graph_colours.specs.Members.{AreApart}
use Rattle.graph_colours.specs.Movers.{has_mover}
use Rattle.contacts_base.specs.declared.contact.ContactEntry.{ContactEntry}
use Rattle.plain_world.specs.declared.constraint.Constraint.{Constraint}
use Rattle.plain_world.specs.declared.constraint.Constraint.TheVariants.{Contact, Joint}
use Rattle.colour_solver.specs.Colour.{IsColour, is_mover}
use Rattle.colour_solver.specs.ConstraintVisits.{constraint_slots}
use Rattle.plain_world.specs.declared.joint.BodyJoint.{BodyJoint}
use Rattle.plain_world.specs.Joints.{joint_at}
use Rattle.world_core_base.specs.ConstraintRows.{rows_in}

-- those of two bodies that move are among the movers
pub record HasBoth (states : List BodyState) (movers : Movers) (a b : ℕ) : Type 0 where
  pub first : is_mover states a ≡ true → has_mover movers a ≡ true
  pub second : is_mover states b ≡ true → has_mover movers b ≡ true

abbrev pub JointHasMovers : List BodyState → Movers → Option BodyJoint → Type 0
JointHasMovers states movers None = Unit {0}
JointHasMovers states movers (Some j) = HasBoth states movers j.a j.b

abbrev pub HasMovers : List BodyState → List (Option BodyJoint) → Movers → Constraint → Type 0
HasMovers states joints movers (Joint h) = JointHasMovers states movers (joint_at joints h.slot)
HasMovers states joints movers (Contact key) = HasBoth states movers key.first.slot key.second.slot

-- a constraint in a colour stands there with its movers
abbrev pub HasItsMovers : List BodyState → List (Option BodyJoint) → Member Constraint → Type 0
HasItsMovers states joints m = HasMovers states joints m.movers m.id

-- no two rows of a colour share a mover, the overflow apart
abbrev pub RowsAreColours : Type 0
RowsAreColours = (states : List BodyState) (joints : List (Option BodyJoint)) (contacts : List ContactEntry) (lists : List (List (Member Constraint))) (colour : ℕ) → All (All (HasItsMovers states joints)) lists → All AreApart (take COLOURS lists) → COLOURS < length lists
    → colour < COLOURS → IsColour constraint_slots states (slice_index_or (map (rows_in states joints contacts) lists) colour [])
