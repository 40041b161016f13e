-- Trusted: The rows that a step gathers of a colour share no mover.
use Rattle.std.specs.Prelude.{◌≡◌, ◌<◌, ℕ, List, [], map, Option, Some, Contains, slice_index_or}
use Rattle.plain_world.specs.Constraints.{constraint_number}
use Rattle.plain_world.specs.declared.constraint.Constraint.{Constraint}
use Rattle.contacts_base.specs.declared.contact.ContactEntry.{ContactEntry}
use Rattle.colour_solver.specs.Colour.{IsColour}
use Rattle.colour_solver.specs.ConstraintVisits.{constraint_slots}
use Rattle.graph_colours.specs.Colours.{IsColouring, all_members}
use Rattle.graph_colours.specs.declared.limits.TheConstants.{COLOURS}
use Rattle.graph_colours.specs.declared.member.Member.{Member}
use Rattle.plain_world.specs.declared.body.Body.{Body}
use Rattle.solver_sets.specs.Ties.{JointSlots, Lists, movers_of}
use Rattle.world_core_base.specs.ConstraintRows.{rows_in}
use Rattle.world_core_base.specs.Gather.{states_of}

-- it is a colouring, in which each constraint has the movers that its bodies give it
pub record AreColoured (bodies : List (Option Body)) (s : JointSlots) (lists : Lists) : Type 0 where
  pub colouring : IsColouring constraint_number lists
  pub movers : (m : Member Constraint) → Contains (all_members lists) m → movers_of bodies s m.id ≡ Some m.movers

-- where the constraints are coloured as in a sound world, the rows of each colour but the overflow are a colour to the
-- solver
abbrev pub ColouredRowsAreColours : Type 0
ColouredRowsAreColours = (bodies : List (Option Body)) (s : JointSlots) (contacts : List ContactEntry) (lists : Lists) (colour : ℕ) → AreColoured bodies s lists → colour < COLOURS
    → IsColour constraint_slots (states_of bodies) (slice_index_or (map (rows_in (states_of bodies) s.joints contacts) lists) colour [])
