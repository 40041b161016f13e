-- Trusted: The constraints, islands and colours of a world, taken together: what commands do to them, and the world
-- that they leave.
use Rattle.std.specs.Prelude.{ℕ, Bool, cond, List}
use Rattle.plain_world.specs.Constraints.{constraint_number}
use Rattle.plain_world.specs.declared.constraint.Constraint.{Constraint}
use Rattle.graph_colours.specs.Colours.{ids_of}
use Rattle.sleep_wake.specs.Acting.{Acting, acting}
use Rattle.sleep_wake.specs.Bodies.{mover_gone, mover_made}
use Rattle.sleep_wake.specs.Changes.{each_ended}
use Rattle.sleep_wake.specs.Sleeping.{islands_woken, sleeping_names}
use Rattle.solver_sets.specs.Beside.{stirred_by}
use Rattle.solver_sets.specs.Ties.{members_of, ties_at, ties_of}
use Rattle.plain_world.specs.declared.body.Body.{Body}
use Rattle.plain_world.specs.Bodies.{is_mover}
use Rattle.plain_world.specs.Plain.{Plain}
use Rattle.plain_world.specs.Sleep.{told}
use Rattle.world_rules.specs.World.{joints_in_slots}

-- the constraints, whether their movers are awake or not, the islands, and the colours of those that act
unfoldable pub acting_of : Plain → Acting Constraint
acting_of w = acting (ties_of w.bodies (joints_in_slots w) w.contacts) w.islands (members_of w.bodies (joints_in_slots w) w.colours)

-- the bodies told who sleeps, the islands and the colours
abbrev pub with_acting : Acting Constraint → Plain → Plain
with_acting s w = record w { bodies = told s.labels w.bodies; islands = s.labels; colours = ids_of s.lists }

-- the world in which the islands of these movers, those that slept, were woken in ascending order of their names
abbrev pub with_woken : Plain → List ℕ → Plain
with_woken w slots = with_acting (islands_woken constraint_number (sleeping_names w.islands slots) (acting_of w)) w

-- the world in which those were woken whom a change of the body in a slot wakes
abbrev pub stirred : Plain → ℕ → Plain
stirred w slot = with_woken w (stirred_by w.bodies w.joints w.contacts slot)

abbrev pub body_come : ℕ → Body → Acting Constraint → Acting Constraint
body_come slot b s = cond (is_mover b) (mover_made slot s) s

abbrev pub ties_ended : ℕ → Plain → Acting Constraint
ties_ended slot w = each_ended constraint_number (ties_at slot w.bodies (joints_in_slots w) w.contacts) (acting_of w)

-- a body goes: its constraints end, and a mover leaves its island
abbrev pub body_gone : ℕ → Bool → Plain → Acting Constraint
body_gone slot mover w = cond mover (mover_gone constraint_number slot (ties_ended slot w)) (ties_ended slot w)
