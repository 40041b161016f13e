-- Trusted: What a step does to the bodies, the joints and the contacts: passes over the active constraints in solve
-- order and passes over the bodies, and what each adds to the movers' momentum. Bodies and joints stand by slot and
-- contacts by key, and nothing is computed before it is used.
use Rattle.std.specs.Prelude.{ℕ, zero, suc, ◌==◌, cond, List, [], ◌∷◌, Option, Some, None, option_map, map, fold, pos, ◌+ℤ◌, ◌-ℤ◌, slice_set}
use Rattle.std.specs.List.{flat_map}
use Rattle.std.specs.Option.{option_map_or}
use Rattle.fixed_geom.specs.declared.vectors.Vec2.{Vec2}
use Rattle.momenta.specs.Motions.{pulled, speed_clamped, advanced}
use Rattle.momenta.specs.Reciprocals.{reciprocals_of}
use Rattle.momenta.specs.declared.gain.Gain.{Gain}
use Rattle.momenta.specs.declared.mass.MassData.{MassData}
use Rattle.momenta.specs.declared.motion.Motion.{Motion}
use Rattle.momenta.specs.declared.state.BodyState.{BodyState}
use Rattle.momenta.specs.declared.state.Ends.{Ends}
use Rattle.contacts_base.specs.Keys.{key_number}
use Rattle.contacts_base.specs.Contacts.{lookup, number_of}
use Rattle.contacts_base.specs.declared.contact.Contact.{Contact}
use Rattle.contacts_base.specs.declared.contact.ContactEntry.{ContactEntry}
use Rattle.contacts_base.specs.declared.key.ContactKey.{ContactKey}
use Rattle.plain_world.specs.declared.constraint.Constraint.{Constraint}
use Rattle.plain_world.specs.declared.constraint.Constraint.TheVariants as constraints
use Rattle.joint_rows.specs.declared.joint.Joint.{Joint}
use Rattle.joint_rows.specs.Joints.{SolvedJoint, joint_solved, joint_warmed}
use Rattle.colour_solver_base.specs.ContactSolving.{SolvedContact, contact_bounced, contact_solved, contact_warmed}
use Rattle.colour_solver.specs.declared.ticks.StepSums.{StepSums}
use Rattle.colour_solver.specs.Masses.{carrier}
use Rattle.plain_world.specs.declared.body.Body.{Body}
use Rattle.plain_world.specs.declared.joint.BodyJoint.{BodyJoint}
use Rattle.plain_world.specs.Joints.{joint_at}
use Rattle.plain_world.specs.Bodies.{is_awake, is_carried}
use Rattle.plain_world.specs.Slots.{item_at}
use Rattle.world_core_base.specs.Carried.{moved_to, solver_mass, solver_motion}

-- A body as the step began, and its motion now. The momenta of one that isn't an awake mover are its course.
pub record Moving : Type 0 where
  pub body : Body
  pub motion : Motion

-- bodies and joints by slot, contacts ascending by key, and what the step has added to the movers' momentum
pub record Solving : Type 0 where
  pub bodies : List (Option Moving)
  pub joints : List (Option BodyJoint)
  pub contacts : List ContactEntry
  pub sums : StepSums

-- ---- sums of momentum

abbrev pub nothing : Gain
nothing = record { x = pos 0; y = pos 0 }

abbrev pub gain_sum : Gain → Gain → Gain
gain_sum a b = record { x = a.x +ℤ b.x; y = a.y +ℤ b.y }

abbrev pub gain_between : Motion → Motion → Gain
gain_between before after = record { x = after.p.x -ℤ before.p.x; y = after.p.y -ℤ before.p.y }

-- ---- the bodies of a constraint

-- the body with a motion, as impulses act on it
abbrev pub state_with : Body → Motion → BodyState
state_with b motion = record { movable = is_awake b; mass = solver_mass b; motion = motion; start = b.motion.x; reciprocals = reciprocals_of (solver_mass b) }

-- two bodies as they are now
abbrev pub ends_now : Moving → Moving → Ends
ends_now a b = record { a = state_with a.body a.motion; b = state_with b.body b.motion }

-- and as they were when the step began
abbrev pub ends_then : Moving → Moving → Ends
ends_then a b = record { a = state_with a.body (solver_motion a.body); b = state_with b.body (solver_motion b.body) }

abbrev pub after_impulse : BodyState → Moving → Moving
after_impulse s m = record m { motion = s.motion }

-- what a mover has gained where the other body is immovable: the impulse of that body, which nobody else has lost
abbrev pub given_by_immovable : Ends → Ends → Gain
given_by_immovable before after = cond before.a.movable (cond before.b.movable nothing (gain_between before.a.motion after.a.motion)) (cond before.b.movable (gain_between before.b.motion after.b.motion) nothing)

-- ---- the visit of one constraint

-- what a pass does at a joint and at a contact, told how its bodies stood when the step began and how they are now
pub record Visits : Type 0 where
  pub joint : Joint → Ends → Ends → SolvedJoint
  pub contact : ContactEntry → Ends → Ends → SolvedContact

-- the warm start: the kept impulses are given once more
abbrev pub warm : Visits
warm = record { joint = λ j start now. joint_warmed start j now; contact = λ e start now. contact_warmed e.contact now }

-- impulses: a joint's along the line of its anchors; at a contact each point's along its normal, and then friction
abbrev pub solve : Visits
solve = record {
  joint = λ j start now. joint_solved start j now;
  contact = λ e start now. contact_solved e.surface.friction e.contact now;
}

-- restitution: a contact gives back a part of the speed at which its bodies came together; a joint has none
abbrev pub bounce : Visits
bounce = record {
  joint = λ j start now. record { joint = j; ends = now };
  contact = λ e start now. contact_bounced e.surface.restitution start e.contact now;
}

-- the contact that has the key, with these points
abbrev pub with_contact : ContactKey → Contact → List ContactEntry → List ContactEntry
with_contact key c [] = []
with_contact key c (e ∷ es) = cond (number_of e == key_number key) (record e { contact = c } ∷ es) (e ∷ with_contact key c es)

-- two bodies put back into their slots, and what an immovable one gave booked
abbrev pub put_ends : ℕ → ℕ → Moving → Moving → Ends → Solving → Solving
put_ends first second a b ends s = record s {
  bodies = slice_set (slice_set s.bodies first (Some (after_impulse ends.a a))) second (Some (after_impulse ends.b b));
  sums = record s.sums { immovable = gain_sum s.sums.immovable (given_by_immovable (ends_now a b) ends) };
}

-- the joint in a slot put back with its two bodies
abbrev pub put_joint_back : ℕ → BodyJoint → Moving → Moving → SolvedJoint → Solving → Solving
put_joint_back slot j a b solved s =
    let joints = slice_set s.joints slot (Some (record j { joint = solved.joint })) in
    record (put_ends j.a j.b a b solved.ends s) { joints = joints }

-- the visit of the joint in a slot, if it is there and both its bodies are
abbrev pub visit_joined : Visits → Solving → ℕ → BodyJoint → Option Moving → Option Moving → Solving
visit_joined f s slot j None b = s
visit_joined f s slot j (Some a) None = s
visit_joined f s slot j (Some a) (Some b) = put_joint_back slot j a b (f.joint j.joint (ends_then a b) (ends_now a b)) s

-- the contact put back with its two bodies
abbrev pub put_back : ContactKey → Moving → Moving → SolvedContact → Solving → Solving
put_back key a b solved s =
    let contacts = with_contact key solved.contact s.contacts in
    record (put_ends key.first.slot key.second.slot a b solved.ends s) { contacts = contacts }

-- the visit of the contact, if it is there and both its bodies are
abbrev pub visit_between : Visits → Solving → ContactKey → Option ContactEntry → Option Moving → Option Moving → Solving
visit_between f s key None a b = s
visit_between f s key (Some e) None b = s
visit_between f s key (Some e) (Some a) None = s
visit_between f s key (Some e) (Some a) (Some b) = put_back key a b (f.contact e (ends_then a b) (ends_now a b)) s

abbrev pub row_visit : Visits → Solving → Constraint → Solving
row_visit f s (constraints.Joint h) = option_map_or (λ (j : BodyJoint). visit_joined f s h.slot j (item_at s.bodies j.a) (item_at s.bodies j.b)) (joint_at s.joints h.slot) s
row_visit f s (constraints.Contact key) = visit_between f s key (lookup s.contacts key) (item_at s.bodies key.first.slot) (item_at s.bodies key.second.slot)

-- ---- passes

-- the active constraints in solve order: colour after colour, and the overflow last, each ascending
abbrev pub solve_order : List (List Constraint) → List Constraint
solve_order colours = flat_map (λ ids. ids) colours

-- a pass over the active constraints: one visit after another
abbrev pub pass : Visits → List Constraint → Solving → Solving
pass f order s = fold (row_visit f) s order

-- an awake mover with its motion changed; any other body as it was
abbrev pub motion_changed : (MassData → Motion → Motion) → Moving → Moving
motion_changed f m = cond (is_awake m.body) (record m { motion = f m.body.mass m.motion }) m

abbrev pub all_changed : (MassData → Motion → Motion) → List (Option Moving) → List (Option Moving)
all_changed f bodies = map (option_map (motion_changed f)) bodies

-- what such a pass adds to the momentum
abbrev pub gain : (MassData → Motion → Motion) → List (Option Moving) → Gain
gain f [] = nothing
gain f (o ∷ bodies) = gain_sum (option_map_or (λ (m : Moving). gain_between m.motion (motion_changed f m).motion) o nothing) (gain f bodies)

-- gravity
abbrev pub pull : Vec2 → Solving → Solving
pull gravity s = record s { bodies = all_changed (pulled gravity) s.bodies; sums = record s.sums { gravity = gain_sum s.sums.gravity (gain (pulled gravity) s.bodies) } }

-- a change that takes momentum away: the speed limit, and the move with its stop at the edge of the world
abbrev pub clamp : (MassData → Motion → Motion) → Solving → Solving
clamp f s = record s { bodies = all_changed f s.bodies; sums = record s.sums { clamp = gain_sum s.sums.clamp (gain f s.bodies) } }

-- a body that is carried along moves on with its course; any other body as it was
abbrev pub carried_on : Moving → Moving
carried_on m = cond (is_carried m.body) (record m { motion = advanced carrier m.motion }) m

-- the bodies that are carried along, to whose momentum nothing is added, since they have none
abbrev pub carry : Solving → Solving
carry s = record s { bodies = map (option_map carried_on) s.bodies }

-- ---- a tick, and a step

abbrev pub passes : Vec2 → List Constraint → List (Solving → Solving)
passes gravity order = pull gravity ∷ clamp speed_clamped ∷ pass warm order ∷ pass solve order ∷ clamp speed_clamped ∷ clamp advanced ∷ carry ∷ []

abbrev pub tick : Vec2 → List Constraint → Solving → Solving
tick gravity order s = fold (λ s pass. pass s) s (passes gravity order)

abbrev pub ticks : ℕ → Vec2 → List Constraint → Solving → Solving
ticks zero gravity order s = s
ticks (suc n) gravity order s = tick gravity order (ticks n gravity order s)

-- a body as the step finds it: an awake mover with its motion, any other with its course
abbrev pub moving : Body → Moving
moving b = record { body = b; motion = solver_motion b }

abbrev pub begin : List (Option Body) → List (Option BodyJoint) → List ContactEntry → Solving
begin bodies joints contacts = record { bodies = map (option_map moving) bodies; joints = joints; contacts = contacts; sums = record { gravity = nothing; immovable = nothing; clamp = nothing } }

unfoldable pub solved : ℕ → Vec2 → List Constraint → List (Option Body) → List (Option BodyJoint) → List ContactEntry → Solving
solved n gravity order bodies joints contacts = pass bounce order (ticks n gravity order (begin bodies joints contacts))

-- ---- what it leaves

abbrev pub left : Moving → Body
left m = moved_to m.motion m.body

abbrev pub bodies_of : Solving → List (Option Body)
bodies_of s = map (option_map left) s.bodies
