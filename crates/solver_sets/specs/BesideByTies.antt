-- Inner: the ties of a body, who stands beside it by these, and timers that are put to 0 beside a body that moves.
use Rattle.std.specs.Prelude.{ℕ, ◌==◌, ◌||◌, Bool, cond, List, filter, Option, Some, None, ◌≡◌, true, false, is_none, [], ◌∷◌, map, slice_set}
use Rattle.std.specs.List.{list_any}
use Rattle.body_handles.specs.declared.handle.Handle.{Handle}
use Rattle.graph_colours.specs.declared.member.Member.{Member}
use Rattle.graph_colours.specs.Colours.{all_members}
use Rattle.plain_world.specs.declared.constraint.Constraint.{Constraint}
use Rattle.plain_world.specs.declared.constraint.Constraint.TheVariants.{Joint, Contact}
use Rattle.plain_world.specs.declared.body.Body.{Body}
use Rattle.plain_world.specs.declared.joint.BodyJoint.{BodyJoint}
use Rattle.plain_world.specs.Joints.{is_end_in, is_joint_of, joint_at}
use Rattle.plain_world.specs.Slots.{body_at}
use Rattle.solver_sets.specs.Ties.{joint_movers, tie_with}
use Rattle.solver_sets.specs.Beside.{stirred_if, is_moving_at, is_stirred_between, is_joined_to_moving, is_beside_moving, timer_if}
use Rattle.contacts_base.specs.declared.contact.ContactEntry.{ContactEntry}
use Rattle.islands.specs.Labels.{Labels}
use Rattle.sleep_wake.specs.Acting.{is_mover_awake}

-- ---- the ties of a body

-- the tie of a joint, if one of its ends is the body in the slot
abbrev pub joint_tie_of : List (Option Body) → ℕ → Handle → Option BodyJoint → Option (Member Constraint)
joint_tie_of bodies slot h None = None
joint_tie_of bodies slot h (Some j) = cond (is_joint_of slot j) (tie_with (Joint h) (joint_movers bodies j)) None

-- one of a constraint's two bodies is the one in the slot; those of a joint are the ends of the joint in its own slot
abbrev pub is_tie_of : List (Option BodyJoint) → ℕ → Constraint → Bool
is_tie_of joints slot (Joint h) = is_end_in slot (joint_at joints h.slot)
is_tie_of joints slot (Contact key) = (key.first.slot == slot) || (key.second.slot == slot)

-- of these ties those of the body in the slot
unfoldable pub ties_among : ℕ → List (Option BodyJoint) → List (Member Constraint) → List (Member Constraint)
ties_among slot joints ties = filter (λ (m : Member Constraint). is_tie_of joints slot m.id) ties

-- ---- whom a change of a body wakes

-- the first mover of each tie
abbrev pub first_movers : List (Member Constraint) → List ℕ
first_movers ties = map (λ (m : Member Constraint). m.movers.first) ties

-- whom it wakes by all ties that there are
unfoldable pub stirred_among : List (Option Body) → List (Option BodyJoint) → List (Member Constraint) → ℕ → List ℕ
stirred_among bodies joints ties slot = stirred_if (body_at bodies slot) slot (first_movers (ties_among slot joints ties))

-- ---- timers that are put to 0

abbrev pub stilled : Bool → ℕ → List ℕ → List ℕ
stilled moving slot timers = cond moving (slice_set timers slot 0) timers

-- each of two bodies that are beside one another, if the other moves
abbrev pub stilled_pair : List (Option Body) → ℕ → ℕ → List ℕ → List ℕ
stilled_pair bodies a b timers = stilled (is_moving_at bodies a) b (stilled (is_moving_at bodies b) a timers)

abbrev pub stilled_by : List (Option Body) → Option BodyJoint → List ℕ → List ℕ
stilled_by bodies None timers = timers
stilled_by bodies (Some j) timers = stilled_pair bodies j.a j.b timers

-- ---- the same by the constraints that act

-- the mover of a constraint that has but one, if the other of its two bodies moves
abbrev pub stilled_alone : List (Option Body) → List (Option BodyJoint) → Constraint → List ℕ → List ℕ
stilled_alone bodies joints (Joint h) timers = stilled_by bodies (joint_at joints h.slot) timers
stilled_alone bodies joints (Contact key) timers = stilled_pair bodies key.first.slot key.second.slot timers

abbrev pub stilled_tie : List (Option Body) → List (Option BodyJoint) → Member Constraint → List ℕ → List ℕ
stilled_tie bodies joints m timers = cond (is_none m.movers.second) (stilled_alone bodies joints m.id timers) timers

abbrev pub stilled_ties : List (Option Body) → List (Option BodyJoint) → List (Member Constraint) → List ℕ → List ℕ
stilled_ties bodies joints [] timers = timers
stilled_ties bodies joints (m ∷ ms) timers = stilled_ties bodies joints ms (stilled_tie bodies joints m timers)

-- of one colour after the other
abbrev pub stilled_lists : List (Option Body) → List (Option BodyJoint) → List (List (Member Constraint)) → List ℕ → List ℕ
stilled_lists bodies joints [] timers = timers
stilled_lists bodies joints (ms ∷ lists) timers = stilled_lists bodies joints lists (stilled_ties bodies joints ms timers)

-- the timers of the bodies in these slots alone are written down
abbrev pub own_set : List (Option Body) → List ℕ → List ℕ → List ℕ
own_set bodies [] timers = timers
own_set bodies (slot ∷ slots) timers = own_set bodies slots (slice_set timers slot (timer_if false (body_at bodies slot)))

-- the constraint is between the body in the slot and one that moves
abbrev pub is_to_moving : List (Option Body) → List (Option BodyJoint) → ℕ → Constraint → Bool
is_to_moving bodies joints slot (Joint h) = is_joined_to_moving bodies slot (joint_at joints h.slot)
is_to_moving bodies joints slot (Contact key) = is_stirred_between bodies slot key.first.slot key.second.slot

abbrev pub ties_to_moving : List (Option Body) → List (Option BodyJoint) → ℕ → Member Constraint → Bool
ties_to_moving bodies joints slot m = cond (is_none m.movers.second) (is_to_moving bodies joints slot m.id) false

-- the constraints with a colour tell of each awake mover whether it is beside a body that moves
abbrev pub ShowMoving : List (Option Body) → List (Option BodyJoint) → List ContactEntry → Labels → List (List (Member Constraint)) → Type 0
ShowMoving bodies joints contacts labels lists = (slot : ℕ) → is_mover_awake labels slot ≡ true → list_any (ties_to_moving bodies joints slot) (all_members lists) ≡ is_beside_moving bodies joints contacts slot
