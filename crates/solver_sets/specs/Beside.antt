-- Trusted: Who stands beside a body: joined to it by a joint, or touching it.
use Rattle.std.specs.Prelude.{ℕ, suc, ◌==◌, ◌||◌, Bool, true, false, cond, List, [], ◌∷◌, ◌++◌, Option, Some, None, option_and_then}
use Rattle.std.specs.List.{filter_map, list_any}
use Rattle.std.specs.Option.{option_map_or}
use Rattle.contacts_base.specs.declared.contact.ContactEntry.{ContactEntry}
use Rattle.contacts_base.specs.Evaluate.{touches}
use Rattle.plain_world.specs.declared.body.Body.{Body}
use Rattle.plain_world.specs.declared.joint.BodyJoint.{BodyJoint}
use Rattle.plain_world.specs.Bodies.{is_mover, moves}
use Rattle.plain_world.specs.Kinds.{carried_by, is_moving}
use Rattle.plain_world.specs.Slots.{body_at}

-- ---- which movers are beside a body

abbrev pub mover_at : List (Option Body) → ℕ → Option ℕ
mover_at bodies slot = cond (moves bodies slot) (Some slot) None

-- of two bodies that are beside one another, the mover that is beside the one in the slot
abbrev pub mover_beside : List (Option Body) → ℕ → ℕ → ℕ → Option ℕ
mover_beside bodies slot a b = cond (a == slot) (mover_at bodies b) (cond (b == slot) (mover_at bodies a) None)

abbrev pub joined_by : List (Option Body) → ℕ → Option BodyJoint → Option ℕ
joined_by bodies slot joint = option_and_then (λ (j : BodyJoint). mover_beside bodies slot j.a j.b) joint

-- the movers at the other ends of its joints, in the order of the joints' slots
unfoldable pub joined_to : List (Option Body) → List (Option BodyJoint) → ℕ → List ℕ
joined_to bodies joints slot = filter_map (joined_by bodies slot) joints

abbrev pub touched_with : List (Option Body) → ℕ → ContactEntry → Option ℕ
touched_with bodies slot e = cond (touches e.contact) (mover_beside bodies slot e.key.first.slot e.key.second.slot) None

-- the movers that touch it, in the order of the contacts' keys
unfoldable pub touched_by : List (Option Body) → List ContactEntry → ℕ → List ℕ
touched_by bodies contacts slot = filter_map (touched_with bodies slot) contacts

-- ---- whom a change of a body wakes: a mover itself; of an enabled body that is none those beside it; of a disabled one nobody

abbrev pub stirred_if : Option Body → ℕ → List ℕ → List ℕ
stirred_if body slot beside = option_map_or (λ (b : Body). cond (is_mover b) (slot ∷ []) (cond b.enabled beside [])) body []

unfoldable pub stirred_by : List (Option Body) → List (Option BodyJoint) → List ContactEntry → ℕ → List ℕ
stirred_by bodies joints contacts slot = stirred_if (body_at bodies slot) slot (joined_to bodies joints slot ++ touched_by bodies contacts slot)

-- ---- who is kept awake by a kinematic body that moves

-- a kinematic body that moves is in the slot
abbrev pub is_moving_at : List (Option Body) → ℕ → Bool
is_moving_at bodies slot = option_map_or (λ (b : Body). cond b.enabled (is_moving (carried_by b.kind)) false) (body_at bodies slot) false

-- of two bodies that are beside one another, the one in the slot is beside a body that moves
abbrev pub is_stirred_between : List (Option Body) → ℕ → ℕ → ℕ → Bool
is_stirred_between bodies slot a b = cond (a == slot) (is_moving_at bodies b) (cond (b == slot) (is_moving_at bodies a) false)

abbrev pub is_joined_to_moving : List (Option Body) → ℕ → Option BodyJoint → Bool
is_joined_to_moving bodies slot joint = option_map_or (λ (j : BodyJoint). is_stirred_between bodies slot j.a j.b) joint false

abbrev pub is_touched_by_moving : List (Option Body) → ℕ → ContactEntry → Bool
is_touched_by_moving bodies slot e = cond (touches e.contact) (is_stirred_between bodies slot e.key.first.slot e.key.second.slot) false

-- the body touches a kinematic body that moves, or is joined to one
unfoldable pub is_beside_moving : List (Option Body) → List (Option BodyJoint) → List ContactEntry → ℕ → Bool
is_beside_moving bodies joints contacts slot = list_any (is_joined_to_moving bodies slot) joints || list_any (is_touched_by_moving bodies slot) contacts

-- ---- timers as the sleep phase counts them, in ticks

-- 0 for a body beside one that moves
abbrev pub timer_if : Bool → Option Body → ℕ
timer_if beside None = 0
timer_if true (Some b) = 0
timer_if false (Some b) = b.timer

-- where the list begins with this slot, and the test says who is beside a body that moves
abbrev pub timers_from : (ℕ → Bool) → ℕ → List (Option Body) → List ℕ
timers_from beside slot [] = []
timers_from beside slot (o ∷ bodies) = timer_if (beside slot) o ∷ timers_from beside (suc slot) bodies

unfoldable pub timers_of : List (Option Body) → List (Option BodyJoint) → List ContactEntry → List ℕ
timers_of bodies joints contacts = timers_from (is_beside_moving bodies joints contacts) 0 bodies
