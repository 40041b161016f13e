-- Bodies that ticks have moved: who is a mover and who is enabled is as it was, and each has been slow for as many
-- ticks longer at most.
use Rattle.std.proofs.Common.{◌≡◌, ℕ, zero, suc, ◌+◌, ◌*◌, ◌≤◌, Bool, true, false, cond, is_some, List, [], ◌∷◌, length, Option, Some, None, refl, sym, ap, ap₂, ◌∙◌, subst, arith}
use Rattle.std.specs.Prelude.{option_map}
use Rattle.std.proofs.lemmas.Option.{none-some, same_Some}
use Rattle.fixed_geom.specs.Vectors.{plus}
use Rattle.momenta.specs.declared.state.BodyState.{BodyState}
use Rattle.plain_world.specs.declared.body.Body.{Body}
use Rattle.plain_world.specs.Bodies.{AreBodies, IsBody, can_move, is_awake, is_carried, is_mover, is_mover_in, pose_of}
use Rattle.plain_world.specs.Momentum.{momentum, momentum_in}
use Rattle.plain_world.specs.Fats.{renewed_boxes}
use Rattle.plain_world.specs.Kinds.{is_dynamic, is_kinematic}
use Rattle.plain_world.specs.Sleep.{is_slow, timed, timed_bodies}
use Rattle.plain_world.specs.Slots.{body_at, shapes_in}
use Rattle.plain_world.specs.InSlots.{HaveSameSlots}
use Rattle.plain_world.specs.declared.kind.Kind.{Kind}
use Rattle.plain_world.specs.declared.kind.Kind.TheVariants.{Static, Kinematic, Dynamic}
use Rattle.solver_sets.specs.Alike.{AreAlike}
use Rattle.solver_sets.specs.Ties.{is_enabled_in}
use Rattle.world_core_base.specs.Carried.{carried_to}
use Rattle.world_core_base.specs.Gather.{with_motion, with_motions}
use Rattle.world_core_base.specs.Renewal.{renewed_bodies, with_renewed}
use Rattle.islands.specs.Labels.{Labels}
use Rattle.world_rules.specs.Sound.{AreTimers, AreTold}
use Rattle.world_rules.proofs.ShapeLaws.{HaveSameShapes, shapes_of}

-- ---- what no tick changes

-- whether a body is a mover, whether it is enabled, and for how long it has been slow
pub record Condition : Type 0 where
  pub mover : Bool
  pub enabled : Bool
  pub timer : ℕ
  pub asleep : Option ℕ

abbrev pub condition_of : Body → Condition
condition_of b = record { mover = is_mover b; enabled = b.enabled; timer = b.timer; asleep = b.asleep }

abbrev pub condition_in : Option Body → Option Condition
condition_in o = option_map condition_of o

-- the same slots have bodies, in the same condition
abbrev pub AreInSameCondition : List (Option Body) → List (Option Body) → Type 0
AreInSameCondition old new = (slot : ℕ) → condition_in (body_at new slot) ≡ condition_in (body_at old slot)

abbrev mover_from : Option Condition → Bool
mover_from None = false
mover_from (Some c) = c.mover

abbrev enabled_from : Option Condition → Bool
enabled_from None = false
enabled_from (Some c) = c.enabled

mover_is : (o : Option Body) → is_mover_in o ≡ mover_from (condition_in o)
mover_is None = refl
mover_is (Some b) = refl

enabled_is : (o : Option Body) → is_enabled_in o ≡ enabled_from (condition_in o)
enabled_is None = refl
enabled_is (Some b) = refl

pub alike_conditions : (old new : List (Option Body)) → AreInSameCondition old new → AreAlike old new
alike_conditions old new same = record {
  enabled = λ slot. enabled_is (body_at new slot) ∙ ap enabled_from (same slot) ∙ sym (enabled_is (body_at old slot));
  movers = λ slot. mover_is (body_at new slot) ∙ ap mover_from (same slot) ∙ sym (mover_is (body_at old slot));
}

-- the body that was there
record HadCondition (o : Option Body) (c : Condition) : Type 0 where
  body : Body
  there : o ≡ Some body
  same : condition_of body ≡ c

had_in : (o : Option Body) (c : Condition) → condition_in o ≡ Some c → HadCondition o c
had_in None c e = absurd (none-some c e)
had_in (Some b) c e = record { body = b; there = refl; same = same_Some (condition_of b) c e }

had : (old new : List (Option Body)) (slot : ℕ) (b : Body) → AreInSameCondition old new → body_at new slot ≡ Some b → HadCondition (body_at old slot) (condition_of b)
had old new slot b same at = had_in (body_at old slot) (condition_of b) (sym (same slot) ∙ ap condition_in at)

-- bodies in the same condition are told the same
pub told_conditions : (old new : List (Option Body)) (labels : Labels) → AreInSameCondition old new → AreTold old labels → AreTold new labels
told_conditions old new labels same told slot b at =
    let was : HadCondition (body_at old slot) (condition_of b) = had old new slot b same at in
    sym (ap (λ (c : Condition). c.asleep) was.same) ∙ told slot was.body was.there

pub timers_conditions : (old new : List (Option Body)) (steps : ℕ) → AreInSameCondition old new → AreTimers steps old → AreTimers steps new
timers_conditions old new steps same all slot b at =
    let was = had old new slot b same at in
    subst (λ (c : Condition). c.timer ≤ 8 * steps) was.same (all slot was.body was.there)

-- ---- the motion that ticks have left, and the fat boxes made anew

moving_kind : (enabled : Bool) (b : Body) → b.enabled ≡ enabled → cond enabled (is_kinematic b.kind) false ≡ true → cond enabled false false ≡ cond enabled (is_dynamic b.kind) false
moving_kind true b on e = by b.kind e
  where
    by : (k : Kind) → is_kinematic k ≡ true → false ≡ is_dynamic k
    by Static e = refl
    by (Kinematic course) e = refl
    by Dynamic e = cc
moving_kind false b on e = refl

moved_condition : (s : BodyState) (b : Body) → condition_of (with_motion s b) ≡ condition_of b
moved_condition s b = by (is_awake b) (is_carried b) refl
  where
    by : (m c : Bool) → is_carried b ≡ c → condition_of (cond m (record b { motion = s.motion }) (cond c (carried_to s.motion b) b)) ≡ condition_of b
    by true c e = refl
    by false true e = λ j. record { mover = moving_kind b.enabled b refl e j; enabled = b.enabled; timer = b.timer; asleep = b.asleep }
    by false false e = refl

renewed_condition : (b : Body) → condition_of (with_renewed b) ≡ condition_of b
renewed_condition b = by (can_move b)
  where
    by : (t : Bool) → condition_of (cond t (record b { fats = renewed_boxes (pose_of b) b.shapes b.fats }) b) ≡ condition_of b
    by true = refl
    by false = refl

entry_condition : (s : BodyState) (o : Option Body) → condition_in (option_map with_renewed (option_map (with_motion s) o)) ≡ condition_in o
entry_condition s None = refl
entry_condition s (Some b) = ap Some (renewed_condition (with_motion s b) ∙ moved_condition s b)

still_condition : (o : Option Body) → condition_in (option_map with_renewed o) ≡ condition_in o
still_condition None = refl
still_condition (Some b) = ap Some (renewed_condition b)

pub still_conditions : (bodies : List (Option Body)) → AreInSameCondition bodies (renewed_bodies bodies)
still_conditions [] slot = refl
still_conditions (o ∷ os) zero = still_condition o
still_conditions (o ∷ os) (suc slot) = still_conditions os slot

-- a step leaves all bodies in the condition in which they were
pub moved_conditions : (bodies : List (Option Body)) (states : List BodyState) → AreInSameCondition bodies (renewed_bodies (with_motions bodies states))
moved_conditions [] states slot = refl
moved_conditions (o ∷ os) [] slot = still_conditions (o ∷ os) slot
moved_conditions (o ∷ os) (s ∷ ss) zero = entry_condition s o
moved_conditions (o ∷ os) (s ∷ ss) (suc slot) = moved_conditions os ss slot

-- ---- the same shapes

moved_shapes : (s : BodyState) (b : Body) → (with_motion s b).shapes ≡ b.shapes
moved_shapes s b = by (is_awake b) (is_carried b)
  where
    by : (m c : Bool) → (cond m (record b { motion = s.motion }) (cond c (carried_to s.motion b) b)).shapes ≡ b.shapes
    by true c = refl
    by false true = refl
    by false false = refl

renewed_shapes : (b : Body) → (with_renewed b).shapes ≡ b.shapes
renewed_shapes b = by (can_move b)
  where
    by : (t : Bool) → (cond t (record b { fats = renewed_boxes (pose_of b) b.shapes b.fats }) b).shapes ≡ b.shapes
    by true = refl
    by false = refl

entry_shapes : (s : BodyState) (o : Option Body) → shapes_of (option_map with_renewed (option_map (with_motion s) o)) ≡ shapes_of o
entry_shapes s None = refl
entry_shapes s (Some b) = renewed_shapes (with_motion s b) ∙ moved_shapes s b

still_shapes : (o : Option Body) → shapes_of (option_map with_renewed o) ≡ shapes_of o
still_shapes None = refl
still_shapes (Some b) = renewed_shapes b

renewed_same_shapes : (bodies : List (Option Body)) → HaveSameShapes bodies (renewed_bodies bodies)
renewed_same_shapes [] slot = refl
renewed_same_shapes (o ∷ os) zero = still_shapes o
renewed_same_shapes (o ∷ os) (suc slot) = renewed_same_shapes os slot

-- a step leaves each body its shapes
pub moved_same_shapes : (bodies : List (Option Body)) (states : List BodyState) → HaveSameShapes bodies (renewed_bodies (with_motions bodies states))
moved_same_shapes [] states slot = refl
moved_same_shapes (o ∷ os) [] slot = renewed_same_shapes (o ∷ os) slot
moved_same_shapes (o ∷ os) (s ∷ ss) zero = entry_shapes s o
moved_same_shapes (o ∷ os) (s ∷ ss) (suc slot) = moved_same_shapes os ss slot

-- ---- timers

-- the body with another timer
timed_one : (ticks : ℕ) (b : Body) → IsBody b → IsBody (timed ticks b)
timed_one ticks b is = by (is_awake b)
  where
    by : (t : Bool) → IsBody (cond t (record b { timer = cond (is_slow b.mass b.motion) (b.timer + ticks) 0 }) b)
    by true = record { mass = is.mass; motion = is.motion; rest = is.rest; asleep = is.asleep; course = is.course; halted = is.halted; shapes = is.shapes; forms = is.forms; fats = is.fats }
    by false = is

timed_entry : (ticks : ℕ) (o : Option Body) (b : Body) → ((a : Body) → o ≡ Some a → IsBody a) → option_map (timed ticks) o ≡ Some b → IsBody b
timed_entry ticks None b is e = absurd (none-some b e)
timed_entry ticks (Some a) b is e = subst IsBody (same_Some (timed ticks a) b e) (timed_one ticks a (is a refl))

pub timed_are_bodies : (ticks : ℕ) (bodies : List (Option Body)) → AreBodies bodies → AreBodies (timed_bodies ticks bodies)
timed_are_bodies ticks [] all slot b e = cc
timed_are_bodies ticks (o ∷ os) all zero b e = timed_entry ticks o b (λ a f. all zero a (ap Some f)) (cc)
timed_are_bodies ticks (o ∷ os) all (suc slot) b e = timed_are_bodies ticks os (λ k c f. all (suc k) c f) slot b e

-- all but its timer stays, and that grows by no more than the ticks
record IsTimedOf (ticks : ℕ) (b now : Body) : Type 0 where
  mover : is_mover now ≡ is_mover b
  enabled : now.enabled ≡ b.enabled
  asleep : now.asleep ≡ b.asleep
  shapes : shapes_in (Some now) ≡ shapes_in (Some b)
  forms : now.shapes ≡ b.shapes
  momentum : momentum_in (Some now) ≡ momentum_in (Some b)
  timer : now.timer ≤ b.timer + ticks

slow_at_most : (slow : Bool) (timer ticks : ℕ) → cond slow (timer + ticks) 0 ≤ timer + ticks
slow_at_most true timer ticks = omega arith
slow_at_most false timer ticks = omega arith

timed_is : (ticks : ℕ) (b : Body) → IsTimedOf ticks b (timed ticks b)
timed_is ticks b = by (is_awake b)
  where
    by : (t : Bool) → IsTimedOf ticks b (cond t (record b { timer = cond (is_slow b.mass b.motion) (b.timer + ticks) 0 }) b)
    by true = record { mover = refl; enabled = refl; asleep = refl; shapes = refl; forms = refl; momentum = refl; timer = slow_at_most (is_slow b.mass b.motion) b.timer ticks }
    by false = record { mover = refl; enabled = refl; asleep = refl; shapes = refl; forms = refl; momentum = refl; timer = omega arith }

timed_at : (ticks : ℕ) (bodies : List (Option Body)) (slot : ℕ) → body_at (timed_bodies ticks bodies) slot ≡ option_map (timed ticks) (body_at bodies slot)
timed_at ticks [] slot = refl
timed_at ticks (o ∷ os) zero = refl
timed_at ticks (o ∷ os) (suc slot) = timed_at ticks os slot

timed_mover : (ticks : ℕ) (o : Option Body) → is_mover_in (option_map (timed ticks) o) ≡ is_mover_in o
timed_mover ticks None = refl
timed_mover ticks (Some b) = (timed_is ticks b).mover

timed_enabled : (ticks : ℕ) (o : Option Body) → is_enabled_in (option_map (timed ticks) o) ≡ is_enabled_in o
timed_enabled ticks None = refl
timed_enabled ticks (Some b) = (timed_is ticks b).enabled

pub timed_alike : (ticks : ℕ) (bodies : List (Option Body)) → AreAlike bodies (timed_bodies ticks bodies)
timed_alike ticks bodies = record {
  enabled = λ slot. ap is_enabled_in (timed_at ticks bodies slot) ∙ timed_enabled ticks (body_at bodies slot);
  movers = λ slot. ap is_mover_in (timed_at ticks bodies slot) ∙ timed_mover ticks (body_at bodies slot);
}

-- bodies that were told stay so as time passes
told_before : (ticks : ℕ) (o : Option Body) (c : Body) → option_map (timed ticks) o ≡ Some c → (b : Body) × (o ≡ Some b) × (c.asleep ≡ b.asleep)
told_before ticks None c e = cc
told_before ticks (Some b) c e = (b, refl, sym (ap (λ (x : Body). x.asleep) (same_Some (timed ticks b) c e)) ∙ (timed_is ticks b).asleep)

pub timed_told : (ticks : ℕ) (bodies : List (Option Body)) (labels : Labels) → AreTold bodies labels → AreTold (timed_bodies ticks bodies) labels
timed_told ticks bodies labels told slot c at =
    let was = told_before ticks (body_at bodies slot) c (sym (timed_at ticks bodies slot) ∙ at) in
    was.2 ∙ told slot was.0 was.1

timed_there : (ticks : ℕ) (o : Option Body) → is_some (option_map (timed ticks) o) ≡ is_some o
timed_there ticks None = refl
timed_there ticks (Some b) = refl

timed_shapes : (ticks : ℕ) (o : Option Body) → shapes_in (option_map (timed ticks) o) ≡ shapes_in o
timed_shapes ticks None = refl
timed_shapes ticks (Some b) = (timed_is ticks b).shapes

timed_forms : (ticks : ℕ) (o : Option Body) → shapes_of (option_map (timed ticks) o) ≡ shapes_of o
timed_forms ticks None = refl
timed_forms ticks (Some b) = (timed_is ticks b).forms

pub timed_same_shapes : (ticks : ℕ) (bodies : List (Option Body)) → HaveSameShapes bodies (timed_bodies ticks bodies)
timed_same_shapes ticks bodies slot = ap shapes_of (timed_at ticks bodies slot) ∙ timed_forms ticks (body_at bodies slot)

timed_length : (ticks : ℕ) (bodies : List (Option Body)) → length (timed_bodies ticks bodies) ≡ length bodies
timed_length ticks [] = refl
timed_length ticks (o ∷ os) = ap suc (timed_length ticks os)

pub timed_same_slots : (ticks : ℕ) (bodies : List (Option Body)) → HaveSameSlots bodies (timed_bodies ticks bodies)
timed_same_slots ticks bodies = record {
  slots = timed_length ticks bodies;
  taken = λ slot. ap is_some (timed_at ticks bodies slot) ∙ timed_there ticks (body_at bodies slot);
  shapes = λ slot. ap shapes_in (timed_at ticks bodies slot) ∙ timed_shapes ticks (body_at bodies slot);
}

timed_part : (ticks : ℕ) (o : Option Body) → momentum_in (option_map (timed ticks) o) ≡ momentum_in o
timed_part ticks None = refl
timed_part ticks (Some b) = (timed_is ticks b).momentum

pub timed_momentum : (ticks : ℕ) (bodies : List (Option Body)) → momentum (timed_bodies ticks bodies) ≡ momentum bodies
timed_momentum ticks [] = refl
timed_momentum ticks (o ∷ os) = ap₂ plus (timed_part ticks o) (timed_momentum ticks os)

-- the body whose timer has grown
record WasTimed (ticks : ℕ) (o : Option Body) (b : Body) : Type 0 where
  body : Body
  there : o ≡ Some body
  timer : b.timer ≤ body.timer + ticks

was_timed : (ticks : ℕ) (o : Option Body) (b : Body) → option_map (timed ticks) o ≡ Some b → WasTimed ticks o b
was_timed ticks None b e = absurd (none-some b e)
was_timed ticks (Some a) b e = record { body = a; there = refl; timer = subst (λ (c : Body). c.timer ≤ a.timer + ticks) (same_Some (timed ticks a) b e) (timed_is ticks a).timer }

-- a step has 8 ticks at most
pub timed_timers : (ticks : ℕ) (bodies : List (Option Body)) (steps : ℕ) → ticks ≤ 8 → AreTimers steps bodies → AreTimers (steps + 1) (timed_bodies ticks bodies)
timed_timers ticks bodies steps few all slot b at =
    let was = was_timed ticks (body_at bodies slot) b (sym (timed_at ticks bodies slot) ∙ at) in
    let small = all slot was.body was.there in
    let more = was.timer in
    omega (arith, small, more)

-- ---- both together

pub alike_then : (old now new : List (Option Body)) → AreAlike old now → AreAlike now new → AreAlike old new
alike_then old now new h k = record { enabled = λ slot. k.enabled slot ∙ h.enabled slot; movers = λ slot. k.movers slot ∙ h.movers slot }

pub slots_then : (old now new : List (Option Body)) → HaveSameSlots old now → HaveSameSlots now new → HaveSameSlots old new
slots_then old now new h k = record { slots = k.slots ∙ h.slots; taken = λ slot. k.taken slot ∙ h.taken slot; shapes = λ slot. k.shapes slot ∙ h.shapes slot }
