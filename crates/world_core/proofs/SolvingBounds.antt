-- The momenta of a step's bodies stay within a bound, and so does what gravity and the limits add to their sum.
use Rattle.std.proofs.Common.{◌≡◌, ℕ, zero, suc, ◌+◌, ◌*◌, ◌≤◌, ◌^◌, Bool, true, false, cond, nat_le, List, [], ◌∷◌, length, map, Option, Some, None, ℤ, pos, negsuc, ◌+ℤ◌, unsigned_abs, arith, refl, subst}
use Rattle.std.specs.Prelude.{option_map, slice_set, ◌*ℤ◌}
use Rattle.std.proofs.lemmas.Int.{ints}
use Rattle.std.proofs.lemmas.Option.{none-some, same_Some}
use Rattle.std.specs.Option.{option_map_or}
use Rattle.fixed_geom.specs.Numbers.{rdiv}
use Rattle.fixed_geom.specs.Vectors.{IsWithin, plus, zero_vector}
use Rattle.fixed_geom.specs.declared.boxes.Box2.{Box2}
use Rattle.fixed_geom.specs.declared.limits.TheConstants.{MAX_POSITION}
use Rattle.fixed_geom.specs.declared.vectors.Vec2.{Vec2}
use Rattle.fixed_geom.proofs.Sizes.{product_le}
use Rattle.momenta.specs.Gains.{IsGain}
use Rattle.momenta.specs.Motions.{advanced, aim, speed_clamped, pulled, signed_as}
use Rattle.momenta.specs.declared.gain.Gain.{Gain}
use Rattle.momenta.specs.declared.limits.TheConstants.{MAX_SPEED}
use Rattle.momenta.specs.declared.mass.MassData.{MassData}
use Rattle.momenta.specs.declared.motion.Motion.{Motion}
use Rattle.momenta.specs.declared.state.BodyState.{BodyState}
use Rattle.colour_solver.specs.Masses.{carrier}
use Rattle.plain_world.specs.declared.constraint.Constraint.{Constraint}
use Rattle.plain_world.specs.declared.constraint.Constraint.TheVariants as constraints
use Rattle.contacts_base.specs.Contacts.{lookup}
use Rattle.contacts_base.specs.declared.contact.ContactEntry.{ContactEntry}
use Rattle.contacts_base.specs.declared.key.ContactKey.{ContactKey}
use Rattle.plain_world.specs.Bodies.{AreBodies, IsBody, IsMassOf, can_move, is_awake, is_carried, is_mover, pose_of}
use Rattle.plain_world.specs.Fats.{renewed_boxes}
use Rattle.plain_world.specs.Joints.{joint_at}
use Rattle.plain_world.specs.Kinds.{carried_by}
use Rattle.plain_world.specs.Momentum.{momentum, momentum_in}
use Rattle.plain_world.specs.Sleep.{is_slow, timed, timed_bodies}
use Rattle.plain_world.specs.declared.body.Body.{Body}
use Rattle.plain_world.specs.declared.joint.BodyJoint.{BodyJoint}
use Rattle.plain_world.specs.declared.kind.Kind.{Kind}
use Rattle.plain_world.specs.declared.kind.Kind.TheVariants.{Static, Kinematic, Dynamic}
use Rattle.plain_world.specs.Slots.{item_at}
use Rattle.world_core_base.specs.Carried.{carried_motion, carried_to}
use Rattle.world_core_base.specs.Renewal.{renewed_bodies, with_renewed}
use Rattle.world_core_base.specs.Solving as steps
use Rattle.world_core_base.specs.Solving.{Moving, Solving, Visits, all_changed, carried_on, begin, bodies_of, bounce, carry, motion_changed, clamp, ends_now, gain, gain_between, left, after_impulse, moving, pass, pull, solve, solved, tick, ticks, row_visit, visit_between, visit_joined, warm, nothing}
use Rattle.world_core.proofs.ImpulseBounds.{AreEndsWithin, KeepsWithin, bounce_keeps, solve_keeps, warm_keeps, wider}

-- ---- bodies in a step

-- the body's mass is within its limit, and no component of its momentum, now or as the step began, is beyond k
pub record IsBound (k : ℕ) (m : Moving) : Type 0 where
  pub mass : unsigned_abs m.body.mass.mass ≤ 2 ^ 20
  pub p : IsWithin k m.motion.p
  pub own : IsWithin k m.body.motion.p

abbrev pub AreBound : ℕ → List (Option Moving) → Type 0
AreBound k [] = Unit {0}
AreBound k (None ∷ ms) = AreBound k ms
AreBound k (Some m ∷ ms) = IsBound k m × AreBound k ms

bound_wider : (k n : ℕ) (ms : List (Option Moving)) → k ≤ n → AreBound k ms → AreBound n ms
bound_wider k n [] le h = tt
bound_wider k n (None ∷ ms) le h = bound_wider k n ms le h
bound_wider k n (Some m ∷ ms) le h = (record { mass = h.0.mass; p = wider k n m.motion.p le h.0.p; own = wider k n m.body.motion.p le h.0.own }, bound_wider k n ms le h.1)

at_bound : (k : ℕ) (ms : List (Option Moving)) (slot : ℕ) (m : Moving) → AreBound k ms → item_at ms slot ≡ Some m → IsBound k m
at_bound k [] slot m h e = absurd (none-some m e)
at_bound k (None ∷ ms) zero m h e = absurd (none-some m e)
at_bound k (Some o ∷ ms) zero m h e = subst (IsBound k) (same_Some o m e) h.0
at_bound k (None ∷ ms) (suc slot) m h e = at_bound k ms slot m h e
at_bound k (Some o ∷ ms) (suc slot) m h e = at_bound k ms slot m h.1 e

set_bound : (k : ℕ) (ms : List (Option Moving)) (slot : ℕ) (m : Moving) → AreBound k ms → IsBound k m → AreBound k (slice_set ms slot (Some m))
set_bound k [] slot m h is = tt
set_bound k (None ∷ ms) zero m h is = (is, h)
set_bound k (Some o ∷ ms) zero m h is = (is, h.1)
set_bound k (None ∷ ms) (suc slot) m h is = set_bound k ms slot m h is
set_bound k (Some o ∷ ms) (suc slot) m h is = (h.0, set_bound k ms slot m h.1 is)

length_set : (ms : List (Option Moving)) (slot : ℕ) (o : Option Moving) → length (slice_set ms slot o) ≤ length ms
length_set [] slot o = omega arith
length_set (x ∷ ms) zero o = omega arith
length_set (x ∷ ms) (suc slot) o = let rest = length_set ms slot o in omega (arith, rest)

-- what is known of a step so far: the bound of the momenta, and of what gravity and the limits have added to their sum
pub record IsBounded (k g c : ℕ) (s : Solving) : Type 0 where
  pub bodies : AreBound k s.bodies
  pub few : length s.bodies ≤ 2 ^ 16
  pub gravity : IsGain g s.sums.gravity
  pub clamp : IsGain c s.sums.clamp

-- ---- the visit of a constraint

left_bound : (k : ℕ) (s : BodyState) (m : Moving) → IsBound k m → IsWithin k s.motion.p → IsBound k (after_impulse s m)
left_bound k s m is h = record { mass = is.mass; p = h; own = is.own }

-- two bodies put back
back_bound : (k : ℕ) (ms : List (Option Moving)) (i j : ℕ) (a b : Moving) → AreBound k ms → IsBound k a → IsBound k b → AreBound k (slice_set (slice_set ms i (Some a)) j (Some b))
back_bound k ms i j a b h is_a is_b = set_bound k (slice_set ms i (Some a)) j b (set_bound k ms i a h is_a) is_b

back_few : (ms : List (Option Moving)) (i j : ℕ) (a b : Option Moving) → length ms ≤ 2 ^ 16 → length (slice_set (slice_set ms i a) j b) ≤ 2 ^ 16
back_few ms i j a b few = let first = length_set ms i a in let second = length_set (slice_set ms i a) j b in omega (arith, first, second, few)

joined_bound : (k g c : ℕ) (f : Visits) (s : Solving) (slot : ℕ) (j : BodyJoint) (a b : Option Moving) → KeepsWithin k f → IsBounded k g c s → item_at s.bodies j.a ≡ a → item_at s.bodies j.b ≡ b → IsBounded k g c (visit_joined f s slot j a b)
joined_bound k g c f s slot j None b keeps h at_a at_b = h
joined_bound k g c f s slot j (Some a) None keeps h at_a at_b = h
joined_bound k g c f s slot j (Some a) (Some b) keeps h at_a at_b =
    let is_a : IsBound k a = at_bound k s.bodies j.a a h.bodies at_a in
    let is_b : IsBound k b = at_bound k s.bodies j.b b h.bodies at_b in
    let after = f.joint j.joint (steps.ends_then a b) (ends_now a b) in
    let within : AreEndsWithin k after.ends = keeps.joint j.joint (steps.ends_then a b) (ends_now a b) (record { a = is_a.p; b = is_b.p }) in
    record {
      bodies = back_bound k s.bodies j.a j.b (after_impulse after.ends.a a) (after_impulse after.ends.b b) h.bodies (left_bound k after.ends.a a is_a within.a) (left_bound k after.ends.b b is_b within.b);
      few = back_few s.bodies j.a j.b (Some (after_impulse after.ends.a a)) (Some (after_impulse after.ends.b b)) h.few;
      gravity = h.gravity;
      clamp = h.clamp;
    }

joint_bound : (k g c : ℕ) (f : Visits) (s : Solving) (slot : ℕ) (o : Option BodyJoint) → KeepsWithin k f → IsBounded k g c s → IsBounded k g c (option_map_or (λ (j : BodyJoint). visit_joined f s slot j (item_at s.bodies j.a) (item_at s.bodies j.b)) o s)
joint_bound k g c f s slot None keeps h = h
joint_bound k g c f s slot (Some j) keeps h = joined_bound k g c f s slot j (item_at s.bodies j.a) (item_at s.bodies j.b) keeps h refl refl

between_bound : (k g c : ℕ) (f : Visits) (s : Solving) (key : ContactKey) (o : Option ContactEntry) (a b : Option Moving) → KeepsWithin k f → IsBounded k g c s → item_at s.bodies key.first.slot ≡ a → item_at s.bodies key.second.slot ≡ b → IsBounded k g c (visit_between f s key o a b)
between_bound k g c f s key None a b keeps h at_a at_b = h
between_bound k g c f s key (Some e) None b keeps h at_a at_b = h
between_bound k g c f s key (Some e) (Some a) None keeps h at_a at_b = h
between_bound k g c f s key (Some e) (Some a) (Some b) keeps h at_a at_b =
    let is_a : IsBound k a = at_bound k s.bodies key.first.slot a h.bodies at_a in
    let is_b : IsBound k b = at_bound k s.bodies key.second.slot b h.bodies at_b in
    let after = f.contact e (steps.ends_then a b) (ends_now a b) in
    let within : AreEndsWithin k after.ends = keeps.contact e (steps.ends_then a b) (ends_now a b) (record { a = is_a.p; b = is_b.p }) in
    record {
      bodies = back_bound k s.bodies key.first.slot key.second.slot (after_impulse after.ends.a a) (after_impulse after.ends.b b) h.bodies (left_bound k after.ends.a a is_a within.a) (left_bound k after.ends.b b is_b within.b);
      few = back_few s.bodies key.first.slot key.second.slot (Some (after_impulse after.ends.a a)) (Some (after_impulse after.ends.b b)) h.few;
      gravity = h.gravity;
      clamp = h.clamp;
    }

turn_bound : (k g c : ℕ) (f : Visits) (s : Solving) (id : Constraint) → KeepsWithin k f → IsBounded k g c s → IsBounded k g c (row_visit f s id)
turn_bound k g c f s (constraints.Joint h) keeps is = joint_bound k g c f s h.slot (joint_at s.joints h.slot) keeps is
turn_bound k g c f s (constraints.Contact key) keeps is = between_bound k g c f s key (lookup s.contacts key) (item_at s.bodies key.first.slot) (item_at s.bodies key.second.slot) keeps is refl refl

pass_bound : (k g c : ℕ) (f : Visits) (order : List Constraint) (s : Solving) → KeepsWithin k f → IsBounded k g c s → IsBounded k g c (pass f order s)
pass_bound k g c f [] s keeps h = h
pass_bound k g c f (id ∷ order) s keeps h = pass_bound k g c f order (row_visit f s id) keeps (turn_bound k g c f s id keeps h)

-- ---- a pass over the bodies

-- a change of a motion leads from one bound to the other
abbrev Leads : ℕ → ℕ → (MassData → Motion → Motion) → Type 0
Leads k n f = (m : MassData) (s : Motion) → unsigned_abs m.mass ≤ 2 ^ 20 → IsWithin k s.p → IsWithin n (f m s).p

changed_if : (k n : ℕ) (t : Bool) (m : Moving) (s : Motion) → k ≤ n → IsBound k m → IsWithin n s.p → IsBound n (cond t (record m { motion = s }) m)
changed_if k n true m s le h new = record { mass = h.mass; p = new; own = wider k n m.body.motion.p le h.own }
changed_if k n false m s le h new = record { mass = h.mass; p = wider k n m.motion.p le h.p; own = wider k n m.body.motion.p le h.own }

all_bound : (k n : ℕ) (f : MassData → Motion → Motion) (ms : List (Option Moving)) → k ≤ n → Leads k n f → AreBound k ms → AreBound n (all_changed f ms)
all_bound k n f [] le leads h = tt
all_bound k n f (None ∷ ms) le leads h = all_bound k n f ms le leads h
all_bound k n f (Some m ∷ ms) le leads h = (changed_if k n (is_awake m.body) m (f m.body.mass m.motion) le h.0 (leads m.body.mass m.motion h.0.mass h.0.p), all_bound k n f ms le leads h.1)

length_changed : (f : MassData → Motion → Motion) (ms : List (Option Moving)) → length (all_changed f ms) ≡ length ms
length_changed f [] = refl
length_changed f (o ∷ ms) = let rest = length_changed f ms in omega (arith, rest)

-- what one body gains
one_gain : (k n : ℕ) (a b : Motion) → k ≤ 2 ^ 60 + 2 ^ 40 → n ≤ 2 ^ 60 + 2 ^ 40 → IsWithin k a.p → IsWithin n b.p → IsGain (2 ^ 61 + 2 ^ 41) (gain_between a b)
one_gain k n a b few most h i =
    let h_x = h.x in let h_y = h.y in let i_x = i.x in let i_y = i.y in
    record { x = omega (arith, ints, few, most, h_x, i_x); y = omega (arith, ints, few, most, h_y, i_y) }

one_more : (size : ℕ) (g rest : Gain) → IsGain (2 ^ 61 + 2 ^ 41) g → IsGain (size * (2 ^ 61 + 2 ^ 41)) rest → IsGain (suc size * (2 ^ 61 + 2 ^ 41)) (steps.gain_sum g rest)
one_more size g rest h i =
    let h_x = h.x in let h_y = h.y in let i_x = i.x in let i_y = i.y in
    record { x = omega (arith, ints, h_x, i_x); y = omega (arith, ints, h_y, i_y) }

none_more : (size : ℕ) (rest : Gain) → IsGain (size * (2 ^ 61 + 2 ^ 41)) rest → IsGain (suc size * (2 ^ 61 + 2 ^ 41)) (steps.gain_sum steps.nothing rest)
none_more size rest i = let i_x = i.x in let i_y = i.y in record { x = omega (arith, ints, i_x); y = omega (arith, ints, i_y) }

gain_bound : (k n : ℕ) (f : MassData → Motion → Motion) (ms : List (Option Moving)) → k ≤ n → n ≤ 2 ^ 60 + 2 ^ 40 → Leads k n f → AreBound k ms → IsGain (length ms * (2 ^ 61 + 2 ^ 41)) (gain f ms)
gain_bound k n f [] le most leads h = record { x = omega arith; y = omega arith }
gain_bound k n f (None ∷ ms) le most leads h = none_more (length ms) (gain f ms) (gain_bound k n f ms le most leads h)
gain_bound k n f (Some m ∷ ms) le most leads h =
    let now = changed_if k n (is_awake m.body) m (f m.body.mass m.motion) le h.0 (leads m.body.mass m.motion h.0.mass h.0.p) in
    one_more (length ms) (option_map_or (λ (m : Moving). gain_between m.motion (motion_changed f m).motion) (Some m) nothing) (gain f ms) (one_gain k n m.motion (motion_changed f m).motion (omega (arith, le, most)) most h.0.p now.p) (gain_bound k n f ms le most leads h.1)

-- all that a pass can add
abbrev pub pass_most : ℕ
pass_most = 2 ^ 77 + 2 ^ 57

sum_bound : (size g : ℕ) (a b : Gain) → size ≤ 2 ^ 16 → IsGain g a → IsGain (size * (2 ^ 61 + 2 ^ 41)) b → IsGain (g + pass_most) (steps.gain_sum a b)
sum_bound size g a b few h i =
    let h_x = h.x in let h_y = h.y in let i_x = i.x in let i_y = i.y in
    record { x = omega (arith, ints, few, h_x, i_x); y = omega (arith, ints, few, h_y, i_y) }

-- ---- gravity, the speed limit, and the move

pulled_leads : (k : ℕ) (gravity : Vec2) → IsWithin (2 ^ 16) gravity → Leads k (k + 2 ^ 36) (pulled gravity)
unfolding pulled
pulled_leads k gravity small m s mass h =
    let by_x = product_le m.mass gravity.x (2 ^ 20) (2 ^ 16) mass small.x in
    let by_y = product_le m.mass gravity.y (2 ^ 20) (2 ^ 16) mass small.y in
    let h_x = h.x in let h_y = h.y in
    record { x = added s.p.x (m.mass *ℤ gravity.x) k h_x by_x; y = added s.p.y (m.mass *ℤ gravity.y) k h_y by_y }
  where
    added : (p z : ℤ) (k : ℕ) → unsigned_abs p ≤ k → unsigned_abs z ≤ 2 ^ 20 * 2 ^ 16 → unsigned_abs (p +ℤ z) ≤ k + 2 ^ 36
    added p z k f g = omega (arith, ints, f, g)

either_within : (k : ℕ) (t : Bool) (p z : ℤ) → unsigned_abs p ≤ k → unsigned_abs z ≤ k → unsigned_abs (cond t p z) ≤ k
either_within k true p z f g = f
either_within k false p z f g = g

signed_within : (p : ℤ) (n : ℕ) → unsigned_abs (signed_as p n) ≤ n
signed_within (pos m) n = omega arith
signed_within (negsuc m) n = omega (arith, ints)

limit_within : (mass p : ℤ) (k : ℕ) → unsigned_abs mass ≤ 2 ^ 20 → 2 ^ 40 ≤ k → unsigned_abs (mass *ℤ signed_as p (unsigned_abs MAX_SPEED)) ≤ k
limit_within mass p k small le =
    let by = product_le mass (signed_as p (unsigned_abs MAX_SPEED)) (2 ^ 20) (unsigned_abs MAX_SPEED) small (signed_within p (unsigned_abs MAX_SPEED)) in
    omega (arith, by, le)

clamped_leads : (k : ℕ) → 2 ^ 40 ≤ k → Leads k k speed_clamped
unfolding speed_clamped
clamped_leads k le m s mass h = record {
  x = either_within k (nat_le (unsigned_abs (rdiv s.p.x m.mass)) (unsigned_abs MAX_SPEED)) s.p.x _ h.x (limit_within m.mass s.p.x k mass le);
  y = either_within k (nat_le (unsigned_abs (rdiv s.p.y m.mass)) (unsigned_abs MAX_SPEED)) s.p.y _ h.y (limit_within m.mass s.p.y k mass le);
}

advanced_leads : (k : ℕ) → Leads k k advanced
unfolding advanced
advanced_leads k m s mass h = record {
  x = either_within k (nat_le (unsigned_abs (aim m s).x) (unsigned_abs MAX_POSITION)) s.p.x (pos 0) h.x (omega arith);
  y = either_within k (nat_le (unsigned_abs (aim m s).y) (unsigned_abs MAX_POSITION)) s.p.y (pos 0) h.y (omega arith);
}

along_if : (k : ℕ) (t : Bool) (m : Moving) → IsBound k m → IsBound k (cond t (record m { motion = advanced carrier m.motion }) m)
along_if k true m h = record { mass = h.mass; p = advanced_leads k carrier m.motion (omega arith) h.p; own = h.own }
along_if k false m h = h

carried_bound : (k : ℕ) (ms : List (Option Moving)) → AreBound k ms → AreBound k (map (option_map carried_on) ms)
carried_bound k [] h = tt
carried_bound k (None ∷ ms) h = carried_bound k ms h
carried_bound k (Some m ∷ ms) h = (along_if k (is_carried m.body) m h.0, carried_bound k ms h.1)

length_along : (ms : List (Option Moving)) → length (map (option_map carried_on) ms) ≡ length ms
length_along [] = refl
length_along (o ∷ ms) = let rest = length_along ms in omega (arith, rest)

-- ---- the passes of a tick

pull_bound : (k g c : ℕ) (gravity : Vec2) (s : Solving) → k + 2 ^ 36 ≤ 2 ^ 60 + 2 ^ 40 → IsWithin (2 ^ 16) gravity → IsBounded k g c s → IsBounded (k + 2 ^ 36) (g + pass_most) c (pull gravity s)
pull_bound k g c gravity s most small h =
    let long = length_changed (pulled gravity) s.bodies in
    let few = h.few in
    let le : k ≤ k + 2 ^ 36 = omega arith in
    record {
      bodies = all_bound k (k + 2 ^ 36) (pulled gravity) s.bodies le (pulled_leads k gravity small) h.bodies;
      few = omega (arith, long, few);
      gravity = sum_bound (length s.bodies) g s.sums.gravity (gain (pulled gravity) s.bodies) h.few h.gravity (gain_bound k (k + 2 ^ 36) (pulled gravity) s.bodies le most (pulled_leads k gravity small) h.bodies);
      clamp = h.clamp;
    }

clamp_bound : (k g c : ℕ) (f : MassData → Motion → Motion) (s : Solving) → k ≤ 2 ^ 60 + 2 ^ 40 → Leads k k f → IsBounded k g c s → IsBounded k g (c + pass_most) (clamp f s)
clamp_bound k g c f s most leads h =
    let long = length_changed f s.bodies in
    let few = h.few in
    let le : k ≤ k = omega arith in
    record {
      bodies = all_bound k k f s.bodies le leads h.bodies;
      few = omega (arith, long, few);
      gravity = h.gravity;
      clamp = sum_bound (length s.bodies) c s.sums.clamp (gain f s.bodies) h.few h.clamp (gain_bound k k f s.bodies le most leads h.bodies);
    }

carry_bound : (k g c : ℕ) (s : Solving) → IsBounded k g c s → IsBounded k g c (carry s)
carry_bound k g c s h =
    let long = length_along s.bodies in
    let few = h.few in
    record { bodies = carried_bound k s.bodies h.bodies; few = omega (arith, long, few); gravity = h.gravity; clamp = h.clamp }

tick_bound : (k g c : ℕ) (gravity : Vec2) (order : List Constraint) (s : Solving) → 2 ^ 60 ≤ k → k + 2 ^ 36 ≤ 2 ^ 60 + 2 ^ 40 → IsWithin (2 ^ 16) gravity → IsBounded k g c s
    → IsBounded (k + 2 ^ 36) (g + pass_most) (c + pass_most + pass_most + pass_most) (tick gravity order s)
tick_bound k g c gravity order s least most small h =
    let n : ℕ = k + 2 ^ 36 in
    let wide : 2 ^ 60 ≤ k + 2 ^ 36 = omega (arith, least) in
    let room : 2 ^ 40 ≤ k + 2 ^ 36 = omega (arith, least) in
    let s_1 : Solving = pull gravity s in
    let s_2 : Solving = clamp speed_clamped s_1 in
    let s_3 : Solving = pass warm order s_2 in
    let s_4 : Solving = pass solve order s_3 in
    let s_5 : Solving = clamp speed_clamped s_4 in
    let s_6 : Solving = clamp advanced s_5 in
    let h_1 = pull_bound k g c gravity s most small h in
    let h_2 = clamp_bound (k + 2 ^ 36) (g + pass_most) c speed_clamped s_1 most (clamped_leads (k + 2 ^ 36) room) h_1 in
    let h_3 = pass_bound (k + 2 ^ 36) (g + pass_most) (c + pass_most) warm order s_2 (warm_keeps (k + 2 ^ 36) wide) h_2 in
    let h_4 = pass_bound (k + 2 ^ 36) (g + pass_most) (c + pass_most) solve order s_3 (solve_keeps (k + 2 ^ 36) wide) h_3 in
    let h_5 = clamp_bound (k + 2 ^ 36) (g + pass_most) (c + pass_most) speed_clamped s_4 most (clamped_leads (k + 2 ^ 36) room) h_4 in
    let h_6 = clamp_bound (k + 2 ^ 36) (g + pass_most) (c + pass_most + pass_most) advanced s_5 most (advanced_leads (k + 2 ^ 36)) h_5 in
    carry_bound (k + 2 ^ 36) (g + pass_most) (c + pass_most + pass_most + pass_most) s_6 h_6

gain_wider : (m n : ℕ) (g : Gain) → m ≤ n → IsGain m g → IsGain n g
gain_wider m n g le h = let x = h.x in let y = h.y in record { x = omega (arith, x, le); y = omega (arith, y, le) }

bounded_wider : (k g c k_2 g_2 c_2 : ℕ) (s : Solving) → k ≤ k_2 → g ≤ g_2 → c ≤ c_2 → IsBounded k g c s → IsBounded k_2 g_2 c_2 s
bounded_wider k g c k_2 g_2 c_2 s f e d h = record { bodies = bound_wider k k_2 s.bodies f h.bodies; few = h.few; gravity = gain_wider g g_2 s.sums.gravity e h.gravity; clamp = gain_wider c c_2 s.sums.clamp d h.clamp }

ticks_bound : (n : ℕ) (gravity : Vec2) (order : List Constraint) (s : Solving) → n ≤ 8 → IsWithin (2 ^ 16) gravity → IsBounded (2 ^ 60) 0 0 s → IsBounded (2 ^ 60 + n * 2 ^ 36) (n * pass_most) (n * (3 * pass_most)) (ticks n gravity order s)
ticks_bound zero gravity order s few small h = bounded_wider (2 ^ 60) 0 0 (2 ^ 60 + 0 * 2 ^ 36) (0 * pass_most) (0 * (3 * pass_most)) s (omega arith) (omega arith) (omega arith) h
ticks_bound (suc n) gravity order s few small h =
    let rest = ticks_bound n gravity order s (omega (arith, few)) small h in
    bounded_wider (2 ^ 60 + n * 2 ^ 36 + 2 ^ 36) (n * pass_most + pass_most) (n * (3 * pass_most) + pass_most + pass_most + pass_most) (2 ^ 60 + suc n * 2 ^ 36) (suc n * pass_most) (suc n * (3 * pass_most)) (ticks (suc n) gravity order s) (omega arith) (omega arith) (omega arith)
    (tick_bound (2 ^ 60 + n * 2 ^ 36) (n * pass_most) (n * (3 * pass_most)) gravity order (ticks n gravity order s) (omega arith) (omega (arith, few)) small rest)

-- ---- the bodies as the step finds them

small_mass : (kind : Kind) (m : MassData) → IsMassOf kind m → unsigned_abs m.mass ≤ 2 ^ 20
small_mass Static m h = let none = h.0 in omega (arith, ints, none)
small_mass (Kinematic course) m h = let none = h.0 in omega (arith, ints, none)
small_mass Dynamic m h = h.mass

found_within : (t : Bool) (b : Body) → IsBody b → IsWithin (2 ^ 60) (cond t b.motion (carried_motion b)).p
found_within true b is = is.motion.p
found_within false b is = wider (2 ^ 20) (2 ^ 60) (carried_by b.kind).velocity (omega arith) is.course.velocity

begin_bound : (bodies : List (Option Body)) → AreBodies bodies → AreBound (2 ^ 60) (map (option_map moving) bodies)
begin_bound [] all = tt
begin_bound (None ∷ bodies) all = begin_bound bodies (λ slot b e. all (suc slot) b e)
begin_bound (Some b ∷ bodies) all =
    let is : IsBody b = all 0 b refl in
    (record { mass = small_mass b.kind b.mass is.mass; p = found_within (is_awake b) b is; own = is.motion.p }, begin_bound bodies (λ slot b e. all (suc slot) b e))

length_moving : (bodies : List (Option Body)) → length (map (option_map moving) bodies) ≡ length bodies
length_moving [] = refl
length_moving (o ∷ bodies) = let rest = length_moving bodies in omega (arith, rest)

-- ---- a whole step

pub solved_bound : (n : ℕ) (gravity : Vec2) (order : List Constraint) (bodies : List (Option Body)) (joints : List (Option BodyJoint)) (contacts : List ContactEntry) → n ≤ 8 → IsWithin (2 ^ 16) gravity → AreBodies bodies → length bodies ≤ 2 ^ 16
    → IsBounded (2 ^ 60 + 2 ^ 40) (8 * pass_most) (24 * pass_most) (solved n gravity order bodies joints contacts)
unfolding solved
solved_bound n gravity order bodies joints contacts few small all most =
    let first : Solving = begin bodies joints contacts in
    let long = length_moving bodies in
    let start : IsBounded (2 ^ 60) 0 0 first = record {
      bodies = begin_bound bodies all;
      few = omega (arith, long, most);
      gravity = record { x = omega arith; y = omega arith };
      clamp = record { x = omega arith; y = omega arith };
    } in
    pass_bound (2 ^ 60 + 2 ^ 40) (8 * pass_most) (24 * pass_most) bounce order (ticks n gravity order first) (bounce_keeps (2 ^ 60 + 2 ^ 40) (omega arith))
    (bounded_wider (2 ^ 60 + n * 2 ^ 36) (n * pass_most) (n * (3 * pass_most)) (2 ^ 60 + 2 ^ 40) (8 * pass_most) (24 * pass_most) (ticks n gravity order first) (omega (arith, few)) (omega (arith, few)) (omega (arith, few))
    (ticks_bound n gravity order first few small start))

-- ---- and the bodies as it leaves them

moved_within : (k : ℕ) (t u : Bool) (m : Motion) (b : Body) → IsWithin k m.p → IsWithin k b.motion.p → IsWithin k (cond t (record b { motion = m }) (cond u (carried_to m b) b)).motion.p
moved_within k true u m b h own = h
moved_within k false true m b h own = own
moved_within k false false m b h own = own

renewed_within : (k : ℕ) (t : Bool) (b : Body) (fats : List Box2) → IsWithin k b.motion.p → IsWithin k (cond t (record b { fats = fats }) b).motion.p
renewed_within k true b fats h = h
renewed_within k false b fats h = h

timed_within : (k : ℕ) (t : Bool) (b : Body) (timer : ℕ) → IsWithin k b.motion.p → IsWithin k (cond t (record b { timer = timer }) b).motion.p
timed_within k true b timer h = h
timed_within k false b timer h = h

left_within : (k n : ℕ) (m : Moving) → IsBound k m → IsWithin k (timed n (with_renewed (left m))).motion.p
left_within k n m h =
    let b : Body = left m in
    let c : Body = with_renewed b in
    timed_within k (is_awake c) c (cond (is_slow c.mass c.motion) (c.timer + n) 0)
    (renewed_within k (can_move b) b (renewed_boxes (pose_of b) b.shapes b.fats)
    (moved_within k (is_awake m.body) (is_carried m.body) m.motion m.body h.p h.own))

part_within : (k : ℕ) (t : Bool) (v : Vec2) → IsWithin k v → IsWithin k (cond t v zero_vector)
part_within k true v h = h
part_within k false v h = record { x = omega arith; y = omega arith }

sum_within : (size : ℕ) (v rest : Vec2) → IsWithin (2 ^ 60 + 2 ^ 40) v → IsWithin (size * (2 ^ 60 + 2 ^ 40)) rest → IsWithin (suc size * (2 ^ 60 + 2 ^ 40)) (plus v rest)
sum_within size v rest h i =
    let h_x = h.x in let h_y = h.y in let i_x = i.x in let i_y = i.y in
    record { x = omega (arith, ints, h_x, i_x); y = omega (arith, ints, h_y, i_y) }

momentum_within : (n : ℕ) (ms : List (Option Moving)) → AreBound (2 ^ 60 + 2 ^ 40) ms → IsWithin (length ms * (2 ^ 60 + 2 ^ 40)) (momentum (timed_bodies n (renewed_bodies (map (option_map left) ms))))
momentum_within n [] h = record { x = omega arith; y = omega arith }
momentum_within n (None ∷ ms) h =
    sum_within (length ms) zero_vector (momentum (timed_bodies n (renewed_bodies (map (option_map left) ms)))) (record { x = omega arith; y = omega arith }) (momentum_within n ms h)
momentum_within n (Some m ∷ ms) h =
    let b : Body = timed n (with_renewed (left m)) in
    sum_within (length ms) (momentum_in (Some b)) (momentum (timed_bodies n (renewed_bodies (map (option_map left) ms)))) (part_within (2 ^ 60 + 2 ^ 40) (is_mover b) b.motion.p (left_within (2 ^ 60 + 2 ^ 40) n m h.0)) (momentum_within n ms h.1)

few_within : (size : ℕ) (v : Vec2) → size ≤ 2 ^ 16 → IsWithin (size * (2 ^ 60 + 2 ^ 40)) v → IsWithin (2 ^ 76 + 2 ^ 56) v
few_within size v few h = let h_x = h.x in let h_y = h.y in record { x = omega (arith, few, h_x); y = omega (arith, few, h_y) }

-- the momentum of the bodies that a step leaves, before any of them falls asleep
pub left_momentum : (n g c : ℕ) (s : Solving) → IsBounded (2 ^ 60 + 2 ^ 40) g c s → IsWithin (2 ^ 76 + 2 ^ 56) (momentum (timed_bodies n (renewed_bodies (bodies_of s))))
left_momentum n g c s h = few_within (length s.bodies) (momentum (timed_bodies n (renewed_bodies (bodies_of s)))) h.few (momentum_within n s.bodies h.bodies)
