-- Whichever command is accepted, a kept world stays kept; and so it does under a whole list of commands.
use Rattle.std.proofs.Common.{◌≡◌, ℕ, ◌<◌, ◌≤◌, ◌≤ℤ◌, ◌^◌, List, [], ◌∷◌, Result, Ok, Err, Bool, true, false, cond, None, ℤ, pos, unsigned_abs, arith, nat_lt, refl, subst}
use Rattle.std.specs.Prelude.{◌&&◌, int_le}
use Rattle.std.proofs.lemmas.Int.{ints}
use Rattle.std.proofs.lemmas.Grind.{common_steps}
use Rattle.fixed_geom.specs.Vectors.{zero_vector}
use Rattle.fixed_geom.specs.declared.refusal.Refusal.{Refusal}
use Rattle.fixed_geom.specs.declared.refusal.Refusal.TheVariants.{OutOfRange, WornOut}
use Rattle.body_handles.specs.declared.handle.Handle.{Handle}
use Rattle.contacts_base.proofs.Members.{Each}
use Rattle.contacts_base.specs.Contacts.{AreKeysRising}
use Rattle.plain_world.specs.Bodies.{IsBody, def_refusal, made}
use Rattle.plain_world.specs.Formed.{HaveFilters}
use Rattle.plain_world.specs.declared.body.BodyDef.{BodyDef}
use Rattle.shapes.specs.Poses.{IsPose}
use Rattle.shapes.specs.Shapes.{is_between}
use Rattle.shapes.specs.declared.pose.Pose.{Pose}
use Rattle.world_core_base.specs.Renewal.{renewed_bodies}
use Rattle.world_core_base.specs.Solving.{Solving, bodies_of}
use Rattle.world_rules.specs.Apply.{Applied, apply, apply_accepted, apply_step, posed, solved_after, step_done, world_with}
use Rattle.world_rules.specs.Collide.{collided}
use Rattle.world_rules.specs.Replay.{after, after_one, replay}
use Rattle.world_rules.specs.Sound.{IsSound}
use Rattle.world_rules.specs.World.{World, body_named}
use Rattle.world_rules.specs.declared.command.Command.{Command}
use Rattle.world_rules.specs.declared.command.Command.TheVariants.{CreateBody, DestroyBody, CreateJoint, DestroyJoint, Push, PushAt, SetPose, SetVelocity, SetGravity, Disable, Enable, Wake, Sleep, Step}
use Rattle.world_rules.proofs.AcceptedLaws.{create_accepted, gravity_accepted, pose_accepted, push_accepted, sleep_accepted, velocity_accepted, wake_accepted}
use Rattle.world_rules.proofs.AcceptedParts.{destroy_accepted, disable_accepted, enable_accepted, join_accepted, unjoin_accepted}
use Rattle.world_rules.proofs.KeptStep.{IsTicked, collided_in, collided_world, step_solved_kept, changed_in}
use Rattle.world_rules.proofs.SoundLaws.{IsKept, kept_sound, sound_kept}

-- ---- what the crates below answer for

-- what the ticks of a step leave of a world
abbrev pub solved_in : World → ℕ → Solving
solved_in w n = solved_after w.plain n (collided_in w) (changed_in w)

-- the collide's contacts ascend, and up to 8 ticks leave all within its limits
pub record CanStep (w : World) : Type 0 where
  pub rising : AreKeysRising (collided_in w).now
  pub ticked : (n : ℕ) → n ≤ 8 → IsTicked (collided_world w).plain (renewed_bodies (bodies_of (solved_in w n))) (solved_in w n).joints (solved_in w n).contacts (solved_in w n).sums

-- poses and bodies that aren't refused are ones, and a step can be made
pub record AreAllowed (w : World) : Type 0 where
  pub poses : (h : Handle) (o given : Pose) → posed (body_named w.plain h) o ≡ Ok given → IsPose given
  pub bodies : (d : BodyDef) → def_refusal d ≡ None → IsBody (made d)
  pub step : CanStep w

-- ---- a step

both_true : (a b : Bool) → (a && b) ≡ true → (a ≡ true) × (b ≡ true)
both_true true true e = (refl, refl)
both_true true false e = cc
both_true false b e = cc

not_below : (n : ℤ) → int_le (pos 1) n ≡ true → pos 1 ≤ℤ n
not_below n e = grind (arith, common_steps)

not_above : (n : ℤ) → int_le n (pos 8) ≡ true → n ≤ℤ pos 8
not_above n e = grind (arith, common_steps)

pub few_ticks : (n : ℤ) → is_between (pos 1) (pos 8) n ≡ true → unsigned_abs n ≤ 8
few_ticks n e =
    let t = both_true (int_le (pos 1) n) (int_le n (pos 8)) e in
    let low : pos 1 ≤ℤ n = not_below n t.0 in
    let high : n ≤ℤ pos 8 = not_above n t.1 in
    omega (arith, ints, low, high)

same_ok : (a b : Applied) → ◌≡◌ {A = Result Applied Refusal} (Ok a) (Ok b) → a ≡ b
same_ok a b e = cc

-- what an accepted step leaves
abbrev left_by_step : World → ℤ → Applied
left_by_step w n = step_done w.plain (unsigned_abs n) (collided w.plain.bodies w.plain.joints w.plain.contacts)

pub step_accepted : (w : World) (n : ℤ) (a : Applied) → IsKept w → w.plain.calls < 2 ^ 40 → CanStep w → apply_step w.plain n ≡ Ok a → IsKept (world_with w a)
step_accepted w n a k few can e = by (is_between (pos 1) (pos 8) n) refl e
  where
    by : (t : Bool) → is_between (pos 1) (pos 8) n ≡ t → ◌≡◌ {A = Result Applied Refusal} (cond t (Ok (left_by_step w n)) (Err OutOfRange)) (Ok a) → IsKept (world_with w a)
    by true f g =
        let ticks : unsigned_abs n ≤ 8 = few_ticks n f in
        subst (λ (b : Applied). IsKept (world_with w b)) (same_ok (left_by_step w n) a g) (step_solved_kept w (unsigned_abs n) (solved_in w (unsigned_abs n)) k few ticks can.rising (can.ticked (unsigned_abs n) ticks))
    by false f g = cc

-- ---- any command

-- the filters of a new body's shapes are within the ranges of their types
abbrev pub HasItsTypes : Command → Type 0
HasItsTypes (CreateBody d) = HaveFilters d.shapes
HasItsTypes (DestroyBody h) = Unit {0}
HasItsTypes (CreateJoint d) = Unit {0}
HasItsTypes (DestroyJoint h) = Unit {0}
HasItsTypes (Push h j) = Unit {0}
HasItsTypes (PushAt h j r) = Unit {0}
HasItsTypes (SetPose h o) = Unit {0}
HasItsTypes (SetVelocity h course) = Unit {0}
HasItsTypes (SetGravity g) = Unit {0}
HasItsTypes (Disable h) = Unit {0}
HasItsTypes (Enable h) = Unit {0}
HasItsTypes (Wake h) = Unit {0}
HasItsTypes (Sleep h) = Unit {0}
HasItsTypes (Step n) = Unit {0}

accepted_kept : (w : World) (c : Command) (a : Applied) → IsKept w → w.plain.calls < 2 ^ 40 → AreAllowed w → HasItsTypes c → apply_accepted w.plain c ≡ Ok a → IsKept (world_with w a)
accepted_kept w (CreateBody d) a k few are types e = create_accepted w d a k few (are.bodies d) types e
accepted_kept w (DestroyBody h) a k few are types e = destroy_accepted w h a k few e
accepted_kept w (CreateJoint d) a k few are types e = join_accepted w d a k few e
accepted_kept w (DestroyJoint h) a k few are types e = unjoin_accepted w h a k few e
accepted_kept w (Push h j) a k few are types e = push_accepted w h j zero_vector a k few e
accepted_kept w (PushAt h j r) a k few are types e = push_accepted w h j r a k few e
accepted_kept w (SetPose h o) a k few are types e = pose_accepted w h o a k few (are.poses h o) e
accepted_kept w (SetVelocity h course) a k few are types e = velocity_accepted w h course a k few e
accepted_kept w (SetGravity g) a k few are types e = gravity_accepted w g a k few e
accepted_kept w (Disable h) a k few are types e = disable_accepted w h a k few e
accepted_kept w (Enable h) a k few are types e = enable_accepted w h a k few e
accepted_kept w (Wake h) a k few are types e = wake_accepted w h a k few e
accepted_kept w (Sleep h) a k few are types e = sleep_accepted w h a k few e
accepted_kept w (Step n) a k few are types e = step_accepted w n a k few are.step e

-- what an accepted command leaves of a kept world is kept
pub apply_kept : (w : World) (c : Command) (a : Applied) → IsKept w → AreAllowed w → HasItsTypes c → apply w.plain c ≡ Ok a → IsKept (world_with w a)
apply_kept w c a k are types e = by (nat_lt w.plain.calls (2 ^ 40)) refl e
  where
    by : (t : Bool) → nat_lt w.plain.calls (2 ^ 40) ≡ t → ◌≡◌ {A = Result Applied Refusal} (cond t (apply_accepted w.plain c) (Err WornOut)) (Ok a) → IsKept (world_with w a)
    by true f g = accepted_kept w c a k (grind (arith, common_steps)) are types g
    by false f g = cc

-- ---- whole lists of commands

-- a command that is refused changes nothing
pub after_kept : (w : World) (c : Command) → IsKept w → AreAllowed w → HasItsTypes c → IsKept (after w c)
after_kept w c k are types = by (apply w.plain c) refl
  where
    by : (r : Result Applied Refusal) → apply w.plain c ≡ r → IsKept (after_one w r)
    by (Ok a) e = apply_kept w c a k are types e
    by (Err d) e = k

-- a sound world is sound after any list of commands
pub replay_sound : ((w : World) → IsSound w → AreAllowed w) → (w : World) (cs : List Command) → Each HasItsTypes cs → IsSound w → IsSound (replay w cs)
replay_sound are w [] types s = s
replay_sound are w (c ∷ cs) types s = replay_sound are (after w c) cs types.1 (sound_kept (after w c) (after_kept w c (kept_sound w s) (are w s) types.0))
