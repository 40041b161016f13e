-- What the calls of a step ask for, and what its events are, of a kept world.
use Rattle.std.proofs.Common.{◌≡◌, ℕ, ◌+◌, ◌<◌, ◌≤◌, ◌^◌, List, length, Option, sym, subst, arith, All}
use Rattle.std.proofs.lemmas.List.Elements.{All-weaker}
use Rattle.plain_world.specs.Constraints.{constraint_number}
use Rattle.plain_world.specs.declared.constraint.Constraint.{Constraint}
use Rattle.contacts_base.specs.Contacts.{AreKeysRising}
use Rattle.contacts_base.specs.declared.contact.ContactEntry.{ContactEntry}
use Rattle.graph_colours.specs.Colours.{all_members}
use Rattle.plain_world.specs.declared.body.Body.{Body}
use Rattle.plain_world.specs.Sleep.{told}
use Rattle.plain_world.specs.InSlots.{AreTimersWithin}
use Rattle.sleep_wake.specs.Acting.{Acting, IsConsistent}
use Rattle.sleep_wake.specs.ChangeLists.{AreChanges, begin_count}
use Rattle.solver_sets.specs.Slept.{asleep_only_in}
use Rattle.solver_sets.specs.SinceTold.{newly_awake}
use Rattle.solver_sets.specs.Ties.{IsKeyWithin, key_changes}
use Rattle.solver_sets.proofs.SleptLaws.{told_bodies_tell}
use Rattle.world_core_base.specs.Renewal.{renewed_bodies}
use Rattle.world_core_base.specs.Solving.{Solving, bodies_of}
use Rattle.world_rules.specs.Apply.{bodies_ticked, rested_acting, step_solved, world_with}
use Rattle.world_rules.specs.Sets.{acting_of}
use Rattle.world_rules.specs.Sound.{AreTimers, HasBodies, IsSound}
use Rattle.world_rules.specs.World.{World, joints_in_slots}
use Rattle.world_rules.proofs.KeptStep.{IsTicked, collide_kept, collided_in, collided_world, step_solved_kept, changed_in}
use Rattle.world_rules.proofs.LowerLaws.{few_begin, keys_can_change}
use Rattle.world_rules.proofs.PairLaws.{has_bodies_after}
use Rattle.world_rules.proofs.SoundLaws.{IsKept, sound_kept}
use Rattle.world_rules.proofs.StepParts.{few_act, step_acting, told_as}
use Rattle.world_rules.proofs.ToldLaws.{at_from_in}

-- what the collide leaves can have its turn, and there is room for it with one place for each contact that begins
pub record CanChange (w : World) : Type 0 where
  pub changes : AreChanges constraint_number (acting_of w.plain).labels (acting_of w.plain).ties (key_changes w.plain.bodies (collided_in w).begin (collided_in w).end)
  pub count : begin_count (key_changes w.plain.bodies (collided_in w).begin (collided_in w).end) ≤ length (collided_in w).begin
  pub coloured : length (all_members (changed_in w).lists) ≤ length (acting_of w.plain).ties + length (collided_in w).begin

pub can_change : (w : World) → IsKept w → AreKeysRising (collided_in w).now → CanChange w
unfolding acting_of
can_change w k rises =
    let now : All (HasBodies w.plain.bodies) (collided_in w).now = has_bodies_after w.plain.bodies w.plain.joints w.plain.contacts k.bodies k.matched.few k.there in
    let count : begin_count (key_changes w.plain.bodies (collided_in w).begin (collided_in w).end) ≤ length (collided_in w).begin = few_begin w.plain.bodies (collided_in w).begin (collided_in w).end in
    let is = collide_kept w k rises in
    record {
      changes = keys_can_change w.plain.bodies (joints_in_slots w.plain) w.plain.contacts (collided_in w).now w.plain.islands (record { matched = k.joint_slots; slot_entries = k.joint_entries }) k.contacts rises
          (All-weaker (HasBodies w.plain.bodies) (λ (e : ContactEntry). IsKeyWithin e.key) (λ e h. h.named) w.plain.contacts k.there)
          (All-weaker (HasBodies w.plain.bodies) (λ (e : ContactEntry). IsKeyWithin e.key) (λ e h. h.named) (collided_in w).now now) k.tied;
      count = count;
      coloured = few_act (key_changes w.plain.bodies (collided_in w).begin (collided_in w).end) (acting_of w.plain) (length (acting_of w.plain).ties + length (collided_in w).begin)
          (subst (λ (s : Acting Constraint). IsConsistent constraint_number s) is.acting is.kept.consistent) (omega (arith, count));
    }

-- the timers of a kept world have room for a step's ticks
pub timers_within : (w : World) (bodies : List (Option Body)) → IsKept w → AreTimers w.plain.steps bodies → AreTimersWithin (2 ^ 44) bodies
timers_within w bodies k timers = λ slot b at. let t = timers slot b (at_from_in bodies slot b at) in let s = k.steps in let c = k.calls in omega (arith, t, s, c)

-- who woke in the collide
pub woke_is : (w : World) → IsKept w → newly_awake w.plain.slot_entries w.plain.bodies (changed_in w).labels ≡ asleep_only_in w.plain.slot_entries (changed_in w).labels w.plain.islands
woke_is w k = (told_bodies_tell w.plain.slot_entries w.plain.bodies w.plain.islands (changed_in w).labels (told_as w.plain.bodies w.plain.islands k.tied k.told)).1

-- the world that a step leaves is sound, and what acts in it is what the sleep phase has left
pub record IsStepped (w : World) (n : ℕ) (s : Solving) : Type 0 where
  pub sound : IsSound (world_with w (step_solved w.plain n (collided_in w) (changed_in w) s))
  pub same : rested_acting (bodies_ticked n s) s.joints s.contacts (changed_in w) ≡ acting_of (step_solved w.plain n (collided_in w) (changed_in w) s).plain

pub step_left : (w : World) (n : ℕ) (s : Solving) → IsKept w → w.plain.calls < 2 ^ 40 → n ≤ 8 → AreKeysRising (collided_in w).now → IsTicked (collided_world w).plain (renewed_bodies (bodies_of s)) s.joints s.contacts s.sums → IsStepped w n s
step_left w n s k few ticks rises t = record {
  sound = sound_kept (world_with w (step_solved w.plain n (collided_in w) (changed_in w) s)) (step_solved_kept w n s k few ticks rises t);
  same = sym (step_acting w n s k rises t);
}
