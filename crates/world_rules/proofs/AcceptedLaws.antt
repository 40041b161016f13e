-- Accepted commands keep a world, in the words of what `apply` leaves.
use Rattle.std.proofs.Common.{◌≡◌, ℕ, ◌+◌, ◌<◌, ◌^◌, ◌++◌, List, [], ◌∷◌, Option, Some, None, Result, Ok, Err, Bool, true, false, cond, arith, refl, sym, subst, nat_lt}
use Rattle.std.specs.Prelude.{unwrap_or}
use Rattle.std.proofs.lemmas.Grind.{common_steps}
use Rattle.std.proofs.lemmas.List.{append-nil}
use Rattle.fixed_geom.specs.Vectors.{IsWithin, is_within}
use Rattle.fixed_geom.specs.declared.refusal.Refusal.{Refusal}
use Rattle.fixed_geom.specs.declared.refusal.Refusal.TheVariants.{OutOfRange, TooMany}
use Rattle.fixed_geom.specs.declared.vectors.Vec2.{Vec2}
use Rattle.fixed_geom.specs.Refusals.{need}
use Rattle.body_handles.specs.SlotEntries.{lowest}
use Rattle.body_handles.specs.declared.handle.Handle.{Handle}
use Rattle.body_handles.specs.declared.slot_table.TheConstants.{MAX_SLOTS}
use Rattle.momenta.specs.declared.motion.Momenta.{Momenta}
use Rattle.shapes.specs.Poses.{IsPose}
use Rattle.shapes.specs.declared.pose.Pose.{Pose}
use Rattle.event_feed.specs.Events.{EventLists}
use Rattle.impulse_ledger.specs.declared.entry.Entry.{Entry}
use Rattle.impulse_ledger.specs.declared.entry.Cause.TheVariants as causes
use Rattle.plain_world.specs.Constraints.{constraint_number}
use Rattle.plain_world.specs.Formed.{HaveFilters}
use Rattle.plain_world.specs.Bodies.{IsBody, def_refusal, made}
use Rattle.plain_world.specs.Changes.{put_course, put_momenta, put_pose}
use Rattle.plain_world.specs.Plain.{Plain}
use Rattle.plain_world.specs.declared.body.BodyDef.{BodyDef}
use Rattle.plain_world.specs.declared.kind.Course.{Course}
use Rattle.sleep_wake.specs.Sleeping.{slept_at}
use Rattle.world_rules.specs.Apply.{Applied, body_changed, booked, counted, apply_create, apply_gravity, apply_pose, apply_push, apply_sleep, apply_velocity, apply_wake, created, mover_refusal, posed, pushed, put_to_sleep, quietly, steered, world_with, unless_refused, map_ok, push_given, with_body_changed}
use Rattle.world_rules.specs.Sets.{acting_of, stirred, with_woken}
use Rattle.world_rules.specs.declared.command.Reply.TheVariants as replies
use Rattle.world_rules.specs.World.{World, body_named}
use Rattle.world_rules.proofs.KeptChanges.{gravity_kept, pose_kept, push_kept, velocity_kept, wake_kept}
use Rattle.world_rules.proofs.KeptMade.{create_kept}
use Rattle.world_rules.proofs.KeptSleep.{sleep_kept}
use Rattle.world_rules.proofs.SoundLaws.{IsKept}

-- ---- what a command leaves

-- events are no part of what is kept
pub kept_whatever_events : (w : World) (events : EventLists) → IsKept w → IsKept (record w { events = events })
kept_whatever_events w events k = record {
  total_x = k.total_x;
  total_y = k.total_y;
  causes = record { x = k.causes.x; y = k.causes.y };
  bodies = k.bodies;
  filters = k.filters;
  timers = k.timers;
  matched = k.matched;
  slot_entries = k.slot_entries;
  joint_slots = k.joint_slots;
  joint_entries = k.joint_entries;
  joints = k.joints;
  contacts = k.contacts;
  pairs = k.pairs;
  there = k.there;
  consistent = k.consistent;
  tied = k.tied;
  told = k.told;
  labels = k.labels;
  moved = k.moved;
  gravity = k.gravity;
  steps = k.steps;
  calls = k.calls;
}

pub kept_with : (old : World) (a : Applied) → IsKept (record old { plain = a.plain; entries = old.entries ++ a.entries }) → IsKept (world_with old a)
kept_with old a k = kept_whatever_events (record old { plain = a.plain; entries = old.entries ++ a.entries }) (unwrap_or a.events old.events) k

-- where nothing is booked
pub kept_quietly : (old : World) (w : Plain) → IsKept (record old { plain = (quietly w).plain }) → IsKept (world_with old (quietly w))
kept_quietly old w k = kept_with old (quietly w) (subst (λ (es : List Entry). IsKept (record old { plain = (quietly w).plain; entries = es })) (sym (append-nil old.entries)) k)

same_ok : (a b : Applied) → ◌≡◌ {A = Result Applied Refusal} (Ok a) (Ok b) → a ≡ b
same_ok a b e = cc

-- ---- commands that are accepted

pub push_accepted : (w : World) (h : Handle) (j r : Vec2) (a : Applied) → IsKept w → w.plain.calls < 2 ^ 40 → apply_push w.plain h j r ≡ Ok a → IsKept (world_with w a)
push_accepted w h j r a k few e = by (pushed (body_named w.plain h) j r) refl e
  where
    by : (m : Result Momenta Refusal) → pushed (body_named w.plain h) j r ≡ m → map_ok (push_given w.plain h j) m ≡ Ok a → IsKept (world_with w a)
    by (Err d) f g = cc
    by (Ok m) f g =
        let left : Applied = record { plain = counted (body_changed (put_momenta m) h.slot (with_woken w.plain (h.slot ∷ []))); reply = replies.Done; entries = booked (w.plain.calls + 1) causes.Command j.x j.y; events = None } in
        subst (λ (b : Applied). IsKept (world_with w b)) (same_ok left a g) (kept_with w left (push_kept w h j r m (w.plain.calls + 1) causes.Command k few f))

pub pose_accepted : (w : World) (h : Handle) (o : Pose) (a : Applied) → IsKept w → w.plain.calls < 2 ^ 40 → ((given : Pose) → posed (body_named w.plain h) o ≡ Ok given → IsPose given) → apply_pose w.plain h o ≡ Ok a → IsKept (world_with w a)
pose_accepted w h o a k few pose e = by (posed (body_named w.plain h) o) refl e
  where
    by : (p : Result Pose Refusal) → posed (body_named w.plain h) o ≡ p → map_ok (λ given. with_body_changed w.plain h (put_pose given)) p ≡ Ok a → IsKept (world_with w a)
    by (Err d) f g = cc
    by (Ok given) f g =
        let left : Plain = body_changed (put_pose given) h.slot (stirred w.plain h.slot) in
        subst (λ (b : Applied). IsKept (world_with w b)) (same_ok (quietly left) a g) (kept_quietly w left (pose_kept w h o given k few f (pose given f)))

pub velocity_accepted : (w : World) (h : Handle) (course : Course) (a : Applied) → IsKept w → w.plain.calls < 2 ^ 40 → apply_velocity w.plain h course ≡ Ok a → IsKept (world_with w a)
velocity_accepted w h course a k few e = by (steered (body_named w.plain h) course) refl e
  where
    by : (c : Result Course Refusal) → steered (body_named w.plain h) course ≡ c → map_ok (λ given. with_body_changed w.plain h (put_course given)) c ≡ Ok a → IsKept (world_with w a)
    by (Err d) f g = cc
    by (Ok given) f g =
        let left : Plain = body_changed (put_course given) h.slot (stirred w.plain h.slot) in
        subst (λ (b : Applied). IsKept (world_with w b)) (same_ok (quietly left) a g) (kept_quietly w left (velocity_kept w h course given k few f))

within_from : (n : ℕ) (v : Vec2) → is_within n v ≡ true → IsWithin n v
within_from n v e = record { x = grind (arith, common_steps); y = grind (arith, common_steps) }

pub gravity_accepted : (w : World) (g : Vec2) (a : Applied) → IsKept w → w.plain.calls < 2 ^ 40 → apply_gravity w.plain g ≡ Ok a → IsKept (world_with w a)
gravity_accepted w g a k few e = by (is_within (2 ^ 16) g) refl e
  where
    by : (t : Bool) → is_within (2 ^ 16) g ≡ t → ◌≡◌ {A = Result Applied Refusal} (cond t (Ok (quietly (record w.plain { gravity = g }))) (Err OutOfRange)) (Ok a) → IsKept (world_with w a)
    by true f q = subst (λ (b : Applied). IsKept (world_with w b)) (same_ok (quietly (record w.plain { gravity = g })) a q) (kept_quietly w (record w.plain { gravity = g }) (gravity_kept w g k few (within_from (2 ^ 16) g f)))
    by false f q = cc

pub wake_accepted : (w : World) (h : Handle) (a : Applied) → IsKept w → w.plain.calls < 2 ^ 40 → apply_wake w.plain h ≡ Ok a → IsKept (world_with w a)
wake_accepted w h a k few e = by (mover_refusal (body_named w.plain h)) e
  where
    by : (o : Option Refusal) → unless_refused o (Ok (quietly (with_woken w.plain (h.slot ∷ [])))) ≡ Ok a → IsKept (world_with w a)
    by (Some d) g = cc
    by None g =
        let left : Plain = with_woken w.plain (h.slot ∷ []) in
        subst (λ (b : Applied). IsKept (world_with w b)) (same_ok (quietly left) a g) (kept_quietly w left (wake_kept w h.slot k few))

pub sleep_accepted : (w : World) (h : Handle) (a : Applied) → IsKept w → w.plain.calls < 2 ^ 40 → apply_sleep w.plain h ≡ Ok a → IsKept (world_with w a)
sleep_accepted w h a k few e = by (mover_refusal (body_named w.plain h)) e
  where
    by : (o : Option Refusal) → unless_refused o (Ok (put_to_sleep w.plain (slept_at constraint_number h.slot (acting_of w.plain)))) ≡ Ok a → IsKept (world_with w a)
    by (Some d) g = cc
    by None g =
        let left : Applied = put_to_sleep w.plain (slept_at constraint_number h.slot (acting_of w.plain)) in
        subst (λ (b : Applied). IsKept (world_with w b)) (same_ok left a g) (kept_with w left (sleep_kept w h.slot k few))

pub create_accepted : (w : World) (d : BodyDef) (a : Applied) → IsKept w → w.plain.calls < 2 ^ 40 → (def_refusal d ≡ None → IsBody (made d)) → HaveFilters d.shapes → apply_create w.plain d ≡ Ok a → IsKept (world_with w a)
create_accepted w d a k few body filters e = by (def_refusal d) refl e
  where
    room : (t : Bool) → nat_lt (lowest w.plain.slot_entries) MAX_SLOTS ≡ t → IsBody (made d) → ◌≡◌ {A = Result Applied Refusal} (cond t (Ok (created w.plain d)) (Err TooMany)) (Ok a) → IsKept (world_with w a)
    room true f is q = subst (λ (b : Applied). IsKept (world_with w b)) (same_ok (created w.plain d) a q)
        (kept_with w (created w.plain d) (subst (λ (es : List Entry). IsKept (record w { plain = (created w.plain d).plain; entries = es })) (sym (append-nil w.entries)) (create_kept w d k few (grind (arith, common_steps)) is filters)))
    room false f is q = cc

    by : (o : Option Refusal) → def_refusal d ≡ o → unless_refused o (need (nat_lt (lowest w.plain.slot_entries) MAX_SLOTS) TooMany (Ok (created w.plain d))) ≡ Ok a → IsKept (world_with w a)
    by (Some r) f g = cc
    by None f g = room (nat_lt (lowest w.plain.slot_entries) MAX_SLOTS) refl (body f) g
