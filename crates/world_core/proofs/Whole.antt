-- What a command leaves is whole: the world is sound, and what acts in it is kept beside its lists.
use Rattle.std.proofs.Common.{◌≡◌, ℕ, arith, ◌+◌, ◌<◌, ◌^◌, ◌++◌, Bool, true, false, cond, List, [], ◌∷◌, Option, Some, None, Ok, replicate, refl, sym, ap, ◌∙◌, subst}
use Rattle.std.proofs.lemmas.Int.{ints}
use Rattle.fixed_geom.specs.Vectors.{IsWithin, minus, plus}
use Rattle.fixed_geom.specs.declared.vectors.Vec2.{Vec2}
use Rattle.body_handles.specs.declared.handle.Handle.{Handle}
use Rattle.plain_world.specs.Constraints.{constraint_number}
use Rattle.plain_world.specs.declared.constraint.Constraint.{Constraint}
use Rattle.graph_colours.specs.Colours.{ids_of}
use Rattle.impulse_ledger.specs.declared.entry.Cause.TheVariants as causes
use Rattle.islands.specs.declared.label.Label.{Label}
use Rattle.islands.specs.Labels.{Labels, label_at}
use Rattle.colour_solver.specs.States.{as_vector}
use Rattle.colour_solver.proofs.VectorLaws.{same_vector, same_x, same_y}
use Rattle.plain_world.specs.Kinds.{is_kinematic}
use Rattle.std.specs.Prelude.{option_map}
use Rattle.std.specs.Option.{ForSome}
use Rattle.momenta.specs.declared.gain.Gain.{Gain}
use Rattle.momenta.specs.declared.motion.Momenta.{Momenta}
use Rattle.shapes.specs.Poses.{IsPose}
use Rattle.shapes.specs.declared.pose.Pose.{Pose}
use Rattle.plain_world.specs.declared.body.Body.{Body}
use Rattle.plain_world.specs.declared.kind.Course.{Course}
use Rattle.plain_world.specs.Bodies.{AreBodies, IsBody}
use Rattle.plain_world.specs.Momentum.{momentum}
use Rattle.plain_world.specs.Slots.{body_at}
use Rattle.plain_world.specs.InSlots.{CanPose}
use Rattle.plain_world.specs.Changes.{put_course, put_momenta, put_pose}
use Rattle.plain_world.specs.Plain.{Plain}
use Rattle.plain_world.specs.Sleep.{told, told_body}
use Rattle.sleep_wake.specs.Acting.{Acting, acting}
use Rattle.graph_colours.specs.declared.limits.TheConstants.{COLOURS}
use Rattle.solver_sets.specs.Ties as ties
use Rattle.world_rules.proofs.KeptEmpty.{empty_kept}
use Rattle.sleep_wake.specs.Sleeping.{islands_woken, sleeping_names, slept_at}
use Rattle.solver_sets.specs.Beside.{stirred_by}
use Rattle.world_rules.specs.declared.command.Reply.TheVariants as replies
use Rattle.world_rules.specs.Apply.{Answers, apply_sleep, mover_refusal, body_changed, booked, counted, empty_world, gained, posed, pushed, rest_entries, steered}
use Rattle.world_rules.specs.Sets.{acting_of, stirred, with_acting, with_woken}
use Rattle.world_rules.specs.World.{World, body_named}
use Rattle.world_rules.proofs.ActingLaws.{IsActed, acted, waking_kept}
use Rattle.world_rules.proofs.KeptChanges.{can_pose, counted_acting, gravity_acting, gravity_kept, pose_acting, pose_kept, push_acting, push_kept, velocity_acting, velocity_kept, wake_kept}
use Rattle.world_rules.proofs.KeptSleep.{sleep_kept, slept_acting}
use Rattle.world_rules.proofs.SlotLemmas.{body_at-in}
use Rattle.world_rules.proofs.ToldLaws.{body_told, told_is}
use Rattle.world_rules.proofs.SoundLaws.{IsKept, kept_sound, sound_kept}
use Rattle.world_core.specs.Inside.{IsWhole}
use Rattle.world_core.specs.Stirring.{MayChange}

pub whole_kept : (w : World) (acting : Acting Constraint) → IsWhole w acting → IsKept w
whole_kept w acting is = kept_sound w is.sound

pub whole : (w : World) (acting : Acting Constraint) → IsKept w → acting ≡ acting_of w.plain → IsWhole w acting
whole w acting k same = record { sound = sound_kept w k; same = same }

labels_of : (w : Plain) → (acting_of w).labels ≡ w.islands
unfolding acting_of
labels_of w = refl

-- a body that is named is one of the bodies
found_at : (live : Bool) (o : Option Body) (b : Body) → cond live o None ≡ Some b → o ≡ Some b
found_at true o b e = e
found_at false o b e = cc

pub named : (live : Bool) (bodies : List (Option Body)) (slot : ℕ) (b : Body) → AreBodies bodies → cond live (body_at bodies slot) None ≡ Some b → IsBody b
named live bodies slot b all e = all slot b (body_at-in bodies slot b (found_at live (body_at bodies slot) b e))

-- ---- islands that were woken first

-- what acts, and the bodies, once some islands were woken
pub record HasWoken (w : World) (slots : List ℕ) (now : Acting Constraint) (there : List (Option Body)) : Type 0 where
  pub is : now ≡ islands_woken constraint_number (sleeping_names w.plain.islands slots) (acting_of w.plain)
  pub acting : now ≡ acting_of (with_woken w.plain slots)
  pub bodies : there ≡ (with_woken w.plain slots).bodies

pub has_woken : (w : World) (slots names : List ℕ) (acting now : Acting Constraint) (bodies : List (Option Body)) → IsWhole w acting → names ≡ sleeping_names acting.labels slots
    → now ≡ islands_woken constraint_number names acting → bodies ≡ told now.labels w.plain.bodies → HasWoken w slots now bodies
has_woken w slots names acting now bodies is named woke tell =
    let same : names ≡ sleeping_names w.plain.islands slots = named ∙ ap (λ (ls : Labels). sleeping_names ls slots) (ap (λ (s : Acting Constraint). s.labels) is.same ∙ labels_of w.plain) in
    let all : now ≡ islands_woken constraint_number (sleeping_names w.plain.islands slots) (acting_of w.plain) =
    woke ∙ ap (λ (ns : List ℕ). islands_woken constraint_number ns acting) same ∙ ap (λ (s : Acting Constraint). islands_woken constraint_number (sleeping_names w.plain.islands slots) s) is.same in
    record {
      is = all;
      acting = all ∙ sym (waking_kept w slots (whole_kept w acting is)).acting;
      bodies = tell ∙ ap (λ (s : Acting Constraint). told s.labels w.plain.bodies) all;
    }

-- a pose can be given once islands were woken
pub pose_fits : (w : World) (slot : ℕ) (o : Pose) (acting : Acting Constraint) → IsWhole w acting → IsPose o → ForSome (body_at (stirred w.plain slot).bodies slot) (CanPose o)
pose_fits w slot o acting is pose = can_pose (record w { plain = stirred w.plain slot }) slot o (waking_kept w (stirred_by w.plain.bodies w.plain.joints w.plain.contacts slot) (whole_kept w acting is)).kept pose

-- a kinematic body stays one when islands are woken
kinematic_told : (label : Option Label) (o : Option Body) → ForSome o (λ (b : Body). is_kinematic b.kind ≡ true) → ForSome (option_map (told_body label) o) (λ (b : Body). is_kinematic b.kind ≡ true)
kinematic_told label None h x e = cc
kinematic_told label (Some b) h x e =
    let same : told_body label b ≡ x = cc in
    subst (λ (c : Body). is_kinematic c.kind ≡ true) same (ap is_kinematic (told_is label b).kind ∙ h b refl)

pub course_fits : (w : World) (slot : ℕ) (acting : Acting Constraint) → IsWhole w acting → ForSome (body_at w.plain.bodies slot) (λ (b : Body). is_kinematic b.kind ≡ true) → ForSome (body_at (stirred w.plain slot).bodies slot) (λ (b : Body). is_kinematic b.kind ≡ true)
course_fits w slot acting is h =
    let labels : Labels = (islands_woken constraint_number (sleeping_names w.plain.islands (stirred_by w.plain.bodies w.plain.joints w.plain.contacts slot)) (acting_of w.plain)).labels in
    subst (λ (o : Option Body). ForSome o (λ (b : Body). is_kinematic b.kind ≡ true)) (sym (body_told labels w.plain.bodies slot)) (kinematic_told (label_at labels slot) (body_at w.plain.bodies slot) h)

-- the world's lists with these
abbrev pub lists_with : Plain → Acting Constraint → List (Option Body) → Plain
lists_with w now bodies = record w { bodies = bodies; islands = now.labels; colours = ids_of now.lists }

pub woken_lists : (w : World) (slots : List ℕ) (now : Acting Constraint) (bodies : List (Option Body)) → HasWoken w slots now bodies → lists_with w.plain now bodies ≡ with_woken w.plain slots
woken_lists w slots now bodies h =
    ap (λ (bs : List (Option Body)). lists_with w.plain now bs) h.bodies ∙ ap (λ (s : Acting Constraint). lists_with w.plain s (with_woken w.plain slots).bodies) h.is

-- ---- commands

pub wake_whole : (w : World) (slot : ℕ) (acting now : Acting Constraint) (bodies : List (Option Body)) → IsWhole w acting → w.plain.calls < 2 ^ 40 → HasWoken w (slot ∷ []) now bodies
    → IsWhole (record w { plain = counted (lists_with w.plain now bodies) }) now
wake_whole w slot acting now bodies is few h =
    subst (λ (p : Plain). IsWhole (record w { plain = counted p }) now) (sym (woken_lists w (slot ∷ []) now bodies h))
    (whole (record w { plain = counted (with_woken w.plain (slot ∷ [])) }) now (wake_kept w slot (whole_kept w acting is) few) (h.acting ∙ sym (counted_acting (with_woken w.plain (slot ∷ [])))))

pub gravity_whole : (w : World) (g : Vec2) (acting : Acting Constraint) → IsWhole w acting → w.plain.calls < 2 ^ 40 → IsWithin (2 ^ 16) g → IsWhole (record w { plain = counted (record w.plain { gravity = g }) }) acting
gravity_whole w g acting is few small = whole (record w { plain = counted (record w.plain { gravity = g }) }) acting (gravity_kept w g (whole_kept w acting is) few small) (is.same ∙ sym (gravity_acting w.plain g))

pub push_whole : (w : World) (h : Handle) (j r : Vec2) (m : Momenta) (acting now : Acting Constraint) (bodies : List (Option Body)) → IsWhole w acting → w.plain.calls < 2 ^ 40 → HasWoken w (h.slot ∷ []) now bodies
    → pushed (body_named w.plain h) j r ≡ Ok m → IsWhole (record w { plain = counted (body_changed (put_momenta m) h.slot (lists_with w.plain now bodies)); entries = w.entries ++ booked (w.plain.calls + 1) causes.Command j.x j.y }) now
push_whole w h j r m acting now bodies is few woke due =
    let k = whole_kept w acting is in
    subst (λ (p : Plain). IsWhole (record w { plain = counted (body_changed (put_momenta m) h.slot p); entries = w.entries ++ booked (w.plain.calls + 1) causes.Command j.x j.y }) now) (sym (woken_lists w (h.slot ∷ []) now bodies woke))
    (whole _ now (push_kept w h j r m (w.plain.calls + 1) causes.Command k few due) (woke.acting ∙ sym (push_acting w h j r m k due)))

pub changed_whole : (w : World) (h : Handle) (f : Body → Body) (acting now : Acting Constraint) (bodies : List (Option Body)) → IsWhole w acting
    → HasWoken w (stirred_by w.plain.bodies w.plain.joints w.plain.contacts h.slot) now bodies → MayChange w h f → IsWhole (record w { plain = counted (body_changed f h.slot (lists_with w.plain now bodies)) }) now
changed_whole w h f acting now bodies is woke may =
    subst (λ (p : Plain). IsWhole (record w { plain = counted (body_changed f h.slot p) }) now) (sym (woken_lists w (stirred_by w.plain.bodies w.plain.joints w.plain.contacts h.slot) now bodies woke))
    (record { sound = may.sound; same = woke.acting ∙ sym may.acting })

pub may_pose : (w : World) (h : Handle) (asked given : Pose) (acting : Acting Constraint) → IsWhole w acting → w.plain.calls < 2 ^ 40 → posed (body_named w.plain h) asked ≡ Ok given → IsPose given → MayChange w h (put_pose given)
may_pose w h asked given acting is few due pose =
    let k = whole_kept w acting is in
    record { sound = sound_kept _ (pose_kept w h asked given k few due pose); acting = pose_acting w h asked given k due pose }

pub may_steer : (w : World) (h : Handle) (asked given : Course) (acting : Acting Constraint) → IsWhole w acting → w.plain.calls < 2 ^ 40 → steered (body_named w.plain h) asked ≡ Ok given → MayChange w h (put_course given)
may_steer w h asked given acting is few due =
    let k = whole_kept w acting is in
    record { sound = sound_kept _ (velocity_kept w h asked given k few due); acting = velocity_acting w h asked given k due }

-- ---- an island put to rest

pub sleep_whole : (w : World) (slot : ℕ) (acting now : Acting Constraint) (bodies : List (Option Body)) → IsWhole w acting → w.plain.calls < 2 ^ 40
    → now ≡ slept_at constraint_number slot acting → bodies ≡ told now.labels w.plain.bodies
    → IsWhole (record w { plain = counted (lists_with w.plain now bodies); entries = w.entries ++ rest_entries (w.plain.calls + 1) now.labels w.plain.bodies }) now
sleep_whole w slot acting now bodies is few slept tell =
    let k = whole_kept w acting is in
    let s : Acting Constraint = slept_at constraint_number slot (acting_of w.plain) in
    let same : now ≡ s = slept ∙ ap (slept_at constraint_number slot) is.same in
    let put : IsActed w.plain s = acted w.plain s k.bodies (slept_acting w slot k) in
    subst (λ (bs : List (Option Body)). IsWhole (record w { plain = counted (lists_with w.plain now bs); entries = w.entries ++ rest_entries (w.plain.calls + 1) now.labels w.plain.bodies }) now) (sym tell)
    (subst (λ (a : Acting Constraint). IsWhole (record w { plain = counted (with_acting a w.plain); entries = w.entries ++ rest_entries (w.plain.calls + 1) a.labels w.plain.bodies }) a) (sym same)
    (whole _ s (sleep_kept w slot k few) (sym put.acting ∙ sym (counted_acting (with_acting s w.plain)))))

-- ---- a new world

empty_acting : (g : Vec2) → acting [] [] (replicate (COLOURS + 1) []) ≡ acting_of (empty_world g).plain
unfolding acting_of ties.ties_of ties.members_of
empty_acting g = refl

pub empty_whole : (g : Vec2) → IsWithin (2 ^ 16) g → IsWhole (empty_world g) (acting [] [] (replicate (COLOURS + 1) []))
empty_whole g h = whole (empty_world g) (acting [] [] (replicate (COLOURS + 1) [])) (empty_kept g h) (empty_acting g)

-- ---- what is booked

pub gained_is : (a b g : Vec2) → a ≡ plus b g → g ≡ minus a b
gained_is a b g e = same_vector g _ (omega (arith, ints, same_x e)) (omega (arith, ints, same_y e))

pub rest_booked : (call : ℕ) (labels : Labels) (bodies new : List (Option Body)) (gain : Gain) → new ≡ told labels bodies → momentum new ≡ plus (momentum bodies) (as_vector gain)
    → booked call causes.Rest gain.x gain.y ≡ rest_entries call labels bodies
rest_booked call labels bodies new gain tell by =
    let is : as_vector gain ≡ gained bodies (told labels bodies) = gained_is (momentum (told labels bodies)) (momentum bodies) (as_vector gain) (ap momentum (sym tell) ∙ by) in
    ap (λ (v : Vec2). booked call causes.Rest v.x v.y) is

-- ---- what is answered

-- an island put to rest is what was due
pub sleep_answers : (w : World) (h : Handle) (acting now : Acting Constraint) (bodies : List (Option Body)) → IsWhole w acting → None ≡ mover_refusal (body_named w.plain h) → now ≡ slept_at constraint_number h.slot acting → bodies ≡ told now.labels w.plain.bodies
    → Answers (apply_sleep w.plain h) w (Ok replies.Done) (record w { plain = counted (lists_with w.plain now bodies); entries = w.entries ++ rest_entries (w.plain.calls + 1) now.labels w.plain.bodies })
sleep_answers w h acting now bodies is due slept tell =
    let s : Acting Constraint = slept_at constraint_number h.slot (acting_of w.plain) in
    let same : now ≡ s = slept ∙ ap (slept_at constraint_number h.slot) is.same in
    rw (← due, tell, same) (refl, refl)
