-- Each accepted command counts one call more, and its impulse is in its range.
use Rattle.std.proofs.Common.{◌≡◌, ℕ, ◌+◌, ◌^◌, Bool, true, false, cond, Option, Some, None, Result, Ok, Err, pos, nat_lt, arith, refl, sym, ap, ◌∙◌, ◌∷◌, []}
use Rattle.std.specs.Prelude.{◌&&◌}
use Rattle.std.proofs.lemmas.Grind.{common_steps}
use Rattle.fixed_geom.specs.declared.refusal.Refusal.{Refusal}
use Rattle.fixed_geom.specs.declared.refusal.Refusal.TheVariants.{BodyDisabled, NotAMover, OutOfRange, TooFast, TooMany, WornOut}
use Rattle.fixed_geom.specs.declared.vectors.Vec2.{Vec2}
use Rattle.fixed_geom.specs.Vectors.{IsWithin, is_within, zero_vector}
use Rattle.fixed_geom.specs.Refusals.{need}
use Rattle.body_handles.specs.declared.handle.Handle.{Handle}
use Rattle.body_handles.specs.declared.slot_table.TheConstants.{MAX_SLOTS}
use Rattle.body_handles.specs.SlotEntries.{lowest}
use Rattle.momenta.specs.declared.motion.Momenta.{Momenta}
use Rattle.shapes.specs.Shapes.{is_between}
use Rattle.shapes.specs.declared.pose.Pose.{Pose}
use Rattle.plain_world.specs.Bodies.{def_refusal}
use Rattle.plain_world.specs.Changes.{enabled_body, put_pose, put_course}
use Rattle.plain_world.specs.Joints.{joint_of}
use Rattle.plain_world.specs.Kinds.{is_dynamic}
use Rattle.plain_world.specs.Plain.{Plain}
use Rattle.plain_world.specs.declared.body.Body.{Body}
use Rattle.plain_world.specs.declared.body.BodyDef.{BodyDef}
use Rattle.plain_world.specs.declared.joint.BodyJoint.{BodyJoint}
use Rattle.plain_world.specs.declared.joint.JointDef.{JointDef}
use Rattle.plain_world.specs.declared.kind.Course.{Course}
use Rattle.solver_sets.specs.Beside.{joined_to}
use Rattle.solver_sets.specs.Joining.{handle_at}
use Rattle.world_rules.specs.Apply.{Applied, apply_accepted, are_momenta, body_enabled, enabled, join_refusal, mover_refusal, posed, pushed, steered, with_impulse, unless_refused, where_named, map_ok, push_given, with_body_changed, created, joined, destroyed, disabled, put_to_sleep, quietly, joint_gone}
use Rattle.world_rules.specs.Laws.{EachCallCounts, PushesAreSmall, push_of}
use Rattle.world_rules.specs.Sets.{with_woken, acting_of}
use Rattle.world_rules.specs.World.{body_named}
use Rattle.world_rules.specs.declared.command.Command.{Command}
use Rattle.world_rules.specs.declared.command.Command.TheVariants.{CreateBody, DestroyBody, CreateJoint, DestroyJoint, Push, PushAt, SetPose, SetVelocity, SetGravity, Disable, Enable, Wake, Sleep, Step}
use Rattle.sleep_wake.specs.Sleeping.{slept_at}
use Rattle.plain_world.specs.Constraints.{constraint_number}

-- ---- one call more

-- the number of calls that an accepted command leaves
abbrev calls_of : Result Applied Refusal → ℕ
calls_of (Ok a) = a.plain.calls
calls_of (Err e) = 0

-- accepted under a test
tested : (t : Bool) (x a : Applied) (e : Refusal) (n : ℕ) → x.plain.calls ≡ n → cond t (Ok x) (Err e) ≡ Ok a → a.plain.calls ≡ n
tested true x a e n is h = sym (ap calls_of h) ∙ is
tested false x a e n is h = cc

create_counts : (w : Plain) (d : BodyDef) (o : Option Refusal) (a : Applied) → unless_refused o (need (nat_lt (lowest w.slot_entries) MAX_SLOTS) TooMany (Ok (created w d))) ≡ Ok a → a.plain.calls ≡ w.calls + 1
create_counts w d (Some e) a h = cc
create_counts w d None a h = tested (nat_lt (lowest w.slot_entries) MAX_SLOTS) _ a TooMany (w.calls + 1) refl h

destroy_counts : (w : Plain) (b : Handle) (o : Option Body) (a : Applied) → where_named o (λ body. Ok (destroyed w b body)) ≡ Ok a → a.plain.calls ≡ w.calls + 1
destroy_counts w b None a h = cc
destroy_counts w b (Some body) a h = sym (ap calls_of h)

join_counts : (w : Plain) (d : JointDef) (due : Option Refusal) (a : Applied) → unless_refused due (need (nat_lt (lowest w.joint_entries) MAX_SLOTS) TooMany (Ok (joined w d (handle_at w.joint_entries (lowest w.joint_entries))))) ≡ Ok a → a.plain.calls ≡ w.calls + 1
join_counts w d (Some e) a h = cc
join_counts w d None a h = tested (nat_lt (lowest w.joint_entries) MAX_SLOTS) _ a TooMany (w.calls + 1) refl h

unjoin_counts : (w : Plain) (j : Handle) (o : Option BodyJoint) (a : Applied) → where_named o (λ joint. Ok (quietly (joint_gone j joint (with_woken w (joint.a ∷ joint.b ∷ []))))) ≡ Ok a → a.plain.calls ≡ w.calls + 1
unjoin_counts w j None a h = cc
unjoin_counts w j (Some joint) a h = sym (ap calls_of h)

push_counts : (w : Plain) (b : Handle) (j : Vec2) (r : Result Momenta Refusal) (a : Applied) → map_ok (push_given w b j) r ≡ Ok a → a.plain.calls ≡ w.calls + 1
push_counts w b j (Ok m) a h = sym (ap calls_of h)
push_counts w b j (Err e) a h = cc

pose_counts : (w : Plain) (b : Handle) (r : Result Pose Refusal) (a : Applied) → map_ok (λ given. with_body_changed w b (put_pose given)) r ≡ Ok a → a.plain.calls ≡ w.calls + 1
pose_counts w b (Ok o) a h = sym (ap calls_of h)
pose_counts w b (Err e) a h = cc

course_counts : (w : Plain) (b : Handle) (r : Result Course Refusal) (a : Applied) → map_ok (λ given. with_body_changed w b (put_course given)) r ≡ Ok a → a.plain.calls ≡ w.calls + 1
course_counts w b (Ok course) a h = sym (ap calls_of h)
course_counts w b (Err e) a h = cc

disable_counts : (w : Plain) (b : Handle) (o : Option Body) (a : Applied) → where_named o (λ body. need body.enabled BodyDisabled (Ok (disabled w b body))) ≡ Ok a → a.plain.calls ≡ w.calls + 1
disable_counts w b None a h = cc
disable_counts w b (Some body) a h = tested body.enabled _ a BodyDisabled (w.calls + 1) refl h

enabled_calls : (w : Plain) (b : Handle) (body : Body) → (enabled w b body).calls ≡ w.calls
enabled_calls w b body = by body.enabled
  where
    by : (t : Bool) → (cond t w (body_enabled b (enabled_body body) (with_woken w (joined_to w.bodies w.joints b.slot)))).calls ≡ w.calls
    by true = refl
    by false = refl

enable_counts : (w : Plain) (b : Handle) (o : Option Body) (a : Applied) → where_named o (λ body. Ok (quietly (enabled w b body))) ≡ Ok a → a.plain.calls ≡ w.calls + 1
enable_counts w b None a h = cc
enable_counts w b (Some body) a h = sym (ap calls_of h) ∙ ap (λ (n : ℕ). n + 1) (enabled_calls w b body)

wake_counts : (w : Plain) (b : Handle) (o : Option Refusal) (a : Applied) → unless_refused o (Ok (quietly (with_woken w (b.slot ∷ [])))) ≡ Ok a → a.plain.calls ≡ w.calls + 1
wake_counts w b (Some e) a h = cc
wake_counts w b None a h = sym (ap calls_of h)

sleep_counts : (w : Plain) (b : Handle) (o : Option Refusal) (a : Applied) → unless_refused o (Ok (put_to_sleep w (slept_at constraint_number b.slot (acting_of w)))) ≡ Ok a → a.plain.calls ≡ w.calls + 1
sleep_counts w b (Some e) a h = cc
sleep_counts w b None a h = sym (ap calls_of h)

accepted_counts : (w : Plain) (c : Command) (a : Applied) → apply_accepted w c ≡ Ok a → a.plain.calls ≡ w.calls + 1
accepted_counts w (CreateBody d) a h = create_counts w d (def_refusal d) a h
accepted_counts w (DestroyBody b) a h = destroy_counts w b (body_named w b) a h
accepted_counts w (CreateJoint d) a h = join_counts w d (join_refusal (body_named w d.a) (body_named w d.b) d) a h
accepted_counts w (DestroyJoint j) a h = unjoin_counts w j (joint_of w.joint_entries w.joints j) a h
accepted_counts w (Push b j) a h = push_counts w b j (pushed (body_named w b) j zero_vector) a h
accepted_counts w (PushAt b j r) a h = push_counts w b j (pushed (body_named w b) j r) a h
accepted_counts w (SetPose b o) a h = pose_counts w b (posed (body_named w b) o) a h
accepted_counts w (SetVelocity b course) a h = course_counts w b (steered (body_named w b) course) a h
accepted_counts w (SetGravity g) a h = tested (is_within (2 ^ 16) g) _ a OutOfRange (w.calls + 1) refl h
accepted_counts w (Disable b) a h = disable_counts w b (body_named w b) a h
accepted_counts w (Enable b) a h = enable_counts w b (body_named w b) a h
accepted_counts w (Wake b) a h = wake_counts w b (mover_refusal (body_named w b)) a h
accepted_counts w (Sleep b) a h = sleep_counts w b (mover_refusal (body_named w b)) a h
accepted_counts w (Step n) a h = tested (is_between (pos 1) (pos 8) n) _ a OutOfRange (w.calls + 1) refl h

-- what is accepted isn't worn out
accepted : (t : Bool) (w : Plain) (c : Command) (a : Applied) → cond t (apply_accepted w c) (Err WornOut) ≡ Ok a → apply_accepted w c ≡ Ok a
accepted true w c a h = h
accepted false w c a h = cc

pub each_call_counts : EachCallCounts
each_call_counts w c a h = accepted_counts w c a (accepted (nat_lt w.calls (2 ^ 40)) w c a h)

-- ---- impulses

within_of : (n : ℕ) (v : Vec2) → is_within n v ≡ true → IsWithin n v
within_of n v e = record { x = grind (arith, common_steps); y = grind (arith, common_steps) }

push_tests : (d e p q : Bool) (within : Bool) (m given : Momenta) → cond d (cond e (cond (within && p) (cond q (Ok m) (Err TooFast)) (Err OutOfRange)) (Err BodyDisabled)) (Err NotAMover) ≡ Ok given → within ≡ true
push_tests true true p q true m given h = refl
push_tests true true p q false m given h = cc
push_tests true false p q within m given h = cc
push_tests false e p q within m given h = cc

pushed_within : (o : Option Body) (j r : Vec2) (m : Momenta) → pushed o j r ≡ Ok m → IsWithin (2 ^ 40) j
pushed_within None j r m h = cc
pushed_within (Some b) j r m h = within_of (2 ^ 40) j (push_tests (is_dynamic b.kind) b.enabled (is_within (2 ^ 26) r) (are_momenta (with_impulse j r b)) (is_within (2 ^ 40) j) (with_impulse j r b) m h)

push_within : (w : Plain) (b : Handle) (j r : Vec2) (m : Result Momenta Refusal) (a : Applied) → pushed (body_named w b) j r ≡ m → map_ok (push_given w b j) m ≡ Ok a → IsWithin (2 ^ 40) j
push_within w b j r (Ok m) a e h = pushed_within (body_named w b) j r m e
push_within w b j r (Err due) a e h = cc

nothing : IsWithin (2 ^ 40) (record { x = pos 0; y = pos 0 })
nothing = record { x = omega arith; y = omega arith }

accepted_within : (w : Plain) (c : Command) (a : Applied) → apply_accepted w c ≡ Ok a → IsWithin (2 ^ 40) (push_of c)
accepted_within w (CreateBody d) a h = nothing
accepted_within w (DestroyBody b) a h = nothing
accepted_within w (CreateJoint d) a h = nothing
accepted_within w (DestroyJoint j) a h = nothing
accepted_within w (Push b j) a h = push_within w b j zero_vector (pushed (body_named w b) j zero_vector) a refl h
accepted_within w (PushAt b j r) a h = push_within w b j r (pushed (body_named w b) j r) a refl h
accepted_within w (SetPose b o) a h = nothing
accepted_within w (SetVelocity b course) a h = nothing
accepted_within w (SetGravity g) a h = nothing
accepted_within w (Disable b) a h = nothing
accepted_within w (Enable b) a h = nothing
accepted_within w (Wake b) a h = nothing
accepted_within w (Sleep b) a h = nothing
accepted_within w (Step n) a h = nothing

pub pushes_are_small : PushesAreSmall
pushes_are_small w c a h = accepted_within w c a (accepted (nat_lt w.calls (2 ^ 40)) w c a h)
