-- Trusted: What each command does to the plain world, as a function.
use Rattle.std.specs.Prelude.{◌≡◌, ℕ, ◌+◌, ◌^◌, Bool, cond, ◌&&◌, ◌==◌, nat_le, nat_lt, List, [], ◌∷◌, ◌++◌, Option, Some, None, Result, Ok, Err, ℤ, pos, neg_ℤ, unsigned_abs, slice_set, unwrap_or, replicate}
use Rattle.std.specs.Option.{option_map_or}
use Rattle.std.specs.Result.{result_map_both}
use Rattle.fixed_geom.specs.Facings.{is_facing}
use Rattle.fixed_geom.specs.Vectors.{cross, is_within, minus, plus, zero_vector}
use Rattle.fixed_geom.specs.declared.limits.TheConstants.{MAX_POSITION}
use Rattle.fixed_geom.specs.declared.vectors.Vec2.{Vec2}
use Rattle.fixed_geom.specs.Refusals.{need, refused_unless}
use Rattle.fixed_geom.specs.declared.refusal.Refusal.{Refusal}
use Rattle.fixed_geom.specs.declared.refusal.Refusal.TheVariants.{NoMemory, StaleHandle, TooMany, OutOfRange, SameBody, NotAMover, NotKinematic, BodyDisabled, TooFast, WornOut}
use Rattle.body_handles.specs.declared.handle.Handle.{Handle}
use Rattle.body_handles.specs.declared.slot_table.TheConstants.{MAX_SLOTS}
use Rattle.body_handles.specs.SlotEntries.{lowest, slot_entries_with, slot_entries_without}
use Rattle.momenta.specs.Impulses.{turned_by}
use Rattle.momenta.specs.declared.limits.TheConstants.{MAX_ANGULAR_MOMENTUM, MAX_MOMENTUM}
use Rattle.momenta.specs.declared.motion.Momenta.{Momenta}
use Rattle.impulse_ledger.specs.declared.entry.Entry.{Entry}
use Rattle.impulse_ledger.specs.declared.entry.Cause as cause
use Rattle.impulse_ledger.specs.declared.entry.Cause.TheVariants as causes
use Rattle.impulse_ledger.specs.Totals.{zero_totals}
use Rattle.shapes.specs.Shapes.{is_between}
use Rattle.shapes.specs.declared.pose.Pose.{Pose}
use Rattle.contacts_base.specs.Contacts.{contacts_without}
use Rattle.contacts_base.specs.declared.contact.ContactEntry.{ContactEntry}
use Rattle.graph_colours.specs.declared.limits.TheConstants.{COLOURS}
use Rattle.graph_colours.specs.Colours.{ids_of}
use Rattle.plain_world.specs.Constraints.{constraint_number}
use Rattle.plain_world.specs.declared.constraint.Constraint.{Constraint}
use Rattle.plain_world.specs.declared.constraint.Constraint.TheVariants.{Joint}
use Rattle.islands.specs.Labels.{Labels}
use Rattle.sleep_wake.specs.Widened.{widened}
use Rattle.sleep_wake.specs.Acting.{Acting}
use Rattle.sleep_wake.specs.Changes.{after_changes, each_begun}
use Rattle.sleep_wake.specs.SleepPhase.{sleep_phase}
use Rattle.sleep_wake.specs.Sleeping.{slept_at}
use Rattle.solver_sets.specs.Beside.{joined_to, timers_of}
use Rattle.solver_sets.specs.Joining.{handle_at, joined_with, unjoined, unjoined_all}
use Rattle.solver_sets.specs.Slept.{asleep_only_in}
use Rattle.solver_sets.specs.Ties.{JointSlots, begun_with, ended_with, joint_movers, joint_ties_at, key_changes}
use Rattle.plain_world.specs.Bodies.{def_refusal, is_mover, made}
use Rattle.plain_world.specs.Momentum.{momentum, momentum_in}
use Rattle.plain_world.specs.Changes.{changed_at, disabled_body, enabled_body, put_course, put_momenta, put_pose}
use Rattle.plain_world.specs.Joints.{idle_joints, joint_made, joint_of, joint_refusal}
use Rattle.plain_world.specs.Kinds.{is_course, is_dynamic, is_kinematic}
use Rattle.plain_world.specs.Plain.{Plain}
use Rattle.plain_world.specs.Sleep.{timed_bodies, told}
use Rattle.plain_world.specs.Slots.{with_body}
use Rattle.plain_world.specs.declared.body.Body.{Body}
use Rattle.plain_world.specs.declared.body.BodyDef.{BodyDef}
use Rattle.plain_world.specs.declared.joint.BodyJoint.{BodyJoint}
use Rattle.plain_world.specs.declared.joint.JointDef.{JointDef}
use Rattle.plain_world.specs.declared.kind.Course.{Course}
use Rattle.colour_solver.specs.declared.ticks.StepSums.{StepSums}
use Rattle.world_core_base.specs.Renewal.{renewed_bodies}
use Rattle.world_core_base.specs.Solving.{Solving, bodies_of, solve_order, solved}
use Rattle.event_feed.specs.Events.{EventLists, no_events}
use Rattle.world_rules.specs.declared.command.Command.{Command}
use Rattle.world_rules.specs.declared.command.Command.TheVariants.{CreateBody, DestroyBody, CreateJoint, DestroyJoint, Push, PushAt, SetPose, SetVelocity, SetGravity, Disable, Enable, Wake, Sleep, Step}
use Rattle.world_rules.specs.declared.command.Reply.{Reply}
use Rattle.world_rules.specs.declared.command.Reply.TheVariants as replies
use Rattle.world_rules.specs.Collide.{Collided, collided}
use Rattle.world_rules.specs.Sets.{acting_of, body_come, body_gone, stirred, with_acting, with_woken}
use Rattle.world_rules.specs.World.{World, body_named, joints_in_slots}

-- what an accepted command leaves: the plain world, the reply, the ledger's new entries, and a step's events
pub record Applied : Type 0 where
  pub plain : Plain
  pub reply : Reply
  pub entries : List Entry
  pub events : Option EventLists

-- an entry, left out where it is zero in both components
abbrev pub booked : ℕ → cause.Cause → ℤ → ℤ → List Entry
booked call why x y = cond (nat_le (unsigned_abs x) 0 && nat_le (unsigned_abs y) 0) [] (record { call = call; cause = why; x = x; y = y } ∷ [])

abbrev pub counted : Plain → Plain
counted w = record w { calls = w.calls + 1 }

-- a command that is no step: the world that it leaves with one call more, its reply, and what it books
abbrev pub accepted : Plain → Reply → List Entry → Applied
accepted w reply entries = record { plain = counted w; reply = reply; entries = entries; events = None }

-- a command that answers nothing, books nothing and is no step
abbrev pub quietly : Plain → Applied
quietly w = accepted w replies.Done []

-- the refusal that is due, or else what follows
abbrev pub unless_refused : {X : Type 0} → Option Refusal → Result X Refusal → Result X Refusal
unless_refused due rest = option_map_or (λ e. Err e) due rest

-- what follows of the body or the joint that a handle names: a handle that names none is stale
abbrev pub where_named : {X Y : Type 0} → Option X → (X → Result Y Refusal) → Result Y Refusal
where_named named rest = option_map_or rest named (Err StaleHandle)

-- what is made of a value, unless there is a refusal in its place
abbrev pub map_ok : {X Y : Type 0} → (X → Y) → Result X Refusal → Result Y Refusal
map_ok f r = result_map_both f (λ e. e) r

-- ---- CreateBody

abbrev pub with_made : ℕ → Body → Plain → Plain
with_made slot b w = record w { slot_entries = slot_entries_with w.slot_entries slot; bodies = with_body w.bodies slot b }

-- the body comes, and with it a label of its island, or none, for its slot
abbrev pub body_made : ℕ → Body → Plain → Plain
body_made slot b w = with_acting (widened slot (body_come slot b (acting_of w))) (with_made slot b w)

abbrev pub created : Plain → BodyDef → Applied
created w d =
    let slot = lowest w.slot_entries in
    accepted (body_made slot (made d) w) (replies.Body (handle_at w.slot_entries slot)) []

abbrev pub apply_create : Plain → BodyDef → Result Applied Refusal
apply_create w d = unless_refused (def_refusal d) (need (nat_lt (lowest w.slot_entries) MAX_SLOTS) TooMany (Ok (created w d)))

-- ---- DestroyBody

abbrev pub with_joints : JointSlots → Plain → Plain
with_joints joints w = record w { joint_entries = joints.slot_entries; joints = joints.joints }

abbrev pub without_body : Handle → JointSlots → Plain → Plain
without_body h joints w = with_joints joints (record w {
  slot_entries = slot_entries_without w.slot_entries h;
  bodies = slice_set w.bodies h.slot None;
  contacts = contacts_without h.slot w.contacts;
})

-- the body goes with its joints and its contacts
abbrev pub body_destroyed : Handle → Bool → Plain → Plain
body_destroyed h mover w = with_acting (body_gone h.slot mover w) (without_body h (unjoined_all h.slot (joints_in_slots w)) w)

-- minus the momentum that leaves with a body
abbrev pub departed : ℕ → Body → List Entry
departed call b = booked call causes.Departed (neg_ℤ (momentum_in (Some b)).x) (neg_ℤ (momentum_in (Some b)).y)

abbrev pub destroyed : Plain → Handle → Body → Applied
destroyed w h b = accepted (body_destroyed h (is_mover b) (stirred w h.slot)) replies.Done (departed (w.calls + 1) b)

abbrev pub apply_destroy : Plain → Handle → Result Applied Refusal
apply_destroy w h = where_named (body_named w h) (λ b. Ok (destroyed w h b))

-- ---- CreateJoint and DestroyJoint

-- the first reason why two bodies can't be joined
abbrev pub join_refusal : Option Body → Option Body → JointDef → Option Refusal
join_refusal None b d = Some StaleHandle
join_refusal (Some a) None d = Some StaleHandle
join_refusal (Some a) (Some b) d =
    cond (d.a.slot == d.b.slot) (Some SameBody) (
    refused_unless a.enabled BodyDisabled (
    refused_unless b.enabled BodyDisabled (
    joint_refusal d)))

abbrev pub joint_come : Handle → BodyJoint → Plain → Plain
joint_come h j w = with_acting (begun_with (Joint h) (joint_movers w.bodies j) (acting_of w)) (with_joints (joined_with j (joints_in_slots w)) w)

-- the islands of both its ends wake first
abbrev pub joined : Plain → JointDef → Handle → Applied
joined w d h = accepted (joint_come h (joint_made d) (with_woken w (d.a.slot ∷ d.b.slot ∷ []))) (replies.Joint h) []

abbrev pub apply_join : Plain → JointDef → Result Applied Refusal
apply_join w d =
    unless_refused (join_refusal (body_named w d.a) (body_named w d.b) d) (
    need (nat_lt (lowest w.joint_entries) MAX_SLOTS) TooMany (
    Ok (joined w d (handle_at w.joint_entries (lowest w.joint_entries)))))

abbrev pub joint_gone : Handle → BodyJoint → Plain → Plain
joint_gone h j w = with_acting (ended_with (Joint h) (joint_movers w.bodies j) (acting_of w)) (with_joints (unjoined h (joints_in_slots w)) w)

-- the islands of its movers wake first
abbrev pub apply_unjoin : Plain → Handle → Result Applied Refusal
apply_unjoin w h = where_named (joint_of w.joint_entries w.joints h) (λ j. Ok (quietly (joint_gone h j (with_woken w (j.a ∷ j.b ∷ [])))))

-- ---- Push and PushAt

-- the momenta of a body with the impulse j at the offset r: the angular momentum of one that turns grows by r × j
abbrev pub with_impulse : Vec2 → Vec2 → Body → Momenta
with_impulse j r b = record { p = plus b.motion.p j; l = turned_by b.mass.inertia b.motion.l (cross r j) }

abbrev pub are_momenta : Momenta → Bool
are_momenta m = is_within (unsigned_abs MAX_MOMENTUM) m.p && nat_le (unsigned_abs m.l) (unsigned_abs MAX_ANGULAR_MOMENTUM)

-- the momenta that a push leaves, or the first reason why there are none
abbrev pub pushed : Option Body → Vec2 → Vec2 → Result Momenta Refusal
pushed named j r = where_named named (λ b.
    need (is_dynamic b.kind) NotAMover (
    need b.enabled BodyDisabled (
    need (is_within (2 ^ 40) j && is_within (2 ^ 26) r) OutOfRange (
    need (are_momenta (with_impulse j r b)) TooFast (
    Ok (with_impulse j r b))))))

abbrev pub body_changed : (Body → Body) → ℕ → Plain → Plain
body_changed f slot w = record w { bodies = changed_at f w.bodies slot }

-- the mover's island wakes first
abbrev pub push_given : Plain → Handle → Vec2 → Momenta → Applied
push_given w h j m = accepted (body_changed (put_momenta m) h.slot (with_woken w (h.slot ∷ []))) replies.Done (booked (w.calls + 1) causes.Command j.x j.y)

-- a push at the centre has the offset 0
abbrev pub apply_push : Plain → Handle → Vec2 → Vec2 → Result Applied Refusal
apply_push w h j r = map_ok (push_given w h j) (pushed (body_named w h) j r)

-- ---- SetPose and SetVelocity

-- a command that changes one body and books nothing: those whom the change wakes wake first
abbrev pub with_body_changed : Plain → Handle → (Body → Body) → Applied
with_body_changed w h f = quietly (body_changed f h.slot (stirred w h.slot))

abbrev pub posed : Option Body → Pose → Result Pose Refusal
posed named o = where_named named (λ b.
    need (is_within (unsigned_abs MAX_POSITION) o.x) OutOfRange (
    need (is_facing o.rot) OutOfRange (
    Ok o)))

abbrev pub apply_pose : Plain → Handle → Pose → Result Applied Refusal
apply_pose w h o = map_ok (λ given. with_body_changed w h (put_pose given)) (posed (body_named w h) o)

abbrev pub steered : Option Body → Course → Result Course Refusal
steered named course = where_named named (λ b.
    need (is_kinematic b.kind) NotKinematic (
    need b.enabled BodyDisabled (
    need (is_course course) OutOfRange (
    Ok course))))

abbrev pub apply_velocity : Plain → Handle → Course → Result Applied Refusal
apply_velocity w h course = map_ok (λ given. with_body_changed w h (put_course given)) (steered (body_named w h) course)

-- ---- SetGravity

abbrev pub apply_gravity : Plain → Vec2 → Result Applied Refusal
apply_gravity w g = need (is_within (2 ^ 16) g) OutOfRange (Ok (quietly (record w { gravity = g })))

-- ---- Disable and Enable

-- the lists in which the body takes no part: its contacts are gone, and its joints have no impulse
abbrev pub without_part : Handle → Plain → Plain
without_part h w = record w {
  bodies = changed_at disabled_body w.bodies h.slot;
  joints = idle_joints h.slot w.joints;
  contacts = contacts_without h.slot w.contacts;
}

-- it leaves, as one that is destroyed does
abbrev pub body_disabled : Handle → Bool → Plain → Plain
body_disabled h mover w = with_acting (body_gone h.slot mover w) (without_part h w)

abbrev pub disabled : Plain → Handle → Body → Applied
disabled w h b = accepted (body_disabled h (is_mover b) (stirred w h.slot)) replies.Done (departed (w.calls + 1) b)

abbrev pub apply_disable : Plain → Handle → Result Applied Refusal
apply_disable w h = where_named (body_named w h) (λ b. need b.enabled BodyDisabled (Ok (disabled w h b)))

-- a mover has an island of its own, and the body's joints begin by slot
abbrev pub body_enabled : Handle → Body → Plain → Plain
body_enabled h b w =
    let now = record w { bodies = changed_at enabled_body w.bodies h.slot } in
    let own = joint_ties_at h.slot now.bodies (joints_in_slots w) in
    with_acting (each_begun constraint_number own (body_come h.slot b (acting_of w))) now

-- the movers at its joints wake first
abbrev pub enabled : Plain → Handle → Body → Plain
enabled w h b = cond b.enabled w (body_enabled h (enabled_body b) (with_woken w (joined_to w.bodies w.joints h.slot)))

abbrev pub apply_enable : Plain → Handle → Result Applied Refusal
apply_enable w h = where_named (body_named w h) (λ b. Ok (quietly (enabled w h b)))

-- ---- Wake and Sleep

-- why a body's island can't be woken or put to rest
abbrev pub mover_refusal : Option Body → Option Refusal
mover_refusal None = Some StaleHandle
mover_refusal (Some b) =
    refused_unless (is_dynamic b.kind) NotAMover (
    refused_unless b.enabled BodyDisabled
    None)

abbrev pub apply_wake : Plain → Handle → Result Applied Refusal
apply_wake w h = unless_refused (mover_refusal (body_named w h)) (Ok (quietly (with_woken w (h.slot ∷ []))))

abbrev pub gained : List (Option Body) → List (Option Body) → Vec2
gained before after = minus (momentum after) (momentum before)

-- the momentum that bodies lose as they are told to rest
abbrev pub rest_entries : ℕ → Labels → List (Option Body) → List Entry
rest_entries call labels bodies = booked call causes.Rest (gained bodies (told labels bodies)).x (gained bodies (told labels bodies)).y

abbrev pub put_to_sleep : Plain → Acting Constraint → Applied
put_to_sleep w s = accepted (with_acting s w) replies.Done (rest_entries (w.calls + 1) s.labels w.bodies)

-- the island is split if it is loose, and that of the body is put to rest; one that sleeps stays as it is
abbrev pub apply_sleep : Plain → Handle → Result Applied Refusal
apply_sleep w h = unless_refused (mover_refusal (body_named w h)) (Ok (put_to_sleep w (slept_at constraint_number h.slot (acting_of w))))

-- ---- Step

-- contacts begin and end, each in its turn: sleepers wake, islands merge and get loose, colours come and go
abbrev pub acting_after_changes : Plain → Collided → Acting Constraint
acting_after_changes w c = after_changes constraint_number (key_changes w.bodies c.begin c.end) (acting_of w)

-- the ticks and the restitution, over the bodies as the collide has woken them, and the constraints in solve order
abbrev pub solved_after : Plain → ℕ → Collided → Acting Constraint → Solving
solved_after w n c s = solved n w.gravity (solve_order (ids_of s.lists)) (told s.labels w.bodies) w.joints c.now

-- the bodies that the ticks have left, with their fat boxes and their timers
abbrev pub bodies_ticked : ℕ → Solving → List (Option Body)
bodies_ticked n s = timed_bodies n (renewed_bodies (bodies_of s))

-- islands that have been slow for long enough are split and put to rest, but none beside a kinematic body that moves
abbrev pub rested_acting : List (Option Body) → List (Option BodyJoint) → List ContactEntry → Acting Constraint → Acting Constraint
rested_acting bodies joints contacts s = sleep_phase constraint_number (timers_of bodies joints contacts) s

-- what the step has added to the movers' momentum, by cause
abbrev pub step_entries : ℕ → StepSums → List Entry
step_entries call sums =
    booked call causes.Gravity sums.gravity.x sums.gravity.y ++ (
    booked call causes.Immovable sums.immovable.x sums.immovable.y ++
    booked call causes.Clamp sums.clamp.x sums.clamp.y)

-- who fell asleep in the sleep phase, and who woke in the collide
abbrev pub events_of : Plain → Collided → Labels → Labels → EventLists
events_of w c awake rested = record {
  begin = c.begin;
  end = c.end;
  slept = asleep_only_in w.slot_entries awake rested;
  woke = asleep_only_in w.slot_entries awake w.islands;
}

-- the bodies, joints and contacts that the ticks have left, and then the sleep phase
abbrev pub stepped : Plain → ℕ → Collided → Acting Constraint → Solving → Acting Constraint → Applied
stepped w n c awake s rested = record {
  plain = counted (record w {
    bodies = told rested.labels (bodies_ticked n s);
    joints = s.joints;
    contacts = s.contacts;
    islands = rested.labels;
    colours = ids_of rested.lists;
    steps = w.steps + 1;
  });
  reply = replies.Stepped (w.steps + 1);
  entries = step_entries (w.calls + 1) s.sums ++ rest_entries (w.calls + 1) rested.labels (bodies_ticked n s);
  events = Some (events_of w c awake.labels rested.labels);
}

abbrev pub step_solved : Plain → ℕ → Collided → Acting Constraint → Solving → Applied
step_solved w n c awake s = stepped w n c awake s (rested_acting (bodies_ticked n s) s.joints s.contacts awake)

-- first the collide, then the ticks, then the sleep phase
abbrev pub step_done : Plain → ℕ → Collided → Applied
step_done w n c = step_solved w n c (acting_after_changes w c) (solved_after w n c (acting_after_changes w c))

abbrev pub apply_step : Plain → ℤ → Result Applied Refusal
apply_step w n = need (is_between (pos 1) (pos 8) n) OutOfRange (Ok (step_done w (unsigned_abs n) (collided w.bodies w.joints w.contacts)))

-- ---- a new world

abbrev pub gravity_refusal : Vec2 → Option Refusal
gravity_refusal g = refused_unless (is_within (2 ^ 16) g) OutOfRange None

abbrev pub empty_world : Vec2 → World
empty_world g = record {
  plain = record {
    slot_entries = [];
    bodies = [];
    joint_entries = [];
    joints = [];
    contacts = [];
    islands = [];
    colours = replicate (COLOURS + 1) [];
    gravity = g;
    steps = 0;
    calls = 0;
  };
  entries = [];
  settled = zero_totals;
  events = no_events;
}

-- just what is due; or, where nothing keeps the world from being made, want of memory
abbrev pub IsMade : Option Refusal → World → Result World Refusal → Type 0
IsMade None w (Ok made) = made ≡ w
IsMade None w (Err e) = e ≡ NoMemory
IsMade (Some due) w (Ok made) = ⊥
IsMade (Some due) w (Err e) = e ≡ due

-- ---- all commands

abbrev pub apply_accepted : Plain → Command → Result Applied Refusal
apply_accepted w (CreateBody d) = apply_create w d
apply_accepted w (DestroyBody h) = apply_destroy w h
apply_accepted w (CreateJoint d) = apply_join w d
apply_accepted w (DestroyJoint h) = apply_unjoin w h
apply_accepted w (Push h j) = apply_push w h j zero_vector
apply_accepted w (PushAt h j r) = apply_push w h j r
apply_accepted w (SetPose h o) = apply_pose w h o
apply_accepted w (SetVelocity h course) = apply_velocity w h course
apply_accepted w (SetGravity g) = apply_gravity w g
apply_accepted w (Disable h) = apply_disable w h
apply_accepted w (Enable h) = apply_enable w h
apply_accepted w (Wake h) = apply_wake w h
apply_accepted w (Sleep h) = apply_sleep w h
apply_accepted w (Step n) = apply_step w n

-- the new plain world, the reply, the entries and the events, or the refusal that comes first
abbrev pub apply : Plain → Command → Result Applied Refusal
apply w c = cond (nat_lt w.calls (2 ^ 40)) (apply_accepted w c) (Err WornOut)

-- ---- what a call of the code may answer, and leave, given what is due

abbrev pub world_with : World → Applied → World
world_with old a = record old { plain = a.plain; entries = old.entries ++ a.entries; events = unwrap_or a.events old.events }

-- just what is due; or, where a command is due to be accepted, want of memory with nothing changed
abbrev pub Answers : Result Applied Refusal → World → Result Reply Refusal → World → Type 0
Answers (Ok a) old (Ok reply) new = (reply ≡ a.reply) × (new ≡ world_with old a)
Answers (Ok a) old (Err e) new = (e ≡ NoMemory) × (new ≡ old)
Answers (Err due) old (Err e) new = (e ≡ due) × (new ≡ old)
Answers (Err due) old (Ok reply) new = ⊥
