-- By how much the totals of a ledger grow by calls.
use Rattle.std.proofs.Common.{◌≡◌, ℕ, ◌+◌, ◌*◌, ◌≤◌, ◌^◌, Bool, true, false, cond, nat_lt, List, [], ◌++◌, length, Option, Some, None, Result, Ok, Err, ℤ, pos, neg_ℤ, ◌+ℤ◌, unsigned_abs, arith, refl, sym, ap, ◌∙◌, subst, ◌∷◌}
use Rattle.std.specs.Prelude.{◌-ℤ◌}
use Rattle.std.proofs.lemmas.Int.{ints}
use Rattle.std.proofs.lemmas.List.{append-nil}
use Rattle.fixed_geom.specs.Vectors.{IsWithin, is_within, zero_vector}
use Rattle.fixed_geom.specs.declared.refusal.Refusal.{Refusal}
use Rattle.fixed_geom.specs.declared.refusal.Refusal.TheVariants.{BodyDisabled, OutOfRange, TooMany, WornOut}
use Rattle.fixed_geom.specs.declared.vectors.Vec2.{Vec2}
use Rattle.fixed_geom.specs.Refusals.{need}
use Rattle.body_handles.specs.SlotEntries.{is_live, lowest}
use Rattle.body_handles.specs.declared.handle.Handle.{Handle}
use Rattle.body_handles.specs.declared.slot_table.TheConstants.{MAX_SLOTS}
use Rattle.impulse_ledger.specs.Sums.{HaveSameTotals, summed, total_of}
use Rattle.impulse_ledger.specs.Totals.{total_over}
use Rattle.impulse_ledger.specs.declared.entry.Cause as cause
use Rattle.impulse_ledger.specs.declared.entry.Cause.TheVariants as causes
use Rattle.impulse_ledger.specs.declared.entry.Entry.{Entry}
use Rattle.impulse_ledger.proofs.KeptLemmas.{same_totals}
use Rattle.impulse_ledger.proofs.SumLemmas.{same_x, same_y}
use Rattle.colour_solver.specs.Ticks.{AreSums}
use Rattle.plain_world.specs.Constraints.{constraint_number}
use Rattle.plain_world.specs.declared.constraint.Constraint.{Constraint}
use Rattle.graph_colours.specs.Colours.{ids_of}
use Rattle.islands.specs.Labels.{Labels}
use Rattle.momenta.specs.declared.motion.Momenta.{Momenta}
use Rattle.plain_world.specs.Bodies.{AreBodies, IsBody, def_refusal, is_mover}
use Rattle.plain_world.specs.Joints.{joint_of}
use Rattle.plain_world.specs.Momentum.{momentum, momentum_in}
use Rattle.plain_world.specs.Plain.{Plain}
use Rattle.plain_world.specs.Sleep.{told}
use Rattle.plain_world.specs.declared.body.Body.{Body}
use Rattle.plain_world.specs.declared.body.BodyDef.{BodyDef}
use Rattle.plain_world.specs.declared.joint.BodyJoint.{BodyJoint}
use Rattle.plain_world.specs.declared.joint.JointDef.{JointDef}
use Rattle.plain_world.specs.declared.kind.Course.{Course}
use Rattle.plain_world.specs.Changes.{put_pose, put_course}
use Rattle.shapes.specs.Shapes.{is_between}
use Rattle.shapes.specs.declared.pose.Pose.{Pose}
use Rattle.sleep_wake.specs.Acting.{Acting}
use Rattle.sleep_wake.specs.Sleeping.{slept_at}
use Rattle.world_core.specs.Frames.{with_ledger_settled}
use Rattle.world_core.specs.Grown.{EachCallBooksLittle, GrownWorldsHaveSmallTotals, GrowsByCalls, SettlingBooksNothing}
use Rattle.world_core.proofs.SolvingBounds.{IsBounded, left_momentum, pass_most, solved_bound}
use Rattle.world_core.proofs.Whole.{named}
use Rattle.world_core_base.specs.Solving.{Solving, solve_order}
use Rattle.world_rules.specs.Apply.{Answers, Applied, apply, apply_accepted, bodies_ticked, booked, departed, empty_world, gained, join_refusal, mover_refusal, posed, pushed, rest_entries, rested_acting, solved_after, steered, step_done, step_solved, acting_after_changes, world_with, unless_refused, where_named, map_ok, push_given, with_body_changed, created, joined, destroyed, disabled, enabled, put_to_sleep, quietly, joint_gone}
use Rattle.world_rules.specs.Collide.{Collided, collided}
use Rattle.world_rules.specs.Laws.{push_of}
use Rattle.world_rules.specs.Replay.{after_one}
use Rattle.world_rules.specs.Sets.{acting_of, with_woken}
use Rattle.world_rules.specs.Sound.{AreSmall, IsSound}
use Rattle.world_rules.specs.World.{World, body_named, book_of}
use Rattle.world_rules.specs.declared.command.Command.{Command}
use Rattle.world_rules.specs.declared.command.Command.TheVariants.{CreateBody, DestroyBody, CreateJoint, DestroyJoint, Push, PushAt, SetPose, SetVelocity, SetGravity, Disable, Enable, Wake, Sleep, Step}
use Rattle.world_rules.specs.declared.command.Reply.{Reply}
use Rattle.world_rules.proofs.AcceptedAll.{few_ticks}
use Rattle.world_rules.proofs.BookLemmas.{AreSmall-booked, AreSmall-weaker}
use Rattle.world_rules.proofs.CountLaws.{each_call_counts, pushes_are_small}
use Rattle.world_rules.proofs.KeptSleep.{rest_small}
use Rattle.world_rules.proofs.SlotLemmas.{momentum_le, part_le}
use Rattle.world_rules.proofs.StepBook.{AreSmall-stepped, summed-stepped}
use Rattle.world_rules.proofs.ToldLaws.{length_told, told_are_bodies}
use Rattle.solver_sets.specs.Joining.{handle_at}

-- ---- what a call books

-- no total of the world grows by more than 2^83
abbrev Grows : World → Applied → Type 0
Grows w a = (n : ℕ) → AreSmall n (book_of w) → AreSmall (n + 2 ^ 83) (book_of (world_with w a))

-- with these entries more
abbrev AreSmallWith : ℕ → World → List Entry → Type 0
AreSmallWith n w more = AreSmall n (record { entries = w.entries ++ more; settled = w.settled; room = 0 })

none_grows : (w : World) (a : Applied) → a.entries ≡ [] → Grows w a
none_grows w a e n small =
    subst (AreSmallWith (n + 2 ^ 83) w) (sym e)
    (subst (λ (es : List Entry). AreSmall (n + 2 ^ 83) (record { entries = es; settled = w.settled; room = 0 })) (sym (append-nil w.entries))
    (AreSmall-weaker n (n + 2 ^ 83) (book_of w) (omega arith) small))

one_grows : (w : World) (a : Applied) (call : ℕ) (why : cause.Cause) (x y : ℤ) → a.entries ≡ booked call why x y → unsigned_abs x ≤ 2 ^ 83 → unsigned_abs y ≤ 2 ^ 83 → Grows w a
one_grows w a call why x y e hx hy n small = subst (AreSmallWith (n + 2 ^ 83) w) (sym e) (AreSmall-booked n (2 ^ 83) 0 0 w.entries w.settled call why x y small hx hy)

-- ---- the entries of each command

abbrev entries_in : Result Applied Refusal → List Entry
entries_in (Ok a) = a.entries
entries_in (Err e) = []

tested : (t : Bool) (x a : Applied) (e : Refusal) (es : List Entry) → x.entries ≡ es → cond t (Ok x) (Err e) ≡ Ok a → a.entries ≡ es
tested true x a e es is h = sym (ap entries_in h) ∙ is
tested false x a e es is h = cc

created_none : (w : Plain) (d : BodyDef) (o : Option Refusal) (a : Applied) → unless_refused o (need (nat_lt (lowest w.slot_entries) MAX_SLOTS) TooMany (Ok (created w d))) ≡ Ok a → a.entries ≡ []
created_none w d (Some e) a h = cc
created_none w d None a h = tested (nat_lt (lowest w.slot_entries) MAX_SLOTS) _ a TooMany [] refl h

joined_none : (w : Plain) (d : JointDef) (due : Option Refusal) (a : Applied) → unless_refused due (need (nat_lt (lowest w.joint_entries) MAX_SLOTS) TooMany (Ok (joined w d (handle_at w.joint_entries (lowest w.joint_entries))))) ≡ Ok a → a.entries ≡ []
joined_none w d (Some e) a h = cc
joined_none w d None a h = tested (nat_lt (lowest w.joint_entries) MAX_SLOTS) _ a TooMany [] refl h

unjoined_none : (w : Plain) (j : Handle) (o : Option BodyJoint) (a : Applied) → where_named o (λ joint. Ok (quietly (joint_gone j joint (with_woken w (joint.a ∷ joint.b ∷ []))))) ≡ Ok a → a.entries ≡ []
unjoined_none w j None a h = cc
unjoined_none w j (Some joint) a h = sym (ap entries_in h)

posed_none : (w : Plain) (b : Handle) (r : Result Pose Refusal) (a : Applied) → map_ok (λ given. with_body_changed w b (put_pose given)) r ≡ Ok a → a.entries ≡ []
posed_none w b (Ok o) a h = sym (ap entries_in h)
posed_none w b (Err e) a h = cc

steered_none : (w : Plain) (b : Handle) (r : Result Course Refusal) (a : Applied) → map_ok (λ given. with_body_changed w b (put_course given)) r ≡ Ok a → a.entries ≡ []
steered_none w b (Ok course) a h = sym (ap entries_in h)
steered_none w b (Err e) a h = cc

enabled_none : (w : Plain) (b : Handle) (o : Option Body) (a : Applied) → where_named o (λ body. Ok (quietly (enabled w b body))) ≡ Ok a → a.entries ≡ []
enabled_none w b None a h = cc
enabled_none w b (Some body) a h = sym (ap entries_in h)

woken_none : (w : Plain) (b : Handle) (o : Option Refusal) (a : Applied) → unless_refused o (Ok (quietly (with_woken w (b.slot ∷ [])))) ≡ Ok a → a.entries ≡ []
woken_none w b (Some e) a h = cc
woken_none w b None a h = sym (ap entries_in h)

-- ---- what leaves with a body

negative_within : (z : ℤ) → unsigned_abs z ≤ 2 ^ 60 → unsigned_abs (neg_ℤ z) ≤ 2 ^ 83
negative_within z h = omega (arith, ints, h)

leaves : (w : World) (a : Applied) (b : Body) → IsBody b → a.entries ≡ departed (w.plain.calls + 1) b → Grows w a
leaves w a b is e =
    let small : IsWithin (2 ^ 60) (momentum_in (Some b)) = part_le (is_mover b) b.motion.p is.motion.p in
    one_grows w a (w.plain.calls + 1) causes.Departed (neg_ℤ (momentum_in (Some b)).x) (neg_ℤ (momentum_in (Some b)).y) e (negative_within (momentum_in (Some b)).x small.x) (negative_within (momentum_in (Some b)).y small.y)

destroyed_grows : (w : World) (h : Handle) (o : Option Body) (a : Applied) → ((b : Body) → o ≡ Some b → IsBody b) → where_named o (λ body. Ok (destroyed w.plain h body)) ≡ Ok a → Grows w a
destroyed_grows w h None a is e = cc
destroyed_grows w h (Some b) a is e = leaves w a b (is b refl) (sym (ap entries_in e))

disabled_grows : (w : World) (h : Handle) (o : Option Body) (a : Applied) → ((b : Body) → o ≡ Some b → IsBody b) → where_named o (λ body. need body.enabled BodyDisabled (Ok (disabled w.plain h body))) ≡ Ok a → Grows w a
disabled_grows w h None a is e = cc
disabled_grows w h (Some b) a is e = leaves w a b (is b refl) (tested b.enabled _ a BodyDisabled (departed (w.plain.calls + 1) b) refl e)

-- ---- what a push gives

wide : (z : ℤ) → unsigned_abs z ≤ 2 ^ 40 → unsigned_abs z ≤ 2 ^ 83
wide z h = omega (arith, h)

pushed_grows : (w : World) (h : Handle) (j : Vec2) (r : Result Momenta Refusal) (a : Applied) → IsWithin (2 ^ 40) j → map_ok (push_given w.plain h j) r ≡ Ok a → Grows w a
pushed_grows w h j (Ok m) a small e = one_grows w a (w.plain.calls + 1) causes.Command j.x j.y (sym (ap entries_in e)) (wide j.x small.x) (wide j.y small.y)
pushed_grows w h j (Err due) a small e = cc

-- ---- what those lose that are put to rest

rested_grows : (w : World) (a : Applied) (labels : Labels) → AreBodies w.plain.bodies → length w.plain.bodies ≤ MAX_SLOTS → a.entries ≡ rest_entries (w.plain.calls + 1) labels w.plain.bodies → Grows w a
rested_grows w a labels all few e =
    let small = rest_small labels w.plain.bodies all few in
    let lost : Vec2 = gained w.plain.bodies (told labels w.plain.bodies) in
    let small_x = small.x in
    let small_y = small.y in
    one_grows w a (w.plain.calls + 1) causes.Rest lost.x lost.y e (omega (arith, small_x)) (omega (arith, small_y))

slept_grows : (w : World) (h : Handle) (o : Option Refusal) (a : Applied) → AreBodies w.plain.bodies → length w.plain.bodies ≤ MAX_SLOTS → unless_refused o (Ok (put_to_sleep w.plain (slept_at constraint_number h.slot (acting_of w.plain)))) ≡ Ok a → Grows w a
slept_grows w h (Some due) a all few e = cc
slept_grows w h None a all few e = rested_grows w a (slept_at constraint_number h.slot (acting_of w.plain)).labels all few (sym (ap entries_in e))

-- ---- what a step adds

few_momentum : (size : ℕ) (v : Vec2) → size ≤ 2 ^ 16 → IsWithin (size * 2 ^ 60) v → IsWithin (2 ^ 76) v
few_momentum size v few h = let h_x = h.x in let h_y = h.y in record { x = omega (arith, few, h_x); y = omega (arith, few, h_y) }

total_momentum : (w : World) → IsSound w → IsWithin (2 ^ 76) (momentum w.plain.bodies)
total_momentum w sound = few_momentum (length w.plain.bodies) (momentum w.plain.bodies) sound.formed.matched.few (momentum_le w.plain.bodies sound.formed.bodies)

-- what one sum of several is, where the others are known
the_rest : (old new entries settled g i c r : ℤ) → old ≡ entries +ℤ settled → new ≡ ((entries +ℤ (g +ℤ (i +ℤ c))) +ℤ r) +ℤ settled → unsigned_abs old ≤ 2 ^ 76 → unsigned_abs new ≤ 2 ^ 76
    → unsigned_abs g ≤ 8 * (2 ^ 77 + 2 ^ 57) → unsigned_abs c ≤ 24 * (2 ^ 77 + 2 ^ 57) → unsigned_abs r ≤ 2 ^ 77 + 2 ^ 56 → unsigned_abs i ≤ 2 ^ 83
the_rest old new entries settled g i c r before now f h k l m = omega (arith, ints, before, now, f, h, k, l, m)

lost_within : (before now : ℤ) → unsigned_abs before ≤ 2 ^ 76 + 2 ^ 56 → unsigned_abs now ≤ 2 ^ 76 → unsigned_abs (now -ℤ before) ≤ 2 ^ 77 + 2 ^ 56
lost_within before now h k = omega (arith, ints, h, k)

-- the ticks leave these bodies, and those that fall asleep are put to rest
stepped_grows : (w : World) (n : ℕ) (c : Collided) (woken : Acting Constraint) (s : Solving) → IsSound w → IsSound (world_with w (step_solved w.plain n c woken s)) → IsBounded (2 ^ 60 + 2 ^ 40) (8 * pass_most) (24 * pass_most) s
    → Grows w (step_solved w.plain n c woken s)
stepped_grows w n c woken s before now h m small =
    let labels : Labels = (rested_acting (bodies_ticked n s) s.joints s.contacts woken).labels in
    let call : ℕ = w.plain.calls + 1 in
    let lost : Vec2 = gained (bodies_ticked n s) (told labels (bodies_ticked n s)) in
    let left = left_momentum n (8 * pass_most) (24 * pass_most) s h in
    let new = total_momentum (world_with w (step_solved w.plain n c woken s)) now in
    let old = total_momentum w before in
    let sum = summed-stepped w.entries call s.sums lost.x lost.y in
    let lost_x : unsigned_abs lost.x ≤ 2 ^ 77 + 2 ^ 56 = lost_within (momentum (bodies_ticked n s)).x (momentum (told labels (bodies_ticked n s))).x left.x new.x in
    let lost_y : unsigned_abs lost.y ≤ 2 ^ 77 + 2 ^ 56 = lost_within (momentum (bodies_ticked n s)).y (momentum (told labels (bodies_ticked n s))).y left.y new.y in
    let is_x = the_rest (momentum w.plain.bodies).x (momentum (told labels (bodies_ticked n s))).x (summed w.entries).x (total_over w.settled).x s.sums.gravity.x s.sums.immovable.x s.sums.clamp.x lost.x
    before.promises.total_x (now.promises.total_x ∙ ap (λ (z : ℤ). z +ℤ (total_over w.settled).x) (same_x sum)) old.x new.x h.gravity.x h.clamp.x lost_x in
    let is_y = the_rest (momentum w.plain.bodies).y (momentum (told labels (bodies_ticked n s))).y (summed w.entries).y (total_over w.settled).y s.sums.gravity.y s.sums.immovable.y s.sums.clamp.y lost.y
    before.promises.total_y (now.promises.total_y ∙ ap (λ (z : ℤ). z +ℤ (total_over w.settled).y) (same_y sum)) old.y new.y h.gravity.y h.clamp.y lost_y in
    let gravity_x = h.gravity.x in
    let gravity_y = h.gravity.y in
    let clamp_x = h.clamp.x in
    let clamp_y = h.clamp.y in
    let sums : AreSums (2 ^ 83) s.sums = record {
      gravity = record { x = omega (arith, gravity_x); y = omega (arith, gravity_y) };
      immovable = record { x = is_x; y = is_y };
      clamp = record { x = omega (arith, clamp_x); y = omega (arith, clamp_y) };
    } in
    AreSmall-stepped m (2 ^ 83) w.entries w.settled call s.sums lost.x lost.y sums (omega (arith, lost_x)) (omega (arith, lost_y)) small

step_grows : (w : World) (n : ℕ) (c : Collided) → n ≤ 8 → IsSound w → IsSound (world_with w (step_done w.plain n c)) → Grows w (step_done w.plain n c)
step_grows w n c few before now =
    let woken : Acting Constraint = acting_after_changes w.plain c in
    let bodies : List (Option Body) = told woken.labels w.plain.bodies in
    let long = length_told woken.labels w.plain.bodies in
    let most = before.formed.matched.few in
    stepped_grows w n c woken (solved_after w.plain n c woken) before now
    (solved_bound n w.plain.gravity (solve_order (ids_of woken.lists)) bodies w.plain.joints c.now few before.formed.gravity (told_are_bodies woken.labels w.plain.bodies before.formed.bodies) (omega (arith, long, most)))

same_ok : (a b : Applied) → ◌≡◌ {A = Result Applied Refusal} (Ok a) (Ok b) → a ≡ b
same_ok a b e = cc

abbrev left_by_step : World → ℤ → Applied
left_by_step w n = step_done w.plain (unsigned_abs n) (collided w.plain.bodies w.plain.joints w.plain.contacts)

step_if : (w : World) (n : ℤ) (a : Applied) (t : Bool) → is_between (pos 1) (pos 8) n ≡ t → cond t (Ok (left_by_step w n)) (Err OutOfRange) ≡ Ok a → IsSound w → IsSound (world_with w a) → Grows w a
step_if w n a true f e before now =
    let same : left_by_step w n ≡ a = same_ok (left_by_step w n) a e in
    subst (Grows w) same (step_grows w (unsigned_abs n) (collided w.plain.bodies w.plain.joints w.plain.contacts) (few_ticks n f) before (subst (λ (b : Applied). IsSound (world_with w b)) (sym same) now))
step_if w n a false f e before now = cc

-- ---- any command

accepted_grows : (w : World) (c : Command) (a : Applied) → IsWithin (2 ^ 40) (push_of c) → IsSound w → IsSound (world_with w a) → apply_accepted w.plain c ≡ Ok a → Grows w a
accepted_grows w (CreateBody d) a small before now e = none_grows w a (created_none w.plain d (def_refusal d) a e)
accepted_grows w (DestroyBody h) a small before now e = destroyed_grows w h (body_named w.plain h) a (λ b f. named (is_live w.plain.slot_entries h) w.plain.bodies h.slot b before.formed.bodies f) e
accepted_grows w (CreateJoint d) a small before now e = none_grows w a (joined_none w.plain d (join_refusal (body_named w.plain d.a) (body_named w.plain d.b) d) a e)
accepted_grows w (DestroyJoint h) a small before now e = none_grows w a (unjoined_none w.plain h (joint_of w.plain.joint_entries w.plain.joints h) a e)
accepted_grows w (Push h j) a small before now e = pushed_grows w h j (pushed (body_named w.plain h) j zero_vector) a small e
accepted_grows w (PushAt h j r) a small before now e = pushed_grows w h j (pushed (body_named w.plain h) j r) a small e
accepted_grows w (SetPose h o) a small before now e = none_grows w a (posed_none w.plain h (posed (body_named w.plain h) o) a e)
accepted_grows w (SetVelocity h course) a small before now e = none_grows w a (steered_none w.plain h (steered (body_named w.plain h) course) a e)
accepted_grows w (SetGravity g) a small before now e = none_grows w a (tested (is_within (2 ^ 16) g) _ a OutOfRange [] refl e)
accepted_grows w (Disable h) a small before now e = disabled_grows w h (body_named w.plain h) a (λ b f. named (is_live w.plain.slot_entries h) w.plain.bodies h.slot b before.formed.bodies f) e
accepted_grows w (Enable h) a small before now e = none_grows w a (enabled_none w.plain h (body_named w.plain h) a e)
accepted_grows w (Wake h) a small before now e = none_grows w a (woken_none w.plain h (mover_refusal (body_named w.plain h)) a e)
accepted_grows w (Sleep h) a small before now e = slept_grows w h (mover_refusal (body_named w.plain h)) a before.formed.bodies before.formed.matched.few e
accepted_grows w (Step n) a small before now e = step_if w n a (is_between (pos 1) (pos 8) n) refl e before now

accepted : (t : Bool) (w : Plain) (c : Command) (a : Applied) → cond t (apply_accepted w c) (Err WornOut) ≡ Ok a → apply_accepted w c ≡ Ok a
accepted true w c a h = h
accepted false w c a h = cc

one_call : (w : World) (c : Command) (due : Result Applied Refusal) → apply w.plain c ≡ due → IsSound w → IsSound (after_one w due) → GrowsByCalls w (after_one w due)
one_call w c (Err refusal) e before now n small = small
one_call w c (Ok a) e before now n small =
    let calls : a.plain.calls ≡ w.plain.calls + 1 = each_call_counts w.plain c a e in
    let grows : Grows w a = accepted_grows w c a (pushes_are_small w.plain c a e) before now (accepted (nat_lt w.plain.calls (2 ^ 40)) w.plain c a e) in
    AreSmall-weaker (n + w.plain.calls * 2 ^ 83 + 2 ^ 83) (n + a.plain.calls * 2 ^ 83) (book_of (world_with w a)) (omega (arith, calls)) (grows (n + w.plain.calls * 2 ^ 83) small)

pub each_call_books_little : EachCallBooksLittle
each_call_books_little w c before now = one_call w c (apply w.plain c) refl before now

-- ---- one call of the code

answered_by : (w new : World) (c : Command) (due : Result Applied Refusal) (r : Result Reply Refusal) → apply w.plain c ≡ due → Answers due w r new → IsSound w → IsSound new → GrowsByCalls w new
answered_by w new c (Ok a) (Ok reply) e h before now = subst (GrowsByCalls w) (sym h.1) (one_call w c (Ok a) e before (subst IsSound h.1 now))
answered_by w new c (Ok a) (Err refusal) e h before now = subst (GrowsByCalls w) (sym h.1) (λ n small. small)
answered_by w new c (Err due) (Ok reply) e h before now = absurd h
answered_by w new c (Err due) (Err refusal) e h before now = subst (GrowsByCalls w) (sym h.1) (λ n small. small)

-- whatever the call has answered
pub answered_grows : (w new : World) (c : Command) (r : Result Reply Refusal) → Answers (apply w.plain c) w r new → IsSound w → IsSound new → GrowsByCalls w new
answered_grows w new c r h before now = answered_by w new c (apply w.plain c) r refl h before now

-- ---- settling

pub same_totals_small : (n : ℕ) (v w : World) → HaveSameTotals (book_of w) (book_of v) → AreSmall n (book_of v) → AreSmall n (book_of w)
same_totals_small n v w same small = record {
  x = λ c. let small_x = small.x c in let is = same_x (same.of_cause c) in omega (arith, ints, small_x, is);
  y = λ c. let small_y = small.y c in let is = same_y (same.of_cause c) in omega (arith, ints, small_y, is);
}

pub settling_books_nothing : SettlingBooksNothing
settling_books_nothing w n small = same_totals_small (n + w.plain.calls * 2 ^ 83) w (with_ledger_settled w) (same_totals (book_of w) 0) small

-- ---- a world that grew from a new one

none_booked : (g : Vec2) → AreSmall (0 + 0 * 2 ^ 83) (book_of (empty_world g))
none_booked g = record { x = λ c. no_x g c; y = λ c. no_y g c }
  where
    no_x : (g : Vec2) (c : cause.Cause) → unsigned_abs (total_of c (book_of (empty_world g))).x ≤ 0 + 0 * 2 ^ 83
    no_x g causes.Command = omega arith
    no_x g causes.Gravity = omega arith
    no_x g causes.Immovable = omega arith
    no_x g causes.Clamp = omega arith
    no_x g causes.Rest = omega arith
    no_x g causes.Departed = omega arith

    no_y : (g : Vec2) (c : cause.Cause) → unsigned_abs (total_of c (book_of (empty_world g))).y ≤ 0 + 0 * 2 ^ 83
    no_y g causes.Command = omega arith
    no_y g causes.Gravity = omega arith
    no_y g causes.Immovable = omega arith
    no_y g causes.Clamp = omega arith
    no_y g causes.Rest = omega arith
    no_y g causes.Departed = omega arith

pub grown_worlds_have_small_totals : GrownWorldsHaveSmallTotals
grown_worlds_have_small_totals g w sound grows =
    let calls = sound.formed.calls in
    AreSmall-weaker (0 + w.plain.calls * 2 ^ 83) (2 ^ 126) (book_of w) (omega (arith, calls)) (grows 0 (none_booked g))
