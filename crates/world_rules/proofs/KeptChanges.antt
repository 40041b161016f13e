-- Commands that change one body, or none, keep a world.
use Rattle.std.proofs.Common.{◌≡◌, ℕ, ◌+◌, ◌*◌, ◌<◌, ◌≤◌, ◌^◌, List, [], ◌∷◌, ◌++◌, length, Option, Some, None, Ok, Err, Bool, true, false, cond, ℤ, pos, unsigned_abs, arith, refl, sym, ap, ◌∙◌, subst, is_some}
use Rattle.std.specs.Prelude.{◌&&◌, nat_le, option_map, slice_set}
use Rattle.std.specs.Option.{ForSome, is_none}
use Rattle.std.proofs.lemmas.Int.{ints}
use Rattle.std.proofs.lemmas.Grind.{common_steps}
use Rattle.std.proofs.lemmas.List.{append-nil, length-set}
use Rattle.std.proofs.lemmas.List.Elements.{Contains-push}
use Rattle.fixed_geom.specs.Facings.{is_facing}
use Rattle.fixed_geom.specs.Vectors.{IsWithin, cross, is_within, plus, zero_vector}
use Rattle.fixed_geom.specs.declared.vectors.Vec2.{Vec2}
use Rattle.fixed_geom.specs.declared.refusal.Refusal.TheVariants.{OutOfRange, NotAMover, NotKinematic, BodyDisabled, TooFast}
use Rattle.body_handles.specs.declared.handle.Handle.{Handle}
use Rattle.body_handles.specs.SlotEntries.{is_live}
use Rattle.momenta.specs.Impulses.{turned_by}
use Rattle.momenta.specs.declared.motion.Momenta.{Momenta}
use Rattle.shapes.specs.Poses.{IsPose}
use Rattle.shapes.specs.declared.pose.Pose.{Pose}
use Rattle.impulse_ledger.specs.declared.entry.Entry.{Entry}
use Rattle.impulse_ledger.specs.declared.entry.Cause.{Cause}
use Rattle.impulse_ledger.specs.declared.entry.Cause.TheVariants as causes
use Rattle.impulse_ledger.specs.Sums.{Book}
use Rattle.plain_world.specs.Constraints.{constraint_number}
use Rattle.islands.specs.Labels.{label_at, sleeping_name}
use Rattle.islands.specs.declared.label.Label.{Label}
use Rattle.colour_solver.proofs.VectorLaws.{plus_zero, same_x, same_y}
use Rattle.plain_world.specs.declared.body.Body.{Body}
use Rattle.plain_world.specs.declared.kind.Course.{Course}
use Rattle.plain_world.specs.declared.kind.Kind.TheVariants.{Kinematic}
use Rattle.plain_world.specs.Bodies.{IsBody, is_awake, is_mover, is_mover_in, pose_of}
use Rattle.plain_world.specs.Momentum.{momentum_in}
use Rattle.plain_world.specs.Changes.{put_course, put_momenta, put_pose}
use Rattle.plain_world.specs.InSlots.{CanPose, HaveSameSlots}
use Rattle.plain_world.specs.Kinds.{IsCourse, is_course, is_dynamic, is_kinematic}
use Rattle.plain_world.specs.Plain.{Plain}
use Rattle.plain_world.specs.Sleep.{roused, told_body}
use Rattle.plain_world.specs.Slots.{body_at, shapes_in}
use Rattle.plain_world.proofs.BoxLemmas.{renewed_are}
use Rattle.plain_world.proofs.KindLaws.{mass_as, no_mover, static_as}
use Rattle.sleep_wake.specs.Acting.{IsConsistent}
use Rattle.sleep_wake.specs.Acting as acting
use Rattle.sleep_wake.specs.Sleeping.{islands_woken, sleeping_names}
use Rattle.solver_sets.specs.Beside.{stirred_by}
use Rattle.solver_sets.specs.Alike.{AreAlike}
use Rattle.world_rules.specs.Apply.{are_momenta, body_changed, booked, counted, posed, pushed, steered, with_impulse}
use Rattle.world_rules.specs.Sets.{acting_of, stirred, with_woken}
use Rattle.world_rules.specs.Sound.{IsRoomy}
use Rattle.world_rules.specs.World.{World, body_named, book_of}
use Rattle.world_rules.proofs.ActingLaws.{AreLists, awake_name, kept_of, lists_kept, waking_kept}
use Rattle.world_rules.proofs.LowerLaws.{the_named_are_awake}
use Rattle.world_rules.proofs.BookLemmas.{AreSmall-booked, AreSmall-weaker, summed-booked}
use Rattle.world_rules.proofs.ChangeLemmas.{alike_acting, alike_moved, alike_set, tied_alike, timers_set, told_set}
use Rattle.world_rules.proofs.KeptContacts.{contacts_of_same, has_bodies_same, joints_same, moves_alike}
use Rattle.world_rules.proofs.ShapeLaws.{HaveSameShapes, filters_same, same_shapes_set, shapes_of}
use Rattle.solver_sets.proofs.SlotLemmas.{below_length}
use Rattle.world_rules.proofs.SlotLemmas.{AreBodies-set, AreMatched-same, HaveSameSlots-set, body_at-in, momentum-set, momentum_le}
use Rattle.world_rules.proofs.SoundLaws.{IsKept}
use Rattle.world_rules.proofs.ToldLaws.{body_told, told_is, told_motion}

-- ---- a kept world has room in its ledger's numbers

pub IsRoomy-kept : (w : World) (room : ℕ) → IsKept w → IsRoomy (record { entries = w.entries; settled = w.settled; room = room })
IsRoomy-kept w room s =
    let within = momentum_le w.plain.bodies s.bodies in
    let few = s.matched.few in
    record {
      x = rw (← s.total_x) (omega (arith, within.x, few));
      y = rw (← s.total_y) (omega (arith, within.y, few));
      causes = AreSmall-weaker (2 ^ 126 + w.plain.calls * 2 ^ 83) (2 ^ 126 + 2 ^ 123) (record { entries = w.entries; settled = w.settled; room = room }) (omega (arith, s.calls)) (record { x = s.causes.x; y = s.causes.y });
    }

pub IsRoomy-same : (b new : Book) → new.entries ≡ b.entries → new.settled ≡ b.settled → IsRoomy b → IsRoomy new
IsRoomy-same b new entries settled r = record {
  x = rw (entries, settled) r.x;
  y = rw (entries, settled) r.y;
  causes = record { x = λ cause. rw (entries, settled) (r.causes.x cause); y = λ cause. rw (entries, settled) (r.causes.y cause) };
}

-- ---- a command that changes one body

-- The body b in a slot becomes the body c, which is a mover, is enabled and sleeps just as b, and has the same shapes.
-- Its momentum grows by (x, y).
pub record IsChanged (bodies : List (Option Body)) (slot : ℕ) (b c : Body) (x y : ℤ) : Type 0 where
  pub at : body_at bodies slot ≡ Some b
  pub body : IsBody c
  pub mover : is_mover c ≡ is_mover b
  pub enabled : c.enabled ≡ b.enabled
  pub asleep : c.asleep ≡ b.asleep
  pub timer : c.timer ≡ b.timer
  pub shapes : c.shapes ≡ b.shapes
  pub gain : momentum_in (Some c) ≡ plus (momentum_in (Some b)) (record { x = x; y = y })
  pub small_x : unsigned_abs x ≤ 2 ^ 40
  pub small_y : unsigned_abs y ≤ 2 ^ 40

-- the lists with the change, one call later
changed_lists : (w : World) (slot : ℕ) (b c : Body) (x y : ℤ) (call : ℕ) (why : Cause) → IsKept w → w.plain.calls < 2 ^ 40 → IsChanged w.plain.bodies slot b c x y
    → AreLists (record w { plain = record w.plain { bodies = slice_set w.plain.bodies slot (Some c); calls = w.plain.calls + 1 }; entries = w.entries ++ booked call why x y })
changed_lists w slot b c x y call why s few is =
    let bodies = w.plain.bodies in
    let here : slot < length bodies = below_length bodies slot b is.at in
    let set = momentum-set bodies slot (Some c) here in
    let old : momentum_in (body_at bodies slot) ≡ momentum_in (Some b) = ap momentum_in is.at in
    let as_many : shapes_in (Some c) ≡ shapes_in (Some b) = λ j. cond (is.enabled j) (length (is.shapes j)) 0 in
    let slots : HaveSameSlots bodies (slice_set bodies slot (Some c)) = HaveSameSlots-set bodies slot (Some c) (sym (ap is_some is.at)) (as_many ∙ sym (ap shapes_in is.at)) in
    let shapes : HaveSameShapes bodies (slice_set bodies slot (Some c)) = same_shapes_set bodies slot (Some c) (is.shapes ∙ sym (ap shapes_of is.at)) in
    let alike : AreAlike bodies (slice_set bodies slot (Some c)) = alike_set bodies slot b c is.at is.mover is.enabled in
    let moves = moves_alike bodies (slice_set bodies slot (Some c)) alike slots in
    let old_timer = s.timers slot b is.at in
    let same_timer = is.timer in
    record {
      total_x = let t = s.total_x in rw (summed-booked w.entries call why x y) (omega (arith, ints, same_x set, same_x old, same_x is.gain, t));
      total_y = let t = s.total_y in rw (summed-booked w.entries call why x y) (omega (arith, ints, same_y set, same_y old, same_y is.gain, t));
      causes = AreSmall-weaker (2 ^ 126 + w.plain.calls * 2 ^ 83 + 2 ^ 40) (2 ^ 126 + (w.plain.calls + 1) * 2 ^ 83) _ (omega arith)
          (AreSmall-booked (2 ^ 126 + w.plain.calls * 2 ^ 83) (2 ^ 40) 0 0 w.entries w.settled call why x y s.causes is.small_x is.small_y);
      bodies = AreBodies-set bodies slot (Some c) s.bodies (λ d f. let same : c ≡ d = cc in subst IsBody same is.body);
      filters = filters_same bodies (slice_set bodies slot (Some c)) shapes s.filters;
      timers = timers_set bodies slot w.plain.steps c (omega (arith, old_timer, same_timer)) s.timers;
      matched = AreMatched-same w.plain.slot_entries bodies _ slots s.matched;
      slot_entries = s.slot_entries;
      joint_slots = s.joint_slots;
      joint_entries = s.joint_entries;
      joints = joints_same bodies (slice_set bodies slot (Some c)) w.plain.joints slots s.joints;
      contacts = s.contacts;
      pairs = contacts_of_same bodies (slice_set bodies slot (Some c)) w.plain.contacts moves s.pairs;
      there = has_bodies_same bodies (slice_set bodies slot (Some c)) w.plain.contacts slots alike shapes s.there;
      gravity = s.gravity;
      steps = omega (arith, s.steps);
      calls = omega arith;
    }

-- what acts of a world doesn't depend on its gravity, and on its numbers of steps and calls
pub consistent_later : (w : Plain) (g : Vec2) (steps calls : ℕ) → IsConsistent constraint_number (acting_of w) → IsConsistent constraint_number (acting_of (record w { gravity = g; steps = steps; calls = calls }))
unfolding acting_of
consistent_later w g steps calls s = s

pub changed_kept : (w : World) (slot : ℕ) (b c : Body) (x y : ℤ) (call : ℕ) (why : Cause) → IsKept w → w.plain.calls < 2 ^ 40 → IsChanged w.plain.bodies slot b c x y
    → IsKept (record w { plain = record w.plain { bodies = slice_set w.plain.bodies slot (Some c); calls = w.plain.calls + 1 }; entries = w.entries ++ booked call why x y })
changed_kept w slot b c x y call why s few is =
    let new : List (Option Body) = slice_set w.plain.bodies slot (Some c) in
    let alike : AreAlike w.plain.bodies new = alike_set w.plain.bodies slot b c is.at is.mover is.enabled in
    let same = alike_acting w new s alike in
    kept_of (record w { plain = record w.plain { bodies = new; calls = w.plain.calls + 1 }; entries = w.entries ++ booked call why x y })
    (changed_lists w slot b c x y call why s few is)
    (consistent_later (record w.plain { bodies = new }) w.plain.gravity w.plain.steps (w.plain.calls + 1) (subst (IsConsistent constraint_number) (sym same) s.consistent))
    (tied_alike w.plain.bodies new w.plain.islands alike s.tied)
    (told_set w.plain.bodies slot b c w.plain.islands is.at is.asleep s.told)
    (s.labels ∙ sym (length-set w.plain.bodies slot (Some c)))
    (alike_moved w new s alike)

changed_is : (f : Body → Body) (o : Option Body) (b : Body) → o ≡ Some b → option_map f o ≡ Some (f b)
changed_is f None b e = cc
changed_is f (Some a) b e = ap (λ (c : Body). Some (f c)) (let same : a ≡ b = cc in same)

-- the body in a slot changed by a function, and what that books
pub body_changed_kept : (w : World) (slot : ℕ) (f : Body → Body) (b : Body) (x y : ℤ) (call : ℕ) (why : Cause) → IsKept w → w.plain.calls < 2 ^ 40 → IsChanged w.plain.bodies slot b (f b) x y
    → IsKept (record w { plain = counted (body_changed f slot w.plain); entries = w.entries ++ booked call why x y })
body_changed_kept w slot f b x y call why s few is =
    rw (changed_is f (body_at w.plain.bodies slot) b is.at) (changed_kept w slot b (f b) x y call why s few is)

-- the same where nothing is booked
unbooked : (w : World) (call : ℕ) (why : Cause) → IsKept (record w { entries = w.entries ++ booked call why (pos 0) (pos 0) }) → IsKept w
unbooked w call why k = subst (λ (es : List Entry). IsKept (record w { entries = es })) (append-nil w.entries) k

pub body_changed_quietly : (w : World) (slot : ℕ) (f : Body → Body) (b : Body) → IsKept w → w.plain.calls < 2 ^ 40 → IsChanged w.plain.bodies slot b (f b) (pos 0) (pos 0) → IsKept (record w { plain = counted (body_changed f slot w.plain) })
body_changed_quietly w slot f b s few is = unbooked (record w { plain = counted (body_changed f slot w.plain) }) 0 causes.Command (body_changed_kept w slot f b (pos 0) (pos 0) 0 causes.Command s few is)

-- ---- what is known of a body that is named

found_at : (live : Bool) (o : Option Body) (b : Body) → cond live o None ≡ Some b → o ≡ Some b
found_at true o b e = e
found_at false o b e = cc

-- a body that is named is there
pub named_at : (w : Plain) (h : Handle) (b : Body) → body_named w h ≡ Some b → body_at w.bodies h.slot ≡ Some b
named_at w h b e = found_at (is_live w.slot_entries h) (body_at w.bodies h.slot) b e

-- what is known of a body in a world in which some islands were woken first: it is the body that was there, but for its
-- momenta and its sleep
pub record IsThere (w : World) (movers : List ℕ) (slot : ℕ) (b : Body) : Type 0 where
  pub label : Option Label
  pub at : body_at (with_woken w.plain movers).bodies slot ≡ Some (told_body label b)
  pub labelled : label_at (with_woken w.plain movers).islands slot ≡ label
  pub body : IsBody (told_body label b)

pub still_there : (w : World) (movers : List ℕ) (slot : ℕ) (b : Body) → IsKept w → body_at w.plain.bodies slot ≡ Some b → IsThere w movers slot b
still_there w movers slot b k at =
    let labels = (islands_woken constraint_number (sleeping_names w.plain.islands movers) (acting_of w.plain)).labels in
    let there : body_at (with_woken w.plain movers).bodies slot ≡ Some (told_body (label_at labels slot) b) = body_told labels w.plain.bodies slot ∙ changed_is (told_body (label_at labels slot)) (body_at w.plain.bodies slot) b at in
    record {
      label = label_at labels slot;
      at = there;
      labelled = refl;
      body = (waking_kept w movers k).kept.bodies slot (told_body (label_at labels slot) b) (body_at-in (with_woken w.plain movers).bodies slot (told_body (label_at labels slot) b) there);
    }

-- ---- Push and PushAt

tests : (d e s t : Bool) (q m : Momenta) → cond d (cond e (cond s (cond t (Ok q) (Err TooFast)) (Err OutOfRange)) (Err BodyDisabled)) (Err NotAMover) ≡ Ok m
    → (d ≡ true) × (e ≡ true) × (s ≡ true) × (t ≡ true) × (m ≡ q)
tests true true true true q m h = (refl, refl, refl, refl, cc)
tests true true true false q m h = cc
tests true true false t q m h = cc
tests true false s t q m h = cc
tests false e s t q m h = cc

first_of_both : (a b : Bool) → (a && b) ≡ true → a ≡ true
first_of_both true b e = refl
first_of_both false b e = cc

second_of_both : (a b : Bool) → (a && b) ≡ true → b ≡ true
second_of_both true b e = e
second_of_both false b e = cc

within_from : (n : ℕ) (v : Vec2) → is_within n v ≡ true → IsWithin n v
within_from n v e = record { x = grind (arith, common_steps); y = grind (arith, common_steps) }

at_most_from : (a b : ℕ) → nat_le a b ≡ true → a ≤ b
at_most_from a b e = grind (arith, common_steps)

both_move : (b : Body) → is_dynamic b.kind ≡ true → b.enabled ≡ true → is_mover b ≡ true
both_move b d e = rw (e, d) refl

true_false : (b : Bool) → b ≡ true → b ≡ false → ⊥
true_false true e f = cc
true_false false e f = cc

-- what is known of a body that is pushed
record IsPushed (o : Option Body) (j r : Vec2) (m : Momenta) : Type 0 where
  body : Body
  found : o ≡ Some body
  mover : is_mover body ≡ true
  sum : m ≡ with_impulse j r body
  push : IsWithin (2 ^ 40) j
  small : IsWithin (2 ^ 60) m.p
  turns : unsigned_abs m.l ≤ 2 ^ 90

pushed_from : (o : Option Body) (j r : Vec2) (m : Momenta) → pushed o j r ≡ Ok m → IsPushed o j r m
pushed_from None j r m e = cc
pushed_from (Some b) j r m e =
    let t = tests (is_dynamic b.kind) b.enabled (is_within (2 ^ 40) j && is_within (2 ^ 26) r) (are_momenta (with_impulse j r b)) (with_impulse j r b) m e in
    let fit : are_momenta m ≡ true = rw t.4 t.3 in
    record {
      body = b;
      found = refl;
      mover = both_move b t.0 t.1;
      sum = t.4;
      push = within_from (2 ^ 40) j (first_of_both _ _ t.2);
      small = within_from (2 ^ 60) m.p (first_of_both _ _ fit);
      turns = at_most_from (unsigned_abs m.l) (2 ^ 90) (second_of_both _ _ fit);
    }

-- a body that doesn't turn has no angular momentum after a push either
still_changed : (inertia l moment : ℤ) → (inertia ≡ pos 0 → l ≡ pos 0) → inertia ≡ pos 0 → turned_by inertia l moment ≡ pos 0
still_changed inertia l moment still e = rw e (still e)

-- an awake mover with other momenta is still a body
IsBody-put : (b : Body) (j r : Vec2) (m : Momenta) → IsBody b → is_awake b ≡ true → m ≡ with_impulse j r b → IsWithin (2 ^ 60) m.p → unsigned_abs m.l ≤ 2 ^ 90 → IsBody (put_momenta m b)
IsBody-put b j r m is awake sum small turns = record {
  mass = is.mass;
  motion = record {
    p = small;
    l = turns;
    still = λ e. ap (λ (n : Momenta). n.l) sum ∙ still_changed b.mass.inertia b.motion.l (cross r j) is.motion.still e;
    x = is.motion.x;
    facing = is.motion.facing;
  };
  rest = λ no. absurd (true_false (is_awake b) awake no);
  asleep = is.asleep;
  course = is.course;
  halted = is.halted;
  shapes = is.shapes;
  forms = is.forms;
  fats = is.fats;
}

mover_gains : (t : Bool) (p old j : Vec2) → t ≡ true → p ≡ plus old j → cond t p zero_vector ≡ plus (cond t old zero_vector) j
mover_gains true p old j e sum = sum
mover_gains false p old j e sum = cc

-- the awake body that is pushed
pushed_changed : (bodies : List (Option Body)) (slot : ℕ) (b : Body) (j r : Vec2) (m : Momenta) → body_at bodies slot ≡ Some b → IsBody b → is_mover b ≡ true → is_awake b ≡ true → m ≡ with_impulse j r b → IsWithin (2 ^ 40) j → IsWithin (2 ^ 60) m.p → unsigned_abs m.l ≤ 2 ^ 90
    → IsChanged bodies slot b (put_momenta m b) j.x j.y
pushed_changed bodies slot b j r m at is mover awake sum push small turns = record {
  at = at;
  body = IsBody-put b j r m is awake sum small turns;
  mover = refl;
  enabled = refl;
  asleep = refl;
  timer = refl;
  shapes = refl;
  gain = mover_gains (is_mover b) m.p b.motion.p j mover (ap (λ (n : Momenta). n.p) sum);
  small_x = push.x;
  small_y = push.y;
}

-- the island of a mover that was woken by name is awake
named_awake : (w : World) (slot : ℕ) → IsKept w → is_some (label_at w.plain.islands slot) ≡ true → acting.is_mover_awake (with_woken w.plain (slot ∷ [])).islands slot ≡ true
unfolding acting_of
named_awake w slot k some = the_named_are_awake (acting_of w.plain) (slot ∷ []) slot k.consistent (Contains-push [] slot) some

awake_if : (m : Bool) (a : Option ℕ) → m ≡ true → a ≡ None → cond m (is_none a) false ≡ true
awake_if true None e f = refl
awake_if true (Some name) e f = cc
awake_if false a e f = cc

-- a mover whose island was woken is awake, and moves as it did
record IsRoused (w : World) (slot : ℕ) (b now : Body) : Type 0 where
  at : body_at (with_woken w.plain (slot ∷ [])).bodies slot ≡ Some now
  body : IsBody now
  mover : is_mover now ≡ true
  awake : is_awake now ≡ true
  motion : now.motion ≡ b.motion
  mass : now.mass ≡ b.mass

roused_is : (w : World) (slot : ℕ) (b : Body) → IsKept w → body_at w.plain.bodies slot ≡ Some b → is_mover b ≡ true → (now : Body) × IsRoused w slot b now
roused_is w slot b k at mover =
    let there = still_there w (slot ∷ []) slot b k at in
    let now : Body = told_body there.label b in
    let is = told_is there.label b in
    let up : acting.is_mover_awake (with_woken w.plain (slot ∷ [])).islands slot ≡ true = named_awake w slot k (k.tied slot ∙ ap is_mover_in at ∙ mover) in
    let no_name : sleeping_name there.label ≡ None = ap sleeping_name (sym there.labelled) ∙ awake_name (label_at (with_woken w.plain (slot ∷ [])).islands slot) up in
    let told : now.asleep ≡ None = (waking_kept w (slot ∷ []) k).kept.told slot now there.at ∙ ap sleeping_name there.labelled ∙ no_name in (
      now,
      record {
        at = there.at;
        body = there.body;
        mover = is.mover ∙ mover;
        awake = awake_if (is_mover now) now.asleep (is.mover ∙ mover) told;
        motion = told_motion there.label b no_name;
        mass = is.mass;
      },
    )

same_impulse : (j r : Vec2) (b now : Body) → now.motion ≡ b.motion → now.mass ≡ b.mass → with_impulse j r b ≡ with_impulse j r now
same_impulse j r b now motion mass = rw (motion, mass) refl

-- the mover's island wakes, and then it gets the momenta
pub push_kept : (w : World) (h : Handle) (j r : Vec2) (m : Momenta) (call : ℕ) (why : Cause) → IsKept w → w.plain.calls < 2 ^ 40 → pushed (body_named w.plain h) j r ≡ Ok m
    → IsKept (record w { plain = counted (body_changed (put_momenta m) h.slot (with_woken w.plain (h.slot ∷ []))); entries = w.entries ++ booked call why j.x j.y })
push_kept w h j r m call why k few e =
    let got = pushed_from (body_named w.plain h) j r m e in
    let roused = roused_is w h.slot got.body k (named_at w.plain h got.body got.found) got.mover in
    let now : Body = roused.0 in
    let is = roused.1 in
    let woke = (waking_kept w (h.slot ∷ []) k).kept in
    body_changed_kept (record w { plain = with_woken w.plain (h.slot ∷ []) }) h.slot (put_momenta m) now j.x j.y call why woke few
    (pushed_changed (with_woken w.plain (h.slot ∷ [])).bodies h.slot now j r m is.at is.body is.mover is.awake (got.sum ∙ same_impulse j r got.body now is.motion is.mass) got.push got.small got.turns)

-- ---- SetPose

record IsPosed (o : Option Body) (pose given : Pose) : Type 0 where
  body : Body
  found : o ≡ Some body
  same : given ≡ pose

posed_tests : (s t : Bool) (pose given : Pose) → cond s (cond t (Ok pose) (Err OutOfRange)) (Err OutOfRange) ≡ Ok given → given ≡ pose
posed_tests true true pose given e = cc
posed_tests true false pose given e = cc
posed_tests false t pose given e = cc

posed_from : (o : Option Body) (pose given : Pose) → posed o pose ≡ Ok given → IsPosed o pose given
posed_from None pose given e = cc
posed_from (Some b) pose given e = record { body = b; found = refl; same = posed_tests (is_within (2 ^ 36) pose.x) (is_facing pose.rot) pose given e }

-- a body in another pose is still a body
IsBody-posed : (b : Body) (o : Pose) → IsBody b → IsPose o → IsBody (put_pose o b)
IsBody-posed b o is pose = record {
  mass = is.mass;
  motion = record { p = is.motion.p; l = is.motion.l; still = is.motion.still; x = pose.x; facing = pose.rot };
  rest = λ no. let r = is.rest no in record { x = r.x; y = r.y; l = r.l };
  asleep = is.asleep;
  course = is.course;
  halted = is.halted;
  shapes = is.shapes;
  forms = is.forms;
  fats = renewed_are (pose_of b) o b.shapes b.fats is.forms pose is.fats;
}

posed_changed : (bodies : List (Option Body)) (slot : ℕ) (b : Body) (o : Pose) → body_at bodies slot ≡ Some b → IsBody b → IsPose o → IsChanged bodies slot b (put_pose o b) (pos 0) (pos 0)
posed_changed bodies slot b o at is pose = record {
  at = at;
  body = IsBody-posed b o is pose;
  mover = refl;
  enabled = refl;
  asleep = refl;
  timer = refl;
  shapes = refl;
  gain = sym (plus_zero (momentum_in (Some b)));
  small_x = omega arith;
  small_y = omega arith;
}

-- those whom the change wakes wake, and then the body gets the pose
pub pose_kept : (w : World) (h : Handle) (asked given : Pose) → IsKept w → w.plain.calls < 2 ^ 40 → posed (body_named w.plain h) asked ≡ Ok given → IsPose given
    → IsKept (record w { plain = counted (body_changed (put_pose given) h.slot (stirred w.plain h.slot)) })
pose_kept w h asked given k few e pose =
    let got = posed_from (body_named w.plain h) asked given e in
    let movers = stirred_by w.plain.bodies w.plain.joints w.plain.contacts h.slot in
    let there = still_there w movers h.slot got.body k (named_at w.plain h got.body got.found) in
    body_changed_quietly (record w { plain = with_woken w.plain movers }) h.slot (put_pose given) (told_body there.label got.body) (waking_kept w movers k).kept few
    (posed_changed (with_woken w.plain movers).bodies h.slot (told_body there.label got.body) given there.at there.body pose)

-- what a pose needs of the body that gets it
pub can_pose : (w : World) (slot : ℕ) (o : Pose) → IsKept w → IsPose o → ForSome (body_at w.plain.bodies slot) (CanPose o)
can_pose w slot o s pose = by (body_at w.plain.bodies slot) refl
  where
    by : (q : Option Body) → body_at w.plain.bodies slot ≡ q → ForSome q (CanPose o)
    by None e = λ b f. cc
    by (Some b) e = λ c f. let same : b ≡ c = cc in subst (CanPose o) same (record { body = s.bodies slot b (body_at-in w.plain.bodies slot b e); pose = pose })

-- ---- SetVelocity

record IsSteered (o : Option Body) (asked given : Course) : Type 0 where
  body : Body
  found : o ≡ Some body
  kinematic : is_kinematic body.kind ≡ true
  enabled : body.enabled ≡ true
  course : IsCourse given

steered_tests : (k e s : Bool) (asked given : Course) → cond k (cond e (cond s (Ok asked) (Err OutOfRange)) (Err BodyDisabled)) (Err NotKinematic) ≡ Ok given → (k ≡ true) × (e ≡ true) × (s ≡ true) × (given ≡ asked)
steered_tests true true true asked given e = (refl, refl, refl, cc)
steered_tests true true false asked given e = cc
steered_tests true false s asked given e = cc
steered_tests false e s asked given f = cc

course_from : (course : Course) → is_course course ≡ true → IsCourse course
course_from course e = record { velocity = within_from (2 ^ 20) course.velocity (first_of_both _ _ e); spin = at_most_from (unsigned_abs course.spin) (2 ^ 28) (second_of_both _ _ e) }

steered_from : (o : Option Body) (asked given : Course) → steered o asked ≡ Ok given → IsSteered o asked given
steered_from None asked given e = cc
steered_from (Some b) asked given e =
    let t = steered_tests (is_kinematic b.kind) b.enabled (is_course asked) asked given e in
    record { body = b; found = refl; kinematic = t.0; enabled = t.1; course = rw t.3 (course_from asked t.2) }

-- what is no mover isn't awake
standing : (m : Bool) (a : Option ℕ) → m ≡ false → cond m (is_none a) false ≡ false
standing true a e = cc
standing false a e = refl

IsBody-steered : (b : Body) (course : Course) → IsBody b → is_kinematic b.kind ≡ true → b.enabled ≡ true → IsCourse course → IsBody (put_course course b)
IsBody-steered b course is k enabled allowed = record {
  mass = mass_as b.kind course b.mass k is.mass;
  motion = is.motion;
  rest = λ no. is.rest (standing (is_mover b) b.asleep (no_mover b.kind b.enabled k));
  asleep = λ no. is.asleep (no_mover b.kind b.enabled k);
  course = allowed;
  halted = λ off. absurd (true_false b.enabled enabled off);
  shapes = rw (← static_as b.kind course k) is.shapes;
  forms = is.forms;
  fats = is.fats;
}

at_rest_gains : (s t : Bool) (p : Vec2) → s ≡ false → t ≡ false → cond s p zero_vector ≡ plus (cond t p zero_vector) zero_vector
at_rest_gains s t p e f = rw (e, f) refl

steered_changed : (bodies : List (Option Body)) (slot : ℕ) (b : Body) (course : Course) → body_at bodies slot ≡ Some b → IsBody b → is_kinematic b.kind ≡ true → b.enabled ≡ true → IsCourse course → IsChanged bodies slot b (put_course course b) (pos 0) (pos 0)
steered_changed bodies slot b course at is k enabled allowed =
    let was : is_mover b ≡ false = no_mover b.kind b.enabled k in
    let now : is_mover (put_course course b) ≡ false = no_mover (Kinematic course) b.enabled refl in
    record {
      at = at;
      body = IsBody-steered b course is k enabled allowed;
      mover = now ∙ sym was;
      enabled = refl;
      asleep = refl;
      timer = refl;
      shapes = refl;
      gain = at_rest_gains (is_mover (put_course course b)) (is_mover b) b.motion.p now was;
      small_x = omega arith;
      small_y = omega arith;
    }

-- those whom the change wakes wake, and then the body gets the course
pub velocity_kept : (w : World) (h : Handle) (asked given : Course) → IsKept w → w.plain.calls < 2 ^ 40 → steered (body_named w.plain h) asked ≡ Ok given
    → IsKept (record w { plain = counted (body_changed (put_course given) h.slot (stirred w.plain h.slot)) })
velocity_kept w h asked given k few e =
    let got = steered_from (body_named w.plain h) asked given e in
    let movers = stirred_by w.plain.bodies w.plain.joints w.plain.contacts h.slot in
    let there = still_there w movers h.slot got.body k (named_at w.plain h got.body got.found) in
    let is = told_is there.label got.body in
    body_changed_quietly (record w { plain = with_woken w.plain movers }) h.slot (put_course given) (told_body there.label got.body) (waking_kept w movers k).kept few
    (steered_changed (with_woken w.plain movers).bodies h.slot (told_body there.label got.body) given there.at there.body (ap is_kinematic is.kind ∙ got.kinematic) (is.enabled ∙ got.enabled) got.course)

-- ---- commands that change no body by themselves

-- the lists with other gravity, one call later
lists_later : (w : World) (g : Vec2) → AreLists w → w.plain.calls < 2 ^ 40 → IsWithin (2 ^ 16) g → AreLists (record w { plain = counted (record w.plain { gravity = g }) })
lists_later w g l few small = record {
  total_x = l.total_x;
  total_y = l.total_y;
  causes = AreSmall-weaker (2 ^ 126 + w.plain.calls * 2 ^ 83) (2 ^ 126 + (w.plain.calls + 1) * 2 ^ 83) (book_of w) (omega arith) l.causes;
  bodies = l.bodies;
  filters = l.filters;
  timers = l.timers;
  matched = l.matched;
  slot_entries = l.slot_entries;
  joint_slots = l.joint_slots;
  joint_entries = l.joint_entries;
  joints = l.joints;
  contacts = l.contacts;
  pairs = l.pairs;
  there = l.there;
  gravity = small;
  steps = omega (arith, l.steps);
  calls = omega arith;
}

pub gravity_kept : (w : World) (g : Vec2) → IsKept w → w.plain.calls < 2 ^ 40 → IsWithin (2 ^ 16) g → IsKept (record w { plain = counted (record w.plain { gravity = g }) })
gravity_kept w g k few small =
    kept_of (record w { plain = counted (record w.plain { gravity = g }) }) (lists_later w g (lists_kept w k) few small) (consistent_later w.plain g w.plain.steps (w.plain.calls + 1) k.consistent) k.tied k.told k.labels k.moved

-- one call more
pub counted_kept : (w : World) → IsKept w → w.plain.calls < 2 ^ 40 → IsKept (record w { plain = counted w.plain })
counted_kept w k few = gravity_kept w w.plain.gravity k few k.gravity

-- a mover's island wakes
pub wake_kept : (w : World) (slot : ℕ) → IsKept w → w.plain.calls < 2 ^ 40 → IsKept (record w { plain = counted (with_woken w.plain (slot ∷ [])) })
wake_kept w slot k few = counted_kept (record w { plain = with_woken w.plain (slot ∷ []) }) (waking_kept w (slot ∷ []) k).kept few

-- ---- what acts, once one body was changed: the same as before

acting_later : (w : Plain) (calls : ℕ) → acting_of (record w { calls = calls }) ≡ acting_of w
unfolding acting_of
acting_later w calls = refl

body_changed_acting : (w : World) (slot : ℕ) (f : Body → Body) (b : Body) (x y : ℤ) → IsKept w → IsChanged w.plain.bodies slot b (f b) x y → acting_of (counted (body_changed f slot w.plain)) ≡ acting_of w.plain
body_changed_acting w slot f b x y k is =
    let new : List (Option Body) = slice_set w.plain.bodies slot (Some (f b)) in
    let alike : AreAlike w.plain.bodies new = alike_set w.plain.bodies slot b (f b) is.at is.mover is.enabled in
    rw (changed_is f (body_at w.plain.bodies slot) b is.at) (acting_later (record w.plain { bodies = new }) (w.plain.calls + 1) ∙ alike_acting w new k alike)

pub push_acting : (w : World) (h : Handle) (j r : Vec2) (m : Momenta) → IsKept w → pushed (body_named w.plain h) j r ≡ Ok m
    → acting_of (counted (body_changed (put_momenta m) h.slot (with_woken w.plain (h.slot ∷ [])))) ≡ acting_of (with_woken w.plain (h.slot ∷ []))
push_acting w h j r m k e =
    let got = pushed_from (body_named w.plain h) j r m e in
    let roused = roused_is w h.slot got.body k (named_at w.plain h got.body got.found) got.mover in
    let now : Body = roused.0 in
    let is = roused.1 in
    body_changed_acting (record w { plain = with_woken w.plain (h.slot ∷ []) }) h.slot (put_momenta m) now j.x j.y (waking_kept w (h.slot ∷ []) k).kept
    (pushed_changed (with_woken w.plain (h.slot ∷ [])).bodies h.slot now j r m is.at is.body is.mover is.awake (got.sum ∙ same_impulse j r got.body now is.motion is.mass) got.push got.small got.turns)

pub pose_acting : (w : World) (h : Handle) (asked given : Pose) → IsKept w → posed (body_named w.plain h) asked ≡ Ok given → IsPose given
    → acting_of (counted (body_changed (put_pose given) h.slot (stirred w.plain h.slot))) ≡ acting_of (stirred w.plain h.slot)
pose_acting w h asked given k e pose =
    let got = posed_from (body_named w.plain h) asked given e in
    let movers = stirred_by w.plain.bodies w.plain.joints w.plain.contacts h.slot in
    let there = still_there w movers h.slot got.body k (named_at w.plain h got.body got.found) in
    body_changed_acting (record w { plain = with_woken w.plain movers }) h.slot (put_pose given) (told_body there.label got.body) (pos 0) (pos 0) (waking_kept w movers k).kept
    (posed_changed (with_woken w.plain movers).bodies h.slot (told_body there.label got.body) given there.at there.body pose)

pub velocity_acting : (w : World) (h : Handle) (asked given : Course) → IsKept w → steered (body_named w.plain h) asked ≡ Ok given
    → acting_of (counted (body_changed (put_course given) h.slot (stirred w.plain h.slot))) ≡ acting_of (stirred w.plain h.slot)
velocity_acting w h asked given k e =
    let got = steered_from (body_named w.plain h) asked given e in
    let movers = stirred_by w.plain.bodies w.plain.joints w.plain.contacts h.slot in
    let there = still_there w movers h.slot got.body k (named_at w.plain h got.body got.found) in
    let is = told_is there.label got.body in
    body_changed_acting (record w { plain = with_woken w.plain movers }) h.slot (put_course given) (told_body there.label got.body) (pos 0) (pos 0) (waking_kept w movers k).kept
    (steered_changed (with_woken w.plain movers).bodies h.slot (told_body there.label got.body) given there.at there.body (ap is_kinematic is.kind ∙ got.kinematic) (is.enabled ∙ got.enabled) got.course)

pub counted_acting : (w : Plain) → acting_of (counted w) ≡ acting_of w
counted_acting w = acting_later w (w.calls + 1)

pub gravity_acting : (w : Plain) (g : Vec2) → acting_of (counted (record w { gravity = g })) ≡ acting_of w
unfolding acting_of
gravity_acting w g = refl
