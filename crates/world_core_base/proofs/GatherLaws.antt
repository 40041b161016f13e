-- What a step gathers from bodies and contacts, and what it writes back to the bodies.
use Rattle.std.proofs.Common.{◌≡◌, ℕ, zero, suc, ◌<◌, List, [], ◌∷◌, length, Option, Some, None, Bool, true, false, cond, not, ◌||◌, ◌≤◌, ℤ, pos, unsigned_abs, int_eq, arith, refl, sym, ap, ap₂, ◌∙◌, subst, is_some, slice_index_or}
use Rattle.std.specs.Prelude.{All, option_map, slice_get}
use Rattle.std.specs.Option.{is_none}
use Rattle.std.proofs.lemmas.Bool.Decides.{Decides-int_eq}
use Rattle.std.proofs.lemmas.Int.{ints}
use Rattle.std.proofs.lemmas.Option.{slice_get-get_or}
use Rattle.fixed_geom.specs.Numbers.{rdiv}
use Rattle.fixed_geom.specs.Reciprocals.{rdiv_reciprocal, share_reciprocal}
use Rattle.momenta.specs.Motions.{IsMass, IsMotion}
use Rattle.momenta.specs.Reciprocals.{reciprocals_of}
use Rattle.momenta.specs.ImpulseBounds.{AreStates, IsState}
use Rattle.momenta.specs.declared.mass.MassData.{MassData}
use Rattle.momenta.specs.declared.state.BodyState.{BodyState}
use Rattle.contacts_base.specs.declared.key.ContactKey.{ContactKey}
use Rattle.colour_solver.specs.States as step
use Rattle.colour_solver.specs.States.{nobody, AreAllStates, AreSameBeside, HasCourse, HaveCourses, total}
use Rattle.colour_solver.specs.Masses.{carrier, standing}
use Rattle.fixed_geom.specs.Vectors.{IsWithin, plus, zero_vector}
use Rattle.fixed_geom.specs.declared.vectors.Vec2.{Vec2}
use Rattle.fixed_geom.specs.declared.limits.TheConstants.{MAX_SPIN}
use Rattle.momenta.specs.declared.limits.TheConstants.{MAX_SPEED}
use Rattle.momenta.specs.declared.motion.Motion.{Motion}
use Rattle.plain_world.specs.declared.body.Body.{Body}
use Rattle.plain_world.specs.declared.kind.Kind.{Kind}
use Rattle.plain_world.specs.declared.kind.Kind.TheVariants.{Static, Kinematic, Dynamic}
use Rattle.plain_world.specs.declared.kind.Course.{Course}
use Rattle.plain_world.specs.Kinds.{IsCourseOf, carried_by, is_dynamic, is_kinematic, is_moving, is_static}
use Rattle.plain_world.proofs.KindLaws.{awake_moves, carried_enabled, carried_kinematic, carried_rests, carried_still, mass_as, static_as}
use Rattle.shapes.specs.Shapes.{IsShapeDef, shapes_refusal}
use Rattle.shapes.specs.declared.pose.Pose.{Pose}
use Rattle.colour_solver.proofs.VectorLaws.{same_vector}
use Rattle.plain_world.specs.Bodies.{AreBodies, IsAtRest, IsBody, IsMassOf, is_awake, is_carried, is_mover, is_mover_in, moves, pose_of}
use Rattle.plain_world.specs.Momentum.{momentum, momentum_in}
use Rattle.plain_world.specs.Fats.{AreFatBoxes}
use Rattle.plain_world.specs.Changes.{is_awake_in}
use Rattle.plain_world.specs.Slots.{body_at, shapes_in}
use Rattle.plain_world.specs.InSlots.{HaveSameSlots}
use Rattle.world_core_base.specs.Carried.{carried_motion, carried_to, solver_mass, solver_motion}
use Rattle.world_core_base.specs.Moved.{FitsState}
use Rattle.world_core_base.specs.Gather.{ends_at, state_of, states_of, with_motion, with_motions}

-- ---- the bodies as states

mass_at : (kind : Kind) (enabled : Bool) (m : MassData) → cond enabled (is_dynamic kind) false ≡ true → IsMassOf kind m → IsMass m
mass_at Static true m e h = cc
mass_at Static false m e h = cc
mass_at (Kinematic course) true m e h = cc
mass_at (Kinematic course) false m e h = cc
mass_at Dynamic enabled m e h = h

standing_reciprocals : nobody.reciprocals ≡ reciprocals_of standing
unfolding reciprocals_of rdiv_reciprocal share_reciprocal rdiv
standing_reciprocals = refl

is_carrier : IsMass carrier
is_carrier = record { positive = omega (arith, ints); mass = omega arith; nonnegative = omega (arith, ints); inertia = omega arith }

is_standing : IsMass standing
is_standing = record { positive = omega (arith, ints); mass = omega arith; nonnegative = omega (arith, ints); inertia = omega arith }

-- the mass and the motion that a body shows the solver
mass_shown : (m c : Bool) (b : Body) → is_awake b ≡ m → IsBody b → IsMass (cond m b.mass (cond c carrier standing))
mass_shown true c b e is = mass_at b.kind b.enabled b.mass (awake_moves (is_mover b) (is_none b.asleep) e) is.mass
mass_shown false true b e is = is_carrier
mass_shown false false b e is = is_standing

last_of : (a b c : Bool) → (a || (b || c)) ≡ false → c ≡ false
last_of true b c h = cc
last_of false true c h = cc
last_of false false c h = h

not_not : (a : Bool) → not a ≡ false → a ≡ true
not_not true h = refl
not_not false h = sym h

is_zero : (z : ℤ) → int_eq z (pos 0) ≡ true → z ≡ pos 0
is_zero z h = (Decides-int_eq z (pos 0)).0 h

-- what isn't carried along has no spin
no_spin : (enabled : Bool) (kind : Kind) → cond enabled (is_kinematic kind) false ≡ false → (enabled ≡ false → is_moving (carried_by kind) ≡ false) → (carried_by kind).spin ≡ pos 0
no_spin enabled Static off halted = refl
no_spin enabled Dynamic off halted = refl
no_spin true (Kinematic course) off halted = absurd (cc off)
no_spin false (Kinematic course) off halted = is_zero course.spin (not_not _ (last_of (not (int_eq course.velocity.x (pos 0))) (not (int_eq course.velocity.y (pos 0))) _ (halted refl)))

motion_shown : (m c : Bool) (b : Body) → is_carried b ≡ c → IsBody b → IsMotion (cond m b.mass (cond c carrier standing)) (cond m b.motion (carried_motion b))
motion_shown true c b off is = is.motion
motion_shown false true b off is =
    let v = is.course.velocity in
    let w = is.course.spin in
    record {
      p = record { x = omega (arith, v.x); y = omega (arith, v.y) };
      l = omega (arith, w);
      still = λ e. absurd (omega (arith, ints, e));
      x = is.motion.x;
      facing = is.motion.facing;
    }
motion_shown false false b off is =
    let v = is.course.velocity in
    let w = is.course.spin in
    record {
      p = record { x = omega (arith, v.x); y = omega (arith, v.y) };
      l = omega (arith, w);
      still = λ e. no_spin b.enabled b.kind off is.halted;
      x = is.motion.x;
      facing = is.motion.facing;
    }

pub is_nobody : IsState nobody
is_nobody = record {
  mass = is_standing;
  reciprocals = standing_reciprocals;
  motion = record {
    p = record { x = omega arith; y = omega arith };
    l = omega arith;
    still = λ e. refl;
    x = record { x = omega arith; y = omega arith };
    facing = record { c = omega arith; s = omega arith; long = omega arith; short = omega arith };
  };
  start = record { x = omega arith; y = omega arith };
}

is_state : (o : Option Body) → ((b : Body) → o ≡ Some b → IsBody b) → IsState (state_of o)
is_state None is = is_nobody
is_state (Some b) is =
    let body : IsBody b = is b refl in
    record { mass = mass_shown (is_awake b) (is_carried b) b refl body; reciprocals = refl; motion = motion_shown (is_awake b) (is_carried b) b refl body; start = body.motion.x }

pub states-all : (bodies : List (Option Body)) → AreBodies bodies → AreAllStates (states_of bodies)
states-all [] all slot s e = cc
states-all (o ∷ os) all zero s e = let same : state_of o ≡ s = cc in subst IsState same (is_state o (λ b f. all zero b (ap Some f)))
states-all (o ∷ os) all (suc slot) s e = states-all os (λ k b f. all (suc k) b f) slot s e

-- ---- the bodies that are carried along

pub carried_state : (b : Body) → step.is_carried (state_of (Some b)) ≡ is_carried b
carried_state b = by b.enabled b.kind b.mass (is_none b.asleep)
  where
    by : (e : Bool) (k : Kind) (m : MassData) (a : Bool)
        → cond (cond (cond e (is_dynamic k) false) a false) false (not (int_eq (cond (cond (cond e (is_dynamic k) false) a false) m (cond (cond e (is_kinematic k) false) carrier standing)).inertia (pos 0))) ≡ cond e (is_kinematic k) false
    by true Static m a = refl
    by true (Kinematic course) m a = refl
    by true Dynamic m true = refl
    by true Dynamic m false = refl
    by false k m a = refl

-- what is carried along isn't an awake mover
pub carried_no_mover : (b : Body) → is_carried b ≡ true → is_awake b ≡ false
carried_no_mover b on1 = carried_still b.enabled b.kind (is_none b.asleep) on1

-- the mass and the motion that such a body shows
pub mass_carried : (b : Body) → is_carried b ≡ true → solver_mass b ≡ carrier
mass_carried b on1 = let rests : is_awake b ≡ false = carried_no_mover b on1 in rw (rests, on1) refl

motion_carried : (b : Body) → is_carried b ≡ true → solver_motion b ≡ carried_motion b
motion_carried b on1 = let rests : is_awake b ≡ false = carried_no_mover b on1 in rw rests refl

course_shown : (o : Option Body) → ((b : Body) → o ≡ Some b → IsBody b) → step.is_carried (state_of o) ≡ true → HasCourse (state_of o)
course_shown None is on1 = absurd (cc on1)
course_shown (Some b) is on1 =
    let carried : is_carried b ≡ true = sym (carried_state b) ∙ on1 in
    let body : IsBody b = is b refl in
    let motion : solver_motion b ≡ carried_motion b = motion_carried b carried in
    record {
      mass = mass_carried b carried;
      velocity = subst (λ (m : Motion). IsWithin (unsigned_abs MAX_SPEED) m.p) (sym motion) body.course.velocity;
      spin = subst (λ (m : Motion). unsigned_abs m.l ≤ unsigned_abs MAX_SPIN) (sym motion) body.course.spin;
    }

pub courses-all : (bodies : List (Option Body)) → AreBodies bodies → HaveCourses (states_of bodies)
courses-all [] all slot s e = cc
courses-all (o ∷ os) all zero s e = let same : state_of o ≡ s = cc in subst (λ (t : BodyState). step.is_carried t ≡ true → HasCourse t) same (course_shown o (λ b f. all zero b (ap Some f)))
courses-all (o ∷ os) all (suc slot) s e = courses-all os (λ k b f. all (suc k) b f) slot s e

-- ---- the momentum

-- what is at rest has no part in the momentum, whether it is a mover or not
no_part : (m : Bool) (v : Vec2) → v ≡ zero_vector → cond m v zero_vector ≡ zero_vector
no_part true v h = h
no_part false v h = refl

at_rest : (b : Body) → is_awake b ≡ false → IsBody b → b.motion.p ≡ zero_vector
at_rest b e is = same_vector b.motion.p zero_vector (is.rest e).x (is.rest e).y

shown : (a : Bool) (b : Body) → is_awake b ≡ a → IsBody b → cond a (cond a b.motion (carried_motion b)).p zero_vector ≡ momentum_in (Some b)
shown true b e is = sym (let moving : is_mover b ≡ true = awake_moves (is_mover b) (is_none b.asleep) e in λ j. cond (moving j) b.motion.p zero_vector)
shown false b e is = sym (no_part (is_mover b) b.motion.p (at_rest b e is))

momentum-shown : (o : Option Body) → ((b : Body) → o ≡ Some b → IsBody b) → step.momentum_of (state_of o) ≡ momentum_in o
momentum-shown None is = refl
momentum-shown (Some b) is = shown (is_awake b) b refl (is b refl)

pub total-gathered : (bodies : List (Option Body)) → AreBodies bodies → total (states_of bodies) ≡ momentum bodies
total-gathered [] all = refl
total-gathered (o ∷ os) all =
    let first = momentum-shown o (λ b f. all zero b (ap Some f)) in
    let rest = total-gathered os (λ k b f. all (suc k) b f) in
    ap₂ plus first rest

-- ---- the bodies of a contact

pub state_at : (states : List BodyState) (slot : ℕ) (d : BodyState) → AreAllStates states → slot < length states → IsState (slice_index_or states slot d)
state_at states slot d all h = all slot (slice_index_or states slot d) (slice_get-get_or states slot d h)

pub are_states : (states : List BodyState) (key : ContactKey) → AreAllStates states → key.first.slot < length states → key.second.slot < length states → AreStates (ends_at states key)
are_states states key all first second = record { a = state_at states key.first.slot nobody all first; b = state_at states key.second.slot nobody all second }

-- just the awake movers are movable
pub movable_is : (bodies : List (Option Body)) (slot : ℕ) → (slice_index_or (states_of bodies) slot nobody).movable ≡ is_awake_in (body_at bodies slot)
movable_is [] slot = refl
movable_is (None ∷ os) zero = refl
movable_is (Some b ∷ os) zero = refl
movable_is (o ∷ os) (suc slot) = movable_is os slot

awake_where : (o : Option Body) → is_mover_in o ≡ true → ((b : Body) → o ≡ Some b → b.asleep ≡ None) → is_awake_in o ≡ true
awake_where None e up = e
awake_where (Some b) e up = λ j. cond (e j) (is_none (up b refl j)) false

-- a mover that doesn't sleep moves in a step
pub movable_at : (bodies : List (Option Body)) (slot : ℕ) → moves bodies slot ≡ true → ((b : Body) → body_at bodies slot ≡ Some b → b.asleep ≡ None) → (slice_index_or (states_of bodies) slot nobody).movable ≡ true
movable_at bodies slot e up = movable_is bodies slot ∙ awake_where (body_at bodies slot) e up

pub length-states : (bodies : List (Option Body)) → length (states_of bodies) ≡ length bodies
length-states [] = refl
length-states (o ∷ os) = ap suc (length-states os)

-- ---- what stays a body

-- a body that the ticks have moved: its fat boxes are those of the pose that it had before
pub record IsMovedBody (b : Body) : Type 0 where
  pub before : Pose
  pub mass : IsMassOf b.kind b.mass
  pub motion : IsMotion b.mass b.motion
  pub rest : is_awake b ≡ false → IsAtRest b.motion
  pub asleep : is_mover b ≡ false → b.asleep ≡ None
  pub course : IsCourseOf b.kind
  pub halted : b.enabled ≡ false → is_moving (carried_by b.kind) ≡ false
  pub shapes : shapes_refusal (is_static b.kind) b.shapes ≡ None
  pub forms : All IsShapeDef b.shapes
  pub fats : AreFatBoxes before b.shapes b.fats
  pub still : is_awake b ≡ false → is_carried b ≡ false → AreFatBoxes (pose_of b) b.shapes b.fats

unmoved : (b : Body) → IsBody b → IsMovedBody b
unmoved b is = record { before = pose_of b; mass = is.mass; motion = is.motion; rest = is.rest; asleep = is.asleep; course = is.course; halted = is.halted; shapes = is.shapes; forms = is.forms; fats = is.fats; still = λ e f. is.fats }

true_false : (t : Bool) → t ≡ true → t ≡ false → ⊥
true_false t e f = let both : true ≡ false = sym e ∙ f in cc both

-- a body that is carried along with the motion of its state
carried_body : (b : Body) (s : BodyState) → is_carried b ≡ true → IsBody b → IsState s → HasCourse s → IsMovedBody (carried_to s.motion b)
carried_body b s on1 is state has =
    let kinematic : is_kinematic b.kind ≡ true = carried_kinematic b.enabled b.kind on1 in
    let course : Course = record { velocity = s.motion.p; spin = s.motion.l } in
    record {
      before = pose_of b;
      mass = mass_as b.kind course b.mass kinematic is.mass;
      motion = record { p = is.motion.p; l = is.motion.l; still = is.motion.still; x = state.motion.x; facing = state.motion.facing };
      rest = λ e. let at_rest : IsAtRest b.motion = is.rest (carried_no_mover b on1) in record { x = at_rest.x; y = at_rest.y; l = at_rest.l };
      asleep = λ e. is.asleep (carried_rests b.enabled b.kind on1);
      course = record { velocity = has.velocity; spin = has.spin };
      halted = λ off. absurd (true_false b.enabled (carried_enabled b.enabled b.kind on1) off);
      shapes = rw (← static_as b.kind course kinematic) is.shapes;
      forms = is.forms;
      fats = is.fats;
      still = λ e f. absurd (true_false b.enabled (carried_enabled b.enabled b.kind on1) (stays_off b.enabled f));
    }
  where
    stays_off : (e : Bool) → cond e true false ≡ false → e ≡ false
    stays_off true h = h
    stays_off false h = refl

-- of the body b, as its state s has left it
moved_if : (m c : Bool) (b : Body) (s : BodyState) → is_awake b ≡ m → is_carried b ≡ c → IsBody b → IsState s → s.mass ≡ cond m b.mass (cond c carrier standing) → (c ≡ true → HasCourse s)
    → IsMovedBody (cond m (record b { motion = s.motion }) (cond c (carried_to s.motion b) b))
moved_if true c b s e f is state same has = record {
  before = pose_of b;
  mass = is.mass;
  motion = rw same at state.motion;
  rest = λ still. absurd (true_false (is_awake b) e still);
  asleep = is.asleep;
  course = is.course;
  halted = is.halted;
  shapes = is.shapes;
  forms = is.forms;
  fats = is.fats;
  still = λ still g. absurd (true_false (is_awake b) e still);
}
moved_if false true b s e f is state same has = carried_body b s f is state (has refl)
moved_if false false b s e f is state same has = unmoved b is

-- the state s has what a step leaves alone of the state o
pub record IsLike (o s : BodyState) : Type 0 where
  pub movable : s.movable ≡ o.movable
  pub mass : s.mass ≡ o.mass
  pub reciprocals : s.reciprocals ≡ o.reciprocals
  pub standing : o.movable ≡ false → step.is_carried o ≡ false → s ≡ o

pub carried_like : (o s : BodyState) → IsLike o s → step.is_carried s ≡ step.is_carried o
carried_like o s like = λ j. cond (like.movable j) false (not (int_eq (like.mass j).inertia (pos 0)))

-- the body and the state of one slot fit together
pub fits_state : (b : Body) (s : BodyState) → IsBody b → IsState s → (step.is_carried s ≡ true → HasCourse s) → IsLike (state_of (Some b)) s → FitsState s b
fits_state b s is state has like = record { body = is; state = state; course = λ on1. has (carried_like (state_of (Some b)) s like ∙ carried_state b ∙ on1) }

entry_moved : (o : Option Body) (s : BodyState) (b : Body) → ((a : Body) → o ≡ Some a → IsBody a) → IsState s → (step.is_carried s ≡ true → HasCourse s) → IsLike (state_of o) s → option_map (with_motion s) o ≡ Some b → IsMovedBody b
entry_moved None s b is state has like e = cc
entry_moved (Some a) s b is state has like e =
    let now : with_motion s a ≡ b = cc in
    let fits : FitsState s a = fits_state a s (is a refl) state has like in
    subst IsMovedBody now (moved_if (is_awake a) (is_carried a) a s refl refl (is a refl) state like.mass fits.course)

abbrev pub AreMovedBodies : List (Option Body) → Type 0
AreMovedBodies bodies = (slot : ℕ) (b : Body) → slice_get bodies slot ≡ Some (Some b) → IsMovedBody b

pub like_first : (o : Option Body) (os : List (Option Body)) (s : BodyState) (ss : List BodyState) → AreSameBeside (states_of (o ∷ os)) (s ∷ ss) → IsLike (state_of o) s
like_first o os s ss same = record { movable = same.movable zero; mass = same.mass zero; reciprocals = same.reciprocals zero; standing = same.standing zero }

pub tail_same : (o : Option Body) (os : List (Option Body)) (s : BodyState) (ss : List BodyState) → AreSameBeside (states_of (o ∷ os)) (s ∷ ss) → AreSameBeside (states_of os) ss
tail_same o os s ss h = record { long = let whole = h.long in omega (arith, whole); standing = λ slot. h.standing (suc slot); reciprocals = λ slot. h.reciprocals (suc slot); movable = λ slot. h.movable (suc slot); mass = λ slot. h.mass (suc slot) }

pub bodies-moved : (bodies : List (Option Body)) (states : List BodyState) → AreBodies bodies → AreAllStates states → HaveCourses states → AreSameBeside (states_of bodies) states → AreMovedBodies (with_motions bodies states)
bodies-moved [] states all given has same slot b e = cc
bodies-moved (o ∷ os) [] all given has same slot b e = unmoved b (all slot b e)
bodies-moved (o ∷ os) (s ∷ ss) all given has same zero b e = entry_moved o s b (λ a f. all zero a (ap Some f)) (given zero s refl) (has zero s refl) (like_first o os s ss same) (cc)
bodies-moved (o ∷ os) (s ∷ ss) all given has same (suc slot) b e = bodies-moved os ss (λ k c f. all (suc k) c f) (λ k t f. given (suc k) t f) (λ k t f. has (suc k) t f) (tail_same o os s ss same) slot b e

-- what a body is made of stays, and it stands in a place of the world
pub forms_moved : (b : Body) (s : BodyState) → IsBody b → All IsShapeDef (with_motion s b).shapes
forms_moved b s is = by (is_awake b) (is_carried b)
  where
    by : (m c : Bool) → All IsShapeDef (cond m (record b { motion = s.motion }) (cond c (carried_to s.motion b) b)).shapes
    by true c = is.forms
    by false true = is.forms
    by false false = is.forms

none_either : (e : Bool) → cond e false false ≡ false
none_either true = refl
none_either false = refl

-- the same bodies are movers
pub mover_moved : (s : BodyState) (b : Body) → is_mover (with_motion s b) ≡ is_mover b
mover_moved s b = by (is_awake b) (is_carried b) refl
  where
    by : (m c : Bool) → is_carried b ≡ c → is_mover (cond m (record b { motion = s.motion }) (cond c (carried_to s.motion b) b)) ≡ is_mover b
    by true c on1 = refl
    by false true on1 = none_either b.enabled ∙ sym (carried_rests b.enabled b.kind on1)
    by false false on1 = refl

-- ---- the slots stay

length-moved : (bodies : List (Option Body)) (states : List BodyState) → length (with_motions bodies states) ≡ length bodies
length-moved [] states = refl
length-moved (o ∷ os) [] = refl
length-moved (o ∷ os) (s ∷ ss) = ap suc (length-moved os ss)

same_presence : (o : Option Body) (s : BodyState) → is_some (option_map (with_motion s) o) ≡ is_some o
same_presence None s = refl
same_presence (Some b) s = refl

taken-moved : (bodies : List (Option Body)) (states : List BodyState) (slot : ℕ) → is_some (body_at (with_motions bodies states) slot) ≡ is_some (body_at bodies slot)
taken-moved [] states slot = refl
taken-moved (o ∷ os) [] slot = refl
taken-moved (o ∷ os) (s ∷ ss) zero = same_presence o s
taken-moved (o ∷ os) (s ∷ ss) (suc slot) = taken-moved os ss slot

shapes_if : (m c : Bool) (b : Body) (s : BodyState) → shapes_in (Some (cond m (record b { motion = s.motion }) (cond c (carried_to s.motion b) b))) ≡ shapes_in (Some b)
shapes_if true c b s = refl
shapes_if false true b s = refl
shapes_if false false b s = refl

same_shapes : (o : Option Body) (s : BodyState) → shapes_in (option_map (with_motion s) o) ≡ shapes_in o
same_shapes None s = refl
same_shapes (Some b) s = shapes_if (is_awake b) (is_carried b) b s

shapes-moved : (bodies : List (Option Body)) (states : List BodyState) (slot : ℕ) → shapes_in (body_at (with_motions bodies states) slot) ≡ shapes_in (body_at bodies slot)
shapes-moved [] states slot = refl
shapes-moved (o ∷ os) [] slot = refl
shapes-moved (o ∷ os) (s ∷ ss) zero = same_shapes o s
shapes-moved (o ∷ os) (s ∷ ss) (suc slot) = shapes-moved os ss slot

pub slots-moved : (bodies : List (Option Body)) (states : List BodyState) → HaveSameSlots bodies (with_motions bodies states)
slots-moved bodies states = record { slots = length-moved bodies states; taken = taken-moved bodies states; shapes = shapes-moved bodies states }

-- ---- the momentum is that of the states

momentum_if : (m c : Bool) (b : Body) (s : BodyState) → is_awake b ≡ m → IsBody b → s.movable ≡ m → momentum_in (Some (cond m (record b { motion = s.motion }) (cond c (carried_to s.motion b) b))) ≡ step.momentum_of s
momentum_if true c b s e is f = let moving : is_mover b ≡ true = awake_moves (is_mover b) (is_none b.asleep) e in rw (moving, f) refl
momentum_if false true b s e is f = rw (none_either b.enabled, f) refl
momentum_if false false b s e is f = rw f (no_part (is_mover b) b.motion.p (at_rest b e is))

momentum_one : (o : Option Body) (s : BodyState) → ((b : Body) → o ≡ Some b → IsBody b) → s.movable ≡ (state_of o).movable → momentum_in (option_map (with_motion s) o) ≡ step.momentum_of s
momentum_one None s is e = rw e
momentum_one (Some b) s is e = momentum_if (is_awake b) (is_carried b) b s refl (is b refl) e

pub momentum-moved : (bodies : List (Option Body)) (states : List BodyState) → AreBodies bodies → AreSameBeside (states_of bodies) states → momentum (with_motions bodies states) ≡ total states
momentum-moved [] [] all same = refl
momentum-moved [] (s ∷ ss) all same = let whole = same.long in absurd (omega (arith, whole))
momentum-moved (o ∷ os) [] all same = let whole = same.long in absurd (omega (arith, whole))
momentum-moved (o ∷ os) (s ∷ ss) all same =
    let first = momentum_one o s (λ b f. all zero b (ap Some f)) (same.movable zero) in
    let rest = momentum-moved os ss (λ k b f. all (suc k) b f) (tail_same o os s ss same) in
    ap₂ plus first rest
