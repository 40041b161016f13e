-- Bodies told the labels of their islands, slot by slot.
use Rattle.std.proofs.Common.{◌≡◌, ℕ, zero, suc, ◌+◌, ◌*◌, ◌^◌, ◌<◌, ◌≤◌, Bool, true, false, cond, List, [], ◌∷◌, ◌++◌, length, get_or, slice_set, take, drop, Option, Some, None, pos, ◌+ℤ◌, ◌-ℤ◌, arith, refl, sym, ap, ap₂, ◌∙◌, subst, add-one}
use Rattle.std.specs.Prelude.{is_some, option_map}
use Rattle.std.specs.Option.{ForSome}
use Rattle.std.proofs.lemmas.Int.{ints}
use Rattle.std.proofs.lemmas.Option.{slice_get-get_or}
use Rattle.fixed_geom.specs.Vectors.{IsWithin, minus, plus, zero_vector}
use Rattle.fixed_geom.specs.declared.vectors.Vec2.{Vec2}
use Rattle.fixed_geom.proofs.Sizes.{sum_le}
use Rattle.momenta.specs.Gains.{IsGain}
use Rattle.momenta.specs.declared.gain.Gain.{Gain}
use Rattle.momenta.specs.declared.state.BodyState.{BodyState}
use Rattle.islands.specs.Labels.{Labels, label_at, sleeping_name}
use Rattle.islands.specs.declared.label.Label.{Label}
use Rattle.colour_solver.specs.States as step
use Rattle.colour_solver.specs.States.{as_vector, carried_of, places_from}
use Rattle.plain_world.specs.declared.body.Body.{Body}
use Rattle.plain_world.specs.Bodies.{AreBodies, IsBody, is_awake, is_carried, is_mover}
use Rattle.plain_world.specs.Momentum.{momentum, momentum_in}
use Rattle.plain_world.specs.Sleep.{body_at_rest, roused, told, told_body, told_by, told_from}
use Rattle.world_core_base.specs.Gather.{state_of, states_of}
use Rattle.colour_solver.proofs.VectorLaws.{plus_assoc, plus_zero, same_vector}
use Rattle.world_core_base.proofs.GatherLaws.{carried_state, length-states}
use Rattle.world_core_base.proofs.TableLaws.{states-set}

-- ---- one body

true_false : (t : Bool) → t ≡ true → t ≡ false → ⊥
true_false t e f = let both : true ≡ false = sym e ∙ f in cc both

rested_body : (name : ℕ) (b : Body) → is_mover b ≡ true → IsBody b → IsBody (body_at_rest name b)
rested_body name b moves is = record {
  mass = is.mass;
  motion = record { p = record { x = omega arith; y = omega arith }; l = omega arith; still = λ e. refl; x = is.motion.x; facing = is.motion.facing };
  rest = λ e. record { x = refl; y = refl; l = refl };
  asleep = λ e. absurd (true_false (is_mover b) moves e);
  course = is.course;
  halted = is.halted;
  shapes = is.shapes;
  forms = is.forms;
  fats = is.fats;
}

roused_body : (b : Body) → is_mover b ≡ true → IsBody b → IsBody (roused b)
roused_body b moves is = record {
  mass = is.mass;
  motion = is.motion;
  rest = λ e. absurd (true_false (is_awake (roused b)) (λ j. cond (moves j) true false) e);
  asleep = λ e. refl;
  course = is.course;
  halted = is.halted;
  shapes = is.shapes;
  forms = is.forms;
  fats = is.fats;
}

told_mover : (o : Option ℕ) (b : Body) → is_mover b ≡ true → IsBody b → IsBody (told_by o b)
told_mover (Some name) b moves is = rested_body name b moves is
told_mover None b moves is = woken (is_some b.asleep)
  where
    woken : (t : Bool) → IsBody (cond t (roused b) b)
    woken true = roused_body b moves is
    woken false = is

pub told_is_body : (label : Option Label) (b : Body) → IsBody b → IsBody (told_body label b)
told_is_body label b is = by (is_mover b) refl
  where
    by : (t : Bool) → is_mover b ≡ t → IsBody (cond t (told_by (sleeping_name label) b) b)
    by true e = told_mover (sleeping_name label) b e is
    by false e = is

pub told_entry_body : (label : Option Label) (o : Option Body) → ForSome o IsBody → ForSome (option_map (told_body label) o) IsBody
told_entry_body label None is = λ b e. cc
told_entry_body label (Some a) is = λ b e. let same : told_body label a ≡ b = cc in subst IsBody same (told_is_body label a (is a refl))

pub told_are_bodies : (labels : Labels) (n : ℕ) (bodies : List (Option Body)) → AreBodies bodies → AreBodies (told_from n labels bodies)
told_are_bodies labels n [] all slot b e = cc
told_are_bodies labels n (o ∷ os) all zero b e = told_entry_body (label_at labels n) o (λ a f. all zero a (ap Some f)) b (cc)
told_are_bodies labels n (o ∷ os) all (suc slot) b e = told_are_bodies labels (suc n) os (λ k c f. all (suc k) c f) slot b e

part_small : (t : Bool) (v : Vec2) → IsWithin (2 ^ 60) v → IsWithin (2 ^ 61) (cond t v zero_vector)
part_small true v h = record { x = omega (arith, h.x); y = omega (arith, h.y) }
part_small false v h = record { x = omega arith; y = omega arith }

-- a body's part in the momentum is small, before it is told its label and after
pub small_momentum : (o : Option Body) → ForSome o IsBody → IsWithin (2 ^ 61) (momentum_in o)
small_momentum None is = record { x = omega arith; y = omega arith }
small_momentum (Some b) is = let body : IsBody b = is b refl in part_small (is_mover b) b.motion.p body.motion.p

pub small_told : (label : Option Label) (o : Option Body) → ForSome o IsBody → IsWithin (2 ^ 61) (momentum_in (option_map (told_body label) o))
small_told label o is = small_momentum (option_map (told_body label) o) (told_entry_body label o is)

pub told_bodies : (labels : Labels) (bodies : List (Option Body)) → AreBodies bodies → AreBodies (told labels bodies)
unfolding told
told_bodies labels bodies all = told_are_bodies labels 0 bodies all

-- what is carried along is as before
carried_by : (o : Option ℕ) (b : Body) → is_carried (told_by o b) ≡ is_carried b
carried_by (Some name) b = refl
carried_by None b = by (is_some b.asleep)
  where
    by : (t : Bool) → is_carried (cond t (roused b) b) ≡ is_carried b
    by true = refl
    by false = refl

carried_body : (label : Option Label) (b : Body) → is_carried (told_body label b) ≡ is_carried b
carried_body label b = by (is_mover b)
  where
    by : (t : Bool) → is_carried (cond t (told_by (sleeping_name label) b) b) ≡ is_carried b
    by true = carried_by (sleeping_name label) b
    by false = refl

carried_entry : (label : Option Label) (o : Option Body) → step.is_carried (state_of (option_map (told_body label) o)) ≡ step.is_carried (state_of o)
carried_entry label None = refl
carried_entry label (Some b) = carried_state (told_body label b) ∙ carried_body label b ∙ sym (carried_state b)

carried_told_from : (labels : Labels) (n m : ℕ) (bodies : List (Option Body)) → places_from step.is_carried m (states_of (told_from n labels bodies)) ≡ places_from step.is_carried m (states_of bodies)
carried_told_from labels n m [] = refl
carried_told_from labels n m (o ∷ os) = λ j. cond (carried_entry (label_at labels n) o j) (m ∷ carried_told_from labels (suc n) (suc m) os j) (carried_told_from labels (suc n) (suc m) os j)

pub carried_told : (labels : Labels) (bodies : List (Option Body)) → carried_of (states_of (told labels bodies)) ≡ carried_of (states_of bodies)
unfolding told
carried_told labels bodies = carried_told_from labels 0 0 bodies

length-told_from : (labels : Labels) (n : ℕ) (bodies : List (Option Body)) → length (told_from n labels bodies) ≡ length bodies
length-told_from labels n [] = refl
length-told_from labels n (o ∷ os) = ap suc (length-told_from labels (suc n) os)

pub length-told : (labels : Labels) (bodies : List (Option Body)) → length (told labels bodies) ≡ length bodies
unfolding told
length-told labels bodies = length-told_from labels 0 bodies

-- ---- one slot of the loop

abbrev told_entry : Labels → ℕ → Option Body → Option Body
told_entry labels slot o = option_map (told_body (label_at labels slot)) o

-- the bodies of which the first are told, where they begin with the slot n
abbrev told_part : Labels → ℕ → List (Option Body) → ℕ → List (Option Body)
told_part labels n bodies i = told_from n labels (take i bodies) ++ drop i bodies

next_told : (labels : Labels) (n k : ℕ) (bodies : List (Option Body)) (i : ℕ) (d : Option Body) → k ≡ n + i → i < length bodies → slice_set (told_part labels n bodies i) i (told_entry labels k (get_or bodies i d)) ≡ told_part labels n bodies (suc i)
next_told labels n k [] i d e h = absurd (omega (arith, h))
next_told labels n k (o ∷ os) zero d e h = let same : k ≡ n = omega (arith, e) in ap (λ (s : ℕ). told_entry labels s o ∷ os) same
next_told labels n k (o ∷ os) (suc i) d e h = ap (λ (l : List (Option Body)). told_entry labels n o ∷ l) (next_told labels (suc n) k os i d (omega (arith, e)) (omega (arith, h)))

still_there : (labels : Labels) (n : ℕ) (bodies : List (Option Body)) (i : ℕ) (d : Option Body) → i < length bodies → get_or (told_part labels n bodies i) i d ≡ get_or bodies i d
still_there labels n [] i d h = absurd (omega (arith, h))
still_there labels n (o ∷ os) zero d h = refl
still_there labels n (o ∷ os) (suc i) d h = still_there labels (suc n) os i d (omega (arith, h))

length-part : (labels : Labels) (n : ℕ) (bodies : List (Option Body)) (i : ℕ) → length (told_part labels n bodies i) ≡ length bodies
length-part labels n [] zero = refl
length-part labels n [] (suc i) = refl
length-part labels n (o ∷ os) zero = refl
length-part labels n (o ∷ os) (suc i) = ap suc (length-part labels (suc n) os i)

whole_told : (labels : Labels) (n : ℕ) (bodies : List (Option Body)) (i : ℕ) → length bodies ≤ i → told_part labels n bodies i ≡ told_from n labels bodies
whole_told labels n [] zero h = refl
whole_told labels n [] (suc i) h = refl
whole_told labels n (o ∷ os) zero h = absurd (omega (arith, h))
whole_told labels n (o ∷ os) (suc i) h = ap (λ (l : List (Option Body)). told_entry labels n o ∷ l) (whole_told labels (suc n) os i (omega (arith, h)))

-- ---- the momentum

put_here : (a o t : Vec2) → plus o t ≡ plus (plus a t) (minus o a)
put_here a o t = same_vector _ _ (omega (arith, ints)) (omega (arith, ints))

pub momentum-put : (bodies : List (Option Body)) (i : ℕ) (o d : Option Body) → i < length bodies → momentum (slice_set bodies i o) ≡ plus (momentum bodies) (minus (momentum_in o) (momentum_in (get_or bodies i d)))
momentum-put [] i o d h = absurd (omega (arith, h))
momentum-put (a ∷ os) zero o d h = put_here (momentum_in a) (momentum_in o) (momentum os)
momentum-put (a ∷ os) (suc i) o d h =
    ap (plus (momentum_in a)) (momentum-put os i o d (omega (arith, h))) ∙ plus_assoc (momentum_in a) (momentum os) (minus (momentum_in o) (momentum_in (get_or os i d)))

-- ---- the loop

-- the first slots are told, the states are those of the bodies, and the momentum has gained as much
pub record HasTold (labels : Labels) (all : List (Option Body)) (i : ℕ) (os : List (Option Body)) (ss : List BodyState) (gained : Gain) : Type 0 where
  pub bodies : os ≡ told_part labels 0 all i
  pub states : ss ≡ states_of os
  pub momentum : momentum os ≡ plus (momentum all) (as_vector gained)
  pub small : IsGain (i * 2 ^ 62) gained

pub told_first : (labels : Labels) (all : List (Option Body)) (ss : List BodyState) → ss ≡ states_of all → HasTold labels all 0 all ss (record { x = pos 0; y = pos 0 })
told_first labels all ss e = record { bodies = refl; states = e; momentum = sym (plus_zero (momentum all)); small = record { x = omega arith; y = omega arith } }

-- the slot is there, with a body or none as it was
pub record IsTold (labels : Labels) (all : List (Option Body)) (i : ℕ) (os : List (Option Body)) (ss : List BodyState) : Type 0 where
  pub bodies : i < length os
  pub states : i < length ss
  pub here : get_or os i None ≡ get_or all i None
  pub body : ForSome (get_or os i None) IsBody

pub told_there : (labels : Labels) (all : List (Option Body)) (i : ℕ) (os : List (Option Body)) (ss : List BodyState) (gained : Gain) → AreBodies all → i < length all → HasTold labels all i os ss gained → IsTold labels all i os ss
told_there labels all i os ss gained bodies h known =
    let long : length os ≡ length all = ap length known.bodies ∙ length-part labels 0 all i in
    let states_long : length ss ≡ length os = ap length known.states ∙ length-states os in
    let here : get_or os i None ≡ get_or all i None = ap (λ (l : List (Option Body)). get_or l i None) known.bodies ∙ still_there labels 0 all i None h in
    record {
      bodies = omega (arith, h, long);
      states = omega (arith, h, long, states_long);
      here = here;
      body = λ b e. bodies i b (slice_get-get_or all i None h ∙ ap Some (sym here ∙ e));
    }

pub told_more : (labels : Labels) (all : List (Option Body)) (i : ℕ) (os os_after : List (Option Body)) (ss ss_after : List BodyState) (gained more sum : Gain) → AreBodies all → i < length all → HasTold labels all i os ss gained
    → os_after ≡ slice_set os i (option_map (told_body (label_at labels i)) (get_or os i None)) → ss_after ≡ slice_set ss i (state_of (option_map (told_body (label_at labels i)) (get_or os i None)))
    → more.x ≡ (momentum_in (option_map (told_body (label_at labels i)) (get_or os i None))).x -ℤ (momentum_in (get_or os i None)).x → more.y ≡ (momentum_in (option_map (told_body (label_at labels i)) (get_or os i None))).y -ℤ (momentum_in (get_or os i None)).y
    → IsGain (2 ^ 62) more → sum.x ≡ gained.x +ℤ more.x → sum.y ≡ gained.y +ℤ more.y → HasTold labels all (i + 1) os_after ss_after sum
told_more labels all i os os_after ss ss_after gained more sum bodies h known puts renews gains_x gains_y small sum_x sum_y =
    let there = told_there labels all i os ss gained bodies h known in
    let o : Option Body = option_map (told_body (label_at labels i)) (get_or os i None) in
    let entry : o ≡ told_entry labels i (get_or all i None) = ap (told_entry labels i) there.here in
    let gains : as_vector more ≡ minus (momentum_in o) (momentum_in (get_or os i None)) = same_vector _ _ gains_x gains_y in
    let sums : as_vector sum ≡ plus (as_vector gained) (as_vector more) = same_vector _ _ sum_x sum_y in
    record {
      bodies = rw add-one (puts ∙ (λ j. slice_set (known.bodies j) i (entry j)) ∙ next_told labels 0 i all i None (omega arith) h);
      states = renews ∙ ap (λ (l : List BodyState). slice_set l i (state_of o)) known.states ∙ states-set os i o ∙ ap states_of (sym puts);
      momentum =
          ap momentum puts
          ∙ (momentum-put os i o None there.bodies
          ∙ (ap₂ plus known.momentum (sym gains) ∙ (sym (plus_assoc (momentum all) (as_vector gained) (as_vector more)) ∙ ap (plus (momentum all)) (sym sums))));
      small = record {
        x = let s = sum_le gained.x more.x (i * 2 ^ 62) (2 ^ 62) known.small.x small.x in rw sum_x (omega (arith, s));
        y = let s = sum_le gained.y more.y (i * 2 ^ 62) (2 ^ 62) known.small.y small.y in rw sum_y (omega (arith, s));
      };
    }

pub told_last : (labels : Labels) (all : List (Option Body)) (i : ℕ) (os : List (Option Body)) (ss : List BodyState) (gained : Gain) → length all ≤ i → HasTold labels all i os ss gained → os ≡ told labels all
unfolding told
told_last labels all i os ss gained h known = known.bodies ∙ whole_told labels 0 all i h
