-- Bodies that are told who sleeps: what they keep, what becomes of their momentum, and when they stay as they are.
use Rattle.std.proofs.Common.{◌≡◌, ℕ, zero, suc, ◌+◌, ◌*◌, ◌≤◌, Bool, true, false, cond, is_some, List, [], ◌∷◌, length, Option, Some, None, pos, refl, sym, ap, ◌∙◌, subst, arith, ap₂}
use Rattle.std.specs.Prelude.{option_map, slice_get}
use Rattle.std.specs.Option.{is_none}
use Rattle.std.proofs.lemmas.Option.{none-some, same_Some}
use Rattle.fixed_geom.specs.Vectors.{plus, zero_vector}
use Rattle.fixed_geom.specs.declared.vectors.Vec2.{Vec2}
use Rattle.islands.specs.declared.label.Label.{Label}
use Rattle.islands.specs.Labels.{Labels, label_at, sleeping_name}
use Rattle.colour_solver.proofs.VectorLaws.{same_vector}
use Rattle.plain_world.specs.declared.body.Body.{Body}
use Rattle.plain_world.specs.Bodies.{AreBodies, IsAtRest, IsBody, is_awake, is_mover, is_mover_in}
use Rattle.plain_world.specs.Momentum.{momentum, momentum_in}
use Rattle.plain_world.specs.Sleep.{body_at_rest, roused, told, told_body, told_by, told_from}
use Rattle.plain_world.specs.Slots.{body_at, shapes_in}
use Rattle.plain_world.specs.InSlots.{HaveSameSlots}
use Rattle.solver_sets.specs.Tied.{AreTied}
use Rattle.solver_sets.specs.Alike.{AreAlike}
use Rattle.solver_sets.specs.Ties.{is_enabled_in}
use Rattle.world_rules.specs.Sound.{AreTimers, AreTold}
use Rattle.world_rules.proofs.ShapeLaws.{HaveSameShapes, shapes_of}
use Rattle.world_rules.proofs.SlotLemmas.{body_at-in}
use Rattle.world_core_base.proofs.TellLaws.{told_is_body}

-- ---- one body

-- it is the same body, but for its momenta, its timer and its sleep
pub record IsToldOf (b now : Body) : Type 0 where
  pub mover : is_mover now ≡ is_mover b
  pub enabled : now.enabled ≡ b.enabled
  pub kind : now.kind ≡ b.kind
  pub mass : now.mass ≡ b.mass
  pub shapes : now.shapes ≡ b.shapes
  pub timer : now.timer ≤ b.timer

pub told_is : (o : Option Label) (b : Body) → IsToldOf b (told_body o b)
told_is o b = by_mover (is_mover b) (sleeping_name o)
  where
    same : IsToldOf b b
    same = record { mover = refl; enabled = refl; kind = refl; mass = refl; shapes = refl; timer = omega arith }

    by_asleep : (a : Bool) → IsToldOf b (cond a (roused b) b)
    by_asleep true = record { mover = refl; enabled = refl; kind = refl; mass = refl; shapes = refl; timer = omega arith }
    by_asleep false = same

    by_mover : (t : Bool) (name : Option ℕ) → IsToldOf b (cond t (told_by name b) b)
    by_mover false name = same
    by_mover true None = by_asleep (is_some b.asleep)
    by_mover true (Some name) = record { mover = refl; enabled = refl; kind = refl; mass = refl; shapes = refl; timer = omega arith }

told_sleeps : (o : Option Label) (b : Body) → (is_mover b ≡ false → b.asleep ≡ sleeping_name o) → (told_body o b).asleep ≡ sleeping_name o
told_sleeps o b h = by_mover (is_mover b) refl (sleeping_name o) refl
  where
    by_asleep : (a : Option ℕ) → b.asleep ≡ a → (cond (is_some a) (roused b) b).asleep ≡ None
    by_asleep None e = e
    by_asleep (Some name) e = refl

    by_mover : (t : Bool) → is_mover b ≡ t → (name : Option ℕ) → sleeping_name o ≡ name → (cond t (told_by name b) b).asleep ≡ name
    by_mover false e name q = h e ∙ q
    by_mover true e None q = by_asleep b.asleep refl
    by_mover true e (Some name) q = refl

-- one that isn't told to sleep has the motion that it had
pub told_motion : (o : Option Label) (b : Body) → sleeping_name o ≡ None → (told_body o b).motion ≡ b.motion
told_motion o b e = by_mover (is_mover b) (sleeping_name o) e
  where
    by_asleep : (a : Bool) → (cond a (roused b) b).motion ≡ b.motion
    by_asleep true = refl
    by_asleep false = refl

    by_mover : (t : Bool) (name : Option ℕ) → name ≡ None → (cond t (told_by name b) b).motion ≡ b.motion
    by_mover false name f = refl
    by_mover true None f = by_asleep (is_some b.asleep)
    by_mover true (Some name) f = cc

-- ---- by slot

told_at : (n : ℕ) (labels : Labels) (bodies : List (Option Body)) (k m : ℕ) → m ≡ n + k → body_at (told_from n labels bodies) k ≡ option_map (told_body (label_at labels m)) (body_at bodies k)
told_at n labels [] k m e = refl
told_at n labels (o ∷ bodies) zero m e = let here : n ≡ m = omega (arith, e) in ap (λ (j : ℕ). option_map (told_body (label_at labels j)) o) here
told_at n labels (o ∷ bodies) (suc k) m e = told_at (suc n) labels bodies k m (omega (arith, e))

-- the body in a slot as its label tells
pub body_told : (labels : Labels) (bodies : List (Option Body)) (slot : ℕ) → body_at (told labels bodies) slot ≡ option_map (told_body (label_at labels slot)) (body_at bodies slot)
unfolding told
body_told labels bodies slot = told_at 0 labels bodies slot slot (omega arith)

-- the body before
pub record WasBefore (o : Option Label) (before : Option Body) (b : Body) : Type 0 where
  pub body : Body
  pub there : before ≡ Some body
  pub told : told_body o body ≡ b

was_of : (l : Option Label) (o : Option Body) (b : Body) → option_map (told_body l) o ≡ Some b → WasBefore l o b
was_of l None b e = absurd (none-some b e)
was_of l (Some a) b e = record { body = a; there = refl; told = same_Some (told_body l a) b e }

pub was_before : (labels : Labels) (bodies : List (Option Body)) (slot : ℕ) (b : Body) → body_at (told labels bodies) slot ≡ Some b → WasBefore (label_at labels slot) (body_at bodies slot) b
was_before labels bodies slot b e = was_of (label_at labels slot) (body_at bodies slot) b (sym (body_told labels bodies slot) ∙ e)

-- a body that stands in a slot of a list
pub at_from_in : (bodies : List (Option Body)) (slot : ℕ) (b : Body) → slice_get bodies slot ≡ Some (Some b) → body_at bodies slot ≡ Some b
at_from_in [] slot b e = cc
at_from_in (a ∷ bs) zero b e = same_Some a (Some b) e
at_from_in (a ∷ bs) (suc slot) b e = at_from_in bs slot b e

-- ---- what they keep

pub told_are_bodies : (labels : Labels) (bodies : List (Option Body)) → AreBodies bodies → AreBodies (told labels bodies)
told_are_bodies labels bodies all slot b e =
    let was = was_before labels bodies slot b (at_from_in (told labels bodies) slot b e) in
    subst IsBody was.told (told_is_body (label_at labels slot) was.body (all slot was.body (body_at-in bodies slot was.body was.there)))

pub told_timers : (labels : Labels) (bodies : List (Option Body)) (steps : ℕ) → AreTimers steps bodies → AreTimers steps (told labels bodies)
told_timers labels bodies steps all slot b e =
    let was = was_before labels bodies slot b e in
    let small = all slot was.body was.there in
    let less = (told_is (label_at labels slot) was.body).timer in
    subst (λ (c : Body). c.timer ≤ 8 * steps) was.told (omega (arith, small, less))

alike_in : (l : Option Label) (o : Option Body) → (is_mover_in (option_map (told_body l) o) ≡ is_mover_in o) × (is_enabled_in (option_map (told_body l) o) ≡ is_enabled_in o)
alike_in l None = (refl, refl)
alike_in l (Some b) = let is = told_is l b in (is.mover, is.enabled)

-- the same slots have enabled bodies and movers
pub told_alike : (labels : Labels) (bodies : List (Option Body)) → AreAlike bodies (told labels bodies)
told_alike labels bodies = record {
  enabled = λ slot. ap is_enabled_in (body_told labels bodies slot) ∙ (alike_in (label_at labels slot) (body_at bodies slot)).1;
  movers = λ slot. ap is_mover_in (body_told labels bodies slot) ∙ (alike_in (label_at labels slot) (body_at bodies slot)).0;
}

length_from : (n : ℕ) (labels : Labels) (bodies : List (Option Body)) → length (told_from n labels bodies) ≡ length bodies
length_from n labels [] = refl
length_from n labels (o ∷ bodies) = ap suc (length_from (suc n) labels bodies)

pub length_told : (labels : Labels) (bodies : List (Option Body)) → length (told labels bodies) ≡ length bodies
unfolding told
length_told labels bodies = length_from 0 labels bodies

there_in : (l : Option Label) (o : Option Body) → is_some (option_map (told_body l) o) ≡ is_some o
there_in l None = refl
there_in l (Some b) = refl

shapes_same : (l : Option Label) (o : Option Body) → shapes_in (option_map (told_body l) o) ≡ shapes_in o
shapes_same l None = refl
shapes_same l (Some b) = let is = told_is l b in λ j. cond (is.enabled j) (length (is.shapes j)) 0

pub told_same_slots : (labels : Labels) (bodies : List (Option Body)) → HaveSameSlots bodies (told labels bodies)
told_same_slots labels bodies = record {
  slots = length_told labels bodies;
  taken = λ slot. ap is_some (body_told labels bodies slot) ∙ there_in (label_at labels slot) (body_at bodies slot);
  shapes = λ slot. ap shapes_in (body_told labels bodies slot) ∙ shapes_same (label_at labels slot) (body_at bodies slot);
}

shapes_stay : (l : Option Label) (o : Option Body) → shapes_of (option_map (told_body l) o) ≡ shapes_of o
shapes_stay l None = refl
shapes_stay l (Some b) = (told_is l b).shapes

pub told_same_shapes : (labels : Labels) (bodies : List (Option Body)) → HaveSameShapes bodies (told labels bodies)
told_same_shapes labels bodies slot = ap shapes_of (body_told labels bodies slot) ∙ shapes_stay (label_at labels slot) (body_at bodies slot)

none_sleeps : (l : Option Label) → is_some l ≡ false → sleeping_name l ≡ None
none_sleeps None e = refl
none_sleeps (Some l) e = cc

-- they sleep as the labels say
pub told_are_told : (labels : Labels) (bodies : List (Option Body)) → AreBodies bodies → AreTied bodies labels → AreTold (told labels bodies) labels
told_are_told labels bodies all tied slot b e =
    let was = was_before labels bodies slot b e in
    let is : IsBody was.body = all slot was.body (body_at-in bodies slot was.body was.there) in
    sym (ap (λ (c : Body). c.asleep) was.told)
    ∙ told_sleeps (label_at labels slot) was.body (λ no. is.asleep no ∙ sym (none_sleeps (label_at labels slot) (tied slot ∙ ap is_mover_in was.there ∙ no)))

pub told_tied : (labels : Labels) (bodies : List (Option Body)) → AreTied bodies labels → AreTied (told labels bodies) labels
told_tied labels bodies tied slot = tied slot ∙ sym ((told_alike labels bodies).movers slot)

-- ---- their momentum

-- nobody who is awake is told to sleep
abbrev pub NobodyFallsAsleep : List (Option Body) → Labels → Type 0
NobodyFallsAsleep bodies labels = (slot : ℕ) (b : Body) → body_at bodies slot ≡ Some b → is_awake b ≡ true → sleeping_name (label_at labels slot) ≡ None

-- a body keeps its momentum, if it isn't told to sleep while it is awake
abbrev KeepsMomentum : Body → Body → Type 0
KeepsMomentum b now = now.motion.p ≡ b.motion.p

asleep_rests : (b : Body) (name : ℕ) → IsBody b → (is_awake b ≡ true → Some name ≡ None) → KeepsMomentum b (body_at_rest name b)
asleep_rests b name is h = by (is_awake b) refl
  where
    by : (t : Bool) → is_awake b ≡ t → KeepsMomentum b (body_at_rest name b)
    by true e = let no = h e in cc
    by false e = same_vector zero_vector b.motion.p (sym (is.rest e).x) (sym (is.rest e).y)

told_momentum : (o : Option Label) (b : Body) → IsBody b → (is_awake b ≡ true → sleeping_name o ≡ None) → KeepsMomentum b (told_body o b)
told_momentum o b is h = by_mover (is_mover b) (sleeping_name o) h
  where
    by_asleep : (a : Bool) → KeepsMomentum b (cond a (roused b) b)
    by_asleep true = refl
    by_asleep false = refl

    by_mover : (t : Bool) (name : Option ℕ) → (is_awake b ≡ true → name ≡ None) → KeepsMomentum b (cond t (told_by name b) b)
    by_mover false name k = refl
    by_mover true None k = by_asleep (is_some b.asleep)
    by_mover true (Some name) k = asleep_rests b name is k

pub told_part : (l : Option Label) (o : Option Body) → ((b : Body) → o ≡ Some b → IsBody b) → ((b : Body) → o ≡ Some b → is_awake b ≡ true → sleeping_name l ≡ None) → momentum_in (option_map (told_body l) o) ≡ momentum_in o
told_part l None all h = refl
told_part l (Some b) all h = λ j. cond ((told_is l b).mover j) (told_momentum l b (all b refl) (h b refl) j) zero_vector

-- what is known of the list that begins with the slot n
abbrev StayAwakeFrom : ℕ → List (Option Body) → Labels → Type 0
StayAwakeFrom n bodies labels = (k m : ℕ) (b : Body) → m ≡ n + k → body_at bodies k ≡ Some b → is_awake b ≡ true → sleeping_name (label_at labels m) ≡ None

tail_stays : (n : ℕ) (o : Option Body) (bodies : List (Option Body)) (labels : Labels) → StayAwakeFrom n (o ∷ bodies) labels → StayAwakeFrom (suc n) bodies labels
tail_stays n o bodies labels h k m b e at up = h (suc k) m b (omega (arith, e)) at up

told_from_momentum : (n : ℕ) (labels : Labels) (bodies : List (Option Body)) → AreBodies bodies → StayAwakeFrom n bodies labels → momentum (told_from n labels bodies) ≡ momentum bodies
told_from_momentum n labels [] all h = refl
told_from_momentum n labels (o ∷ bodies) all h =
    let first = told_part (label_at labels n) o (λ b e. all zero b (ap Some e)) (λ b e. h zero n b (omega arith) e) in
    let rest = told_from_momentum (suc n) labels bodies (λ k b e. all (suc k) b e) (tail_stays n o bodies labels h) in
    ap₂ plus first rest

from_zero : (bodies : List (Option Body)) (labels : Labels) → NobodyFallsAsleep bodies labels → StayAwakeFrom 0 bodies labels
from_zero bodies labels h k m b e at up = let same : k ≡ m = omega (arith, e) in subst (λ (s : ℕ). sleeping_name (label_at labels s) ≡ None) same (h k b at up)

-- where nobody falls asleep the movers' momentum stays as it is
pub waking_momentum : (labels : Labels) (bodies : List (Option Body)) → AreBodies bodies → NobodyFallsAsleep bodies labels → momentum (told labels bodies) ≡ momentum bodies
unfolding told
waking_momentum labels bodies all h = told_from_momentum 0 labels bodies all (from_zero bodies labels h)

-- ---- when they stay as they are

no_vector : (v : Vec2) → v.x ≡ pos 0 → v.y ≡ pos 0 → ◌≡◌ {A = Vec2} (record { x = pos 0; y = pos 0 }) v
no_vector v x y = λ j. record { x = sym x j; y = sym y j }

rest_stays : (name : ℕ) (b : Body) → b.asleep ≡ Some name → IsAtRest b.motion → body_at_rest name b ≡ b
rest_stays name b e rest = λ j. record b { motion = record b.motion { p = no_vector b.motion.p rest.x rest.y j; l = sym rest.l j }; asleep = sym e j }

awake_not : (m : Bool) (a : Option ℕ) (name : ℕ) → a ≡ Some name → cond m (is_none a) false ≡ false
awake_not true None name e = cc
awake_not true (Some n) name e = refl
awake_not false a name e = refl

-- a body that sleeps as it is told already
told_stays_one : (o : Option Label) (b : Body) → IsBody b → b.asleep ≡ sleeping_name o → told_body o b ≡ b
told_stays_one o b is e = by_mover (is_mover b) (sleeping_name o) e
  where
    by_asleep : (a : Option ℕ) → a ≡ None → cond (is_some a) (roused b) b ≡ b
    by_asleep None f = refl
    by_asleep (Some name) f = cc

    by_mover : (t : Bool) (name : Option ℕ) → b.asleep ≡ name → cond t (told_by name b) b ≡ b
    by_mover false name f = refl
    by_mover true None f = by_asleep b.asleep f
    by_mover true (Some name) f = rest_stays name b f (is.rest (awake_not (is_mover b) b.asleep name f))

stays_in : (l : Option Label) (o : Option Body) → ((b : Body) → o ≡ Some b → IsBody b) → ((b : Body) → o ≡ Some b → b.asleep ≡ sleeping_name l) → option_map (told_body l) o ≡ o
stays_in l None all h = refl
stays_in l (Some b) all h = ap Some (told_stays_one l b (all b refl) (h b refl))

told_from_stays : (n : ℕ) (labels : Labels) (bodies : List (Option Body)) → AreBodies bodies → ((k m : ℕ) (b : Body) → m ≡ n + k → body_at bodies k ≡ Some b → b.asleep ≡ sleeping_name (label_at labels m)) → told_from n labels bodies ≡ bodies
told_from_stays n labels [] all h = refl
told_from_stays n labels (o ∷ bodies) all h =
    let first = stays_in (label_at labels n) o (λ b e. all zero b (ap Some e)) (λ b e. h zero n b (omega arith) e) in
    let rest = told_from_stays (suc n) labels bodies (λ k b e. all (suc k) b e) (λ k m b e at. h (suc k) m b (omega (arith, e)) at) in
    λ j. first j ∷ rest j

-- bodies that are told already
pub told_stays : (labels : Labels) (bodies : List (Option Body)) → AreBodies bodies → AreTold bodies labels → told labels bodies ≡ bodies
unfolding told
told_stays labels bodies all h =
    told_from_stays 0 labels bodies all (λ k m b e at. let same : k ≡ m = omega (arith, e) in subst (λ (s : ℕ). b.asleep ≡ sleeping_name (label_at labels s)) same (h k b at))

-- ---- bodies told again by other labels

awake_if : (m : Bool) (a : Option ℕ) → m ≡ true → a ≡ None → cond m (is_none a) false ≡ true
awake_if true None e f = refl
awake_if true (Some name) e f = cc
awake_if false a e f = cc

none_of : (a : Option ℕ) → is_some a ≡ false → a ≡ None
none_of None e = refl
none_of (Some name) e = cc
