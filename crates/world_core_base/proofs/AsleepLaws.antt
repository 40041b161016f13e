-- What ties two bodies sleeps with the first of them that is a mover: what that means where bodies wake, fall asleep and
-- change.
use Rattle.std.proofs.Common.{◌≡◌, ◌≢◌, ◌⊎◌, ℕ, zero, suc, ◌+◌, ◌<◌, ◌≤◌, ◌&&◌, Bool, true, false, cond, List, [], ◌∷◌, length, map, nat_lt, ltb-true, ltb-false, ◌++◌, slice_set, Option, Some, None, is_some, inl, inr, refl, sym, ap, ◌∙◌, subst, arith}
use Rattle.std.specs.Prelude.{Contains, option_map}
use Rattle.std.proofs.lemmas.Bool.{cases_eq}
use Rattle.std.proofs.lemmas.List.{length-set}
use Rattle.momenta.specs.declared.state.BodyState.{BodyState}
use Rattle.graph_colours.proofs.Cases.{by_test}
use Rattle.graph_colours.specs.declared.member.Movers.{Movers}
use Rattle.islands.specs.Labels.{Labels, label_at, sleeping_name}
use Rattle.islands.specs.declared.label.Label.{Label}
use Rattle.plain_world.specs.declared.body.Body.{Body}
use Rattle.plain_world.specs.declared.body.SetName.{SetName}
use Rattle.plain_world.specs.declared.body.SetName.TheVariants as sets
use Rattle.plain_world.specs.declared.kind.Kind.{Kind}
use Rattle.plain_world.specs.declared.kind.Kind.TheVariants.{Static, Kinematic, Dynamic}
use Rattle.plain_world.specs.Bodies.{is_awake, is_carried, is_mover, is_mover_in, moves, can_move, pose_of, set_of, standing_of}
use Rattle.plain_world.specs.Fats.{renewed_boxes}
use Rattle.plain_world.specs.InSlots.{is_carried_in}
use Rattle.plain_world.specs.Kinds.{is_dynamic, is_kinematic}
use Rattle.plain_world.specs.Sleep.{is_slow, roused, timed, timed_bodies, told, told_body, told_by, told_from}
use Rattle.plain_world.specs.Slots.{body_at, item_at, with_item}
use Rattle.solver_sets.specs.Ties.{is_enabled, is_enabled_in, movers_if, movers_with}
use Rattle.world_core_base.specs.Asleep.{IsSleepAlike, SleepAlike, asleep_in, asleep_under, sleep_with}
use Rattle.world_core_base.specs.Carried.{carried_to}
use Rattle.world_core_base.specs.Following.{CanFollow}
use Rattle.world_core_base.specs.Gather.{with_motion, with_motions}
use Rattle.world_core_base.specs.Renewal.{renewed_bodies, with_renewed}
use Rattle.world_core_base.specs.Telling.{AreToldBeside, KeepSets}
use Rattle.world_core_base.proofs.JointEndLaws.{item_at-before, item_at-end, item_at-other, item_at-same}

-- ---- bodies by slot

pub body_below : (bodies : List (Option Body)) (slot : ℕ) (b : Body) → body_at bodies slot ≡ Some b → slot < length bodies
body_below [] slot b e = cc
body_below (o ∷ os) zero b e = omega arith
body_below (o ∷ os) (suc slot) b e = let rest = body_below os slot b e in omega (arith, rest)

-- a mover is in one of the slots
pub mover_below : (bodies : List (Option Body)) (slot : ℕ) → moves bodies slot ≡ true → slot < length bodies
mover_below bodies slot h = by (body_at bodies slot) refl h
  where
    by : (o : Option Body) → body_at bodies slot ≡ o → is_mover_in o ≡ true → slot < length bodies
    by None e k = cc
    by (Some b) e k = body_below bodies slot b e

-- ---- the first mover

-- the one of two bodies that is the first mover
pub record IsFirstOf (bodies : List (Option Body)) (a b first : ℕ) : Type 0 where
  pub one : (first ≡ a) ⊎ (first ≡ b)
  pub mover : moves bodies first ≡ true
  pub both : (is_enabled bodies a && is_enabled bodies b) ≡ true

movers_inside : (m n : Movers) → Some m ≡ Some n → m ≡ n
movers_inside m n e = cc

pub first_of : (bodies : List (Option Body)) (a b : ℕ) (m : Movers) → movers_with bodies a b ≡ Some m → IsFirstOf bodies a b m.first
first_of bodies a b m h = by (is_enabled bodies a && is_enabled bodies b) (moves bodies a) (moves bodies b) refl refl refl h
  where
    at : (k : ℕ) (second : Option ℕ) → (k ≡ a) ⊎ (k ≡ b) → moves bodies k ≡ true → (is_enabled bodies a && is_enabled bodies b) ≡ true → Some (record { first = k; second = second }) ≡ Some m → IsFirstOf bodies a b m.first
    at k second one mover both e = subst (λ (n : Movers). IsFirstOf bodies a b n.first) (movers_inside (record { first = k; second = second }) m e) (record { one = one; mover = mover; both = both })

    by : (t u v : Bool) → (is_enabled bodies a && is_enabled bodies b) ≡ t → moves bodies a ≡ u → moves bodies b ≡ v → cond t (movers_if u v a b) None ≡ Some m → IsFirstOf bodies a b m.first
    by false u v d e f k = cc
    by true true true d e f k = at a (Some b) (inl refl) e d k
    by true true false d e f k = at a None (inl refl) e d k
    by true false true d e f k = at b None (inr refl) f d k
    by true false false d e f k = cc

-- ---- bodies that are alike

pub alike_own : (o : Option Body) → IsSleepAlike o o
alike_own o = record { enabled = refl; mover = refl; asleep = λ h. refl }

pub alike_then : (a b c : List (Option Body)) → SleepAlike a b → SleepAlike b c → SleepAlike a c
alike_then a b c h k slot = record {
  enabled = (k slot).enabled ∙ (h slot).enabled;
  mover = (k slot).mover ∙ (h slot).mover;
  asleep = λ on. (k slot).asleep ((h slot).mover ∙ on) ∙ (h slot).asleep on;
}

pub movers_alike : (old new : List (Option Body)) (a b : ℕ) → IsSleepAlike (body_at old a) (body_at new a) → IsSleepAlike (body_at old b) (body_at new b) → movers_with new a b ≡ movers_with old a b
movers_alike old new a b h k = λ i. cond (h.enabled i && k.enabled i) (movers_if (h.mover i) (k.mover i) a b) None

-- what ties two bodies that are alike sleeps as it did
pub tie_alike : (old new : List (Option Body)) (a b : ℕ) → IsSleepAlike (body_at old a) (body_at new a) → IsSleepAlike (body_at old b) (body_at new b) → sleep_with new (movers_with new a b) ≡ sleep_with old (movers_with old a b)
tie_alike old new a b h k = ap (sleep_with new) (movers_alike old new a b h k) ∙ by (movers_with old a b) refl
  where
    here : (m : Movers) → IsFirstOf old a b m.first → asleep_under new m.first ≡ asleep_under old m.first
    here m is = elim is.one [
      | inl e ↦ ap (asleep_under new) e ∙ h.asleep (ap (moves old) (sym e) ∙ is.mover) ∙ ap (asleep_under old) (sym e)
      | inr e ↦ ap (asleep_under new) e ∙ k.asleep (ap (moves old) (sym e) ∙ is.mover) ∙ ap (asleep_under old) (sym e)
    ]

    by : (o : Option Movers) → movers_with old a b ≡ o → sleep_with new o ≡ sleep_with old o
    by None e = refl
    by (Some m) e = here m (first_of old a b m e)

-- ---- one body that was changed

-- what the census tells of a body, and whether it is carried along, tell whether it is enabled, whether it is a mover,
-- and with whom it sleeps
enabled_from : SetName → Bool
enabled_from sets.Static = true
enabled_from sets.Disabled = false
enabled_from sets.Awake = true
enabled_from (sets.Sleeping name) = true

mover_from : Bool → SetName → Bool
mover_from true set = false
mover_from false sets.Static = false
mover_from false sets.Disabled = false
mover_from false sets.Awake = true
mover_from false (sets.Sleeping name) = true

asleep_from : SetName → Option ℕ
asleep_from sets.Static = None
asleep_from sets.Disabled = None
asleep_from sets.Awake = None
asleep_from (sets.Sleeping name) = Some name

enabled_is : (b : Body) → b.enabled ≡ enabled_from (standing_of b)
unfolding enabled_from
enabled_is b = by b.enabled b.kind b.asleep
  where
    by : (e : Bool) (k : Kind) (n : Option ℕ) → e ≡ enabled_from (cond e (set_of k n) sets.Disabled)
    by false k n = refl
    by true Static n = refl
    by true (Kinematic course) n = refl
    by true Dynamic None = refl
    by true Dynamic (Some name) = refl

mover_is : (b : Body) → is_mover b ≡ mover_from (is_carried b) (standing_of b)
unfolding mover_from
mover_is b = by b.enabled b.kind b.asleep
  where
    by : (e : Bool) (k : Kind) (n : Option ℕ) → cond e (is_dynamic k) false ≡ mover_from (cond e (is_kinematic k) false) (cond e (set_of k n) sets.Disabled)
    by false k n = refl
    by true Static n = refl
    by true (Kinematic course) n = refl
    by true Dynamic None = refl
    by true Dynamic (Some name) = refl

asleep_is : (b : Body) → is_mover b ≡ true → b.asleep ≡ asleep_from (standing_of b)
unfolding asleep_from
asleep_is b h = by b.enabled b.kind b.asleep h
  where
    by : (e : Bool) (k : Kind) (n : Option ℕ) → cond e (is_dynamic k) false ≡ true → n ≡ asleep_from (cond e (set_of k n) sets.Disabled)
    by false k n f = cc
    by true Static n f = cc
    by true (Kinematic course) n f = cc
    by true Dynamic None f = refl
    by true Dynamic (Some name) f = refl

alike_by_set : (o p : Option Body) → option_map standing_of p ≡ option_map standing_of o → is_carried_in p ≡ is_carried_in o → IsSleepAlike o p
alike_by_set None None same carried = alike_own None
alike_by_set None (Some b) same carried = cc
alike_by_set (Some a) None same carried = cc
alike_by_set (Some a) (Some b) same carried =
    let set : standing_of b ≡ standing_of a = (let own : Some (standing_of b) ≡ Some (standing_of a) = same in cc) in
    let along : is_carried b ≡ is_carried a = carried in
    let mover : is_mover b ≡ is_mover a = mover_is b ∙ (λ j. mover_from (along j) (set j)) ∙ sym (mover_is a) in
    record {
      enabled = enabled_is b ∙ ap enabled_from set ∙ sym (enabled_is a);
      mover = mover;
      asleep = λ h. asleep_is b (mover ∙ h) ∙ ap asleep_from set ∙ sym (asleep_is a h);
    }

-- a change that leaves a body in its set, carried along or not as it was
pub alike_changed : (bodies now : List (Option Body)) (slot : ℕ) (o : Option Body) → slot < length bodies → now ≡ slice_set bodies slot o → option_map standing_of (body_at now slot) ≡ option_map standing_of (body_at bodies slot) → is_carried_in (body_at now slot) ≡ is_carried_in (body_at bodies slot)
    → SleepAlike bodies now
alike_changed bodies now slot o there e same carried k = elim (cases_eq k slot) [
  | inl is ↦ subst (λ (j : ℕ). IsSleepAlike (body_at bodies j) (body_at now j)) (sym is) (alike_by_set (body_at bodies slot) (body_at now slot) same carried)
  | inr apart ↦ subst (λ (p : Option Body). IsSleepAlike (body_at bodies k) p) (sym (ap (λ (l : List (Option Body)). body_at l k) e ∙ item_at-other bodies slot o k apart)) (alike_own (body_at bodies k))
]

-- ---- all bodies

-- one that is enabled or not and a mover or none as it was, and sleeps as it did
record IsLike (a b : Body) : Type 0 where
  enabled : b.enabled ≡ a.enabled
  mover : is_mover b ≡ is_mover a
  asleep : b.asleep ≡ a.asleep

like_own : (b : Body) → IsLike b b
like_own b = record { enabled = refl; mover = refl; asleep = refl }

mapped_alike : (f : Body → Body) → ((b : Body) → IsLike b (f b)) → (o : Option Body) → IsSleepAlike o (option_map f o)
mapped_alike f like None = alike_own None
mapped_alike f like (Some b) = record { enabled = (like b).enabled; mover = (like b).mover; asleep = λ h. (like b).asleep }

all_mapped : (f : Body → Body) → ((b : Body) → IsLike b (f b)) → (bodies : List (Option Body)) → SleepAlike bodies (map (option_map f) bodies)
all_mapped f like [] slot = alike_own None
all_mapped f like (o ∷ os) zero = mapped_alike f like o
all_mapped f like (o ∷ os) (suc slot) = all_mapped f like os slot

timed_like : (ticks : ℕ) (b : Body) → IsLike b (timed ticks b)
timed_like ticks b = by (is_awake b) (cond (is_slow b.mass b.motion) (b.timer + ticks) 0)
  where
    by : (t : Bool) (n : ℕ) → IsLike b (cond t (record b { timer = n }) b)
    by true n = record { enabled = refl; mover = refl; asleep = refl }
    by false n = like_own b

pub alike_timed : (ticks : ℕ) (bodies : List (Option Body)) → SleepAlike bodies (timed_bodies ticks bodies)
alike_timed ticks bodies = all_mapped (timed ticks) (timed_like ticks) bodies

-- a kinematic body has another course, and is no mover
carried_mover : (e : Bool) (k l : Kind) → cond e (is_kinematic k) false ≡ true → is_kinematic l ≡ true → cond e (is_dynamic l) false ≡ cond e (is_dynamic k) false
carried_mover true (Kinematic c) (Kinematic d) h i = refl
carried_mover true (Kinematic c) Static h i = cc
carried_mover true (Kinematic c) Dynamic h i = cc
carried_mover true Static l h i = cc
carried_mover true Dynamic l h i = cc
carried_mover false k l h i = cc

motion_like : (s : BodyState) (b : Body) → IsLike b (with_motion s b)
motion_like s b = by (is_awake b) (is_carried b) refl
  where
    by : (m c : Bool) → is_carried b ≡ c → IsLike b (cond m (record b { motion = s.motion }) (cond c (carried_to s.motion b) b))
    by true c e = record { enabled = refl; mover = refl; asleep = refl }
    by false true e = record { enabled = refl; mover = carried_mover b.enabled b.kind (carried_to s.motion b).kind e refl; asleep = refl }
    by false false e = like_own b

all_moved : (bodies : List (Option Body)) (states : List BodyState) → SleepAlike bodies (with_motions bodies states)
all_moved [] states slot = alike_own None
all_moved (o ∷ os) [] slot = alike_own (body_at (o ∷ os) slot)
all_moved (o ∷ os) (s ∷ ss) zero = mapped_alike (with_motion s) (motion_like s) o
all_moved (o ∷ os) (s ∷ ss) (suc slot) = all_moved os ss slot

renewed_like : (b : Body) → IsLike b (with_renewed b)
renewed_like b = by (can_move b)
  where
    by : (t : Bool) → IsLike b (cond t (record b { fats = renewed_boxes (pose_of b) b.shapes b.fats }) b)
    by true = record { enabled = refl; mover = refl; asleep = refl }
    by false = like_own b

pub alike_moved : (bodies : List (Option Body)) (states : List BodyState) → SleepAlike bodies (renewed_bodies (with_motions bodies states))
alike_moved bodies states = alike_then bodies (with_motions bodies states) (renewed_bodies (with_motions bodies states)) (all_moved bodies states) (all_mapped with_renewed renewed_like (with_motions bodies states))

-- ---- bodies that are told

told_from_at : (labels : Labels) (n k : ℕ) (bodies : List (Option Body)) (slot : ℕ) → k ≡ n + slot → body_at (told_from n labels bodies) slot ≡ option_map (told_body (label_at labels k)) (body_at bodies slot)
told_from_at labels n k [] slot e = refl
told_from_at labels n k (o ∷ os) zero e = let same : n ≡ k = omega (arith, e) in ap (λ (m : ℕ). option_map (told_body (label_at labels m)) o) same
told_from_at labels n k (o ∷ os) (suc slot) e = told_from_at labels (suc n) k os slot (omega (arith, e))

pub told_at : (labels : Labels) (bodies : List (Option Body)) (slot : ℕ) → body_at (told labels bodies) slot ≡ option_map (told_body (label_at labels slot)) (body_at bodies slot)
unfolding told
told_at labels bodies slot = told_from_at labels 0 slot bodies slot (omega arith)

-- enabled or not as it was, and a mover or none
record IsPart (o p : Option Body) : Type 0 where
  enabled : is_enabled_in p ≡ is_enabled_in o
  mover : is_mover_in p ≡ is_mover_in o

told_part : (label : Option Label) (o : Option Body) → IsPart o (option_map (told_body label) o)
told_part label None = record { enabled = refl; mover = refl }
told_part label (Some b) = by (is_mover b) (sleeping_name label)
  where
    up : (t : Bool) → IsPart (Some b) (Some (cond t (roused b) b))
    up true = record { enabled = refl; mover = refl }
    up false = record { enabled = refl; mover = refl }

    by : (t : Bool) (n : Option ℕ) → IsPart (Some b) (Some (cond t (told_by n b) b))
    by false n = record { enabled = refl; mover = refl }
    by true (Some name) = record { enabled = refl; mover = refl }
    by true None = up (is_some b.asleep)

-- a mover sleeps as it is told
told_by_asleep : (n : Option ℕ) (b : Body) → (told_by n b).asleep ≡ n
told_by_asleep (Some name) b = refl
told_by_asleep None b = by b.asleep refl
  where
    by : (o : Option ℕ) → b.asleep ≡ o → (cond (is_some b.asleep) (roused b) b).asleep ≡ None
    by None e = ap (λ (a : Option ℕ). (cond (is_some a) (roused b) b).asleep) e ∙ e
    by (Some name) e = ap (λ (a : Option ℕ). (cond (is_some a) (roused b) b).asleep) e

pub told_asleep : (label : Option Label) (o : Option Body) → is_mover_in o ≡ true → asleep_in (option_map (told_body label) o) ≡ sleeping_name label
told_asleep label None h = cc
told_asleep label (Some b) h = ap (λ (t : Bool). (cond t (told_by (sleeping_name label) b) b).asleep) h ∙ told_by_asleep (sleeping_name label) b

pub told_under : (labels : Labels) (bodies : List (Option Body)) (slot : ℕ) → moves bodies slot ≡ true → asleep_under (told labels bodies) slot ≡ sleeping_name (label_at labels slot)
told_under labels bodies slot h = ap asleep_in (told_at labels bodies slot) ∙ told_asleep (label_at labels slot) (body_at bodies slot) h

told_part_at : (labels : Labels) (bodies : List (Option Body)) (slot : ℕ) → IsPart (body_at bodies slot) (body_at (told labels bodies) slot)
told_part_at labels bodies slot = subst (IsPart (body_at bodies slot)) (sym (told_at labels bodies slot)) (told_part (label_at labels slot) (body_at bodies slot))

pub told_enabled : (labels : Labels) (bodies : List (Option Body)) (slot : ℕ) → is_enabled (told labels bodies) slot ≡ is_enabled bodies slot
told_enabled labels bodies slot = (told_part_at labels bodies slot).enabled

pub told_moves : (labels : Labels) (bodies : List (Option Body)) (slot : ℕ) → moves (told labels bodies) slot ≡ moves bodies slot
told_moves labels bodies slot = (told_part_at labels bodies slot).mover

pub told_movers : (labels : Labels) (bodies : List (Option Body)) (a b : ℕ) → movers_with (told labels bodies) a b ≡ movers_with bodies a b
told_movers labels bodies a b = λ i. cond (told_enabled labels bodies a i && told_enabled labels bodies b i) (movers_if (told_moves labels bodies a i) (told_moves labels bodies b i) a b) None

-- those that aren't told sleep as they did
pub told_beside : (labels : Labels) (bodies : List (Option Body)) (slots : List ℕ) → AreToldBeside slots labels bodies → (slot : ℕ) → (Contains slots slot → ⊥) → IsSleepAlike (body_at bodies slot) (body_at (told labels bodies) slot)
told_beside labels bodies slots others slot off = subst (IsSleepAlike (body_at bodies slot)) (sym (told_at labels bodies slot ∙ others slot off)) (alike_own (body_at bodies slot))

-- ---- items that follow

-- items with these movers can follow, where labels keep the sets
pub can_follow_told : (labels : Labels) (bodies : List (Option Body)) (ties : ℕ → Option Movers) (old now : ℕ → Option ℕ) (items names : ℕ) → ((id : ℕ) (m : Movers) → ties id ≡ Some m → moves bodies m.first ≡ true) → ((id : ℕ) (m : Movers) → ties id ≡ Some m → id < items)
    → ((id : ℕ) → old id ≡ sleep_with bodies (ties id)) → ((id : ℕ) → now id ≡ sleep_with (told labels bodies) (ties id)) → length bodies ≤ names → KeepSets labels bodies → CanFollow old now items names
can_follow_told labels bodies ties old now items names mover below was is room keep = record {
  keeps = λ id name h. keeps id (ties id) refl name (sym (was id) ∙ h);
  whole = λ id other name h k. whole id (ties id) refl name (sym (was id) ∙ h) (labelled other (ties other) refl name (sym (is other) ∙ k));
  named = λ id name h. let at = labelled id (ties id) refl name (sym (is id) ∙ h) in let less = keep.named at.0 name (mover_below bodies at.0 at.2) at.1 in omega (arith, less, room);
  below = λ id name h. there id (ties id) refl name (sym (is id) ∙ h);
}
  where
    told_now : (id : ℕ) (m : Movers) → ties id ≡ Some m → asleep_under (told labels bodies) m.first ≡ sleeping_name (label_at labels m.first)
    told_now id m e = told_under labels bodies m.first (mover id m e)

    keeps : (id : ℕ) (o : Option Movers) → ties id ≡ o → (name : ℕ) → sleep_with bodies o ≡ Some name → (now id ≡ Some name) ⊎ (now id ≡ None)
    keeps id None e name h = cc
    keeps id (Some m) e name h =
        let here : now id ≡ sleeping_name (label_at labels m.first) = is id ∙ ap (sleep_with (told labels bodies)) e ∙ told_now id m e in
        elim (keep.together.keeps m.first name h) [ inl on ↦ inl (here ∙ on) | inr up ↦ inr (here ∙ up) ]

    labelled : (id : ℕ) (o : Option Movers) → ties id ≡ o → (name : ℕ) → sleep_with (told labels bodies) o ≡ Some name → (slot : ℕ) × (sleeping_name (label_at labels slot) ≡ Some name) × (moves bodies slot ≡ true)
    labelled id None e name h = cc
    labelled id (Some m) e name h = (m.first, sym (told_now id m e) ∙ h, mover id m e)

    whole : (id : ℕ) (o : Option Movers) → ties id ≡ o → (name : ℕ) → sleep_with bodies o ≡ Some name → (slot : ℕ) × (sleeping_name (label_at labels slot) ≡ Some name) × (moves bodies slot ≡ true) → now id ≡ Some name
    whole id None e name h at = cc
    whole id (Some m) e name h at = is id ∙ ap (sleep_with (told labels bodies)) e ∙ told_now id m e ∙ keep.together.whole m.first at.0 name h at.1

    there : (id : ℕ) (o : Option Movers) → ties id ≡ o → (name : ℕ) → sleep_with (told labels bodies) o ≡ Some name → id < items
    there id None e name h = cc
    there id (Some m) e name h = below id m e

-- ---- slots

pub with_item_here : {X : Type 0} (items : List (Option X)) (slot : ℕ) (x : X) → slot ≤ length items → item_at (with_item items slot x) slot ≡ Some x
with_item_here {X = X} items slot x le = by_test (λ (l : List (Option X)). item_at l slot ≡ Some x) (nat_lt slot (length items)) (slice_set items slot (Some x)) (items ++ Some x ∷ [])
    (λ q. item_at-same items slot (Some x) (ltb-true slot (length items) q))
    (λ q. item_at-end items slot (Some x) (let past : length items ≤ slot = ltb-false slot (length items) q in omega (arith, past, le)))

pub with_item_other : {X : Type 0} (items : List (Option X)) (slot : ℕ) (x : X) (k : ℕ) → slot ≤ length items → k ≢ slot → item_at (with_item items slot x) k ≡ item_at items k
with_item_other {X = X} items slot x k le ne = by_test (λ (l : List (Option X)). item_at l k ≡ item_at items k) (nat_lt slot (length items)) (slice_set items slot (Some x)) (items ++ Some x ∷ [])
    (λ q. item_at-other items slot (Some x) k ne)
    (λ q. item_at-before items k (Some x) (λ e. ne (e ∙ (let past : length items ≤ slot = ltb-false slot (length items) q in omega (arith, past, le)))))

-- a body changed in its slot leaves as many slots
pub same_long : (old new : List (Option Body)) (slot : ℕ) (o : Option Body) → new ≡ slice_set old slot o → length new ≤ length old
same_long old new slot o e = let same = ap length e ∙ length-set old slot o in omega (arith, same)
