-- A step in which nobody falls asleep tells no body anything by its sleep phase.
use Rattle.std.proofs.Common.{◌≡◌, ◌≢◌, ℕ, zero, suc, ◌+◌, ◌<◌, ◌≤◌, ◌&&◌, Bool, true, false, not, cond, is_some, All, List, [], ◌∷◌, length, Option, Some, None, inl, inr, refl, sym, ap, ◌∙◌, subst, arith}
use Rattle.std.specs.Prelude.{◌==◌, Contains, nat_lt, slice_get, slice_set, fold}
use Rattle.std.specs.List.{AllWithin}
use Rattle.std.specs.Option.{is_none, option_map_or}
use Rattle.std.proofs.lemmas.Bool.{cases_eq, eq-eqb, false≢true, lt-leb}
use Rattle.std.proofs.lemmas.Grind.{common_steps}
use Rattle.std.proofs.lemmas.List.Elements.{All-contains, All-from_all_within}
use Rattle.body_handles.specs.declared.slot_table.SlotEntry.{SlotEntry}
use Rattle.colour_solver.specs.States.{places_from}
use Rattle.plain_world.specs.Constraints.{constraint_number}
use Rattle.plain_world.specs.declared.constraint.Constraint.{Constraint}
use Rattle.contacts_base.specs.declared.contact.ContactEntry.{ContactEntry}
use Rattle.fixed_geom.specs.Options.{unbeaten}
use Rattle.islands.specs.declared.label.IslandState.{IslandState}
use Rattle.islands.specs.declared.label.IslandState.TheVariants.{Whole, Loose, Asleep}
use Rattle.islands.specs.declared.label.Label.{Label}
use Rattle.islands.specs.Labels.{Labels, is_asleep, is_in, is_loose, label_at, sleeping_name}
use Rattle.islands.proofs.JoinLemmas.{contains_head, contains_tail}
use Rattle.plain_world.specs.declared.body.Body.{Body}
use Rattle.plain_world.specs.declared.joint.BodyJoint.{BodyJoint}
use Rattle.plain_world.specs.Bodies.{AreBodies, is_awake, is_mover, is_mover_in}
use Rattle.plain_world.specs.Changes.{is_awake_in}
use Rattle.plain_world.specs.Sleep.{timed_bodies, told}
use Rattle.plain_world.specs.Slots.{body_at}
use Rattle.sleep_wake.specs.Acting.{Acting, awake_label}
use Rattle.sleep_wake.specs.Acting as acting
use Rattle.sleep_wake.specs.SleepPhase.{is_time_to_sleep, is_island, is_less, is_ready, least_timer, lesser, picked_to_split, ready, ready_from, ready_put_to_rest, sleep_phase, split_picked, ticks_to_sleep}
use Rattle.sleep_wake.specs.Resting.{may_be_ready}
use Rattle.sleep_wake.specs.Sleeping.{rested_at, slept_at, split_if_loose}
use Rattle.sleep_wake.proofs.AwakeLemmas.{and_is}
use Rattle.sleep_wake.specs.Waking.{put_to_rest}
use Rattle.solver_sets.specs.Beside.{is_beside_moving, timer_if, timers_from, timers_of}
use Rattle.solver_sets.specs.Slept.{handles_where, sleeps}
use Rattle.solver_sets.specs.SinceTold.{is_asleep_in, newly_asleep, was_asleep}
use Rattle.solver_sets.specs.Tied.{AreTied}
use Rattle.world_rules.specs.Apply.{rested_acting}
use Rattle.world_rules.specs.Sound.{AreTold}
use Rattle.world_rules.proofs.ActingLaws.{awake_name}
use Rattle.world_rules.proofs.ChangeLemmas.{tied_alike}
use Rattle.world_rules.proofs.SlotLemmas.{body_at-in}
use Rattle.world_rules.proofs.TickedLaws.{timed_alike, timed_are_bodies, timed_told}
use Rattle.world_rules.proofs.ToldLaws.{told_stays}
use Rattle.world_core.specs.Quiet.{AreBusy, AreCleared, AreKeptUp, HasFlagged, IsShort, ShortTimersAgree, is_flagged_in, is_open_by, is_short_in, flagged_by}

-- ---- who is newly asleep

none_where : (test : ℕ → Bool) (n : ℕ) (slot_entries : List SlotEntry) → ((s : ℕ) → test s ≡ false) → handles_where test n slot_entries ≡ []
none_where test n [] h = refl
none_where test n (p ∷ slot_entries) h =
    ap (λ (t : Bool). cond t (record { slot = n; generation = p.generation } ∷ handles_where test (suc n) slot_entries) (handles_where test (suc n) slot_entries)) (h n) ∙ none_where test (suc n) slot_entries h

name_tells : (o : Option Label) → is_some (sleeping_name o) ≡ option_map_or (λ (label : Label). is_asleep label.state) o false
name_tells None = refl
name_tells (Some l) = by_state (is_asleep l.state)
  where
    by_state : (t : Bool) → is_some (cond t (Some l.name) None) ≡ t
    by_state true = refl
    by_state false = refl

not_both : (t : Bool) → (t && not t) ≡ false
not_both true = refl
not_both false = refl

-- a body that sleeps just as its label tells hasn't fallen asleep
asleep_not : (o : Option Body) (l : Option Label) → is_some l ≡ is_mover_in o → ((b : Body) → o ≡ Some b → b.asleep ≡ sleeping_name l) → (option_map_or (λ (label : Label). is_asleep label.state) l false && not (is_asleep_in o)) ≡ false
asleep_not None None tied h = refl
asleep_not None (Some l) tied h = cc
asleep_not (Some b) l tied h = ap (λ (t : Bool). option_map_or (λ (label : Label). is_asleep label.state) l false && not t) (ap (λ (a : Option ℕ). is_some a) (h b refl) ∙ name_tells l) ∙ not_both (option_map_or (λ (label : Label). is_asleep label.state) l false)

-- ---- timers

pub timers_at : (beside : ℕ → Bool) (n k m : ℕ) (bodies : List (Option Body)) (b : Body) → m ≡ n + k → body_at bodies k ≡ Some b → slice_get (timers_from beside n bodies) k ≡ Some (timer_if (beside m) (Some b))
timers_at beside n k m [] b e at = cc
timers_at beside n zero m (o ∷ bodies) b e at =
    let here : n ≡ m = omega (arith, e) in
    let is : o ≡ Some b = at in
    λ j. Some (timer_if (beside (here j)) (is j))
timers_at beside n (suc k) m (o ∷ bodies) b e at = timers_at beside (suc n) k m bodies b (omega (arith, e)) at

timer_short : (t : Bool) (b : Body) → b.timer < ticks_to_sleep → may_be_ready (Some (timer_if t (Some b))) ≡ false
timer_short true b h = refl
timer_short false b h = lt-leb ticks_to_sleep b.timer h

loose_up : (state : IslandState) → is_loose state ≡ true → not (is_asleep state) ≡ true
loose_up Whole e = cc
loose_up Loose e = refl
loose_up Asleep e = cc

island_up : (loose : Bool) (slot : ℕ) (o : Option Label) → is_island loose slot o ≡ true → awake_label o ≡ true
island_up true slot None e = cc
island_up false slot None e = cc
island_up true slot (Some l) e = loose_up l.state (and_is (l.name == slot) (is_loose l.state) e).1
island_up false slot (Some l) e = (and_is (not (is_loose l.state)) (not (is_asleep l.state)) (and_is (l.name == slot) (not (is_loose l.state) && not (is_asleep l.state)) e).1).1

label_there : (o : Option Label) → awake_label o ≡ true → is_some o ≡ true
label_there None e = cc
label_there (Some l) e = refl

pub mover_there : (o : Option Body) → is_mover_in o ≡ true → (b : Body) × (o ≡ Some b) × (is_mover b ≡ true)
mover_there None e = cc
mover_there (Some b) e = (b, refl, e)

awake_if : (m : Bool) (a : Option ℕ) → m ≡ true → a ≡ None → cond m (is_none a) false ≡ true
awake_if true None e f = refl
awake_if true (Some name) e f = cc
awake_if false a e f = cc

-- the mover with a label that is awake
pub record IsUpAt (bodies : List (Option Body)) (slot : ℕ) : Type 0 where
  pub body : Body
  pub there : body_at bodies slot ≡ Some body
  pub up : is_awake body ≡ true

pub up_at : (labels : Labels) (bodies : List (Option Body)) (slot : ℕ) → AreTied bodies labels → AreTold bodies labels → awake_label (label_at labels slot) ≡ true → IsUpAt bodies slot
up_at labels bodies slot tied are up =
    let there = mover_there (body_at bodies slot) (sym (tied slot) ∙ label_there (label_at labels slot) up) in
    record { body = there.0; there = there.1; up = awake_if (is_mover there.0) there.0.asleep there.2 (are slot there.0 there.1 ∙ awake_name (label_at labels slot) up) }

-- one whose own timer is short
own_short : (bodies : List (Option Body)) (joints : List (Option BodyJoint)) (contacts : List ContactEntry) (slot : ℕ) (b : Body) → body_at bodies slot ≡ Some b → b.timer < ticks_to_sleep → IsShort (timers_of bodies joints contacts) slot
unfolding timers_of
own_short bodies joints contacts slot b at short =
    ap may_be_ready (timers_at (is_beside_moving bodies joints contacts) 0 slot slot bodies b (omega arith) at) ∙ timer_short (is_beside_moving bodies joints contacts slot) b short

-- where no timer is long, each island's first mover keeps it from being ready
pub busy_keeps_up : (labels : Labels) (bodies : List (Option Body)) (joints : List (Option BodyJoint)) (contacts : List ContactEntry) → AreTied bodies labels → AreTold bodies labels → AreBusy bodies → AreKeptUp labels (timers_of bodies joints contacts)
busy_keeps_up labels bodies joints contacts tied are busy name up own =
    let it : IsUpAt bodies name = up_at labels bodies name tied are up in
    (name, own, own_short bodies joints contacts name it.body it.there (busy name it.body it.there it.up))

-- the least of an island's timers is at most that of each of its movers
abbrev IsAtMost : Option ℕ → Option ℕ → Type 0
IsAtMost o None = Unit {0}
IsAtMost None (Some t) = ⊥
IsAtMost (Some m) (Some t) = m ≤ t

lesser_first : (u : ℕ) (o : Option ℕ) → lesser u o ≤ u
lesser_first u None = omega arith
lesser_first u (Some v) = omega arith

lesser_rest : (u : ℕ) (o g : Option ℕ) → IsAtMost o g → IsAtMost (Some (lesser u o)) g
lesser_rest u o None h = tt
lesser_rest u None (Some t) h = absurd h
lesser_rest u (Some r) (Some t) h = omega (arith, h)

at_first : (t : Bool) (u : ℕ) (rest : Option ℕ) → t ≡ true → IsAtMost (cond t (Some (lesser u rest)) rest) (Some u)
at_first true u rest e = lesser_first u rest
at_first false u rest e = cc

at_rest : (t : Bool) (u : ℕ) (rest g : Option ℕ) → IsAtMost rest g → IsAtMost (cond t (Some (lesser u rest)) rest) g
at_rest true u rest g h = lesser_rest u rest g h
at_rest false u rest g h = h

least_below : (name : ℕ) (labels : Labels) (timers : List ℕ) (slot : ℕ) → is_in (label_at labels slot) name ≡ true → IsAtMost (least_timer name labels timers) (slice_get timers slot)
least_below name [] timers slot e = cc
least_below name (o ∷ labels) [] slot e = tt
least_below name (o ∷ labels) (t ∷ timers) zero e = at_first (is_in o name) t (least_timer name labels timers) e
least_below name (o ∷ labels) (t ∷ timers) (suc slot) e = at_rest (is_in o name) t (least_timer name labels timers) (slice_get timers slot) (least_below name labels timers slot e)

not_due : (o g : Option ℕ) → IsAtMost o g → may_be_ready g ≡ false → is_time_to_sleep o ≡ false
not_due None g h e = refl
not_due (Some m) None h e = cc
not_due (Some m) (Some t) h e = grind (arith, common_steps)

-- the name of an island is the slot of one of its movers
named_in : (loose : Bool) (slot : ℕ) (o : Option Label) → is_island loose slot o ≡ true → is_in o slot ≡ true
named_in true slot None e = cc
named_in false slot None e = cc
named_in true slot (Some l) e = (and_is (l.name == slot) (is_loose l.state) e).0
named_in false slot (Some l) e = (and_is (l.name == slot) (not (is_loose l.state) && not (is_asleep l.state)) e).0

not_ready : (loose : Bool) (labels : Labels) (timers : List ℕ) (slot : ℕ) → AreKeptUp labels timers → is_ready loose labels timers slot (label_at labels slot) ≡ false
not_ready loose labels timers slot up = by (is_island loose slot (label_at labels slot)) refl
  where
    never : (t : Bool) → (t && false) ≡ false
    never true = refl
    never false = refl

    by : (t : Bool) → is_island loose slot (label_at labels slot) ≡ t → is_ready loose labels timers slot (label_at labels slot) ≡ false
    by false e = ap (λ (t : Bool). t && is_time_to_sleep (least_timer slot labels timers)) e
    by true e =
        let keeps = up slot (island_up loose slot (label_at labels slot) e) (named_in loose slot (label_at labels slot) e) in
        let short : is_time_to_sleep (least_timer slot labels timers) ≡ false = not_due (least_timer slot labels timers) (slice_get timers keeps.0) (least_below slot labels timers keeps.0 keeps.1) keeps.2 in
        ap (λ (t : Bool). is_island loose slot (label_at labels slot) && t) short ∙ never (is_island loose slot (label_at labels slot))

none_from : (loose : Bool) (labels : Labels) (timers : List ℕ) (n : ℕ) (rest : Labels) → ((k m : ℕ) → m ≡ n + k → is_ready loose labels timers m (label_at rest k) ≡ false) → ready_from loose labels timers n rest ≡ []
none_from loose labels timers n [] h = refl
none_from loose labels timers n (o ∷ rest) h =
    let first : is_ready loose labels timers n o ≡ false = h zero n (omega arith) in
    ap (λ (t : Bool). cond t (n ∷ ready_from loose labels timers (suc n) rest) (ready_from loose labels timers (suc n) rest)) first
    ∙ none_from loose labels timers (suc n) rest (λ k m e. h (suc k) m (omega (arith, e)))

none_ready : (loose : Bool) (labels : Labels) (timers : List ℕ) → AreKeptUp labels timers → ready loose labels timers ≡ []
none_ready loose labels timers up =
    none_from loose labels timers 0 labels (λ k m e. let same : m ≡ k = omega (arith, e) in subst (λ (n : ℕ). is_ready loose labels timers m (label_at labels n) ≡ false) same (not_ready loose labels timers m up))

quiet_phase : (s : Acting Constraint) (timers : List ℕ) → ready true s.labels timers ≡ [] → ready false s.labels timers ≡ [] → sleep_phase constraint_number timers s ≡ s
quiet_phase s timers loose whole =
    let none : picked_to_split s.labels timers ≡ None = ap (unbeaten (λ a b. is_less (least_timer b s.labels timers) (least_timer a s.labels timers))) loose in
    ap (λ (o : Option ℕ). ready_put_to_rest constraint_number timers (split_picked o s)) none ∙ ap (λ (names : List ℕ). fold (λ now name. put_to_rest constraint_number name now) s names) whole

-- ---- the awake movers, by their slots

place_if : {X : Type 0} (is : X → Bool) (t : Bool) (xs : List X) (n m : ℕ) → Contains (places_from is (suc n) xs) m → Contains (cond t (n ∷ places_from is (suc n) xs) (places_from is (suc n) xs)) m
place_if is true xs n m h = contains_tail n (places_from is (suc n) xs) m h
place_if is false xs n m h = h

-- whoever passes the test is listed
pub place_there : {X : Type 0} (is : X → Bool) (xs : List X) (n slot m : ℕ) (x : X) → m ≡ n + slot → slice_get xs slot ≡ Some x → is x ≡ true → Contains (places_from is n xs) m
place_there is [] n slot m x e at on = cc
place_there is (y ∷ ys) n zero m x e at on =
    let same : y ≡ x = cc at in
    let here : n ≡ m = omega (arith, e) in
    let rest : List ℕ = places_from is (suc n) ys in
    subst (λ (t : Bool). Contains (cond t (n ∷ rest) rest) m) (sym (ap is same ∙ on)) (subst (λ (v : ℕ). Contains (v ∷ rest) m) (sym here) (contains_head m rest))
place_there is (y ∷ ys) n (suc slot) m x e at on = place_if is (is y) ys n m (place_there is ys (suc n) slot m x (omega (arith, e)) at on)

pub busy_all : (bodies : List (Option Body)) (awake : List ℕ) (k : ℕ) → awake ≡ places_from is_awake_in 0 bodies → length awake ≤ k → AllWithin (λ slot. is_short_in (body_at bodies slot) ≡ true) awake 0 k → AreBusy bodies
busy_all bodies awake k e done all slot b at up =
    let listed : Contains awake slot = subst (λ (l : List ℕ). Contains l slot) (sym e) (place_there is_awake_in bodies 0 slot slot (Some b) (omega arith) (body_at-in bodies slot b at) up) in
    let each : All (λ (s : ℕ). is_short_in (body_at bodies s) ≡ true) awake = λ j d lt. all j d (omega arith) (omega (arith, done, lt)) in
    let short : nat_lt b.timer ticks_to_sleep ≡ true = sym (ap is_short_in at) ∙ All-contains (λ (s : ℕ). is_short_in (body_at bodies s) ≡ true) awake slot each listed in
    grind (arith, common_steps)

-- ---- islands that are flagged

pub short_timers_agree : (bodies : List (Option Body)) (joints : List (Option BodyJoint)) (contacts : List ContactEntry) → ShortTimersAgree bodies (timers_of bodies joints contacts)
short_timers_agree bodies joints contacts slot b at short = own_short bodies joints contacts slot b at short

pub flagged_first : (names : List ℕ) (labels : Labels) (timers : List ℕ) (flags : List Bool) → AreCleared names flags → HasFlagged names labels timers flags
flagged_first names labels timers flags none name listed h = absurd (false≢true (sym (none name listed) ∙ h))

other_set : (flags : List Bool) (slot name : ℕ) → name ≢ slot → slice_get (slice_set flags slot true) name ≡ slice_get flags name
other_set [] slot name off = refl
other_set (t ∷ flags) zero zero off = absurd (off refl)
other_set (t ∷ flags) zero (suc name) off = refl
other_set (t ∷ flags) (suc slot) zero off = refl
other_set (t ∷ flags) (suc slot) (suc name) off = other_set flags slot name (λ e. off (ap suc e))

pub flags_keep : (names : List ℕ) (labels : Labels) (timers : List ℕ) (flags : List Bool) (slot : ℕ) (o : Option Label) → label_at labels slot ≡ o → IsShort timers slot → HasFlagged names labels timers flags → HasFlagged names labels timers (flagged_by o flags)
flags_keep names labels timers flags slot None e short has name listed h = has name listed h
flags_keep names labels timers flags slot (Some l) e short has name listed h = elim (cases_eq name l.name) [
  | inl same ↦ (slot, ap (λ (o : Option Label). is_in o name) e ∙ eq-eqb l.name name (sym same), short)
  | inr off ↦ has name listed (ap is_flagged_in (sym (other_set flags l.name name off)) ∙ h)
]

flagged_by_test : (t : Bool) (names : List ℕ) (labels : Labels) (timers : List ℕ) (flags : List Bool) (slot : ℕ) → (t ≡ true → IsShort timers slot) → HasFlagged names labels timers flags → HasFlagged names labels timers (cond t (flagged_by (label_at labels slot) flags) flags)
flagged_by_test true names labels timers flags slot short has = flags_keep names labels timers flags slot (label_at labels slot) refl (short refl) has
flagged_by_test false names labels timers flags slot short has = has

short_in : (o : Option Body) → is_short_in o ≡ true → (b : Body) × (o ≡ Some b) × (b.timer < ticks_to_sleep)
short_in None h = cc
short_in (Some b) h = (b, refl, grind (arith, common_steps))

pub flagged_more : (names : List ℕ) (labels : Labels) (timers : List ℕ) (bodies : List (Option Body)) (flags new : List Bool) (slot : ℕ) → ShortTimersAgree bodies timers → HasFlagged names labels timers flags
    → new ≡ cond (is_short_in (body_at bodies slot)) (flagged_by (label_at labels slot) flags) flags → HasFlagged names labels timers new
flagged_more names labels timers bodies flags new slot tell has e =
    subst (HasFlagged names labels timers) (sym e) (flagged_by_test (is_short_in (body_at bodies slot)) names labels timers flags slot (λ h. let it = short_in (body_at bodies slot) h in tell slot it.0 it.1 it.2) has)

not_open : (o : Option Label) (slot : ℕ) (flagged : Bool) → awake_label o ≡ true → is_in o slot ≡ true → is_open_by o slot flagged ≡ false → flagged ≡ true
not_open None slot flagged up own h = cc
not_open (Some l) slot true up own h = refl
not_open (Some l) slot false up own h = let open_now : (l.name == slot) ≡ false = sym (with_true (l.name == slot)) ∙ h in cc
  where
    with_true : (t : Bool) → (t && true) ≡ t
    with_true true = refl
    with_true false = refl

-- where each awake island is flagged, each has a mover that keeps it from being ready
pub flagged_keep_up : (labels : Labels) (bodies : List (Option Body)) (awake : List ℕ) (timers : List ℕ) (flags : List Bool) → awake ≡ places_from is_awake_in 0 bodies → AreTied bodies labels → AreTold bodies labels → HasFlagged awake labels timers flags
    → AllWithin (λ slot. is_open_by (label_at labels slot) slot (is_flagged_in (slice_get flags slot)) ≡ false) awake 0 (length awake) → AreKeptUp labels timers
flagged_keep_up labels bodies awake timers flags e tied are has all name up own =
    let it : IsUpAt bodies name = up_at labels bodies name tied are up in
    let listed : Contains awake name = subst (λ (l : List ℕ). Contains l name) (sym e) (place_there is_awake_in bodies 0 name name (Some it.body) (omega arith) (body_at-in bodies name it.body it.there) it.up) in
    let P : ℕ → Type 0 = λ slot. is_open_by (label_at labels slot) slot (is_flagged_in (slice_get flags slot)) ≡ false in
    let shut : P name = All-contains P awake name (All-from_all_within P awake all) listed in
    has name listed (not_open (label_at labels name) name (is_flagged_in (slice_get flags name)) up own shut)

-- ---- a sleep phase in which no island is ready

pub tied_timed : (ticks : ℕ) (os : List (Option Body)) (labels : Labels) → AreTied os labels → AreTied (timed_bodies ticks os) labels
tied_timed ticks os labels tied = tied_alike os (timed_bodies ticks os) labels (timed_alike ticks os) tied

-- what it leaves: all as it is, and nobody is newly asleep
pub record RestsQuietly (ticks : ℕ) (os : List (Option Body)) (slot_entries : List SlotEntry) (joints : List (Option BodyJoint)) (contacts : List ContactEntry) (s : Acting Constraint) : Type 0 where
  pub acting : s ≡ rested_acting (timed_bodies ticks os) joints contacts s
  pub bodies : timed_bodies ticks os ≡ told s.labels (timed_bodies ticks os)
  pub slept : [] ≡ newly_asleep slot_entries (timed_bodies ticks os) s.labels

pub rests_quietly : (ticks : ℕ) (os : List (Option Body)) (slot_entries : List SlotEntry) (joints : List (Option BodyJoint)) (contacts : List ContactEntry) (s : Acting Constraint) → AreBodies os → AreTied os s.labels → AreTold os s.labels
    → AreKeptUp s.labels (timers_of (timed_bodies ticks os) joints contacts) → RestsQuietly ticks os slot_entries joints contacts s
unfolding newly_asleep
rests_quietly ticks os slot_entries joints contacts s all tied are up =
    let bodies : List (Option Body) = timed_bodies ticks os in
    let tied_now : AreTied bodies s.labels = tied_timed ticks os s.labels tied in
    let told_now : AreTold bodies s.labels = timed_told ticks os s.labels are in
    record {
      acting = sym (quiet_phase s (timers_of bodies joints contacts) (none_ready true s.labels (timers_of bodies joints contacts) up) (none_ready false s.labels (timers_of bodies joints contacts) up));
      bodies = sym (told_stays s.labels bodies (timed_are_bodies ticks os all) told_now);
      slept = sym (none_where (λ slot. sleeps s.labels slot && not (was_asleep bodies slot)) 0 slot_entries (λ slot. asleep_not (body_at bodies slot) (label_at s.labels slot) (tied_now slot) (told_now slot)));
    }

-- ---- a mover that sleeps is put to sleep

is_not : (t : Bool) → not t ≡ false → t ≡ true
is_not true h = refl
is_not false h = cc

slept_label : (slot : ℕ) (o : Option Label) (s : Acting Constraint) → awake_label o ≡ false → option_map_or (λ (l : Label). cond (is_asleep l.state) s (rested_at constraint_number slot (split_if_loose l s))) o s ≡ s
slept_label slot None s h = refl
slept_label slot (Some l) s h = ap (λ (t : Bool). cond t s (rested_at constraint_number slot (split_if_loose l s))) (is_not (is_asleep l.state) h)

-- it stays as it is
pub slept_stays : (slot : ℕ) (s : Acting Constraint) → acting.is_mover_awake s.labels slot ≡ false → slept_at constraint_number slot s ≡ s
unfolding slept_at
slept_stays slot s h = slept_label slot (label_at s.labels slot) s h
