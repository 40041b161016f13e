-- Who is a mover and who is awake, after each of the calls of the sets.
use Rattle.std.proofs.Common.{◌≡◌, ℕ, zero, suc, ◌⊎◌, ◌==◌, ◌||◌, ◌&&◌, Bool, true, false, not, cond, nat_lt, List, [], ◌∷◌, Option, Some, None, length, slice_set, arith, refl, sym, ap, ◌∙◌, subst, inl, inr, get_or-set_other}
use Rattle.std.specs.Prelude.{Contains, is_some, fold}
use Rattle.std.proofs.lemmas.Bool.{false≢true, cases_eq}
use Rattle.std.specs.Option.{option_map_or}
use Rattle.graph_colours.specs.declared.member.Member.{Member}
use Rattle.graph_colours.specs.FoundMembers.{has_id}
use Rattle.graph_colours.proofs.PlaceLemmas.{is_same, not_same, same_from}
use Rattle.islands.specs.declared.label.IslandState.TheVariants.{Whole, Loose, Asleep}
use Rattle.islands.specs.declared.label.Label.{Label}
use Rattle.islands.specs.Labels.{Labels, label_at, is_in, is_loose, is_asleep, sleeping_name, relabel, relabelled, merged, merged_by, loosened, rested, woken, added, taken_out, lowest_member, left_behind, with_state}
use Rattle.islands.specs.Partition.{IsPartition}
use Rattle.islands.proofs.JoinLemmas.{contains_cases, contains_head, contains_tail}
use Rattle.islands.proofs.LabelLemmas.{relabel_at, others_stay, added_here, added_other, in_case, in_is}
use Rattle.islands.proofs.SplitLemmas.{split_is}
use Rattle.sleep_wake.specs.declared.change.Change.{Change}
use Rattle.sleep_wake.specs.declared.change.Change.TheVariants.{Begin, End}
use Rattle.sleep_wake.specs.Acting.{Acting, AreMovers, IsConsistent, awake_label, is_mover_awake}
use Rattle.sleep_wake.specs.Bodies.{mover_made, mover_gone}
use Rattle.sleep_wake.specs.Changes.{begun, ended, united, parted, each_begun, each_ended, after_change, after_changes}
use Rattle.sleep_wake.specs.ChangeLists.{CanBegin, CanEnd, AreChanges}
use Rattle.sleep_wake.specs.Waking.{set_woken, woken_at, movers_woken, put_to_rest}
use Rattle.sleep_wake.specs.SleepPhase.{split_at, split_picked, picked_to_split, ready, sleep_phase, edges_in}
use Rattle.sleep_wake.specs.Sleeping.{name_at, with_one_name, with_name, sleeping_names, islands_woken, split_if_loose, rested_at, slept_at}
use Rattle.sleep_wake.specs.Resting.{is_whole}
use Rattle.sleep_wake.specs.Laws.{WakingNamedKeeps, BeginningEachKeeps, EndingEachKeeps, SleepKeeps, MoversStay, MoversComeAndGo, NobodyFallsAsleep, AwakeStayAwake, WakingLeavesTheAwake, TheNamedAreAwake, TheAwakeAct}
use Rattle.sleep_wake.proofs.AwakeLemmas.{awake_as, united_awake, parted_awake}
use Rattle.sleep_wake.proofs.KeptLemmas.{wakes, wakes_both, beginning, beginning_keeps, ending, ending_keeps, resting}
use Rattle.sleep_wake.proofs.EdgeLemmas.{edges_inside}
use Rattle.sleep_wake.proofs.PhaseLemmas.{names, splitting_keeps}
use Rattle.sleep_wake.proofs.RestLemmas.{whole_after}
use Rattle.sleep_wake.proofs.FoldLemmas.{are_up, begin_next, end_next, movers_on, change_next, changed_labelled, Labelled}

-- ---- what keeps the sets consistent

pub waking_named_keeps : {C : Type 0} (number : C → ℕ) → WakingNamedKeeps number
waking_named_keeps number s [] w = w
waking_named_keeps number s (name ∷ names) w = waking_named_keeps number (woken_at number name s) names (wakes number name s w).consistent

pub beginning_each_keeps : {C : Type 0} (number : C → ℕ) → BeginningEachKeeps number
beginning_each_keeps number s [] w can = w
beginning_each_keeps number s (m ∷ ms) w can = beginning_each_keeps number (begun number m s) ms (beginning_keeps number s m w (can.fresh m (contains_head m ms)) (can.awake m (contains_head m ms))) (begin_next number m ms s w can)

pub ending_each_keeps : {C : Type 0} (number : C → ℕ) → EndingEachKeeps number
ending_each_keeps number s [] w can = w
ending_each_keeps number s (m ∷ ms) w can = ending_each_keeps number (ended number m s) ms (ending_keeps number s m w (can.there m (contains_head m ms)) (are_up s.labels m.movers (can.awake m (contains_head m ms))).first) (end_next number m ms s w can)

split_if_keeps : {C : Type 0} (number : C → ℕ) (s : Acting C) (l : Label) (t : Bool) → IsConsistent number s → label_at s.labels l.name ≡ Some l → is_asleep l.state ≡ false → IsConsistent number (cond t (split_at l.name s) s)
split_if_keeps number s l true w e a = splitting_keeps number s l.name l w e refl a
split_if_keeps number s l false w e a = w

not_and : (x y : Bool) → (not x && not y) ≡ true → x ≡ false
not_and true y h = absurd (false≢true h)
not_and false y h = refl

rested_keeps : {C : Type 0} (number : C → ℕ) (s : Acting C) (slot : ℕ) (o : Option Label) → label_at s.labels slot ≡ o → IsConsistent number s → is_whole o ≡ true → IsConsistent number (option_map_or (λ (l : Label). put_to_rest number l.name s) o s)
rested_keeps number s slot None e w h = w
rested_keeps number s slot (Some l) e w h = resting number s l.name l w (w.islands.partition.named slot l e) refl (not_and (is_loose l.state) (is_asleep l.state) h)

slept_if_keeps : {C : Type 0} (number : C → ℕ) (s : Acting C) (slot : ℕ) (l : Label) (t : Bool) → is_asleep l.state ≡ t → IsConsistent number s → label_at s.labels slot ≡ Some l → IsConsistent number (cond t s (rested_at number slot (split_if_loose l s)))
slept_if_keeps number s slot l true a w e = w
slept_if_keeps {C} number s slot l false a w e =
    let now : Acting C = split_if_loose l s in
    rested_keeps number now slot (label_at now.labels slot) refl (split_if_keeps number s l (is_loose l.state) w (w.islands.partition.named slot l e) a) (whole_after number s slot l w e a)

slept_by_keeps : {C : Type 0} (number : C → ℕ) (s : Acting C) (slot : ℕ) (o : Option Label) → label_at s.labels slot ≡ o → IsConsistent number s → IsConsistent number (option_map_or (λ (l : Label). cond (is_asleep l.state) s (rested_at number slot (split_if_loose l s))) o s)
slept_by_keeps number s slot None e w = w
slept_by_keeps number s slot (Some l) e w = slept_if_keeps number s slot l (is_asleep l.state) refl w e

pub sleep_keeps : {C : Type 0} (number : C → ℕ) → SleepKeeps number
unfolding slept_at
sleep_keeps number s slot w = slept_by_keeps number s slot (label_at s.labels slot) refl w

-- ---- who is a mover

abbrev SameSlots : Labels → Labels → Type 0
SameSlots old new = (slot : ℕ) → is_some (label_at new slot) ≡ is_some (label_at old slot)

relabel_if : (to l : Label) (t : Bool) → is_some (cond t (Some to) (Some l)) ≡ true
relabel_if to l true = refl
relabel_if to l false = refl

relabel_some : (a b : ℕ) (to : Label) (o : Option Label) → is_some (relabel a b to o) ≡ is_some o
relabel_some a b to None = refl
relabel_some a b to (Some l) = relabel_if to l (is_in (Some l) a || is_in (Some l) b)

relabelled_slots : (a b : ℕ) (to : Label) (labels : Labels) → SameSlots labels (relabelled a b to labels)
relabelled_slots a b to labels = λ t. ap is_some (relabel_at a b to labels t) ∙ relabel_some a b to (label_at labels t)

set_slots : {C : Type 0} (number : C → ℕ) (name : ℕ) (t : Bool) (s : Acting C) → SameSlots s.labels (cond t (set_woken number name s) s).labels
unfolding set_woken woken
set_slots number name true s = relabelled_slots name name (record { name = name; state = Whole }) s.labels
set_slots number name false s = λ t. refl

by_slots : {C : Type 0} (number : C → ℕ) (o : Option Label) (s : Acting C) → SameSlots s.labels (option_map_or (λ (l : Label). cond (is_asleep l.state) (set_woken number l.name s) s) o s).labels
by_slots number None s = λ t. refl
by_slots number (Some l) s = set_slots number l.name (is_asleep l.state) s

woken_slots : {C : Type 0} (number : C → ℕ) (slot : ℕ) (s : Acting C) → SameSlots s.labels (woken_at number slot s).labels
unfolding woken_at
woken_slots number slot s = by_slots number (label_at s.labels slot) s

second_slots : {C : Type 0} (number : C → ℕ) (o : Option ℕ) (s : Acting C) → SameSlots s.labels (option_map_or (λ slot. woken_at number slot s) o s).labels
second_slots number None s = λ t. refl
second_slots number (Some slot) s = woken_slots number slot s

merged_slots : (x y : Option Label) (labels : Labels) → SameSlots labels (merged_by x y labels)
merged_slots None y labels = λ t. refl
merged_slots (Some x) None labels = λ t. refl
merged_slots (Some x) (Some y) labels = relabelled_slots x.name y.name _ labels

united_slots : (o : Option ℕ) (first : ℕ) (labels : Labels) → SameSlots labels (united o first labels)
unfolding merged
united_slots None first labels = λ t. refl
united_slots (Some b) first labels = merged_slots (label_at labels first) (label_at labels b) labels

loosened_slots : (o : Option Label) (labels : Labels) → SameSlots labels (option_map_or (λ (label : Label). with_state label.name Loose labels) o labels)
loosened_slots None labels = λ t. refl
loosened_slots (Some l) labels = relabelled_slots l.name l.name (record { name = l.name; state = Loose }) labels

parted_slots : (o : Option ℕ) (first : ℕ) (labels : Labels) → SameSlots labels (parted o first labels)
unfolding loosened
parted_slots None first labels = λ t. refl
parted_slots (Some b) first labels = loosened_slots (label_at labels first) labels

begun_slots : {C : Type 0} (number : C → ℕ) (m : Member C) (s : Acting C) → SameSlots s.labels (begun number m s).labels
unfolding begun
begun_slots number m s = united_slots m.movers.second m.movers.first s.labels

ended_slots : {C : Type 0} (number : C → ℕ) (m : Member C) (s : Acting C) → SameSlots s.labels (ended number m s).labels
unfolding ended
ended_slots number m s = parted_slots m.movers.second m.movers.first s.labels

islands_slots : {C : Type 0} (number : C → ℕ) (names : List ℕ) (s : Acting C) → SameSlots s.labels (islands_woken number names s).labels
islands_slots number [] s = λ t. refl
islands_slots number (name ∷ names) s = λ t. islands_slots number names (woken_at number name s) t ∙ woken_slots number name s t

each_begun_slots : {C : Type 0} (number : C → ℕ) (ms : List (Member C)) (s : Acting C) → SameSlots s.labels (each_begun number ms s).labels
each_begun_slots number [] s = λ t. refl
each_begun_slots number (m ∷ ms) s = λ t. each_begun_slots number ms (begun number m s) t ∙ begun_slots number m s t

each_ended_slots : {C : Type 0} (number : C → ℕ) (ms : List (Member C)) (s : Acting C) → SameSlots s.labels (each_ended number ms s).labels
each_ended_slots number [] s = λ t. refl
each_ended_slots number (m ∷ ms) s = λ t. each_ended_slots number ms (ended number m s) t ∙ ended_slots number m s t

both_slots : {C : Type 0} (number : C → ℕ) (first : ℕ) (o : Option ℕ) (s : Acting C) → SameSlots s.labels (option_map_or (λ slot. woken_at number slot (woken_at number first s)) o (woken_at number first s)).labels
both_slots number first o s = λ t. second_slots number o (woken_at number first s) t ∙ woken_slots number first s t

changed_slots : {C : Type 0} (number : C → ℕ) (c : Change C) (s : Acting C) → SameSlots s.labels (after_change number c s).labels
changed_slots number (Begin m) s = λ t. begun_slots number m (movers_woken number m.movers s) t ∙ both_slots number m.movers.first m.movers.second s t
changed_slots number (End m) s = λ t. ended_slots number m (movers_woken number m.movers s) t ∙ both_slots number m.movers.first m.movers.second s t

after_changes_slots : {C : Type 0} (number : C → ℕ) (changes : List (Change C)) (s : Acting C) → SameSlots s.labels (after_changes number changes s).labels
after_changes_slots number [] s = λ t. refl
after_changes_slots number (c ∷ changes) s = λ t. after_changes_slots number changes (after_change number c s) t ∙ changed_slots number c s t

rest_slots : {C : Type 0} (number : C → ℕ) (name : ℕ) (s : Acting C) → SameSlots s.labels (put_to_rest number name s).labels
unfolding put_to_rest rested
rest_slots number name s = relabelled_slots name name (record { name = name; state = Asleep }) s.labels

all_rest_slots : {C : Type 0} (number : C → ℕ) (names : List ℕ) (s : Acting C) → SameSlots s.labels (fold (λ now name. put_to_rest number name now) s names).labels
all_rest_slots number [] s = λ t. refl
all_rest_slots number (name ∷ names) s = λ t. all_rest_slots number names (put_to_rest number name s) t ∙ rest_slots number name s t

split_slots : {C : Type 0} (number : C → ℕ) (name : ℕ) (s : Acting C) → IsConsistent number s → SameSlots s.labels (split_at name s).labels
unfolding split_at
split_slots number name s w =
    let parts = split_is s.labels name (edges_in s.labels name s.ties) w.islands.partition (edges_inside s.labels name s.ties w.islands) in
    λ t. elim (in_case (label_at s.labels t) name) [
      | inl h ↦ let i = in_is (label_at s.labels t) name h in ap is_some (parts.members t h).label ∙ sym (ap is_some i.1)
      | inr h ↦ ap is_some (parts.others t h)
    ]

split_if_slots : {C : Type 0} (number : C → ℕ) (name : ℕ) (t : Bool) (s : Acting C) → IsConsistent number s → SameSlots s.labels (cond t (split_at name s) s).labels
split_if_slots number name true s w = split_slots number name s w
split_if_slots number name false s w = λ t. refl

rested_by_slots : {C : Type 0} (number : C → ℕ) (o : Option Label) (s : Acting C) → SameSlots s.labels (option_map_or (λ (l : Label). put_to_rest number l.name s) o s).labels
rested_by_slots number None s = λ t. refl
rested_by_slots number (Some l) s = rest_slots number l.name s

slept_if_slots : {C : Type 0} (number : C → ℕ) (slot : ℕ) (l : Label) (t : Bool) (s : Acting C) → IsConsistent number s → SameSlots s.labels (cond t s (rested_at number slot (split_if_loose l s))).labels
slept_if_slots number slot l true s w = λ t. refl
slept_if_slots {C} number slot l false s w =
    let now : Acting C = split_if_loose l s in
    λ t. rested_by_slots number (label_at now.labels slot) now t ∙ split_if_slots number l.name (is_loose l.state) s w t

slept_by_slots : {C : Type 0} (number : C → ℕ) (slot : ℕ) (o : Option Label) (s : Acting C) → IsConsistent number s → SameSlots s.labels (option_map_or (λ (l : Label). cond (is_asleep l.state) s (rested_at number slot (split_if_loose l s))) o s).labels
slept_by_slots number slot None s w = λ t. refl
slept_by_slots number slot (Some l) s w = slept_if_slots number slot l (is_asleep l.state) s w

slept_slots : {C : Type 0} (number : C → ℕ) (slot : ℕ) (s : Acting C) → IsConsistent number s → SameSlots s.labels (slept_at number slot s).labels
unfolding slept_at
slept_slots number slot s w = slept_by_slots number slot (label_at s.labels slot) s w

picked_slots : {C : Type 0} (number : C → ℕ) (o : Option ℕ) (s : Acting C) → IsConsistent number s → SameSlots s.labels (split_picked o s).labels
picked_slots number None s w = λ t. refl
picked_slots number (Some name) s w = split_slots number name s w

phase_slots : {C : Type 0} (number : C → ℕ) (timers : List ℕ) (s : Acting C) → IsConsistent number s → SameSlots s.labels (sleep_phase number timers s).labels
phase_slots {C} number timers s w =
    let now : Acting C = split_picked (picked_to_split s.labels timers) s in
    λ t. all_rest_slots number (ready false now.labels timers) now t ∙ picked_slots number (picked_to_split s.labels timers) s w t

pub movers_stay : {C : Type 0} (number : C → ℕ) → MoversStay number
movers_stay number = record {
  waking = λ s names. islands_slots number names s;
  begun = λ s ms. each_begun_slots number ms s;
  ended = λ s ms. each_ended_slots number ms s;
  after_changes = λ s changes. after_changes_slots number changes s;
  slept = λ s slot w. slept_slots number slot s w;
  phase = λ s timers w. phase_slots number timers s w;
}

made_slots : (labels : Labels) (slot other : ℕ) → is_some (label_at (added labels slot) other) ≡ ((other == slot) || is_some (label_at labels other))
made_slots labels slot other = elim (cases_eq other slot) [
  | inl e ↦ rw (is_same other slot e) (ap (λ n. is_some (label_at (added labels slot) n)) e ∙ ap is_some (added_here labels slot))
  | inr e ↦ rw (not_same other slot e) (ap is_some (added_other labels slot other e))
]

left_slots : (t : Bool) (low name : ℕ) (labels : Labels) → SameSlots labels (cond t (relabelled name name (record { name = low; state = Loose }) labels) labels)
left_slots true low name labels = relabelled_slots name name (record { name = low; state = Loose }) labels
left_slots false low name labels = λ t. refl

-- none stands where one was taken out
blank_at : (labels : Labels) (slot : ℕ) → label_at (slice_set labels slot None) slot ≡ None
blank_at [] slot = refl
blank_at (o ∷ labels) zero = refl
blank_at (o ∷ labels) (suc slot) = blank_at labels slot

emptied : (labels : Labels) (slot other : ℕ) → is_some (label_at (slice_set labels slot None) other) ≡ (not (other == slot) && is_some (label_at labels other))
emptied labels slot other = elim (cases_eq other slot) [
  | inl e ↦ rw (is_same other slot e) (ap (λ n. is_some (label_at (slice_set labels slot None) n)) e ∙ ap is_some (blank_at labels slot))
  | inr e ↦ rw (not_same other slot e) (ap is_some (get_or-set_other labels slot other None None e))
]

gone_by : (labels : Labels) (slot other : ℕ) (o : Option Label) → label_at labels slot ≡ o → is_some (label_at (option_map_or (λ (label : Label). left_behind (lowest_member label.name (slice_set labels slot None)) label.name (slice_set labels slot None)) o labels) other) ≡ (not (other == slot) && is_some (label_at labels other))
gone_by labels slot other None e = elim (cases_eq other slot) [
  | inl h ↦ rw (is_same other slot h) (ap (λ n. is_some (label_at labels n)) h ∙ ap is_some e)
  | inr h ↦ rw (not_same other slot h) refl
]
gone_by labels slot other (Some l) e =
    let rest : Labels = slice_set labels slot None in
    left_slots (nat_lt (lowest_member l.name rest) (length rest)) (lowest_member l.name rest) l.name rest other ∙ emptied labels slot other

pub movers_come_and_go : {C : Type 0} (number : C → ℕ) → MoversComeAndGo number
unfolding mover_made mover_gone taken_out
movers_come_and_go number = record {
  made = λ s slot other. made_slots s.labels slot other;
  gone = λ s slot other. gone_by s.labels slot other (label_at s.labels slot) refl;
}

-- ---- who is awake

begun_awake : {C : Type 0} (number : C → ℕ) (m : Member C) (s : Acting C) (t : ℕ) → IsConsistent number s → AreMovers s.labels m.movers → is_mover_awake s.labels m.movers.first ≡ true → ((b : ℕ) → m.movers.second ≡ Some b → is_mover_awake s.labels b ≡ true) → is_mover_awake (begun number m s).labels t ≡ is_mover_awake s.labels t
unfolding begun
begun_awake number m s t w h a b = united_awake s.labels m.movers.first t m.movers.second w.islands.partition h.first h.second a b

ended_awake : {C : Type 0} (number : C → ℕ) (m : Member C) (s : Acting C) (t : ℕ) → IsConsistent number s → is_mover_awake s.labels m.movers.first ≡ true → is_mover_awake (ended number m s).labels t ≡ is_mover_awake s.labels t
unfolding ended
ended_awake number m s t w a = parted_awake s.labels m.movers.first t m.movers.second w.islands.partition a

islands_awake : {C : Type 0} (number : C → ℕ) (names : List ℕ) (s : Acting C) → IsConsistent number s → NobodyFallsAsleep s (islands_woken number names s)
islands_awake number [] s w = λ t h. h
islands_awake number (name ∷ names) s w = let a = wakes number name s w in λ t h. islands_awake number names (woken_at number name s) a.consistent t (a.more t h)

each_begun_awake : {C : Type 0} (number : C → ℕ) (ms : List (Member C)) (s : Acting C) → IsConsistent number s → CanBegin number ms s → NobodyFallsAsleep s (each_begun number ms s)
each_begun_awake number [] s w can = λ t h. h
each_begun_awake number (m ∷ ms) s w can =
    let a = can.awake m (contains_head m ms) in
    let up = are_up s.labels m.movers a in
    λ t h. each_begun_awake number ms (begun number m s) (beginning_keeps number s m w (can.fresh m (contains_head m ms)) a) (begin_next number m ms s w can) t (begun_awake number m s t w up.movers up.first up.second ∙ h)

each_ended_awake : {C : Type 0} (number : C → ℕ) (ms : List (Member C)) (s : Acting C) → IsConsistent number s → CanEnd number ms s → NobodyFallsAsleep s (each_ended number ms s)
each_ended_awake number [] s w can = λ t h. h
each_ended_awake number (m ∷ ms) s w can =
    let up = are_up s.labels m.movers (can.awake m (contains_head m ms)) in
    λ t h. each_ended_awake number ms (ended number m s) (ending_keeps number s m w (can.there m (contains_head m ms)) up.first) (end_next number m ms s w can) t (ended_awake number m s t w up.first ∙ h)

-- one change leaves the awake awake, and all consistent
pub record Steps {C : Type 0} (number : C → ℕ) (s new : Acting C) : Type 0 where
  pub consistent : IsConsistent number new
  pub awake : NobodyFallsAsleep s new

both_awake : {C : Type 0} (number : C → ℕ) (first : ℕ) (o : Option ℕ) (s : Acting C) → IsConsistent number s → NobodyFallsAsleep s (option_map_or (λ slot. woken_at number slot (woken_at number first s)) o (woken_at number first s))
both_awake number first None s w = (wakes number first s w).more
both_awake number first (Some b) s w = let a = wakes number first s w in λ t h. (wakes number b (woken_at number first s) a.consistent).more t (a.more t h)

changed_steps : {C : Type 0} (number : C → ℕ) (old : Labels) (c : Change C) (cs : List (Change C)) (s : Acting C) → IsConsistent number s → Labelled old s.labels → AreChanges number old s.ties (c ∷ cs) → Steps number s (after_change number c s)
changed_steps {C} number old (Begin m) cs s w on h =
    let now : Acting C = movers_woken number m.movers s in
    let a = wakes_both number m.movers.first m.movers.second s w in
    let there : AreMovers s.labels m.movers = movers_on old s.labels m.movers on h.1 in
    let P : List (Member C) → Type 0 = λ v. has_id number m.id v ≡ false in
    let fresh : has_id number m.id now.ties ≡ false = subst P (sym a.ties) h.0 in
    let one = a.one there.first in
    let two : (b : ℕ) → m.movers.second ≡ Some b → is_mover_awake now.labels b ≡ true = λ b e. a.two b e (there.second b e) in
    let movers : AreMovers now.labels m.movers = movers_on s.labels now.labels m.movers a.labelled there in
    record {
      consistent = beginning number now m a.consistent fresh movers one two;
      awake = λ t k. begun_awake number m now t a.consistent movers one two ∙ both_awake number m.movers.first m.movers.second s w t k;
    }
changed_steps {C} number old (End m) cs s w on h =
    let now : Acting C = movers_woken number m.movers s in
    let a = wakes_both number m.movers.first m.movers.second s w in
    let P : List (Member C) → Type 0 = λ v. Contains v m in
    let there : Contains now.ties m = subst P (sym a.ties) h.0 in
    let one = a.one (w.movers m h.0).first in
    record {
      consistent = ending number now m a.consistent there one;
      awake = λ t k. ended_awake number m now t a.consistent one ∙ both_awake number m.movers.first m.movers.second s w t k;
    }

changed_awake : {C : Type 0} (number : C → ℕ) (old : Labels) (changes : List (Change C)) (s : Acting C) → IsConsistent number s → Labelled old s.labels → AreChanges number old s.ties changes → NobodyFallsAsleep s (after_changes number changes s)
changed_awake number old [] s w on h = λ t k. k
changed_awake number old (c ∷ changes) s w on h =
    let a = changed_steps number old c changes s w on h in
    λ t k. changed_awake number old changes (after_change number c s) a.consistent (λ u q. changed_labelled number c s u (on u q)) (change_next number old s c changes h) t (a.awake t k)

pub awake_stay_awake : {C : Type 0} (number : C → ℕ) → AwakeStayAwake number
awake_stay_awake number = record {
  waking = λ s names w. islands_awake number names s w;
  begun = λ s ms w can. each_begun_awake number ms s w can;
  ended = λ s ms w can. each_ended_awake number ms s w can;
  after_changes = λ s changes w can. changed_awake number s.labels changes s w (λ t q. q) can;
}

-- ---- the labels of the awake

-- another island wakes
apart_by : (labels : Labels) (name t : ℕ) (l : Label) → IsPartition labels → label_at labels name ≡ Some l → l.name ≡ name → is_asleep l.state ≡ true → is_mover_awake labels t ≡ true → is_in (label_at labels t) name ≡ false
apart_by labels name t l p e k a h = elim (in_case (label_at labels t) name) [
  | inl i ↦ absurd (false≢true (sym (awake_as labels name t l p e k i ∙ ap not a) ∙ h))
  | inr i ↦ i
]

set_leaves : {C : Type 0} (number : C → ℕ) (s : Acting C) (slot t : ℕ) (l : Label) (b : Bool) → is_asleep l.state ≡ b → IsConsistent number s → label_at s.labels slot ≡ Some l → is_mover_awake s.labels t ≡ true → label_at (cond b (set_woken number l.name s) s).labels t ≡ label_at s.labels t
unfolding set_woken woken
set_leaves number s slot t l true a w e h =
    let off : is_in (label_at s.labels t) l.name ≡ false = apart_by s.labels l.name t l w.islands.partition (w.islands.partition.named slot l e) refl a h in
    others_stay l.name l.name (record { name = l.name; state = Whole }) s.labels t (rw off refl)
set_leaves number s slot t l false a w e h = refl

leaves_by : {C : Type 0} (number : C → ℕ) (s : Acting C) (slot t : ℕ) (o : Option Label) → label_at s.labels slot ≡ o → IsConsistent number s → is_mover_awake s.labels t ≡ true → label_at (option_map_or (λ (l : Label). cond (is_asleep l.state) (set_woken number l.name s) s) o s).labels t ≡ label_at s.labels t
leaves_by number s slot t None e w h = refl
leaves_by number s slot t (Some l) e w h = set_leaves number s slot t l (is_asleep l.state) refl w e h

woken_leaves : {C : Type 0} (number : C → ℕ) (s : Acting C) (slot t : ℕ) → IsConsistent number s → is_mover_awake s.labels t ≡ true → label_at (woken_at number slot s).labels t ≡ label_at s.labels t
unfolding woken_at
woken_leaves number s slot t w h = leaves_by number s slot t (label_at s.labels slot) refl w h

pub waking_leaves_the_awake : {C : Type 0} (number : C → ℕ) → WakingLeavesTheAwake number
waking_leaves_the_awake number s [] slot w h = refl
waking_leaves_the_awake number s (name ∷ names) slot w h =
    let a = wakes number name s w in
    waking_leaves_the_awake number (woken_at number name s) names slot a.consistent (a.more slot h) ∙ woken_leaves number s name slot w h

-- ---- the named are awake

none_in : (x : ℕ) → Contains [] x → ⊥
none_in x h = omega (arith, h.1)

labelled_from : (o : Option Label) → is_some o ≡ true → (l : Label) × (o ≡ Some l)
labelled_from None h = absurd (false≢true h)
labelled_from (Some l) h = (l, refl)

-- movers with one label still have one
same_set : {C : Type 0} (number : C → ℕ) (name : ℕ) (b : Bool) (s : Acting C) (t u : ℕ) → label_at s.labels t ≡ label_at s.labels u → label_at (cond b (set_woken number name s) s).labels t ≡ label_at (cond b (set_woken number name s) s).labels u
unfolding set_woken woken
same_set number name true s t u e = let to : Label = record { name = name; state = Whole } in relabel_at name name to s.labels t ∙ ap (relabel name name to) e ∙ sym (relabel_at name name to s.labels u)
same_set number name false s t u e = e

same_by : {C : Type 0} (number : C → ℕ) (o : Option Label) (s : Acting C) (t u : ℕ) → label_at s.labels t ≡ label_at s.labels u → label_at (option_map_or (λ (l : Label). cond (is_asleep l.state) (set_woken number l.name s) s) o s).labels t ≡ label_at (option_map_or (λ (l : Label). cond (is_asleep l.state) (set_woken number l.name s) s) o s).labels u
same_by number None s t u e = e
same_by number (Some l) s t u e = same_set number l.name (is_asleep l.state) s t u e

same_woken : {C : Type 0} (number : C → ℕ) (slot : ℕ) (s : Acting C) (t u : ℕ) → label_at s.labels t ≡ label_at s.labels u → label_at (woken_at number slot s).labels t ≡ label_at (woken_at number slot s).labels u
unfolding woken_at
same_woken number slot s t u e = same_by number (label_at s.labels slot) s t u e

same_label : {C : Type 0} (number : C → ℕ) (names : List ℕ) (s : Acting C) (t u : ℕ) → label_at s.labels t ≡ label_at s.labels u → label_at (islands_woken number names s).labels t ≡ label_at (islands_woken number names s).labels u
same_label number [] s t u e = e
same_label number (name ∷ names) s t u e = same_label number names (woken_at number name s) t u (same_woken number name s t u e)

-- once its name was among those woken, an island is awake
named_wakes : {C : Type 0} (number : C → ℕ) (names : List ℕ) (s : Acting C) (name : ℕ) → IsConsistent number s → Contains names name → is_some (label_at s.labels name) ≡ true → is_mover_awake (islands_woken number names s).labels name ≡ true
named_wakes number [] s name w h k = absurd (none_in name h)
named_wakes {C} number (n ∷ names) s name w h k =
    let a = wakes number n s w in
    elim (contains_cases n names name h) [
      | inl e ↦ let P : ℕ → Type 0 = λ v. is_some (label_at s.labels v) ≡ true in
          let up : is_mover_awake (woken_at number n s).labels n ≡ true = a.awake (labelled_from (label_at s.labels n) (subst P (sym e) k)) in
          let Q : ℕ → Type 0 = λ v. is_mover_awake (islands_woken number names (woken_at number n s)).labels v ≡ true in
          subst Q e (islands_awake number names (woken_at number n s) a.consistent n up)
      | inr i ↦ named_wakes number names (woken_at number n s) name a.consistent i (woken_slots number n s name ∙ k)
    ]

one_name_in_by : (name n : ℕ) (names : List ℕ) (x : ℕ) (t u : Bool) → (u ≡ true → n ≡ name) → (name ≡ x) ⊎ Contains (n ∷ names) x → ((name ≡ x) ⊎ Contains names x → Contains (with_one_name name names) x) → Contains (cond t (n ∷ with_one_name name names) (cond u (n ∷ names) (name ∷ n ∷ names))) x
one_name_in_by name n names x true u same h f = elim h [
  | inl e ↦ contains_tail n (with_one_name name names) x (f (inl e))
  | inr i ↦ elim (contains_cases n names x i) [
    | inl e ↦ let P : ℕ → Type 0 = λ v. Contains (n ∷ with_one_name name names) v in subst P e (contains_head n (with_one_name name names))
    | inr k ↦ contains_tail n (with_one_name name names) x (f (inr k))
  ]
]
one_name_in_by name n names x false true same h f = elim h [
  | inl e ↦ let P : ℕ → Type 0 = λ v. Contains (n ∷ names) v in subst P (same refl ∙ e) (contains_head n names)
  | inr i ↦ i
]
one_name_in_by name n names x false false same h f = elim h [
  | inl e ↦ let P : ℕ → Type 0 = λ v. Contains (name ∷ n ∷ names) v in subst P e (contains_head name (n ∷ names))
  | inr i ↦ contains_tail name (n ∷ names) x i
]

one_name_in : (name : ℕ) (names : List ℕ) (x : ℕ) → (name ≡ x) ⊎ Contains names x → Contains (with_one_name name names) x
one_name_in name [] x h = elim h [
  | inl e ↦ let P : ℕ → Type 0 = λ v. Contains (name ∷ []) v in subst P e (contains_head name [])
  | inr i ↦ absurd (none_in x i)
]
one_name_in name (n ∷ names) x h = one_name_in_by name n names x (nat_lt n name) (n == name) (λ q. same_from n name q) h (λ k. one_name_in name names x k)

pub name_in : (o : Option ℕ) (names : List ℕ) (x : ℕ) → (o ≡ Some x) ⊎ Contains names x → Contains (with_name o names) x
name_in None names x h = elim h [ inl e ↦ absurd (let none : None ≡ Some x = e in cc) | inr i ↦ i ]
name_in (Some name) names x h = one_name_in name names x (elim h [ inl e ↦ inl (let same : name ≡ x = cc in same) | inr i ↦ inr i ])

pub names_kept : (labels : Labels) (names slots : List ℕ) (x : ℕ) → Contains names x → Contains (fold (λ ns slot. with_name (name_at labels slot) ns) names slots) x
names_kept labels names [] x h = h
names_kept labels names (slot ∷ slots) x h = names_kept labels (with_name (name_at labels slot) names) slots x (name_in (name_at labels slot) names x (inr h))

names_have : (labels : Labels) (names slots : List ℕ) (slot x : ℕ) → Contains slots slot → name_at labels slot ≡ Some x → Contains (fold (λ ns slot. with_name (name_at labels slot) ns) names slots) x
names_have labels names [] slot x h e = absurd (none_in slot h)
names_have labels names (first ∷ slots) slot x h e = elim (contains_cases first slots slot h) [
  | inl q ↦ names_kept labels (with_name (name_at labels first) names) slots x (name_in (name_at labels first) names x (inl (ap (name_at labels) q ∙ e)))
  | inr i ↦ names_have labels (with_name (name_at labels first) names) slots slot x i e
]

sleeper_is : (l : Label) → is_asleep l.state ≡ true → sleeping_name (Some l) ≡ Some l.name
sleeper_is l a = rw a refl

woken_all : {C : Type 0} (number : C → ℕ) (s : Acting C) (slots : List ℕ) (slot : ℕ) (l : Label) (t : Bool) → is_asleep l.state ≡ t → IsConsistent number s → Contains slots slot → label_at s.labels slot ≡ Some l → is_mover_awake (islands_woken number (sleeping_names s.labels slots) s).labels slot ≡ true
woken_all number s slots slot l false a w h e = islands_awake number (sleeping_names s.labels slots) s w slot (ap awake_label e ∙ ap not a)
woken_all {C} number s slots slot l true a w h e =
    let new : Acting C = islands_woken number (sleeping_names s.labels slots) s in
    let home : label_at s.labels l.name ≡ Some l = w.islands.partition.named slot l e in
    let named : Contains (sleeping_names s.labels slots) l.name = names_have s.labels [] slots slot l.name h (ap sleeping_name e ∙ sleeper_is l a) in
    let up : is_mover_awake new.labels l.name ≡ true = named_wakes number (sleeping_names s.labels slots) s l.name w named (ap is_some home) in
    ap awake_label (same_label number (sleeping_names s.labels slots) s slot l.name (e ∙ sym home)) ∙ up

pub the_named_are_awake : {C : Type 0} (number : C → ℕ) → TheNamedAreAwake number
the_named_are_awake number s slots slot w h k = let o = labelled_from (label_at s.labels slot) k in woken_all number s slots slot o.0 (is_asleep o.0.state) refl w h o.1

pub the_awake_act : {C : Type 0} (number : C → ℕ) → TheAwakeAct number
the_awake_act number s m w h = ((λ k. ((w.acting m).0 k).1), (λ a. (w.acting m).1 (h, a)))
