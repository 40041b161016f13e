-- How many slots have a label or none stays, whoever wakes or sleeps, and whatever begins, ends or goes.
use Rattle.std.proofs.Common.{◌≡◌, ℕ, ◌+◌, ◌-◌, ◌<◌, ◌≤◌, ◌&&◌, Bool, true, false, cond, nat_lt, List, [], ◌∷◌, length, Option, Some, None, refl, sym, ap, ap₂, ◌∙◌, arith}
use Rattle.std.specs.Prelude.{slice_set, fold}
use Rattle.std.proofs.lemmas.Grind.{common_steps}
use Rattle.std.proofs.lemmas.List.{length-map, length-set}
use Rattle.std.specs.Option.{option_map_or}
use Rattle.graph_colours.specs.declared.member.Member.{Member}
use Rattle.graph_colours.specs.declared.member.Movers.{Movers}
use Rattle.islands.specs.declared.label.IslandState.TheVariants.{Whole, Loose, Asleep}
use Rattle.islands.specs.declared.label.Label.{Label}
use Rattle.islands.specs.Labels.{Labels, added, is_asleep, is_loose, label_at, loosened, lowest_member, merged, merged_by, padded, relabel, relabelled, rested, taken_out, woken, left_behind, with_state}
use Rattle.islands.specs.Links.{Linked}
use Rattle.islands.specs.Partition.{AreIslands}
use Rattle.islands.proofs.SplitLemmas.{split_size}
use Rattle.islands.proofs.WideLemmas.{wide_at}
use Rattle.sleep_wake.specs.declared.change.Change.{Change}
use Rattle.sleep_wake.specs.declared.change.Change.TheVariants.{Begin, End}
use Rattle.sleep_wake.specs.Acting.{Acting, AreMovers, IsConsistent, acting, are_awake, awake_label, is_mover_awake, links_of}
use Rattle.sleep_wake.specs.Bodies.{mover_gone, mover_made}
use Rattle.sleep_wake.specs.Changes.{begun, after_change, each_begun, each_ended, ended, parted, after_changes, united}
use Rattle.sleep_wake.specs.SleepPhase.{picked_to_split, ready, sleep_phase, split_at, split_picked, edges_in}
use Rattle.sleep_wake.specs.Sleeping.{islands_woken, rested_at, slept_at, split_if_loose}
use Rattle.sleep_wake.specs.Widened.{widened}
use Rattle.sleep_wake.specs.Waking.{movers_woken, put_to_rest, set_woken, woken_at}

-- ---- labels

relabelled_long : (a b : ℕ) (to : Label) (labels : Labels) → length (relabelled a b to labels) ≡ length labels
relabelled_long a b to labels = length-map labels (relabel a b to)

merged_by_long : (x y : Option Label) (labels : Labels) → length (merged_by x y labels) ≡ length labels
merged_by_long None y labels = refl
merged_by_long (Some x) None labels = refl
merged_by_long (Some x) (Some y) labels = relabelled_long x.name y.name _ labels

merged_long : (labels : Labels) (a b : ℕ) → length (merged labels a b) ≡ length labels
unfolding merged
merged_long labels a b = merged_by_long (label_at labels a) (label_at labels b) labels

loosened_by_long : (o : Option Label) (labels : Labels) → length (option_map_or (λ (label : Label). with_state label.name Loose labels) o labels) ≡ length labels
loosened_by_long None labels = refl
loosened_by_long (Some l) labels = relabelled_long l.name l.name (record { name = l.name; state = Loose }) labels

united_long : (o : Option ℕ) (first : ℕ) (labels : Labels) → length (united o first labels) ≡ length labels
united_long None first labels = refl
united_long (Some b) first labels = merged_long labels first b

parted_long : (o : Option ℕ) (first : ℕ) (labels : Labels) → length (parted o first labels) ≡ length labels
unfolding loosened
parted_long None first labels = refl
parted_long (Some b) first labels = loosened_by_long (label_at labels first) labels

left_long : (t : Bool) (low name : ℕ) (labels : Labels) → length (cond t (relabelled name name (record { name = low; state = Loose }) labels) labels) ≡ length labels
left_long true low name labels = relabelled_long name name (record { name = low; state = Loose }) labels
left_long false low name labels = refl

without_long : (o : Option Label) (slot : ℕ) (labels : Labels) → length (option_map_or (λ (label : Label). left_behind (lowest_member label.name (slice_set labels slot None)) label.name (slice_set labels slot None)) o labels) ≡ length labels
without_long None slot labels = refl
without_long (Some l) slot labels =
    let rest : Labels = slice_set labels slot None in
    left_long (nat_lt (lowest_member l.name rest) (length rest)) (lowest_member l.name rest) l.name rest ∙ length-set labels slot None

-- ---- what acts

-- there are as many slots
abbrev pub IsAsLong : {C : Type 0} → Acting C → Acting C → Type 0
IsAsLong old new = length new.labels ≡ length old.labels

set_long : {C : Type 0} (number : C → ℕ) (name : ℕ) (t : Bool) (s : Acting C) → IsAsLong s (cond t (set_woken number name s) s)
unfolding set_woken woken
set_long number name true s = relabelled_long name name (record { name = name; state = Whole }) s.labels
set_long number name false s = refl

woken_by_long : {C : Type 0} (number : C → ℕ) (o : Option Label) (s : Acting C) → IsAsLong s (option_map_or (λ (l : Label). cond (is_asleep l.state) (set_woken number l.name s) s) o s)
woken_by_long number None s = refl
woken_by_long number (Some l) s = set_long number l.name (is_asleep l.state) s

woken_long : {C : Type 0} (number : C → ℕ) (slot : ℕ) (s : Acting C) → IsAsLong s (woken_at number slot s)
unfolding woken_at
woken_long number slot s = woken_by_long number (label_at s.labels slot) s

second_long : {C : Type 0} (number : C → ℕ) (o : Option ℕ) (s : Acting C) → IsAsLong s (option_map_or (λ slot. woken_at number slot s) o s)
second_long number None s = refl
second_long number (Some slot) s = woken_long number slot s

begun_long : {C : Type 0} (number : C → ℕ) (m : Member C) (s : Acting C) → IsAsLong s (begun number m s)
unfolding begun
begun_long number m s = united_long m.movers.second m.movers.first s.labels

ended_long : {C : Type 0} (number : C → ℕ) (m : Member C) (s : Acting C) → IsAsLong s (ended number m s)
unfolding ended
ended_long number m s = parted_long m.movers.second m.movers.first s.labels

pub waking_long : {C : Type 0} (number : C → ℕ) (names : List ℕ) (s : Acting C) → IsAsLong s (islands_woken number names s)
waking_long number [] s = refl
waking_long number (name ∷ names) s = waking_long number names (woken_at number name s) ∙ woken_long number name s

pub each_begun_long : {C : Type 0} (number : C → ℕ) (ms : List (Member C)) (s : Acting C) → IsAsLong s (each_begun number ms s)
each_begun_long number [] s = refl
each_begun_long number (m ∷ ms) s = each_begun_long number ms (begun number m s) ∙ begun_long number m s

pub each_ended_long : {C : Type 0} (number : C → ℕ) (ms : List (Member C)) (s : Acting C) → IsAsLong s (each_ended number ms s)
each_ended_long number [] s = refl
each_ended_long number (m ∷ ms) s = each_ended_long number ms (ended number m s) ∙ ended_long number m s

both_long : {C : Type 0} (number : C → ℕ) (first : ℕ) (o : Option ℕ) (s : Acting C) → IsAsLong s (option_map_or (λ slot. woken_at number slot (woken_at number first s)) o (woken_at number first s))
both_long number first o s = second_long number o (woken_at number first s) ∙ woken_long number first s

changed_long : {C : Type 0} (number : C → ℕ) (c : Change C) (s : Acting C) → IsAsLong s (after_change number c s)
changed_long number (Begin m) s = begun_long number m (movers_woken number m.movers s) ∙ both_long number m.movers.first m.movers.second s
changed_long number (End m) s = ended_long number m (movers_woken number m.movers s) ∙ both_long number m.movers.first m.movers.second s

pub after_changes_long : {C : Type 0} (number : C → ℕ) (changes : List (Change C)) (s : Acting C) → IsAsLong s (after_changes number changes s)
after_changes_long number [] s = refl
after_changes_long number (c ∷ changes) s = after_changes_long number changes (after_change number c s) ∙ changed_long number c s

rest_long : {C : Type 0} (number : C → ℕ) (name : ℕ) (s : Acting C) → IsAsLong s (put_to_rest number name s)
unfolding put_to_rest rested
rest_long number name s = relabelled_long name name (record { name = name; state = Asleep }) s.labels

pub all_rest_long : {C : Type 0} (number : C → ℕ) (names : List ℕ) (s : Acting C) → IsAsLong s (fold (λ now name. put_to_rest number name now) s names)
all_rest_long number [] s = refl
all_rest_long number (name ∷ names) s = all_rest_long number names (put_to_rest number name s) ∙ rest_long number name s

split_at_long : {C : Type 0} (name : ℕ) (s : Acting C) → IsAsLong s (split_at name s)
unfolding split_at
split_at_long name s = split_size s.labels name (edges_in s.labels name s.ties)

split_if_long : {C : Type 0} (name : ℕ) (t : Bool) (s : Acting C) → IsAsLong s (cond t (split_at name s) s)
split_if_long name true s = split_at_long name s
split_if_long name false s = refl

rested_by_long : {C : Type 0} (number : C → ℕ) (o : Option Label) (s : Acting C) → IsAsLong s (option_map_or (λ (l : Label). put_to_rest number l.name s) o s)
rested_by_long number None s = refl
rested_by_long number (Some l) s = rest_long number l.name s

slept_if_long : {C : Type 0} (number : C → ℕ) (slot : ℕ) (l : Label) (t : Bool) (s : Acting C) → IsAsLong s (cond t s (rested_at number slot (split_if_loose l s)))
slept_if_long number slot l true s = refl
slept_if_long {C} number slot l false s =
    let now : Acting C = split_if_loose l s in
    rested_by_long number (label_at now.labels slot) now ∙ split_if_long l.name (is_loose l.state) s

slept_by_long : {C : Type 0} (number : C → ℕ) (slot : ℕ) (o : Option Label) (s : Acting C) → IsAsLong s (option_map_or (λ (l : Label). cond (is_asleep l.state) s (rested_at number slot (split_if_loose l s))) o s)
slept_by_long number slot None s = refl
slept_by_long number slot (Some l) s = slept_if_long number slot l (is_asleep l.state) s

pub slept_long : {C : Type 0} (number : C → ℕ) (slot : ℕ) (s : Acting C) → IsAsLong s (slept_at number slot s)
unfolding slept_at
slept_long number slot s = slept_by_long number slot (label_at s.labels slot) s

picked_long : {C : Type 0} (o : Option ℕ) (s : Acting C) → IsAsLong s (split_picked o s)
picked_long None s = refl
picked_long (Some name) s = split_at_long name s

pub phase_long : {C : Type 0} (number : C → ℕ) (timers : List ℕ) (s : Acting C) → IsAsLong s (sleep_phase number timers s)
phase_long {C} number timers s =
    let now : Acting C = split_picked (picked_to_split s.labels timers) s in
    all_rest_long number (ready false now.labels timers) now ∙ picked_long (picked_to_split s.labels timers) s

pub gone_long : {C : Type 0} (number : C → ℕ) (slot : ℕ) (s : Acting C) → IsAsLong s (mover_gone number slot s)
unfolding mover_gone taken_out
gone_long number slot s = without_long (label_at s.labels slot) slot s.labels

-- ---- a mover that comes

added_long : (labels : Labels) (slot : ℕ) → slot < length labels → length (added labels slot) ≡ length labels
added_long labels slot h = grind (arith, common_steps)

-- into a slot that there is
pub made_long : {C : Type 0} (slot : ℕ) (s : Acting C) → slot < length s.labels → IsAsLong s (mover_made slot s)
unfolding mover_made
made_long slot s h = added_long s.labels slot h

-- ---- the same labels, however long the lists

abbrev pub AreSame : Labels → Labels → Type 0
AreSame a b = (k : ℕ) → label_at a k ≡ label_at b k

islands_same : (R : ℕ → ℕ → Type 0) (a b : Labels) → AreSame a b → AreIslands R b → AreIslands R a
islands_same R a b same w = record {
  partition = record {
    low = λ s l e. w.partition.low s l (sym (same s) ∙ e);
    named = λ s l e. same l.name ∙ w.partition.named s l (sym (same s) ∙ e);
  };
  together = λ s t r. let o = w.together s t r in (o.0, same s ∙ o.1, same t ∙ o.2);
  connected = λ s t l e f n. w.connected s t l (sym (same s) ∙ e) (sym (same t) ∙ f) n;
}

awake_same : (a b : Labels) → AreSame a b → (s : ℕ) → is_mover_awake a s ≡ is_mover_awake b s
awake_same a b same s = ap (λ (o : Option Label). awake_label o) (same s)

second_same : (a b : Labels) → AreSame a b → (o : Option ℕ) → option_map_or (is_mover_awake a) o true ≡ option_map_or (is_mover_awake b) o true
second_same a b same None = refl
second_same a b same (Some s) = awake_same a b same s

both_same : (a b : Labels) → AreSame a b → (m : Movers) → are_awake a m ≡ are_awake b m
both_same a b same m = ap₂ (λ (x y : Bool). x && y) (awake_same a b same m.first) (second_same a b same m.second)

movers_same : (a b : Labels) → AreSame a b → (m : Movers) → AreMovers b m → AreMovers a m
movers_same a b same m h = record {
  first = (h.first.0, same m.first ∙ h.first.1);
  second = λ s e. let o = h.second s e in (o.0, same s ∙ o.1);
}

pub wide_consistent : {C : Type 0} (number : C → ℕ) (slot : ℕ) (s : Acting C) → IsConsistent number s → IsConsistent number (widened slot s)
wide_consistent number slot s h =
    let same : AreSame (padded s.labels (slot + 1)) s.labels = λ k. wide_at s.labels (slot + 1) k in
    record {
      rising = h.rising;
      movers = λ m i. movers_same (padded s.labels (slot + 1)) s.labels same m.movers (h.movers m i);
      islands = islands_same (Linked (links_of s.ties)) (padded s.labels (slot + 1)) s.labels same h.islands;
      colouring = h.colouring;
      acting = λ m. (
        (λ i. let o = (h.acting m).0 i in (o.0, both_same (padded s.labels (slot + 1)) s.labels same m.movers ∙ o.1)),
        (λ o. (h.acting m).1 (o.0, sym (both_same (padded s.labels (slot + 1)) s.labels same m.movers) ∙ o.1)),
      );
    }

-- what acts with these labels
pub wide_is : {C : Type 0} (slot : ℕ) (s : Acting C) (labels : Labels) → labels ≡ padded s.labels (slot + 1) → acting s.ties labels s.lists ≡ widened slot s
wide_is slot s labels e = λ j. record { ties = s.ties; labels = e j; lists = s.lists }

pub wide_fits : (labels : Labels) (slot slots : ℕ) → slot < slots → length labels ≤ slots → length (padded labels (slot + 1)) ≤ slots
wide_fits labels slot slots below few = grind (arith, common_steps)

-- one more where the slot is the next one
pub wide_long : (m : Bool) (labels : Labels) (slot n : ℕ) → length labels ≡ n → length (padded (cond m (added labels slot) labels) (slot + 1)) ≡ n + (slot + 1 - n)
wide_long true labels slot n e = grind (arith, common_steps)
wide_long false labels slot n e = grind (arith, common_steps)
