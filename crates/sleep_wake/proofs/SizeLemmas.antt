-- How many slots have labels, and how many constraints there are, once islands wake and rest and constraints come and
-- go.
use Rattle.std.proofs.Common.{◌≡◌, ℕ, suc, ◌+◌, ◌<◌, ◌≤◌, ◌==◌, Bool, true, false, not, cond, List, [], ◌∷◌, Option, Some, None, length, slice_set, refl, ap, ◌∙◌, arith}
use Rattle.std.specs.Prelude.{nat_lt, filter}
use Rattle.std.proofs.lemmas.Grind.{common_steps}
use Rattle.std.proofs.lemmas.List.{length-map, length-set}
use Rattle.std.proofs.lemmas.List.Filters.{length-filter_both}
use Rattle.std.proofs.lemmas.List.Sorted.{length_permutation}
use Rattle.std.specs.Option.{option_map_or}
use Rattle.graph_colours.specs.declared.member.Movers.{Movers}
use Rattle.graph_colours.specs.declared.member.Member.{Member}
use Rattle.graph_colours.specs.Movers.{has_mover}
use Rattle.graph_colours.specs.Members.{inserted, without_member}
use Rattle.graph_colours.specs.Colours.{with_placed, released}
use Rattle.graph_colours.proofs.ListLemmas.{same_inserted}
use Rattle.islands.specs.declared.label.IslandState.TheVariants.{Whole, Loose, Asleep}
use Rattle.islands.specs.declared.label.Label.{Label}
use Rattle.islands.specs.Labels.{Labels, label_at, relabel, relabelled, added, is_asleep, merged, merged_by, loosened, taken_out, split_by, lowest_member, rested, woken, with_state}
use Rattle.islands.specs.Labels as labelled
use Rattle.sleep_wake.specs.Acting.{Acting, acting}
use Rattle.sleep_wake.specs.Changes.{parted, united, begun, ended}
use Rattle.sleep_wake.specs.Bodies.{mover_made, mover_gone}
use Rattle.sleep_wake.specs.SleepPhase.{split_at, edges_in}
use Rattle.sleep_wake.specs.Waking.{set_woken, woken_at, movers_woken, put_to_rest}

relabelled_size : (a b : ℕ) (to : Label) (labels : Labels) → length (relabelled a b to labels) ≡ length labels
relabelled_size a b to labels = length-map labels (relabel a b to)

merged_by_size : (x y : Option Label) (labels : Labels) → length (merged_by x y labels) ≡ length labels
merged_by_size None y labels = refl
merged_by_size (Some x) None labels = refl
merged_by_size (Some x) (Some y) labels = length-map labels _

merged_size : (labels : Labels) (a b : ℕ) → length (merged labels a b) ≡ length labels
unfolding merged
merged_size labels a b = merged_by_size (label_at labels a) (label_at labels b) labels

pub united_size : (o : Option ℕ) (first : ℕ) (labels : Labels) → length (united o first labels) ≡ length labels
united_size None first labels = refl
united_size (Some b) first labels = merged_size labels first b

loosened_by_size : (o : Option Label) (labels : Labels) → length (option_map_or (λ (label : Label). with_state label.name Loose labels) o labels) ≡ length labels
loosened_by_size None labels = refl
loosened_by_size (Some l) labels = relabelled_size l.name l.name (record { name = l.name; state = Loose }) labels

pub parted_size : (o : Option ℕ) (first : ℕ) (labels : Labels) → length (parted o first labels) ≡ length labels
unfolding loosened
parted_size None first labels = refl
parted_size (Some b) first labels = loosened_by_size (label_at labels first) labels

left_size : (t : Bool) (low name : ℕ) (labels : Labels) → length (cond t (relabelled name name (record { name = low; state = Loose }) labels) labels) ≡ length labels
left_size true low name labels = relabelled_size name name (record { name = low; state = Loose }) labels
left_size false low name labels = refl

gone_size : (o : Option Label) (slot : ℕ) (labels : Labels) → length (option_map_or (λ (label : Label). labelled.left_behind (lowest_member label.name (slice_set labels slot None)) label.name (slice_set labels slot None)) o labels) ≡ length labels
gone_size None slot labels = refl
gone_size (Some l) slot labels =
    let rest : Labels = slice_set labels slot None in
    left_size (nat_lt (lowest_member l.name rest) (length rest)) (lowest_member l.name rest) l.name rest ∙ length-set labels slot None

pub taken_out_size : (labels : Labels) (slot : ℕ) → length (taken_out labels slot) ≡ length labels
unfolding taken_out
taken_out_size labels slot = gone_size (label_at labels slot) slot labels

pub added_fits : (labels : Labels) (slot slots : ℕ) → slot < slots → length labels ≤ slots → length (added labels slot) ≤ slots
added_fits labels slot slots lt few = grind (arith, common_steps)

-- ---- islands wake and rest

set_woken_size : {C : Type 0} (number : C → ℕ) (name : ℕ) (s : Acting C) → length (set_woken number name s).labels ≡ length s.labels
unfolding set_woken woken
set_woken_size number name s = relabelled_size name name (record { name = name; state = Whole }) s.labels

woken_if_size : {C : Type 0} (number : C → ℕ) (name : ℕ) (t : Bool) (s : Acting C) → length (cond t (set_woken number name s) s).labels ≡ length s.labels
woken_if_size number name true s = set_woken_size number name s
woken_if_size number name false s = refl

woken_by_size : {C : Type 0} (number : C → ℕ) (o : Option Label) (s : Acting C) → length (option_map_or (λ (l : Label). cond (is_asleep l.state) (set_woken number l.name s) s) o s).labels ≡ length s.labels
woken_by_size number None s = refl
woken_by_size number (Some l) s = woken_if_size number l.name (is_asleep l.state) s

pub woken_size : {C : Type 0} (number : C → ℕ) (slot : ℕ) (s : Acting C) → length (woken_at number slot s).labels ≡ length s.labels
unfolding woken_at
woken_size number slot s = woken_by_size number (label_at s.labels slot) s

second_size : {C : Type 0} (number : C → ℕ) (o : Option ℕ) (s : Acting C) → length (option_map_or (λ slot. woken_at number slot s) o s).labels ≡ length s.labels
second_size number None s = refl
second_size number (Some slot) s = woken_size number slot s

pub both_size : {C : Type 0} (number : C → ℕ) (m : Movers) (s : Acting C) → length (movers_woken number m s).labels ≡ length s.labels
both_size number m s = second_size number m.second (woken_at number m.first s) ∙ woken_size number m.first s

pub rested_size : {C : Type 0} (number : C → ℕ) (name : ℕ) (s : Acting C) → length (put_to_rest number name s).labels ≡ length s.labels
unfolding put_to_rest rested
rested_size number name s = relabelled_size name name (record { name = name; state = Asleep }) s.labels

-- ---- the same constraints

set_woken_ties : {C : Type 0} (number : C → ℕ) (name : ℕ) (t : Bool) (s : Acting C) → (cond t (set_woken number name s) s).ties ≡ s.ties
unfolding set_woken
set_woken_ties number name true s = refl
set_woken_ties number name false s = refl

woken_by_ties : {C : Type 0} (number : C → ℕ) (o : Option Label) (s : Acting C) → (option_map_or (λ (l : Label). cond (is_asleep l.state) (set_woken number l.name s) s) o s).ties ≡ s.ties
woken_by_ties number None s = refl
woken_by_ties number (Some l) s = set_woken_ties number l.name (is_asleep l.state) s

pub woken_ties : {C : Type 0} (number : C → ℕ) (slot : ℕ) (s : Acting C) → (woken_at number slot s).ties ≡ s.ties
unfolding woken_at
woken_ties number slot s = woken_by_ties number (label_at s.labels slot) s

second_ties : {C : Type 0} (number : C → ℕ) (o : Option ℕ) (s : Acting C) → (option_map_or (λ slot. woken_at number slot s) o s).ties ≡ s.ties
second_ties number None s = refl
second_ties number (Some slot) s = woken_ties number slot s

pub both_ties : {C : Type 0} (number : C → ℕ) (m : Movers) (s : Acting C) → (movers_woken number m s).ties ≡ s.ties
both_ties number m s = second_ties number m.second (woken_at number m.first s) ∙ woken_ties number m.first s

pub inserted_size : {C : Type 0} (number : C → ℕ) (m : Member C) (ties : List (Member C)) → length (inserted number m ties) ≡ length ties + 1
inserted_size number m ties =
    let e : length (inserted number m ties) ≡ suc (length ties) = length_permutation (m ∷ ties) (inserted number m ties) (same_inserted number m ties) in
    omega (arith, e)

pub without_fewer : {C : Type 0} (number : C → ℕ) (id : C) (ties : List (Member C)) → length (without_member number id ties) ≤ length ties
unfolding without_member
without_fewer {C} number id ties =
    let p : Member C → Bool = λ m. number m.id == number id in
    let q : Member C → Bool = λ m. not (number m.id == number id) in
    let both : length (filter p ties) + length (filter q ties) ≡ length ties = length-filter_both p q (λ x. refl) ties in
    omega (arith, both)

-- ---- the calls of the sets

pub rested_ties : {C : Type 0} (number : C → ℕ) (name : ℕ) (s : Acting C) → (put_to_rest number name s).ties ≡ s.ties
unfolding put_to_rest
rested_ties number name s = refl

pub begun_size : {C : Type 0} (number : C → ℕ) (m : Member C) (s : Acting C) → length (begun number m s).labels ≡ length s.labels
unfolding begun
begun_size number m s = united_size m.movers.second m.movers.first s.labels

pub ended_size : {C : Type 0} (number : C → ℕ) (m : Member C) (s : Acting C) → length (ended number m s).labels ≡ length s.labels
unfolding ended
ended_size number m s = parted_size m.movers.second m.movers.first s.labels

pub ended_fewer : {C : Type 0} (number : C → ℕ) (m : Member C) (s : Acting C) → length (ended number m s).ties ≤ length s.ties
unfolding ended
ended_fewer number m s = without_fewer number m.id s.ties

pub begun_is : {C : Type 0} (number : C → ℕ) (m : Member C) (s : Acting C) (ties : List (Member C)) (labels : Labels) (lists : List (List (Member C))) → ties ≡ inserted number m s.ties → labels ≡ united m.movers.second m.movers.first s.labels → lists ≡ with_placed number m s.lists → acting ties labels lists ≡ begun number m s
unfolding begun
begun_is number m s ties labels lists more together placed = λ i. record { ties = more i; labels = together i; lists = placed i }

pub ended_is : {C : Type 0} (number : C → ℕ) (m : Member C) (s : Acting C) (ties : List (Member C)) (labels : Labels) (lists : List (List (Member C))) → ties ≡ without_member number m.id s.ties → labels ≡ parted m.movers.second m.movers.first s.labels → lists ≡ released number m.id s.lists → acting ties labels lists ≡ ended number m s
unfolding ended
ended_is number m s ties labels lists fewer apart out = λ i. record { ties = fewer i; labels = apart i; lists = out i }

-- the island of the mover whose slot names it
pub woken_is : {C : Type 0} (number : C → ℕ) (l : Label) (s : Acting C) → label_at s.labels l.name ≡ Some l → is_asleep l.state ≡ true → woken_at number l.name s ≡ set_woken number l.name s
unfolding woken_at
woken_is {C} number l s here down = ap (λ (o : Option Label). option_map_or (λ (l : Label). cond (is_asleep l.state) (set_woken number l.name s) s) o s) here ∙ ap (λ (t : Bool). cond t (set_woken number l.name s) s) down

pub made_is : {C : Type 0} (slot : ℕ) (s : Acting C) (labels : Labels) → labels ≡ added s.labels slot → acting s.ties labels s.lists ≡ mover_made slot s
unfolding mover_made
made_is slot s labels e = ap (λ (v : Labels). acting s.ties v s.lists) e

pub splits_is : {C : Type 0} (name : ℕ) (s : Acting C) (labels : Labels) → labels ≡ split_by s.labels name (edges_in s.labels name s.ties) → acting s.ties labels s.lists ≡ split_at name s
unfolding split_at
splits_is name s labels e = ap (λ (v : Labels). acting s.ties v s.lists) e

-- where a mover is in no constraint, none goes with it
stays_by : {C : Type 0} (p : Member C → Bool) (m : Member C) (ties : List (Member C)) (t : Bool) → p m ≡ t → cond t (m ∷ filter p ties) (filter p ties) ≡ [] → (filter p ties ≡ [] → filter (λ x. not (p x)) ties ≡ ties) → cond (not t) (m ∷ filter (λ x. not (p x)) ties) (filter (λ x. not (p x)) ties) ≡ m ∷ ties
stays_by p m ties true e none f = absurd (let some : m ∷ filter p ties ≡ [] = none in cc)
stays_by p m ties false e none f = ap (λ rest. m ∷ rest) (f none)

all_stay : {C : Type 0} (p : Member C → Bool) (ties : List (Member C)) → filter p ties ≡ [] → filter (λ m. not (p m)) ties ≡ ties
all_stay p [] none = refl
all_stay {C} p (m ∷ ties) none = stays_by p m ties (p m) refl none (λ h. all_stay p ties h)

pub gone_is : {C : Type 0} (number : C → ℕ) (slot : ℕ) (s : Acting C) (labels : Labels) → filter (λ m. has_mover m.movers slot) s.ties ≡ [] → labels ≡ taken_out s.labels slot → acting s.ties labels s.lists ≡ mover_gone number slot s
unfolding mover_gone
gone_is {C} number slot s labels none e =
    let p : Member C → Bool = λ m. has_mover m.movers slot in
    let stay : filter (λ m. not (p m)) s.ties ≡ s.ties = all_stay p s.ties none in
    rw (none, stay) (ap (λ (v : Labels). acting s.ties v s.lists) e)
