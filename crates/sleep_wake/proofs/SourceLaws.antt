-- What a source tells of sleeping islands holds on where others wake, and where constraints begin and end whose movers
-- are awake.
use Rattle.std.proofs.Common.{◌≡◌, ◌≢◌, ℕ, ◌==◌, ◌||◌, Bool, true, false, not, cond, nat_lt, List, [], ◌∷◌, Option, Some, None, inl, inr, refl, sym, ap, ◌∙◌, subst}
use Rattle.std.specs.Prelude.{filter, Contains}
use Rattle.std.proofs.lemmas.Bool.{cases_eq, false≢true}
use Rattle.std.specs.Option.{option_map_or}
use Rattle.graph_colours.specs.declared.member.Movers.{Movers}
use Rattle.graph_colours.specs.declared.member.Member.{Member}
use Rattle.graph_colours.specs.Members.{AreRising, inserted, without_member}
use Rattle.graph_colours.proofs.Cases.{by_test}
use Rattle.graph_colours.proofs.PlaceLemmas.{not_same}
use Rattle.islands.specs.declared.label.IslandState.{IslandState}
use Rattle.islands.specs.declared.label.IslandState.TheVariants.{Whole, Loose}
use Rattle.islands.specs.declared.label.Label.{Label}
use Rattle.islands.specs.Labels.{Labels, label_at, is_in, is_asleep, is_loose, sleeping_name, relabel, relabelled, with_state, union_label, merged, merged_by, loosened, woken}
use Rattle.islands.specs.Partition.{IsPartition}
use Rattle.islands.proofs.LabelLemmas.{in_is, same_by_name, relabel_at, either_case, either_is, either_to, either_one, others_stay, union_low}
use Rattle.islands.proofs.SplitLemmas.{IsLabelled}
use Rattle.sleep_wake.specs.Acting.{Acting, IsConsistent, is_mover_awake, are_awake}
use Rattle.sleep_wake.specs.Changes.{parted, united, begun, ended, after_change}
use Rattle.sleep_wake.specs.ChangeLists.{IsChange}
use Rattle.sleep_wake.specs.Sleeping.{name_at, split_if_loose}
use Rattle.sleep_wake.specs.SleepPhase.{split_at}
use Rattle.sleep_wake.specs.Sources.{TellsAsleep, is_asleep_under, is_named}
use Rattle.sleep_wake.specs.Waking.{second_in, has_mover_of, set_woken, woken_at, movers_woken}
use Rattle.sleep_wake.specs.declared.change.Change.{Change}
use Rattle.sleep_wake.specs.declared.change.Change.TheVariants.{Begin, End}
use Rattle.sleep_wake.proofs.AwakeLemmas.{awake_as, in_or_out}
use Rattle.sleep_wake.proofs.FoldLemmas.{AreUp, are_up, woken_ready}
use Rattle.sleep_wake.proofs.GatherLemmas.{filter_as, filter_within, or_first, second_with_first}
use Rattle.sleep_wake.proofs.KeptLemmas.{wakes_both}
use Rattle.sleep_wake.proofs.ListLemmas.{one_of}
use Rattle.sleep_wake.proofs.SizeLemmas.{both_ties}

-- ---- sleeping islands

-- an island of this name sleeps
pub record IsSleeper (labels : Labels) (name : ℕ) : Type 0 where
  pub label : Label
  pub at : label_at labels name ≡ Some label
  pub named : label.name ≡ name
  pub asleep : is_asleep label.state ≡ true

sleeper_by : (labels : Labels) (name : ℕ) (l : Label) (t : Bool) → label_at labels name ≡ Some l → is_asleep l.state ≡ t → cond t (Some l.name) None ≡ Some name → IsSleeper labels name
sleeper_by labels name l true at e h = let q : Some l.name ≡ Some name = h in let same : l.name ≡ name = cc in record { label = l; at = at; named = same; asleep = e }
sleeper_by labels name l false at e h = absurd (let no : None ≡ Some name = h in cc)

sleeper_at : (labels : Labels) (name : ℕ) (o : Option Label) → label_at labels name ≡ o → sleeping_name o ≡ Some name → IsSleeper labels name
sleeper_at labels name None at h = absurd (let no : None ≡ Some name = h in cc)
sleeper_at labels name (Some l) at h = sleeper_by labels name l (is_asleep l.state) at refl h

pub sleeper_of : (labels : Labels) (name : ℕ) → name_at labels name ≡ Some name → IsSleeper labels name
sleeper_of labels name h = sleeper_at labels name (label_at labels name) refl h

-- the island that has this label, if it sleeps
pub named_asleep : (labels : Labels) (l : Label) → label_at labels l.name ≡ Some l → is_asleep l.state ≡ true → name_at labels l.name ≡ Some l.name
named_asleep labels l at e = ap sleeping_name at ∙ ap (λ (t : Bool). cond t (Some l.name) None) e

-- no awake mover is in it
pub awake_outside : (labels : Labels) (name t : ℕ) → IsPartition labels → IsSleeper labels name → is_mover_awake labels t ≡ true → is_in (label_at labels t) name ≡ false
awake_outside labels name t p s up = elim (in_or_out labels name t) [
  | inl k ↦ absurd (false≢true (sym (awake_as labels name t s.label p s.at s.named k ∙ ap not s.asleep) ∙ up))
  | inr k ↦ k
]

second_outside : (labels : Labels) (name : ℕ) (o : Option ℕ) → ((b : ℕ) → o ≡ Some b → is_in (label_at labels b) name ≡ false) → second_in labels name o ≡ false
second_outside labels name None h = refl
second_outside labels name (Some b) h = h b refl

-- no constraint whose movers are awake is its
pub not_of : {C : Type 0} (labels : Labels) (name : ℕ) (m : Member C) → IsPartition labels → IsSleeper labels name → AreUp labels m.movers → has_mover_of labels name m ≡ false
not_of labels name m p s up =
    let one : is_in (label_at labels m.movers.first) name ≡ false = awake_outside labels name m.movers.first p s up.first in
    let two : second_in labels name m.movers.second ≡ false = second_outside labels name m.movers.second (λ b e. awake_outside labels name b p s (up.second b e)) in
    rw (one, two) refl

-- ---- labels

-- Whoever gives a sleeping island its name did so before, and the island has the movers that it had.
pub record KeepSleepers (old new : Labels) : Type 0 where
  pub slept : (name : ℕ) → name_at new name ≡ Some name → name_at old name ≡ Some name
  pub members : (name : ℕ) → name_at new name ≡ Some name → (t : ℕ) → is_in (label_at new t) name ≡ is_in (label_at old t) name

sleepers_same : (labels : Labels) → KeepSleepers labels labels
sleepers_same labels = record { slept = λ name h. h; members = λ name h t. refl }

-- an island that gets a state in which it doesn't sleep
stated_slept : (labels : Labels) (n name : ℕ) (state : IslandState) → is_asleep state ≡ false → name_at (with_state n state labels) name ≡ Some name → name_at labels name ≡ Some name
stated_slept labels n name state up h =
    let to : Label = record { name = n; state = state } in
    elim (either_case n n (label_at labels name)) [
      | inl k ↦
          let awake : name_at (with_state n state labels) name ≡ None = ap sleeping_name (either_to n n to labels name k) ∙ ap (λ (t : Bool). cond t (Some n) None) up in
          absurd (let no : None ≡ Some name = sym awake ∙ h in cc)
      | inr k ↦ sym (ap sleeping_name (others_stay n n to labels name k)) ∙ h
    ]

stated_in : (n : ℕ) (to : Label) (o : Option Label) (name : ℕ) → to.name ≡ n → is_in (relabel n n to o) name ≡ is_in o name
stated_in n to o name e = elim (either_case n n o) [
  | inl k ↦
      let i = in_is o n (either_one n o k) in
      let now : relabel n n to o ≡ Some to = rw k refl in
      ap (λ (v : Option Label). is_in v name) now ∙ ap (λ (x : ℕ). x == name) (e ∙ sym i.2) ∙ sym (ap (λ (v : Option Label). is_in v name) i.1)
  | inr k ↦ let now : relabel n n to o ≡ o = rw k refl in ap (λ (v : Option Label). is_in v name) now
]

stated_sleepers : (labels : Labels) (n : ℕ) (state : IslandState) → is_asleep state ≡ false → KeepSleepers labels (with_state n state labels)
stated_sleepers labels n state up =
    let to : Label = record { name = n; state = state } in
    record {
      slept = λ name h. stated_slept labels n name state up h;
      members = λ name h t. ap (λ (v : Option Label). is_in v name) (relabel_at n n to labels t) ∙ stated_in n to (label_at labels t) name refl;
    }

loosened_sleepers : (labels : Labels) (o : Option Label) → KeepSleepers labels (option_map_or (λ (label : Label). with_state label.name Loose labels) o labels)
loosened_sleepers labels None = sleepers_same labels
loosened_sleepers labels (Some l) = stated_sleepers labels l.name Loose refl

parted_sleepers : (labels : Labels) (first : ℕ) (o : Option ℕ) → KeepSleepers labels (parted o first labels)
unfolding loosened
parted_sleepers labels first None = sleepers_same labels
parted_sleepers labels first (Some b) = loosened_sleepers labels (label_at labels first)

-- two awake islands that become one
union_up_by : (t : Bool) → is_asleep (cond t Loose Whole) ≡ false
union_up_by true = refl
union_up_by false = refl

union_up : (x y : Label) → is_asleep (union_label x y).state ≡ false
union_up x y = union_up_by (is_loose x.state || is_loose y.state)

awake_name : (labels : Labels) (name t : ℕ) (l : Label) → IsPartition labels → IsSleeper labels name → label_at labels t ≡ Some l → is_mover_awake labels t ≡ true → (l.name == name) ≡ false
awake_name labels name t l p s e up = sym (ap (λ (v : Option Label). is_in v name) e) ∙ awake_outside labels name t p s up

union_off : (x y : Label) (name : ℕ) → (x.name == name) ≡ false → (y.name == name) ≡ false → ((union_label x y).name == name) ≡ false
union_off x y name off_x off_y = elim (union_low x y).0 [
  | inl r ↦ ap (λ (n : ℕ). n == name) r ∙ off_x
  | inr r ↦ ap (λ (n : ℕ). n == name) r ∙ off_y
]

union_slept : (labels : Labels) (x y : Label) (name : ℕ) → name_at (relabelled x.name y.name (union_label x y) labels) name ≡ Some name → name_at labels name ≡ Some name
union_slept labels x y name h =
    let to : Label = union_label x y in
    let new : Labels = relabelled x.name y.name to labels in
    elim (either_case x.name y.name (label_at labels name)) [
      | inl k ↦
          let awake : name_at new name ≡ None = ap sleeping_name (either_to x.name y.name to labels name k) ∙ ap (λ (t : Bool). cond t (Some to.name) None) (union_up x y) in
          absurd (let no : None ≡ Some name = sym awake ∙ h in cc)
      | inr k ↦ sym (ap sleeping_name (others_stay x.name y.name to labels name k)) ∙ h
    ]

union_members : (labels : Labels) (a b : ℕ) (x y : Label) (name t : ℕ) → IsPartition labels → IsSleeper labels name → label_at labels a ≡ Some x → label_at labels b ≡ Some y → is_mover_awake labels a ≡ true → is_mover_awake labels b ≡ true
    → is_in (label_at (relabelled x.name y.name (union_label x y) labels) t) name ≡ is_in (label_at labels t) name
union_members labels a b x y name t p s e f h k =
    let to : Label = union_label x y in
    let new : Labels = relabelled x.name y.name to labels in
    let off_x : (x.name == name) ≡ false = awake_name labels name a x p s e h in
    let off_y : (y.name == name) ≡ false = awake_name labels name b y p s f k in
    elim (either_case x.name y.name (label_at labels t)) [
      | inl m ↦
          let i = either_is x.name y.name (label_at labels t) m in
          let off : (i.0.name == name) ≡ false = elim i.2 [ inl r ↦ ap (λ (n : ℕ). n == name) r ∙ off_x | inr r ↦ ap (λ (n : ℕ). n == name) r ∙ off_y ] in
          let now : is_in (label_at new t) name ≡ false = ap (λ (v : Option Label). is_in v name) (either_to x.name y.name to labels t m) ∙ union_off x y name off_x off_y in
          now ∙ sym (ap (λ (v : Option Label). is_in v name) i.1 ∙ off)
      | inr m ↦ ap (λ (v : Option Label). is_in v name) (others_stay x.name y.name to labels t m)
    ]

merged_sleepers : (labels : Labels) (a b : ℕ) (x y : Label) → IsPartition labels → label_at labels a ≡ Some x → label_at labels b ≡ Some y → is_mover_awake labels a ≡ true → is_mover_awake labels b ≡ true → KeepSleepers labels (merged labels a b)
unfolding merged
merged_sleepers labels a b x y p e f h k =
    let is : merged labels a b ≡ relabelled x.name y.name (union_label x y) labels = ap (λ (v : Option Label). merged_by v (label_at labels b) labels) e ∙ ap (λ (v : Option Label). merged_by (Some x) v labels) f in
    subst (λ (v : Labels). KeepSleepers labels v) (sym is) (record {
      slept = λ name q. union_slept labels x y name q;
      members = λ name q t. union_members labels a b x y name t p (sleeper_of labels name (union_slept labels x y name q)) e f h k;
    })

united_sleepers : (labels : Labels) (first : ℕ) (o : Option ℕ) → IsPartition labels → IsLabelled labels first → ((b : ℕ) → o ≡ Some b → IsLabelled labels b) → is_mover_awake labels first ≡ true → ((b : ℕ) → o ≡ Some b → is_mover_awake labels b ≡ true) → KeepSleepers labels (united o first labels)
united_sleepers labels first None p i j h k = sleepers_same labels
united_sleepers labels first (Some b) p i j h k = let y = j b refl in merged_sleepers labels first b i.0 y.0 p i.1 y.1 h (k b refl)

-- ---- constraints

-- Whoever gives a sleeping island its name did so before, and the island has the constraints that it had.
pub record KeepAsleep {C : Type 0} (old new : Acting C) : Type 0 where
  pub slept : (name : ℕ) → name_at new.labels name ≡ Some name → name_at old.labels name ≡ Some name
  pub ties : (name : ℕ) → name_at new.labels name ≡ Some name → filter (has_mover_of new.labels name) new.ties ≡ filter (has_mover_of old.labels name) old.ties

keep_same : {C : Type 0} (s : Acting C) → KeepAsleep s s
keep_same s = record { slept = λ name h. h; ties = λ name h. refl }

pub keep_then : {C : Type 0} (a b c : Acting C) → KeepAsleep a b → KeepAsleep b c → KeepAsleep a c
keep_then a b c f g = record { slept = λ name h. f.slept name (g.slept name h); ties = λ name h. g.ties name h ∙ f.ties name (g.slept name h) }

second_same : (old new : Labels) (name : ℕ) (o : Option ℕ) → ((t : ℕ) → is_in (label_at new t) name ≡ is_in (label_at old t) name) → second_in new name o ≡ second_in old name o
second_same old new name None h = refl
second_same old new name (Some b) h = h b

same_movers : {C : Type 0} (old new : Labels) (name : ℕ) (m : Member C) → ((t : ℕ) → is_in (label_at new t) name ≡ is_in (label_at old t) name) → has_mover_of new name m ≡ has_mover_of old name m
same_movers old new name m h =
    ap (λ (t : Bool). t || second_in new name m.movers.second) (h m.movers.first)
    ∙ ap (λ (t : Bool). is_in (label_at old m.movers.first) name || t) (second_same old new name m.movers.second h)

keep_by : {C : Type 0} (old new : Acting C) → KeepSleepers old.labels new.labels → ((name : ℕ) → IsSleeper old.labels name → filter (has_mover_of old.labels name) new.ties ≡ filter (has_mover_of old.labels name) old.ties) → KeepAsleep old new
keep_by old new k same = record {
  slept = k.slept;
  ties = λ name h.
      filter_as (has_mover_of new.labels name) (has_mover_of old.labels name) new.ties (λ m there. same_movers old.labels new.labels name m (k.members name h))
      ∙ same name (sleeper_of old.labels name (k.slept name h));
}

-- what comes and isn't of the island
inserted_out : {C : Type 0} (number : C → ℕ) (p : Member C → Bool) (m : Member C) (ms : List (Member C)) → p m ≡ false → filter p (inserted number m ms) ≡ filter p ms
inserted_out number p m [] off = rw off refl
inserted_out {C} number p m (x ∷ xs) off = by_test (λ (l : List (Member C)). filter p l ≡ filter p (x ∷ xs)) (nat_lt (number x.id) (number m.id)) (x ∷ inserted number m xs) (m ∷ x ∷ xs)
    (λ q. ap (λ (l : List (Member C)). cond (p x) (x ∷ l) l) (inserted_out number p m xs off))
    (λ q. ap (λ (t : Bool). cond t (m ∷ filter p (x ∷ xs)) (filter p (x ∷ xs))) off)

-- what goes and isn't of the island
without_out : {C : Type 0} (number : C → ℕ) (p : Member C → Bool) (m : Member C) (ms : List (Member C)) → AreRising number ms → Contains ms m → p m ≡ false → filter p (without_member number m.id ms) ≡ filter p ms
unfolding without_member
without_out number p m ms rising there off = filter_within p (λ x. not (number x.id == number m.id)) ms (λ x h q. elim (cases_eq (number x.id) (number m.id)) [
  | inl same ↦ absurd (false≢true (sym off ∙ ap p (sym (one_of number ms x m rising h there same)) ∙ q))
  | inr away ↦ ap not (not_same (number x.id) (number m.id) away)
])

-- ---- an island wakes

woken_set_keeps : {C : Type 0} (number : C → ℕ) (n : ℕ) (s : Acting C) → KeepAsleep s (set_woken number n s)
unfolding set_woken woken
woken_set_keeps number n s = keep_by s (set_woken number n s) (stated_sleepers s.labels n Whole refl) (λ name h. refl)

woken_if_keeps : {C : Type 0} (number : C → ℕ) (n : ℕ) (t : Bool) (s : Acting C) → KeepAsleep s (cond t (set_woken number n s) s)
woken_if_keeps number n true s = woken_set_keeps number n s
woken_if_keeps number n false s = keep_same s

woken_by_keeps : {C : Type 0} (number : C → ℕ) (o : Option Label) (s : Acting C) → KeepAsleep s (option_map_or (λ (l : Label). cond (is_asleep l.state) (set_woken number l.name s) s) o s)
woken_by_keeps number None s = keep_same s
woken_by_keeps number (Some l) s = woken_if_keeps number l.name (is_asleep l.state) s

pub woken_keeps : {C : Type 0} (number : C → ℕ) (slot : ℕ) (s : Acting C) → KeepAsleep s (woken_at number slot s)
unfolding woken_at
woken_keeps number slot s = woken_by_keeps number (label_at s.labels slot) s

second_keeps : {C : Type 0} (number : C → ℕ) (o : Option ℕ) (s : Acting C) → KeepAsleep s (option_map_or (λ slot. woken_at number slot s) o s)
second_keeps number None s = keep_same s
second_keeps number (Some slot) s = woken_keeps number slot s

pub both_keep : {C : Type 0} (number : C → ℕ) (m : Movers) (s : Acting C) → KeepAsleep s (movers_woken number m s)
both_keep number m s = keep_then s (woken_at number m.first s) (movers_woken number m s) (woken_keeps number m.first s) (second_keeps number m.second (woken_at number m.first s))

-- ---- a constraint begins or ends

pub begun_keeps : {C : Type 0} (number : C → ℕ) (m : Member C) (s : Acting C) → IsConsistent number s → are_awake s.labels m.movers ≡ true → KeepAsleep s (begun number m s)
unfolding begun
begun_keeps number m s w a =
    let up = are_up s.labels m.movers a in
    keep_by s (begun number m s) (united_sleepers s.labels m.movers.first m.movers.second w.islands.partition up.movers.first up.movers.second up.first up.second)
    (λ name h. inserted_out number (has_mover_of s.labels name) m s.ties (not_of s.labels name m w.islands.partition h up))

pub ended_keeps : {C : Type 0} (number : C → ℕ) (m : Member C) (s : Acting C) → IsConsistent number s → Contains s.ties m → are_awake s.labels m.movers ≡ true → KeepAsleep s (ended number m s)
unfolding ended
ended_keeps number m s w there a =
    let up = are_up s.labels m.movers a in
    keep_by s (ended number m s) (parted_sleepers s.labels m.movers.first m.movers.second)
    (λ name h. without_out number (has_mover_of s.labels name) m s.ties w.rising there (not_of s.labels name m w.islands.partition h up))

pub changed_keeps : {C : Type 0} (number : C → ℕ) (c : Change C) (s : Acting C) → IsConsistent number s → IsChange number s.labels s.ties c → KeepAsleep s (after_change number c s)
changed_keeps {C} number (Begin m) s w h =
    let now : Acting C = movers_woken number m.movers s in
    keep_then s now (begun number m now) (both_keep number m.movers s) (begun_keeps number m now (wakes_both number m.movers.first m.movers.second s w).consistent (woken_ready number m.movers s w h.1))
changed_keeps {C} number (End m) s w h =
    let now : Acting C = movers_woken number m.movers s in
    let there : Contains now.ties m = subst (λ (l : List (Member C)). Contains l m) (sym (both_ties number m.movers s)) h in
    keep_then s now (ended number m now) (both_keep number m.movers s) (ended_keeps number m now (wakes_both number m.movers.first m.movers.second s w).consistent there (woken_ready number m.movers s w (w.movers m h)))

-- ---- what the source tells

pub tells_on : {C : Type 0} (names : ℕ → Option ℕ) (told : List (Member C)) (old new : Acting C) → KeepAsleep old new → TellsAsleep names told old.labels old.ties → TellsAsleep names told new.labels new.ties
tells_on names told old new k t = record { each = λ name h. t.each name (k.slept name h) ∙ sym (k.ties name h) }

named_by : (l : Label) (name : ℕ) (t : Bool) → is_asleep l.state ≡ t → (l.name ≡ name → is_asleep l.state ≡ true) → is_named name (cond t (Some l.name) None) ≡ (l.name == name)
named_by l name true e f = refl
named_by l name false e f = sym (not_same l.name name (λ q. false≢true (sym e ∙ f q)))

named_at : (labels : Labels) (name t : ℕ) (o : Option Label) → label_at labels t ≡ o → IsPartition labels → IsSleeper labels name → is_named name (sleeping_name o) ≡ is_in o name
named_at labels name t None e p s = refl
named_at labels name t (Some l) e p s = named_by l name (is_asleep l.state) refl (λ q. ap (λ (v : Label). is_asleep v.state) (same_by_name labels t name l s.label p e s.at (q ∙ sym s.named)) ∙ s.asleep)

-- a source that knows all constraints and who sleeps as they are
pub tells_now : {C : Type 0} (number : C → ℕ) (names : ℕ → Option ℕ) (told : List (Member C)) (s : Acting C) → IsConsistent number s → told ≡ s.ties → ((m : Member C) → Contains s.ties m → names m.movers.first ≡ name_at s.labels m.movers.first) → TellsAsleep names told s.labels s.ties
tells_now {C} number names told s w same known = record {
  each = λ name h.
      let sleeper = sleeper_of s.labels name h in
      ap (λ (l : List (Member C)). filter (is_asleep_under names name) l) same
      ∙ filter_as (is_asleep_under names name) (has_mover_of s.labels name) s.ties (λ m there.
      ap (is_named name) (known m there)
      ∙ named_at s.labels name m.movers.first (label_at s.labels m.movers.first) refl w.islands.partition sleeper
      ∙ or_first (is_in (label_at s.labels m.movers.first) name) (second_in s.labels name m.movers.second) (second_with_first s.ties s.labels name m m.movers.second w.islands there refl));
}

-- ---- a loose island is split first

split_ties_by : {C : Type 0} (name : ℕ) (t : Bool) (s : Acting C) → (cond t (split_at name s) s).ties ≡ s.ties
unfolding split_at
split_ties_by name true s = refl
split_ties_by name false s = refl

pub split_if_ties : {C : Type 0} (l : Label) (s : Acting C) → (split_if_loose l s).ties ≡ s.ties
split_if_ties l s = split_ties_by l.name (is_loose l.state) s
