-- Labels that keep the sets: whoever wakes does so with all of its island, and whoever sleeps keeps its label as others
-- fall asleep.
use Rattle.std.proofs.Common.{◌≡◌, ◌⊎◌, ℕ, ◌<◌, ◌≤◌, ◌&&◌, Bool, true, false, cond, is_some, List, [], ◌∷◌, length, Option, Some, None, inl, inr, refl, sym, ap, ◌∙◌, subst, arith}
use Rattle.std.specs.Prelude.{option_map}
use Rattle.std.specs.Option.{option_map_or}
use Rattle.plain_world.specs.Constraints.{constraint_number}
use Rattle.plain_world.specs.declared.constraint.Constraint.{Constraint}
use Rattle.graph_colours.specs.declared.member.Member.{Member}
use Rattle.graph_colours.specs.declared.member.Movers.{Movers}
use Rattle.islands.specs.declared.label.IslandState.{IslandState}
use Rattle.islands.specs.declared.label.IslandState.TheVariants.{Whole, Loose, Asleep}
use Rattle.islands.specs.declared.label.Label.{Label}
use Rattle.islands.specs.Labels.{Labels, is_asleep, label_at, loosened, merged, merged_by, relabel, relabelled, sleeping_name, union_label, woken, with_state}
use Rattle.islands.proofs.LabelLemmas.{relabel_at}
use Rattle.plain_world.specs.declared.body.Body.{Body}
use Rattle.plain_world.specs.declared.body.SetName.TheVariants as sets
use Rattle.plain_world.specs.declared.kind.Kind.{Kind}
use Rattle.plain_world.specs.declared.kind.Kind.TheVariants.{Static, Kinematic, Dynamic}
use Rattle.plain_world.specs.Bodies.{AreBodies, IsBody, is_mover, is_mover_in, standing_of}
use Rattle.plain_world.specs.Bodies.{set_of as kind_set}
use Rattle.plain_world.specs.Sleep.{roused, told, told_body, told_by}
use Rattle.plain_world.specs.Slots.{body_at}
use Rattle.sleep_wake.specs.Acting.{Acting, IsConsistent, is_mover_awake}
use Rattle.sleep_wake.specs.Changes.{begun, after_change, ended, parted, after_changes, united}
use Rattle.sleep_wake.specs.Sleeping.{islands_woken}
use Rattle.sleep_wake.specs.Waking.{movers_woken, set_woken, woken_at}
use Rattle.sleep_wake.specs.declared.change.Change.{Change}
use Rattle.sleep_wake.specs.declared.change.Change.TheVariants.{Begin, End}
use Rattle.plain_world.specs.declared.joint.BodyJoint.{BodyJoint}
use Rattle.plain_world.specs.Kinds.{is_dynamic}
use Rattle.solver_sets.specs.Census.{mover_set, set_with, standing_of_joint}
use Rattle.world_core_base.specs.Asleep.{AreNamedAsleep, asleep_in, sleep_with}
use Rattle.world_core_base.specs.Telling.{KeepTogether}
use Rattle.world_core_base.proofs.AsleepLaws.{body_below}
use Rattle.plain_world.specs.Plain.{Plain}
use Rattle.world_core.specs.Inside.{IsWhole}
use Rattle.world_rules.specs.Sets.{acting_of}
use Rattle.world_rules.specs.Sound.{AreTold}
use Rattle.world_rules.specs.World.{World}
use Rattle.solver_sets.specs.Ties.{movers_with}
use Rattle.world_rules.specs.Sets.{stirred}
use Rattle.world_rules.proofs.ActingLaws.{IsWoken, awake_name, waking_kept}
use Rattle.world_rules.proofs.KeptBodies.{IsSeen, seen, stirred_can_go}
use Rattle.world_rules.proofs.PartsLeft.{stirred_slots, woken_bodies}
use Rattle.world_rules.proofs.SoundLaws.{IsKept}
use Rattle.world_core.proofs.PartLaws.{kept_of}
use Rattle.world_rules.proofs.SlotLemmas.{body_at-in}
use Rattle.world_rules.proofs.ToldLaws.{body_told}
use Rattle.world_core.proofs.TellingLaws.{HaveSlept, SleepOn, slept_then, woken_slept}

-- ---- slots with one label have one label after islands wake, merge and get loose

abbrev pub StayAlike : Labels → Labels → Type 0
StayAlike old new = (t u : ℕ) → label_at old t ≡ label_at old u → label_at new t ≡ label_at new u

alike_then : (old now new : Labels) → StayAlike old now → StayAlike now new → StayAlike old new
alike_then old now new h k t u e = k t u (h t u e)

alike_still : (labels : Labels) → StayAlike labels labels
alike_still labels t u e = e

relabelled_alike : (a b : ℕ) (to : Label) (labels : Labels) → StayAlike labels (relabelled a b to labels)
relabelled_alike a b to labels t u e = relabel_at a b to labels t ∙ ap (relabel a b to) e ∙ sym (relabel_at a b to labels u)

woken_alike : (s : Acting Constraint) (slot : ℕ) → StayAlike s.labels (woken_at constraint_number slot s).labels
unfolding woken_at set_woken woken
woken_alike s slot = by_label (label_at s.labels slot)
  where
    by_asleep : (l : Label) (t : Bool) → StayAlike s.labels (cond t (set_woken constraint_number l.name s) s).labels
    by_asleep l true = relabelled_alike l.name l.name (record { name = l.name; state = Whole }) s.labels
    by_asleep l false = alike_still s.labels

    by_label : (o : Option Label) → StayAlike s.labels (option_map_or (λ (l : Label). cond (is_asleep l.state) (set_woken constraint_number l.name s) s) o s).labels
    by_label None = alike_still s.labels
    by_label (Some l) = by_asleep l (is_asleep l.state)

second_alike : (s : Acting Constraint) (o : Option ℕ) → StayAlike s.labels (option_map_or (λ slot. woken_at constraint_number slot s) o s).labels
second_alike s None = alike_still s.labels
second_alike s (Some slot) = woken_alike s slot

movers_alike : (s : Acting Constraint) (m : Member Constraint) → StayAlike s.labels (movers_woken constraint_number m.movers s).labels
movers_alike s m =
    let now : Acting Constraint = woken_at constraint_number m.movers.first s in
    alike_then s.labels now.labels (movers_woken constraint_number m.movers s).labels (woken_alike s m.movers.first) (second_alike now m.movers.second)

merged_alike : (labels : Labels) (x y : Option Label) → StayAlike labels (merged_by x y labels)
merged_alike labels None y = alike_still labels
merged_alike labels (Some x) None = alike_still labels
merged_alike labels (Some x) (Some y) = relabelled_alike x.name y.name (union_label x y) labels

united_alike : (labels : Labels) (first : ℕ) (o : Option ℕ) → StayAlike labels (united o first labels)
unfolding merged
united_alike labels first None = alike_still labels
united_alike labels first (Some second) = merged_alike labels (label_at labels first) (label_at labels second)

loosened_alike : (labels : Labels) (o : Option Label) → StayAlike labels (option_map_or (λ (label : Label). with_state label.name Loose labels) o labels)
loosened_alike labels None = alike_still labels
loosened_alike labels (Some l) = relabelled_alike l.name l.name (record { name = l.name; state = Loose }) labels

parted_alike : (labels : Labels) (first : ℕ) (o : Option ℕ) → StayAlike labels (parted o first labels)
unfolding loosened
parted_alike labels first None = alike_still labels
parted_alike labels first (Some second) = loosened_alike labels (label_at labels first)

changed_alike : (c : Change Constraint) (s : Acting Constraint) → StayAlike s.labels (after_change constraint_number c s).labels
unfolding begun ended
changed_alike (Begin m) s =
    let now : Acting Constraint = movers_woken constraint_number m.movers s in
    alike_then s.labels now.labels (united m.movers.second m.movers.first now.labels) (movers_alike s m) (united_alike now.labels m.movers.first m.movers.second)
changed_alike (End m) s =
    let now : Acting Constraint = movers_woken constraint_number m.movers s in
    alike_then s.labels now.labels (parted m.movers.second m.movers.first now.labels) (movers_alike s m) (parted_alike now.labels m.movers.first m.movers.second)

pub turned_alike : (changes : List (Change Constraint)) (s : Acting Constraint) → StayAlike s.labels (after_changes constraint_number changes s).labels
turned_alike [] s = alike_still s.labels
turned_alike (c ∷ changes) s =
    let now : Acting Constraint = after_change constraint_number c s in
    alike_then s.labels now.labels (after_changes constraint_number changes now).labels (changed_alike c s) (turned_alike changes now)

pub islands_alike : (names : List ℕ) (s : Acting Constraint) → StayAlike s.labels (islands_woken constraint_number names s).labels
islands_alike [] s = alike_still s.labels
islands_alike (name ∷ names) s =
    let now : Acting Constraint = woken_at constraint_number name s in
    alike_then s.labels now.labels (islands_woken constraint_number names now).labels (woken_alike s name) (islands_alike names now)

pub islands_slept : (names : List ℕ) (s : Acting Constraint) → HaveSlept s.labels (islands_woken constraint_number names s).labels
islands_slept [] s = λ t n e. refl
islands_slept (name ∷ names) s =
    let now : Acting Constraint = woken_at constraint_number name s in
    slept_then s.labels now.labels (islands_woken constraint_number names now).labels (woken_slept s name) (islands_slept names now)

-- ---- bodies that were told

-- the label of a sleeping island is its name
asleep_label : (o : Option Label) (name : ℕ) → sleeping_name o ≡ Some name → o ≡ Some (record { name = name; state = Asleep })
asleep_label None name h = cc
asleep_label (Some l) name h = by l.state refl
  where
    by : (state : IslandState) → l.state ≡ state → Some l ≡ Some (record { name = name; state = Asleep })
    by Whole e = let none : None ≡ Some name = sym (ap (λ (s : IslandState). cond (is_asleep s) (Some l.name) None) e) ∙ h in cc
    by Loose e = let none : None ≡ Some name = sym (ap (λ (s : IslandState). cond (is_asleep s) (Some l.name) None) e) ∙ h in cc
    by Asleep e =
        let own : Some l.name ≡ Some name = sym (ap (λ (s : IslandState). cond (is_asleep s) (Some l.name) None) e) ∙ h in
        let same : l.name ≡ name = cc in
        λ j. Some (record { name = same j; state = e j })

-- who sleeps by what it was told sleeps by its label
told_asleep : (o : Option Label) (b : Body) (name : ℕ) → IsBody b → told_body o b ≡ b → b.asleep ≡ Some name → sleeping_name o ≡ Some name
told_asleep o b name body e slept = by_mover (is_mover b) refl
  where
    by_name : (n : Option ℕ) → told_by n b ≡ b → n ≡ Some name
    by_name (Some m) f = let own : Some m ≡ b.asleep = ap (λ (c : Body). c.asleep) f in own ∙ slept
    by_name None f =
        let up : (cond (is_some b.asleep) (roused b) b).asleep ≡ None = ap (λ (a : Option ℕ). (cond (is_some a) (roused b) b).asleep) slept in
        let none : None ≡ Some name = sym up ∙ ap (λ (c : Body). c.asleep) f ∙ slept in
        cc

    by_mover : (t : Bool) → is_mover b ≡ t → sleeping_name o ≡ Some name
    by_mover true t = by_name (sleeping_name o) (sym (ap (λ (u : Bool). cond u (told_by (sleeping_name o) b) b) t) ∙ e)
    by_mover false t = let none : None ≡ Some name = sym (body.asleep t) ∙ slept in cc

asleep_at : (old : Labels) (bodies : List (Option Body)) (slot name : ℕ) → AreBodies bodies → told old bodies ≡ bodies → asleep_in (body_at bodies slot) ≡ Some name → sleeping_name (label_at old slot) ≡ Some name
asleep_at old bodies slot name are e slept = by (body_at bodies slot) refl
  where
    stays : option_map (told_body (label_at old slot)) (body_at bodies slot) ≡ body_at bodies slot
    stays = sym (body_told old bodies slot) ∙ ap (λ (os : List (Option Body)). body_at os slot) e

    by : (o : Option Body) → body_at bodies slot ≡ o → sleeping_name (label_at old slot) ≡ Some name
    by None f = let none : None ≡ Some name = sym (ap asleep_in f) ∙ slept in cc
    by (Some b) f =
        let own : Some (told_body (label_at old slot) b) ≡ Some b = sym (ap (option_map (told_body (label_at old slot))) f) ∙ stays ∙ f in
        let same : told_body (label_at old slot) b ≡ b = cc in
        told_asleep (label_at old slot) b name (are slot b (body_at-in bodies slot b f)) same (sym (ap asleep_in f) ∙ slept)

-- ---- what keeps the sets

-- where islands wake
pub keep_woken : (old new : Labels) (bodies : List (Option Body)) → AreBodies bodies → told old bodies ≡ bodies → HaveSlept old new → StayAlike old new → KeepTogether new bodies
keep_woken old new bodies are e slept alike = record { keeps = keeps; whole = whole }
  where
    name_then : (t n : ℕ) → sleeping_name (label_at new t) ≡ Some n → sleeping_name (label_at old t) ≡ Some n
    name_then t n h = sym (ap sleeping_name (slept t n h)) ∙ h

    by_name : (slot name : ℕ) → asleep_in (body_at bodies slot) ≡ Some name → (o : Option ℕ) → sleeping_name (label_at new slot) ≡ o → (sleeping_name (label_at new slot) ≡ Some name) ⊎ (sleeping_name (label_at new slot) ≡ None)
    by_name slot name h None f = inr f
    by_name slot name h (Some n) f = inl (ap sleeping_name (slept slot n f) ∙ asleep_at old bodies slot name are e h)

    keeps : (slot name : ℕ) → asleep_in (body_at bodies slot) ≡ Some name → (sleeping_name (label_at new slot) ≡ Some name) ⊎ (sleeping_name (label_at new slot) ≡ None)
    keeps slot name h = by_name slot name h (sleeping_name (label_at new slot)) refl

    whole : (slot other name : ℕ) → asleep_in (body_at bodies slot) ≡ Some name → sleeping_name (label_at new other) ≡ Some name → sleeping_name (label_at new slot) ≡ Some name
    whole slot other name h k =
        let own : label_at old slot ≡ Some (record { name = name; state = Asleep }) = asleep_label (label_at old slot) name (asleep_at old bodies slot name are e h) in
        let others : label_at old other ≡ Some (record { name = name; state = Asleep }) = asleep_label (label_at old other) name (name_then other name k) in
        ap sleeping_name (alike slot other (own ∙ sym others)) ∙ k

-- where islands fall asleep
pub keep_rested : (old new : Labels) (bodies : List (Option Body)) → AreBodies bodies → told old bodies ≡ bodies → SleepOn old new → KeepTogether new bodies
keep_rested old new bodies are e on = record { keeps = λ slot name h. inl (still slot name h); whole = λ slot other name h k. still slot name h }
  where
    still : (slot name : ℕ) → asleep_in (body_at bodies slot) ≡ Some name → sleeping_name (label_at new slot) ≡ Some name
    still slot name h =
        let was : sleeping_name (label_at old slot) ≡ Some name = asleep_at old bodies slot name are e h in
        ap sleeping_name (on slot name was) ∙ was

-- an island is named after a slot that is no greater than one of its own
pub named_low : (s : Acting Constraint) (n slot name : ℕ) → IsConsistent constraint_number s → slot < n → sleeping_name (label_at s.labels slot) ≡ Some name → name < n
named_low s n slot name consistent lt h =
    let low : name ≤ slot = consistent.islands.partition.low slot (record { name = name; state = Asleep }) (asleep_label (label_at s.labels slot) name h) in
    omega (arith, low, lt)

-- ---- names

-- in a sound world whoever sleeps does so under the name of a slot no greater than its own
pub named_asleep : (bodies : List (Option Body)) (s : Acting Constraint) → IsConsistent constraint_number s → AreTold bodies s.labels → AreNamedAsleep bodies
named_asleep bodies s consistent told slot name mover h = by (body_at bodies slot) refl h
  where
    by : (o : Option Body) → body_at bodies slot ≡ o → asleep_in o ≡ Some name → name < length bodies
    by None e k = cc
    by (Some b) e k = named_low s (length bodies) slot name consistent (body_below bodies slot b e) (sym (told slot b e) ∙ k)

-- the labels that act are the islands of the lists
pub told_acting : (p : Plain) → AreTold p.bodies p.islands → AreTold p.bodies (acting_of p).labels
unfolding acting_of
told_acting p told = told

-- ---- what ties bodies that are awake

-- what ties two bodies sleeps with nobody, where the first of those that are movers is awake
pub tie_up : (bodies : List (Option Body)) (labels : Labels) (a b : ℕ) → AreTold bodies labels → ((m : Movers) → movers_with bodies a b ≡ Some m → sleeping_name (label_at labels m.first) ≡ None) → sleep_with bodies (movers_with bodies a b) ≡ None
tie_up bodies labels a b told up = by (movers_with bodies a b) refl
  where
    here : (m : Movers) → movers_with bodies a b ≡ Some m → (o : Option Body) → body_at bodies m.first ≡ o → asleep_in o ≡ None
    here m e None at = refl
    here m e (Some body) at = told m.first body at ∙ up m e

    by : (o : Option Movers) → movers_with bodies a b ≡ o → sleep_with bodies o ≡ None
    by None e = refl
    by (Some m) e = here m e (body_at bodies m.first) refl
