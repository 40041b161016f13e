-- What being sound means for those who touch or are joined, and for the colours.
use Rattle.std.proofs.Common.{◌≡◌, ℕ, Bool, true, false, cond, ◌&&◌, is_some, List, Option, Some, None, refl, sym, ap, ◌∙◌}
use Rattle.std.specs.Prelude.{not}
use Rattle.std.specs.Option.{is_none, option_map_or}
use Rattle.std.proofs.lemmas.Option.{none-some, same_Some}
use Rattle.graph_colours.specs.declared.member.Movers.{Movers}
use Rattle.islands.specs.Labels.{Labels, is_asleep, label_at, sleeping_name}
use Rattle.islands.specs.declared.label.IslandState.{IslandState}
use Rattle.islands.specs.declared.label.IslandState.TheVariants.{Asleep, Loose, Whole}
use Rattle.islands.specs.declared.label.Label.{Label}
use Rattle.plain_world.specs.declared.body.Body.{Body}
use Rattle.plain_world.specs.declared.body.SetName.TheVariants as sets
use Rattle.plain_world.specs.declared.kind.Kind.{Kind}
use Rattle.plain_world.specs.declared.kind.Kind.TheVariants.{Dynamic, Kinematic, Static}
use Rattle.plain_world.specs.Bodies.{is_mover, is_mover_in, set_of, standing_of}
use Rattle.plain_world.specs.Changes.{is_awake_in}
use Rattle.plain_world.specs.Kinds.{is_dynamic}
use Rattle.plain_world.specs.Slots.{body_at}
use Rattle.sleep_wake.specs.Acting.{are_awake, awake_label, is_mover_awake}
use Rattle.solver_sets.specs.Tied.{AreTied}
use Rattle.world_rules.specs.Laws.{ColoursAreApart, LinkedMoversStandTogether, SleepingSetsAreComponents, SleepsIn, WhatActsHasAColour, movers_awake}
use Rattle.world_rules.specs.Sets.{acting_of}
use Rattle.world_rules.specs.Sound.{AreTold}
use Rattle.world_rules.proofs.LowerLaws.{sleepers_are_one_component}

-- ---- linked movers

mover_with : (bodies : List (Option Body)) (labels : Labels) (slot : ℕ) (b : Body) (l : Label) → AreTied bodies labels → body_at bodies slot ≡ Some b → label_at labels slot ≡ Some l → is_mover b ≡ true
mover_with bodies labels slot b l tied at label = sym (ap is_mover_in at) ∙ sym (tied slot) ∙ ap is_some label

standing_mover : (b : Body) → is_mover b ≡ true → standing_of b ≡ set_of Dynamic b.asleep
standing_mover b e = by b.enabled b.kind e
  where
    by : (t : Bool) (k : Kind) → cond t (is_dynamic k) false ≡ true → cond t (set_of k b.asleep) sets.Disabled ≡ set_of Dynamic b.asleep
    by true Static h = cc
    by true (Kinematic course) h = cc
    by true Dynamic h = refl
    by false k h = cc

pub linked_movers_stand : LinkedMoversStandTogether
unfolding acting_of
linked_movers_stand w a b x y s linked at_x at_y =
    let labels = w.plain.islands in
    let tied = s.promises.tied in
    let told = s.promises.told in
    let one = s.promises.consistent.islands.together a b linked in
    standing_mover x (mover_with w.plain.bodies labels a x one.0 tied at_x one.1)
    ∙ ap (λ (v : Option ℕ). set_of Dynamic v) (told a x at_x ∙ ap sleeping_name (one.1 ∙ sym one.2) ∙ sym (told b y at_y))
    ∙ sym (standing_mover y (mover_with w.plain.bodies labels b y one.0 tied at_y one.2))

-- ---- sleeping sets

-- the label of an island that sleeps under this name
record SleepsUnder (o : Option Label) (name : ℕ) : Type 0 where
  label : Label
  there : o ≡ Some label
  asleep : is_asleep label.state ≡ true
  named : label.name ≡ name

sleeps_under : (o : Option Label) (name : ℕ) → sleeping_name o ≡ Some name → SleepsUnder o name
sleeps_under None name e = absurd (none-some name e)
sleeps_under (Some l) name e = by (is_asleep l.state) refl e
  where
    by : (t : Bool) → is_asleep l.state ≡ t → cond t (Some l.name) None ≡ Some name → SleepsUnder (Some l) name
    by true up h = record { label = l; there = refl; asleep = up; named = same_Some l.name name h }
    by false up h = absurd (none-some name h)

asleep_is : (s : IslandState) → is_asleep s ≡ true → s ≡ Asleep
asleep_is Whole e = cc
asleep_is Loose e = cc
asleep_is Asleep e = refl

same_label : (k l : Label) → is_asleep k.state ≡ true → is_asleep l.state ≡ true → k.name ≡ l.name → k ≡ l
same_label k l a b e = let same : k.state ≡ l.state = asleep_is k.state a ∙ sym (asleep_is l.state b) in λ j. record { name = e j; state = same j }

label_of : (bodies : List (Option Body)) (labels : Labels) (name slot : ℕ) → AreTold bodies labels → SleepsIn bodies name slot → SleepsUnder (label_at labels slot) name
label_of bodies labels name slot told h = sleeps_under (label_at labels slot) name (sym (told slot h.body h.there) ∙ h.asleep)

body_of : (bodies : List (Option Body)) (labels : Labels) (name slot : ℕ) (l : Label) → AreTied bodies labels → AreTold bodies labels → label_at labels slot ≡ Some l → is_asleep l.state ≡ true → l.name ≡ name → SleepsIn bodies name slot
body_of bodies labels name slot l tied told at asleep named = by (body_at bodies slot) refl (sym (tied slot) ∙ ap is_some at)
  where
    by : (o : Option Body) → body_at bodies slot ≡ o → is_mover_in o ≡ true → SleepsIn bodies name slot
    by None e mover = cc
    by (Some b) e mover =
        let under : sleeping_name (Some l) ≡ Some name = λ j. cond (asleep j) (Some (named j)) None in
        record { body = b; there = e; asleep = told slot b e ∙ ap sleeping_name at ∙ under }

pub sleeping_sets_are : SleepingSetsAreComponents
unfolding acting_of
sleeping_sets_are w name slot other s at =
    let bodies = w.plain.bodies in
    let labels = w.plain.islands in
    let tied = s.promises.tied in
    let told = s.promises.told in
    let own : SleepsUnder (label_at labels slot) name = label_of bodies labels name slot told at in
    let members = (sleepers_are_one_component (acting_of w.plain) slot own.label s.promises.consistent own.there own.asleep).1 other in (
      λ h. let l : SleepsUnder (label_at labels other) name = label_of bodies labels name other told h in members.0 (l.there ∙ ap Some (same_label l.label own.label l.asleep own.asleep (l.named ∙ sym own.named))),
      λ joined. body_of bodies labels name other own.label tied told (members.1 joined) own.asleep own.named,
    )

-- ---- colours

pub colours_are_apart : ColoursAreApart
unfolding acting_of
colours_are_apart w s = (s.formed.moved, s.promises.consistent.colouring.apart)

named_or_not : (t : Bool) (name : ℕ) → not t ≡ is_none (cond t (Some name) None)
named_or_not true name = refl
named_or_not false name = refl

awake_by : (o : Option Body) (l : Option Label) → is_some l ≡ is_mover_in o → ((b : Body) → o ≡ Some b → b.asleep ≡ sleeping_name l) → awake_label l ≡ is_awake_in o
awake_by None None tied told = refl
awake_by None (Some l) tied told = cc
awake_by (Some b) None tied told = λ j. cond (tied j) (is_none b.asleep) false
awake_by (Some b) (Some l) tied told =
    let name : not (is_asleep l.state) ≡ is_none b.asleep = named_or_not (is_asleep l.state) l.name ∙ ap is_none (sym (told b refl)) in
    name ∙ (λ j. cond (tied j) (is_none b.asleep) false)

-- a mover is awake just if its island is
pub awake_same : (bodies : List (Option Body)) (labels : Labels) (slot : ℕ) → AreTied bodies labels → AreTold bodies labels → is_mover_awake labels slot ≡ is_awake_in (body_at bodies slot)
awake_same bodies labels slot tied told = awake_by (body_at bodies slot) (label_at labels slot) (tied slot) (told slot)

second_same : (bodies : List (Option Body)) (labels : Labels) (o : Option ℕ) → AreTied bodies labels → AreTold bodies labels → option_map_or (is_mover_awake labels) o true ≡ option_map_or (λ (slot : ℕ). is_awake_in (body_at bodies slot)) o true
second_same bodies labels None tied told = refl
second_same bodies labels (Some slot) tied told = awake_same bodies labels slot tied told

pub movers_awake_same : (bodies : List (Option Body)) (labels : Labels) (m : Movers) → AreTied bodies labels → AreTold bodies labels → are_awake labels m ≡ movers_awake bodies m
movers_awake_same bodies labels m tied told =
    let first = awake_same bodies labels m.first tied told in
    let second = second_same bodies labels m.second tied told in
    λ j. first j && second j

pub what_acts_has_a_colour : WhatActsHasAColour
unfolding acting_of
what_acts_has_a_colour w m s =
    let acts = s.promises.consistent.acting m in
    let same = movers_awake_same w.plain.bodies w.plain.islands m.movers s.promises.tied s.promises.told in
    (λ h. let p = acts.0 h in (p.0, sym same ∙ p.1), λ h. acts.1 (h.0, same ∙ h.1))
