-- The parts of the headline, of a sound world.
use Rattle.std.proofs.Common.{◌≡◌, ℕ, Bool, true, false, cond, is_some, List, [], ◌∷◌, Option, Some, None, All, map, inl, inr, refl, sym, ap, ◌∙◌}
use Rattle.std.specs.Prelude.{Contains}
use Rattle.std.specs.List.{filter_map}
use Rattle.std.proofs.lemmas.List.Elements.{All-weaker}
use Rattle.std.proofs.lemmas.Option.{none-some, same_Some}
use Rattle.contacts_base.proofs.Members.{IsIn, in_append, in_from_contains}
use Rattle.plain_world.specs.declared.constraint.Constraint.{Constraint}
use Rattle.contacts_base.specs.declared.contact.ContactEntry.{ContactEntry}
use Rattle.graph_colours.specs.Colours.{all_members}
use Rattle.graph_colours.specs.declared.member.Member.{Member}
use Rattle.graph_colours.specs.declared.member.Movers.{Movers}
use Rattle.islands.specs.Labels.{Labels, is_asleep, is_loose, label_at, sleeping_name}
use Rattle.islands.specs.declared.label.IslandState.{IslandState}
use Rattle.islands.specs.declared.label.IslandState.TheVariants.{Asleep, Loose, Whole}
use Rattle.islands.specs.declared.label.Label.{Label}
use Rattle.plain_world.specs.declared.body.Body.{Body}
use Rattle.plain_world.specs.Bodies.{IsAtRest, is_mover_in}
use Rattle.plain_world.specs.Slots.{body_at}
use Rattle.solver_sets.proofs.ListLaws.{in_map}
use Rattle.solver_sets.specs.Laws.{TiesAreWithin}
use Rattle.solver_sets.specs.Tied.{AreTied}
use Rattle.solver_sets.specs.Alike.{AreJointSlots}
use Rattle.solver_sets.specs.Ties.{IsKeyWithin, JointSlots, member_of, members_of, movers_of, tie_with}
use Rattle.world_rules.specs.Laws.{ColoursAreApart, LinkedMoversStandTogether, SleepingSetsAreComponents, SleepsIn, WhatActsHasAColour}
use Rattle.world_rules.specs.Sets.{acting_of}
use Rattle.world_rules.specs.Sound.{AreTold, HasBodies, IsSound}
use Rattle.world_rules.specs.World.{World, joints_in_slots}
use Rattle.world_lock.specs.Headline.{EachHasOneColour, EachSleepingSetIsOneComponent, EachSleepingSetIsOneIsland, EachStandsInOneSet, LinkedShareAnIsland, LinkedStandTogether, NoColourSharesAMover, OnlyAwakeMoversHaveMomentum, WhatActsIsColoured}
use Rattle.world_lock.proofs.StandLaws.{sleeps_there, stands_there}

-- ---- solver sets

pub in_one_set : (w : World) → IsSound w → EachStandsInOneSet w
in_one_set w s = record {
  stands = λ item. stands_there w.plain.slot_entries w.plain.bodies (joints_in_slots w.plain) w.plain.contacts item s.formed.matched s.formed.joint_slots;
  bodies = s.formed.matched;
  joints = s.formed.joint_slots;
  contacts = s.formed.contacts;
  sleepers = λ name slot. sleeps_there w.plain.bodies name slot s.formed.bodies;
}

-- ---- colours

pub no_colour_shares : ColoursAreApart → (w : World) → IsSound w → NoColourSharesAMover w
no_colour_shares law w s = law w s

pub acts_coloured : WhatActsHasAColour → (w : World) → IsSound w → WhatActsIsColoured w
acts_coloured law w s m = law w m s

-- what is made of a name has this name, and its movers
made_of : (id : Constraint) (o : Option Movers) (m : Member Constraint) → tie_with id o ≡ Some m → (m.id ≡ id) × (o ≡ Some m.movers)
made_of id None m e = absurd (none-some m e)
made_of id (Some v) m e = let same = same_Some (record { id = id; movers = v }) m e in (sym (ap (λ (x : Member Constraint). x.id) same), ap (λ (x : Member Constraint). Some x.movers) same)

-- what is listed was made of a name
made_in : (f : Constraint → Option (Member Constraint)) (colours : List (List Constraint)) (m : Member Constraint) → IsIn m (all_members (map (filter_map f) colours)) → (id : Constraint) × (f id ≡ Some m)
made_in f [] m h = absurd h
made_in f (ids ∷ colours) m h = elim (in_append m (filter_map f ids) (all_members (map (filter_map f) colours)) h) [
  | inl p ↦ let o = in_map f ids m p in (o.of, o.gives)
  | inr q ↦ made_in f colours m q
]

has_movers : (bodies : List (Option Body)) (s : JointSlots) (colours : List (List Constraint)) (m : Member Constraint) → Contains (all_members (members_of bodies s colours)) m → movers_of bodies s m.id ≡ Some m.movers
unfolding members_of
has_movers bodies s colours m h =
    let o = made_in (member_of bodies s) colours m (in_from_contains (all_members (map (filter_map (member_of bodies s)) colours)) m h) in
    let p = made_of o.0 (movers_of bodies s o.0) m o.1 in
    ap (movers_of bodies s) p.0 ∙ p.1

pub has_one_colour : TiesAreWithin → (w : World) → IsSound w → EachHasOneColour w
unfolding acting_of
has_one_colour law w s =
    let consistent = s.promises.consistent in
    let slots : AreJointSlots (joints_in_slots w.plain) = record { matched = s.formed.joint_slots; slot_entries = s.formed.joint_entries } in
    let named : All (λ (e : ContactEntry). IsKeyWithin e.key) w.plain.contacts = All-weaker (HasBodies w.plain.bodies) (λ (e : ContactEntry). IsKeyWithin e.key) (λ e h. h.named) w.plain.contacts s.formed.there in
    record {
      colouring = consistent.colouring;
      named = λ m h. law w.plain.bodies (joints_in_slots w.plain) w.plain.contacts m slots named ((consistent.acting m).0 h).0;
      movers = λ m h. has_movers w.plain.bodies (joints_in_slots w.plain) w.plain.colours m h;
    }

-- ---- islands

pub share_island : (w : World) → IsSound w → LinkedShareAnIsland w
unfolding acting_of
share_island w s a b linked = s.promises.consistent.islands.together a b linked

pub stand_together : LinkedMoversStandTogether → (w : World) → IsSound w → LinkedStandTogether w
stand_together law w s a b x y linked at_x at_y = law w a b x y s linked at_x at_y

pub one_component : SleepingSetsAreComponents → (w : World) → IsSound w → EachSleepingSetIsOneComponent w
one_component law w s name slot other sleeps = law w name slot other s sleeps

-- ---- sleeping sets are islands

-- the label of an island that sleeps under this name
record SleepsUnder (o : Option Label) (name : ℕ) : Type 0 where
  label : Label
  there : o ≡ Some label
  asleep : is_asleep label.state ≡ true
  named : label.name ≡ name

sleeps_under : (o : Option Label) (name : ℕ) → sleeping_name o ≡ Some name → SleepsUnder o name
sleeps_under None name e = absurd (none-some name e)
sleeps_under (Some l) name e = by (is_asleep l.state) refl e
  where
    by : (t : Bool) → is_asleep l.state ≡ t → cond t (Some l.name) None ≡ Some name → SleepsUnder (Some l) name
    by true up h = record { label = l; there = refl; asleep = up; named = same_Some l.name name h }
    by false up h = absurd (none-some name h)

label_of : (bodies : List (Option Body)) (labels : Labels) (name slot : ℕ) → AreTold bodies labels → SleepsIn bodies name slot → SleepsUnder (label_at labels slot) name
label_of bodies labels name slot told h = sleeps_under (label_at labels slot) name (sym (told slot h.body h.there) ∙ h.asleep)

not_loose : (s : IslandState) → is_asleep s ≡ true → is_loose s ≡ false
not_loose Whole e = cc
not_loose Loose e = cc
not_loose Asleep e = refl

-- whose mover has the label of an island that sleeps
sleeper_of : (bodies : List (Option Body)) (labels : Labels) (name slot : ℕ) (l : Label) → AreTied bodies labels → AreTold bodies labels → label_at labels slot ≡ Some l → is_asleep l.state ≡ true → l.name ≡ name → SleepsIn bodies name slot
sleeper_of bodies labels name slot l tied told at asleep named = by (body_at bodies slot) refl (sym (tied slot) ∙ ap is_some at)
  where
    by : (o : Option Body) → body_at bodies slot ≡ o → is_mover_in o ≡ true → SleepsIn bodies name slot
    by None e mover = cc
    by (Some b) e mover =
        let under : sleeping_name (Some l) ≡ Some name = λ j. cond (asleep j) (Some (named j)) None in
        record { body = b; there = e; asleep = told slot b e ∙ ap sleeping_name at ∙ under }

pub one_island : (w : World) → IsSound w → EachSleepingSetIsOneIsland w
unfolding acting_of
one_island w s name slot sleeps =
    let bodies = w.plain.bodies in
    let labels = w.plain.islands in
    let told = s.promises.told in
    let partition = s.promises.consistent.islands.partition in
    let own : SleepsUnder (label_at labels slot) name = label_of bodies labels name slot told sleeps in
    let named : label_at labels name ≡ Some own.label = ap (label_at labels) (sym own.named) ∙ partition.named slot own.label own.there in (
      own.label,
      not_loose own.label.state own.asleep,
      λ other. (
        λ h. let l : SleepsUnder (label_at labels other) name = label_of bodies labels name other told h in
            l.there ∙ sym (partition.named other l.label l.there) ∙ ap (label_at labels) l.named ∙ named,
        λ at. sleeper_of bodies labels name other own.label s.promises.tied told at own.asleep own.named,
      ),
    )

-- ---- what has momentum

pub only_awake_have : (w : World) → IsSound w → OnlyAwakeMoversHaveMomentum w
only_awake_have w s slot b at up = let rest : IsAtRest b.motion = s.promises.rest slot b at up in (rest.x, rest.y, rest.l)
