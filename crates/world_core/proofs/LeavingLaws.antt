-- A body that leaves tells no other body anything: those whom it leaves behind are awake.
use Rattle.std.proofs.Common.{◌≡◌, ◌≢◌, ℕ, ◌+◌, ◌<◌, ◌^◌, ◌++◌, Bool, true, false, not, cond, ◌&&◌, is_some, List, [], ◌∷◌, length, Option, Some, None, inl, inr, refl, sym, ap, ◌∙◌, subst}
use Rattle.std.specs.Prelude.{nat_lt, option_map, slice_set}
use Rattle.std.proofs.lemmas.Bool.{cases_eq}
use Rattle.std.proofs.lemmas.Option.{none-some, same_Some}
use Rattle.std.specs.Option.{option_map_or}
use Rattle.body_handles.specs.declared.handle.Handle.{Handle}
use Rattle.body_handles.specs.SlotEntries.{slot_entries_without}
use Rattle.plain_world.specs.Constraints.{constraint_number}
use Rattle.plain_world.specs.declared.constraint.Constraint.{Constraint}
use Rattle.contacts_base.specs.Contacts.{contacts_without}
use Rattle.graph_colours.specs.Colours.{ids_of}
use Rattle.graph_colours.specs.declared.member.Member.{Member}
use Rattle.graph_colours.proofs.PlaceLemmas.{is_same}
use Rattle.islands.specs.declared.label.IslandState.TheVariants.{Loose}
use Rattle.islands.specs.declared.label.Label.{Label}
use Rattle.islands.specs.Labels.{Labels, is_in, label_at, lowest_member, relabelled, sleeping_name, taken_out, left_behind}
use Rattle.islands.specs.Partition.{IsPartition}
use Rattle.islands.proofs.JoinLemmas.{contains_head}
use Rattle.islands.proofs.LabelLemmas.{either_case, either_one, either_to, others_stay, rest_of, rest_stays}
use Rattle.plain_world.specs.declared.body.Body.{Body}
use Rattle.plain_world.specs.Bodies.{AreBodies, is_mover, is_mover_in, moves}
use Rattle.plain_world.specs.Changes.{changed_at, disabled_body}
use Rattle.plain_world.specs.Joints.{idle_joints}
use Rattle.plain_world.specs.Sleep.{told}
use Rattle.plain_world.specs.Slots.{body_at}
use Rattle.sleep_wake.specs.Acting.{Acting, IsConsistent, are_awake, awake_label, is_mover_awake}
use Rattle.sleep_wake.specs.Bodies.{mover_gone}
use Rattle.sleep_wake.specs.Changes.{each_ended, ended}
use Rattle.sleep_wake.specs.ChangeLists.{CanEnd}
use Rattle.sleep_wake.proofs.AwakeLemmas.{awake_as}
use Rattle.sleep_wake.proofs.FoldLemmas.{are_up, end_next}
use Rattle.solver_sets.specs.Joining.{unjoined_all}
use Rattle.solver_sets.specs.Ties.{ties_at}
use Rattle.world_rules.specs.Apply.{departed, destroyed, disabled}
use Rattle.world_rules.specs.Sets.{acting_of, body_gone, stirred, ties_ended}
use Rattle.world_rules.specs.Sound.{AreTold}
use Rattle.world_rules.specs.World.{World, body_named, joints_in_slots}
use Rattle.world_rules.proofs.ActingLaws.{IsWoken, awake_name, waking_kept}
use Rattle.world_rules.proofs.BesideLaws.{own_item}
use Rattle.world_rules.proofs.GoneLaws.{CanGo, is_ended}
use Rattle.world_rules.proofs.KeptBodies.{seen, stirred_can_go}
use Rattle.world_rules.proofs.KeptChanges.{named_at}
use Rattle.world_rules.proofs.LowerLaws.{ending_keeps, movers_come_and_go}
use Rattle.world_rules.proofs.PartsLeft.{IsLeft, destroy_left, disable_left, ended_from, gone_from, gone_is, stirred_slots, woken_from}
use Rattle.world_rules.proofs.QuietLaws.{SleepAlike, ended_alike}
use Rattle.solver_sets.proofs.SlotLemmas.{below_length, item_at-set_other, none_if}
use Rattle.world_rules.proofs.SoundLaws.{IsKept}
use Rattle.world_rules.proofs.ToldLaws.{told_stays}
use Rattle.world_core.proofs.PartLaws.{bodies_disabled, bodies_without}

-- ---- its ties end

each_ended_alike : (ms : List (Member Constraint)) (s : Acting Constraint) → IsConsistent constraint_number s → CanEnd constraint_number ms s → SleepAlike s.labels (each_ended constraint_number ms s).labels
each_ended_alike [] s w can k = refl
each_ended_alike (m ∷ ms) s w can k =
    let one : are_awake s.labels m.movers ≡ true = can.awake m (contains_head m ms) in
    let now : IsConsistent constraint_number (ended constraint_number m s) = ending_keeps s m w (can.there m (contains_head m ms)) (are_up s.labels m.movers one).first in
    each_ended_alike ms (ended constraint_number m s) now (end_next constraint_number m ms s w can) k ∙ ended_alike m s w.islands.partition one k

-- ---- a mover leaves its island

without_alike : (labels : Labels) (slot n : ℕ) (o : Option Label) → label_at labels slot ≡ o → IsPartition labels → is_mover_awake labels slot ≡ true → n ≢ slot → sleeping_name (label_at (option_map_or (λ (label : Label). left_behind (lowest_member label.name (slice_set labels slot None)) label.name (slice_set labels slot None)) o labels) n) ≡ sleeping_name (label_at labels n)
without_alike labels slot n None e p up off = refl
without_alike labels slot n (Some l) e p up off = by (nat_lt (lowest_member l.name (rest_of labels slot)) (length (rest_of labels slot)))
  where
    to : Label
    to = record { name = lowest_member l.name (rest_of labels slot); state = Loose }

    stays : label_at (rest_of labels slot) n ≡ label_at labels n
    stays = rest_stays labels slot n off

    inside : is_in (label_at labels n) l.name ≡ true → sleeping_name (label_at labels n) ≡ None
    inside here = awake_name (label_at labels n) (awake_as labels l.name n l p (p.named slot l e) refl here ∙ sym (ap awake_label e) ∙ up)

    by : (t : Bool) → sleeping_name (label_at (cond t (relabelled l.name l.name to (rest_of labels slot)) (rest_of labels slot)) n) ≡ sleeping_name (label_at labels n)
    by false = ap sleeping_name stays
    by true = elim (either_case l.name l.name (label_at (rest_of labels slot) n)) [
      | inl h ↦ ap sleeping_name (either_to l.name l.name to (rest_of labels slot) n h)
          ∙ sym (inside (ap (λ (x : Option Label). is_in x l.name) (sym stays) ∙ either_one l.name (label_at (rest_of labels slot) n) h))
      | inr h ↦ ap sleeping_name (others_stay l.name l.name to (rest_of labels slot) n h ∙ stays)
    ]

gone_alike : (slot n : ℕ) (s : Acting Constraint) → IsConsistent constraint_number s → is_mover_awake s.labels slot ≡ true → n ≢ slot → sleeping_name (label_at (mover_gone constraint_number slot s).labels n) ≡ sleeping_name (label_at s.labels n)
unfolding mover_gone taken_out
gone_alike slot n s w up off = without_alike s.labels slot n (label_at s.labels slot) refl w.islands.partition up off

gone_here : (slot : ℕ) (s : Acting Constraint) → label_at (mover_gone constraint_number slot s).labels slot ≡ None
gone_here slot s = none_if (label_at (mover_gone constraint_number slot s).labels slot) (movers_come_and_go.gone s slot slot ∙ ap (λ (t : Bool). not t && is_some (label_at s.labels slot)) (is_same slot slot refl))

-- ---- a body leaves a kept world in which it can go

others_alike : (w : World) (slot : ℕ) (t : Bool) → IsKept w → CanGo w slot → moves w.plain.bodies slot ≡ t → (n : ℕ) → n ≢ slot → sleeping_name (label_at (body_gone slot t w.plain).labels n) ≡ sleeping_name (label_at w.plain.islands n)
unfolding acting_of
others_alike w slot false k go e n off = each_ended_alike (ties_at slot w.plain.bodies (joints_in_slots w.plain) w.plain.contacts) (acting_of w.plain) k.consistent go.can n
others_alike w slot true k go e n off =
    let is = is_ended w slot k go in
    gone_alike slot n (ties_ended slot w.plain) is.consistent (is.awake slot (go.up e)) off ∙ each_ended_alike (ties_at slot w.plain.bodies (joints_in_slots w.plain) w.plain.contacts) (acting_of w.plain) k.consistent go.can n

own_name : (w : World) (slot : ℕ) (t : Bool) → IsKept w → CanGo w slot → moves w.plain.bodies slot ≡ t → sleeping_name (label_at (body_gone slot t w.plain).labels slot) ≡ None
own_name w slot false k go e = ap sleeping_name (none_if (label_at (ties_ended slot w.plain).labels slot) ((is_ended w slot k go).tied slot ∙ e))
own_name w slot true k go e = ap sleeping_name (gone_here slot (ties_ended slot w.plain))

-- the bodies, with what is in its slot then, sleep as the labels say
left_told : (w : World) (slot : ℕ) (o : Option Body) (t : Bool) → IsKept w → CanGo w slot → slot < length w.plain.bodies → moves w.plain.bodies slot ≡ t → ((b : Body) → o ≡ Some b → b.asleep ≡ None) → AreTold (slice_set w.plain.bodies slot o) (body_gone slot t w.plain).labels
left_told w slot o t k go lt e none n d at = elim (cases_eq n slot) [
  | inl same ↦
      let here : body_at (slice_set w.plain.bodies slot o) slot ≡ Some d = sym (ap (body_at (slice_set w.plain.bodies slot o)) same) ∙ at in
      let is : o ≡ Some d = sym (own_item w.plain.bodies slot o lt) ∙ here in
      none d is ∙ sym (own_name w slot t k go e) ∙ ap (λ (j : ℕ). sleeping_name (label_at (body_gone slot t w.plain).labels j)) (sym same)
  | inr apart ↦ k.told n d (sym (item_at-set_other w.plain.bodies slot o n apart) ∙ at) ∙ sym (others_alike w slot t k go e n apart)
]

-- a named body leaves, once those were woken whom that wakes
leaves_quietly : (w : World) (h : Handle) (b : Body) (o : Option Body) → IsKept w → body_named w.plain h ≡ Some b → AreBodies (slice_set (stirred w.plain h.slot).bodies h.slot o) → ((c : Body) → o ≡ Some c → c.asleep ≡ None)
    → told (body_gone h.slot (is_mover b) (stirred w.plain h.slot)).labels (slice_set (stirred w.plain h.slot).bodies h.slot o) ≡ slice_set (stirred w.plain h.slot).bodies h.slot o
leaves_quietly w h b o k named all none =
    let slot : ℕ = h.slot in
    let at : body_at w.plain.bodies slot ≡ Some b = named_at w.plain h b named in
    let wk : IsWoken w (stirred_slots w.plain slot) = waking_kept w (stirred_slots w.plain slot) k in
    let v : World = record w { plain = stirred w.plain slot } in
    let now = seen w (stirred_slots w.plain slot) slot b k at in
    let lt : slot < length v.plain.bodies = below_length v.plain.bodies slot now.body now.at in
    told_stays (body_gone slot (is_mover b) v.plain).labels (slice_set v.plain.bodies slot o) all (left_told v slot o (is_mover b) wk.kept (stirred_can_go w slot k) lt (wk.alike.movers slot ∙ ap is_mover_in at) none)

stirred_bodies : (w : World) (slot : ℕ) → IsKept w → AreBodies (stirred w.plain slot).bodies
stirred_bodies w slot k = (waking_kept w (stirred_slots w.plain slot) k).kept.bodies

-- ---- DestroyBody

-- the bodies without the one that is destroyed
abbrev pub bodies_left : World → Acting Constraint → Handle → List (Option Body)
bodies_left w s h = slice_set (told (woken_from w.plain s (stirred_slots w.plain h.slot)).labels w.plain.bodies) h.slot None

abbrev pub destroyed_with : World → Acting Constraint → Handle → Body → List (Option Body) → World
destroyed_with w s h b bodies = record w {
  plain = record w.plain {
    slot_entries = slot_entries_without w.plain.slot_entries h;
    bodies = bodies;
    joint_entries = (unjoined_all h.slot (joints_in_slots w.plain)).slot_entries;
    joints = (unjoined_all h.slot (joints_in_slots w.plain)).joints;
    contacts = contacts_without h.slot w.plain.contacts;
    islands = s.labels;
    colours = ids_of s.lists;
    calls = w.plain.calls + 1;
  };
  entries = w.entries ++ departed (w.plain.calls + 1) b;
}

-- what acts once it left
abbrev pub gone_now : World → Acting Constraint → Handle → Body → Acting Constraint
gone_now w s h b = gone_from h.slot (is_mover b) (ended_from w.plain s h.slot)

destroyed_quietly_at : (w : World) (h : Handle) (b : Body) → IsKept w → w.plain.calls < 2 ^ 40 → body_named w.plain h ≡ Some b
    → IsLeft w (destroyed w.plain h b) (destroyed_with w (gone_now w (acting_of w.plain) h b) h b (bodies_left w (acting_of w.plain) h)) (gone_now w (acting_of w.plain) h b)
destroyed_quietly_at w h b k few named =
    let s : Acting Constraint = gone_now w (acting_of w.plain) h b in
    let told_same : told s.labels (bodies_left w (acting_of w.plain) h) ≡ bodies_left w (acting_of w.plain) h =
    ap (λ (a : Acting Constraint). told a.labels (bodies_left w (acting_of w.plain) h)) (gone_is w h.slot (is_mover b) k)
    ∙ leaves_quietly w h b None k named (bodies_without (stirred w.plain h.slot).bodies h.slot (stirred_bodies w h.slot k)) (λ c e. absurd (none-some c e)) in
    subst (λ (bs : List (Option Body)). IsLeft w (destroyed w.plain h b) (destroyed_with w s h b bs) s) told_same (destroy_left w (acting_of w.plain) h b k refl few named)

pub destroyed_quietly : (w : World) (s : Acting Constraint) (h : Handle) (b : Body) → IsKept w → s ≡ acting_of w.plain → w.plain.calls < 2 ^ 40 → body_named w.plain h ≡ Some b
    → IsLeft w (destroyed w.plain h b) (destroyed_with w (gone_now w s h b) h b (bodies_left w s h)) (gone_now w s h b)
destroyed_quietly w s h b k e few named =
    subst (λ (a : Acting Constraint). IsLeft w (destroyed w.plain h b) (destroyed_with w (gone_now w a h b) h b (bodies_left w a h)) (gone_now w a h b)) (sym e) (destroyed_quietly_at w h b k few named)

-- ---- Disable

-- the bodies with the one that is disabled
abbrev pub bodies_halted : World → Acting Constraint → Handle → List (Option Body)
bodies_halted w s h = changed_at disabled_body (told (woken_from w.plain s (stirred_slots w.plain h.slot)).labels w.plain.bodies) h.slot

abbrev pub disabled_with : World → Acting Constraint → Handle → Body → List (Option Body) → World
disabled_with w s h b bodies = record w {
  plain = record w.plain {
    bodies = bodies;
    joints = idle_joints h.slot w.plain.joints;
    contacts = contacts_without h.slot w.plain.contacts;
    islands = s.labels;
    colours = ids_of s.lists;
    calls = w.plain.calls + 1;
  };
  entries = w.entries ++ departed (w.plain.calls + 1) b;
}

-- a disabled body doesn't sleep
halted_up : (o : Option Body) (c : Body) → option_map disabled_body o ≡ Some c → c.asleep ≡ None
halted_up None c e = absurd (none-some c e)
halted_up (Some b) c e = sym (ap (λ (x : Body). x.asleep) (same_Some (disabled_body b) c e))

disabled_quietly_at : (w : World) (h : Handle) (b : Body) → IsKept w → w.plain.calls < 2 ^ 40 → body_named w.plain h ≡ Some b
    → IsLeft w (disabled w.plain h b) (disabled_with w (gone_now w (acting_of w.plain) h b) h b (bodies_halted w (acting_of w.plain) h)) (gone_now w (acting_of w.plain) h b)
disabled_quietly_at w h b k few named =
    let s : Acting Constraint = gone_now w (acting_of w.plain) h b in
    let told_same : told s.labels (bodies_halted w (acting_of w.plain) h) ≡ bodies_halted w (acting_of w.plain) h =
    ap (λ (a : Acting Constraint). told a.labels (bodies_halted w (acting_of w.plain) h)) (gone_is w h.slot (is_mover b) k)
    ∙ leaves_quietly w h b (option_map disabled_body (body_at (stirred w.plain h.slot).bodies h.slot)) k named (bodies_disabled (stirred w.plain h.slot).bodies h.slot (stirred_bodies w h.slot k)) (halted_up (body_at (stirred w.plain h.slot).bodies h.slot)) in
    subst (λ (bs : List (Option Body)). IsLeft w (disabled w.plain h b) (disabled_with w s h b bs) s) told_same (disable_left w (acting_of w.plain) h b k refl few named)

pub disabled_quietly : (w : World) (s : Acting Constraint) (h : Handle) (b : Body) → IsKept w → s ≡ acting_of w.plain → w.plain.calls < 2 ^ 40 → body_named w.plain h ≡ Some b
    → IsLeft w (disabled w.plain h b) (disabled_with w (gone_now w s h b) h b (bodies_halted w s h)) (gone_now w s h b)
disabled_quietly w s h b k e few named =
    subst (λ (a : Acting Constraint). IsLeft w (disabled w.plain h b) (disabled_with w (gone_now w a h b) h b (bodies_halted w a h)) (gone_now w a h b)) (sym e) (disabled_quietly_at w h b k few named)
