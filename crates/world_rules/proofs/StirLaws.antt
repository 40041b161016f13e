-- The ties of a body can end once those were woken whom its change wakes.
use Rattle.std.proofs.Common.{◌≡◌, ℕ, Bool, true, false, List, [], ◌∷◌, Option, Some, None, is_some, refl, sym, ap, ◌∙◌, subst, arith, ◌++◌}
use Rattle.std.specs.Prelude.{Contains, filter}
use Rattle.std.specs.List.{filter_map}
use Rattle.std.proofs.lemmas.Bool.{false≢true}
use Rattle.graph_colours.specs.declared.member.Member.{Member}
use Rattle.contacts_base.specs.declared.contact.ContactEntry.{ContactEntry}
use Rattle.plain_world.specs.Constraints.{constraint_number}
use Rattle.plain_world.specs.declared.constraint.Constraint.{Constraint}
use Rattle.islands.proofs.JoinLemmas.{contains_head}
use Rattle.plain_world.specs.declared.body.Body.{Body}
use Rattle.plain_world.specs.Plain.{Plain}
use Rattle.plain_world.specs.Slots.{body_at}
use Rattle.sleep_wake.specs.Acting.{are_awake, is_mover_awake}
use Rattle.sleep_wake.specs.ChangeLists.{CanEnd}
use Rattle.solver_sets.specs.Beside.{stirred_by, stirred_if, joined_to, touched_by}
use Rattle.solver_sets.specs.Alike.{AreAlike, AreJointSlots}
use Rattle.plain_world.specs.Bodies.{is_mover_in, moves}
use Rattle.solver_sets.specs.Ties.{Bond, JointSlots, bonds_of, is_bond_of, is_enabled, is_enabled_in, tie_of, ties_at, ties_of}
use Rattle.world_rules.specs.Sets.{acting_of, stirred}
use Rattle.world_rules.specs.World.{World, joints_in_slots}
use Rattle.world_rules.proofs.ActingLaws.{IsWoken, waking_kept}
use Rattle.world_rules.proofs.LowerLaws.{no_ties_of_disabled, ties_at_are_ties, ties_have_labels, ties_of_a_mover, ties_of_no_mover}
use Rattle.world_rules.proofs.AwakeLaws.{first_wakes, named_awake, one_wakes}
use Rattle.world_rules.proofs.SoundLaws.{IsKept}

pub joint_slots_of : (w : World) → IsKept w → AreJointSlots (joints_in_slots w.plain)
joint_slots_of w k = record { matched = k.joint_slots; slot_entries = k.joint_entries }

-- ---- bodies that are alike have the same ties

alike_tie : (old new : List (Option Body)) (b : Bond) → AreAlike old new → tie_of new b ≡ tie_of old b
alike_tie old new b h = rw (h.enabled b.a, h.enabled b.b, h.movers b.a, h.movers b.b) refl

same_map : {X Y : Type 0} (f g : X → Option Y) (xs : List X) → ((x : X) → f x ≡ g x) → filter_map f xs ≡ filter_map g xs
same_map f g [] h = refl
same_map f g (x ∷ xs) h = rw (h x, same_map f g xs h) refl

alike_at : (slot : ℕ) (old new : List (Option Body)) (s : JointSlots) (contacts : List ContactEntry) → AreAlike old new → ties_at slot new s contacts ≡ ties_at slot old s contacts
unfolding ties_at
alike_at slot old new s contacts h = same_map (tie_of new) (tie_of old) (filter (is_bond_of slot) (bonds_of s contacts)) (λ b. alike_tie old new b h)

-- ---- who is woken

stirs_itself : (o : Option Body) (slot : ℕ) (beside : List ℕ) → is_mover_in o ≡ true → stirred_if o slot beside ≡ slot ∷ []
stirs_itself None slot beside h = absurd (false≢true h)
stirs_itself (Some b) slot beside h = rw h refl

stirs_others : (o : Option Body) (slot : ℕ) (beside : List ℕ) → is_mover_in o ≡ false → is_enabled_in o ≡ true → stirred_if o slot beside ≡ beside
stirs_others None slot beside h on = absurd (false≢true on)
stirs_others (Some b) slot beside h on = rw (h, on) refl

stirred_itself : (w : Plain) (slot : ℕ) → moves w.bodies slot ≡ true → stirred_by w.bodies w.joints w.contacts slot ≡ slot ∷ []
unfolding stirred_by
stirred_itself w slot h = stirs_itself (body_at w.bodies slot) slot (joined_to w.bodies w.joints slot ++ touched_by w.bodies w.contacts slot) h

stirred_others : (w : Plain) (slot : ℕ) → moves w.bodies slot ≡ false → is_enabled w.bodies slot ≡ true → stirred_by w.bodies w.joints w.contacts slot ≡ joined_to w.bodies w.joints slot ++ touched_by w.bodies w.contacts slot
unfolding stirred_by
stirred_others w slot h on = stirs_others (body_at w.bodies slot) slot (joined_to w.bodies w.joints slot ++ touched_by w.bodies w.contacts slot) h on

-- a mover that is stirred is awake
pub mover_up : (w : World) (slot : ℕ) → IsKept w → moves w.plain.bodies slot ≡ true → is_mover_awake (stirred w.plain slot).islands slot ≡ true
mover_up w slot k h = named_awake w (stirred_by w.plain.bodies w.plain.joints w.plain.contacts slot) slot k
    (subst (λ (slots : List ℕ). Contains slots slot) (sym (stirred_itself w.plain slot h)) (contains_head slot [])) h

-- the first mover of a tie is one
first_moves : (w : World) (m : Member Constraint) → IsKept w → Contains (ties_of w.plain.bodies (joints_in_slots w.plain) w.plain.contacts) m → moves w.plain.bodies m.movers.first ≡ true
first_moves w m k h = let o = (ties_have_labels w.plain.bodies (joints_in_slots w.plain) w.plain.contacts w.plain.islands m k.tied h).first in sym (k.tied m.movers.first) ∙ ap is_some o.1

-- ---- its ties can end

-- the movers of each of its ties are awake
tie_up : (w : World) (slot : ℕ) (m : Member Constraint) (t u : Bool) → IsKept w → moves w.plain.bodies slot ≡ t → is_enabled w.plain.bodies slot ≡ u
    → Contains (ties_at slot (stirred w.plain slot).bodies (joints_in_slots w.plain) w.plain.contacts) m → are_awake (stirred w.plain slot).islands m.movers ≡ true
tie_up w slot m true u k e f h =
    let wk : IsWoken w (stirred_by w.plain.bodies w.plain.joints w.plain.contacts slot) = waking_kept w (stirred_by w.plain.bodies w.plain.joints w.plain.contacts slot) k in
    let v : World = record w { plain = stirred w.plain slot } in
    one_wakes v m slot wk.kept ((ties_at_are_ties slot v.plain.bodies (joints_in_slots v.plain) v.plain.contacts (joint_slots_of v wk.kept) wk.kept.contacts).there m h)
    (ties_of_a_mover slot v.plain.bodies (joints_in_slots v.plain) v.plain.contacts m (wk.alike.movers slot ∙ e) h) (mover_up w slot k e)
tie_up w slot m false true k e f h =
    let slots : List ℕ = stirred_by w.plain.bodies w.plain.joints w.plain.contacts slot in
    let wk : IsWoken w slots = waking_kept w slots k in
    let v : World = record w { plain = stirred w.plain slot } in
    let before : Contains (ties_at slot w.plain.bodies (joints_in_slots w.plain) w.plain.contacts) m =
    subst (λ (ms : List (Member Constraint)). Contains ms m) (alike_at slot w.plain.bodies v.plain.bodies (joints_in_slots w.plain) w.plain.contacts wk.alike) h in
    let beside = (ties_of_no_mover slot w.plain.bodies (joints_in_slots w.plain) w.plain.contacts m e before).1 in
    let moving = first_moves w m k ((ties_at_are_ties slot w.plain.bodies (joints_in_slots w.plain) w.plain.contacts (joint_slots_of w k) k.contacts).there m before) in
    first_wakes v m wk.kept ((ties_at_are_ties slot v.plain.bodies (joints_in_slots v.plain) v.plain.contacts (joint_slots_of v wk.kept) wk.kept.contacts).there m h)
    (named_awake w slots m.movers.first k (subst (λ (others : List ℕ). Contains others m.movers.first) (sym (stirred_others w.plain slot e f)) beside) moving)
tie_up w slot m false false k e f h =
    let wk : IsWoken w (stirred_by w.plain.bodies w.plain.joints w.plain.contacts slot) = waking_kept w (stirred_by w.plain.bodies w.plain.joints w.plain.contacts slot) k in
    let none : Contains [] m = subst (λ (ms : List (Member Constraint)). Contains ms m) (no_ties_of_disabled slot (stirred w.plain slot).bodies (joints_in_slots w.plain) w.plain.contacts (wk.alike.enabled slot ∙ f)) h in
    none_in m none
  where
    none_in : (x : Member Constraint) → Contains [] x → are_awake (stirred w.plain slot).islands x.movers ≡ true
    none_in x q = absurd (omega (arith, q.1))

-- the ties of a body can end, once it was stirred
pub stirred_can_end : (w : World) (slot : ℕ) → IsKept w → CanEnd constraint_number (ties_at slot (stirred w.plain slot).bodies (joints_in_slots w.plain) w.plain.contacts) (acting_of (stirred w.plain slot))
unfolding acting_of
stirred_can_end w slot k =
    let wk : IsWoken w (stirred_by w.plain.bodies w.plain.joints w.plain.contacts slot) = waking_kept w (stirred_by w.plain.bodies w.plain.joints w.plain.contacts slot) k in
    let v : World = record w { plain = stirred w.plain slot } in
    let are = ties_at_are_ties slot v.plain.bodies (joints_in_slots v.plain) v.plain.contacts (joint_slots_of v wk.kept) wk.kept.contacts in
    record {
      rising = are.rising;
      there = are.there;
      awake = λ m h. tie_up w slot m (moves w.plain.bodies slot) (is_enabled w.plain.bodies slot) k refl refl h;
    }
