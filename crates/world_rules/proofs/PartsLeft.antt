-- What the code leaves of a world in which a part was made or has ended, computed from what acts in it: it is what the
-- definitions leave, and it is kept.
use Rattle.std.proofs.Common.{◌≡◌, ℕ, ◌+◌, ◌<◌, ◌^◌, ◌++◌, List, [], ◌∷◌, Bool, true, false, cond, Option, Some, None, refl, sym, ap, ◌∙◌, subst}
use Rattle.std.specs.Prelude.{option_map, slice_set, filter, filter_map}
use Rattle.std.proofs.lemmas.List.{append-nil}
use Rattle.body_handles.specs.declared.handle.Handle.{Handle}
use Rattle.body_handles.specs.declared.slot_table.TheConstants.{MAX_SLOTS}
use Rattle.body_handles.specs.SlotEntries.{lowest, slot_entries_without}
use Rattle.plain_world.specs.Constraints.{constraint_number}
use Rattle.plain_world.specs.declared.constraint.Constraint.{Constraint}
use Rattle.plain_world.specs.declared.constraint.Constraint.TheVariants.{Joint}
use Rattle.contacts_base.specs.Contacts.{contacts_without}
use Rattle.contacts_base.specs.declared.contact.ContactEntry.{ContactEntry}
use Rattle.graph_colours.specs.Colours.{ids_of}
use Rattle.graph_colours.specs.declared.member.Member.{Member}
use Rattle.impulse_ledger.specs.declared.entry.Entry.{Entry}
use Rattle.plain_world.specs.declared.body.Body.{Body}
use Rattle.plain_world.specs.declared.body.BodyDef.{BodyDef}
use Rattle.plain_world.specs.declared.joint.BodyJoint.{BodyJoint}
use Rattle.plain_world.specs.declared.joint.JointDef.{JointDef}
use Rattle.plain_world.specs.Bodies.{IsBody, is_mover, made}
use Rattle.plain_world.specs.Changes.{changed_at, disabled_body, enabled_body}
use Rattle.plain_world.specs.Joints.{IsBodyJoint, idle_joints, joint_made, joint_of}
use Rattle.plain_world.specs.Plain.{Plain}
use Rattle.plain_world.specs.Sleep.{told}
use Rattle.plain_world.specs.Formed.{HaveFilters}
use Rattle.plain_world.specs.Slots.{body_at, with_body}
use Rattle.sleep_wake.specs.Widened.{widened}
use Rattle.sleep_wake.specs.Acting.{Acting, are_awake}
use Rattle.sleep_wake.specs.Bodies.{mover_gone, mover_made}
use Rattle.sleep_wake.specs.Changes.{each_begun, each_ended}
use Rattle.sleep_wake.specs.Sleeping.{islands_woken, sleeping_names}
use Rattle.solver_sets.specs.Beside.{joined_to, stirred_by}
use Rattle.solver_sets.specs.Joining.{handle_at, joined_with, unjoined, unjoined_all}
use Rattle.solver_sets.specs.Alike.{AreAlike}
use Rattle.solver_sets.specs.Ties.{Bond, JointSlots, begun_with, bonds_of, ended_with, is_bond_of, joint_movers, joint_ties_at, tie_of, ties_at}
use Rattle.world_rules.specs.Apply.{Applied, counted, created, departed, destroyed, disabled, enabled, joined, joint_gone, quietly, with_made, world_with}
use Rattle.world_rules.specs.Sets.{acting_of, body_gone, stirred, with_acting, with_woken}
use Rattle.world_rules.specs.World.{World, body_named, joints_in_slots}
use Rattle.world_rules.proofs.ActingLaws.{IsWoken, waking_kept}
use Rattle.world_rules.proofs.KeptBodies.{destroy_put, disable_put}
use Rattle.world_rules.proofs.KeptChanges.{counted_kept, named_at}
use Rattle.world_rules.proofs.EnabledTold.{enabling_told}
use Rattle.world_rules.proofs.KeptEnabled.{can_start, enabled_acting, enabled_is, seen_disabled, up_acting, up_bodies, up_plain, up_put}
use Rattle.world_rules.proofs.KeptJoints.{join_kept, joint_come_put, joint_gone_put, joint_up, unjoin_kept}
use Rattle.world_rules.proofs.KeptMade.{body_made_is, body_made_put, create_kept, made_new}
use Rattle.world_rules.proofs.QuietLaws.{all_contained, begun_told, ended_told}
use Rattle.world_rules.proofs.SlotLemmas.{body_at-in}
use Rattle.world_rules.proofs.SoundLaws.{IsKept}

-- ---- what an accepted command leaves

-- the world now, in which s acts, is what the accepted command a leaves of the old one
pub record IsLeft (old : World) (a : Applied) (now : World) (s : Acting Constraint) : Type 0 where
  pub same : now ≡ world_with old a
  pub kept : IsKept (world_with old a)
  pub acting : s ≡ acting_of a.plain

-- where nothing is booked
pub nothing_more : (w : World) (p : Plain) → IsKept (record w { plain = p }) → IsKept (record w { plain = p; entries = w.entries ++ [] })
nothing_more w p k = subst (λ (es : List Entry). IsKept (record w { plain = p; entries = es })) (sym (append-nil w.entries)) k

pub no_entries : (w : World) (p : Plain) → ◌≡◌ {A = World} (record w { plain = p }) (record w { plain = p; entries = w.entries ++ [] })
no_entries w p = λ j. record w { plain = p; entries = sym (append-nil w.entries) j }

-- the number of calls says nothing of what acts
pub acting_counted : (p : Plain) → acting_of (counted p) ≡ acting_of p
unfolding acting_of
acting_counted p = refl

-- ---- ties of bodies that are alike

same_tie : (old new : List (Option Body)) (b : Bond) → AreAlike old new → tie_of new b ≡ tie_of old b
same_tie old new b h = rw (h.enabled b.a, h.enabled b.b, h.movers b.a, h.movers b.b) refl

same_ties : (old new : List (Option Body)) (bonds : List Bond) → AreAlike old new → filter_map (tie_of new) bonds ≡ filter_map (tie_of old) bonds
same_ties old new [] h = refl
same_ties old new (b ∷ bonds) h = rw (same_tie old new b h, same_ties old new bonds h) refl

-- bodies that are alike have the same ties
pub ties_at_alike : (slot : ℕ) (old new : List (Option Body)) (s : JointSlots) (contacts : List ContactEntry) → AreAlike old new → ties_at slot new s contacts ≡ ties_at slot old s contacts
unfolding ties_at
ties_at_alike slot old new s contacts h = same_ties old new (filter (is_bond_of slot) (bonds_of s contacts)) h

-- ---- waking first

-- what acts once islands were woken
abbrev pub woken_from : Plain → Acting Constraint → List ℕ → Acting Constraint
woken_from w s slots = islands_woken constraint_number (sleeping_names w.islands slots) s

-- the bodies then
abbrev pub woken_bodies : Plain → Acting Constraint → List ℕ → List (Option Body)
woken_bodies w s slots = told (woken_from w s slots).labels w.bodies

abbrev pub stirred_slots : Plain → ℕ → List ℕ
stirred_slots w slot = stirred_by w.bodies w.joints w.contacts slot

-- ---- a body that leaves

-- what acts once the ties have ended
abbrev pub ended_from : Plain → Acting Constraint → ℕ → Acting Constraint
ended_from w s slot = each_ended constraint_number (ties_at slot w.bodies (joints_in_slots w) w.contacts) (woken_from w s (stirred_slots w slot))

abbrev pub gone_from : ℕ → Bool → Acting Constraint → Acting Constraint
gone_from slot mover s = cond mover (mover_gone constraint_number slot s) s

pub ended_is : (w : World) (slot : ℕ) → IsKept w → ended_from w.plain (acting_of w.plain) slot ≡ each_ended constraint_number (ties_at slot (stirred w.plain slot).bodies (joints_in_slots w.plain) w.plain.contacts) (acting_of (stirred w.plain slot))
ended_is w slot k =
    let wk : IsWoken w (stirred_slots w.plain slot) = waking_kept w (stirred_slots w.plain slot) k in
    let ties = sym (ties_at_alike slot w.plain.bodies (stirred w.plain slot).bodies (joints_in_slots w.plain) w.plain.contacts wk.alike) in
    let acts = sym wk.acting in
    λ j. each_ended constraint_number (ties j) (acts j)

pub gone_is : (w : World) (slot : ℕ) (mover : Bool) → IsKept w → gone_from slot mover (ended_from w.plain (acting_of w.plain) slot) ≡ body_gone slot mover (stirred w.plain slot)
gone_is w slot mover k = ap (gone_from slot mover) (ended_is w slot k)

-- ---- DestroyBody

abbrev pub destroyed_now : World → Acting Constraint → Acting Constraint → Handle → Body → World
destroyed_now w woke s h b = record w {
  plain = record w.plain {
    slot_entries = slot_entries_without w.plain.slot_entries h;
    bodies = told s.labels (slice_set (told woke.labels w.plain.bodies) h.slot None);
    joint_entries = (unjoined_all h.slot (joints_in_slots w.plain)).slot_entries;
    joints = (unjoined_all h.slot (joints_in_slots w.plain)).joints;
    contacts = contacts_without h.slot w.plain.contacts;
    islands = s.labels;
    colours = ids_of s.lists;
    calls = w.plain.calls + 1;
  };
  entries = w.entries ++ departed (w.plain.calls + 1) b;
}

destroyed_at : (w : World) (h : Handle) (b : Body) → IsKept w → w.plain.calls < 2 ^ 40 → body_named w.plain h ≡ Some b
    → IsLeft w (destroyed w.plain h b) (destroyed_now w (woken_from w.plain (acting_of w.plain) (stirred_slots w.plain h.slot)) (gone_from h.slot (is_mover b) (ended_from w.plain (acting_of w.plain) h.slot)) h b) (gone_from h.slot (is_mover b) (ended_from w.plain (acting_of w.plain) h.slot))
destroyed_at w h b k few named =
    let woke : Acting Constraint = woken_from w.plain (acting_of w.plain) (stirred_slots w.plain h.slot) in
    let gone = gone_is w h.slot (is_mover b) k in
    let put = destroy_put w h b k few named in
    record { same = ap (λ (s : Acting Constraint). destroyed_now w woke s h b) gone; kept = put.kept; acting = gone ∙ sym put.acting }

pub destroy_left : (w : World) (s : Acting Constraint) (h : Handle) (b : Body) → IsKept w → s ≡ acting_of w.plain → w.plain.calls < 2 ^ 40 → body_named w.plain h ≡ Some b
    → IsLeft w (destroyed w.plain h b) (destroyed_now w (woken_from w.plain s (stirred_slots w.plain h.slot)) (gone_from h.slot (is_mover b) (ended_from w.plain s h.slot)) h b) (gone_from h.slot (is_mover b) (ended_from w.plain s h.slot))
destroy_left w s h b k e few named =
    subst (λ (a : Acting Constraint). IsLeft w (destroyed w.plain h b) (destroyed_now w (woken_from w.plain a (stirred_slots w.plain h.slot)) (gone_from h.slot (is_mover b) (ended_from w.plain a h.slot)) h b) (gone_from h.slot (is_mover b) (ended_from w.plain a h.slot)))
    (sym e) (destroyed_at w h b k few named)

-- ---- Disable

abbrev pub disabled_now : World → Acting Constraint → Acting Constraint → Handle → Body → World
disabled_now w woke s h b = record w {
  plain = record w.plain {
    bodies = told s.labels (changed_at disabled_body (told woke.labels w.plain.bodies) h.slot);
    joints = idle_joints h.slot w.plain.joints;
    contacts = contacts_without h.slot w.plain.contacts;
    islands = s.labels;
    colours = ids_of s.lists;
    calls = w.plain.calls + 1;
  };
  entries = w.entries ++ departed (w.plain.calls + 1) b;
}

disabled_left_at : (w : World) (h : Handle) (b : Body) → IsKept w → w.plain.calls < 2 ^ 40 → body_named w.plain h ≡ Some b
    → IsLeft w (disabled w.plain h b) (disabled_now w (woken_from w.plain (acting_of w.plain) (stirred_slots w.plain h.slot)) (gone_from h.slot (is_mover b) (ended_from w.plain (acting_of w.plain) h.slot)) h b) (gone_from h.slot (is_mover b) (ended_from w.plain (acting_of w.plain) h.slot))
disabled_left_at w h b k few named =
    let woke : Acting Constraint = woken_from w.plain (acting_of w.plain) (stirred_slots w.plain h.slot) in
    let gone = gone_is w h.slot (is_mover b) k in
    let put = disable_put w h b k few named in
    record { same = ap (λ (s : Acting Constraint). disabled_now w woke s h b) gone; kept = put.kept; acting = gone ∙ sym put.acting }

pub disable_left : (w : World) (s : Acting Constraint) (h : Handle) (b : Body) → IsKept w → s ≡ acting_of w.plain → w.plain.calls < 2 ^ 40 → body_named w.plain h ≡ Some b
    → IsLeft w (disabled w.plain h b) (disabled_now w (woken_from w.plain s (stirred_slots w.plain h.slot)) (gone_from h.slot (is_mover b) (ended_from w.plain s h.slot)) h b) (gone_from h.slot (is_mover b) (ended_from w.plain s h.slot))
disable_left w s h b k e few named =
    subst (λ (a : Acting Constraint). IsLeft w (disabled w.plain h b) (disabled_now w (woken_from w.plain a (stirred_slots w.plain h.slot)) (gone_from h.slot (is_mover b) (ended_from w.plain a h.slot)) h b) (gone_from h.slot (is_mover b) (ended_from w.plain a h.slot)))
    (sym e) (disabled_left_at w h b k few named)

-- ---- CreateBody

abbrev pub come_from : ℕ → Bool → Acting Constraint → Acting Constraint
come_from slot mover s = cond mover (mover_made slot s) s

-- the same of a body that is made, which may come into a new slot
abbrev pub made_from : ℕ → Bool → Acting Constraint → Acting Constraint
made_from slot mover s = widened slot (come_from slot mover s)

abbrev pub created_now : World → Acting Constraint → BodyDef → World
created_now w s d = record w { plain = counted (record (with_made (lowest w.plain.slot_entries) (made d) w.plain) { islands = s.labels; colours = ids_of s.lists }) }

created_at : (w : World) (d : BodyDef) → IsKept w → w.plain.calls < 2 ^ 40 → lowest w.plain.slot_entries < MAX_SLOTS → IsBody (made d) → HaveFilters d.shapes
    → IsLeft w (created w.plain d) (created_now w (made_from (lowest w.plain.slot_entries) (is_mover (made d)) (acting_of w.plain)) d) (made_from (lowest w.plain.slot_entries) (is_mover (made d)) (acting_of w.plain))
created_at w d k few free is filters =
    let slot : ℕ = lowest w.plain.slot_entries in
    let s : Acting Constraint = made_from slot (is_mover (made d)) (acting_of w.plain) in
    let put = body_made_put w (made d) k free (made_new d is filters) in
    let told_is = body_made_is w (made d) k free (made_new d is filters) refl in
    let bodies : told s.labels (with_body w.plain.bodies slot (made d)) ≡ with_body w.plain.bodies slot (made d) = ap (λ (p : Plain). p.bodies) told_is in
    record {
      same = ap (λ (bs : List (Option Body)). record (created_now w s d) { plain = record (created_now w s d).plain { bodies = bs } }) (sym bodies) ∙ no_entries w (created w.plain d).plain;
      kept = nothing_more w (created w.plain d).plain (create_kept w d k few free is filters);
      acting = sym (acting_counted (with_acting s (with_made slot (made d) w.plain)) ∙ put.acting);
    }

pub create_left : (w : World) (s : Acting Constraint) (d : BodyDef) → IsKept w → s ≡ acting_of w.plain → w.plain.calls < 2 ^ 40 → lowest w.plain.slot_entries < MAX_SLOTS → IsBody (made d) → HaveFilters d.shapes
    → IsLeft w (created w.plain d) (created_now w (made_from (lowest w.plain.slot_entries) (is_mover (made d)) s) d) (made_from (lowest w.plain.slot_entries) (is_mover (made d)) s)
create_left w s d k e few free is filters =
    subst (λ (a : Acting Constraint). IsLeft w (created w.plain d) (created_now w (made_from (lowest w.plain.slot_entries) (is_mover (made d)) a) d) (made_from (lowest w.plain.slot_entries) (is_mover (made d)) a)) (sym e) (created_at w d k few free is filters)

-- ---- CreateJoint and DestroyJoint

abbrev pub ends_of : BodyJoint → List ℕ
ends_of j = j.a ∷ j.b ∷ []

abbrev pub joints_now : World → List (Option Body) → Acting Constraint → JointSlots → World
joints_now w bodies s joints = record w { plain = counted (record w.plain { bodies = bodies; joint_entries = joints.slot_entries; joints = joints.joints; islands = s.labels; colours = ids_of s.lists }) }

-- the handle that a joint gets
abbrev pub next_joint : Plain → Handle
next_joint w = handle_at w.joint_entries (lowest w.joint_entries)

abbrev pub begun_from : Plain → Acting Constraint → BodyJoint → Acting Constraint
begun_from w s j = begun_with (Joint (next_joint w)) (joint_movers (woken_bodies w s (ends_of j)) j) (woken_from w s (ends_of j))

abbrev pub unjoined_from : Plain → Acting Constraint → Handle → BodyJoint → Acting Constraint
unjoined_from w s h j = ended_with (Joint h) (joint_movers (woken_bodies w s (ends_of j)) j) (woken_from w s (ends_of j))

joined_at : (w : World) (d : JointDef) → IsKept w → w.plain.calls < 2 ^ 40 → lowest w.plain.joint_entries < MAX_SLOTS → IsBodyJoint w.plain.bodies (joint_made d)
    → IsLeft w (joined w.plain d (next_joint w.plain)) (joints_now w (woken_bodies w.plain (acting_of w.plain) (ends_of (joint_made d))) (begun_from w.plain (acting_of w.plain) (joint_made d)) (joined_with (joint_made d) (joints_in_slots w.plain))) (begun_from w.plain (acting_of w.plain) (joint_made d))
unfolding acting_of
joined_at w d k few free is =
    let j : BodyJoint = joint_made d in
    let wk : IsWoken w (ends_of j) = waking_kept w (ends_of j) k in
    let v : World = record w { plain = with_woken w.plain (ends_of j) } in
    let joints : JointSlots = joined_with j (joints_in_slots w.plain) in
    let id : Constraint = Joint (next_joint w.plain) in
    let s : Acting Constraint = begun_with id (joint_movers v.plain.bodies j) (acting_of v.plain) in
    let begun : begun_from w.plain (acting_of w.plain) j ≡ s = ap (begun_with id (joint_movers v.plain.bodies j)) (sym wk.acting) in
    let quiet : told s.labels v.plain.bodies ≡ v.plain.bodies = begun_told v id (joint_movers v.plain.bodies j) wk.kept (joint_up w j k) in
    let put = joint_come_put w j k free is in
    record {
      same = ap (λ (a : Acting Constraint). joints_now w v.plain.bodies a joints) begun ∙ ap (λ (bs : List (Option Body)). joints_now w bs s joints) (sym quiet) ∙ no_entries w (joined w.plain d (next_joint w.plain)).plain;
      kept = nothing_more w (joined w.plain d (next_joint w.plain)).plain (join_kept w j k few free is);
      acting = begun ∙ sym put.acting;
    }

pub join_left : (w : World) (s : Acting Constraint) (d : JointDef) → IsKept w → s ≡ acting_of w.plain → w.plain.calls < 2 ^ 40 → lowest w.plain.joint_entries < MAX_SLOTS → IsBodyJoint w.plain.bodies (joint_made d)
    → IsLeft w (joined w.plain d (next_joint w.plain)) (joints_now w (woken_bodies w.plain s (ends_of (joint_made d))) (begun_from w.plain s (joint_made d)) (joined_with (joint_made d) (joints_in_slots w.plain))) (begun_from w.plain s (joint_made d))
join_left w s d k e few free is =
    subst (λ (a : Acting Constraint). IsLeft w (joined w.plain d (next_joint w.plain)) (joints_now w (woken_bodies w.plain a (ends_of (joint_made d))) (begun_from w.plain a (joint_made d)) (joined_with (joint_made d) (joints_in_slots w.plain))) (begun_from w.plain a (joint_made d)))
    (sym e) (joined_at w d k few free is)

-- the joint of this handle goes
abbrev pub unjoined_of : Plain → Handle → BodyJoint → Applied
unjoined_of w h j = quietly (joint_gone h j (with_woken w (ends_of j)))

unjoined_at : (w : World) (h : Handle) (j : BodyJoint) → IsKept w → w.plain.calls < 2 ^ 40 → joint_of w.plain.joint_entries w.plain.joints h ≡ Some j
    → IsLeft w (unjoined_of w.plain h j) (joints_now w (woken_bodies w.plain (acting_of w.plain) (ends_of j)) (unjoined_from w.plain (acting_of w.plain) h j) (unjoined h (joints_in_slots w.plain))) (unjoined_from w.plain (acting_of w.plain) h j)
unfolding acting_of
unjoined_at w h j k few named =
    let wk : IsWoken w (ends_of j) = waking_kept w (ends_of j) k in
    let v : World = record w { plain = with_woken w.plain (ends_of j) } in
    let joints : JointSlots = unjoined h (joints_in_slots w.plain) in
    let s : Acting Constraint = ended_with (Joint h) (joint_movers v.plain.bodies j) (acting_of v.plain) in
    let ended : unjoined_from w.plain (acting_of w.plain) h j ≡ s = ap (ended_with (Joint h) (joint_movers v.plain.bodies j)) (sym wk.acting) in
    let quiet : told s.labels v.plain.bodies ≡ v.plain.bodies = ended_told v (Joint h) (joint_movers v.plain.bodies j) wk.kept (joint_up w j k) in
    let put = joint_gone_put w h j k named in
    record {
      same = ap (λ (a : Acting Constraint). joints_now w v.plain.bodies a joints) ended ∙ ap (λ (bs : List (Option Body)). joints_now w bs s joints) (sym quiet) ∙ no_entries w (unjoined_of w.plain h j).plain;
      kept = nothing_more w (unjoined_of w.plain h j).plain (unjoin_kept w h j k few named);
      acting = ended ∙ sym put.acting;
    }

pub unjoin_left : (w : World) (s : Acting Constraint) (h : Handle) (j : BodyJoint) → IsKept w → s ≡ acting_of w.plain → w.plain.calls < 2 ^ 40 → joint_of w.plain.joint_entries w.plain.joints h ≡ Some j
    → IsLeft w (unjoined_of w.plain h j) (joints_now w (woken_bodies w.plain s (ends_of j)) (unjoined_from w.plain s h j) (unjoined h (joints_in_slots w.plain))) (unjoined_from w.plain s h j)
unjoin_left w s h j k e few named =
    subst (λ (a : Acting Constraint). IsLeft w (unjoined_of w.plain h j) (joints_now w (woken_bodies w.plain a (ends_of j)) (unjoined_from w.plain a h j) (unjoined h (joints_in_slots w.plain))) (unjoined_from w.plain a h j))
    (sym e) (unjoined_at w h j k few named)

-- ---- Enable

abbrev pub joined_slots : Plain → ℕ → List ℕ
joined_slots w slot = joined_to w.bodies w.joints slot

-- what acts once the body in the slot has come, and its joints have begun
abbrev pub enabled_from : Plain → Acting Constraint → ℕ → Bool → Option Body → Acting Constraint
enabled_from w s slot mover o = each_begun constraint_number (joint_ties_at slot (slice_set (woken_bodies w s (joined_slots w slot)) slot o) (joints_in_slots w)) (come_from slot mover (woken_from w s (joined_slots w slot)))

abbrev bodies_now : World → List (Option Body) → Acting Constraint → World
bodies_now w bodies s = record w { plain = counted (record w.plain { bodies = bodies; islands = s.labels; colours = ids_of s.lists }) }

abbrev pub enabled_now : World → Acting Constraint → ℕ → Bool → Option Body → World
enabled_now w s slot mover o = record w { plain = counted (record w.plain { bodies = slice_set (woken_bodies w.plain s (joined_slots w.plain slot)) slot o; islands = (enabled_from w.plain s slot mover o).labels; colours = ids_of (enabled_from w.plain s slot mover o).lists }) }

-- the body that is enabled, as it is once islands were woken
abbrev pub woken_enabled : Plain → Acting Constraint → ℕ → Option Body
woken_enabled w s slot = option_map enabled_body (body_at (woken_bodies w s (joined_slots w slot)) slot)

abbrev enabled_plain : World → ℕ → Body → Option Body → Plain
enabled_plain w slot c o = with_acting (enabled_acting w slot c o) (up_plain w slot o)

enabled_one : (w : World) (slot : ℕ) (b : Body) → IsKept w → w.plain.calls < 2 ^ 40 → body_at w.plain.bodies slot ≡ Some b → b.enabled ≡ false
    → IsLeft w (quietly (enabled_plain w slot (enabled_body b) (Some (enabled_body b)))) (enabled_now w (acting_of w.plain) slot (is_mover (enabled_body b)) (Some (enabled_body b))) (enabled_from w.plain (acting_of w.plain) slot (is_mover (enabled_body b)) (Some (enabled_body b)))
unfolding acting_of
enabled_one w slot b k few there off =
    let slots : List ℕ = joined_slots w.plain slot in
    let wk : IsWoken w slots = waking_kept w slots k in
    let v : World = record w { plain = with_woken w.plain slots } in
    let c : Body = enabled_body b in
    let at : body_at v.plain.bodies slot ≡ Some b = seen_disabled w slots slot b k there off in
    let ms : List (Member Constraint) = joint_ties_at slot (up_bodies w slot (Some c)) (joints_in_slots w.plain) in
    let s : Acting Constraint = enabled_acting w slot c (Some c) in
    let begun : enabled_from w.plain (acting_of w.plain) slot (is_mover c) (Some c) ≡ s = ap (λ (a : Acting Constraint). each_begun constraint_number ms (come_from slot (is_mover c) a)) (sym wk.acting) in
    let put = up_put w slot b k at off in
    let start = can_start w slot b k at off in
    let up = all_contained (λ (m : Member Constraint). are_awake (up_acting w slot c).labels m.movers ≡ true) ms start.can.awake in
    let is : IsBody b = wk.kept.bodies slot b (body_at-in v.plain.bodies slot b at) in
    let quiet : told s.labels (up_bodies w slot (Some c)) ≡ up_bodies w slot (Some c) = enabling_told v slot b ms wk.kept at off (enabled_is b is off) up in
    record {
      same = ap (bodies_now w (up_bodies w slot (Some c))) begun ∙ ap (λ (bs : List (Option Body)). bodies_now w bs s) (sym quiet) ∙ no_entries w (counted (enabled_plain w slot c (Some c)));
      kept = nothing_more w (counted (enabled_plain w slot c (Some c))) (counted_kept (record w { plain = enabled_plain w slot c (Some c) }) put.kept few);
      acting = begun ∙ sym put.acting;
    }

enabled_at : (w : World) (h : Handle) (b : Body) → IsKept w → w.plain.calls < 2 ^ 40 → body_named w.plain h ≡ Some b → b.enabled ≡ false
    → IsLeft w (quietly (enabled w.plain h b)) (enabled_now w (acting_of w.plain) h.slot (is_mover (enabled_body b)) (woken_enabled w.plain (acting_of w.plain) h.slot)) (enabled_from w.plain (acting_of w.plain) h.slot (is_mover (enabled_body b)) (woken_enabled w.plain (acting_of w.plain) h.slot))
enabled_at w h b k few named off =
    let slot : ℕ = h.slot in
    let c : Body = enabled_body b in
    let there : body_at w.plain.bodies slot ≡ Some b = named_at w.plain h b named in
    let o : Option Body = woken_enabled w.plain (acting_of w.plain) slot in
    let now : o ≡ Some c = ap (option_map enabled_body) (seen_disabled w (joined_slots w.plain slot) slot b k there off) in
    let one = enabled_one w slot b k few there off in
    let with_it = subst (λ (x : Option Body). IsLeft w (quietly (enabled_plain w slot c x)) (enabled_now w (acting_of w.plain) slot (is_mover c) x) (enabled_from w.plain (acting_of w.plain) slot (is_mover c) x)) (sym now) one in
    let done : enabled w.plain h b ≡ enabled_plain w slot c o = ap (λ (t : Bool). cond t w.plain (enabled_plain w slot c o)) off in
    subst (λ (p : Plain). IsLeft w (quietly p) (enabled_now w (acting_of w.plain) slot (is_mover c) o) (enabled_from w.plain (acting_of w.plain) slot (is_mover c) o)) (sym done) with_it

pub enable_left : (w : World) (s : Acting Constraint) (h : Handle) (b : Body) → IsKept w → s ≡ acting_of w.plain → w.plain.calls < 2 ^ 40 → body_named w.plain h ≡ Some b → b.enabled ≡ false
    → IsLeft w (quietly (enabled w.plain h b)) (enabled_now w s h.slot (is_mover (enabled_body b)) (woken_enabled w.plain s h.slot)) (enabled_from w.plain s h.slot (is_mover (enabled_body b)) (woken_enabled w.plain s h.slot))
enable_left w s h b k e few named off =
    subst (λ (a : Acting Constraint). IsLeft w (quietly (enabled w.plain h b)) (enabled_now w a h.slot (is_mover (enabled_body b)) (woken_enabled w.plain a h.slot)) (enabled_from w.plain a h.slot (is_mover (enabled_body b)) (woken_enabled w.plain a h.slot)))
    (sym e) (enabled_at w h b k few named off)

-- one that is enabled already
pub enabled_left : (w : World) (s : Acting Constraint) (h : Handle) (b : Body) → IsKept w → s ≡ acting_of w.plain → w.plain.calls < 2 ^ 40 → b.enabled ≡ true
    → IsLeft w (quietly (enabled w.plain h b)) (record w { plain = counted w.plain }) s
enabled_left w s h b k e few on =
    let done : enabled w.plain h b ≡ w.plain = ap (λ (t : Bool). cond t w.plain (enabled_plain w h.slot (enabled_body b) (option_map enabled_body (body_at (with_woken w.plain (joined_slots w.plain h.slot)).bodies h.slot)))) on in
    subst (λ (p : Plain). IsLeft w (quietly p) (record w { plain = counted w.plain }) s) (sym done) (record {
      same = no_entries w (counted w.plain);
      kept = nothing_more w (counted w.plain) (counted_kept w k few);
      acting = e ∙ sym (acting_counted w.plain);
    })
