-- Joints whose movers are awake sleep with nobody.
use Rattle.std.proofs.Common.{◌≡◌, ℕ, zero, suc, ◌<◌, ◌==◌, ◌&&◌, ◌||◌, Bool, true, false, cond, List, [], ◌∷◌, length, Option, Some, None, slice_get, inl, inr, refl, sym, ap, ◌∙◌, subst, arith}
use Rattle.std.specs.Prelude.{Contains}
use Rattle.std.specs.Option.{option_map_or}
use Rattle.std.proofs.lemmas.Bool.{false≢true}
use Rattle.body_handles.specs.declared.handle.Handle.{Handle}
use Rattle.body_handles.specs.declared.slot_table.SlotEntry.{SlotEntry}
use Rattle.body_handles.specs.SlotEntries.{lowest}
use Rattle.body_handles.specs.declared.slot_table.TheConstants.{MAX_SLOTS}
use Rattle.contacts_base.proofs.Members.{contains_from_in}
use Rattle.plain_world.specs.declared.constraint.Constraint.{Constraint}
use Rattle.plain_world.specs.declared.constraint.Constraint.TheVariants.{Joint}
use Rattle.contacts_base.specs.declared.contact.ContactEntry.{ContactEntry}
use Rattle.graph_colours.proofs.PlaceLemmas.{same_from}
use Rattle.graph_colours.specs.declared.member.Member.{Member}
use Rattle.graph_colours.specs.declared.member.Movers.{Movers}
use Rattle.islands.specs.Labels.{Labels, label_at}
use Rattle.plain_world.specs.declared.body.Body.{Body}
use Rattle.plain_world.specs.declared.joint.BodyJoint.{BodyJoint}
use Rattle.plain_world.specs.Bodies.{is_mover_in, moves}
use Rattle.plain_world.specs.Joints.{is_end_in, is_joint_of, joint_at, joint_of}
use Rattle.plain_world.specs.Plain.{Plain}
use Rattle.plain_world.specs.Slots.{body_at}
use Rattle.sleep_wake.specs.Acting.{Acting, are_awake, is_mover_awake}
use Rattle.solver_sets.proofs.BodyLaws.{ties_at_in}
use Rattle.solver_sets.proofs.BondLaws.{bonds_in}
use Rattle.solver_sets.specs.Alike.{AreJointSlots}
use Rattle.solver_sets.specs.Ties.{JointSlots, is_enabled, joint_bond, joint_movers, movers_if, tie_with, ties_at}
use Rattle.world_core_base.specs.Asleep.{AreNamedAsleep, joint_sleep, movers_of_joint, sleep_with}
use Rattle.world_rules.proofs.ActingLaws.{IsWoken, awake_name, waking_kept}
use Rattle.world_rules.proofs.KeptEnabled.{seen_disabled}
use Rattle.world_rules.proofs.PartsLeft.{ends_of, stirred_slots, woken_bodies, woken_from}
use Rattle.world_rules.proofs.SoundLaws.{IsKept}
use Rattle.world_rules.proofs.StirLaws.{joint_slots_of, stirred_can_end}
use Rattle.world_rules.specs.Sets.{acting_of, stirred, with_woken}
use Rattle.world_rules.specs.Sound.{AreTold}
use Rattle.world_rules.specs.World.{World, joints_in_slots}
use Rattle.world_core.proofs.KeepLaws.{named_asleep, tie_up, told_acting}
use Rattle.world_core.proofs.PartLaws.{below_joints, can_join_from, can_unjoin_from, kept_of}
use Rattle.world_core.specs.Inside.{IsWhole}

-- ---- a joint whose movers are awake

and_first : (t u : Bool) → (t && u) ≡ true → t ≡ true
and_first true u h = refl
and_first false u h = h

pub joint_up : (bodies : List (Option Body)) (labels : Labels) (j : BodyJoint) → AreTold bodies labels → ((m : Movers) → joint_movers bodies j ≡ Some m → are_awake labels m ≡ true) → sleep_with bodies (joint_movers bodies j) ≡ None
joint_up bodies labels j told up = tie_up bodies labels j.a j.b told (λ m e. awake_name (label_at labels m.first) (and_first (is_mover_awake labels m.first) (option_map_or (is_mover_awake labels) m.second true) (up m e)))

-- ---- a joint of a disabled body

and_false : (t : Bool) → (t && false) ≡ false
and_false true = refl
and_false false = refl

pub off_up : (bodies : List (Option Body)) (slot : ℕ) (o : Option BodyJoint) → is_enabled bodies slot ≡ false → is_end_in slot o ≡ true → sleep_with bodies (movers_of_joint bodies o) ≡ None
off_up bodies slot None off own = refl
off_up bodies slot (Some j) off own = ap (λ (t : Bool). sleep_with bodies (cond t (movers_if (moves bodies j.a) (moves bodies j.b) j.a j.b) None)) (by (j.a == slot) (j.b == slot) refl refl own)
  where
    out : (end : ℕ) → (end == slot) ≡ true → is_enabled bodies end ≡ false
    out end e = ap (is_enabled bodies) (same_from end slot e) ∙ off

    by : (t u : Bool) → (j.a == slot) ≡ t → (j.b == slot) ≡ u → (t || u) ≡ true → (is_enabled bodies j.a && is_enabled bodies j.b) ≡ false
    by true u e f h = ap (λ (v : Bool). v && is_enabled bodies j.b) (out j.a e)
    by false true e f h = ap (λ (v : Bool). is_enabled bodies j.a && v) (out j.b f) ∙ and_false (is_enabled bodies j.a)
    by false false e f h = absurd (false≢true h)

-- ---- joints of a body that is changed, once those are awake whom that wakes

entry_at : (entries : List SlotEntry) (slot : ℕ) → slot < length entries → (p : SlotEntry) × (slice_get entries slot ≡ Some p)
entry_at [] slot lt = absurd (omega (arith, lt))
entry_at (p ∷ entries) zero lt = (p, refl)
entry_at (p ∷ entries) (suc slot) lt = entry_at entries slot (omega (arith, lt))

-- a joint of the body in a slot is among its ties, if one of its bodies is a mover and both take part
own_tie : (slot k : ℕ) (j : BodyJoint) (bodies : List (Option Body)) (s : JointSlots) (contacts : List ContactEntry) (m : Movers) → AreJointSlots s → joint_at s.joints k ≡ Some j → is_joint_of slot j ≡ true → joint_movers bodies j ≡ Some m
    → (h : Handle) × Contains (ties_at slot bodies s contacts) (record { id = Joint h; movers = m })
own_tie slot k j bodies s contacts m are at own e =
    let below : k < length s.joints = below_joints s.joints k j at in
    let slots = are.matched.slots in
    let p = entry_at s.slot_entries k (omega (arith, below, slots)) in
    let h : Handle = record { slot = k; generation = p.0.generation } in (
      h,
      contains_from_in (ties_at slot bodies s contacts) (record { id = Joint h; movers = m }) (ties_at_in slot bodies s contacts (record { id = Joint h; movers = m }) (record {
        of = joint_bond h j;
        there = bonds_in s contacts (joint_bond h j) (inl (record { slot = k; place = p.0; joint = j; at_place = p.1; at_joint = at; is = refl }));
        here = own;
        gives = ap (tie_with (Joint h)) e;
      })),
    )

-- the movers of each of its ties are awake
tie_awake : (w : World) (slot : ℕ) (m : Member Constraint) → IsKept w → Contains (ties_at slot (stirred w.plain slot).bodies (joints_in_slots w.plain) w.plain.contacts) m → are_awake (stirred w.plain slot).islands m.movers ≡ true
unfolding acting_of
tie_awake w slot m kept h = (stirred_can_end w slot kept).awake m h

own_up : (w : World) (slot k : ℕ) → IsKept w → is_end_in slot (joint_at w.plain.joints k) ≡ true → joint_sleep (stirred w.plain slot).bodies w.plain.joints k ≡ None
own_up w slot k kept own = by (joint_at w.plain.joints k) refl
  where
    told : AreTold (stirred w.plain slot).bodies (stirred w.plain slot).islands
    told = (waking_kept w (stirred_slots w.plain slot) kept).kept.told

    up : (j : BodyJoint) → joint_at w.plain.joints k ≡ Some j → (m : Movers) → joint_movers (stirred w.plain slot).bodies j ≡ Some m → are_awake (stirred w.plain slot).islands m ≡ true
    up j at m e =
        let tie = own_tie slot k j (stirred w.plain slot).bodies (joints_in_slots w.plain) w.plain.contacts m (joint_slots_of w kept) at (sym (ap (is_end_in slot) at) ∙ own) e in
        tie_awake w slot (record { id = Joint tie.0; movers = m }) kept tie.1

    by : (o : Option BodyJoint) → joint_at w.plain.joints k ≡ o → joint_sleep (stirred w.plain slot).bodies w.plain.joints k ≡ None
    by None e = absurd (false≢true (sym (ap (is_end_in slot) e) ∙ own))
    by (Some j) e = ap (λ (o : Option BodyJoint). sleep_with (stirred w.plain slot).bodies (movers_of_joint (stirred w.plain slot).bodies o)) e ∙ joint_up (stirred w.plain slot).bodies (stirred w.plain slot).islands j told (up j e)

-- the same of what acts
pub own_stirred_up : (w : World) (s : Acting Constraint) (slot k : ℕ) → IsWhole w s → is_end_in slot (joint_at w.plain.joints k) ≡ true → joint_sleep (woken_bodies w.plain s (stirred_slots w.plain slot)) w.plain.joints k ≡ None
own_stirred_up w s slot k is own =
    subst (λ (a : Acting Constraint). joint_sleep (woken_bodies w.plain a (stirred_slots w.plain slot)) w.plain.joints k ≡ None) (sym is.same) (own_up w slot k (kept_of w s is) own)

-- ---- islands that were woken

woken_told : (w : World) (s : Acting Constraint) (slots : List ℕ) → IsWhole w s → AreTold (woken_bodies w.plain s slots) (woken_from w.plain s slots).labels
woken_told w s slots is =
    subst (λ (a : Acting Constraint). AreTold (woken_bodies w.plain a slots) (woken_from w.plain a slots).labels) (sym is.same) (waking_kept w slots (kept_of w s is)).kept.told

-- whoever sleeps then does so under the name of a body's slot
pub woken_named : (w : World) (s : Acting Constraint) (slots : List ℕ) → IsWhole w s → AreNamedAsleep (woken_bodies w.plain s slots)
woken_named w s slots is =
    let wk : IsWoken w slots = waking_kept w slots (kept_of w s is) in
    let v : Plain = with_woken w.plain slots in
    subst (λ (a : Acting Constraint). AreNamedAsleep (woken_bodies w.plain a slots)) (sym is.same) (named_asleep v.bodies (acting_of v) wk.kept.consistent (told_acting v wk.kept.told))

-- a disabled body stays as it is
pub woken_disabled : (w : World) (s : Acting Constraint) (slots : List ℕ) (slot : ℕ) (b : Body) → IsWhole w s → body_at w.plain.bodies slot ≡ Some b → b.enabled ≡ false → body_at (woken_bodies w.plain s slots) slot ≡ Some b
woken_disabled w s slots slot b is at off = subst (λ (a : Acting Constraint). body_at (woken_bodies w.plain a slots) slot ≡ Some b) (sym is.same) (seen_disabled w slots slot b (kept_of w s is) at off)

-- a joint that is destroyed sleeps with nobody once its ends were woken
pub unjoined_up : (w : World) (s : Acting Constraint) (h : Handle) (j : BodyJoint) → IsWhole w s → joint_of w.plain.joint_entries w.plain.joints h ≡ Some j → sleep_with (woken_bodies w.plain s (ends_of j)) (joint_movers (woken_bodies w.plain s (ends_of j)) j) ≡ None
unjoined_up w s h j is named =
    joint_up (woken_bodies w.plain s (ends_of j)) (woken_from w.plain s (ends_of j)).labels j (woken_told w s (ends_of j) is) (can_unjoin_from w s h j is named).awake

-- and so does one that is made
pub joined_up : (w : World) (s : Acting Constraint) (j : BodyJoint) → IsWhole w s → lowest w.plain.joint_entries < MAX_SLOTS → sleep_with (woken_bodies w.plain s (ends_of j)) (joint_movers (woken_bodies w.plain s (ends_of j)) j) ≡ None
joined_up w s j is free = joint_up (woken_bodies w.plain s (ends_of j)) (woken_from w.plain s (ends_of j)).labels j (woken_told w s (ends_of j) is) (can_join_from w s j is free).awake
