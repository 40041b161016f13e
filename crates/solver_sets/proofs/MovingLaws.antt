-- The constraints that act tell who is beside a body that moves.
use Rattle.std.proofs.Common.{◌≡◌, ◌⊎◌, ℕ, zero, suc, ◌&&◌, ◌||◌, Bool, true, false, cond, List, [], ◌∷◌, length, Option, Some, None, is_none, is_some, slice_get, inl, inr, refl, sym, ap, ◌∙◌, subst, arith}
use Rattle.std.specs.Prelude.{◌==◌, Contains}
use Rattle.std.specs.List.{list_any}
use Rattle.std.proofs.lemmas.Option.{same_Some}
use Rattle.std.specs.Option.{option_map_or}
use Rattle.body_handles.specs.declared.slot_table.SlotEntry.{SlotEntry}
use Rattle.contacts_base.proofs.Members.{IsIn, contains_from_in, in_from_contains}
use Rattle.plain_world.specs.Constraints.{constraint_number}
use Rattle.plain_world.specs.declared.constraint.Constraint.{Constraint}
use Rattle.contacts_base.specs.declared.contact.ContactEntry.{ContactEntry}
use Rattle.contacts_base.specs.Evaluate.{touches}
use Rattle.graph_colours.proofs.PlaceLemmas.{same_from}
use Rattle.graph_colours.specs.declared.member.Member.{Member}
use Rattle.graph_colours.specs.declared.member.Movers.{Movers}
use Rattle.graph_colours.specs.Colours.{all_members}
use Rattle.islands.specs.declared.label.Label.{Label}
use Rattle.islands.specs.Labels.{label_at}
use Rattle.plain_world.specs.declared.body.Body.{Body}
use Rattle.plain_world.specs.declared.joint.BodyJoint.{BodyJoint}
use Rattle.plain_world.specs.declared.kind.Kind.{Kind}
use Rattle.plain_world.specs.declared.kind.Kind.TheVariants.{Static, Kinematic, Dynamic}
use Rattle.plain_world.specs.Joints.{joint_at}
use Rattle.plain_world.specs.Kinds.{carried_by, is_dynamic, is_moving}
use Rattle.plain_world.specs.Slots.{body_at}
use Rattle.sleep_wake.specs.Acting.{Acting, IsConsistent, are_awake, awake_label, is_mover_awake}
use Rattle.solver_sets.specs.Beside.{is_beside_moving, is_joined_to_moving, is_moving_at, is_stirred_between, is_touched_by_moving}
use Rattle.solver_sets.specs.BesideByTies.{is_to_moving, ties_to_moving}
use Rattle.solver_sets.specs.Laws as laws
use Rattle.plain_world.specs.Bodies.{is_mover_in, moves}
use Rattle.solver_sets.specs.Ties.{Bond, JointSlots, bonds_of, contact_bond, is_enabled, is_enabled_in, joint_bond, movers_if, movers_with, tie_of, tie_with, ties_of}
use Rattle.solver_sets.proofs.AmongLaws.{if_both, movers_enabled}
use Rattle.solver_sets.proofs.BondLaws.{IsContactBond, IsJointBond, bonds_in, in_bonds}
use Rattle.solver_sets.proofs.ListLaws.{in_map, map_in}

-- ---- a body that moves is enabled, and no mover

and_both : (t u : Bool) → cond t u false ≡ true → u ≡ true
and_both true u e = e
and_both false u e = cc

moving_enabled : (o : Option Body) → option_map_or (λ (b : Body). cond b.enabled (is_moving (carried_by b.kind)) false) o false ≡ true → is_enabled_in o ≡ true
moving_enabled None e = cc
moving_enabled (Some b) e = if_both b.enabled (is_moving (carried_by b.kind)) e

moving_kind : (k : Kind) → is_moving (carried_by k) ≡ true → is_dynamic k ≡ false
moving_kind Static e = refl
moving_kind (Kinematic course) e = refl
moving_kind Dynamic e = cc

not_both : (t : Bool) → cond t false false ≡ false
not_both true = refl
not_both false = refl

moving_stays : (o : Option Body) → option_map_or (λ (b : Body). cond b.enabled (is_moving (carried_by b.kind)) false) o false ≡ true → is_mover_in o ≡ false
moving_stays None e = refl
moving_stays (Some b) e =
    ap (λ (t : Bool). cond b.enabled t false) (moving_kind b.kind (and_both b.enabled (is_moving (carried_by b.kind)) e)) ∙ not_both b.enabled

-- ---- a mover beside it is the only mover of their constraint

abbrev alone : ℕ → Movers
alone slot = record { first = slot; second = None }

alone_by : (ea eb ma mb : Bool) (a b : ℕ) → ea ≡ true → eb ≡ true → ma ≡ true → mb ≡ false → cond (ea && eb) (movers_if ma mb a b) None ≡ Some (alone a)
alone_by true true true false a b p q r s = refl
alone_by false eb ma mb a b p q r s = cc
alone_by true false ma mb a b p q r s = cc
alone_by true true false mb a b p q r s = cc
alone_by true true true true a b p q r s = cc

other_by : (ea eb ma mb : Bool) (a b : ℕ) → ea ≡ true → eb ≡ true → ma ≡ false → mb ≡ true → cond (ea && eb) (movers_if ma mb a b) None ≡ Some (alone b)
other_by true true false true a b p q r s = refl
other_by false eb ma mb a b p q r s = cc
other_by true false ma mb a b p q r s = cc
other_by true true true mb a b p q r s = cc
other_by true true false false a b p q r s = cc

first_alone : (bodies : List (Option Body)) (a b : ℕ) → moves bodies a ≡ true → is_moving_at bodies b ≡ true → movers_with bodies a b ≡ Some (alone a)
first_alone bodies a b up moving =
    alone_by (is_enabled bodies a) (is_enabled bodies b) (moves bodies a) (moves bodies b) a b (movers_enabled (body_at bodies a) up) (moving_enabled (body_at bodies b) moving) up (moving_stays (body_at bodies b) moving)

second_alone : (bodies : List (Option Body)) (a b : ℕ) → moves bodies b ≡ true → is_moving_at bodies a ≡ true → movers_with bodies a b ≡ Some (alone b)
second_alone bodies a b up moving =
    other_by (is_enabled bodies a) (is_enabled bodies b) (moves bodies a) (moves bodies b) a b (moving_enabled (body_at bodies a) moving) (movers_enabled (body_at bodies b) up) (moving_stays (body_at bodies a) moving) up

stirred_alone : (bodies : List (Option Body)) (slot a b : ℕ) → moves bodies slot ≡ true → is_stirred_between bodies slot a b ≡ true → movers_with bodies a b ≡ Some (alone slot)
stirred_alone bodies slot a b up h = by (a == slot) (b == slot) refl refl h
  where
    by : (t u : Bool) → (a == slot) ≡ t → (b == slot) ≡ u → cond t (is_moving_at bodies b) (cond u (is_moving_at bodies a) false) ≡ true → movers_with bodies a b ≡ Some (alone slot)
    by true u at_a at_b e =
        let same : a ≡ slot = same_from a slot at_a in
        first_alone bodies a b (ap (moves bodies) same ∙ up) e ∙ ap (λ (n : ℕ). Some (alone n)) same
    by false true at_a at_b e =
        let same : b ≡ slot = same_from b slot at_b in
        second_alone bodies a b (ap (moves bodies) same ∙ up) e ∙ ap (λ (n : ℕ). Some (alone n)) same
    by false false at_a at_b e = cc

-- ---- what passes a test in a list

-- an element that passes
record Passes {X : Type 0} (test : X → Bool) (xs : List X) : Type 0 where
  of : X
  there : IsIn of xs
  on : test of ≡ true

passes_by : {X : Type 0} (test : X → Bool) (x : X) (xs : List X) (t : Bool) → test x ≡ t → (t || list_any test xs) ≡ true → (list_any test xs ≡ true → Passes test xs) → Passes test (x ∷ xs)
passes_by test x xs true is h rest = record { of = x; there = inl refl; on = is }
passes_by test x xs false is h rest = let p = rest h in record { of = p.of; there = inr p.there; on = p.on }

in_any : {X : Type 0} (test : X → Bool) (xs : List X) → list_any test xs ≡ true → Passes test xs
in_any test [] e = cc
in_any test (x ∷ xs) e = passes_by test x xs (test x) refl e (in_any test xs)

or_true : (t : Bool) → (t || true) ≡ true
or_true true = refl
or_true false = refl

any_in : {X : Type 0} (test : X → Bool) (xs : List X) (x : X) → IsIn x xs → test x ≡ true → list_any test xs ≡ true
any_in test [] x h e = absurd h
any_in test (y ∷ ys) x h e = elim h [
  | inl same ↦ ap (λ (t : Bool). t || list_any test ys) (ap test (sym same) ∙ e)
  | inr rest ↦ ap (λ (t : Bool). test y || t) (any_in test ys x rest e) ∙ or_true (test y)
]

-- the joint in a slot that does
record PassesAt (test : Option BodyJoint → Bool) (joints : List (Option BodyJoint)) : Type 0 where
  slot : ℕ
  joint : BodyJoint
  there : joint_at joints slot ≡ Some joint
  on : test (Some joint) ≡ true

joint_by : (test : Option BodyJoint → Bool) (o : Option BodyJoint) (joints : List (Option BodyJoint)) (t : Bool) → test None ≡ false → test o ≡ t → (t || list_any test joints) ≡ true → (list_any test joints ≡ true → PassesAt test joints) → PassesAt test (o ∷ joints)
joint_by test (Some j) joints true off is h rest = record { slot = zero; joint = j; there = refl; on = is }
joint_by test None joints true off is h rest = cc
joint_by test o joints false off is h rest = let p = rest h in record { slot = suc p.slot; joint = p.joint; there = p.there; on = p.on }

joint_any : (test : Option BodyJoint → Bool) (joints : List (Option BodyJoint)) → test None ≡ false → list_any test joints ≡ true → PassesAt test joints
joint_any test [] off e = cc
joint_any test (o ∷ joints) off e = joint_by test o joints (test o) off refl e (joint_any test joints off)

any_joint : (test : Option BodyJoint → Bool) (joints : List (Option BodyJoint)) (slot : ℕ) (j : BodyJoint) → joint_at joints slot ≡ Some j → test (Some j) ≡ true → list_any test joints ≡ true
any_joint test [] slot j at e = cc
any_joint test (o ∷ joints) zero j at e = let is : o ≡ Some j = at in ap (λ (t : Bool). t || list_any test joints) (ap test is ∙ e)
any_joint test (o ∷ joints) (suc slot) j at e = ap (λ (t : Bool). test o || t) (any_joint test joints slot j at e) ∙ or_true (test o)

place_there : (slot_entries : List SlotEntry) (joints : List (Option BodyJoint)) (slot : ℕ) (j : BodyJoint) → length slot_entries ≡ length joints → joint_at joints slot ≡ Some j → (p : SlotEntry) × (slice_get slot_entries slot ≡ Some p)
place_there slot_entries [] slot j len at = cc
place_there [] (o ∷ joints) slot j len at = absurd (omega (arith, len))
place_there (p ∷ slot_entries) (o ∷ joints) zero j len at = (p, refl)
place_there (p ∷ slot_entries) (o ∷ joints) (suc slot) j len at = place_there slot_entries joints slot j (omega (arith, len)) at

-- ---- a constraint that acts for each mover beside a body that moves

-- a bond of a mover and a body that moves acts, if the mover is awake
acts : (bodies : List (Option Body)) (s : JointSlots) (contacts : List ContactEntry) (a : Acting Constraint) (slot : ℕ) (bond : Bond) → IsConsistent constraint_number a → a.ties ≡ ties_of bodies s contacts → is_mover_awake a.labels slot ≡ true
    → IsIn bond (bonds_of s contacts) → movers_with bodies bond.a bond.b ≡ Some (alone slot) → IsIn (record { id = bond.id; movers = alone slot }) (all_members a.lists)
unfolding ties_of
acts bodies s contacts a slot bond consistent ties up there movers =
    let m : Member Constraint = record { id = bond.id; movers = alone slot } in
    let tie : IsIn m (ties_of bodies s contacts) = map_in (tie_of bodies) (bonds_of s contacts) bond m there (ap (tie_with bond.id) movers) in
    let listed : Contains a.ties m = subst (λ (l : List (Member Constraint)). Contains l m) (sym ties) (contains_from_in (ties_of bodies s contacts) m tie) in
    let awake : are_awake a.labels m.movers ≡ true = ap (λ (t : Bool). t && option_map_or (is_mover_awake a.labels) None true) up in
    in_from_contains (all_members a.lists) m ((consistent.acting m).1 (listed, awake))

tells : (bodies : List (Option Body)) (s : JointSlots) (contacts : List ContactEntry) (a : Acting Constraint) (slot : ℕ) (bond : Bond) → IsConsistent constraint_number a → a.ties ≡ ties_of bodies s contacts → moves bodies slot ≡ true → is_mover_awake a.labels slot ≡ true
    → IsIn bond (bonds_of s contacts) → is_stirred_between bodies slot bond.a bond.b ≡ true → is_to_moving bodies s.joints slot bond.id ≡ true → list_any (ties_to_moving bodies s.joints slot) (all_members a.lists) ≡ true
tells bodies s contacts a slot bond consistent ties moving up there stirred to =
    any_in (ties_to_moving bodies s.joints slot) (all_members a.lists) (record { id = bond.id; movers = alone slot })
    (acts bodies s contacts a slot bond consistent ties up there (stirred_alone bodies slot bond.a bond.b moving stirred)) to

either : (t u : Bool) → (t || u) ≡ true → (t ≡ true) ⊎ (u ≡ true)
either true u e = inl refl
either false u e = inr e

complete : (bodies : List (Option Body)) (s : JointSlots) (contacts : List ContactEntry) (a : Acting Constraint) (slot : ℕ) → length s.slot_entries ≡ length s.joints → IsConsistent constraint_number a → a.ties ≡ ties_of bodies s contacts → moves bodies slot ≡ true
    → is_mover_awake a.labels slot ≡ true → is_beside_moving bodies s.joints contacts slot ≡ true → list_any (ties_to_moving bodies s.joints slot) (all_members a.lists) ≡ true
unfolding is_beside_moving
complete bodies s contacts a slot matched consistent ties moving up beside =
    elim (either (list_any (is_joined_to_moving bodies slot) s.joints) (list_any (is_touched_by_moving bodies slot) contacts) beside) [
      | inl joined ↦
          let p : PassesAt (is_joined_to_moving bodies slot) s.joints = joint_any (is_joined_to_moving bodies slot) s.joints refl joined in
          let place = place_there s.slot_entries s.joints p.slot p.joint matched p.there in
          let bond : Bond = joint_bond (record { slot = p.slot; generation = place.0.generation }) p.joint in
          let is : IsJointBond s bond = record { slot = p.slot; place = place.0; joint = p.joint; at_place = place.1; at_joint = p.there; is = refl } in
          tells bodies s contacts a slot bond consistent ties moving up (bonds_in s contacts bond (inl is)) p.on (ap (is_joined_to_moving bodies slot) p.there ∙ p.on)
      | inr touched ↦
          let p : Passes (is_touched_by_moving bodies slot) contacts = in_any (is_touched_by_moving bodies slot) contacts touched in
          let bond : Bond = contact_bond p.of.key in
          let stirred : is_stirred_between bodies slot p.of.key.first.slot p.of.key.second.slot ≡ true = and_both (touches p.of.contact) (is_stirred_between bodies slot p.of.key.first.slot p.of.key.second.slot) p.on in
          let touching : touches p.of.contact ≡ true = if_both (touches p.of.contact) (is_stirred_between bodies slot p.of.key.first.slot p.of.key.second.slot) p.on in
          let is : IsContactBond contacts bond = record { entry = p.of; there = p.there; touching = touching; is = refl } in
          tells bodies s contacts a slot bond consistent ties moving up (bonds_in s contacts bond (inr is)) stirred stirred
    ]

-- ---- and no other

tie_id : (id : Constraint) (o : Option Movers) (m : Member Constraint) → tie_with id o ≡ Some m → m.id ≡ id
tie_id id None m e = cc
tie_id id (Some movers) m e = sym (ap (λ (x : Member Constraint). x.id) (same_Some (record { id = id; movers = movers }) m e))

beside_by : (bodies : List (Option Body)) (s : JointSlots) (contacts : List ContactEntry) (slot : ℕ) (bond : Bond) → IsIn bond (bonds_of s contacts) → is_to_moving bodies s.joints slot bond.id ≡ true → is_beside_moving bodies s.joints contacts slot ≡ true
unfolding is_beside_moving
beside_by bodies s contacts slot bond there to = elim (in_bonds s contacts bond there) [
  | inl p ↦
      let here : is_to_moving bodies s.joints slot (joint_bond (record { slot = p.slot; generation = p.place.generation }) p.joint).id ≡ true = ap (λ (b : Bond). is_to_moving bodies s.joints slot b.id) (sym p.is) ∙ to in
      let on : is_joined_to_moving bodies slot (Some p.joint) ≡ true = ap (is_joined_to_moving bodies slot) (sym p.at_joint) ∙ here in
      ap (λ (t : Bool). t || list_any (is_touched_by_moving bodies slot) contacts) (any_joint (is_joined_to_moving bodies slot) s.joints p.slot p.joint p.at_joint on)
  | inr q ↦
      let here : is_to_moving bodies s.joints slot (contact_bond q.entry.key).id ≡ true = ap (λ (b : Bond). is_to_moving bodies s.joints slot b.id) (sym q.is) ∙ to in
      let on : is_touched_by_moving bodies slot q.entry ≡ true = ap (λ (t : Bool). cond t (is_stirred_between bodies slot q.entry.key.first.slot q.entry.key.second.slot) false) q.touching ∙ here in
      ap (λ (t : Bool). list_any (is_joined_to_moving bodies slot) s.joints || t) (any_in (is_touched_by_moving bodies slot) contacts q.entry q.there on) ∙ or_true (list_any (is_joined_to_moving bodies slot) s.joints)
]

sound : (bodies : List (Option Body)) (s : JointSlots) (contacts : List ContactEntry) (a : Acting Constraint) (slot : ℕ) → IsConsistent constraint_number a → a.ties ≡ ties_of bodies s contacts
    → list_any (ties_to_moving bodies s.joints slot) (all_members a.lists) ≡ true → is_beside_moving bodies s.joints contacts slot ≡ true
unfolding ties_of
sound bodies s contacts a slot consistent ties h =
    let p : Passes (ties_to_moving bodies s.joints slot) (all_members a.lists) = in_any (ties_to_moving bodies s.joints slot) (all_members a.lists) h in
    let listed : Contains a.ties p.of = ((consistent.acting p.of).0 (contains_from_in (all_members a.lists) p.of p.there)).0 in
    let tie : IsIn p.of (ties_of bodies s contacts) = in_from_contains (ties_of bodies s contacts) p.of (subst (λ (l : List (Member Constraint)). Contains l p.of) ties listed) in
    let from = in_map (tie_of bodies) (bonds_of s contacts) p.of tie in
    let named : p.of.id ≡ from.of.id = tie_id from.of.id (movers_with bodies from.of.a from.of.b) p.of from.gives in
    let to : is_to_moving bodies s.joints slot p.of.id ≡ true = and_both (is_none p.of.movers.second) (is_to_moving bodies s.joints slot p.of.id) p.on in
    beside_by bodies s contacts slot from.of from.there (ap (is_to_moving bodies s.joints slot) (sym named) ∙ to)

-- ---- both

same_bool : (t u : Bool) → (t ≡ true → u ≡ true) → (u ≡ true → t ≡ true) → t ≡ u
same_bool true u h k = sym (h refl)
same_bool false true h k = k refl
same_bool false false h k = refl

label_there : (o : Option Label) → awake_label o ≡ true → is_some o ≡ true
label_there None e = cc
label_there (Some l) e = refl

pub show_moving : laws.ActingShowMoving
show_moving bodies s contacts a tied matched consistent ties slot up =
    let moving : moves bodies slot ≡ true = sym (tied slot) ∙ label_there (label_at a.labels slot) up in
    same_bool (list_any (ties_to_moving bodies s.joints slot) (all_members a.lists)) (is_beside_moving bodies s.joints contacts slot)
    (sound bodies s contacts a slot consistent ties) (complete bodies s contacts a slot matched consistent ties moving up)
