-- Slots of bodies and of joints are read as they are written.
use Rattle.std.proofs.Common.{◌≡◌, ℕ, suc, ◌+◌, ◌<◌, ◌≤◌, ◌||◌, Bool, true, false, not, cond, nat_lt, List, [], ◌∷◌, length, map, Option, Some, None, is_some, option_and_then, option_map, unwrap_or, codes, refl, sym, ap, ap₂, ◌∙◌, subst, arith, le-leb, lt-ltb}
use Rattle.serde_json.specs.Data.{Data}
use Rattle.serde_json.specs.Events.{items_len}
use Rattle.serde_json.specs.Find.{get}
use Rattle.serde_json.specs.View.{items_of}
use Rattle.body_handles.specs.SlotEntries.{IsSlotEntry}
use Rattle.body_handles.specs.declared.slot_table.SlotEntry.{SlotEntry}
use Rattle.body_handles.specs.declared.slot_table.TheConstants.{WORN_OUT}
use Rattle.plain_world.specs.declared.constraint.Constraint.{Constraint}
use Rattle.plain_world.specs.declared.constraint.Constraint.TheVariants.{Joint}
use Rattle.islands.specs.Labels.{Labels, label_at}
use Rattle.islands.specs.declared.label.Label.{Label}
use Rattle.plain_world.specs.Plain.{colour_of}
use Rattle.plain_world.specs.declared.body.Body.{Body}
use Rattle.plain_world.specs.declared.joint.BodyJoint.{BodyJoint}
use Rattle.world_file_base.specs.Reading.{has_keys}
use Rattle.world_file_base.specs.AskedValues.{whole_asks}
use Rattle.world_file_base.specs.Written.{natural}
use Rattle.world_file_base.specs.declared.clause.Clause.TheVariants.{Form, Generations}
use Rattle.world_file_base.specs.declared.reader.Reader.{Reader}
use Rattle.world_file_base.specs.SavedBodies.{body_in, body_data}
use Rattle.world_file_base.specs.AskedBodies.{body_asks}
use Rattle.world_file_base.specs.SavedJoints.{joint_in, joint_data}
use Rattle.world_file_base.specs.SavedSlots.{bodies_in, body_key, body_slot_of, body_slots, generation_in, generation_of_value, is_in_time, joint_key, joint_slot_of, joint_slots, joints_in, membership_or_none, memberships_in, slot_entry_in, slot_entries_in, positive, slot_keys, slot_of}
use Rattle.world_file_base.specs.AskedSlots.{bodies_asks, body_slot_asks, item_asks, joint_slot_asks, joints_asks, slot_entry_asks, joint_asks}
use Rattle.world_file_base.specs.declared.saved.Membership.{Membership}
use Rattle.world_file_base.specs.declared.saved.SavedJoint.{SavedJoint}
use Rattle.world_file_base.specs.declared.version.Version.TheVariants.{Second}
use Rattle.world_file.specs.Files.{joint_colours}
use Rattle.world_file.specs.Again.{membership_of, saved_joint, saved_joints}
use Rattle.world_file.proofs.BackBodies.{IsBodyWritten, body_back}
use Rattle.world_file.proofs.BackNumbers.{asked_true, cond_true}
use Rattle.world_file.proofs.BackParts.{IsJointWritten, joint_back}

-- ---- a slot

record HasSlotKeys (key : List ℕ) (d : Data) (generation : ℕ) (o : Option Data) : Type 0 where
  number : get (codes "generation") d ≡ Some (natural generation)
  content : get key d ≡ o
  count : has_keys (slot_keys (is_some o)) d ≡ true

body_slot_keys : (p : SlotEntry) (o : Option Data) → HasSlotKeys body_key (slot_of p body_key o) p.generation o
body_slot_keys p None = record { number = refl; content = refl; count = refl }
body_slot_keys p (Some d) = record { number = refl; content = refl; count = refl }

joint_slot_keys : (p : SlotEntry) (o : Option Data) → HasSlotKeys joint_key (slot_of p joint_key o) p.generation o
joint_slot_keys p None = record { number = refl; content = refl; count = refl }
joint_slot_keys p (Some d) = record { number = refl; content = refl; count = refl }

pub generation_by : (g : ℕ) → 1 ≤ g → g ≤ WORN_OUT → generation_of_value (Some (natural g)) ≡ Some g
generation_by g low high = ap (λ (t : Bool). option_and_then positive (cond t (Some g) None)) (le-leb g WORN_OUT high) ∙ cond_true (nat_lt 0 g) (Some g) None (lt-ltb 0 g low)

pub in_time_by : (live : Bool) (g : ℕ) → (live ≡ true → g < WORN_OUT) → (not live || nat_lt g WORN_OUT) ≡ true
in_time_by true g h = lt-ltb g WORN_OUT (h refl)
in_time_by false g h = refl

record IsSlotEntryBack (key : List ℕ) (d : Data) (p : SlotEntry) : Type 0 where
  value : slot_entry_in key d ≡ p
  asks : (r : Reader) → slot_entry_asks key d r ≡ r

slot_entry_back : (key : List ℕ) (d : Data) (p : SlotEntry) (o : Option Data) → HasSlotKeys key d p.generation o → IsSlotEntry p → p.live ≡ is_some o → IsSlotEntryBack key d p
unfolding slot_entry_in slot_entry_asks
slot_entry_back key d p o keys is live =
    let all : generation_of_value (get (codes "generation") d) ≡ Some p.generation = ap (λ (v : Option Data). generation_of_value v) keys.number ∙ generation_by p.generation is.positive is.bounded in
    let number : generation_in (get (codes "generation") d) ≡ p.generation = ap (λ (v : Option ℕ). unwrap_or v 1) all in
    let there : is_some (get key d) ≡ p.live = ap (λ (v : Option Data). is_some v) keys.content ∙ sym live in
    let value : slot_entry_in key d ≡ p = λ i. record { generation = number i; live = there i } in
    record {
      value = value;
      asks = λ r.
          asked_true (is_in_time (slot_entry_in key d)) Generations _ (ap (λ (v : SlotEntry). is_in_time v) value ∙ in_time_by p.live p.generation is.takes_back)
          ∙ asked_true (has_keys (slot_keys (is_some (get key d))) d) Form _ (ap (λ (v : Option Data). has_keys (slot_keys (is_some v)) d) keys.content ∙ keys.count)
          ∙ asked_true (is_some (generation_of_value (get (codes "generation") d))) Generations (whole_asks (get (codes "generation") d) r) (ap (λ (v : Option ℕ). is_some v) all)
          ∙ ap (λ (v : Option Data). whole_asks v r) keys.number;
    }

some_map : {X Y : Type 0} (f : X → Y) (o : Option X) → is_some o ≡ is_some (option_map f o)
some_map f None = refl
some_map f (Some x) = refl

-- ---- slots of bodies

abbrev pub OnWritten : ℕ → Option Body → Option Label → Type 0
OnWritten most None l = l ≡ None
OnWritten most (Some b) l = IsBodyWritten most b l

pub record IsSlotWritten (most : ℕ) (p : SlotEntry) (o : Option Body) (l : Option Label) : Type 0 where
  pub slot_entry : IsSlotEntry p
  pub live : p.live ≡ is_some o
  pub body : OnWritten most o l

abbrev pub AreBodiesWritten : ℕ → List SlotEntry → List (Option Body) → Labels → Type 0
AreBodiesWritten most [] [] [] = Unit {0}
AreBodiesWritten most [] [] (l ∷ ls) = ⊥
AreBodiesWritten most [] (o ∷ os) ls = ⊥
AreBodiesWritten most (p ∷ ps) [] ls = ⊥
AreBodiesWritten most (p ∷ ps) (o ∷ os) [] = ⊥
AreBodiesWritten most (p ∷ ps) (o ∷ os) (l ∷ ls) = IsSlotWritten most p o l × AreBodiesWritten most ps os ls

record IsItemBack (most : ℕ) (o : Option Body) (l : Option Label) : Type 0 where
  body : option_map (body_in most) (option_map (λ (b : Body). body_data b l) o) ≡ o
  membership : membership_or_none (option_map (λ (b : Body). body_data b l) o) ≡ membership_of l
  asks : (r : Reader) → item_asks (body_asks most) (option_map (λ (b : Body). body_data b l) o) r ≡ r

item_back : (most : ℕ) (o : Option Body) (l : Option Label) → OnWritten most o l → IsItemBack most o l
item_back most None l h = record { body = refl; membership = sym (ap (λ (v : Option Label). membership_of v) h); asks = λ r. refl }
item_back most (Some b) l h =
    let o = body_back most b l h in
    record { body = ap (λ (v : Body). Some v) o.value; membership = o.membership; asks = o.asks }

record IsSlotBack (most : ℕ) (p : SlotEntry) (o : Option Body) (l : Option Label) : Type 0 where
  slot_entry : slot_entry_in body_key (body_slot_of p o l) ≡ p
  body : option_map (body_in most) (get body_key (body_slot_of p o l)) ≡ o
  membership : membership_or_none (get body_key (body_slot_of p o l)) ≡ membership_of l
  asks : (r : Reader) → body_slot_asks most (body_slot_of p o l) r ≡ r

slot_back : (most : ℕ) (p : SlotEntry) (o : Option Body) (l : Option Label) → IsSlotWritten most p o l → IsSlotBack most p o l
slot_back most p o l h =
    let content : Option Data = option_map (λ (b : Body). body_data b l) o in
    let keys = body_slot_keys p content in
    let slot_entry = slot_entry_back body_key (body_slot_of p o l) p content keys h.slot_entry (h.live ∙ some_map (λ (b : Body). body_data b l) o) in
    let it = item_back most o l h.body in
    record {
      slot_entry = slot_entry.value;
      body = ap (λ (v : Option Data). option_map (body_in most) v) keys.content ∙ it.body;
      membership = ap (λ (v : Option Data). membership_or_none v) keys.content ∙ it.membership;
      asks = λ r. ap (λ (v : Option Data). item_asks (body_asks most) v (slot_entry_asks body_key (body_slot_of p o l) r)) keys.content ∙ it.asks _ ∙ slot_entry.asks r;
    }

pub record AreBodiesBack (most slot : ℕ) (ps : List SlotEntry) (os : List (Option Body)) (labels rest : Labels) : Type 0 where
  pub slot_entries : slot_entries_in body_key (items_of (body_slots slot ps os labels)) ≡ ps
  pub bodies : bodies_in most (items_of (body_slots slot ps os labels)) ≡ os
  pub memberships : memberships_in (items_of (body_slots slot ps os labels)) ≡ map membership_of rest
  pub asks : (r : Reader) → bodies_asks most (items_of (body_slots slot ps os labels)) r ≡ r
  pub count : items_len (items_of (body_slots slot ps os labels)) ≡ length os

pub bodies_back : (most slot : ℕ) (ps : List SlotEntry) (os : List (Option Body)) (labels rest : Labels) → AreBodiesWritten most ps os rest → ((k : ℕ) → label_at labels (slot + k) ≡ label_at rest k) → AreBodiesBack most slot ps os labels rest
bodies_back most slot [] [] labels [] are at = record { slot_entries = refl; bodies = refl; memberships = refl; asks = λ r. refl; count = refl }
bodies_back most slot [] [] labels (l ∷ ls) are at = absurd are
bodies_back most slot [] (o ∷ os) labels ls are at = absurd are
bodies_back most slot (p ∷ ps) [] labels ls are at = absurd are
bodies_back most slot (p ∷ ps) (o ∷ os) labels [] are at = absurd are
bodies_back most slot (p ∷ ps) (o ∷ os) labels (l ∷ ls) are at =
    let here : slot ≡ slot + 0 = omega arith in
    let own : label_at labels slot ≡ l = ap (λ (n : ℕ). label_at labels n) here ∙ at 0 in
    let one = slot_back most p o (label_at labels slot) (subst (λ (v : Option Label). IsSlotWritten most p o v) (sym own) are.0) in
    let rest = bodies_back most (suc slot) ps os labels ls are.1 (λ k. let next : suc slot + k ≡ slot + suc k = omega arith in ap (λ (n : ℕ). label_at labels n) next ∙ at (suc k)) in
    record {
      slot_entries = ap₂ (λ (x : SlotEntry) (xs : List SlotEntry). x ∷ xs) one.slot_entry rest.slot_entries;
      bodies = ap₂ (λ (x : Option Body) (xs : List (Option Body)). x ∷ xs) one.body rest.bodies;
      memberships = ap₂ (λ (x : Membership) (xs : List Membership). x ∷ xs) (one.membership ∙ ap (λ (v : Option Label). membership_of v) own) rest.memberships;
      asks = λ r. rest.asks (body_slot_asks most (body_slot_of p o (label_at labels slot)) r) ∙ one.asks r;
      count = ap (λ (n : ℕ). suc n) rest.count;
    }

-- ---- slots of joints

abbrev pub OnJointWritten : List SlotEntry → Option ℕ → Option BodyJoint → Type 0
OnJointWritten slot_entries colour None = Unit {0}
OnJointWritten slot_entries colour (Some j) = IsJointWritten slot_entries colour j

pub record IsJointSlotWritten (slot_entries : List SlotEntry) (own : Option ℕ) (p : SlotEntry) (o : Option BodyJoint) : Type 0 where
  pub slot_entry : IsSlotEntry p
  pub live : p.live ≡ is_some o
  pub joint : OnJointWritten slot_entries own o

abbrev own_colour : List (List Constraint) → ℕ → SlotEntry → Option ℕ
own_colour colours slot p = colour_of (Joint (record { slot = slot; generation = p.generation })) colours

abbrev pub AreJointsWritten : List SlotEntry → List (List Constraint) → ℕ → List SlotEntry → List (Option BodyJoint) → Type 0
AreJointsWritten slot_entries colours slot [] [] = Unit {0}
AreJointsWritten slot_entries colours slot [] (o ∷ os) = ⊥
AreJointsWritten slot_entries colours slot (p ∷ ps) [] = ⊥
AreJointsWritten slot_entries colours slot (p ∷ ps) (o ∷ os) = IsJointSlotWritten slot_entries (colour_of (Joint (record { slot = slot; generation = p.generation })) colours) p o × AreJointsWritten slot_entries colours (suc slot) ps os

record IsJointItemBack (slot_entries : List SlotEntry) (own : Option ℕ) (o : Option BodyJoint) : Type 0 where
  joint : option_map (joint_in Second) (option_map (λ (j : BodyJoint). joint_data slot_entries j own) o) ≡ option_map (saved_joint slot_entries own) o
  asks : (r : Reader) → item_asks (joint_asks Second) (option_map (λ (j : BodyJoint). joint_data slot_entries j own) o) r ≡ r

joint_item_back : (slot_entries : List SlotEntry) (own : Option ℕ) (o : Option BodyJoint) → OnJointWritten slot_entries own o → IsJointItemBack slot_entries own o
joint_item_back slot_entries own None h = record { joint = refl; asks = λ r. refl }
joint_item_back slot_entries own (Some j) h = let o = joint_back slot_entries own j h in record { joint = ap (λ (v : SavedJoint). Some v) o.value; asks = o.asks }

record IsJointSlotBack (slot_entries : List SlotEntry) (own : Option ℕ) (p : SlotEntry) (o : Option BodyJoint) : Type 0 where
  slot_entry : slot_entry_in joint_key (joint_slot_of slot_entries p o own) ≡ p
  joint : option_map (joint_in Second) (get joint_key (joint_slot_of slot_entries p o own)) ≡ option_map (saved_joint slot_entries own) o
  asks : (r : Reader) → joint_slot_asks Second (joint_slot_of slot_entries p o own) r ≡ r

joint_slot_back : (slot_entries : List SlotEntry) (own : Option ℕ) (p : SlotEntry) (o : Option BodyJoint) → IsJointSlotWritten slot_entries own p o → IsJointSlotBack slot_entries own p o
joint_slot_back slot_entries own p o h =
    let content : Option Data = option_map (λ (j : BodyJoint). joint_data slot_entries j own) o in
    let keys = joint_slot_keys p content in
    let slot_entry = slot_entry_back joint_key (joint_slot_of slot_entries p o own) p content keys h.slot_entry (h.live ∙ some_map (λ (j : BodyJoint). joint_data slot_entries j own) o) in
    let it = joint_item_back slot_entries own o h.joint in
    record {
      slot_entry = slot_entry.value;
      joint = ap (λ (v : Option Data). option_map (joint_in Second) v) keys.content ∙ it.joint;
      asks = λ r. ap (λ (v : Option Data). item_asks (joint_asks Second) v (slot_entry_asks joint_key (joint_slot_of slot_entries p o own) r)) keys.content ∙ it.asks _ ∙ slot_entry.asks r;
    }

pub record AreJointsBack (slot_entries : List SlotEntry) (colours : List (List Constraint)) (slot : ℕ) (ps : List SlotEntry) (os : List (Option BodyJoint)) : Type 0 where
  pub slots : slot_entries_in joint_key (items_of (joint_slots slot_entries ps os (joint_colours colours slot ps))) ≡ ps
  pub joints : joints_in Second (items_of (joint_slots slot_entries ps os (joint_colours colours slot ps))) ≡ saved_joints slot_entries colours slot ps os
  pub asks : (r : Reader) → joints_asks Second (items_of (joint_slots slot_entries ps os (joint_colours colours slot ps))) r ≡ r
  pub count : items_len (items_of (joint_slots slot_entries ps os (joint_colours colours slot ps))) ≡ length os

pub joints_back : (slot_entries : List SlotEntry) (colours : List (List Constraint)) (slot : ℕ) (ps : List SlotEntry) (os : List (Option BodyJoint)) → AreJointsWritten slot_entries colours slot ps os → AreJointsBack slot_entries colours slot ps os
joints_back slot_entries colours slot [] [] are = record { slots = refl; joints = refl; asks = λ r. refl; count = refl }
joints_back slot_entries colours slot [] (o ∷ os) are = absurd are
joints_back slot_entries colours slot (p ∷ ps) [] are = absurd are
joints_back slot_entries colours slot (p ∷ ps) (o ∷ os) are =
    let one = joint_slot_back slot_entries (own_colour colours slot p) p o are.0 in
    let rest = joints_back slot_entries colours (suc slot) ps os are.1 in
    record {
      slots = ap₂ (λ (x : SlotEntry) (xs : List SlotEntry). x ∷ xs) one.slot_entry rest.slots;
      joints = ap₂ (λ (x : Option SavedJoint) (xs : List (Option SavedJoint)). x ∷ xs) one.joint rest.joints;
      asks = λ r. rest.asks (joint_slot_asks Second (joint_slot_of slot_entries p o (own_colour colours slot p)) r) ∙ one.asks r;
      count = ap (λ (n : ℕ). suc n) rest.count;
    }
