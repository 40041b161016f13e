-- Joints that stand in a text, and their slots.
use Rattle.std.proofs.Common.{◌≡◌, ℕ, ◌+◌, ◌<◌, ◌≤◌, ◌==◌, ◌++◌, ◌∷◌, [], Bool, false, true, not, List, Option, Some, None, codes, refl, sym, ap, ◌∙◌, arith, append-nil}
use Rattle.body_handles.specs.declared.handle.Handle.{Handle}
use Rattle.body_handles.specs.declared.slot_table.SlotEntry.{SlotEntry}
use Rattle.body_handles.specs.declared.slot_table.TheConstants.{MAX_SLOTS, WORN_OUT}
use Rattle.joint_rows.specs.declared.joint.Joint.{Joint}
use Rattle.saved_text.specs.Tokens.{in_order}
use Rattle.serde_json.specs.Data.{Data, boolean, depth, object}
use Rattle.serde_json.specs.Events.{items_len}
use Rattle.serde_json.specs.View.{items_of}
use Rattle.serde_json.specs.Written.{comma_if}
use Rattle.world_file_base.specs.Asks.{no_asks}
use Rattle.world_file_base.specs.SavedJoints.{joint_in, joint_members}
use Rattle.world_file_base.specs.SavedSlots.{joint_key, joints_in, slot_entry_in, slot_entries_in, slot_joint}
use Rattle.world_file_base.specs.AskedSlots.{joint_slot_asks, joints_asks, joint_asks}
use Rattle.world_file_base.specs.Written.{Member, id_of, integer, natural, natural_or_null, vector_of}
use Rattle.world_file_base.specs.declared.reader.Reader.{Reader}
use Rattle.world_file_base.specs.declared.saved.SavedJoint.{SavedJoint}
use Rattle.world_file_base.specs.declared.saved.SavedJoints.{SavedJoints}
use Rattle.world_file_base.specs.declared.version.Version.TheVariants.{Second}
use Rattle.loaded_text.specs.Joints.{JointSlotHolds, JointsHold}
use Rattle.loaded_text.specs.Stands.{Holds, Stands, key_text}
use Rattle.loaded_text.specs.declared.joint_slots.JointSlot.{JointSlot}
use Rattle.loaded_text.proofs.ShapeLaws.{at_most}
use Rattle.loaded_text.proofs.Joined.{member_then, no_member, object_stands}
use Rattle.loaded_text.proofs.Lists.{ItemsSoFar, added_more, asked_more, items_count, list_ends, list_shallow, none_so_far, one_more}
use Rattle.loaded_text.proofs.SlotLaws.{free_members, free_stands, entry_read}
use Rattle.world_file.proofs.BackParts.{IsJointHeld, joint_by, joint_read}

-- ---- a joint

pub joint_holds : (lead : List ℕ) (first second : Handle) (collide : Bool) (colour : Option ℕ) (j : Joint) (a b c d e f g h i k l m : List ℕ) → IsJointHeld first second colour j
    → a ≡ lead ++ b
    → b ≡ 123 ∷ c
    → Stands (key_text false (codes "a")) (id_of first) c d
    → Stands (key_text true (codes "b")) (id_of second) d e
    → Stands (key_text true (codes "collide")) (boolean collide) e f
    → Stands (key_text true (codes "colour")) (natural_or_null colour) f g
    → Stands (key_text true (codes "from")) (vector_of j.from) g h
    → Stands (key_text true (codes "impulse")) (integer j.impulse) h i
    → Stands (key_text true (codes "length")) (integer j.length) i k
    → Stands (key_text true (codes "to")) (vector_of j.to) k l
    → l ≡ 125 ∷ m
    → Holds lead (joint_in Second) (joint_asks Second) 2 (joint_by first second collide colour j) a m
joint_holds lead first second collide colour j a b c d e f g h i k l m fits before begun one two three four five six seven eight close =
    let members =
    member_then false _ (codes "a") (id_of first) _ c d l refl one
    (member_then true _ (codes "b") (id_of second) _ d e l refl two
    (member_then true _ (codes "collide") (boolean collide) _ e f l refl three
    (member_then true _ (codes "colour") (natural_or_null colour) _ f g l refl four
    (member_then true _ (codes "from") (vector_of j.from) _ g h l refl five
    (member_then true _ (codes "impulse") (integer j.impulse) _ h i l refl six
    (member_then true _ (codes "length") (integer j.length) _ i k l refl seven
    (member_then true _ (codes "to") (vector_of j.to) [] k l l refl eight (no_member true l)))))))) in
    let read = joint_read first second collide colour j fits in
    record {
      value = object (in_order (joint_members first second collide colour j));
      stands = object_stands lead (joint_members first second collide colour j) a b c l m before begun members close refl;
      shallow = joint_depth first second collide colour j;
      is = read.value;
      asks = read.asks no_asks;
    }
  where
    joint_depth : (a b : Handle) (collide : Bool) (colour : Option ℕ) (j : Joint) → depth (object (in_order (joint_members a b collide colour j))) ≤ 2
    joint_depth a b collide None j = at_most _ 2 refl
    joint_depth a b collide (Some k) j = at_most _ 2 refl

-- ---- slots

never : (g : ℕ) → false ≡ true → g < WORN_OUT
never g e = cc

pub free_holds : (generation : ℕ) (a b c d : List ℕ) → 1 ≤ generation → generation ≤ WORN_OUT → a ≡ 123 ∷ b → Stands (key_text false (codes "generation")) (natural generation) b c → c ≡ 125 ∷ d
    → JointSlotHolds (record { entry = record { generation = generation; live = false }; joint = None }) a d
free_holds generation a b c d low high begun number close =
    let v : Data = object (in_order (free_members generation)) in
    let entry = entry_read joint_key v (record { generation = generation; live = false }) refl refl refl low high (never generation) in
    record {
      value = v;
      stands = free_stands generation a b c d begun number close;
      shallow = omega arith;
      entry = entry.value;
      joint = refl;
      asks = entry.asks no_asks;
    }

abbrev taken_members : ℕ → Data → List Member
taken_members generation joint = (codes "generation", natural generation) ∷ (codes "joint", joint) ∷ []

taken_depth : (generation : ℕ) (joint : Data) → depth joint ≤ 2 → depth (object (in_order (taken_members generation joint))) ≤ 3
taken_depth generation joint low = omega (arith, low)

pub taken_holds : (joint : SavedJoint) (generation : ℕ) (a b c d e : List ℕ) → 1 ≤ generation → generation < WORN_OUT
    → a ≡ 123 ∷ b → Stands (key_text false (codes "generation")) (natural generation) b c → Holds (key_text true (codes "joint")) (joint_in Second) (joint_asks Second) 2 joint c d → d ≡ 125 ∷ e
    → JointSlotHolds (record { entry = record { generation = generation; live = true }; joint = Some joint }) a e
taken_holds joint generation a b c d e low high begun number held close =
    let v : Data = object (in_order (taken_members generation held.value)) in
    let entry = entry_read joint_key v (record { generation = generation; live = true }) refl refl refl low (omega (arith, high)) (λ live. high) in
    record {
      value = v;
      stands = object_stands [] (taken_members generation held.value) a a b d e refl begun
          (member_then false _ (codes "generation") (natural generation) _ b c d refl number (member_then true _ (codes "joint") held.value [] c d d refl held.stands (no_member true d))) close refl;
      shallow = taken_depth generation held.value held.shallow;
      entry = entry.value;
      joint = ap (λ (x : SavedJoint). Some x) held.is;
      asks = ap (λ r. joint_asks Second held.value r) (entry.asks no_asks) ∙ held.asks;
    }

-- ---- lists of slots

entries_more : (ds : List Data) (d : Data) → slot_entries_in joint_key (items_of (ds ++ (d ∷ []))) ≡ slot_entries_in joint_key (items_of ds) ++ (slot_entry_in joint_key d ∷ [])
entries_more [] d = refl
entries_more (e ∷ ds) d = ap (λ l. slot_entry_in joint_key e ∷ l) (entries_more ds d)

joints_more : (ds : List Data) (d : Data) → joints_in Second (items_of (ds ++ (d ∷ []))) ≡ joints_in Second (items_of ds) ++ (slot_joint Second d ∷ [])
joints_more [] d = refl
joints_more (e ∷ ds) d = ap (λ l. slot_joint Second e ∷ l) (joints_more ds d)

asks_more : (ds : List Data) (d : Data) (r : Reader) → joints_asks Second (items_of (ds ++ (d ∷ []))) r ≡ joint_slot_asks Second d (joints_asks Second (items_of ds) r)
asks_more [] d r = refl
asks_more (e ∷ ds) d r = asks_more ds d (joint_slot_asks Second e r)

-- so many slots
pub record JointsSoFar (n : ℕ) (old now : SavedJoints) (text rest : List ℕ) : Type 0 where
  pub items : List Data
  pub so_far : ItemsSoFar 3 n items text rest
  pub slot_entries : now.slot_entries.items ≡ old.slot_entries.items ++ slot_entries_in joint_key (items_of items)
  pub joints : now.joints.items ≡ old.joints.items ++ joints_in Second (items_of items)
  pub asks : joints_asks Second (items_of items) no_asks ≡ no_asks

pub no_joint_yet : (old : SavedJoints) (a : List ℕ) → JointsSoFar 0 old old a a
no_joint_yet old a = record { items = []; so_far = none_so_far 3 a; slot_entries = sym (append-nil old.slot_entries.items); joints = sym (append-nil old.joints.items); asks = refl }

pub joint_more : (n : ℕ) (old now next : SavedJoints) (slot : JointSlot) (a b c e : List ℕ) → JointsSoFar n old now a b → b ≡ comma_if (not (n == 0)) ++ c → JointSlotHolds slot c e
    → next.slot_entries.items ≡ now.slot_entries.items ++ (slot.entry ∷ []) → next.joints.items ≡ now.joints.items ++ (slot.joint ∷ []) → JointsSoFar (n + 1) old next a e
joint_more n old now next slot a b c e before comma h entry joint =
    let ds = before.items in
    let d = h.value in
    record {
      items = ds ++ (d ∷ []);
      so_far = one_more 3 n ds d a b c e before.so_far comma h.stands h.shallow;
      slot_entries = added_more old.slot_entries.items now.slot_entries.items next.slot_entries.items (slot_entries_in joint_key (items_of ds)) (slot_entries_in joint_key (items_of (ds ++ (d ∷ [])))) slot.entry before.slot_entries entry (entries_more ds d ∙ ap (λ (p : SlotEntry). slot_entries_in joint_key (items_of ds) ++ (p ∷ [])) h.entry);
      joints = added_more old.joints.items now.joints.items next.joints.items (joints_in Second (items_of ds)) (joints_in Second (items_of (ds ++ (d ∷ [])))) slot.joint before.joints joint (joints_more ds d ∙ ap (λ (o : Option SavedJoint). joints_in Second (items_of ds) ++ (o ∷ [])) h.joint);
      asks = asked_more (joints_asks Second (items_of ds)) (joint_slot_asks Second d) (joints_asks Second (items_of (ds ++ (d ∷ [])))) no_asks before.asks h.asks (asks_more ds d no_asks);
    }

pub joints_end : (lead : List ℕ) (n : ℕ) (old now : SavedJoints) (a b c d e : List ℕ) → n ≤ MAX_SLOTS → a ≡ lead ++ b → b ≡ 91 ∷ c → JointsSoFar n old now c d → d ≡ 93 ∷ e → JointsHold lead old now a e
joints_end lead n old now a b c d e few before begun found close =
    let size : items_len (items_of found.items) ≡ n = items_count found.items ∙ found.so_far.count in
    record {
      items = found.items;
      stands = list_ends lead 3 n found.items a b c d e before begun found.so_far close;
      shallow = list_shallow 3 n found.items c d found.so_far;
      few = omega (arith, size, few);
      slot_entries = found.slot_entries;
      joints = found.joints;
      asks = found.asks;
    }
