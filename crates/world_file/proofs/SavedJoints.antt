-- The joints of the world that is made of what was read.
use Rattle.std.proofs.Common.{◌≡◌, ℕ, zero, suc, ◌==◌, true, false, not, List, [], ◌∷◌, length, map, Option, Some, None, is_some, refl, sym, ap, ◌∙◌, subst, arith}
use Rattle.std.specs.List.{list_all}
use Rattle.std.proofs.lemmas.Bool.Decides.{nat_tests}
use Rattle.std.proofs.lemmas.List.{length-map}
use Rattle.std.proofs.lemmas.Option.{none-some, same_Some}
use Rattle.body_handles.specs.SlotEntries.{is_live, is_live_at}
use Rattle.body_handles.specs.declared.handle.Handle.{Handle}
use Rattle.body_handles.specs.declared.slot_table.SlotEntry.{SlotEntry}
use Rattle.plain_world.specs.Joints.{AreJoints, IsBodyJoint}
use Rattle.plain_world.specs.Slots.{AreMatched, body_at, is_taken, is_taken_entry, item_at}
use Rattle.plain_world.specs.declared.body.Body.{Body}
use Rattle.plain_world.specs.declared.joint.BodyJoint.{BodyJoint}
use Rattle.world_file_base.specs.declared.saved.SavedJoint.{SavedJoint}
use Rattle.world_file.specs.Fitting.{is_joint_fitting, joint_kept}
use Rattle.world_file.proofs.ReadContacts.{IsSavedJoint}
use Rattle.world_file.proofs.ReadSlots.{AreSavedSlots, OnJoint, joint_slot_is}
use Rattle.world_file.proofs.Tests.{both_true, not_true}

kept_at : (os : List (Option SavedJoint)) (slot : ℕ) → item_at (map joint_kept os) slot ≡ joint_kept (item_at os slot)
kept_at [] slot = refl
kept_at (o ∷ os) zero = refl
kept_at (o ∷ os) (suc slot) = kept_at os slot

kept_there : (o : Option SavedJoint) → is_some (joint_kept o) ≡ is_some o
kept_there None = refl
kept_there (Some j) = refl

pub kept_matched : (slot_entries : List SlotEntry) (os : List (Option SavedJoint)) → AreMatched slot_entries os → AreMatched slot_entries (map joint_kept os)
kept_matched slot_entries os m =
    let long : length (map joint_kept os) ≡ length os = length-map os joint_kept in
    let slots = m.slots in
    let few = m.few in
    record {
      slots = omega (arith, long, slots);
      few = omega (arith, long, few);
      taken = λ slot. ap (λ (o : Option BodyJoint). is_some o) (kept_at os slot) ∙ kept_there (item_at os slot) ∙ m.taken slot;
    }

live_taken : (o : Option SlotEntry) (generation : ℕ) → is_live_at o generation ≡ true → is_taken_entry o ≡ true
live_taken None generation h = h
live_taken (Some p) generation h = (both_true p.live (p.generation == generation) h).0

fitting_at : (slot_entries : List SlotEntry) (os : List (Option SavedJoint)) (slot : ℕ) → list_all (is_joint_fitting slot_entries) os ≡ true → is_joint_fitting slot_entries (item_at os slot) ≡ true
fitting_at slot_entries [] slot h = refl
fitting_at slot_entries (o ∷ os) zero h = (both_true (is_joint_fitting slot_entries o) (list_all (is_joint_fitting slot_entries) os) h).0
fitting_at slot_entries (o ∷ os) (suc slot) h = fitting_at slot_entries os slot (both_true (is_joint_fitting slot_entries o) (list_all (is_joint_fitting slot_entries) os) h).1

body_there : (slot_entries : List SlotEntry) (bodies : List (Option Body)) (h : Handle) (slot : ℕ) → AreMatched slot_entries bodies → slot ≡ h.slot → is_live slot_entries h ≡ true → is_some (body_at bodies slot) ≡ true
body_there slot_entries bodies h slot m e live = m.taken slot ∙ ap (λ (k : ℕ). is_taken slot_entries k) e ∙ live_taken _ h.generation live

apart_by : (a b x y : ℕ) → x ≡ a → y ≡ b → (a == b) ≡ false → x ≡ y → ⊥
apart_by a b x y e f h g = grind (arith, nat_tests)

joint_is : (slot_entries : List SlotEntry) (bodies : List (Option Body)) (j : SavedJoint) → AreMatched slot_entries bodies → IsSavedJoint j → is_joint_fitting slot_entries (Some j) ≡ true → IsBodyJoint bodies j.joint
joint_is slot_entries bodies j m is h =
    let a = both_true (is_live slot_entries j.a) _ h in
    let b = both_true (is_live slot_entries j.b) (not (j.a.slot == j.b.slot)) a.1 in
    record {
      first = body_there slot_entries bodies j.a j.joint.a m is.a a.0;
      second = body_there slot_entries bodies j.b j.joint.b m is.b b.0;
      apart = apart_by j.a.slot j.b.slot j.joint.a j.joint.b is.a is.b (not_true (j.a.slot == j.b.slot) b.1);
      joint = is.joint;
    }

one_joint : (slot_entries : List SlotEntry) (bodies : List (Option Body)) (o : Option SavedJoint) (j : BodyJoint) → AreMatched slot_entries bodies → OnJoint o → is_joint_fitting slot_entries o ≡ true → joint_kept o ≡ Some j → IsBodyJoint bodies j
one_joint slot_entries bodies None j m is h e = absurd (none-some j e)
one_joint slot_entries bodies (Some s) j m is h e = subst (λ (v : BodyJoint). IsBodyJoint bodies v) (same_Some s.joint j e) (joint_is slot_entries bodies s m is h)

pub joints_are : (slot_entries : List SlotEntry) (bodies : List (Option Body)) (joint_entries : List SlotEntry) (os : List (Option SavedJoint)) → AreMatched slot_entries bodies → AreSavedSlots joint_entries os → list_all (is_joint_fitting slot_entries) os ≡ true → AreJoints bodies (map joint_kept os)
joints_are slot_entries bodies joint_entries os m are h slot j e = one_joint slot_entries bodies (item_at os slot) j m (joint_slot_is joint_entries os are slot) (fitting_at slot_entries os slot h) (sym (kept_at os slot) ∙ e)
