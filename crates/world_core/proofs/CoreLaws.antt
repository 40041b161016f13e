-- A world after each command: whole, and with all marked of which its contacts don't tell.
use Rattle.std.proofs.Common.{◌≡◌, ℕ, ◌≤◌, Bool, true, List, length, map, Option, Some, None, inl, inr, sym, ap, ◌∙◌, subst}
use Rattle.std.specs.Prelude.{slice_index_or, slice_set}
use Rattle.plain_world.specs.declared.constraint.Constraint.{Constraint}
use Rattle.contacts.specs.declared.number_book.NumberedContact.{NumberedContact}
use Rattle.contacts_base.specs.Contacts.{contacts_without, number_of}
use Rattle.contacts_base.specs.declared.contact.ContactEntry.{ContactEntry}
use Rattle.plain_world.specs.declared.body.Body.{Body}
use Rattle.plain_world.specs.declared.joint.BodyJoint.{BodyJoint}
use Rattle.plain_world.specs.Bodies.{AreBodies}
use Rattle.plain_world.specs.Changes.{changed_at, disabled_body}
use Rattle.plain_world.specs.Joints.{forbidden_pairs, idle_joints, joint_at}
use Rattle.plain_world.specs.Slots.{body_at, with_item}
use Rattle.sleep_wake.specs.Acting.{Acting}
use Rattle.solver_sets.specs.Joining.{unjoined_all}
use Rattle.world_core_base.specs.Awake.{Bodies}
use Rattle.world_core_base.specs.Sleeping.{Sleeping}
use Rattle.world_core_base.specs.Marked.{AreMarked}
use Rattle.world_core_base.specs.Asleep.{AreContactSets, AreJointSets}
use Rattle.world_core.specs.Inside.{AreKnown, IsWhole, IsWorldCore}
use Rattle.world_core.proofs.ForbiddenLaws.{HaveSamePairs, idle_pairs, joint_comes, joint_goes, joints_go, pairs_stay}
use Rattle.world_core.proofs.KnownLaws.{HaveSameKeys, IsMarkedChange, dropped_keys, gone_marked, halted_marked, known_after, known_all, known_changed, numbers_stay, pair_keys_are}
use Rattle.world_core.proofs.PartLaws.{kept_of}
use Rattle.world_rules.specs.World.{World, joints_in_slots}
use Rattle.world_rules.proofs.KeptStep.{collided_in}

-- a world that is whole again after a change of which all is marked
pub core_changed : {before held : Sleeping} {ns : List (Option NumberedContact)} (w x : World) (s t : Acting Constraint) (old new : Bodies) → IsWorldCore w s old.marks before ns held → IsWhole x t → old.bodies ≡ w.plain.bodies → new.bodies ≡ x.plain.bodies → IsMarkedChange old new w.plain.joints x.plain.joints w.plain.contacts x.plain.contacts
    → (js : Sleeping) → AreJointSets x.plain.bodies x.plain.joints js → (numbered : List (Option NumberedContact)) (cs : Sleeping) → AreContactSets x.plain.bodies numbered cs → IsWorldCore x t new.marks js numbered cs
core_changed w x s t old new core is was now change js stand numbered cs hold = record {
  whole = is;
  standing = stand;
  contacts_standing = hold;
  known = subst (λ (bs : List (Option Body)). AreKnown new.marks bs x.plain.joints x.plain.contacts) now
      (known_changed old new w.plain.joints x.plain.joints w.plain.contacts x.plain.contacts (subst AreBodies (sym was) (kept_of w s core.whole).bodies) (subst AreBodies (sym now) (kept_of x t is).bodies) (pair_keys_are x.plain.bodies x.plain.contacts is.sound.formed.there) change
      (subst (λ (bs : List (Option Body)). AreKnown old.marks bs w.plain.joints w.plain.contacts) (sym was) core.known));
}

-- the bodies alone changed
pub core_bodies : {before held : Sleeping} {ns : List (Option NumberedContact)} (w x : World) (s t : Acting Constraint) (old new : Bodies) → IsWorldCore w s old.marks before ns held → IsWhole x t → old.bodies ≡ w.plain.bodies → new.bodies ≡ x.plain.bodies → x.plain.joints ≡ w.plain.joints → x.plain.contacts ≡ w.plain.contacts → AreMarked old new
    → (js : Sleeping) → AreJointSets x.plain.bodies x.plain.joints js → (numbered : List (Option NumberedContact)) (cs : Sleeping) → AreContactSets x.plain.bodies numbered cs → IsWorldCore x t new.marks js numbered cs
core_bodies w x s t old new core is was now joints contacts marked js stand numbered cs hold =
    core_changed w x s t old new core is was now (record { bodies = marked; pairs = pairs_stay new.marks w.plain.joints x.plain.joints (ap forbidden_pairs joints); keys = numbers_stay new.marks w.plain.contacts x.plain.contacts (ap (map number_of) contacts) }) js stand numbered cs hold

-- all is marked
pub core_all : (x : World) (t : Acting Constraint) (marks : List Bool) → IsWhole x t → ((slot : ℕ) → slice_index_or marks slot true ≡ true) → (js : Sleeping) → AreJointSets x.plain.bodies x.plain.joints js → (numbered : List (Option NumberedContact)) (cs : Sleeping) → AreContactSets x.plain.bodies numbered cs → IsWorldCore x t marks js numbered cs
core_all x t marks is all js stand numbered cs hold = record { whole = is; standing = stand; contacts_standing = hold; known = known_all marks x.plain.bodies x.plain.joints x.plain.contacts (pair_keys_are x.plain.bodies x.plain.contacts is.sound.formed.there) all }

-- ---- a body that leaves

-- the joints and the contacts of the body in a slot go, which is marked
left_changed : {before held : Sleeping} {ns : List (Option NumberedContact)} (w x : World) (s : Acting Constraint) (old new : Bodies) (slot : ℕ) → IsWorldCore w s old.marks before ns held → AreMarked old new → slice_index_or new.marks slot true ≡ true → HaveSamePairs new.marks w.plain.joints x.plain.joints → x.plain.contacts ≡ contacts_without slot w.plain.contacts
    → IsMarkedChange old new w.plain.joints x.plain.joints w.plain.contacts x.plain.contacts
left_changed w x s old new slot core marked on pairs contacts = record {
  bodies = marked;
  pairs = pairs;
  keys = subst (λ (es : List ContactEntry). HaveSameKeys new.marks w.plain.contacts es) (sym contacts) (dropped_keys new.marks w.plain.contacts slot core.known.keys on);
}

pub core_destroyed : {before held : Sleeping} {ns : List (Option NumberedContact)} (w x : World) (s t : Acting Constraint) (old new : Bodies) (slot : ℕ) (b : Body) → IsWorldCore w s old.marks before ns held → IsWhole x t → old.bodies ≡ w.plain.bodies → new.bodies ≡ x.plain.bodies → body_at w.plain.bodies slot ≡ Some b → body_at new.bodies slot ≡ None → AreMarked old new
    → x.plain.joints ≡ (unjoined_all slot (joints_in_slots w.plain)).joints → x.plain.contacts ≡ contacts_without slot w.plain.contacts → (js : Sleeping) → AreJointSets x.plain.bodies x.plain.joints js → (numbered : List (Option NumberedContact)) (cs : Sleeping) → AreContactSets x.plain.bodies numbered cs → IsWorldCore x t new.marks js numbered cs
core_destroyed w x s t old new slot b core is was now at none marked joints contacts js stand numbered cs hold =
    let on : slice_index_or new.marks slot true ≡ true = gone_marked old new slot b marked (ap (λ (bs : List (Option Body)). body_at bs slot) was ∙ at) none in
    let pairs : HaveSamePairs new.marks w.plain.joints x.plain.joints = subst (λ (js : List (Option BodyJoint)). HaveSamePairs new.marks w.plain.joints js) (sym joints) (joints_go new.marks slot (joints_in_slots w.plain) on) in
    core_changed w x s t old new core is was now (left_changed w x s old new slot core marked on pairs contacts) js stand numbered cs hold

pub core_disabled : {before held : Sleeping} {ns : List (Option NumberedContact)} (w x : World) (s t : Acting Constraint) (old new : Bodies) (slot : ℕ) (b : Body) (bodies : List (Option Body)) → IsWorldCore w s old.marks before ns held → IsWhole x t → old.bodies ≡ w.plain.bodies → new.bodies ≡ x.plain.bodies → body_at w.plain.bodies slot ≡ Some b → b.enabled ≡ true
    → new.bodies ≡ changed_at disabled_body bodies slot → AreMarked old new → x.plain.joints ≡ idle_joints slot w.plain.joints → x.plain.contacts ≡ contacts_without slot w.plain.contacts → (js : Sleeping) → AreJointSets x.plain.bodies x.plain.joints js → (numbered : List (Option NumberedContact)) (cs : Sleeping) → AreContactSets x.plain.bodies numbered cs → IsWorldCore x t new.marks js numbered cs
core_disabled w x s t old new slot b bodies core is was now at on halted marked joints contacts js stand numbered cs hold =
    let there : slice_index_or new.marks slot true ≡ true = halted_marked old new slot b bodies marked (ap (λ (bs : List (Option Body)). body_at bs slot) was ∙ at) on halted in
    let pairs : HaveSamePairs new.marks w.plain.joints x.plain.joints = pairs_stay new.marks w.plain.joints x.plain.joints (ap forbidden_pairs joints ∙ idle_pairs slot w.plain.joints) in
    core_changed w x s t old new core is was now (left_changed w x s old new slot core marked there pairs contacts) js stand numbered cs hold

-- ---- a joint

pub core_joined : {before held : Sleeping} {ns : List (Option NumberedContact)} (w x : World) (s t : Acting Constraint) (old new : Bodies) (slot : ℕ) (j : BodyJoint) → IsWorldCore w s old.marks before ns held → IsWhole x t → old.bodies ≡ w.plain.bodies → new.bodies ≡ x.plain.bodies → joint_at w.plain.joints slot ≡ None → slot ≤ length w.plain.joints
    → AreMarked old new → slice_index_or new.marks j.a true ≡ true → x.plain.joints ≡ with_item w.plain.joints slot j → x.plain.contacts ≡ w.plain.contacts → (js : Sleeping) → AreJointSets x.plain.bodies x.plain.joints js → (numbered : List (Option NumberedContact)) (cs : Sleeping) → AreContactSets x.plain.bodies numbered cs → IsWorldCore x t new.marks js numbered cs
core_joined w x s t old new slot j core is was now free le marked on joints contacts js stand numbered cs hold =
    core_changed w x s t old new core is was now (record {
      bodies = marked;
      pairs = subst (λ (js : List (Option BodyJoint)). HaveSamePairs new.marks w.plain.joints js) (sym joints) (joint_comes new.marks w.plain.joints slot j free le (inl on));
      keys = numbers_stay new.marks w.plain.contacts x.plain.contacts (ap (map number_of) contacts);
    }) js stand numbered cs hold

some_joint : (o : Option BodyJoint) (i j : BodyJoint) → o ≡ Some i → o ≡ Some j → i ≡ j
some_joint None i j a b = cc
some_joint (Some k) i j a b = cc

pub core_unjoined : {before held : Sleeping} {ns : List (Option NumberedContact)} (w x : World) (s t : Acting Constraint) (old new : Bodies) (slot : ℕ) (j : BodyJoint) → IsWorldCore w s old.marks before ns held → IsWhole x t → old.bodies ≡ w.plain.bodies → new.bodies ≡ x.plain.bodies → joint_at w.plain.joints slot ≡ Some j → AreMarked old new
    → slice_index_or new.marks j.b true ≡ true → x.plain.joints ≡ slice_set w.plain.joints slot None → x.plain.contacts ≡ w.plain.contacts → (js : Sleeping) → AreJointSets x.plain.bodies x.plain.joints js → (numbered : List (Option NumberedContact)) (cs : Sleeping) → AreContactSets x.plain.bodies numbered cs → IsWorldCore x t new.marks js numbered cs
core_unjoined w x s t old new slot j core is was now at marked on joints contacts js stand numbered cs hold =
    core_changed w x s t old new core is was now (record {
      bodies = marked;
      pairs = subst (λ (js : List (Option BodyJoint)). HaveSamePairs new.marks w.plain.joints js) (sym joints)
          (joint_goes new.marks w.plain.joints slot (λ i e. inr (ap (λ (l : BodyJoint). slice_index_or new.marks l.b true) (some_joint (joint_at w.plain.joints slot) i j e at) ∙ on)));
      keys = numbers_stay new.marks w.plain.contacts x.plain.contacts (ap (map number_of) contacts);
    }) js stand numbered cs hold

-- ---- a step

-- a world after a step, whose marks were taken away after its collide
pub core_stepped : (w x : World) (s t : Acting Constraint) (cleared new : Bodies) → IsWhole w s → IsWhole x t → cleared.bodies ≡ w.plain.bodies → new.bodies ≡ x.plain.bodies → AreMarked cleared new → forbidden_pairs x.plain.joints ≡ forbidden_pairs w.plain.joints
    → map number_of x.plain.contacts ≡ map number_of (collided_in w).now → (js : Sleeping) → AreJointSets x.plain.bodies x.plain.joints js → (numbered : List (Option NumberedContact)) (cs : Sleeping) → AreContactSets x.plain.bodies numbered cs → IsWorldCore x t new.marks js numbered cs
core_stepped w x s t cleared new before is was now marked pairs numbers js stand numbered cs hold =
    let kept = kept_of w s before in record {
      whole = is;
      standing = stand;
      contacts_standing = hold;
      known = subst (λ (bs : List (Option Body)). AreKnown new.marks bs x.plain.joints x.plain.contacts) now
          (known_changed cleared new w.plain.joints x.plain.joints (collided_in w).now x.plain.contacts (subst AreBodies (sym was) kept.bodies) (subst AreBodies (sym now) (kept_of x t is).bodies) (pair_keys_are x.plain.bodies x.plain.contacts is.sound.formed.there)
          (record { bodies = marked; pairs = pairs_stay new.marks w.plain.joints x.plain.joints pairs; keys = numbers_stay new.marks (collided_in w).now x.plain.contacts numbers })
          (subst (λ (bs : List (Option Body)). AreKnown cleared.marks bs w.plain.joints (collided_in w).now) (sym was) (known_after cleared.marks w.plain.bodies w.plain.joints w.plain.contacts kept.matched.few kept.bodies)));
    }
