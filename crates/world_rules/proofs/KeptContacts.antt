-- The contacts and the joints stay those of bodies that are there when bodies change, come and go.
use Rattle.std.proofs.Common.{◌≡◌, ℕ, zero, suc, ◌<◌, ◌≤◌, Bool, true, false, cond, List, [], ◌∷◌, ◌++◌, length, Option, Some, None, All, inl, inr, nat_lt, arith, refl, sym, ap, ap₂, ◌∙◌, is_some, length-append}
use Rattle.std.specs.Prelude.{◌||◌, ◌≢◌, not, slice_set}
use Rattle.std.proofs.lemmas.Bool.{cases_eq}
use Rattle.std.proofs.lemmas.List.{length-set}
use Rattle.std.proofs.lemmas.List.Elements.{All-nil, All-cons, All-head, All-tail, All-weaker}
use Rattle.contacts_base.specs.declared.contact.ContactEntry.{ContactEntry}
use Rattle.contacts_base.specs.Contacts.{contacts_without, has_slot}
use Rattle.plain_world.specs.declared.body.Body.{Body}
use Rattle.plain_world.specs.declared.joint.BodyJoint.{BodyJoint}
use Rattle.plain_world.specs.Formed.{mixed_of, shape_of_body}
use Rattle.plain_world.specs.Joints.{AreJoints, IsBodyJoint}
use Rattle.plain_world.specs.Slots.{body_at, shapes_in, with_body}
use Rattle.plain_world.specs.InSlots.{HaveSameSlots}
use Rattle.solver_sets.specs.Alike.{AreAlike}
use Rattle.plain_world.specs.Bodies.{is_mover_in, moves}
use Rattle.world_core_base.specs.ContactBodies.{AreContactsOf, IsContactOf}
use Rattle.world_rules.specs.Sound.{HasBodies}
use Rattle.world_rules.proofs.ShapeLaws.{HaveSameShapes, same_shape}
use Rattle.solver_sets.proofs.SlotLemmas.{item_at-set_other}

-- ---- bodies that change

-- what moved still moves, and no slot is gone
pub record MovesMore (old new : List (Option Body)) : Type 0 where
  pub slots : length old ≤ length new
  pub more : (slot : ℕ) → moves old slot ≡ true → moves new slot ≡ true

-- the same slots, and the same of them move
pub record MovesSame (old new : List (Option Body)) : Type 0 where
  pub slots : length new ≡ length old
  pub same : (slot : ℕ) → moves new slot ≡ moves old slot

pub MovesMore-same : (old new : List (Option Body)) → MovesSame old new → MovesMore old new
MovesMore-same old new h = let s : length new ≡ length old = h.slots in record { slots = omega arith; more = λ slot m. h.same slot ∙ m }

contact_of_more : (old new : List (Option Body)) (e : ContactEntry) → MovesMore old new → IsContactOf old e → IsContactOf new e
contact_of_more old new e h is =
    let s : length old ≤ length new = h.slots in
    let a : e.key.first.slot < length old = is.first in
    let b : e.key.second.slot < length old = is.second in
    record {
      first = omega arith;
      second = omega arith;
      apart = is.apart;
      mover = elim is.mover [ inl m ↦ inl (h.more e.key.first.slot m) | inr m ↦ inr (h.more e.key.second.slot m) ];
      contact = is.contact;
    }

pub contacts_of_more : (old new : List (Option Body)) (contacts : List ContactEntry) → MovesMore old new → AreContactsOf old contacts → AreContactsOf new contacts
contacts_of_more old new contacts h all = All-weaker (IsContactOf old) (IsContactOf new) (λ e is. contact_of_more old new e h is) contacts all

pub contacts_of_same : (old new : List (Option Body)) (contacts : List ContactEntry) → MovesSame old new → AreContactsOf old contacts → AreContactsOf new contacts
contacts_of_same old new contacts h all = contacts_of_more old new contacts (MovesMore-same old new h) all

-- ---- one slot

pub moves-set_other : (bodies : List (Option Body)) (slot : ℕ) (o : Option Body) (k : ℕ) → k ≢ slot → moves (slice_set bodies slot o) k ≡ moves bodies k
moves-set_other bodies slot o k ne = ap is_mover_in (item_at-set_other bodies slot o k ne)

pub body_at-push : (bodies : List (Option Body)) (o : Option Body) (k : ℕ) → is_some (body_at bodies k) ≡ true → body_at (bodies ++ o ∷ []) k ≡ body_at bodies k
body_at-push [] o k taken = cc
body_at-push (a ∷ bs) o zero taken = refl
body_at-push (a ∷ bs) o (suc k) taken = body_at-push bs o k taken

pub moves-push : (bodies : List (Option Body)) (o : Option Body) (k : ℕ) → moves bodies k ≡ true → moves (bodies ++ o ∷ []) k ≡ true
moves-push [] o k m = cc
moves-push (a ∷ bs) o zero m = m
moves-push (a ∷ bs) o (suc k) m = moves-push bs o k m

-- ---- a body that comes

none_moves : (bodies : List (Option Body)) (slot : ℕ) → body_at bodies slot ≡ None → moves bodies slot ≡ false
none_moves bodies slot e = ap is_mover_in e

set_moves : (bodies : List (Option Body)) (slot : ℕ) (o : Option Body) → body_at bodies slot ≡ None → (k : ℕ) → moves bodies k ≡ true → moves (slice_set bodies slot o) k ≡ true
set_moves bodies slot o none k m =
    elim (cases_eq k slot) [
      | inl e ↦ let still : moves bodies slot ≡ false = none_moves bodies slot none in let moving : moves bodies slot ≡ true = rw e at m in absurd (cc)
      | inr ne ↦ (moves-set_other bodies slot o k ne ∙ m)
    ]

with_slots : (t : Bool) (bodies : List (Option Body)) (slot : ℕ) (o : Option Body) → length bodies ≤ length (cond t (slice_set bodies slot o) (bodies ++ o ∷ []))
with_slots true bodies slot o = omega (arith, length-set bodies slot o)
with_slots false bodies slot o = omega (arith, length-append bodies (o ∷ []))

with_moves : (t : Bool) (bodies : List (Option Body)) (slot : ℕ) (o : Option Body) → body_at bodies slot ≡ None → (k : ℕ) → moves bodies k ≡ true → moves (cond t (slice_set bodies slot o) (bodies ++ o ∷ [])) k ≡ true
with_moves true bodies slot o none k m = set_moves bodies slot o none k m
with_moves false bodies slot o none k m = moves-push bodies o k m

body_at-with : (t : Bool) (bodies : List (Option Body)) (slot : ℕ) (o : Option Body) (k : ℕ) → body_at bodies slot ≡ None → is_some (body_at bodies k) ≡ true → body_at (cond t (slice_set bodies slot o) (bodies ++ o ∷ [])) k ≡ body_at bodies k
body_at-with true bodies slot o k none taken =
    elim (cases_eq k slot) [
      | inl e ↦ let free : is_some (body_at bodies slot) ≡ false = ap is_some none in let here : is_some (body_at bodies slot) ≡ true = rw e at taken in absurd (cc)
      | inr ne ↦ item_at-set_other bodies slot o k ne
    ]
body_at-with false bodies slot o k none taken = body_at-push bodies o k taken

-- the bodies that were there stay as they were
pub body_at-with_body : (bodies : List (Option Body)) (slot : ℕ) (b : Body) (k : ℕ) → body_at bodies slot ≡ None → is_some (body_at bodies k) ≡ true → body_at (with_body bodies slot b) k ≡ body_at bodies k
body_at-with_body bodies slot b k none taken = body_at-with (nat_lt slot (length bodies)) bodies slot (Some b) k none taken

pub MovesMore-with_body : (bodies : List (Option Body)) (slot : ℕ) (b : Body) → body_at bodies slot ≡ None → MovesMore bodies (with_body bodies slot b)
MovesMore-with_body bodies slot b none = record {
  slots = with_slots (nat_lt slot (length bodies)) bodies slot (Some b);
  more = with_moves (nat_lt slot (length bodies)) bodies slot (Some b) none;
}

-- ---- a body that goes

kept_if : (P : ContactEntry → Type 0) (t : Bool) (e : ContactEntry) (es : List ContactEntry) → (t ≡ true → P e) → All P es → All P (cond t (e ∷ es) es)
kept_if P true e es h rest = All-cons P e es (h refl) rest
kept_if P false e es h rest = rest

-- what holds of the contacts of other bodies holds of those that stay
pub all_without : (P Q : ContactEntry → Type 0) (slot : ℕ) → ((e : ContactEntry) → not (has_slot slot e) ≡ true → P e → Q e) → (contacts : List ContactEntry) → All P contacts → All Q (contacts_without slot contacts)
all_without P Q slot f [] all = All-nil Q
all_without P Q slot f (e ∷ es) all = kept_if Q (not (has_slot slot e)) e (contacts_without slot es) (λ other. f e other (All-head P e es all)) (all_without P Q slot f es (All-tail P e es all))

-- ---- the bodies of both shapes stay there

-- a slot's body is there as before, with the same shapes that take part
pub record IsKeptIn (old new : List (Option Body)) (slot : ℕ) : Type 0 where
  pub there : is_some (body_at new slot) ≡ true
  pub shapes : shapes_in (body_at new slot) ≡ shapes_in (body_at old slot)
  pub named : (index : ℕ) → shape_of_body (body_at new slot) index ≡ shape_of_body (body_at old slot) index

kept_at : (old new : List (Option Body)) (slot : ℕ) → is_some (body_at old slot) ≡ true → body_at new slot ≡ body_at old slot → IsKeptIn old new slot
kept_at old new slot taken e = record { there = ap is_some e ∙ taken; shapes = ap shapes_in e; named = λ index. ap (λ (o : Option Body). shape_of_body o index) e }

kept_has_bodies : (old new : List (Option Body)) (e : ContactEntry) → IsKeptIn old new e.key.first.slot → IsKeptIn old new e.key.second.slot → HasBodies old e → HasBodies new e
kept_has_bodies old new e a b h = record {
  first = a.there;
  second = b.there;
  first_shape = rw a.shapes h.first_shape;
  second_shape = rw b.shapes h.second_shape;
  order = h.order;
  surface = h.surface ∙ sym (ap₂ mixed_of (a.named e.key.first.index) (b.named e.key.second.index));
  named = h.named;
  points = h.points;
}

pub has_bodies_more : (old new : List (Option Body)) (contacts : List ContactEntry) → ((slot : ℕ) → is_some (body_at old slot) ≡ true → IsKeptIn old new slot) → All (HasBodies old) contacts → All (HasBodies new) contacts
has_bodies_more old new contacts more all =
    All-weaker (HasBodies old) (HasBodies new) (λ e h. kept_has_bodies old new e (more e.key.first.slot h.first) (more e.key.second.slot h.second) h) contacts all

pub has_bodies_same : (old new : List (Option Body)) (contacts : List ContactEntry) → HaveSameSlots old new → AreAlike old new → HaveSameShapes old new → All (HasBodies old) contacts → All (HasBodies new) contacts
has_bodies_same old new contacts h alike same all =
    has_bodies_more old new contacts (λ slot taken. record { there = h.taken slot ∙ taken; shapes = h.shapes slot; named = λ index. same_shape old new alike same slot index }) all

pub has_bodies_with : (bodies : List (Option Body)) (slot : ℕ) (b : Body) (contacts : List ContactEntry) → body_at bodies slot ≡ None → All (HasBodies bodies) contacts → All (HasBodies (with_body bodies slot b)) contacts
has_bodies_with bodies slot b contacts none all = has_bodies_more bodies (with_body bodies slot b) contacts (λ k taken. kept_at bodies (with_body bodies slot b) k taken (body_at-with_body bodies slot b k none taken)) all

-- ---- the joints stay joints of bodies that are there

-- bodies in the same slots, the same of them moving
pub joints_same : (old new : List (Option Body)) (joints : List (Option BodyJoint)) → HaveSameSlots old new → AreJoints old joints → AreJoints new joints
joints_same old new joints same h slot j at =
    let is : IsBodyJoint old j = h slot j at in
    record { first = same.taken j.a ∙ is.first; second = same.taken j.b ∙ is.second; apart = is.apart; joint = is.joint }

pub joints_with : (bodies : List (Option Body)) (slot : ℕ) (b : Body) (joints : List (Option BodyJoint)) → body_at bodies slot ≡ None → AreJoints bodies joints → AreJoints (with_body bodies slot b) joints
joints_with bodies slot b joints none h k j at =
    let is : IsBodyJoint bodies j = h k j at in
    record {
      first = ap is_some (body_at-with_body bodies slot b j.a none is.first) ∙ is.first;
      second = ap is_some (body_at-with_body bodies slot b j.b none is.second) ∙ is.second;
      apart = is.apart;
      joint = is.joint;
    }

-- ---- bodies of which the same are movers

pub moves_alike : (old new : List (Option Body)) → AreAlike old new → HaveSameSlots old new → MovesSame old new
moves_alike old new alike slots = record { slots = slots.slots; same = alike.movers }
