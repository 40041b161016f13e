-- What is written of a world gives its parts again, and they fit together.
use Rattle.std.proofs.Common.{◌≡◌, ◌≢◌, ℕ, zero, suc, ◌+◌, ◌<◌, ◌==◌, ◌&&◌, ◌||◌, Bool, true, false, not, cond, nat_lt, List, [], ◌∷◌, length, map, slice_get, Option, Some, None, is_some, option_map, All, inl, inr, refl, sym, ap, ap₂, ◌∙◌, arith, eq-eqb, lt-ltb}
use Rattle.std.specs.List.{list_all}
use Rattle.std.proofs.lemmas.Bool.{false≢true}
use Rattle.std.proofs.lemmas.Bool.Decides.{nat_tests}
use Rattle.std.proofs.lemmas.List.Elements.{All-head, All-tail}
use Rattle.std.proofs.lemmas.Option.{none-some, same_Some}
use Rattle.body_handles.specs.SlotEntries.{is_live, is_live_at}
use Rattle.body_handles.specs.declared.slot_table.SlotEntry.{SlotEntry}
use Rattle.contacts_base.proofs.Members.{Each, IsIn}
use Rattle.contacts_base.proofs.Rising.{IsRising, rising_from_increasing}
use Rattle.plain_world.specs.declared.constraint.Constraint.{Constraint}
use Rattle.plain_world.specs.declared.constraint.Constraint.TheVariants.{Joint}
use Rattle.contacts_base.specs.Contacts.{AreKeysRising, number_of}
use Rattle.contacts_base.specs.Keys.{key_number}
use Rattle.contacts_base.specs.declared.contact.ContactEntry.{ContactEntry}
use Rattle.contacts_base.specs.declared.contact.ContactPoint.{ContactPoint}
use Rattle.graph_colours.proofs.MoverLemmas.{same_back}
use Rattle.islands.specs.Labels.{Labels, is_asleep, is_loose}
use Rattle.islands.specs.declared.label.IslandState.{IslandState}
use Rattle.islands.specs.declared.label.IslandState.TheVariants.{Asleep, Loose, Whole}
use Rattle.islands.specs.declared.label.Label.{Label}
use Rattle.plain_world.specs.Formed.{shape_with_id, shape_of_body}
use Rattle.plain_world.specs.Joints.{AreJoints, IsBodyJoint}
use Rattle.plain_world.specs.Kinds.{is_dynamic}
use Rattle.plain_world.specs.Plain.{colour_of}
use Rattle.plain_world.specs.Slots.{AreMatched, body_at, is_taken_entry, shapes_in}
use Rattle.plain_world.specs.declared.body.Body.{Body}
use Rattle.plain_world.specs.declared.joint.BodyJoint.{BodyJoint}
use Rattle.world_file_base.specs.SavedJoints.{generation_there, handle_at}
use Rattle.shapes.specs.declared.shape.ShapeDef.{ShapeDef}
use Rattle.plain_world.specs.Bodies.{is_mover_in}
use Rattle.world_core_base.specs.ContactBodies.{IsContactOf}
use Rattle.world_file.specs.Fitting.{are_points, are_rising_after, entry_read, is_above, is_contact_fitting, is_dynamic_body, is_joint_fitting, joint_kept, label_of}
use Rattle.world_rules.specs.Sound.{HasBodies}
use Rattle.world_file.specs.Again.{count_of, membership_of, saved_contact, saved_joint, saved_joints}

pub both_hold : (x y : Bool) → x ≡ true → y ≡ true → (x && y) ≡ true
both_hold true y e h = h
both_hold false y e h = absurd (false≢true e)

pub each_from_all : {X : Type 0} (P : X → Type 0) (xs : List X) → All P xs → Each P xs
each_from_all P [] all = tt
each_from_all P (x ∷ xs) all = (All-head P x xs all, each_from_all P xs (All-tail P x xs all))

pub each_pass : {X : Type 0} (p : X → Bool) (xs : List X) → ((x : X) → IsIn x xs → p x ≡ true) → list_all p xs ≡ true
each_pass p [] h = refl
each_pass p (x ∷ xs) h = both_hold (p x) (list_all p xs) (h x (inl refl)) (each_pass p xs (λ y i. h y (inr i)))

-- ---- the parts again

joint_again : (slot_entries : List SlotEntry) (colour : Option ℕ) (o : Option BodyJoint) → joint_kept (option_map (saved_joint slot_entries colour) o) ≡ o
joint_again slot_entries colour None = refl
joint_again slot_entries colour (Some j) = refl

pub joints_again : (slot_entries : List SlotEntry) (colours : List (List Constraint)) (slot : ℕ) (ps : List SlotEntry) (js : List (Option BodyJoint)) → length ps ≡ length js → map joint_kept (saved_joints slot_entries colours slot ps js) ≡ js
joints_again slot_entries colours slot [] [] e = refl
joints_again slot_entries colours slot [] (o ∷ js) e = absurd (omega arith)
joints_again slot_entries colours slot (p ∷ ps) [] e = absurd (omega arith)
joints_again slot_entries colours slot (p ∷ ps) (o ∷ js) e =
    ap₂ (λ (x : Option BodyJoint) (xs : List (Option BodyJoint)). x ∷ xs) (joint_again slot_entries (colour_of (Joint (record { slot = slot; generation = p.generation })) colours) o) (joints_again slot_entries colours (suc slot) ps js (omega arith))

state_again : (state : IslandState) → cond (is_asleep state) Asleep (cond (is_loose state) Loose Whole) ≡ state
state_again Whole = refl
state_again Loose = refl
state_again Asleep = refl

pub label_again : (o : Option Label) → label_of (membership_of o) ≡ o
label_again None = refl
label_again (Some l) = ap (λ (state : IslandState). Some (record { name = l.name; state = state })) (state_again l.state)

pub labels_again : (labels : Labels) → map label_of (map membership_of labels) ≡ labels
labels_again [] = refl
labels_again (o ∷ labels) = ap₂ (λ (x : Option Label) (xs : Labels). x ∷ xs) (label_again o) (labels_again labels)

pub contacts_again : (bodies : List (Option Body)) (colours : List (List Constraint)) (es : List ContactEntry) → Each (HasBodies bodies) es → map (entry_read bodies) (map (saved_contact colours) es) ≡ es
contacts_again bodies colours [] all = refl
contacts_again bodies colours (e ∷ es) all =
    ap₂ (λ (x : ContactEntry) (xs : List ContactEntry). x ∷ xs) (λ i. record { key = e.key; surface = sym all.0.surface i; contact = e.contact }) (contacts_again bodies colours es all.1)

-- ---- joints fit

live_again : (o : Option SlotEntry) → is_taken_entry o ≡ true → is_live_at o (generation_there o) ≡ true
live_again None h = h
live_again (Some p) h = both_hold p.live (p.generation == p.generation) h (eq-eqb p.generation p.generation refl)

id_live : (slot_entries : List SlotEntry) (bodies : List (Option Body)) (slot : ℕ) → AreMatched slot_entries bodies → is_some (body_at bodies slot) ≡ true → is_live slot_entries (handle_at slot_entries slot) ≡ true
id_live slot_entries bodies slot m h = live_again (slice_get slot_entries slot) (sym (m.taken slot) ∙ h)

not_same : (a b : ℕ) → a ≢ b → not (a == b) ≡ true
not_same a b h = grind (arith, nat_tests)

joint_fits : (slot_entries : List SlotEntry) (bodies : List (Option Body)) (colour : Option ℕ) (j : BodyJoint) → AreMatched slot_entries bodies → IsBodyJoint bodies j → is_joint_fitting slot_entries (Some (saved_joint slot_entries colour j)) ≡ true
joint_fits slot_entries bodies colour j m h =
    both_hold (is_live slot_entries (handle_at slot_entries j.a)) (is_live slot_entries (handle_at slot_entries j.b) && not (j.a == j.b)) (id_live slot_entries bodies j.a m h.first)
    (both_hold (is_live slot_entries (handle_at slot_entries j.b)) (not (j.a == j.b)) (id_live slot_entries bodies j.b m h.second) (not_same j.a j.b h.apart))

slot_fits : (slot_entries : List SlotEntry) (bodies : List (Option Body)) (colour : Option ℕ) (o : Option BodyJoint) → AreMatched slot_entries bodies → ((j : BodyJoint) → o ≡ Some j → IsBodyJoint bodies j) → is_joint_fitting slot_entries (option_map (saved_joint slot_entries colour) o) ≡ true
slot_fits slot_entries bodies colour None m h = refl
slot_fits slot_entries bodies colour (Some j) m h = joint_fits slot_entries bodies colour j m (h j refl)

pub joints_fit : (slot_entries : List SlotEntry) (bodies : List (Option Body)) (colours : List (List Constraint)) (slot : ℕ) (ps : List SlotEntry) (js : List (Option BodyJoint)) → AreMatched slot_entries bodies → AreJoints bodies js → list_all (is_joint_fitting slot_entries) (saved_joints slot_entries colours slot ps js) ≡ true
joints_fit slot_entries bodies colours slot [] js m are = refl
joints_fit slot_entries bodies colours slot (p ∷ ps) [] m are = refl
joints_fit slot_entries bodies colours slot (p ∷ ps) (o ∷ js) m are =
    let colour : Option ℕ = colour_of (Joint (record { slot = slot; generation = p.generation })) colours in
    both_hold (is_joint_fitting slot_entries (option_map (saved_joint slot_entries colour) o)) (list_all (is_joint_fitting slot_entries) (saved_joints slot_entries colours (suc slot) ps js))
    (slot_fits slot_entries bodies colour o m (λ j e. are 0 j e)) (joints_fit slot_entries bodies colours (suc slot) ps js m (λ k j e. are (suc k) j e))

-- ---- contacts fit

some_there : {X : Type 0} (xs : List X) (k : ℕ) → k < length xs → is_some (slice_get xs k) ≡ true
some_there [] k h = absurd (omega arith)
some_there (x ∷ xs) zero h = refl
some_there (x ∷ xs) (suc k) h = some_there xs k (omega arith)

shape_by : (t : Bool) (shapes : List ShapeDef) (index : ℕ) → index < cond t (length shapes) 0 → is_some (cond t (slice_get shapes index) None) ≡ true
shape_by true shapes index h = some_there shapes index h
shape_by false shapes index h = absurd (omega arith)

shape_there : (o : Option Body) (index : ℕ) → index < shapes_in o → is_some (shape_of_body o index) ≡ true
shape_there None index h = absurd (omega arith)
shape_there (Some b) index h = shape_by b.enabled b.shapes index h

dynamic_by : (t u : Bool) → cond t u false ≡ true → u ≡ true
dynamic_by true u h = h
dynamic_by false u h = absurd (false≢true h)

dynamic_there : (o : Option Body) → is_mover_in o ≡ true → is_dynamic_body o ≡ true
dynamic_there None h = h
dynamic_there (Some b) h = dynamic_by b.enabled (is_dynamic b.kind) h

pub either_holds : (x y : Bool) → x ≡ true → (x || y) ≡ true
either_holds true y h = refl
either_holds false y h = absurd (false≢true h)

pub second_holds : (x y : Bool) → y ≡ true → (x || y) ≡ true
second_holds true y h = refl
second_holds false y h = h

points_by : (first second : Option ContactPoint) → ((q : ContactPoint) → second ≡ Some q → (p : ContactPoint) × (first ≡ Some p) × ((q.candidate == p.candidate) ≡ false))
    → cond (is_some first) (are_points first second (count_of first + count_of second)) ((count_of first + count_of second) == 0) ≡ true
points_by None None h = refl
points_by None (Some q) h = absurd (none-some (h q refl).0 (h q refl).1)
points_by (Some p) None h = refl
points_by (Some p) (Some q) h =
    let o = h q refl in
    let same : p ≡ o.0 = same_Some p o.0 o.1 in
    ap (λ (b : Bool). not b) (same_back p.candidate q.candidate ∙ ap (λ (x : ContactPoint). q.candidate == x.candidate) same ∙ o.2)

contact_fits : (bodies : List (Option Body)) (colours : List (List Constraint)) (e : ContactEntry) → IsContactOf bodies e → HasBodies bodies e → is_contact_fitting bodies (saved_contact colours e) ≡ true
contact_fits bodies colours e of has =
    both_hold (is_some (shape_with_id bodies e.key.first)) _ (shape_there (body_at bodies e.key.first.slot) e.key.first.index has.first_shape)
    (both_hold (is_some (shape_with_id bodies e.key.second)) _ (shape_there (body_at bodies e.key.second.slot) e.key.second.index has.second_shape)
    (both_hold (nat_lt e.key.first.slot e.key.second.slot) _ (lt-ltb e.key.first.slot e.key.second.slot has.order)
    (both_hold (is_dynamic_body (body_at bodies e.key.first.slot) || is_dynamic_body (body_at bodies e.key.second.slot)) _
    (elim of.mover [
      | inl m ↦ either_holds (is_dynamic_body (body_at bodies e.key.first.slot)) (is_dynamic_body (body_at bodies e.key.second.slot)) (dynamic_there (body_at bodies e.key.first.slot) m)
      | inr m ↦ second_holds (is_dynamic_body (body_at bodies e.key.first.slot)) (is_dynamic_body (body_at bodies e.key.second.slot)) (dynamic_there (body_at bodies e.key.second.slot) m)
    ])
    (points_by e.contact.first e.contact.second has.points.beside))))

pub contacts_fit : (bodies : List (Option Body)) (colours : List (List Constraint)) (es : List ContactEntry) → Each (IsContactOf bodies) es → Each (HasBodies bodies) es → list_all (is_contact_fitting bodies) (map (saved_contact colours) es) ≡ true
contacts_fit bodies colours [] of has = refl
contacts_fit bodies colours (e ∷ es) of has =
    both_hold (is_contact_fitting bodies (saved_contact colours e)) (list_all (is_contact_fitting bodies) (map (saved_contact colours) es)) (contact_fits bodies colours e of.0 has.0) (contacts_fit bodies colours es of.1 has.1)

-- ---- their keys ascend

abbrev IsAbove : Option ℕ → List ContactEntry → Type 0
IsAbove last es = Each (λ n. is_above last n ≡ true) (map number_of es)

all_above : (n : ℕ) (ns : List ℕ) → Each (λ m. n < m) ns → Each (λ m. nat_lt n m ≡ true) ns
all_above n [] all = tt
all_above n (m ∷ ns) all = (lt-ltb n m all.0, all_above n ns all.1)

rising_by : (colours : List (List Constraint)) (last : Option ℕ) (es : List ContactEntry) → IsAbove last es → IsRising (map number_of es) → are_rising_after last (map (saved_contact colours) es) ≡ true
rising_by colours last [] above rising = refl
rising_by colours last (e ∷ es) above rising =
    ap (λ (b : Bool). cond b (are_rising_after (Some (key_number e.key)) (map (saved_contact colours) es)) false) above.0
    ∙ rising_by colours (Some (key_number e.key)) es (all_above (key_number e.key) (map number_of es) rising.0) rising.1

none_above : (es : List ContactEntry) → IsAbove None es
none_above [] = tt
none_above (e ∷ es) = (refl, none_above es)

pub keys_rise : (colours : List (List Constraint)) (es : List ContactEntry) → AreKeysRising es → are_rising_after None (map (saved_contact colours) es) ≡ true
keys_rise colours es rising = rising_by colours None es (none_above es) (rising_from_increasing (map number_of es) rising)
