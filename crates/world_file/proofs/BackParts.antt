-- Contacts, joints and totals are read as they are written.
use Rattle.std.proofs.Common.{◌≡◌, ℕ, ◌+◌, ◌-◌, ◌^◌, ◌<◌, ◌≤◌, ◌==◌, ◌++◌, Bool, true, false, cond, nat_le, nat_lt, List, [], ◌∷◌, map, slice_get, Option, Some, None, is_some, ℤ, pos, neg_ℤ, ◌≤ℤ◌, unsigned_abs, int_le, refl, sym, ap, ap₂, ◌∙◌, arith, le-leb, eq-eqb}
use Rattle.std.proofs.lemmas.Bool.Decides.{nat_tests}
use Rattle.std.proofs.lemmas.Int.{ints}
use Rattle.std.proofs.lemmas.Option.{none-some}
use Rattle.serde_json.specs.Events.{items_len}
use Rattle.serde_json.specs.View.{items_of}
use Rattle.body_handles.specs.declared.slot_table.SlotEntry.{SlotEntry}
use Rattle.contacts_base.proofs.Members.{Each}
use Rattle.plain_world.specs.declared.constraint.Constraint.{Constraint}
use Rattle.plain_world.specs.declared.constraint.Constraint.TheVariants.{Contact}
use Rattle.contacts_base.specs.Evaluate.{touches}
use Rattle.contacts_base.specs.declared.contact.ContactEntry.{ContactEntry}
use Rattle.contacts_base.specs.declared.contact.ContactPoint.{ContactPoint}
use Rattle.contacts_base.specs.declared.key.ShapeId.{ShapeId}
use Rattle.contacts_base.specs.declared.limits.TheConstants.{MAX_NORMAL, MAX_NORMAL_IMPULSE, MAX_OFFSET, MAX_SEPARATION, MAX_TANGENT_IMPULSE}
use Rattle.graph_colours.specs.declared.limits.TheConstants.{COLOURS, OVERFLOW}
use Rattle.impulse_ledger.specs.declared.limits.TheConstants.{MAX_TOTAL}
use Rattle.impulse_ledger.specs.declared.totals.Total.{Total}
use Rattle.impulse_ledger.specs.declared.totals.Totals.{Totals}
use Rattle.joint_rows.specs.Joints.{IsJoint}
use Rattle.joint_rows.specs.declared.joint.Joint.{Joint}
use Rattle.joint_rows.specs.declared.limits.TheConstants.{MAX_ANCHOR, MAX_JOINT_IMPULSE, MAX_JOINT_LENGTH}
use Rattle.plain_world.specs.Plain.{colour_of}
use Rattle.plain_world.specs.declared.joint.BodyJoint.{BodyJoint}
use Rattle.world_file_base.specs.Reading.{number_in, unsigned_in}
use Rattle.world_file_base.specs.AskedValues.{number_asks, unsigned_asks, colour_asks, total_asks, totals_asks}
use Rattle.world_file_base.specs.Written.{integer, natural, natural_or_null, object_of}
use Rattle.world_file_base.specs.declared.clause.Clause.TheVariants.{Colours, Limits}
use Rattle.world_file_base.specs.declared.reader.Reader.{Reader}
use Rattle.world_file_base.specs.SavedContacts.{contact_in, contact_data, contact_members, contacts_in, each_contact, each_point, last_candidate, no_points, point_in, point_data, point_or_none, shape_id_in, shape_id_of, size_in, with_points}
use Rattle.world_file_base.specs.AskedContacts.{contact_asks, contacts_asks, point_asks, points_asks, push_asks, shape_id_asks, size_asks}
use Rattle.world_file_base.specs.SavedJoints.{generation_there, handle_at, joint_in, joint_data, joint_members}
use Rattle.world_file_base.specs.AskedSlots.{joint_asks}
use Rattle.world_file_base.specs.SavedTotals as saved_totals
use Rattle.world_file_base.specs.SavedTotals.{total_data}
use Rattle.world_file_base.specs.Versions.{colour_in, colour_of_number}
use Rattle.world_file_base.specs.declared.saved.SavedContact.{SavedContact}
use Rattle.world_file_base.specs.declared.version.Version.TheVariants.{Second}
use Rattle.world_file.specs.Files.{contact_colours}
use Rattle.world_file.specs.Again.{count_of, saved_contact, saved_joint}
use Rattle.world_file.proofs.BackNumbers.{IsBack, asked_true, between_true, cond_true, decimal_back, handle_back, number_back, signed_back, unsigned_back, within_back}
use Rattle.world_file.proofs.ReadContacts.{IsColour}
use Rattle.world_file.proofs.ReadPoints.{IsPoint, OnPoint}
use Rattle.world_file.proofs.ReadParts.{IsSmallTotal}
use Rattle.serde_json.specs.Data.{Data}
use Rattle.body_handles.specs.declared.handle.Handle.{Handle}
use Rattle.world_file_base.specs.declared.saved.SavedJoint.{SavedJoint}

-- ---- colours

number_by : (k : ℕ) (t : Bool) → nat_lt k OVERFLOW ≡ t → k ≤ COLOURS → cond t (Some k) (cond (k == OVERFLOW) (Some OVERFLOW) None) ≡ Some k
number_by k true e h = refl
number_by k false e h =
    let last : k ≡ OVERFLOW = grind (arith, nat_tests) in
    cond_true (k == OVERFLOW) (Some OVERFLOW) None (eq-eqb k OVERFLOW last) ∙ ap (λ (n : ℕ). Some n) (sym last)

number_again : (k : ℕ) → k ≤ COLOURS → colour_of_number Second k ≡ Some k
number_again k h = number_by k (nat_lt k OVERFLOW) refl h

pub colour_back : (o : Option ℕ) → IsColour o → IsBack (colour_in Second) (colour_asks Second) (natural_or_null o) o
colour_back None h = record { value = refl; asks = λ r. refl }
colour_back (Some k) h =
    let few : k ≤ COLOURS = h k refl in
    let n = unsigned_back 255 k (omega (arith, few)) in
    let all : colour_of_number Second (unsigned_in 255 (Some (natural k))) ≡ Some k = ap (λ (v : ℕ). colour_of_number Second v) n.value ∙ number_again k few in
    record {
      value = all;
      asks = λ r. asked_true (is_some (colour_of_number Second (unsigned_in 255 (Some (natural k))))) Colours (unsigned_asks 255 (Some (natural k)) r) (ap (λ (o : Option ℕ). is_some o) all) ∙ n.asks r;
    }

-- ---- points

pub size_asked : (most : ℕ) (z : ℤ) → most ≤ 2 ^ 62 → unsigned_abs z ≤ most → (r : Reader) → size_asks most (Some (integer z)) r ≡ r
size_asked most z few h r =
    let o = number_back z (omega (arith, few, h)) in
    asked_true (nat_le (unsigned_abs (number_in (Some (integer z)))) most) Limits (number_asks (Some (integer z)) r) (ap (λ (v : ℤ). nat_le (unsigned_abs v) most) o.value ∙ le-leb (unsigned_abs z) most h) ∙ o.asks r

pub size_back : (most : ℕ) (z : ℤ) → most ≤ 2 ^ 62 → unsigned_abs z ≤ most → size_in most (Some (integer z)) ≡ z
size_back most z few h =
    let o = number_back z (omega (arith, few, h)) in
    ap (λ (v : ℤ). cond (nat_le (unsigned_abs v) most) v (pos 0)) o.value ∙ ap (λ (t : Bool). cond t z (pos 0)) (le-leb (unsigned_abs z) most h)

low_true : (z : ℤ) → pos 0 ≤ℤ z → int_le (pos 0) z ≡ true
low_true z h = grind (arith, ints)

pub push_asked : (z : ℤ) → pos 0 ≤ℤ z → unsigned_abs z ≤ MAX_NORMAL_IMPULSE → (r : Reader) → push_asks (Some (integer z)) r ≡ r
push_asked z low high r =
    let o = number_back z (omega (arith, high)) in
    asked_true (int_le (pos 0) (number_in (Some (integer z)))) Limits (size_asks MAX_NORMAL_IMPULSE (Some (integer z)) r) (ap (λ (v : ℤ). int_le (pos 0) v) o.value ∙ low_true z low) ∙ size_asked MAX_NORMAL_IMPULSE z (omega arith) high r

pub record IsPointBack (p : ContactPoint) : Type 0 where
  pub value : point_in (point_data p) ≡ p
  pub asks : (r : Reader) → point_asks (point_data p) r ≡ r

pub point_back : (p : ContactPoint) → IsPoint p → IsPointBack p
unfolding point_in point_data point_asks
point_back p h =
    let point = h.point in
    let separation = point.separation in
    let push = point.normal_impulse_high in
    let slip = point.tangent_impulse in
    let normal = within_back MAX_NORMAL p.normal (omega arith) point.normal in
    let first = within_back MAX_OFFSET p.ra (omega arith) point.ra in
    let second = within_back MAX_OFFSET p.rb (omega arith) point.rb in
    let apart = size_back MAX_SEPARATION p.separation (omega arith) separation in
    let along = number_back p.normal_impulse (omega (arith, push)) in
    let across = number_back p.tangent_impulse (omega (arith, slip)) in
    let candidate = unsigned_back last_candidate p.candidate h.candidate in
    record {
      value = λ i. record { normal = normal.value i; separation = apart i; ra = first.value i; rb = second.value i; normal_impulse = along.value i; tangent_impulse = across.value i; candidate = candidate.value i };
      asks = λ r. candidate.asks _ ∙ size_asked MAX_TANGENT_IMPULSE p.tangent_impulse (omega arith) slip _ ∙ push_asked p.normal_impulse point.normal_impulse_low push _ ∙ second.asks _ ∙ first.asks _ ∙ size_asked MAX_SEPARATION p.separation (omega arith) separation _ ∙ normal.asks r;
    }

record ArePointsBack (first second : Option ContactPoint) : Type 0 where
  value : with_points (items_of (point_or_none first ++ point_or_none second)) no_points ≡ record { first = first; second = second }
  asks : (r : Reader) → points_asks (items_of (point_or_none first ++ point_or_none second)) r ≡ r

points_back : (first second : Option ContactPoint) → OnPoint first → OnPoint second → (first ≡ None → second ≡ None) → ArePointsBack first second
points_back None None h k beside = record { value = refl; asks = λ r. refl }
points_back None (Some q) h k beside = absurd (none-some q (sym (beside refl)))
points_back (Some p) None h k beside =
    let a = point_back p h in
    record { value = λ i. record { first = Some (a.value i); second = None }; asks = λ r. a.asks r }
points_back (Some p) (Some q) h k beside =
    let a = point_back p h in
    let b = point_back q k in
    record { value = λ i. record { first = Some (a.value i); second = Some (b.value i) }; asks = λ r. b.asks _ ∙ a.asks r }

count_back : (first second : Option ContactPoint) → items_len (items_of (point_or_none first ++ point_or_none second)) ≡ count_of first + count_of second
count_back None None = refl
count_back None (Some q) = refl
count_back (Some p) None = refl
count_back (Some p) (Some q) = refl

-- ---- contacts

pub shape_id_back : (s : ShapeId) → s.slot < 2 ^ 32 → s.index < 256 → IsBack shape_id_in shape_id_asks (shape_id_of s) s
shape_id_back s slot index =
    let a = unsigned_back (2 ^ 32 - 1) s.slot (omega (arith, slot)) in
    let b = unsigned_back 255 s.index (omega (arith, index)) in
    record { value = λ i. record { slot = a.value i; index = b.value i }; asks = λ r. b.asks _ ∙ a.asks r }

-- what is known of a contact that is written
pub record IsContactWritten (colours : List (List Constraint)) (e : ContactEntry) : Type 0 where
  pub first_slot : e.key.first.slot < 2 ^ 32
  pub first_index : e.key.first.index < 256
  pub second_slot : e.key.second.slot < 2 ^ 32
  pub second_index : e.key.second.index < 256
  pub first : OnPoint e.contact.first
  pub second : OnPoint e.contact.second
  pub beside : e.contact.first ≡ None → e.contact.second ≡ None
  pub colour : IsColour (colour_of (Contact e.key) colours)

-- what is known of the members of a contact
pub record IsContactHeld (first second : ShapeId) (colour : Option ℕ) : Type 0 where
  pub first_slot : first.slot < 2 ^ 32
  pub first_index : first.index < 256
  pub second_slot : second.slot < 2 ^ 32
  pub second_index : second.index < 256
  pub colour_is : IsColour colour

-- whatever its points are
pub record IsContactRead (first second : ShapeId) (colour : Option ℕ) (points : List Data) (touching : Bool) : Type 0 where
  pub value : contact_in Second (object_of (contact_members first second colour points touching)) ≡ record { key = record { first = first; second = second }; touching = touching; colour = colour; contact = with_points (items_of points) no_points; points = items_len (items_of points) }
  pub asks : (r : Reader) → contact_asks Second (object_of (contact_members first second colour points touching)) r ≡ points_asks (items_of points) r

pub contact_read : (first second : ShapeId) (colour : Option ℕ) (points : List Data) (touching : Bool) → IsContactHeld first second colour → IsContactRead first second colour points touching
unfolding contact_in contact_asks
contact_read first second colour points touching h =
    let a = shape_id_back first h.first_slot h.first_index in
    let b = shape_id_back second h.second_slot h.second_index in
    let c = colour_back colour h.colour_is in
    record {
      value = λ i. record { key = record { first = a.value i; second = b.value i }; touching = touching; colour = c.value i; contact = with_points (items_of points) no_points; points = items_len (items_of points) };
      asks = λ r. ap (λ q. points_asks (items_of points) q) (c.asks _ ∙ b.asks _ ∙ a.asks r);
    }

record IsContactBack (colours : List (List Constraint)) (e : ContactEntry) : Type 0 where
  value : contact_in Second (contact_data e (colour_of (Contact e.key) colours)) ≡ saved_contact colours e
  asks : (r : Reader) → contact_asks Second (contact_data e (colour_of (Contact e.key) colours)) r ≡ r

contact_back : (colours : List (List Constraint)) (e : ContactEntry) → IsContactWritten colours e → IsContactBack colours e
unfolding contact_data
contact_back colours e h =
    let o = contact_read e.key.first e.key.second (colour_of (Contact e.key) colours) (each_point e.contact) (touches e.contact) (record { first_slot = h.first_slot; first_index = h.first_index; second_slot = h.second_slot; second_index = h.second_index; colour_is = h.colour }) in
    let points = points_back e.contact.first e.contact.second h.first h.second h.beside in
    let count = count_back e.contact.first e.contact.second in
    record {
      value = o.value ∙ (λ i. record { key = e.key; touching = touches e.contact; colour = colour_of (Contact e.key) colours; contact = points.value i; points = count i });
      asks = λ r. o.asks r ∙ points.asks r;
    }

pub record AreContactsBack (colours : List (List Constraint)) (es : List ContactEntry) : Type 0 where
  pub value : contacts_in Second (items_of (each_contact es (contact_colours colours es))) ≡ map (saved_contact colours) es
  pub asks : (r : Reader) → contacts_asks Second (items_of (each_contact es (contact_colours colours es))) r ≡ r

pub contacts_back : (colours : List (List Constraint)) (es : List ContactEntry) → Each (IsContactWritten colours) es → AreContactsBack colours es
contacts_back colours [] all = record { value = refl; asks = λ r. refl }
contacts_back colours (e ∷ es) all =
    let one = contact_back colours e all.0 in
    let rest = contacts_back colours es all.1 in
    record {
      value = ap₂ (λ (x : SavedContact) (xs : List SavedContact). x ∷ xs) one.value rest.value;
      asks = λ r. rest.asks (contact_asks Second (contact_data e (colour_of (Contact e.key) colours)) r) ∙ one.asks r;
    }

-- ---- joints

-- what is known of a joint that is written
pub record IsJointWritten (slot_entries : List SlotEntry) (own : Option ℕ) (j : BodyJoint) : Type 0 where
  pub a : j.a < 2 ^ 32
  pub a_generation : generation_there (slice_get slot_entries j.a) < 2 ^ 32
  pub b : j.b < 2 ^ 32
  pub b_generation : generation_there (slice_get slot_entries j.b) < 2 ^ 32
  pub joint : IsJoint j.joint
  pub colour : IsColour own

pub record IsJointBack (slot_entries : List SlotEntry) (colour : Option ℕ) (j : BodyJoint) : Type 0 where
  pub value : joint_in Second (joint_data slot_entries j colour) ≡ saved_joint slot_entries colour j
  pub asks : (r : Reader) → joint_asks Second (joint_data slot_entries j colour) r ≡ r

impulse_between : (z : ℤ) → unsigned_abs z ≤ 2 ^ 42 → (neg_ℤ (pos (2 ^ 42)) ≤ℤ z) × (z ≤ℤ pos (2 ^ 42))
impulse_between z h = (omega (arith, ints, h), omega (arith, ints, h))

length_most : (z : ℤ) → unsigned_abs z ≤ 2 ^ 25 → z ≤ℤ pos (2 ^ 25)
length_most z h = omega (arith, ints, h)

-- what is known of the members of a joint between bodies of these ids
pub record IsJointHeld (a b : Handle) (colour : Option ℕ) (j : Joint) : Type 0 where
  pub a_slot : a.slot < 2 ^ 32
  pub a_generation : a.generation < 2 ^ 32
  pub b_slot : b.slot < 2 ^ 32
  pub b_generation : b.generation < 2 ^ 32
  pub colour_is : IsColour colour
  pub joint : IsJoint j

abbrev pub joint_by : Handle → Handle → Bool → Option ℕ → Joint → SavedJoint
joint_by a b collide colour j = record { a = a; b = b; joint = record { a = a.slot; b = b.slot; collide = collide; joint = j }; colour = colour }

pub record IsJointRead (a b : Handle) (collide : Bool) (colour : Option ℕ) (j : Joint) : Type 0 where
  pub value : joint_in Second (object_of (joint_members a b collide colour j)) ≡ joint_by a b collide colour j
  pub asks : (r : Reader) → joint_asks Second (object_of (joint_members a b collide colour j)) r ≡ r

pub joint_read : (a b : Handle) (collide : Bool) (colour : Option ℕ) (j : Joint) → IsJointHeld a b colour j → IsJointRead a b collide colour j
unfolding joint_in joint_asks
joint_read a b collide colour j h =
    let first = handle_back a h.a_slot h.a_generation in
    let second = handle_back b h.b_slot h.b_generation in
    let c = colour_back colour h.colour_is in
    let from = within_back (unsigned_abs MAX_ANCHOR) j.from (omega arith) h.joint.from in
    let to = within_back (unsigned_abs MAX_ANCHOR) j.to (omega arith) h.joint.to in
    let size = impulse_between j.impulse h.joint.impulse in
    let impulse = signed_back (neg_ℤ MAX_JOINT_IMPULSE) MAX_JOINT_IMPULSE j.impulse (between_true (neg_ℤ MAX_JOINT_IMPULSE) MAX_JOINT_IMPULSE j.impulse size.0 size.1) in
    let long = signed_back (pos 0) MAX_JOINT_LENGTH j.length (between_true (pos 0) MAX_JOINT_LENGTH j.length h.joint.nonnegative (length_most j.length h.joint.length)) in
    record {
      value = λ i. record {
        a = first.value i;
        b = second.value i;
        joint = record {
          a = (first.value i).slot;
          b = (second.value i).slot;
          collide = collide;
          joint = record { from = from.value i; to = to.value i; length = long.value i; impulse = impulse.value i };
        };
        colour = c.value i;
      };
      asks = λ r. to.asks _ ∙ long.asks _ ∙ impulse.asks _ ∙ from.asks _ ∙ c.asks _ ∙ second.asks _ ∙ first.asks r;
    }

pub joint_back : (slot_entries : List SlotEntry) (colour : Option ℕ) (j : BodyJoint) → IsJointWritten slot_entries colour j → IsJointBack slot_entries colour j
unfolding joint_data
joint_back slot_entries colour j h =
    let o = joint_read (handle_at slot_entries j.a) (handle_at slot_entries j.b) j.collide colour j.joint (record { a_slot = h.a; a_generation = h.a_generation; b_slot = h.b; b_generation = h.b_generation; colour_is = h.colour; joint = h.joint }) in
    record { value = o.value; asks = o.asks }

-- ---- totals

total_back : (t : Total) → IsSmallTotal t → IsBack saved_totals.total_read total_asks (total_data t) t
total_back t h =
    let x = decimal_back MAX_TOTAL t.x (omega arith) h.x in
    let y = decimal_back MAX_TOTAL t.y (omega arith) h.y in
    record { value = λ i. record { x = x.value i; y = y.value i }; asks = λ r. y.asks _ ∙ x.asks r }

pub record AreSmallTotals (t : Totals) : Type 0 where
  pub command : IsSmallTotal t.command
  pub gravity : IsSmallTotal t.gravity
  pub immovable : IsSmallTotal t.immovable
  pub clamp : IsSmallTotal t.clamp
  pub rest : IsSmallTotal t.rest
  pub departed : IsSmallTotal t.departed

pub totals_back : (t : Totals) → AreSmallTotals t → IsBack saved_totals.totals_read totals_asks (saved_totals.totals_data t) t
totals_back t h =
    let command = total_back t.command h.command in
    let gravity = total_back t.gravity h.gravity in
    let immovable = total_back t.immovable h.immovable in
    let clamp = total_back t.clamp h.clamp in
    let rest = total_back t.rest h.rest in
    let departed = total_back t.departed h.departed in
    record {
      value = λ i. record { command = command.value i; gravity = gravity.value i; immovable = immovable.value i; clamp = clamp.value i; rest = rest.value i; departed = departed.value i };
      asks = λ r. departed.asks _ ∙ rest.asks _ ∙ clamp.asks _ ∙ immovable.asks _ ∙ gravity.asks _ ∙ command.asks r;
    }
