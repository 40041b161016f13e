-- A saved world that stands in a text is read as this world.
use Rattle.std.proofs.Common.{◌≡◌, ℕ, ◌*◌, ◌≤◌, ◌++◌, ◌∷◌, [], false, true, nat_le, List, length, Option, Some, None, codes, unsigned_abs, refl, sym, ap, ap₂, ◌∙◌, subst, arith, append-nil, le-leb}
use Rattle.std.specs.Prelude.{Result, Ok, Err, IfErr, IfOk, MatchResult, OnOk}
use Rattle.std.proofs.lemmas.Fmt.{decimal_digit}
use Rattle.body_handles.specs.declared.slot_table.SlotEntry.{SlotEntry}
use Rattle.body_handles.specs.declared.slot_table.TheConstants.{MAX_SLOTS}
use Rattle.fixed_geom.specs.Vectors.{IsWithin}
use Rattle.fixed_geom.specs.declared.vectors.Vec2.{Vec2}
use Rattle.impulse_ledger.specs.declared.totals.Total.{Total}
use Rattle.impulse_ledger.specs.declared.totals.Totals.{Totals}
use Rattle.momenta.specs.declared.limits.TheConstants.{MAX_GRAVITY}
use Rattle.plain_world.specs.Plain.{Plain}
use Rattle.plain_world.specs.declared.body.Body.{Body}
use Rattle.saved_text.specs.Tokens.{in_order}
use Rattle.serde_json.specs.Data.{Data, depth, object}
use Rattle.serde_json.specs.Events.{items_len}
use Rattle.serde_json.specs.View.{items_of}
use Rattle.serde_json.specs.Written.{compact_text}
use Rattle.world_file_base.specs.Asks.{asked, no_asks}
use Rattle.world_file_base.specs.Reading.{unsigned_in}
use Rattle.world_file_base.specs.AskedValues.{unsigned_asks, vector_within_asks}
use Rattle.world_file_base.specs.SavedContacts.{contacts_in}
use Rattle.world_file_base.specs.AskedContacts.{contacts_asks}
use Rattle.world_file_base.specs.SavedSlots.{bodies_in, body_key, joint_key, joints_in, memberships_in, slot_entries_in}
use Rattle.world_file_base.specs.AskedSlots.{bodies_asks, joints_asks, slots_asks}
use Rattle.world_file_base.specs.SavedTotals.{total_data, totals_data, totals_members}
use Rattle.world_file_base.specs.Versions.{most_slots}
use Rattle.world_file_base.specs.Written.{list_data, natural, vector_of}
use Rattle.world_file_base.specs.declared.clause.Broken.{Broken}
use Rattle.world_file_base.specs.declared.clause.Clause.TheVariants.{Limits}
use Rattle.world_file_base.specs.declared.reader.Reader.{Reader}
use Rattle.world_file_base.specs.declared.saved.Membership.{Membership}
use Rattle.world_file_base.specs.declared.version.Version.TheVariants.{Second}
use Rattle.world_file.specs.Clauses.{first_unfit}
use Rattle.world_file.proofs.FirstBroken.{found_unfit}
use Rattle.world_file_base.specs.declared.clause.Clause.{Clause}
use Rattle.world_file.specs.Files.{plain_of, world_members}
use Rattle.world_file.specs.Parts.{parts_of}
use Rattle.world_file.specs.Saved.{calls_in, most_calls, most_ticks, saved_in, slow_ticks, steps_in}
use Rattle.world_file.specs.AskedParts.{heads_asks, parts_asks, fitting_asks, IsBrokenBy}
use Rattle.world_file.specs.declared.saved_world.Saved as declared
use Rattle.world_file.proofs.BackNumbers.{asked_true, unsigned_back, within_back}
use Rattle.world_file.proofs.BackParts.{AreSmallTotals, totals_back}
use Rattle.world_file.proofs.FewLemmas.{length-memberships, length-slot_entries}
use Rattle.world_file.proofs.ReadParts.{IsSmallTotal}
use Rattle.world_file.proofs.ReadingLaws.{read_ok, refused_as}
use Rattle.loaded_text.specs.Bodies.{BodiesHold, are_timed}
use Rattle.loaded_text.specs.Contacts.{ContactsHold}
use Rattle.loaded_text.specs.Joints.{JointsHold}
use Rattle.loaded_text.specs.Stands.{Stands, key_text}
use Rattle.loaded_text.specs.Totals.{AreSmall, IsSmall}
use Rattle.loaded_text.specs.Worlds.{AreHeads, IsEmpty, IsReadOf, IsRefusedOf, IsSavedText, WorldStands}
use Rattle.loaded_text.proofs.Joined.{member_then, no_member, object_stands}
use Rattle.loaded_text.proofs.Printed.{read_printed}

-- ---- totals

small_total : (t : Total) → IsSmall t → IsSmallTotal t
small_total t h = let x = h.x in let y = h.y in record { x = omega (arith, x); y = omega (arith, y) }

small_totals : (t : Totals) → AreSmall t → AreSmallTotals t
small_totals t h = record {
  command = small_total t.command h.command;
  gravity = small_total t.gravity h.gravity;
  immovable = small_total t.immovable h.immovable;
  clamp = small_total t.clamp h.clamp;
  rest = small_total t.rest h.rest;
  departed = small_total t.departed h.departed;
}

pub totals_stand : (lead : List ℕ) (t : Totals) (a b c d e f g h i k : List ℕ)
    → a ≡ lead ++ b
    → b ≡ 123 ∷ c
    → Stands (key_text false (codes "clamp")) (total_data t.clamp) c d
    → Stands (key_text true (codes "command")) (total_data t.command) d e
    → Stands (key_text true (codes "departed")) (total_data t.departed) e f
    → Stands (key_text true (codes "gravity")) (total_data t.gravity) f g
    → Stands (key_text true (codes "immovable")) (total_data t.immovable) g h
    → Stands (key_text true (codes "rest")) (total_data t.rest) h i
    → i ≡ 125 ∷ k
    → Stands lead (totals_data t) a k
totals_stand lead t a b c d e f g h i k before begun one two three four five six close =
    object_stands lead (totals_members t) a b c i k before begun
    (member_then false _ (codes "clamp") (total_data t.clamp) _ c d i refl one
    (member_then true _ (codes "command") (total_data t.command) _ d e i refl two
    (member_then true _ (codes "departed") (total_data t.departed) _ e f i refl three
    (member_then true _ (codes "gravity") (total_data t.gravity) _ f g i refl four
    (member_then true _ (codes "immovable") (total_data t.immovable) _ g h i refl five
    (member_then true _ (codes "rest") (total_data t.rest) [] h i i refl six (no_member true i)))))))
    close refl

-- ---- a world

abbrev world_data : List Data → ℕ → List Data → Vec2 → List Data → Totals → ℕ → Data
world_data bodies calls contacts gravity joints totals steps = object (in_order (world_members (list_data bodies) calls (list_data contacts) gravity (list_data joints) totals steps))

world_depth : (bodies : List Data) (calls : ℕ) (contacts : List Data) (gravity : Vec2) (joints : List Data) (totals : Totals) (steps : ℕ) → depth (list_data bodies) ≤ 7 → depth (list_data contacts) ≤ 5 → depth (list_data joints) ≤ 4 → depth (world_data bodies calls contacts gravity joints totals steps) ≤ 8
world_depth bodies calls contacts gravity joints totals steps low also more = omega (arith, low, also, more)

-- what is known of the parts of a world
pub record AreRead (s : declared.Saved) (bodies contacts joints : List Data) : Type 0 where
  pub added : List (Option Body)
  pub slot_entries : s.bodies.slot_entries.items ≡ slot_entries_in body_key (items_of bodies)
  pub bodies_are : s.bodies.bodies.items ≡ added
  pub memberships : s.bodies.memberships.items ≡ memberships_in (items_of bodies)
  pub timed : (most : ℕ) → are_timed most added ≡ true → bodies_in most (items_of bodies) ≡ added
  pub body_asks : (most : ℕ) → are_timed most added ≡ true → bodies_asks most (items_of bodies) no_asks ≡ no_asks
  pub few : items_len (items_of bodies) ≤ MAX_SLOTS
  pub contacts_are : s.contacts.items ≡ contacts_in Second (items_of contacts)
  pub contact_asks : contacts_asks Second (items_of contacts) no_asks ≡ no_asks
  pub joint_entries : s.joints.slot_entries.items ≡ slot_entries_in joint_key (items_of joints)
  pub joints_are : s.joints.joints.items ≡ joints_in Second (items_of joints)
  pub joint_asks : joints_asks Second (items_of joints) no_asks ≡ no_asks
  pub few_joints : items_len (items_of joints) ≤ MAX_SLOTS
  pub gravity : IsWithin (unsigned_abs MAX_GRAVITY) s.gravity
  pub totals : AreSmall s.totals

calls_is : (s : declared.Saved) (bodies contacts joints : List Data) → s.calls ≤ most_calls → calls_in (world_data bodies s.calls contacts s.gravity joints s.totals s.steps) ≡ s.calls
calls_is s bodies contacts joints few = (unsigned_back most_calls s.calls few).value

steps_are : (s : declared.Saved) (bodies contacts joints : List Data) → s.calls ≤ most_calls → s.steps ≤ s.calls → steps_in (world_data bodies s.calls contacts s.gravity joints s.totals s.steps) ≡ s.steps
steps_are s bodies contacts joints few low = ap (λ (k : ℕ). unsigned_in k (Some (natural s.steps))) (calls_is s bodies contacts joints few) ∙ (unsigned_back s.calls s.steps low).value

slow_is : (s : declared.Saved) (bodies contacts joints : List Data) → AreHeads s → slow_ticks (world_data bodies s.calls contacts s.gravity joints s.totals s.steps) ≡ s.steps * most_ticks
slow_is s bodies contacts joints heads = ap (λ (k : ℕ). k * most_ticks) (steps_are s bodies contacts joints heads.calls heads.steps)

are_in_time : (s : declared.Saved) (bodies contacts joints : List Data) (h : AreRead s bodies contacts joints) → AreHeads s → are_timed (s.steps * most_ticks) h.added ≡ true
are_in_time s bodies contacts joints h heads = ap (λ (os : List (Option Body)). are_timed (s.steps * most_ticks) os) (sym h.bodies_are) ∙ heads.timed

parts_read : (s : declared.Saved) (bodies contacts joints : List Data) → AreRead s bodies contacts joints → AreHeads s → saved_in (world_data bodies s.calls contacts s.gravity joints s.totals s.steps) ≡ parts_of s
parts_read s bodies contacts joints h heads =
    let slow = slow_is s bodies contacts joints heads in
    let timed = h.timed (s.steps * most_ticks) (are_in_time s bodies contacts joints h heads) in
    let found : bodies_in (slow_ticks (world_data bodies s.calls contacts s.gravity joints s.totals s.steps)) (items_of bodies) ≡ s.bodies.bodies.items = ap (λ (k : ℕ). bodies_in k (items_of bodies)) slow ∙ timed ∙ sym h.bodies_are in
    let slot_entries = sym h.slot_entries in
    let memberships = sym h.memberships in
    let joint_entries = sym h.joint_entries in
    let joint_list = sym h.joints_are in
    let contact_list = sym h.contacts_are in
    let totals = totals_back s.totals (small_totals s.totals h.totals) in
    let gravity = within_back (unsigned_abs MAX_GRAVITY) s.gravity (omega arith) h.gravity in
    let steps = steps_are s bodies contacts joints heads.calls heads.steps in
    let calls = calls_is s bodies contacts joints heads.calls in
    λ i. record {
      slot_entries = slot_entries i;
      bodies = found i;
      memberships = memberships i;
      joint_entries = joint_entries i;
      joints = joint_list i;
      contacts = contact_list i;
      totals = totals.value i;
      gravity = gravity.value i;
      steps = steps i;
      calls = calls i;
    }

few_slots : (n : ℕ) (r : Reader) → n ≤ MAX_SLOTS → asked (nat_le n (most_slots Second)) Limits r ≡ r
few_slots n r few = asked_true (nat_le n (most_slots Second)) Limits r (le-leb n (most_slots Second) few)

heads_pass : (s : declared.Saved) (bodies contacts joints : List Data) → AreRead s bodies contacts joints → AreHeads s → heads_asks (world_data bodies s.calls contacts s.gravity joints s.totals s.steps) no_asks ≡ no_asks
heads_pass s bodies contacts joints h heads =
    let totals = totals_back s.totals (small_totals s.totals h.totals) in
    let gravity = within_back (unsigned_abs MAX_GRAVITY) s.gravity (omega arith) h.gravity in
    let calls = unsigned_back most_calls s.calls heads.calls in
    let steps = unsigned_back s.calls s.steps heads.steps in
    let before : Reader = unsigned_asks most_calls (Some (natural s.calls)) (vector_within_asks (unsigned_abs MAX_GRAVITY) (Some (vector_of s.gravity)) no_asks) in
    totals.asks _ ∙ ap (λ (k : ℕ). unsigned_asks k (Some (natural s.steps)) before) (calls_is s bodies contacts joints heads.calls) ∙ steps.asks before ∙ calls.asks _ ∙ gravity.asks no_asks

parts_pass : (s : declared.Saved) (bodies contacts joints : List Data) → AreRead s bodies contacts joints → AreHeads s → parts_asks (world_data bodies s.calls contacts s.gravity joints s.totals s.steps) no_asks ≡ no_asks
parts_pass s bodies contacts joints h heads =
    let slow = slow_is s bodies contacts joints heads in
    let first = heads_pass s bodies contacts joints h heads in
    let second = ap (λ (r : Reader). slots_asks Second (Some (list_data bodies)) r) first ∙ few_slots (items_len (items_of bodies)) no_asks h.few in
    let third = ap₂ (λ (k : ℕ) (r : Reader). bodies_asks k (items_of bodies) r) slow second ∙ h.body_asks (s.steps * most_ticks) (are_in_time s bodies contacts joints h heads) in
    let fourth = ap (λ (r : Reader). slots_asks Second (Some (list_data joints)) r) third ∙ few_slots (items_len (items_of joints)) no_asks h.few_joints in
    let fifth = ap (λ (r : Reader). joints_asks Second (items_of joints) r) fourth ∙ h.joint_asks in
    ap (λ (r : Reader). contacts_asks Second (items_of contacts) r) fifth ∙ h.contact_asks

-- ---- its text

nothing_before : {X : Type 0} (old new added : List X) → old ≡ [] → new ≡ old ++ added → new ≡ added
nothing_before old new added none is = is ∙ ap (λ l. l ++ added) none

version_stands : (a b : List ℕ) → a ≡ key_text true (codes "version") ++ (50 ∷ 125 ∷ b) → Stands (key_text true (codes "version")) (natural 2) a (125 ∷ b)
version_stands a b is = record { text_is = is ∙ ap (λ l. key_text true (codes "version") ++ (l ++ (125 ∷ b))) (sym (decimal_digit 2 (omega arith))); whole = refl }

pub world_stands : (old s : declared.Saved) (a b c d e f g h i k : List ℕ) → IsEmpty old
    → a ≡ 123 ∷ b
    → BodiesHold (key_text false (codes "bodies")) old.bodies s.bodies b c
    → Stands (key_text true (codes "call")) (natural s.calls) c d
    → ContactsHold (key_text true (codes "contacts")) old.contacts.items s.contacts.items d e
    → Stands (key_text true (codes "gravity")) (vector_of s.gravity) e f
    → IsWithin (unsigned_abs MAX_GRAVITY) s.gravity
    → JointsHold (key_text true (codes "joints")) old.joints s.joints f g
    → Stands (key_text true (codes "ledger")) (totals_data s.totals) g h
    → AreSmall s.totals
    → Stands (key_text true (codes "step")) (natural s.steps) h i
    → i ≡ key_text true (codes "version") ++ (50 ∷ 125 ∷ k)
    → WorldStands s a k
world_stands old s a b c d e f g h i k empty begun bodies call contacts gravity within joints ledger small step last =
    let bs = bodies.items in
    let cs = contacts.items in
    let js = joints.items in
    let read : AreRead s bs cs js = record {
      added = bodies.added;
      slot_entries = nothing_before old.bodies.slot_entries.items s.bodies.slot_entries.items (slot_entries_in body_key (items_of bs)) empty.slot_entries bodies.slot_entries;
      bodies_are = nothing_before old.bodies.bodies.items s.bodies.bodies.items bodies.added empty.bodies bodies.bodies;
      memberships = nothing_before old.bodies.memberships.items s.bodies.memberships.items (memberships_in (items_of bs)) empty.memberships bodies.memberships;
      timed = bodies.timed;
      body_asks = bodies.asks;
      few = bodies.few;
      contacts_are = nothing_before old.contacts.items s.contacts.items (contacts_in Second (items_of cs)) empty.contacts contacts.contacts;
      contact_asks = contacts.asks;
      joint_entries = nothing_before old.joints.slot_entries.items s.joints.slot_entries.items (slot_entries_in joint_key (items_of js)) empty.joint_entries joints.slot_entries;
      joints_are = nothing_before old.joints.joints.items s.joints.joints.items (joints_in Second (items_of js)) empty.joints joints.joints;
      joint_asks = joints.asks;
      few_joints = joints.few;
      gravity = within;
      totals = small;
    } in
    let members =
    member_then false _ (codes "bodies") (list_data bs) _ b c (125 ∷ k) refl bodies.stands
    (member_then true _ (codes "call") (natural s.calls) _ c d (125 ∷ k) refl call
    (member_then true _ (codes "contacts") (list_data cs) _ d e (125 ∷ k) refl contacts.stands
    (member_then true _ (codes "gravity") (vector_of s.gravity) _ e f (125 ∷ k) refl gravity
    (member_then true _ (codes "joints") (list_data js) _ f g (125 ∷ k) refl joints.stands
    (member_then true _ (codes "ledger") (totals_data s.totals) _ g h (125 ∷ k) refl ledger
    (member_then true _ (codes "step") (natural s.steps) _ h i (125 ∷ k) refl step
    (member_then true _ (codes "version") (natural 2) [] i (125 ∷ k) (125 ∷ k) refl (version_stands i k last) (no_member true (125 ∷ k))))))))) in
    let own : length s.bodies.memberships.items ≡ items_len (items_of bs) = ap (λ (l : List Membership). length l) read.memberships ∙ length-memberships (items_of bs) in
    let slot_entries : length s.joints.slot_entries.items ≡ items_len (items_of js) = ap (λ (l : List SlotEntry). length l) read.joint_entries ∙ length-slot_entries joint_key (items_of js) in
    let few = bodies.few in
    let few_joints = joints.few in
    record {
      value = world_data bs s.calls cs s.gravity js s.totals s.steps;
      stands = object_stands [] (world_members (list_data bs) s.calls (list_data cs) s.gravity (list_data js) s.totals s.steps) a a b (125 ∷ k) k refl begun members refl refl;
      shallow = world_depth bs s.calls cs s.gravity js s.totals s.steps bodies.shallow contacts.shallow joints.shallow;
      few = omega (arith, own, few);
      few_joints = omega (arith, slot_entries, few_joints);
      parts = λ heads. parts_read s bs cs js read heads;
      asks = λ heads. parts_pass s bs cs js read heads;
    }

pub saved_text_is : (text : List ℕ) (s : declared.Saved) → WorldStands s text [] → AreHeads s → IsSavedText text s
saved_text_is text s h heads =
    let shallow = h.shallow in
    record {
      value = h.value;
      text_is = read_printed h.value text h.stands.whole (omega (arith, shallow)) (h.stands.text_is ∙ append-nil (compact_text h.value));
      few = h.few;
      few_joints = h.few_joints;
      parts = h.parts heads;
      asks = h.asks heads;
    }

-- ---- what is answered

pub answer_is : (text : List ℕ) (s : declared.Saved) (r : Result (Plain × Totals) Broken) → IsSavedText text s → OnOk r (first_unfit (parts_of s) ≡ None) → IfOk r (λ fit. fit.0 ≡ plain_of (parts_of s)) → IfOk r (λ fit. fit.1 ≡ s.totals) → IfErr r (λ e. IsBrokenBy (first_unfit (parts_of s)) e) → MatchResult r (IsReadOf text) (IsRefusedOf text)
answer_is text s (Ok p) h keeps world totals refused =
    let all : (fitting_asks (parts_of s) (parts_asks h.value no_asks)).broken ≡ None = ap (λ (r : Reader). (fitting_asks (parts_of s) r).broken) h.asks ∙ found_unfit (parts_of s) ∙ keeps in
    record {
      value = h.value;
      text_is = h.text_is;
      is = read_ok h.value (parts_of s) (sym h.parts) all ∙ ap₂ (λ (p : Plain) (t : Totals). Ok (p, t)) (sym world) (sym totals);
    }
answer_is text s (Err e) h keeps world totals refused = record {
  value = h.value;
  text_is = h.text_is;
  is = refused_as h.value (parts_of s) no_asks e (sym h.parts) (sym h.asks) (subst (λ (o : Option Clause). IsBrokenBy o e) (sym (found_unfit (parts_of s))) refused);
}
